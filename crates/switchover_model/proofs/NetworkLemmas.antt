-- The network of octets and an exchange of statuses go together, line by line.
use Rattle.std.proofs.Common.{◌≡◌, ◌<◌, ◌^◌, ◌==◌, ◌&&◌, ◌++◌, ◌∙◌, ◌⊎◌, ℕ, Bool, true, false, List, [], Option, Some, None, option_map, if◌then◌else◌, refl, sym, ap, subst, arith, append-nil, ⊎_elim}
use Rattle.std.proofs.lemmas.Bool.Decides.{nat_tests}
use Rattle.std.proofs.lemmas.Bool.{eqb-true}
use Rattle.net_values.proofs.BoolLemmas.{true_clash}
use Rattle.net_values.proofs.NumberLemmas.{same_number as self, apart_back}
use Rattle.net_base.specs.declared.outside.link_call.LinkCall.{LinkCall}
use Rattle.net_base.specs.declared.plan.Plan.{Plan}
use Rattle.status_exchange.specs.Exchange.{Exchange}
use Rattle.status_exchange.proofs.StatusLemmas.{AllTold}
use Rattle.independent_model.specs.Wires.{is_between}
use Rattle.switchover_model.specs.Network.{SwitchState, absorbs, switch_flight, octets_held_by, held_with, put_to}
use Rattle.independent_model.specs.State.{ConnectionState, Stopped, Receiver, IndepState, Receiving, Broken, id_next, statuses_of}
use Rattle.independent_model.specs.Work.{Goes}
use Rattle.switchover_model.proofs.DoesLemmas.{receiver_part}
use Rattle.switchover_model.proofs.FlightLemmas.{AreTold, octets_told}

-- ---- what an edge hears a peer with

abbrev pub IsOpen : Receiver → Type 0
IsOpen (Receiving base held) = Unit {0}
IsOpen (Broken base wrong) = ⊥
IsOpen Stopped = ⊥

abbrev pub AreOpen : Option Receiver → Type 0
AreOpen None = Unit {0}
AreOpen (Some receiver) = IsOpen receiver

abbrev pub held_in : Option Receiver → List ℕ
held_in None = []
held_in (Some receiver) = held_with receiver

pub held_is : (o : Option ConnectionState) → octets_held_by o ≡ held_in (option_map receiver_part o)
held_is None = refl
held_is (Some kept) = refl

pub same_held : (o p : Option ConnectionState) → option_map receiver_part o ≡ option_map receiver_part p → octets_held_by o ≡ octets_held_by p
same_held o p same = held_is o ∙ (ap held_in same ∙ sym (held_is p))

-- ---- a network and an exchange

pub record Matches (plan : Plan) (x : SwitchState) (y : Exchange) : Type 0 where
  pub edges : (k : ℕ) → statuses_of (x.edges k) ≡ y.edges k
  pub octets : (a b : ℕ) → switch_flight x a b ≡ octets_told plan a (y.ways a b)
  pub open_all : (a b : ℕ) → AreOpen (option_map receiver_part ((x.edges a).connection b))
  pub small : (k p id : ℕ) → option_map id_next ((x.edges k).connection p) ≡ Some id → id < 2 ^ 32
  pub told : (a b : ℕ) → AreTold plan (y.ways a b)
  pub came : (a b : ℕ) → x.came a b ≡ octets_told plan a (y.heard a b) ++ octets_held_by ((x.edges b).connection a)
  pub past : (a b : ℕ) → AreTold plan (y.heard a b) × AllTold (λ k. is_between plan k a b) (y.heard a b)

abbrev pub is_pair : ℕ → ℕ → ℕ → ℕ → Bool
is_pair a b c d = a == c && b == d

-- What an edge's work for a peer makes of the network, where `x` is the network with its octets taken out, and `y` is the exchange
-- afterwards.
pub record IsDone (plan : Plan) (me peer : ℕ) (x : SwitchState) (edge : IndepState) (calls : List LinkCall) (y : Exchange) : Type 0 where
  pub here : statuses_of edge ≡ y.edges me
  pub edges : (k : ℕ) → (k == me) ≡ false → statuses_of (x.edges k) ≡ y.edges k
  pub comes : octets_held_by (edge.connection peer) ++ x.pipes peer me ≡ octets_told plan peer (y.ways peer me)
  pub goes : octets_held_by ((x.edges peer).connection me) ++ (x.pipes me peer ++ put_to peer calls) ≡ octets_told plan me (y.ways me peer)
  pub others : (a b : ℕ) → is_pair a b me peer ≡ false → is_pair a b peer me ≡ false → switch_flight x a b ≡ octets_told plan a (y.ways a b)
  pub silent : (b : ℕ) → (b == peer) ≡ false → put_to b calls ≡ []
  pub receivers : (b : ℕ) → (b == peer) ≡ false → option_map receiver_part (edge.connection b) ≡ option_map receiver_part ((x.edges me).connection b)
  pub open_here : AreOpen (option_map receiver_part (edge.connection peer))
  pub open_all : (a b : ℕ) → AreOpen (option_map receiver_part ((x.edges a).connection b)) ⊎ (is_pair a b me peer ≡ true)
  pub small_here : (p id : ℕ) → option_map id_next (edge.connection p) ≡ Some id → id < 2 ^ 32
  pub small : (k p id : ℕ) → option_map id_next ((x.edges k).connection p) ≡ Some id → id < 2 ^ 32
  pub told : (a b : ℕ) → AreTold plan (y.ways a b)
  pub came_here : x.came peer me ≡ octets_told plan peer (y.heard peer me) ++ octets_held_by (edge.connection peer)
  pub came : (a b : ℕ) → is_pair a b peer me ≡ false → x.came a b ≡ octets_told plan a (y.heard a b) ++ octets_held_by ((x.edges b).connection a)
  pub past : (a b : ℕ) → AreTold plan (y.heard a b) × AllTold (λ k. is_between plan k a b) (y.heard a b)

module _ (plan : Plan) (me peer : ℕ) (x : SwitchState) (edge : IndepState) (calls : List LinkCall) (y : Exchange) (apart : (me == peer) ≡ false) (d : IsDone plan me peer x edge calls y) where
  abbrev after : SwitchState
  after = absorbs me (Goes edge calls) x

  back_apart : (peer == me) ≡ false
  back_apart = apart_back me peer apart

  edge_at : (k : ℕ) (b : Bool) → (k == me) ≡ b → statuses_of (if b then edge else x.edges k) ≡ y.edges k
  edge_at k true is = d.here ∙ ap y.edges (sym (eqb-true k me is))
  edge_at k false is = d.edges k is

  -- what is held of another edge than the peer, or at another edge
  held_other : (a b : ℕ) (t : Bool) → (b == me) ≡ t → is_pair a b peer me ≡ false → octets_held_by ((if t then edge else x.edges b).connection a) ≡ octets_held_by ((x.edges b).connection a)
  held_other a b true is away = same_held (edge.connection a) ((x.edges b).connection a)
      (d.receivers a (grind (arith, away, is)) ∙ ap (λ (n : ℕ). option_map receiver_part ((x.edges n).connection a)) (sym (eqb-true b me is)))
  held_other a b false is away = refl

  -- what is on its way
  pipe_other : (a b : ℕ) (t : Bool) → (a == me) ≡ t → is_pair a b me peer ≡ false → (if t then x.pipes a b ++ put_to b calls else x.pipes a b) ≡ x.pipes a b
  pipe_other a b true is away = ap (λ (l : List ℕ). x.pipes a b ++ l) (d.silent b (grind (arith, away, is))) ∙ append-nil (x.pipes a b)
  pipe_other a b false is away = refl

  two_are : (a b c e : ℕ) → is_pair a b c e ≡ true → (a ≡ c) × (b ≡ e)
  two_are a b c e is = (grind (arith, nat_tests, is), grind (arith, nat_tests, is))

  octets_at : (a b : ℕ) (s t : Bool) → is_pair a b peer me ≡ s → is_pair a b me peer ≡ t → switch_flight after a b ≡ octets_told plan a (y.ways a b)
  octets_at a b true t is to =
      let them = two_are a b peer me is in
      rw (them.0, them.1, self me, back_apart) d.comes
  octets_at a b false true is to =
      let them = two_are a b me peer to in
      rw (them.0, them.1, self me, back_apart) d.goes
  octets_at a b false false is to =
      ap (λ (l : List ℕ). l ++ after.pipes a b) (held_other a b (b == me) refl is)
      ∙ (ap (λ (l : List ℕ). octets_held_by ((x.edges b).connection a) ++ l) (pipe_other a b (a == me) refl to) ∙ d.others a b to is)

  open_at : (a b : ℕ) (t : Bool) → (a == me) ≡ t → AreOpen (option_map receiver_part ((if t then edge else x.edges a).connection b))
  open_at a b true is = by (b == peer) refl
    where
      by : (s : Bool) → (b == peer) ≡ s → AreOpen (option_map receiver_part (edge.connection b))
      by true e = subst (λ (n : ℕ). AreOpen (option_map receiver_part (edge.connection n))) (sym (eqb-true b peer e)) d.open_here
      by false e = ⊎_elim
          (λ (o : AreOpen (option_map receiver_part ((x.edges me).connection b))). subst AreOpen (sym (d.receivers b e)) o)
          (λ (p : is_pair me b me peer ≡ true). true_clash (sym (two_test p) ∙ e)) (d.open_all me b)
        where
          two_test : is_pair me b me peer ≡ true → (b == peer) ≡ true
          two_test p = grind (arith, p)
  open_at a b false is = ⊎_elim (λ (o : AreOpen (option_map receiver_part ((x.edges a).connection b))). o) (λ (p : is_pair a b me peer ≡ true). true_clash (sym (one_test p) ∙ is)) (d.open_all a b)
    where
      one_test : is_pair a b me peer ≡ true → (a == me) ≡ true
      one_test p = grind (arith, p)

  small_at : (k p id : ℕ) (t : Bool) → (k == me) ≡ t → option_map id_next ((if t then edge else x.edges k).connection p) ≡ Some id → id < 2 ^ 32
  small_at k p id true is e = d.small_here p id e
  small_at k p id false is e = d.small k p id e

  came_at : (a b : ℕ) (s : Bool) → is_pair a b peer me ≡ s → x.came a b ≡ octets_told plan a (y.heard a b) ++ octets_held_by ((after.edges b).connection a)
  came_at a b true is =
      let them = two_are a b peer me is in
      rw (them.0, them.1, self me) d.came_here
  came_at a b false is = d.came a b is ∙ ap (λ (l : List ℕ). octets_told plan a (y.heard a b) ++ l) (sym (held_other a b (b == me) refl is))

  pub done_matches : Matches plan after y
  done_matches = record {
    edges = λ k. edge_at k (k == me) refl;
    octets = λ a b. octets_at a b (is_pair a b peer me) (is_pair a b me peer) refl refl;
    open_all = λ a b. open_at a b (a == me) refl;
    small = λ k p id. small_at k p id (k == me) refl;
    told = d.told;
    came = λ a b. came_at a b (is_pair a b peer me) refl;
    past = d.past;
  }
