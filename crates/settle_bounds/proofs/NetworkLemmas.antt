-- An edge has heard a neighbour, or lost its end of a connection: what it has done goes into the network, whose bound falls.
use Rattle.std.proofs.Common.{◌≡◌, ◌≤◌, ◌<◌, ◌+◌, ◌++◌, ◌∙◌, ℕ, zero, suc, Bool, true, false, cond, nat_eq, List, [], ◌∷◌, Option, Some, None, length, refl, sym, ap, subst, append_assoc, arith, inl, inr}
use Rattle.std.proofs.lemmas.Bool.{cases_Bool, eqb-true}
use Rattle.net_values.proofs.BoolLemmas.{clash}
use Rattle.net_values.proofs.NumberLemmas.{apart_back, same_number}
use Rattle.net_base.specs.declared.plan.Plan.{Plan}
use Rattle.net_base.specs.declared.plan.places.EdgeId.{EdgeId}
use Rattle.net_base.specs.plan.Accepted.{IsChecked}
use Rattle.ldp_grammar.specs.declared.message.Message.{Message}
use Rattle.session_core.specs.declared.peers.Peers.{Peers}
use Rattle.edge_model.specs.State.{EdgeState, Peering, is_there}
use Rattle.edge_model.specs.Work.{Work}
use Rattle.network_model.specs.Absorb.{absorb}
use Rattle.network_model.specs.State.{NetworkState, held_by, stands, with_edge}
use Rattle.flight_laws.specs.Ends.{WorksOn, ends_at}
use Rattle.flight_laws.specs.Meeting.{closes, said_to}
use Rattle.flight_laws.specs.Messages.{AreSaid, octets_of_all}
use Rattle.flight_laws.specs.Pair.{AreFit}
use Rattle.flight_laws.proofs.PipeLemmas.{all_apart, all_edges, all_from, all_to}
use Rattle.flight_laws.proofs.ReadyLemmas.{all_ready, same_messages}
use Rattle.flight_laws.proofs.SaidLemmas.{all_joined}
use Rattle.flight_laws.proofs.SettleLemmas.{edge_else, edge_pipes, edge_there}
use Rattle.quiet_laws.proofs.NetworkLemmas.{are_said, said_are, to_of}
use Rattle.quiet_laws.specs.Measure.{AreOnWays, sum_below}
use Rattle.quiet_laws.proofs.SumLemmas.{at_pair, at_place, grid, grids_less, grids_two, pair_least, pair_most, point_most, row_most, sums_two}
use Rattle.quiet_laws.proofs.ToldLemmas.{AreTold, MovesOn, Put}
use Rattle.settle_bounds.specs.Bound.{bound, end_worth, fall_cost, flight_worth, lone_worth, messages_worth, pair_worth, phase_worth, rise_cost}
use Rattle.settle_bounds.specs.Worth.{message_worth}
use Rattle.settle_bounds.proofs.FallLemmas.{end_on}
use Rattle.settle_bounds.proofs.SameLemmas.{fall_same, messages_joined, messages_same, rise_same}
use Rattle.settle_bounds.proofs.WorthLemmas.{paid}

-- ---- what was told to one neighbour

module _ (plan : Plan) (me : ℕ) (place : ℕ) where
  abbrev own : Peers
  own = ends_at plan me place

  -- what it is worth
  module _ (checked : IsChecked plan) (edges : ℕ → EdgeState) where
    abbrev costs_to : List Put → ℕ
    costs_to [] = 0
    costs_to (p ∷ ps) = at_place p.to (message_worth plan edges me p.to p.message) place + costs_to ps

    -- with one more, where it is to this one
    abbrev Worth : Put → List Put → Bool → Type 0
    Worth p ps c = messages_worth plan edges me place (cond c (p.message ∷ to_of place ps) (to_of place ps)) ≤ cond c (message_worth plan edges me p.to p.message) 0 + costs_to ps

    told_worth : (ps : List Put) → messages_worth plan edges me place (to_of place ps) ≤ costs_to ps
    told_worth [] = omega arith
    told_worth (p ∷ ps) = by (nat_eq place p.to) refl (told_worth ps) where
      more : (w t c : ℕ) → t ≤ c → w + t ≤ w + c
      more w t c rest = omega (arith, rest)

      none : (t c : ℕ) → t ≤ c → t ≤ 0 + c
      none t c le = omega (arith, le)

      by : (b : Bool) → nat_eq place p.to ≡ b → messages_worth plan edges me place (to_of place ps) ≤ costs_to ps → Worth p ps (nat_eq place p.to)
      by true is rest =
          subst (Worth p ps) (sym is)
          (subst (λ (k : ℕ). message_worth plan edges me k p.message + messages_worth plan edges me place (to_of place ps) ≤ message_worth plan edges me p.to p.message + costs_to ps) (sym (eqb-true place p.to is))
          (more (message_worth plan edges me p.to p.message) (messages_worth plan edges me place (to_of place ps)) (costs_to ps) rest))
      by false is rest = subst (Worth p ps) (sym is) (none (messages_worth plan edges me place (to_of place ps)) (costs_to ps) rest)

-- to all neighbours together it is worth no more than all
costs_all : (plan : Plan) (checked : IsChecked plan) (me : EdgeId) (edges : ℕ → EdgeState) (ps : List Put) (n : ℕ) → sum_below (λ place. costs_to plan me.0 place checked edges ps) n ≤ paid plan checked edges me ps
costs_all plan checked me edges [] n = none n where
  none : (n : ℕ) → sum_below (λ place. 0) n ≤ 0
  none zero = omega arith
  none (suc n) = omega (arith, none n)
costs_all plan checked me edges (p ∷ ps) n =
    both (sum_below (λ place. at_place p.to (message_worth plan edges me.0 p.to p.message) place + costs_to plan me.0 place checked edges ps) n)
    (sum_below (λ place. at_place p.to (message_worth plan edges me.0 p.to p.message) place) n) (sum_below (λ place. costs_to plan me.0 place checked edges ps) n) (message_worth plan edges me.0 p.to p.message)
    (paid plan checked edges me ps)
    (sums_two (λ place. at_place p.to (message_worth plan edges me.0 p.to p.message) place) (λ place. costs_to plan me.0 place checked edges ps) n)
    (point_most p.to (message_worth plan edges me.0 p.to p.message) n) (costs_all plan checked me edges ps n)
  where
    both : (t a b x y : ℕ) → t ≡ a + b → a ≤ x → b ≤ y → t ≤ x + y
    both t a b x y is one other = omega (arith, is, one, other)

-- ---- the network

-- what is on its way from the neighbour then, where the edge's end stands
abbrev pub worth_left : Plan → (ℕ → EdgeState) → (from to : ℕ) → Option Peering → List Message → ℕ
worth_left plan edges from to None ms = 0
worth_left plan edges from to (Some kept) ms = messages_worth plan edges from to ms

-- an edge has worked, on what came of one neighbour
pub record HasWorked (plan : Plan) (checked : IsChecked plan) (network later : NetworkState) (me peer : EdgeId) (messages : ℕ → ℕ → List Message) (work : Work) : Type 0 where
  pub works : WorksOn plan later me work
  pub told : List Put
  pub are : AreTold plan me.0 work.effects told
  pub others_on : (k : ℕ) → nat_eq k peer.0 ≡ false → MovesOn ((network.edges me.0).peering k) (work.edge.peering k)
  pub bits : work.edge.bits ≡ (network.edges me.0).bits
  pub left : List Message
  pub said : AreSaid (ends_at plan peer.0 me.0) left
  pub behind : (kept : Peering) → work.edge.peering peer.0 ≡ Some kept → kept.held ++ later.pipes peer.0 me.0 ≡ octets_of_all (ends_at plan peer.0 me.0).me left
  pub lighter : suc (end_worth (stands network peer.0 me.0) (rise_cost plan network.edges me peer.0) (fall_cost plan network.edges me peer.0) (work.edge.peering peer.0)
      + (paid plan checked network.edges me told + worth_left plan network.edges peer.0 me.0 (work.edge.peering peer.0) left))
      ≤ end_worth (stands network peer.0 me.0) (rise_cost plan network.edges me peer.0) (fall_cost plan network.edges me peer.0) ((network.edges me.0).peering peer.0) + flight_worth plan network messages peer.0 me.0

module _ (plan : Plan) (checked : IsChecked plan) (network later : NetworkState) (me peer : EdgeId) (apart : nat_eq me.0 peer.0 ≡ false) (edges_same : later.edges ≡ network.edges)
    (pipes_same : (a b : ℕ) → (nat_eq a peer.0 ≡ false) → later.pipes a b ≡ network.pipes a b) (pipes_to : (a b : ℕ) → (nat_eq b me.0 ≡ false) → later.pipes a b ≡ network.pipes a b)
    (messages after_messages : ℕ → ℕ → List Message) (work : Work) (done : HasWorked plan checked network later me peer messages work) (on_way : AreOnWays plan network messages)
    (after_way : AreOnWays plan (absorb me 0 0 work later).state after_messages) (fits : (a b : ℕ) → nat_eq a b ≡ false → stands network b a ≡ true → AreFit (ends_at plan a b))
    (alone : (a : ℕ) → (network.edges a).peering a ≡ None)
    (stays : (a b : ℕ) → stands network a b ≡ true → stands network b a ≡ true → stands (absorb me 0 0 work later).state b a ≡ true) where
  abbrev begun : NetworkState
  begun = with_edge me work.edge later

  abbrev after : NetworkState
  after = (absorb me 0 0 work later).state

  edges_are : after.edges ≡ begun.edges
  edges_are = all_edges me 0 0 work.effects begun

  own_edge : after.edges me.0 ≡ work.edge
  own_edge = ap (λ (f : ℕ → EdgeState). f me.0) edges_are ∙ edge_there me work.edge later

  other_edge : (k : ℕ) → nat_eq k me.0 ≡ false → after.edges k ≡ network.edges k
  other_edge k gone = ap (λ (f : ℕ → EdgeState). f k) edges_are ∙ (edge_else me work.edge later k gone ∙ ap (λ (f : ℕ → EdgeState). f k) edges_same)

  bits_kept : (k : ℕ) → (after.edges k).bits ≡ (network.edges k).bits
  bits_kept k = elim (cases_Bool (nat_eq k me.0)) [
    | inl same ↦ subst (λ (n : ℕ). (after.edges n).bits ≡ (network.edges n).bits) (sym (eqb-true k me.0 same)) (ap (λ (e : EdgeState). e.bits) own_edge ∙ done.bits)
    | inr gone ↦ ap (λ (e : EdgeState). e.bits) (other_edge k gone)
  ]

  weighs_same : (a b : ℕ) (ms : List Message) → messages_worth plan after.edges a b ms ≡ messages_worth plan network.edges a b ms
  weighs_same a b ms = messages_same plan after.edges network.edges bits_kept a b ms

  -- messages are known by their octets
  found : (a b : ℕ) (ends : Peers) → ends ≡ ends_at plan a b → AreFit (ends_at plan a b) → (xs ys : List Message) → AreSaid (ends_at plan a b) xs → AreSaid (ends_at plan a b) ys
      → octets_of_all (ends_at plan a b).me xs ≡ octets_of_all (ends_at plan a b).me ys → xs ≡ ys
  found a b ends is fit xs ys one other same = same_messages (ends_at plan a b) xs ys (all_ready (ends_at plan a b) xs fit one) (all_ready (ends_at plan a b) ys fit other) same

  -- ---- pipes

  apart_too : nat_eq peer.0 me.0 ≡ false
  apart_too = apart_back me.0 peer.0 apart

  pipe_out : (k : ℕ) → nat_eq k me.0 ≡ false → stands network k me.0 ≡ true → after.pipes me.0 k ≡ network.pipes me.0 k ++ said_to k work.effects
  pipe_out k gone up =
      all_from me 0 0 k work.effects begun gone
      ∙ (ap (λ (b : Bool). cond b (begun.pipes me.0 k ++ said_to k work.effects) (begun.pipes me.0 k)) stands_there
      ∙ ap (λ (l : List ℕ). l ++ said_to k work.effects) (ap (λ (f : ℕ → ℕ → List ℕ). f me.0 k) (edge_pipes me work.edge later) ∙ pipes_same me.0 k apart))
    where
      stands_there : stands begun k me.0 ≡ true
      stands_there = ap (λ (e : EdgeState). is_there (e.peering me.0)) (edge_else me work.edge later k gone ∙ ap (λ (f : ℕ → EdgeState). f k) edges_same) ∙ up

  pipe_in : (k : ℕ) → nat_eq k me.0 ≡ false → closes k work.effects ≡ false → after.pipes k me.0 ≡ later.pipes k me.0
  pipe_in k gone unclosed = all_to me 0 0 k work.effects begun gone
      ∙ (ap (λ (b : Bool). cond b [] (begun.pipes k me.0)) unclosed ∙ ap (λ (f : ℕ → ℕ → List ℕ). f k me.0) (edge_pipes me work.edge later))

  pipe_else : (a b : ℕ) → nat_eq a me.0 ≡ false → nat_eq b me.0 ≡ false → after.pipes a b ≡ network.pipes a b
  pipe_else a b one other = all_apart me 0 0 a b work.effects begun one other ∙ (ap (λ (f : ℕ → ℕ → List ℕ). f a b) (edge_pipes me work.edge later) ∙ pipes_to a b other)

  -- ---- flights

  abbrev worth_of : ℕ → ℕ → ℕ
  worth_of a b = flight_worth plan network messages a b

  abbrev worth_after : ℕ → ℕ → ℕ
  worth_after a b = flight_worth plan after after_messages a b

  -- an end that stands has a flight
  stood_worth : (a b : ℕ) → stands network b a ≡ true → worth_of a b ≡ messages_worth plan network.edges a b (messages a b)
  stood_worth a b up = ap (λ (s : Bool). cond s (messages_worth plan network.edges a b (messages a b)) 0) up

  gone_after : (a b : ℕ) → stands after b a ≡ false → worth_after a b ≡ 0
  gone_after a b down = ap (λ (s : Bool). cond s (messages_worth plan after.edges a b (after_messages a b)) 0) down

  stood_after : (a b : ℕ) → stands after b a ≡ true → worth_after a b ≡ messages_worth plan network.edges a b (after_messages a b)
  stood_after a b up = ap (λ (s : Bool). cond s (messages_worth plan after.edges a b (after_messages a b)) 0) up
      ∙ weighs_same a b (after_messages a b)

  nothing_less : (a b : ℕ) → a ≡ 0 → a ≤ b
  nothing_less a b is = omega (arith, is)

  same_less : (a b : ℕ) → a ≡ b → a ≤ b
  same_less a b is = omega (arith, is)

  -- from the edge to another one
  out_less : (k : ℕ) → nat_eq k me.0 ≡ false → worth_after me.0 k ≤ worth_of me.0 k + costs_to plan me.0 k checked network.edges done.told
  out_less k gone = by (stands network k me.0) refl where
    away : nat_eq me.0 k ≡ false
    away = apart_back k me.0 gone

    stands_is : stands after k me.0 ≡ stands network k me.0
    stands_is = ap (λ (e : EdgeState). is_there (e.peering me.0)) (other_edge k gone)

    own : Peers
    own = ends_at plan me.0 k

    more : (x y w a c t : ℕ) → x ≡ a → y ≡ w → a ≡ w + t → t ≤ c → x ≤ y + c
    more x y w a c t one two four le = omega (arith, one, two, four, le)

    by : (b : Bool) → stands network k me.0 ≡ b → worth_after me.0 k ≤ worth_of me.0 k + costs_to plan me.0 k checked network.edges done.told
    by false down = nothing_less (worth_after me.0 k) (worth_of me.0 k + costs_to plan me.0 k checked network.edges done.told) (gone_after me.0 k (stands_is ∙ down))
    by true up =
        more (worth_after me.0 k) (worth_of me.0 k) (messages_worth plan network.edges me.0 k (messages me.0 k)) (messages_worth plan network.edges me.0 k (after_messages me.0 k))
        (costs_to plan me.0 k checked network.edges done.told) (messages_worth plan network.edges me.0 k (to_of k done.told))
        (stood_after me.0 k (stands_is ∙ up)) (stood_worth me.0 k up)
        (ap (messages_worth plan network.edges me.0 k) messages_are ∙ messages_joined plan network.edges me.0 k (messages me.0 k) (to_of k done.told))
        (told_worth plan me.0 k checked network.edges done.told)
      where
        said_is : said_to k work.effects ≡ octets_of_all (ends_at plan me.0 k).me (to_of k done.told)
        said_is = said_are plan me.0 k work.effects done.told done.are

        joined_said : (ends : Peers) (xs ys : List Message) → AreSaid ends xs → AreSaid ends ys → AreSaid ends (xs ++ ys)
        joined_said ends [] ys one other = other
        joined_said ends (x ∷ xs) ys one other = (one.0, joined_said ends xs ys one.1 other)

        held_is : held_by ((after.edges k).peering me.0) ≡ held_by ((network.edges k).peering me.0)
        held_is = ap (λ (e : EdgeState). held_by (e.peering me.0)) (other_edge k gone)

        octets_are : octets_of_all (ends_at plan me.0 k).me (after_messages me.0 k) ≡ octets_of_all (ends_at plan me.0 k).me (messages me.0 k ++ to_of k done.told)
        octets_are =
            sym (after_way me.0 k away).octets
            ∙ ((λ i. held_is i ++ pipe_out k gone up i)
            ∙ (sym (append_assoc (held_by ((network.edges k).peering me.0)) (network.pipes me.0 k) (said_to k work.effects))
            ∙ (ap (λ (l : List ℕ). l ++ said_to k work.effects) (on_way me.0 k away).octets
            ∙ (ap (λ (l : List ℕ). octets_of_all (ends_at plan me.0 k).me (messages me.0 k) ++ l) said_is
            ∙ sym (all_joined (ends_at plan me.0 k).me (messages me.0 k) (to_of k done.told))))))

        messages_are : after_messages me.0 k ≡ messages me.0 k ++ to_of k done.told
        messages_are = found me.0 k (ends_at plan me.0 k) refl (fits me.0 k away up) (after_messages me.0 k) (messages me.0 k ++ to_of k done.told) (after_way me.0 k away).said
            (joined_said (ends_at plan me.0 k) (messages me.0 k) (to_of k done.told) (on_way me.0 k away).said (are_said plan me.0 k work.effects done.told done.are)) octets_are

  -- where the pipe, and what is held, are as before
  kept_less : (a b : ℕ) → nat_eq a b ≡ false → stands network b a ≡ true → held_by ((after.edges b).peering a) ≡ held_by ((network.edges b).peering a) → after.pipes a b ≡ network.pipes a b
      → stands after b a ≡ true → worth_after a b ≤ worth_of a b
  kept_less a b away up held_is pipe_is there =
      same_less (worth_after a b) (worth_of a b)
      (stood_after a b there
      ∙ (ap (messages_worth plan network.edges a b) messages_are ∙ sym (stood_worth a b up)))
    where
      messages_are : after_messages a b ≡ messages a b
      messages_are = found a b (ends_at plan a b) refl (fits a b away up) (after_messages a b) (messages a b) (after_way a b away).said (on_way a b away).said
          (sym (after_way a b away).octets ∙ ((λ i. held_is i ++ pipe_is i) ∙ (on_way a b away).octets))

  -- between two others
  else_less : (a b : ℕ) → nat_eq a b ≡ false → nat_eq a me.0 ≡ false → nat_eq b me.0 ≡ false → worth_after a b ≤ worth_of a b
  else_less a b away one other = by (stands network b a) refl where
    stands_is : stands after b a ≡ stands network b a
    stands_is = ap (λ (e : EdgeState). is_there (e.peering a)) (other_edge b other)

    by : (s : Bool) → stands network b a ≡ s → worth_after a b ≤ worth_of a b
    by false down = nothing_less (worth_after a b) (worth_of a b) (gone_after a b (stands_is ∙ down))
    by true up = kept_less a b away up (ap (λ (e : EdgeState). held_by (e.peering a)) (other_edge b other)) (pipe_else a b one other) (stands_is ∙ up)

  alone_less : (a : ℕ) → nat_eq a me.0 ≡ false → worth_after a a ≤ worth_of a a
  alone_less a other = nothing_less (worth_after a a) (worth_of a a) (gone_after a a (ap is_there (ap (λ (e : EdgeState). e.peering a) (other_edge a other) ∙ alone a)))

  flights : (a b : ℕ) → nat_eq a me.0 ≡ false → nat_eq b me.0 ≡ false → worth_after a b ≤ worth_of a b
  flights a b other gone = elim (cases_Bool (nat_eq a b)) [
    | inl same ↦ subst (λ (k : ℕ). worth_after a k ≤ worth_of a k) (eqb-true a b same) (alone_less a other)
    | inr away ↦ else_less a b away other gone
  ]

  -- from another one to the edge
  in_less : (k : ℕ) → nat_eq k me.0 ≡ false → nat_eq k peer.0 ≡ false → worth_after k me.0 ≤ worth_of k me.0
  in_less k gone other = by (work.edge.peering k) refl ((network.edges me.0).peering k) refl where
    there_is : (near : Option Peering) → work.edge.peering k ≡ near → (after.edges me.0).peering k ≡ near
    there_is near at = ap (λ (e : EdgeState). e.peering k) own_edge ∙ at

    by : (near : Option Peering) → work.edge.peering k ≡ near → (was : Option Peering) → (network.edges me.0).peering k ≡ was → worth_after k me.0 ≤ worth_of k me.0
    by None at was is = nothing_less (worth_after k me.0) (worth_of k me.0) (gone_after k me.0 (ap is_there (there_is None at)))
    by (Some now) at None is = absurd (subst (λ (o : Option Peering). MovesOn o (Some now)) is (subst (MovesOn ((network.edges me.0).peering k)) at (done.others_on k other)))
    by (Some now) at (Some kept) is =
        let on : MovesOn (Some kept) (Some now) = subst (λ (o : Option Peering). MovesOn o (Some now)) is (subst (MovesOn ((network.edges me.0).peering k)) at (done.others_on k other)) in
        kept_less k me.0 gone (ap is_there is)
        (ap held_by (there_is (Some now) at) ∙ (on.0 ∙ sym (ap held_by is)))
        (pipe_in k gone ((done.works.left k gone).unclosed now at) ∙ pipes_same k me.0 other)
        (ap is_there (there_is (Some now) at))

  -- from the neighbour
  peer_worth : worth_after peer.0 me.0 ≤ worth_left plan network.edges peer.0 me.0 (work.edge.peering peer.0) done.left
  peer_worth = by (work.edge.peering peer.0) refl where
    there_is : (near : Option Peering) → work.edge.peering peer.0 ≡ near → (after.edges me.0).peering peer.0 ≡ near
    there_is near at = ap (λ (e : EdgeState). e.peering peer.0) own_edge ∙ at

    by : (near : Option Peering) → work.edge.peering peer.0 ≡ near
        → worth_after peer.0 me.0 ≤ worth_left plan network.edges peer.0 me.0 near done.left
    by None at = nothing_less (worth_after peer.0 me.0) 0 (gone_after peer.0 me.0 (ap is_there (there_is None at)))
    by (Some now) at =
        same_less (worth_after peer.0 me.0) (messages_worth plan network.edges peer.0 me.0 done.left)
        (stood_after peer.0 me.0 (ap is_there (there_is (Some now) at)) ∙ ap (messages_worth plan network.edges peer.0 me.0) messages_are)
      where
        pipe_is : after.pipes peer.0 me.0 ≡ later.pipes peer.0 me.0
        pipe_is = pipe_in peer.0 apart_too ((done.works.left peer.0 apart_too).unclosed now at)

        held_is : held_by ((after.edges me.0).peering peer.0) ≡ now.held
        held_is = ap held_by (there_is (Some now) at)

        standing : Rattle.flight_laws.specs.Pair.IsStanding (ends_at plan me.0 peer.0) (ends_at plan peer.0 me.0) now
        standing = subst (λ (o : Option Peering). Rattle.flight_laws.specs.Pair.StandsIf (ends_at plan me.0 peer.0) (ends_at plan peer.0 me.0) o) at (done.works.left peer.0 apart_too).leaves.talk.here

        fit : AreFit (ends_at plan peer.0 me.0)
        fit = standing.between.two

        messages_are : after_messages peer.0 me.0 ≡ done.left
        messages_are = found peer.0 me.0 (ends_at plan peer.0 me.0) refl fit (after_messages peer.0 me.0) done.left (after_way peer.0 me.0 apart_too).said done.said
            (sym (after_way peer.0 me.0 apart_too).octets ∙ ((λ i. held_is i ++ pipe_is i) ∙ done.behind now at))

  -- ---- pairs

  -- what an end is worth, and its far end may have gone meanwhile
  abbrev rank_of : ℕ → ℕ → ℕ
  rank_of a b = end_worth (stands network b a) (rise_cost plan network.edges (record { 0 = a }) b) (fall_cost plan network.edges (record { 0 = a }) b) ((network.edges a).peering b)

  abbrev rank_after : ℕ → ℕ → ℕ
  rank_after a b = end_worth (stands after b a) (rise_cost plan after.edges (record { 0 = a }) b) (fall_cost plan after.edges (record { 0 = a }) b) ((after.edges a).peering b)

  -- by the costs of before
  rank_same : (a b : ℕ) → rank_after a b ≡ end_worth (stands after b a) (rise_cost plan network.edges (record { 0 = a }) b) (fall_cost plan network.edges (record { 0 = a }) b) ((after.edges a).peering b)
  rank_same a b = λ i. end_worth (stands after b a) (rise_same plan after.edges network.edges bits_kept (record { 0 = a }) b i) (fall_same plan after.edges network.edges bits_kept (record { 0 = a }) b i) ((after.edges a).peering b)

  lone_less : (x y : Bool) (fall : ℕ) → (x ≡ true → y ≡ true) → lone_worth y fall ≤ lone_worth x fall
  lone_less true true fall stay = omega arith
  lone_less true false fall stay = clash (stay refl)
  lone_less false true fall stay = omega arith
  lone_less false false fall stay = omega arith

  far_less : (x y : Bool) (rise fall : ℕ) (o : Option Peering) → (is_there o ≡ true → x ≡ true → y ≡ true) → end_worth y rise fall o ≤ end_worth x rise fall o
  far_less x y rise fall None stay = omega arith
  far_less x y rise fall (Some kept) stay = sum (phase_worth kept.session.phase rise) (lone_worth y fall) (lone_worth x fall) (lone_less x y fall (stay refl)) where
    sum : (p a b : ℕ) → a ≤ b → p + a ≤ p + b
    sum p a b le = omega (arith, le)

  moved_less : (far : Bool) (rise fall : ℕ) (old new : Option Peering) → MovesOn old new → end_worth far rise fall new ≤ end_worth far rise fall old
  moved_less far rise fall None None on = omega arith
  moved_less far rise fall None (Some now) on = absurd on
  moved_less far rise fall (Some kept) new on = end_on far rise fall kept new on

  -- an end of another edge
  rank_less : (a b : ℕ) → nat_eq a me.0 ≡ false → rank_after a b ≤ rank_of a b
  rank_less a b gone =
      both (rank_after a b) (end_worth (stands after b a) (rise_cost plan network.edges (record { 0 = a }) b) (fall_cost plan network.edges (record { 0 = a }) b) ((network.edges a).peering b)) (rank_of a b)
      (rank_same a b ∙ ap (λ (e : EdgeState). end_worth (stands after b a) (rise_cost plan network.edges (record { 0 = a }) b) (fall_cost plan network.edges (record { 0 = a }) b) (e.peering b)) (other_edge a gone))
      (far_less (stands network b a) (stands after b a) (rise_cost plan network.edges (record { 0 = a }) b) (fall_cost plan network.edges (record { 0 = a }) b) ((network.edges a).peering b) (λ here there. stays a b here there))
    where
      both : (a b c : ℕ) → a ≡ b → b ≤ c → a ≤ c
      both a b c is le = omega (arith, is, le)

  -- an end of the edge
  own_rank : (b : ℕ) → nat_eq b me.0 ≡ false
      → rank_after me.0 b ≡ end_worth (stands network b me.0) (rise_cost plan network.edges me b) (fall_cost plan network.edges me b) (work.edge.peering b)
  own_rank b gone =
      rank_same me.0 b
      ∙ (ap (λ (far : Bool). end_worth far (rise_cost plan network.edges me b) (fall_cost plan network.edges me b) ((after.edges me.0).peering b)) (ap (λ (e : EdgeState). is_there (e.peering me.0)) (other_edge b gone))
      ∙ ap (λ (e : EdgeState). end_worth (stands network b me.0) (rise_cost plan network.edges me b) (fall_cost plan network.edges me b) (e.peering b)) own_edge)

  -- what each pair may gain, and what two of them lose
  abbrev gains : ℕ → ℕ → ℕ
  gains a b = at_place me.0 (costs_to plan me.0 b checked network.edges done.told) a + (at_pair me.0 peer.0 (rank_after me.0 peer.0) a b + at_pair peer.0 me.0 (worth_after peer.0 me.0) a b)

  abbrev losses : ℕ → ℕ → ℕ
  losses a b = at_pair me.0 peer.0 (rank_of me.0 peer.0) a b + at_pair peer.0 me.0 (worth_of peer.0 me.0) a b

  abbrev Less : ℕ → ℕ → Type 0
  Less a b = pair_worth plan after after_messages a b + losses a b ≤ pair_worth plan network messages a b + gains a b

  point_here : (p x : ℕ) → at_place p x p ≡ x
  point_here p x = ap (λ (c : Bool). cond c x 0) (same_number p)

  point_else : (p x k : ℕ) → nat_eq k p ≡ false → at_place p x k ≡ 0
  point_else p x k gone = ap (λ (c : Bool). cond c x 0) gone

  -- by numbers: worth, gains and losses at a pair
  calm_pair : (r1 f1 r2 f2 l1 l2 g1 g2 g3 : ℕ) → r1 ≤ r2 → f1 ≤ f2 + g1 → l1 ≡ 0 → l2 ≡ 0 → (r1 + f1) + (l1 + l2) ≤ (r2 + f2) + (g1 + (g2 + g3))
  calm_pair r1 f1 r2 f2 l1 l2 g1 g2 g3 one two three four = omega (arith, one, two, three, four)

  moved_pair : (r1 f1 r2 f2 l1 l2 g1 g2 g3 : ℕ) → f1 ≤ f2 + g1 → l1 ≡ r2 → l2 ≡ 0 → g2 ≡ r1 → (r1 + f1) + (l1 + l2) ≤ (r2 + f2) + (g1 + (g2 + g3))
  moved_pair r1 f1 r2 f2 l1 l2 g1 g2 g3 two three four five = omega (arith, two, three, four, five)

  heard_pair : (r1 f1 r2 f2 l1 l2 g1 g2 g3 : ℕ) → r1 ≤ r2 → l1 ≡ 0 → l2 ≡ f2 → g3 ≡ f1 → (r1 + f1) + (l1 + l2) ≤ (r2 + f2) + (g1 + (g2 + g3))
  heard_pair r1 f1 r2 f2 l1 l2 g1 g2 g3 one three four five = omega (arith, one, three, four, five)

  wider : (a b c : ℕ) → a ≤ b → a ≤ b + c
  wider a b c le = omega (arith, le)

  pair_less : (a b : ℕ) → Less a b
  pair_less a b = elim (cases_Bool (nat_eq a me.0)) [
    | inl mine ↦ subst (λ (k : ℕ). Less k b) (sym (eqb-true a me.0 mine)) (from_me b)
    | inr other ↦ elim (cases_Bool (nat_eq b me.0)) [
      | inl mine ↦ subst (λ (k : ℕ). Less a k) (sym (eqb-true b me.0 mine)) (to_me a other)
      | inr gone ↦ between a b other gone
    ]
  ]
    where
      alone_after : (after.edges me.0).peering me.0 ≡ None
      alone_after = ap (λ (e : EdgeState). e.peering me.0) own_edge ∙ done.works.alone

      alone_rank : (x : ℕ) → rank_after me.0 me.0 ≤ x
      alone_rank x = nothing_less (rank_after me.0 me.0) x
          (ap (end_worth (stands after me.0 me.0) (rise_cost plan after.edges (record { 0 = me.0 }) me.0) (fall_cost plan after.edges (record { 0 = me.0 }) me.0)) alone_after)

      from_me : (b : ℕ) → Less me.0 b
      from_me b = elim (cases_Bool (nat_eq b me.0)) [
        | inl mine ↦ subst (λ (k : ℕ). Less me.0 k) (sym (eqb-true b me.0 mine))
            (calm_pair (rank_after me.0 me.0) (worth_after me.0 me.0) (rank_of me.0 me.0) (worth_of me.0 me.0) (at_pair me.0 peer.0 (rank_of me.0 peer.0) me.0 me.0)
            (at_pair peer.0 me.0 (worth_of peer.0 me.0) me.0 me.0) (at_place me.0 (costs_to plan me.0 me.0 checked network.edges done.told) me.0)
            (at_pair me.0 peer.0 (rank_after me.0 peer.0) me.0 me.0) (at_pair peer.0 me.0 (worth_after peer.0 me.0) me.0 me.0)
            (alone_rank (rank_of me.0 me.0))
            (nothing_less (worth_after me.0 me.0) (worth_of me.0 me.0 + at_place me.0 (costs_to plan me.0 me.0 checked network.edges done.told) me.0) (gone_after me.0 me.0 (ap is_there alone_after)))
            (ap (λ (x : ℕ). at_place me.0 x me.0) (point_else peer.0 (rank_of me.0 peer.0) me.0 apart) ∙ point_here me.0 0)
            (point_else peer.0 (at_place me.0 (worth_of peer.0 me.0) me.0) me.0 apart))
        | inr gone ↦ other_from b gone
      ]
        where
          out : (b : ℕ) → nat_eq b me.0 ≡ false → worth_after me.0 b ≤ worth_of me.0 b + at_place me.0 (costs_to plan me.0 b checked network.edges done.told) me.0
          out b gone = subst (λ (c : ℕ). worth_after me.0 b ≤ worth_of me.0 b + c) (sym (point_here me.0 (costs_to plan me.0 b checked network.edges done.told))) (out_less b gone)

          both_are : (a b c : ℕ) → a ≡ b → b ≤ c → a ≤ c
          both_are a b c is le = omega (arith, is, le)

          other_from : (b : ℕ) → nat_eq b me.0 ≡ false → Less me.0 b
          other_from b gone = elim (cases_Bool (nat_eq b peer.0)) [
            | inl beside ↦ subst (λ (k : ℕ). Less me.0 k) (sym (eqb-true b peer.0 beside))
                (moved_pair (rank_after me.0 peer.0) (worth_after me.0 peer.0) (rank_of me.0 peer.0) (worth_of me.0 peer.0) (at_pair me.0 peer.0 (rank_of me.0 peer.0) me.0 peer.0)
                (at_pair peer.0 me.0 (worth_of peer.0 me.0) me.0 peer.0) (at_place me.0 (costs_to plan me.0 peer.0 checked network.edges done.told) me.0)
                (at_pair me.0 peer.0 (rank_after me.0 peer.0) me.0 peer.0) (at_pair peer.0 me.0 (worth_after peer.0 me.0) me.0 peer.0)
                (out peer.0 apart_too)
                (ap (λ (x : ℕ). at_place me.0 x me.0) (point_here peer.0 (rank_of me.0 peer.0)) ∙ point_here me.0 (rank_of me.0 peer.0))
                (point_else peer.0 (at_place me.0 (worth_of peer.0 me.0) peer.0) me.0 apart)
                (ap (λ (x : ℕ). at_place me.0 x me.0) (point_here peer.0 (rank_after me.0 peer.0)) ∙ point_here me.0 (rank_after me.0 peer.0)))
            | inr away ↦
                calm_pair (rank_after me.0 b) (worth_after me.0 b) (rank_of me.0 b) (worth_of me.0 b) (at_pair me.0 peer.0 (rank_of me.0 peer.0) me.0 b)
                (at_pair peer.0 me.0 (worth_of peer.0 me.0) me.0 b) (at_place me.0 (costs_to plan me.0 b checked network.edges done.told) me.0)
                (at_pair me.0 peer.0 (rank_after me.0 peer.0) me.0 b) (at_pair peer.0 me.0 (worth_after peer.0 me.0) me.0 b)
                (both_are (rank_after me.0 b) (end_worth (stands network b me.0) (rise_cost plan network.edges me b) (fall_cost plan network.edges me b) (work.edge.peering b)) (rank_of me.0 b) (own_rank b gone)
                (moved_less (stands network b me.0) (rise_cost plan network.edges me b) (fall_cost plan network.edges me b) ((network.edges me.0).peering b) (work.edge.peering b) (done.others_on b away)))
                (out b gone)
                (ap (λ (x : ℕ). at_place me.0 x me.0) (point_else peer.0 (rank_of me.0 peer.0) b away) ∙ point_here me.0 0)
                (point_else peer.0 (at_place me.0 (worth_of peer.0 me.0) b) me.0 apart)
          ]

      to_me : (a : ℕ) → nat_eq a me.0 ≡ false → Less a me.0
      to_me a other = elim (cases_Bool (nat_eq a peer.0)) [
        | inl beside ↦ subst (λ (k : ℕ). Less k me.0) (sym (eqb-true a peer.0 beside))
            (heard_pair (rank_after peer.0 me.0) (worth_after peer.0 me.0) (rank_of peer.0 me.0) (worth_of peer.0 me.0) (at_pair me.0 peer.0 (rank_of me.0 peer.0) peer.0 me.0)
            (at_pair peer.0 me.0 (worth_of peer.0 me.0) peer.0 me.0) (at_place me.0 (costs_to plan me.0 me.0 checked network.edges done.told) peer.0)
            (at_pair me.0 peer.0 (rank_after me.0 peer.0) peer.0 me.0) (at_pair peer.0 me.0 (worth_after peer.0 me.0) peer.0 me.0)
            (rank_less peer.0 me.0 apart_too)
            (point_else me.0 (at_place peer.0 (rank_of me.0 peer.0) me.0) peer.0 apart_too)
            (ap (λ (x : ℕ). at_place peer.0 x peer.0) (point_here me.0 (worth_of peer.0 me.0)) ∙ point_here peer.0 (worth_of peer.0 me.0))
            (ap (λ (x : ℕ). at_place peer.0 x peer.0) (point_here me.0 (worth_after peer.0 me.0)) ∙ point_here peer.0 (worth_after peer.0 me.0)))
        | inr away ↦
            calm_pair (rank_after a me.0) (worth_after a me.0) (rank_of a me.0) (worth_of a me.0) (at_pair me.0 peer.0 (rank_of me.0 peer.0) a me.0)
            (at_pair peer.0 me.0 (worth_of peer.0 me.0) a me.0) (at_place me.0 (costs_to plan me.0 me.0 checked network.edges done.told) a)
            (at_pair me.0 peer.0 (rank_after me.0 peer.0) a me.0) (at_pair peer.0 me.0 (worth_after peer.0 me.0) a me.0)
            (rank_less a me.0 other)
            (wider (worth_after a me.0) (worth_of a me.0) (at_place me.0 (costs_to plan me.0 me.0 checked network.edges done.told) a) (in_less a other away))
            (point_else me.0 (at_place peer.0 (rank_of me.0 peer.0) me.0) a other)
            (point_else peer.0 (at_place me.0 (worth_of peer.0 me.0) me.0) a away)
      ]

      between : (a b : ℕ) → nat_eq a me.0 ≡ false → nat_eq b me.0 ≡ false → Less a b
      between a b other gone =
          calm_pair (rank_after a b) (worth_after a b) (rank_of a b) (worth_of a b) (at_pair me.0 peer.0 (rank_of me.0 peer.0) a b)
          (at_pair peer.0 me.0 (worth_of peer.0 me.0) a b) (at_place me.0 (costs_to plan me.0 b checked network.edges done.told) a)
          (at_pair me.0 peer.0 (rank_after me.0 peer.0) a b) (at_pair peer.0 me.0 (worth_after peer.0 me.0) a b)
          (rank_less a b other)
          (wider (worth_after a b) (worth_of a b) (at_place me.0 (costs_to plan me.0 b checked network.edges done.told) a) (flights a b other gone))
          (point_else me.0 (at_place peer.0 (rank_of me.0 peer.0) b) a other)
          (by_me (nat_eq a peer.0))
        where
          by_me : (c : Bool) → cond c (at_place me.0 (worth_of peer.0 me.0) b) 0 ≡ 0
          by_me true = point_else me.0 (worth_of peer.0 me.0) b gone
          by_me false = refl

  -- ---- all

  pub bound_falls : me.0 < length plan.edges → peer.0 < length plan.edges → bound plan after after_messages < bound plan network messages
  bound_falls one other =
      sum (grid (pair_worth plan after after_messages) n) (grid losses n) (grid (pair_worth plan network messages) n) (grid gains n)
      (rank_of me.0 peer.0) (worth_of peer.0 me.0) (rank_after me.0 peer.0) (worth_after peer.0 me.0) (paid plan checked network.edges me done.told)
      (end_worth (stands network peer.0 me.0) (rise_cost plan network.edges me peer.0) (fall_cost plan network.edges me peer.0) (work.edge.peering peer.0)) (worth_left plan network.edges peer.0 me.0 (work.edge.peering peer.0) done.left)
      (grid (at_pair me.0 peer.0 (rank_of me.0 peer.0)) n) (grid (at_pair peer.0 me.0 (worth_of peer.0 me.0)) n)
      (grid (λ a b. at_place me.0 (costs_to plan me.0 b checked network.edges done.told) a) n) (grid (at_pair me.0 peer.0 (rank_after me.0 peer.0)) n) (grid (at_pair peer.0 me.0 (worth_after peer.0 me.0)) n)
      (less_two (grid (λ a b. pair_worth plan after after_messages a b + losses a b) n) (grid (λ a b. pair_worth plan network messages a b + gains a b) n)
      (grid (pair_worth plan after after_messages) n) (grid losses n) (grid (pair_worth plan network messages) n) (grid gains n)
      (grids_less (λ a b. pair_worth plan after after_messages a b + losses a b) (λ a b. pair_worth plan network messages a b + gains a b) n pair_less)
      (grids_two (pair_worth plan after after_messages) losses n) (grids_two (pair_worth plan network messages) gains n))
      (grids_two (at_pair me.0 peer.0 (rank_of me.0 peer.0)) (at_pair peer.0 me.0 (worth_of peer.0 me.0)) n)
      (grids_two (λ a b. at_place me.0 (costs_to plan me.0 b checked network.edges done.told) a) (λ a b. at_pair me.0 peer.0 (rank_after me.0 peer.0) a b + at_pair peer.0 me.0 (worth_after peer.0 me.0) a b) n
      ∙ ap (λ (x : ℕ). grid (λ a b. at_place me.0 (costs_to plan me.0 b checked network.edges done.told) a) n + x) (grids_two (at_pair me.0 peer.0 (rank_after me.0 peer.0)) (at_pair peer.0 me.0 (worth_after peer.0 me.0)) n))
      (pair_least me.0 peer.0 (rank_of me.0 peer.0) n one other) (pair_least peer.0 me.0 (worth_of peer.0 me.0) n other one)
      (both_less (grid (λ a b. at_place me.0 (costs_to plan me.0 b checked network.edges done.told) a) n) (sum_below (λ b. costs_to plan me.0 b checked network.edges done.told) n) (paid plan checked network.edges me done.told)
      (row_most me.0 (λ b. costs_to plan me.0 b checked network.edges done.told) n) (costs_all plan checked me network.edges done.told n))
      (pair_most me.0 peer.0 (rank_after me.0 peer.0) n) (pair_most peer.0 me.0 (worth_after peer.0 me.0) n)
      (own_rank peer.0 apart_too) peer_worth done.lighter
    where
      n : ℕ
      n = length plan.edges

      both_less : (a b c : ℕ) → a ≤ b → b ≤ c → a ≤ c
      both_less a b c one other = omega (arith, one, other)

      less_two : (s t a l b g : ℕ) → s ≤ t → s ≡ a + l → t ≡ b + g → a + l ≤ b + g
      less_two s t a l b g le one other = omega (arith, le, one, other)

      sum : (a l b g r f r1 f1 c r2 w l1 l2 g1 g2 g3 : ℕ) → a + l ≤ b + g → l ≡ l1 + l2 → g ≡ g1 + (g2 + g3) → r ≤ l1 → f ≤ l2 → g1 ≤ c → g2 ≤ r1 → g3 ≤ f1 → r1 ≡ r2 → f1 ≤ w
          → suc (r2 + (c + w)) ≤ r + f → a < b
      sum a l b g r f r1 f1 c r2 w l1 l2 g1 g2 g3 all ls gs one two three four five six seven light = omega (arith, all, ls, gs, one, two, three, four, five, six, seven, light)
