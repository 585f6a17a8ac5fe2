-- What an edge has done goes into the network, and a fact of two edges holds again: once for every fact.
use Rattle.std.proofs.Common.{◌≡◌, ◌++◌, ◌∙◌, ℕ, false, cond, nat_eq, List, [], Option, Some, None, refl, sym, ap, subst, append_assoc, inl, inr}
use Rattle.std.proofs.lemmas.Bool.{cases_Bool, eqb-true}
use Rattle.net_values.proofs.NumberLemmas.{same_number, apart_back}
use Rattle.net_base.specs.declared.plan.places.EdgeId.{EdgeId}
use Rattle.edge_model.specs.State.{EdgeState, Peering, is_there}
use Rattle.edge_model.specs.Work.{Work}
use Rattle.network_model.specs.Absorb.{absorb, absorb_all, begin_at}
use Rattle.network_model.specs.State.{NetworkState, held_by, with_edge}
use Rattle.flight_laws.specs.Coming.{and_more}
use Rattle.flight_laws.specs.Facts.{Fact, FromBoth, HoldsAt, HoldsBut, HoldsOfTwo, LeavesFor, Owes, Turns, flight}
use Rattle.flight_laws.specs.Meeting.{closes, said_to}
use Rattle.flight_laws.proofs.PipeLemmas.{all_apart, all_edges, all_from, all_to}
use Rattle.flight_laws.proofs.CommonLemmas.{no_more}

-- a fact is known by its six parts
pub moved : (P : Fact) (a b : ℕ) {x x2 y y2 : EdgeState} {out out2 back back2 : List ℕ} → P a b x y out back → x2 ≡ x → y2 ≡ y → out2 ≡ out → back2 ≡ back → P a b x2 y2 out2 back2
moved P a b fact i j k l = rw (i, j, k, l) fact

pub edge_there : (me : EdgeId) (edge : EdgeState) (network : NetworkState) → (with_edge me edge network).edges me.0 ≡ edge
unfolding with_edge
edge_there me edge network = rw (same_number me.0) refl

pub edge_else : (me : EdgeId) (edge : EdgeState) (network : NetworkState) (place : ℕ) → nat_eq place me.0 ≡ false → (with_edge me edge network).edges place ≡ network.edges place
unfolding with_edge
edge_else me edge network place apart = rw apart refl

pub edge_pipes : (me : EdgeId) (edge : EdgeState) (network : NetworkState) → (with_edge me edge network).pipes ≡ network.pipes
unfolding with_edge
edge_pipes me edge network = refl

-- what was said is behind what was to be heard before, where the other end stands
pub said_behind : (far : Option Peering) (pipe said : List ℕ) → held_by far ++ cond (is_there far) (pipe ++ said) pipe ≡ and_more far (held_by far ++ pipe) said
said_behind None pipe said = refl
said_behind (Some kept) pipe said = sym (append_assoc kept.held pipe said)

pub settle : (P : Fact) (network : NetworkState) (me : EdgeId) (origin hops : ℕ) (work : Work) → Turns P → HoldsBut P me.0 network
    → ((place : ℕ) → nat_eq place me.0 ≡ false → LeavesFor P network me work place)
    → HoldsOfTwo P (absorb me origin hops work network).state
settle P network me origin hops work turns others own a b apart = elim (cases_Bool (nat_eq a me.0)) [
  | inl first ↦ subst (λ (k : ℕ). HoldsAt P after k b) (sym (eqb-true a me.0 first)) (from_me b (apart_back me.0 b (subst (λ (k : ℕ). nat_eq k b ≡ false) (eqb-true a me.0 first) apart)))
  | inr away ↦ elim (cases_Bool (nat_eq b me.0)) [
    | inl second ↦ turns b a _ _ _ _ (subst (λ (k : ℕ). HoldsAt P after k a) (sym (eqb-true b me.0 second)) (from_me a away))
    | inr gone ↦ moved P a b (others a b apart away gone) (other_edge a away) (other_edge b gone) (other_flight a b away gone) (other_flight b a gone away)
  ]
]
  where
    begun : NetworkState
    begun = with_edge me work.edge network

    after : NetworkState
    after = absorb_all me origin hops work.effects begun

    edges : after.edges ≡ begun.edges
    edges = all_edges me origin hops work.effects begun

    other_edge : (a : ℕ) → nat_eq a me.0 ≡ false → after.edges a ≡ network.edges a
    other_edge a away = ap (λ (f : ℕ → EdgeState). f a) edges ∙ edge_else me work.edge network a away

    own_edge : after.edges me.0 ≡ work.edge
    own_edge = ap (λ (f : ℕ → EdgeState). f me.0) edges ∙ edge_there me work.edge network

    other_flight : (a b : ℕ) → nat_eq a me.0 ≡ false → nat_eq b me.0 ≡ false → flight after a b ≡ flight network a b
    other_flight a b away gone = rw (other_edge b gone, all_apart me origin hops a b work.effects begun away gone, edge_pipes me work.edge network) refl

    out_flight : (place : ℕ) → nat_eq place me.0 ≡ false → flight after me.0 place ≡ and_more ((network.edges place).peering me.0) (flight network me.0 place) (said_to place work.effects)
    out_flight place away =
        rw (other_edge place away, all_from me origin hops place work.effects begun away, edge_else me work.edge network place away, edge_pipes me work.edge network)
        (said_behind ((network.edges place).peering me.0) (network.pipes me.0 place) (said_to place work.effects))

    back_flight : (place : ℕ) → nat_eq place me.0 ≡ false → flight after place me.0 ≡ held_by (work.edge.peering place) ++ cond (closes place work.effects) [] (network.pipes place me.0)
    back_flight place away = rw (own_edge, all_to me origin hops place work.effects begun away, edge_pipes me work.edge network) refl

    from_me : (place : ℕ) → nat_eq place me.0 ≡ false → HoldsAt P after me.0 place
    from_me place away = moved P me.0 place (own place away) own_edge (other_edge place away) (out_flight place away) (back_flight place away)

-- ---- parts of a work

-- a fact from both sides
pub both_turn : (P : Fact) → Turns (FromBoth P)
both_turn P a b one other out back fact = (fact.1, fact.0)

pub owes_same : (P : Fact) (me : EdgeId) (place : ℕ) (work : Work) → Owes P me place work work
owes_same P me place work = record { pays = λ far out more fact. fact }

pub owes_then : (P : Fact) (me : EdgeId) (place : ℕ) (a b c : Work) → Owes P me place a b → Owes P me place b c → Owes P me place a c
owes_then P me place a b c one next = record { pays = λ far out more fact. next.pays far out more (one.pays far out more fact) }

-- the fact holds when an edge begins
pub begins : (P : Fact) (network : NetworkState) (me : EdgeId) (place : ℕ) → HoldsAt P network me.0 place → LeavesFor P network me (begin_at network me) place
begins P network me place fact = rw (no_more ((network.edges place).peering me.0) (flight network me.0 place)) fact
