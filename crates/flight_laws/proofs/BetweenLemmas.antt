-- The work of two edges between which a connection comes up goes into the network, and a fact of two edges holds again: once for
-- every fact.
use Rattle.std.proofs.Common.{◌≡◌, ◌++◌, ◌∙◌, ℕ, false, cond, nat_eq, List, [], Option, refl, sym, ap, subst, inl, inr}
use Rattle.std.proofs.lemmas.Bool.{cases_Bool, eqb-true}
use Rattle.net_values.proofs.NumberLemmas.{apart_back}
use Rattle.net_base.specs.declared.plan.places.EdgeId.{EdgeId}
use Rattle.edge_model.specs.State.{EdgeState, Peering, is_there}
use Rattle.edge_model.specs.Work.{Work}
use Rattle.network_model.specs.Absorb.{absorb_all}
use Rattle.network_model.specs.Connection.{connecting}
use Rattle.network_model.specs.State.{NetworkState, held_by, with_edge}
use Rattle.flight_laws.specs.Coming.{and_more}
use Rattle.flight_laws.specs.Facts.{Fact, HoldsAt, HoldsOfTwo, LeavesFor, Turns, flight}
use Rattle.flight_laws.specs.Meeting.{closes, said_to}
use Rattle.flight_laws.proofs.PipeLemmas.{all_apart, all_edges, all_from, all_to}
use Rattle.flight_laws.proofs.SettleLemmas.{edge_else, edge_pipes, edge_there, moved, said_behind}

-- the octets from the first to the second, and back
unfoldable pub out_between : Option Peering → Work → Work → EdgeId → EdgeId → List ℕ → List ℕ
out_between far first second from to pipe = held_by far ++ cond (closes from.0 second.effects) [] (cond (is_there far) (pipe ++ said_to to.0 first.effects) pipe)

unfoldable pub back_between : Option Peering → Work → Work → EdgeId → EdgeId → List ℕ → List ℕ
back_between near first second from to pipe = held_by near ++ cond (is_there near) (cond (closes to.0 first.effects) [] pipe ++ said_to from.0 second.effects)
    (cond (closes to.0 first.effects) [] pipe)

-- what a work leaves for each place but its peer
abbrev pub LeavesOthers : Fact → NetworkState → EdgeId → EdgeId → Work → Type 0
LeavesOthers P network me peer work = (place : ℕ) → nat_eq place me.0 ≡ false → nat_eq place peer.0 ≡ false → LeavesFor P network me work place

pub connected_two : (P : Fact) (network : NetworkState) (from to : EdgeId) (first second : Work) → Turns P → nat_eq from.0 to.0 ≡ false → HoldsOfTwo P network
    → LeavesOthers P network from to first → LeavesOthers P network to from second
    → P from.0 to.0 first.edge second.edge (out_between (second.edge.peering from.0) first second from to (network.pipes from.0 to.0))
    (back_between (first.edge.peering to.0) first second from to (network.pipes to.0 from.0))
    → HoldsOfTwo P (connecting from first to second network).state
unfolding out_between back_between
connected_two P network from to first second turns between two one_others other_others pair a b apart = elim (cases_Bool (nat_eq a from.0)) [
  | inl is ↦ subst (λ (k : ℕ). HoldsAt P after k b) (sym (eqb-true a from.0 is)) (from_first b (apart_back from.0 b (subst (λ (k : ℕ). nat_eq k b ≡ false) (eqb-true a from.0 is) apart)))
  | inr away ↦ elim (cases_Bool (nat_eq b from.0)) [
    | inl is ↦ turns b a _ _ _ _ (subst (λ (k : ℕ). HoldsAt P after k a) (sym (eqb-true b from.0 is)) (from_first a away))
    | inr gone ↦ elim (cases_Bool (nat_eq a to.0)) [
      | inl is ↦ subst (λ (k : ℕ). HoldsAt P after k b) (sym (eqb-true a to.0 is)) (from_second b gone (apart_back to.0 b (subst (λ (k : ℕ). nat_eq k b ≡ false) (eqb-true a to.0 is) apart)))
      | inr here ↦ elim (cases_Bool (nat_eq b to.0)) [
        | inl is ↦ turns b a _ _ _ _ (subst (λ (k : ℕ). HoldsAt P after k a) (sym (eqb-true b to.0 is)) (from_second a away here))
        | inr there ↦ moved P a b (two a b apart) (other_edge a away here) (other_edge b gone there) (other_flight a b away here gone there) (other_flight b a gone there away here)
      ]
    ]
  ]
]
  where
    held_edge : NetworkState
    held_edge = with_edge from first.edge network

    begun : NetworkState
    begun = with_edge to second.edge held_edge

    middle : NetworkState
    middle = absorb_all from 0 0 first.effects begun

    after : NetworkState
    after = absorb_all to 0 0 second.effects middle

    edges : after.edges ≡ begun.edges
    edges = all_edges to 0 0 second.effects middle ∙ all_edges from 0 0 first.effects begun

    begun_first : begun.edges from.0 ≡ first.edge
    begun_first = edge_else to second.edge held_edge from.0 between ∙ edge_there from first.edge network

    begun_else : (k : ℕ) → nat_eq k from.0 ≡ false → nat_eq k to.0 ≡ false → begun.edges k ≡ network.edges k
    begun_else k away here = edge_else to second.edge held_edge k here ∙ edge_else from first.edge network k away

    pipes : begun.pipes ≡ network.pipes
    pipes = edge_pipes to second.edge held_edge ∙ edge_pipes from first.edge network

    other_edge : (a : ℕ) → nat_eq a from.0 ≡ false → nat_eq a to.0 ≡ false → after.edges a ≡ network.edges a
    other_edge a away here = ap (λ (f : ℕ → EdgeState). f a) edges ∙ begun_else a away here

    first_edge : after.edges from.0 ≡ first.edge
    first_edge = ap (λ (f : ℕ → EdgeState). f from.0) edges ∙ begun_first

    second_edge : after.edges to.0 ≡ second.edge
    second_edge = ap (λ (f : ℕ → EdgeState). f to.0) edges ∙ edge_there to second.edge held_edge

    other_flight : (a b : ℕ) → nat_eq a from.0 ≡ false → nat_eq a to.0 ≡ false → nat_eq b from.0 ≡ false → nat_eq b to.0 ≡ false → flight after a b ≡ flight network a b
    other_flight a b away here gone there =
        rw (other_edge b gone there, all_apart to 0 0 a b second.effects middle here there, all_apart from 0 0 a b first.effects begun away gone, pipes) refl

    -- between the two
    out_is : flight after from.0 to.0 ≡ held_by (second.edge.peering from.0) ++ cond (closes from.0 second.effects) []
        (cond (is_there (second.edge.peering from.0)) (network.pipes from.0 to.0 ++ said_to to.0 first.effects) (network.pipes from.0 to.0))
    out_is = rw (
      second_edge,
      all_to to 0 0 from.0 second.effects middle between,
      all_from from 0 0 to.0 first.effects begun (apart_back from.0 to.0 between),
      edge_there to second.edge held_edge,
      pipes,
    ) refl

    middle_first : is_there ((middle.edges from.0).peering to.0) ≡ is_there (first.edge.peering to.0)
    middle_first = ap (λ (f : ℕ → EdgeState). is_there ((f from.0).peering to.0)) (all_edges from 0 0 first.effects begun) ∙ ap (λ (e : EdgeState). is_there (e.peering to.0)) begun_first

    back_is : flight after to.0 from.0 ≡ held_by (first.edge.peering to.0) ++ cond (is_there (first.edge.peering to.0))
        (cond (closes to.0 first.effects) [] (network.pipes to.0 from.0) ++ said_to from.0 second.effects) (cond (closes to.0 first.effects) [] (network.pipes to.0 from.0))
    back_is = rw (first_edge, all_from to 0 0 from.0 second.effects middle between, middle_first, all_to from 0 0 to.0 first.effects begun (apart_back from.0 to.0 between), pipes) refl

    -- of the first and another one
    first_out : (c : ℕ) → nat_eq c from.0 ≡ false → nat_eq c to.0 ≡ false → flight after from.0 c ≡ and_more ((network.edges c).peering from.0) (flight network from.0 c) (said_to c first.effects)
    first_out c away here =
        rw (other_edge c away here, all_apart to 0 0 from.0 c second.effects middle between here, all_from from 0 0 c first.effects begun away, begun_else c away here, pipes)
        (said_behind ((network.edges c).peering from.0) (network.pipes from.0 c) (said_to c first.effects))

    first_back : (c : ℕ) → nat_eq c from.0 ≡ false → nat_eq c to.0 ≡ false → flight after c from.0 ≡ held_by (first.edge.peering c) ++ cond (closes c first.effects) [] (network.pipes c from.0)
    first_back c away here = rw (first_edge, all_apart to 0 0 c from.0 second.effects middle here between, all_to from 0 0 c first.effects begun away, pipes) refl

    -- of the second and another one
    middle_else : (c : ℕ) → nat_eq c from.0 ≡ false → nat_eq c to.0 ≡ false → middle.edges c ≡ network.edges c
    middle_else c away here = ap (λ (f : ℕ → EdgeState). f c) (all_edges from 0 0 first.effects begun) ∙ begun_else c away here

    second_out : (c : ℕ) → nat_eq c from.0 ≡ false → nat_eq c to.0 ≡ false → flight after to.0 c ≡ and_more ((network.edges c).peering to.0) (flight network to.0 c) (said_to c second.effects)
    second_out c away here =
        rw (other_edge c away here, all_from to 0 0 c second.effects middle here, middle_else c away here, all_apart from 0 0 to.0 c first.effects begun (apart_back from.0 to.0 between) away, pipes)
        (said_behind ((network.edges c).peering to.0) (network.pipes to.0 c) (said_to c second.effects))

    second_back : (c : ℕ) → nat_eq c from.0 ≡ false → nat_eq c to.0 ≡ false → flight after c to.0 ≡ held_by (second.edge.peering c) ++ cond (closes c second.effects) [] (network.pipes c to.0)
    second_back c away here = rw (second_edge, all_to to 0 0 c second.effects middle here, all_apart from 0 0 c to.0 first.effects begun away (apart_back from.0 to.0 between), pipes) refl

    from_first : (c : ℕ) → nat_eq c from.0 ≡ false → HoldsAt P after from.0 c
    from_first c away = elim (cases_Bool (nat_eq c to.0)) [
      | inl is ↦ subst (λ (k : ℕ). HoldsAt P after from.0 k) (sym (eqb-true c to.0 is)) (moved P from.0 to.0 pair first_edge second_edge out_is back_is)
      | inr here ↦ moved P from.0 c (one_others c away here) first_edge (other_edge c away here) (first_out c away here) (first_back c away here)
    ]

    from_second : (c : ℕ) → nat_eq c from.0 ≡ false → nat_eq c to.0 ≡ false → HoldsAt P after to.0 c
    from_second c away here = moved P to.0 c (other_others c here away) second_edge (other_edge c away here) (second_out c away here) (second_back c away here)
