-- The work of an edge goes into the network, and what is told of it shows the network that it leaves.
use Rattle.std.proofs.Common.{◌≡◌, ◌++◌, ◌&&◌, ◌∙◌, not, ℕ, Bool, true, false, List, [], ◌∷◌, Option, Some, None, cond, nat_eq, refl, sym, ap, subst, inl, inr}
use Rattle.std.proofs.lemmas.Bool.{cases_Bool, eqb-true}
use Rattle.net_values.proofs.BoolLemmas.{and_false}
use Rattle.net_values.proofs.NumberLemmas.{same_number}
use Rattle.net_values.proofs.RowLemmas.{silent_either}
use Rattle.net_base.specs.declared.plan.Plan.{Plan}
use Rattle.net_base.specs.declared.plan.circuit_plan.CircuitPlan.{CircuitPlan}
use Rattle.net_base.specs.declared.plan.places.CircuitId.{CircuitId}
use Rattle.net_base.specs.declared.plan.places.EdgeId.{EdgeId}
use Rattle.net_base.specs.plan.Places.{circuit_row}
use Rattle.edge_model.specs.declared.effect.Effect.{Effect}
use Rattle.edge_model.specs.declared.effect.Effect.TheVariants as effect
use Rattle.edge_model.specs.State.{EdgeState, Peering, is_there}
use Rattle.edge_model.specs.Work.{Work}
use Rattle.flight_laws.specs.Meeting.{closes}
use Rattle.flight_laws.proofs.PipeLemmas.{all_apart, all_edges, all_from, all_to}
use Rattle.flight_laws.proofs.SettleLemmas.{edge_else, edge_pipes, edge_there}
use Rattle.flight_laws.proofs.WorkLemmas.{closes-append}
use Rattle.network_model.specs.Absorb.{absorb, absorb_all, absorb_one, all_entries_of}
use Rattle.network_model.specs.State.{NetworkState, held, held_by, stands, with_edge, with_packet, with_pipe}
use Rattle.network_model.proofs.CommonLemmas.{one_edges}
use Rattle.seen_network.specs.Seen.{Seen, is_shown_up}
use Rattle.seen_laws.specs.Shows.{IsReadyToShow, Shows, tolds}
use Rattle.seen_laws.specs.Work.{TellsChanges, is_told_ended, up_after}
use Rattle.seen_laws.proofs.SeenLemmas.{SeesPackets, ShownBy, all_show, all_way}

-- ---- the pipe of an edge to itself, which has no end

one_own : (me : EdgeId) (origin hops : ℕ) (e : Effect) (network : NetworkState) → stands network me.0 me.0 ≡ false → (absorb_one me origin hops e network).pipes me.0 me.0
    ≡ cond (closes me.0 (e ∷ [])) [] (network.pipes me.0 me.0)
unfolding with_packet with_pipe
one_own me origin hops (effect.Said peer octets) network alone = elim (cases_Bool (nat_eq me.0 peer.0)) [
  | inl same ↦ rw (sym (eqb-true me.0 peer.0 same), alone) refl
  | inr other ↦ by (stands network peer.0 me.0) other
]
  where
    by : (b : Bool) → nat_eq me.0 peer.0 ≡ false → (cond b (with_pipe me peer (network.pipes me.0 peer.0 ++ octets) network) network).pipes me.0 me.0 ≡ network.pipes me.0 me.0
    by true other = rw (same_number me.0, other) refl
    by false other = refl
one_own me origin hops (effect.Closed peer) network alone = elim (cases_Bool (nat_eq me.0 peer.0)) [
  | inl same ↦ rw (same, same_number me.0) refl
  | inr other ↦ rw other refl
]
one_own me origin hops (effect.Sent peer wire came octets) network alone = refl
one_own me origin hops (effect.Left circuit octets) network alone = refl
one_own me origin hops (effect.Dropped cause) network alone = refl
one_own me origin hops (effect.Session peer name) network alone = refl
one_own me origin hops (effect.Wire wire down) network alone = refl
one_own me origin hops (effect.Pong wire sequence) network alone = refl

all_own : (me : EdgeId) (origin hops : ℕ) (es : List Effect) (network : NetworkState) → stands network me.0 me.0 ≡ false → (absorb_all me origin hops es network).pipes me.0 me.0
    ≡ cond (closes me.0 es) [] (network.pipes me.0 me.0)
all_own me origin hops [] network alone = refl
all_own me origin hops (e ∷ es) network alone =
    let next : NetworkState = absorb_one me origin hops e network in
    all_own me origin hops es next (ap (λ (edges : ℕ → EdgeState). is_there ((edges me.0).peering me.0)) (one_edges me origin hops e network) ∙ alone)
    ∙ (ap (λ (l : List ℕ). cond (closes me.0 es) [] l) (one_own me origin hops e network alone)
    ∙ (silent_either (closes me.0 (e ∷ [])) (closes me.0 es) (network.pipes me.0 me.0) ∙ ap (λ (b : Bool). cond b [] (network.pipes me.0 me.0)) (sym (closes-append me.0 (e ∷ []) es))))

-- ---- all of the work

module _ (plan : Plan) (network : NetworkState) (me : EdgeId) (origin hops : ℕ) (work : Work) (seen : Seen) (ready : IsReadyToShow plan network me work seen) where
  abbrev begun : NetworkState
  begun = with_edge me work.edge network

  abbrev after : NetworkState
  after = absorb_all me origin hops work.effects begun

  abbrev final : Seen
  final = tolds (all_entries_of me origin hops work.effects begun) seen

  shown : ShownBy me.0 work.effects seen final
  shown = all_show me origin hops work.effects begun seen

  edges : after.edges ≡ begun.edges
  edges = all_edges me origin hops work.effects begun

  here : after.edges me.0 ≡ work.edge
  here = ap (λ (e : ℕ → EdgeState). e me.0) edges ∙ edge_there me work.edge network

  there : (a : ℕ) → nat_eq a me.0 ≡ false → after.edges a ≡ network.edges a
  there a apart = ap (λ (e : ℕ → EdgeState). e a) edges ∙ edge_else me work.edge network a apart

  pipe : (a b : ℕ) → begun.pipes a b ≡ network.pipes a b
  pipe a b = ap (λ (p : ℕ → ℕ → List ℕ). p a b) (edge_pipes me work.edge network)

  no_self : stands begun me.0 me.0 ≡ false
  no_self = ap (λ (e : EdgeState). is_there (e.peering me.0)) (edge_there me work.edge network) ∙ (sym (ready.near me.0) ∙ rw ready.alone refl)

  same_stand : (a b : ℕ) → final.stands a b ≡ stands after a b
  same_stand a b = elim (cases_Bool (nat_eq a me.0)) [
    | inl same ↦ subst (λ (n : ℕ). final.stands n b ≡ stands after n b) (sym (eqb-true a me.0 same)) (shown.near b ∙ (ready.near b ∙ ap (λ (e : EdgeState). is_there (e.peering b)) (sym here)))
    | inr apart ↦ shown.far a b apart ∙ (ready.far a b apart ∙ ap (λ (e : EdgeState). is_there (e.peering b)) (sym (there a apart)))
  ]

  same_rest : (a b : ℕ) → final.rests a b ≡ held after a b
  same_rest a b = elim (cases_Bool (nat_eq a me.0)) [
    | inl same ↦ subst (λ (n : ℕ). final.rests n b ≡ held after n b) (sym (eqb-true a me.0 same)) (shown.rest b ∙ (ready.rest b ∙ ap (λ (e : EdgeState). held_by (e.peering b)) (sym here)))
    | inr apart ↦ shown.rests a b apart ∙ (ready.rests a b apart ∙ ap (λ (e : EdgeState). held_by (e.peering b)) (sym (there a apart)))
  ]

  same_up : (a wire : ℕ) → final.up a wire ≡ is_shown_up ((after.edges a).told_down wire)
  same_up a wire = elim (cases_Bool (nat_eq a me.0)) [
    | inl same ↦ subst (λ (n : ℕ). final.up n wire ≡ is_shown_up ((after.edges n).told_down wire)) (sym (eqb-true a me.0 same))
        (shown.up wire ∙ (ready.up wire ∙ ap (λ (e : EdgeState). is_shown_up (e.told_down wire)) (sym here)))
    | inr apart ↦ shown.ups a wire apart ∙ (ready.ups a wire apart ∙ ap (λ (e : EdgeState). is_shown_up (e.told_down wire)) (sym (there a apart)))
  ]

  own_pipe : final.pipes me.0 me.0 ≡ after.pipes me.0 me.0
  own_pipe = shown.own ready.alone ∙ (ready.inward me.0 ∙ (ap (λ (l : List ℕ). cond (closes me.0 work.effects) [] l) (sym (pipe me.0 me.0)) ∙ sym (all_own me origin hops work.effects begun no_self)))

  pipe_out : (b : ℕ) → nat_eq b me.0 ≡ false → final.pipes me.0 b ≡ after.pipes me.0 b
  pipe_out b other = shown.outward b other
      ∙ (rw (ready.outward me.0 b other, ready.far b me.0 other, sym (pipe me.0 b), sym (ap (λ (e : EdgeState). is_there (e.peering me.0)) (edge_else me work.edge network b other)))
      (sym (all_from me origin hops b work.effects begun other)))

  pipe_in : (a : ℕ) → nat_eq a me.0 ≡ false → final.pipes a me.0 ≡ after.pipes a me.0
  pipe_in a apart = shown.inward a apart ∙ (ready.inward a ∙ (ap (λ (l : List ℕ). cond (closes a work.effects) [] l) (sym (pipe a me.0)) ∙ sym (all_to me origin hops a work.effects begun apart)))

  same_pipe : (a b : ℕ) → final.pipes a b ≡ after.pipes a b
  same_pipe a b = elim (cases_Bool (nat_eq a me.0)) [
    | inl same ↦ subst (λ (n : ℕ). final.pipes n b ≡ after.pipes n b) (sym (eqb-true a me.0 same)) (elim (cases_Bool (nat_eq b me.0)) [
      | inl own ↦ subst (λ (n : ℕ). final.pipes me.0 n ≡ after.pipes me.0 n) (sym (eqb-true b me.0 own)) own_pipe
      | inr other ↦ pipe_out b other
    ])
    | inr apart ↦ elim (cases_Bool (nat_eq b me.0)) [
      | inl own ↦ subst (λ (n : ℕ). final.pipes a n ≡ after.pipes a n) (sym (eqb-true b me.0 own)) (pipe_in a apart)
      | inr other ↦ shown.apart a b apart other ∙ (ready.outward a b other ∙ (sym (pipe a b) ∙ sym (all_apart me origin hops a b work.effects begun apart other)))
    ]
  ]

  sees_begun : SeesPackets begun seen
  unfolding with_edge
  sees_begun = record { under_way = ready.under_way; counted = ready.counted }

  sees : SeesPackets after final
  sees = all_way me origin hops work.effects begun seen sees_begun

  pub absorb_shows : Shows plan (absorb me origin hops work network).state (tolds (absorb me origin hops work network).entries seen)
  absorb_shows = record {
    standing = same_stand;
    pipes = same_pipe;
    rests = same_rest;
    up = same_up;
    on = λ circuit row is. ap (λ (f : ℕ → Bool). f circuit.0) shown.on ∙ (ready.on circuit row is ∙ ap (λ (e : ℕ → EdgeState). (e row.edge.0).circuit_on circuit.0) (sym edges));
    under_way = sees.under_way;
    counted = sees.counted;
  }

-- ---- work that tells what it makes of the edge

pub rest_of : (gone : Bool) (old new : Option Peering) → is_there new ≡ (is_there old && not gone) → (is_there new ≡ true → held_by new ≡ held_by old) → cond gone [] (held_by old) ≡ held_by new
rest_of true old None there kept = refl
rest_of true old (Some x) there kept = absurd (cc (there ∙ and_false (is_there old)))
rest_of false None None there kept = refl
rest_of false (Some y) None there kept = absurd (cc there)
rest_of false old (Some x) there kept = sym (kept refl)

-- the edge at work before its sessions and its ends do anything: nothing was given out, and its connections and wires are those before
pub record BeginsFrom (network : NetworkState) (me : EdgeId) (first : Work) : Type 0 where
  pub effects : first.effects ≡ []
  pub peering : first.edge.peering ≡ (network.edges me.0).peering
  pub downs : first.edge.told_down ≡ (network.edges me.0).told_down

abbrev pub OnAfter : Plan → NetworkState → EdgeId → Work → Seen → Type 0
OnAfter plan network me work seen = (circuit : CircuitId) (row : CircuitPlan) → circuit_row plan circuit ≡ Some row → seen.on circuit.0
    ≡ ((with_edge me work.edge network).edges row.edge.0).circuit_on circuit.0

-- no circuit was turned on or off
pub on_still : (plan : Plan) (network : NetworkState) (me : EdgeId) (work : Work) (seen : Seen)
    → ((circuit : CircuitId) (row : CircuitPlan) → circuit_row plan circuit ≡ Some row → seen.on circuit.0 ≡ (network.edges row.edge.0).circuit_on circuit.0) → work.edge.circuit_on
    ≡ (network.edges me.0).circuit_on → OnAfter plan network me work seen
on_still plan network me work seen on same circuit row is = on circuit row is ∙ sym (by row.edge.0) where
  by : (a : ℕ) → ((with_edge me work.edge network).edges a).circuit_on circuit.0 ≡ (network.edges a).circuit_on circuit.0
  by a = elim (cases_Bool (nat_eq a me.0)) [
    | inl here ↦ subst (λ (n : ℕ). ((with_edge me work.edge network).edges n).circuit_on circuit.0 ≡ (network.edges n).circuit_on circuit.0) (sym (eqb-true a me.0 here))
        (ap (λ (e : EdgeState). e.circuit_on circuit.0) (edge_there me work.edge network) ∙ ap (λ (f : ℕ → Bool). f circuit.0) same)
    | inr apart ↦ ap (λ (e : EdgeState). e.circuit_on circuit.0) (edge_else me work.edge network a apart)
  ]

module _ (plan : Plan) (network : NetworkState) (me : EdgeId) (first work : Work) (seen : Seen) (shows : Shows plan network seen) (begins : BeginsFrom network me first) (none : ℕ → Bool) (tells : TellsChanges none first work)
    (kept : (k : ℕ) → is_there (work.edge.peering k) ≡ true → held_by (work.edge.peering k) ≡ held_by ((network.edges me.0).peering k)) (alone : stands network me.0 me.0 ≡ false) (turned : ℕ → Bool) (on : OnAfter plan network me work (record seen { on = turned })) where
  effects : work.effects ≡ tells.more
  effects = tells.given ∙ ap (λ (l : List Effect). l ++ tells.more) begins.effects

  stood : (k : ℕ) → is_there (work.edge.peering k) ≡ (is_there ((network.edges me.0).peering k) && not (is_told_ended k work.effects))
  stood k = tells.stands k ∙ (ap (λ (p : ℕ → Option Peering). is_there (p k) && not (is_told_ended k tells.more)) begins.peering
      ∙ ap (λ (es : List Effect). is_there ((network.edges me.0).peering k) && not (is_told_ended k es)) (sym effects))

  -- whatever circuits are seen on
  pub works_ready : IsReadyToShow plan network me work (record seen { on = turned })
  works_ready = record {
    alone = shows.standing me.0 me.0 ∙ alone;
    near = λ k. ap (λ (b : Bool). b && not (is_told_ended k work.effects)) (shows.standing me.0 k) ∙ sym (stood k);
    far = λ a b apart. shows.standing a b;
    inward = λ k. rw (shows.pipes k me.0, ap (closes k) effects, ap (is_told_ended k) effects, tells.shut k) refl;
    outward = λ a b other. shows.pipes a b;
    rest = λ k. ap (λ (l : List ℕ). cond (is_told_ended k work.effects) [] l) (shows.rests me.0 k) ∙ rest_of (is_told_ended k work.effects) ((network.edges me.0).peering k) (work.edge.peering k) (stood k) (kept k);
    rests = λ a b apart. shows.rests a b;
    up = λ wire. rw (shows.up me.0 wire, effects) (sym
        (tells.up wire ∙ ap (λ (d : ℕ → Option Rattle.net_base.specs.declared.trace.down.Down.Down). up_after wire tells.more (is_shown_up (d wire))) begins.downs));
    ups = λ a wire apart. shows.up a wire;
    on = on;
    under_way = shows.under_way;
    counted = shows.counted;
  }

-- no edge has an end towards itself then
pub ready_alone : (plan : Plan) (network : NetworkState) (me : EdgeId) (origin hops : ℕ) (work : Work) (seen : Seen) → IsReadyToShow plan network me work seen
    → ((a : ℕ) → stands network a a ≡ false) → (a : ℕ) → stands (absorb me origin hops work network).state a a ≡ false
ready_alone plan network me origin hops work seen ready alone a = elim (cases_Bool (nat_eq a me.0)) [
  | inl same ↦ subst (λ (n : ℕ). stands (absorb me origin hops work network).state n n ≡ false) (sym (eqb-true a me.0 same))
      (ap (λ (e : ℕ → EdgeState). is_there ((e me.0).peering me.0)) edges
      ∙ (ap (λ (e : EdgeState). is_there (e.peering me.0)) (edge_there me work.edge network) ∙ (sym (ready.near me.0) ∙ rw ready.alone refl)))
  | inr apart ↦ ap (λ (e : ℕ → EdgeState). is_there ((e a).peering a)) edges ∙ (ap (λ (e : EdgeState). is_there (e.peering a)) (edge_else me work.edge network a apart) ∙ alone a)
]
  where
    edges : (absorb me origin hops work network).state.edges ≡ (with_edge me work.edge network).edges
    edges = all_edges me origin hops work.effects (with_edge me work.edge network)
