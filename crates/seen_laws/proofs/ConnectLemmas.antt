-- What is told of a connection that comes up shows what it makes of the network. Both ends stand before either one is told, so the
-- first one's work is put into a network in which the other edge has its later sessions already.
use Rattle.std.proofs.Common.{◌≡◌, ◌+◌, ◌++◌, ◌&&◌, ◌||◌, ◌∙◌, not, ℕ, Bool, true, false, List, [], ◌∷◌, Option, Some, None, cond, length, map, nat_eq, nat_lt, slice_get, refl, sym, ap, subst, arith, inl, inr}
use Rattle.std.proofs.lemmas.Bool.{cases_Bool, eqb-true}
use Rattle.std.proofs.lemmas.Bool.Decides.{nat_tests}
use Rattle.std.proofs.lemmas.List.Elements.{All-head, All-tail}
use Rattle.std.specs.List.{All, list_any}
use Rattle.net_values.proofs.BoolLemmas.{clash}
use Rattle.net_values.proofs.NumberLemmas.{same_number, apart_back, none_below}
use Rattle.net_base.specs.declared.plan.Plan.{Plan}
use Rattle.net_base.specs.declared.plan.edge_plan.EdgePlan.{EdgePlan}
use Rattle.net_base.specs.declared.plan.places.EdgeId.{EdgeId}
use Rattle.net_base.specs.declared.plan.wire_plan.WirePlan.{WirePlan}
use Rattle.net_base.specs.declared.trace.entry.Entry.{Entry}
use Rattle.net_base.specs.declared.trace.event.Event.TheVariants.{Connect}
use Rattle.net_base.specs.declared.trace.state_name.StateName.TheVariants as name
use Rattle.net_base.specs.plan.Accepted.{IsChecked, IsWireOf}
use Rattle.net_base.specs.plan.Paths.{are_joined, joins}
use Rattle.session_core.specs.Table as table
use Rattle.edge_model.specs.Connection.{connects, connects_between, opened_with, peers_of}
use Rattle.edge_model.specs.declared.effect.Effect.{Effect}
use Rattle.edge_model.specs.declared.effect.Effect.TheVariants as effect
use Rattle.edge_model.specs.Labels.{meeting}
use Rattle.edge_model.specs.Mend.{mends}
use Rattle.edge_model.specs.State.{EdgeState, Peering, is_there, with_kept, with_peering}
use Rattle.edge_model.specs.Work.{Work, changes, gives}
use Rattle.edge_model.proofs.MendLemmas.{mends_stands}
use Rattle.edge_model.proofs.SessionLemmas.{connects_works}
use Rattle.network_model.specs.Absorb.{absorb_all, absorb_one, all_entries_of, begin_at, entries_told, idle, taken_all}
use Rattle.network_model.specs.Connection.{connect_event, connected_work, connecting}
use Rattle.network_model.specs.State.{NetworkState, held, held_by, stands, with_edge, with_packet, with_pipe}
use Rattle.flight_laws.specs.Ends.{HasTypes, IsOrdered}
use Rattle.flight_laws.specs.Meeting.{closes}
use Rattle.flight_laws.proofs.ConnectLemmas.{ConnectsOn, connected_is, mended_on, none_there}
use Rattle.flight_laws.proofs.PipeLemmas.{all_edges}
use Rattle.flight_laws.proofs.PlanLemmas.{both_in, ends_are, joined_apart, joined_turned}
use Rattle.flight_laws.proofs.SettleLemmas.{edge_else, edge_pipes, edge_there}
use Rattle.seen_network.specs.Seen.{Seen, is_shown_up, with_standing}
use Rattle.seen_laws.specs.Events.{HasGone, IsShown, NoneAlone, WasIdle}
use Rattle.seen_laws.specs.Shows.{AreUpTo, IsReadyToShow, Shows, copy_of, tolds}
use Rattle.seen_laws.specs.Work.{TellsChanges, is_told_ended, up_after}
use Rattle.seen_laws.proofs.AbsorbLemmas.{absorb_shows, on_still, rest_of}
use Rattle.seen_laws.proofs.InputLemmas.{mends_tell, none}
use Rattle.seen_laws.proofs.SeenLemmas.{told-append, tolds-append, work_told}
use Rattle.seen_laws.proofs.TellLemmas.{gives_tell, happens_with_ends_tells, tells_then}

-- ---- networks with the same pipes, in which the same ends stand

record AreAlike (x y : NetworkState) : Type 0 where
  pipes : (a b : ℕ) → x.pipes a b ≡ y.pipes a b
  under_way : x.under_way ≡ y.under_way
  sent : x.sent ≡ y.sent
  ends : (a b : ℕ) → stands x a b ≡ stands y a b

piped_alike : (from to : EdgeId) (left right : List ℕ) (x y : NetworkState) → AreAlike x y → left ≡ right → (b c : Bool) → b ≡ c
    → AreAlike (cond b (with_pipe from to left x) x) (cond c (with_pipe from to right y) y)
unfolding with_pipe
piped_alike from to left right x y alike same true true both = record { pipes = λ a b. by a b (nat_eq a from.0) (nat_eq b to.0) refl; under_way = alike.under_way; sent = alike.sent; ends = alike.ends } where
  by : (a b : ℕ) (p q : Bool) → nat_eq a from.0 ≡ p → (cond p (λ k. cond (nat_eq k to.0) left (x.pipes from.0 k)) (x.pipes a)) b
      ≡ (cond p (λ k. cond (nat_eq k to.0) right (y.pipes from.0 k)) (y.pipes a)) b
  by a b true q is = rw (same, alike.pipes from.0 b) refl
  by a b false q is = alike.pipes a b
piped_alike from to left right x y alike same false false both = alike
piped_alike from to left right x y alike same true false both = clash (sym both)
piped_alike from to left right x y alike same false true both = clash both

one_alike : (me : EdgeId) (origin hops : ℕ) (e : Effect) (x y : NetworkState) → AreAlike x y → AreAlike (absorb_one me origin hops e x) (absorb_one me origin hops e y)
unfolding with_packet
one_alike me origin hops (effect.Said peer octets) x y alike =
    piped_alike me peer (x.pipes me.0 peer.0 ++ octets) (y.pipes me.0 peer.0 ++ octets) x y alike (ap (λ (l : List ℕ). l ++ octets) (alike.pipes me.0 peer.0)) (stands x peer.0 me.0)
    (stands y peer.0 me.0) (alike.ends peer.0 me.0)
one_alike me origin hops (effect.Closed peer) x y alike = piped_alike peer me [] [] x y alike refl true true refl
one_alike me origin hops (effect.Sent peer wire came octets) x y alike = record {
  pipes = alike.pipes;
  under_way = rw (alike.under_way, alike.sent) refl;
  sent = ap (λ (n : ℕ). n + 1) alike.sent;
  ends = alike.ends;
}
one_alike me origin hops (effect.Left circuit octets) x y alike = alike
one_alike me origin hops (effect.Dropped cause) x y alike = alike
one_alike me origin hops (effect.Session peer state) x y alike = alike
one_alike me origin hops (effect.Wire wire down) x y alike = alike
one_alike me origin hops (effect.Pong wire sequence) x y alike = alike

all_alike : (me : EdgeId) (origin hops : ℕ) (es : List Effect) (x y : NetworkState) → AreAlike x y → AreAlike (absorb_all me origin hops es x) (absorb_all me origin hops es y)
all_alike me origin hops [] x y alike = alike
all_alike me origin hops (e ∷ es) x y alike = all_alike me origin hops es (absorb_one me origin hops e x) (absorb_one me origin hops e y) (one_alike me origin hops e x y alike)

entries_alike : (me : EdgeId) (origin hops : ℕ) (es : List Effect) (x y : NetworkState) → AreAlike x y → all_entries_of me origin hops es x ≡ all_entries_of me origin hops es y
entries_alike me origin hops [] x y alike = refl
entries_alike me origin hops (e ∷ es) x y alike =
    rw (one e, entries_alike me origin hops es (absorb_one me origin hops e x) (absorb_one me origin hops e y) (one_alike me origin hops e x y alike)) refl
  where
    one : (e : Effect) → entries_told me origin hops e x ≡ entries_told me origin hops e y
    one (effect.Said peer octets) = refl
    one (effect.Sent peer wire came octets) = rw alike.sent refl
    one (effect.Left circuit octets) = refl
    one (effect.Dropped cause) = refl
    one (effect.Session peer state) = refl
    one (effect.Wire wire down) = refl
    one (effect.Pong wire sequence) = refl
    one (effect.Closed peer) = refl

edge_way : (me : EdgeId) (edge : EdgeState) (network : NetworkState) → (with_edge me edge network).under_way ≡ network.under_way
unfolding with_edge
edge_way me edge network = refl

edge_sent : (me : EdgeId) (edge : EdgeState) (network : NetworkState) → (with_edge me edge network).sent ≡ network.sent
unfolding with_edge
edge_sent me edge network = refl

-- ---- one of the two edges

-- the end stands, before anything is told
abbrev pub stood : NetworkState → EdgeId → EdgeId → Peering → Work
stood network me peer kept = changes (with_peering peer (Some kept)) (changes (meeting peer) (begin_at network me))

pub record Connects (network : NetworkState) (me peer : EdgeId) (kept : Peering) (work : Work) : Type 0 where
  pub tells : TellsChanges none (stood network me peer kept) work
  pub there : (k : ℕ) → is_there (work.edge.peering k) ≡ is_there ((stood network me peer kept).edge.peering k)

opened_tells : (peer : EdgeId) (work : Work) → TellsChanges none work (gives (effect.Session peer name.Initialized) work)
opened_tells peer work = gives_tell none (effect.Session peer name.Initialized) work (λ k. refl) (λ k. refl) (λ wire up. refl)

connects_is : (plan : Plan) (network : NetworkState) (me peer : EdgeId) (one other : EdgePlan) → IsChecked plan → HasTypes plan → IsOrdered plan network → nat_eq me.0 peer.0 ≡ false
    → slice_get plan.edges me.0 ≡ Some one → slice_get plan.edges peer.0 ≡ Some other → (network.edges me.0).peering peer.0 ≡ None
    → Connects network me peer (opened_with one other) (mends plan taken_all (connects taken_all peer (opened_with one other) (begin_at network me)))
unfolding changes with_kept with_peering
connects_is plan network me peer one other checked types ordered apart here there none_yet = record {
  tells = tells_then none first said work (opened_tells peer first)
      (tells_then none said started work (happens_with_ends_tells none taken_all peer table.Start said) (mends_tell plan taken_all started));
  there = λ k. elim (cases_Bool (nat_eq k peer.0)) [
    | inl same ↦ subst (λ (n : ℕ). is_there (work.edge.peering n) ≡ is_there (first.edge.peering n)) (sym (eqb-true k peer.0 same))
        (ap is_there opened.opened.shows.keeps ∙ rw (same_number peer.0) refl)
    | inr away ↦ mends_stands plan taken_all (record { 0 = k }) started (λ i. refl)
        ∙ (ap is_there ((connects_works taken_all (λ n. nat_eq n peer.0) peer kept (begin_at network me) (same_number peer.0)).edge.others k away) ∙ rw away refl)
  ];
}
  where
    kept : Peering
    kept = opened_with one other

    first : Work
    first = stood network me peer kept

    said : Work
    said = gives (effect.Session peer name.Initialized) first

    started : Work
    started = connects taken_all peer kept (begin_at network me)

    work : Work
    work = mends plan taken_all started

    opened : ConnectsOn plan network (peers_of one other) (peers_of other one) me peer work
    opened = mended_on plan network me peer one other checked types ordered apart (ends_are plan me.0 peer.0 one other checked types here there apart) none_yet

module _ (network : NetworkState) (me peer : EdgeId) (kept : Peering) (held_none : kept.held ≡ []) (work : Work) (on : Connects network me peer kept work) (none_yet : (network.edges me.0).peering peer.0 ≡ None) where
  abbrev first : Work
  first = stood network me peer kept

  effects : work.effects ≡ on.tells.more
  unfolding changes
  effects = on.tells.given

  told_stands : (k : ℕ) → is_there (work.edge.peering k) ≡ (is_there (first.edge.peering k) && not (is_told_ended k work.effects))
  told_stands k = on.tells.stands k ∙ ap (λ (es : List Effect). is_there (first.edge.peering k) && not (is_told_ended k es)) (sym effects)

  told_shut : (k : ℕ) → closes k work.effects ≡ is_told_ended k work.effects
  told_shut k = ap (closes k) effects ∙ (on.tells.shut k ∙ ap (is_told_ended k) (sym effects))

  told_up : (wire : ℕ) → is_shown_up (work.edge.told_down wire) ≡ up_after wire work.effects (is_shown_up ((network.edges me.0).told_down wire))
  unfolding changes with_kept with_peering
  told_up wire = on.tells.up wire ∙ ap (λ (es : List Effect). up_after wire es (is_shown_up ((network.edges me.0).told_down wire))) (sym effects)

  circuits : work.edge.circuit_on ≡ (network.edges me.0).circuit_on
  unfolding changes with_kept with_peering
  circuits = on.tells.circuits

  -- what it held of each neighbour, and of the peer nothing
  first_held : (k : ℕ) → held_by (first.edge.peering k) ≡ held_by ((network.edges me.0).peering k)
  unfolding changes with_kept with_peering
  first_held k = elim (cases_Bool (nat_eq k peer.0)) [
    | inl same ↦ rw same (held_none ∙ sym (ap (λ (n : ℕ). held_by ((network.edges me.0).peering n)) (eqb-true k peer.0 same) ∙ ap held_by none_yet))
    | inr away ↦ rw away refl
  ]

  told_rest : (k : ℕ) → cond (is_told_ended k work.effects) [] (held_by ((network.edges me.0).peering k)) ≡ held_by (work.edge.peering k)
  told_rest k = ap (λ (l : List ℕ). cond (is_told_ended k work.effects) [] l) (sym (first_held k))
      ∙ rest_of (is_told_ended k work.effects) (first.edge.peering k) (work.edge.peering k) (told_stands k) (on.tells.kept k refl)

  -- it holds the same
  still_held : (k : ℕ) → held_by ((network.edges me.0).peering k) ≡ held_by (work.edge.peering k)
  still_held k = by (first.edge.peering k) (work.edge.peering k) (first_held k) (on.there k) (on.tells.kept k refl) where
    by : (old new : Option Peering) → held_by old ≡ held_by ((network.edges me.0).peering k) → is_there new ≡ is_there old → (is_there new ≡ true → held_by new ≡ held_by old)
        → held_by ((network.edges me.0).peering k) ≡ held_by new
    by None None was same keeps = sym was
    by None (Some y) was same keeps = clash (sym same)
    by (Some x) None was same keeps = clash same
    by (Some x) (Some y) was same keeps = sym was ∙ sym (keeps refl)

-- ---- both of them

module _ (plan : Plan) (network : NetworkState) (seen : Seen) (shows : Shows plan network seen) (alone : NoneAlone network) (from to : EdgeId) (apart : nat_eq from.0 to.0 ≡ false)
    (kept other : Peering) (nothing : kept.held ≡ []) (nothing' : other.held ≡ []) (one two : Work) (here : Connects network from to kept one) (there : Connects network to from other two)
    (none_yet : (network.edges from.0).peering to.0 ≡ None) (none_yet' : (network.edges to.0).peering from.0 ≡ None) where
  away : nat_eq to.0 from.0 ≡ false
  away = apart_back from.0 to.0 apart

  abbrev both : Seen
  both = with_standing to.0 from.0 true (with_standing from.0 to.0 true seen)

  -- the second edge as it is, with its later sessions
  abbrev hybrid : EdgeState
  hybrid = record (network.edges to.0) { peering = two.edge.peering }

  abbrev start : NetworkState
  start = with_edge to hybrid network

  start_pipes : (a b : ℕ) → start.pipes a b ≡ network.pipes a b
  start_pipes a b = ap (λ (p : ℕ → ℕ → List ℕ). p a b) (edge_pipes to hybrid network)

  from_stands : (k : ℕ) → both.stands from.0 k ≡ is_there ((stood network from to kept).edge.peering k)
  unfolding with_standing changes with_kept with_peering
  from_stands k = rw (apart, same_number from.0) (by (nat_eq k to.0)) where
    by : (b : Bool) → cond b true (seen.stands from.0 k) ≡ is_there (cond b (Some kept) ((network.edges from.0).peering k))
    by true = refl
    by false = shows.standing from.0 k

  to_stands : (k : ℕ) → both.stands to.0 k ≡ is_there ((stood network to from other).edge.peering k)
  unfolding with_standing changes with_kept with_peering
  to_stands k = rw (away, same_number to.0) (by (nat_eq k from.0)) where
    by : (b : Bool) → cond b true (seen.stands to.0 k) ≡ is_there (cond b (Some other) ((network.edges to.0).peering k))
    by true = refl
    by false = shows.standing to.0 k

  else_stands : (a b : ℕ) → nat_eq a from.0 ≡ false → nat_eq a to.0 ≡ false → both.stands a b ≡ stands network a b
  unfolding with_standing
  else_stands a b gone far = rw (gone, far) (shows.standing a b)

  both_far : (a b : ℕ) → nat_eq a from.0 ≡ false → both.stands a b ≡ stands start a b
  both_far a b gone = elim (cases_Bool (nat_eq a to.0)) [
    | inl same ↦ subst (λ (n : ℕ). both.stands n b ≡ stands start n b) (sym (eqb-true a to.0 same))
        (to_stands b ∙ (sym (there.there b) ∙ ap (λ (e : EdgeState). is_there (e.peering b)) (sym (edge_there to hybrid network))))
    | inr far ↦ else_stands a b gone far ∙ ap (λ (e : EdgeState). is_there (e.peering b)) (sym (edge_else to hybrid network a far))
  ]

  start_held : (a b : ℕ) → held network a b ≡ held start a b
  start_held a b = elim (cases_Bool (nat_eq a to.0)) [
    | inl same ↦ subst (λ (n : ℕ). held network n b ≡ held start n b) (sym (eqb-true a to.0 same))
        (still_held network to from other nothing' two there none_yet' b ∙ ap (λ (e : EdgeState). held_by (e.peering b)) (sym (edge_there to hybrid network)))
    | inr far ↦ ap (λ (e : EdgeState). held_by (e.peering b)) (sym (edge_else to hybrid network a far))
  ]

  start_up : (a wire : ℕ) → is_shown_up ((network.edges a).told_down wire) ≡ is_shown_up ((start.edges a).told_down wire)
  start_up a wire = elim (cases_Bool (nat_eq a to.0)) [
    | inl same ↦ subst (λ (n : ℕ). is_shown_up ((network.edges n).told_down wire) ≡ is_shown_up ((start.edges n).told_down wire)) (sym (eqb-true a to.0 same))
        (ap (λ (e : EdgeState). is_shown_up (e.told_down wire)) (sym (edge_there to hybrid network)))
    | inr far ↦ ap (λ (e : EdgeState). is_shown_up (e.told_down wire)) (sym (edge_else to hybrid network a far))
  ]

  start_on : (a c : ℕ) → (network.edges a).circuit_on c ≡ (start.edges a).circuit_on c
  start_on a c = elim (cases_Bool (nat_eq a to.0)) [
    | inl same ↦ subst (λ (n : ℕ). (network.edges n).circuit_on c ≡ (start.edges n).circuit_on c) (sym (eqb-true a to.0 same))
        (ap (λ (e : EdgeState). e.circuit_on c) (sym (edge_there to hybrid network)))
    | inr far ↦ ap (λ (e : EdgeState). e.circuit_on c) (sym (edge_else to hybrid network a far))
  ]

  start_from : start.edges from.0 ≡ network.edges from.0
  start_from = edge_else to hybrid network from.0 apart

  start_way : start.under_way ≡ network.under_way
  unfolding with_edge
  start_way = refl

  first_ready : IsReadyToShow plan start from one both
  unfolding with_standing
  first_ready = record {
    alone = rw (apart, same_number from.0) (shows.standing from.0 from.0 ∙ alone from.0);
    near = λ k. ap (λ (b : Bool). b && not (is_told_ended k one.effects)) (from_stands k) ∙ sym (told_stands network from to kept nothing one here none_yet k);
    far = both_far;
    inward = λ k. rw (shows.pipes k from.0, start_pipes k from.0, told_shut network from to kept nothing one here none_yet k) refl;
    outward = λ a b gone. shows.pipes a b ∙ sym (start_pipes a b);
    rest = λ k. ap (λ (l : List ℕ). cond (is_told_ended k one.effects) [] l) (shows.rests from.0 k) ∙ told_rest network from to kept nothing one here none_yet k;
    rests = λ a b gone. shows.rests a b ∙ start_held a b;
    up = λ wire. ap (up_after wire one.effects) (shows.up from.0 wire) ∙ sym (told_up network from to kept nothing one here none_yet wire);
    ups = λ a wire gone. shows.up a wire ∙ start_up a wire;
    on = on_still plan start from one both (λ circuit row is. shows.on circuit row is ∙ start_on row.edge.0 circuit.0)
        (circuits network from to kept nothing one here none_yet ∙ ap (λ (e : EdgeState). e.circuit_on) (sym start_from));
    under_way = shows.under_way ∙ ap (map copy_of) (sym start_way);
    counted = subst (λ (n : ℕ). AreUpTo n seen.under_way) (sym (edge_sent to hybrid network)) shows.counted;
  }

  -- ---- the second one

  abbrev middle : NetworkState
  middle = absorb_all from 0 0 one.effects (with_edge from one.edge start)

  abbrev between : Seen
  between = tolds (all_entries_of from 0 0 one.effects (with_edge from one.edge start)) both

  middle_shows : Shows plan middle between
  middle_shows = absorb_shows plan start from 0 0 one both first_ready

  middle_edges : middle.edges ≡ (with_edge from one.edge start).edges
  middle_edges = all_edges from 0 0 one.effects (with_edge from one.edge start)

  middle_to : middle.edges to.0 ≡ hybrid
  middle_to = ap (λ (e : ℕ → EdgeState). e to.0) middle_edges ∙ (edge_else from one.edge start to.0 away ∙ edge_there to hybrid network)

  -- an end that stands then was not told to have ended
  stays_same : (b old gone : Bool) → b ≡ old → b ≡ (old && not gone) → (b && not gone) ≡ b
  stays_same b old gone same is = ap (λ (x : Bool). x && not gone) same ∙ sym is

  nothing_held : (gone : Bool) (o : Option Peering) → (is_there o && not gone) ≡ is_there o → cond gone [] (held_by o) ≡ held_by o
  nothing_held true None is = refl
  nothing_held true (Some x) is = clash is
  nothing_held false o is = refl

  still : (k : ℕ) → (is_there (two.edge.peering k) && not (is_told_ended k two.effects)) ≡ is_there (two.edge.peering k)
  still k = stays_same (is_there (two.edge.peering k)) (is_there ((stood network to from other).edge.peering k)) (is_told_ended k two.effects) (there.there k)
      (told_stands network to from other nothing' two there none_yet' k)

  at_to : (k : ℕ) → between.stands to.0 k ≡ is_there (two.edge.peering k)
  at_to k = middle_shows.standing to.0 k ∙ ap (λ (e : EdgeState). is_there (e.peering k)) middle_to

  to_alone : both.stands to.0 to.0 ≡ false
  unfolding with_standing
  to_alone = rw (away, same_number to.0) (shows.standing to.0 to.0 ∙ alone to.0)

  second_ready : IsReadyToShow plan middle to two between
  second_ready = record {
    alone = at_to to.0 ∙ (there.there to.0 ∙ (sym (to_stands to.0) ∙ to_alone));
    near = λ k. ap (λ (b : Bool). b && not (is_told_ended k two.effects)) (at_to k) ∙ still k;
    far = λ a b gone. middle_shows.standing a b;
    inward = λ k. rw (middle_shows.pipes k to.0, told_shut network to from other nothing' two there none_yet' k) refl;
    outward = λ a b gone. middle_shows.pipes a b;
    rest = λ k. ap (λ (l : List ℕ). cond (is_told_ended k two.effects) [] l) (middle_shows.rests to.0 k ∙ ap (λ (e : EdgeState). held_by (e.peering k)) middle_to)
        ∙ nothing_held (is_told_ended k two.effects) (two.edge.peering k) (still k);
    rests = λ a b gone. middle_shows.rests a b;
    up = λ wire. ap (up_after wire two.effects) (middle_shows.up to.0 wire ∙ ap (λ (e : EdgeState). is_shown_up (e.told_down wire)) middle_to)
        ∙ sym (told_up network to from other nothing' two there none_yet' wire);
    ups = λ a wire gone. middle_shows.up a wire;
    on = on_still plan middle to two between middle_shows.on (circuits network to from other nothing' two there none_yet' ∙ ap (λ (e : EdgeState). e.circuit_on) (sym middle_to));
    under_way = middle_shows.under_way;
    counted = middle_shows.counted;
  }

  -- ---- and so it is where both edges are there from the first

  abbrev begun : NetworkState
  begun = with_edge to two.edge (with_edge from one.edge network)

  abbrev first_done : NetworkState
  first_done = absorb_all from 0 0 one.effects begun

  abbrev later : NetworkState
  later = with_edge to two.edge middle

  begun_to : begun.edges to.0 ≡ two.edge
  begun_to = edge_there to two.edge (with_edge from one.edge network)

  begun_else : (a : ℕ) → nat_eq a to.0 ≡ false → begun.edges a ≡ (with_edge from one.edge start).edges a
  begun_else a far = edge_else to two.edge (with_edge from one.edge network) a far ∙ elim (cases_Bool (nat_eq a from.0)) [
    | inl same ↦ subst (λ (n : ℕ). (with_edge from one.edge network).edges n ≡ (with_edge from one.edge start).edges n) (sym (eqb-true a from.0 same))
        (edge_there from one.edge network ∙ sym (edge_there from one.edge start))
    | inr gone ↦ edge_else from one.edge network a gone ∙ (sym (edge_else to hybrid network a far) ∙ sym (edge_else from one.edge start a gone))
  ]

  begun_alike : AreAlike begun (with_edge from one.edge start)
  begun_alike = record {
    pipes = λ a b. ap (λ (p : ℕ → ℕ → List ℕ). p a b)
        (edge_pipes to two.edge (with_edge from one.edge network) ∙ (edge_pipes from one.edge network ∙ (sym (edge_pipes to hybrid network) ∙ sym (edge_pipes from one.edge start))));
    under_way = same_way;
    sent = same_sent;
    ends = λ a b. elim (cases_Bool (nat_eq a to.0)) [
      | inl same ↦ subst (λ (n : ℕ). stands begun n b ≡ stands (with_edge from one.edge start) n b) (sym (eqb-true a to.0 same))
          (ap (λ (e : EdgeState). is_there (e.peering b)) begun_to ∙ ap (λ (e : EdgeState). is_there (e.peering b)) (sym (edge_else from one.edge start to.0 away ∙ edge_there to hybrid network)))
      | inr far ↦ ap (λ (e : EdgeState). is_there (e.peering b)) (begun_else a far)
    ];
  }
    where
      same_way : begun.under_way ≡ (with_edge from one.edge start).under_way
      same_way = edge_way to two.edge (with_edge from one.edge network) ∙ (edge_way from one.edge network ∙ (sym (edge_way to hybrid network) ∙ sym (edge_way from one.edge start)))

      same_sent : begun.sent ≡ (with_edge from one.edge start).sent
      same_sent = edge_sent to two.edge (with_edge from one.edge network) ∙ (edge_sent from one.edge network ∙ (sym (edge_sent to hybrid network) ∙ sym (edge_sent from one.edge start)))

  first_alike : AreAlike first_done middle
  first_alike = all_alike from 0 0 one.effects begun (with_edge from one.edge start) begun_alike

  first_edges : first_done.edges ≡ begun.edges
  first_edges = all_edges from 0 0 one.effects begun

  later_alike : AreAlike first_done later
  later_alike = record {
    pipes = λ a b. first_alike.pipes a b ∙ ap (λ (p : ℕ → ℕ → List ℕ). p a b) (sym (edge_pipes to two.edge middle));
    under_way = first_alike.under_way ∙ sym (edge_way to two.edge middle);
    sent = first_alike.sent ∙ sym (edge_sent to two.edge middle);
    ends = λ a b. elim (cases_Bool (nat_eq a to.0)) [
      | inl same ↦ subst (λ (n : ℕ). stands first_done n b ≡ stands later n b) (sym (eqb-true a to.0 same))
          (ap (λ (e : EdgeState). is_there (e.peering b)) (ap (λ (e : ℕ → EdgeState). e to.0) first_edges ∙ (begun_to ∙ sym (edge_there to two.edge middle))))
      | inr far ↦ first_alike.ends a b ∙ ap (λ (e : EdgeState). is_there (e.peering b)) (sym (edge_else to two.edge middle a far))
    ];
  }

  abbrev done : NetworkState
  done = absorb_all to 0 0 two.effects first_done

  abbrev shown_done : NetworkState
  shown_done = absorb_all to 0 0 two.effects later

  done_alike : AreAlike done shown_done
  done_alike = all_alike to 0 0 two.effects first_done later later_alike

  done_edges : (a : ℕ) → shown_done.edges a ≡ done.edges a
  done_edges a = ap (λ (e : ℕ → EdgeState). e a) (all_edges to 0 0 two.effects later) ∙ (by ∙ sym (ap (λ (e : ℕ → EdgeState). e a) (all_edges to 0 0 two.effects first_done ∙ first_edges))) where
    by : later.edges a ≡ begun.edges a
    by = elim (cases_Bool (nat_eq a to.0)) [
      | inl same ↦ subst (λ (n : ℕ). later.edges n ≡ begun.edges n) (sym (eqb-true a to.0 same)) (edge_there to two.edge middle ∙ sym begun_to)
      | inr far ↦ edge_else to two.edge middle a far ∙ (ap (λ (e : ℕ → EdgeState). e a) middle_edges ∙ sym (begun_else a far))
    ]

  abbrev entries : List Entry
  entries = all_entries_of from 0 0 one.effects begun ++ all_entries_of to 0 0 two.effects first_done

  same_seen : tolds (all_entries_of to 0 0 two.effects later) between ≡ tolds entries both
  same_seen = ap (λ (es : List Entry). tolds es between) (sym (entries_alike to 0 0 two.effects first_done later later_alike))
      ∙ (ap (λ (es : List Entry). tolds (all_entries_of to 0 0 two.effects first_done) (tolds es both)) (sym (entries_alike from 0 0 one.effects begun (with_edge from one.edge start) begun_alike))
      ∙ sym (tolds-append (all_entries_of from 0 0 one.effects begun) (all_entries_of to 0 0 two.effects first_done) both))

  second_shows : Shows plan shown_done (tolds (all_entries_of to 0 0 two.effects later) between)
  second_shows = absorb_shows plan middle to 0 0 two between second_ready

  moved : (s : Seen) → Shows plan shown_done s → Shows plan done s
  moved s is = record {
    standing = λ a b. is.standing a b ∙ ap (λ (e : EdgeState). is_there (e.peering b)) (done_edges a);
    pipes = λ a b. is.pipes a b ∙ sym (done_alike.pipes a b);
    rests = λ a b. is.rests a b ∙ ap (λ (e : EdgeState). held_by (e.peering b)) (done_edges a);
    up = λ a wire. is.up a wire ∙ ap (λ (e : EdgeState). is_shown_up (e.told_down wire)) (done_edges a);
    on = λ circuit row at. is.on circuit row at ∙ ap (λ (e : EdgeState). e.circuit_on circuit.0) (done_edges row.edge.0);
    under_way = is.under_way ∙ ap (map copy_of) (sym done_alike.under_way);
    counted = subst (λ (n : ℕ). AreUpTo n s.under_way) (sym done_alike.sent) is.counted;
  }

  pub connecting_shown : IsShown plan (Connect from to) network seen (connecting from one to two network)
  connecting_shown = HasGone
      (told-append (all_entries_of from 0 0 one.effects begun) (all_entries_of to 0 0 two.effects first_done) (work_told from 0 0 one.effects begun) (work_told to 0 0 two.effects first_done))
      (subst (Shows plan done) same_seen (moved (tolds (all_entries_of to 0 0 two.effects later) between) second_shows))

-- ---- joined edges are edges of the plan

some_joined : (plan : Plan) (a b : ℕ) (rows : List WirePlan) → All (IsWireOf plan) rows → list_any (λ row. joins a b row.path) rows ≡ true → (nat_lt a (length plan.edges) ≡ true)
    × (nat_lt b (length plan.edges) ≡ true)
some_joined plan a b [] all some = clash some
some_joined plan a b (row ∷ rows) all some = by (joins a b row.path) refl some (λ rest. some_joined plan a b rows (All-tail (IsWireOf plan) row rows all) rest) where
  by : (j : Bool) → joins a b row.path ≡ j → j || list_any (λ r. joins a b r.path) rows ≡ true
      → (list_any (λ r. joins a b r.path) rows ≡ true → (nat_lt a (length plan.edges) ≡ true) × (nat_lt b (length plan.edges) ≡ true))
      → (nat_lt a (length plan.edges) ≡ true) × (nat_lt b (length plan.edges) ≡ true)
  by true here some rest = both_in plan row.path a b (All-head (IsWireOf plan) row rows all).edges here
  by false not_here some rest = rest some

no_row : {A : Type 0} {P : Type 0} (rows : List A) (place : ℕ) → nat_lt place (length rows) ≡ true → slice_get rows place ≡ None → P
no_row [] place within is = absurd (none_below place within)
no_row (row ∷ rows) Rattle.std.proofs.Common.zero within is = absurd (cc is)
no_row (row ∷ rows) (Rattle.std.proofs.Common.suc place) within is = no_row rows place (less place (length rows) within) is where
  less : (a b : ℕ) → nat_lt (Rattle.std.proofs.Common.suc a) (Rattle.std.proofs.Common.suc b) ≡ true → nat_lt a b ≡ true
  less a b h = grind (arith, nat_tests, h)

-- ---- the event

pub connect_shown : (plan : Plan) (network : NetworkState) (seen : Seen) → Shows plan network seen → NoneAlone network → IsChecked plan → HasTypes plan → IsOrdered plan network
    → (from to : EdgeId) → IsShown plan (Connect from to) network seen (connect_event plan from to network)
connect_shown plan network seen shows alone checked types ordered from to = can (are_joined plan from.0 to.0) (stands network from.0 to.0) (stands network to.0 from.0) refl refl refl where
  rows : are_joined plan from.0 to.0 ≡ true → (network.edges from.0).peering to.0 ≡ None → (network.edges to.0).peering from.0 ≡ None → (first second : Option EdgePlan)
      → slice_get plan.edges from.0 ≡ first → slice_get plan.edges to.0 ≡ second
      → IsShown plan (Connect from to) network seen
      (connecting from (connects_between plan taken_all to first second (begin_at network from)) to (connects_between plan taken_all from second first (begin_at network to)) network)
  rows joined none_yet none_yet' (Some one) (Some other) here there =
      let apart = joined_apart plan from.0 to.0 checked joined in
      connecting_shown plan network seen shows alone from to apart (opened_with one other) (opened_with other one) refl refl _ _
      (connects_is plan network from to one other checked types ordered apart here there none_yet)
      (connects_is plan network to from other one checked types ordered (apart_back from.0 to.0 apart) there here none_yet') none_yet none_yet'
  rows joined none_yet none_yet' None second here there = no_row plan.edges from.0 (some_joined plan from.0 to.0 plan.wires checked.wires joined).0 here
  rows joined none_yet none_yet' (Some one) None here there = no_row plan.edges to.0 (some_joined plan from.0 to.0 plan.wires checked.wires joined).1 there

  can : (joined one other : Bool) → are_joined plan from.0 to.0 ≡ joined → stands network from.0 to.0 ≡ one → stands network to.0 from.0 ≡ other
      → IsShown plan (Connect from to) network seen
      (cond (joined && (not one && not other)) (connecting from (connected_work plan network from to) to (connected_work plan network to from) network) (idle network))
  can true false false is none_yet none_yet' =
      rw (connected_is plan network from to ordered is none_yet, connected_is plan network to from ordered (sym (joined_turned plan from.0 to.0) ∙ is) none_yet')
      (rows is (none_there ((network.edges from.0).peering to.0) none_yet) (none_there ((network.edges to.0).peering from.0) none_yet')
      (slice_get plan.edges from.0) (slice_get plan.edges to.0) refl refl)
  can true true other is none_yet none_yet' = WasIdle refl
  can true false true is none_yet none_yet' = WasIdle refl
  can false one other is none_yet none_yet' = WasIdle refl
