-- What each event tells shows what it makes of the network: all but a connection that comes up.
use Rattle.std.proofs.Common.{◌≡◌, ◌&&◌, ◌∙◌, not, ℕ, Bool, true, false, List, [], cond, nat_eq, refl, sym, ap, subst, inl, inr}
use Rattle.std.proofs.lemmas.Bool.{cases_Bool, eqb-true}
use Rattle.net_values.proofs.BoolLemmas.{clash, and_false}
use Rattle.net_base.specs.declared.plan.Plan.{Plan}
use Rattle.net_base.specs.declared.plan.places.EdgeId.{EdgeId}
use Rattle.net_base.specs.declared.plan.places.WireId.{WireId}
use Rattle.net_base.specs.declared.trace.event.Event.{Event}
use Rattle.net_base.specs.declared.trace.event.Event.TheVariants.{Lose, Wire, Status, Priority, Ping}
use Rattle.net_base.specs.plan.Places.{wire_row}
use Rattle.edge_model.specs.Circuit.{is_same}
use Rattle.edge_model.specs.EndPlaces.{ends_here, passes}
use Rattle.edge_model.specs.Mend.{mends}
use Rattle.edge_model.specs.State.{EdgeState, is_there, with_bits, with_priority}
use Rattle.edge_model.specs.Wire.{is_own_spoke, turned_wire}
use Rattle.edge_model.specs.Work.{Work, changes, idles}
use Rattle.edge_model.proofs.BridgeLemmas.{ping_bridges}
use Rattle.network_model.specs.Absorb.{Stepped, absorb, answer, begin_at, idle, taken_all}
use Rattle.network_model.specs.Connection.{lose_event, losing, losing_work}
use Rattle.network_model.specs.Ping.{ping_event, ping_work}
use Rattle.network_model.specs.State.{NetworkState, held_by, stands, with_edge}
use Rattle.network_model.specs.Wire.{priority_event, status_event, wire_event}
use Rattle.flight_laws.proofs.EventLemmas.{losing_is}
use Rattle.flight_laws.proofs.CircuitLemmas.{idles_are}
use Rattle.flight_laws.proofs.RuledDeliverLemmas.{no_octets_by}
use Rattle.seen_network.specs.Seen.{Seen, end_goes, happened, with_octets, with_rest, with_standing}
use Rattle.seen_laws.specs.Events.{HasGone, IsShown, NoneAlone, WasIdle}
use Rattle.seen_laws.specs.Shows.{AreUpTo, IsReadyToShow, Shows}
use Rattle.seen_laws.specs.Work.{TellsChanges, is_told_ended, up_after}
use Rattle.seen_laws.proofs.AbsorbLemmas.{BeginsFrom, absorb_shows, on_still, rest_of, works_ready}
use Rattle.seen_laws.proofs.InputLemmas.{bits_tell, bridged_tells, lost_gone, lost_tells, none, priority_tells, then_mends, wire_tells}
use Rattle.seen_laws.proofs.SeenLemmas.{work_told}

-- the edge as it is before an input
pub begins_at : (network : NetworkState) (me : EdgeId) → BeginsFrom network me (begin_at network me)
begins_at network me = record { effects = refl; peering = refl; downs = refl }

-- the work of an edge in a network that is shown
pub work_shown : (plan : Plan) (event : Event) (network start : NetworkState) (seen : Seen) (me : EdgeId) (origin hops : ℕ) (work : Work) → IsReadyToShow plan start me work (happened event seen)
    → IsShown plan event network seen (absorb me origin hops work start)
work_shown plan event network start seen me origin hops work ready =
    HasGone (work_told me origin hops work.effects (with_edge me work.edge start)) (absorb_shows plan start me origin hops work (happened event seen) ready)

-- work that tells what it makes of the edge, and turns no circuit on or off
pub plain_ready : (plan : Plan) (network : NetworkState) (me : EdgeId) (work : Work) (seen : Seen) → Shows plan network seen → NoneAlone network → TellsChanges none (begin_at network me) work
    → IsReadyToShow plan network me work seen
plain_ready plan network me work seen shows alone tells =
    works_ready plan network me (begin_at network me) work seen shows (begins_at network me) none tells (λ k there. tells.kept k refl there) (alone me.0) seen.on
    (on_still plan network me work seen shows.on tells.circuits)

-- ---- an event that may not apply

pub idle_or : (plan : Plan) (event : Event) (network : NetworkState) (seen : Seen) (b : Bool) (after : Stepped) → (b ≡ false → IsShown plan event network seen after)
    → IsShown plan event network seen (cond b (idle network) after)
idle_or plan event network seen true after goes = WasIdle refl
idle_or plan event network seen false after goes = goes refl

pub goes_or : (plan : Plan) (event : Event) (network : NetworkState) (seen : Seen) (b : Bool) (after : Stepped) → (b ≡ true → IsShown plan event network seen after)
    → IsShown plan event network seen (cond b after (idle network))
goes_or plan event network seen true after goes = goes refl
goes_or plan event network seen false after goes = WasIdle refl

pub answer_shown : (plan : Plan) (event : Event) (network : NetworkState) (seen : Seen) (me : EdgeId) (work : Work)
    → (work.idle ≡ false → IsReadyToShow plan network me work (happened event seen)) → IsShown plan event network seen (answer me 0 0 work network)
answer_shown plan event network seen me work ready =
    idle_or plan event network seen work.idle (absorb me 0 0 work network) (λ goes. work_shown plan event network network seen me 0 0 work (ready goes))

-- an input that applies, and after which the edge mends
pub applied : (b : Bool) (done work : Work) (P : Work → Type 0) → P done → (cond b done (idles work)).idle ≡ false → P (cond b done (idles work))
applied true done work P here goes = here
applied false done work P here goes = clash (sym goes ∙ idles_are work)

-- ---- what is set

module _ (plan : Plan) (network : NetworkState) (seen : Seen) (shows : Shows plan network seen) (alone : NoneAlone network) where
  pub wire_shown : (me : EdgeId) (wire : WireId) (on : Bool) → IsShown plan (Wire me wire on) network seen (wire_event plan me wire on network)
  wire_shown me wire on = answer_shown plan (Wire me wire on) network seen me _
      (applied (passes plan (begin_at network me).edge.me wire && not (is_same on ((begin_at network me).edge.wire_on wire.0))) (mends plan taken_all done) (begin_at network me)
      (λ w. IsReadyToShow plan network me w seen)
      (plain_ready plan network me (mends plan taken_all done) seen shows alone (then_mends plan taken_all (begin_at network me) done (wire_tells wire on (begin_at network me)))))
    where
      done : Work
      done = changes (turned_wire wire on) (begin_at network me)

  pub status_shown : (me : EdgeId) (wire : WireId) (bits : ℕ) → IsShown plan (Status me wire bits) network seen (status_event plan me wire bits network)
  status_shown me wire bits = answer_shown plan (Status me wire bits) network seen me _
      (applied (ends_here plan (begin_at network me).edge.me wire && not (nat_eq bits ((begin_at network me).edge.bits wire.0))) (mends plan taken_all done) (begin_at network me)
      (λ w. IsReadyToShow plan network me w seen)
      (plain_ready plan network me (mends plan taken_all done) seen shows alone (then_mends plan taken_all (begin_at network me) done (bits_tell wire bits (begin_at network me)))))
    where
      done : Work
      done = changes (with_bits wire bits) (begin_at network me)

  pub priority_shown : (me : EdgeId) (wire : WireId) (priority : ℕ) → IsShown plan (Priority me wire priority) network seen (priority_event plan me wire priority network)
  priority_shown me wire priority = answer_shown plan (Priority me wire priority) network seen me _
      (applied (is_own_spoke (begin_at network me).edge.me (wire_row plan wire) && not (nat_eq priority ((begin_at network me).edge.priority wire.0))) (mends plan taken_all done) (begin_at network me)
      (λ w. IsReadyToShow plan network me w seen)
      (plain_ready plan network me (mends plan taken_all done) seen shows alone (then_mends plan taken_all (begin_at network me) done (priority_tells wire priority (begin_at network me)))))
    where
      done : Work
      done = changes (with_priority wire priority) (begin_at network me)

  -- ---- pings

  pub ping_shown : (me : EdgeId) (wire : WireId) → IsShown plan (Ping me wire) network seen (ping_event plan me wire network)
  ping_shown me wire = answer_shown plan (Ping me wire) network seen me (ping_work plan network me wire) (λ goes.
      (let pings = ping_bridges plan taken_all wire (begin_at network me) in
      plain_ready plan network me (ping_work plan network me wire) seen shows alone
      (bridged_tells (begin_at network me) (ping_work plan network me wire) (ap (λ (e : EdgeState). e.me) pings.edge) (ap (λ (e : EdgeState). e.circuit_on) pings.edge)
      (ap (λ (e : EdgeState). e.peering) pings.edge) (ap (λ (e : EdgeState). e.told_down) pings.edge) pings.effects)))

-- ---- an end is lost

-- what is seen is as before but for one end, which is gone, what it held and what was on its way to it
pub record IsButFor (me peer : ℕ) (old new : Seen) : Type 0 where
  pub stands : (a b : ℕ) → nat_eq a me && nat_eq b peer ≡ false → new.stands a b ≡ old.stands a b
  pub pipes : (a b : ℕ) → nat_eq a peer && nat_eq b me ≡ false → new.pipes a b ≡ old.pipes a b
  pub rests : (a b : ℕ) → nat_eq a me && nat_eq b peer ≡ false → new.rests a b ≡ old.rests a b
  pub up : new.up ≡ old.up
  pub on : new.on ≡ old.on
  pub under_way : new.under_way ≡ old.under_way

module _ (plan : Plan) (network : NetworkState) (me peer : EdgeId) (old seen : Seen) (shows : Shows plan network old) (but : IsButFor me.0 peer.0 old seen) (alone : NoneAlone network) (standing : stands network me.0 peer.0 ≡ true)
    (work : Work) (tells : TellsChanges none (begin_at network me) work) (gone : is_there (work.edge.peering peer.0) ≡ false) where
  apart : nat_eq me.0 peer.0 ≡ false
  apart = elim (cases_Bool (nat_eq me.0 peer.0)) [
    | inl same ↦ clash (sym (alone me.0) ∙ (ap (stands network me.0) (eqb-true me.0 peer.0 same) ∙ standing))
    | inr other ↦ other
  ]

  stood : (k : ℕ) → is_there (work.edge.peering k) ≡ (is_there ((network.edges me.0).peering k) && not (is_told_ended k work.effects))
  stood k = tells.stands k ∙ ap (λ (es : List _). is_there ((network.edges me.0).peering k) && not (is_told_ended k es)) (sym tells.given)

  told_gone : is_told_ended peer.0 work.effects ≡ true
  told_gone = by (is_told_ended peer.0 work.effects) (sym (stood peer.0) ∙ gone) where
    by : (b : Bool) → (is_there ((network.edges me.0).peering peer.0) && not b) ≡ false → b ≡ true
    by true is = refl
    by false is = clash (sym (sym (ap (λ (x : Bool). x && true) standing) ∙ is))

  -- at another neighbour all is as before
  other_pair : (k : ℕ) → nat_eq k peer.0 ≡ false → nat_eq me.0 me.0 && nat_eq k peer.0 ≡ false
  other_pair k other = rw other (and_false (nat_eq me.0 me.0))

  not_me : (a b : ℕ) → nat_eq a me.0 ≡ false → nat_eq a me.0 && nat_eq b peer.0 ≡ false
  not_me a b away = rw away refl

  pub lost_ready : IsReadyToShow plan network me work seen
  lost_ready = record {
    alone = but.stands me.0 me.0 (other_pair me.0 apart) ∙ (shows.standing me.0 me.0 ∙ alone me.0);
    near = λ k. elim (cases_Bool (nat_eq k peer.0)) [
      | inl same ↦ subst (λ (n : ℕ). (seen.stands me.0 n && not (is_told_ended n work.effects)) ≡ is_there (work.edge.peering n)) (sym (eqb-true k peer.0 same))
          (rw (told_gone, gone) (and_false (seen.stands me.0 peer.0)))
      | inr other ↦ ap (λ (b : Bool). b && not (is_told_ended k work.effects)) (but.stands me.0 k (other_pair k other) ∙ shows.standing me.0 k) ∙ sym (stood k)
    ];
    far = λ a b away. but.stands a b (not_me a b away) ∙ shows.standing a b;
    inward = λ k. elim (cases_Bool (nat_eq k peer.0)) [
      | inl same ↦ subst (λ (n : ℕ). cond (is_told_ended n work.effects) [] (seen.pipes n me.0) ≡ cond (Rattle.flight_laws.specs.Meeting.closes n work.effects) [] (network.pipes n me.0))
          (sym (eqb-true k peer.0 same))
          (rw (told_gone, closed peer.0 ∙ told_gone) refl)
      | inr other ↦ rw (but.pipes k me.0 (rw other refl), shows.pipes k me.0, closed k) refl
    ];
    outward = λ a b away. but.pipes a b (rw away (and_false (nat_eq a peer.0))) ∙ shows.pipes a b;
    rest = λ k. elim (cases_Bool (nat_eq k peer.0)) [
      | inl same ↦ subst (λ (n : ℕ). cond (is_told_ended n work.effects) [] (seen.rests me.0 n) ≡ held_by (work.edge.peering n)) (sym (eqb-true k peer.0 same))
          (rw told_gone (sym (no_octets_by (work.edge.peering peer.0) gone)))
      | inr other ↦ ap (λ (l : List ℕ). cond (is_told_ended k work.effects) [] l) (but.rests me.0 k (other_pair k other) ∙ shows.rests me.0 k)
          ∙ rest_of (is_told_ended k work.effects) ((network.edges me.0).peering k) (work.edge.peering k) (stood k) (tells.kept k refl)
    ];
    rests = λ a b away. but.rests a b (not_me a b away) ∙ shows.rests a b;
    up = λ wire. ap (λ (f : ℕ → ℕ → Bool). up_after wire work.effects (f me.0 wire)) but.up ∙ (rw (shows.up me.0 wire, tells.given) (sym (tells.up wire)));
    ups = λ a wire away. ap (λ (f : ℕ → ℕ → Bool). f a wire) but.up ∙ shows.up a wire;
    on = on_still plan network me work seen (λ circuit row is. ap (λ (f : ℕ → Bool). f circuit.0) but.on ∙ shows.on circuit row is) tells.circuits;
    under_way = but.under_way ∙ shows.under_way;
    counted = subst (AreUpTo network.sent) (sym but.under_way) shows.counted;
  }
    where
      closed : (k : ℕ) → Rattle.flight_laws.specs.Meeting.closes k work.effects ≡ is_told_ended k work.effects
      closed k = ap (Rattle.flight_laws.specs.Meeting.closes k) tells.given ∙ (tells.shut k ∙ ap (is_told_ended k) (sym tells.given))

goes_but : (me peer : ℕ) (seen : Seen) → IsButFor me peer seen (end_goes me peer seen)
unfolding with_octets with_standing with_rest
goes_but me peer seen = record { stands = λ a b other. rw other refl; pipes = λ a b other. rw other refl; rests = λ a b other. rw other refl; up = refl; on = refl; under_way = refl }

pub losing_ready : (plan : Plan) (network : NetworkState) (me peer : EdgeId) (old seen : Seen) → Shows plan network old → IsButFor me.0 peer.0 old seen → NoneAlone network
    → stands network me.0 peer.0 ≡ true
    → IsReadyToShow plan network me (losing_work plan network me peer) seen
losing_ready plan network me peer old seen shows but alone standing =
    subst (λ (w : Work). IsReadyToShow plan network me w seen) (sym (losing_is plan me peer network standing))
    (lost_ready plan network me peer old seen shows but alone standing _ (lost_tells plan taken_all peer (begin_at network me)) (lost_gone plan taken_all peer (begin_at network me)))

pub lose_shown : (plan : Plan) (network : NetworkState) (seen : Seen) (me peer : EdgeId) → Shows plan network seen → NoneAlone network
    → IsShown plan (Lose me peer) network seen (lose_event plan me peer network)
lose_shown plan network seen me peer shows alone = goes_or plan (Lose me peer) network seen (stands network me.0 peer.0) (losing plan me peer network)
    (λ standing. work_shown plan (Lose me peer) network network seen me 0 0 (losing_work plan network me peer)
    (losing_ready plan network me peer seen (end_goes me.0 peer.0 seen) shows (goes_but me.0 peer.0 seen) alone standing))
