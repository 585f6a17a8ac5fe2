-- What the trace of a run shows of the network is so.
use Rattle.std.proofs.Common.{◌≡◌, Bool, false, List, [], ◌∷◌, Option, refl, sym, ap, subst}
use Rattle.std.proofs.lemmas.List.Elements.{All-head, All-tail}
use Rattle.std.specs.List.{All}
use Rattle.net_base.specs.declared.plan.Plan.{Plan}
use Rattle.net_base.specs.declared.trace.entry.Entry.{Entry}
use Rattle.net_base.specs.declared.trace.entry.Entry.TheVariants as entry
use Rattle.net_base.specs.declared.trace.event.Event.{Event}
use Rattle.net_base.specs.declared.trace.event.Event.TheVariants.{Connect, Deliver, Lose, Restart, Tick, Frame, Arrive, Discard, Again, Wire, Circuit, Status, Priority, Ping}
use Rattle.net_base.specs.plan.Accepted.{IsChecked}
use Rattle.net_base.specs.plan.Places.{circuit_row}
use Rattle.net_base.specs.plan.Planned.{IsEventOf}
use Rattle.edge_model.specs.State.{Peering, is_there}
use Rattle.network_model.specs.Absorb.{Stepped}
use Rattle.network_model.specs.Packet.{packet_at}
use Rattle.network_model.specs.Run.{entries_along, run, state_after}
use Rattle.network_model.specs.State.{NetworkState, empty_network}
use Rattle.network_model.specs.Step.{brings, step}
use Rattle.network_model.proofs.PacketListLemmas.{AreNumbered, step_numbered}
use Rattle.flight_laws.specs.Ends.{HasTypes, IsOrdered}
use Rattle.flight_laws.specs.Laws.{IsRun, network_after}
use Rattle.flight_laws.proofs.RunLemmas.{empty_ordered, step_keeps}
use Rattle.seen_network.specs.Seen.{BeginsEvent, Seen, happened, happened_or, is_idle_behind, nothing_seen, seen_from, seen_in, told_by_itself}
use Rattle.seen_network.proofs.ReadLemmas.{seen_on}
use Rattle.seen_laws.specs.Events.{HasGone, IsShown, NoneAlone, WasIdle}
use Rattle.seen_laws.specs.Shows.{AreTold, Shows, tolds}
use Rattle.seen_laws.proofs.ConnectLemmas.{connect_shown}
use Rattle.seen_laws.proofs.DeliverLemmas.{deliver_shown}
use Rattle.seen_laws.proofs.EventLemmas.{lose_shown, ping_shown, priority_shown, status_shown, wire_shown}
use Rattle.seen_laws.proofs.PassingLemmas.{again_shown, arrive_shown, circuit_shown, discard_shown, frame_shown, restart_shown, tick_shown}

-- ---- entries are read

-- no event is among them
pub told_read : (es : List Entry) (seen : Seen) → AreTold es → seen_from seen es ≡ tolds es seen
told_read [] seen are = refl
told_read (entry.Did event ∷ es) seen are = absurd are
told_read (entry.Idle ∷ es) seen are = absurd are
told_read (entry.Said from to octets ∷ es) seen are = told_read es (told_by_itself (entry.Said from to octets) seen) are
told_read (entry.In circuit number octets ∷ es) seen are = told_read es (told_by_itself (entry.In circuit number octets) seen) are
told_read (entry.Sent from to wire came packet origin hops octets ∷ es) seen are = told_read es (told_by_itself (entry.Sent from to wire came packet origin hops octets) seen) are
told_read (entry.Copied packet of ∷ es) seen are = told_read es (told_by_itself (entry.Copied packet of) seen) are
told_read (entry.Aged packet ∷ es) seen are = told_read es (told_by_itself (entry.Aged packet) seen) are
told_read (entry.Left circuit origin hops octets ∷ es) seen are = told_read es (told_by_itself (entry.Left circuit origin hops octets) seen) are
told_read (entry.Dropped edge origin cause ∷ es) seen are = told_read es (told_by_itself (entry.Dropped edge origin cause) seen) are
told_read (entry.Session edge peer name ∷ es) seen are = told_read es (told_by_itself (entry.Session edge peer name) seen) are
told_read (entry.Wire edge wire down ∷ es) seen are = told_read es (told_by_itself (entry.Wire edge wire down) seen) are
told_read (entry.Pong edge wire sequence ∷ es) seen are = told_read es (told_by_itself (entry.Pong edge wire sequence) seen) are

-- the event behind which they are told has applied
pub told_applied : (es : List Entry) → AreTold es → is_idle_behind es ≡ false
told_applied [] are = refl
told_applied (entry.Did event ∷ es) are = absurd are
told_applied (entry.Idle ∷ es) are = absurd are
told_applied (entry.Said from to octets ∷ es) are = told_applied es are
told_applied (entry.In circuit number octets ∷ es) are = told_applied es are
told_applied (entry.Sent from to wire came packet origin hops octets ∷ es) are = told_applied es are
told_applied (entry.Copied packet of ∷ es) are = told_applied es are
told_applied (entry.Aged packet ∷ es) are = told_applied es are
told_applied (entry.Left circuit origin hops octets ∷ es) are = told_applied es are
told_applied (entry.Dropped edge origin cause ∷ es) are = told_applied es are
told_applied (entry.Session edge peer name ∷ es) are = told_applied es are
told_applied (entry.Wire edge wire down ∷ es) are = told_applied es are
told_applied (entry.Pong edge wire sequence ∷ es) are = told_applied es are

-- what an event tells is read behind it
pub event_read : (plan : Plan) (event : Event) (network : NetworkState) (seen : Seen) (after : Stepped) → Shows plan network seen → IsShown plan event network seen after
    → Shows plan after.state (seen_from seen (entry.Did event ∷ after.entries))
event_read plan event network seen after shows (WasIdle same) = subst (λ (s : Stepped). Shows plan s.state (seen_from seen (entry.Did event ∷ s.entries))) (sym same) shows
event_read plan event network seen after shows (HasGone are goes) =
    subst (λ (idle : Bool). Shows plan after.state (seen_from (happened_or idle event seen) after.entries)) (sym (told_applied after.entries are))
    (subst (Shows plan after.state) (sym (told_read after.entries (happened event seen) are)) goes)

-- ---- one event

none_alone : (plan : Plan) (network : NetworkState) → IsOrdered plan network → NoneAlone network
none_alone plan network ordered a = ap (λ (o : Option Peering). is_there o) (ordered.alone a)

brings_shown : (plan : Plan) (event : Event) (network : NetworkState) (seen : Seen) → IsChecked plan → HasTypes plan → IsOrdered plan network → Shows plan network seen
    → NoneAlone network → AreNumbered network → IsShown plan event network seen (brings plan event network)
brings_shown plan (Connect from to) network seen checked types ordered shows alone numbered = connect_shown plan network seen shows alone checked types ordered from to
brings_shown plan (Deliver from to count) network seen checked types ordered shows alone numbered = deliver_shown plan network seen shows alone from to count ordered
brings_shown plan (Lose me peer) network seen checked types ordered shows alone numbered = lose_shown plan network seen me peer shows alone
brings_shown plan (Restart me) network seen checked types ordered shows alone numbered = restart_shown plan network seen shows alone me
brings_shown plan Tick network seen checked types ordered shows alone numbered = tick_shown plan network seen shows alone numbered
brings_shown plan (Frame circuit octets) network seen checked types ordered shows alone numbered = frame_shown plan network seen shows alone circuit octets (circuit_row plan circuit)
brings_shown plan (Circuit circuit on) network seen checked types ordered shows alone numbered = circuit_shown plan network seen shows alone circuit on
brings_shown plan (Wire me wire on) network seen checked types ordered shows alone numbered = wire_shown plan network seen shows alone me wire on
brings_shown plan (Status me wire bits) network seen checked types ordered shows alone numbered = status_shown plan network seen shows alone me wire bits
brings_shown plan (Priority me wire priority) network seen checked types ordered shows alone numbered = priority_shown plan network seen shows alone me wire priority
brings_shown plan (Arrive number) network seen checked types ordered shows alone numbered = arrive_shown plan network seen shows alone number (packet_at network number) refl
brings_shown plan (Discard number) network seen checked types ordered shows alone numbered = discard_shown plan network seen shows alone number (packet_at network number) refl
brings_shown plan (Again number) network seen checked types ordered shows alone numbered = again_shown plan network seen shows alone number (packet_at network number) refl
brings_shown plan (Ping me wire) network seen checked types ordered shows alone numbered = ping_shown plan network seen shows alone me wire

pub step_shows : (plan : Plan) (event : Event) (network : NetworkState) (seen : Seen) → IsChecked plan → HasTypes plan → IsOrdered plan network → AreNumbered network → Shows plan network seen
    → Shows plan (step plan network event).state (seen_from seen (step plan network event).entries)
step_shows plan event network seen checked types ordered numbered shows =
    event_read plan event network seen (brings plan event network) shows (brings_shown plan event network seen checked types ordered shows (none_alone plan network ordered) numbered)

-- ---- runs

pub along_begins : (plan : Plan) (network : NetworkState) (events : List Event) → BeginsEvent (entries_along plan network events)
along_begins plan network [] = tt
along_begins plan network (e ∷ es) = tt

pub after_shows : (plan : Plan) (events : List Event) (network : NetworkState) (seen : Seen) → IsChecked plan → HasTypes plan → All (IsEventOf plan) events → IsOrdered plan network
    → AreNumbered network → Shows plan network seen
    → Shows plan (state_after plan network events) (seen_from seen (entries_along plan network events))
after_shows plan [] network seen checked types planned ordered numbered shows = shows
after_shows plan (e ∷ es) network seen checked types planned ordered numbered shows =
    subst (Shows plan (state_after plan (step plan network e).state es))
    (sym (seen_on (step plan network e).entries (entries_along plan (step plan network e).state es) seen (along_begins plan (step plan network e).state es)))
    (after_shows plan es (step plan network e).state (seen_from seen (step plan network e).entries) checked types (All-tail (IsEventOf plan) e es planned)
    (step_keeps plan e network checked types (All-head (IsEventOf plan) e es planned) ordered).ordered (step_numbered plan network e numbered)
    (step_shows plan e network seen checked types ordered numbered shows))

pub empty_shows : (plan : Plan) → Shows plan (empty_network plan) nothing_seen
empty_shows plan = record { standing = λ a b. refl; pipes = λ a b. refl; rests = λ a b. refl; up = λ a wire. refl; on = λ circuit row is. refl; under_way = refl; counted = tt }

pub run_shows : (plan : Plan) (events : List Event) → IsRun plan events → Shows plan (network_after plan events) (seen_in (run plan events).entries)
run_shows plan events is = after_shows plan events (empty_network plan) nothing_seen is.checked is.types is.planned (empty_ordered plan is.checked) (record { rise = tt; counted = tt })
    (empty_shows plan)
