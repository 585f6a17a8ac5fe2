-- The events that commands make count from one.
use Rattle.std.proofs.Common.{◌≡◌, ◌<◌, ◌∷◌, [], ℕ, zero, suc, List, Option, Some, None, refl, subst, arith, option_map, slice_get, length}
use Rattle.std.proofs.lemmas.List.Elements.{All-append, All-cons, All-head, All-nil, All-tail}
use Rattle.std.specs.List.{All}
use Rattle.net_base.specs.declared.plan.Plan.{Plan}
use Rattle.net_base.specs.declared.plan.places.CircuitId.{CircuitId}
use Rattle.net_base.specs.declared.trace.event.Event.{Event}
use Rattle.net_base.specs.declared.trace.event.Event.TheVariants.{Frame, Tick}
use Rattle.network_model.specs.declared.packet.Packet.{Packet}
use Rattle.network_model.specs.Connection.{is_deliverable}
use Rattle.network_model.specs.Delivery.{delivery_of, first_pair, next_delivery}
use Rattle.network_model.specs.Packet.{arrival_of, next_arrival}
use Rattle.network_model.specs.Run.{state_after}
use Rattle.network_model.specs.State.{NetworkState, empty_network}
use Rattle.network_model.specs.Step.{step}
use Rattle.network_model.proofs.PacketListLemmas.{AreNumbered, NumbersRise, after_numbered, run_numbered, step_numbered}
use Rattle.command_text.specs.declared.command.Command.{Command}
use Rattle.command_text.specs.declared.command.Command.TheVariants.{One, Settle, Flow, Ticks, Play}
use Rattle.command_run.specs.Made.{captures_after, event_and, frames_entering, made, made_by, next_frames, ticks, turns}
use Rattle.report_laws.specs.Laws.{MadeCountFromOne}
use Rattle.report_laws.specs.Places.{CommandsFromOne, CountsFromOne}

-- the next delivery is one of 65535 octets
delivery_counts : (pair : Option (ℕ × ℕ)) (event : Event) → option_map delivery_of pair ≡ Some event → CountsFromOne event
delivery_counts None event found = absurd (cc (found))
delivery_counts (Some pair) event found =
    let same : delivery_of pair ≡ event = cc (found) in
    subst CountsFromOne same (omega arith)

-- the next arrival is that of a packet under way, whose number is above zero
arrival_counts : (packets : List Packet) (event : Event) → NumbersRise 0 packets → option_map arrival_of (slice_get packets 0) ≡ Some event → CountsFromOne event
arrival_counts [] event rise found = absurd (cc (found))
arrival_counts (p ∷ ps) event rise found =
    let same : arrival_of p ≡ event = cc (found) in
    let some : 0 < p.number = rise.0 in
    subst CountsFromOne same (omega (arith, some))

ticks_count : (count : ℕ) → All CountsFromOne (ticks count)
ticks_count zero = All-nil CountsFromOne
ticks_count (suc n) = All-cons CountsFromOne Tick (ticks n) tt (ticks_count n)

turns_count : (plan : Plan) (next : NetworkState → Option Event) (count : ℕ) (network : NetworkState) → AreNumbered network
    → ((n : NetworkState) (event : Event) → AreNumbered n → next n ≡ Some event → CountsFromOne event) → All CountsFromOne (turns plan next count network)
turns_count plan next zero network numbered all = All-nil CountsFromOne
turns_count plan next (suc n) network numbered all = by (next network) refl (λ later numbers. turns_count plan next n later numbers all) where
  by : (found : Option Event) → next network ≡ found → ((later : NetworkState) → AreNumbered later → All CountsFromOne (turns plan next n later))
      → All CountsFromOne (event_and found (λ event. turns plan next n (step plan network event).state))
  by None is again = All-nil CountsFromOne
  by (Some event) is again =
      All-cons CountsFromOne event (turns plan next n (step plan network event).state) (all network event numbered is)
      (again (step plan network event).state (step_numbered plan network event numbered))

entering_counts : (circuit : CircuitId) (frames : List (List ℕ)) → All CountsFromOne (frames_entering circuit frames)
entering_counts circuit [] = All-nil CountsFromOne
entering_counts circuit (frame ∷ frames) = All-cons CountsFromOne (Frame circuit frame) (frames_entering circuit frames) tt (entering_counts circuit frames)

made_by_counts : (plan : Plan) (network : NetworkState) (captures : List (List (List ℕ))) (command : Command) → AreNumbered network → CommandsFromOne command
    → All CountsFromOne (made_by plan network captures command)
made_by_counts plan network captures (One event) numbered counts = All-cons CountsFromOne event [] counts (All-nil CountsFromOne)
made_by_counts plan network captures (Settle count) numbered counts =
    turns_count plan (next_delivery plan) count network numbered (λ n event numbers found. delivery_counts (first_pair (is_deliverable n) (length plan.edges) 0 (length plan.edges)) event found)
made_by_counts plan network captures (Flow count) numbered counts = turns_count plan next_arrival count network numbered (λ n event numbers found. arrival_counts n.under_way event numbers.rise found)
made_by_counts plan network captures (Ticks count) numbered counts = ticks_count count
made_by_counts plan network captures (Play circuit file) numbered counts = entering_counts circuit (next_frames captures)

made_counts : (plan : Plan) (network : NetworkState) (captures : List (List (List ℕ))) (commands : List Command) → AreNumbered network → All CommandsFromOne commands
    → All CountsFromOne (made plan network captures commands)
made_counts plan network captures [] numbered counts = All-nil CountsFromOne
made_counts plan network captures (command ∷ commands) numbered counts =
    let here : List Event = made_by plan network captures command in
    let next : NetworkState = state_after plan network here in
    All-append CountsFromOne here (made plan next (captures_after command captures) commands)
    (made_by_counts plan network captures command numbered (All-head CommandsFromOne command commands counts))
    (made_counts plan next (captures_after command captures) commands (after_numbered plan network here numbered) (All-tail CommandsFromOne command commands counts))

pub made_count : MadeCountFromOne
made_count plan captures commands counts = made_counts plan (empty_network plan) captures commands (run_numbered plan []) counts
