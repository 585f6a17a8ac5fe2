-- Each entry of a run names places of the plan.
use Rattle.std.proofs.Common.{◌++◌, List, [], ◌∷◌}
use Rattle.std.proofs.lemmas.List.Elements.{All-head, All-nil, All-tail}
use Rattle.std.specs.List.{All}
use Rattle.net_values.proofs.RowLemmas.{all-append}
use Rattle.net_base.specs.declared.plan.Plan.{Plan}
use Rattle.net_base.specs.declared.trace.entry.Entry.{Entry}
use Rattle.net_base.specs.declared.trace.event.Event.{Event}
use Rattle.net_base.specs.plan.Accepted.{IsChecked}
use Rattle.net_base.specs.plan.Planned.{IsEventOf}
use Rattle.network_model.specs.Run.{entries_along}
use Rattle.network_model.specs.State.{NetworkState, empty_network}
use Rattle.network_model.specs.Step.{step}
use Rattle.flight_laws.specs.Ends.{HasTypes, IsOrdered}
use Rattle.flight_laws.specs.Laws.{IsRun}
use Rattle.flight_laws.proofs.RuledNetworkLemmas.{IsRuledNetwork}
use Rattle.flight_laws.proofs.RuledRunLemmas.{brings_ruled, run_ruled}
use Rattle.flight_laws.proofs.RunLemmas.{empty_ordered, step_keeps}
use Rattle.packet_laws.specs.Carried.{KeepsPacketRule}
use Rattle.packet_laws.proofs.StepLemmas.{step_keeps_rule}
use Rattle.report_laws.specs.Laws.{RunsTellOfPlan}
use Rattle.report_laws.specs.Places.{IsEntryOf}
use Rattle.report_laws.proofs.EventLemmas.{AreEntriesOf, step_told}

-- after events from a state on, where so much was told before
along : (plan : Plan) (events : List Event) (network : NetworkState) (trace : List Entry) → IsChecked plan → HasTypes plan → All (IsEventOf plan) events → IsOrdered plan network
    → IsRuledNetwork plan network → KeepsPacketRule plan network trace → AreEntriesOf plan (entries_along plan network events)
along plan [] network trace checked types planned ordered ruled rule = tt
along plan (e ∷ es) network trace checked types planned ordered ruled rule =
    let here : IsEventOf plan e = All-head (IsEventOf plan) e es planned in
    let next : NetworkState = (step plan network e).state in
    all-append (IsEntryOf plan) (step plan network e).entries (entries_along plan next es) (step_told plan network trace e checked ordered rule here)
    (along plan es next (trace ++ (step plan network e).entries) checked types (All-tail (IsEventOf plan) e es planned) (step_keeps plan e network checked types here ordered).ordered
    (brings_ruled plan e network checked types here ordered ruled) (step_keeps_rule plan network trace e checked types here ordered ruled rule))

-- no event at all
no_events : (plan : Plan) (events : List Event) → IsRun plan events → IsRun plan []
no_events plan events run = record { checked = run.checked; types = run.types; planned = All-nil (IsEventOf plan) }

pub runs_tell : RunsTellOfPlan
runs_tell plan events run =
    along plan events (empty_network plan) [] run.checked run.types run.planned (empty_ordered plan run.checked) (run_ruled plan [] (no_events plan events run)) tt
