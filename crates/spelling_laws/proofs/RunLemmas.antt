-- What is said in every run of a checked plan spells PDUs.
use Rattle.std.proofs.Common.{List, [], ◌∷◌}
use Rattle.std.proofs.lemmas.List.Elements.{All-head, All-tail}
use Rattle.std.specs.List.{All}
use Rattle.net_base.specs.declared.plan.Plan.{Plan}
use Rattle.net_base.specs.declared.trace.event.Event.{Event}
use Rattle.net_base.specs.plan.Accepted.{IsChecked}
use Rattle.net_base.specs.plan.Planned.{IsEventOf}
use Rattle.network_model.specs.Run.{entries_along}
use Rattle.network_model.specs.State.{NetworkState, empty_network}
use Rattle.network_model.specs.Step.{step}
use Rattle.flight_laws.specs.Ends.{HasTypes, IsOrdered}
use Rattle.flight_laws.proofs.RunLemmas.{empty_ordered, step_keeps}
use Rattle.spelling_laws.specs.Laws.{RunsSpellPdus, SpellPdus}
use Rattle.spelling_laws.proofs.NetworkLemmas.{spell_joined, step_spells}

along_spells : (plan : Plan) (events : List Event) (network : NetworkState) → IsChecked plan → HasTypes plan → All (IsEventOf plan) events → IsOrdered plan network
    → SpellPdus plan (entries_along plan network events)
along_spells plan [] network checked types planned ordered = tt
along_spells plan (e ∷ es) network checked types planned ordered =
    spell_joined plan (step plan network e).entries (entries_along plan (step plan network e).state es)
    (step_spells plan e network checked types (All-head (IsEventOf plan) e es planned) ordered)
    (along_spells plan es (step plan network e).state checked types (All-tail (IsEventOf plan) e es planned)
    (step_keeps plan e network checked types (All-head (IsEventOf plan) e es planned) ordered).ordered)

pub runs_spell_pdus : RunsSpellPdus
runs_spell_pdus plan events run = along_spells plan events (empty_network plan) run.checked run.types run.planned (empty_ordered plan run.checked)
