-- What failures do to the network that the events of a base leave.
use Rattle.std.proofs.Common.{◌≡◌, ◌&&◌, ◌∙◌, ◌==◌, not, Bool, true, false, List, Option, Some, refl, ap}
use Rattle.net_base.specs.declared.plan.Plan.{Plan}
use Rattle.net_base.specs.declared.plan.circuit_plan.CircuitPlan.{CircuitPlan}
use Rattle.net_base.specs.declared.plan.places.CircuitId.{CircuitId}
use Rattle.net_base.specs.declared.plan.places.ServiceId.{ServiceId}
use Rattle.net_base.specs.declared.trace.event.Event.{Event}
use Rattle.net_base.specs.plan.Places.{circuit_row}
use Rattle.network_model.specs.Reach.{is_site}
use Rattle.network_model.specs.State.{NetworkState}
use Rattle.flight_laws.specs.Laws.{network_after}
use Rattle.survey_laws.specs.declared.fault.Fault.{Fault}
use Rattle.survey_laws.specs.Faults.{is_circuit_taken}
use Rattle.survey_laws.specs.Would.{would_reach, would_reach_row, would_serve}
use Rattle.survey_laws.proofs.CaseLemmas.{changes_are_told}
use Rattle.survey_laws.proofs.FaultLemmas.{faults_are_exact}
use Rattle.survey_laws.proofs.FloodLemmas.{floods_as_surveyed}
use Rattle.survey_laws.proofs.RestLemmas.{rests_as_surveyed}
use Rattle.survey_laws.proofs.SameLemmas.{circuit_alone, same_faults}
use Rattle.vplsnet_survey.specs.Promises.{KeepsFaults}

all_but_reach : (site taken reach same : Bool) → site ≡ true → taken ≡ false → same ≡ false → ((site && not taken) && reach) && not same ≡ reach
all_but_reach true false true false a b c = refl
all_but_reach true false false false a b c = refl
all_but_reach true false reach true a b c = absurd (cc (c))
all_but_reach true true reach same a b c = absurd (cc (b))
all_but_reach false taken reach same a b c = absurd (cc (a))

-- two sites reach each other as their edges do
sites_reach : (plan : Plan) (before : NetworkState) (faults : List Fault) (service : ServiceId) (sender circuit : CircuitId) (from to : CircuitPlan) → circuit_row plan sender ≡ Some from
    → circuit_row plan circuit ≡ Some to → is_site plan before service circuit ≡ true → is_circuit_taken faults circuit.0 ≡ false → circuit.0 == sender.0 ≡ false
    → would_serve plan before faults service sender circuit ≡ would_reach plan before faults service from.edge.0 to.edge.0
sites_reach plan before faults service sender circuit from to one other site taken apart =
    all_but_reach (is_site plan before service circuit) (is_circuit_taken faults circuit.0)
    (would_reach_row plan before faults service (circuit_row plan sender) (circuit_row plan circuit)) (circuit.0 == sender.0) site taken apart
    ∙ (ap (λ (row : Option CircuitPlan). would_reach_row plan before faults service row (circuit_row plan circuit)) one
    ∙ ap (λ (row : Option CircuitPlan). would_reach_row plan before faults service (Some from) row) other)

pub laws_kept : (plan : Plan) (base : List Event) → KeepsFaults plan base
laws_kept plan base = record {
  exact = λ after run plain. faults_are_exact plan base after run plain;
  rests = λ after service rested sender circuit. rests_as_surveyed plan base after service rested sender circuit;
  floods = λ after sender octets during more service rested run window. floods_as_surveyed plan base after sender octets during more service rested run window;
  sites = λ faults service sender circuit from to one other site taken apart. sites_reach plan (network_after plan base) faults service sender circuit from to one other site taken apart;
  same = λ one other same service sender circuit. same_faults plan (network_after plan base) one other same service sender circuit;
  alone = λ faults lost service sender circuit. circuit_alone plan (network_after plan base) faults lost service sender circuit;
  told = λ faults service sender circuit. changes_are_told plan (network_after plan base) faults service sender circuit;
}
