-- A flooded frame that enters once all has settled leaves once at each circuit that is so decided.
use Rattle.std.proofs.Common.{◌++◌, ◌∙◌, ℕ, Bool, cond, List, ◌∷◌, refl, ap}
use Rattle.net_base.specs.declared.plan.Plan.{Plan}
use Rattle.net_base.specs.declared.plan.places.CircuitId.{CircuitId}
use Rattle.net_base.specs.declared.plan.places.ServiceId.{ServiceId}
use Rattle.net_base.specs.declared.trace.event.Event.{Event}
use Rattle.net_base.specs.declared.trace.event.Event.TheVariants.{Frame}
use Rattle.network_model.specs.Run.{run}
use Rattle.flood_laws.specs.ReachedEach.{QuietWindow, ServedReached}
use Rattle.flood_laws.proofs.RunLemmas.{runs_reach_what_wires_carry}
use Rattle.settle_laws.proofs.RunLemmas.{runs_rest_quiet}
use Rattle.survey_laws.specs.Laws.{FloodsAsSurveyed, HasRested, RestedWindow}
use Rattle.survey_laws.proofs.RestLemmas.{rests_as_surveyed}

-- such a window is one of a quiet service
quiet_window : (plan : Plan) (base after : List Event) (sender : CircuitId) (octets : List ℕ) (during : List Event) (service : ServiceId)
    → HasRested plan base after service → RestedWindow plan (base ++ after) sender octets during service → QuietWindow plan (base ++ after) sender octets during service
quiet_window plan base after sender octets during service rested window = record {
  sender = window.sender;
  on = window.on;
  frame = window.frame;
  formed = window.formed;
  quiet = runs_rest_quiet plan (base ++ after) rested.run rested.rest service;
  flooded = window.flooded;
  spared = window.spared;
  over = window.over;
}

pub floods_as_surveyed : FloodsAsSurveyed
floods_as_surveyed plan base after sender octets during more service rested is window =
    (λ circuit. served.once circuit ∙ ap (λ (b : Bool). cond {A = ℕ} b 1 0) (rests_as_surveyed plan base after service rested sender circuit), served.within)
  where
    events : List Event
    events = (base ++ after) ++ Frame sender octets ∷ (during ++ more)

    served : ServedReached 12 plan (base ++ after) sender service (run plan events).entries
    served = runs_reach_what_wires_carry plan events is (base ++ after) sender octets during more service refl (quiet_window plan base after sender octets during service rested window)
