-- In every run deliveries alone come to an end, by a number that the plan, the states of sessions and what is on its way give.
use Rattle.std.specs.Prelude.{◌≡◌, ◌≤◌, ◌<◌, ◌++◌, ℕ, true, List, None, length}
use Rattle.net_base.specs.declared.plan.Plan.{Plan}
use Rattle.net_base.specs.declared.plan.places.ServiceId.{ServiceId}
use Rattle.net_base.specs.declared.trace.event.Event.{Event}
use Rattle.ldp_grammar.specs.declared.message.Message.{Message}
use Rattle.network_model.specs.Calm.{is_calm}
use Rattle.network_model.specs.Delivery.{next_delivery}
use Rattle.network_model.specs.State.{NetworkState}
use Rattle.network_model.specs.Step.{step}
use Rattle.flight_laws.specs.Laws.{IsRun, network_after}
use Rattle.rest_laws.specs.Rest.{AreNext, RestsWithin, delivers}
use Rattle.settle_laws.specs.Laws.{HasLabels}
use Rattle.settle_laws.specs.Sound.{is_sound_service}
use Rattle.quiet_laws.specs.Measure.{AreOnWays, measure}

-- each delivery that is not idle makes the measure fall
abbrev pub DeliveriesLower : Type 0
DeliveriesLower = (plan : Plan) (events : List Event) → IsRun plan events → (event : Event) → delivers (network_after plan events) event ≡ true
    → (before after : ℕ → ℕ → List Message) → AreOnWays plan (network_after plan events) before → AreOnWays plan (step plan (network_after plan events) event).state after
    → measure plan (step plan (network_after plan events) event).state after < measure plan (network_after plan events) before

-- so no more deliveries can follow each other than it says
pub record RestsByMeasure (plan : Plan) (network : NetworkState) : Type 0 where
  pub messages : ℕ → ℕ → List Message
  pub on_way : AreOnWays plan network messages
  pub ends : RestsWithin plan network (measure plan network messages)

abbrev pub RunsRestByMeasure : Type 0
RunsRestByMeasure = (plan : Plan) (events : List Event) → IsRun plan events → RestsByMeasure plan (network_after plan events)

-- ---- next deliveries, as `settle` makes them

-- Behind so many of them nothing can be delivered any more, and each service, of which no end is idle for want of a label, is calm exactly
-- where it was sound before the first one.
pub record SettlesAfter (plan : Plan) (events : List Event) (most : ℕ) : Type 0 where
  pub rests : (deliveries : List Event) → AreNext plan (network_after plan events) deliveries → most ≤ length deliveries → next_delivery plan (network_after plan (events ++ deliveries)) ≡ None
  pub calm : (deliveries : List Event) → AreNext plan (network_after plan events) deliveries → most ≤ length deliveries → (service : ServiceId) → HasLabels plan (network_after plan (events ++ deliveries)) service
      → is_calm plan (network_after plan (events ++ deliveries)) service ≡ is_sound_service plan (network_after plan events) service

-- as many as the measure says
abbrev pub RunsSettleByMeasure : Type 0
RunsSettleByMeasure = (plan : Plan) (events : List Event) → IsRun plan events → (messages : ℕ → ℕ → List Message) → AreOnWays plan (network_after plan events) messages
    → SettlesAfter plan events (measure plan (network_after plan events) messages)
