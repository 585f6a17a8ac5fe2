-- How many deliveries `settle` needs at most, from plan, sessions and what is on its way.
use Rattle.std.specs.Prelude.{◌≡◌, ◌<◌, ℕ, List, Some}
use Rattle.net_base.specs.declared.plan.Plan.{Plan}
use Rattle.net_base.specs.declared.trace.event.Event.{Event}
use Rattle.ldp_grammar.specs.declared.message.Message.{Message}
use Rattle.network_model.specs.Delivery.{next_delivery}
use Rattle.network_model.specs.Step.{step}
use Rattle.flight_laws.specs.Laws.{IsRun, network_after}
use Rattle.quiet_laws.specs.Laws.{SettlesAfter}
use Rattle.quiet_laws.specs.Measure.{AreOnWays}
use Rattle.settle_bounds.specs.Bound.{HasBound, IsBound, bound}

-- each next delivery makes the bound fall
abbrev pub NextDeliveriesLower : Type 0
NextDeliveriesLower = (plan : Plan) (events : List Event) → IsRun plan events → (event : Event) → next_delivery plan (network_after plan events) ≡ Some event
    → (before after : ℕ → ℕ → List Message) → AreOnWays plan (network_after plan events) before → AreOnWays plan (step plan (network_after plan events) event).state after
    → bound plan (step plan (network_after plan events) event).state after < bound plan (network_after plan events) before

-- each moment of a run has one
abbrev pub RunsHaveBounds : Type 0
RunsHaveBounds = (plan : Plan) (events : List Event) → IsRun plan events → HasBound plan (network_after plan events)

-- so after as many as it says nothing is left to deliver, and what was sound is calm
abbrev pub RunsSettleByBound : Type 0
RunsSettleByBound = (plan : Plan) (events : List Event) → IsRun plan events → (most : ℕ) → IsBound plan (network_after plan events) most → SettlesAfter plan events most
