-- What `settle` comes to, where it is done often enough.
use Rattle.std.specs.Prelude.{◌≡◌, ◌≤◌, ◌++◌, ℕ, List, [], ◌∷◌, length, Option, None}
use Rattle.net_base.specs.declared.plan.Plan.{Plan}
use Rattle.net_base.specs.declared.plan.places.ServiceId.{ServiceId}
use Rattle.net_base.specs.declared.trace.event.Event.{Event}
use Rattle.network_model.specs.Calm.{is_calm}
use Rattle.network_model.specs.Delivery.{next_delivery}
use Rattle.network_model.specs.State.{NetworkState, empty_network}
use Rattle.flight_laws.specs.Laws.{network_after}
use Rattle.settle_laws.specs.Laws.{HasLabels}
use Rattle.settle_laws.specs.Sound.{is_sound_service}
use Rattle.rest_laws.specs.Rest.{AreNext, RestsWithin}
use Rattle.settle_bounds.specs.Bound.{IsBound}
use Rattle.psn_net.specs.declared.net_stop.NetStop.{NetStop}
use Rattle.psn_net.specs.Lists.{NetLists, network_seen}
use Rattle.command_text.specs.declared.command.Command.{Command}
use Rattle.command_text.specs.declared.command.Command.TheVariants.{Settle}
use Rattle.command_run.specs.Made.{deliveries, made}
use Rattle.scenario_text.specs.declared.scenario.Scenario.{Scenario}

-- the events, and so many next deliveries behind them
abbrev pub settled_by : Plan → List Event → ℕ → List Event
settled_by plan events count = events ++ deliveries plan count (network_after plan events)

-- as many next deliveries as can follow each other leave no further one
abbrev pub SettlesAll : Plan → List Event → Type 0
SettlesAll plan events = (most count : ℕ) → RestsWithin plan (network_after plan events) most → most ≤ count → next_delivery plan (network_after plan (settled_by plan events count)) ≡ None

-- and then a service, of which no end is idle for want of a label, is calm exactly where it was sound before
abbrev pub SettlesCalm : Plan → List Event → Type 0
SettlesCalm plan events = (most count : ℕ) → RestsWithin plan (network_after plan events) most → most ≤ count
    → (service : ServiceId) → HasLabels plan (network_after plan (settled_by plan events count)) service
    → is_calm plan (network_after plan (settled_by plan events count)) service ≡ is_sound_service plan (network_after plan events) service

-- ---- a scenario that ends by `settle`

-- the state behind some of its commands
abbrev pub behind : Scenario → List (List (List ℕ)) → List Command → NetworkState
behind scenario captures commands = network_after scenario.plan (made scenario.plan (empty_network scenario.plan) captures commands)

-- no more than so many next deliveries can follow each other
abbrev pub NextWithin : Plan → NetworkState → ℕ → Type 0
NextWithin plan network most = (events : List Event) → AreNext plan network events → length events ≤ most

-- nothing can be delivered any more, and a service, of which no end is idle for want of a label, is calm exactly where it was sound before
pub record HasSettled (plan : Plan) (before after : NetworkState) : Type 0 where
  pub rests : next_delivery plan after ≡ None
  pub calm : (service : ServiceId) → HasLabels plan after service → is_calm plan after service ≡ is_sound_service plan before service

-- so it is in the end of a scenario whose last command is `settle`, with as many deliveries at least as can follow each other there, and
-- that no limit stopped
abbrev pub SettlesAtLast : Scenario → List (List (List ℕ)) → NetLists → Option NetStop → Type 0
SettlesAtLast scenario captures left reason = (front : List Command) (most count : ℕ) → reason ≡ None → scenario.commands ≡ front ++ Settle count ∷ []
    → NextWithin scenario.plan (behind scenario captures front) most → most ≤ count → HasSettled scenario.plan (behind scenario captures front) (network_seen left)

-- ---- by the bound of a network

-- no more than so many next deliveries can follow each other, and as many leave nothing on its way, and calm what was sound
pub record SettlesBy (plan : Plan) (events : List Event) (most : ℕ) : Type 0 where
  pub within : NextWithin plan (network_after plan events) most
  pub settles : (count : ℕ) → most ≤ count → HasSettled plan (network_after plan events) (network_after plan (settled_by plan events count))

-- so it is with the bound
abbrev pub SettlesByBound : Plan → List Event → Type 0
SettlesByBound plan events = (most : ℕ) → IsBound plan (network_after plan events) most → SettlesBy plan events most
