-- What holds of the trace of every run of a checked plan.
use Rattle.std.specs.Prelude.{◌≡◌, List}
use Rattle.net_base.specs.declared.plan.Plan.{Plan}
use Rattle.net_base.specs.declared.plan.places.ServiceId.{ServiceId}
use Rattle.net_base.specs.declared.trace.event.Event.{Event}
use Rattle.flight_laws.specs.Laws.{IsRun, network_after}
use Rattle.network_model.specs.Calm.{is_calm}
use Rattle.network_model.specs.Run.{run}
use Rattle.seen_network.specs.Calm.{is_seen_calm}
use Rattle.seen_network.specs.Once.{OnceSeen}
use Rattle.seen_network.specs.Seen.{seen_in}
use Rattle.seen_laws.specs.Shows.{Shows}

-- what the trace shows of the network is so
abbrev pub RunsShow : Type 0
RunsShow = (plan : Plan) (events : List Event) → IsRun plan events → Shows plan (network_after plan events) (seen_in (run plan events).entries)

-- a service is seen calm exactly where it is calm
abbrev pub RunsAreSeenCalm : Type 0
RunsAreSeenCalm = (plan : Plan) (events : List Event) → IsRun plan events → (service : ServiceId) → is_seen_calm plan (seen_in (run plan events).entries) service ≡ is_calm plan (network_after plan events) service

-- exactly once, as the trace alone shows it
abbrev pub RunsAreSeenOnce : Type 0
RunsAreSeenOnce = (plan : Plan) (events : List Event) → IsRun plan events → OnceSeen 12 plan (run plan events).entries
