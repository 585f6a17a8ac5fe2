-- What holds of every run of a checked plan.
use Rattle.std.specs.Prelude.{List}
use Rattle.net_base.specs.declared.plan.Plan.{Plan}
use Rattle.net_base.specs.declared.trace.event.Event.{Event}
use Rattle.net_base.specs.plan.Accepted.{IsChecked}
use Rattle.net_base.specs.trace.Split.{Split}
use Rattle.network_model.specs.KnownOnce.{KnownOnce}
use Rattle.network_model.specs.Run.{run}

-- what came by a mesh wire is sent on none, but on that same one at a switching point of it (RFC 4762 section 4.4)
abbrev pub RunsAreSplit : Type 0
RunsAreSplit = (plan : Plan) (events : List Event) → IsChecked plan → Split plan (run plan events).entries

-- where a bridge knows the station of a frame, the step of the frame, or of a packet that carries it, tells one copy of it at most
abbrev pub RunsServeKnownOnce : Type 0
RunsServeKnownOnce = (plan : Plan) (events : List Event) → IsChecked plan → KnownOnce plan events
