-- What holds of flooded frames, and of the wires that carry them, in every run of a checked plan.
use Rattle.std.specs.Prelude.{◌≡◌, ◌==◌, ◌&&◌, not, true, List, Some}
use Rattle.net_base.specs.declared.plan.Plan.{Plan}
use Rattle.net_base.specs.declared.plan.places.CircuitId.{CircuitId}
use Rattle.net_base.specs.declared.plan.places.EdgeId.{EdgeId}
use Rattle.net_base.specs.declared.plan.places.ServiceId.{ServiceId}
use Rattle.net_base.specs.declared.plan.places.WireId.{WireId}
use Rattle.net_base.specs.declared.plan.wire_plan.WirePlan.{WirePlan}
use Rattle.net_base.specs.declared.trace.event.Event.{Event}
use Rattle.net_base.specs.plan.Accepted.{IsChecked}
use Rattle.net_base.specs.plan.Paths.{is_first}
use Rattle.net_base.specs.plan.Places.{service_of, wire_row}
use Rattle.net_base.specs.plan.Roles.{is_wire_of}
use Rattle.edge_model.specs.Ends.{end_forwards}
use Rattle.network_model.specs.Calm.{carries, is_calm, is_quiet}
use Rattle.network_model.specs.State.{NetworkState}
use Rattle.flight_laws.specs.Laws.{IsRun, network_after}
use Rattle.network_model.specs.OnceEach.{OnceEach}
use Rattle.network_model.specs.Reach.{is_site}
use Rattle.flood_laws.specs.Chain.{TellsInChains}
use Rattle.flood_laws.specs.Reached.{is_reached}
use Rattle.flood_laws.specs.ReachedEach.{ReachedEach}
use Rattle.flood_laws.specs.Shares.{SharesEach}
use Rattle.flood_laws.specs.SharesReached.{SharesReachedEach}

-- twelve segments at most: a spoke, a mesh wire and a spoke, of four segments each
abbrev pub RunsServeOnce : Type 0
RunsServeOnce = (plan : Plan) (events : List Event) → IsRun plan events → OnceEach 12 plan events

-- in every run, at every moment of every window, each site but the sender was served once, or is ahead of one copy
abbrev pub RunsShareSites : Type 0
RunsShareSites = (plan : Plan) (events : List Event) → IsRun plan events → SharesEach plan events

-- in a service that is quiet, each wire
abbrev pub TellsWhereQuiet : Plan → NetworkState → Type 0
TellsWhereQuiet plan network = (service : ServiceId) → is_quiet plan network service ≡ true → (wire : WireId) (row : WirePlan) → wire_row plan wire ≡ Some row → is_wire_of service row ≡ true → TellsInChains plan network wire row

-- in every run, in a service that is quiet
abbrev pub RunsTellInChains : Type 0
RunsTellInChains = (plan : Plan) (events : List Event) → IsRun plan events → TellsWhereQuiet plan (network_after plan events)

-- Where a service is calm, a wire of it that forwards at the first edge of its path carries frames: it forwards at the last edge too,
-- and each switching point between them advertises on both sides and is bound on both.
abbrev pub IsWholeWhereCalm : Plan → NetworkState → Type 0
IsWholeWhereCalm plan network = (service : ServiceId) → is_calm plan network service ≡ true → (wire : WireId) (row : WirePlan) → wire_row plan wire ≡ Some row → is_wire_of service row ≡ true
    → (near : EdgeId) → is_first near.0 row.path ≡ true → end_forwards plan (network.edges near.0) wire ≡ true → carries plan network wire.0 row ≡ true

-- in every run, in a service that is calm
abbrev pub RunsKeepWiresWhole : Type 0
RunsKeepWiresWhole = (plan : Plan) (events : List Event) → IsRun plan events → IsWholeWhereCalm plan (network_after plan events)

-- in every run, a flooded frame that enters a quiet service leaves once at each circuit that it reaches, and at no other one
abbrev pub RunsReachWhatWiresCarry : Type 0
RunsReachWhatWiresCarry = (plan : Plan) (events : List Event) → IsRun plan events → ReachedEach 12 plan events

-- in every run, at every moment of every such window, each site that is reached was served once, or has to be served by one copy yet
abbrev pub RunsShareReached : Type 0
RunsShareReached = (plan : Plan) (events : List Event) → IsRun plan events → SharesReachedEach plan events

-- where a service is calm, a flooded frame reaches each of its sites but the sender
abbrev pub IsAllReachedWhereCalm : Plan → NetworkState → Type 0
IsAllReachedWhereCalm plan network = (service : ServiceId) (sender circuit : CircuitId) → is_calm plan network service ≡ true → service_of plan sender ≡ Some service
    → is_reached plan network service sender circuit ≡ is_site plan network service circuit && not (circuit.0 == sender.0)

-- in every state, of a run or not
abbrev pub ReachesAllWhereCalm : Type 0
ReachesAllWhereCalm = (plan : Plan) (network : NetworkState) → IsChecked plan → IsAllReachedWhereCalm plan network

-- of two sites each is reached from the other one, or neither is
abbrev pub IsReachedBack : Plan → NetworkState → Type 0
IsReachedBack plan network = (service : ServiceId) (a b : CircuitId) → is_site plan network service a ≡ true → is_site plan network service b ≡ true
    → is_reached plan network service a b ≡ is_reached plan network service b a

-- in every state, of a run or not
abbrev pub ReachesBack : Type 0
ReachesBack = (plan : Plan) (network : NetworkState) → IsReachedBack plan network
