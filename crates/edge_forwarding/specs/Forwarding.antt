-- What an edge forwards frames by, as contracts see it: lists by the plan's places, and by `with_forwarding` the state of the
-- whole edge, for any rest of it.
use Rattle.std.specs.Prelude.{◌≡◌, ◌<◌, ◌==◌, ℕ, Bool, true, List, [], Option, Some, None, length, if◌then◌else◌}
use Rattle.net_base.specs.declared.plan.Plan.{Plan}
use Rattle.net_base.specs.declared.plan.circuit_plan.CircuitPlan.{CircuitPlan}
use Rattle.net_base.specs.declared.plan.places.EdgeId.{EdgeId}
use Rattle.net_base.specs.declared.plan.places.ServiceId.{ServiceId}
use Rattle.net_base.specs.declared.plan.places.WireId.{WireId}
use Rattle.net_base.specs.declared.plan.wire_plan.WirePlan.{WirePlan}
use Rattle.net_base.specs.declared.trace.down.Down.{Down}
use Rattle.net_base.specs.declared.trace.down.Down.TheVariants.{NoLocal}
use Rattle.net_base.specs.plan.Accepted.{IsChecked}
use Rattle.net_base.specs.plan.Places.{wire_row}
use Rattle.mac_table.specs.declared.mac_entry.MacEntry.{MacEntry}
use Rattle.edge_model.specs.State.{EdgeState, empty_edge}
use Rattle.edge_forwarding.specs.declared.domain.Domain.{Domain}
use Rattle.hvpls_spokes.specs.Port.{ports_of}
use Rattle.edge_forwarding.specs.Domain.{IsDomainKept, nothing_told, port_opens}
use Rattle.edge_forwarding.specs.Views.{view}

-- what an edge forwards by, as lists by the plan's places
pub record ForwardingLists : Type 0 where
  -- the network's plan, and the edge's place in it
  pub plan : Plan
  pub me : EdgeId
  -- the circuits that are on; those of other edges stay on
  pub circuits_on : List Bool
  -- why its end of each wire does not forward, as it was told last
  pub told_down : List (Option Down)
  -- the domain of each service; none where the service has no port here
  pub domains : List (Option Domain)
  -- how many ticks have passed
  pub ticks : ℕ

-- what the bridge of a domain has learned
abbrev pub entries_of : Option Domain → List MacEntry
entries_of None = []
entries_of (Some domain) = domain.bridge.entries

-- the domain of a service
abbrev pub domain_of : ForwardingLists → ℕ → Option Domain
domain_of f service = view None f.domains service

-- the circuits that are on, and what was told last of the wires
abbrev pub circuits_in : ForwardingLists → ℕ → Bool
circuits_in f = view true f.circuits_on

-- what was told last of each wire
abbrev pub told_in : ForwardingLists → ℕ → Option Down
told_in f = view (Some NoLocal) f.told_down

-- the ports of a service that are open
abbrev pub open_ports : ForwardingLists → ServiceId → ℕ → Bool
open_ports f service = port_opens (circuits_in f) (told_in f) (ports_of f.plan service f.me)

-- an edge that forwards by this
unfoldable pub with_forwarding : ForwardingLists → EdgeState → EdgeState
with_forwarding f edge = record edge {
  me = f.me;
  circuit_on = circuits_in f;
  learned = λ service. entries_of (domain_of f service);
  ticks = f.ticks;
  told_down = told_in f;
}

-- of no end anything was told
unfoldable pub without_told : EdgeState → EdgeState
without_told edge = record edge { told_down = nothing_told }

abbrev pub forgotten : Option Down → Option Down
forgotten down = Some NoLocal

-- the wire has this service, which is in the plan
pub record IsServiceOf (plan : Plan) (wire : WireId) (service : ServiceId) : Type 0 where
  pub row : WirePlan
  pub is : wire_row plan wire ≡ Some row
  pub same : row.service ≡ service
  pub within : service.0 < length plan.services

-- what no call changes
pub record KeepsForwarding (old new : ForwardingLists) : Type 0 where
  pub plan : new.plan ≡ old.plan
  pub me : new.me ≡ old.me

-- what always holds
pub record IsForwarding (f : ForwardingLists) : Type 0 where
  pub checked : IsChecked f.plan
  pub circuits : length f.circuits_on ≡ length f.plan.circuits
  pub each_told : length f.told_down ≡ length f.plan.wires
  pub services : length f.domains ≡ length f.plan.services
  pub domains : (service : ℕ) → service < length f.plan.services
      → IsDomainKept f.plan f.me (circuits_in f) (told_in f) f.ticks (record { 0 = service }) (domain_of f service)

-- what an edge forwards by before its first input
unfoldable pub opened_forwarding : Plan → EdgeId → EdgeState → EdgeState
opened_forwarding plan me edge = record edge {
  me = me;
  circuit_on = (empty_edge plan me).circuit_on;
  learned = (empty_edge plan me).learned;
  ticks = 0;
  told_down = (empty_edge plan me).told_down;
}

-- what an edge of the plan forwards by, once it is opened there
pub record IsNewForwarding (plan : Plan) (me : EdgeId) (f : ForwardingLists) : Type 0 where
  pub keeps : f.plan ≡ plan
  pub here : f.me ≡ me
  pub is : (edge : EdgeState) → with_forwarding f edge ≡ opened_forwarding plan me edge

-- the service of a circuit with such a row, where it is one of the edge's own
abbrev pub own_service : EdgeId → Option CircuitPlan → Option ServiceId
own_service me None = None
own_service me (Some row) = if row.edge.0 == me.0 then Some row.service else None
