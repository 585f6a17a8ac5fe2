-- The domain of a service at an edge.
use Rattle.std.specs.Prelude.{◌≡◌, ◌<◌, ◌≤◌, ◌==◌, ◌&&◌, not, filter, ℕ, Bool, true, false, List, [], Option, Some, None, option_map, length, position, slice_get, slice_index_or, if◌then◌else◌}
use Rattle.net_base.specs.declared.plan.Plan.{Plan}
use Rattle.net_base.specs.declared.plan.places.EdgeId.{EdgeId}
use Rattle.net_base.specs.declared.plan.places.ServiceId.{ServiceId}
use Rattle.net_base.specs.declared.plan.service_plan.ServicePlan.{ServicePlan}
use Rattle.net_base.specs.declared.trace.down.Down.{Down}
use Rattle.net_base.specs.declared.trace.down.Down.TheVariants.{NoLocal}
use Rattle.net_values.specs.declared.mac.Mac.{Mac}
use Rattle.net_base.specs.plan.Places.{service_row}
use Rattle.hvpls_spokes.specs.declared.port.Port.{Port}
use Rattle.hvpls_spokes.specs.declared.port.Port.TheVariants as port
use Rattle.hvpls_spokes.specs.Port.{is_wire, ports_of}
use Rattle.hvpls_spokes.specs.PortSet.{holds_port}
use Rattle.mac_table.specs.Addresses.{NoneAfter, entry_stays, is_young}
use Rattle.vsi_bridge.specs.BridgeState.{most_addresses}
use Rattle.edge_model.specs.Ends.{is_up}
use Rattle.edge_model.specs.State.{without_port}
use Rattle.edge_forwarding.specs.declared.domain.Domain.{Domain}

-- ---- which ports are open

-- a port is open: its circuit is on, or of its wire it was told last that nothing keeps the end from forwarding
abbrev pub opens : (ℕ → Bool) → (ℕ → Option Down) → Option Port → Bool
opens on told None = false
opens on told (Some (port.Circuit circuit)) = on circuit.0
opens on told (Some (port.Mesh wire)) = is_up (told wire.0)
opens on told (Some (port.Spoke wire)) = is_up (told wire.0)

-- the port with this number is open
abbrev pub port_opens : (ℕ → Bool) → (ℕ → Option Down) → List Port → ℕ → Bool
port_opens on told ports p = opens on told (slice_get ports p)

-- before the first input every circuit is on, and of no end anything was told
abbrev pub all_on : ℕ → Bool
all_on circuit = true

-- before the first input nothing was told of any wire, whose end counts as one without a label
abbrev pub nothing_told : ℕ → Option Down
nothing_told wire = Some NoLocal

-- ---- domains

-- The domain is that of the service at the edge. Its set of forwarding ports is an index: it says again which circuits are on,
-- and what was told last of the wires
pub record IsDomain (plan : Plan) (me : EdgeId) (on : ℕ → Bool) (told : ℕ → Option Down) (now : ℕ) (service : ServiceId) (domain : Domain) : Type 0 where
  pub ports : domain.bridge.ports ≡ ports_of plan service me
  pub some : ports_of plan service me ≡ [] → ⊥
  pub age : (row : ServicePlan) → service_row plan service ≡ Some row → domain.bridge.age ≡ row.age
  pub forwarding : (p : ℕ) → holds_port domain.forwarding p ≡ port_opens on told domain.bridge.ports p
  pub ticks : NoneAfter now domain.bridge.entries
  pub few : length domain.bridge.entries ≤ most_addresses

-- after how many ticks the addresses of a service are forgotten, where the plan has the service
abbrev pub age_of : Plan → ServiceId → Option ℕ
age_of plan service = option_map (λ (row : ServicePlan). row.age) (service_row plan service)

-- there is a domain exactly where the service has a port at the edge
abbrev pub IsDomainKept : Plan → EdgeId → (ℕ → Bool) → (ℕ → Option Down) → ℕ → ServiceId → Option Domain → Type 0
IsDomainKept plan me on told now service None = ports_of plan service me ≡ []
IsDomainKept plan me on told now service (Some domain) = IsDomain plan me on told now service domain

-- the domain after its bridge forgot what it has not heard for long
abbrev pub aged_domain : ℕ → Domain → Domain
aged_domain now domain = record domain { bridge = record domain.bridge { entries = filter (is_young now domain.bridge.age) domain.bridge.entries } }

-- the same of the domain that is kept for a service, where it has one
abbrev pub aged_kept : ℕ → Option Domain → Option Domain
aged_kept now kept = option_map (aged_domain now) kept

-- the domain after its bridge forgot all that it had learned
abbrev pub cleared_domain : Domain → Domain
cleared_domain domain = record domain { bridge = record domain.bridge { entries = [] } }

-- the same of the domain that is kept for a service, where it has one
abbrev pub cleared_kept : Option Domain → Option Domain
cleared_kept kept = option_map cleared_domain kept

-- no address of its bridge came after now
abbrev pub KeptNotAfter : ℕ → Option Domain → Type 0
KeptNotAfter now None = Unit {0}
KeptNotAfter now (Some domain) = NoneAfter now domain.bridge.entries

-- the number is that of a port that was found
abbrev pub is_found : Option ℕ → ℕ → Bool
is_found None p = false
is_found (Some port) p = p == port

-- the port that is found forwards, or forwards no more
pub record IsTurned (test : Port → Bool) (on : Bool) (old new : Domain) : Type 0 where
  pub bridge : new.bridge ≡ old.bridge
  pub forwarding : (p : ℕ) → holds_port new.forwarding p ≡ (if is_found (position test old.bridge.ports) p then on else holds_port old.forwarding p)

-- the same of the domain that is kept for a service, where it has one
abbrev pub IsKeptTurned : (Port → Bool) → Bool → Option Domain → Option Domain → Type 0
IsKeptTurned test on None None = Unit {0}
IsKeptTurned test on None (Some new) = ⊥
IsKeptTurned test on (Some old) None = ⊥
IsKeptTurned test on (Some old) (Some new) = IsTurned test on old new

-- the bridge forgot what it had learned at the port that is found
abbrev pub forgot_domain : (Port → Bool) → Domain → Domain
forgot_domain test domain = record domain { bridge = record domain.bridge { entries = without_port (position test domain.bridge.ports) domain.bridge.entries } }

-- the same of the domain that is kept for a service, where it has one
abbrev pub forgot_kept : (Port → Bool) → Option Domain → Option Domain
forgot_kept test kept = option_map (forgot_domain test) kept

-- the bridge forgot what a MAC withdraw by a port names
abbrev pub withdrawn_domain : ℕ → List Mac → Domain → Domain
withdrawn_domain from addresses domain = record domain { bridge = record domain.bridge { entries = filter (entry_stays from addresses) domain.bridge.entries } }

-- the same of the domain that is kept for a service, where it has one
abbrev pub withdrawn_kept : ℕ → List Mac → Option Domain → Option Domain
withdrawn_kept from addresses kept = option_map (withdrawn_domain from addresses) kept

-- ---- no wire's port is open

-- the domain with no wire's port open
pub record IsClosed (old new : Domain) : Type 0 where
  pub bridge : new.bridge ≡ old.bridge
  pub forwarding : (p : ℕ) → holds_port new.forwarding p ≡ (holds_port old.forwarding p && not (is_wire (slice_get old.bridge.ports p)))

-- the same of the domain that is kept for a service, where it has one
abbrev pub IsKeptClosed : Option Domain → Option Domain → Type 0
IsKeptClosed None None = Unit {0}
IsKeptClosed None (Some new) = ⊥
IsKeptClosed (Some old) None = ⊥
IsKeptClosed (Some old) (Some new) = IsClosed old new

-- ---- new domains

-- the domain of a service with every circuit on, nothing told of a wire, and nothing learned; none where the service has no port
pub record IsNewDomain (plan : Plan) (me : EdgeId) (service : ServiceId) (years : ℕ) (domain : Domain) : Type 0 where
  pub some : ports_of plan service me ≡ [] → ⊥
  pub bridge : domain.bridge ≡ record { ports = ports_of plan service me; age = years; entries = [] }
  pub forwarding : (p : ℕ) → holds_port domain.forwarding p ≡ port_opens all_on nothing_told (ports_of plan service me) p

-- the same of the domain that is kept for a service: it has one where it has ports here
abbrev pub IsNew : Plan → EdgeId → ServiceId → ℕ → Option Domain → Type 0
IsNew plan me service age None = ports_of plan service me ≡ []
IsNew plan me service age (Some domain) = IsNewDomain plan me service age domain

-- so many services from the first on have their new domains
pub record AreNew (plan : Plan) (me : EdgeId) (count : ℕ) (domains : List (Option Domain)) : Type 0 where
  pub len : length domains ≡ count
  pub each : (place : ℕ) (service : ServicePlan) → place < count → slice_get plan.services place ≡ Some service → IsNew plan me (record { 0 = place }) service.age (slice_index_or domains place None)
