-- How long an address stays in a bridge of an edge to which nothing else comes than ticks (RFC 4762 section 9.1).
use Rattle.std.specs.Prelude.{◌≡◌, ◌<◌, ◌≤◌, ◌+◌, ◌-◌, ◌^◌, zero, suc, ℕ, true, Some, None, Option, slice_get}
use Rattle.net_base.specs.declared.plan.Plan.{Plan}
use Rattle.net_base.specs.declared.plan.places.CircuitId.{CircuitId}
use Rattle.net_base.specs.declared.plan.places.ServiceId.{ServiceId}
use Rattle.net_base.specs.declared.plan.service_plan.ServicePlan.{ServicePlan}
use Rattle.net_values.specs.declared.mac.Mac.{Mac}
use Rattle.pw_messages.specs.LinkAnswers.{Answers}
use Rattle.hvpls_spokes.specs.declared.port.Port.{Port}
use Rattle.hvpls_spokes.specs.declared.port.Port.TheVariants as port
use Rattle.hvpls_spokes.specs.Port.{is_wire_port, ports_of}
use Rattle.mac_table.specs.declared.mac_entry.MacEntry.{MacEntry}
use Rattle.mac_table.specs.Addresses.{AreDistinctAddresses, mac_entry_of}
use Rattle.edge_model.specs.declared.end_place.EndPlace.{EndPlace}
use Rattle.edge_model.specs.declared.input.Input.TheVariants.{Tick}
use Rattle.edge_model.specs.Ends.{wire_end}
use Rattle.edge_model.specs.Mended.{HasFitPaths}
use Rattle.edge_model.specs.Role.{down_at}
use Rattle.edge_model.specs.State.{EdgeState, addresses_of}
use Rattle.edge_model.specs.Step.{edge_step}
use Rattle.edge_model.specs.Work.{Work, beginning}

-- so many ticks pass at an edge, each of them an input, and nothing else comes
abbrev pub ticks_passing : Plan → Answers → ℕ → Work → Work
ticks_passing plan told zero work = work
ticks_passing plan told (suc n) work = ticks_passing plan told n (edge_step plan told Tick (beginning work.edge work.calls))

-- the entry under which the bridge of a service finds an address
abbrev pub entry_at : EdgeState → ServiceId → Mac → Option MacEntry
entry_at edge service address = mac_entry_of (addresses_of edge service) address

-- the last frame from the address came in the tick of now, no address of the service stands twice, and this is the service
pub record IsHeardNow (plan : Plan) (edge : EdgeState) (service : ServiceId) (row : ServicePlan) (address : Mac) (entry : MacEntry) : Type 0 where
  pub is : slice_get plan.services service.0 ≡ Some row
  pub distinct : AreDistinctAddresses (addresses_of edge service)
  pub found : entry_at edge service address ≡ Some entry
  pub now : entry.tick ≡ edge.ticks

-- the entry points to a circuit of the service
pub record IsAtCircuit (plan : Plan) (edge : EdgeState) (service : ServiceId) (entry : MacEntry) : Type 0 where
  pub circuit : CircuitId
  pub at : slice_get (ports_of plan service edge.me) entry.port ≡ Some (port.Circuit circuit)

-- the entry points to a wire of the service, of which this is the end at the edge
pub record IsAtWire (plan : Plan) (edge : EdgeState) (service : ServiceId) (entry : MacEntry) (place : EndPlace) : Type 0 where
  pub x : Port
  pub at : slice_get (ports_of plan service edge.me) entry.port ≡ Some x
  pub to_wire : is_wire_port place.wire x ≡ true
  pub here : wire_end plan edge.me place.wire ≡ Some place

-- Whatever the link answers, and whatever the state of the edge, whose ticks are counted up to 2^64 - 1.
pub record AddressesLastTheirAge : Type 0 where
  -- an address that was heard at a circuit stands while fewer ticks have passed than its service's age limit says
  pub stands : (plan : Plan) (told : Answers) (n : ℕ) (work : Work) (service : ServiceId) (row : ServicePlan) (address : Mac) (entry : MacEntry)
      → IsHeardNow plan work.edge service row address entry → IsAtCircuit plan work.edge service entry → work.edge.ticks + n ≤ 2 ^ 64 - 1 → n < row.age
      → entry_at (ticks_passing plan told n work).edge service address ≡ Some entry
  -- so does one that was heard on a wire whose end forwards after each of the ticks, where the link takes each message
  pub stands_by_wire : (plan : Plan) (told : Answers) (n : ℕ) (work : Work) (service : ServiceId) (row : ServicePlan) (address : Mac) (entry : MacEntry) (place : EndPlace)
      → HasFitPaths plan → ((k : ℕ) → told k ≡ true) → IsHeardNow plan work.edge service row address entry → IsAtWire plan work.edge service entry place
      → ((k : ℕ) → 1 ≤ k → k ≤ n → down_at plan (ticks_passing plan told k work).edge place ≡ None) → work.edge.ticks + n ≤ 2 ^ 64 - 1 → n < row.age
      → entry_at (ticks_passing plan told n work).edge service address ≡ Some entry
  -- and each address is gone once as many have
  pub goes : (plan : Plan) (told : Answers) (n : ℕ) (work : Work) (service : ServiceId) (row : ServicePlan) (address : Mac) (entry : MacEntry)
      → IsHeardNow plan work.edge service row address entry → work.edge.ticks + n ≤ 2 ^ 64 - 1 → 1 ≤ row.age → row.age ≤ n
      → entry_at (ticks_passing plan told n work).edge service address ≡ None
