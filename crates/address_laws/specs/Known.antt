-- A frame to a station whose site is known: it reaches that site once, and no other one more than once.
use Rattle.std.specs.Prelude.{◌≡◌, ◌==◌, ◌≤◌, ℕ, true, false, List, Some, Ok}
use Rattle.net_base.specs.declared.plan.Plan.{Plan}
use Rattle.net_base.specs.declared.plan.places.CircuitId.{CircuitId}
use Rattle.net_base.specs.declared.plan.places.ServiceId.{ServiceId}
use Rattle.net_base.specs.declared.trace.entry.Entry.{Entry}
use Rattle.net_base.specs.declared.trace.event.Event.{Event}
use Rattle.net_base.specs.declared.trace.event.Event.TheVariants.{Frame}
use Rattle.net_base.specs.plan.Places.{service_of}
use Rattle.net_base.specs.trace.Isolated.{inner_at}
use Rattle.net_base.specs.trace.Frame.{destination_of}
use Rattle.net_values.specs.Mac.{is_group_address}
use Rattle.network_model.specs.Frame.{next_origin}
use Rattle.network_model.specs.OnceEach.{LeftWithin, times_left}
use Rattle.network_model.specs.Reach.{is_circuit_on, is_site}
use Rattle.network_model.specs.Run.{state_after}
use Rattle.network_model.specs.State.{NetworkState}
use Rattle.network_model.specs.Step.{step}
use Rattle.network_model.specs.Window.{all_spare, has_copies}
use Rattle.address_laws.specs.Sites.{Sites}

-- in this state a well-formed frame enters the service, to a station whose site is on and is not the frame's own circuit; then
-- frames enter and packets arrive, no copy of it is lost or repeated, and none is left under way
pub record EntersForSite (plan : Plan) (network : NetworkState) (service : ServiceId) (site : Sites) (circuit : CircuitId) (octets : List ℕ) (later : List Event) : Type 0 where
  pub sender : service_of plan circuit ≡ Some service
  pub on : is_circuit_on plan network circuit ≡ true
  pub frame : List ℕ
  pub formed : inner_at plan circuit octets ≡ Ok frame
  pub station : is_group_address (destination_of frame) ≡ false
  pub receives : is_site plan network service (site (destination_of frame)) ≡ true
  pub other : ((site (destination_of frame)).0 == circuit.0) ≡ false
  pub spared : all_spare plan (next_origin network) (step plan network (Frame circuit octets)).state later ≡ true
  pub over : has_copies (state_after plan (step plan network (Frame circuit octets)).state later) (next_origin network) ≡ false

-- what entered with this number has left once at its site, at most once at any other circuit, and within so many segments
pub record ReachesSite (most : ℕ) (site : CircuitId) (origin : ℕ) (entries : List Entry) : Type 0 where
  pub once : times_left origin site entries ≡ 1
  pub others : (circuit : CircuitId) → times_left origin circuit entries ≤ 1
  pub within : LeftWithin most origin entries
