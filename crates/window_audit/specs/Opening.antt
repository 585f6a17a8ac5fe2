-- What is known of a frame before it enters.
use Rattle.std.specs.Prelude.{◌≡◌, ◌==◌, ◌&&◌, ◌<◌, not, ℕ, Bool, true, false, List, Option, Some, None, Result, Ok, Err, length}
use Rattle.net_base.specs.declared.plan.Plan.{Plan}
use Rattle.net_base.specs.declared.plan.places.CircuitId.{CircuitId}
use Rattle.net_base.specs.declared.plan.places.ServiceId.{ServiceId}
use Rattle.net_base.specs.declared.trace.drop_cause.DropCause.{DropCause}
use Rattle.net_base.specs.plan.Places.{service_of}
use Rattle.net_base.specs.trace.Isolated.{inner_at}
use Rattle.hvpls_spokes.specs.PortSet.{holds_port}
use Rattle.seen_network.specs.Calm.{is_seen_calm}
use Rattle.seen_network.specs.Once.{is_seen_site}
use Rattle.seen_network.specs.Seen.{Seen}
use Rattle.seen_network.specs.Windows.{GoesTo}
use Rattle.seen_network.specs.declared.window.Window.{Window}
use Rattle.window_audit.specs.declared.opening.Opening.{Opening}

-- the frame has no fault
pub record IsFormed (plan : Plan) (circuit : CircuitId) (octets : List ℕ) : Type 0 where
  pub frame : List ℕ
  pub formed : inner_at plan circuit octets ≡ Ok frame

-- a frame may open a window of the service: its circuit is on, it has no fault, and the service is seen calm
pub record MayOpen (plan : Plan) (seen : Seen) (circuit : CircuitId) (octets : List ℕ) (service : ServiceId) : Type 0 where
  pub sender : service_of plan circuit ≡ Some service
  pub on : seen.on circuit.0 ≡ true
  pub formed : IsFormed plan circuit octets
  pub calm : is_seen_calm plan seen service ≡ true

-- a frame that could be read
abbrev pub is_good : Result (List ℕ) DropCause → Bool
is_good (Ok frame) = true
is_good (Err cause) = false

-- the circuit of a place is one at which it has to leave
abbrev pub is_due : Plan → Seen → ServiceId → CircuitId → ℕ → Bool
is_due plan seen service sender place = is_seen_site plan seen service (record { 0 = place }) && not (place == sender.0)

-- the circuits at which it has to leave
abbrev pub AreSites : Plan → Seen → ServiceId → CircuitId → List ℕ → Type 0
AreSites plan seen service sender sites = (site : CircuitId) → site.0 < length plan.circuits → holds_port sites site.0 ≡ is_seen_site plan seen service site && not (site.0 == sender.0)

-- where the inner frame goes
abbrev pub InnerGoes : Plan → CircuitId → List ℕ → Opening → Type 0
InnerGoes plan circuit octets opening = (frame : List ℕ) → inner_at plan circuit octets ≡ Ok frame → GoesTo frame opening.destination

-- what is known of the frame, where it may open a window
abbrev pub OpensWith : Plan → Seen → CircuitId → List ℕ → Option Opening → Type 0
OpensWith plan seen circuit octets None = (service : ServiceId) → MayOpen plan seen circuit octets service → ⊥
OpensWith plan seen circuit octets (Some opening) = MayOpen plan seen circuit octets opening.service × InnerGoes plan circuit octets opening × AreSites plan seen opening.service circuit opening.sites

-- the window of a frame of which this is known, which entered under a number behind so many entries
abbrev pub window_with : CircuitId → ℕ × ℕ → Opening → Window
window_with sender entered opening = record {
  place = entered.1;
  sender = sender;
  service = opening.service;
  origin = entered.0;
  destination = opening.destination;
  sites = opening.sites;
}
