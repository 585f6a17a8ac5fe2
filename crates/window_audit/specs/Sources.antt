-- Where frames came from.
use Rattle.std.specs.Prelude.{◌≡◌, ◌==◌, ◌&&◌, ◌||◌, ℕ, Bool, List, length}
use Rattle.std.specs.List.{list_any}
use Rattle.std.specs.Str.{bytes_eq}
use Rattle.net_base.specs.declared.plan.Plan.{Plan}
use Rattle.net_base.specs.declared.plan.places.CircuitId.{CircuitId}
use Rattle.net_base.specs.declared.plan.places.ServiceId.{ServiceId}
use Rattle.net_base.specs.declared.trace.entry.Entry.{Entry}
use Rattle.net_base.specs.plan.Places.{circuit_row}
use Rattle.net_base.specs.trace.Frame.{source_of}
use Rattle.net_values.specs.declared.mac.Mac.{Mac}
use Rattle.seen_network.specs.Once.{is_circuit_row_of, is_sourced_by}
use Rattle.window_audit.specs.declared.source.Source.{Source}

-- the source is this address in this service
abbrev pub is_source : ℕ → List ℕ → Source → Bool
is_source service address source = service == source.service && bytes_eq address source.address.0

-- one of them is
abbrev pub has_source : List Source → ℕ → List ℕ → Bool
has_source sources service address = list_any (is_source service address) sources

-- these are the sources of the frames that entered, by the services that they entered
abbrev pub HasSources : Plan → List Source → List Entry → Type 0
HasSources plan sources trace = (service : ServiceId) (address : Mac) → length address.0 ≡ 6 → has_source sources service.0 address.0 ≡ list_any (is_sourced_by plan service address.0) trace

-- a frame that enters at the circuit enters the service, from the address
abbrev pub comes_from : Plan → CircuitId → List ℕ → ServiceId → List ℕ → Bool
comes_from plan circuit octets service address = is_circuit_row_of service (circuit_row plan circuit) && bytes_eq (source_of octets) address

-- a frame more entered
abbrev pub HasEnteredOnce : Plan → CircuitId → List ℕ → List Source → List Source → Type 0
HasEnteredOnce plan circuit octets old new = (service : ServiceId) (address : Mac) → length address.0 ≡ 6
    → has_source new service.0 address.0 ≡ has_source old service.0 address.0 || comes_from plan circuit octets service address.0
