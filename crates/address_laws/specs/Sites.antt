-- Where the stations of a service are.
use Rattle.std.specs.Prelude.{◌≡◌, ℕ, false, List, [], ◌∷◌, Some, Ok}
use Rattle.net_base.specs.declared.plan.Plan.{Plan}
use Rattle.net_base.specs.declared.plan.places.CircuitId.{CircuitId}
use Rattle.net_base.specs.declared.plan.places.ServiceId.{ServiceId}
use Rattle.net_base.specs.declared.trace.entry.Entry.{Entry}
use Rattle.net_base.specs.declared.trace.entry.Entry.TheVariants.{In}
use Rattle.net_base.specs.plan.Places.{service_of}
use Rattle.net_base.specs.trace.Isolated.{inner_at}
use Rattle.net_base.specs.trace.Frame.{source_of}
use Rattle.net_values.specs.Mac.{is_group_address}

-- the circuit of each station by its address
abbrev pub Sites : Type 0
Sites = List ℕ → CircuitId

-- a frame of the service that has entered came by the site of its source
abbrev pub CameFromSite : Plan → ServiceId → Sites → Entry → Type 0
CameFromSite plan service site (In circuit number octets) = (frame : List ℕ)
    → service_of plan circuit ≡ Some service
    → inner_at plan circuit octets ≡ Ok frame
    → is_group_address (source_of frame) ≡ false
    → site (source_of frame) ≡ circuit
CameFromSite plan service site entry = Unit {0}

-- each source enters the service at one circuit only, its site
abbrev pub OneSite : Plan → ServiceId → Sites → List Entry → Type 0
OneSite plan service site [] = Unit {0}
OneSite plan service site (entry ∷ entries) = CameFromSite plan service site entry × OneSite plan service site entries
