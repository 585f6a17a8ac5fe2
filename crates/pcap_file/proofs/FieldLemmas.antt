-- Fields without a fault.
use Rattle.std.proofs.Common.{◌≡◌, ◌≤◌, ◌+◌, ◌==◌, ℕ, Bool, true, false, List, [], ◌∷◌, length, Option, Some, None, refl, arith, if◌then◌else◌, nat_lt, nat_le}
use Rattle.std.specs.List.{AllByRecursion}
use Rattle.std.specs.Option.{option_or}
use Rattle.pcap_file.specs.declared.capture_fault.CaptureFault.{CaptureFault}
use Rattle.pcap_file.specs.declared.capture_field.CaptureField.{CaptureField}
use Rattle.pcap_file.specs.declared.capture_field.CaptureField.TheVariants.{Major, Minor, Zone, Accuracy, Snap, Network, Captured, Data}
use Rattle.pcap_file.specs.declared.endianness.Endianness.{Endianness}
use Rattle.pcap_file.specs.declared.endianness.Endianness.TheVariants.{Big}
use Rattle.pcap_file.specs.Fields.{field_place, field_size, value_fault, field_fault, first_field_fault, header_fields, record_fields}
use Rattle.pcap_file.specs.Numbers.{number_in_order, order_told}
use Rattle.pcap_file.specs.Records.{HasHeader}

-- neither of two has a fault
both_none : (a b : Option CaptureFault) → option_or a b ≡ None → (a ≡ None) × (b ≡ None)
both_none None b e = (refl, e)
both_none (Some fault) b e = absurd (cc (e))

-- what a test refuses holds where it refuses nothing
passed : (test : Bool) (fault : CaptureFault) (e : (if test then None else Some fault) ≡ None) → test ≡ true
passed true fault e = refl
passed false fault e = absurd (cc (e))

not_refused : (test : Bool) (fault : CaptureFault) (more : Option CaptureFault) → (if test then Some fault else more) ≡ None → (test ≡ false) × (more ≡ None)
not_refused true fault more e = absurd (cc (e))
not_refused false fault more e = (refl, e)

-- a field that has no fault is whole, and its value is right
pub field_sound : (base : ℕ) (order : Endianness) (octets : List ℕ) (field : CaptureField) → field_fault base order octets field ≡ None
    → (field_place field + field_size order octets field ≤ length octets) × (value_fault base order octets field ≡ None)
field_sound base order octets field e =
    let (whole, value) = not_refused (nat_lt (length octets) (field_place field + field_size order octets field)) _ (value_fault base order octets field) e in
    (grind (arith, whole), value)

-- where fields have no first fault, none of them has a fault
all_sound : (base : ℕ) (order : Endianness) (octets : List ℕ) (fields : List CaptureField) → first_field_fault base order octets fields ≡ None
    → AllByRecursion (λ field. field_fault base order octets field ≡ None) fields
all_sound base order octets [] none = tt
all_sound base order octets (field ∷ fields) none =
    let (one, others) = both_none (field_fault base order octets field) (first_field_fault base order octets fields) none in
    (one, all_sound base order octets fields others)

-- a header whose fields have no fault is one
pub header_sound : (order : Endianness) (octets : List ℕ) → 4 ≤ length octets → order_told (number_in_order Big 4 0 octets) ≡ Some order → first_field_fault 0 order octets header_fields
    ≡ None → HasHeader order octets
header_sound order octets there told none =
    let sound = all_sound 0 order octets header_fields none in
    let (whole, network) = field_sound 0 order octets Network sound.1.1.1.1.1.0 in
    let major_is : number_in_order order 2 4 octets == 2 ≡ true = passed _ _ (field_sound 0 order octets Major sound.0).1 in
    let minor_is : number_in_order order 2 6 octets == 4 ≡ true = passed _ _ (field_sound 0 order octets Minor sound.1.0).1 in
    let network_is : number_in_order order 4 20 octets == 1 ≡ true = passed _ _ network in
    record { there = omega (arith, whole); magic = told; major = grind (arith, major_is); minor = grind (arith, minor_is); network = grind (arith, network_is) }

-- octets that begin with a record of so many octets of a frame
pub record BeginsRecord (order : Endianness) (octets : List ℕ) (count : ℕ) : Type 0 where
  pub whole : 16 + count ≤ length octets
  pub captured : number_in_order order 4 8 octets ≡ count
  pub most : count ≤ 262144

-- where no field of a record has a fault, octets begin with one

pub record_sound : (base : ℕ) (order : Endianness) (octets : List ℕ) → first_field_fault base order octets record_fields ≡ None → BeginsRecord order octets (number_in_order order 4 8 octets)
record_sound base order octets none =
    let sound = all_sound base order octets record_fields none in
    let most : nat_le (number_in_order order 4 8 octets) 262144 ≡ true = passed _ _ (field_sound base order octets Captured sound.1.1.0).1 in
    record { whole = (field_sound base order octets Data sound.1.1.1.1.0).0; captured = refl; most = grind (arith, most) }

-- a field that is whole, with a right value, has no fault
pub field_passes : (base : ℕ) (order : Endianness) (octets : List ℕ) (field : CaptureField) → field_place field + field_size order octets field ≤ length octets
    → value_fault base order octets field ≡ None → field_fault base order octets field ≡ None
field_passes base order octets field whole right =
    let enough : nat_lt (length octets) (field_place field + field_size order octets field) ≡ false = grind (arith, whole) in
    rw enough right

-- fields without a fault have no first fault
pub first_passes : (base : ℕ) (order : Endianness) (octets : List ℕ) (fields : List CaptureField) → AllByRecursion (λ field. field_fault base order octets field ≡ None) fields
    → first_field_fault base order octets fields ≡ None
first_passes base order octets [] all = refl
first_passes base order octets (field ∷ fields) all = rw (all.0) (first_passes base order octets fields all.1)

-- a header has no fault
pub header_passes : (order : Endianness) (octets : List ℕ) → HasHeader order octets → first_field_fault 0 order octets header_fields ≡ None
header_passes order octets header =
    let there = header.there in
    let passes = field_passes 0 order octets in
    first_passes 0 order octets header_fields (
      passes Major (omega arith) (let e = header.major in rw e refl),
      (
        passes Minor (omega arith) (let e = header.minor in rw e refl),
        (
          passes Zone (omega arith) refl,
          (
            passes Accuracy (omega arith) refl,
            (
              passes Snap (omega arith) refl,
              (passes Network (omega arith) (let e = header.network in rw e refl), tt),
            ),
          ),
        ),
      ),
    )
