-- The TLVs of a message, each found once.
use Rattle.std.specs.Prelude.{◌≡◌, ◌≤◌, ◌+◌, ◌==◌, ℕ, false, List, Option, Some, None, length, take, drop, get_or, if◌then◌else◌}
use Rattle.net_values.specs.declared.field.Field.{Field}
use Rattle.ldp_grammar.specs.Layouts.{field_of}
use Rattle.ldp_grammar.specs.Octets.{two_at}
use Rattle.ldp_grammar.specs.Tlvs.{Tlv, IsJoined, value_of}
use Rattle.ldp_codec.specs.FieldSet.{place_of_field}

-- the value of the TLV that octets begin with, and whether it stands there whole
abbrev pub front_value : List ℕ → List ℕ
front_value rest = take (two_at 2 rest) (drop 4 rest)

abbrev pub IsWhole : List ℕ → Type 0
IsWhole rest = 4 + two_at 2 rest ≤ length rest

-- where the TLV of a field begins; 65535 where there is none
abbrev pub beginning : List ℕ → Field → ℕ
beginning places f = get_or places (place_of_field f) 0

-- the value of the TLV that begins there
abbrev pub value_at : List ℕ → ℕ → Option (List ℕ)
value_at octets at = if at == 65535 then None else Some (front_value (drop at octets))

-- of each field that is the TLV of a type, the first such TLV begins at its place
abbrev pub AreFirst : List ℕ → List ℕ → Type 0
AreFirst octets places = (ts : List Tlv) → IsJoined octets ts → (tlv : ℕ) (f : Field) → field_of tlv ≡ Some f → value_at octets (beginning places f) ≡ value_of tlv ts

-- a TLV stands whole at each of these places
abbrev pub AreWhole : List ℕ → List ℕ → Type 0
AreWhole octets places = (f : Field) → (beginning places f == 65535) ≡ false → IsWhole (drop (beginning places f) octets)

-- a TLV of this type was found at a place, unless one of its field was before
abbrev pub AreKept : List ℕ → List ℕ → ℕ → ℕ → Type 0
AreKept old new tlv at = (kind : ℕ) (f : Field) → field_of kind ≡ Some f → beginning new f
    ≡ (if tlv == kind then (if beginning old f == 65535 then at else beginning old f) else beginning old f)
