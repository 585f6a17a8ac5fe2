-- The fields of a capture in order, and what can be wrong in each (libpcap's capture file format, "File Header" and
-- "Packet Record").
use Rattle.std.specs.Prelude.{◌==◌, ◌+◌, ℕ, nat_le, nat_lt, List, [], ◌∷◌, length, Option, Some, None, if◌then◌else◌}
use Rattle.std.specs.Option.{option_or}
use Rattle.pcap_file.specs.declared.capture_fault.CaptureFault.{CaptureFault}
use Rattle.pcap_file.specs.declared.capture_fault.CaptureFault.TheVariants as fault
use Rattle.pcap_file.specs.declared.capture_field.CaptureField.{CaptureField}
use Rattle.pcap_file.specs.declared.capture_field.CaptureField.TheVariants.{Magic, Major, Minor, Zone, Accuracy, Snap, Network, Seconds, Fraction, Captured, Original, Data}
use Rattle.pcap_file.specs.declared.endianness.Endianness.{Endianness}
use Rattle.pcap_file.specs.Numbers.{number_in_order}

-- the first octet of a field, counted from that of its header or record
abbrev pub field_place : CaptureField → ℕ
field_place Magic = 0
field_place Major = 4
field_place Minor = 6
field_place Zone = 8
field_place Accuracy = 12
field_place Snap = 16
field_place Network = 20
field_place Seconds = 0
field_place Fraction = 4
field_place Captured = 8
field_place Original = 12
field_place Data = 16

-- the octets of a field; those of a record's data are as many as its captured length says
abbrev pub field_size : Endianness → List ℕ → CaptureField → ℕ
field_size order octets Magic = 4
field_size order octets Major = 2
field_size order octets Minor = 2
field_size order octets Zone = 4
field_size order octets Accuracy = 4
field_size order octets Snap = 4
field_size order octets Network = 4
field_size order octets Seconds = 4
field_size order octets Fraction = 4
field_size order octets Captured = 4
field_size order octets Original = 4
field_size order octets Data = number_in_order order 4 8 octets

-- the fault of a field of a header or record that begins at this place of the file, where the field is whole: the
-- version is 2.4, the network 1 (Ethernet), and a captured length at most 262,144. Nothing else is looked at.
abbrev pub value_fault : ℕ → Endianness → List ℕ → CaptureField → Option CaptureFault
value_fault base order octets Magic = None
value_fault base order octets Major = if number_in_order order 2 4 octets == 2 then None else Some (fault.Version (base + 4))
value_fault base order octets Minor = if number_in_order order 2 6 octets == 4 then None else Some (fault.Version (base + 4))
value_fault base order octets Zone = None
value_fault base order octets Accuracy = None
value_fault base order octets Snap = None
value_fault base order octets Network = if number_in_order order 4 20 octets == 1 then None else Some (fault.Network (base + 20))
value_fault base order octets Seconds = None
value_fault base order octets Fraction = None
value_fault base order octets Captured = if nat_le (number_in_order order 4 8 octets) 262144 then None else Some (fault.Length (base + 8))
value_fault base order octets Original = None
value_fault base order octets Data = None

-- the fault of a field: the octets end before its last one, or its value is wrong
abbrev pub field_fault : ℕ → Endianness → List ℕ → CaptureField → Option CaptureFault
field_fault base order octets field =
    if nat_lt (length octets) (field_place field + field_size order octets field) then Some (fault.Truncated (base + field_place field) field)
    else value_fault base order octets field

-- the first fault of fields in their order
abbrev pub first_field_fault : ℕ → Endianness → List ℕ → List CaptureField → Option CaptureFault
first_field_fault base order octets [] = None
first_field_fault base order octets (field ∷ fields) = option_or (field_fault base order octets field) (first_field_fault base order octets fields)

-- the fields of a header behind its magic
abbrev pub header_fields : List CaptureField
header_fields = Major ∷ Minor ∷ Zone ∷ Accuracy ∷ Snap ∷ Network ∷ []

-- the fields of a record
abbrev pub record_fields : List CaptureField
record_fields = Seconds ∷ Fraction ∷ Captured ∷ Original ∷ Data ∷ []
