-- The first fault of octets that are no capture.
use Rattle.std.specs.Prelude.{◌≡◌, ◌<◌, ◌≤◌, ◌+◌, ◌⊎◌, ◌++◌, ℕ, List, length, drop, Some, None}
use Rattle.pcap_file.specs.declared.capture_fault.CaptureFault.{CaptureFault}
use Rattle.pcap_file.specs.declared.capture_fault.CaptureFault.TheVariants.{Magic, Truncated}
use Rattle.pcap_file.specs.declared.capture_field.CaptureField.TheVariants as field
use Rattle.pcap_file.specs.declared.endianness.Endianness.{Endianness}
use Rattle.pcap_file.specs.declared.endianness.Endianness.TheVariants.{Big}
use Rattle.pcap_file.specs.Fields.{first_field_fault, header_fields, record_fields}
use Rattle.pcap_file.specs.Numbers.{number_in_order, order_told}
use Rattle.pcap_file.specs.Records.{HasHeader, AreRecords}

-- the octets end within the magic
pub record LacksMagic (octets : List ℕ) (fault : CaptureFault) : Type 0 where
  pub few : length octets < 4
  pub is : fault ≡ Truncated 0 field.Magic

-- the first four octets are none of the four magics
pub record HasOtherMagic (octets : List ℕ) (fault : CaptureFault) : Type 0 where
  pub there : 4 ≤ length octets
  pub other : order_told (number_in_order Big 4 0 octets) ≡ None
  pub is : fault ≡ Magic 0

-- behind a magic the header has this first fault, read in the byte order that the magic tells
pub record HasWrongHeader (octets : List ℕ) (fault : CaptureFault) : Type 0 where
  pub order : Endianness
  pub there : 4 ≤ length octets
  pub magic : order_told (number_in_order Big 4 0 octets) ≡ Some order
  pub first : first_field_fault 0 order octets header_fields ≡ Some fault

-- the header has this first fault
abbrev pub IsHeaderFault : List ℕ → CaptureFault → Type 0
IsHeaderFault octets fault = LacksMagic octets fault ⊎ HasOtherMagic octets fault ⊎ HasWrongHeader octets fault

-- behind whole records there are octets of a record that has this first fault; the octets begin behind a header
pub record HasBrokenRecord (order : Endianness) (octets : List ℕ) (fault : CaptureFault) : Type 0 where
  pub front : List ℕ
  pub rest : List ℕ
  pub split : octets ≡ front ++ rest
  pub frames : List (List ℕ)
  pub records : AreRecords order front frames
  pub some : 0 < length rest
  pub first : first_field_fault (24 + length front) order rest record_fields ≡ Some fault

-- behind a header and whole records a record has this first fault
pub record IsRecordFault (octets : List ℕ) (fault : CaptureFault) : Type 0 where
  pub order : Endianness
  pub header : HasHeader order octets
  pub broken : HasBrokenRecord order (drop 24 octets) fault

-- the octets are no capture, and this is their first fault
abbrev pub IsFirstFault : List ℕ → CaptureFault → Type 0
IsFirstFault octets fault = IsHeaderFault octets fault ⊎ IsRecordFault octets fault
