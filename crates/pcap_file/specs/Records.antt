-- The records of a capture (libpcap's capture file format, "File Header" and "Packet Record").
use Rattle.std.specs.Prelude.{◌≡◌, ◌≤◌, ◌++◌, ℕ, List, length, drop, map, flat_map, Some}
use Rattle.std.specs.List.{AllByRecursion}
use Rattle.pcap_file.specs.declared.endianness.Endianness.{Endianness}
use Rattle.pcap_file.specs.declared.endianness.Endianness.TheVariants.{Big}
use Rattle.pcap_file.specs.Numbers.{number_in_order, order_told}

-- the octets begin with a header in this byte order: one of its magics, version 2.4, and Ethernet
pub record HasHeader (order : Endianness) (octets : List ℕ) : Type 0 where
  pub there : 24 ≤ length octets
  pub magic : order_told (number_in_order Big 4 0 octets) ≡ Some order
  pub major : number_in_order order 2 4 octets ≡ 2
  pub minor : number_in_order order 2 6 octets ≡ 4
  pub network : number_in_order order 4 20 octets ≡ 1

-- the octets of a record: those that tell of a frame, and the frame
pub record PacketRecord : Type 0 where
  pub head : List ℕ
  pub frame : List ℕ

abbrev pub spell_record : PacketRecord → List ℕ
spell_record r = r.head ++ r.frame

abbrev pub record_frame : PacketRecord → List ℕ
record_frame r = r.frame

-- the head has its four numbers, and the captured length is that of the frame
pub record IsPacketRecord (order : Endianness) (r : PacketRecord) : Type 0 where
  pub size : length r.head ≡ 16
  pub captured : number_in_order order 4 8 r.head ≡ length r.frame
  pub most : length r.frame ≤ 262144

-- the octets are records one after another, of these frames
pub record AreRecords (order : Endianness) (octets : List ℕ) (frames : List (List ℕ)) : Type 0 where
  pub records : List PacketRecord
  pub joined : octets ≡ flat_map spell_record records
  pub are : AllByRecursion (IsPacketRecord order) records
  pub of : frames ≡ map record_frame records

-- the octets are a capture of these frames: a header, and records behind it
pub record IsCapture (octets : List ℕ) (frames : List (List ℕ)) : Type 0 where
  pub order : Endianness
  pub header : HasHeader order octets
  pub records : AreRecords order (drop 24 octets) frames
