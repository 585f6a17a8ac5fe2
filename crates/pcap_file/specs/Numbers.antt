-- The numbers of a capture, and the byte order that they have (libpcap's capture file format, "File Header").
use Rattle.std.specs.Prelude.{◌==◌, ◌||◌, ℕ, List, drop, Option, Some, None, if◌then◌else◌}
use Rattle.byteorder.specs.Endian.{big_number, little_number}
use Rattle.pcap_file.specs.declared.endianness.Endianness.{Endianness}
use Rattle.pcap_file.specs.declared.endianness.Endianness.TheVariants.{Big, Little}

-- the number of so many octets at a place
abbrev pub number_in_order : Endianness → ℕ → ℕ → List ℕ → ℕ
number_in_order Big size place octets = big_number size (drop place octets)
number_in_order Little size place octets = little_number size (drop place octets)

-- the byte order that a magic tells, where its octets are taken with the high one first: each order has a magic for
-- times in microseconds and one for times in nanoseconds
abbrev pub order_told : ℕ → Option Endianness
order_told magic =
    if magic == 0xA1B2C3D4 || magic == 0xA1B23C4D then Some Big else
    if magic == 0xD4C3B2A1 || magic == 0x4D3CB2A1 then Some Little else None
