-- The definitions at work on small files: each equation below is found by evaluation alone.
use Rattle.std.proofs.Common.{◌≡◌, ◌++◌, ℕ, List, [], ◌∷◌, inl, inr, refl, arith}
use Rattle.pcap_file.specs.declared.capture_fault.CaptureFault.TheVariants.{Version, Truncated}
use Rattle.pcap_file.specs.declared.capture_field.CaptureField.TheVariants as field
use Rattle.pcap_file.specs.declared.endianness.Endianness.TheVariants.{Big, Little}
use Rattle.pcap_file.specs.FirstFault.{IsFirstFault}
use Rattle.pcap_file.specs.Records.{HasHeader, IsCapture}
use Rattle.pcap_file.specs.Written.{written_header, written_record}

-- a header with high octets first and times in nanoseconds
abbrev big_header : List ℕ
big_header = 0xA1 ∷ 0xB2 ∷ 0x3C ∷ 0x4D ∷ 0 ∷ 2 ∷ 0 ∷ 4 ∷ 0 ∷ 0 ∷ 0 ∷ 0 ∷ 0 ∷ 0 ∷ 0 ∷ 0 ∷ 0 ∷ 0 ∷ 0 ∷ 0 ∷ 0 ∷ 0 ∷ 0 ∷ 1 ∷ []

-- the head of a record of two octets
abbrev big_head : List ℕ
big_head = 0 ∷ 0 ∷ 0 ∷ 7 ∷ 0 ∷ 0 ∷ 0 ∷ 9 ∷ 0 ∷ 0 ∷ 0 ∷ 2 ∷ 0 ∷ 0 ∷ 5 ∷ 0xDC ∷ []

has_big_header : (more : List ℕ) → HasHeader Big (big_header ++ more)
has_big_header more = record { there = omega arith; magic = refl; major = refl; minor = refl; network = refl }

-- a capture of one frame
one_frame : IsCapture (big_header ++ (big_head ++ 0xAA ∷ 0xBB ∷ [])) ((0xAA ∷ 0xBB ∷ []) ∷ [])
one_frame = record {
  order = Big;
  header = has_big_header (big_head ++ 0xAA ∷ 0xBB ∷ []);
  records = record { records = record { head = big_head; frame = 0xAA ∷ 0xBB ∷ [] } ∷ []; joined = refl; are = (record { size = refl; captured = refl; most = omega arith }, tt); of = refl };
}

-- the same file without its last octet
cut_frame : IsFirstFault (big_header ++ (big_head ++ 0xAA ∷ [])) (Truncated 40 field.Data)
cut_frame = inr (record {
  order = Big;
  header = has_big_header (big_head ++ 0xAA ∷ []);
  broken = record { front = []; rest = big_head ++ 0xAA ∷ []; split = refl; frames = []; records = record { records = []; joined = refl; are = tt; of = refl }; some = omega arith; first = refl };
})

-- a header of 20 octets
cut_header : IsFirstFault (0xD4 ∷ 0xC3 ∷ 0xB2 ∷ 0xA1 ∷ 2 ∷ 0 ∷ 4 ∷ 0 ∷ 0 ∷ 0 ∷ 0 ∷ 0 ∷ 0 ∷ 0 ∷ 0 ∷ 0 ∷ 0xFF ∷ 0xFF ∷ 0 ∷ 0 ∷ []) (Truncated 20 field.Network)
cut_header = inl (inr (inr (record { order = Little; there = omega arith; magic = refl; first = refl })))

-- a major version 3 with nothing behind it
major_alone : IsFirstFault (0xD4 ∷ 0xC3 ∷ 0xB2 ∷ 0xA1 ∷ 3 ∷ 0 ∷ []) (Version 4)
major_alone = inl (inr (inr (record { order = Little; there = omega arith; magic = refl; first = refl })))

header_octets : written_header ≡ 0xD4 ∷ 0xC3 ∷ 0xB2 ∷ 0xA1 ∷ 2 ∷ 0 ∷ 4 ∷ 0 ∷ 0 ∷ 0 ∷ 0 ∷ 0 ∷ 0 ∷ 0 ∷ 0 ∷ 0 ∷ 0xFF ∷ 0xFF ∷ 0 ∷ 0 ∷ 1 ∷ 0 ∷ 0 ∷ 0 ∷ []
header_octets = refl

record_octets : written_record 0x01020304 0x100 ≡ 4 ∷ 3 ∷ 2 ∷ 1 ∷ 0 ∷ 0 ∷ 0 ∷ 0 ∷ 0 ∷ 1 ∷ 0 ∷ 0 ∷ 0 ∷ 1 ∷ 0 ∷ 0 ∷ []
record_octets = refl
