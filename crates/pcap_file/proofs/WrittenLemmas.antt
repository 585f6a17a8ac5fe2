-- What is written is a capture.
use Rattle.std.proofs.Common.{◌≡◌, ◌≤◌, ◌++◌, ℕ, List, [], ◌∷◌, length, map, flat_map, refl, ap, arith}
use Rattle.std.specs.List.{AllByRecursion}
use Rattle.byteorder.specs.Endian.{little_bytes}
use Rattle.byteorder.specs.Numbers.{little_number-reads_back}
use Rattle.pcap_file.specs.declared.endianness.Endianness.TheVariants.{Little}
use Rattle.pcap_file.specs.Laws.{WrittenCaptureIsRead}
use Rattle.pcap_file.specs.Records.{HasHeader, PacketRecord, IsPacketRecord, spell_record, record_frame}
use Rattle.pcap_file.specs.Written.{TimedFrame, written_header, written_record, written_frame}

header_is_read : (more : List ℕ) → HasHeader Little (written_header ++ more)
header_is_read more = record { there = omega arith; magic = refl; major = refl; minor = refl; network = refl }

-- the record of a frame that is written
abbrev record_of : TimedFrame → PacketRecord
record_of timed = record { head = written_record timed.seconds (length timed.frame); frame = timed.frame }

record_is_read : (timed : TimedFrame) → length timed.frame ≤ 262144 → IsPacketRecord Little (record_of timed)
record_is_read timed most = record {
  size = refl;
  captured = little_number-reads_back 4 (length timed.frame) (little_bytes 4 (length timed.frame)) (omega arith);
  most = most;
}

all_read : (list : List TimedFrame) → AllByRecursion (λ timed. length timed.frame ≤ 262144) list → AllByRecursion (IsPacketRecord Little) (map record_of list)
all_read [] all = tt
all_read (timed ∷ list) all = (record_is_read timed all.0, all_read list all.1)

same_octets : (list : List TimedFrame) → flat_map written_frame list ≡ flat_map spell_record (map record_of list)
same_octets [] = refl
same_octets (timed ∷ list) = ap (λ (l : List ℕ). written_frame timed ++ l) (same_octets list)

same_frames : (list : List TimedFrame) → map (λ (timed : TimedFrame). timed.frame) list ≡ map record_frame (map record_of list)
same_frames [] = refl
same_frames (timed ∷ list) = ap (λ (l : List (List ℕ)). timed.frame ∷ l) (same_frames list)

pub written_is_read : WrittenCaptureIsRead
written_is_read list all = record {
  order = Little;
  header = header_is_read (flat_map written_frame list);
  records = record { records = map record_of list; joined = same_octets list; are = all_read list all; of = same_frames list };
}
