-- All octets are a capture or have a first fault.
use Rattle.std.proofs.Common.{◌≡◌, ◌≤◌, ◌<◌, ◌+◌, ◌++◌, ◌∙◌, inl, inr, ℕ, zero, suc, List, [], ◌∷◌, length, take, drop, Option, Some, None, refl, sym, ap, subst, arith, append_assoc, length-drop}
use Rattle.std.proofs.lemmas.Bool.{cases_lt}
use Rattle.std.proofs.lemmas.List.{append-nil, take-append-drop}
use Rattle.std.proofs.Math.Seq.{take-add}
use Rattle.pcap_file.specs.declared.capture_fault.CaptureFault.{CaptureFault}
use Rattle.pcap_file.specs.declared.capture_fault.CaptureFault.TheVariants.{Magic, Truncated}
use Rattle.pcap_file.specs.declared.capture_field.CaptureField.TheVariants as field
use Rattle.pcap_file.specs.declared.endianness.Endianness.{Endianness}
use Rattle.pcap_file.specs.declared.endianness.Endianness.TheVariants.{Big}
use Rattle.pcap_file.specs.Fields.{first_field_fault, header_fields, record_fields}
use Rattle.pcap_file.specs.FirstFault.{HasBrokenRecord}
use Rattle.pcap_file.specs.Laws.{CaptureReading, captured, refused, EachCaptureIsRead}
use Rattle.pcap_file.specs.Numbers.{number_in_order, order_told}
use Rattle.pcap_file.specs.Records.{HasHeader, AreRecords}
use Rattle.pcap_file.proofs.FieldLemmas.{header_sound, record_sound}
use Rattle.pcap_file.proofs.RecordLemmas.{record_in_front, records_more}

-- the octets are records, or one of them is broken
data RecordsReading (order : Endianness) (octets : List ℕ) : Type 0 where
  whole : (frames : List (List ℕ)) → AreRecords order octets frames → RecordsReading order octets
  broken : (fault : CaptureFault) → HasBrokenRecord order octets fault → RecordsReading order octets

-- records in front, of these frames, and octets behind them
record ReadSoFar (order : Endianness) (octets front rest : List ℕ) (frames : List (List ℕ)) : Type 0 where
  split : octets ≡ front ++ rest
  records : AreRecords order front frames

-- behind records the next one is there, or is broken
goes_on : (order : Endianness) (octets front rest : List ℕ) (frames : List (List ℕ)) → ReadSoFar order octets front rest frames → 0 < length rest
    → ((more left : List ℕ) (longer : List (List ℕ)) → ReadSoFar order octets more left longer → length left < length rest → RecordsReading order octets)
    → (found : Option CaptureFault) → first_field_fault (24 + length front) order rest record_fields ≡ found → RecordsReading order octets
goes_on order octets front rest frames so_far some next (Some fault) e =
    broken fault (record { front = front; rest = rest; split = so_far.split; frames = frames; records = so_far.records; some = some; first = e })
goes_on order octets front rest frames so_far some next None e =
    let begins = record_sound (24 + length front) order rest e in
    let count = number_in_order order 4 8 rest in
    let frame = take count (drop 16 rest) in
    let is = record_in_front order rest frame count begins refl in
    let piece : take 16 rest ++ frame ≡ take (16 + count) rest = sym (take-add 16 count rest) in
    let parted : rest ≡ (take 16 rest ++ frame) ++ drop (16 + count) rest = sym (ap (λ (l : List ℕ). l ++ drop (16 + count) rest) piece ∙ take-append-drop (16 + count) rest) in
    let split = so_far.split ∙ (ap (λ (l : List ℕ). front ++ l) parted ∙ sym (append_assoc front (take 16 rest ++ frame) (drop (16 + count) rest))) in
    let shorter = length-drop (16 + count) rest in
    let fits = begins.whole in
    next (front ++ (take 16 rest ++ frame)) (drop (16 + count) rest) (frames ++ frame ∷ [])
    (record { split = split; records = records_more order front frames (record { head = take 16 rest; frame = frame }) so_far.records is }) (omega arith)

records_from : (fuel : ℕ) (order : Endianness) (octets front rest : List ℕ) (frames : List (List ℕ)) → ReadSoFar order octets front rest frames → length rest ≤ fuel → RecordsReading order octets
records_from fuel order octets front [] frames so_far enough =
    let all = so_far.split ∙ append-nil front in
    whole frames (subst (λ (l : List ℕ). AreRecords order l frames) (sym all) so_far.records)
records_from zero order octets front (octet ∷ rest) frames so_far enough = absurd (omega arith)
records_from (suc fuel) order octets front (octet ∷ rest) frames so_far enough =
    goes_on order octets front (octet ∷ rest) frames so_far (omega arith)
    (λ more left longer so_long shorter. records_from fuel order octets more left longer so_long (omega arith))
    (first_field_fault (24 + length front) order (octet ∷ rest) record_fields) refl

each_records : (order : Endianness) (octets : List ℕ) → RecordsReading order octets
each_records order octets =
    records_from (length octets) order octets [] octets [] (record { split = refl; records = record { records = []; joined = refl; are = tt; of = refl } }) (omega arith)

behind_header : (order : Endianness) (octets : List ℕ) → HasHeader order octets → RecordsReading order (drop 24 octets) → CaptureReading octets
behind_header order octets header (whole frames are) = captured frames (record { order = order; header = header; records = are })
behind_header order octets header (broken fault is) = refused fault (inr (record { order = order; header = header; broken = is }))

behind_magic : (order : Endianness) (octets : List ℕ) → 4 ≤ length octets → order_told (number_in_order Big 4 0 octets) ≡ Some order → (found : Option CaptureFault)
    → first_field_fault 0 order octets header_fields ≡ found → CaptureReading octets
behind_magic order octets there told (Some fault) e = refused fault (inl (inr (inr (record { order = order; there = there; magic = told; first = e }))))
behind_magic order octets there told None e = behind_header order octets (header_sound order octets there told e) (each_records order (drop 24 octets))

with_magic : (octets : List ℕ) → 4 ≤ length octets → (told : Option Endianness) → order_told (number_in_order Big 4 0 octets) ≡ told → CaptureReading octets
with_magic octets there (Some order) e = behind_magic order octets there e (first_field_fault 0 order octets header_fields) refl
with_magic octets there None e = refused (Magic 0) (inl (inr (inl (record { there = there; other = e; is = refl }))))

pub each_is_read : EachCaptureIsRead
each_is_read octets = elim (cases_lt (length octets) 4) [
  | inl few ↦ refused (Truncated 0 field.Magic) (inl (inl (record { few = few; is = refl })))
  | inr there ↦ with_magic octets there (order_told (number_in_order Big 4 0 octets)) refl
]
