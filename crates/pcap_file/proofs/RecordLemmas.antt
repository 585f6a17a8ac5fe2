-- Records one after another.
use Rattle.std.proofs.Common.{◌≡◌, ◌≤◌, ◌<◌, ◌+◌, ◌++◌, ◌∙◌, ℕ, List, [], ◌∷◌, Some, None, length, take, drop, map, flat_map, refl, sym, ap, subst, arith, length-append, length-drop, length-take, nat_le, true}
use Rattle.std.specs.List.{AllByRecursion}
use Rattle.std.proofs.lemmas.Grind.{flat_map-append, common_steps}
use Rattle.std.proofs.lemmas.List.{append-nil, drop-append-le, take-append-drop}
use Rattle.std.proofs.Math.Seq.{take-add}
use Rattle.byteorder.specs.Numbers.{big_from-append, little_from-append}
use Rattle.byteorder.specs.Endian.{big_number, little_number}
use Rattle.pcap_file.specs.declared.capture_fault.CaptureFault.{CaptureFault}
use Rattle.pcap_file.specs.declared.capture_field.CaptureField.TheVariants.{Seconds, Fraction, Captured, Original, Data}
use Rattle.pcap_file.specs.declared.endianness.Endianness.{Endianness}
use Rattle.pcap_file.specs.declared.endianness.Endianness.TheVariants.{Big, Little}
use Rattle.pcap_file.specs.Fields.{first_field_fault, record_fields}
use Rattle.pcap_file.specs.FirstFault.{HasBrokenRecord}
use Rattle.pcap_file.specs.Numbers.{number_in_order}
use Rattle.pcap_file.proofs.FieldLemmas.{BeginsRecord, field_passes, first_passes}
use Rattle.pcap_file.specs.Records.{PacketRecord, IsPacketRecord, AreRecords, spell_record, record_frame}

-- a number in the front is that of all
pub number_front : (order : Endianness) (size place : ℕ) (xs ys : List ℕ) → place + size ≤ length xs → number_in_order order size place (xs ++ ys) ≡ number_in_order order size place xs
number_front Big size place xs ys within = ap (λ (l : List ℕ). big_number size l) (drop-append-le place xs ys (omega arith))
    ∙ big_from-append size (drop place xs) ys (let len = length-drop place xs in omega arith)
number_front Little size place xs ys within = ap (λ (l : List ℕ). little_number size l) (drop-append-le place xs ys (omega arith))
    ∙ little_from-append size (drop place xs) ys (let len = length-drop place xs in omega arith)

all_more : (order : Endianness) (rs : List PacketRecord) (r : PacketRecord) → AllByRecursion (IsPacketRecord order) rs → IsPacketRecord order r → AllByRecursion (IsPacketRecord order) (rs ++ r ∷ [])
all_more order [] r all is = (is, tt)
all_more order (q ∷ rs) r all is = (all.0, all_more order rs r all.1 is)

frames_more : (rs : List PacketRecord) (r : PacketRecord) → map record_frame (rs ++ r ∷ []) ≡ map record_frame rs ++ r.frame ∷ []
frames_more [] r = refl
frames_more (q ∷ rs) r = ap (λ (l : List (List ℕ)). q.frame ∷ l) (frames_more rs r)

-- one record more behind records
pub records_more : (order : Endianness) (octets : List ℕ) (frames : List (List ℕ)) (r : PacketRecord) → AreRecords order octets frames → IsPacketRecord order r
    → AreRecords order (octets ++ spell_record r) (frames ++ r.frame ∷ [])
records_more order octets frames r are is = record {
  records = are.records ++ r ∷ [];
  joined = ap (λ (l : List ℕ). l ++ spell_record r) are.joined
      ∙ (ap (λ (l : List ℕ). flat_map spell_record are.records ++ l) (sym (append-nil (spell_record r))) ∙ sym (flat_map-append spell_record are.records (r ∷ [])));
  are = all_more order are.records r are.are is;
  of = ap (λ (l : List (List ℕ)). l ++ r.frame ∷ []) are.of ∙ sym (frames_more are.records r);
}

-- a number in the octets that are taken is that of all
pub number_taken : (order : Endianness) (size place count : ℕ) (octets : List ℕ) → place + size ≤ count → count ≤ length octets → number_in_order order size place (take count octets)
    ≡ number_in_order order size place octets
number_taken order size place count octets fits within =
    sym (number_front order size place (take count octets) (drop count octets) (let len = length-take count octets in omega arith))
    ∙ ap (λ (l : List ℕ). number_in_order order size place l) (take-append-drop count octets)

-- octets that begin with a record begin with its head and its frame
pub record_in_front : (order : Endianness) (octets frame : List ℕ) (count : ℕ) → BeginsRecord order octets count → frame ≡ take count (drop 16 octets)
    → IsPacketRecord order (record { head = take 16 octets; frame = frame })
record_in_front order octets frame count begins e =
    let whole = begins.whole in
    let most = begins.most in
    let behind = length-drop 16 octets in
    let taken = length-take count (drop 16 octets) in
    let size = ap length e in
    record {
      size = let len = length-take 16 octets in omega arith;
      captured = number_taken order 4 8 16 octets (omega arith) (omega arith) ∙ (begins.captured ∙ omega arith);
      most = omega arith;
    }

-- one record more before a later place
pub records_up_to : (order : Endianness) (octets rest frame : List ℕ) (frames more : List (List ℕ)) (at end : ℕ) → AreRecords order (take at octets) frames → rest ≡ drop at octets
    → IsPacketRecord order (record { head = take 16 rest; frame = frame }) → take (16 + length frame) rest ≡ take 16 rest ++ frame → end ≡ at + (16 + length frame) → more ≡ frames ++ frame ∷ []
    → AreRecords order (take end octets) more
records_up_to order octets rest frame frames more at end are behind is front place pushed =
    let next : take end octets ≡ take at octets ++ (take 16 rest ++ frame) =
    ap (λ (n : ℕ). take n octets) place ∙ (take-add at (16 + length frame) octets ∙ ap (λ (l : List ℕ). take at octets ++ l) (ap (λ (l : List ℕ). take (16 + length frame) l) (sym behind) ∙ front)) in
    rw next (rw pushed (records_more order (take at octets) frames (record { head = take 16 rest; frame = frame }) are is))

-- octets up to their end are all of them
pub all_records : (order : Endianness) (octets : List ℕ) (frames : List (List ℕ)) (at : ℕ) → AreRecords order (take at octets) frames → length octets ≤ at → AreRecords order octets frames
all_records order octets frames at are whole = subst (λ (l : List ℕ). AreRecords order l frames) (grind (arith, whole, common_steps)) are

-- octets from a place on whose fields have a fault break the record that begins there
pub broken_at : (order : Endianness) (octets rest : List ℕ) (frames : List (List ℕ)) (at base : ℕ) (fault : CaptureFault) → at < length octets
    → AreRecords order (take at octets) frames → rest ≡ drop at octets
    → base ≡ 24 + at → first_field_fault base order rest record_fields ≡ Some fault → HasBrokenRecord order octets fault
broken_at order octets rest frames at base fault within are behind place first = record {
  front = take at octets;
  rest = rest;
  split = sym (ap (λ (l : List ℕ). take at octets ++ l) behind ∙ take-append-drop at octets);
  frames = frames;
  records = are;
  some = let len = length-drop at octets in let same = ap length behind in omega arith;
  first = let len = length-take at octets in let same : 24 + length (take at octets) ≡ base = omega arith in rw same first;
}

-- a record in front has no fault
pub record_passes : (base : ℕ) (order : Endianness) (r : PacketRecord) (more : List ℕ) → IsPacketRecord order r → first_field_fault base order (spell_record r ++ more) record_fields ≡ None
record_passes base order r more is =
    let size = is.size in
    let most = is.most in
    let octets = spell_record r ++ more in
    let all = length-append (spell_record r) more in
    let parts = length-append r.head r.frame in
    let captured : number_in_order order 4 8 (spell_record r ++ more) ≡ length r.frame =
    number_front order 4 8 (spell_record r) more (omega arith) ∙ (number_front order 4 8 r.head r.frame (omega arith) ∙ is.captured) in
    let passes = field_passes base order octets in
    first_passes base order octets record_fields (
      passes Seconds (omega arith) refl,
      (
        passes Fraction (omega arith) refl,
        (
          passes Captured (omega arith) (let right : nat_le (length r.frame) 262144 ≡ true = grind (arith, most) in rw captured (rw right refl)),
          (
            passes Original (omega arith) refl,
            (passes Data (omega arith) refl, tt),
          ),
        ),
      ),
    )
