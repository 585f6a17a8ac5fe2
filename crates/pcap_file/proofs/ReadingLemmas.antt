-- Octets are a capture in one way at most, or have one first fault at most.
use Rattle.std.proofs.Common.{◌≡◌, ◌+◌, ◌⊎◌, ◌++◌, ◌∙◌, inl, inr, ℕ, List, [], ◌∷◌, length, drop, map, flat_map, Option, Some, None, Result, Ok, Err, IfOk, IfErr, refl, sym, ap, subst, arith, append_assoc, length-append}
use Rattle.std.specs.List.{AllByRecursion}
use Rattle.std.proofs.lemmas.List.{append-nil}
use Rattle.net_values.proofs.RowLemmas.{same_front}
use Rattle.pcap_file.specs.declared.capture_fault.CaptureFault.{CaptureFault}
use Rattle.pcap_file.specs.declared.capture_fault.CaptureFault.TheVariants.{Magic, Version, Network, Length, Truncated, NoMemory}
use Rattle.pcap_file.specs.declared.endianness.Endianness.{Endianness}
use Rattle.pcap_file.specs.declared.endianness.Endianness.TheVariants.{Big}
use Rattle.pcap_file.specs.Answers.{TellsCaptureFault, IsCaptureUnlessNoMemory}
use Rattle.pcap_file.specs.Fields.{first_field_fault, header_fields, record_fields}
use Rattle.pcap_file.specs.FirstFault.{IsHeaderFault, HasBrokenRecord, IsFirstFault}
use Rattle.pcap_file.specs.Laws.{OneCaptureReading}
use Rattle.pcap_file.specs.Numbers.{number_in_order, order_told}
use Rattle.pcap_file.specs.Records.{HasHeader, PacketRecord, IsPacketRecord, AreRecords, IsCapture, spell_record, record_frame}
use Rattle.pcap_file.proofs.FieldLemmas.{header_passes}
use Rattle.pcap_file.proofs.RecordLemmas.{record_passes}

-- what a magic tells is one byte order
same_order : (told : Option Endianness) (order other : Endianness) → told ≡ Some order → told ≡ Some other → order ≡ other
same_order told order other one two = let e : Some order ≡ Some other = sym one ∙ two in cc (e)

same_fault : (found : Option CaptureFault) (fault other : CaptureFault) → found ≡ Some fault → found ≡ Some other → fault ≡ other
same_fault found fault other one two = let e : Some fault ≡ Some other = sym one ∙ two in cc (e)

not_both : {A : Type 0} (found : Option A) (a : A) → found ≡ None → found ≡ Some a → ⊥
not_both found a none some = let e : None ≡ Some a = sym none ∙ some in absurd (cc (e))

-- a header has no fault
pub header_sound : (order : Endianness) (octets : List ℕ) (fault : CaptureFault) → HasHeader order octets → IsHeaderFault octets fault → ⊥
header_sound order octets fault header (inl lacks) = let there = header.there in let few = lacks.few in absurd (omega arith)
header_sound order octets fault header (inr (inl other)) = not_both (order_told (number_in_order Big 4 0 octets)) order other.other header.magic
header_sound order octets fault header (inr (inr wrong)) =
    let same = same_order (order_told (number_in_order Big 4 0 octets)) order wrong.order header.magic wrong.magic in
    not_both (first_field_fault 0 order octets header_fields) fault (header_passes order octets header)
    (subst (λ (o : Endianness). first_field_fault 0 o octets header_fields ≡ Some fault) (sym same) wrong.first)

-- a header has one first fault at most
pub one_header_fault : (octets : List ℕ) (fault other : CaptureFault) → IsHeaderFault octets fault → IsHeaderFault octets other → fault ≡ other
one_header_fault octets fault other (inl a) (inl b) = a.is ∙ sym b.is
one_header_fault octets fault other (inl a) (inr (inl b)) = let few = a.few in let there = b.there in absurd (omega arith)
one_header_fault octets fault other (inl a) (inr (inr b)) = let few = a.few in let there = b.there in absurd (omega arith)
one_header_fault octets fault other (inr (inl a)) (inl b) = let few = b.few in let there = a.there in absurd (omega arith)
one_header_fault octets fault other (inr (inl a)) (inr (inl b)) = a.is ∙ sym b.is
one_header_fault octets fault other (inr (inl a)) (inr (inr b)) = absurd (not_both (order_told (number_in_order Big 4 0 octets)) b.order a.other b.magic)
one_header_fault octets fault other (inr (inr a)) (inl b) = let few = b.few in let there = a.there in absurd (omega arith)
one_header_fault octets fault other (inr (inr a)) (inr (inl b)) = absurd (not_both (order_told (number_in_order Big 4 0 octets)) a.order b.other a.magic)
one_header_fault octets fault other (inr (inr a)) (inr (inr b)) =
    let same = same_order (order_told (number_in_order Big 4 0 octets)) a.order b.order a.magic b.magic in
    same_fault (first_field_fault 0 a.order octets header_fields) fault other a.first (subst (λ (o : Endianness). first_field_fault 0 o octets header_fields ≡ Some other) (sym same) b.first)

-- the record in front of octets is one
same_record : (order : Endianness) (p q : PacketRecord) (more rest : List ℕ) → IsPacketRecord order p → IsPacketRecord order q → spell_record p ++ more ≡ spell_record q ++ rest
    → (p ≡ q) × (more ≡ rest)
same_record order p q more rest is_p is_q e =
    let joined : p.head ++ (p.frame ++ more) ≡ q.head ++ (q.frame ++ rest) = sym (append_assoc p.head p.frame more) ∙ (e ∙ append_assoc q.head q.frame rest) in
    let (heads, behind) = same_front p.head q.head (p.frame ++ more) (q.frame ++ rest) (is_p.size ∙ sym is_q.size) joined in
    let lengths : length p.frame ≡ length q.frame = sym is_p.captured ∙ (ap (λ (l : List ℕ). number_in_order order 4 8 l) heads ∙ is_q.captured) in
    let (frames, back) = same_front p.frame q.frame more rest lengths behind in
    ((λ i. record { head = heads i; frame = frames i }), back)

-- no record stands in front of the octets
abbrev NoRecord : Endianness → List ℕ → Type 0
NoRecord order octets = (r : PacketRecord) (more : List ℕ) → IsPacketRecord order r → octets ≡ spell_record r ++ more → ⊥

none_in_nothing : (order : Endianness) → NoRecord order []
none_in_nothing order r more is e =
    let len = ap length e in
    let size = is.size in
    let all = length-append (spell_record r) more in
    let parts = length-append r.head r.frame in
    absurd (omega arith)

none_in_broken : (base : ℕ) (order : Endianness) (octets : List ℕ) (fault : CaptureFault) → first_field_fault base order octets record_fields ≡ Some fault → NoRecord order octets
none_in_broken base order octets fault first r more is e =
    not_both (first_field_fault base order octets record_fields) fault (subst (λ (l : List ℕ). first_field_fault base order l record_fields ≡ None) (sym e) (record_passes base order r more is)) first

-- records as far as they go are the same, and so is what is left
same_records : (order : Endianness) (ps qs : List PacketRecord) (rest more : List ℕ) → AllByRecursion (IsPacketRecord order) ps → AllByRecursion (IsPacketRecord order) qs
    → NoRecord order rest → NoRecord order more → flat_map spell_record ps ++ rest ≡ flat_map spell_record qs ++ more → (ps ≡ qs) × (rest ≡ more)
same_records order [] [] rest more are_p are_q no_p no_q e = (refl, e)
same_records order [] (q ∷ qs) rest more are_p are_q no_p no_q e = absurd (no_p q (flat_map spell_record qs ++ more) are_q.0 (e ∙ append_assoc (spell_record q) (flat_map spell_record qs) more))
same_records order (p ∷ ps) [] rest more are_p are_q no_p no_q e = absurd (no_q p (flat_map spell_record ps ++ rest) are_p.0 (sym e ∙ append_assoc (spell_record p) (flat_map spell_record ps) rest))
same_records order (p ∷ ps) (q ∷ qs) rest more are_p are_q no_p no_q e =
    let joined : spell_record p ++ (flat_map spell_record ps ++ rest) ≡ spell_record q ++ (flat_map spell_record qs ++ more) =
    sym (append_assoc (spell_record p) (flat_map spell_record ps) rest) ∙ (e ∙ append_assoc (spell_record q) (flat_map spell_record qs) more) in
    let (head, behind) = same_record order p q (flat_map spell_record ps ++ rest) (flat_map spell_record qs ++ more) are_p.0 are_q.0 joined in
    let (tail, left) = same_records order ps qs rest more are_p.1 are_q.1 no_p no_q behind in
    ((λ i. head i ∷ tail i), left)

same_frames : (order : Endianness) (octets : List ℕ) (frames others : List (List ℕ)) → AreRecords order octets frames → AreRecords order octets others → frames ≡ others
same_frames order octets frames others a b =
    let joined : flat_map spell_record a.records ++ [] ≡ flat_map spell_record b.records ++ [] = ap (λ (l : List ℕ). l ++ []) (sym a.joined ∙ b.joined) in
    let (records, left) = same_records order a.records b.records [] [] a.are b.are (none_in_nothing order) (none_in_nothing order) joined in
    a.of ∙ (ap (map record_frame) records ∙ sym b.of)

-- records are not broken
not_broken : (order : Endianness) (octets : List ℕ) (frames : List (List ℕ)) (fault : CaptureFault) → AreRecords order octets frames → HasBrokenRecord order octets fault → ⊥
not_broken order octets frames fault a b =
    let joined : flat_map spell_record a.records ++ [] ≡ flat_map spell_record b.records.records ++ b.rest =
    append-nil (flat_map spell_record a.records) ∙ (sym a.joined ∙ (b.split ∙ ap (λ (l : List ℕ). l ++ b.rest) b.records.joined)) in
    let (records, left) = same_records order a.records b.records.records [] b.rest a.are b.records.are (none_in_nothing order)
    (none_in_broken (24 + length b.front) order b.rest fault b.first) joined in
    let some = b.some in
    let none = ap length left in
    absurd (omega arith)

-- records are broken in one way at most
one_broken : (order : Endianness) (octets : List ℕ) (fault other : CaptureFault) → HasBrokenRecord order octets fault → HasBrokenRecord order octets other → fault ≡ other
one_broken order octets fault other a b =
    let joined : flat_map spell_record a.records.records ++ a.rest ≡ flat_map spell_record b.records.records ++ b.rest =
    ap (λ (l : List ℕ). l ++ a.rest) (sym a.records.joined) ∙ (sym a.split ∙ (b.split ∙ ap (λ (l : List ℕ). l ++ b.rest) b.records.joined)) in
    let (records, rests) = same_records order a.records.records b.records.records a.rest b.rest a.records.are b.records.are
    (none_in_broken (24 + length a.front) order a.rest fault a.first) (none_in_broken (24 + length b.front) order b.rest other b.first) joined in
    let fronts : a.front ≡ b.front = a.records.joined ∙ (ap (flat_map spell_record) records ∙ sym b.records.joined) in
    let found : first_field_fault (24 + length a.front) order a.rest record_fields ≡ first_field_fault (24 + length b.front) order b.rest record_fields =
    λ i. first_field_fault (24 + length (fronts i)) order (rests i) record_fields in
    same_fault (first_field_fault (24 + length a.front) order a.rest record_fields) fault other a.first (found ∙ b.first)

one_list : (octets : List ℕ) (frames others : List (List ℕ)) → IsCapture octets frames → IsCapture octets others → frames ≡ others
one_list octets frames others a b =
    let same = same_order (order_told (number_in_order Big 4 0 octets)) a.order b.order a.header.magic b.header.magic in
    same_frames a.order (drop 24 octets) frames others a.records (subst (λ (o : Endianness). AreRecords o (drop 24 octets) others) (sym same) b.records)

never_both : (octets : List ℕ) (frames : List (List ℕ)) (fault : CaptureFault) → IsCapture octets frames → IsFirstFault octets fault → ⊥
never_both octets frames fault a (inl header) = header_sound a.order octets fault a.header header
never_both octets frames fault a (inr b) =
    let same = same_order (order_told (number_in_order Big 4 0 octets)) a.order b.order a.header.magic b.header.magic in
    not_broken a.order (drop 24 octets) frames fault a.records (subst (λ (o : Endianness). HasBrokenRecord o (drop 24 octets) fault) (sym same) b.broken)

one_fault : (octets : List ℕ) (fault other : CaptureFault) → IsFirstFault octets fault → IsFirstFault octets other → fault ≡ other
one_fault octets fault other (inl a) (inl b) = one_header_fault octets fault other a b
one_fault octets fault other (inl a) (inr b) = absurd (header_sound b.order octets fault b.header a)
one_fault octets fault other (inr a) (inl b) = absurd (header_sound a.order octets other a.header b)
one_fault octets fault other (inr a) (inr b) =
    let same = same_order (order_told (number_in_order Big 4 0 octets)) a.order b.order a.header.magic b.header.magic in
    one_broken a.order (drop 24 octets) fault other a.broken (subst (λ (o : Endianness). HasBrokenRecord o (drop 24 octets) other) (sym same) b.broken)

pub one_reading : OneCaptureReading
one_reading = record { one_list = one_list; one_fault = one_fault; never_both = never_both }

-- a fault that is told is the first one, or memory was refused
told_first : (octets : List ℕ) (fault : CaptureFault) → TellsCaptureFault (IsFirstFault octets) fault → (fault ≡ NoMemory) ⊎ IsFirstFault octets fault
told_first octets (Magic at) tells = inr tells
told_first octets (Version at) tells = inr tells
told_first octets (Network at) tells = inr tells
told_first octets (Length at) tells = inr tells
told_first octets (Truncated at field) tells = inr tells
told_first octets NoMemory tells = inl refl

-- the only answer to a capture, and to octets with a fault
pub accepts : (octets : List ℕ) (result : Result (List (List ℕ)) CaptureFault) → IfOk result (IsCapture octets) → IfErr result (TellsCaptureFault (IsFirstFault octets))
    → (frames : List (List ℕ)) → IsCapture octets frames → IsCaptureUnlessNoMemory result (Ok frames)
accepts octets (Ok others) is told frames capture = inl (ap Ok (one_list octets others frames is capture))
accepts octets (Err fault) is told frames capture = elim (told_first octets fault told) [ inl none ↦ inr (ap Err none) | inr first ↦ absurd (never_both octets frames fault capture first) ]

pub refuses : (octets : List ℕ) (result : Result (List (List ℕ)) CaptureFault) → IfOk result (IsCapture octets) → IfErr result (TellsCaptureFault (IsFirstFault octets))
    → (fault : CaptureFault) → IsFirstFault octets fault → IsCaptureUnlessNoMemory result (Err fault)
refuses octets (Ok frames) is told fault first = absurd (never_both octets frames fault is first)
refuses octets (Err other) is told fault first = elim (told_first octets other told) [ inl none ↦ inr (ap Err none) | inr named ↦ inl (ap Err (one_fault octets other fault named first)) ]
