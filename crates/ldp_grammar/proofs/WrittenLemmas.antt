-- What is written is read.
use Rattle.std.proofs.Common.{◌≡◌, inl, inr, ◌≤◌, ◌<◌, ◌+◌, ◌-◌, ◌%◌, ◌++◌, ℕ, Bool, true, false, List, [], ◌∷◌, Option, Some, None, zero, suc, length, take, drop, flat_map, nat_eq, nat_le, eq-eqb, eqb-true, refl, sym, ap, subst, ◌∙◌, arith}
use Rattle.std.specs.Prelude.{is_some, slice_get}
use Rattle.std.specs.List.{AllByRecursion}
use Rattle.std.proofs.lemmas.Bool.{cases_Bool, ne_eqb}
use Rattle.std.proofs.lemmas.Bool.Decides.{nat_tests}
use Rattle.net_values.specs.declared.field.Field.{Field}
use Rattle.net_values.specs.declared.field.Field.TheVariants as field
use Rattle.net_values.specs.Label.{IsLabel}
use Rattle.net_values.specs.declared.mac.Mac.{Mac}
use Rattle.pw_tlvs.specs.declared.fec_value.FecValue.TheVariants.{Pw}
use Rattle.pw_tlvs.specs.declared.point.Point.{Point}
use Rattle.pw_tlvs.specs.declared.pw_fec.PwFec.{PwFec}
use Rattle.pw_tlvs.specs.Macs.{mac_octets}
use Rattle.pw_tlvs.specs.Written.{written_fec, written_point, writable_fec, IsFecInRange, IsPointInRange}
use Rattle.pw_tlvs.proofs.LawLemmas.{fec_again, point_again}
use Rattle.pw_tlvs.proofs.MacLemmas.{length_macs}
use Rattle.ldp_grammar.specs.declared.message_kind.MessageKind.TheVariants.{LabelMapping}
use Rattle.ldp_grammar.specs.declared.session_params.SessionParams.{SessionParams}
use Rattle.ldp_grammar.specs.declared.status_code.StatusCode.{StatusCode}
use Rattle.ldp_grammar.specs.Octets.{two, four, two_at, four_at, bit}
use Rattle.ldp_grammar.specs.Layouts.{Layout, CountedOctets, FamilyAddresses, MacAddresses, FecElement, LabelNumber, PointParts, FreeOctets, fits, layout_of, most, most_as, listed}
use Rattle.ldp_grammar.specs.Rows.{row_of, fec, label, switching_point}
use Rattle.ldp_grammar.specs.Tlvs.{Tlv, IsTlv, spell_tlv, type_in, count_of, values_of, first_unknown, missing, needs_pw_id, IsFitting, IsFec, KeepsTo}
use Rattle.ldp_grammar.specs.Values.{IsStatus, IsHello, IsSession, ArePoints}
use Rattle.ldp_grammar.specs.Written.{bit_as, status_octets, hello_parameters_octets, session_octets, id_octets, addresses_octets, are_whole, AreParams, point_tlvs, tlv, ignorable}
use Rattle.ldp_grammar.proofs.OctetLemmas.{read_two, read_four}
use Rattle.ldp_grammar.proofs.TlvLemmas.{size_of, count-append}

-- the two high bits of a word, and what is below them
first_bit : (f g : Bool) (n : ℕ) → n < 1073741824 → f ≡ bit 31 (bit_as 31 f + bit_as 30 g + n)
first_bit true true n small = sym (eq-eqb _ _ (omega arith))
first_bit true false n small = sym (eq-eqb _ _ (omega arith))
first_bit false true n small = sym (ne_eqb _ _ (λ e. omega (arith, e)))
first_bit false false n small = sym (ne_eqb _ _ (λ e. omega (arith, e)))

second_bit : (f g : Bool) (n : ℕ) → n < 1073741824 → g ≡ bit 30 (bit_as 31 f + bit_as 30 g + n)
second_bit true true n small = sym (eq-eqb _ _ (omega arith))
second_bit true false n small = sym (ne_eqb _ _ (λ e. omega (arith, e)))
second_bit false true n small = sym (eq-eqb _ _ (omega arith))
second_bit false false n small = sym (ne_eqb _ _ (λ e. omega (arith, e)))

below : (f g : Bool) (n : ℕ) → n < 1073741824 → n ≡ (bit_as 31 f + bit_as 30 g + n) % 1073741824
below true true n small = omega arith
below true false n small = omega arith
below false true n small = omega arith
below false false n small = omega arith

word_fits : (f g : Bool) (n : ℕ) → n < 1073741824 → bit_as 31 f + bit_as 30 g + n < 4294967296
word_fits true true n small = omega arith
word_fits true false n small = omega arith
word_fits false true n small = omega arith
word_fits false false n small = omega arith

pub status_back : (s : StatusCode) → s.code < 1073741824 → s.message < 4294967296 → s.kind < 65536 → IsStatus (status_octets s) s
status_back s small message kind =
    let word : ℕ = bit_as 31 s.fatal + bit_as 30 s.forward + s.code in
    let read : four_at 0 (status_octets s) ≡ word = read_four word (four s.message ++ two s.kind) (word_fits s.fatal s.forward s.code small) in
    record {
      fatal = first_bit s.fatal s.forward s.code small ∙ ap (bit 31) (sym read);
      forward = second_bit s.fatal s.forward s.code small ∙ ap (bit 30) (sym read);
      code = below s.fatal s.forward s.code small ∙ ap (λ (n : ℕ). n % 1073741824) (sym read);
      message = sym (read_four s.message (two s.kind) message);
      kind = sym (read_two s.kind [] kind);
    }

-- the two high bits of a pair of octets, and of one octet
high_bits : (t r : Bool) → (t ≡ bit 15 (bit_as 15 t + bit_as 14 r)) × (r ≡ bit 14 (bit_as 15 t + bit_as 14 r)) × (bit_as 15 t + bit_as 14 r < 65536)
high_bits true true = (refl, refl, omega arith)
high_bits true false = (refl, refl, omega arith)
high_bits false true = (refl, refl, omega arith)
high_bits false false = (refl, refl, omega arith)

octet_bits : (t r : Bool) → (t ≡ bit 7 (bit_as 7 t + bit_as 6 r)) × (r ≡ bit 6 (bit_as 7 t + bit_as 6 r))
octet_bits true true = (refl, refl)
octet_bits true false = (refl, refl)
octet_bits false true = (refl, refl)
octet_bits false false = (refl, refl)

pub hello_back : (hold : ℕ) (t r : Bool) → hold < 65536 → IsHello (hello_parameters_octets hold t r) hold t r
hello_back hold t r small =
    let bits = high_bits t r in
    let flags : two_at 2 (hello_parameters_octets hold t r) ≡ bit_as 15 t + bit_as 14 r = read_two (bit_as 15 t + bit_as 14 r) [] bits.2 in
    record {
      time = sym (read_two hold (two (bit_as 15 t + bit_as 14 r)) small);
      t_bit = bits.0 ∙ ap (bit 15) (sym flags);
      r_bit = bits.1 ∙ ap (bit 14) (sym flags);
    }

id_back : (router : List ℕ) (space : ℕ) → length router ≡ 4 → space < 65536 → (router ≡ take 4 (router ++ two space)) × (space ≡ two_at 4 (router ++ two space))
id_back [] space four_of fits = absurd (omega (arith, four_of))
id_back (a ∷ []) space four_of fits = absurd (omega (arith, four_of))
id_back (a ∷ b ∷ []) space four_of fits = absurd (omega (arith, four_of))
id_back (a ∷ b ∷ c ∷ []) space four_of fits = absurd (omega (arith, four_of))
id_back (a ∷ b ∷ c ∷ d ∷ []) space four_of fits = (refl, sym (read_two space [] fits))
id_back (a ∷ b ∷ c ∷ d ∷ e ∷ more) space four_of fits = absurd (omega (arith, four_of))

pub session_back : (p : SessionParams) → AreParams p → IsSession (session_octets p) p
session_back p are =
    let bits = octet_bits p.demand p.loops in
    let id = id_back p.receiver.router.0 p.receiver.space are.receiver.router are.receiver.space in
    record {
      version = sym (read_two p.version (two p.keepalive) are.version);
      keepalive = sym (read_two p.keepalive [] are.keepalive);
      demand = bits.0;
      loops = bits.1;
      limit = refl;
      max_pdu = sym (read_two p.max_pdu (id_octets p.receiver) are.max_pdu);
      router = id.0;
      space = id.1;
    }

pub addresses_fit : (family : ℕ) (octets : List ℕ) → family < 65536 → are_whole family octets ≡ true → fits field.AddressList (addresses_octets family octets) ≡ true
addresses_fit family octets small whole =
    let read : two_at 0 (addresses_octets family octets) ≡ family = read_two family octets small in
    let size : length (addresses_octets family octets) - 2 ≡ length octets = omega arith in
    let least : nat_le 2 (length (addresses_octets family octets)) ≡ true = grind (arith, nat_tests) in
    rw (least, read, size) whole

-- a TLV or two of different types stand once
least_most_as : (layout : Layout) → 1 ≤ most_as layout
least_most_as (CountedOctets count) = omega arith
least_most_as FamilyAddresses = omega arith
least_most_as MacAddresses = omega arith
least_most_as FecElement = omega arith
least_most_as LabelNumber = omega arith
least_most_as PointParts = omega arith
least_most_as FreeOctets = omega arith

pub least_most : (f : Field) → 1 ≤ most f
least_most f = least_most_as (layout_of f)

keeps_one : (o : Option Field) (count : ℕ) → count ≤ 1 → KeepsTo o count
keeps_one None count few = tt
keeps_one (Some f) count few = omega (arith, least_most f)

count_one : (kind : ℕ) (t : Tlv) → count_of kind (t ∷ []) ≤ 1
count_one kind t = elim (cases_Bool (nat_eq (type_in t.word) kind)) [
  | inl same ↦ rw same (omega arith)
  | inr other ↦ rw other (omega arith)
]

pub keeps_none : (o : Option Field) → KeepsTo o 0
keeps_none o = keeps_one o 0 (omega arith)

pub keeps_alone : (o : Option Field) (kind : ℕ) (t : Tlv) → KeepsTo o (count_of kind (t ∷ []))
keeps_alone o kind t = keeps_one o _ (count_one kind t)

count_two : (kind : ℕ) (t u : Tlv) → (type_in t.word ≡ type_in u.word → ⊥) → count_of kind (t ∷ u ∷ []) ≤ 1
count_two kind t u differ = elim (cases_Bool (nat_eq (type_in t.word) kind)) [
  | inl same ↦ elim (cases_Bool (nat_eq (type_in u.word) kind)) [
    | inl too ↦ absurd (differ (eqb-true _ _ same ∙ sym (eqb-true _ _ too)))
    | inr other ↦ rw (same, other) (omega arith)
  ]
  | inr other ↦ rw other (count_one kind u)
]

pub keeps_two : (o : Option Field) (kind : ℕ) (t u : Tlv) → (type_in t.word ≡ type_in u.word → ⊥) → KeepsTo o (count_of kind (t ∷ u ∷ []))
keeps_two o kind t u differ = keeps_one o _ (count_two kind t u differ)

-- no two of the TLVs are of one type
abbrev pub AreDistinct : List Tlv → Type 0
AreDistinct [] = Unit {0}
AreDistinct (t ∷ ts) = (count_of (type_in t.word) ts ≡ 0) × AreDistinct ts

count_distinct : (kind : ℕ) (ts : List Tlv) → AreDistinct ts → count_of kind ts ≤ 1
count_distinct kind [] distinct = omega arith
count_distinct kind (t ∷ ts) distinct = elim (cases_Bool (nat_eq (type_in t.word) kind)) [
  | inl same ↦ (let none : count_of kind ts ≡ 0 = subst (λ (k : ℕ). count_of k ts ≡ 0) (eqb-true _ _ same) distinct.0 in rw same (omega (arith, none)))
  | inr other ↦ rw other (count_distinct kind ts distinct.1)
]

pub keeps_distinct : (o : Option Field) (kind : ℕ) (ts : List Tlv) → AreDistinct ts → KeepsTo o (count_of kind ts)
keeps_distinct o kind ts distinct = keeps_one o _ (count_distinct kind ts distinct)

-- TLVs whose octets are few are TLVs
abbrev pub HaveWords : List Tlv → Type 0
HaveWords [] = Unit {0}
HaveWords (t ∷ ts) = (t.word < 65536) × HaveWords ts

pub all_fit : (ts : List Tlv) → HaveWords ts → length (flat_map spell_tlv ts) < 65536 → AllByRecursion IsTlv ts
all_fit [] words few = tt
all_fit (t ∷ ts) words few =
    let size = size_of t (flat_map spell_tlv ts) in
    ((words.0, omega (arith, few, size)), all_fit ts words.1 (omega (arith, few, size)))

-- a FEC that can be written
pub fec_told : (pw : PwFec) → writable_fec pw ≡ true → IsFecInRange pw → IsFec (written_fec pw)
fec_told pw can within = record { told = Pw pw; is = fec_again pw can within }

pub has_pw_id : (o : Option ℕ) → is_some o ≡ true → needs_pw_id LabelMapping o ≡ None
has_pw_id None e = absurd (cc)
has_pw_id (Some pw_id) e = refl

-- a label that is written
pub label_back : (n : ℕ) → IsLabel n → n ≡ four_at 0 (four n)
label_back n is = sym (read_four n [] (omega (arith, is.below)))

pub number_back : (n : ℕ) → n < 4294967296 → n ≡ four_at 0 (four n)
number_back n small = sym (read_four n [] small)

-- MAC addresses that are written
pub macs_fit : (macs : List Mac) → AllByRecursion (λ mac. length mac.0 ≡ 6) macs → fits field.MacList (mac_octets macs) ≡ true
macs_fit macs six = eq-eqb _ _ (omega (arith, length_macs macs six))

-- switching points that are written
pub points_words : (points : List Point) → HaveWords (point_tlvs points)
points_words [] = tt
points_words (p ∷ points) = (omega arith, points_words points)

pub points_fitting : (body : List ℕ) (points : List Point) → AllByRecursion IsPointInRange points → AllByRecursion (IsFitting (row_of LabelMapping) body) (point_tlvs points)
points_fitting body [] within = tt
points_fitting body (p ∷ points) within = ((refl, record { point = p; is = point_again p within.0 }), points_fitting body points within.1)

pub points_back : (points : List Point) → AllByRecursion IsPointInRange points → ArePoints (values_of switching_point (point_tlvs points)) points
points_back [] within = tt
points_back (p ∷ points) within = (point_again p within.0, points_back points within.1)

pub points_known : (points : List Point) → first_unknown (row_of LabelMapping) (point_tlvs points) ≡ None
points_known [] = refl
points_known (p ∷ points) = points_known points

pub points_count : (points : List Point) → count_of switching_point (point_tlvs points) ≡ length points
points_count [] = refl
points_count (p ∷ points) = omega (arith, points_count points)

pub points_alone : (kind : ℕ) (points : List Point) → nat_eq 2413 kind ≡ false → count_of kind (point_tlvs points) ≡ 0
points_alone kind [] other = refl
points_alone kind (p ∷ points) other = rw other (points_alone kind points other)

-- TLVs of different types, and at most three switching points behind them
pub keeps_points : (kind : ℕ) (front : List Tlv) (points : List Point) → AreDistinct front → count_of switching_point front ≡ 0 → length points ≤ 3
    → KeepsTo (listed (row_of LabelMapping) kind) (count_of kind (front ++ point_tlvs points))
keeps_points kind front points distinct none few =
    let sum = count-append kind front (point_tlvs points) in
    elim (cases_Bool (nat_eq 2413 kind)) [
      | inl same ↦ subst (λ (k : ℕ). KeepsTo (listed (row_of LabelMapping) k) (count_of k (front ++ point_tlvs points))) (eqb-true _ _ same)
          (omega (arith, count-append switching_point front (point_tlvs points), none, points_count points, few))
      | inr other ↦ keeps_one _ _ (omega (arith, sum, points_alone kind points other, count_distinct kind front distinct))
    ]

-- a mapping with a FEC and a label misses nothing
not_zero : (n : ℕ) → nat_eq (1 + n) 0 ≡ false
not_zero n = grind (arith, nat_tests)

pub none_missing : (v w : List ℕ) (more : List Tlv) → missing (row_of LabelMapping) (tlv fec v ∷ tlv label w ∷ more) ≡ None
none_missing v w more = rw (not_zero (count_of fec more), not_zero (count_of label more)) refl

-- one point more stands in front of the others
drop_some : {A : Type 0} (xs : List A) (n : ℕ) (x : A) → slice_get xs n ≡ Some x → drop n xs ≡ x ∷ drop (n + 1) xs
drop_some [] n x e = absurd (cc)
drop_some (y ∷ xs) zero x e = λ i. unsome (Some y) y x refl e i ∷ xs
  where
    unsome : {A : Type 0} (o : Option A) (a b : A) → o ≡ Some a → o ≡ Some b → a ≡ b
    unsome o a b is_a is_b = cc
drop_some (y ∷ xs) (suc n) x e =
    let next : suc (n + 1) ≡ suc n + 1 = omega arith in
    drop_some xs n x e ∙ ap (λ (k : ℕ). x ∷ drop k (y ∷ xs)) next

pub points_more : (points : List Point) (index : ℕ) (point : Point) → slice_get points index ≡ Some point
    → length (flat_map spell_tlv (point_tlvs (drop index points))) ≡ (4 + length (written_point point)) + length (flat_map spell_tlv (point_tlvs (drop (index + 1) points)))
points_more points index point e =
    ap (λ (l : List Point). length (flat_map spell_tlv (point_tlvs l))) (drop_some points index point e)
    ∙ omega (arith, size_of (ignorable switching_point (written_point point)) (flat_map spell_tlv (point_tlvs (drop (index + 1) points))))
