-- TLVs of a message: what is walked, and the fault where the walk ends.
use Rattle.std.proofs.Common.{◌≡◌, ◌≤◌, ◌<◌, ◌+◌, ◌++◌, inl, inr, ℕ, true, false, List, [], ◌∷◌, Option, Some, None, length, flat_map, nat_eq, eq-eqb, eqb-true, refl, sym, ap, subst, ◌∙◌, append-nil, length-append, arith}
use Rattle.std.proofs.lemmas.Bool.{cases_Bool}
use Rattle.std.proofs.lemmas.Grind.{flat_map-append}
use Rattle.std.specs.List.{AllByRecursion}
use Rattle.net_values.specs.declared.field.Field.{Field}
use Rattle.pw_tlvs.specs.declared.field_fault.FieldFault.{FieldFault}
use Rattle.pw_tlvs.specs.declared.field_fault.FieldFault.TheVariants.{Size, Value, Repeated}
use Rattle.pw_tlvs.specs.Faults.{IsFirstIn, IsInside, PrecedesIn, fault_place}
use Rattle.pw_tlvs.proofs.FaultLemmas.{field_rank_below}
use Rattle.pw_tlvs.proofs.FecLemmas.{never_fec, fec_inside}
use Rattle.pw_tlvs.proofs.PointLemmas.{never_point, point_inside}
use Rattle.ldp_grammar.specs.declared.fault.Fault.{Fault}
use Rattle.ldp_grammar.specs.declared.cause.Cause.{Cause}
use Rattle.ldp_grammar.specs.declared.cause.Cause.TheVariants as cause
use Rattle.ldp_grammar.specs.Octets.{two_at}
use Rattle.ldp_grammar.specs.declared.message_kind.MessageKind.{MessageKind}
use Rattle.ldp_grammar.specs.declared.message_kind.MessageKind.TheVariants.{Notification, Hello, Initialization, KeepAlive, Address, AddressWithdraw, LabelMapping, LabelRequest, LabelWithdraw, LabelRelease, LabelAbort}
use Rattle.ldp_grammar.specs.Rows.{Row, row_of, is_in}
use Rattle.ldp_grammar.specs.Layouts.{Layout, CountedOctets, FamilyAddresses, MacAddresses, FecElement, LabelNumber, PointParts, FreeOctets, field_of, fits, fits_as, layout_of, most, listed}
use Rattle.ldp_grammar.specs.Tlvs.{Tlv, type_in, spell_tlv, IsTlv, IsJoined, count_of, value_of, HasContent, HasContentAs, HasValue, IsFitting, KeepsTo, MayComeAgain, IsFaultless, first_absent}
use Rattle.ldp_grammar.specs.FirstFault.{TlvFault, IsTlvFault, CutsTlv, IsRepeated, ContentFault, ContentFaultAs, fault_in, IsWrongContent, Precedes, NamesTlvs, IsFirst, IsFirstTlvFault, IsNamedIn, moved, rank}
use Rattle.ldp_grammar.proofs.ItemLemmas.{AreClean, first_behind, none_named, items_more, item_at, one_list}
use Rattle.ldp_grammar.proofs.SpellingLemmas.{tlvs_apart}

-- the head of a TLV's octets
pub word_of : (t : Tlv) (rest : List ℕ) → IsTlv t → two_at 0 (spell_tlv t ++ rest) ≡ t.word
word_of t rest is = omega (arith, is.0)

pub length_of : (t : Tlv) (rest : List ℕ) → IsTlv t → two_at 2 (spell_tlv t ++ rest) ≡ length t.value
length_of t rest is = omega (arith, is.1)

pub size_of : (t : Tlv) (rest : List ℕ) → length (spell_tlv t ++ rest) ≡ 4 + (length t.value + length rest)
size_of t rest = omega (arith, length-append t.value rest)

uncut : (t : Tlv) (rest : List ℕ) (place : ℕ) → IsTlv t → CutsTlv (spell_tlv t ++ rest) place → ⊥
uncut t rest place is (inl short) = omega (arith, short.1, size_of t rest)
uncut t rest place is (inr long) = omega (arith, long.1, size_of t rest, length_of t rest is)

-- counts of joined lists
pub count-append : (kind : ℕ) (ts us : List Tlv) → count_of kind (ts ++ us) ≡ count_of kind ts + count_of kind us
count-append kind [] us = omega arith
count-append kind (t ∷ ts) us = elim (cases_Bool (nat_eq (type_in t.word) kind)) [
  | inl same ↦ rw same (omega (arith, count-append kind ts us))
  | inr other ↦ rw other (count-append kind ts us)
]

count_here : (t : Tlv) (further : List Tlv) → count_of (type_in t.word) (t ∷ further) ≡ 1 + count_of (type_in t.word) further
count_here t further = rw (eq-eqb (type_in t.word) (type_in t.word) refl) refl

keeps_to : (o : Option Field) (field : Field) (count : ℕ) → o ≡ Some field → KeepsTo o count → count ≤ most field
keeps_to o field count is keeps = subst (λ (x : Option Field). KeepsTo x count) is keeps

has_value : (body : List ℕ) (o : Option Field) (field : Field) (value : List ℕ) → o ≡ Some field → HasValue body o value → (fits field value ≡ true) × HasContent body field value
has_value body o field value is has = subst (λ (x : Option Field). HasValue body x value) is has

has_room : (o : Option Field) (field : Field) (count : ℕ) → o ≡ Some field → MayComeAgain o count → count < most field
has_room o field count is has = subst (λ (x : Option Field). MayComeAgain x count) is has

same_field : (o : Option Field) (f g : Field) → o ≡ Some f → o ≡ Some g → f ≡ g
same_field o f g is_f is_g = cc

-- no TLV without fault is at fault
no_fault : (row : Row) (body : List ℕ) (before further : List Tlv) (t : Tlv) (rest : List ℕ) → IsTlv t → IsFitting row body t
    → KeepsTo (listed row (type_in t.word)) (count_of (type_in t.word) (before ++ t ∷ further))
    → (c : Cause) (place : ℕ) → TlvFault row before (spell_tlv t ++ rest) c place → ⊥
no_fault row body before further t rest is fitting keeps cause.Version place names = names
no_fault row body before further t rest is fitting keeps cause.PduLength place names = names
no_fault row body before further t rest is fitting keeps cause.MessageLength place names = names
no_fault row body before further t rest is fitting keeps cause.TlvLength place names = uncut t rest place is names
no_fault row body before further t rest is fitting keeps (cause.TlvValue field) place names =
    let w = names.1 in
    let same : t ≡ w.tlv = (tlvs_apart t w.tlv rest w.more is w.is_tlv w.split).0 in
    let is_listed : listed row (type_in t.word) ≡ Some field = ap (λ (x : Tlv). listed row (type_in x.word)) same ∙ w.is_listed in
    let good : fits field t.value ≡ true = (has_value body _ field t.value is_listed fitting).0 in
    let bad : fits field t.value ≡ false = ap (λ (x : Tlv). fits field x.value) same ∙ w.misfits in
    absurd (cc (sym good ∙ bad))
no_fault row body before further t rest is fitting keeps (cause.Repeated field) place names =
    let w = names.1 in
    let kind : two_at 0 (spell_tlv t ++ rest) ≡ t.word = word_of t rest is in
    let is_listed : listed row (type_in t.word) ≡ Some field = ap (λ (n : ℕ). listed row (type_in n)) (sym kind) ∙ w.is_listed in
    let full : most field ≤ count_of (type_in t.word) before = subst (λ (n : ℕ). most field ≤ count_of (type_in n) before) kind w.full in
    let most_of : count_of (type_in t.word) (before ++ t ∷ further) ≤ most field = keeps_to _ field _ is_listed keeps in
    let sum : count_of (type_in t.word) (before ++ t ∷ further) ≡ count_of (type_in t.word) before + count_of (type_in t.word) (t ∷ further) = count-append (type_in t.word) before (t ∷ further) in
    let one : count_of (type_in t.word) (t ∷ further) ≡ 1 + count_of (type_in t.word) further = count_here t further in
    absurd (omega (arith, full, most_of, sum, one))

-- what is in order is not at fault
content_sound_as : (body : List ℕ) (layout : Layout) (value : List ℕ) (fault : FieldFault) → HasContentAs body layout value → ContentFaultAs body layout value fault → ⊥
content_sound_as body (CountedOctets count) value fault has names = names
content_sound_as body FamilyAddresses value fault has names = names
content_sound_as body MacAddresses value fault has names = names
content_sound_as body FreeOctets value fault has names = names
content_sound_as body FecElement value fault has names = never_fec value has.told fault has.is names
content_sound_as body LabelNumber value fault (inl foreign) names = names.1 foreign
content_sound_as body LabelNumber value fault (inr is) names = names.2 is
content_sound_as body PointParts value fault has names = never_point value has.point fault has.is names

content_sound : (body : List ℕ) (f : Field) (value : List ℕ) (fault : FieldFault) → HasContent body f value → ContentFault body f value fault → ⊥
content_sound body f value fault has names = content_sound_as body (layout_of f) value fault has names

no_wrong : (row : Row) (body : List ℕ) (t : Tlv) (rest : List ℕ) → IsTlv t → IsFitting row body t → (f : Fault) → IsWrongContent row body (spell_tlv t ++ rest) f → ⊥
no_wrong row body t rest is fitting f w =
    let same : t ≡ w.tlv = (tlvs_apart t w.tlv rest w.more is w.is_tlv w.split).0 in
    let is_listed : listed row (type_in t.word) ≡ Some w.field = ap (λ (x : Tlv). listed row (type_in x.word)) same ∙ w.is_listed in
    content_sound body w.field t.value w.here ((has_value body _ w.field t.value is_listed fitting).1) (subst (λ (x : Tlv). ContentFault body w.field x.value w.here) (sym same) w.names)

pub tlvs_clean : (row : Row) (body : List ℕ) (ts : List Tlv) → AllByRecursion IsTlv ts → IsFaultless row body ts → AreClean spell_tlv (IsTlvFault row body) ts
tlvs_clean row body ts items faultless before t further rest f e (inl names) =
    let keeps : KeepsTo (listed row (type_in t.word)) (count_of (type_in t.word) (before ++ t ∷ further)) =
    subst (λ (l : List Tlv). KeepsTo (listed row (type_in t.word)) (count_of (type_in t.word) l)) e (faultless.counts (type_in t.word)) in
    no_fault row body before further t rest (item_at IsTlv before further t ts e items) (item_at (IsFitting row body) before further t ts e faultless.values) keeps f.cause f.place names
tlvs_clean row body ts items faultless before t further rest f e (inr wrong) =
    no_wrong row body t rest (item_at IsTlv before further t ts e items) (item_at (IsFitting row body) before further t ts e faultless.values) f wrong

no_end : (row : Row) (before : List Tlv) (c : Cause) (place : ℕ) → TlvFault row before [] c place → ⊥
no_end row before cause.Version place names = names
no_end row before cause.PduLength place names = names
no_end row before cause.MessageLength place names = names
no_end row before cause.TlvLength place (inl short) = omega (arith, short.0)
no_end row before cause.TlvLength place (inr long) = omega (arith, long.0)
no_end row before (cause.TlvValue field) place names = omega (arith, size_of names.1.tlv names.1.more, ap length names.1.split)
no_end row before (cause.Repeated field) place names = omega (arith, names.1.whole)

no_end_at : (row : Row) (body : List ℕ) (before : List Tlv) (f : Fault) → IsTlvFault row body before [] f → ⊥
no_end_at row body before f (inl names) = no_end row before f.cause f.place names
no_end_at row body before f (inr w) = omega (arith, size_of w.tlv w.more, ap length w.split)

-- no fault is named in TLVs without fault
pub tlvs_faultless : (row : Row) (body : List ℕ) (ts : List Tlv) → IsJoined body ts → IsFaultless row body ts → (f : Fault) → NamesTlvs row body f → ⊥
tlvs_faultless row body ts joined faultless f names =
    none_named spell_tlv IsTlv (IsTlvFault row body) tlvs_apart ts joined.fit (tlvs_clean row body ts joined.fit faultless) (λ before g w. no_end_at row body before g w) f
    (subst (λ (l : List ℕ). IsNamedIn spell_tlv IsTlv (IsTlvFault row body) l f) joined.spelled names)

-- the fault behind TLVs without fault is the first of the message
pub first_of_tlvs : (row : Row) (body front rest : List ℕ) (ts : List Tlv) (at : ℕ) (f : Fault) → body ≡ front ++ rest → at ≡ length front → IsJoined front ts → IsFaultless row body ts
    → IsFirstTlvFault row body ts rest f → IsFirst (NamesTlvs row body) (moved at f)
first_of_tlvs row body front rest ts at f split place joined faultless here =
    let first : IsFirst (IsNamedIn spell_tlv IsTlv (IsTlvFault row body) (flat_map spell_tlv ts ++ rest)) (moved (length (flat_map spell_tlv ts)) f) =
    first_behind spell_tlv IsTlv (IsTlvFault row body) tlvs_apart ts rest f joined.fit (tlvs_clean row body ts joined.fit faultless) here in
    let whole : flat_map spell_tlv ts ++ rest ≡ body = sym (split ∙ ap (λ (l : List ℕ). l ++ rest) joined.spelled) in
    let size : length (flat_map spell_tlv ts) ≡ at = sym (place ∙ ap length joined.spelled) in
    subst (λ (n : ℕ). IsFirst (NamesTlvs row body) (moved n f)) size
    (subst (λ (l : List ℕ). IsFirst (IsNamedIn spell_tlv IsTlv (IsTlvFault row body) l) (moved (length (flat_map spell_tlv ts)) f)) whole first)

-- faults of a value come behind what is in front of it, and in their order
pub late : (f : Field) (fault : FieldFault) → 2 ≤ (fault_in f fault).place
late f Size = omega arith
late f (Value at inner) = omega arith
late f (Repeated at inner) = omega arith

pub in_order : (f : Field) (one other : FieldFault) → PrecedesIn one other → Precedes (fault_in f one) (fault_in f other)
in_order f Size Size before = inr (refl, omega arith)
in_order f Size (Value at inner) before = inl (omega arith)
in_order f Size (Repeated at inner) before = inl (omega arith)
in_order f (Value at inner) Size (inl less) = absurd (omega (arith, less))
in_order f (Value at inner) Size (inr same) = absurd (omega (arith, same.1))
in_order f (Value at inner) (Value to next) (inl less) = inl (omega (arith, less))
in_order f (Value at inner) (Value to next) (inr same) = inr (omega (arith, same.0), omega (arith, same.1))
in_order f (Value at inner) (Repeated to next) (inl less) = inl (omega (arith, less))
in_order f (Value at inner) (Repeated to next) (inr same) = inr (omega (arith, same.0), omega (arith, field_rank_below inner))
in_order f (Repeated at inner) Size (inl less) = absurd (omega (arith, less))
in_order f (Repeated at inner) Size (inr same) = absurd (omega (arith, same.1))
in_order f (Repeated at inner) (Value to next) (inl less) = inl (omega (arith, less))
in_order f (Repeated at inner) (Value to next) (inr same) = absurd (omega (arith, same.1, field_rank_below next))
in_order f (Repeated at inner) (Repeated to next) (inl less) = inl (omega (arith, less))
in_order f (Repeated at inner) (Repeated to next) (inr same) = inr (omega (arith, same.0), omega (arith, same.1))

-- one to three octets are left
short_first : (row : Row) (ts : List Tlv) (rest : List ℕ) → length rest < 4 → (c : Cause) (place : ℕ) → TlvFault row ts rest c place
    → Precedes (record { place = 0; cause = cause.TlvLength }) (record { place = place; cause = c })
short_first row ts rest few cause.Version place names = absurd names
short_first row ts rest few cause.PduLength place names = absurd names
short_first row ts rest few cause.MessageLength place names = absurd names
short_first row ts rest few cause.TlvLength place (inl short) = inr (sym short.2, omega arith)
short_first row ts rest few cause.TlvLength place (inr long) = absurd (omega (arith, long.0))
short_first row ts rest few (cause.TlvValue field) place names = absurd (omega (arith, size_of names.1.tlv names.1.more, ap length names.1.split))
short_first row ts rest few (cause.Repeated field) place names = absurd (omega (arith, names.1.whole))

short_before : (row : Row) (body : List ℕ) (ts : List Tlv) (rest : List ℕ) → length rest < 4 → (g : Fault) → IsTlvFault row body ts rest g → Precedes (record { place = 0; cause = cause.TlvLength }) g
short_before row body ts rest few g (inl names) = short_first row ts rest few g.cause g.place names
short_before row body ts rest few g (inr w) = absurd (omega (arith, size_of w.tlv w.more, ap length w.split))

pub short_tlv : (row : Row) (body : List ℕ) (ts : List Tlv) (rest : List ℕ) → 0 < length rest → length rest < 4 → IsFirstTlvFault row body ts rest (record { place = 0; cause = cause.TlvLength })
short_tlv row body ts rest some few = record {
  named = inl (inl (some, few, refl));
  first = λ g names. short_before row body ts rest few g names;
  inside = λ t more is e. absurd (omega (arith, size_of t more, ap length e));
}

-- the TLV stands as often as it may before
repeated_first : (row : Row) (ts : List Tlv) (rest : List ℕ) (field : Field) → 4 ≤ length rest → listed row (type_in (two_at 0 rest)) ≡ Some field → (c : Cause) (place : ℕ)
    → TlvFault row ts rest c place
    → Precedes (record { place = 0; cause = cause.Repeated field }) (record { place = place; cause = c })
repeated_first row ts rest field whole is_listed cause.Version place names = absurd names
repeated_first row ts rest field whole is_listed cause.PduLength place names = absurd names
repeated_first row ts rest field whole is_listed cause.MessageLength place names = absurd names
repeated_first row ts rest field whole is_listed cause.TlvLength place (inl short) = absurd (omega (arith, short.1))
repeated_first row ts rest field whole is_listed cause.TlvLength place (inr long) = inl (omega (arith, long.2))
repeated_first row ts rest field whole is_listed (cause.TlvValue other) place names = inl (omega (arith, names.0))
repeated_first row ts rest field whole is_listed (cause.Repeated other) place names =
    let same : field ≡ other = same_field _ field other is_listed names.1.is_listed in
    inr (sym names.0, omega (arith, ap (λ (f : Field). rank (cause.Repeated f)) same))

repeated_before : (row : Row) (body : List ℕ) (ts : List Tlv) (rest : List ℕ) (field : Field) → 4 ≤ length rest → listed row (type_in (two_at 0 rest)) ≡ Some field → (g : Fault)
    → IsTlvFault row body ts rest g → Precedes (record { place = 0; cause = cause.Repeated field }) g
repeated_before row body ts rest field whole is_listed g (inl names) = repeated_first row ts rest field whole is_listed g.cause g.place names
repeated_before row body ts rest field whole is_listed g (inr w) = inl (omega (arith, late w.field w.here, ap (λ (h : Fault). h.place) w.is))

pub repeated_tlv : (row : Row) (body : List ℕ) (ts : List Tlv) (rest : List ℕ) (field : Field) → 4 ≤ length rest → listed row (type_in (two_at 0 rest)) ≡ Some field
    → most field ≤ count_of (type_in (two_at 0 rest)) ts
    → IsFirstTlvFault row body ts rest (record { place = 0; cause = cause.Repeated field })
repeated_tlv row body ts rest field whole is_listed full = record {
  named = inl (refl, record { whole = whole; is_listed = is_listed; full = full });
  first = λ g names. repeated_before row body ts rest field whole is_listed g names;
  inside = λ t more is e. omega (arith, size_of t []);
}

-- the Length is past the end
no_repeat : (row : Row) (ts : List Tlv) (rest : List ℕ) (field : Field) → MayComeAgain (listed row (type_in (two_at 0 rest))) (count_of (type_in (two_at 0 rest)) ts) → IsRepeated row ts rest field → ⊥
no_repeat row ts rest field room names = omega (arith, has_room _ field _ names.is_listed room, names.full)

pub uncut_at : (rest more : List ℕ) (t : Tlv) (place : ℕ) → IsTlv t → rest ≡ spell_tlv t ++ more → CutsTlv rest place → ⊥
uncut_at rest more t place is e cuts = uncut t more place is (subst (λ (l : List ℕ). CutsTlv l place) e cuts)

long_first : (row : Row) (ts : List Tlv) (rest : List ℕ) → 4 ≤ length rest → length rest < 4 + two_at 2 rest
    → MayComeAgain (listed row (type_in (two_at 0 rest))) (count_of (type_in (two_at 0 rest)) ts) → (c : Cause) (place : ℕ) → TlvFault row ts rest c place
    → Precedes (record { place = 2; cause = cause.TlvLength }) (record { place = place; cause = c })
long_first row ts rest whole past room cause.Version place names = absurd names
long_first row ts rest whole past room cause.PduLength place names = absurd names
long_first row ts rest whole past room cause.MessageLength place names = absurd names
long_first row ts rest whole past room cause.TlvLength place (inl short) = absurd (omega (arith, short.1))
long_first row ts rest whole past room cause.TlvLength place (inr long) = inr (sym long.2, omega arith)
long_first row ts rest whole past room (cause.TlvValue field) place names = absurd (uncut_at rest names.1.more names.1.tlv 2 names.1.is_tlv names.1.split (inr (whole, past, refl)))
long_first row ts rest whole past room (cause.Repeated field) place names = absurd (no_repeat row ts rest field room names.1)

long_before : (row : Row) (body : List ℕ) (ts : List Tlv) (rest : List ℕ) → 4 ≤ length rest → length rest < 4 + two_at 2 rest
    → MayComeAgain (listed row (type_in (two_at 0 rest))) (count_of (type_in (two_at 0 rest)) ts) → (g : Fault) → IsTlvFault row body ts rest g
    → Precedes (record { place = 2; cause = cause.TlvLength }) g
long_before row body ts rest whole past room g (inl names) = long_first row ts rest whole past room g.cause g.place names
long_before row body ts rest whole past room g (inr w) = absurd (uncut_at rest w.more w.tlv 2 w.is_tlv w.split (inr (whole, past, refl)))

pub long_tlv : (row : Row) (body : List ℕ) (ts : List Tlv) (rest : List ℕ) → 4 ≤ length rest → length rest < 4 + two_at 2 rest
    → MayComeAgain (listed row (type_in (two_at 0 rest))) (count_of (type_in (two_at 0 rest)) ts) → IsFirstTlvFault row body ts rest (record { place = 2; cause = cause.TlvLength })
long_tlv row body ts rest whole past room = record {
  named = inl (inr (whole, past, refl));
  first = λ g names. long_before row body ts rest whole past room g names;
  inside = λ t more is e. absurd (uncut_at rest more t 2 is e (inr (whole, past, refl)));
}

-- the value does not fit
misfit_first : (row : Row) (ts : List Tlv) (rest more : List ℕ) (t : Tlv) (field : Field) → IsTlv t → rest ≡ spell_tlv t ++ more → listed row (type_in t.word) ≡ Some field
    → MayComeAgain (listed row (type_in (two_at 0 rest))) (count_of (type_in (two_at 0 rest)) ts) → (c : Cause) (place : ℕ) → TlvFault row ts rest c place
    → Precedes (record { place = 2; cause = cause.TlvValue field }) (record { place = place; cause = c })
misfit_first row ts rest more t field is e is_listed room cause.Version place names = absurd names
misfit_first row ts rest more t field is e is_listed room cause.PduLength place names = absurd names
misfit_first row ts rest more t field is e is_listed room cause.MessageLength place names = absurd names
misfit_first row ts rest more t field is e is_listed room cause.TlvLength place names = absurd (uncut_at rest more t place is e names)
misfit_first row ts rest more t field is e is_listed room (cause.Repeated other) place names = absurd (no_repeat row ts rest other room names.1)
misfit_first row ts rest more t field is e is_listed room (cause.TlvValue other) place names =
    let w = names.1 in
    let same_tlv : t ≡ w.tlv = (tlvs_apart t w.tlv more w.more is w.is_tlv (sym e ∙ w.split)).0 in
    let same : field ≡ other = same_field _ field other is_listed (ap (λ (x : Tlv). listed row (type_in x.word)) same_tlv ∙ w.is_listed) in
    inr (sym names.0, omega (arith, ap (λ (f : Field). rank (cause.TlvValue f)) same))

-- where the Length does not fit, nothing in the value is looked at
misfit_holds_nothing_as : (body : List ℕ) (layout : Layout) (value : List ℕ) (fault : FieldFault) → fits_as layout value ≡ false → ContentFaultAs body layout value fault → ⊥
misfit_holds_nothing_as body (CountedOctets count) value fault bad names = names
misfit_holds_nothing_as body FamilyAddresses value fault bad names = names
misfit_holds_nothing_as body MacAddresses value fault bad names = names
misfit_holds_nothing_as body FreeOctets value fault bad names = names
misfit_holds_nothing_as body FecElement value fault bad names = cc
misfit_holds_nothing_as body LabelNumber value fault bad names = let good : fits_as LabelNumber value ≡ true = eq-eqb _ _ names.0 in cc (sym good ∙ bad)
misfit_holds_nothing_as body PointParts value fault bad names = cc

misfit_holds_nothing : (body : List ℕ) (f : Field) (value : List ℕ) (fault : FieldFault) → fits f value ≡ false → ContentFault body f value fault → ⊥
misfit_holds_nothing body f value fault bad names = misfit_holds_nothing_as body (layout_of f) value fault bad names

-- the TLV in front, and its field, that a fault of its value speaks of
record SpeaksOf (body : List ℕ) (field : Field) (value : List ℕ) (fault : Fault) : Type 0 where
  here : FieldFault
  names : ContentFault body field value here
  is : fault ≡ fault_in field here

speaks_of : (row : Row) (body rest more : List ℕ) (t : Tlv) (field : Field) → IsTlv t → rest ≡ spell_tlv t ++ more → listed row (type_in t.word) ≡ Some field → (g : Fault)
    → IsWrongContent row body rest g → SpeaksOf body field t.value g
speaks_of row body rest more t field is e is_listed g w =
    let same_tlv : t ≡ w.tlv = (tlvs_apart t w.tlv more w.more is w.is_tlv (sym e ∙ w.split)).0 in
    let same : field ≡ w.field = same_field _ field w.field is_listed (ap (λ (x : Tlv). listed row (type_in x.word)) same_tlv ∙ w.is_listed) in
    record {
      here = w.here;
      names = subst (λ (f : Field). ContentFault body f t.value w.here) (sym same) (subst (λ (x : Tlv). ContentFault body w.field x.value w.here) (sym same_tlv) w.names);
      is = w.is ∙ ap (λ (f : Field). fault_in f w.here) (sym same);
    }

misfit_before : (row : Row) (body : List ℕ) (ts : List Tlv) (rest more : List ℕ) (t : Tlv) (field : Field) → IsTlv t → rest ≡ spell_tlv t ++ more → listed row (type_in t.word)
    ≡ Some field → MayComeAgain (listed row (type_in (two_at 0 rest))) (count_of (type_in (two_at 0 rest)) ts) → fits field t.value ≡ false
    → (g : Fault) → IsTlvFault row body ts rest g → Precedes (record { place = 2; cause = cause.TlvValue field }) g
misfit_before row body ts rest more t field is e is_listed room misfits g (inl names) = misfit_first row ts rest more t field is e is_listed room g.cause g.place names
misfit_before row body ts rest more t field is e is_listed room misfits g (inr w) =
    let s = speaks_of row body rest more t field is e is_listed g w in
    absurd (misfit_holds_nothing body field t.value s.here misfits s.names)

pub misfit_tlv : (row : Row) (body : List ℕ) (ts : List Tlv) (rest more : List ℕ) (t : Tlv) (field : Field) → IsTlv t → rest ≡ spell_tlv t ++ more → listed row (type_in t.word)
    ≡ Some field → MayComeAgain (listed row (type_in (two_at 0 rest))) (count_of (type_in (two_at 0 rest)) ts) → fits field t.value ≡ false
    → IsFirstTlvFault row body ts rest (record { place = 2; cause = cause.TlvValue field })
misfit_tlv row body ts rest more t field is e is_listed room misfits = record {
  named = inl (refl, record { tlv = t; more = more; split = e; is_tlv = is; is_listed = is_listed; misfits = misfits });
  first = λ g names. misfit_before row body ts rest more t field is e is_listed room misfits g names;
  inside = λ u left is_u split. omega (arith, size_of u []);
}

-- the value of the TLV here is at fault
fitting_first : (row : Row) (ts : List Tlv) (rest more : List ℕ) (t : Tlv) (field : Field) → IsTlv t → rest ≡ spell_tlv t ++ more → listed row (type_in t.word) ≡ Some field
    → MayComeAgain (listed row (type_in (two_at 0 rest))) (count_of (type_in (two_at 0 rest)) ts) → fits field t.value ≡ true
    → (c : Cause) (place : ℕ) → TlvFault row ts rest c place → ⊥
fitting_first row ts rest more t field is e is_listed room fitting cause.Version place names = names
fitting_first row ts rest more t field is e is_listed room fitting cause.PduLength place names = names
fitting_first row ts rest more t field is e is_listed room fitting cause.MessageLength place names = names
fitting_first row ts rest more t field is e is_listed room fitting cause.TlvLength place names = uncut_at rest more t place is e names
fitting_first row ts rest more t field is e is_listed room fitting (cause.Repeated other) place names = no_repeat row ts rest other room names.1
fitting_first row ts rest more t field is e is_listed room fitting (cause.TlvValue other) place names =
    let w = names.1 in
    let same_tlv : t ≡ w.tlv = (tlvs_apart t w.tlv more w.more is w.is_tlv (sym e ∙ w.split)).0 in
    let same : field ≡ other = same_field _ field other is_listed (ap (λ (x : Tlv). listed row (type_in x.word)) same_tlv ∙ w.is_listed) in
    let bad : fits other t.value ≡ false = ap (λ (x : Tlv). fits other x.value) same_tlv ∙ w.misfits in
    let good : fits other t.value ≡ true = ap (λ (f : Field). fits f t.value) (sym same) ∙ fitting in
    cc (sym good ∙ bad)

content_before : (row : Row) (body : List ℕ) (ts : List Tlv) (rest more : List ℕ) (t : Tlv) (field : Field) (here : FieldFault) → IsTlv t → rest ≡ spell_tlv t ++ more
    → listed row (type_in t.word) ≡ Some field → MayComeAgain (listed row (type_in (two_at 0 rest))) (count_of (type_in (two_at 0 rest)) ts) → fits field t.value ≡ true
    → IsFirstIn (ContentFault body field t.value) here → (g : Fault) → IsTlvFault row body ts rest g → Precedes (fault_in field here) g
content_before row body ts rest more t field here is e is_listed room fitting first g (inl names) = absurd (fitting_first row ts rest more t field is e is_listed room fitting g.cause g.place names)
content_before row body ts rest more t field here is e is_listed room fitting first g (inr w) =
    let s = speaks_of row body rest more t field is e is_listed g w in
    subst (Precedes (fault_in field here)) (sym s.is) (in_order field here s.here (first.first s.here s.names))

-- a fault of a value is within its TLV
content_inside_as : (body : List ℕ) (layout : Layout) (value : List ℕ) (fault : FieldFault) → ContentFaultAs body layout value fault → IsInside value fault
content_inside_as body (CountedOctets count) value fault names = absurd names
content_inside_as body FamilyAddresses value fault names = absurd names
content_inside_as body MacAddresses value fault names = absurd names
content_inside_as body FreeOctets value fault names = absurd names
content_inside_as body FecElement value fault names = fec_inside value fault names
content_inside_as body LabelNumber value fault names = inr (omega (arith, names.0, ap fault_place names.3))
content_inside_as body PointParts value fault names = point_inside value fault names

pub content_inside : (body : List ℕ) (f : Field) (value : List ℕ) (fault : FieldFault) → ContentFault body f value fault → IsInside value fault
content_inside body f value fault names = content_inside_as body (layout_of f) value fault names

pub near_of : (f : Field) (value : List ℕ) (fault : FieldFault) → IsInside value fault → (fault_in f fault).place < 4 + length value
near_of f value Size near = omega arith
near_of f value (Value at inner) (inl e) = absurd (cc)
near_of f value (Value at inner) (inr less) = omega (arith, less)
near_of f value (Repeated at inner) (inl e) = absurd (cc)
near_of f value (Repeated at inner) (inr less) = omega (arith, less)

pub content_tlv : (row : Row) (body : List ℕ) (ts : List Tlv) (rest more : List ℕ) (t : Tlv) (field : Field) (here : FieldFault) → IsTlv t → rest ≡ spell_tlv t ++ more
    → listed row (type_in t.word) ≡ Some field → MayComeAgain (listed row (type_in (two_at 0 rest))) (count_of (type_in (two_at 0 rest)) ts) → fits field t.value ≡ true
    → IsFirstIn (ContentFault body field t.value) here → IsFirstTlvFault row body ts rest (fault_in field here)
content_tlv row body ts rest more t field here is e is_listed room fitting first = record {
  named = inr (record { tlv = t; more = more; split = e; is_tlv = is; field = field; is_listed = is_listed; here = here; names = first.named; is = refl });
  first = λ g names. content_before row body ts rest more t field here is e is_listed room fitting first g names;
  inside = λ u left is_u split.
      let same : t ≡ u = (tlvs_apart t u more left is is_u (sym e ∙ split)).0 in
      omega (arith, near_of field t.value here (content_inside body field t.value here first.named), size_of u [], ap (λ (x : Tlv). length x.value) same);
}

-- one more TLV without fault
keeps_more : (o : Option Field) (count more : ℕ) → more ≡ count + 1 → MayComeAgain o count → KeepsTo o more
keeps_more None count more e room = tt
keeps_more (Some field) count more e room = omega (arith, e, room)

pub faultless_more : (row : Row) (body : List ℕ) (ts : List Tlv) (t : Tlv) → IsFaultless row body ts → IsFitting row body t
    → MayComeAgain (listed row (type_in t.word)) (count_of (type_in t.word) ts) → IsFaultless row body (ts ++ t ∷ [])
faultless_more row body ts t faultless fitting room = record {
  values = items_more (IsFitting row body) ts t faultless.values fitting;
  counts = λ kind. elim (cases_Bool (nat_eq (type_in t.word) kind)) [
    | inl same ↦ (let is : type_in t.word ≡ kind = eqb-true _ _ same in subst (λ (k : ℕ). KeepsTo (listed row k) (count_of k (ts ++ t ∷ []))) is (keeps_more _ _ _ (omega (arith, count-append (type_in t.word) ts (t ∷ []), count_here t [])) room))
    | inr other ↦ (let none : count_of kind (t ∷ []) ≡ 0 = rw other refl in subst (KeepsTo (listed row kind)) (omega (arith, count-append kind ts (t ∷ []), none)) (faultless.counts kind))
  ];
}

pub joined_more : (front whole : List ℕ) (ts : List Tlv) (t : Tlv) → IsJoined front ts → IsTlv t → whole ≡ front ++ spell_tlv t → IsJoined whole (ts ++ t ∷ [])
joined_more front whole ts t joined is e = record {
  spelled = e ∙ ((λ i. joined.spelled i ++ spell_tlv t) ∙ (ap (λ (l : List ℕ). flat_map spell_tlv ts ++ l) (sym (append-nil (spell_tlv t))) ∙ sym (flat_map-append spell_tlv ts (t ∷ []))));
  fit = items_more IsTlv ts t joined.fit is;
}

-- what is joined begins with the TLV that stands in front
pub record BeginsWith (rest more : List ℕ) (ts : List Tlv) (t : Tlv) : Type 0 where
  pub further : List Tlv
  pub list : ts ≡ t ∷ further
  pub joined : IsJoined more further

pub joined_front : (rest more : List ℕ) (ts : List Tlv) (t : Tlv) → IsJoined rest ts → IsTlv t → rest ≡ spell_tlv t ++ more → BeginsWith rest more ts t
joined_front rest more [] t joined is e = absurd (omega (arith, ap length joined.spelled, ap length e))
joined_front rest more (u ∷ us) t joined is e =
    let same = tlvs_apart u t (flat_map spell_tlv us) more joined.fit.0 is (sym joined.spelled ∙ e) in
    record { further = us; list = (λ i. same.0 i ∷ us); joined = record { spelled = sym same.1; fit = joined.fit.1 } }

pub joined_none : (ts : List Tlv) → IsJoined [] ts → ts ≡ []
joined_none [] joined = refl
joined_none (t ∷ ts) joined = absurd (omega (arith, ap length joined.spelled))

-- one list of TLVs has these octets
pub joined_once : (body : List ℕ) (ts us : List Tlv) → IsJoined body ts → IsJoined body us → ts ≡ us
joined_once body ts us one other = one_list spell_tlv IsTlv tlvs_apart (λ t. omega (arith, size_of t [])) ts us one.fit other.fit (sym one.spelled ∙ other.spelled)

-- the value of a TLV that a row lists fits
pub value_fits : (row : Row) (body : List ℕ) (ts : List Tlv) (kind : ℕ) (value : List ℕ) → AllByRecursion (IsFitting row body) ts → value_of kind ts ≡ Some value
    → HasValue body (listed row kind) value
value_fits row body [] kind value fitting e = absurd (cc)
value_fits row body (t ∷ ts) kind value fitting e = elim (cases_Bool (nat_eq (type_in t.word) kind)) [
  | inl same ↦ (let here : value_of kind (t ∷ ts) ≡ Some t.value = rw same refl in
      let is : t.value ≡ value = cc (sym here ∙ e) in
      subst (HasValue body (listed row kind)) is (subst (λ (k : ℕ). HasValue body (listed row k) t.value) (eqb-true _ _ same) fitting.0))
  | inr other ↦ (let there : value_of kind (t ∷ ts) ≡ value_of kind ts = rw other refl in
      value_fits row body ts kind value fitting.1 (sym there ∙ e))
]

pub none_of : (kind : ℕ) (ts : List Tlv) → value_of kind ts ≡ None → count_of kind ts ≡ 0
none_of kind [] e = refl
none_of kind (t ∷ ts) e = elim (cases_Bool (nat_eq (type_in t.word) kind)) [
  | inl same ↦ (let here : value_of kind (t ∷ ts) ≡ Some t.value = rw same refl in absurd (cc (sym here ∙ e)))
  | inr other ↦ (let there : value_of kind (t ∷ ts) ≡ value_of kind ts = rw other refl in
      let count : count_of kind (t ∷ ts) ≡ count_of kind ts = rw other refl in
      count ∙ none_of kind ts (sym there ∙ e))
]

-- each of the types has a field
abbrev pub HaveFields : List ℕ → Type 0
HaveFields [] = Unit {0}
HaveFields (kind ∷ kinds) = (field_of kind ≡ None → ⊥) × HaveFields kinds

pub rows_have_fields : (kind : MessageKind) → HaveFields (row_of kind).needed
rows_have_fields Notification = ((λ e. cc), tt)
rows_have_fields Hello = ((λ e. cc), tt)
rows_have_fields Initialization = ((λ e. cc), tt)
rows_have_fields KeepAlive = tt
rows_have_fields Address = ((λ e. cc), tt)
rows_have_fields AddressWithdraw = ((λ e. cc), tt)
rows_have_fields LabelMapping = ((λ e. cc), ((λ e. cc), tt))
rows_have_fields LabelRequest = ((λ e. cc), tt)
rows_have_fields LabelWithdraw = ((λ e. cc), tt)
rows_have_fields LabelRelease = ((λ e. cc), tt)
rows_have_fields LabelAbort = ((λ e. cc), ((λ e. cc), tt))

-- where none is absent, a needed one is there
pub needed_there : (kinds : List ℕ) (ts : List Tlv) (kind : ℕ) → HaveFields kinds → is_in kind kinds ≡ true → first_absent kinds ts ≡ None → count_of kind ts ≡ 0 → ⊥
needed_there [] ts kind have is e none = absurd (cc)
needed_there (k ∷ ks) ts kind have is e none = elim (cases_Bool (nat_eq (count_of k ts) 0)) [
  | inl absent ↦ (let here : first_absent (k ∷ ks) ts ≡ field_of k = rw absent refl in have.0 (sym here ∙ e))
  | inr there ↦ elim (cases_Bool (nat_eq kind k)) [
    | inl same ↦ (let zero_of : nat_eq (count_of k ts) 0 ≡ true = eq-eqb _ _ (subst (λ (n : ℕ). count_of n ts ≡ 0) (eqb-true _ _ same) none) in absurd (cc (sym zero_of ∙ there)))
    | inr other ↦ (let rest : first_absent (k ∷ ks) ts ≡ first_absent ks ts = rw there refl in
        let in_rest : is_in kind (k ∷ ks) ≡ is_in kind ks = rw other refl in
        needed_there ks ts kind have.1 (sym in_rest ∙ is) (sym rest ∙ e) none)
  ]
]
