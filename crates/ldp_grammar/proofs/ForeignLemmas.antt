-- The first TLV of a type, by the structure of the TLVs alone.
use Rattle.std.proofs.Common.{◌≡◌, ◌+◌, ◌++◌, inl, inr, ℕ, true, false, List, [], ◌∷◌, Option, Some, None, length, flat_map, nat_eq, eq-eqb, eqb-true, refl, sym, ap, subst, ◌∙◌, append_assoc, arith}
use Rattle.std.proofs.lemmas.Bool.{cases_Bool}
use Rattle.std.specs.List.{AllByRecursion}
use Rattle.net_values.specs.declared.field.Field.{Field}
use Rattle.net_values.specs.declared.field.Field.TheVariants as field
use Rattle.pw_tlvs.specs.declared.fec_value.FecValue.{FecValue}
use Rattle.pw_tlvs.specs.declared.fec_value.FecValue.TheVariants.{Foreign}
use Rattle.pw_tlvs.specs.Fec.{IsFecValue}
use Rattle.pw_tlvs.proofs.FecLemmas.{one_fec}
use Rattle.ldp_grammar.specs.declared.message_kind.MessageKind.{MessageKind}
use Rattle.ldp_grammar.specs.declared.why.Why.{Why}
use Rattle.ldp_grammar.specs.Rows.{fec, row_of}
use Rattle.ldp_grammar.specs.Layouts.{listed}
use Rattle.ldp_grammar.specs.Tlvs.{Tlv, IsTlv, IsJoined, StandsFirst, IsForeign, IsReason, OfBoth, spell_tlv, type_in, count_of, value_of, fec_value, where_listed, fec_reason, reason_of}
use Rattle.ldp_grammar.proofs.SpellingLemmas.{tlvs_apart}
use Rattle.ldp_grammar.proofs.TlvLemmas.{size_of}

-- the first of some TLVs, where one more stands before others
none_in : (kind : ℕ) (b : Tlv) (bs : List Tlv) → count_of kind (b ∷ bs) ≡ 0 → (nat_eq (type_in b.word) kind ≡ false) × (count_of kind bs ≡ 0)
none_in kind b bs none = elim (cases_Bool (nat_eq (type_in b.word) kind)) [
  | inl same ↦ (let here : count_of kind (b ∷ bs) ≡ 1 + count_of kind bs = rw same refl in absurd (omega (arith, none, here)))
  | inr other ↦ (let there : count_of kind (b ∷ bs) ≡ count_of kind bs = rw other refl in (other, sym there ∙ none))
]

-- octets with a TLV in front have their first TLV of its type there
pub found_first : (kind : ℕ) (octets more : List ℕ) (t : Tlv) → IsTlv t → octets ≡ spell_tlv t ++ more → type_in t.word ≡ kind → StandsFirst kind octets t.value
found_first kind octets more t is e is_kind = record { before = []; tlv = t; more = more; split = e; items = tt; is_tlv = is; none_before = refl; is_kind = is_kind; is = refl }

-- a TLV of another type stands before the first
pub stands_behind : (kind : ℕ) (octets more value : List ℕ) (t : Tlv) → IsTlv t → octets ≡ spell_tlv t ++ more → nat_eq (type_in t.word) kind ≡ false → StandsFirst kind more value
    → StandsFirst kind octets value
stands_behind kind octets more value t is e other s =
    let none : count_of kind (t ∷ s.before) ≡ count_of kind s.before = rw other refl in
    record {
      before = t ∷ s.before;
      tlv = s.tlv;
      more = s.more;
      split = e ∙ (ap (λ (l : List ℕ). spell_tlv t ++ l) s.split ∙ sym (append_assoc (spell_tlv t) (flat_map spell_tlv s.before) (spell_tlv s.tlv ++ s.more)));
      items = (is, s.items);
      is_tlv = s.is_tlv;
      none_before = none ∙ s.none_before;
      is_kind = s.is_kind;
      is = s.is;
    }

pub stands_past : (kind : ℕ) (octets more value : List ℕ) (t : Tlv) → IsTlv t → octets ≡ spell_tlv t ++ more → nat_eq (type_in t.word) kind ≡ false → StandsFirst kind octets value
    → StandsFirst kind more value
stands_past kind octets more value t is e other s = by s.before s.split s.items s.none_before
  where
    by : (before : List Tlv) → octets ≡ flat_map spell_tlv before ++ (spell_tlv s.tlv ++ s.more) → AllByRecursion IsTlv before → count_of kind before ≡ 0 → StandsFirst kind more value
    by [] split items none =
        let same : t ≡ s.tlv = (tlvs_apart t s.tlv more s.more is s.is_tlv (sym e ∙ split)).0 in
        let is_kind : type_in t.word ≡ kind = ap (λ (x : Tlv). type_in x.word) same ∙ s.is_kind in
        absurd (cc (sym (eq-eqb _ _ is_kind) ∙ other))
    by (b ∷ bs) split items none =
        let tail : spell_tlv t ++ more ≡ spell_tlv b ++ (flat_map spell_tlv bs ++ (spell_tlv s.tlv ++ s.more)) =
        sym e ∙ (split ∙ append_assoc (spell_tlv b) (flat_map spell_tlv bs) (spell_tlv s.tlv ++ s.more)) in
        let same = tlvs_apart t b more (flat_map spell_tlv bs ++ (spell_tlv s.tlv ++ s.more)) is items.0 tail in
        record { before = bs; tlv = s.tlv; more = s.more; split = same.1; items = items.1; is_tlv = s.is_tlv; none_before = (none_in kind b bs none).1; is_kind = s.is_kind; is = s.is }

-- where no TLV stands whole in front, there is no first
pub none_stands : (kind : ℕ) (octets value : List ℕ) → ((t : Tlv) (more : List ℕ) → IsTlv t → octets ≡ spell_tlv t ++ more → ⊥) → StandsFirst kind octets value → ⊥
none_stands kind octets value none s = by s.before s.split s.items
  where
    by : (before : List Tlv) → octets ≡ flat_map spell_tlv before ++ (spell_tlv s.tlv ++ s.more) → AllByRecursion IsTlv before → ⊥
    by [] split items = none s.tlv s.more s.is_tlv split
    by (b ∷ bs) split items = none b (flat_map spell_tlv bs ++ (spell_tlv s.tlv ++ s.more)) items.0 (split ∙ append_assoc (spell_tlv b) (flat_map spell_tlv bs) (spell_tlv s.tlv ++ s.more))

-- there is one first
stood_once : (kind : ℕ) (octets value : List ℕ) (before : List Tlv) (u : Tlv) (rest : List ℕ) → octets ≡ flat_map spell_tlv before ++ (spell_tlv u ++ rest)
    → AllByRecursion IsTlv before → IsTlv u → count_of kind before ≡ 0 → type_in u.word ≡ kind → StandsFirst kind octets value → value ≡ u.value
stood_once kind octets value [] u rest split items is none is_kind s = by s.before s.split s.items s.none_before
  where
    by : (other : List Tlv) → octets ≡ flat_map spell_tlv other ++ (spell_tlv s.tlv ++ s.more) → AllByRecursion IsTlv other → count_of kind other ≡ 0 → value ≡ u.value
    by [] e all zero_of =
        let same : s.tlv ≡ u = (tlvs_apart s.tlv u s.more rest s.is_tlv is (sym e ∙ split)).0 in
        s.is ∙ ap (λ (x : Tlv). x.value) same
    by (b ∷ bs) e all zero_of =
        let tail : spell_tlv b ++ (flat_map spell_tlv bs ++ (spell_tlv s.tlv ++ s.more)) ≡ spell_tlv u ++ rest =
        sym (e ∙ append_assoc (spell_tlv b) (flat_map spell_tlv bs) (spell_tlv s.tlv ++ s.more)) ∙ split in
        let same : b ≡ u = (tlvs_apart b u (flat_map spell_tlv bs ++ (spell_tlv s.tlv ++ s.more)) rest all.0 is tail).0 in
        let here : nat_eq (type_in b.word) kind ≡ true = eq-eqb _ _ (ap (λ (x : Tlv). type_in x.word) same ∙ is_kind) in
        absurd (cc (sym here ∙ (none_in kind b bs zero_of).0))
stood_once kind octets value (b ∷ bs) u rest split items is none is_kind s =
    let past = none_in kind b bs none in
    let next : octets ≡ spell_tlv b ++ (flat_map spell_tlv bs ++ (spell_tlv u ++ rest)) = split ∙ append_assoc (spell_tlv b) (flat_map spell_tlv bs) (spell_tlv u ++ rest) in
    stood_once kind (flat_map spell_tlv bs ++ (spell_tlv u ++ rest)) value bs u rest refl items.1 is past.1 is_kind
    (stands_past kind octets (flat_map spell_tlv bs ++ (spell_tlv u ++ rest)) value b items.0 next past.0 s)

pub stands_once : (kind : ℕ) (octets value other : List ℕ) → StandsFirst kind octets value → StandsFirst kind octets other → value ≡ other
stands_once kind octets value other s t = stood_once kind octets value t.before t.tlv t.more t.split t.items t.is_tlv t.none_before t.is_kind s ∙ sym t.is

-- in joined TLVs it is the first of the list
pub first_of_joined : (kind : ℕ) (octets value : List ℕ) (ts : List Tlv) → IsJoined octets ts → StandsFirst kind octets value → value_of kind ts ≡ Some value
first_of_joined kind octets value [] joined s = absurd (none_stands kind octets value (λ t more is e. omega (arith, size_of t more, ap length e, ap length joined.spelled)) s)
first_of_joined kind octets value (t ∷ ts) joined s = elim (cases_Bool (nat_eq (type_in t.word) kind)) [
  | inl same ↦ (let here : value_of kind (t ∷ ts) ≡ Some t.value = rw same refl in
      let first = found_first kind octets (flat_map spell_tlv ts) t joined.fit.0 joined.spelled (eqb-true _ _ same) in
      here ∙ ap Some (stands_once kind octets t.value value first s))
  | inr other ↦ (let there : value_of kind (t ∷ ts) ≡ value_of kind ts = rw other refl in
      there ∙ first_of_joined kind (flat_map spell_tlv ts) value ts (record { spelled = refl; fit = joined.fit.1 })
      (stands_past kind octets (flat_map spell_tlv ts) value t joined.fit.0 joined.spelled other s))
]

-- no reason at all
pub record NoReason (a : Option ℕ) (b : Option Field) (c : Option Why) : Type 0 where
  pub known : a ≡ None
  pub there : b ≡ None
  pub fec : c ≡ None

pub no_reason : (a : Option ℕ) (b : Option Field) (c : Option Why) → None ≡ reason_of a b c → NoReason a b c
no_reason (Some tlv) b c e = absurd (cc)
no_reason None (Some field) c e = absurd (cc)
no_reason None None c e = record { known = refl; there = refl; fec = sym e }

-- the FEC of a processed message is an element
pub told_pw : (k : MessageKind) (v : Option (List ℕ)) (told r : Option FecValue) → fec_reason k told ≡ None → OfBoth v told IsFecValue → OfBoth v r IsFecValue → (first : ℕ) → r
    ≡ Some (Foreign first) → ⊥
told_pw k None told None none is_told is first e = cc
told_pw k None told (Some x) none is_told is first e = is
told_pw k (Some v) None r none is_told is first e = is_told
told_pw k (Some v) (Some t) None none is_told is first e = cc
told_pw k (Some v) (Some t) (Some x) none is_told is first e =
    let same : t ≡ x = one_fec v t x is_told is in
    let foreign : x ≡ Foreign first = cc in
    let why : fec_reason k (Some (Foreign first)) ≡ None = subst (λ (f : FecValue). fec_reason k (Some f) ≡ None) (same ∙ foreign) none in
    cc (why)

-- so it is not foreign
pub not_foreign : (k : MessageKind) (body : List ℕ) (ts : List Tlv) → IsJoined body ts → IsReason k ts None → listed (row_of k) fec ≡ Some field.Fec → IsForeign body → ⊥
not_foreign k body ts joined reason is_listed f =
    let none = no_reason _ _ _ reason.is in
    let value : value_of fec ts ≡ Some f.value = first_of_joined fec body f.value ts joined f.stands in
    let both : fec_value (row_of k) ts ≡ Some f.value = ap (λ (o : Option Field). where_listed o (value_of fec ts)) is_listed ∙ value in
    told_pw k (Some f.value) reason.told (Some (Foreign f.first)) none.fec (subst (λ (v : Option (List ℕ)). OfBoth v reason.told IsFecValue) both reason.is_told) f.foreign f.first refl
