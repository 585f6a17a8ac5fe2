-- Why messages are not processed, and what those have that are.
use Rattle.std.proofs.Common.{◌≡◌, ◌⊎◌, inl, inr, ℕ, true, false, List, [], ◌∷◌, Option, Some, None, length, refl, sym, ap, subst, ◌∙◌, eqb-true, arith}
use Rattle.std.specs.Prelude.{◌==◌, ◌&&◌, not, IsSome}
use Rattle.std.proofs.lemmas.Bool.{cases_Bool}
use Rattle.std.proofs.lemmas.Bool.Decides.{nat_tests}
use Rattle.net_values.specs.Label.{IsLabel}
use Rattle.net_values.specs.declared.field.Field.{Field}
use Rattle.net_values.specs.declared.field.Field.TheVariants as field
use Rattle.pw_tlvs.specs.declared.fec_value.FecValue.{FecValue}
use Rattle.pw_tlvs.specs.declared.fec_value.FecValue.TheVariants.{Pw, Foreign}
use Rattle.pw_tlvs.specs.declared.pw_fec.PwFec.{PwFec}
use Rattle.pw_tlvs.specs.Fec.{IsFecValue, IsPwFec}
use Rattle.ldp_grammar.specs.declared.message_kind.MessageKind.{MessageKind}
use Rattle.ldp_grammar.specs.declared.message.Message.TheVariants.{Unprocessed}
use Rattle.ldp_grammar.specs.declared.why.Why.{Why}
use Rattle.ldp_grammar.specs.declared.why.Why.TheVariants.{UnknownTlv, Missing}
use Rattle.ldp_grammar.specs.Octets.{four_at}
use Rattle.ldp_grammar.specs.Rows.{Row, row_of, type_of, is_in, fec, label}
use Rattle.ldp_grammar.specs.Layouts.{fits, listed}
use Rattle.ldp_grammar.specs.Tlvs.{Tlv, IsJoined, IsFaultless, IsReason, IsForeign, HasValue, OfBoth, all_there, stands_instead, missing, fec_value, where_listed, fec_reason, reason_of, first_absent, first_unknown, value_of}
use Rattle.ldp_grammar.specs.Spells.{IsRead, OfValue}
use Rattle.ldp_grammar.proofs.TlvLemmas.{value_fits, none_of, needed_there, rows_have_fields, joined_once}
use Rattle.ldp_grammar.proofs.ForeignLemmas.{no_reason, told_pw, not_foreign}
use Rattle.ldp_codec.specs.Views.{AreSound}
use Rattle.ldp_codec.specs.Walk.{HasElement, IsComplete, element_in}

-- where TLVs may stand instead, and all of them do
pub instead_is : (kinds : List ℕ) (ts : List Tlv) → stands_instead kinds ts ≡ (not (length kinds == 0) && all_there kinds ts)
instead_is [] ts = refl
instead_is (kind ∷ kinds) ts =
    let some : (length (kind ∷ kinds) == 0) ≡ false = grind (arith, nat_tests) in
    rw some refl

pub missing_none : (row : Row) (ts : List Tlv) → stands_instead row.instead ts ≡ true → missing row ts ≡ None
missing_none row ts e = rw e refl

pub missing_first : (row : Row) (ts : List Tlv) → stands_instead row.instead ts ≡ false → missing row ts ≡ first_absent row.needed ts
missing_first row ts e = rw e refl

-- the FEC of a message that lists one
pub listed_fec : (row : Row) (f : Field) → listed row fec ≡ Some f → f ≡ field.Fec
listed_fec row f e = elim (cases_Bool (is_in fec row.needed)) [
  | inl in_needed ↦ (let here : listed row fec ≡ Some field.Fec = rw in_needed refl in cc (sym e ∙ here))
  | inr not_needed ↦ elim (cases_Bool (is_in fec row.further)) [
    | inl in_further ↦ (let here : listed row fec ≡ Some field.Fec = rw (not_needed, in_further) refl in cc (sym e ∙ here))
    | inr neither ↦ (let here : listed row fec ≡ None = rw (not_needed, neither) refl in absurd (cc (sym e ∙ here)))
  ]
]

pub fec_unlisted : (k : MessageKind) (ts : List Tlv) → listed (row_of k) fec ≡ None → OfBoth (fec_value (row_of k) ts) None IsFecValue
fec_unlisted k ts e = subst (λ (o : Option Field). OfBoth (where_listed o (value_of fec ts)) None IsFecValue) (sym e) tt

none_listed : (o : Option Field) → OfBoth (where_listed o None) None IsFecValue
none_listed None = tt
none_listed (Some f) = tt

pub fec_absent : (k : MessageKind) (ts : List Tlv) → None ≡ value_of fec ts → OfBoth (fec_value (row_of k) ts) None IsFecValue
fec_absent k ts e = subst (λ (v : Option (List ℕ)). OfBoth (where_listed (listed (row_of k) fec) v) None IsFecValue) e (none_listed (listed (row_of k) fec))

told_there : (body value : List ℕ) (o : Option Field) (r : Option FecValue) → (o ≡ None → ⊥) → ((f : Field) → o ≡ Some f → f ≡ field.Fec) → HasValue body o value
    → ((told : FecValue) → IsFecValue value told → r ≡ Some told) → OfBoth (where_listed o (Some value)) r IsFecValue
told_there body value None r some only has told = absurd (some refl)
told_there body value (Some f) r some only has told =
    let fits : HasValue body (Some field.Fec) value = subst (λ (g : Field). HasValue body (Some g) value) (only f refl) has in
    let is = fits.1 in
    subst (λ (x : Option FecValue). OfBoth (Some value) x IsFecValue) (sym (told is.told is.is)) is.is

pub fec_there : (k : MessageKind) (body value : List ℕ) (ts : List Tlv) (r : Option FecValue) → (listed (row_of k) fec ≡ None → ⊥) → IsFaultless (row_of k) body ts → Some value
    ≡ value_of fec ts → ((told : FecValue) → IsFecValue value told → r ≡ Some told) → OfBoth (fec_value (row_of k) ts) r IsFecValue
fec_there k body value ts r some faultless e told =
    subst (λ (v : Option (List ℕ)). OfBoth (where_listed (listed (row_of k) fec) v) r IsFecValue) e
    (told_there body value (listed (row_of k) fec) r some (listed_fec (row_of k)) (value_fits (row_of k) body ts fec value faultless.values (sym e)) told)

-- the first reason
pub reason_unknown : (k : MessageKind) (ts : List Tlv) (told : Option FecValue) (tlv : ℕ) → OfBoth (fec_value (row_of k) ts) told IsFecValue → Some tlv ≡ first_unknown (row_of k) ts
    → IsReason k ts (Some (UnknownTlv tlv))
reason_unknown k ts told tlv is e = record { told = told; is_told = is; is = ap (λ (o : Option ℕ). reason_of o (missing (row_of k) ts) (fec_reason k told)) e }

pub reason_missing : (k : MessageKind) (ts : List Tlv) (told : Option FecValue) (f : Field) → OfBoth (fec_value (row_of k) ts) told IsFecValue → None ≡ first_unknown (row_of k) ts
    → Some f ≡ missing (row_of k) ts → IsReason k ts (Some (Missing f))
reason_missing k ts told f is e m = record { told = told; is_told = is; is = λ i. reason_of (e i) (m i) (fec_reason k told) }

pub reason_last : (k : MessageKind) (ts : List Tlv) (told : Option FecValue) → OfBoth (fec_value (row_of k) ts) told IsFecValue → None ≡ first_unknown (row_of k) ts → None
    ≡ missing (row_of k) ts → IsReason k ts (fec_reason k told)
reason_last k ts told is e m = record { told = told; is_told = is; is = λ i. reason_of (e i) (m i) (fec_reason k told) }

-- the FEC of a processed message is an element
element_is : (v : Option (List ℕ)) (r : Option FecValue) → ((first : ℕ) → r ≡ Some (Foreign first) → ⊥) → OfBoth v r IsFecValue → OfBoth v (element_in r) IsPwFec
element_is None None never is = is
element_is None (Some x) never is = absurd is
element_is (Some v) None never is = absurd is
element_is (Some v) (Some (Pw pw)) never is = is
element_is (Some v) (Some (Foreign first)) never is = absurd (never first refl)

pub has_element : (k : MessageKind) (body : List ℕ) (r : Option FecValue) → IsComplete k body
    → ((ts : List Tlv) → IsJoined body ts → IsFaultless (row_of k) body ts → OfBoth (fec_value (row_of k) ts) r IsFecValue) → HasElement k body (element_in r)
has_element k body r w tells = λ ts joined.
    let same : w.tlvs ≡ ts = joined_once body w.tlvs ts w.joined joined in
    let is : OfBoth (fec_value (row_of k) w.tlvs) r IsFecValue = tells w.tlvs w.joined w.faultless in
    let none = no_reason _ _ _ w.reason.is in
    subst (λ (us : List Tlv). OfBoth (fec_value (row_of k) us) (element_in r) IsPwFec) same
    (element_is (fec_value (row_of k) w.tlvs) r (told_pw k (fec_value (row_of k) w.tlvs) w.reason.told r none.fec w.reason.is_told is) is)

-- a message that is not processed
pub unprocessed : (k : MessageKind) (body : List ℕ) (why : Option Why) (reason : Why) (w : AreSound (row_of k) body) → IsReason k w.tlvs why → why
    ≡ Some reason → (id : ℕ) → IsRead k id body (Unprocessed id (type_of k) reason)
unprocessed k body why reason w is e = λ id. record { tlvs = w.tlvs; joined = w.joined; faultless = w.faultless; why = Some reason; reason = subst (IsReason k w.tlvs) e is; tells = refl }

-- a message that is processed
pub complete : (k : MessageKind) (body : List ℕ) (why : Option Why) (w : AreSound (row_of k) body) → IsReason k w.tlvs why → why ≡ None → IsComplete k body
complete k body why w is e = record { tlvs = w.tlvs; joined = w.joined; faultless = w.faultless; reason = subst (IsReason k w.tlvs) e is }

-- what a message needs is there
pub complete_of : (k : MessageKind) (body : List ℕ) (w : IsComplete k body) → (row_of k).instead ≡ [] → first_absent (row_of k).needed w.tlvs ≡ None
complete_of k body w alone =
    let none = no_reason _ _ _ w.reason.is in
    let plain : stands_instead (row_of k).instead w.tlvs ≡ false = ap (λ (l : List ℕ). stands_instead l w.tlvs) alone in
    sym (missing_first (row_of k) w.tlvs plain) ∙ none.there

pub needed_some : (k : MessageKind) (tlv : ℕ) (body : List ℕ) (w : IsComplete k body) → (row_of k).instead ≡ [] → is_in tlv (row_of k).needed ≡ true → value_of tlv w.tlvs ≡ None → ⊥
needed_some k tlv body w alone needed e = needed_there (row_of k).needed w.tlvs tlv (rows_have_fields k) needed (complete_of k body w alone) (none_of tlv w.tlvs e)

pub of_value : {A : Type 0} (P : List ℕ → A → Type 0) (v : Option (List ℕ)) (x : A) → OfBoth v (Some x) P → OfValue v (λ value. P value x)
of_value P None x is = is
of_value P (Some v) x is = is

pub both_some : {A : Type 0} (P : List ℕ → A → Type 0) (v : Option (List ℕ)) (o : Option A) → (v ≡ None → ⊥) → OfBoth v o P → IsSome o
both_some P None o some is = absurd (some refl)
both_some P (Some v) None some is = absurd is
both_some P (Some v) (Some x) some is = refl

-- the PWid element of a message that needs a FEC is there
pub needed_element : (k : MessageKind) (body : List ℕ) (pw : Option PwFec) → IsComplete k body → listed (row_of k) fec ≡ Some field.Fec → (row_of k).instead ≡ []
    → is_in fec (row_of k).needed ≡ true → HasElement k body pw → IsSome pw
needed_element k body pw w is_listed alone needed has =
    let is : OfBoth (value_of fec w.tlvs) pw IsPwFec = subst (λ (o : Option Field). OfBoth (where_listed o (value_of fec w.tlvs)) pw IsPwFec) is_listed (has w.tlvs w.joined) in
    both_some IsPwFec (value_of fec w.tlvs) pw (needed_some k fec body w alone needed) is

-- the label of a message that is processed is looked at
pub label_is : (k : MessageKind) (body value : List ℕ) → IsComplete k body → listed (row_of k) label ≡ Some field.Label → listed (row_of k) fec ≡ Some field.Fec
    → HasValue body (listed (row_of k) label) value → IsLabel (four_at 0 value)
label_is k body value w is_listed with_fec has =
    by ((subst (λ (o : Option Field). HasValue body o value) is_listed has).1)
  where
    by : IsForeign body ⊎ IsLabel (four_at 0 value) → IsLabel (four_at 0 value)
    by (inl foreign) = absurd (not_foreign k body w.tlvs w.joined w.reason with_fec foreign)
    by (inr is) = is

-- the octets of a label
pub label_length : (k : MessageKind) (body value : List ℕ) → listed (row_of k) label ≡ Some field.Label → HasValue body (listed (row_of k) label) value → length value ≡ 4
label_length k body value is_listed has = eqb-true _ _ ((subst (λ (o : Option Field). HasValue body o value) is_listed has).0)

-- a listed TLV has a value of the right Length
pub fitting : (body value : List ℕ) (o : Option Field) (f : Field) → HasValue body o value → o ≡ Some f → fits f value ≡ true
fitting body value o f has is = (subst (λ (x : Option Field). HasValue body x value) is has).0
