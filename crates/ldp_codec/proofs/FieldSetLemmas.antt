-- Sets of TLVs by their fields.
use Rattle.std.proofs.Common.{◌≡◌, ◌≤◌, ◌<◌, ◌+◌, ◌++◌, ◌∙◌, ℕ, Bool, true, false, List, [], ◌∷◌, Option, Some, length, take, drop, set, get_or, inl, inr, refl, sym, ap, subst, eqb-true, arith}
use Rattle.std.specs.Prelude.{◌==◌}
use Rattle.std.proofs.lemmas.Bool.{cases_Bool, cases_eq}
use Rattle.std.proofs.lemmas.List.{get_or-set_same, get_or-set_other}
use Rattle.net_values.specs.declared.field.Field.{Field}
use Rattle.ldp_grammar.specs.Layouts.{listed, most}
use Rattle.ldp_grammar.specs.Rows.{Row}
use Rattle.ldp_grammar.specs.Tlvs.{Tlv, IsJoined, MayComeAgain, count_of, spell_tlv, type_in}
use Rattle.ldp_grammar.proofs.TlvLemmas.{count-append, joined_more, joined_none, joined_once}
use Rattle.ldp_grammar.proofs.WrittenLemmas.{least_most}
use Rattle.ldp_codec.specs.FieldSet.{HoldsListed, IsPutIn, has, place_of_field}
use Rattle.ldp_codec.specs.Walk.{IsTaken, IsWalked}
use Rattle.ldp_codec.proofs.PlaceLemmas.{placed}

pub has_put : (places : List Bool) (f : Field) → place_of_field f < length places → has (set places (place_of_field f) true) f ≡ true
has_put places f within = get_or-set_same places (place_of_field f) true false within

pub has_kept : (places : List Bool) (f other : Field) → place_of_field f < length places → has (set places (place_of_field f) true) other ≡ false → has places other ≡ false
has_kept places f other within absent = elim (cases_eq (place_of_field other) (place_of_field f)) [
  | inl same ↦ absurd (cc (sym absent ∙ (ap (λ (n : ℕ). has_at n) same ∙ get_or-set_same places (place_of_field f) true false within)))
  | inr apart ↦ sym (get_or-set_other places (place_of_field f) (place_of_field other) true false apart) ∙ absent
]
  where
    has_at : ℕ → Bool
    has_at n = get_or (set places (place_of_field f) true) n false

pub may_come : (list : Option Field) (f : Field) (count : ℕ) → list ≡ Some f → count ≡ 0 → MayComeAgain list count
may_come list f count is none =
    subst (λ (o : Option Field). MayComeAgain o count) (sym is) (subst (λ (n : ℕ). n < most f) (sym none) (least_most f))

-- none came yet
pub holds_none : (row : Row) (places : List Bool) (ts : List Tlv) → IsJoined [] ts → HoldsListed row places ts
holds_none row places ts joined = λ tlv f is_listed absent. ap (count_of tlv) (joined_none ts joined)

-- the same of octets that are equal
pub holds_before : (row : Row) (places : List Bool) (octets before : List ℕ) → before ≡ octets → ((ts : List Tlv) → IsJoined octets ts → HoldsListed row places ts) → (ts : List Tlv)
    → IsJoined before ts → HoldsListed row places ts
holds_before row places octets before is holds = λ ts joined. holds ts (subst (λ (l : List ℕ). IsJoined l ts) is joined)

-- one more came, and was put into the set
holds_one : (row : Row) (old new : List Bool) (ts : List Tlv) (t : Tlv) → HoldsListed row old ts → IsPutIn (listed row (type_in t.word)) old new → HoldsListed row new (ts ++ t ∷ [])
holds_one row old new ts t holds put = λ tlv f is_listed absent.
    let before : count_of tlv ts ≡ 0 = holds tlv f is_listed (put.kept f absent) in
    elim (cases_Bool (type_in t.word == tlv)) [
      | inl same ↦
          let is : type_in t.word ≡ tlv = eqb-true _ _ same in
          absurd (cc (sym absent ∙ put.put f (ap (listed row) is ∙ is_listed)))
      | inr other ↦
          let none : count_of tlv (t ∷ []) ≡ 0 = rw other refl in
          omega (arith, count-append tlv ts (t ∷ []), none, before)
    ]

pub holds_more : (row : Row) (body : List ℕ) (at word size : ℕ) (old new : List Bool) → at ≤ length body → IsWalked row body (take at body)
    → ((ts : List Tlv) → IsJoined (take at body) ts → IsTaken row body ts (drop at body) word size)
    → ((ts : List Tlv) → IsJoined (take at body) ts → HoldsListed row old ts) → IsPutIn (listed row (type_in word)) old new → (ts : List Tlv) → IsJoined (take (at + size) body) ts
    → HoldsListed row new ts
holds_more row body at word size old new within w takes holds put = λ ts joined.
    let t = takes w.tlvs w.joined in
    let tlv : Tlv = record { word = word; value = t.value } in
    let long : size ≡ length (spell_tlv tlv) = omega (arith, t.len) in
    let place = placed body (spell_tlv tlv) t.more at size within t.here.split long in
    let whole : IsJoined (take (at + size) body) (w.tlvs ++ tlv ∷ []) = joined_more (take at body) (take (at + size) body) w.tlvs tlv w.joined t.here.is_tlv place.front in
    subst (HoldsListed row new) (joined_once (take (at + size) body) (w.tlvs ++ tlv ∷ []) ts whole joined) (holds_one row old new w.tlvs tlv (holds w.tlvs w.joined) put)
