-- The TLVs of a message, each found once.
use Rattle.std.proofs.Common.{◌≡◌, ◌≤◌, ◌<◌, ◌+◌, ◌%◌, ◌++◌, ℕ, true, false, List, [], ◌∷◌, Option, Some, None, length, take, drop, set, get_or, eqb-true, eq-eqb, inl, inr, refl, sym, ap, subst, ◌∙◌, arith}
use Rattle.std.specs.Prelude.{◌==◌, if◌then◌else◌}
use Rattle.std.specs.Option.{option_or}
use Rattle.std.proofs.lemmas.Bool.{cases_Bool, cases_eq}
use Rattle.std.proofs.lemmas.Bool.Decides.{nat_tests}
use Rattle.std.proofs.Math.ListN.{drop_of_length-le}
use Rattle.std.proofs.lemmas.List.{get_or-set_same, get_or-set_other}
use Rattle.net_values.specs.declared.field.Field.{Field}
use Rattle.net_values.specs.declared.field.Field.TheVariants as field
use Rattle.ldp_grammar.specs.Layouts.{field_of}
use Rattle.ldp_grammar.specs.Octets.{two_at}
use Rattle.ldp_grammar.specs.Rows.{Row, fec, address_list, label, status, hello_parameters, transport_address, mac_list, session_parameters, request_id, pw_status, switching_point}
use Rattle.ldp_grammar.specs.Tlvs.{Tlv, IsJoined, count_of, first_unknown, unknown_in, type_in, value_of}
use Rattle.ldp_grammar.proofs.TlvLemmas.{joined_front, joined_none, length_of, size_of}
use Rattle.ldp_codec.specs.FieldSet.{place_of_field}
use Rattle.ldp_codec.specs.TlvIndex.{AreFirst, AreKept, AreWhole, IsWhole, beginning, front_value, value_at}
use Rattle.ldp_codec.specs.Walk.{IsSplit}
use Rattle.ldp_codec.proofs.SearchLemmas.{behind}

option_or-assoc : (a b c : Option ℕ) → option_or (option_or a b) c ≡ option_or a (option_or b c)
option_or-assoc None b c = refl
option_or-assoc (Some x) b c = refl

option_or-none : (a : Option ℕ) → option_or a None ≡ a
option_or-none None = refl
option_or-none (Some x) = refl

-- a TLV of the type is there exactly where there is a value of one
pub lacks_some : (kind : ℕ) (value : List ℕ) (ts : List Tlv) → Some value ≡ value_of kind ts → false ≡ (count_of kind ts == 0)
lacks_some kind value [] e = absurd (cc e)
lacks_some kind value (t ∷ ts) e = elim (cases_Bool (type_in t.word == kind)) [
  | inl same ↦
      let some : (1 + count_of kind ts == 0) ≡ false = grind (arith, nat_tests) in
      rw same (sym some)
  | inr other ↦
      let there : Some value ≡ value_of kind ts = e ∙ rw other refl in
      lacks_some kind value ts there ∙ rw other refl
]

pub lacks_none : (kind : ℕ) (ts : List Tlv) → None ≡ value_of kind ts → true ≡ (count_of kind ts == 0)
lacks_none kind [] e = refl
lacks_none kind (t ∷ ts) e = elim (cases_Bool (type_in t.word == kind)) [
  | inl same ↦
      let there : value_of kind (t ∷ ts) ≡ Some t.value = rw same refl in
      absurd (cc (e ∙ there))
  | inr other ↦
      let absent : None ≡ value_of kind ts = e ∙ rw other refl in
      lacks_none kind ts absent ∙ rw other refl
]

-- from this place on there are TLVs that are still to be found; of those before it the first that is unknown and the values are known
pub record IndexOn (row : Row) (octets : List ℕ) (ts : List Tlv) (at : ℕ) (unknown : Option ℕ) (places : List ℕ) : Type 0 where
  pub further : List Tlv
  pub joined : IsJoined (drop at octets) further
  pub first : first_unknown row ts ≡ option_or unknown (first_unknown row further)
  pub kept : (tlv : ℕ) (f : Field) → field_of tlv ≡ Some f → option_or (value_at octets (beginning places f)) (value_of tlv further) ≡ value_of tlv ts

pub index_none : (row : Row) (octets : List ℕ) (ts : List Tlv) (places : List ℕ) → ((f : Field) → beginning places f ≡ 65535) → IsJoined octets ts → IndexOn row octets ts 0 None places
index_none row octets ts places none joined = record {
  further = ts;
  joined = joined;
  first = refl;
  kept = λ tlv f e. ap (λ (n : ℕ). option_or (value_at octets n) (value_of tlv ts)) (none f);
}

pub none_whole : (octets places : List ℕ) → ((f : Field) → beginning places f ≡ 65535) → AreWhole octets places
none_whole octets places none = λ f some. absurd (cc (sym some ∙ ap (λ (n : ℕ). n == 65535) (none f)))

-- the TLV in front stands whole, and its value is this
pub front_whole : (rest value more : List ℕ) (word : ℕ) → IsSplit rest word value more → IsWhole rest
front_whole rest value more word s =
    let t : Tlv = record { word = word; value = value } in
    omega (arith, ap (two_at 2) s.split, length_of t more s.is_tlv, ap length s.split, size_of t more)

front_of_append : (xs ys : List ℕ) → take (length xs) (xs ++ ys) ≡ xs
front_of_append [] ys = refl
front_of_append (x ∷ xs) ys = ap (λ (l : List ℕ). x ∷ l) (front_of_append xs ys)

front_is : (rest value more : List ℕ) (word : ℕ) → IsSplit rest word value more → front_value rest ≡ value
front_is rest value more word s =
    let t : Tlv = record { word = word; value = value } in
    let len : two_at 2 rest ≡ length value = ap (two_at 2) s.split ∙ length_of t more s.is_tlv in
    let behind : drop 4 rest ≡ value ++ more = ap (λ (l : List ℕ). drop 4 l) s.split in
    (λ i. take (len i) (behind i)) ∙ front_of_append value more

-- what is kept, by the values
values_kept : (octets value : List ℕ) (found kind at old new : ℕ) → new ≡ (if found == kind then (if old == 65535 then at else old) else old) → value_at octets at ≡ Some value
    → value_at octets new ≡ (if found == kind then option_or (value_at octets old) (Some value) else value_at octets old)
values_kept octets value found kind at old new is here = elim (cases_Bool (found == kind)) [
  | inl same ↦ elim (cases_Bool (old == 65535)) [
    | inl absent ↦
        let now : new ≡ at = is ∙ rw (same, absent) refl in
        ap (value_at octets) now ∙ (here ∙ rw (same, absent) refl)
    | inr found_before ↦
        let now : new ≡ old = is ∙ rw (same, found_before) refl in
        let some : value_at octets old ≡ Some (front_value (drop old octets)) = rw found_before refl in
        ap (value_at octets) now ∙ rw (same, found_before) refl
  ]
  | inr other ↦
      let now : new ≡ old = is ∙ rw other refl in
      ap (value_at octets) now ∙ rw other refl
]

first_stays : (old : Option (List ℕ)) (value : List ℕ) (later : Option (List ℕ)) → option_or (option_or old (Some value)) later ≡ option_or old (Some value)
first_stays None value later = refl
first_stays (Some x) value later = refl

-- the first value of a type among all, where one more TLV was looked at
kept_on : (tlv word : ℕ) (value : List ℕ) (old new : Option (List ℕ)) (rest : List Tlv) (all : Option (List ℕ))
    → new ≡ (if word % 16384 == tlv then option_or old (Some value) else old)
    → option_or old (value_of tlv (record { word = word; value = value } ∷ rest)) ≡ all → option_or new (value_of tlv rest) ≡ all
kept_on tlv word value old new rest all is past = elim (cases_Bool (word % 16384 == tlv)) [
  | inl same ↦
      let here : new ≡ option_or old (Some value) = is ∙ rw same refl in
      let there : option_or old (value_of tlv (record { word = word; value = value } ∷ rest)) ≡ option_or old (Some value) = rw same refl in
      ap (λ (o : Option (List ℕ)). option_or o (value_of tlv rest)) here ∙ (first_stays old value (value_of tlv rest) ∙ (sym there ∙ past))
  | inr other ↦
      let here : new ≡ old = is ∙ rw other refl in
      let there : option_or old (value_of tlv (record { word = word; value = value } ∷ rest)) ≡ option_or old (value_of tlv rest) = rw other refl in
      ap (λ (o : Option (List ℕ)). option_or o (value_of tlv rest)) here ∙ (sym there ∙ past)
]

-- one more TLV is found
pub index_more : (row : Row) (octets value more : List ℕ) (ts : List Tlv) (at word : ℕ) (unknown : Option ℕ) (old new : List ℕ) → IndexOn row octets ts at unknown old
    → at ≤ length octets → length octets < 65535 → IsSplit (drop at octets) word value more → AreKept old new (word % 16384) at
    → IndexOn row octets ts (at + (4 + length value)) (option_or unknown (unknown_in row word)) new
index_more row octets value more ts at word unknown old new on within few s kept =
    let t : Tlv = record { word = word; value = value } in
    let front = joined_front (drop at octets) more on.further t on.joined s.is_tlv s.split in
    let e : first_unknown row on.further ≡ option_or (unknown_in row word) (first_unknown row front.further) = ap (first_unknown row) front.list in
    let place : (at == 65535) ≡ false = grind (arith, nat_tests) in
    let begins : value_at octets at ≡ Some (front_value (drop at octets)) = rw place refl in
    let here : value_at octets at ≡ Some value = begins ∙ ap Some (front_is (drop at octets) value more word s) in
    record {
      further = front.further;
      joined = subst (λ (l : List ℕ). IsJoined l front.further) (sym (behind octets value more at word within s)) front.joined;
      first = on.first ∙ (ap (option_or unknown) e ∙ sym (option_or-assoc unknown (unknown_in row word) (first_unknown row front.further)));
      kept = λ tlv f is.
          kept_on tlv word value (value_at octets (beginning old f)) (value_at octets (beginning new f)) front.further (value_of tlv ts)
          (values_kept octets value (word % 16384) tlv at (beginning old f) (beginning new f) (kept tlv f is) here)
          (ap (λ (us : List Tlv). option_or (value_at octets (beginning old f)) (value_of tlv us)) (sym front.list) ∙ on.kept tlv f is);
    }

-- all of them are found
no_further : (row : Row) (octets : List ℕ) (ts : List Tlv) (at : ℕ) (unknown : Option ℕ) (places : List ℕ) → length octets ≤ at
    → (on : IndexOn row octets ts at unknown places) → on.further ≡ []
no_further row octets ts at unknown places past on = joined_none on.further (subst (λ (l : List ℕ). IsJoined l on.further) (drop_of_length-le octets past) on.joined)

pub unknown_all : (row : Row) (octets : List ℕ) (ts : List Tlv) (at : ℕ) (unknown : Option ℕ) (places : List ℕ) → length octets ≤ at
    → IndexOn row octets ts at unknown places → unknown ≡ first_unknown row ts
unknown_all row octets ts at unknown places past on =
    sym (on.first ∙ (ap (λ (us : List Tlv). option_or unknown (first_unknown row us)) (no_further row octets ts at unknown places past on) ∙ option_or-none unknown))

pub index_all : (row : Row) (octets : List ℕ) (at : ℕ) (unknown : Option ℕ) (places : List ℕ) → length octets ≤ at
    → ((ts : List Tlv) → IsJoined octets ts → IndexOn row octets ts at unknown places) → AreFirst octets places
index_all row octets at unknown places past on = λ ts joined tlv f is.
    let here = on ts joined in
    sym (value_or_none (value_at octets (beginning places f)))
    ∙ (ap (λ (us : List Tlv). option_or (value_at octets (beginning places f)) (value_of tlv us)) (sym (no_further row octets ts at unknown places past here)) ∙ here.kept tlv f is)
  where
    value_or_none : (a : Option (List ℕ)) → option_or a None ≡ a
    value_or_none None = refl
    value_or_none (Some x) = refl

-- what is kept of a type's field is the first value of the type
pub absent_at : (octets places : List ℕ) (ts : List Tlv) (tlv : ℕ) (f : Field) → AreFirst octets places → IsJoined octets ts → Some f ≡ field_of tlv → beginning places f ≡ 65535 → None ≡ value_of tlv ts
absent_at octets places ts tlv f first joined is absent =
    let none : value_at octets (beginning places f) ≡ None = ap (value_at octets) absent in
    sym none ∙ first ts joined tlv f (sym is)

pub found_at : (octets places value : List ℕ) (ts : List Tlv) (tlv : ℕ) (f : Field) → AreFirst octets places → IsJoined octets ts → Some f ≡ field_of tlv → (beginning places f == 65535) ≡ false
    → value ≡ front_value (drop (beginning places f) octets) → Some value ≡ value_of tlv ts
found_at octets places value ts tlv f first joined is some value_is =
    let begins : value_at octets (beginning places f) ≡ Some (front_value (drop (beginning places f) octets)) = rw some refl in
    ap Some value_is ∙ (sym begins ∙ first ts joined tlv f (sym is))

-- the type of the TLV with the field at a place
abbrev numbered : ℕ → ℕ
numbered n = get_or (fec ∷ address_list ∷ label ∷ status ∷ hello_parameters ∷ transport_address ∷ mac_list ∷ session_parameters ∷ request_id ∷ pw_status ∷ switching_point ∷ []) n 0

abbrev type_at : Option Field → ℕ
type_at (Some f) = numbered (place_of_field f)
type_at None = 0

-- the place of a type's field tells the type
typed : (tlv : ℕ) (f : Field) → field_of tlv ≡ Some f → tlv ≡ type_at (Some f)
typed tlv f e = elim (cases_Bool (tlv == fec)) [
  | inl is ↦ (let here : field_of tlv ≡ Some field.Fec = rw is refl in eqb-true tlv fec is ∙ ap type_at (sym here ∙ e))
  | inr n0 ↦ elim (cases_Bool (tlv == address_list)) [
    | inl is ↦ (let here : field_of tlv ≡ Some field.AddressList = rw (n0, is) refl in eqb-true tlv address_list is ∙ ap type_at (sym here ∙ e))
    | inr n1 ↦ elim (cases_Bool (tlv == label)) [
      | inl is ↦ (let here : field_of tlv ≡ Some field.Label = rw (n0, n1, is) refl in eqb-true tlv label is ∙ ap type_at (sym here ∙ e))
      | inr n2 ↦ elim (cases_Bool (tlv == status)) [
        | inl is ↦ (let here : field_of tlv ≡ Some field.Status = rw (n0, n1, n2, is) refl in eqb-true tlv status is ∙ ap type_at (sym here ∙ e))
        | inr n3 ↦ elim (cases_Bool (tlv == hello_parameters)) [
          | inl is ↦ (let here : field_of tlv ≡ Some field.Hello = rw (n0, n1, n2, n3, is) refl in eqb-true tlv hello_parameters is ∙ ap type_at (sym here ∙ e))
          | inr n4 ↦ elim (cases_Bool (tlv == transport_address)) [
            | inl is ↦ (let here : field_of tlv ≡ Some field.Transport = rw (n0, n1, n2, n3, n4, is) refl in eqb-true tlv transport_address is ∙ ap type_at (sym here ∙ e))
            | inr n5 ↦ elim (cases_Bool (tlv == mac_list)) [
              | inl is ↦ (let here : field_of tlv ≡ Some field.MacList = rw (n0, n1, n2, n3, n4, n5, is) refl in eqb-true tlv mac_list is ∙ ap type_at (sym here ∙ e))
              | inr n6 ↦ elim (cases_Bool (tlv == session_parameters)) [
                | inl is ↦ (let here : field_of tlv ≡ Some field.Session = rw (n0, n1, n2, n3, n4, n5, n6, is) refl in eqb-true tlv session_parameters is ∙ ap type_at (sym here ∙ e))
                | inr n7 ↦ elim (cases_Bool (tlv == request_id)) [
                  | inl is ↦ (let here : field_of tlv ≡ Some field.RequestId = rw (n0, n1, n2, n3, n4, n5, n6, n7, is) refl in eqb-true tlv request_id is ∙ ap type_at (sym here ∙ e))
                  | inr n8 ↦ elim (cases_Bool (tlv == pw_status)) [
                    | inl is ↦ (let here : field_of tlv ≡ Some field.PwStatus = rw (n0, n1, n2, n3, n4, n5, n6, n7, n8, is) refl in eqb-true tlv pw_status is ∙ ap type_at (sym here ∙ e))
                    | inr n9 ↦ elim (cases_Bool (tlv == switching_point)) [
                      | inl is ↦ (let here : field_of tlv ≡ Some field.Point = rw (n0, n1, n2, n3, n4, n5, n6, n7, n8, n9, is) refl in eqb-true tlv switching_point is ∙ ap type_at (sym here ∙ e))
                      | inr n10 ↦ (let here : field_of tlv ≡ None = rw (n0, n1, n2, n3, n4, n5, n6, n7, n8, n9, n10) refl in absurd (cc (sym here ∙ e)))
                    ]
                  ]
                ]
              ]
            ]
          ]
        ]
      ]
    ]
  ]
]

-- a place is kept for one type
pub kept_place : (places : List ℕ) (tlv kind at : ℕ) (g f : Field) → place_of_field g < length places → field_of tlv ≡ Some g → field_of kind ≡ Some f → beginning places g ≡ 65535
    → beginning (set places (place_of_field g) at) f ≡ (if tlv == kind then (if beginning places f == 65535 then at else beginning places f) else beginning places f)
kept_place places tlv kind at g f within g_is f_is absent = elim (cases_Bool (tlv == kind)) [
  | inl same ↦
      let is : g ≡ f = some_is (sym g_is ∙ (ap field_of (eqb-true tlv kind same) ∙ f_is)) in
      let empty : (beginning places f == 65535) ≡ true = ap (λ (h : Field). beginning places h == 65535) (sym is) ∙ ap (λ (n : ℕ). n == 65535) absent in
      subst (λ (h : Field). beginning (set places (place_of_field g) at) h ≡ at) is (get_or-set_same places (place_of_field g) at 0 within) ∙ rw (same, empty) refl
  | inr other ↦ elim (cases_eq (place_of_field f) (place_of_field g)) [
    | inl one ↦
        let types_are : tlv ≡ kind = typed tlv g g_is ∙ (ap numbered (sym one) ∙ sym (typed kind f f_is)) in
        absurd (cc (sym other ∙ eq-eqb tlv kind types_are))
    | inr apart ↦ get_or-set_other places (place_of_field g) (place_of_field f) at 0 apart ∙ rw other refl
  ]
]
  where
    or_else : Field → Option Field → Field
    or_else x None = x
    or_else x (Some y) = y

    some_is : Some g ≡ Some f → g ≡ f
    some_is e = ap (or_else g) e
