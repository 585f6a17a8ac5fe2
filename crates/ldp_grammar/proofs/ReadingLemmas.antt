-- The TLVs of a message are without fault, or have a first fault: one of the two can always be told.
use Rattle.std.proofs.Common.{◌≡◌, ◌≤◌, ◌<◌, ◌++◌, ◌⊎◌, inl, inr, ℕ, zero, suc, true, List, [], ◌∷◌, Option, Some, None, length, flat_map, nat_eq, eqb-true, refl, sym, ap, subst, ◌∙◌, append-nil, append_assoc, length-append, arith}
use Rattle.std.proofs.lemmas.Bool.{cases_Bool, cases_lt}
use Rattle.std.proofs.lemmas.Grind.{flat_map-append}
use Rattle.std.specs.List.{AllByRecursion}
use Rattle.net_values.specs.Label.{IsLabel}
use Rattle.net_values.specs.declared.field.Field.{Field}
use Rattle.net_values.specs.declared.field.Field.TheVariants as field
use Rattle.pw_tlvs.specs.declared.fec_value.FecValue.{FecValue}
use Rattle.pw_tlvs.specs.declared.fec_value.FecValue.TheVariants.{Pw, Foreign}
use Rattle.pw_tlvs.specs.declared.field_fault.FieldFault.{FieldFault}
use Rattle.pw_tlvs.specs.declared.field_fault.FieldFault.TheVariants.{Value}
use Rattle.pw_tlvs.specs.Faults.{IsFirstIn}
use Rattle.pw_tlvs.specs.Fec.{IsFecValue}
use Rattle.pw_tlvs.proofs.FaultLemmas.{first_alone}
use Rattle.pw_tlvs.proofs.FecLemmas.{one_fec, never_fec}
use Rattle.pw_tlvs.proofs.ReadingLemmas.{told, refused, fec_reading, point_reading}
use Rattle.ldp_grammar.specs.declared.fault.Fault.{Fault}
use Rattle.ldp_grammar.specs.declared.cause.Cause.TheVariants as cause
use Rattle.ldp_grammar.specs.Octets.{two_at, four_at}
use Rattle.ldp_grammar.specs.Rows.{Row, fec}
use Rattle.ldp_grammar.specs.Layouts.{Layout, CountedOctets, FamilyAddresses, MacAddresses, FecElement, LabelNumber, PointParts, FreeOctets, fits, fits_as, layout_of, most, listed}
use Rattle.ldp_grammar.specs.Tlvs.{Tlv, type_in, spell_tlv, IsTlv, IsJoined, count_of, StandsFirst, IsForeign, HasContentAs, HasValue, IsFitting, KeepsTo, MayComeAgain, IsFaultless}
use Rattle.ldp_grammar.specs.FirstFault.{IsFirst, NamesTlvs, IsFirstTlvFault, ContentFaultAs, fault_in, moved}
use Rattle.ldp_grammar.proofs.OctetLemmas.{AreOctets}
use Rattle.ldp_grammar.proofs.ItemLemmas.{items_more}
use Rattle.ldp_grammar.proofs.TlvLemmas.{size_of, uncut_at, short_tlv, long_tlv, repeated_tlv, misfit_tlv, content_tlv, content_inside, near_of, first_of_tlvs, faultless_more}
use Rattle.ldp_grammar.proofs.ForeignLemmas.{found_first, stands_behind, stands_past, none_stands, stands_once}
use Rattle.ldp_grammar.proofs.FrontLemmas.{short, past, tlv, tlv_front}

-- the octets behind some others are octets
pub octets_behind : (front more : List ℕ) → AreOctets (front ++ more) → AreOctets more
octets_behind [] more octets = octets
octets_behind (x ∷ front) more octets = octets_behind front more (λ i. octets (suc i))

-- whether a TLV of a type stands among octets, and the first of them
pub data Standing (kind : ℕ) (octets : List ℕ) : Type 0 where
  stands : (value : List ℕ) → StandsFirst kind octets value → Standing kind octets
  none : ((value : List ℕ) → StandsFirst kind octets value → ⊥) → Standing kind octets

-- with a TLV in front, it is the first or that behind it is
standing_at : (kind : ℕ) (octets value more : List ℕ) → octets ≡ spell_tlv (record { word = two_at 0 octets; value = value }) ++ more
    → IsTlv (record { word = two_at 0 octets; value = value }) → Standing kind more → Standing kind octets
standing_at kind octets value more e is behind = elim (cases_Bool (nat_eq (type_in (two_at 0 octets)) kind)) [
  | inl same ↦ stands value (found_first kind octets more (record { word = two_at 0 octets; value = value }) is e (eqb-true _ _ same))
  | inr other ↦ elim behind [
    | stands first s ↦ stands first (stands_behind kind octets more first (record { word = two_at 0 octets; value = value }) is e other s)
    | none never ↦ none (λ first s. never first (stands_past kind octets more first (record { word = two_at 0 octets; value = value }) is e other s))
  ]
]

standing_from : (fuel kind : ℕ) (octets : List ℕ) → AreOctets octets → length octets ≤ fuel → Standing kind octets
standing_from zero kind octets are few = none (λ value s. none_stands kind octets value (λ t more is e. omega (arith, size_of t more, ap length e, few)) s)
standing_from (suc fuel) kind octets are few = elim (tlv_front octets are) [
  | short less ↦ none (λ value s. none_stands kind octets value (λ t more is e. omega (arith, size_of t more, ap length e, less)) s)
  | past long far ↦ none (λ value s. none_stands kind octets value (λ t more is e. uncut_at octets more t 2 is e (inr (long, far, refl))) s)
  | tlv value more e is ↦ standing_at kind octets value more e is
      (standing_from fuel kind more (octets_behind (spell_tlv (record { word = two_at 0 octets; value = value })) more (subst AreOctets e are))
      (omega (arith, size_of (record { word = two_at 0 octets; value = value }) more, ap length e, few)))
]

pub standing_of : (kind : ℕ) (octets : List ℕ) → AreOctets octets → Standing kind octets
standing_of kind octets are = standing_from (length octets) kind octets are (omega arith)

no_element : (value : List ℕ) (first : ℕ) (fec : FecValue) → IsFecValue value fec → ((other : ℕ) → fec ≡ Foreign other → ⊥) → IsFecValue value (Foreign first) → ⊥
no_element value first fec is never foreign = never first (one_fec value fec (Foreign first) is foreign)

-- whether the first FEC of a message is foreign
pub foreign_of : (body : List ℕ) → AreOctets body → IsForeign body ⊎ (IsForeign body → ⊥)
foreign_of body are = elim (standing_of fec body are) [
  | none never ↦ inr (λ f. never f.value f.stands)
  | stands value s ↦ elim (fec_reading value) [
    | told (Foreign first) is ↦ inl (record { value = value; first = first; stands = s; foreign = is })
    | told (Pw pw) is ↦ inr (λ f. no_element value f.first (Pw pw) is (λ other e. cc (e))
        (subst (λ (v : List ℕ). IsFecValue v (Foreign f.first)) (stands_once fec body f.value value f.stands s) f.foreign))
    | refused fault first ↦ inr (λ f. never_fec value (Foreign f.first) fault
        (subst (λ (v : List ℕ). IsFecValue v (Foreign f.first)) (stands_once fec body f.value value f.stands s) f.foreign) first.named)
  ]
]

-- what a value of the right Length comes to
pub data ContentReading (body : List ℕ) (layout : Layout) (value : List ℕ) : Type 0 where
  fine : HasContentAs body layout value → ContentReading body layout value
  faulty : (fault : FieldFault) → IsFirstIn (ContentFaultAs body layout value) fault → ContentReading body layout value

no_label : (number : ℕ) → (number < 16) ⊎ (1048575 < number) → IsLabel number → ⊥
no_label number (inl low) is = omega (arith, is.above, low)
no_label number (inr high) is = omega (arith, is.below, high)

label_faulty : (body value : List ℕ) → length value ≡ 4 → (IsForeign body → ⊥) → (IsLabel (four_at 0 value) → ⊥) → ContentReading body LabelNumber value
label_faulty body value four never is_none = faulty (Value 0 field.Label) (first_alone (Value 0 field.Label) (four, never, is_none, refl) (λ g names. names.3))

label_content : (body value : List ℕ) → AreOctets body → length value ≡ 4 → ContentReading body LabelNumber value
label_content body value are four = elim (foreign_of body are) [
  | inl foreign ↦ fine (inl foreign)
  | inr never ↦ elim (cases_lt (four_at 0 value) 16) [
    | inl low ↦ label_faulty body value four never (no_label (four_at 0 value) (inl low))
    | inr above ↦ elim (cases_lt 1048575 (four_at 0 value)) [
      | inl high ↦ label_faulty body value four never (no_label (four_at 0 value) (inr high))
      | inr below ↦ fine (inr (record { above = above; below = below }))
    ]
  ]
]

content_reading_as : (body : List ℕ) (layout : Layout) (value : List ℕ) → AreOctets body → fits_as layout value ≡ true → ContentReading body layout value
content_reading_as body FecElement value are fit = elim (fec_reading value) [
  | told fec is ↦ fine (record { told = fec; is = is })
  | refused fault first ↦ faulty fault first
]
content_reading_as body LabelNumber value are fit = label_content body value are (eqb-true _ _ fit)
content_reading_as body PointParts value are fit = elim (point_reading value) [
  | told point is ↦ fine (record { point = point; is = is })
  | refused fault first ↦ faulty fault first
]
content_reading_as body (CountedOctets count) value are fit = fine tt
content_reading_as body FamilyAddresses value are fit = fine tt
content_reading_as body MacAddresses value are fit = fine tt
content_reading_as body FreeOctets value are fit = fine tt

pub content_reading : (body : List ℕ) (f : Field) (value : List ℕ) → AreOctets body → fits f value ≡ true → ContentReading body (layout_of f) value
content_reading body f value are fit = content_reading_as body (layout_of f) value are fit

-- what stands behind some TLVs of a message comes to
pub data TlvHere (row : Row) (body : List ℕ) (ts : List Tlv) (rest : List ℕ) : Type 0 where
  taken : (t : Tlv) (more : List ℕ) → rest ≡ spell_tlv t ++ more → IsTlv t → IsFitting row body t → MayComeAgain (listed row (type_in t.word)) (count_of (type_in t.word) ts) → TlvHere row body ts rest
  wrong : (f : Fault) → IsFirstTlvFault row body ts rest f → f.place < length rest → TlvHere row body ts rest

-- whether one more of a type may come
data Room (o : Option Field) (count : ℕ) : Type 0 where
  room : MayComeAgain o count → Room o count
  full : (field : Field) → o ≡ Some field → most field ≤ count → Room o count

room_of : (o : Option Field) (count : ℕ) → Room o count
room_of None count = room tt
room_of (Some field) count = elim (cases_lt count (most field)) [
  | inl less ↦ room less
  | inr enough ↦ full field refl enough
]

-- a TLV that the row lists stands here, and another one may come
listed_here : (row : Row) (body : List ℕ) (ts : List Tlv) (rest value more : List ℕ) (f : Field) → AreOctets body → rest
    ≡ spell_tlv (record { word = two_at 0 rest; value = value }) ++ more → IsTlv (record { word = two_at 0 rest; value = value })
    → MayComeAgain (listed row (type_in (two_at 0 rest))) (count_of (type_in (two_at 0 rest)) ts) → listed row (type_in (two_at 0 rest)) ≡ Some f → TlvHere row body ts rest
listed_here row body ts rest value more f are e is has_room is_listed =
    let t : Tlv = record { word = two_at 0 rest; value = value } in
    let size = size_of t more in
    let len = ap length e in
    elim (cases_Bool (fits f value)) [
      | inr bad ↦ wrong (record { place = 2; cause = cause.TlvValue f }) (misfit_tlv row body ts rest more t f is e is_listed has_room bad) (omega (arith, size, len))
      | inl fit ↦ elim (content_reading body f value are fit) [
        | fine content ↦ taken t more e is (subst (λ (o : Option Field). HasValue body o value) (sym is_listed) (fit, content)) has_room
        | faulty fault first ↦ wrong (fault_in f fault) (content_tlv row body ts rest more t f fault is e is_listed has_room fit first)
            (omega (arith, near_of f value fault (content_inside body f value fault first.named), size, len))
      ]
    ]

whole_here : (row : Row) (body : List ℕ) (ts : List Tlv) (rest value more : List ℕ) → AreOctets body → rest ≡ spell_tlv (record { word = two_at 0 rest; value = value }) ++ more
    → IsTlv (record { word = two_at 0 rest; value = value })
    → MayComeAgain (listed row (type_in (two_at 0 rest))) (count_of (type_in (two_at 0 rest)) ts) → (o : Option Field) → listed row (type_in (two_at 0 rest)) ≡ o → TlvHere row body ts rest
whole_here row body ts rest value more are e is has_room None is_listed =
    taken (record { word = two_at 0 rest; value = value }) more e is (subst (λ (o : Option Field). HasValue body o value) (sym is_listed) tt) has_room
whole_here row body ts rest value more are e is has_room (Some f) is_listed = listed_here row body ts rest value more f are e is has_room is_listed

long_enough : (row : Row) (body : List ℕ) (ts : List Tlv) (rest : List ℕ) (f : Field) → 4 ≤ length rest → listed row (type_in (two_at 0 rest)) ≡ Some f
    → most f ≤ count_of (type_in (two_at 0 rest)) ts → TlvHere row body ts rest
long_enough row body ts rest f long is_listed enough = wrong (record { place = 0; cause = cause.Repeated f }) (repeated_tlv row body ts rest f long is_listed enough) (omega (arith, long))

-- a TLV at a place is without fault, or something is first wrong there
pub tlv_here : (row : Row) (body : List ℕ) (ts : List Tlv) (rest : List ℕ) → AreOctets body → AreOctets rest → 0 < length rest → TlvHere row body ts rest
tlv_here row body ts rest are octets some = elim (tlv_front rest octets) [
  | short few ↦ wrong (record { place = 0; cause = cause.TlvLength }) (short_tlv row body ts rest some few) some
  | past long far ↦ elim (room_of (listed row (type_in (two_at 0 rest))) (count_of (type_in (two_at 0 rest)) ts)) [
    | full f is_listed enough ↦ long_enough row body ts rest f long is_listed enough
    | room has_room ↦ wrong (record { place = 2; cause = cause.TlvLength }) (long_tlv row body ts rest long far has_room) (omega (arith, long))
  ]
  | tlv value more e is ↦ elim (room_of (listed row (type_in (two_at 0 rest))) (count_of (type_in (two_at 0 rest)) ts)) [
    | full f is_listed enough ↦ long_enough row body ts rest f (omega (arith, size_of (record { word = two_at 0 rest; value = value }) more, ap length e)) is_listed enough
    | room has_room ↦ whole_here row body ts rest value more are e is has_room (listed row (type_in (two_at 0 rest))) refl
  ]
]

-- What the octets of a message's TLVs come to: TLVs without fault, or the first fault, which lies within them.
pub data TlvsReading (row : Row) (body : List ℕ) : Type 0 where
  faultless : (tlvs : List Tlv) → IsJoined body tlvs → IsFaultless row body tlvs → TlvsReading row body
  first_fault : (fault : Fault) → IsFirst (NamesTlvs row body) fault → fault.place < length body → TlvsReading row body

tlv_split : (body rest more : List ℕ) (ts : List Tlv) (t : Tlv) → body ≡ flat_map spell_tlv ts ++ rest → rest ≡ spell_tlv t ++ more → body ≡ flat_map spell_tlv (ts ++ t ∷ []) ++ more
tlv_split body rest more ts t split e =
    split ∙ (ap (λ (l : List ℕ). flat_map spell_tlv ts ++ l) e ∙ (sym (append_assoc (flat_map spell_tlv ts) (spell_tlv t) more)
    ∙ ap (λ (l : List ℕ). l ++ more) (ap (λ (l : List ℕ). flat_map spell_tlv ts ++ l) (sym (append-nil (spell_tlv t))) ∙ sym (flat_map-append spell_tlv ts (t ∷ [])))))

tlvs_from : (fuel : ℕ) (row : Row) (body rest : List ℕ) (ts : List Tlv) → AreOctets body → AreOctets rest → length rest ≤ fuel → body ≡ flat_map spell_tlv ts ++ rest
    → AllByRecursion IsTlv ts → IsFaultless row body ts → TlvsReading row body
tlvs_from fuel row body [] ts are octets few split items clean = faultless ts (record { spelled = split ∙ append-nil (flat_map spell_tlv ts); fit = items }) clean
tlvs_from zero row body (x ∷ rest) ts are octets few split items clean = absurd (omega arith)
tlvs_from (suc fuel) row body (x ∷ rest) ts are octets few split items clean = elim (tlv_here row body ts (x ∷ rest) are octets (omega arith)) [
  | taken t more e is fitting has_room ↦
      tlvs_from fuel row body more (ts ++ t ∷ []) are (octets_behind (spell_tlv t) more (subst AreOctets e octets)) (omega (arith, size_of t more, ap length e, few))
      (tlv_split body (x ∷ rest) more ts t split e) (items_more IsTlv ts t items is) (faultless_more row body ts t clean fitting has_room)
  | wrong fault first near ↦
      first_fault (moved (length (flat_map spell_tlv ts)) fault)
      (first_of_tlvs row body (flat_map spell_tlv ts) (x ∷ rest) ts (length (flat_map spell_tlv ts)) fault split refl (record { spelled = refl; fit = items }) clean first)
      (omega (arith, near, ap length split, length-append (flat_map spell_tlv ts) (x ∷ rest)))
]

none_kept : (o : Option Field) → KeepsTo o 0
none_kept None = tt
none_kept (Some f) = omega arith

-- the octets of a message's TLVs are TLVs without fault, or have a first fault
pub tlvs_reading : (row : Row) (body : List ℕ) → AreOctets body → TlvsReading row body
tlvs_reading row body are = tlvs_from (length body) row body body [] are are (omega arith) refl tt (record { values = tt; counts = λ kind. none_kept (listed row kind) })
