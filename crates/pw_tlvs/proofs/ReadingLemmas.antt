-- Octets of any value are read, or have a first fault: one of the two can always be told.
use Rattle.std.proofs.Common.{◌≡◌, ◌≤◌, ◌<◌, ◌+◌, ◌-◌, ◌%◌, ◌++◌, ◌⊎◌, ℕ, zero, suc, true, false, List, [], ◌∷◌, length, take, drop, length-append, length-drop, append_assoc, refl, sym, ap, ◌∙◌, subst, arith, inl, inr, Some, None}
use Rattle.std.specs.Prelude.{IsSome, slice_index, nat_le, Option, option_map}
use Rattle.std.specs.List.{flat_map}
use Rattle.std.proofs.lemmas.Bool.{cases_lt, cases_Bool}
use Rattle.std.proofs.lemmas.Bool.Decides.{eqb_tells}
use Rattle.std.proofs.lemmas.Grind.{flat_map-append}
use Rattle.std.proofs.lemmas.List.{append-nil, take-append-drop, length-take-le, drop-drop}
use Rattle.byteorder.specs.Endian.{big_number}
use Rattle.net_values.specs.declared.field.Field.TheVariants as field
use Rattle.net_values.specs.declared.mac.Mac.{Mac}
use Rattle.net_values.proofs.RowLemmas.{empty_of_length}
use Rattle.pw_tlvs.specs.declared.field_fault.FieldFault.{FieldFault}
use Rattle.pw_tlvs.specs.declared.field_fault.FieldFault.TheVariants.{Size, Value, Repeated}
use Rattle.pw_tlvs.specs.declared.registry.Registry.{Registry}
use Rattle.pw_tlvs.specs.declared.registry.Registry.TheVariants.{InterfaceParameter, SwitchingPointPart}
use Rattle.pw_tlvs.specs.declared.sub_tlv_row.SubTlvRow.{SubTlvRow}
use Rattle.pw_tlvs.specs.Faults.{fault_place, PrecedesIn, IsFirstIn}
use Rattle.pw_tlvs.specs.SubTlvs.{SubTlv, counted_in, spell, sub_tlv_row, row_fits, allows, values, IsGood, AreGood, AreSubTlvs, IsOutside, outside_fault, IsWrong, lone, outside, misfit, excess, again, IsNamed, IsFirstWrong}
use Rattle.pw_tlvs.specs.SubTlvs.{said}
use Rattle.pw_tlvs.specs.declared.fec_value.FecValue.TheVariants.{Pw, Foreign}
use Rattle.pw_tlvs.specs.declared.if_params.IfParams.{IfParams}
use Rattle.pw_tlvs.specs.Fec.{no_params, text_of, vccv_of, AreParameters, IsPwid, information_length, IsTooShort, IsInformation, IsFecValue, IsFecFault, empty, short, too_short, past_end, parameter}
use Rattle.pw_tlvs.specs.Point.{IsPoint, IsPointFault, address_of}
use Rattle.pw_tlvs.specs.Status.{IsPwStatus, IsStatusFault}
use Rattle.pw_tlvs.specs.Macs.{AreMacs, IsMacsFault}
use Rattle.pw_tlvs.proofs.FecLemmas.{parameter_first}
use Rattle.pw_tlvs.proofs.FaultLemmas.{precedes_itself, first_alone}
use Rattle.pw_tlvs.proofs.SubTlvLemmas.{first_named, good_more}
use Rattle.pw_tlvs.proofs.ToldLemmas.{good_none}
use Rattle.pw_tlvs.proofs.WrongLemmas.{lone_first, again_first, outside_first_fec, misfit_first, excess_first}

-- What octets come to: a value that they are, or the first of their faults.
pub data Reading {A : Type 0} (Is : A → Type 0) (Named : FieldFault → Type 0) : Type 0 where
  told : (value : A) → Is value → Reading Is Named
  refused : (fault : FieldFault) → IsFirstIn Named fault → Reading Is Named

-- what a sub-TLV at a place comes to, behind these
pub data HeadReading (registry : Registry) (before : List SubTlv) (rest : List ℕ) (at : ℕ) : Type 0 where
  good : (s : SubTlv) (more : List ℕ) → rest ≡ spell registry s ++ more → IsGood registry s
      → (IsSome (sub_tlv_row registry s.kind) → values s.kind before ≡ []) → HeadReading registry before rest at
  wrong : (fault : FieldFault) → IsFirstWrong registry before rest at fault → HeadReading registry before rest at

-- whether a length counts too little or reaches past the end, or else the value
pub data Extent (registry : Registry) (rest : List ℕ) : Type 0 where
  out : IsOutside registry rest → Extent registry rest
  inside : (value more : List ℕ) → rest ≡ spell registry (record { kind = slice_index rest 0; value = value }) ++ more
      → (IsOutside registry rest → ⊥) → Extent registry rest

near_enough : (registry : Registry) (kind size : ℕ) (tail : List ℕ) → size ≤ counted_in registry + length tail → counted_in registry ≤ size → IsOutside registry (kind ∷ size ∷ tail) → ⊥
near_enough registry kind size tail near enough (inl low) = omega arith
near_enough registry kind size tail near enough (inr high) = omega arith

extent_of : (registry : Registry) (kind size : ℕ) (tail : List ℕ) → Extent registry (kind ∷ size ∷ tail)
extent_of registry kind size tail = elim (cases_lt size (counted_in registry)) [
  | inl low ↦ out (inl low)
  | inr enough ↦ elim (cases_lt (counted_in registry + length tail) size) [
    | inl high ↦ out (inr (omega (arith, high)))
    | inr near ↦
        let count : ℕ = size - counted_in registry in
        let len : length (take count tail) ≡ count = length-take-le count tail (omega (arith, near, enough)) in
        let same : size ≡ counted_in registry + length (take count tail) = omega (arith, len, enough) in
        let parts : tail ≡ take count tail ++ drop count tail = sym (take-append-drop count tail) in
        inside (take count tail) (drop count tail) (λ i. kind ∷ same i ∷ parts i) (near_enough registry kind size tail near enough)
  ]
]

-- the length of a switching point's part that reaches past the end
outside_first_part : (before : List SubTlv) (rest : List ℕ) (at : ℕ) → 2 ≤ length rest → IsOutside SwitchingPointPart rest
    → IsFirstWrong SwitchingPointPart before rest at (outside_fault SwitchingPointPart at)
outside_first_part before rest at two far = record {
  wrong = outside two far refl;
  first = earliest;
  within = λ s more e. omega arith;
}
  where
    earliest : (other : FieldFault) → IsWrong SwitchingPointPart before rest at other → PrecedesIn (outside_fault SwitchingPointPart at) other
    earliest other (lone one e) = absurd (omega arith)
    earliest other (outside two' far' e) = subst (λ (x : FieldFault). PrecedesIn (outside_fault SwitchingPointPart at) x) (sym e) (precedes_itself (outside_fault SwitchingPointPart at))
    earliest other (misfit row two' known bad e) = let p = ap fault_place e in inl (omega arith)
    earliest other (excess row s more spelled known fit bad e) = let p = ap fault_place e in inl (omega arith)
    earliest other (again row some known stood e) = subst (λ (x : FieldFault). PrecedesIn (outside_fault SwitchingPointPart at) x) (sym e) (inr (refl, omega arith))

-- a value of an unknown type is not looked at
unknown_allowed : (registry : Registry) (kind : ℕ) (value : List ℕ) → sub_tlv_row registry kind ≡ None → allows registry kind value ≡ true
unknown_allowed SwitchingPointPart kind value none = refl
unknown_allowed InterfaceParameter kind value none = elim (eqb_tells kind 6) [
  | inl own ↦
      let six : sub_tlv_row InterfaceParameter 6 ≡ None = subst (λ (k : ℕ). sub_tlv_row InterfaceParameter k ≡ None) own.1 none in
      absurd (cc (six))
  | inr other ↦ let e = other.0 in rw e refl
]

unknown_good : (registry : Registry) (kind : ℕ) (value : List ℕ) → sub_tlv_row registry kind ≡ None → IsGood registry (record { kind = kind; value = value })
unknown_good registry kind value none = record { fit = rw none tt; allowed = unknown_allowed registry kind value none }

none_known : (registry : Registry) (kind : ℕ) → sub_tlv_row registry kind ≡ None → IsSome (sub_tlv_row registry kind) → ⊥
none_known registry kind none known = let k = subst (λ (o : Option SubTlvRow). IsSome o) none known in cc (k)

-- the octets are outside
outside_head : (registry : Registry) (before : List SubTlv) (rest : List ℕ) (at : ℕ) → 2 ≤ length rest → IsOutside registry rest
    → (o : Option SubTlvRow) → sub_tlv_row registry (slice_index rest 0) ≡ o → (stood : List (List ℕ)) → values (slice_index rest 0) before ≡ stood → HeadReading registry before rest at
outside_head SwitchingPointPart before rest at two far o known stood e = wrong (outside_fault SwitchingPointPart at) (outside_first_part before rest at two far)
outside_head InterfaceParameter before rest at two far None known stood e =
    wrong (outside_fault InterfaceParameter at) (outside_first_fec before rest at two far (λ some. absurd (none_known InterfaceParameter (slice_index rest 0) known some)))
outside_head InterfaceParameter before rest at two far (Some row) known [] e =
    wrong (outside_fault InterfaceParameter at) (outside_first_fec before rest at two far (λ some. e))
outside_head InterfaceParameter before rest at two far (Some row) known (value ∷ values) e =
    wrong (Repeated at row.field) (again_first InterfaceParameter before rest at row two (inr refl) known (let len = ap length e in omega arith))

-- a sub-TLV of a known type of which none stood before
fresh_head : (registry : Registry) (before : List SubTlv) (rest : List ℕ) (at : ℕ) (row : SubTlvRow) (value more : List ℕ) → 2 ≤ length rest
    → rest ≡ spell registry (record { kind = slice_index rest 0; value = value }) ++ more → (IsOutside registry rest → ⊥)
    → sub_tlv_row registry (slice_index rest 0) ≡ Some row → values (slice_index rest 0) before ≡ [] → HeadReading registry before rest at
fresh_head registry before rest at row value more two e near known none =
    let size : slice_index rest 1 ≡ counted_in registry + length value = ap (λ (l : List ℕ). slice_index l 1) e in
    elim (cases_Bool (row_fits row (counted_in registry + length value))) [
      | inr bad ↦ wrong (Value (at + 1) row.field) (misfit_first registry before rest at row two near known (subst (λ (n : ℕ). row_fits row n ≡ false) (sym size) bad) (λ some. none))
      | inl fit ↦ elim (cases_Bool (allows registry (slice_index rest 0) value)) [
        | inr bad ↦ wrong (Value (at + 2) row.field) (excess_first registry before rest at row (record { kind = slice_index rest 0; value = value }) more e known fit bad (λ some. none))
        | inl fine ↦ good (record { kind = slice_index rest 0; value = value }) more e (record { fit = rw known fit; allowed = fine }) (λ some. none)
      ]
    ]

whole_head : (registry : Registry) (before : List SubTlv) (rest : List ℕ) (at : ℕ) (value more : List ℕ) → 2 ≤ length rest
    → rest ≡ spell registry (record { kind = slice_index rest 0; value = value }) ++ more → (IsOutside registry rest → ⊥)
    → (o : Option SubTlvRow) → sub_tlv_row registry (slice_index rest 0) ≡ o → (stood : List (List ℕ)) → values (slice_index rest 0) before ≡ stood → HeadReading registry before rest at
whole_head registry before rest at value more two e near None known stood has =
    good (record { kind = slice_index rest 0; value = value }) more e (unknown_good registry (slice_index rest 0) value known) (λ some. absurd (none_known registry (slice_index rest 0) known some))
whole_head registry before rest at value more two e near (Some row) known [] has = fresh_head registry before rest at row value more two e near known has
whole_head registry before rest at value more two e near (Some row) known (x ∷ stood) has =
    wrong (Repeated at row.field) (again_first registry before rest at row two (inl near) known (let len = ap length has in omega arith))

-- a sub-TLV at a place is good, or something is first wrong there
pub head_of : (registry : Registry) (before : List SubTlv) (rest : List ℕ) (at : ℕ) → 1 ≤ length rest → HeadReading registry before rest at
head_of registry before [] at some = absurd (omega arith)
head_of registry before (kind ∷ []) at some = wrong _ (lone_first registry before (kind ∷ []) at refl)
head_of registry before (kind ∷ size ∷ tail) at some = elim (extent_of registry kind size tail) [
  | out far ↦ outside_head registry before (kind ∷ size ∷ tail) at (omega arith) far (sub_tlv_row registry kind) refl (values kind before) refl
  | inside value more e near ↦ whole_head registry before (kind ∷ size ∷ tail) at value more (omega arith) e near (sub_tlv_row registry kind) refl (values kind before) refl
]

step_split : (registry : Registry) (octets rest more : List ℕ) (before : List SubTlv) (s : SubTlv) → octets ≡ flat_map (spell registry) before ++ rest → rest ≡ spell registry s ++ more
    → octets ≡ flat_map (spell registry) (before ++ s ∷ []) ++ more
step_split registry octets rest more before s split e =
    split ∙ (ap (λ (l : List ℕ). flat_map (spell registry) before ++ l) e ∙ (sym (append_assoc (flat_map (spell registry) before) (spell registry s) more)
    ∙ ap (λ (l : List ℕ). l ++ more) (ap (λ (l : List ℕ). flat_map (spell registry) before ++ l) (sym (append-nil (spell registry s))) ∙ sym (flat_map-append (spell registry) before (s ∷ [])))))

-- octets behind good sub-TLVs are more of them, or have a first fault; `fuel` octets at most are left
subs_from : (fuel : ℕ) (registry : Registry) (begin : ℕ) (octets rest : List ℕ) (before : List SubTlv) → length rest ≤ fuel → octets ≡ flat_map (spell registry) before ++ rest
    → AreGood registry before
    → Reading (AreSubTlvs registry octets) (IsNamed registry begin octets)
subs_from fuel registry begin octets [] before few split fine = told before (record { joined = split ∙ append-nil (flat_map (spell registry) before); good = fine })
subs_from zero registry begin octets (x ∷ rest) before few split fine = absurd (omega arith)
subs_from (suc fuel) registry begin octets (x ∷ rest) before few split fine =
    elim (head_of registry before (x ∷ rest) (begin + length (flat_map (spell registry) before)) (omega arith)) [
      | good s more e one fresh ↦
          let len : length (x ∷ rest) ≡ suc (suc (length (s.value ++ more))) = ap length e in
          let parts = length-append s.value more in
          subs_from fuel registry begin octets more (before ++ s ∷ []) (omega (arith, len, parts, few)) (step_split registry octets (x ∷ rest) more before s split e)
          (good_more registry before s fine one fresh)
      | wrong fault first ↦ refused fault (first_named registry begin octets before (x ∷ rest) fault split fine first)
    ]

-- octets are sub-TLVs, or have a first fault
pub subs_reading : (registry : Registry) (begin : ℕ) (octets : List ℕ) → Reading (AreSubTlvs registry octets) (IsNamed registry begin octets)
subs_reading registry begin octets = subs_from (length octets) registry begin octets octets [] (omega arith) refl (good_none registry)

-- octets are a switching point, or have a first fault
pub point_reading : (octets : List ℕ) → Reading (IsPoint octets) (IsPointFault octets)
point_reading octets = elim (subs_reading SwitchingPointPart 0 octets) [
  | told subs are ↦ told (record { pw_id = option_map (λ value. big_number 4 value) (said 0x01 subs); local = option_map address_of (said 0x03 subs); remote = option_map address_of (said 0x04 subs) })
      (record { subs = subs; are = are; pw_id = refl; local = refl; remote = refl })
  | refused fault first ↦ refused fault first
]

-- octets are interface parameters, or have a first fault
pub parameters_reading : (octets : List ℕ) → Reading (AreParameters octets) (IsNamed InterfaceParameter 12 octets)
parameters_reading octets = elim (subs_reading InterfaceParameter 12 octets) [
  | told subs are ↦ told (record {
    mtu = option_map (λ value. big_number 2 value) (said 0x01 subs);
    description = text_of (said 0x03 subs);
    vlan = option_map (λ value. big_number 2 value) (said 0x06 subs);
    vccv = option_map vccv_of (said 0x0C subs);
  })
      (record { subs = subs; are = are; mtu = refl; description = refl; vlan = refl; vccv = refl })
  | refused fault first ↦ refused fault first
]

-- octets are a status, or have one fault
pub status_reading : (octets : List ℕ) → Reading (IsPwStatus octets) (IsStatusFault octets)
status_reading octets = elim (eqb_tells (length octets) 4) [
  | inl four ↦ told (record { 0 = big_number 4 octets }) (record { size = four.1; bits = refl })
  | inr other ↦ refused Size (first_alone Size (record { other = other.1; is = refl }) (λ g named. named.is))
]

-- octets in sixes are addresses
pub record AreSixes (octets : List ℕ) : Type 0 where
  pub list : List Mac
  pub are : AreMacs octets list

sixes_of : (octets : List ℕ) → length octets % 6 ≡ 0 → AreSixes octets
sixes_of [] sixes = record { list = []; are = record { joined = refl; whole = tt } }
sixes_of (a ∷ []) sixes = absurd (omega arith)
sixes_of (a ∷ b ∷ []) sixes = absurd (omega arith)
sixes_of (a ∷ b ∷ c ∷ []) sixes = absurd (omega arith)
sixes_of (a ∷ b ∷ c ∷ d ∷ []) sixes = absurd (omega arith)
sixes_of (a ∷ b ∷ c ∷ d ∷ e ∷ []) sixes = absurd (omega arith)
sixes_of (a ∷ b ∷ c ∷ d ∷ e ∷ f ∷ octets) sixes =
    let more = sixes_of octets (omega arith) in
    record {
      list = record { 0 = a ∷ b ∷ c ∷ d ∷ e ∷ f ∷ [] } ∷ more.list;
      are = record {
        joined = ap (λ (l : List ℕ). a ∷ b ∷ c ∷ d ∷ e ∷ f ∷ l) more.are.joined;
        whole = (refl, more.are.whole);
      };
    }

-- octets are addresses, or have one fault
pub macs_reading : (octets : List ℕ) → Reading (AreMacs octets) (IsMacsFault octets)
macs_reading octets = elim (eqb_tells (length octets % 6) 0) [
  | inl sixes ↦ (let more = sixes_of octets sixes.1 in told more.list more.are)
  | inr other ↦ refused Size (first_alone Size (record { other = other.1; is = refl }) (λ g named. named.is))
]

-- no octets
empty_fec : (octets : List ℕ) → length octets ≡ 0 → (g : FieldFault) → IsFecFault octets g → g ≡ Size
empty_fec octets none g (empty none' e) = e
empty_fec octets none g (short some first few e) = e
empty_fec octets none g (too_short begun few e) = let h = begun.header in absurd (omega arith)
empty_fec octets none g (past_end begun far e) = let h = begun.header in absurd (omega arith)
empty_fec octets none g (parameter begun long some whole named) = let h = begun.header in absurd (omega arith)

-- fewer than eight octets
short_fec : (octets : List ℕ) → length octets < 8 → (g : FieldFault) → IsFecFault octets g → g ≡ Size
short_fec octets few g (empty none e) = e
short_fec octets few g (short some first few' e) = e
short_fec octets few g (too_short begun low e) = let h = begun.header in absurd (omega arith)
short_fec octets few g (past_end begun far e) = let h = begun.header in absurd (omega arith)
short_fec octets few g (parameter begun long some whole named) = let h = begun.header in absurd (omega arith)

-- an information length that does not fit
length_fec : (octets : List ℕ) → 8 ≤ length octets → (IsTooShort (information_length octets) ⊎ (length octets < 8 + information_length octets)) → (g : FieldFault) → IsFecFault octets g
    → g ≡ Value 3 field.InfoLength
length_fec octets eight bad g (empty none e) = absurd (omega arith)
length_fec octets eight bad g (short some first few e) = absurd (omega arith)
length_fec octets eight bad g (too_short begun low e) = e
length_fec octets eight bad g (past_end begun far e) = e
length_fec octets eight (inl low) g (parameter begun long some whole named) = absurd (long low)
length_fec octets eight (inr far) g (parameter begun long some whole named) = absurd (omega arith)

-- an element with this information
element_with : (octets : List ℕ) (pw_id : Option ℕ) (params : IfParams) → IsPwid octets → length octets ≡ 8 + information_length octets → IsInformation (drop 8 octets) pw_id params
    → Reading (IsFecValue octets) (IsFecFault octets)
element_with octets pw_id params begun whole information =
    told (Pw (record { c = nat_le 0x8000 (big_number 2 (drop 1 octets)); kind = big_number 2 (drop 1 octets) % 0x8000; group = big_number 4 (drop 4 octets); pw_id = pw_id; params = params }))
    (record { begun = begun; c = refl; kind = refl; whole = whole; group = refl; information = information })

-- an element whose information length counts all that follows
element_reading : (octets : List ℕ) → IsPwid octets → (IsTooShort (information_length octets) → ⊥) → length octets ≡ 8 + information_length octets → Reading (IsFecValue octets) (IsFecFault octets)
element_reading octets begun long whole = elim (cases_lt (information_length octets) 1) [
  | inl none ↦ element_with octets None no_params begun whole (empty_of_length (drop 8 octets) (omega (arith, length-drop 8 octets, whole, none)), refl)
  | inr some ↦ elim (cases_lt (information_length octets) 4) [
    | inl few ↦ absurd (long (some, omega (arith, few)))
    | inr four ↦ elim (parameters_reading (drop 12 octets)) [
      | told params are ↦ element_with octets (Some (big_number 4 (drop 8 octets))) params begun whole
          (omega (arith, length-drop 8 octets, whole, four), refl, subst (λ (l : List ℕ). AreParameters l params) (sym (drop-drop 4 8 octets)) are)
      | refused fault first ↦ refused fault (parameter_first octets fault begun long some whole first)
    ]
  ]
]

-- a PWid element begins the octets
pwid_reading : (octets : List ℕ) → IsPwid octets → Reading (IsFecValue octets) (IsFecFault octets)
pwid_reading octets begun = elim (cases_lt (length octets) (8 + information_length octets)) [
  | inl far ↦ refused (Value 3 field.InfoLength) (first_alone (Value 3 field.InfoLength) (past_end begun far refl) (length_fec octets begun.header (inr far)))
  | inr enough ↦ elim (cases_lt (information_length octets) 4) [
    | inl few ↦ elim (cases_lt 0 (information_length octets)) [
      | inl some ↦ refused (Value 3 field.InfoLength)
          (first_alone (Value 3 field.InfoLength) (too_short begun (omega (arith, some), omega (arith, few)) refl) (length_fec octets begun.header (inl (omega (arith, some), omega (arith, few)))))
      | inr none ↦ long_reading octets begun (λ low. omega (arith, low.0, none)) enough
    ]
    | inr four ↦ long_reading octets begun (λ low. omega (arith, low.1, four)) enough
  ]
]
  where
    long_reading : (octets : List ℕ) → IsPwid octets → (IsTooShort (information_length octets) → ⊥) → 8 + information_length octets ≤ length octets → Reading (IsFecValue octets) (IsFecFault octets)
    long_reading octets begun long enough = elim (cases_lt (8 + information_length octets) (length octets)) [
      | inl more ↦ told (Foreign 0x80) (inr (record { begun = begun; is = refl; long = long; more = more }))
      | inr all ↦ element_reading octets begun long (omega (arith, enough, all))
    ]

-- octets are the value of a FEC TLV, or have a first fault
pub fec_reading : (octets : List ℕ) → Reading (IsFecValue octets) (IsFecFault octets)
fec_reading octets = elim (cases_lt (length octets) 1) [
  | inl none ↦ refused Size (first_alone Size (empty (omega (arith, none)) refl) (empty_fec octets (omega (arith, none))))
  | inr some ↦ elim (eqb_tells (slice_index octets 0) 0x80) [
    | inr other ↦ told (Foreign (slice_index octets 0)) (inl (record { some = some; is = refl; other = other.1 }))
    | inl own ↦ elim (cases_lt (length octets) 8) [
      | inl few ↦ refused Size (first_alone Size (short some own.1 few refl) (short_fec octets few))
      | inr eight ↦ pwid_reading octets (record { element = own.1; header = eight })
    ]
  ]
]
