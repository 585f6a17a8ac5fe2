-- What is first wrong at a place, test by test.
use Rattle.std.proofs.Common.{◌≡◌, ◌≤◌, ◌<◌, ◌+◌, ◌++◌, ◌⊎◌, ℕ, suc, Bool, true, false, List, [], length, refl, sym, ap, ◌∙◌, subst, arith, length-append, inl, inr, Some, None}
use Rattle.std.specs.Prelude.{IsSome, slice_index, nat_le, ◌==◌, ◌||◌, not, if◌then◌else◌}
use Rattle.std.proofs.lemmas.Bool.Decides.{eqb_tells, nat_tests}
use Rattle.std.specs.List.{flat_map}
use Rattle.byteorder.specs.Endian.{big_number}
use Rattle.net_values.specs.declared.field.Field.TheVariants as field
use Rattle.pw_tlvs.specs.declared.field_fault.FieldFault.{FieldFault}
use Rattle.pw_tlvs.specs.declared.field_fault.FieldFault.TheVariants.{Value, Repeated}
use Rattle.pw_tlvs.specs.declared.registry.Registry.{Registry}
use Rattle.pw_tlvs.specs.declared.registry.Registry.TheVariants.{InterfaceParameter, SwitchingPointPart}
use Rattle.pw_tlvs.specs.declared.sub_tlv_row.SubTlvRow.{SubTlvRow}
use Rattle.pw_tlvs.specs.Faults.{field_rank, fault_place, rank_of, PrecedesIn}
use Rattle.pw_tlvs.specs.SubTlvs.{SubTlv, counted_in, spell, sub_tlv_row, parameter_row, row_fits, allows, values, IsOutside, lone_fault, outside_fault, IsWrong, lone, outside, misfit, excess, again, IsNamed, IsFirstWrong, Stood}
use Rattle.pw_tlvs.proofs.FaultLemmas.{precedes_itself}
use Rattle.pw_tlvs.proofs.SubTlvLemmas.{same_spelled, some_of}

-- the same fault is not before
precedes_same : (f g : FieldFault) → g ≡ f → PrecedesIn f g
precedes_same f g e = subst (λ (x : FieldFault). PrecedesIn f x) (sym e) (precedes_itself f)

-- a fault at the same octet that is told later
precedes_ranked : (f g registry : FieldFault) → g ≡ registry → fault_place f ≡ fault_place registry → rank_of f ≤ rank_of registry → PrecedesIn f g
precedes_ranked f g registry e place rank = subst (λ (x : FieldFault). PrecedesIn f x) (sym e) (inr (place, rank))

-- every sub-TLV has two octets and its value's
two_at_least : (registry : Registry) (s : SubTlv) (more rest : List ℕ) → rest ≡ spell registry s ++ more → 2 ≤ length rest
two_at_least registry s more rest e = let len = ap length e in omega arith

-- the length octet of a spelled sub-TLV
length_octet : (registry : Registry) (s : SubTlv) (more rest : List ℕ) → rest ≡ spell registry s ++ more → slice_index rest 1 ≡ counted_in registry + length s.value
length_octet registry s more rest e = ap (λ (l : List ℕ). slice_index l 1) e

type_octet : (registry : Registry) (s : SubTlv) (more rest : List ℕ) → rest ≡ spell registry s ++ more → slice_index rest 0 ≡ s.kind
type_octet registry s more rest e = ap (λ (l : List ℕ). slice_index l 0) e

-- what is spelled is not outside
spelled_inside : (registry : Registry) (s : SubTlv) (more rest : List ℕ) → rest ≡ spell registry s ++ more → IsOutside registry rest → ⊥
spelled_inside registry s more rest e (inl low) = let second = length_octet registry s more rest e in omega arith
spelled_inside registry s more rest e (inr high) =
    let second = length_octet registry s more rest e in
    let len : length rest ≡ suc (suc (length (s.value ++ more))) = ap length e in
    let parts = length-append s.value more in omega arith

-- the rows of parameters have fields behind the one of parameters as a whole
parameter_rank : (a b c d : Bool) (row : SubTlvRow) → (if a then Some (record { field = field.Mtu; least = 4; most = 4 }) else if b then Some
    (record { field = field.Description; least = 2; most = 82 }) else if c then Some (record { field = field.Vlan; least = 4; most = 4 }) else if d then Some
    (record { field = field.Vccv; least = 4; most = 4 }) else None) ≡ Some row → 12 ≤ field_rank row.field
parameter_rank true b c d row e = let same : record { field = field.Mtu; least = 4; most = 4 } ≡ row = cc (e) in let rank = ap (λ (r : SubTlvRow). field_rank r.field) same in omega arith
parameter_rank false true c d row e = let same : record { field = field.Description; least = 2; most = 82 } ≡ row = cc (e) in let rank = ap (λ (r : SubTlvRow). field_rank r.field) same in omega arith
parameter_rank false false true d row e = let same : record { field = field.Vlan; least = 4; most = 4 } ≡ row = cc (e) in let rank = ap (λ (r : SubTlvRow). field_rank r.field) same in omega arith
parameter_rank false false false true row e = let same : record { field = field.Vccv; least = 4; most = 4 } ≡ row = cc (e) in let rank = ap (λ (r : SubTlvRow). field_rank r.field) same in omega arith
parameter_rank false false false false row e = absurd (cc (e))

row_rank : (k : ℕ) (row : SubTlvRow) → parameter_row k ≡ Some row → field_rank field.Parameter ≤ field_rank row.field
row_rank k row e = parameter_rank (k == 0x01) (k == 0x03) (k == 0x06) (k == 0x0C) row e

-- what is allowed for a known type; what is not is a VLAN ID of two octets
excess_length : (registry : Registry) (row : SubTlvRow) (s : SubTlv) → sub_tlv_row registry s.kind ≡ Some row → row_fits row (counted_in registry + length s.value) ≡ true
    → allows registry s.kind s.value ≡ false → 1 ≤ length s.value
excess_length SwitchingPointPart row s known fit bad = absurd (cc (bad))
excess_length InterfaceParameter row s known fit bad = elim (eqb_tells s.kind 6) [
  | inl own ↦
      let known' : sub_tlv_row InterfaceParameter 6 ≡ Some row = subst (λ (k : ℕ). sub_tlv_row InterfaceParameter k ≡ Some row) own.1 known in
      let same : record { field = field.Vlan; least = 4; most = 4 } ≡ row = cc (known') in
      let fit' : row_fits (record { field = field.Vlan; least = 4; most = 4 }) (2 + length s.value) ≡ true = subst (λ (r : SubTlvRow). row_fits r (2 + length s.value) ≡ true) (sym same) fit in
      grind (arith, nat_tests, fit')
  | inr other ↦
      let bad' : (not false || nat_le (big_number 2 s.value) 4095) ≡ false = subst (λ (b : Bool). (not b || nat_le (big_number 2 s.value) 4095) ≡ false) other.0 bad in
      absurd (cc (bad'))
]

-- one last octet alone
pub lone_first : (registry : Registry) (before : List SubTlv) (rest : List ℕ) (at : ℕ) → length rest ≡ 1 → IsFirstWrong registry before rest at (lone_fault registry at)
lone_first registry before rest at one = record {
  wrong = lone one refl;
  first = earliest;
  within = λ s more e. let two = two_at_least registry s more rest e in absurd (omega arith);
}
  where
    earliest : (other : FieldFault) → IsWrong registry before rest at other → PrecedesIn (lone_fault registry at) other
    earliest other (lone one' e) = precedes_same (lone_fault registry at) other e
    earliest other (outside two far e) = absurd (omega arith)
    earliest other (misfit row two known bad e) = absurd (omega arith)
    earliest other (excess row s more spelled known fit bad e) = let two = two_at_least registry s more rest spelled in absurd (omega arith)
    earliest other (again row some known stood e) = elim registry as (λ g. PrecedesIn (lone_fault g at) other) [
      | InterfaceParameter ↦ precedes_ranked (lone_fault InterfaceParameter at) other (Repeated at row.field) e refl (omega arith)
      | SwitchingPointPart ↦ precedes_ranked (lone_fault SwitchingPointPart at) other (Repeated at row.field) e refl (omega arith)
    ]

-- what is known, whole of its length octet and stood before: other faults of the place come later
pub again_first : (registry : Registry) (before : List SubTlv) (rest : List ℕ) (at : ℕ) (row : SubTlvRow) → 2 ≤ length rest
    → ((IsOutside registry rest → ⊥) ⊎ (registry ≡ InterfaceParameter)) → sub_tlv_row registry (slice_index rest 0) ≡ Some row
    → 1 ≤ length (values (slice_index rest 0) before) → IsFirstWrong registry before rest at (Repeated at row.field)
again_first registry before rest at row two inside known stood = record {
  wrong = again row (omega arith) known stood refl;
  first = earliest;
  within = λ s more e. omega arith;
}
  where
    outside_later : (g : Registry) (other : FieldFault) → ((IsOutside g rest → ⊥) ⊎ (g ≡ InterfaceParameter)) → IsOutside g rest → other ≡ outside_fault g at → PrecedesIn (Repeated at row.field) other
    outside_later InterfaceParameter other fine far e = let p = ap fault_place e in inl (omega arith)
    outside_later SwitchingPointPart other (inl near) far e = absurd (near far)
    outside_later SwitchingPointPart other (inr is) far e = absurd (cc (is))

    earliest : (other : FieldFault) → IsWrong registry before rest at other → PrecedesIn (Repeated at row.field) other
    earliest other (lone one e) = absurd (omega arith)
    earliest other (outside two' far e) = outside_later registry other inside far e
    earliest other (misfit row' two' known' bad e) = let p = ap fault_place e in inl (omega arith)
    earliest other (excess row' s more spelled known' fit bad e) = let p = ap fault_place e in inl (omega arith)
    earliest other (again row' some known' stood' e) =
        let same : row' ≡ row = cc (known, known') in
        precedes_same (Repeated at row.field) other (e ∙ ap (λ (r : SubTlvRow). Repeated at r.field) same)

none_before : (before : List SubTlv) (k : ℕ) → values k before ≡ [] → 1 ≤ length (values k before) → ⊥
none_before before k none some = let len = ap length none in omega arith

-- a parameter's length that counts too little or reaches past the end
pub outside_first_fec : (before : List SubTlv) (rest : List ℕ) (at : ℕ) → 2 ≤ length rest → IsOutside InterfaceParameter rest
    → (IsSome (sub_tlv_row InterfaceParameter (slice_index rest 0)) → values (slice_index rest 0) before ≡ []) → IsFirstWrong InterfaceParameter before rest at (outside_fault InterfaceParameter at)
outside_first_fec before rest at two far fresh = record {
  wrong = outside two far refl;
  first = earliest;
  within = λ s more e. absurd (spelled_inside InterfaceParameter s more rest e far);
}
  where
    earliest : (other : FieldFault) → IsWrong InterfaceParameter before rest at other → PrecedesIn (outside_fault InterfaceParameter at) other
    earliest other (lone one e) = absurd (omega arith)
    earliest other (outside two' far' e) = precedes_same (outside_fault InterfaceParameter at) other e
    earliest other (misfit row two' known bad e) =
        let rank = row_rank (slice_index rest 0) row known in
        precedes_ranked (outside_fault InterfaceParameter at) other (Value (at + 1) row.field) e refl (omega arith)
    earliest other (excess row s more spelled known fit bad e) = absurd (spelled_inside InterfaceParameter s more rest spelled far)
    earliest other (again row some known stood e) = absurd (none_before before (slice_index rest 0) (fresh (some_of InterfaceParameter (slice_index rest 0) row known)) stood)

-- a known type of another length
pub misfit_first : (registry : Registry) (before : List SubTlv) (rest : List ℕ) (at : ℕ) (row : SubTlvRow) → 2 ≤ length rest → (IsOutside registry rest → ⊥)
    → sub_tlv_row registry (slice_index rest 0) ≡ Some row
    → row_fits row (slice_index rest 1) ≡ false → (IsSome (sub_tlv_row registry (slice_index rest 0)) → values (slice_index rest 0) before ≡ [])
    → IsFirstWrong registry before rest at (Value (at + 1) row.field)
misfit_first registry before rest at row two inside known bad fresh = record {
  wrong = misfit row two known bad refl;
  first = earliest;
  within = λ s more e. omega arith;
}
  where
    earliest : (other : FieldFault) → IsWrong registry before rest at other → PrecedesIn (Value (at + 1) row.field) other
    earliest other (lone one e) = absurd (omega arith)
    earliest other (outside two' far e) = absurd (inside far)
    earliest other (misfit row' two' known' bad' e) =
        let same : row' ≡ row = cc (known, known') in
        precedes_same (Value (at + 1) row.field) other (e ∙ ap (λ (r : SubTlvRow). Value (at + 1) r.field) same)
    earliest other (excess row' s more spelled known' fit bad' e) = let p = ap fault_place e in inl (omega arith)
    earliest other (again row' some known' stood e) = absurd (none_before before (slice_index rest 0) (fresh (some_of registry (slice_index rest 0) row known)) stood)

-- a value that is not allowed
pub excess_first : (registry : Registry) (before : List SubTlv) (rest : List ℕ) (at : ℕ) (row : SubTlvRow) (s : SubTlv) (more : List ℕ) → rest ≡ spell registry s ++ more
    → sub_tlv_row registry s.kind ≡ Some row
    → row_fits row (counted_in registry + length s.value) ≡ true → allows registry s.kind s.value ≡ false → (IsSome (sub_tlv_row registry s.kind) → values s.kind before ≡ [])
    → IsFirstWrong registry before rest at (Value (at + 2) row.field)
excess_first registry before rest at row s more spelled known fit bad fresh = record {
  wrong = excess row s more spelled known fit bad refl;
  first = earliest;
  within = λ t others e.
      let (same, _) = same_spelled registry s t more others (sym spelled ∙ e) in
      let some = excess_length registry row s known fit bad in
      let len = ap (λ (x : SubTlv). length x.value) same in omega arith;
}
  where
    earliest : (other : FieldFault) → IsWrong registry before rest at other → PrecedesIn (Value (at + 2) row.field) other
    earliest other (lone one e) = let two = two_at_least registry s more rest spelled in absurd (omega arith)
    earliest other (outside two' far e) = absurd (spelled_inside registry s more rest spelled far)
    earliest other (misfit row' two' known' bad' e) =
        let first = type_octet registry s more rest spelled in
        let second = length_octet registry s more rest spelled in
        let known'' : sub_tlv_row registry s.kind ≡ Some row' = subst (λ (k : ℕ). sub_tlv_row registry k ≡ Some row') first known' in
        let bad'' : row_fits row' (counted_in registry + length s.value) ≡ false = subst (λ (k : ℕ). row_fits row' k ≡ false) second bad' in
        let same : row' ≡ row = cc (known, known'') in
        let fit' : row_fits row' (counted_in registry + length s.value) ≡ true = subst (λ (r : SubTlvRow). row_fits r (counted_in registry + length s.value) ≡ true) (sym same) fit in
        absurd (cc (fit', bad''))
    earliest other (excess row' s' more' spelled' known' fit' bad' e) =
        let (alike, _) = same_spelled registry s' s more' more (sym spelled' ∙ spelled) in
        let known'' : sub_tlv_row registry s.kind ≡ Some row' = subst (λ (x : SubTlv). sub_tlv_row registry x.kind ≡ Some row') alike known' in
        let same : row' ≡ row = cc (known, known'') in
        precedes_same (Value (at + 2) row.field) other (e ∙ ap (λ (r : SubTlvRow). Value (at + 2) r.field) same)
    earliest other (again row' some known' stood e) =
        let first = type_octet registry s more rest spelled in
        absurd (none_before before s.kind (fresh (some_of registry s.kind row known)) (subst (λ (k : ℕ). 1 ≤ length (values k before)) first stood))

stood_yes : (registry : Registry) (before : List SubTlv) (k : ℕ) (stood : Bool) → stood ≡ true → Stood registry before k stood → 1 ≤ length (values k before)
stood_yes registry before k stood is fact = subst (λ (b : Bool). Stood registry before k b) is fact

pub stood_no : (registry : Registry) (before : List SubTlv) (k : ℕ) (stood : Bool) → stood ≡ false → Stood registry before k stood → IsSome (sub_tlv_row registry k) → values k before ≡ []
stood_no registry before k stood is fact = subst (λ (b : Bool). Stood registry before k b) is fact

-- the exit of a known type that stood before
pub again_exit : (registry : Registry) (before : List SubTlv) (rest : List ℕ) (at : ℕ) (row : SubTlvRow) (stood far : Bool) → 2 ≤ length rest → sub_tlv_row registry (slice_index rest 0) ≡ Some row
    → (far ≡ false → IsOutside registry rest → ⊥) → (registry ≡ SwitchingPointPart → far ≡ false) → stood ≡ true → Stood registry before (slice_index rest 0) stood
    → IsFirstWrong registry before rest at (Repeated at row.field)
again_exit InterfaceParameter before rest at row stood far two known near part is fact =
    again_first InterfaceParameter before rest at row two (inr refl) known (stood_yes InterfaceParameter before (slice_index rest 0) stood is fact)
again_exit SwitchingPointPart before rest at row stood far two known near part is fact =
    again_first SwitchingPointPart before rest at row two (inl (near (part refl))) known (stood_yes SwitchingPointPart before (slice_index rest 0) stood is fact)

-- the exit of a known type whose length counts too little or too much
pub outside_exit : (registry : Registry) (before : List SubTlv) (rest : List ℕ) (at : ℕ) (row : SubTlvRow) (stood far : Bool) (f : FieldFault) → 2 ≤ length rest
    → (far ≡ true → IsOutside registry rest) → (registry ≡ SwitchingPointPart → far ≡ false) → stood ≡ false → far ≡ true → f ≡ outside_fault registry at
    → Stood registry before (slice_index rest 0) stood → IsFirstWrong registry before rest at f
outside_exit InterfaceParameter before rest at row stood far f two outer part is out e fact =
    subst (λ (x : FieldFault). IsFirstWrong InterfaceParameter before rest at x) (sym e)
    (outside_first_fec before rest at two (outer out) (stood_no InterfaceParameter before (slice_index rest 0) stood is fact))
outside_exit SwitchingPointPart before rest at row stood far f two outer part is out e fact = let near = part refl in absurd (cc (near, out))

-- what is wrong is within the octets
pub wrong_within : (registry : Registry) (before : List SubTlv) (rest : List ℕ) (at : ℕ) (f : FieldFault) → IsWrong registry before rest at f → fault_place f < at + length rest
wrong_within InterfaceParameter before rest at f (lone one e) = let p = ap fault_place e in omega arith
wrong_within SwitchingPointPart before rest at f (lone one e) = let p = ap fault_place e in omega arith
wrong_within InterfaceParameter before rest at f (outside two far e) = let p = ap fault_place e in omega arith
wrong_within SwitchingPointPart before rest at f (outside two far e) = let p = ap fault_place e in omega arith
wrong_within registry before rest at f (misfit row two known bad e) = let p = ap fault_place e in omega arith
wrong_within registry before rest at f (excess row s more spelled known fit bad e) =
    let p = ap fault_place e in
    let len : length rest ≡ suc (suc (length (s.value ++ more))) = ap length spelled in
    let parts = length-append s.value more in
    let some = excess_length registry row s known fit bad in
    omega arith
wrong_within registry before rest at f (again row one known stood e) = let p = ap fault_place e in omega arith

-- a fault that can be named is within the octets
pub named_within : (registry : Registry) (begin : ℕ) (octets : List ℕ) (f : FieldFault) → IsNamed registry begin octets f → fault_place f < begin + length octets
named_within registry begin octets f named =
    let len = ap length named.split in
    let parts = length-append (flat_map (spell registry) named.before) named.rest in
    let close = wrong_within registry named.before named.rest (begin + length (flat_map (spell registry) named.before)) f named.wrong in
    omega arith
