-- Octets are sub-TLVs in one way at most, and have a fault or are sub-TLVs, and not both.
use Rattle.std.proofs.Common.{◌≡◌, ◌≤◌, ◌+◌, ◌++◌, ◌==◌, ℕ, suc, true, false, List, [], ◌∷◌, length, map, filter, refl, sym, ap, ◌∙◌, subst, arith, append_assoc, length-append, inl, inr, Some}
use Rattle.std.specs.Prelude.{IsSome, slice_index}
use Rattle.std.proofs.lemmas.Grind.{flat_map-append}
use Rattle.std.proofs.lemmas.List.{append-nil, map-append}
use Rattle.std.proofs.lemmas.List.Elements.{filter-append}
use Rattle.std.proofs.lemmas.Bool.{eq-eqb}
use Rattle.std.proofs.lemmas.Bool.Decides.{eqb_tells}
use Rattle.std.specs.List.{AllByRecursion, flat_map}
use Rattle.net_values.proofs.RowLemmas.{same_front}
use Rattle.pw_tlvs.specs.declared.field_fault.FieldFault.{FieldFault}
use Rattle.pw_tlvs.specs.declared.registry.Registry.{Registry}
use Rattle.pw_tlvs.specs.declared.registry.Registry.TheVariants.{InterfaceParameter, SwitchingPointPart}
use Rattle.pw_tlvs.specs.declared.sub_tlv_row.SubTlvRow.{SubTlvRow}
use Rattle.pw_tlvs.specs.Faults.{fault_place, PrecedesIn, IsFirstIn}
use Rattle.pw_tlvs.specs.SubTlvs.{SubTlv, counted_in, spell, sub_tlv_row, row_fits, allows, IsGood, values, AreGood, AreSubTlvs, IsWrong, lone, outside, misfit, excess, again, IsNamed, IsFirstWrong}

-- the sub-TLV at the front of some octets is known by them
pub same_spelled : (registry : Registry) (p q : SubTlv) (x y : List ℕ) → spell registry p ++ x ≡ spell registry q ++ y → (p ≡ q) × (x ≡ y)
same_spelled registry p q x y e =
    let kind : p.kind ≡ q.kind = cc (e) in
    let counts : counted_in registry + length p.value ≡ counted_in registry + length q.value = cc (e) in
    let rest : p.value ++ x ≡ q.value ++ y = cc (e) in
    let (value, more) = same_front p.value q.value x y (omega arith) rest in
    ((λ i. record { kind = kind i; value = value i }), more)

pub data Fronts (registry : Registry) (a b : List SubTlv) (x y : List ℕ) : Type 0 where
  longer : (more : List SubTlv) → b ≡ a ++ more → x ≡ flat_map (spell registry) more ++ y → Fronts registry a b x y
  shorter : (p : SubTlv) (more : List SubTlv) → a ≡ b ++ p ∷ more → y ≡ spell registry p ++ (flat_map (spell registry) more ++ x) → Fronts registry a b x y

fronts_cons : (registry : Registry) (p : SubTlv) (a b : List SubTlv) (x y : List ℕ) → Fronts registry a b x y → Fronts registry (p ∷ a) (p ∷ b) x y
fronts_cons registry p a b x y (longer more same rest) = longer more (ap (λ (l : List SubTlv). p ∷ l) same) rest
fronts_cons registry p a b x y (shorter q more same rest) = shorter q more (ap (λ (l : List SubTlv). p ∷ l) same) rest

-- of two joinings at the front of the same octets one is the front of the other
pub fronts : (registry : Registry) (a b : List SubTlv) (x y : List ℕ) → flat_map (spell registry) a ++ x ≡ flat_map (spell registry) b ++ y → Fronts registry a b x y
fronts registry [] b x y e = longer b refl e
fronts registry (p ∷ a) [] x y e = shorter p a refl (sym e ∙ append_assoc (spell registry p) (flat_map (spell registry) a) x)
fronts registry (p ∷ a) (q ∷ b) x y e =
    let left = append_assoc (spell registry p) (flat_map (spell registry) a) x in
    let right = append_assoc (spell registry q) (flat_map (spell registry) b) y in
    let (same, rest) = same_spelled registry p q (flat_map (spell registry) a ++ x) (flat_map (spell registry) b ++ y) (sym left ∙ (e ∙ right)) in
    subst (λ (r : SubTlv). Fronts registry (p ∷ a) (r ∷ b) x y) same (fronts_cons registry p a b x y (fronts registry a b x y rest))

pub values-append : (k : ℕ) (a b : List SubTlv) → values k (a ++ b) ≡ values k a ++ values k b
values-append k a b = ap (map (λ (s : SubTlv). s.value)) (filter-append (λ (s : SubTlv). s.kind == k) a b)
    ∙ map-append (λ (s : SubTlv). s.value) (filter (λ (s : SubTlv). s.kind == k) a) (filter (λ (s : SubTlv). s.kind == k) b)

values-own : (p : SubTlv) (more : List SubTlv) → values p.kind (p ∷ more) ≡ p.value ∷ values p.kind more
values-own p more = let own : (p.kind == p.kind) ≡ true = eq-eqb p.kind p.kind refl in rw own refl

good_at : (registry : Registry) (a : List SubTlv) (p : SubTlv) (more : List SubTlv) → AllByRecursion (IsGood registry) (a ++ p ∷ more) → IsGood registry p
good_at registry [] p more all = all.0
good_at registry (q ∷ a) p more all = good_at registry a p more all.1

pub some_of : (registry : Registry) (k : ℕ) (row : SubTlvRow) → sub_tlv_row registry k ≡ Some row → IsSome (sub_tlv_row registry k)
some_of registry k row e = rw e refl

-- a good sub-TLV fits its row
pub fits_of : (registry : Registry) (p : SubTlv) (row : SubTlvRow) → IsGood registry p → sub_tlv_row registry p.kind ≡ Some row → row_fits row (counted_in registry + length p.value) ≡ true
fits_of registry p row good e = rw e at good.fit

-- nothing is wrong where a good sub-TLV stands, and none of its type before
good_not_wrong : (registry : Registry) (before : List SubTlv) (p : SubTlv) (more : List SubTlv) (rest octets : List ℕ) (at : ℕ) (f : FieldFault)
    → AreGood registry (before ++ p ∷ more) → octets ≡ spell registry p ++ rest → IsWrong registry before octets at f → ⊥
good_not_wrong registry before p more rest octets at f good is (lone one e) = let len = ap length is in omega arith
good_not_wrong registry before p more rest octets at f good is (outside two (inl low) e) =
    let second : slice_index octets 1 ≡ counted_in registry + length p.value = ap (λ (l : List ℕ). slice_index l 1) is in omega arith
good_not_wrong registry before p more rest octets at f good is (outside two (inr high) e) =
    let second : slice_index octets 1 ≡ counted_in registry + length p.value = ap (λ (l : List ℕ). slice_index l 1) is in
    let len : length octets ≡ suc (suc (length (p.value ++ rest))) = ap length is in
    let parts = length-append p.value rest in omega arith
good_not_wrong registry before p more rest octets at f good is (misfit row two known bad e) =
    let first : slice_index octets 0 ≡ p.kind = ap (λ (l : List ℕ). slice_index l 0) is in
    let second : slice_index octets 1 ≡ counted_in registry + length p.value = ap (λ (l : List ℕ). slice_index l 1) is in
    let known' : sub_tlv_row registry p.kind ≡ Some row = subst (λ (k : ℕ). sub_tlv_row registry k ≡ Some row) first known in
    let bad' : row_fits row (counted_in registry + length p.value) ≡ false = subst (λ (k : ℕ). row_fits row k ≡ false) second bad in
    let fine = fits_of registry p row (good_at registry before p more good.good) known' in
    absurd (cc (bad', fine))
good_not_wrong registry before p more rest octets at f good is (excess row s more' spelled known fit bad e) =
    let (same, _) = same_spelled registry p s rest more' (sym is ∙ spelled) in
    let g = good_at registry before p more good.good in
    let allowed : allows registry s.kind s.value ≡ true = subst (λ (r : SubTlv). allows registry r.kind r.value ≡ true) same g.allowed in
    absurd (cc (bad, allowed))
good_not_wrong registry before p more rest octets at f good is (again row one known stood e) =
    let first : slice_index octets 0 ≡ p.kind = ap (λ (l : List ℕ). slice_index l 0) is in
    let known' : sub_tlv_row registry p.kind ≡ Some row = subst (λ (k : ℕ). sub_tlv_row registry k ≡ Some row) first known in
    let stood' : 1 ≤ length (values p.kind before) = subst (λ (k : ℕ). 1 ≤ length (values k before)) first stood in
    let once = good.once p.kind (some_of registry p.kind row known') in
    let all = ap length (values-append p.kind before (p ∷ more) ∙ ap (λ (l : List (List ℕ)). values p.kind before ++ l) (values-own p more)) in
    let parts = length-append (values p.kind before) (p.value ∷ values p.kind more) in
    omega arith

-- what is wrong is not before its place
pub wrong_from : (registry : Registry) (before : List SubTlv) (rest : List ℕ) (at : ℕ) (f : FieldFault) → IsWrong registry before rest at f → at ≤ fault_place f
wrong_from InterfaceParameter before rest at f (lone one e) = let p = ap fault_place e in omega arith
wrong_from SwitchingPointPart before rest at f (lone one e) = let p = ap fault_place e in omega arith
wrong_from InterfaceParameter before rest at f (outside two far e) = let p = ap fault_place e in omega arith
wrong_from SwitchingPointPart before rest at f (outside two far e) = let p = ap fault_place e in omega arith
wrong_from registry before rest at f (misfit row two known bad e) = let p = ap fault_place e in omega arith
wrong_from registry before rest at f (excess row s more spelled known fit bad e) = let p = ap fault_place e in omega arith
wrong_from registry before rest at f (again row one known stood e) = let p = ap fault_place e in omega arith

-- where nothing is left, nothing is wrong
none_wrong : (registry : Registry) (before : List SubTlv) (at : ℕ) (f : FieldFault) → IsWrong registry before [] at f → ⊥
none_wrong registry before at f (lone one e) = omega arith
none_wrong registry before at f (outside two far e) = omega arith
none_wrong registry before at f (misfit row two known bad e) = omega arith
none_wrong registry before at f (excess row s more spelled known fit bad e) = absurd (cc (spelled))
none_wrong registry before at f (again row one known stood e) = omega arith

-- octets that are sub-TLVs have no fault
pub never_both : (registry : Registry) (begin : ℕ) (octets : List ℕ) (subs : List SubTlv) (f : FieldFault) → AreSubTlvs registry octets subs → IsNamed registry begin octets f → ⊥
never_both registry begin octets subs f are named = both (fronts registry subs named.before [] named.rest (append-nil (flat_map (spell registry) subs) ∙ (sym are.joined ∙ named.split)))
  where
    both : Fronts registry subs named.before [] named.rest → ⊥
    both (longer [] same rest) = none_wrong registry named.before (begin + length (flat_map (spell registry) named.before)) f
        (subst (λ (l : List ℕ). IsWrong registry named.before l (begin + length (flat_map (spell registry) named.before)) f) (sym rest) named.wrong)
    both (longer (p ∷ more) same rest) = absurd (cc (rest))
    both (shorter p more same rest) = good_not_wrong registry named.before p more (flat_map (spell registry) more ++ []) named.rest
        (begin + length (flat_map (spell registry) named.before)) f (subst (AreGood registry) same are.good) rest named.wrong

-- two readings of the same octets are one
pub one_joining : (registry : Registry) (octets : List ℕ) (a b : List SubTlv) → AreSubTlvs registry octets a → AreSubTlvs registry octets b → a ≡ b
one_joining registry octets a b one other = same (fronts registry a b [] []
    (append-nil (flat_map (spell registry) a) ∙ (sym one.joined ∙ (other.joined ∙ sym (append-nil (flat_map (spell registry) b))))))
  where
    same : Fronts registry a b [] [] → a ≡ b
    same (longer [] e rest) = sym (append-nil a) ∙ sym e
    same (longer (p ∷ more) e rest) = absurd (cc (rest))
    same (shorter p more e rest) = absurd (cc (rest))

-- what is first wrong behind good sub-TLVs is the first fault of all
pub first_named : (registry : Registry) (begin : ℕ) (octets : List ℕ) (before : List SubTlv) (rest : List ℕ) (f : FieldFault)
    → octets ≡ flat_map (spell registry) before ++ rest → AreGood registry before → IsFirstWrong registry before rest (begin + length (flat_map (spell registry) before)) f
    → IsFirstIn (IsNamed registry begin octets) f
first_named registry begin octets before rest f split good wrong = record {
  named = record { before = before; rest = rest; split = split; wrong = wrong.wrong };
  first = λ other named. earliest other named (fronts registry before named.before rest named.rest (sym split ∙ named.split));
}
  where
    earliest : (other : FieldFault) (named : IsNamed registry begin octets other) → Fronts registry before named.before rest named.rest → PrecedesIn f other
    earliest other named (longer [] same e) =
        let here = subst (λ (r : List ℕ). IsWrong registry named.before r (begin + length (flat_map (spell registry) named.before)) other) (sym e) named.wrong in
        wrong.first other (subst (λ (l : List SubTlv). IsWrong registry l rest (begin + length (flat_map (spell registry) l)) other) (same ∙ append-nil before) here)
    earliest other named (longer (p ∷ more) same e) =
        let from = wrong_from registry named.before named.rest (begin + length (flat_map (spell registry) named.before)) other named.wrong in
        let len = ap (λ (l : List SubTlv). length (flat_map (spell registry) l)) same ∙ ap length (flat_map-append (spell registry) before (p ∷ more)) in
        let parts = length-append (flat_map (spell registry) before) (spell registry p ++ flat_map (spell registry) more) in
        let more_parts = length-append (spell registry p) (flat_map (spell registry) more) in
        let close = wrong.within p (flat_map (spell registry) more ++ named.rest) (e ∙ append_assoc (spell registry p) (flat_map (spell registry) more) named.rest) in
        inl (omega (arith, from, len, parts, more_parts, close))
    earliest other named (shorter p more same e) =
        absurd (good_not_wrong registry named.before p more (flat_map (spell registry) more ++ rest) named.rest (begin + length (flat_map (spell registry) named.before)) other
        (subst (AreGood registry) same good) e named.wrong)

all_more : (registry : Registry) (subs : List SubTlv) (s : SubTlv) → AllByRecursion (IsGood registry) subs → IsGood registry s → AllByRecursion (IsGood registry) (subs ++ s ∷ [])
all_more registry [] s all one = (one, tt)
all_more registry (q ∷ subs) s all one = (all.0, all_more registry subs s all.1 one)

-- one more good sub-TLV, of which no other of a known type stood before
pub good_more : (registry : Registry) (subs : List SubTlv) (s : SubTlv) → AreGood registry subs → IsGood registry s → (IsSome (sub_tlv_row registry s.kind) → values s.kind subs ≡ [])
    → AreGood registry (subs ++ s ∷ [])
good_more registry subs s good one fresh = record { good = all_more registry subs s good.good one; once = once }
  where
    once : (kind : ℕ) → IsSome (sub_tlv_row registry kind) → length (values kind (subs ++ s ∷ [])) ≤ 1
    once kind known =
        let parts = ap length (values-append kind subs (s ∷ [])) in
        let sum = length-append (values kind subs) (values kind (s ∷ [])) in
        let before = good.once kind known in
        elim (eqb_tells s.kind kind) [
          | inl own ↦
              let none : values kind subs ≡ [] = subst (λ (k : ℕ). values k subs ≡ []) own.1 (fresh (subst (λ (k : ℕ). IsSome (sub_tlv_row registry k)) (sym own.1) known)) in
              let len = ap length none in
              let one : length (values kind (s ∷ [])) ≡ 1 = let t = own.0 in rw t refl in
              omega (arith, parts, sum, len, one)
          | inr other ↦
              let none : length (values kind (s ∷ [])) ≡ 0 = let t = other.0 in rw t refl in
              omega (arith, parts, sum, before, none)
        ]
