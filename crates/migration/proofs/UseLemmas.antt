-- The groups that wires use.
use Rattle.std.proofs.Common.{◌≡◌, ◌<◌, ◌≤◌, ◌==◌, ◌+◌, ◌*◌, ◌++◌, ◌||◌, ◌^◌, ◌∙◌, ℕ, Bool, true, false, List, [], ◌∷◌, length, None, length-append, refl, arith, inl, inr, if◌then◌else◌}
use Rattle.std.proofs.lemmas.Bool.{cases_Bool, or_right, or_left, or_parts}
use Rattle.std.proofs.lemmas.Bool.Decides.{nat_tests}
use Rattle.std.specs.List.{AllByRecursion, list_any}
use Rattle.net_base.specs.declared.plan.wire_plan.WirePlan.{WirePlan}
use Rattle.net_base.specs.plan.Faults.{first_clash}
use Rattle.migration.specs.Groups.{used_also, used_after, used_groups}
use Rattle.migration.proofs.NamedLemmas.{AreNumbers, and_number, once_more}

-- the group of an end is 0, or among those that are used
abbrev pub is_used : List ℕ → ℕ → Bool
is_used used group = group == 0 || list_any (λ old. old == group) used

-- both ends of each wire
abbrev pub AreUsed : List ℕ → List WirePlan → Type 0
AreUsed used wires = AllByRecursion (λ (wire : WirePlan). (is_used used wire.near.group ≡ true) × (is_used used wire.far.group ≡ true)) wires

-- the groups of both ends are numbers of 32 bits
abbrev pub AreSmall : List WirePlan → Type 0
AreSmall wires = AllByRecursion (λ (wire : WirePlan). (wire.near.group < 2 ^ 32) × (wire.far.group < 2 ^ 32)) wires

-- numbers of groups, each once, and so many at most
pub record AreGroups (most : ℕ) (used : List ℕ) : Type 0 where
  pub numbers : AreNumbers used
  pub once : first_clash (λ a b. a == b) used ≡ None
  pub few : length used ≤ most

any_and : (used : List ℕ) (x y : ℕ) → list_any (λ old. old == y) (used ++ x ∷ []) ≡ (list_any (λ old. old == y) used || (x == y))
any_and [] x y = of_test (x == y)
  where
    of_test : (test : Bool) → (test || false) ≡ (false || test)
    of_test true = refl
    of_test false = refl
any_and (u ∷ us) x y = of_test (u == y) (any_and us x y)
  where
    of_test : (test : Bool) → list_any (λ old. old == y) (us ++ x ∷ []) ≡ (list_any (λ old. old == y) us || (x == y))
        → (test || list_any (λ old. old == y) (us ++ x ∷ [])) ≡ ((test || list_any (λ old. old == y) us) || (x == y))
    of_test true later = refl
    of_test false later = later

-- what is used stays so
keeps_test : (test : Bool) (used : List ℕ) (x y : ℕ) → is_used used y ≡ true → is_used (if test then used else used ++ x ∷ []) y ≡ true
keeps_test true used x y is = is
keeps_test false used x y is = of_zero (y == 0) is
  where
    of_zero : (zero_is : Bool) → (zero_is || list_any (λ old. old == y) used) ≡ true → (zero_is || list_any (λ old. old == y) (used ++ x ∷ [])) ≡ true
    of_zero true e = refl
    of_zero false e = any_and used x y ∙ or_left (list_any (λ old. old == y) used) (x == y) e

keeps : (used : List ℕ) (x y : ℕ) → is_used used y ≡ true → is_used (used_also used x) y ≡ true
keeps used x y is = keeps_test (is_used used x) used x y is

used_now : (used : List ℕ) (x : ℕ) → is_used (used_also used x) x ≡ true
used_now used x = elim (cases_Bool (is_used used x)) [
  | inl is ↦ rw is is
  | inr new ↦ rw new (of_zero (x == 0))
]
  where
    same : (x == x) ≡ true
    same = grind (arith, nat_tests)

    of_zero : (zero_is : Bool) → (zero_is || list_any (λ old. old == x) (used ++ x ∷ [])) ≡ true
    of_zero true = refl
    of_zero false = any_and used x x ∙ or_right (list_any (λ old. old == x) used) (x == x) same

stays : (used : List ℕ) (wires : List WirePlan) (y : ℕ) → is_used used y ≡ true → is_used (used_after used wires) y ≡ true
stays used [] y is = is
stays used (wire ∷ wires) y is = stays (used_also (used_also used wire.near.group) wire.far.group) wires y (keeps (used_also used wire.near.group) wire.far.group y (keeps used wire.near.group y is))

-- the groups of wires are used
pub all_used : (used : List ℕ) (wires : List WirePlan) → AreUsed (used_after used wires) wires
all_used used [] = tt
all_used used (wire ∷ wires) =
    let near : List ℕ = used_also used wire.near.group in
    let far : List ℕ = used_also near wire.far.group in
    ((stays far wires wire.near.group (keeps near wire.far.group wire.near.group (used_now used wire.near.group)), stays far wires wire.far.group (used_now near wire.far.group)), all_used far wires)

one_more : (most : ℕ) (used : List ℕ) (x : ℕ) → x < 2 ^ 32 → AreGroups most used → AreGroups (most + 1) (used_also used x)
one_more most used x small are = elim (cases_Bool (is_used used x)) [
  | inl is ↦ rw is (record { numbers = are.numbers; once = are.once; few = omega (arith, are.few) })
  | inr new ↦
      let both = or_parts (x == 0) (list_any (λ old. old == x) used) new in
      let some : 1 ≤ x = grind (arith, nat_tests, both.0) in
      rw new (record {
        numbers = and_number used x are.numbers (some, small);
        once = once_more used x are.once both.1;
        few = omega (arith, length-append used (x ∷ []), are.few);
      })
]

pub groups_after : (most : ℕ) (used : List ℕ) (wires : List WirePlan) → AreSmall wires → AreGroups most used → AreGroups (most + 2 * length wires) (used_after used wires)
groups_after most used [] small are = record { numbers = are.numbers; once = are.once; few = omega (arith, are.few) }
groups_after most used (wire ∷ wires) small are =
    let near = one_more most used wire.near.group small.0.0 are in
    let far = one_more (most + 1) (used_also used wire.near.group) wire.far.group small.0.1 near in
    let all = groups_after (most + 1 + 1) (used_also (used_also used wire.near.group) wire.far.group) wires small.1 far in
    record { numbers = all.numbers; once = all.once; few = omega (arith, all.few) }

pub groups_are : (wires : List WirePlan) → AreSmall wires → AreGroups (2 * length wires) (used_groups wires)
groups_are wires small =
    let all = groups_after 0 [] wires small (record { numbers = tt; once = refl; few = omega arith }) in
    record { numbers = all.numbers; once = all.once; few = omega (arith, all.few) }
