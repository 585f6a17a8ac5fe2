-- Of the cases of some of these faults in which something changes, one has fewest.
use Rattle.std.proofs.Common.{◌≡◌, ◌<◌, ◌⊎◌, ◌&&◌, ◌∙◌, ℕ, zero, suc, Bool, true, false, List, [], ◌∷◌, length, nat_lt, inl, inr, refl, sym, ap, arith}
use Rattle.std.proofs.lemmas.Bool.{lt-ltb, ltb-true}
use Rattle.net_values.proofs.BoolLemmas.{and_true, first_holds, second_holds}
use Rattle.survey_laws.specs.declared.fault.Fault.{Fault}
use Rattle.survey_laws.specs.Cases.{AreSomeOf, IsTold, is_found, is_lost}
use Rattle.survey_laws.specs.Laws.{ChangesAreTold}

all_some : (faults : List Fault) → AreSomeOf faults faults
all_some [] = tt
all_some (one ∷ faults) = inl (refl, all_some faults)

some_later : (few faults : List Fault) (one : Fault) → AreSomeOf few faults → AreSomeOf few (one ∷ faults)
some_later [] faults one some = tt
some_later (first ∷ few) faults one some = inr some

some_of_some : (least few faults : List Fault) → AreSomeOf least few → AreSomeOf few faults → AreSomeOf least faults
some_of_some [] few faults least_some few_some = tt
some_of_some (x ∷ xs) [] faults least_some few_some = absurd least_some
some_of_some (x ∷ xs) (y ∷ ys) [] least_some few_some = absurd few_some
some_of_some (x ∷ xs) (y ∷ ys) (z ∷ zs) least_some (inr later) = inr (some_of_some (x ∷ xs) (y ∷ ys) zs least_some later)
some_of_some (x ∷ xs) (y ∷ ys) (z ∷ zs) (inl least_first) (inl few_first) = inl (least_first.0 ∙ few_first.0, some_of_some xs ys zs least_first.1 few_first.1)
some_of_some (x ∷ xs) (y ∷ ys) (z ∷ zs) (inr later) (inl few_first) = inr (some_of_some (x ∷ xs) ys zs later few_first.1)

-- ---- some of them pass a test, or none do

record SomePass (test : List Fault → Bool) (faults : List Fault) : Type 0 where
  few : List Fault
  some : AreSomeOf few faults
  passes : test few ≡ true

abbrev NonePass : (List Fault → Bool) → List Fault → Type 0
NonePass test faults = (few : List Fault) → AreSomeOf few faults → test few ≡ false

some_or_none : (test : List Fault → Bool) (faults : List Fault) → SomePass test faults ⊎ NonePass test faults
some_or_none test [] = by (test []) refl where
  none : test [] ≡ false → NonePass test []
  none fails [] some = fails
  none fails (first ∷ few) some = absurd some

  by : (b : Bool) → test [] ≡ b → SomePass test [] ⊎ NonePass test []
  by true passes = inl (record { few = []; some = tt; passes = passes })
  by false fails = inr (none fails)
some_or_none test (one ∷ faults) = by (some_or_none test faults) (some_or_none (λ few. test (one ∷ few)) faults) where
  none : NonePass test faults → NonePass (λ few. test (one ∷ few)) faults → NonePass test (one ∷ faults)
  none without within [] some = without [] tt
  none without within (first ∷ few) (inl some) = ap (λ (fault : Fault). test (fault ∷ few)) some.0 ∙ within few some.1
  none without within (first ∷ few) (inr some) = without (first ∷ few) some

  by : SomePass test faults ⊎ NonePass test faults → SomePass (λ few. test (one ∷ few)) faults ⊎ NonePass (λ few. test (one ∷ few)) faults
      → SomePass test (one ∷ faults) ⊎ NonePass test (one ∷ faults)
  by (inl found) rest = inl (record { few = found.few; some = some_later found.few faults one found.some; passes = found.passes })
  by (inr without) (inl found) = inl (record { few = one ∷ found.few; some = inl (refl, found.some); passes = found.passes })
  by (inr without) (inr within) = inr (none without within)

-- ---- those with fewest

fails_alone : (passes fewer : Bool) → fewer ≡ true → passes && fewer ≡ false → passes ≡ false
fails_alone passes fewer is fails = sym (and_true passes) ∙ (ap (λ (b : Bool). passes && b) (sym is) ∙ fails)

fewest : (test : List Fault → Bool) (n : ℕ) (faults : List Fault) → length faults < n → test faults ≡ true → IsTold test faults
fewest test zero faults within passes = absurd (omega (arith, within))
fewest test (suc n) faults within passes = by (some_or_none (λ few. test few && nat_lt (length few) (length faults)) faults) (λ few less some. fewest test n few less some) where
  by : SomePass (λ few. test few && nat_lt (length few) (length faults)) faults ⊎ NonePass (λ few. test few && nat_lt (length few) (length faults)) faults
      → ((few : List Fault) → length few < n → test few ≡ true → IsTold test few) → IsTold test faults
  by (inl found) again =
      let less : length found.few < length faults = ltb-true (length found.few) (length faults) (second_holds (test found.few) (nat_lt (length found.few) (length faults)) found.passes) in
      let of_few : IsTold test found.few = again found.few (omega (arith, less, within)) (first_holds (test found.few) (nat_lt (length found.few) (length faults)) found.passes) in
      record { told = of_few.told; some = some_of_some of_few.told found.few faults of_few.some found.some; first = of_few.first }
  by (inr none) again = record {
    told = faults;
    some = all_some faults;
    first = record {
      here = passes;
      fewer = λ few some less. fails_alone (test few) (nat_lt (length few) (length faults)) (lt-ltb (length few) (length faults) less) (none few some);
    };
  }

first_told : (test : List Fault → Bool) (faults : List Fault) → test faults ≡ true → IsTold test faults
first_told test faults passes = fewest test (suc (length faults)) faults (omega arith) passes

pub changes_are_told : ChangesAreTold
changes_are_told plan before faults service sender circuit =
    (first_told (is_lost plan before service sender circuit) faults, first_told (is_found plan before service sender circuit) faults)
