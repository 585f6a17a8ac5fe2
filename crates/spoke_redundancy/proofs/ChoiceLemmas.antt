-- The first usable spoke with the least priority number is the one that is chosen.
use Rattle.std.proofs.Common.{◌≡◌, ◌<◌, ◌+◌, ◌∙◌, ◌↔◌, ◌&&◌, ◌||◌, not, cond, ℕ, Bool, true, false, List, [], ◌∷◌, length, take, get_or, Option, Some, None, position, nat_lt, refl, sym, ap, arith}
use Rattle.std.specs.List.{list_any, position_or_len}
use Rattle.std.proofs.lemmas.Bool.Decides.{nat_tests}
use Rattle.std.proofs.lemmas.List.Folds.{list_any_more}
use Rattle.net_values.proofs.BoolLemmas.{and_true}
use Rattle.spoke_redundancy.specs.declared.spoke.Spoke.{Spoke}
use Rattle.spoke_redundancy.specs.Choice.{chosen, is_best, is_usable_spoke}
use Rattle.spoke_redundancy.specs.Least.{IsLeast, is_least, is_less, is_usable_below}

-- the least number of one spoke more
pub least_more : (spokes : List Spoke) (i : ℕ) (spoke : Spoke) (least next : Option ℕ) → i < length spokes → IsLeast (take i spokes) least
    → ((number : ℕ) → is_less next number ≡ (is_less least number || is_usable_below number (get_or spokes i spoke))) → IsLeast (take (i + 1) spokes) next
least_more spokes i spoke least next within is lesser = record {
  below = λ number. list_any_more (is_usable_below number) spokes i spoke within ∙ ap (λ b. b || is_usable_below number (get_or spokes i spoke)) (is.below number) ∙ sym (lesser number);
}

-- the best ones are those with the least number
best_is : (spokes : List Spoke) (least : Option ℕ) → IsLeast spokes least → (spoke : Spoke) → is_best spokes spoke ≡ is_least least spoke
best_is spokes least is spoke = ap (λ b. spoke.usable && not b) (is.below spoke.priority)

pub chosen_is : (spokes : List Spoke) (least : Option ℕ) → IsLeast spokes least → position (is_least least) spokes ≡ chosen spokes
chosen_is spokes least is = ap (λ (test : Spoke → Bool). position test spokes) (λ j spoke. sym (best_is spokes least is spoke) j)

-- a place is found exactly where one passes
any_by_place : (test : Spoke → Bool) (spokes : List Spoke) → list_any test spokes ≡ nat_lt (position_or_len test spokes) (length spokes)
any_by_place test [] = refl
any_by_place test (spoke ∷ spokes) = by (test spoke) (any_by_place test spokes) where
  by : (b : Bool) → list_any test spokes ≡ nat_lt (position_or_len test spokes) (length spokes)
      → (b || list_any test spokes) ≡ nat_lt (cond (not b) (1 + position_or_len test spokes) 0) (length (spoke ∷ spokes))
  by true rest = grind (arith, nat_tests)
  by false rest = rest ∙ grind (arith, nat_tests)

position_none : (test : Spoke → Bool) (spokes : List Spoke) → (position test spokes ≡ None) ↔ (list_any test spokes ≡ false)
position_none test spokes = by (nat_lt (position_or_len test spokes) (length spokes)) (any_by_place test spokes) where
  by : (b : Bool) → list_any test spokes ≡ b → (cond b (Some (position_or_len test spokes)) None ≡ None) ↔ (list_any test spokes ≡ false)
  by true any = (λ none. absurd (cc), λ none. absurd (cc))
  by false any = (λ none. any, λ none. refl)

-- where some spoke is usable below a number, some one is usable
some_usable : (number : ℕ) (spokes : List Spoke) → list_any (is_usable_below number) spokes ≡ true → list_any is_usable_spoke spokes ≡ true
some_usable number [] some = some
some_usable number (spoke ∷ spokes) some = by spoke.usable (some_usable number spokes) some where
  by : (b : Bool) → (list_any (is_usable_below number) spokes ≡ true → list_any is_usable_spoke spokes ≡ true)
      → ((b && nat_lt spoke.priority number) || list_any (is_usable_below number) spokes) ≡ true → (b || list_any is_usable_spoke spokes) ≡ true
  by true rest some = refl
  by false rest some = rest some

-- the spokes with the least number are those with less than the next one
least_below : (least : ℕ) (spoke : Spoke) → is_least (Some least) spoke ≡ is_usable_below (least + 1) spoke
least_below least spoke = ap (λ b. spoke.usable && b) by where
  by : not (nat_lt least spoke.priority) ≡ nat_lt spoke.priority (least + 1)
  by = grind (arith, nat_tests)

usable_least : (spoke : Spoke) → is_least None spoke ≡ is_usable_spoke spoke
usable_least spoke = and_true spoke.usable

-- one has the least number exactly where one is usable
least_held : (spokes : List Spoke) (least : Option ℕ) → IsLeast spokes least → list_any (is_least least) spokes ≡ list_any is_usable_spoke spokes
least_held spokes None is = ap (λ (test : Spoke → Bool). list_any test spokes) (λ j spoke. usable_least spoke j)
least_held spokes (Some least) is =
    let below : list_any (is_usable_below (least + 1)) spokes ≡ true = is.below (least + 1) ∙ grind (arith, nat_tests) in
    ap (λ (test : Spoke → Bool). list_any test spokes) (λ j spoke. least_below least spoke j) ∙ below ∙ sym (some_usable (least + 1) spokes below)

pub none_is : (spokes : List Spoke) (least : Option ℕ) → IsLeast spokes least → (position (is_least least) spokes ≡ None) ↔ (list_any is_usable_spoke spokes ≡ false)
none_is spokes least is =
    let same : list_any (is_least least) spokes ≡ list_any is_usable_spoke spokes = least_held spokes least is in
    let found : (position (is_least least) spokes ≡ None) ↔ (list_any (is_least least) spokes ≡ false) = position_none (is_least least) spokes in
    (λ none. sym same ∙ found.0 none, λ none. found.1 (same ∙ none))
