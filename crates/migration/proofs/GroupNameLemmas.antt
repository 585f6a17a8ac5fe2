-- The names of groups.
use Rattle.std.proofs.Common.{◌≡◌, ◌<◌, ◌≤◌, ◌+◌, ◌++◌, ◌%◌, ◌^◌, ℕ, suc, true, List, [], ◌∷◌, length, drop, le-leb, arith, refl, ap}
use Rattle.std.specs.Fmt.{decimal}
use Rattle.std.specs.List.{list_all}
use Rattle.std.proofs.lemmas.Bool.{and_parts}
use Rattle.std.proofs.lemmas.Bool.Decides.{nat_tests}
use Rattle.std.proofs.lemmas.Fmt.{decimal_by_steps, decimal_injective, length-decimal-le}
use Rattle.net_values.specs.Name.{IsName, is_name_octet_of}
use Rattle.migration.specs.Groups.{group_name}

all_and : (ds : List ℕ) (d : ℕ) → list_all is_name_octet_of ds ≡ true → is_name_octet_of d ≡ true → list_all is_name_octet_of (ds ++ d ∷ []) ≡ true
all_and [] d all this = rw this refl
all_and (x ∷ ds) d all this =
    let both = and_parts (is_name_octet_of x) (list_all is_name_octet_of ds) all in
    rw (both.0, all_and ds d both.1 this) refl

digit : (d : ℕ) → d < 10 → is_name_octet_of (48 + d) ≡ true
digit d lt = grind (arith, nat_tests, lt)

digits : (n : ℕ) → n < 2 ^ 64 → list_all is_name_octet_of (decimal n) ≡ true
digits n lt = decimal_by_steps (λ n ds. list_all is_name_octet_of ds ≡ true) (λ n small. rw (digit n small) refl) (λ n ds some all. all_and ds (48 + n % 10) all (digit (n % 10) (omega arith))) n lt

-- the name of a group is a name
pub group_named : (group : ℕ) → group < 2 ^ 32 → IsName (group_name group)
unfolding group_name
group_named group lt =
    let short : length (decimal group) ≤ 10 = length-decimal-le 10 group (omega arith) (omega (arith, lt)) (omega (arith, lt)) in
    rw (le-leb 1 (suc (length (decimal group))) (omega arith), le-leb (suc (length (decimal group))) 32 (omega (arith, short)), digits group (omega (arith, lt))) refl

-- two groups have two names
pub group_apart : (a b : ℕ) → a < 2 ^ 32 → b < 2 ^ 32 → group_name a ≡ group_name b → a ≡ b
unfolding group_name
group_apart a b p q e = decimal_injective a b (omega (arith, p)) (omega (arith, q)) (ap (λ l. drop 1 l) e)
