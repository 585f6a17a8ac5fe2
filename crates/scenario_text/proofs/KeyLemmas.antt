-- The keys of a table as members.
use Rattle.std.proofs.Common.{Less, ◌≡◌, not, Bool, true, false, List, [], ◌∷◌, ℕ, Option, Some, None, String, Global, refl, sym, ap, subst, string_bytes, string_cmp, option_map, if◌then◌else◌}
use Rattle.std.specs.Cmp.Lexicographic.{slice_cmp}
use Rattle.std.specs.List.{find, AllByRecursion}
use Rattle.std.specs.List.Sorted.{IsStrictlySortedBy}
use Rattle.std.specs.Map.{keys_of}
use Rattle.std.specs.Ordering.{nat_cmp, is_le}
use Rattle.toml.specs.View.{members_view}
use Rattle.toml.specs.declared.value.Value.{Value}
use Rattle.net_base.specs.declared.plan.table.Table.{Table}
use Rattle.scenario_text.specs.declared.document_version.DocumentVersion.{DocumentVersion}
use Rattle.scenario_text.specs.Keys.{is_known_key, unknown_keys, unknown_key, lesser, least}

-- the key comes before another one
abbrev pub Precedes : List ℕ → List ℕ → Type 0
Precedes key other = slice_cmp nat_cmp key other ≡ Less

same_of : (x y : List ℕ) → Some x ≡ Some y → x ≡ y
same_of x y e = cc

-- what comes before each key comes before the least
least_holds : (key : List ℕ) (keys : List (List ℕ)) → AllByRecursion (Precedes key) keys → (other : List ℕ) → least keys ≡ Some other → Precedes key other
least_holds key [] each other is = absurd (cc)
least_holds key (k ∷ keys) each other is = of_two (λ next found. least_holds key keys each.1 next found) (least keys) refl is
  where
    of_test : (test : Bool) (next : List ℕ) → Precedes key next → Some (if test then k else next) ≡ Some other → Precedes key other
    of_test true next later same = subst (Precedes key) (same_of k other same) each.0
    of_test false next later same = subst (Precedes key) (same_of next other same) later

    of_two : ((next : List ℕ) → least keys ≡ Some next → Precedes key next) → (rest : Option (List ℕ)) → least keys ≡ rest → Some (lesser k rest) ≡ Some other → Precedes key other
    of_two later None none same = subst (Precedes key) (same_of k other same) each.0
    of_two later (Some next) found same = of_test (is_le (slice_cmp nat_cmp k next)) next (later next found) same

-- a key that comes before each of these is the least
least_is_first : (key : List ℕ) (keys : List (List ℕ)) → AllByRecursion (Precedes key) keys → lesser key (least keys) ≡ key
least_is_first key keys each = of_two (least keys) refl
  where
    of_two : (rest : Option (List ℕ)) → least keys ≡ rest → lesser key rest ≡ key
    of_two None none = refl
    of_two (Some other) found = rw (least_holds key keys each other found) refl

-- what is before each key of a map is before each unknown one
before_unknown : (version : DocumentVersion) (table : Table) (key : String Global) (es : List (String Global × Value)) → AllByRecursion (λ k. string_cmp key k ≡ Less) (keys_of es)
    → AllByRecursion (Precedes (string_bytes key)) (unknown_keys version table (members_view es))
before_unknown version table key [] each = tt
before_unknown version table key (e ∷ es) each = of_known (before_unknown version table key es each.1) (is_known_key version table (string_bytes e.0))
  where
    of_known : AllByRecursion (Precedes (string_bytes key)) (unknown_keys version table (members_view es)) → (known : Bool)
        → AllByRecursion (Precedes (string_bytes key)) (if not known then string_bytes e.0 ∷ unknown_keys version table (members_view es) else unknown_keys version table (members_view es))
    of_known later true = later
    of_known later false = (each.0, later)

-- the first unknown key of the map, whose keys ascend, is the least one of the members
pub unknown_view : (version : DocumentVersion) (table : Table) (es : List (String Global × Value)) → IsStrictlySortedBy string_cmp (keys_of es)
    → option_map string_bytes (find (λ k. not (is_known_key version table (string_bytes k))) (keys_of es)) ≡ unknown_key version table (members_view es)
unfolding IsStrictlySortedBy
unknown_view version table [] ascend = refl
unknown_view version table (e ∷ es) ascend = of_known (unknown_view version table es ascend.1) (is_known_key version table (string_bytes e.0))
  where
    of_known : option_map string_bytes (find (λ k. not (is_known_key version table (string_bytes k))) (keys_of es)) ≡ least (unknown_keys version table (members_view es)) → (known : Bool)
        → option_map string_bytes (if not known then Some e.0 else find (λ k. not (is_known_key version table (string_bytes k))) (keys_of es))
        ≡ least (if not known then string_bytes e.0 ∷ unknown_keys version table (members_view es) else unknown_keys version table (members_view es))
    of_known later true = later
    of_known later false = ap Some (sym (least_is_first (string_bytes e.0) (unknown_keys version table (members_view es)) (before_unknown version table e.0 es ascend.0)))
