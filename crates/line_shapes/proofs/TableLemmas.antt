-- The tests of a table tell what the laws ask of it.
use Rattle.std.proofs.Common.{◌≡◌, ◌<◌, ◌≤◌, ◌∙◌, nat_le, not, ℕ, zero, suc, true, false, List, [], ◌∷◌, length, Some, Result, Ok, Err, IfSome, inl, inr, refl, sym, ap, subst, arith}
use Rattle.std.proofs.lemmas.Bool.{cases_lt, leb-true, not-true, and_parts}
use Rattle.std.proofs.lemmas.Bool.Decides.{nat_tests}
use Rattle.std.specs.List.{list_all}
use Rattle.std.specs.Str.{bytes_eq}
use Rattle.net_base.specs.declared.plan.Plan.{Plan}
use Rattle.plan_names.specs.Planned.{HasNames}
use Rattle.plan_names.proofs.BelowLemmas.{all_below, below_at}
use Rattle.line_shapes.proofs.LawLemmas.{reads}
use Rattle.line_shapes.proofs.ReadLemmas.{read_is}
use Rattle.line_shapes.specs.Laws.{AreKinds, HaveWords, IsKind, have_kinds, have_words, is_kind}
use Rattle.line_shapes.specs.Shapes.{AreValuesOf, Form, form_at, line_said, row_words, told_by, value_words, values_behind}
use Rattle.line_shapes.specs.declared.kind.Kind.{Kind}
use Rattle.line_shapes.specs.declared.kind.Kind.TheVariants.{Edge, Circuit, Wire, Between, Number, OneOf}

one_kind : (kind : Kind) → is_kind kind ≡ true → IsKind kind
one_kind Edge is = tt
one_kind Circuit is = tt
one_kind Wire is = tt
one_kind Between is = tt
one_kind (Number low high) is = grind (arith, nat_tests, is)
one_kind (OneOf choice) is = tt

all_kinds : (kinds : List Kind) → list_all is_kind kinds ≡ true → AreKinds kinds
all_kinds [] are = tt
all_kinds (kind ∷ kinds) are = let both = and_parts (is_kind kind) (list_all is_kind kinds) are in (one_kind kind both.0, all_kinds kinds both.1)

-- no number of the table has more than 64 bits
pub are_kinds : (forms : List Form) (row : ℕ) → have_kinds forms ≡ true → AreKinds (form_at forms row).kinds
unfolding have_kinds
are_kinds [] row are = tt
are_kinds (f ∷ forms) zero are = all_kinds f.kinds (and_parts (list_all is_kind f.kinds) (have_kinds forms) are).0
are_kinds (f ∷ forms) (suc row) are = are_kinds forms row (and_parts (list_all is_kind f.kinds) (have_kinds forms) are).1

one_other : (word : List ℕ) (forms : List Form) (b : ℕ) → list_all (λ other. not (bytes_eq word other.word)) forms ≡ true → b < length forms → bytes_eq word (form_at forms b).word ≡ false
one_other word [] b other lt = absurd (omega (arith, lt))
one_other word (f ∷ forms) zero other lt = not-true (bytes_eq word f.word) (and_parts (not (bytes_eq word f.word)) (list_all (λ g. not (bytes_eq word g.word)) forms) other).0
one_other word (f ∷ forms) (suc b) other lt = one_other word forms b (and_parts (not (bytes_eq word f.word)) (list_all (λ g. not (bytes_eq word g.word)) forms) other).1 (omega (arith, lt))

-- the first words of the table differ
pub words_differ : (forms : List Form) → have_words forms ≡ true → HaveWords forms
unfolding have_words
words_differ [] are a b before lt = absurd (omega (arith, lt))
words_differ (f ∷ forms) are zero zero before lt = absurd (omega (arith, before))
words_differ (f ∷ forms) are zero (suc b) before lt = one_other f.word forms b (and_parts (list_all (λ other. not (bytes_eq f.word other.word)) forms) (have_words forms) are).0 (omega (arith, lt))
words_differ (f ∷ forms) are (suc a) zero before lt = absurd (omega (arith, before))
words_differ (f ∷ forms) are (suc a) (suc b) before lt =
    words_differ forms (and_parts (list_all (λ other. not (bytes_eq f.word other.word)) forms) (have_words forms) are).1 a b (omega (arith, before)) (omega (arith, lt))

-- what holds of each number below another one
abbrev pub AllBelow : (ℕ → Type 0) → ℕ → Type 0
AllBelow P zero = Unit {0}
AllBelow P (suc n) = AllBelow P n × P n

pub below_all : (P : ℕ → Type 0) (n k : ℕ) → AllBelow P n → k < n → P k
below_all P zero k all lt = absurd (omega (arith, lt))
below_all P (suc n) k all lt = elim (cases_lt k n) [
  | inl under ↦ below_all P n k all.0 under
  | inr top ↦
      let same : k ≡ n = omega (arith, top, lt) in
      subst P (sym same) all.1
]

as_many : (plan : Plan) (kinds : List Kind) (values : List ℕ) → length (value_words plan kinds values) ≡ length kinds
as_many plan [] values = refl
as_many plan (kind ∷ kinds) values = ap suc (as_many plan kinds (values_behind values))

-- the words of a row are four at most, where the table has no longer one
pub few_words : (plan : Plan) (forms : List Form) (row : ℕ) (values : List ℕ) → all_below (λ n. nat_le (length (form_at forms n).kinds) 3) (length forms) ≡ true → row < length forms
    → length (row_words plan (form_at forms row) values) ≤ 4
few_words plan forms row values short lt =
    let few : length (form_at forms row).kinds ≤ 3 = leb-true _ 3 (below_at (λ n. nat_le (length (form_at forms n).kinds) 3) (length forms) row short lt) in
    let many : length (row_words plan (form_at forms row) values) ≡ suc (length (form_at forms row).kinds) = ap suc (as_many plan (form_at forms row).kinds values) in
    omega (arith, few, many)

-- what holds of each row, its values and the words that are written for them holds of what is read
pub rows_hold : {A : Type 0} (plan : Plan) (forms : List Form) (made : ℕ → List ℕ → A) (P : A → List (List ℕ) → Type 0) (word : List ℕ) (words : List (List ℕ)) → have_kinds forms ≡ true
    → ((row : ℕ) → row < length forms → (v : List ℕ) → AreValuesOf plan (form_at forms row).kinds v → P (made row v) (row_words plan (form_at forms row) v))
    → IfSome (told_by made (line_said plan forms (word ∷ words))) (λ x. P x (word ∷ words))
rows_hold plan forms made P word words kinds each = by (line_said plan forms (word ∷ words)) refl where
  by : (r : Result (ℕ × List ℕ) ℕ) → line_said plan forms (word ∷ words) ≡ r → IfSome (told_by made r) (λ x. P x (word ∷ words))
  by (Ok read) is =
      let line = read_is plan forms (word ∷ words) read is in
      subst (P (made read.0 read.1)) (line.same (are_kinds forms read.0 kinds)) (each read.0 line.within read.1 line.fit)
  by (Err number) is = tt

-- what a row of a table says: the words that are written for its values are read as what they make
pub record IsRow {A : Type 0} (plan : Plan) (forms : List Form) (made : ℕ → List ℕ → A) (words : List (List ℕ)) (x : A) : Type 0 where
  pub row : ℕ
  pub values : List ℕ
  pub within : row < length forms
  pub fit : AreValuesOf plan (form_at forms row).kinds values
  pub written : words ≡ row_words plan (form_at forms row) values
  pub is : made row values ≡ x

pub row_read : {A : Type 0} (plan : Plan) (forms : List Form) (made : ℕ → List ℕ → A) (words : List (List ℕ)) (x : A) → HasNames plan → have_words forms ≡ true → have_kinds forms ≡ true
    → IsRow plan forms made words x → told_by made (line_said plan forms words) ≡ Some x
row_read plan forms made words x names differ kinds told =
    ap (λ (l : List (List ℕ)). told_by made (line_said plan forms l)) told.written
    ∙ (ap (told_by made) (reads plan forms told.row told.values names (words_differ forms differ) told.within (are_kinds forms told.row kinds) told.fit) ∙ ap Some told.is)
