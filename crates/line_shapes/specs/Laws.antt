-- What is written is read back.
use Rattle.std.specs.Prelude.{◌≡◌, ◌<◌, ◌^◌, ◌&&◌, not, nat_lt, Bool, true, false, ℕ, List, [], ◌∷◌, length, Ok}
use Rattle.std.specs.List.{list_all}
use Rattle.std.specs.Str.{bytes_eq}
use Rattle.net_base.specs.declared.plan.Plan.{Plan}
use Rattle.plan_names.specs.Planned.{HasNames}
use Rattle.line_shapes.specs.declared.kind.Kind.{Kind}
use Rattle.line_shapes.specs.declared.kind.Kind.TheVariants.{Edge, Circuit, Wire, Between, Number, OneOf}
use Rattle.line_shapes.specs.Shapes.{Form, AreValuesOf, form_at, line_said, row_words}

-- no number has more than 64 bits
abbrev pub IsKind : Kind → Type 0
IsKind Edge = Unit {0}
IsKind Circuit = Unit {0}
IsKind Wire = Unit {0}
IsKind Between = Unit {0}
IsKind (Number low high) = high < 2 ^ 64
IsKind (OneOf choice) = Unit {0}

abbrev pub AreKinds : List Kind → Type 0
AreKinds [] = Unit {0}
AreKinds (kind ∷ kinds) = IsKind kind × AreKinds kinds

-- the first words of the rows differ
abbrev pub HaveWords : List Form → Type 0
HaveWords forms = (a b : ℕ) → a < b → b < length forms → bytes_eq (form_at forms a).word (form_at forms b).word ≡ false

-- values of a row are read back from their words
abbrev pub ReadWhatIsWritten : Type 0
ReadWhatIsWritten = (plan : Plan) (forms : List Form) (row : ℕ) (values : List ℕ) → HasNames plan → HaveWords forms → row < length forms → AreKinds (form_at forms row).kinds
    → AreValuesOf plan (form_at forms row).kinds values → line_said plan forms (row_words plan (form_at forms row) values) ≡ Ok (row, values)

-- the words that are read as values of a row are those that are written for them
abbrev pub WrittenAsRead : Type 0
WrittenAsRead = (plan : Plan) (forms : List Form) (word : List ℕ) (words : List (List ℕ)) (read : ℕ × List ℕ) → AreKinds (form_at forms read.0).kinds
    → line_said plan forms (word ∷ words) ≡ Ok read → row_words plan (form_at forms read.0) read.1 ≡ word ∷ words

-- ---- tests of a table, which compute

abbrev pub is_kind : Kind → Bool
is_kind (Number low high) = nat_lt high 18446744073709551616
is_kind kind = true

unfoldable pub have_kinds : List Form → Bool
have_kinds [] = true
have_kinds (f ∷ forms) = list_all is_kind f.kinds && have_kinds forms

unfoldable pub have_words : List Form → Bool
have_words [] = true
have_words (f ∷ forms) = list_all (λ other. not (bytes_eq f.word other.word)) forms && have_words forms
