-- Lines of words: what the words behind the first one say, read and written.
use Rattle.std.specs.Prelude.{◌≡◌, ◌==◌, ◌+◌, ◌<◌, ◌≤◌, ◌++◌, position, zero, suc, ℕ, Bool, true, false, List, [], ◌∷◌, length, slice_get, Option, Some, None, option_and_then, is_some, Result, Ok, Err, if◌then◌else◌}
use Rattle.std.specs.Fmt.{decimal}
use Rattle.std.specs.Str.{bytes_eq}
use Rattle.net_base.specs.declared.plan.Plan.{Plan}
use Rattle.net_base.specs.declared.plan.wire_plan.WirePlan.{WirePlan}
use Rattle.net_base.specs.plan.NameFaults.{edge_names, circuit_names, wire_names}
use Rattle.plan_names.specs.Names.{place_in}
use Rattle.plan_names.specs.Decimal.{decimal_from}
use Rattle.line_shapes.specs.Choices.{choice_word, choice_words}
use Rattle.line_shapes.specs.Words.{edge_name, circuit_name, wire_name}
use Rattle.line_shapes.specs.declared.kind.Kind.{Kind}
use Rattle.line_shapes.specs.declared.kind.Kind.TheVariants.{Edge, Circuit, Wire, Between, Number, OneOf}
use Rattle.line_shapes.specs.declared.shape.Shape.{Shape}

-- ---- kinds

-- a wire without switching points
abbrev pub has_two_edges : Option WirePlan → Bool
has_two_edges None = false
has_two_edges (Some row) = length row.path == 2

unfoldable pub between_two : Plan → ℕ → Option ℕ
between_two plan wire = if has_two_edges (slice_get plan.wires wire) then Some wire else None

-- the value that a word says
abbrev pub value_in : Plan → Kind → List ℕ → Option ℕ
value_in plan Edge word = place_in (edge_names plan.edges) word
value_in plan Circuit word = place_in (circuit_names plan.circuits) word
value_in plan Wire word = place_in (wire_names plan.wires) word
value_in plan Between word = option_and_then (between_two plan) (place_in (wire_names plan.wires) word)
value_in plan (Number low high) word = decimal_from low high word
value_in plan (OneOf choice) word = place_in (choice_words choice) word

-- the word that says a value
abbrev pub value_word : Plan → Kind → ℕ → List ℕ
value_word plan Edge value = edge_name plan (record { 0 = value })
value_word plan Circuit value = circuit_name plan (record { 0 = value })
value_word plan Wire value = wire_name plan (record { 0 = value })
value_word plan Between value = wire_name plan (record { 0 = value })
value_word plan (Number low high) value = decimal value
value_word plan (OneOf choice) value = choice_word choice value

-- a value that a word of this kind says
abbrev pub IsFit : Plan → Kind → ℕ → Type 0
IsFit plan Edge value = value < length plan.edges
IsFit plan Circuit value = value < length plan.circuits
IsFit plan Wire value = value < length plan.wires
IsFit plan Between value = (value < length plan.wires) × (has_two_edges (slice_get plan.wires value) ≡ true)
IsFit plan (Number low high) value = (low ≤ value) × (value ≤ high)
IsFit plan (OneOf choice) value = value < length (choice_words choice)

-- ---- values

-- the first value, 0 where there is none, and those behind it
abbrev pub first_value : List ℕ → ℕ
first_value [] = 0
first_value (value ∷ values) = value

abbrev pub values_behind : List ℕ → List ℕ
values_behind [] = []
values_behind (value ∷ values) = values

-- the value at a place from 0
abbrev pub nth_value : ℕ → List ℕ → ℕ
nth_value zero values = first_value values
nth_value (suc place) values = nth_value place (values_behind values)

-- values of these kinds, one each
abbrev pub AreValuesOf : Plan → List Kind → List ℕ → Type 0
AreValuesOf plan [] values = values ≡ []
AreValuesOf plan (kind ∷ kinds) values = (length (values_behind values) + 1 ≡ length values) × (IsFit plan kind (first_value values) × AreValuesOf plan kinds (values_behind values))

-- a place that has no more than 16 bits
abbrev pub IsSmall : Kind → ℕ → Type 0
IsSmall Edge value = value < 65536
IsSmall Circuit value = value < 65536
IsSmall Wire value = value < 65536
IsSmall Between value = value < 65536
IsSmall (Number low high) value = Unit {0}
IsSmall (OneOf choice) value = Unit {0}

abbrev pub AreSmall : List Kind → List ℕ → Type 0
AreSmall [] values = Unit {0}
AreSmall (kind ∷ kinds) values = IsSmall kind (first_value values) × AreSmall kinds (values_behind values)

-- ---- lines

-- a first word, and the kinds of those behind it
pub record Form : Type 0 where
  pub word : List ℕ
  pub kinds : List Kind

abbrev pub form : List ℕ → List Kind → Form
form word kinds = record { word = word; kinds = kinds }

abbrev pub form_of : Shape → Form
form_of shape = form shape.0.now shape.1.now

infixl 10 ◌>>=◌
abbrev pub ◌>>=◌ : {A B : Type 0} → Result A ℕ → (A → Result B ℕ) → Result B ℕ
(Ok x) >>= f = f x
(Err number) >>= f = Err number

-- what has to be there, or the number of the word that lacks it
abbrev pub word_found : {A : Type 0} → ℕ → Option A → Result A ℕ
word_found number None = Err number
word_found number (Some x) = Ok x

-- the values of the words from this place on, counted from 0, or the number from 1 of the first word that does not fit
abbrev pub values_said : Plan → List (List ℕ) → ℕ → List Kind → Result (List ℕ) ℕ
values_said plan words at [] = if is_some (slice_get words at) then Err (at + 1) else Ok []
values_said plan words at (kind ∷ kinds) =
    word_found (at + 1) (option_and_then (value_in plan kind) (slice_get words at)) >>= (λ value. values_said plan words (at + 1) kinds >>= (λ values. Ok (value ∷ values)))

-- these before those read
abbrev pub with_values : List ℕ → Result (List ℕ) ℕ → Result (List ℕ) ℕ
with_values front read = read >>= (λ values. Ok (front ++ values))

-- the words of values
abbrev pub value_words : Plan → List Kind → List ℕ → List (List ℕ)
value_words plan [] values = []
value_words plan (kind ∷ kinds) values = value_word plan kind (first_value values) ∷ value_words plan kinds (values_behind values)

-- ---- one of several shapes

-- lines have three words behind the first one at most
abbrev pub AreShort : List Form → Type 0
AreShort [] = Unit {0}
AreShort (f ∷ forms) = (length f.kinds ≤ 3) × AreShort forms

abbrev pub has_word : List ℕ → Form → Bool
has_word word f = bytes_eq f.word word

-- the first row of this word
abbrev pub row_of_word : List Form → List ℕ → Option ℕ
row_of_word forms word = position (has_word word) forms

abbrev pub no_form : Form
no_form = form [] []

-- the form of a row
abbrev pub form_at : List Form → ℕ → Form
form_at [] row = no_form
form_at (f ∷ forms) zero = f
form_at (f ∷ forms) (suc row) = form_at forms row

-- the first word; empty where there is none
abbrev pub first_said : List (List ℕ) → List ℕ
first_said [] = []
first_said (word ∷ words) = word

-- the row and the values of a line, or the number of the first word that does not fit
unfoldable pub line_said : Plan → List Form → List (List ℕ) → Result (ℕ × List ℕ) ℕ
line_said plan forms words =
    word_found 1 (row_of_word forms (first_said words)) >>= (λ row. values_said plan words 1 (form_at forms row).kinds >>= (λ values. Ok (row, values)))

-- what a row and its values make; a word that does not fit tells nothing
abbrev pub told_by : {A : Type 0} → (ℕ → List ℕ → A) → Result (ℕ × List ℕ) ℕ → Option A
told_by made (Ok read) = Some (made read.0 read.1)
told_by made (Err number) = None

-- the words of a line
abbrev pub row_words : Plan → Form → List ℕ → List (List ℕ)
row_words plan f values = f.word ∷ value_words plan f.kinds values
