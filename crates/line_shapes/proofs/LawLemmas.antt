-- Values of a row are read back from their words.
use Rattle.std.proofs.Common.{◌≡◌, ◌<◌, ◌+◌, ◌++◌, ℕ, zero, suc, false, List, [], ◌∷◌, length, slice_get, Some, None, Ok, refl, sym, ap, arith, ◌==◌, Bool, true, Option, unwrap_or, append_assoc, length-append}
use Rattle.std.specs.List.{position_or_len}
use Rattle.std.specs.Str.{bytes_eq}
use Rattle.std.proofs.lemmas.Bool.{eqb-true, lt-ltb}
use Rattle.net_base.specs.declared.plan.Plan.{Plan}
use Rattle.net_values.proofs.RowLemmas.{same_octets}
use Rattle.plan_names.specs.Planned.{HasNames}
use Rattle.plan_names.specs.Names.{place_in}
use Rattle.line_shapes.specs.Choices.{choice_word, choice_words}
use Rattle.line_shapes.specs.declared.choice.Choice.{Choice}
use Rattle.line_shapes.specs.declared.choice.Choice.TheVariants.{Switch, Cause, End, State}
use Rattle.plan_names.proofs.BelowLemmas.{all_below, below_at}
use Rattle.plan_names.proofs.DecimalLemmas.{number_said}
use Rattle.line_shapes.proofs.NameLemmas.{row_said}
use Rattle.line_shapes.specs.Laws.{IsKind, AreKinds, HaveWords, ReadWhatIsWritten}
use Rattle.line_shapes.specs.Shapes.{Form, AreValuesOf, IsFit, between_two, form_at, has_word, line_said, row_of_word, value_in, value_word, value_words, values_said}
use Rattle.line_shapes.specs.declared.kind.Kind.{Kind}
use Rattle.line_shapes.specs.declared.kind.Kind.TheVariants.{Edge, Circuit, Wire, Between, Number, OneOf}

-- each word of a choice stands once
is_found : Choice → ℕ → Bool
is_found choice place = unwrap_or (place_in (choice_words choice) (choice_word choice place)) (length (choice_words choice)) == place

all_found : (choice : Choice) → all_below (is_found choice) (length (choice_words choice)) ≡ true
unfolding all_below is_found
all_found Switch = refl
all_found Cause = refl
all_found End = refl
all_found State = refl

some_place : (o : Option ℕ) (most place : ℕ) → place < most → unwrap_or o most ≡ place → o ≡ Some place
some_place (Some n) most place lt e = ap Some e
some_place None most place lt e = absurd (omega (arith, lt, e))

choice_said : (choice : Choice) (place : ℕ) → place < length (choice_words choice) → place_in (choice_words choice) (choice_word choice place) ≡ Some place
unfolding is_found
choice_said choice place lt =
    some_place (place_in (choice_words choice) (choice_word choice place)) (length (choice_words choice)) place lt
    (eqb-true _ place (below_at (is_found choice) (length (choice_words choice)) place (all_found choice) lt))

-- a value is read back from its word
pub value_said : (plan : Plan) (kind : Kind) (value : ℕ) → HasNames plan → IsKind kind → IsFit plan kind value → value_in plan kind (value_word plan kind value) ≡ Some value
unfolding between_two
value_said plan Edge value names is fit = row_said (λ e. e.name) plan.edges value names.edges fit
value_said plan Circuit value names is fit = row_said (λ c. c.name) plan.circuits value names.circuits fit
value_said plan Wire value names is fit = row_said (λ w. w.name) plan.wires value names.wires fit
value_said plan Between value names is fit = rw (row_said (λ w. w.name) plan.wires value names.wires fit.0, fit.1) refl
value_said plan (Number low high) value names is fit = number_said low high value fit.0 fit.1 (omega (arith, is, fit.1))
value_said plan (OneOf choice) value names is fit = choice_said choice value fit

at_front : (front : List (List ℕ)) (word : List ℕ) (words : List (List ℕ)) → slice_get (front ++ word ∷ words) (length front) ≡ Some word
at_front [] word words = refl
at_front (x ∷ front) word words = at_front front word words

at_end : (front : List (List ℕ)) → slice_get (front ++ []) (length front) ≡ None
at_end [] = refl
at_end (x ∷ front) = at_end front

values_read : (plan : Plan) (front : List (List ℕ)) (kinds : List Kind) (values : List ℕ) (at : ℕ) → at ≡ length front → HasNames plan → AreKinds kinds → AreValuesOf plan kinds values
    → values_said plan (front ++ value_words plan kinds values) at kinds ≡ Ok values
values_read plan front [] values at is names are fit = rw (is, at_end front, fit) refl
values_read plan front (kind ∷ kinds) [] at is names are fit = absurd (omega (arith, fit.0))
values_read plan front (kind ∷ kinds) (value ∷ values) at is names are fit =
    let word : List ℕ = value_word plan kind value in
    let words : List (List ℕ) = value_words plan kinds values in
    let size : length (front ++ word ∷ []) ≡ length front + 1 = length-append front (word ∷ []) in
    let joined : (front ++ word ∷ []) ++ words ≡ front ++ word ∷ words = append_assoc front (word ∷ []) words in
    let rest : values_said plan (front ++ word ∷ words) (length front + 1) kinds ≡ Ok values =
    rw (sym joined) (values_read plan (front ++ word ∷ []) kinds values (length front + 1) (sym size) names are.1 fit.1.1) in
    rw (is, at_front front word words, value_said plan kind value names are.0 fit.1.0, rest) refl

first_row : (forms : List Form) (row : ℕ) → row < length forms → ((a : ℕ) → a < row → bytes_eq (form_at forms a).word (form_at forms row).word ≡ false)
    → position_or_len (has_word (form_at forms row).word) forms ≡ row
first_row [] row lt apart = absurd (omega (arith, lt))
first_row (f ∷ forms) zero lt apart = rw (same_octets f.word) refl
first_row (f ∷ forms) (suc row) lt apart =
    rw (apart 0 (omega arith), first_row forms row (omega (arith, lt)) (λ a under. apart (suc a) (omega (arith, under)))) (omega arith)

row_found : (forms : List Form) (row : ℕ) → HaveWords forms → row < length forms → row_of_word forms (form_at forms row).word ≡ Some row
row_found forms row words lt =
    let first : position_or_len (has_word (form_at forms row).word) forms ≡ row = first_row forms row lt (λ a under. words a row under lt) in
    rw (first, lt-ltb row (length forms) lt) refl

-- a line is read back from its words
pub reads : ReadWhatIsWritten
unfolding line_said
reads plan forms row values names words lt kinds fit =
    let f : Form = form_at forms row in
    let rest : values_said plan ((f.word ∷ []) ++ value_words plan f.kinds values) 1 f.kinds ≡ Ok values = values_read plan (f.word ∷ []) f.kinds values 1 refl names kinds fit in
    rw (row_found forms row words lt, rest) refl
