-- What names, numbers, octets and switches say.
use Rattle.std.proofs.Common.{◌≡◌, ◌<◌, ◌≤◌, ◌+◌, ◌*◌, ◌/◌, ◌%◌, ◌^◌, ◌==◌, ◌&&◌, ℕ, zero, suc, Bool, true, List, [], ◌∷◌, length, map, get_or, slice_get, slice_index, Option, Some, None, option_map, unwrap_or, nat_le, refl, ap, arith}
use Rattle.std.proofs.lemmas.List.{length-map}
use Rattle.std.specs.Fmt.{decimal}
use Rattle.std.specs.List.{All, list_all}
use Rattle.std.proofs.lemmas.Bool.{eqb-true, le-leb, and_parts as parts}
use Rattle.std.proofs.lemmas.Bool.Decides.{nat_tests}
use Rattle.std.proofs.lemmas.Fmt.{digits_decimal}
use Rattle.hex.specs.Hex.{encode_with, lower_digits}
use Rattle.net_values.specs.Name.{IsName, is_name_octet_of}
use Rattle.line_shapes.specs.Choices.{choice_word, choice_words}
use Rattle.line_shapes.specs.declared.choice.Choice.{Choice}
use Rattle.line_shapes.specs.declared.choice.Choice.TheVariants.{Switch, Cause, End, State}
use Rattle.line_shapes.specs.Words.{name_or_empty}
use Rattle.script_text.specs.Script.{is_graphic}
use Rattle.script_text.proofs.PartLemmas.{AreWhole, IsWhole}
use Rattle.plan_names.specs.Decimal.{is_digit_of}
use Rattle.octet_text.specs.Hex.{digit_value, pair_value, unhex}
use Rattle.command_text.specs.Hex.{frame_of}
use Rattle.plan_names.proofs.BelowLemmas.{all_below, below_at}
use Rattle.plan_names.proofs.DecimalLemmas.{numerals}
use Rattle.line_shapes.proofs.NameLemmas.{row_name}
use Rattle.text_pieces.specs.Pieces.{hex}
use Rattle.net_base.specs.declared.plan.Plan.{Plan}
use Rattle.plan_names.specs.Planned.{AreNames, HasNames}
use Rattle.line_shapes.specs.Laws.{AreKinds, IsKind, have_kinds}
use Rattle.line_shapes.specs.Shapes.{AreValuesOf, Form, IsFit, first_value, form_at, row_words, value_word, value_words, values_behind}
use Rattle.line_shapes.proofs.TableLemmas.{are_kinds}
use Rattle.line_shapes.specs.declared.kind.Kind.{Kind}
use Rattle.line_shapes.specs.declared.kind.Kind.TheVariants.{Edge, Circuit, Wire, Between, Number, OneOf}
use Rattle.event_laws.specs.Law.{IsWritable}

-- graphic octets
abbrev pub IsGraphic : List ℕ → Type 0
IsGraphic word = list_all is_graphic word ≡ true

abbrev pub AreGraphic : List (List ℕ) → Type 0
AreGraphic [] = Unit {0}
AreGraphic (word ∷ words) = IsGraphic word × AreGraphic words

-- they have no space among them
pub whole_word : (word : List ℕ) → IsGraphic word → IsWhole word
whole_word [] e = tt
whole_word (c ∷ cs) e =
    let both = parts (is_graphic c) (list_all is_graphic cs) e in
    let above = (parts (nat_le 33 c) (nat_le c 126) both.0).0 in
    (grind (arith, nat_tests, above), whole_word cs both.1)

pub whole_words : (words : List (List ℕ)) → AreGraphic words → AreWhole words
whole_words [] are = tt
whole_words (word ∷ words) are = (whole_word word are.0, whole_words words are.1)

graphic_at : (c : ℕ) → 33 ≤ c → c ≤ 126 → is_graphic c ≡ true
graphic_at c low high = rw (le-leb 33 c low, le-leb c 126 high) refl

graphic_by : (test : ℕ → Bool) → ((c : ℕ) → test c ≡ true → is_graphic c ≡ true) → (word : List ℕ) → list_all test word ≡ true → IsGraphic word
graphic_by test graphic [] e = refl
graphic_by test graphic (c ∷ cs) e =
    let both = parts (test c) (list_all test cs) e in
    rw (graphic c both.0, graphic_by test graphic cs both.1) refl

digit_graphic : (c : ℕ) → is_digit_of c ≡ true → is_graphic c ≡ true
digit_graphic c e = graphic_at c (grind (arith, nat_tests, e)) (grind (arith, nat_tests, e))

pub decimal_graphic : (n : ℕ) → n < 2 ^ 64 → IsGraphic (decimal n)
decimal_graphic n h = graphic_by is_digit_of digit_graphic (decimal n) (digits_decimal numerals n h)

is_read : ℕ → Bool
is_read d = unwrap_or (digit_value (slice_index lower_digits d)) 16 == d

some_from : (o : Option ℕ) (d : ℕ) → d < 16 → unwrap_or o 16 ≡ d → o ≡ Some d
some_from (Some v) d lt e = ap Some e
some_from None d lt e = absurd (omega arith)

digit_read : (d : ℕ) → d < 16 → digit_value (slice_index lower_digits d) ≡ Some d
unfolding is_read all_below
digit_read d lt = some_from (digit_value (slice_index lower_digits d)) d lt (eqb-true _ d (below_at is_read 16 d refl lt))

pair_read : (octet : ℕ) → octet < 256 → pair_value (slice_index lower_digits (octet / 16)) (slice_index lower_digits (octet % 16)) ≡ Some octet
pair_read octet h =
    let whole : octet / 16 * 16 + octet % 16 ≡ octet = omega arith in
    rw (digit_read (octet / 16) (omega arith), digit_read (octet % 16) (omega arith)) (ap Some whole)

-- octets are read from their digits
pub octets_read : (octets : List ℕ) → All (λ octet. octet < 256) octets → unhex (hex octets) ≡ Some octets
unfolding encode_with
octets_read [] fit = refl
octets_read (octet ∷ octets) fit =
    rw (pair_read octet (fit 0 0 (omega arith)), octets_read octets (λ k d lt. fit (suc k) d (omega arith))) refl

hex_graphic : (d : ℕ) → d < 16 → is_graphic (slice_index lower_digits d) ≡ true
unfolding all_below
hex_graphic d lt = below_at (λ n. is_graphic (slice_index lower_digits n)) 16 d refl lt

pub octets_graphic : (octets : List ℕ) → All (λ octet. octet < 256) octets → IsGraphic (hex octets)
unfolding encode_with
octets_graphic [] fit = refl
octets_graphic (octet ∷ octets) fit =
    rw (hex_graphic (octet / 16) (omega (arith, fit 0 0 (omega arith))), hex_graphic (octet % 16) (omega arith), octets_graphic octets (λ k d lt. fit (suc k) d (omega arith))) refl

-- a frame is read from its digits
pub frame_said : (octets : List ℕ) → IsWritable octets → frame_of (hex octets) ≡ Some octets
frame_said octets fit = rw (octets_read octets fit.each, le-leb 1 (length octets) fit.some, le-leb (length octets) 9216 fit.few) refl

name_graphic : (c : ℕ) → is_name_octet_of c ≡ true → is_graphic c ≡ true
name_graphic c e = graphic_at c (grind (arith, nat_tests, e)) (grind (arith, nat_tests, e))

pub name_is_graphic : (name : List ℕ) → IsName name → IsGraphic name
name_is_graphic name is = graphic_by is_name_octet_of name_graphic name (parts (nat_le 1 (length name) && nat_le (length name) 32) (list_all is_name_octet_of name) is).1

pub row_graphic : {Y : Type 0} (f : Y → List ℕ) (rows : List Y) (i : ℕ) → AreNames (map f rows) → i < length rows
    → IsGraphic (name_or_empty (option_map f (slice_get rows i)))
row_graphic f rows i are lt = rw (row_name f rows i lt) (name_is_graphic (get_or (map f rows) i []) (are.each i [] (rw length-map lt)))

choice_graphic : (choice : Choice) (n : ℕ) → n < length (choice_words choice) → IsGraphic (choice_word choice n)
unfolding all_below
choice_graphic Switch n lt = below_at (λ k. list_all is_graphic (choice_word Switch k)) 2 n refl lt
choice_graphic Cause n lt = below_at (λ k. list_all is_graphic (choice_word Cause k)) 18 n refl lt
choice_graphic End n lt = below_at (λ k. list_all is_graphic (choice_word End k)) 9 n refl lt
choice_graphic State n lt = below_at (λ k. list_all is_graphic (choice_word State k)) 16 n refl lt

word_graphic : (plan : Plan) (kind : Kind) (value : ℕ) → HasNames plan → IsKind kind → IsFit plan kind value → IsGraphic (value_word plan kind value)
word_graphic plan Edge value names small fit = row_graphic (λ row. row.name) plan.edges value names.edges fit
word_graphic plan Circuit value names small fit = row_graphic (λ row. row.name) plan.circuits value names.circuits fit
word_graphic plan Wire value names small fit = row_graphic (λ row. row.name) plan.wires value names.wires fit
word_graphic plan Between value names small fit = row_graphic (λ row. row.name) plan.wires value names.wires fit.0
word_graphic plan (Number low high) value names small fit = decimal_graphic value (omega (arith, small, fit.1))
word_graphic plan (OneOf choice) value names small fit = choice_graphic choice value fit

-- the words of values are graphic
pub values_graphic : (plan : Plan) (kinds : List Kind) (values : List ℕ) → HasNames plan → AreKinds kinds → AreValuesOf plan kinds values → AreGraphic (value_words plan kinds values)
values_graphic plan [] values names small fit = tt
values_graphic plan (kind ∷ kinds) values names small fit =
    (word_graphic plan kind (first_value values) names small.0 fit.1.0, values_graphic plan kinds (values_behind values) names small.1 fit.1.1)

form_graphic : (forms : List Form) (row : ℕ) → list_all (λ (f : Form). list_all is_graphic f.word) forms ≡ true → IsGraphic (form_at forms row).word
form_graphic [] row all = refl
form_graphic (f ∷ forms) zero all = (parts (list_all is_graphic f.word) (list_all (λ (g : Form). list_all is_graphic g.word) forms) all).0
form_graphic (f ∷ forms) (suc row) all = form_graphic forms row (parts (list_all is_graphic f.word) (list_all (λ (g : Form). list_all is_graphic g.word) forms) all).1

-- and so are those of a row, where the first words of the table are
pub row_words_graphic : (plan : Plan) (forms : List Form) (row : ℕ) (values : List ℕ) → HasNames plan → list_all (λ (f : Form). list_all is_graphic f.word) forms ≡ true → have_kinds forms ≡ true
    → AreValuesOf plan (form_at forms row).kinds values → AreGraphic (row_words plan (form_at forms row) values)
row_words_graphic plan forms row values names graphic kinds fit =
    (form_graphic forms row graphic, values_graphic plan (form_at forms row).kinds values names (are_kinds forms row kinds) fit)
