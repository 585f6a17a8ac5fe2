-- What is read of a line fits its kinds, and is written so: no two words say the same.
use Rattle.std.proofs.Common.{◌≡◌, ◌<◌, ◌≤◌, ◌^◌, ◌+◌, ◌==◌, ◌&&◌, ◌∙◌, not, ℕ, zero, suc, Bool, true, false, List, [], ◌∷◌, Option, Some, None, option_and_then, option_map, is_some, Result, Ok, Err, IfOk, IfSome, cond, drop, length, map, nat_eq, nat_le, nat_lt, get_or, slice_get, slice_index, if◌then◌else◌, refl, sym, ap, arith}
use Rattle.std.proofs.lemmas.Bool.{and_parts, eq-eqb, leb-true, lt-ltb}
use Rattle.std.proofs.lemmas.Bool.Decides.{Decides-ltb}
use Rattle.std.proofs.lemmas.Fmt.{decimal-digits_value}
use Rattle.std.proofs.lemmas.List.{length-map}
use Rattle.std.proofs.lemmas.List.Quantifiers.{position-Some}
use Rattle.std.proofs.lemmas.Option.{IfSome_then}
use Rattle.std.proofs.lemmas.Result.{IfOk-at_ok}
use Rattle.std.proofs.lemmas.Slice.Eq.{bytes_eq-Decides}
use Rattle.std.specs.Fmt.{decimal}
use Rattle.std.specs.List.{list_all}
use Rattle.std.specs.Str.{bytes_eq}
use Rattle.net_base.specs.declared.plan.Plan.{Plan}
use Rattle.plan_names.specs.Names.{place_in}
use Rattle.plan_names.specs.Decimal.{decimal_from, is_decimal, is_digit_of, value_from}
use Rattle.plan_names.proofs.DecimalLemmas.{numerals}
use Rattle.line_shapes.specs.Choices.{choice_words}
use Rattle.line_shapes.specs.Words.{name_or_empty}
use Rattle.line_shapes.specs.Laws.{AreKinds, IsKind, WrittenAsRead}
use Rattle.line_shapes.specs.Shapes.{◌>>=◌, AreValuesOf, Form, IsFit, between_two, first_said, form_at, word_found, has_two_edges, has_word, line_said, row_of_word, row_words, value_in, value_word, value_words, values_said}
use Rattle.line_shapes.specs.declared.kind.Kind.{Kind}
use Rattle.line_shapes.specs.declared.kind.Kind.TheVariants.{Edge, Circuit, Wire, Between, Number, OneOf}
use Rattle.line_shapes.proofs.NameLemmas.{row_name}

-- ---- words

-- no zero stands in front of others
lone_zero : (word : List ℕ) → not (slice_index word 0 == 48 && nat_lt 1 (length word)) ≡ true → 0 < length word → get_or word 0 0 ≡ 48 → length word ≡ 1
lone_zero [] is some lead = absurd (omega (arith, some))
lone_zero (d ∷ []) is some lead = refl
lone_zero (d ∷ e ∷ rest) is some lead = absurd (by (nat_eq d 48) (nat_lt 1 (length (d ∷ e ∷ rest))) (eq-eqb d 48 lead) (lt-ltb 1 (length (d ∷ e ∷ rest)) (omega arith)) is) where
  by : (a b : Bool) → a ≡ true → b ≡ true → not (a && b) ≡ true → ⊥
  by true true same more at = absurd (cc at)
  by true false same more at = absurd (cc more)
  by false b same more at = absurd (cc same)

decimal_is : (word : List ℕ) → is_decimal word ≡ true → value_from 0 word < 2 ^ 64 → decimal (value_from 0 word) ≡ word
decimal_is word is few =
    let parts = and_parts (nat_lt 0 (length word) && list_all is_digit_of word) (not (slice_index word 0 == 48 && nat_lt 1 (length word))) is in
    let front = and_parts (nat_lt 0 (length word)) (list_all is_digit_of word) parts.0 in
    let some : 0 < length word = (Decides-ltb 0 (length word)).0 front.0 in
    decimal-digits_value numerals word front.1 some (lone_zero word parts.1 some) few

pub number_read : (low high : ℕ) (word : List ℕ) → IfSome (decimal_from low high word) (λ n. ((low ≤ n) × (n ≤ high)) × (high < 2 ^ 64 → decimal n ≡ word))
number_read low high word = by (is_decimal word) (nat_le low (value_from 0 word)) (nat_le (value_from 0 word) high) refl refl refl where
  by : (a b c : Bool) → is_decimal word ≡ a → nat_le low (value_from 0 word) ≡ b → nat_le (value_from 0 word) high ≡ c
      → IfSome (cond (a && (b && c)) (Some (value_from 0 word)) None) (λ n. ((low ≤ n) × (n ≤ high)) × (high < 2 ^ 64 → decimal n ≡ word))
  by true true true is least most =
      let below : value_from 0 word ≤ high = leb-true (value_from 0 word) high most in
      ((leb-true low (value_from 0 word) least, below), λ few. decimal_is word is (omega (arith, below, few)))
  by true true false is least most = tt
  by true false c is least most = tt
  by false b c is least most = tt

place_read : (words : List (List ℕ)) (word : List ℕ) → IfSome (place_in words word) (λ n. (n < length words) × (Unit {0} → get_or words n [] ≡ word))
place_read words word = by (place_in words word) refl where
  by : (o : Option ℕ) → place_in words word ≡ o → IfSome o (λ n. (n < length words) × (Unit {0} → get_or words n [] ≡ word))
  by None at = tt
  by (Some n) at =
      let found = position-Some (bytes_eq word) words n [] at in
      (found.0, λ any. sym ((bytes_eq-Decides word (get_or words n [])).0 found.1))

name_read : {Y : Type 0} (f : Y → List ℕ) (rows : List Y) (word : List ℕ)
    → IfSome (place_in (map f rows) word) (λ n. (n < length rows) × (Unit {0} → name_or_empty (option_map f (slice_get rows n)) ≡ word))
name_read f rows word = IfSome_then (place_in (map f rows) word) (place_read (map f rows) word) (λ n said.
    let within : n < length rows = omega (arith, said.0, length-map rows f) in
    (within, λ any. row_name f rows n within ∙ said.1 any))

-- a value that a word says fits its kind, and has this word alone
abbrev pub IsRead : Plan → Kind → List ℕ → ℕ → Type 0
IsRead plan kind word value = IsFit plan kind value × (IsKind kind → value_word plan kind value ≡ word)

-- a wire of two edges
between_read : (plan : Plan) (word : List ℕ) (o : Option ℕ) → IfSome o (IsRead plan Wire word) → IfSome (option_and_then (between_two plan) o) (IsRead plan Between word)
unfolding between_two
between_read plan word None at = tt
between_read plan word (Some wire) at = by (has_two_edges (slice_get plan.wires wire)) refl where
  by : (b : Bool) → has_two_edges (slice_get plan.wires wire) ≡ b → IfSome (cond b (Some wire) None) (IsRead plan Between word)
  by true two = ((at.0, two), at.1)
  by false two = tt

pub value_read : (plan : Plan) (kind : Kind) (word : List ℕ) → IfSome (value_in plan kind word) (IsRead plan kind word)
value_read plan Edge word = name_read (λ e. e.name) plan.edges word
value_read plan Circuit word = name_read (λ c. c.name) plan.circuits word
value_read plan Wire word = name_read (λ w. w.name) plan.wires word
value_read plan Between word = between_read plan word (place_in (map (λ w. w.name) plan.wires) word) (name_read (λ w. w.name) plan.wires word)
value_read plan (Number low high) word = number_read low high word
value_read plan (OneOf choice) word = place_read (choice_words choice) word

-- ---- lines

nothing_at : (words : List (List ℕ)) (at : ℕ) → is_some (slice_get words at) ≡ false → drop at words ≡ []
nothing_at [] zero none = refl
nothing_at [] (suc at) none = refl
nothing_at (word ∷ words) zero none = cc none
nothing_at (word ∷ words) (suc at) none = nothing_at words at none

word_at : (words : List (List ℕ)) (at : ℕ) (word : List ℕ) → slice_get words at ≡ Some word → drop at words ≡ word ∷ drop (suc at) words
word_at [] at word is = cc is
word_at (x ∷ words) zero word is = ap (λ (w : List ℕ). w ∷ words) (ap (λ (o : Option (List ℕ)). name_or_empty o) is)
word_at (x ∷ words) (suc at) word is = word_at words at word is

abbrev AreRead : Plan → List Kind → List (List ℕ) → List ℕ → Type 0
AreRead plan kinds words values = AreValuesOf plan kinds values × (AreKinds kinds → value_words plan kinds values ≡ words)

values_read : (plan : Plan) (words : List (List ℕ)) (at : ℕ) (kinds : List Kind) → IfOk (values_said plan words at kinds) (AreRead plan kinds (drop at words))
values_read plan words at [] = by (is_some (slice_get words at)) refl where
  by : (b : Bool) → is_some (slice_get words at) ≡ b → IfOk (if b then Err (at + 1) else Ok []) (AreRead plan [] (drop at words))
  by true more = tt
  by false none = (refl, λ are. sym (nothing_at words at none))
values_read plan words at (kind ∷ kinds) = of_word (slice_get words at) refl (values_said plan words (at + 1) kinds) (values_read plan words (at + 1) kinds) where
  of_value : (word : List ℕ) → drop at words ≡ word ∷ drop (at + 1) words → (o : Option ℕ) → IfSome o (IsRead plan kind word) → (rest : Result (List ℕ) ℕ)
      → IfOk rest (AreRead plan kinds (drop (at + 1) words)) → IfOk (word_found (at + 1) o >>= (λ v. rest >>= (λ vs. Ok (v ∷ vs)))) (AreRead plan (kind ∷ kinds) (drop at words))
  of_value word is None one rest all = tt
  of_value word is (Some v) one (Err number) all = tt
  of_value word is (Some v) one (Ok vs) all = (
    (omega arith, (one.0, all.0)),
    λ are.
        let both : value_words plan (kind ∷ kinds) (v ∷ vs) ≡ word ∷ drop (at + 1) words = λ i. one.1 are.0 i ∷ all.1 are.1 i in
        both ∙ sym is,
  )

  of_word : (o : Option (List ℕ)) → slice_get words at ≡ o → (rest : Result (List ℕ) ℕ) → IfOk rest (AreRead plan kinds (drop (at + 1) words))
      → IfOk (word_found (at + 1) (option_and_then (value_in plan kind) o) >>= (λ v. rest >>= (λ vs. Ok (v ∷ vs)))) (AreRead plan (kind ∷ kinds) (drop at words))
  of_word None is rest all = tt
  of_word (Some word) is rest all =
      let next : suc at ≡ at + 1 = omega arith in
      of_value word (word_at words at word is ∙ ap (λ (n : ℕ). word ∷ drop n words) next) (value_in plan kind word) (value_read plan kind word) rest all

row_read : (forms : List Form) (word : List ℕ) → IfSome (row_of_word forms word) (λ row. (row < length forms) × ((form_at forms row).word ≡ word))
row_read forms word = by (row_of_word forms word) refl where
  at_form : (forms : List Form) (row : ℕ) → row < length forms → form_at forms row ≡ get_or forms row (form_at forms row)
  at_form [] row lt = absurd (omega (arith, lt))
  at_form (f ∷ forms) zero lt = refl
  at_form (f ∷ forms) (suc row) lt = at_form forms row (omega (arith, lt))

  by : (o : Option ℕ) → row_of_word forms word ≡ o → IfSome o (λ row. (row < length forms) × ((form_at forms row).word ≡ word))
  by None is = tt
  by (Some row) is =
      let found = position-Some (has_word word) forms row (form_at forms row) is in
      (found.0, ap (λ (f : Form). f.word) (at_form forms row found.0) ∙ (bytes_eq-Decides (get_or forms row (form_at forms row)).word word).0 found.1)

-- the row of a line and its values
pub record IsReadLine (plan : Plan) (forms : List Form) (words : List (List ℕ)) (read : ℕ × List ℕ) : Type 0 where
  pub within : read.0 < length forms
  pub fit : AreValuesOf plan (form_at forms read.0).kinds read.1
  pub same : AreKinds (form_at forms read.0).kinds → row_words plan (form_at forms read.0) read.1 ≡ first_said words ∷ drop 1 words

line_is : (plan : Plan) (forms : List Form) (words : List (List ℕ)) → IfOk (line_said plan forms words) (IsReadLine plan forms words)
unfolding line_said
line_is plan forms words = by (row_of_word forms (first_said words)) (row_read forms (first_said words)) where
  of_values : (row : ℕ) → row < length forms → (form_at forms row).word ≡ first_said words → (r : Result (List ℕ) ℕ) → IfOk r (AreRead plan (form_at forms row).kinds (drop 1 words))
      → IfOk (r >>= (λ values. Ok (row, values))) (IsReadLine plan forms words)
  of_values row lt is (Err number) read = tt
  of_values row lt is (Ok values) read = record { within = lt; fit = read.0; same = λ are i. is i ∷ read.1 are i }

  by : (o : Option ℕ) → IfSome o (λ row. (row < length forms) × ((form_at forms row).word ≡ first_said words))
      → IfOk (word_found 1 o >>= (λ row. values_said plan words 1 (form_at forms row).kinds >>= (λ values. Ok (row, values)))) (IsReadLine plan forms words)
  by None is = tt
  by (Some row) is = of_values row is.0 is.1 (values_said plan words 1 (form_at forms row).kinds) (values_read plan words 1 (form_at forms row).kinds)

pub read_is : (plan : Plan) (forms : List Form) (words : List (List ℕ)) (read : ℕ × List ℕ) → line_said plan forms words ≡ Ok read → IsReadLine plan forms words read
read_is plan forms words read e = IfOk-at_ok (IsReadLine plan forms words) e (line_is plan forms words)

-- a line is what is written for what was read of it
pub again : WrittenAsRead
again plan forms word words read are e = (read_is plan forms (word ∷ words) read e).same are

pub fit_result : (plan : Plan) (forms : List Form) (words : List (List ℕ)) (r : Result (ℕ × List ℕ) ℕ) → r ≡ line_said plan forms words
    → IfOk r (λ read. AreValuesOf plan (form_at forms read.0).kinds read.1)
fit_result plan forms words (Ok read) is = (read_is plan forms words read (sym is)).fit
fit_result plan forms words (Err number) is = tt
