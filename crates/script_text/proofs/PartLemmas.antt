-- Parts of a text by the first octet that parts it.
use Rattle.std.proofs.Common.{◌≡◌, ◌<◌, ◌≤◌, ◌∙◌, ◌+◌, ◌-◌, ◌++◌, ◌==◌, nat_eq, ℕ, zero, suc, Bool, true, false, cond, List, [], ◌∷◌, length, drop, slice_get, Option, Some, None, option_and_then, count_by, if◌then◌else◌, refl, sym, ap, arith, inl, inr}
use Rattle.std.proofs.lemmas.Bool.{cases_Bool, eqb-true}
use Rattle.std.proofs.lemmas.List.Recursion.{is_count_by}
use Rattle.octet_text.specs.Cut.{before_mark, behind_mark}
use Rattle.script_text.specs.Parts.{before_part, parted_by}
use Rattle.script_text.specs.Script.{space, bad_word, is_word, spaced_words, words_of}

-- the first part and the others
abbrev first_and : List ℕ → Option (List (List ℕ)) → List (List ℕ)
first_and part None = part ∷ []
first_and part (Some parts) = part ∷ parts

abbrev parts_of : ℕ → Option (List ℕ) → Option (List (List ℕ))
parts_of by None = None
parts_of by (Some rest) = Some (parted_by by rest)

before_and : (octet : ℕ) (part : List ℕ) (parts : Option (List (List ℕ))) → before_part octet (first_and part parts) ≡ first_and (octet ∷ part) parts
before_and octet part None = refl
before_and octet part (Some parts) = refl

-- a text is its first part, and the parts of what follows it
cut_first : (by : ℕ) (text : List ℕ) → parted_by by text ≡ first_and (before_mark by text) (parts_of by (behind_mark by text))
unfolding parted_by
cut_first by [] = refl
cut_first by (octet ∷ rest) = of_test (octet == by) (cut_first by rest)
  where
    of_test : (test : Bool) → parted_by by rest ≡ first_and (before_mark by rest) (parts_of by (behind_mark by rest))
        → (if test then [] ∷ parted_by by rest else before_part octet (parted_by by rest))
        ≡ first_and (if test then [] else octet ∷ before_mark by rest) (parts_of by (if test then Some rest else behind_mark by rest))
    of_test true later = refl
    of_test false later = ap (before_part octet) later ∙ before_and octet (before_mark by rest) (parts_of by (behind_mark by rest))

-- a text without such an octet is one part
pub parted_one : (by : ℕ) (text : List ℕ) → None ≡ behind_mark by text → parted_by by text ≡ before_mark by text ∷ []
parted_one by text none = cut_first by text ∙ ap (λ after. first_and (before_mark by text) (parts_of by after)) (sym none)

pub parted_more : (by : ℕ) (text rest : List ℕ) → Some rest ≡ behind_mark by text → parted_by by text ≡ before_mark by text ∷ parted_by by rest
parted_more by text rest some = cut_first by text ∙ ap (λ after. first_and (before_mark by text) (parts_of by after)) (sym some)

-- a text without such an octet is its first part
pub whole_or_part : (by : ℕ) (text : List ℕ) → None ≡ behind_mark by text → before_mark by text ≡ text
whole_or_part by [] none = refl
whole_or_part by (octet ∷ rest) none = of_test (octet == by) none (whole_or_part by rest)
  where
    of_test : (test : Bool) → None ≡ (if test then Some rest else behind_mark by rest) → (None ≡ behind_mark by rest → before_mark by rest ≡ rest)
        → (if test then [] else octet ∷ before_mark by rest) ≡ octet ∷ rest
    of_test true none later = absurd (cc)
    of_test false none later = ap (λ (l : List ℕ). octet ∷ l) (later none)

-- the words of a text are its first word and others
pub words_begin : (text : List ℕ) → words_of text ≡ before_mark space text ∷ drop 1 (words_of text)
words_begin text = cut_first space text ∙ by (parts_of space (behind_mark space text)) ∙ ap (λ (words : List (List ℕ)). before_mark space text ∷ drop 1 words) (sym (cut_first space text)) where
  by : (parts : Option (List (List ℕ))) → first_and (before_mark space text) parts ≡ before_mark space text ∷ drop 1 (first_and (before_mark space text) parts)
  by None = refl
  by (Some parts) = refl

-- words by their indexes
pub word_first : (text : List ℕ) → slice_get (words_of text) 0 ≡ Some (before_mark space text)
word_first text = of_after (behind_mark space text) refl
  where
    of_after : (after : Option (List ℕ)) → behind_mark space text ≡ after → slice_get (words_of text) 0 ≡ Some (before_mark space text)
    of_after None is = ap (λ (words : List (List ℕ)). slice_get words 0) (parted_one space text (sym is))
    of_after (Some rest) is = ap (λ (words : List (List ℕ)). slice_get words 0) (parted_more space text rest (sym is))

pub word_behind : (n : ℕ) (text : List ℕ) → slice_get (words_of text) (suc n) ≡ option_and_then (λ rest. slice_get (words_of rest) n) (behind_mark space text)
word_behind n text = of_after (behind_mark space text) refl
  where
    of_after : (after : Option (List ℕ)) → behind_mark space text ≡ after → slice_get (words_of text) (suc n) ≡ option_and_then (λ rest. slice_get (words_of rest) n) after
    of_after None is = ap (λ (words : List (List ℕ)). slice_get words (suc n)) (parted_one space text (sym is))
    of_after (Some rest) is = ap (λ (words : List (List ℕ)). slice_get words (suc n)) (parted_more space text rest (sym is))

pub word_step : (n : ℕ) (text rest : List ℕ) → 0 < n → Some rest ≡ behind_mark space text → slice_get (words_of rest) (n - 1) ≡ slice_get (words_of text) n
word_step zero text rest some e = absurd (omega arith)
word_step (suc n) text rest some e =
    let same : suc n - 1 ≡ n = omega arith in
    ap (λ m. slice_get (words_of rest) m) same ∙ sym (word_behind n text ∙ ap (λ o. option_and_then (λ r. slice_get (words_of r) n) o) (sym e))

pub word_none : (n : ℕ) (text : List ℕ) → 0 < n → None ≡ behind_mark space text → slice_get (words_of text) n ≡ None
word_none zero text some e = absurd (omega arith)
word_none (suc n) text some e = word_behind n text ∙ ap (λ o. option_and_then (λ r. slice_get (words_of r) n) o) (sym e)

pub word_here : (n : ℕ) (text word : List ℕ) → word ≡ before_mark space text → n ≤ 0 → Some word ≡ slice_get (words_of text) n
word_here zero text word is none = ap Some is ∙ sym (word_first text)
word_here (suc n) text word is none = absurd (omega (arith, none))

-- the first word that is none
pub bad_here : (number : ℕ) (text : List ℕ) → is_word (before_mark space text) ≡ false → bad_word number (words_of text) ≡ Some number
bad_here number text none = of_after (behind_mark space text) refl
  where
    of_after : (after : Option (List ℕ)) → behind_mark space text ≡ after → bad_word number (words_of text) ≡ Some number
    of_after None is = ap (bad_word number) (parted_one space text (sym is)) ∙ rw none refl
    of_after (Some rest) is = ap (bad_word number) (parted_more space text rest (sym is)) ∙ rw none refl

pub bad_later : (number : ℕ) (text rest : List ℕ) → is_word (before_mark space text) ≡ true → Some rest ≡ behind_mark space text → bad_word number (words_of text) ≡ bad_word (number + 1) (words_of rest)
bad_later number text rest word e = ap (bad_word number) (parted_more space text rest e) ∙ rw word refl

pub bad_last : (number : ℕ) (text : List ℕ) → is_word (before_mark space text) ≡ true → None ≡ behind_mark space text → bad_word number (words_of text) ≡ None
bad_last number text word e = ap (bad_word number) (parted_one space text e) ∙ rw word refl

-- how many parts there are
before_length : (octet : ℕ) (parts : List (List ℕ)) → 0 < length parts → length (before_part octet parts) ≡ length parts
before_length octet [] some = absurd (omega arith)
before_length octet (part ∷ parts) some = refl

pub some_parts : (by : ℕ) (text : List ℕ) → 0 < length (parted_by by text)
unfolding parted_by
some_parts by [] = omega arith
some_parts by (octet ∷ rest) = elim (cases_Bool (octet == by)) [
  | inl same ↦ rw same (omega arith)
  | inr other ↦ rw other (omega (arith, before_length octet (parted_by by rest) (some_parts by rest), some_parts by rest))
]

nothing : length (parted_by space []) - 1 ≡ 0
unfolding parted_by
nothing = refl

of_test : (test : Bool) (octet : ℕ) (rest : List ℕ) → 0 < length (parted_by space rest)
    → length (if test then [] ∷ parted_by space rest else before_part octet (parted_by space rest)) - 1 ≡ cond test (1 + (length (parted_by space rest) - 1)) (length (parted_by space rest) - 1)
of_test true octet rest some = omega (arith, some)
of_test false octet rest some = omega (arith, before_length octet (parted_by space rest) some)

more : (octet : ℕ) (rest : List ℕ) → length (parted_by space (octet ∷ rest)) - 1 ≡ cond (octet == space) (1 + (length (parted_by space rest) - 1)) (length (parted_by space rest) - 1)
unfolding parted_by
more octet rest = of_test (octet == space) octet rest (some_parts space rest)

pub count_parts : (text : List ℕ) → length (words_of text) ≡ count_by (λ octet. octet == space) text + 1
count_parts text = omega (arith, is_count_by (λ t. length (parted_by space t) - 1) (λ octet. octet == space) nothing more text, some_parts space text)

-- ---- words with a space between each two

spaced_before : (octet : ℕ) (parts : List (List ℕ)) → spaced_words (before_part octet parts) ≡ octet ∷ spaced_words parts
spaced_before octet [] = refl
spaced_before octet (part ∷ []) = refl
spaced_before octet (part ∷ next ∷ parts) = refl

spaced_more : (parts : List (List ℕ)) → 0 < length parts → spaced_words ([] ∷ parts) ≡ space ∷ spaced_words parts
spaced_more [] some = absurd (omega (arith, some))
spaced_more (part ∷ parts) some = refl

-- the words of a line make the line again
words_back : (text : List ℕ) → spaced_words (words_of text) ≡ text
unfolding parted_by
words_back [] = refl
words_back (octet ∷ rest) = of_test (nat_eq octet space) (λ is. eqb-true octet space is) (words_back rest)
  where
    of_test : (test : Bool) → (test ≡ true → octet ≡ space) → spaced_words (words_of rest) ≡ rest → spaced_words (if test then [] ∷ words_of rest else before_part octet (words_of rest)) ≡ octet ∷ rest
    of_test true is back = spaced_more (words_of rest) (some_parts space rest) ∙ (ap (λ o. o ∷ spaced_words (words_of rest)) (sym (is (λ i. true))) ∙ ap (λ l. octet ∷ l) back)
    of_test false is back = spaced_before octet (words_of rest) ∙ ap (λ l. octet ∷ l) back

-- what follows the first word
pub words_behind : (text rest : List ℕ) → Some rest ≡ behind_mark space text → rest ≡ spaced_words (drop 1 (words_of text))
words_behind text rest e = sym (ap (λ (ws : List (List ℕ)). spaced_words (drop 1 ws)) (parted_more space text rest e) ∙ words_back rest)

pub no_words_behind : (text : List ℕ) → None ≡ behind_mark space text → [] ≡ spaced_words (drop 1 (words_of text))
no_words_behind text e = sym (ap (λ (ws : List (List ℕ)). spaced_words (drop 1 ws)) (parted_one space text e))

-- ---- words without a space among their octets are read again

abbrev pub IsWhole : List ℕ → Type 0
IsWhole [] = Unit {0}
IsWhole (octet ∷ rest) = ((octet == space) ≡ false) × IsWhole rest

abbrev pub AreWhole : List (List ℕ) → Type 0
AreWhole [] = Unit {0}
AreWhole (word ∷ words) = IsWhole word × AreWhole words

whole_then : (word rest : List ℕ) → IsWhole word → words_of (word ++ space ∷ rest) ≡ word ∷ words_of rest
unfolding parted_by
whole_then [] rest whole = refl
whole_then (octet ∷ word) rest whole = rw whole.0 (ap (before_part octet) (whole_then word rest whole.1))

whole_alone : (word : List ℕ) → IsWhole word → words_of word ≡ word ∷ []
unfolding parted_by
whole_alone [] whole = refl
whole_alone (octet ∷ word) whole = rw whole.0 (ap (before_part octet) (whole_alone word whole.1))

pub words_again : (word : List ℕ) (words : List (List ℕ)) → AreWhole (word ∷ words) → words_of (spaced_words (word ∷ words)) ≡ word ∷ words
words_again word [] whole = whole_alone word whole.0
words_again word (next ∷ words) whole = whole_then word (spaced_words (next ∷ words)) whole.0 ∙ ap (λ (l : List (List ℕ)). word ∷ l) (words_again next words whole.1)

pub first_again : (word : List ℕ) (words : List (List ℕ)) → AreWhole (word ∷ words) → before_mark space (spaced_words (word ∷ words)) ≡ word
first_again word words whole =
    let first : Some (before_mark space (spaced_words (word ∷ words))) ≡ Some word =
    sym (word_first (spaced_words (word ∷ words))) ∙ ap (λ (l : List (List ℕ)). slice_get l 0) (words_again word words whole) in
    cc first
