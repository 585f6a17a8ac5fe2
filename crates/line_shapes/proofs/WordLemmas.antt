-- The words of values one by one.
use Rattle.std.proofs.Common.{◌≡◌, ◌<◌, ◌+◌, ◌++◌, ◌∙◌, ℕ, zero, suc, List, [], ◌∷◌, length, map, get_or, drop, take, slice_set, refl, sym, ap, arith, append_assoc}
use Rattle.std.proofs.lemmas.List.{map-append, take_more_set}
use Rattle.net_base.specs.declared.plan.Plan.{Plan}
use Rattle.text_lines.specs.Lines.{word_octets}
use Rattle.text_lines.specs.declared.line_word.LineWord.{LineWord}
use Rattle.line_shapes.specs.Shapes.{nth_value, value_word, value_words, values_behind}
use Rattle.line_shapes.specs.declared.kind.Kind.{Kind}

-- the values from a place on
abbrev pub values_from : ℕ → List ℕ → List ℕ
values_from zero values = values
values_from (suc place) values = values_from place (values_behind values)

next_word : (plan : Plan) (kinds : List Kind) (values : List ℕ) (place : ℕ) (none : Kind) → place < length kinds
    → value_words plan (drop place kinds) (values_from place values)
    ≡ value_word plan (get_or kinds place none) (nth_value place values) ∷ value_words plan (drop (suc place) kinds) (values_from (suc place) values)
next_word plan [] values place none lt = absurd (omega (arith, lt))
next_word plan (kind ∷ kinds) values zero none lt = refl
next_word plan (kind ∷ kinds) values (suc place) none lt = next_word plan kinds (values_behind values) place none (omega (arith, lt))

one_more : (room : List LineWord) (count : ℕ) (word : LineWord) → count < length room
    → map word_octets (take (count + 1) (slice_set room count word)) ≡ map word_octets (take count room) ++ word_octets word ∷ []
one_more room count word lt = ap (λ (l : List LineWord). map word_octets l) (take_more_set room count word lt) ∙ map-append word_octets (take count room) (word ∷ [])

-- one word more
pub words_more : (plan : Plan) (kinds : List Kind) (values : List ℕ) (room : List LineWord) (count place : ℕ) (none : Kind) (word : LineWord) (value : ℕ) {whole : List (List ℕ)}
    → place < length kinds → count < length room → word_octets word ≡ value_word plan (get_or kinds place none) value → value ≡ nth_value place values
    → map word_octets (take count room) ++ value_words plan (drop place kinds) (values_from place values) ≡ whole
    → map word_octets (take (count + 1) (slice_set room count word)) ++ value_words plan (drop (place + 1) kinds) (values_from (place + 1) values) ≡ whole
words_more plan kinds values room count place none word value lt few said is same =
    let front : List (List ℕ) = map word_octets (take count room) in
    let rest : List (List ℕ) = value_words plan (drop (suc place) kinds) (values_from (suc place) values) in
    let there : word_octets word ≡ value_word plan (get_or kinds place none) (nth_value place values) = said ∙ ap (value_word plan (get_or kinds place none)) is in
    let next : place + 1 ≡ suc place = omega arith in
    rw next (ap (λ (l : List (List ℕ)). l ++ rest) (one_more room count word few)
    ∙ (append_assoc front (word_octets word ∷ []) rest
    ∙ (ap (λ (w : List ℕ). front ++ w ∷ rest) there ∙ (ap (λ (l : List (List ℕ)). front ++ l) (sym (next_word plan kinds values place none lt)) ∙ same))))

-- the first word
pub words_first : (room : List LineWord) (word : LineWord) (words : List (List ℕ)) → 0 < length room → map word_octets (take 1 (slice_set room 0 word)) ++ words ≡ word_octets word ∷ words
words_first room word words some = ap (λ (l : List (List ℕ)). l ++ words) (one_more room 0 word some)

-- the words behind the first one
pub behind_first : (words : List LineWord) → map word_octets (drop 1 words) ≡ drop 1 (map word_octets words)
behind_first [] = refl
behind_first (word ∷ words) = refl
