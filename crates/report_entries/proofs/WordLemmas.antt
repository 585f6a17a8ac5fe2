-- Words are found one behind the other.
use denote.Ref.{Bor}
use Rattle.std.proofs.Common.{◌≡◌, ◌<◌, ◌+◌, ◌-◌, ◌++◌, ◌∙◌, ℕ, zero, suc, List, [], ◌∷◌, Option, Some, None, length, map, option_map, slice_set, take, sym, ap, arith, append_assoc}
use Rattle.std.proofs.lemmas.List.{map-append, take_all, take_more_set}
use Rattle.octet_text.specs.Cut.{before_mark, behind_mark}
use Rattle.script_text.specs.Script.{words_of}
use Rattle.script_text.proofs.PartLemmas.{parted_more, parted_one}

abbrev octets_now : List (Bor (List ℕ)) → List (List ℕ)
octets_now words = map (λ w. w.now) words

one_more : (room : List (Bor (List ℕ))) (count : ℕ) (word : Bor (List ℕ)) → count < length room → octets_now (take (count + 1) (slice_set room count word)) ≡ octets_now (take count room) ++ word.now ∷ []
one_more room count word within = ap octets_now (take_more_set room count word within) ∙ map-append (λ w. w.now) (take count room) (word ∷ [])

next_word : (left : ℕ) (rest more word : List ℕ) → 0 < left → word ≡ before_mark 32 rest → Some more ≡ behind_mark 32 rest → word ∷ take (left - 1) (words_of more) ≡ take left (words_of rest)
next_word zero rest more word some is behind = absurd (omega (arith, some))
next_word (suc n) rest more word some is behind =
    let same : suc n - 1 ≡ n = omega arith in
    ap (λ (m : ℕ). word ∷ take m (words_of more)) same ∙ (ap (λ (w : List ℕ). w ∷ take n (words_of more)) is ∙ ap (take (suc n)) (sym (parted_more 32 rest more behind)))

last_word : (left : ℕ) (rest word : List ℕ) → 0 < left → word ≡ before_mark 32 rest → None ≡ behind_mark 32 rest → word ∷ [] ≡ take left (words_of rest)
last_word left rest word some is behind =
    ap (λ (w : List ℕ). w ∷ []) is ∙ (sym (take_all left (before_mark 32 rest ∷ []) (omega (arith, some))) ∙ ap (take left) (sym (parted_one 32 rest behind)))

-- one word more is put behind those that stand in room
pub words_put : (room : List (Bor (List ℕ))) (word : Bor (List ℕ)) (count most : ℕ) (rest : List ℕ) (behind : Option (Bor (List ℕ))) (more : Bor (List ℕ)) (whole : List (List ℕ))
    → count < most → length room ≡ most
    → word.now ≡ before_mark 32 rest → option_map (λ r. r.now) behind ≡ behind_mark 32 rest → behind ≡ Some more → octets_now (take count room) ++ take (most - count) (words_of rest) ≡ whole
    → octets_now (take (count + 1) (slice_set room count word)) ++ take (most - (count + 1)) (words_of more.now) ≡ whole
words_put room word count most rest behind more whole few size front back found same =
    let next : most - (count + 1) ≡ most - count - 1 = omega arith in
    let left : List (List ℕ) = take (most - count - 1) (words_of more.now) in
    ap (λ (n : ℕ). octets_now (take (count + 1) (slice_set room count word)) ++ take n (words_of more.now)) next
    ∙ (ap (λ (l : List (List ℕ)). l ++ left) (one_more room count word (omega (arith, few, size)))
    ∙ (append_assoc (octets_now (take count room)) (word.now ∷ []) left
    ∙ (ap (λ (l : List (List ℕ)). octets_now (take count room) ++ l)
    (next_word (most - count) rest more.now word.now (omega (arith, few)) front (ap (λ (o : Option (Bor (List ℕ))). option_map (λ r. r.now) o) (sym found) ∙ back)) ∙ same)))

-- the last one
pub words_put_last : (room : List (Bor (List ℕ))) (word : Bor (List ℕ)) (count most : ℕ) (rest : List ℕ) (behind : Option (Bor (List ℕ))) (whole : List (List ℕ)) → count < most → length room ≡ most
    → word.now ≡ before_mark 32 rest → option_map (λ r. r.now) behind ≡ behind_mark 32 rest → behind ≡ None → octets_now (take count room) ++ take (most - count) (words_of rest) ≡ whole
    → octets_now (take (count + 1) (slice_set room count word)) ≡ whole
words_put_last room word count most rest behind whole few size front back none same =
    one_more room count word (omega (arith, few, size))
    ∙ (ap (λ (l : List (List ℕ)). octets_now (take count room) ++ l)
    (last_word (most - count) rest word.now (omega (arith, few)) front (ap (λ (o : Option (Bor (List ℕ))). option_map (λ r. r.now) o) (sym none) ∙ back)) ∙ same)
