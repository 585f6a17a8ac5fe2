-- The words of a line are found again, and lines in their text.
use Rattle.std.proofs.Common.{◌≡◌, ◌<◌, ◌≤◌, ◌+◌, ◌++◌, ◌∙◌, nat_le, ℕ, zero, suc, codes, List, [], ◌∷◌, Some, length, take, refl, sym, ap, subst, arith, append_assoc, length-append}
use Rattle.std.proofs.lemmas.Bool.{and_parts, eq-eqb}
use Rattle.std.proofs.lemmas.Bool.Decides.{nat_tests}
use Rattle.std.proofs.lemmas.List.{append_cancel_right, take_all}
use Rattle.std.specs.List.{AllByRecursion, list_all}
use Rattle.net_values.proofs.OptionLemmas.{some_same}
use Rattle.net_values.proofs.RowLemmas.{all-append}
use Rattle.octet_text.specs.Cut.{before_mark, behind_mark}
use Rattle.script_text.specs.Parts.{parted_by}
use Rattle.script_text.specs.Script.{is_graphic, spaced_words, words_of}
use Rattle.script_text.proofs.PartLemmas.{AreWhole, IsWhole, words_again, words_begin, words_behind}
use Rattle.text_lines.specs.Lines.{line_of}
use Rattle.event_laws.proofs.ValueLemmas.{AreGraphic, IsGraphic}
use Rattle.report_entries.specs.Reading.{line_words}
use Rattle.report_entries.specs.Laws.{IsFreeOf, IsPlainLine, LinesAreToldApart, text_of_lines}

-- what stands in front of a mark, and behind it
pub before_one : (mark : ℕ) (word rest : List ℕ) → IsFreeOf mark word → before_mark mark (word ++ mark ∷ rest) ≡ word
before_one mark [] rest free = rw (eq-eqb mark mark refl) refl
before_one mark (c ∷ cs) rest free = rw free.0 (ap (λ (l : List ℕ). c ∷ l) (before_one mark cs rest free.1))

pub behind_one : (mark : ℕ) (word rest : List ℕ) → IsFreeOf mark word → behind_mark mark (word ++ mark ∷ rest) ≡ Some rest
behind_one mark [] rest free = rw (eq-eqb mark mark refl) refl
behind_one mark (c ∷ cs) rest free = rw free.0 (behind_one mark cs rest free.1)

-- ---- words without blanks and line feeds

abbrev ArePlain : List (List ℕ) → Type 0
ArePlain words = AllByRecursion (λ w. IsFreeOf 32 w × IsFreeOf 10 w) words

whole_word : (word : List ℕ) → IsFreeOf 32 word → IsWhole word
whole_word [] free = tt
whole_word (c ∷ cs) free = (free.0, whole_word cs free.1)

whole_words : (words : List (List ℕ)) → ArePlain words → AreWhole words
whole_words [] are = tt
whole_words (word ∷ words) are = (whole_word word are.0.0, whole_words words are.1)

line_free : (words : List (List ℕ)) → ArePlain words → IsFreeOf 10 (spaced_words words)
line_free [] are = tt
line_free (word ∷ []) are = are.0.1
line_free (word ∷ next ∷ words) are = all-append _ word (32 ∷ spaced_words (next ∷ words)) are.0.1 (refl, line_free (next ∷ words) are.1)

line_spaced : (word : List ℕ) (words : List (List ℕ)) → line_of (word ∷ words) ≡ spaced_words (word ∷ words) ++ codes "\n"
line_spaced word [] = refl
line_spaced word (next ∷ words) = ap (λ (l : List ℕ). word ++ 32 ∷ l) (line_spaced next words) ∙ sym (append_assoc word (32 ∷ spaced_words (next ∷ words)) (codes "\n"))

-- a line of words, without its line feed
pub record IsLineOf (words : List (List ℕ)) (line : List ℕ) : Type 0 where
  pub is : line_of words ≡ line ++ codes "\n"
  pub free : IsFreeOf 10 line
  pub cut : line_words line ≡ words

graphic_free : (mark : ℕ) (word : List ℕ) → mark < 33 → IsGraphic word → IsFreeOf mark word
graphic_free mark [] low is = tt
graphic_free mark (c ∷ cs) low is =
    let both = and_parts (is_graphic c) (list_all is_graphic cs) is in
    let above = (and_parts (nat_le 33 c) (nat_le c 126) both.0).0 in
    (grind (arith, nat_tests, above, low), graphic_free mark cs low both.1)

plain : (words : List (List ℕ)) → AreGraphic words → ArePlain words
plain [] are = tt
plain (word ∷ words) are = ((graphic_free 32 word (omega arith) are.0, graphic_free 10 word (omega arith) are.0), plain words are.1)

pub line_of_words : (words : List (List ℕ)) → 0 < length words → length words ≤ 10 → AreGraphic words → IsLineOf words (spaced_words words)
unfolding line_words
line_of_words [] some few are = absurd (omega (arith, some))
line_of_words (word ∷ words) some few are = record {
  is = line_spaced word words;
  free = line_free (word ∷ words) (plain (word ∷ words) are);
  cut = ap (take 10) (words_again word words (whole_words (word ∷ words) (plain (word ∷ words) are))) ∙ take_all 10 (word ∷ words) few;
}

-- they have no other one
pub line_is : (words : List (List ℕ)) (line : List ℕ) → line_of words ≡ line ++ codes "\n" → 0 < length words → length words ≤ 10 → AreGraphic words → IsLineOf words line
line_is words line same some few are =
    let found = line_of_words words some few are in
    subst (IsLineOf words) (append_cancel_right (spaced_words words) line (codes "\n") (sym found.is ∙ same)) found

-- ---- the words of any line

words_back : (line : List ℕ) → spaced_words (words_of line) ≡ line
unfolding parted_by
words_back line = sym (words_behind (32 ∷ line) line refl)

short_front : (most : ℕ) (words : List (List ℕ)) → length (take (suc most) words) ≤ most → take (suc most) words ≡ words
short_front most [] few = refl
short_front zero (word ∷ words) few = absurd (omega (arith, few))
short_front (suc most) (word ∷ words) few = ap (λ (l : List (List ℕ)). word ∷ l) (short_front most words (omega (arith, few)))

-- a line that has no more words is that of its words
pub line_again : (line : List ℕ) → length (line_words line) ≤ 9 → line_of (line_words line) ≡ line ++ codes "\n"
unfolding line_words
line_again line few =
    let begun = words_begin line in
    ap line_of (short_front 9 (words_of line) few ∙ begun) ∙ (line_spaced _ _ ∙ ap (λ (l : List ℕ). l ++ codes "\n") (ap spaced_words (sym begun) ∙ words_back line))

-- ---- lines in their text

one_line : (word : List ℕ) (words : List (List ℕ)) (rest : List ℕ) → line_of (word ∷ words) ++ rest ≡ spaced_words (word ∷ words) ++ 10 ∷ rest
one_line word words rest = ap (λ (l : List ℕ). l ++ rest) (line_spaced word words) ∙ append_assoc (spaced_words (word ∷ words)) (codes "\n") rest

some_line : {P : Type 0} (words : List (List ℕ)) (rest : List ℕ) → IsPlainLine words → line_of words ++ rest ≡ [] → P
some_line [] rest are none = absurd are
some_line (word ∷ words) rest are none = absurd (omega (arith, ap length (sym (one_line word words rest) ∙ none), length-append (spaced_words (word ∷ words)) (10 ∷ rest)))

line_same : (a b : List (List ℕ)) (s t : List ℕ) → IsPlainLine a → IsPlainLine b → line_of a ++ s ≡ line_of b ++ t → (a ≡ b) × (s ≡ t)
line_same [] b s t pa pb same = absurd pa
line_same (w ∷ ws) [] s t pa pb same = absurd pb
line_same (w ∷ ws) (v ∷ vs) s t pa pb same =
    let text : spaced_words (w ∷ ws) ++ 10 ∷ s ≡ spaced_words (v ∷ vs) ++ 10 ∷ t = sym (one_line w ws s) ∙ (same ∙ one_line v vs t) in
    let line : spaced_words (w ∷ ws) ≡ spaced_words (v ∷ vs) = sym (before_one 10 _ s (line_free (w ∷ ws) pa)) ∙ (ap (before_mark 10) text ∙ before_one 10 _ t (line_free (v ∷ vs) pb)) in (
      sym (words_again w ws (whole_words (w ∷ ws) pa)) ∙ (ap words_of line ∙ words_again v vs (whole_words (v ∷ vs) pb)),
      some_same (sym (behind_one 10 _ s (line_free (w ∷ ws) pa)) ∙ (ap (behind_mark 10) text ∙ behind_one 10 _ t (line_free (v ∷ vs) pb))),
    )

pub texts_same : LinesAreToldApart
texts_same [] [] pa pb same = refl
texts_same [] (y ∷ b) pa pb same = some_line y (text_of_lines b) pb.0 (sym same)
texts_same (x ∷ a) [] pa pb same = some_line x (text_of_lines a) pa.0 same
texts_same (x ∷ a) (y ∷ b) pa pb same =
    let here = line_same x y (text_of_lines a) (text_of_lines b) pa.0 pb.0 same in
    λ i. here.0 i ∷ texts_same a b pa.1 pb.1 here.1 i
