-- Octets that are laid down in a room in front of those behind them.
use Rattle.std.proofs.Common.{◌≡◌, ◌<◌, ◌≤◌, ◌+◌, ◌-◌, ◌^◌, ◌++◌, ◌∙◌, ℕ, List, [], ◌∷◌, length, take, drop, get_or, ap, sym, append_assoc, length-drop, arith}
use Rattle.std.specs.Prelude.{map, slice_set}
use Rattle.std.specs.Fmt.{decimal}
use Rattle.std.proofs.lemmas.Fmt.{length-decimal-le}
use Rattle.std.proofs.lemmas.List.{append-nil, at_drop_more, drop-drop, drop-set, drop_all, drop_at, length-take-le, take_all}
use borrow.Rule.Slice.PartMut.{put_mid}
use Rattle.message_text.specs.Words.{marked}

-- an octet in front of what stands from a place on
pub octet_before : (room : List ℕ) (end octet : ℕ) → 1 ≤ end → end ≤ length room → drop (end - 1) (slice_set room (end - 1) octet) ≡ octet ∷ drop end room
octet_before room end octet some within =
    let next : end - 1 + 1 ≡ end = omega (arith, some) in
    drop-set room (end - 1) octet (omega (arith, some, within)) ∙ ap (λ (n : ℕ). octet ∷ drop n room) next

-- octets there
pub laid_before : (room made : List ℕ) (begin count end : ℕ) → begin + count ≡ end → end ≤ length room → drop begin (put_mid begin count room made) ≡ made ++ drop end room
laid_before room made begin count end is within =
    drop_at (take begin room) _ begin (length-take-le begin room (omega (arith, is, within)))
    ∙ ap (λ (l : List ℕ). made ++ l) (drop-drop count begin room ∙ ap (λ (n : ℕ). drop n room) is)

-- a number of 32 bits has at most ten digits
pub number_length : (number : ℕ) → number < 2 ^ 32 → length (decimal number) ≤ 10
number_length number small = length-decimal-le 10 number (omega arith) (omega (arith, small)) (omega (arith, small))

-- numbers with a mark before each
abbrev pub all_marked : ℕ → List ℕ → List ℕ
all_marked mark numbers = marked (mark ∷ []) (map decimal numbers)

-- none of them is laid down yet
pub none_marked : (mark : ℕ) (numbers rest : List ℕ) (left : ℕ) → length numbers ≤ left → rest ≡ all_marked mark (drop left numbers) ++ rest
none_marked mark numbers rest left all = ap (λ (l : List ℕ). all_marked mark l ++ rest) (sym (drop_all left numbers all))

-- one more stands in front of those behind it
pub more_marked : (mark : ℕ) (numbers now front rest : List ℕ) (next left : ℕ) → next < length numbers → next + 1 ≡ left → now ≡ (mark ∷ decimal (get_or numbers next 0)) ++ front
    → front ≡ all_marked mark (drop left numbers) ++ rest → now ≡ all_marked mark (drop next numbers) ++ rest
more_marked mark numbers now front rest next left within is adds before =
    let number : ℕ = get_or numbers next 0 in
    let behind : front ≡ all_marked mark (drop (next + 1) numbers) ++ rest = before ∙ ap (λ (n : ℕ). all_marked mark (drop n numbers) ++ rest) (sym is) in
    (adds ∙ ap (λ (l : List ℕ). (mark ∷ decimal number) ++ l) behind)
    ∙ (sym (append_assoc (mark ∷ decimal number) (all_marked mark (drop (next + 1) numbers)) rest) ∙ ap (λ (l : List ℕ). l ++ rest) (sym (at_drop_more (all_marked mark) numbers next 0 within)))

-- a text to which what was laid down was added
pub laid_told : (old new room octets : List ℕ) (begin end : ℕ) → length room ≡ end → new ≡ old ++ take (end - begin) (drop begin room) → drop begin room ≡ octets ++ [] → new ≡ old ++ octets
laid_told old new room octets begin end size told laid =
    told ∙ ap (λ (l : List ℕ). old ++ l) (take_all (end - begin) (drop begin room) (omega (arith, length-drop begin room, size)) ∙ (laid ∙ append-nil octets))
