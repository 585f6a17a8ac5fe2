-- Octets are laid down behind those that wait.
use Rattle.std.proofs.Common.{◌≡◌, ◌<◌, ◌≤◌, ◌+◌, ◌-◌, ◌++◌, ◌∙◌, ℕ, List, [], ◌∷◌, length, take, refl, sym, ap, arith}
use Rattle.std.proofs.Math.Seq.{take-append-add}
use Rattle.std.proofs.lemmas.List.{length-append, length-take-le, take-take, take_at, take_more_set}
use Rattle.std.proofs.lemmas.Slice.{take-put_mid}
use Rattle.std.specs.Prelude.{slice_set}
use borrow.Rule.Slice.PartMut.{put_mid}

-- octets in the room behind those that wait
pub laid_behind : (room made : List ℕ) (len count end : ℕ) → length made ≡ count → len ≤ length room → end ≡ len + count → take end (put_mid len count room made) ≡ take len room ++ made
laid_behind room made len count end size within is =
    take-put_mid len count room made end (omega (arith, size, is)) within

-- one octet there
pub one_behind : (room : List ℕ) (len octet : ℕ) → len < length room → take (len + 1) (slice_set room len octet) ≡ take len room ++ octet ∷ []
one_behind room len octet within = take_more_set room len octet within

-- so many octets wait once digits were laid down, with what stands behind them
pub laid_len : (room old made digits rest : List ℕ) (len span : ℕ) → take len room ≡ old ++ made → made ≡ take span (digits ++ rest) → len ≤ length room → span ≤ length (digits ++ rest)
    → len ≡ length old + span
laid_len room old made digits rest len span laid is within enough =
    let made_len : length made ≡ span = ap length is ∙ length-take-le span (digits ++ rest) enough in
    sym (length-take-le len room within) ∙ (ap length laid ∙ (length-append old made ∙ ap (λ (n : ℕ). length old + n) made_len))

-- of octets that were laid down those behind the digits no longer wait
pub digits_left : (room old made digits rest : List ℕ) (len begin now span : ℕ) → take len room ≡ old ++ made → made ≡ take span (digits ++ rest) → begin + length digits ≡ span → now ≡ len - begin
    → len ≤ length room → span ≤ length (digits ++ rest) → take now room ≡ old ++ digits
digits_left room old made digits rest len begin now span laid is all shorter within enough =
    let some = length digits in
    let short : some ≤ span = omega (arith, all) in
    let front : take some made ≡ digits = ap (λ (l : List ℕ). take some l) is ∙ (take-take some span (digits ++ rest) short ∙ take_at digits rest some refl) in
    let len_is = laid_len room old made digits rest len span laid is within enough in
    let ends : now ≡ length old + some = omega (arith, shorter, len_is, all) in
    let fewer : now ≤ len = omega (arith, shorter) in
    sym (take-take now len room fewer) ∙ ((λ i. take (ends i) (laid i)) ∙ (take-append-add old made some ∙ ap (λ (l : List ℕ). old ++ l) front))
