-- A MAC withdraw is told, piece by piece.
use Rattle.std.proofs.Common.{◌≡◌, ◌<◌, ◌≤◌, ◌+◌, ◌-◌, ◌*◌, ◌/◌, ◌==◌, ◌∙◌, ℕ, zero, suc, Bool, true, false, cond, List, [], ◌∷◌, length, take, drop, min, refl, ap, sym, subst, arith}
use Rattle.std.proofs.lemmas.Bool.Decides.{nat_tests}
use Rattle.std.proofs.lemmas.List.{take_min}
use Rattle.std.proofs.Math.Seq.{drop-nil}
use Rattle.net_values.specs.declared.mac.Mac.{Mac}
use Rattle.pw_signalling.specs.End.{LocalPart, Idle, Advertised, Withdrawing}
use Rattle.pw_signalling.specs.declared.told.Told.{Told}
use Rattle.pw_messages.specs.Content.{mac_withdrawal}
use Rattle.pw_messages.specs.LinkAnswers.{Answers}
use Rattle.mac_withdraw.specs.Pieces.{piece_count, pieces_from}
use Rattle.edge_model.specs.declared.end_place.EndPlace.{EndPlace}
use Rattle.edge_model.specs.Put.{Spoken, stays}
use Rattle.edge_model.specs.Session.{says}
use Rattle.edge_model.specs.State.{end_at}
use Rattle.edge_model.specs.Withdraw.{tells_piece, tells_piece_by, tells_pieces}
use Rattle.edge_model.specs.Work.{Work}

-- ---- one piece

pub piece_idle : (told : Answers) (place : EndPlace) (addresses : List Mac) (work : Work) (declined : Bool) → (end_at work.edge place).local ≡ Idle declined → stays work
    ≡ tells_piece told place addresses work
piece_idle told place addresses work declined is = sym (ap (λ (l : LocalPart). tells_piece_by told place addresses l work) is)

pub piece_withdrawing : (told : Answers) (place : EndPlace) (addresses : List Mac) (work : Work) (label : ℕ) → (end_at work.edge place).local ≡ Withdrawing label → stays work
    ≡ tells_piece told place addresses work
piece_withdrawing told place addresses work label is = sym (ap (λ (l : LocalPart). tells_piece_by told place addresses l work) is)

pub piece_put : (told : Answers) (place : EndPlace) (addresses : List Mac) (work : Work) (label : ℕ) (content : Told) (put : Spoken) → (end_at work.edge place).local ≡ Advertised label content
    → put ≡ says told place.peer (mac_withdrawal place.pw_id addresses content) work → put ≡ tells_piece told place addresses work
piece_put told place addresses work label content put is puts = puts ∙ sym (ap (λ (l : LocalPart). tells_piece_by told place addresses l work) is)

-- ---- where a piece stands

few_of : (n : ℕ) (xs : List Mac) → length (take n xs) ≤ n
few_of zero xs = omega arith
few_of (suc n) [] = omega arith
few_of (suc n) (x ∷ xs) = omega (arith, few_of n xs)

drop_both : (m n : ℕ) (xs : List Mac) → drop n (drop m xs) ≡ drop (m + n) xs
drop_both zero n xs = let none : 0 + n ≡ n = omega arith in rw none refl
drop_both (suc m) n [] = drop-nil n ∙ sym (drop-nil (suc m + n))
drop_both (suc m) n (x ∷ xs) = let more : suc m + n ≡ suc (m + n) = omega arith in rw more (drop_both m n xs)

-- a piece as it is cut out
pub piece_read : (addresses rest piece : List Mac) (at n : ℕ) → rest ≡ drop at addresses → n ≡ min 30 (length rest) → piece ≡ take n rest → piece ≡ take 30 (drop at addresses)
piece_read addresses rest piece at n behind is front = front ∙ (ap (λ (k : ℕ). take k rest) is ∙ (take_min 30 rest ∙ ap (take 30) behind))

pub piece_few : (addresses piece : List Mac) (at : ℕ) → piece ≡ take 30 (drop at addresses) → length piece ≤ 30
piece_few addresses piece at is = subst (λ (l : List Mac). length l ≤ 30) (sym is) (few_of 30 (drop at addresses))

-- each piece begins within the list
pub piece_within : (count index : ℕ) → index < piece_count count → 30 * index ≤ count
piece_within count index below = by (count == 0) refl below where
  by : (b : Bool) → (count == 0) ≡ b → index < cond b 1 ((count + 29) / 30) → 30 * index ≤ count
  by true none less = omega (arith, less)
  by false some less =
      let one : 1 ≤ count = grind (arith, nat_tests, some) in
      omega (arith, less, one)

-- ---- one piece more

pieces_more : (told : Answers) (place : EndPlace) (n i : ℕ) (addresses : List Mac) (work : Work) → i < n
    → tells_pieces told place (pieces_from (n - i) (drop (30 * i) addresses)) work
    ≡ tells_pieces told place (pieces_from (n - (i + 1)) (drop (30 * (i + 1)) addresses)) (tells_piece told place (take 30 (drop (30 * i) addresses)) work).work
pieces_more told place n i addresses work below =
    let more : n - i ≡ suc (n - (i + 1)) = omega arith in
    let next : 30 * i + 30 ≡ 30 * (i + 1) = omega arith in
    rw more
    (ap (λ (l : List Mac). tells_pieces told place (pieces_from (n - (i + 1)) l) (tells_piece told place (take 30 (drop (30 * i) addresses)) work).work)
    (drop_both (30 * i) 30 addresses ∙ ap (λ (k : ℕ). drop k addresses) next))

pub pieces_next : (told : Answers) (place at : EndPlace) (n i : ℕ) (addresses piece : List Mac) (work next whole : Work) (failed : Bool) → i < n → at ≡ place → piece
    ≡ take 30 (drop (30 * i) addresses)
    → whole ≡ tells_pieces told place (pieces_from (n - i) (drop (30 * i) addresses)) work → record { work = next; failed = failed } ≡ tells_piece told at piece work
    → whole ≡ tells_pieces told place (pieces_from (n - (i + 1)) (drop (30 * (i + 1)) addresses)) next
pieces_next told place at n i addresses piece work next whole failed below same is so_far one =
    so_far
    ∙ (pieces_more told place n i addresses work below
    ∙ ap (tells_pieces told place (pieces_from (n - (i + 1)) (drop (30 * (i + 1)) addresses)))
    (sym (ap (λ (s : Spoken). s.work) one ∙ (ap (λ (p : EndPlace). (tells_piece told p piece work).work) same ∙ ap (λ (l : List Mac). (tells_piece told place l work).work) is))))

pub pieces_end : (told : Answers) (place : EndPlace) (n i : ℕ) (addresses : List Mac) (work whole : Work) → n ≤ i → whole
    ≡ tells_pieces told place (pieces_from (n - i) (drop (30 * i) addresses)) work → work ≡ whole
pieces_end told place n i addresses work whole past so_far =
    let none : n - i ≡ 0 = omega arith in
    sym (so_far ∙ ap (λ (k : ℕ). tells_pieces told place (pieces_from k (drop (30 * i) addresses)) work) none)
