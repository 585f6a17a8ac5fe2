-- Of a neighbour without a mark nothing was told: what sets marks and takes them away.
use Rattle.std.proofs.Common.{◌≡◌, ◌⊎◌, ◌∙◌, ◌==◌, ◌||◌, nat_lt, ℕ, zero, suc, Bool, true, false, not, cond, List, [], ◌∷◌, length, get_or, set, replicate, refl, ap, sym, subst, arith, inl, inr}
use Rattle.std.proofs.lemmas.Bool.{cases_Bool, true≢false}
use Rattle.std.proofs.lemmas.Bool.Decides.{nat_tests}
use Rattle.net_values.proofs.BoolLemmas.{second_fails}
use Rattle.net_base.specs.declared.plan.places.EdgeId.{EdgeId}
use Rattle.pw_signalling.specs.End.{EndState, fresh}
use Rattle.pw_signalling.specs.Rows.{lost}
use Rattle.edge_model.specs.declared.end_place.EndPlace.{EndPlace}
use Rattle.pw_ends.specs.declared.which_ends.WhichEnds.TheVariants as which
use Rattle.pw_ends.specs.Changes.{changed_each}
use Rattle.pw_ends.specs.Ends.{EndLists, changed_beside, look, no_place, seen_ends}
use Rattle.pw_ends.specs.Kept.{AreUntold}
use Rattle.pw_ends.proofs.SlotLemmas.{look_beside}

-- where there is no mark after one is set, there was none
unmarked : (marks now : ℕ → Bool) (peer k : ℕ) → now k ≡ (k == peer || marks k) → now k ≡ false → marks k ≡ false
unmarked marks now peer k more is = second_fails (k == peer) (marks k) (sym more ∙ is)

-- a mark that is set is there
marked : (marks now : ℕ → Bool) (peer : ℕ) → now peer ≡ (peer == peer || marks peer) → now peer ≡ false → ⊥
marked marks now peer more is = true≢false (sym (ap (λ (b : Bool). b || marks peer) same) ∙ (sym more ∙ is)) where
  same : (peer == peer) ≡ true
  same = grind (arith, nat_tests)

-- one mark more
untold_more : (marks now : ℕ → Bool) (peer : ℕ) (places : List EndPlace) (ends : List EndState) → ((k : ℕ) → now k ≡ (k == peer || marks k)) → AreUntold marks places ends → AreUntold now places ends
untold_more marks now peer [] ends more untold = tt
untold_more marks now peer (p ∷ ps) [] more untold = tt
untold_more marks now peer (p ∷ ps) (e ∷ es) more untold = ((λ is. untold.0 (unmarked marks now peer p.peer.0 (more p.peer.0) is)), untold_more marks now peer ps es more untold.1)

-- an end is set beside a neighbour that is marked
untold_set : (marks now : ℕ → Bool) (places : List EndPlace) (ends : List EndState) (slot : ℕ) (end : EndState)
    → ((k : ℕ) → now k ≡ (k == (get_or places slot no_place).peer.0 || marks k)) → AreUntold marks places ends → AreUntold now places (set ends slot end)
untold_set marks now [] ends slot end more untold = tt
untold_set marks now (p ∷ ps) [] slot end more untold = tt
untold_set marks now (p ∷ ps) (e ∷ es) zero end more untold = ((λ is. absurd (marked marks now p.peer.0 (more p.peer.0) is)), untold_more marks now p.peer.0 ps es more untold.1)
untold_set marks now (p ∷ ps) (e ∷ es) (suc slot) end more untold =
    ((λ is. untold.0 (unmarked marks now (get_or ps slot no_place).peer.0 p.peer.0 (more p.peer.0) is)), untold_set marks now ps es slot end more untold.1)

-- the same of what the code has
pub untold_changed : (marks now : ℕ → Bool) (places : List EndPlace) (ends left : List EndState) (slot peer : ℕ) (end : EndState) → AreUntold marks places ends → left
    ≡ set ends slot end → peer ≡ (get_or places slot no_place).peer.0 → ((k : ℕ) → now k ≡ (k == peer || marks k)) → AreUntold now places left
untold_changed marks now places ends left slot peer end untold is at more =
    rw is (untold_set marks now places ends slot end (λ k. more k ∙ ap (λ (n : ℕ). k == n || marks k) at) untold)

-- beside a neighbour whose ends are lost no mark is wanted
untold_lost : (marks now : ℕ → Bool) (peer : EdgeId) (places : List EndPlace) (ends : List EndState) → ((k : ℕ) → now k ≡ cond (k == peer.0) (not (nat_lt k 64)) (marks k))
    → AreUntold marks places (changed_each (which.Beside peer) lost places ends)
    → AreUntold now places (changed_each (which.Beside peer) lost places ends)
untold_lost marks now peer [] ends less untold = tt
untold_lost marks now peer (p ∷ ps) [] less untold = tt
untold_lost marks now peer (p ∷ ps) (e ∷ es) less untold = (by (cases_Bool (p.peer.0 == peer.0)), untold_lost marks now peer ps es less untold.1)
  where
    by : ((p.peer.0 == peer.0) ≡ true) ⊎ ((p.peer.0 == peer.0) ≡ false) → now p.peer.0 ≡ false → cond (p.peer.0 == peer.0) (lost e) e ≡ fresh
    by (inl same) is = rw same refl
    by (inr apart) is = untold.0 (sym (ap (λ (b : Bool). cond b (not (nat_lt p.peer.0 64)) (marks p.peer.0)) apart) ∙ (sym (less p.peer.0) ∙ is))

-- the same of what the code has: the places are those before, and the ends those that were left
pub untold_left : (marks now : ℕ → Bool) (peer : EdgeId) (old left : EndLists) → AreUntold marks left.places left.ends → left.places ≡ old.places → left.ends
    ≡ changed_each (which.Beside peer) lost old.places old.ends
    → ((k : ℕ) → now k ≡ cond (k == peer.0) (not (nat_lt k 64)) (marks k)) → AreUntold now left.places left.ends
untold_left marks now peer old left untold at is less =
    moved now old.places left.places lost_ends left.ends (sym at) (sym is) (untold_lost marks now peer old.places old.ends less (moved marks left.places old.places left.ends lost_ends at is untold))
  where
    lost_ends : List EndState
    lost_ends = changed_each (which.Beside peer) lost old.places old.ends

    moved : (marks : ℕ → Bool) (ps qs : List EndPlace) (xs ys : List EndState) → ps ≡ qs → xs ≡ ys → AreUntold marks ps xs → AreUntold marks qs ys
    moved marks ps qs xs ys at is untold = subst (λ (l : List EndPlace). AreUntold marks l ys) at (subst (λ (l : List EndState). AreUntold marks ps l) is untold)

-- where there is no mark, to lose the ends changes none
lost_none : (marks : ℕ → Bool) (peer : EdgeId) (places : List EndPlace) (ends : List EndState) → AreUntold marks places ends → marks peer.0 ≡ false
    → changed_each (which.Beside peer) lost places ends ≡ ends
lost_none marks peer [] ends untold none = refl
lost_none marks peer (p ∷ ps) [] untold none = refl
lost_none marks peer (p ∷ ps) (e ∷ es) untold none = two (by (cases_Bool (p.peer.0 == peer.0))) (lost_none marks peer ps es untold.1 none)
  where
    equal : (p.peer.0 == peer.0) ≡ true → p.peer.0 ≡ peer.0
    equal same = grind (arith, nat_tests)

    by : ((p.peer.0 == peer.0) ≡ true) ⊎ ((p.peer.0 == peer.0) ≡ false) → cond (p.peer.0 == peer.0) (lost e) e ≡ e
    by (inl same) = rw same (sym (untold.0 (rw (equal same) none)))
    by (inr apart) = rw apart refl

    two : {x y : EndState} {xs ys : List EndState} → x ≡ y → xs ≡ ys → (x ∷ xs) ≡ (y ∷ ys)
    two first rest = λ i. first i ∷ rest i

pub seen_untold : (marks : ℕ → Bool) (peer : EdgeId) (lists : EndLists) → AreUntold marks lists.places lists.ends → length lists.ends ≡ length lists.places → marks peer.0 ≡ false
    → changed_beside peer lost (seen_ends lists) ≡ seen_ends lists
unfolding seen_ends
seen_untold marks peer lists untold count none =
    sym (look_beside peer lost lists.places lists.ends refl count) ∙ ap (look lists.places) (lost_none marks peer lists.places lists.ends untold none)

-- at first nothing was told
pub untold_opened : (marks : ℕ → Bool) (places : List EndPlace) (count : ℕ) → AreUntold marks places (replicate count fresh)
untold_opened marks [] count = tt
untold_opened marks (p ∷ ps) zero = tt
untold_opened marks (p ∷ ps) (suc count) = ((λ is. refl), untold_opened marks ps count)
