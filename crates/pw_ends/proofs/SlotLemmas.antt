-- Ends by slots seen as a map from wires and neighbours, where some of them are changed.
use Rattle.std.proofs.Common.{◌≡◌, ◌<◌, ◌≤◌, ◌+◌, ◌++◌, ◌∙◌, ◌==◌, ℕ, zero, suc, Bool, true, false, cond, List, [], ◌∷◌, length, get_or, set, take, drop, replicate, refl, ap, sym, arith, inl, inr}
use Rattle.std.specs.List.{AllByRecursion}
use Rattle.std.proofs.lemmas.Bool.{cases_Bool}
use Rattle.std.proofs.lemmas.List.{length-set}
use Rattle.std.proofs.lemmas.Bool.Decides.{nat_tests}
use Rattle.net_values.proofs.NumberLemmas.{same_number}
use Rattle.net_base.specs.declared.plan.places.EdgeId.{EdgeId}
use Rattle.net_base.specs.declared.plan.places.WireId.{WireId}
use Rattle.pw_signalling.specs.End.{EndState, fresh}
use Rattle.pw_signalling.specs.Rows.{lost, renewed}
use Rattle.edge_model.specs.declared.end_place.EndPlace.{EndPlace}
use Rattle.edge_model.specs.State.{put_at}
use Rattle.pw_ends.specs.declared.end_change.EndChange.{EndChange}
use Rattle.pw_ends.specs.declared.end_change.EndChange.TheVariants as change
use Rattle.pw_ends.specs.declared.which_ends.WhichEnds.{WhichEnds}
use Rattle.pw_ends.specs.declared.which_ends.WhichEnds.TheVariants as which
use Rattle.pw_ends.specs.Changes.{changed, changed_each, changed_in, is_meant}
use Rattle.pw_ends.specs.Ends.{EndLists, changed_at, changed_beside, end_in, look, no_place, place_of, renewed_of, seen_ends}
use Rattle.edge_model.specs.EndPlaces.{is_at}
use Rattle.pw_ends.specs.Kept.{AreApart}

-- ---- one end

-- an end is at its own wire and neighbour
at_itself : (place : EndPlace) → is_at place.wire.0 place.peer.0 place ≡ true
at_itself place = rw (same_number place.wire.0, same_number place.peer.0) refl

-- an end at another slot is elsewhere
apart_at : (place : EndPlace) (places : List EndPlace) (slot : ℕ) → AllByRecursion (λ other. is_at other.wire.0 other.peer.0 place ≡ false) places → slot < length places
    → is_at (get_or places slot no_place).wire.0 (get_or places slot no_place).peer.0 place ≡ false
apart_at place [] slot apart within = absurd (omega (arith, within))
apart_at place (p ∷ ps) zero apart within = apart.0
apart_at place (p ∷ ps) (suc slot) apart within = apart_at place ps slot apart.1 (omega (arith, within))

-- what is seen at the place of a slot is its end
pub look_at : (places : List EndPlace) (ends : List EndState) (slot : ℕ) → AreApart places → length ends ≡ length places → slot < length places
    → look places ends (get_or places slot no_place).wire.0 (get_or places slot no_place).peer.0 ≡ get_or ends slot fresh
look_at [] ends slot apart count within = absurd (omega (arith, within))
look_at (p ∷ ps) [] slot apart count within = absurd (omega (arith, count))
look_at (p ∷ ps) (e ∷ es) zero apart count within = rw (at_itself p) refl
look_at (p ∷ ps) (e ∷ es) (suc slot) apart count within = rw (apart_at p ps slot apart.0 (omega (arith, within))) (look_at ps es slot apart.1 (omega (arith, count)) (omega (arith, within)))

-- both places are of the same wire and beside the same neighbour
pairs_same : (wire peer : ℕ) (place : EndPlace) → is_at wire peer place ≡ true → wire ≡ place.wire.0 × peer ≡ place.peer.0
pairs_same wire peer place at = (grind (arith, nat_tests), grind (arith, nat_tests))

-- an end that is set at a slot is seen at its place, and all others as before
look_set : (places : List EndPlace) (ends : List EndState) (slot : ℕ) (end : EndState) (wire peer : ℕ) → AreApart places → length ends ≡ length places → slot < length places
    → look places (set ends slot end) wire peer ≡ cond (is_at wire peer (get_or places slot no_place)) end (look places ends wire peer)
look_set [] ends slot end wire peer apart count within = absurd (omega (arith, within))
look_set (p ∷ ps) [] slot end wire peer apart count within = absurd (omega (arith, count))
look_set (p ∷ ps) (e ∷ es) zero end wire peer apart count within = elim (cases_Bool (is_at wire peer p)) [
  | inl here ↦ rw here refl
  | inr other ↦ rw other refl
]
look_set (p ∷ ps) (e ∷ es) (suc slot) end wire peer apart count within = elim (cases_Bool (is_at wire peer p)) [
  | inl here ↦
      (let at = pairs_same wire peer p here in
      let away : is_at wire peer (get_or ps slot no_place) ≡ false = elsewhere p (get_or ps slot no_place) wire peer at.0 at.1 (apart_at p ps slot apart.0 (omega (arith, within))) in
      rw (here, away) refl)
  | inr other ↦ rw other (look_set ps es slot end wire peer apart.1 (omega (arith, count)) (omega (arith, within)))
]
  where
    elsewhere : (p q : EndPlace) (wire peer : ℕ) → wire ≡ p.wire.0 → peer ≡ p.peer.0 → is_at q.wire.0 q.peer.0 p ≡ false → is_at wire peer q ≡ false
    elsewhere p q wire peer w k away = grind (arith, nat_tests)

-- the same as a change of the map at one wire and one neighbour
put_twice : (ends : ℕ → ℕ → EndState) (place : EndPlace) (end : EndState) (wire peer : ℕ) → put_at ends place.wire.0 (put_at (ends place.wire.0) place.peer.0 end) wire peer
    ≡ cond (is_at wire peer place) end (ends wire peer)
put_twice ends place end wire peer = elim (cases_Bool (wire == place.wire.0)) [
  | inl here ↦
      (let at : wire ≡ place.wire.0 = grind (arith, nat_tests) in
      rw here (ap (λ (w : ℕ). cond (peer == place.peer.0) end (ends w peer)) (sym at)))
  | inr other ↦ rw other refl
]

pub look_changed : (places : List EndPlace) (ends : List EndState) (slot : ℕ) (change : EndState → EndState) → AreApart places → length ends ≡ length places → slot < length places
    → look places (changed_in change slot ends) ≡ changed_at (get_or places slot no_place) change (look places ends)
look_changed places ends slot change apart count within = λ j wire peer. point wire peer j
  where
    point : (wire peer : ℕ) → look places (changed_in change slot ends) wire peer ≡ changed_at (get_or places slot no_place) change (look places ends) wire peer
    point wire peer =
        look_set places ends slot (change (get_or ends slot fresh)) wire peer apart count within
        ∙ ap (λ (e : EndState). cond (is_at wire peer (get_or places slot no_place)) (change e) (look places ends wire peer)) (sym (look_at places ends slot apart count within))
        ∙ sym (put_twice (look places ends) (get_or places slot no_place) (change (look places ends (get_or places slot no_place).wire.0 (get_or places slot no_place).peer.0)) wire peer)

-- ---- each end that is meant

-- a change of each end that is meant is one of the map, where a wire and a neighbour tell which are meant
look_each : (which : WhichEnds) (meant : ℕ → ℕ → Bool) (change : EndState → EndState) (places : List EndPlace) (ends : List EndState) (wire peer : ℕ)
    → ((place : EndPlace) → is_meant which place ≡ meant place.wire.0 place.peer.0) → change fresh ≡ fresh → length ends ≡ length places
    → look places (changed_each which change places ends) wire peer ≡ cond (meant wire peer) (change (look places ends wire peer)) (look places ends wire peer)
look_each which meant change [] ends wire peer tells none count = elim (cases_Bool (meant wire peer)) [
  | inl here ↦ rw (here, none) refl
  | inr other ↦ rw other refl
]
look_each which meant change (p ∷ ps) [] wire peer tells none count = absurd (omega (arith, count))
look_each which meant change (p ∷ ps) (e ∷ es) wire peer tells none count = elim (cases_Bool (is_at wire peer p)) [
  | inl here ↦
      (let at = pairs_same wire peer p here in
      let same_one : is_meant which p ≡ meant wire peer = rw (at.0, at.1) (tells p) in
      rw (here, same_one) refl)
  | inr other ↦ rw other (look_each which meant change ps es wire peer tells none (omega (arith, count)))
]

pub look_beside : (peer : EdgeId) (change : EndState → EndState) (places : List EndPlace) (ends : List EndState) → change fresh ≡ fresh → length ends ≡ length places
    → look places (changed_each (which.Beside peer) change places ends) ≡ changed_beside peer change (look places ends)
look_beside peer change places ends none count = λ j wire k. look_each (which.Beside peer) (λ w n. n == peer.0) change places ends wire k (λ place. refl) none count j

pub look_of_wire : (wire : WireId) (change : EndState → EndState) (places : List EndPlace) (ends : List EndState) → change fresh ≡ fresh → length ends ≡ length places
    → look places (changed_each (which.OfWire wire) change places ends) ≡ (λ w k. cond (w == wire.0) (change (look places ends w k)) (look places ends w k))
look_of_wire wire change places ends none count = λ j w k. look_each (which.OfWire wire) (λ v n. v == wire.0) change places ends w k (λ place. refl) none count j

pub look_all : (change : EndState → EndState) (places : List EndPlace) (ends : List EndState) → change fresh ≡ fresh → length ends ≡ length places
    → look places (changed_each which.All change places ends) ≡ (λ w k. change (look places ends w k))
look_all change places ends none count = λ j w k. look_each which.All (λ v n. true) change places ends w k (λ place. refl) none count j

-- ---- opened

pub look_fresh : (places : List EndPlace) (count : ℕ) (wire peer : ℕ) → look places (replicate count fresh) wire peer ≡ fresh
look_fresh [] count wire peer = refl
look_fresh (p ∷ ps) zero wire peer = refl
look_fresh (p ∷ ps) (suc count) wire peer = elim (cases_Bool (is_at wire peer p)) [
  | inl here ↦ rw here refl
  | inr other ↦ rw other (look_fresh ps count wire peer)
]

-- ---- the loop over the slots

-- one slot more is passed: its end is changed where it is meant
pub each_more : (which : WhichEnds) (change : EndState → EndState) (places : List EndPlace) (ends : List EndState) (slot : ℕ) → slot < length places → length ends ≡ length places →
    take (slot + 1) (cond (is_meant which (get_or places slot no_place)) (changed_in change slot ends) ends) ++ changed_each which change (drop (slot + 1) places)
    (drop (slot + 1) (cond (is_meant which (get_or places slot no_place)) (changed_in change slot ends) ends))
    ≡ take slot ends ++ changed_each which change (drop slot places) (drop slot ends)
each_more which change [] ends slot within count = absurd (omega (arith, within))
each_more which change (p ∷ ps) [] slot within count = absurd (omega (arith, count))
each_more which change (p ∷ ps) (e ∷ es) zero within count =
    elim (is_meant which p) as (λ b. take 1 (cond b (change e ∷ es) (e ∷ es)) ++ changed_each which change ps (drop 1 (cond b (change e ∷ es) (e ∷ es)))
    ≡ cond b (change e) e ∷ changed_each which change ps es) [
      | true ↦ refl
      | false ↦ refl
    ]
each_more which change (p ∷ ps) (e ∷ es) (suc slot) within count =
    let next : suc slot + 1 ≡ suc (slot + 1) = omega arith in
    let rest = each_more which change ps es slot (omega (arith, within)) (omega (arith, count)) in
    by_meant (is_meant which (get_or ps slot no_place)) next rest
  where
    by_meant : (b : Bool) → suc slot + 1 ≡ suc (slot + 1) →
        take (slot + 1) (cond b (changed_in change slot es) es) ++ changed_each which change (drop (slot + 1) ps) (drop (slot + 1) (cond b (changed_in change slot es) es))
        ≡ take slot es ++ changed_each which change (drop slot ps) (drop slot es) →
        take (suc slot + 1) (cond b (changed_in change (suc slot) (e ∷ es)) (e ∷ es)) ++ changed_each which change (drop (suc slot + 1) (p ∷ ps))
        (drop (suc slot + 1) (cond b (changed_in change (suc slot) (e ∷ es)) (e ∷ es))) ≡ take (suc slot) (e ∷ es) ++ changed_each which change (drop (suc slot) (p ∷ ps)) (drop (suc slot) (e ∷ es))
    by_meant true next rest = rw next (ap (λ (l : List EndState). e ∷ l) rest)
    by_meant false next rest = rw next (ap (λ (l : List EndState). e ∷ l) rest)

pub each_changed : (which : WhichEnds) (change : EndState → EndState) (places : List EndPlace) (ends : List EndState) (slot : ℕ) → is_meant which (get_or places slot no_place) ≡ true
    → slot < length places → length ends ≡ length places →
    take (slot + 1) (changed_in change slot ends) ++ changed_each which change (drop (slot + 1) places) (drop (slot + 1) (changed_in change slot ends))
    ≡ take slot ends ++ changed_each which change (drop slot places) (drop slot ends)
each_changed which change places ends slot meant within count = rw meant at (each_more which change places ends slot within count)

pub each_left : (which : WhichEnds) (change : EndState → EndState) (places : List EndPlace) (ends : List EndState) (slot : ℕ) → is_meant which (get_or places slot no_place) ≡ false
    → slot < length places → length ends ≡ length places →
    take (slot + 1) ends ++ changed_each which change (drop (slot + 1) places) (drop (slot + 1) ends) ≡ take slot ends ++ changed_each which change (drop slot places) (drop slot ends)
each_left which change places ends slot meant within count = rw meant at (each_more which change places ends slot within count)

-- ---- the same of all lists of an edge

pub seen_at : (lists : EndLists) (slot : ℕ) → AreApart lists.places → length lists.ends ≡ length lists.places → slot < length lists.places → end_in lists slot ≡ get_or lists.ends slot fresh
unfolding seen_ends
seen_at lists slot apart count within = look_at lists.places lists.ends slot apart count within

pub seen_changed : (change : EndState → EndState) (old new : EndLists) (slot : ℕ) → AreApart old.places → length old.ends ≡ length old.places → slot < length old.places → new.places
    ≡ old.places → new.ends ≡ changed_in change slot old.ends → seen_ends new ≡ changed_at (place_of old slot) change (seen_ends old)
unfolding seen_ends
seen_changed change old new slot apart count within places ends = rw (places, ends) (look_changed old.places old.ends slot change apart count within)

pub seen_beside : (peer : EdgeId) (change : EndState → EndState) (old new : EndLists) → change fresh ≡ fresh → length old.ends ≡ length old.places → new.places ≡ old.places → new.ends
    ≡ changed_each (which.Beside peer) change old.places old.ends → seen_ends new ≡ changed_beside peer change (seen_ends old)
unfolding seen_ends
seen_beside peer change old new none count places ends = rw (places, ends) (look_beside peer change old.places old.ends none count)

pub seen_renewed : (wire : WireId) (old new : EndLists) → length old.ends ≡ length old.places → new.places ≡ old.places → new.ends
    ≡ changed_each (which.OfWire wire) renewed old.places old.ends → seen_ends new ≡ renewed_of wire (seen_ends old)
unfolding seen_ends
seen_renewed wire old new count places ends = rw (places, ends) (look_of_wire wire renewed old.places old.ends refl count)

pub seen_lost : (old new : EndLists) → length old.ends ≡ length old.places → new.places ≡ old.places → new.ends ≡ changed_each which.All lost old.places old.ends → seen_ends new ≡ (λ wire peer. fresh)
unfolding seen_ends
seen_lost old new count places ends = rw (places, ends) (look_all lost old.places old.ends refl count)

pub seen_opened : (lists : EndLists) → lists.ends ≡ replicate (length lists.places) fresh → seen_ends lists ≡ (λ wire peer. fresh)
unfolding seen_ends
seen_opened lists ends = rw ends (λ j wire peer. look_fresh lists.places (length lists.places) wire peer j)

-- all slots are passed
pub each_end : (which : WhichEnds) (change : EndState → EndState) (places : List EndPlace) (ends : List EndState) (slot : ℕ) → length places ≤ slot → length ends ≡ length places
    → take slot ends ++ changed_each which change (drop slot places) (drop slot ends) ≡ ends
each_end which change [] [] slot past count = all_none slot
  where
    all_none : (n : ℕ) → take n [] ++ changed_each which change (drop n []) (drop n []) ≡ []
    all_none zero = refl
    all_none (suc n) = refl
each_end which change [] (e ∷ es) slot past count = absurd (omega (arith, count))
each_end which change (p ∷ ps) [] slot past count = absurd (omega (arith, count))
each_end which change (p ∷ ps) (e ∷ es) zero past count = absurd (omega (arith, past))
each_end which change (p ∷ ps) (e ∷ es) (suc slot) past count = ap (λ (l : List EndState). e ∷ l) (each_end which change ps es slot (omega (arith, past)) (omega (arith, count)))

-- the count of the ends stays
pub count_changed : (change : EndState → EndState) (ends : List EndState) (slot : ℕ) → length (changed_in change slot ends) ≡ length ends
count_changed change ends slot = length-set ends slot (change (get_or ends slot fresh))

pub ruleset each_steps = (each_changed, each_left, each_end, count_changed)

pub ruleset seen_steps = (seen_changed, seen_beside, seen_renewed, seen_lost)

-- of an end of which nothing was told there is nothing to change
pub fresh_stays : (c : EndChange) → changed c fresh ≡ fresh
fresh_stays change.Withdrawn = refl
fresh_stays (change.Telling status) = refl
fresh_stays change.Renewed = refl
fresh_stays (change.Unbound label) = refl
fresh_stays (change.Released label) = refl
fresh_stays (change.Stated status) = refl
fresh_stays (change.GroupUnbound group) = refl
fresh_stays (change.GroupStated group status) = refl
fresh_stays change.Lost = refl
