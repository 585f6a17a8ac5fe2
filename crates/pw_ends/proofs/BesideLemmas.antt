-- The end of a wire beside a peer.
use Rattle.std.proofs.Common.{◌≡◌, ◌<◌, ◌≤◌, ◌+◌, ◌∙◌, ◌==◌, ◌&&◌, cond, ℕ, zero, suc, Bool, true, false, List, [], ◌∷◌, Option, Some, None, IfSome, length, drop, get_or, nat_lt, option_map, position, refl, ap, sym, subst, arith, zero-add}
use Rattle.std.specs.List.{find, position_or_len}
use Rattle.std.specs.List.Sorted.{IsPartitionedBy, IsPartitionPoint}
use Rattle.std.proofs.lemmas.Bool.{and_parts, eqb-true}
use Rattle.std.proofs.lemmas.Bool.Decides.{nat_tests}
use Rattle.std.proofs.lemmas.List.Quantifiers.{position-Some}
use Rattle.hvpls_spokes.proofs.SearchLemmas.{parted}
use Rattle.net_base.specs.declared.plan.places.EdgeId.{EdgeId}
use Rattle.net_base.specs.declared.plan.places.WireId.{WireId}
use Rattle.pw_signalling.specs.End.{EndState, fresh}
use Rattle.edge_model.specs.declared.end_place.EndPlace.{EndPlace}
use Rattle.pw_ends.specs.Ends.{EndLists, look, no_place, place_of, seen_ends}
use Rattle.edge_model.specs.EndPlaces.{is_at}
use Rattle.pw_ends.specs.Order.{AreEndsInOrder, PrecedesEnd, end_precedes_wire}
use Rattle.pw_ends.proofs.IndexLemmas.{none_at, slot_from, slot_from_position, slot_from_start, slot_in}

-- ---- the slots of earlier wires are passed over

slot_passed : (p : EndPlace → Bool) (i k : ℕ) (xs : List EndPlace) → k ≤ length xs → ((n : ℕ) (d : EndPlace) → n < k → p (get_or xs n d) ≡ false) → slot_from i p xs ≡ slot_from (i + k) p (drop k xs)
slot_passed p i zero xs bound before = ap (λ n. slot_from n p xs) (omega arith)
slot_passed p i (suc k) [] bound before = absurd (omega (arith, bound))
slot_passed p i (suc k) (x ∷ xs) bound before =
    let further : (i + 1) + k ≡ i + suc k = omega arith in
    ap (λ (b : Bool). cond b (Some i) (slot_from (i + 1) p xs)) (before zero x (omega arith))
    ∙ (slot_passed p (i + 1) k xs (omega (arith, bound)) (λ n d below. before (suc n) d (omega (arith, below)))
    ∙ ap (λ n. slot_from n p (drop k xs)) further)

mapped : (k n : ℕ) (b : Bool) → cond b (Some (k + n)) None ≡ option_map (λ (m : ℕ). k + m) (cond b (Some n) None)
mapped k n true = refl
mapped k n false = refl

slot_further : (p : EndPlace → Bool) (k : ℕ) (xs : List EndPlace) → slot_from k p xs ≡ option_map (λ n. k + n) (position p xs)
slot_further p k xs = slot_from_position k p xs ∙ mapped k (position_or_len p xs) (nat_lt (position_or_len p xs) (length xs))

passed_over : (p : EndPlace → Bool) (k : ℕ) (xs : List EndPlace) → k ≤ length xs → ((n : ℕ) (d : EndPlace) → n < k → p (get_or xs n d) ≡ false) → position p xs
    ≡ option_map (λ n. k + n) (position p (drop k xs))
passed_over p k xs bound before = sym (slot_from_start p xs) ∙ (slot_passed p 0 k xs bound before ∙ (ap (λ n. slot_from n p (drop k xs)) (zero-add k) ∙ slot_further p k (drop k xs)))

pub earlier : (wire : WireId) (x y : EndPlace) → PrecedesEnd x y → end_precedes_wire wire y ≡ true → end_precedes_wire wire x ≡ true
earlier wire x y order under = grind (arith, nat_tests, order.wires, under)

not_at : (wire : WireId) (peer : ℕ) (x : EndPlace) → end_precedes_wire wire x ≡ true → is_at wire.0 peer x ≡ false
not_at wire peer x under =
    let other : (wire.0 == x.wire.0) ≡ false = grind (arith, nat_tests, under) in
    ap (λ (b : Bool). b && peer == x.peer.0) other

-- where the ends of earlier wires end, the end of a wire beside a peer stands, if there is one, or behind it
pub beside_behind : (wire : WireId) (peer : ℕ) (places : List EndPlace) (k : ℕ) → AreEndsInOrder places → k ≤ length places
    → (IsPartitionedBy (end_precedes_wire wire) places → IsPartitionPoint (λ x. end_precedes_wire wire x ≡ true) (λ x. end_precedes_wire wire x ≡ false) places k)
    → position (is_at wire.0 peer) places ≡ option_map (λ n. k + n) (position (is_at wire.0 peer) (drop k places))
beside_behind wire peer places k ordered bound ends =
    let point = ends (parted PrecedesEnd (end_precedes_wire wire) places ordered (earlier wire)) in
    passed_over (is_at wire.0 peer) k places bound (λ n d under. not_at wire peer (get_or places n d) (point.0 n d (omega arith) under))

-- ---- what stands at the slot that is found

same_wire : (a b : WireId) → a.0 ≡ b.0 → a ≡ b
same_wire a b same = λ i. record { 0 = same i }

same_edge : (a b : EdgeId) → a.0 ≡ b.0 → a ≡ b
same_edge a b same = λ i. record { 0 = same i }

pub beside_place : (lists : EndLists) (wire : WireId) (peer : EdgeId) (found : Option ℕ) → found ≡ position (is_at wire.0 peer.0) lists.places
    → IfSome found (λ slot. (place_of lists slot).wire ≡ wire)
beside_place lists wire peer None is = tt
beside_place lists wire peer (Some slot) is =
    let here = position-Some (is_at wire.0 peer.0) lists.places slot no_place (sym is) in
    let parts = and_parts (wire.0 == (place_of lists slot).wire.0) (peer.0 == (place_of lists slot).peer.0) here.1 in
    same_wire (place_of lists slot).wire wire (sym (eqb-true wire.0 (place_of lists slot).wire.0 parts.0))

pub beside_peer : (lists : EndLists) (wire : WireId) (peer : EdgeId) (found : Option ℕ) → found ≡ position (is_at wire.0 peer.0) lists.places → IfSome found (λ slot. (place_of lists slot).peer ≡ peer)
beside_peer lists wire peer None is = tt
beside_peer lists wire peer (Some slot) is =
    let here = position-Some (is_at wire.0 peer.0) lists.places slot no_place (sym is) in
    let parts = and_parts (wire.0 == (place_of lists slot).wire.0) (peer.0 == (place_of lists slot).peer.0) here.1 in
    same_edge (place_of lists slot).peer peer (sym (eqb-true peer.0 (place_of lists slot).peer.0 parts.1))

pub beside_within : (lists : EndLists) (wire peer : ℕ) (found : Option ℕ) → found ≡ position (is_at wire peer) lists.places → IfSome found (λ slot. slot < length lists.places)
beside_within lists wire peer found is = subst (λ (o : Option ℕ). IfSome o (λ slot. slot < length lists.places)) (sym is) (slot_in (is_at wire peer) lists.places)

-- of an end that is not there nothing was told
pub look_none : (places : List EndPlace) (ends : List EndState) (wire peer : ℕ) → find (is_at wire peer) places ≡ None → look places ends wire peer ≡ fresh
look_none [] ends wire peer none = refl
look_none (place ∷ places) [] wire peer none = refl
look_none (place ∷ places) (end ∷ ends) wire peer none = by (is_at wire peer place) none (look_none places ends wire peer)
  where
    by : (b : Bool) → cond b (Some place) (find (is_at wire peer) places) ≡ None → (find (is_at wire peer) places ≡ None → look places ends wire peer ≡ fresh)
        → cond b end (look places ends wire peer) ≡ fresh
    by true is rest = absurd (cc (is))
    by false is rest = rest is

pub beside_none : (lists : EndLists) (wire peer : ℕ) (found : Option ℕ) → found ≡ position (is_at wire peer) lists.places → found ≡ None → seen_ends lists wire peer ≡ fresh
unfolding seen_ends
beside_none lists wire peer found is none = look_none lists.places lists.ends wire peer (none_at (is_at wire peer) lists.places (sym is ∙ none))

pub ruleset beside_steps = (beside_within, beside_none)
