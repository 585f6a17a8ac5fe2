-- The ends of an edge stand in the order of their wires: so those of a wire are found by halves.
use Rattle.std.proofs.Common.{◌≡◌, ◌≤◌, ◌<◌, ◌+◌, ◌∙◌, ◌==◌, ◌↔◌, ◌⊎◌, ℕ, Bool, true, false, nat_lt, not, cond, List, [], ◌∷◌, length, slice_get, get_or, position, refl, sym, arith, inl, inr}
use Rattle.std.specs.List.{All}
use Rattle.std.specs.List.Sorted.{IsPartitionedBy, IsPartitionPoint}
use Rattle.std.proofs.lemmas.Bool.{and_from, and_parts, cases_lt, lt-ltb, ltb-true, true≢false}
use Rattle.std.proofs.lemmas.Bool.Decides.{nat_tests}
use Rattle.std.proofs.lemmas.List.Elements.{All-append, All-cons, All-from_recursion, All-nil}
use Rattle.hvpls_spokes.specs.Search.{place_if}
use Rattle.net_base.specs.declared.plan.Plan.{Plan}
use Rattle.net_base.specs.declared.plan.places.EdgeId.{EdgeId}
use Rattle.net_base.specs.declared.plan.places.WireId.{WireId}
use Rattle.net_base.specs.declared.plan.wire_plan.WirePlan.{WirePlan}
use Rattle.hvpls_spokes.proofs.SearchLemmas.{first_behind, pairs_append, parted}
use Rattle.edge_model.specs.declared.end_place.EndPlace.{EndPlace}
use Rattle.edge_model.specs.EndPlaces.{end_place_at, end_places, is_end_of_wire, is_of_wire, is_terminal, places_along, places_at, places_from}
use Rattle.pw_ends.specs.Ends.{no_place}
use Rattle.pw_ends.specs.Order.{AreEndsInOrder, PrecedesEnd, end_follows_wire, end_precedes_wire}
use Rattle.pw_ends.proofs.PlaceLemmas.{from_later}
use Rattle.pw_ends.proofs.BesideLemmas.{earlier}

-- ---- the ends of one wire

-- the end is one of the wire, and terminal or not
record IsOf (wire : ℕ) (terminal : Bool) (place : EndPlace) : Type 0 where
  of_wire : place.wire.0 ≡ wire
  alike : place.terminal ≡ terminal

at_of : (wire : WireId) (row : WirePlan) (me : EdgeId) (segment : ℕ) (first next : EdgeId) → All (IsOf wire.0 (is_terminal row me)) (places_at wire row me segment first next)
at_of wire row me segment first next = by (me.0 == first.0) (me.0 == next.0)
  where
    one : (side : ℕ) (peer : EdgeId) → All (IsOf wire.0 (is_terminal row me)) (end_place_at wire row me segment side peer ∷ [])
    one side peer = All-cons (IsOf wire.0 (is_terminal row me)) (end_place_at wire row me segment side peer) [] (record { of_wire = refl; alike = refl }) (All-nil (IsOf wire.0 (is_terminal row me)))

    by : (a b : Bool) → All (IsOf wire.0 (is_terminal row me)) (cond a (end_place_at wire row me segment 0 next ∷ []) (cond b (end_place_at wire row me segment 1 first ∷ []) []))
    by true b = one 0 next
    by false true = one 1 first
    by false false = All-nil (IsOf wire.0 (is_terminal row me))

along_of : (wire : WireId) (row : WirePlan) (me : EdgeId) (segment : ℕ) (path : List EdgeId) → All (IsOf wire.0 (is_terminal row me)) (places_along wire row me segment path)
along_of wire row me segment [] = All-nil (IsOf wire.0 (is_terminal row me))
along_of wire row me segment (last ∷ []) = All-nil (IsOf wire.0 (is_terminal row me))
along_of wire row me segment (first ∷ next ∷ rest) =
    All-append (IsOf wire.0 (is_terminal row me)) (places_at wire row me segment first next) (places_along wire row me (segment + 1) (next ∷ rest))
    (at_of wire row me segment first next) (along_of wire row me (segment + 1) (next ∷ rest))

-- ---- the ends of several wires

one_in_order : (wire : ℕ) (terminal : Bool) (places : List EndPlace) → All (IsOf wire terminal) places → AreEndsInOrder places
one_in_order wire terminal places all i j d below within =
    let first : IsOf wire terminal (get_or places i d) = all i d (omega (arith, below, within)) in
    let second : IsOf wire terminal (get_or places j d) = all j d within in
    record {
      wires = omega (arith, first.of_wire, second.of_wire);
      alike = λ same. first.alike ∙ sym second.alike;
    }

from_in_order : (me : EdgeId) (wire : ℕ) (rows : List WirePlan) → AreEndsInOrder (places_from me wire rows)
from_in_order me wire [] = λ i j d below within. absurd (omega (arith, within))
from_in_order me wire (row ∷ rows) =
    let here : List EndPlace = places_along (record { 0 = wire }) row me 0 row.path in
    let later : List EndPlace = places_from me (wire + 1) rows in
    let of_it : All (IsOf wire (is_terminal row me)) here = along_of (record { 0 = wire }) row me 0 row.path in
    let behind : All (λ p. wire + 1 ≤ p.wire.0) later = All-from_recursion (λ p. wire + 1 ≤ p.wire.0) later (from_later me (wire + 1) rows) in
    pairs_append PrecedesEnd here later (one_in_order wire (is_terminal row me) here of_it) (from_in_order me (wire + 1) rows)
    (λ i d within j e inside. apart (get_or here i d) (get_or later j e) (of_it i d within).of_wire (behind j e inside))
  where
    apart : (first second : EndPlace) → first.wire.0 ≡ wire → wire + 1 ≤ second.wire.0 → PrecedesEnd first second
    apart first second of_it behind = record {
      wires = omega (arith, of_it, behind);
      alike = λ same. absurd (omega (arith, of_it, behind, same));
    }

pub places_in_order : (plan : Plan) (me : EdgeId) → AreEndsInOrder (end_places plan me)
places_in_order plan me = from_in_order me 0 plan.wires

-- ---- the search of a wire

not_before : (wire : WireId) (x : EndPlace) → is_of_wire wire x ≡ true → end_precedes_wire wire x ≡ false
not_before wire x here = grind (arith, nat_tests, here)

same_wire : (wire : WireId) (x y : EndPlace) → PrecedesEnd x y → is_of_wire wire y ≡ true → end_precedes_wire wire x ≡ false → is_of_wire wire x ≡ true
same_wire wire x y order here behind = grind (arith, nat_tests, order.wires, here, behind)

of_one : (wire : WireId) (x y : EndPlace) → is_of_wire wire x ≡ true → is_of_wire wire y ≡ true → x.wire.0 ≡ y.wire.0
of_one wire x y first second = grind (arith, nat_tests, first, second)

-- where the ends of earlier wires end, the first one of a wire stands, if it has one
pub of_wire_behind : (wire : WireId) (places : List EndPlace) (k : ℕ) → AreEndsInOrder places → k ≤ length places
    → (IsPartitionedBy (end_precedes_wire wire) places → IsPartitionPoint (λ x. end_precedes_wire wire x ≡ true) (λ x. end_precedes_wire wire x ≡ false) places k)
    → position (is_of_wire wire) places ≡ place_if (is_of_wire wire) k (slice_get places k)
of_wire_behind wire places k ordered bound ends =
    (first_behind PrecedesEnd (end_precedes_wire wire) (is_of_wire wire) places k ordered (earlier wire) (not_before wire) (same_wire wire) bound ends).place

-- and it is terminal where any of them is
pub terminal_behind : (wire : WireId) (places : List EndPlace) (k : ℕ) → AreEndsInOrder places → k ≤ length places
    → (IsPartitionedBy (end_precedes_wire wire) places → IsPartitionPoint (λ x. end_precedes_wire wire x ≡ true) (λ x. end_precedes_wire wire x ≡ false) places k)
    → position (is_end_of_wire wire) places ≡ place_if (is_end_of_wire wire) k (slice_get places k)
terminal_behind wire places k ordered bound ends =
    (first_behind PrecedesEnd (end_precedes_wire wire) (is_end_of_wire wire) places k ordered (earlier wire)
    (λ x here. not_before wire x (and_parts (is_of_wire wire x) x.terminal here).0)
    same_end
    bound ends).place
  where
    same_end : (x y : EndPlace) → PrecedesEnd x y → is_end_of_wire wire y ≡ true → end_precedes_wire wire x ≡ false → is_end_of_wire wire x ≡ true
    same_end x y order here behind =
        let parts = and_parts (is_of_wire wire y) y.terminal here in
        let same : is_of_wire wire x ≡ true = same_wire wire x y order parts.0 behind in
        and_from (is_of_wire wire x) x.terminal same (order.alike (of_one wire x y same parts.0) ∙ parts.1)

-- ---- the slots of a wire

-- the ends before such a place pass a test, and no other does
before_point : (before : EndPlace → Bool) (places : List EndPlace) (k : ℕ) → AreEndsInOrder places → ((x y : EndPlace) → PrecedesEnd x y → before y ≡ true → before x ≡ true) → k ≤ length places
    → (IsPartitionedBy before places → IsPartitionPoint (λ x. before x ≡ true) (λ x. before x ≡ false) places k)
    → (slot : ℕ) → slot < length places → (slot < k) ↔ (before (get_or places slot no_place) ≡ true)
before_point before places k ordered passes bound ends slot within =
    let point = ends (parted PrecedesEnd before places ordered passes) in (
      λ under. point.0 slot no_place (omega arith) under,
      by (cases_lt slot k) (λ from. point.1 slot no_place from within),
    )
  where
    by : (slot < k) ⊎ (k ≤ slot) → (k ≤ slot → before (get_or places slot no_place) ≡ false) → before (get_or places slot no_place) ≡ true → slot < k
    by (inl under) away here = under
    by (inr from) away here = absurd (true≢false (sym here ∙ away from))

-- so those before the ends of a wire are of earlier ones
pub slots_before : (wire : WireId) (places : List EndPlace) (k : ℕ) → AreEndsInOrder places → k ≤ length places
    → (IsPartitionedBy (end_precedes_wire wire) places → IsPartitionPoint (λ x. end_precedes_wire wire x ≡ true) (λ x. end_precedes_wire wire x ≡ false) places k)
    → (slot : ℕ) → slot < length places → (slot < k) ↔ ((get_or places slot no_place).wire.0 < wire.0)
slots_before wire places k ordered bound ends slot within =
    let at = before_point (end_precedes_wire wire) places k ordered (earlier wire) bound ends slot within in (
      λ under. ltb-true _ _ (at.0 under),
      λ less. at.1 (lt-ltb _ _ less),
    )

through_wire : (wire : WireId) (x y : EndPlace) → PrecedesEnd x y → not (end_follows_wire wire y) ≡ true → not (end_follows_wire wire x) ≡ true
through_wire wire x y order under = grind (arith, nat_tests, order.wires, under)

-- and those up to them are of no later one
pub slots_through : (wire : WireId) (places : List EndPlace) (k : ℕ) → AreEndsInOrder places → k ≤ length places
    → (IsPartitionedBy (λ x. not (end_follows_wire wire x)) places → IsPartitionPoint (λ x. not (end_follows_wire wire x) ≡ true) (λ x. not (end_follows_wire wire x) ≡ false) places k)
    → (slot : ℕ) → slot < length places → (slot < k) ↔ ((get_or places slot no_place).wire.0 ≤ wire.0)
slots_through wire places k ordered bound ends slot within =
    let at = before_point (λ x. not (end_follows_wire wire x)) places k ordered (through_wire wire) bound ends slot within in (
      λ under. up_to wire.0 (get_or places slot no_place).wire.0 (at.0 under),
      λ less. at.1 (not_after wire.0 (get_or places slot no_place).wire.0 less),
    )
  where
    up_to : (n m : ℕ) → not (nat_lt n m) ≡ true → m ≤ n
    up_to n m is = grind (arith, nat_tests, is)

    not_after : (n m : ℕ) → m ≤ n → not (nat_lt n m) ≡ true
    not_after n m less = grind (arith, nat_tests, less)

-- between the two are those of the wire
between : (number wire first past slot : ℕ) → (slot < first) ↔ (number < wire) → (slot < past) ↔ (number ≤ wire) → (number ≡ wire) ↔ (first ≤ slot × slot < past)
between number wire first past slot before through = (
  λ same. (from same (cases_lt slot first), through.1 (omega (arith, same))),
  λ within. there within.0 (through.0 within.1) (cases_lt number wire),
)
  where
    from : number ≡ wire → (slot < first) ⊎ (first ≤ slot) → first ≤ slot
    from same (inl under) = let less = before.0 under in omega (arith, same, less)
    from same (inr above) = above

    there : first ≤ slot → number ≤ wire → (number < wire) ⊎ (wire ≤ number) → number ≡ wire
    there above most (inl less) = let under = before.1 less in omega (arith, above, under)
    there above most (inr least) = omega (arith, most, least)

pub slots_between : (wire : WireId) (places : List EndPlace) (first past : ℕ)
    → ((slot : ℕ) → slot < length places → (slot < first) ↔ ((get_or places slot no_place).wire.0 < wire.0))
    → ((slot : ℕ) → slot < length places → (slot < past) ↔ ((get_or places slot no_place).wire.0 ≤ wire.0))
    → (slot : ℕ) → slot < length places → ((get_or places slot no_place).wire.0 ≡ wire.0) ↔ (first ≤ slot × slot < past)
slots_between wire places first past before through slot within = between (get_or places slot no_place).wire.0 wire.0 first past slot (before slot within) (through slot within)
