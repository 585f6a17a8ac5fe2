-- Where an edge has ends of pseudowires, by the paths of a checked plan's wires.
use Rattle.std.proofs.Common.{◌≡◌, ◌==◌, ◌+◌, ◌<◌, ◌&&◌, ◌||◌, ◌++◌, ◌∙◌, ℕ, zero, suc, Bool, true, false, List, [], ◌∷◌, Some, None, if◌then◌else◌, slice_get, refl, sym, ap, subst, inl, inr, arith}
use Rattle.std.specs.List.{AllByRecursion, find, list_any}
use Rattle.std.proofs.lemmas.Bool.{cases_Bool, cases_lt, or_parts, eqb-true, and_from, or_left, eq-eqb}
use Rattle.std.proofs.lemmas.Bool.Decides.{nat_tests}
use Rattle.std.proofs.lemmas.List.Folds.{list_any-append}
use Rattle.std.proofs.lemmas.Option.{get_or_from_slice_get, slice_get_within}
use Rattle.net_values.proofs.BoolLemmas.{first_holds, clash, second_holds, or_later, by_either, both_of}
use Rattle.net_values.proofs.NumberLemmas.{step_into, equal_back, from_none_back, at_start}
use Rattle.net_values.proofs.RowLemmas.{row_holds, all-append}
use Rattle.net_base.specs.declared.plan.Plan.{Plan}
use Rattle.net_base.specs.declared.plan.places.EdgeId.{EdgeId}
use Rattle.net_base.specs.declared.plan.places.WireId.{WireId}
use Rattle.net_base.specs.declared.plan.wire_plan.WirePlan.{WirePlan}
use Rattle.net_base.specs.plan.Accepted.{IsChecked, IsWireOf}
use Rattle.net_base.specs.plan.Paths.{has_repeat, joins, share_segment}
use Rattle.net_base.specs.plan.Places.{wire_row}
use Rattle.net_base.specs.plan.WireFaults.{repeats_pw_id}
use Rattle.net_base.proofs.PathLemmas.{joins_apart, joins_turned}
use Rattle.edge_model.specs.EndPlaces.{end_named, end_place_at, end_places, is_named, is_terminal, places_along, places_at, places_from}
use Rattle.edge_model.specs.declared.end_place.EndPlace.{EndPlace}

pub all-map : {A : Type 0} (P Q : A → Type 0) (xs : List A) → ((x : A) → P x → Q x) → AllByRecursion P xs → AllByRecursion Q xs
all-map P Q [] follows all = tt
all-map P Q (x ∷ xs) follows all = (follows x all.0, all-map P Q xs follows all.1)

-- ---- what the plan says of an end

-- the end of an edge at a segment of a wire of the plan, beside the edge at its other side
pub record IsEndOf (plan : Plan) (me : EdgeId) (place : EndPlace) : Type 0 where
  pub row : WirePlan
  pub is : wire_row plan place.wire ≡ Some row
  pub pw_id : place.pw_id ≡ row.pw_id
  pub terminal : place.terminal ≡ is_terminal row me
  pub joined : joins me.0 place.peer.0 row.path ≡ true

joined_first : (me first next : ℕ) (later : Bool) → (me == first) ≡ true → ((me == first && next == next) || (next == first && me == next)) || later ≡ true
joined_first me first next later same = grind (arith, nat_tests)

joined_next : (me first next : ℕ) (later : Bool) → (me == next) ≡ true → ((me == first && first == next) || (first == first && me == next)) || later ≡ true
joined_next me first next later same = grind (arith, nat_tests)

-- at each segment of a path
pub along_are : (P : EndPlace → Type 0) (wire : WireId) (row : WirePlan) (me : EdgeId) (segment : ℕ) (path : List EdgeId)
    → ((segment side : ℕ) (peer : EdgeId) → joins me.0 peer.0 path ≡ true → P (end_place_at wire row me segment side peer)) → AllByRecursion P (places_along wire row me segment path)
along_are P wire row me segment [] each = tt
along_are P wire row me segment (last ∷ []) each = tt
along_are P wire row me segment (first ∷ next ∷ rest) each = all-append P (places_at wire row me segment first next) (places_along wire row me (segment + 1) (next ∷ rest))
    (here (me.0 == first.0) (me.0 == next.0)
    (λ same. each segment 0 next (joined_first me.0 first.0 next.0 (joins me.0 next.0 (next ∷ rest)) same))
    (λ same. each segment 1 first (joined_next me.0 first.0 next.0 (joins me.0 first.0 (next ∷ rest)) same)))
    (along_are P wire row me (segment + 1) (next ∷ rest)
    (λ number side peer joined. each number side peer (or_later ((me.0 == first.0 && peer.0 == next.0) || (peer.0 == first.0 && me.0 == next.0)) joined)))
  where
    here : (p q : Bool) → (p ≡ true → P (end_place_at wire row me segment 0 next)) → (q ≡ true → P (end_place_at wire row me segment 1 first))
        → AllByRecursion P (if p then end_place_at wire row me segment 0 next ∷ [] else if q then end_place_at wire row me segment 1 first ∷ [] else [])
    here true q one other = (one refl, tt)
    here false true one other = (other refl, tt)
    here false false one other = tt

-- and of each wire
pub from_are : (P : EndPlace → Type 0) (me : EdgeId) (start : ℕ) (rows : List WirePlan)
    → ((k : ℕ) (row : WirePlan) → slice_get rows k ≡ Some row → AllByRecursion P (places_along (record { 0 = start + k }) row me 0 row.path)) → AllByRecursion P (places_from me start rows)
from_are P me start [] each = tt
from_are P me start (row ∷ rows) each = all-append P (places_along (record { 0 = start }) row me 0 row.path) (places_from me (start + 1) rows)
    (subst (λ (n : ℕ). AllByRecursion P (places_along (record { 0 = n }) row me 0 row.path)) (at_start start) (each zero row refl))
    (from_are P me (start + 1) rows (λ k later is. subst (λ (n : ℕ). AllByRecursion P (places_along (record { 0 = n }) later me 0 later.path)) (step_into start k) (each (suc k) later is)))

-- each end of an edge is one of a wire whose path has a segment that joins the edge and the peer
pub places_are : (plan : Plan) (me : EdgeId) → AllByRecursion (IsEndOf plan me) (end_places plan me)
places_are plan me = from_are (IsEndOf plan me) me 0 plan.wires (λ k row is. along_are (IsEndOf plan me) (record { 0 = 0 + k }) row me 0 row.path
    (λ segment side peer joined. record { row = row; is = subst (λ (n : ℕ). slice_get plan.wires n ≡ Some row) (from_none_back k) is; joined = joined; pw_id = refl; terminal = refl }))

-- ---- an end by its peer and PW ID

-- what is found passes the test, and is one of the list
pub record IsFound (P : EndPlace → Type 0) (test : EndPlace → Bool) (place : EndPlace) : Type 0 where
  pub holds : P place
  pub passes : test place ≡ true

pub find_holds : (P : EndPlace → Type 0) (test : EndPlace → Bool) (places : List EndPlace) (place : EndPlace) → AllByRecursion P places → find test places ≡ Some place → IsFound P test place
find_holds P test [] place all is = absurd (cc)
find_holds P test (first ∷ places) place all is = elim (cases_Bool (test first)) [
  | inl passes ↦ subst (IsFound P test) (same (rw passes at is)) (record { holds = all.0; passes = passes })
  | inr fails ↦ find_holds P test places place all.1 (rw fails at is)
]
  where
    same : Some first ≡ Some place → first ≡ place
    same e = cc

-- something is found
pub record Finds (test : EndPlace → Bool) (places : List EndPlace) : Type 0 where
  pub place : EndPlace
  pub is : find test places ≡ Some place

pub find_some : (test : EndPlace → Bool) (places : List EndPlace) → list_any test places ≡ true → Finds test places
find_some test [] some = absurd (cc)
find_some test (first ∷ places) some = elim (cases_Bool (test first)) [
  | inl passes ↦ record { place = first; is = rw passes refl }
  | inr fails ↦ (let more : Finds test places = find_some test places (rw fails at some) in record { place = more.place; is = rw fails more.is })
]

any_first : (test : EndPlace → Bool) (xs ys : List EndPlace) → list_any test xs ≡ true → list_any test (xs ++ ys) ≡ true
any_first test xs ys some = list_any-append test xs ys ∙ rw some refl

any_later : (test : EndPlace → Bool) (xs ys : List EndPlace) → list_any test ys ≡ true → list_any test (xs ++ ys) ≡ true
any_later test xs ys some = list_any-append test xs ys ∙ or_later (list_any test xs) some

-- an end beside a neighbour is there
named_along : (wire : WireId) (row : WirePlan) (me : EdgeId) (peer : EdgeId) (segment : ℕ) (path : List EdgeId) → (me.0 == peer.0) ≡ false → joins me.0 peer.0 path ≡ true
    → list_any (is_named peer row.pw_id) (places_along wire row me segment path) ≡ true
named_along wire row me peer segment [] apart joined = absurd (cc)
named_along wire row me peer segment (last ∷ []) apart joined = absurd (cc)
named_along wire row me peer segment (first ∷ next ∷ rest) apart joined =
    by_either ((me.0 == first.0 && peer.0 == next.0) || (peer.0 == first.0 && me.0 == next.0)) (joins me.0 peer.0 (next ∷ rest)) joined
    (λ here. any_first (is_named peer row.pw_id) (places_at wire row me segment first next) (places_along wire row me (segment + 1) (next ∷ rest))
    (chosen (me.0 == first.0) (me.0 == next.0)
    (λ same. beside_next me.0 first.0 next.0 peer.0 row.pw_id apart here same)
    (λ differ. is_next me.0 first.0 next.0 peer.0 here differ)
    (λ differ. beside_first me.0 first.0 next.0 peer.0 row.pw_id here differ)))
    (λ later. any_later (is_named peer row.pw_id) (places_at wire row me segment first next) (places_along wire row me (segment + 1) (next ∷ rest))
    (named_along wire row me peer (segment + 1) (next ∷ rest) apart later))
  where
    chosen : (p q : Bool) → (p ≡ true → (next.0 == peer.0 && row.pw_id == row.pw_id) || false ≡ true) → (p ≡ false → q ≡ true)
        → (p ≡ false → (first.0 == peer.0 && row.pw_id == row.pw_id) || false ≡ true)
        → list_any (is_named peer row.pw_id) (if p then end_place_at wire row me segment 0 next ∷ [] else if q then end_place_at wire row me segment 1 first ∷ [] else []) ≡ true
    chosen true q one is other = one refl
    chosen false true one is other = other refl
    chosen false false one is other = absurd (clash (is refl))
      where
        clash : false ≡ true → ⊥
        clash e = cc

    beside_next : (a f n b id : ℕ) → (a == b) ≡ false → (a == f && b == n) || (b == f && a == n) ≡ true → (a == f) ≡ true → (n == b && id == id) || false ≡ true
    beside_next a f n b id apart here same = grind (arith, nat_tests)

    is_next : (a f n b : ℕ) → (a == f && b == n) || (b == f && a == n) ≡ true → (a == f) ≡ false → (a == n) ≡ true
    is_next a f n b here differ = grind (arith, nat_tests)

    beside_first : (a f n b id : ℕ) → (a == f && b == n) || (b == f && a == n) ≡ true → (a == f) ≡ false → (f == b && id == id) || false ≡ true
    beside_first a f n b id here differ = grind (arith, nat_tests)

named_from : (me : EdgeId) (peer : EdgeId) (start k : ℕ) (row : WirePlan) (rows : List WirePlan) → (me.0 == peer.0) ≡ false → slice_get rows k ≡ Some row → joins me.0 peer.0 row.path ≡ true
    → list_any (is_named peer row.pw_id) (places_from me start rows) ≡ true
named_from me peer start k row [] apart is joined = absurd (cc)
named_from me peer start zero row (first ∷ rows) apart is joined =
    let same : first ≡ row = cc in
    any_first (is_named peer row.pw_id) (places_along (record { 0 = start }) first me 0 first.path) (places_from me (start + 1) rows)
    (subst (λ (r : WirePlan). list_any (is_named peer row.pw_id) (places_along (record { 0 = start }) r me 0 r.path) ≡ true) (sym same)
    (named_along (record { 0 = start }) row me peer 0 row.path apart joined))
named_from me peer start (suc k) row (first ∷ rows) apart is joined =
    any_later (is_named peer row.pw_id) (places_along (record { 0 = start }) first me 0 first.path) (places_from me (start + 1) rows) (named_from me peer (start + 1) k row rows apart is joined)

-- ---- PW IDs of a checked plan

-- no edge is its own neighbour on a wire of the plan
pub wire_apart : (plan : Plan) (wire : WireId) (row : WirePlan) (a b : ℕ) → IsChecked plan → wire_row plan wire ≡ Some row → joins a b row.path ≡ true → (a == b) ≡ false
wire_apart plan wire row a b checked is joined = joins_apart row.path a b (row_holds (IsWireOf plan) plan.wires wire.0 row is checked.wires).once joined

-- two paths that both join two edges share a segment
shares : (path other : List EdgeId) (a b : ℕ) → joins a b path ≡ true → joins a b other ≡ true → share_segment path other ≡ true
shares path [] a b one two = clash two
shares path (last ∷ []) a b one two = clash two
shares path (first ∷ next ∷ rest) a b one two =
    by_either ((a == first.0 && b == next.0) || (b == first.0 && a == next.0)) (joins a b (next ∷ rest)) two
    (λ here. or_left (joins first.0 next.0 path) (share_segment path (next ∷ rest)) (by_either (a == first.0 && b == next.0) (b == first.0 && a == next.0) here
    (λ same. at_ends a b first.0 next.0 same one)
    (λ turned. at_ends b a first.0 next.0 turned (sym (joins_turned path a b) ∙ one))))
    (λ later. or_later (joins first.0 next.0 path) (shares path (next ∷ rest) a b one later))
  where
    at_ends : (m n f g : ℕ) → m == f && n == g ≡ true → joins m n path ≡ true → joins f g path ≡ true
    at_ends m n f g same is = subst (λ (k : ℕ). joins f k path ≡ true) (eqb-true n g (second_holds (m == f) (n == g) same))
        (subst (λ (k : ℕ). joins k n path ≡ true) (eqb-true m f (first_holds (m == f) (n == g) same)) is)

before_differs : (plan : Plan) (i j a b : ℕ) (one other : WirePlan) → IsChecked plan → slice_get plan.wires i ≡ Some one → slice_get plan.wires j ≡ Some other → joins a b one.path
    ≡ true → joins a b other.path ≡ true
    → i < j → (one.pw_id == other.pw_id) ≡ false
before_differs plan i j a b one other checked first second there too before =
    let none : repeats_pw_id one other ≡ false =
    rw (← get_or_from_slice_get plan.wires i one one first, ← get_or_from_slice_get plan.wires j other one second) (checked.pw_ids i j one before (slice_get_within plan.wires j other second)) in
    parts (one.pw_id == other.pw_id) none (shares one.path other.path a b there too)
  where
    parts : (p : Bool) {q : Bool} → p && q ≡ false → q ≡ true → p ≡ false
    parts false none is = refl
    parts true none is = clash (sym none ∙ is)

-- two wires with one PW ID that both join two edges are the same one
pub pw_id_once : (plan : Plan) (i j a b : ℕ) (one other : WirePlan) → IsChecked plan → slice_get plan.wires i ≡ Some one → slice_get plan.wires j ≡ Some other → joins a b one.path
    ≡ true → joins a b other.path ≡ true
    → (one.pw_id == other.pw_id) ≡ true → i ≡ j
pw_id_once plan i j a b one other checked first second there too same = elim (cases_lt i j) [
  | inl before ↦ clash (sym (before_differs plan i j a b one other checked first second there too before) ∙ same)
  | inr behind ↦ elim (cases_lt j i) [
    | inl after ↦ clash (sym (before_differs plan j i a b other one checked second first too there after) ∙ equal_back one.pw_id other.pw_id same)
    | inr other_way ↦ grind (arith, nat_tests)
  ]
]

-- ---- the end of a wire beside a neighbour, seen from either of them

-- the end that the PW ID names is of the wire
pub record NamedEnd (plan : Plan) (me peer : EdgeId) (wire : WireId) (row : WirePlan) : Type 0 where
  pub place : EndPlace
  pub named : end_named plan me peer row.pw_id ≡ Some place
  pub wire_is : place.wire ≡ wire
  pub peer_is : place.peer ≡ peer
  pub pw_id_is : place.pw_id ≡ row.pw_id

-- what is named is beside the peer, and of a wire with the PW ID
pub record IsNamed (plan : Plan) (me peer : EdgeId) (pw_id : ℕ) (place : EndPlace) : Type 0 where
  pub holds : IsEndOf plan me place
  pub peer_is : place.peer ≡ peer
  pub pw_id_is : place.pw_id ≡ pw_id

pub named_is : (plan : Plan) (me peer : EdgeId) (pw_id : ℕ) (place : EndPlace) → end_named plan me peer pw_id ≡ Some place → IsNamed plan me peer pw_id place
named_is plan me peer pw_id place is =
    let found : IsFound (IsEndOf plan me) (is_named peer pw_id) place = find_holds (IsEndOf plan me) (is_named peer pw_id) (end_places plan me) place (places_are plan me) is in
    both_of (place.peer.0 == peer.0) (place.pw_id == pw_id) found.passes
    (λ beside numbered. record {
      holds = found.holds;
      peer_is = ap (λ (n : ℕ). record { 0 = n }) (eqb-true place.peer.0 peer.0 beside);
      pw_id_is = eqb-true place.pw_id pw_id numbered;
    })

-- the wire of a named end is the one with the PW ID
pub wire_named : (plan : Plan) (me peer : EdgeId) (pw_id : ℕ) (place : EndPlace) (wire : WireId) (row : WirePlan) → IsChecked plan → wire_row plan wire ≡ Some row → joins me.0 peer.0 row.path ≡ true
    → end_named plan me peer pw_id ≡ Some place → (pw_id == row.pw_id) ≡ true → place.wire ≡ wire
wire_named plan me peer pw_id place wire row checked is joined named same =
    let there : IsNamed plan me peer pw_id place = named_is plan me peer pw_id place named in
    ap (λ (n : ℕ). record { 0 = n })
    (pw_id_once plan place.wire.0 wire.0 me.0 peer.0 there.holds.row row checked there.holds.is is
    (subst (λ (k : EdgeId). joins me.0 k.0 there.holds.row.path ≡ true) there.peer_is there.holds.joined) joined
    (eq-eqb there.holds.row.pw_id row.pw_id (sym there.holds.pw_id ∙ (there.pw_id_is ∙ eqb-true pw_id row.pw_id same))))

pub end_of : (plan : Plan) (me peer : EdgeId) (wire : WireId) (row : WirePlan) → IsChecked plan → wire_row plan wire ≡ Some row → joins me.0 peer.0 row.path ≡ true → NamedEnd plan me peer wire row
end_of plan me peer wire row checked is joined =
    let found : Finds (is_named peer row.pw_id) (end_places plan me) =
    find_some (is_named peer row.pw_id) (end_places plan me) (named_from me peer 0 wire.0 row plan.wires (wire_apart plan wire row me.0 peer.0 checked is joined) is joined) in
    let there : IsNamed plan me peer row.pw_id found.place = named_is plan me peer row.pw_id found.place found.is in
    record {
      place = found.place;
      named = found.is;
      wire_is = wire_named plan me peer row.pw_id found.place wire row checked is joined found.is (eq-eqb row.pw_id row.pw_id refl);
      peer_is = there.peer_is;
      pw_id_is = there.pw_id_is;
    }

-- the same seen from the neighbour
pub end_of_back : (plan : Plan) (me peer : EdgeId) (wire : WireId) (row : WirePlan) → IsChecked plan → wire_row plan wire ≡ Some row → joins me.0 peer.0 row.path ≡ true
    → NamedEnd plan peer me wire row
end_of_back plan me peer wire row checked is joined = end_of plan peer me wire row checked is (sym (joins_turned row.path me.0 peer.0) ∙ joined)

pub same_row : (one other : WirePlan) → Some one ≡ Some other → one ≡ other
same_row one other is = cc

-- an end of another wire has another PW ID, and one of the wire has this one
pub wire_by_pw_id : (plan : Plan) (me peer : EdgeId) (pw_id : ℕ) (place : EndPlace) (wire : WireId) (row : WirePlan) → IsChecked plan → wire_row plan wire ≡ Some row
    → joins me.0 peer.0 row.path ≡ true
    → end_named plan me peer pw_id ≡ Some place → (pw_id == row.pw_id) ≡ (place.wire.0 == wire.0)
wire_by_pw_id plan me peer pw_id place wire row checked is joined named = elim (cases_Bool (pw_id == row.pw_id)) [
  | inl same ↦ same ∙ sym (eq-eqb place.wire.0 wire.0 (ap (λ (w : WireId). w.0) (wire_named plan me peer pw_id place wire row checked is joined named same)))
  | inr differs ↦ elim (cases_Bool (place.wire.0 == wire.0)) [
    | inl here ↦ clash (sym differs ∙ eq-eqb pw_id row.pw_id (pw_id_of here))
    | inr other ↦ differs ∙ sym other
  ]
]
  where
    pw_id_of : (place.wire.0 == wire.0) ≡ true → pw_id ≡ row.pw_id
    pw_id_of here =
        let there : IsNamed plan me peer pw_id place = named_is plan me peer pw_id place named in
        let rows : there.holds.row ≡ row = same_row there.holds.row row (sym there.holds.is ∙ (ap (λ (k : ℕ). slice_get plan.wires k) (eqb-true place.wire.0 wire.0 here) ∙ is)) in
        sym there.pw_id_is ∙ (there.holds.pw_id ∙ ap (λ (r : WirePlan). r.pw_id) rows)

-- where a PW ID names no end, it is not that of a wire between the two edges
pub not_named : (plan : Plan) (me peer : EdgeId) (pw_id : ℕ) (wire : WireId) (row : WirePlan) → IsChecked plan → wire_row plan wire ≡ Some row → joins me.0 peer.0 row.path ≡ true
    → end_named plan me peer pw_id ≡ None → (pw_id == row.pw_id) ≡ false
not_named plan me peer pw_id wire row checked is joined none = elim (cases_Bool (pw_id == row.pw_id)) [
  | inl same ↦ (let there : NamedEnd plan me peer wire row = end_of plan me peer wire row checked is joined in
      absurd (nothing there.place (sym none ∙ (ap (λ (n : ℕ). end_named plan me peer n) (eqb-true pw_id row.pw_id same) ∙ there.named))))
  | inr differs ↦ differs
]
  where
    nothing : (place : EndPlace) → None ≡ Some place → ⊥
    nothing place e = cc

-- a member of an edge's ends that is beside the neighbour has the PW ID exactly where it is of the wire
pub member_by_pw_id : (plan : Plan) (me : EdgeId) (place : EndPlace) (wire : WireId) (row : WirePlan) → IsChecked plan → wire_row plan wire ≡ Some row → joins me.0 place.peer.0 row.path ≡ true
    → IsEndOf plan me place → (place.pw_id == row.pw_id) ≡ (place.wire.0 == wire.0)
member_by_pw_id plan me place wire row checked is joined there = elim (cases_Bool (place.pw_id == row.pw_id)) [
  | inl same ↦ same ∙ sym (eq-eqb place.wire.0 wire.0 (pw_id_once plan place.wire.0 wire.0 me.0 place.peer.0 there.row row checked there.is is there.joined joined
      (eq-eqb there.row.pw_id row.pw_id (sym there.pw_id ∙ eqb-true place.pw_id row.pw_id same))))
  | inr differs ↦ elim (cases_Bool (place.wire.0 == wire.0)) [
    | inl here ↦ clash (sym differs ∙ eq-eqb place.pw_id row.pw_id
        (there.pw_id ∙ ap (λ (r : WirePlan). r.pw_id) (same_row there.row row (sym there.is ∙ (ap (λ (k : ℕ). slice_get plan.wires k) (eqb-true place.wire.0 wire.0 here) ∙ is)))))
    | inr other ↦ differs ∙ sym other
  ]
]

-- ---- no two ends of an edge are of one wire and beside one peer

abbrev pub is_same_place : EndPlace → EndPlace → Bool
is_same_place one other = one.wire.0 == other.wire.0 && one.peer.0 == other.peer.0

abbrev pub AreApart : List EndPlace → Type 0
AreApart [] = Unit {0}
AreApart (place ∷ places) = AllByRecursion (λ other. is_same_place place other ≡ false) places × AreApart places

apart_joined : (xs ys : List EndPlace) → AreApart xs → AreApart ys → AllByRecursion (λ (x : EndPlace). AllByRecursion (λ other. is_same_place x other ≡ false) ys) xs → AreApart (xs ++ ys)
apart_joined [] ys one other cross = other
apart_joined (x ∷ xs) ys one other cross = (all-append (λ (other : EndPlace). is_same_place x other ≡ false) xs ys one.0 cross.0, apart_joined xs ys one.1 other cross.1)

-- two edges that are joined are both on the path
pub joined_there : (path : List EdgeId) (a b : ℕ) → joins a b path ≡ true → list_any (λ (edge : EdgeId). edge.0 == a) path ≡ true
joined_there [] a b joined = clash joined
joined_there (last ∷ []) a b joined = clash joined
joined_there (first ∷ next ∷ rest) a b joined =
    by_either ((a == first.0 && b == next.0) || (b == first.0 && a == next.0)) (joins a b (next ∷ rest)) joined
    (λ here. among a b first.0 next.0 (list_any (λ (edge : EdgeId). edge.0 == a) rest) here)
    (λ later. or_later (first.0 == a) (joined_there (next ∷ rest) a b later))
  where
    among : (a b f n : ℕ) (more : Bool) → (a == f && b == n) || (b == f && a == n) ≡ true → (f == a) || ((n == a) || more) ≡ true
    among a b f n more here = grind (arith, nat_tests)

-- an edge that is not on it is another one
pub not_there : (path : List EdgeId) (a b : ℕ) → list_any (λ (edge : EdgeId). edge.0 == a) path ≡ false → list_any (λ (edge : EdgeId). edge.0 == b) path ≡ true → (a == b) ≡ false
not_there path a b none some = elim (cases_Bool (a == b)) [
  | inl same ↦ clash (sym none ∙ (ap (λ (n : ℕ). list_any (λ (edge : EdgeId). edge.0 == n) path) (eqb-true a b same) ∙ some))
  | inr differ ↦ differ
]

along_apart : (wire : WireId) (row : WirePlan) (me : EdgeId) (segment : ℕ) (path : List EdgeId) → has_repeat path ≡ false → AreApart (places_along wire row me segment path)
along_apart wire row me segment [] once = tt
along_apart wire row me segment (last ∷ []) once = tt
along_apart wire row me segment (first ∷ next ∷ rest) once =
    let parts = or_parts (list_any (λ (edge : EdgeId). edge.0 == first.0) (next ∷ rest)) (has_repeat (next ∷ rest)) once in
    apart_joined (places_at wire row me segment first next) (places_along wire row me (segment + 1) (next ∷ rest)) (one_only (me.0 == first.0) (me.0 == next.0))
    (along_apart wire row me (segment + 1) (next ∷ rest) parts.1)
    (cross (me.0 == first.0) (me.0 == next.0)
    (λ same. along_are (λ (other : EndPlace). is_same_place (end_place_at wire row me segment 0 next) other ≡ false) wire row me (segment + 1) (next ∷ rest)
    (λ number side peer joined. clash (sym (not_there (next ∷ rest) first.0 me.0 parts.0 (joined_there (next ∷ rest) me.0 peer.0 joined)) ∙ equal_back me.0 first.0 same)))
    (along_are (λ (other : EndPlace). is_same_place (end_place_at wire row me segment 1 first) other ≡ false) wire row me (segment + 1) (next ∷ rest)
    (λ number side peer joined. and_false (wire.0 == wire.0)
    (not_there (next ∷ rest) first.0 peer.0 parts.0 (joined_there (next ∷ rest) peer.0 me.0 (sym (joins_turned (next ∷ rest) me.0 peer.0) ∙ joined))))))
  where
    one_only : (p q : Bool) → AreApart (if p then end_place_at wire row me segment 0 next ∷ [] else if q then end_place_at wire row me segment 1 first ∷ [] else [])
    one_only true q = (tt, tt)
    one_only false true = (tt, tt)
    one_only false false = tt

    cross : (p q : Bool) → (p ≡ true → AllByRecursion (λ (other : EndPlace). is_same_place (end_place_at wire row me segment 0 next) other ≡ false)
        (places_along wire row me (segment + 1) (next ∷ rest)))
        → AllByRecursion (λ (other : EndPlace). is_same_place (end_place_at wire row me segment 1 first) other ≡ false) (places_along wire row me (segment + 1) (next ∷ rest))
        → AllByRecursion (λ (x : EndPlace). AllByRecursion (λ other. is_same_place x other ≡ false) (places_along wire row me (segment + 1) (next ∷ rest)))
        (if p then end_place_at wire row me segment 0 next ∷ [] else if q then end_place_at wire row me segment 1 first ∷ [] else [])
    cross true q one other = (one refl, tt)
    cross false true one other = (other, tt)
    cross false false one other = tt

    and_false : (p : Bool) {q : Bool} → q ≡ false → p && q ≡ false
    and_false true is = is
    and_false false is = refl

from_apart : (me : EdgeId) (start : ℕ) (rows : List WirePlan) → ((k : ℕ) (row : WirePlan) → slice_get rows k ≡ Some row → has_repeat row.path ≡ false) → AreApart (places_from me start rows)
from_apart me start [] once = tt
from_apart me start (row ∷ rows) once = apart_joined (places_along (record { 0 = start }) row me 0 row.path) (places_from me (start + 1) rows)
    (along_apart (record { 0 = start }) row me 0 row.path (once zero row refl))
    (from_apart me (start + 1) rows (λ k later is. once (suc k) later is))
    (along_are (λ (x : EndPlace). AllByRecursion (λ other. is_same_place x other ≡ false) (places_from me (start + 1) rows)) (record { 0 = start }) row me 0 row.path
    (λ segment side peer joined. from_are (λ (other : EndPlace). is_same_place (end_place_at (record { 0 = start }) row me segment side peer) other ≡ false) me (start + 1) rows
    (λ k later is. along_are (λ (other : EndPlace). is_same_place (end_place_at (record { 0 = start }) row me segment side peer) other ≡ false) (record { 0 = (start + 1) + k }) later me 0 later.path
    (λ number back far there. behind start k (peer.0 == far.0)))))
  where
    behind : (n k : ℕ) (q : Bool) → n == (n + 1) + k && q ≡ false
    behind n k q = grind (arith, nat_tests)

pub places_apart : (plan : Plan) (me : EdgeId) → IsChecked plan → AreApart (end_places plan me)
places_apart plan me checked = from_apart me 0 plan.wires (λ k row is. (row_holds (IsWireOf plan) plan.wires k row is checked.wires).once)

-- ---- each end of an edge is the one that its peer and its PW ID name

all_both : (P Q : EndPlace → Type 0) (xs : List EndPlace) → AllByRecursion P xs → AllByRecursion Q xs → AllByRecursion (λ (x : EndPlace). P x × Q x) xs
all_both P Q [] one other = tt
all_both P Q (x ∷ xs) one other = ((one.0, other.0), all_both P Q xs one.1 other.1)

named_alone : (plan : Plan) (me : EdgeId) (first other : EndPlace) → IsChecked plan → IsEndOf plan me first → IsEndOf plan me other → is_same_place first other ≡ false
    → is_named other.peer other.pw_id first ≡ false
named_alone plan me first other checked here there apart = elim (cases_Bool (is_named other.peer other.pw_id first)) [
  | inl named ↦ both_of (first.peer.0 == other.peer.0) (first.pw_id == other.pw_id) named
      (λ beside numbered. clash (sym apart ∙ and_from (first.wire.0 == other.wire.0) (first.peer.0 == other.peer.0)
      (eq-eqb first.wire.0 other.wire.0 (pw_id_once plan first.wire.0 other.wire.0 me.0 other.peer.0 here.row there.row checked here.is there.is
      (subst (λ (n : ℕ). joins me.0 n here.row.path ≡ true) (eqb-true first.peer.0 other.peer.0 beside) here.joined) there.joined
      (eq-eqb here.row.pw_id there.row.pw_id (sym here.pw_id ∙ (eqb-true first.pw_id other.pw_id numbered ∙ there.pw_id))))) beside))
  | inr apart_named ↦ apart_named
]

named_among : (plan : Plan) (me : EdgeId) (xs : List EndPlace) → IsChecked plan → AllByRecursion (IsEndOf plan me) xs → AreApart xs
    → AllByRecursion (λ (x : EndPlace). find (is_named x.peer x.pw_id) xs ≡ Some x) xs
named_among plan me [] checked are apart = tt
named_among plan me (x ∷ xs) checked are apart = (
  rw (eq-eqb x.peer.0 x.peer.0 refl, eq-eqb x.pw_id x.pw_id refl) refl,
  all-map (λ (y : EndPlace). ((IsEndOf plan me y) × (is_same_place x y ≡ false)) × (find (is_named y.peer y.pw_id) xs ≡ Some y)) (λ (y : EndPlace). find (is_named y.peer y.pw_id) (x ∷ xs) ≡ Some y) xs
      (λ y holds. rw (named_alone plan me x y checked are.0 holds.0.0 holds.0.1) holds.1)
      (all_both (λ (y : EndPlace). (IsEndOf plan me y) × (is_same_place x y ≡ false)) (λ (y : EndPlace). find (is_named y.peer y.pw_id) xs ≡ Some y) xs
      (all_both (IsEndOf plan me) (λ (y : EndPlace). is_same_place x y ≡ false) xs are.1 apart.0) (named_among plan me xs checked are.1 apart.1)),
)

pub places_named : (plan : Plan) (me : EdgeId) → IsChecked plan → AllByRecursion (λ (place : EndPlace). end_named plan me place.peer place.pw_id ≡ Some place) (end_places plan me)
places_named plan me checked = named_among plan me (end_places plan me) checked (places_are plan me) (places_apart plan me checked)
