-- What is known of an edge's ends by their marks.
use Rattle.std.proofs.Common.{◌≡◌, ◌≢◌, ◌<◌, ◌≤◌, ◌+◌, ◌∙◌, ◌↔◌, ◌||◌, ℕ, zero, suc, Bool, true, false, cond, nat_eq, nat_le, nat_lt, List, [], ◌∷◌, Option, Some, None, IfSome, length, slice_index_or, ap, sym, subst, inl, inr, arith, zero-add}
use Rattle.std.specs.List.{list_all}
use Rattle.std.proofs.lemmas.Bool.{and_parts, cases_order, eq-eqb, false_from_ne_true, true≢false}
use Rattle.std.proofs.lemmas.Bool.Decides.{nat_tests}
use Rattle.edge_model.specs.declared.end_place.EndPlace.{EndPlace}
use Rattle.edge_model.specs.EndPlaces.{end_places}
use Rattle.pw_ends.specs.Ends.{no_place}
use Rattle.provider_edge.specs.declared.end_marks.EndMarks.{EndMarks}
use Rattle.provider_edge.specs.Invariant.{IsEdge}
use Rattle.provider_edge.specs.Lists.{EdgeLists, seen}
use Rattle.provider_edge.specs.Marks.{IsUnmarked, IsWider, Marked, MarksBeside, MarksEach, MarksWire, is_unmarked, place_at}
use Rattle.provider_edge.specs.Spokes.{slots_for, slots_where, starts_spoke}
use Rattle.provider_edge.specs.Tidy.{HasChosenFor, IsPassedBy, IsSettledAt, IsTidy}

-- ---- marks that are known

-- of what is known at first
pub known : (P : EndMarks → Type 0) (stored : Option EndMarks) (old : EndMarks) → stored ≡ Some old → P old → IfSome stored P
known P stored old is holds = subst (λ (o : Option EndMarks). IfSome o P) (sym is) holds

-- and of what is known later
pub known_more : (P Q : EndMarks → Type 0) (stored : Option EndMarks) → ((old : EndMarks) → P old → Q old) → IfSome stored P → IfSome stored Q
known_more P Q None more holds = tt
known_more P Q (Some old) more holds = more old holds

-- ---- slots that have no mark

pub unmarked : (marks : EndMarks) (slot : ℕ) → is_unmarked marks slot ≡ true → IsUnmarked marks slot
unmarked marks slot is = by marks.first marks.past is
  where
    by : (first past : ℕ) → (nat_lt slot first || nat_le past slot) ≡ true → first ≤ slot → past ≤ slot
    by first past is from = grind (arith, nat_tests, is, from)

-- where each of some slots has none
pub all_unmarked : (marks : EndMarks) (slots : List ℕ) → list_all (is_unmarked marks) slots ≡ true → (place : ℕ) → place < length slots → IsUnmarked marks (slice_index_or slots place 0)
all_unmarked marks [] all place within = absurd (omega (arith, within))
all_unmarked marks (slot ∷ slots) all zero within = unmarked marks slot (and_parts (is_unmarked marks slot) (list_all (is_unmarked marks) slots) all).0
all_unmarked marks (slot ∷ slots) all (suc place) within = all_unmarked marks slots (and_parts (is_unmarked marks slot) (list_all (is_unmarked marks) slots) all).1 place (omega (arith, within))

-- ---- the ends of a wire

-- the slots from one on, before another, are those of the ends of a wire
abbrev pub AreSlotsOf : List EndPlace → ℕ → ℕ → ℕ → Type 0
AreSlotsOf places wire first past = (slot : ℕ) → slot < length places → ((place_at places slot).wire.0 ≡ wire) ↔ (first ≤ slot × slot < past)

-- the slots from one on, before another, have marks
abbrev pub HaveMarks : EndMarks → ℕ → ℕ → Type 0
HaveMarks marks first past = (slot : ℕ) → first ≤ slot → slot < past → IsUnmarked marks slot → ⊥

pub wire_marked : (places : List EndPlace) (wire first past : ℕ) (marks : EndMarks) → AreSlotsOf places wire first past → HaveMarks marks first past → MarksWire places wire marks
wire_marked places wire first past marks are have slot within none same =
    let between = (are slot within).0 same in
    have slot between.0 between.1 none

-- ---- the ends of the wires that have an end beside a peer

-- those of the wires that have one of the first ends there have marks
pub record MarksSome (places : List EndPlace) (peer count : ℕ) (old new : EndMarks) : Type 0 where
  pub wider : IsWider old new
  pub each : (slot other : ℕ) → slot < length places → other < count → IsUnmarked new slot → (place_at places other).wire.0 ≡ (place_at places slot).wire.0 → (place_at places other).peer.0 ≢ peer

pub some_none : (places : List EndPlace) (peer : ℕ) (marks : EndMarks) → MarksSome places peer 0 marks marks
some_none places peer marks = record {
  wider = λ slot none. none;
  each = λ slot other within below none same beside. omega (arith, below);
}

-- one more end, which is beside another peer
pub some_past : (places : List EndPlace) (peer count : ℕ) (old new : EndMarks) → MarksSome places peer count old new → (place_at places count).peer.0 ≢ peer → MarksSome places peer (count + 1) old new
some_past places peer count old new some away = record {
  wider = some.wider;
  each = λ slot other within below none same beside. elim (cases_order other count) [
    | inl here ↦ away (subst (λ (n : ℕ). (place_at places n).peer.0 ≡ peer) here beside)
    | inr rest ↦ elim rest [
      | inl less ↦ some.each slot other within less none same beside
      | inr more ↦ omega (arith, below, more)
    ]
  ];
}

-- one more end, of a wire whose ends have marks
pub some_more : (places : List EndPlace) (peer count first past : ℕ) (old new last : EndMarks) → MarksSome places peer count old new
    → AreSlotsOf places (place_at places count).wire.0 first past → IsWider new last → HaveMarks last first past
    → MarksSome places peer (count + 1) old last
some_more places peer count first past old new last some are wider have = record {
  wider = λ slot none. some.wider slot (wider slot none);
  each = λ slot other within below none same beside. elim (cases_order other count) [
    | inl here ↦ wire_marked places (place_at places count).wire.0 first past last are have slot within none
        (sym (subst (λ (n : ℕ). (place_at places n).wire.0 ≡ (place_at places slot).wire.0) here same))
    | inr rest ↦ elim rest [
      | inl less ↦ some.each slot other within less (wider slot none) same beside
      | inr more ↦ omega (arith, below, more)
    ]
  ];
}

pub other_peer : (a b : ℕ) → nat_eq a b ≡ false → a ≢ b
other_peer a b is same = true≢false (sym (eq-eqb a b same) ∙ is)

pub some_all : (places : List EndPlace) (peer count : ℕ) (stored : Option EndMarks) (old new : EndMarks) → stored ≡ Some old → length places ≤ count
    → IfSome stored (λ old. MarksSome places peer count old new) → Marked (MarksBeside places peer) stored (Some new)
some_all places peer count None old new is past some = absurd (cc (is))
some_all places peer count (Some first) old new is past some = (some.wider, λ slot other within below none same. some.each slot other within (omega (arith, below, past)) none same)

-- ---- the ends that pass a test

-- a place that passes it has its slot among those of such places
found_from : (test : EndPlace → Bool) (p : ℕ) (places : List EndPlace) (d : EndPlace) (k : ℕ) → k < length places → test (slice_index_or places k d) ≡ true
    → (i : ℕ) × (i < length (slots_where test p places)) × (slice_index_or (slots_where test p places) i 0 ≡ p + k)
found_from test p [] d k within here = absurd (omega (arith, within))
found_from test p (x ∷ places) d zero within here = by (test x) here
  where
    rest : List ℕ
    rest = slots_where test (p + 1) places

    by : (b : Bool) → b ≡ true → (i : ℕ) × (i < length (cond b (p ∷ rest) rest)) × (slice_index_or (cond b (p ∷ rest) rest) i 0 ≡ p + zero)
    by true is = (0, omega arith, omega arith)
    by false is = absurd (cc (is))
found_from test p (x ∷ places) d (suc k) within here = by (test x) (found_from test (p + 1) places d k (omega (arith, within)) here)
  where
    rest : List ℕ
    rest = slots_where test (p + 1) places

    by : (b : Bool) → (i : ℕ) × (i < length rest) × (slice_index_or rest i 0 ≡ p + 1 + k) → (i : ℕ) × (i < length (cond b (p ∷ rest) rest)) × (slice_index_or (cond b (p ∷ rest) rest) i 0 ≡ p + suc k)
    by true later = let below = later.1 in let is = later.2 in (suc later.0, omega (arith, below), omega (arith, is))
    by false later = let is = later.2 in (later.0, later.1, omega (arith, is))

-- what holds of each of the slots holds of that of each such place
pub slots_hold : (P : ℕ → Type 0) (test : EndPlace → Bool) (places : List EndPlace) (d : EndPlace)
    → ((i : ℕ) → i < length (slots_where test 0 places) → P (slice_index_or (slots_where test 0 places) i 0))
    → (slot : ℕ) → slot < length places → test (slice_index_or places slot d) ≡ true → P slot
slots_hold P test places d each slot within here =
    let found = found_from test 0 places d slot within here in
    subst P (found.2 ∙ zero-add slot) (each found.0 found.1)

-- the first of some slots have marks
pub record MarksFirst (slots : List ℕ) (count : ℕ) (old new : EndMarks) : Type 0 where
  pub wider : IsWider old new
  pub each : (i : ℕ) → i < count → i < length slots → IsUnmarked new (slice_index_or slots i 0) → ⊥

pub first_none : (slots : List ℕ) (marks : EndMarks) → MarksFirst slots 0 marks marks
first_none slots marks = record {
  wider = λ slot none. none;
  each = λ i below within none. omega (arith, below);
}

pub first_more : (slots : List ℕ) (count slot : ℕ) (old new last : EndMarks) → MarksFirst slots count old new → count < length slots → slot ≡ slice_index_or slots count 0
    → IsWider new last → HaveMarks last slot (slot + 1)
    → MarksFirst slots (count + 1) old last
first_more slots count slot old new last some within is wider have = record {
  wider = λ other none. some.wider other (wider other none);
  each = λ i below inside none. elim (cases_order i count) [
    | inl here ↦ have slot (omega arith) (omega arith) (subst (λ (n : ℕ). IsUnmarked last n) (ap (λ (n : ℕ). slice_index_or slots n 0) here ∙ sym is) none)
    | inr rest ↦ elim rest [
      | inl less ↦ some.each i less inside (wider (slice_index_or slots i 0) none)
      | inr more ↦ omega (arith, below, more)
    ]
  ];
}

pub first_all : (test : EndPlace → Bool) (places : List EndPlace) (slots : List ℕ) (count : ℕ) (stored : Option EndMarks) (old new : EndMarks) → stored ≡ Some old → slots
    ≡ slots_where test 0 places → length slots ≤ count
    → IfSome stored (λ old. MarksFirst slots count old new) → Marked (MarksEach places test) stored (Some new)
first_all test places slots count None old new is are past some = absurd (cc (is))
first_all test places slots count (Some first) old new is are past some = (
  some.wider,
  λ slot within none. false_from_ne_true (test (place_at places slot)) (λ here.
      slots_hold (λ n. IsUnmarked new n → ⊥) test places no_place
      (subst (λ (l : List ℕ). (i : ℕ) → i < length l → IsUnmarked new (slice_index_or l i 0) → ⊥) are (λ i within. some.each i (omega (arith, within, past)) within)) slot within here none),
)

-- ---- an edge that is tidy but for its marks

tidy_by : (edge : EdgeLists) (marks : EndMarks) → edge.marks ≡ Some marks → IsEdge edge → IsTidy edge.plan (seen edge) marks
tidy_by edge marks is holds = subst (λ (o : Option EndMarks). IfSome o (IsTidy edge.plan (seen edge))) is holds.tidy

pub settled_before : (edge : EdgeLists) (marks : EndMarks) (first : ℕ) → edge.marks ≡ Some marks → IsEdge edge → ((slot : ℕ) → slot < first → IsUnmarked marks slot) → (slot : ℕ)
    → slot < first → IsSettledAt edge.plan (seen edge) slot
settled_before edge marks first is holds none slot below = (tidy_by edge marks is holds).ends slot (none slot below)

pub settled_from : (edge : EdgeLists) (marks : EndMarks) (past : ℕ) → edge.marks ≡ Some marks → IsEdge edge → ((slot : ℕ) → past ≤ slot → IsUnmarked marks slot) → (slot : ℕ)
    → past ≤ slot → IsSettledAt edge.plan (seen edge) slot
settled_from edge marks past is holds none slot above = (tidy_by edge marks is holds).ends slot (none slot above)

-- the edge has its choice of a service, where no slot of its spokes has a mark
pub passed_chosen : (edge : EdgeLists) (marks : EndMarks) (service : ℕ) (slots : List ℕ) → edge.marks ≡ Some marks → IsEdge edge → slots ≡ slots_for edge.plan edge.me edge.ends.places service
    → ((place : ℕ) → place < length slots → IsUnmarked marks (slice_index_or slots place 0)) → HasChosenFor edge.plan (seen edge) service
unfolding seen
passed_chosen edge marks service slots is holds are none = (tidy_by edge marks is holds).chosen service passed
  where
    test : EndPlace → Bool
    test = starts_spoke edge.plan edge.me (record { 0 = service })

    each : (place : ℕ) → place < length (slots_where test 0 (end_places edge.plan edge.me)) → IsUnmarked marks (slice_index_or (slots_where test 0 (end_places edge.plan edge.me)) place 0)
    each = subst (λ (l : List ℕ). (place : ℕ) → place < length l → IsUnmarked marks (slice_index_or l place 0)) (are ∙ ap (slots_where test 0) holds.places) none

    passed : IsPassedBy edge.plan (seen edge) marks service
    passed slot within here = slots_hold (λ n. IsUnmarked marks n) test (end_places edge.plan edge.me) no_place each slot within here
