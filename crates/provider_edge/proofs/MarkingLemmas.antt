-- The marks are set with the change that they are about.
use Rattle.std.proofs.Common.{◌≡◌, ◌<◌, ◌∙◌, ℕ, Bool, true, false, is_some, List, Option, Some, None, length, slice_set, refl, ap, sym, subst, arith}
use Rattle.std.specs.Prelude.{IfSome}
use Rattle.net_base.specs.declared.plan.places.EdgeId.{EdgeId}
use Rattle.net_base.specs.declared.plan.places.WireId.{WireId}
use Rattle.label_space.specs.declared.kept.Kept.{Kept}
use Rattle.label_space.specs.Kept.{met, ticked}
use Rattle.label_space.specs.Labels.{meeting_neighbour as met_labels}
use Rattle.label_space.specs.Labels.{number_to_give, ticking}
use Rattle.pw_signalling.specs.declared.told.Told.{Told}
use Rattle.pw_signalling.specs.End.{EndState, fresh}
use Rattle.edge_model.specs.declared.end_place.EndPlace.{EndPlace}
use Rattle.edge_model.specs.Labels.{label_to_give, resting}
use Rattle.edge_model.specs.Mend.{advertising}
use Rattle.edge_model.specs.Spokes.{choice}
use Rattle.edge_model.specs.State.{EdgeState, put_at, with_bits, with_chosen, with_ends_beside, with_kept, with_priority, with_renewed, with_wire}
use Rattle.edge_model.specs.Wire.{turned_wire}
use Rattle.pw_ends.specs.Ends.{EndLists, changed_at, changed_beside, place_of, renewed_of, seen_ends}
use Rattle.provider_edge.specs.declared.end_marks.EndMarks.{EndMarks}
use Rattle.provider_edge.specs.Invariant.{IsEdge}
use Rattle.provider_edge.specs.Lists.{EdgeLists, Keeps, seen}
use Rattle.provider_edge.specs.Marks.{Marked, MarksBeside}
use Rattle.provider_edge.specs.Spokes.{SpokeLists, starts_spoke}
use Rattle.provider_edge.specs.Tidy.{IsTidy, IsTidyApart, IsTidyBesides}
use Rattle.provider_edge.specs.Changes.{changing}
use Rattle.provider_edge.proofs.GivenLemmas.{had_one, has_none, meeting_leaves}
use Rattle.provider_edge.proofs.TidyLemmas.{tidy_rekept}
use Rattle.provider_edge.proofs.ListLemmas.{LeavesOne, ends_at, ends_beside, ends_met, ends_renewed, ends_rest, holds_ends, seen_bits, seen_chosen, seen_on, seen_priority}
use Rattle.provider_edge.proofs.MarkedLemmas.{besides_kept, chosen_kept, group_kept, labelled_kept}
use Rattle.provider_edge.proofs.SettledLemmas.{IsBesides, besides_bits, besides_changing, besides_priority, besides_renewed, besides_then, besides_wire}

-- an edge without marks, and these marks
pub with_marks : (edge : EdgeLists) (marks : Option EndMarks) → IsEdge (record edge { marks = None }) → IfSome marks (IsTidy edge.plan (seen edge)) → IsEdge (record edge { marks = marks })
unfolding seen
with_marks edge marks kept tidy = record {
  checked = kept.checked;
  peerings = kept.peerings;
  held = kept.held;
  places = kept.places;
  wires = kept.wires;
  each_bits = kept.each_bits;
  small = kept.small;
  priorities = kept.priorities;
  each_ping = kept.each_ping;
  spokes = kept.spokes;
  plan = kept.plan;
  me = kept.me;
  synced = kept.synced;
  tidy = tidy;
}

stopped_at : (v c : EdgeLists) → v ≡ c → c.stopped ≡ true → v.stopped ≡ true
stopped_at v c is working = ap (λ (n : EdgeLists). n.stopped) is ∙ working

-- a place that was read
read_at : (v c : EdgeLists) (slot : ℕ) (read : EndPlace) → v ≡ c → read ≡ place_of c.ends slot → read ≡ place_of v.ends slot
read_at v c slot read is at = at ∙ sym (ap (λ (n : EdgeLists). place_of n.ends slot) is)

beside_at : (v c : EdgeLists) (wire : ℕ) (marks : Option EndMarks) → v ≡ c → IfSome marks (IsTidyBesides c.plan (seen c) wire) → IfSome marks (IsTidyBesides v.plan (seen v) wire)
beside_at v c wire marks is marked = subst (λ (n : EdgeLists). IfSome marks (IsTidyBesides n.plan (seen n) wire)) (sym is) marked

within_wires : (v c : EdgeLists) (wire : WireId) (long : ℕ) → v ≡ c → long ≡ length v.plan.wires → wire.0 < length c.plan.wires → wire.0 < long
within_wires v c wire long is same within =
    let here : wire.0 < length v.plan.wires = subst (λ (n : EdgeLists). wire.0 < length n.plan.wires) (sym is) within in
    omega (arith, same, here)

-- ---- a change at one wire, of which the ends have marks

pub wire_marked : (v c new : EdgeLists) (wire : ℕ) (marks : Option EndMarks) → v ≡ c → IfSome marks (IsTidyBesides c.plan (seen c) wire) → IsEdge (record new { marks = None })
    → Keeps v new → IsBesides wire (seen v) (seen new)
    → IsEdge (record new { marks = marks })
wire_marked v c new wire marks is marked plain keeps besides = with_marks new marks plain (besides_kept v new wire marks keeps (beside_at v c wire marks is marked) besides)

ends_keep : (v : EdgeLists) (ends : EndLists) → ends.places ≡ v.ends.places → Keeps v (record v { ends = ends; marks = None })
ends_keep v ends same = record { plan = refl; me = refl; places = same; count = refl; stopped = refl }

-- the end of a slot is changed
pub end_marked : (v c : EdgeLists) (ends : EndLists) (change : EndState → EndState) (slot : ℕ) (read : EndPlace) (marks : Option EndMarks) → v ≡ c → IsEdge v → c.stopped ≡ true
    → ends.places ≡ v.ends.places
    → seen_ends ends ≡ changed_at (place_of v.ends slot) change (seen_ends v.ends) → ends.labels.next ≡ v.ends.labels.next → LeavesOne v.ends slot change ends → read
    ≡ place_of c.ends slot → IfSome marks (IsTidyBesides c.plan (seen c) read.wire.0)
    → IsEdge (record v { ends = ends; marks = marks })
end_marked v c ends change slot read marks is holds working same are next kept at marked =
    wire_marked v c (record v { ends = ends; marks = None }) read.wire.0 marks is marked (holds_ends v ends same (stopped_at v c is working) holds) (ends_keep v ends same)
    (subst (IsBesides read.wire.0 (seen v)) (sym (ends_at v ends slot change same are next kept))
    (subst (λ (p : EndPlace). IsBesides p.wire.0 (seen v) (changing change (place_of v.ends slot) (seen v))) (sym (read_at v c slot read is at))
    (besides_changing change (place_of v.ends slot) (seen v))))

pub end_seen : (v c : EdgeLists) (ends : EndLists) (change : EndState → EndState) (slot : ℕ) (marks : Option EndMarks) → v ≡ c → ends.places ≡ v.ends.places
    → seen_ends ends ≡ changed_at (place_of v.ends slot) change (seen_ends v.ends) → ends.labels.next ≡ v.ends.labels.next → LeavesOne v.ends slot change ends
    → seen (record v { ends = ends; marks = marks }) ≡ changing change (place_of c.ends slot) (seen c)
unfolding seen
end_seen v c ends change slot marks is same are next kept =
    subst (λ (n : EdgeLists). seen (record v { ends = ends; marks = marks }) ≡ changing change (place_of n.ends slot) (seen n)) is
    (ends_at v ends slot change same are next kept)

-- a label was taken, or none was left
pub labelled_marked : (v c : EdgeLists) (ends : EndLists) (told : Told) (slot : ℕ) (read : EndPlace) (taken : Option ℕ) (marks : Option EndMarks) → v ≡ c → IsEdge v → c.stopped ≡ true
    → ends.places ≡ v.ends.places
    → (taken ≡ None → seen (record v { ends = ends; marks = None }) ≡ seen v)
    → IfSome taken (λ label. (label_to_give (seen v) ≡ Some label) × (seen (record v { ends = ends; marks = None }) ≡ advertising (place_of v.ends slot) label told (seen v)))
    → read ≡ place_of c.ends slot → IfSome marks (IsTidyBesides c.plan (seen c) read.wire.0) → IsEdge (record v { ends = ends; marks = marks })
labelled_marked v c ends told slot read taken marks is holds working same none some at marked =
    with_marks (record v { ends = ends; marks = None }) marks (holds_ends v ends same (stopped_at v c is working) holds)
    (labelled_kept v (record v { ends = ends; marks = None }) told (place_of v.ends slot) read taken marks (read_at v c slot read is at) (ends_keep v ends same)
    (beside_at v c read.wire.0 marks is marked) none some)

-- failure bits are set
pub bits_marked : (v c : EdgeLists) (wire : WireId) (bits : ℕ) (marks : Option EndMarks) → v ≡ c → IsEdge v → wire.0 < length c.plan.wires → IfSome marks (IsTidyBesides c.plan (seen c) wire.0)
    → IsEdge (record v { bits = slice_set v.bits wire.0 bits; marks = None }) → IsEdge (record v { bits = slice_set v.bits wire.0 bits; marks = marks })
bits_marked v c wire bits marks is holds within marked plain =
    wire_marked v c (record v { bits = slice_set v.bits wire.0 bits; marks = None }) wire.0 marks is marked plain (record { plan = refl; me = refl; places = refl; count = refl; stopped = refl })
    (subst (IsBesides wire.0 (seen v)) (sym (seen_bits v wire bits (within_wires v c wire (length v.bits) is holds.each_bits within))) (besides_bits wire bits (seen v)))

pub bits_seen : (v c : EdgeLists) (wire : WireId) (bits : ℕ) (marks : Option EndMarks) → v ≡ c → IsEdge v → wire.0 < length c.plan.wires
    → seen (record v { bits = slice_set v.bits wire.0 bits; marks = marks }) ≡ with_bits wire bits (seen c)
unfolding seen
bits_seen v c wire bits marks is holds within =
    subst (λ (n : EdgeLists). seen (record v { bits = slice_set v.bits wire.0 bits; marks = marks }) ≡ with_bits wire bits (seen n)) is
    (seen_bits v wire bits (within_wires v c wire (length v.bits) is holds.each_bits within))

-- a priority is set
pub priority_marked : (v c : EdgeLists) (wire : WireId) (priority : ℕ) (marks : Option EndMarks) → v ≡ c → IsEdge v → wire.0 < length c.plan.wires → IfSome marks (IsTidyBesides c.plan (seen c) wire.0)
    → IsEdge (record v { priorities = slice_set v.priorities wire.0 priority; marks = None }) → IsEdge (record v { priorities = slice_set v.priorities wire.0 priority; marks = marks })
priority_marked v c wire priority marks is holds within marked plain =
    wire_marked v c (record v { priorities = slice_set v.priorities wire.0 priority; marks = None }) wire.0 marks is marked plain
    (record { plan = refl; me = refl; places = refl; count = refl; stopped = refl })
    (subst (IsBesides wire.0 (seen v)) (sym (seen_priority v wire priority (within_wires v c wire (length v.priorities) is holds.priorities within))) (besides_priority wire priority (seen v)))

pub priority_seen : (v c : EdgeLists) (wire : WireId) (priority : ℕ) (marks : Option EndMarks) → v ≡ c → IsEdge v → wire.0 < length c.plan.wires
    → seen (record v { priorities = slice_set v.priorities wire.0 priority; marks = marks }) ≡ with_priority wire priority (seen c)
unfolding seen
priority_seen v c wire priority marks is holds within =
    subst (λ (n : EdgeLists). seen (record v { priorities = slice_set v.priorities wire.0 priority; marks = marks }) ≡ with_priority wire priority (seen n)) is
    (seen_priority v wire priority (within_wires v c wire (length v.priorities) is holds.priorities within))

-- a wire is put on or off, and where it is on its ends are declined no longer
turned_besides : (v : EdgeLists) (wire : WireId) (on : Bool) → wire.0 < length v.wires_on → IsBesides wire.0 (seen v) (seen (record v { wires_on = slice_set v.wires_on wire.0 on; marks = None }))
turned_besides v wire on within = subst (IsBesides wire.0 (seen v)) (sym (seen_on v wire on within)) (besides_wire wire on (seen v))

pub off_marked : (v c : EdgeLists) (wire : WireId) (on : Bool) (marks : Option EndMarks) → v ≡ c → IsEdge v → wire.0 < length c.plan.wires → IfSome marks (IsTidyBesides c.plan (seen c) wire.0)
    → IsEdge (record v { wires_on = slice_set v.wires_on wire.0 on; marks = None }) → IsEdge (record v { wires_on = slice_set v.wires_on wire.0 on; marks = marks })
off_marked v c wire on marks is holds within marked plain =
    wire_marked v c (record v { wires_on = slice_set v.wires_on wire.0 on; marks = None }) wire.0 marks is marked plain (record { plan = refl; me = refl; places = refl; count = refl; stopped = refl })
    (turned_besides v wire on (within_wires v c wire (length v.wires_on) is holds.wires within))

pub off_seen : (v c : EdgeLists) (wire : WireId) (on : Bool) (marks : Option EndMarks) → v ≡ c → IsEdge v → wire.0 < length c.plan.wires → on ≡ false
    → seen (record v { wires_on = slice_set v.wires_on wire.0 on; marks = marks }) ≡ turned_wire wire on (seen c)
unfolding seen
off_seen v c wire on marks is holds within off =
    subst (λ (n : EdgeLists). seen (record v { wires_on = slice_set v.wires_on wire.0 on; marks = marks }) ≡ turned_wire wire on (seen n)) is
    (seen_on v wire on (within_wires v c wire (length v.wires_on) is holds.wires within) ∙ turned on off)
  where
    turned : (b : Bool) → b ≡ false → with_wire wire b (seen v) ≡ turned_wire wire b (seen v)
    turned true is_off = absurd (cc)
    turned false is_off = refl

pub on_marked : (v c : EdgeLists) (wire : WireId) (on : Bool) (ends : EndLists) (marks : Option EndMarks) → v ≡ c → IsEdge v → c.stopped ≡ true → wire.0 < length c.plan.wires
    → IfSome marks (IsTidyBesides c.plan (seen c) wire.0)
    → IsEdge (record v { wires_on = slice_set v.wires_on wire.0 on; marks = None }) → ends.places ≡ v.ends.places → seen_ends ends ≡ renewed_of wire (seen_ends v.ends)
    → ends.labels.next ≡ v.ends.labels.next → ends.labels.kept ≡ v.ends.labels.kept
    → IsEdge (record v { wires_on = slice_set v.wires_on wire.0 on; ends = ends; marks = marks })
on_marked v c wire on ends marks is holds working within marked plain same are next kept =
    wire_marked v c (record turned { ends = ends; marks = None }) wire.0 marks is marked (holds_ends turned ends same (stopped_at v c is working) plain)
    (record { plan = refl; me = refl; places = same; count = refl; stopped = refl })
    (besides_then wire.0 (seen v) (seen turned) (seen (record turned { ends = ends; marks = None })) (turned_besides v wire on (within_wires v c wire (length v.wires_on) is holds.wires within))
    (subst (IsBesides wire.0 (seen turned)) (sym (ends_renewed turned ends wire same are next kept)) (besides_renewed wire (seen turned))))
  where
    turned : EdgeLists
    turned = record v { wires_on = slice_set v.wires_on wire.0 on; marks = None }

pub on_seen : (v c : EdgeLists) (wire : WireId) (on : Bool) (ends : EndLists) (marks : Option EndMarks) → v ≡ c → IsEdge v → wire.0 < length c.plan.wires → on ≡ true → ends.places ≡ v.ends.places
    → seen_ends ends ≡ renewed_of wire (seen_ends v.ends) → ends.labels.next ≡ v.ends.labels.next → ends.labels.kept ≡ v.ends.labels.kept
    → seen (record v { wires_on = slice_set v.wires_on wire.0 on; ends = ends; marks = marks }) ≡ turned_wire wire on (seen c)
unfolding seen
on_seen v c wire on ends marks is holds within now same are next kept =
    subst (λ (n : EdgeLists). seen (record v { wires_on = slice_set v.wires_on wire.0 on; ends = ends; marks = marks }) ≡ turned_wire wire on (seen n)) is
    (ends_renewed (record v { wires_on = slice_set v.wires_on wire.0 on; marks = None }) ends wire same are next kept
    ∙ (ap (with_renewed wire) (seen_on v wire on (within_wires v c wire (length v.wires_on) is holds.wires within)) ∙ turned on now))
  where
    turned : (b : Bool) → b ≡ true → with_renewed wire (with_wire wire b (seen v)) ≡ turned_wire wire b (seen v)
    turned true is_on = refl
    turned false is_on = absurd (cc)

-- ---- a change beside one peer

pub group_marked : (v c : EdgeLists) (ends : EndLists) (peer : EdgeId) (change : EndState → EndState) (marks : Option EndMarks) → v ≡ c → IsEdge v → c.stopped ≡ true → ends.places
    ≡ v.ends.places → change fresh ≡ fresh
    → seen_ends ends ≡ changed_beside peer change (seen_ends v.ends) → ends.labels.next ≡ v.ends.labels.next → ends.labels.kept ≡ v.ends.labels.kept
    → Marked (MarksBeside c.ends.places peer.0) v.marks marks → IsEdge (record v { ends = ends; marks = marks })
group_marked v c ends peer change marks is holds working same stays are next kept marked =
    with_marks (record v { ends = ends; marks = None }) marks (holds_ends v ends same (stopped_at v c is working) holds)
    (group_kept v v (record v { ends = ends; marks = None }) peer change marks refl holds (ends_keep v ends same) stays
    (subst (λ (n : EdgeLists). Marked (MarksBeside n.ends.places peer.0) v.marks marks) (sym is) marked) (ends_beside v ends peer change same are next kept))

pub group_seen : (v c : EdgeLists) (ends : EndLists) (peer : EdgeId) (change : EndState → EndState) (marks : Option EndMarks) → v ≡ c → ends.places ≡ v.ends.places
    → seen_ends ends ≡ changed_beside peer change (seen_ends v.ends) → ends.labels.next ≡ v.ends.labels.next → ends.labels.kept ≡ v.ends.labels.kept
    → seen (record v { ends = ends; marks = marks }) ≡ with_ends_beside peer change (seen c)
unfolding seen
group_seen v c ends peer change marks is same are next kept =
    subst (λ (n : EdgeLists). seen (record v { ends = ends; marks = marks }) ≡ with_ends_beside peer change (seen n)) is (ends_beside v ends peer change same are next kept)

-- ---- other numbers are kept to be given again

-- where no label was left none is, the marks are as they were
pub labels_marked : (v : EdgeLists) (ends : EndLists) (kept : List Kept) → ends.places ≡ v.ends.places → v.stopped ≡ true → IsEdge v → seen (record v { ends = ends }) ≡ with_kept kept (seen v)
    → (label_to_give (seen v) ≡ None → label_to_give (with_kept kept (seen v)) ≡ None) → IsEdge (record v { ends = ends })
labels_marked v ends kept same working holds is leaves =
    with_marks (record v { ends = ends }) v.marks (holds_ends v ends same working holds)
    (subst (λ (e : EdgeState). IfSome v.marks (IsTidy v.plan e)) (sym is) (tidy_rekept v.plan (seen v) kept v.marks leaves holds.tidy))

pub met_marked : (v : EdgeLists) (peer : EdgeId) (ends : EndLists) → v.stopped ≡ true → IsEdge v → ends ≡ record v.ends { labels = met_labels peer v.ends.labels } → IsEdge (record v { ends = ends })
met_marked v peer ends working holds is =
    labels_marked v ends (met peer (seen v).kept) (ap (λ (l : EndLists). l.places) is) working holds (ends_met v peer ends is) (meeting_leaves peer (seen v))

-- a tick has passed, and a label was left before, or none is now
rested_leaves : (v : EdgeLists) (ends : EndLists) → ends ≡ record v.ends { labels = ticking v.ends.labels }
    → (number_to_give v.ends.labels.next v.ends.labels.kept ≡ None → number_to_give ends.labels.next ends.labels.kept ≡ None) → label_to_give (seen v) ≡ None → label_to_give (resting (seen v)) ≡ None
unfolding seen with_kept
rested_leaves v ends is leaves none = ap (λ (l : EndLists). number_to_give l.labels.next l.labels.kept) (sym is) ∙ leaves none

rested_marked : (v : EdgeLists) (ends : EndLists) → v.stopped ≡ true → IsEdge v → ends ≡ record v.ends { labels = ticking v.ends.labels }
    → (number_to_give v.ends.labels.next v.ends.labels.kept ≡ None → number_to_give ends.labels.next ends.labels.kept ≡ None) → IsEdge (record v { ends = ends })
rested_marked v ends working holds is leaves =
    labels_marked v ends (ticked (seen v).kept) (ap (λ (l : EndLists). l.places) is) working holds (ends_rest v ends v.marks is) (rested_leaves v ends is leaves)

pub had_marked : (v : EdgeLists) (ends : EndLists) (had : Bool) → v.stopped ≡ true → IsEdge v → ends ≡ record v.ends { labels = ticking v.ends.labels }
    → had ≡ is_some (number_to_give v.ends.labels.next v.ends.labels.kept) → had ≡ true → IsEdge (record v { ends = ends })
had_marked v ends had working holds is left so =
    rested_marked v ends working holds is (had_one (number_to_give v.ends.labels.next v.ends.labels.kept) (number_to_give ends.labels.next ends.labels.kept) had left so)

pub none_marked : (v : EdgeLists) (ends : EndLists) (has : Bool) → v.stopped ≡ true → IsEdge v → ends ≡ record v.ends { labels = ticking v.ends.labels }
    → has ≡ is_some (number_to_give ends.labels.next ends.labels.kept) → has ≡ false → IsEdge (record v { ends = ends })
none_marked v ends has working holds is left so = rested_marked v ends working holds is (λ none. has_none (number_to_give ends.labels.next ends.labels.kept) has left so)

-- ---- the edge chooses for a service

pub chosen_seen : (v c : EdgeLists) (spokes : SpokeLists) (service : ℕ) (chosen : Option WireId) (marks : Option EndMarks) → v ≡ c → IsEdge v → service < length c.plan.services
    → spokes ≡ record v.spokes { chosen = slice_set v.spokes.chosen service chosen } → seen (record v { spokes = spokes; marks = marks }) ≡ with_chosen (put_at (seen c).chosen service chosen) (seen c)
unfolding seen
chosen_seen v c spokes service chosen marks is holds within set =
    let here : service < length v.plan.services = subst (λ (n : EdgeLists). service < length n.plan.services) (sym is) within in
    subst (λ (n : EdgeLists). seen (record v { spokes = spokes; marks = marks }) ≡ with_chosen (put_at (seen n).chosen service chosen) (seen n)) is
    (ap (λ (s : SpokeLists). seen (record v { spokes = s; marks = marks })) set ∙ seen_chosen v service chosen (omega (arith, here, holds.spokes.chosen)))

pub chosen_marked : (v c : EdgeLists) (spokes : SpokeLists) (service : ℕ) (chosen : Option WireId) (marks : Option EndMarks) → v ≡ c → IsEdge v → service < length c.plan.services
    → spokes ≡ record v.spokes { chosen = slice_set v.spokes.chosen service chosen } → chosen ≡ choice c.plan (seen c) (record { 0 = service })
    → IfSome marks (IsTidyApart c.plan (seen c) (starts_spoke c.plan c.me (record { 0 = service }))) → IsEdge (record v { spokes = spokes; marks = None })
    → IsEdge (record v { spokes = spokes; marks = marks })
chosen_marked v c spokes service chosen marks is holds within set chose marked plain =
    with_marks (record v { spokes = spokes; marks = None }) marks plain
    (chosen_kept v (record v { spokes = spokes; marks = None }) service chosen marks (record { plan = refl; me = refl; places = refl; count = refl; stopped = refl })
    (subst (λ (n : EdgeLists). IfSome marks (IsTidyApart n.plan (seen n) (starts_spoke n.plan n.me (record { 0 = service })))) (sym is) marked)
    (subst (λ (n : EdgeLists). chosen ≡ choice n.plan (seen n) (record { 0 = service })) (sym is) chose)
    (chosen_seen v v spokes service chosen None refl holds (subst (λ (n : EdgeLists). service < length n.plan.services) (sym is) within) set))
