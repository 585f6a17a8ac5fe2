-- A wire that breaks a rule with an earlier one asks for a mark that this one left.
use Rattle.std.proofs.Common.{◌≡◌, ◌<◌, ◌+◌, ◌*◌, ◌%◌, ◌==◌, ◌&&◌, ◌||◌, ◌∙◌, ◌++◌, not, ℕ, zero, suc, Bool, true, false, List, [], ◌∷◌, length, take, get_or, set, Option, Some, None, if◌then◌else◌, refl, sym, ap, arith, add-one, length-set}
use Rattle.std.proofs.lemmas.Bool.{false_from_ne_true, eqb-true, or_right, or_left}
use Rattle.std.proofs.lemmas.List.{get_or-set_same}
use Rattle.std.proofs.Math.Seq.{take-suc}
use Rattle.std.specs.List.{list_any}
use Rattle.net_values.proofs.BoolLemmas.{by_either, both_of}
use Rattle.net_base.specs.declared.plan.places.EdgeId.{EdgeId}
use Rattle.net_base.specs.declared.plan.wire_plan.WirePlan.{WirePlan}
use Rattle.net_base.specs.declared.plan.wire_rule.WireRule.{WireRule}
use Rattle.net_base.specs.declared.plan.wire_rule.WireRule.TheVariants.{PwIds, MeshWires, SpokeStarts}
use Rattle.net_base.specs.plan.Paths.{first_edge, last_edge, share_segment, is_same_edge, have_same_ends}
use Rattle.net_base.specs.plan.Places.{is_mesh_class}
use Rattle.net_base.specs.plan.WireFaults.{breaks, have_same_service, starts_in_mesh}
use Rattle.net_base.specs.plan.WireMarks.{edge_number, pw_id_mark, pair_mark, end_mark, start_mark, ends_mark, left_first, left_last, is_wire_marked, marks_with, IsMarkLeft, AreMarksLeft}

same_edge : (a b : Option EdgeId) → is_same_edge a b ≡ true → edge_number a ≡ edge_number b
same_edge None b e = absurd (cc)
same_edge (Some a) None e = absurd (cc)
same_edge (Some a) (Some b) e = eqb-true a.0 b.0 e

-- a mark stays where others are left
kept : (marks : List Bool) (i k : ℕ) → get_or marks k false ≡ true → get_or (set marks i true) k false ≡ true
kept [] i k e = e
kept (m ∷ ms) zero zero e = refl
kept (m ∷ ms) zero (suc k) e = e
kept (m ∷ ms) (suc i) zero e = e
kept (m ∷ ms) (suc i) (suc k) e = kept ms i k e

stays : (rule : WireRule) (marks : List Bool) (wire more : WirePlan) → IsMarkLeft rule marks wire → IsMarkLeft rule (marks_with rule marks more) wire
stays rule marks wire more is = record {
  first = kept (set marks (left_first rule more) true) (left_last rule more) (left_first rule wire) (kept marks (left_first rule more) (left_first rule wire) is.first);
  last = kept (set marks (left_first rule more) true) (left_last rule more) (left_last rule wire) (kept marks (left_first rule more) (left_last rule wire) is.last);
}

end_below : (service edge : ℕ) → end_mark service edge < 4096
unfolding end_mark
end_below service edge = omega arith

start_below : (service edge : ℕ) → start_mark service edge < 8192
unfolding start_mark
start_below service edge = omega (arith, end_below service edge)

ends_below : (service a b : ℕ) → pair_mark service a b < 8192
unfolding pair_mark
ends_below service a b = omega arith

pw_id_below : (pw_id : ℕ) → pw_id_mark pw_id < 8192
unfolding pw_id_mark
pw_id_below pw_id = omega arith

first_below : (mesh : Bool) (service edge : ℕ) → (if mesh then end_mark service edge else start_mark service edge) < 8192
first_below true service edge = omega (arith, end_below service edge)
first_below false service edge = start_below service edge

-- the marks are within the list
abbrev AreWithin : WireRule → List Bool → WirePlan → Type 0
AreWithin rule marks wire = (left_first rule wire < length marks) × (left_last rule wire < length marks)

are_within : (rule : WireRule) (marks : List Bool) (wire : WirePlan) → length marks ≡ 8192 → AreWithin rule marks wire
are_within PwIds marks wire size = (rw size (pw_id_below wire.pw_id), rw size (pw_id_below wire.pw_id))
are_within MeshWires marks wire size = (rw size (ends_below wire.service.0 _ _), rw size (ends_below wire.service.0 _ _))
are_within SpokeStarts marks wire size = (rw size (first_below (is_mesh_class wire.class) wire.service.0 _), rw size (omega (arith, end_below wire.service.0 (edge_number (last_edge wire.path)))))

laid : (rule : WireRule) (marks : List Bool) (wire : WirePlan) → AreWithin rule marks wire → IsMarkLeft rule (marks_with rule marks wire) wire
laid rule marks wire within = record {
  first = kept (set marks (left_first rule wire) true) (left_last rule wire) (left_first rule wire) (get_or-set_same marks (left_first rule wire) true false within.0);
  last = get_or-set_same (set marks (left_first rule wire) true) (left_last rule wire) true false (rw length-set within.1);
}

-- those of one more wire
left_more : (rule : WireRule) (marks : List Bool) (wires : List WirePlan) (wire : WirePlan)
    → AreWithin rule marks wire → AreMarksLeft rule marks wires → AreMarksLeft rule (marks_with rule marks wire) (wires ++ wire ∷ [])
left_more rule marks [] wire within are = (laid rule marks wire within, tt)
left_more rule marks (old ∷ rest) wire within are = (stays rule marks old wire are.0, left_more rule marks rest wire within are.1)

-- those of the wires up to the next one
pub left_next : (rule : WireRule) (marks now : List Bool) (wires : List WirePlan) (i : ℕ) (wire : WirePlan) → wire ≡ get_or wires i wire → i < length wires → length marks ≡ 8192
    → now ≡ marks_with rule marks wire → AreMarksLeft rule marks (take i wires) → AreMarksLeft rule now (take (i + 1) wires)
left_next rule marks now wires i wire is below size made are =
    let front : take (suc i) wires ≡ take i wires ++ wire ∷ [] = take-suc wires i wire below ∙ ap (λ y. take i wires ++ y ∷ []) (sym is) in
    rw (add-one, front, made) (left_more rule marks (take i wires) wire (are_within rule marks wire size) are)

turned : (service a b : ℕ) → pair_mark service a b ≡ pair_mark service b a
unfolding pair_mark
turned service a b = ap (λ n. (service * 4096 + n) % 8192) (omega arith)

-- where the paths end alike, in either order, the marks of their ends are one
alike : (service a b c d : ℕ) (p q r s : Bool) → (p ≡ true → a ≡ c) → (q ≡ true → b ≡ d) → (r ≡ true → a ≡ d) → (s ≡ true → b ≡ c)
    → (p && q) || (r && s) ≡ true → pair_mark service c d ≡ pair_mark service a b
alike service a b c d p q r s first last crossed back e = by_either (p && q) (r && s) e
    (λ h. both_of p q h (λ x y. rw (first x, last y) refl))
    (λ h. both_of r s h (λ x y. rw (crossed x, back y) (turned service c d)))

-- a spoke left the mark of its start, for which a wire that ends there asks
asks_start : (marks : List Bool) (service start first last : ℕ) (mesh p q : Bool) → get_or marks (start_mark service start) false ≡ true → (p ≡ true → start ≡ last) → (q ≡ true → start ≡ first)
    → p || (mesh && q) ≡ true → get_or marks (if mesh then start_mark service first else end_mark service first) false || get_or marks (start_mark service last) false ≡ true
asks_start marks service start first last true p q left at_last at_first e =
    by_either p q e (λ h. or_right _ _ (ap (λ n. get_or marks (start_mark service n) false) (sym (at_last h)) ∙ left))
    (λ h. or_left _ _ (ap (λ n. get_or marks (start_mark service n) false) (sym (at_first h)) ∙ left))
asks_start marks service start first last false p q left at_last at_first e =
    by_either p false e (λ h. or_right _ _ (ap (λ n. get_or marks (start_mark service n) false) (sym (at_last h)) ∙ left)) (λ h. absurd (cc))

-- a wire left the marks of its ends, for which a spoke that starts there asks
asks_end : (marks : List Bool) (service start end first last : ℕ) (mesh p q : Bool) → get_or marks (if mesh then end_mark service start else start_mark service start) false ≡ true
    → get_or marks (end_mark service end) false ≡ true → (p ≡ true → first ≡ end) → (q ≡ true → first ≡ start)
    → p || (mesh && q) ≡ true → get_or marks (end_mark service first) false || get_or marks (start_mark service last) false ≡ true
asks_end marks service start end first last true p q left left_end at_end at_start e =
    by_either p q e (λ h. or_left _ _ (ap (λ n. get_or marks (end_mark service n) false) (at_end h) ∙ left_end))
    (λ h. or_left _ _ (ap (λ n. get_or marks (end_mark service n) false) (at_start h) ∙ left))
asks_end marks service start end first last false p q left left_end at_end at_start e =
    by_either p false e (λ h. or_left _ _ (ap (λ n. get_or marks (end_mark service n) false) (at_end h) ∙ left_end)) (λ h. absurd (cc))

asks : (marks : List Bool) (service start end first last : ℕ) (old later p q r s : Bool) → get_or marks (if old then end_mark service start else start_mark service start) false ≡ true
    → get_or marks (end_mark service end) false ≡ true → (p ≡ true → start ≡ last) → (q ≡ true → start ≡ first) → (r ≡ true → first ≡ end) → (s ≡ true → first ≡ start)
    → (not old && (p || (later && q))) || (not later && (r || (old && s))) ≡ true
    → get_or marks (if later then start_mark service first else end_mark service first) false || get_or marks (start_mark service last) false ≡ true
asks marks service start end first last true true p q r s left left_end at_last at_first at_end at_start e = absurd (cc)
asks marks service start end first last true false p q r s left left_end at_last at_first at_end at_start e =
    asks_end marks service start end first last true r s left left_end at_end at_start e
asks marks service start end first last false true p q r s left left_end at_last at_first at_end at_start e =
    by_either (p || q) false e (λ h. asks_start marks service start first last true p q left at_last at_first h) (λ h. absurd (cc))
asks marks service start end first last false false p q r s left left_end at_last at_first at_end at_start e =
    by_either (p || false) (r || false) e
    (λ h. asks_start marks service start first last false p q left at_last at_first h)
    (λ h. asks_end marks service start end first last false r s left left_end at_end at_start h)

abbrev first_number : WirePlan → ℕ
first_number wire = edge_number (first_edge wire.path)

abbrev last_number : WirePlan → ℕ
last_number wire = edge_number (last_edge wire.path)

caught : (rule : WireRule) (marks : List Bool) (old later : WirePlan) → IsMarkLeft rule marks old → breaks rule old later ≡ true → is_wire_marked rule marks later ≡ true
caught PwIds marks old later left e =
    both_of (old.pw_id == later.pw_id) (share_segment old.path later.path) e (λ h g.
    or_left _ _ (ap (λ n. get_or marks (pw_id_mark n) false) (sym (eqb-true old.pw_id later.pw_id h)) ∙ left.first))
caught MeshWires marks old later left e =
    both_of (have_same_service old later && (is_mesh_class old.class && is_mesh_class later.class)) (have_same_ends old.path later.path) e (λ h g.
    both_of (have_same_service old later) (is_mesh_class old.class && is_mesh_class later.class) h (λ s m.
    let mark : ends_mark later ≡ ends_mark old =
    ap (λ n. pair_mark n (first_number later) (last_number later)) (sym (eqb-true old.service.0 later.service.0 s))
    ∙ alike old.service.0 (first_number old) (last_number old) (first_number later) (last_number later) _ _ _ _
    (same_edge (first_edge old.path) (first_edge later.path)) (same_edge (last_edge old.path) (last_edge later.path))
    (same_edge (first_edge old.path) (last_edge later.path)) (same_edge (last_edge old.path) (first_edge later.path)) g in
    or_left _ _ (ap (λ n. get_or marks n false) mark ∙ left.first)))
caught SpokeStarts marks old later left e =
    both_of (have_same_service old later) (starts_in_mesh old later || starts_in_mesh later old) e (λ s h.
    ap (λ n. get_or marks (if is_mesh_class later.class then start_mark n (first_number later) else end_mark n (first_number later)) false || get_or marks (start_mark n (last_number later)) false)
    (sym (eqb-true old.service.0 later.service.0 s))
    ∙ asks marks old.service.0 (first_number old) (last_number old) (first_number later) (last_number later) (is_mesh_class old.class) (is_mesh_class later.class) _ _ _ _ left.first left.last
    (same_edge (first_edge old.path) (last_edge later.path)) (same_edge (first_edge old.path) (first_edge later.path))
    (same_edge (first_edge later.path) (last_edge old.path)) (same_edge (first_edge later.path) (first_edge old.path)) h)

-- a wire that asks for no mark that was left breaks the rule with none
pub none_broken : (rule : WireRule) (marks : List Bool) (wires : List WirePlan) (later : WirePlan) → AreMarksLeft rule marks wires
    → is_wire_marked rule marks later ≡ false → list_any (λ old. breaks rule old later) wires ≡ false
none_broken rule marks [] later are none = refl
none_broken rule marks (old ∷ rest) later are none =
    rw (false_from_ne_true (breaks rule old later) (λ h. let is : is_wire_marked rule marks later ≡ true = caught rule marks old later are.0 h in absurd (cc)))
    (none_broken rule marks rest later are.1 none)
