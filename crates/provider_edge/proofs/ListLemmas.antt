-- An edge, in lists as in maps.
use Rattle.std.proofs.Common.{◌≡◌, ◌<◌, ◌≤◌, ◌||◌, ◌∙◌, ℕ, zero, suc, Bool, true, false, List, [], ◌∷◌, Option, Some, None, cond, length, map, slice_set, slice_index_or, nat_eq, replicate, refl, ap, sym, subst, arith, slice_get}
use Rattle.std.proofs.lemmas.Bool.{eqb-true}
use Rattle.std.proofs.lemmas.List.{length-map}
use Rattle.std.proofs.lemmas.List.Elements.{All-replicate}
use Rattle.std.specs.Prelude.{All, IfSome}
use Rattle.net_base.specs.declared.plan.Plan.{Plan}
use Rattle.net_base.specs.declared.plan.places.EdgeId.{EdgeId}
use Rattle.net_base.specs.declared.plan.places.WireId.{WireId}
use Rattle.net_base.specs.declared.plan.wire_plan.WirePlan.{WirePlan}
use Rattle.net_base.specs.declared.outside.link_call.LinkCall.{LinkCall}
use Rattle.pw_signalling.specs.End.{EndState, fresh}
use Rattle.label_space.specs.declared.kept.Kept.{Kept}
use Rattle.label_space.specs.Kept.{without}
use Rattle.label_space.specs.Labels.{next_after, number_to_give, ticking}
use Rattle.label_space.specs.Labels.{meeting_neighbour as met_labels}
use Rattle.pw_signalling.specs.declared.told.Told.{Told}
use Rattle.pw_signalling.specs.Laws.{own_label}
use Rattle.pw_signalling.specs.Rows.{advertised, lost}
use Rattle.edge_model.specs.declared.effect.Effect.{Effect}
use Rattle.edge_model.specs.declared.end_place.EndPlace.{EndPlace}
use Rattle.edge_model.specs.Labels.{keeping_all, keeps_lost, keeps_one, keeps_owned, label_to_give, left_label, meeting, owners_of, resting}
use Rattle.edge_model.specs.Session.{clears_ends, losing_ends}
use Rattle.edge_model.specs.EndPlaces.{end_places, is_end_of_wire, is_of_wire}
use Rattle.edge_model.specs.Mend.{advertising}
use Rattle.edge_model.proofs.PlaceLemmas.{IsEndOf, places_are}
use Rattle.std.specs.List.{AllByRecursion, list_any}
use Rattle.std.proofs.lemmas.Option.{slice_get_within}
use Rattle.net_values.proofs.BoolLemmas.{first_holds}
use Rattle.net_values.proofs.RowLemmas.{replicate_length, same_read, holds_at}
use Rattle.edge_model.specs.State.{Peering, EdgeState, empty_edge, end_at, first_label, first_ping, has_end, priority_in, put_at, with_bits, with_chosen, with_end, with_ends_beside, with_kept, with_peering, with_priority, with_renewed, with_wire, with_next_label, with_next_ping, without_ends, without_peerings}
use Rattle.edge_model.specs.Work.{changes}
use Rattle.edge_model.specs.Synced.{InSync}
use Rattle.edge_model.proofs.SyncLemmas.{synced_first}
use Rattle.pw_ends.specs.Ends.{EndLists, changed_at, changed_beside, end_in, no_place, place_of, renewed_of, seen_ends}
use Rattle.net_base.specs.plan.Accepted.{IsChecked}
use Rattle.edge_forwarding.specs.Forwarding.{ForwardingLists, IsNewForwarding, KeepsForwarding, opened_forwarding, with_forwarding, without_told}
use Rattle.peer_dialogue.specs.Peering.{at_edge, gone}
use Rattle.edge_forwarding.specs.Views.{view}
use Rattle.peer_dialogue.proofs.SpeakerLemmas.{put_same}
use Rattle.edge_forwarding.proofs.Views.{past_end, view_at, view_set}
use Rattle.edge_forwarding.proofs.ForwardingLemmas.{all_same}
use Rattle.provider_edge.proofs.ForwardLemmas.{holds_forwarding, seen_forwarding}
use Rattle.provider_edge.specs.declared.end_marks.EndMarks.{EndMarks}
use Rattle.provider_edge.specs.Bounds.{HoldsFew}
use Rattle.provider_edge.specs.Changes.{KeepsLabels, changing}
use Rattle.provider_edge.specs.Invariant.{IsEdge}
use Rattle.provider_edge.specs.Lists.{EdgeLists, Keeps, seen}
use Rattle.provider_edge.specs.Opening.{AreNewParts, IsNewEdge}
use Rattle.provider_edge.specs.Pings.{unpinged}
use Rattle.provider_edge.specs.Spokes.{AreSpokesOf, IsNewSpokes, SpokeLists, unchosen}
use Rattle.provider_edge.specs.Tidy.{IsTidy}

-- ---- what always holds

pub holds_peerings : (c : EdgeLists) (peerings : List (Option Peering)) → length peerings ≡ length c.peerings → All HoldsFew peerings → c.stopped ≡ true → IsEdge c
    → IsEdge (record c { peerings = peerings; marks = None })
holds_peerings c peerings long few working is = record {
  checked = is.checked;
  peerings = long ∙ is.peerings;
  held = few;
  places = is.places;
  wires = is.wires;
  each_bits = is.each_bits;
  spokes = is.spokes;
  plan = is.plan;
  me = is.me;
  small = is.small;
  priorities = is.priorities;
  each_ping = is.each_ping;
  synced = λ going. absurd (cc (sym working ∙ going));
  tidy = tt;
}

pub holds_ends : (c : EdgeLists) (ends : EndLists) → ends.places ≡ c.ends.places → c.stopped ≡ true → IsEdge c → IsEdge (record c { ends = ends; marks = None })
holds_ends c ends same working is = record {
  checked = is.checked;
  peerings = is.peerings;
  held = is.held;
  places = same ∙ is.places;
  wires = is.wires;
  each_bits = is.each_bits;
  spokes = is.spokes;
  plan = is.plan;
  me = is.me;
  small = is.small;
  priorities = is.priorities;
  each_ping = is.each_ping;
  synced = λ going. absurd (cc (sym working ∙ going));
  tidy = tt;
}

pub holds_spokes : (c : EdgeLists) (spokes : SpokeLists) → AreSpokesOf c.plan c.me spokes → c.stopped ≡ true → IsEdge c → IsEdge (record c { spokes = spokes; marks = None })
holds_spokes c spokes are working is = record {
  checked = is.checked;
  peerings = is.peerings;
  held = is.held;
  places = is.places;
  wires = is.wires;
  each_bits = is.each_bits;
  spokes = are;
  plan = is.plan;
  me = is.me;
  small = is.small;
  priorities = is.priorities;
  each_ping = is.each_ping;
  synced = λ going. absurd (cc (sym working ∙ going));
  tidy = tt;
}

-- ---- one session

pub seen_put : (c : EdgeLists) (peer : EdgeId) (kept : Option Peering) → peer.0 < length c.peerings
    → seen (record c { peerings = slice_set c.peerings peer.0 kept; marks = None }) ≡ with_peering peer (kept) (seen c)
unfolding seen with_peering
seen_put c peer kept within = λ i. record (seen c) { peering = λ k. at k i } where
  chosen : (k : ℕ) (b : Bool) → nat_eq k peer.0 ≡ b
      → (cond b kept (view None c.peerings k)) ≡ cond b (kept) ((view None c.peerings k))
  chosen k true same = ap (λ (n : ℕ). kept) (eqb-true k peer.0 same)
  chosen k false same = refl

  at : (k : ℕ) → (view None (slice_set c.peerings peer.0 kept) k)
      ≡ put_at (λ n. (view None c.peerings n)) peer.0 (kept) k
  at k = (view_at None c.peerings peer.0 kept k within) ∙ chosen k (nat_eq k peer.0) refl

-- what is read of the list
pub peering_read : (c : EdgeLists) (peer : EdgeId) (kept : Option Peering) → kept ≡ slice_index_or c.peerings peer.0 None → kept ≡ (seen c).peering peer.0
unfolding seen
peering_read c peer kept read = read

-- past its end nothing is kept
pub peering_past : (c : EdgeLists) (peer : EdgeId) → length c.peerings ≤ peer.0 → (seen c).peering peer.0 ≡ None
unfolding seen
peering_past c peer past = (past_end None c.peerings peer.0 past)

pub seen_past : (c : EdgeLists) (peer : EdgeId) → length c.peerings ≤ peer.0 → seen c ≡ with_peering peer None (seen c)
seen_past c peer past = sym (put_same peer None (seen c) (peering_past c peer past))

view_gone : (xs : List (Option Peering)) (k : ℕ) → view None (map gone xs) k ≡ None
view_gone [] k = refl
view_gone (x ∷ xs) zero = refl
view_gone (x ∷ xs) (suc k) = view_gone xs k

pub seen_gone : (c : EdgeLists) → seen (record c { peerings = map gone c.peerings; marks = None }) ≡ without_peerings (seen c)
unfolding seen without_peerings
seen_gone c = λ i. record (seen c) { peering = λ k. (view_gone c.peerings k) i }

-- ---- ends

-- the end of a slot is changed, and the label that it leaves waits for the neighbour
abbrev pub LeavesOne : EndLists → ℕ → (EndState → EndState) → EndLists → Type 0
LeavesOne old slot change new =
    new.labels.kept ≡ keeps_one (left_label (own_label (end_in old slot).local) (own_label (change (end_in old slot)).local)) (place_of old slot).peer old.labels.kept

pub leaves_none : (old new : EndLists) (slot : ℕ) (change : EndState → EndState) → KeepsLabels change → new.labels.kept ≡ old.labels.kept → LeavesOne old slot change new
leaves_none old new slot change keeps same = same ∙ sym (ap (λ (left : Option ℕ). keeps_one left (place_of old slot).peer old.labels.kept) (keeps (end_in old slot)))

pub ends_at : (c : EdgeLists) (ends : EndLists) (slot : ℕ) (change : EndState → EndState) → ends.places ≡ c.ends.places
    → seen_ends ends ≡ changed_at (place_of c.ends slot) change (seen_ends c.ends) → ends.labels.next ≡ c.ends.labels.next → LeavesOne c.ends slot change ends
    → seen (record c { ends = ends; marks = None }) ≡ changing change (place_of c.ends slot) (seen c)
unfolding seen with_end with_kept
ends_at c ends slot change same are next kept = λ i. record (seen c) { places = same i; ends = are i; next_label = next i; kept = kept i }

pub ends_beside : (c : EdgeLists) (ends : EndLists) (peer : EdgeId) (change : EndState → EndState) → ends.places ≡ c.ends.places
    → seen_ends ends ≡ changed_beside peer change (seen_ends c.ends) → ends.labels.next ≡ c.ends.labels.next → ends.labels.kept ≡ c.ends.labels.kept
    → seen (record c { ends = ends; marks = None }) ≡ with_ends_beside peer change (seen c)
unfolding seen with_ends_beside
ends_beside c ends peer change same are next kept = λ i. record (seen c) { places = same i; ends = are i; next_label = next i; kept = kept i }

-- each end beside a peer is lost, and their labels wait for it
pub ends_lost : (c : EdgeLists) (ends : EndLists) (peer : EdgeId) → ends.places ≡ c.ends.places
    → seen_ends ends ≡ changed_beside peer lost (seen_ends c.ends) → ends.labels.next ≡ c.ends.labels.next → ends.labels.kept ≡ keeps_lost peer (seen_ends c.ends) c.ends.places c.ends.labels.kept
    → seen (record c { ends = ends; marks = None }) ≡ losing_ends peer (seen c)
unfolding seen with_ends_beside with_kept
ends_lost c ends peer same are next kept = λ i. record (seen c) { places = same i; ends = are i; next_label = next i; kept = kept i }

-- where nothing was told of any of them, that changes nothing
pub lost_already : (c : EdgeLists) (peer : EdgeId) → changed_beside peer lost (seen_ends c.ends) ≡ seen_ends c.ends
    → ((kept : List Kept) → keeps_lost peer (seen_ends c.ends) c.ends.places kept ≡ kept) → losing_ends peer (seen c) ≡ seen c
unfolding seen
lost_already c peer untold kept = sym (ends_lost c c.ends peer refl (sym untold) refl (sym (kept c.ends.labels.kept)))

pub ends_renewed : (c : EdgeLists) (ends : EndLists) (wire : WireId) → ends.places ≡ c.ends.places
    → seen_ends ends ≡ renewed_of wire (seen_ends c.ends) → ends.labels.next ≡ c.ends.labels.next → ends.labels.kept ≡ c.ends.labels.kept
    → seen (record c { ends = ends; marks = None }) ≡ with_renewed wire (seen c)
unfolding seen with_renewed
ends_renewed c ends wire same are next kept = λ i. record (seen c) { places = same i; ends = are i; next_label = next i; kept = kept i }

-- ---- labels

pub ends_met : (c : EdgeLists) (peer : EdgeId) (ends : EndLists) → ends ≡ record c.ends { labels = met_labels peer c.ends.labels } → seen (record c { ends = ends }) ≡ meeting peer (seen c)
unfolding seen with_kept seen_ends
ends_met c peer ends is = ap (λ (l : EndLists). seen (record c { ends = l })) is

pub ends_rest : (c : EdgeLists) (ends : EndLists) (marks : Option EndMarks) → ends ≡ record c.ends { labels = ticking c.ends.labels } → seen (record c { ends = ends; marks = marks })
    ≡ resting (seen c)
unfolding seen with_kept seen_ends
ends_rest c ends marks is = ap (λ (l : EndLists). seen (record c { ends = l })) is

-- each end is as it was opened, and all labels that they owned wait
abbrev pub LeavesAll : EndLists → EndLists → Type 0
LeavesAll old new = new.labels.kept ≡ keeps_owned (owners_of (seen_ends old) old.places) old.labels.kept

view_unchosen : (xs : List (Option WireId)) (k : ℕ) → view None (map unchosen xs) k ≡ None
view_unchosen [] k = refl
view_unchosen (x ∷ xs) zero = refl
view_unchosen (x ∷ xs) (suc k) = view_unchosen xs k

view_unpinged : (xs : List ℕ) (k : ℕ) → view first_ping (map unpinged xs) k ≡ first_ping
view_unpinged [] k = refl
view_unpinged (x ∷ xs) zero = refl
view_unpinged (x ∷ xs) (suc k) = view_unpinged xs k

ends_fresh : (c : EdgeLists) (ends : EndLists) (pings : List ℕ) (spokes : SpokeLists) → ends.places ≡ c.ends.places → seen_ends ends ≡ (λ wire peer. fresh) → ends.labels.next
    ≡ c.ends.labels.next → LeavesAll c.ends ends
    → spokes.chosen ≡ map unchosen c.spokes.chosen
    → pings ≡ map unpinged c.pings → without_told (seen (record c { ends = ends; pings = pings; spokes = spokes; marks = None })) ≡ without_ends (keeping_all (seen c))
unfolding seen without_ends without_told with_kept
ends_fresh c ends pings spokes same are next kept none ones = λ i. record (without_told (seen c)) {
  places = same i;
  ends = are i;
  kept = kept i;
  chosen = λ k. (ap (λ (l : List (Option WireId)). view None l k) none ∙ view_unchosen c.spokes.chosen k) i;
  next_label = next i;
  next_ping = λ k. (ap (λ (l : List ℕ). view first_ping l k) ones ∙ view_unpinged c.pings k) i;
}

-- no spoke is chosen any more
pub spokes_forgotten : (plan : Plan) (me : EdgeId) (old new : SpokeLists) → new ≡ record old { chosen = map unchosen old.chosen } → AreSpokesOf plan me old → AreSpokesOf plan me new
spokes_forgotten plan me old new is are = subst (AreSpokesOf plan me) (sym is) (record { slots = are.slots; chosen = length-map old.chosen unchosen ∙ are.chosen })

holds_pings : (c : EdgeLists) (pings : List ℕ) → length pings ≡ length c.pings → c.stopped ≡ true → IsEdge c → IsEdge (record c { pings = pings; marks = None })
holds_pings c pings long working is = record {
  checked = is.checked;
  peerings = is.peerings;
  held = is.held;
  places = is.places;
  wires = is.wires;
  each_bits = is.each_bits;
  spokes = is.spokes;
  plan = is.plan;
  me = is.me;
  small = is.small;
  priorities = is.priorities;
  each_ping = long ∙ is.each_ping;
  synced = λ going. absurd (cc (sym working ∙ going));
  tidy = tt;
}

-- the marks are as they were
pub holds_pinged : (c : EdgeLists) (pings : List ℕ) → length pings ≡ length c.pings → c.stopped ≡ true → IfSome c.marks (IsTidy c.plan (seen (record c { pings = pings }))) → IsEdge c
    → IsEdge (record c { pings = pings })
holds_pinged c pings long working tidy is = record {
  checked = is.checked;
  peerings = is.peerings;
  held = is.held;
  places = is.places;
  wires = is.wires;
  each_bits = is.each_bits;
  spokes = is.spokes;
  plan = is.plan;
  me = is.me;
  small = is.small;
  priorities = is.priorities;
  each_ping = long ∙ is.each_ping;
  synced = λ going. absurd (cc (sym working ∙ going));
  tidy = tidy;
}

-- the ends and how often they were pinged are forgotten
holds_unpinged : (c : EdgeLists) (ends : EndLists) (pings : List ℕ) (spokes : SpokeLists) → ends.places ≡ c.ends.places → pings ≡ map unpinged c.pings → spokes
    ≡ record c.spokes { chosen = map unchosen c.spokes.chosen } → c.stopped ≡ true → IsEdge c
    → IsEdge (record c { ends = ends; pings = pings; spokes = spokes; marks = None })
holds_unpinged c ends pings spokes same ones none working is =
    holds_spokes (record c { ends = ends; pings = pings; marks = None }) spokes (spokes_forgotten c.plan c.me c.spokes spokes none is.spokes) working
    (holds_pings (record c { ends = ends; marks = None }) pings (ap (λ (l : List ℕ). length l) ones ∙ length-map c.pings unpinged) working (holds_ends c ends same working is))

pub holds_forgotten : (c : EdgeLists) (ends : EndLists) (pings : List ℕ) (spokes : SpokeLists) (f : ForwardingLists) → ends.places ≡ c.ends.places → pings ≡ map unpinged c.pings
    → spokes ≡ record c.spokes { chosen = map unchosen c.spokes.chosen } → KeepsForwarding c.forwarding f
    → c.stopped ≡ true → IsEdge c → IsEdge (record c { ends = ends; pings = pings; spokes = spokes; forwarding = f; marks = None })
holds_forgotten c ends pings spokes f same ones none keeps working is =
    holds_forwarding (record c { ends = ends; pings = pings; spokes = spokes; marks = None }) f keeps working (holds_unpinged c ends pings spokes same ones none working is)

-- each end is as it was opened and counts as not pinged, of no end anything was told, and no spoke is chosen
pub ends_forgotten : (c : EdgeLists) (ends : EndLists) (pings : List ℕ) (spokes : SpokeLists) (f : ForwardingLists) → c.stopped ≡ true → IsEdge c → ends.places ≡ c.ends.places → pings
    ≡ map unpinged c.pings → spokes ≡ record c.spokes { chosen = map unchosen c.spokes.chosen }
    → KeepsForwarding c.forwarding f → seen_ends ends ≡ (λ wire peer. fresh) → ends.labels.next ≡ c.ends.labels.next → LeavesAll c.ends ends
    → ((edge : EdgeState) → with_forwarding f edge ≡ without_told (with_forwarding c.forwarding edge))
    → seen (record c { ends = ends; pings = pings; spokes = spokes; forwarding = f; marks = None }) ≡ without_ends (keeping_all (seen c))
ends_forgotten c ends pings spokes f working is same ones none keeps are next kept closed =
    seen_forwarding without_told (record c { ends = ends; pings = pings; spokes = spokes; marks = None }) f (holds_unpinged c ends pings spokes same ones none working is) keeps closed
    ∙ ends_fresh c ends pings spokes same are next kept (ap (λ (s : SpokeLists). s.chosen) none) ones

-- ---- where no session stands, the ends are lost

pub cleared_not : (peer : EdgeId) (edge : EdgeState) (calls : List LinkCall) (out : List Effect) → has_end edge peer ≡ true → at_edge edge calls out ≡ clears_ends peer (at_edge edge calls out)
unfolding at_edge
cleared_not peer edge calls out there = sym (ap (λ (b : Bool). cond b (at_edge edge calls out) (changes (losing_ends peer) (at_edge edge calls out))) there)

pub cleared : (peer : EdgeId) (edge now : EdgeState) (calls : List LinkCall) (out : List Effect) → has_end edge peer ≡ false → now ≡ losing_ends peer edge → at_edge now calls out
    ≡ clears_ends peer (at_edge edge calls out)
unfolding at_edge changes
cleared peer edge now calls out gone is =
    ap (λ (e : EdgeState). record { edge = e; calls = calls; effects = out; idle = false }) is
    ∙ sym (ap (λ (b : Bool). cond b (record { edge = edge; calls = calls; effects = out; idle = false })
    (changes (losing_ends peer) (record { edge = edge; calls = calls; effects = out; idle = false }))) gone)

-- ---- before the first input

-- the lists of a new edge
pub record AreNewLists (plan : Plan) (me : EdgeId) (c : EdgeLists) : Type 0 where
  pub keeps : c.plan ≡ plan
  pub here : c.me ≡ me
  pub peerings : c.peerings ≡ replicate (length plan.edges) None
  pub places : c.ends.places ≡ end_places plan me
  pub ends : seen_ends c.ends ≡ (λ wire peer. fresh)
  pub next : c.ends.labels.next ≡ first_label plan me
  pub kept : c.ends.labels.kept ≡ []
  pub wires : c.wires_on ≡ replicate (length plan.wires) true
  pub zeros : c.bits ≡ replicate (length plan.wires) 0
  pub priorities : c.priorities ≡ map (λ (row : WirePlan). row.priority) plan.wires
  pub ones : c.pings ≡ replicate (length plan.wires) 1
  pub spokes : IsNewSpokes plan me c.spokes
  pub forwarding : IsNewForwarding plan me c.forwarding
  pub going : c.stopped ≡ false
  pub unmarked : c.marks ≡ None

-- those of an edge over parts that have taken no input, whose lists are made by the same plan
pub new_lists : (plan made : Plan) (me : EdgeId) (c : EdgeLists) → made ≡ plan → c.plan ≡ plan → c.me ≡ me → AreNewParts plan me c.ends c.spokes c.forwarding
    → c.peerings ≡ replicate (length made.edges) None → c.wires_on ≡ replicate (length made.wires) true → c.bits ≡ replicate (length made.wires) 0
    → c.priorities ≡ map (λ (row : WirePlan). row.priority) made.wires → c.pings ≡ replicate (length made.wires) 1 → c.stopped ≡ false → c.marks ≡ None → AreNewLists plan me c
new_lists plan made me c same keeps here parts peerings wires zeros priorities ones going unmarked = record {
  keeps = keeps;
  here = here;
  peerings = peerings ∙ ap (λ (p : Plan). replicate (length p.edges) None) same;
  places = parts.untold.places;
  ends = parts.untold.idle;
  next = parts.untold.next;
  kept = parts.untold.kept;
  wires = wires ∙ ap (λ (p : Plan). replicate (length p.wires) true) same;
  zeros = zeros ∙ ap (λ (p : Plan). replicate (length p.wires) 0) same;
  priorities = priorities ∙ ap (λ (p : Plan). map (λ (row : WirePlan). row.priority) p.wires) same;
  ones = ones ∙ ap (λ (p : Plan). replicate (length p.wires) 1) same;
  spokes = parts.unchosen;
  forwarding = parts.unheard;
  going = going;
  unmarked = unmarked;
}

-- the priorities of the plan, in a list as in a map
by_plan : (rows : List WirePlan) (k : ℕ) → slice_index_or (map (λ (row : WirePlan). row.priority) rows) k (priority_in (slice_get rows k)) ≡ priority_in (slice_get rows k)
by_plan [] k = refl
by_plan (x ∷ rows) zero = refl
by_plan (x ∷ rows) (suc k) = by_plan rows k

pub new_is : (plan : Plan) (me : EdgeId) (c : EdgeLists) → AreNewLists plan me c → seen c ≡ empty_edge plan me
unfolding seen with_forwarding opened_forwarding
new_is plan me c are = λ i. record {
  me = are.here i;
  places = are.places i;
  circuit_on = (are.forwarding.is (empty_edge plan me) i).circuit_on;
  learned = (are.forwarding.is (empty_edge plan me) i).learned;
  ticks = (are.forwarding.is (empty_edge plan me) i).ticks;
  peering = λ k. (ap (λ (l : List (Option Peering)). (view None l k)) are.peerings ∙ (all_same (length plan.edges) k None)) i;
  wire_on = λ k. (ap (λ (l : List Bool). view true l k) are.wires ∙ all_same (length plan.wires) k true) i;
  bits = λ k. (ap (λ (l : List ℕ). view 0 l k) are.zeros ∙ all_same (length plan.wires) k 0) i;
  priority = λ k.
      (ap (λ (l : List ℕ). slice_index_or l k (priority_in (slice_get c.plan.wires k))) are.priorities
      ∙ (ap (λ (p : Plan). slice_index_or (map (λ (row : WirePlan). row.priority) plan.wires) k (priority_in (slice_get p.wires k))) are.keeps ∙ by_plan plan.wires k)) i;
  ends = are.ends i;
  told_down = (are.forwarding.is (empty_edge plan me) i).told_down;
  chosen = λ k. (ap (λ (l : List (Option WireId)). view None l k) are.spokes.none ∙ all_same (length plan.services) k None) i;
  next_label = are.next i;
  kept = are.kept i;
  next_ping = λ k. (ap (λ (l : List ℕ). view 1 l k) are.ones ∙ all_same (length plan.wires) k 1) i;
}

pub is_new_edge : (plan : Plan) (me : EdgeId) (c : EdgeLists) → AreNewLists plan me c → IsNewEdge plan me c
is_new_edge plan me c are = record { plan_is = are.keeps; place_is = are.here; empty = new_is plan me c are; going = are.going }

pub holds_new : (plan : Plan) (me : EdgeId) (c : EdgeLists) → IsChecked plan → AreNewLists plan me c → IsEdge c
holds_new plan me c checked are = record {
  checked = subst IsChecked (sym are.keeps) checked;
  peerings = ap (λ (l : List (Option Peering)). length l) are.peerings ∙ (replicate_length (length plan.edges) None ∙ ap (λ (p : Plan). length p.edges) (sym are.keeps));
  held = subst (All HoldsFew) (sym are.peerings) (All-replicate HoldsFew (length plan.edges) None (omega arith));
  places = are.places ∙ (ap (λ (p : Plan). end_places p me) (sym are.keeps) ∙ ap (end_places c.plan) (sym are.here));
  wires = ap (λ (l : List Bool). length l) are.wires ∙ (replicate_length (length plan.wires) true ∙ ap (λ (p : Plan). length p.wires) (sym are.keeps));
  each_bits = ap (λ (l : List ℕ). length l) are.zeros ∙ (replicate_length (length plan.wires) 0 ∙ ap (λ (p : Plan). length p.wires) (sym are.keeps));
  spokes = subst (λ (p : Plan). AreSpokesOf p c.me c.spokes) (sym are.keeps) (subst (λ (m : EdgeId). AreSpokesOf plan m c.spokes) (sym are.here) are.spokes.are);
  plan = are.forwarding.keeps ∙ sym are.keeps;
  me = are.forwarding.here ∙ sym are.here;
  each_ping = ap (λ (l : List ℕ). length l) are.ones ∙ (replicate_length (length plan.wires) 1 ∙ ap (λ (p : Plan). length p.wires) (sym are.keeps));
  small = subst (All (λ bits. bits ≤ 31)) (sym are.zeros) (All-replicate (λ bits. bits ≤ 31) (length plan.wires) 0 (omega arith));
  priorities = ap (λ (l : List ℕ). length l) are.priorities ∙ (length-map plan.wires (λ (row : WirePlan). row.priority) ∙ ap (λ (p : Plan). length p.wires) (sym are.keeps));
  synced = λ going. subst (λ (p : Plan). InSync p (seen c)) (sym are.keeps) (subst (InSync plan) (sym (new_is plan me c are)) (synced_first plan me));
  tidy = subst (λ (m : Option EndMarks). IfSome m (IsTidy c.plan (seen c))) (sym are.unmarked) tt;
}

-- ---- a wire at a place of its own

pub seen_on : (c : EdgeLists) (wire : WireId) (on : Bool) → wire.0 < length c.wires_on
    → seen (record c { wires_on = slice_set c.wires_on wire.0 on; marks = None }) ≡ with_wire wire on (seen c)
unfolding seen with_wire
seen_on c wire on within = λ i. record (seen c) { wire_on = view_set true c.wires_on wire.0 on within i }

pub seen_bits : (c : EdgeLists) (wire : WireId) (bits : ℕ) → wire.0 < length c.bits
    → seen (record c { bits = slice_set c.bits wire.0 bits; marks = None }) ≡ with_bits wire bits (seen c)
unfolding seen with_bits
seen_bits c wire bits within = λ i. record (seen c) { bits = view_set 0 c.bits wire.0 bits within i }

pub seen_priority : (c : EdgeLists) (wire : WireId) (priority : ℕ) → wire.0 < length c.priorities
    → seen (record c { priorities = slice_set c.priorities wire.0 priority; marks = None }) ≡ with_priority wire priority (seen c)
unfolding seen with_priority
seen_priority c wire priority within = λ i. record (seen c) { priority = λ k. view_at (priority_in (slice_get c.plan.wires k)) c.priorities wire.0 priority k within i }

pub seen_next_ping : (c : EdgeLists) (wire : WireId) (sequence : ℕ) → wire.0 < length c.pings
    → seen (record c { pings = slice_set c.pings wire.0 sequence }) ≡ with_next_ping wire sequence (seen c)
unfolding seen with_next_ping
seen_next_ping c wire sequence within = λ i. record (seen c) { next_ping = view_set first_ping c.pings wire.0 sequence within i }

-- ---- the spoke that is chosen for a service

pub seen_chosen : (c : EdgeLists) (service : ℕ) (wire : Option WireId) → service < length c.spokes.chosen
    → seen (record c { spokes = record c.spokes { chosen = slice_set c.spokes.chosen service wire }; marks = None }) ≡ with_chosen (put_at (seen c).chosen service wire) (seen c)
unfolding seen with_chosen
seen_chosen c service wire within = λ i. record (seen c) { chosen = view_set None c.spokes.chosen service wire within i }

-- ---- what is read

pub next_at : (c : EdgeLists) → c.ends.labels.next ≡ (seen c).next_label
unfolding seen
next_at c = refl

pub kept_now : (c : EdgeLists) → c.ends.labels.kept ≡ (seen c).kept
unfolding seen
kept_now c = refl

pub bits_read : (c : EdgeLists) (wire : WireId) (bits : ℕ) → wire.0 < length c.bits → bits ≡ slice_index_or c.bits wire.0 bits → bits ≡ (seen c).bits wire.0
unfolding seen
bits_read c wire bits within read = read ∙ same_read c.bits wire.0 bits 0 within

pub priority_read : (c : EdgeLists) (wire : WireId) (priority : ℕ) → wire.0 < length c.priorities → priority ≡ slice_index_or c.priorities wire.0 priority → priority ≡ (seen c).priority wire.0
unfolding seen
priority_read c wire priority within read = read ∙ same_read c.priorities wire.0 priority (priority_in (slice_get c.plan.wires wire.0)) within

pub ping_read : (c : EdgeLists) (wire : WireId) (sequence : ℕ) → wire.0 < length c.pings → sequence ≡ slice_index_or c.pings wire.0 sequence → sequence ≡ (seen c).next_ping wire.0
unfolding seen
ping_read c wire sequence within read = read ∙ same_read c.pings wire.0 sequence first_ping within

pub end_read : (c : EdgeLists) (slot : ℕ) → end_in c.ends slot ≡ end_at (seen c) (place_of c.ends slot)
unfolding seen
end_read c slot = refl

-- ---- an end is advertised

pub advertised_none : (c : EdgeLists) (ends : EndLists) → number_to_give c.ends.labels.next c.ends.labels.kept ≡ None → ends ≡ c.ends
    → (label_to_give (seen c) ≡ None) × (seen (record c { ends = ends; marks = None }) ≡ seen c)
unfolding seen
advertised_none c ends none same = (none, ap (λ (l : EndLists). seen (record c { ends = l })) same)

pub advertised_some : (c : EdgeLists) (ends : EndLists) (place : EndPlace) (told : Told) (found : Option ℕ) → ends.places ≡ c.ends.places
    → IfSome found (λ label. number_to_give c.ends.labels.next c.ends.labels.kept ≡ Some label) → IfSome found (λ label. ends.labels.next ≡ next_after c.ends.labels.next)
    → IfSome found (λ label. ends.labels.kept ≡ without label c.ends.labels.kept) → IfSome found (λ label. seen_ends ends ≡ changed_at place (advertised label told) (seen_ends c.ends))
    → IfSome found (λ label. (label_to_give (seen c) ≡ Some label) × (seen (record c { ends = ends; marks = None }) ≡ advertising place label told (seen c)))
unfolding seen with_end with_kept with_next_label
advertised_some c ends place told None same is next kept are = tt
advertised_some c ends place told (Some label) same is next kept are = (is, λ i. record (seen c) { places = same i; ends = are i; next_label = next i; kept = kept i })

-- ---- where the ends are

pub slot_placed : (c : EdgeLists) (slot : ℕ) → IsEdge c → slot < length c.ends.places → IsEndOf c.plan c.me (place_of c.ends slot)
slot_placed c slot is within =
    holds_at (IsEndOf c.plan c.me) c.ends.places slot no_place (subst (AllByRecursion (IsEndOf c.plan c.me)) (sym is.places) (places_are c.plan c.me)) within

pub slot_wire : (c : EdgeLists) (slot : ℕ) → IsEdge c → slot < length c.ends.places → (place_of c.ends slot).wire.0 < length c.plan.wires
slot_wire c slot is within =
    let placed = slot_placed c slot is within in
    slice_get_within c.plan.wires (place_of c.ends slot).wire.0 placed.row placed.is

found_within : (plan : Plan) (me : EdgeId) (wire : WireId) (test : EndPlace → Bool) (places : List EndPlace) → ((place : EndPlace) → test place ≡ true → place.wire.0 ≡ wire.0)
    → AllByRecursion (IsEndOf plan me) places
    → list_any test places ≡ true → wire.0 < length plan.wires
found_within plan me wire test [] same all any = absurd (cc (any))
found_within plan me wire test (x ∷ places) same all any = by (test x) refl any (found_within plan me wire test places same all.1) where
  by : (b : Bool) → test x ≡ b → b || list_any test places ≡ true → (list_any test places ≡ true → wire.0 < length plan.wires) → wire.0 < length plan.wires
  by true here some rest = subst (λ (n : ℕ). n < length plan.wires) (same x here) (slice_get_within plan.wires x.wire.0 all.0.row all.0.is)
  by false here some rest = rest some

pub passes_within : (plan : Plan) (me : EdgeId) (wire : WireId) → list_any (is_of_wire wire) (end_places plan me) ≡ true → wire.0 < length plan.wires
passes_within plan me wire any = found_within plan me wire (is_of_wire wire) (end_places plan me) (λ place same. eqb-true place.wire.0 wire.0 same) (places_are plan me) any

pub ends_within : (plan : Plan) (me : EdgeId) (wire : WireId) → list_any (is_end_of_wire wire) (end_places plan me) ≡ true → wire.0 < length plan.wires
ends_within plan me wire any =
    found_within plan me wire (is_end_of_wire wire) (end_places plan me) (λ place same. eqb-true place.wire.0 wire.0 (first_holds (nat_eq place.wire.0 wire.0) place.terminal same))
    (places_are plan me) any

-- ---- what no input changes

pub keeps_same : (e : EdgeLists) → Keeps e e
keeps_same e = record { plan = refl; me = refl; places = refl; count = refl; stopped = refl }

pub keeps_both : (a b c : EdgeLists) → Keeps a b → Keeps b c → Keeps a c
keeps_both a b c first next = record {
  plan = next.plan ∙ first.plan;
  me = next.me ∙ first.me;
  places = next.places ∙ first.places;
  count = next.count ∙ first.count;
  stopped = next.stopped ∙ first.stopped;
}
