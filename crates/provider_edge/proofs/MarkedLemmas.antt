-- Which marks are left after a change of an edge, where the ends that it can unsettle have one.
use Rattle.std.proofs.Common.{◌≡◌, ◌<◌, ◌≤◌, ◌∙◌, ℕ, Bool, true, false, List, Option, Some, None, drop, refl, ap, sym, subst}
use Rattle.std.specs.Prelude.{IfSome}
use Rattle.net_base.specs.declared.outside.link_call.LinkCall.{LinkCall}
use Rattle.net_base.specs.declared.plan.Plan.{Plan}
use Rattle.net_base.specs.declared.plan.places.EdgeId.{EdgeId}
use Rattle.net_base.specs.declared.plan.places.WireId.{WireId}
use Rattle.pw_signalling.specs.declared.told.Told.{Told}
use Rattle.pw_signalling.specs.End.{EndState, fresh}
use Rattle.pw_messages.specs.LinkAnswers.{Answers}
use Rattle.edge_model.specs.declared.effect.Effect.{Effect}
use Rattle.edge_model.specs.declared.end_place.EndPlace.{EndPlace}
use Rattle.edge_model.specs.EndPlaces.{end_places}
use Rattle.edge_model.specs.Labels.{label_to_give}
use Rattle.edge_model.specs.Mend.{advertising, each_end, forgets_downs, mends_end, mends_status, tells_downs}
use Rattle.edge_model.specs.Put.{Spoken}
use Rattle.edge_model.specs.Session.{clears_ends}
use Rattle.edge_model.specs.Hear.{was_up}
use Rattle.edge_model.specs.Spokes.{choice}
use Rattle.edge_model.specs.State.{EdgeState, Peering, put_at, with_chosen, with_ends_beside, with_peering}
use Rattle.edge_model.specs.Work.{Work}
use Rattle.peer_dialogue.specs.Peering.{at_edge}
use Rattle.provider_edge.specs.declared.end_marks.EndMarks.{EndMarks}
use Rattle.provider_edge.specs.Invariant.{IsEdge}
use Rattle.provider_edge.specs.Lists.{EdgeLists, Keeps, seen}
use Rattle.provider_edge.specs.Marks.{Marked, MarksBeside, MarksEach, MarksWire}
use Rattle.provider_edge.specs.Spokes.{starts_spoke}
use Rattle.provider_edge.specs.Tidy.{IsSettledAt, IsTidy, IsTidyApart, IsTidyBesides, stands_as}
use Rattle.provider_edge.proofs.TidyLemmas.{tidy_happened}
use Rattle.provider_edge.proofs.ListLemmas.{keeps_same}
use Rattle.provider_edge.proofs.MendLemmas.{settled_downs, settles_downs}
use Rattle.provider_edge.proofs.SettledLemmas.{AreFreshElse, IsBeside, IsBesides, beside_cleared, beside_ends, beside_happened, beside_peering, beside_then, besides_advertising, ends_back, ends_front, fresh_else, fresh_peering, settles_back, settles_front, statuses_back, statuses_front, tidy_beside, tidy_besides, tidy_chosen, tidy_wider}
use Rattle.provider_edge.proofs.EdgeLemmas.{me_of}

-- ---- the edge is tidy but for the ends that have marks besides

pub wire_tidy : (v c : EdgeLists) (wire : ℕ) (after : Option EndMarks) → v ≡ c → IsEdge v → Marked (MarksWire c.ends.places wire) c.marks after → IfSome after (IsTidyBesides c.plan (seen c) wire)
wire_tidy v c wire after is holds marked =
    by c.marks after (subst (λ (n : EdgeLists). IfSome n.marks (IsTidy n.plan (seen n))) is holds.tidy)
    (subst (λ (l : List EndPlace). Marked (MarksWire l wire) c.marks after) (subst (λ (n : EdgeLists). n.ends.places ≡ end_places n.plan n.me) is holds.places) marked)
  where
    by : (before later : Option EndMarks) → IfSome before (IsTidy c.plan (seen c)) → Marked (MarksWire (end_places c.plan c.me) wire) before later → IfSome later (IsTidyBesides c.plan (seen c) wire)
    by None None tidy marked = tt
    by None (Some a) tidy marked = absurd marked
    by (Some b) None tidy marked = tt
    by (Some b) (Some a) tidy marked = record {
      tidy = tidy_wider c.plan (seen c) b a tidy marked.0;
      marked = subst (λ (k : EdgeId). MarksWire (end_places c.plan k) wire a) (sym (me_of c)) marked.1;
    }

pub each_tidy : (v c : EdgeLists) (test : EndPlace → Bool) (after : Option EndMarks) → v ≡ c → IsEdge v → Marked (MarksEach c.ends.places test) c.marks after
    → IfSome after (IsTidyApart c.plan (seen c) test)
each_tidy v c test after is holds marked =
    by c.marks after (subst (λ (n : EdgeLists). IfSome n.marks (IsTidy n.plan (seen n))) is holds.tidy)
    (subst (λ (l : List EndPlace). Marked (MarksEach l test) c.marks after) (subst (λ (n : EdgeLists). n.ends.places ≡ end_places n.plan n.me) is holds.places) marked)
  where
    by : (before later : Option EndMarks) → IfSome before (IsTidy c.plan (seen c)) → Marked (MarksEach (end_places c.plan c.me) test) before later → IfSome later (IsTidyApart c.plan (seen c) test)
    by None None tidy marked = tt
    by None (Some a) tidy marked = absurd marked
    by (Some b) None tidy marked = tt
    by (Some b) (Some a) tidy marked = record {
      tidy = tidy_wider c.plan (seen c) b a tidy marked.0;
      marked = subst (λ (k : EdgeId). MarksEach (end_places c.plan k) test a) (sym (me_of c)) marked.1;
    }

-- ---- a change at one wire

pub besides_kept : (c new : EdgeLists) (wire : ℕ) (after : Option EndMarks) → Keeps c new → IfSome after (IsTidyBesides c.plan (seen c) wire) → IsBesides wire (seen c) (seen new)
    → IfSome after (IsTidy new.plan (seen new))
besides_kept c new wire None keeps marked besides = tt
besides_kept c new wire (Some marks) keeps marked besides =
    subst (λ (p : Plan). IsTidy p (seen new) marks) (sym keeps.plan)
    (tidy_besides c.plan wire (seen c) (seen new) (Some marks) (Some marks) marked.tidy ((λ slot free. free), marked.marked) besides)

-- a label was taken, or none was left
pub labelled_kept : (c new : EdgeLists) (told : Told) (place read : EndPlace) (taken : Option ℕ) (after : Option EndMarks) → read ≡ place → Keeps c new
    → IfSome after (IsTidyBesides c.plan (seen c) read.wire.0)
    → (taken ≡ None → seen new ≡ seen c) → IfSome taken (λ label. (label_to_give (seen c) ≡ Some label) × (seen new ≡ advertising place label told (seen c)))
    → IfSome after (IsTidy new.plan (seen new))
labelled_kept c new told place read None None is keeps marked same step = tt
labelled_kept c new told place read None (Some marks) is keeps marked same step =
    subst (λ (p : Plan). IsTidy p (seen new) marks) (sym keeps.plan) (subst (λ (e : EdgeState). IsTidy c.plan e marks) (sym (same refl)) marked.tidy)
labelled_kept c new told place read (Some label) after is keeps marked same step =
    besides_kept c new place.wire.0 after keeps (subst (λ (p : EndPlace). IfSome after (IsTidyBesides c.plan (seen c) p.wire.0)) is marked)
    (subst (IsBesides place.wire.0 (seen c)) (sym step.1) (besides_advertising place label told (seen c) step.0))

-- ---- a walk over the ends begins at the first one that has a mark, and stops behind the last one

pub ends_begin : (c : EdgeLists) (told : Answers) (calls : List LinkCall) (out : List Effect) (failed : Bool) (first : ℕ) → ((slot : ℕ) → slot < first → IsSettledAt c.plan (seen c) slot)
    → each_end (mends_end c.plan told) (end_places c.plan c.me) (record { work = at_edge (seen c) calls out; failed = failed })
    ≡ each_end (mends_end c.plan told) (drop first (end_places c.plan c.me)) (record { work = at_edge (seen c) calls out; failed = failed })
unfolding seen
ends_begin c told calls out failed first settled = ends_front c.plan told (seen c) calls out failed first settled

pub statuses_begin : (c : EdgeLists) (told : Answers) (calls : List LinkCall) (out : List Effect) (failed : Bool) (first : ℕ) → ((slot : ℕ) → slot < first → IsSettledAt c.plan (seen c) slot)
    → each_end (mends_status c.plan told) (end_places c.plan c.me) (record { work = at_edge (seen c) calls out; failed = failed })
    ≡ each_end (mends_status c.plan told) (drop first (end_places c.plan c.me)) (record { work = at_edge (seen c) calls out; failed = failed })
unfolding seen
statuses_begin c told calls out failed first settled = statuses_front c.plan told (seen c) calls out failed first settled

pub settles_begin : (c : EdgeLists) (calls : List LinkCall) (out : List Effect) (first : ℕ) → ((slot : ℕ) → slot < first → IsSettledAt c.plan (seen c) slot)
    → settles_downs c.plan (end_places c.plan c.me) (at_edge (seen c) calls out) ≡ settles_downs c.plan (drop first (end_places c.plan c.me)) (at_edge (seen c) calls out)
unfolding seen
settles_begin c calls out first settled = settles_front c.plan (seen c) calls out first settled

ends_rest : (c : EdgeLists) (told : Answers) (calls : List LinkCall) (out : List Effect) (failed : Bool) (past : ℕ) → ((slot : ℕ) → past ≤ slot → IsSettledAt c.plan (seen c) slot)
    → each_end (mends_end c.plan told) (drop past (end_places c.plan c.me)) (record { work = at_edge (seen c) calls out; failed = failed })
    ≡ record { work = at_edge (seen c) calls out; failed = failed }
unfolding seen
ends_rest c told calls out failed past settled = ends_back c.plan told (seen c) calls out failed past settled

statuses_rest : (c : EdgeLists) (told : Answers) (calls : List LinkCall) (out : List Effect) (failed : Bool) (past : ℕ) → ((slot : ℕ) → past ≤ slot → IsSettledAt c.plan (seen c) slot)
    → each_end (mends_status c.plan told) (drop past (end_places c.plan c.me)) (record { work = at_edge (seen c) calls out; failed = failed })
    ≡ record { work = at_edge (seen c) calls out; failed = failed }
unfolding seen
statuses_rest c told calls out failed past settled = statuses_back c.plan told (seen c) calls out failed past settled

settles_rest : (c : EdgeLists) (calls : List LinkCall) (out : List Effect) (past : ℕ) → ((slot : ℕ) → past ≤ slot → IsSettledAt c.plan (seen c) slot)
    → settles_downs c.plan (drop past (end_places c.plan c.me)) (at_edge (seen c) calls out) ≡ at_edge (seen c) calls out
unfolding seen
settles_rest c calls out past settled = settles_back c.plan (seen c) calls out past settled

pub ends_stop : (c now : EdgeLists) (told : Answers) (calls : List LinkCall) (out : List Effect) (failed : Bool) (past : ℕ) (whole : Spoken) → Keeps c now
    → ((slot : ℕ) → past ≤ slot → IsSettledAt now.plan (seen now) slot)
    → whole ≡ each_end (mends_end c.plan told) (drop past (end_places c.plan c.me)) (record { work = at_edge (seen now) calls out; failed = failed })
    → record { work = at_edge (seen now) calls out; failed = failed } ≡ whole
ends_stop c now told calls out failed past whole keeps settled so_far =
    let m : Spoken = record { work = at_edge (seen now) calls out; failed = failed } in
    sym (so_far
    ∙ (ap (λ (p : Plan). each_end (mends_end p told) (drop past (end_places p c.me)) m) (sym keeps.plan)
    ∙ (ap (λ (k : EdgeId). each_end (mends_end now.plan told) (drop past (end_places now.plan k)) m) (sym keeps.me) ∙ ends_rest now told calls out failed past settled)))

pub statuses_stop : (c now : EdgeLists) (told : Answers) (calls : List LinkCall) (out : List Effect) (failed : Bool) (past : ℕ) (whole : Spoken) → Keeps c now
    → ((slot : ℕ) → past ≤ slot → IsSettledAt now.plan (seen now) slot)
    → whole ≡ each_end (mends_status c.plan told) (drop past (end_places c.plan c.me)) (record { work = at_edge (seen now) calls out; failed = failed })
    → record { work = at_edge (seen now) calls out; failed = failed } ≡ whole
statuses_stop c now told calls out failed past whole keeps settled so_far =
    let m : Spoken = record { work = at_edge (seen now) calls out; failed = failed } in
    sym (so_far
    ∙ (ap (λ (p : Plan). each_end (mends_status p told) (drop past (end_places p c.me)) m) (sym keeps.plan)
    ∙ (ap (λ (k : EdgeId). each_end (mends_status now.plan told) (drop past (end_places now.plan k)) m) (sym keeps.me) ∙ statuses_rest now told calls out failed past settled)))

pub settles_stop : (c now : EdgeLists) (calls : List LinkCall) (out : List Effect) (past : ℕ) (start : Work) → Keeps c now → ((slot : ℕ) → past ≤ slot → IsSettledAt now.plan (seen now) slot)
    → settles_downs c.plan (end_places c.plan c.me) start ≡ settles_downs c.plan (drop past (end_places c.plan c.me)) (at_edge (seen now) calls out)
    → at_edge (seen now) calls out ≡ tells_downs c.plan (end_places c.plan c.me) (forgets_downs c.plan (end_places c.plan c.me) start)
settles_stop c now calls out past start keeps settled so_far =
    let work : Work = at_edge (seen now) calls out in
    sym (so_far
    ∙ (ap (λ (p : Plan). settles_downs p (drop past (end_places p c.me)) work) (sym keeps.plan)
    ∙ (ap (λ (k : EdgeId). settles_downs now.plan (drop past (end_places now.plan k)) work) (sym keeps.me) ∙ settles_rest now calls out past settled)))
    ∙ settled_downs c.plan (end_places c.plan c.me) start

-- ---- a change beside one peer

marked_seen : (c : EdgeLists) (peer : EdgeId) (before after : Option EndMarks) → Marked (MarksBeside (end_places c.plan c.me) peer.0) before after
    → Marked (MarksBeside (end_places c.plan (seen c).me) peer.0) before after
unfolding seen
marked_seen c peer before after marked = marked

-- the places are those of the plan
marked_at : (c by : EdgeLists) (peer : EdgeId) (before after : Option EndMarks) → Keeps c by → c.ends.places ≡ end_places c.plan c.me → Marked (MarksBeside by.ends.places peer.0) before after
    → Marked (MarksBeside (end_places c.plan (seen c).me) peer.0) before after
marked_at c by peer before after keeps placed marked =
    marked_seen c peer before after (subst (λ (l : List EndPlace). Marked (MarksBeside l peer.0) before after) (keeps.places ∙ placed) marked)

-- each end beside the peer is changed, and of one that is not there nothing was told
pub group_kept : (v c new : EdgeLists) (peer : EdgeId) (change : EndState → EndState) (after : Option EndMarks) → v ≡ c → IsEdge v → Keeps c new → change fresh ≡ fresh
    → Marked (MarksBeside c.ends.places peer.0) v.marks after → seen new ≡ with_ends_beside peer change (seen c) → IfSome after (IsTidy new.plan (seen new))
group_kept v c new peer change after is holds keeps stays marked step =
    subst (λ (p : Plan). IfSome after (IsTidy p (seen new))) (sym keeps.plan)
    (tidy_beside c.plan peer.0 (seen c) (seen new) v.marks after (subst (λ (n : EdgeLists). IfSome v.marks (IsTidy n.plan (seen n))) is holds.tidy)
    (marked_at c c peer v.marks after (keeps_same c) placed marked)
    (subst (IsBeside c.plan peer.0 (seen c)) (sym step) (beside_ends c.plan peer change (seen c) stays (fresh_else c placed))))
  where
    placed : c.ends.places ≡ end_places c.plan c.me
    placed = subst (λ (n : EdgeLists). n.ends.places ≡ end_places n.plan n.me) is holds.places

-- a session that ended
pub gone_kept : (v c mid new by : EdgeLists) (peer : EdgeId) (after : Option EndMarks) → v ≡ c → IsEdge v → Keeps c new → Keeps c by
    → Marked (MarksBeside by.ends.places peer.0) v.marks after → seen mid ≡ with_peering peer None (seen c)
    → ((calls : List LinkCall) (out : List Effect) → at_edge (seen new) calls out ≡ clears_ends peer (at_edge (seen mid) calls out)) → IfSome after (IsTidy new.plan (seen new))
gone_kept v c mid new by peer after is holds keeps by_keeps marked took clears =
    subst (λ (p : Plan). IfSome after (IsTidy p (seen new))) (sym keeps.plan)
    (tidy_beside c.plan peer.0 (seen c) (seen new) v.marks after (subst (λ (n : EdgeLists). IfSome v.marks (IsTidy n.plan (seen n))) is holds.tidy)
    (marked_at c by peer v.marks after by_keeps placed marked)
    (beside_then c.plan peer.0 (seen c) (seen mid) (seen new) (subst (IsBeside c.plan peer.0 (seen c)) (sym took) (beside_peering c.plan peer None (seen c)))
    (beside_cleared c.plan peer (seen mid) (seen new) (subst (AreFreshElse c.plan) (sym took) (fresh_peering c.plan peer None (seen c) else)) clears)))
  where
    placed : c.ends.places ≡ end_places c.plan c.me
    placed = subst (λ (n : EdgeLists). n.ends.places ≡ end_places n.plan n.me) is holds.places

    else : AreFreshElse c.plan (seen c)
    else = fresh_else c placed

-- an event happened to a session: where it does not stand as it did, the ends beside the peer have marks
pub left_kept : (v c mid put new by : EdgeLists) (peer : EdgeId) (before left : Option Peering) (up stands : Bool) (after : Option EndMarks) → v ≡ c → IsEdge v → Keeps c new
    → Keeps c by → up ≡ was_up ((seen c).peering peer.0)
    → before ≡ (seen c).peering peer.0 → seen mid ≡ with_peering peer None (seen c) → seen put ≡ with_peering peer left (seen mid)
    → ((calls : List LinkCall) (out : List Effect) → at_edge (seen new) calls out ≡ clears_ends peer (at_edge (seen put) calls out)) → stands ≡ stands_as up left
    → (stands ≡ true → after ≡ v.marks) → (stands ≡ false → Marked (MarksBeside by.ends.places peer.0) v.marks after) → IfSome after (IsTidy new.plan (seen new))
left_kept v c mid put new by peer before left up true after is holds keeps by_keeps at read took puts clears stood same marked =
    subst (λ (p : Plan). IfSome after (IsTidy p (seen new))) (sym keeps.plan)
    (subst (λ (m : Option EndMarks). IfSome m (IsTidy c.plan (seen new))) (sym (same refl))
    (tidy_happened c.plan peer before left up (seen c) (seen mid) (seen put) (seen new) v.marks
    (subst (λ (n : EdgeLists). IfSome v.marks (IsTidy n.plan (seen n))) is holds.tidy) at read took puts clears (sym stood)))
left_kept v c mid put new by peer before left up false after is holds keeps by_keeps at read took puts clears stood same marked =
    subst (λ (p : Plan). IfSome after (IsTidy p (seen new))) (sym keeps.plan)
    (tidy_beside c.plan peer.0 (seen c) (seen new) v.marks after (subst (λ (n : EdgeLists). IfSome v.marks (IsTidy n.plan (seen n))) is holds.tidy)
    (marked_at c by peer v.marks after by_keeps (subst (λ (n : EdgeLists). n.ends.places ≡ end_places n.plan n.me) is holds.places) (marked refl))
    (beside_happened c.plan peer left (seen c) (seen mid) (seen put) (seen new) (fresh_else c (subst (λ (n : EdgeLists). n.ends.places ≡ end_places n.plan n.me) is holds.places)) took puts clears))

-- ---- a change that unsettles no end

-- the marks are as they were
pub same_kept : (v c new : EdgeLists) (change : EdgeState → EdgeState) → v ≡ c → IsEdge v → Keeps c new → seen new ≡ change (seen c)
    → (IfSome v.marks (IsTidy c.plan (seen c)) → IfSome v.marks (IsTidy c.plan (change (seen c)))) → IfSome v.marks (IsTidy new.plan (seen new))
same_kept v c new change is holds keeps step stays =
    subst (λ (p : Plan). IfSome v.marks (IsTidy p (seen new))) (sym keeps.plan)
    (subst (λ (e : EdgeState). IfSome v.marks (IsTidy c.plan e)) (sym step) (stays (subst (λ (n : EdgeLists). IfSome v.marks (IsTidy n.plan (seen n))) is holds.tidy)))

-- ---- the edge chooses for a service

pub chosen_kept : (c new : EdgeLists) (service : ℕ) (chosen : Option WireId) (after : Option EndMarks) → Keeps c new
    → IfSome after (IsTidyApart c.plan (seen c) (starts_spoke c.plan c.me (record { 0 = service })))
    → chosen ≡ choice c.plan (seen c) (record { 0 = service }) → seen new ≡ with_chosen (put_at (seen c).chosen service chosen) (seen c) → IfSome after (IsTidy new.plan (seen new))
unfolding seen
chosen_kept c new service chosen None keeps marked is chose = tt
chosen_kept c new service chosen (Some marks) keeps marked is chose =
    subst (λ (p : Plan). IsTidy p (seen new) marks) (sym keeps.plan)
    (tidy_chosen c.plan service chosen (seen c) (seen new) (Some marks) (Some marks) marked.tidy ((λ slot free. free), marked.marked) is chose)
