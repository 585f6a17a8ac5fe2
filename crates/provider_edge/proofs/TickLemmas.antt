-- A tick passes by a neighbour with which no session stands, and by all where no session has anything to do.
use Rattle.std.proofs.Common.{◌≡◌, ◌≤◌, ◌<◌, ◌+◌, ◌↔◌, ◌∙◌, ◌⊎◌, ℕ, zero, suc, Bool, true, false, not, cond, nat_eq, nat_lt, List, [], ◌∷◌, Option, Some, None, get_or, length, slice_index_or, ap, refl, sym, subst, arith, inl, inr}
use Rattle.std.specs.List.{list_all}
use Rattle.std.proofs.lemmas.Bool.{cases_Bool, not-true}
use Rattle.std.proofs.lemmas.Bool.Decides.{nat_tests}
use Rattle.net_values.proofs.BoolLemmas.{first_holds, second_holds}
use Rattle.net_base.specs.declared.outside.link_call.LinkCall.{LinkCall}
use Rattle.net_base.specs.declared.plan.places.EdgeId.{EdgeId}
use Rattle.session_core.specs.Phase.{Phase}
use Rattle.session_core.specs.Phase as phase
use Rattle.session_core.specs.Session.{phase_name}
use Rattle.session_core.specs.Table.{Outcome, SessionEvent, Ticked}
use Rattle.session_core.specs.Ticks.{quiet_ticks}
use Rattle.session_core.proofs.TickLemmas.{goes_quietly}
use Rattle.pw_messages.specs.LinkAnswers.{Answers}
use Rattle.edge_model.specs.declared.effect.Effect.{Effect}
use Rattle.edge_model.specs.declared.effect.Effect.TheVariants.{Session}
use Rattle.edge_model.specs.Session.{comes_of, happens, happens_to, happens_with_ends, is_same_phase, losing_ends}
use Rattle.edge_model.specs.State.{EdgeState, Peering, has_end, is_there, put_at, with_ends_beside, with_kept, with_peering}
use Rattle.edge_model.specs.Tick.{ticks_sessions}
use Rattle.edge_model.specs.Work.{Work, changes, gives}
use Rattle.edge_forwarding.proofs.Views.{past_end}
use Rattle.edge_forwarding.specs.Views.{view}
use Rattle.peer_dialogue.specs.Peering.{at_edge, peering_later}
use Rattle.peer_dialogue.proofs.SpeakerLemmas.{put_same}
use Rattle.provider_edge.proofs.LiftLemmas.{happened, untouched_none}
use Rattle.provider_edge.proofs.ListLemmas.{cleared, cleared_not}
use Rattle.provider_edge.proofs.SessionsLemmas.{few_later, later_at, length_later, one_later, quiet_read, up_at}
use Rattle.provider_edge.proofs.TidyLemmas.{there_put, tidy_alike}
use Rattle.provider_edge.specs.Invariant.{IsEdge}
use Rattle.provider_edge.specs.Lists.{EdgeLists, seen}
use Rattle.provider_edge.specs.Sessions.{all_later, least_quiet, quiet_for}

-- nor are ends lost of which nothing was told
pub passed_by : (told : Answers) (peer : EdgeId) (event : SessionEvent) (edge : EdgeState) (calls : List LinkCall) (out : List Effect)
    → has_end edge peer ≡ false → losing_ends peer edge ≡ edge → at_edge edge calls out ≡ happens_with_ends told peer event (at_edge edge calls out)
passed_by told peer event edge calls out absent untold =
    happened told peer event (at_edge edge calls out) (at_edge edge calls out) (at_edge edge calls out)
    (untouched_none told peer event edge calls out absent) (cleared peer edge edge calls out absent (sym untold))

-- ---- a tick at which no session has anything to do

-- the edge with these sessions
abbrev with_sessions : (ℕ → Option Peering) → EdgeState → EdgeState
with_sessions peering edge = record edge { peering = peering }

-- those with neighbours before a place have had the tick
abbrev ticked_before : ℕ → (ℕ → Option Peering) → ℕ → Option Peering
ticked_before place peering k = cond (nat_lt k place) (one_later 1 (peering k)) (peering k)

same_phase : (state : Phase) → is_same_phase state state ≡ true
same_phase phase.Initialized = refl
same_phase phase.OpenSent = refl
same_phase phase.OpenRec = refl
same_phase phase.Operational = refl

-- a session goes on, and nothing is put
goes_on : (told : Answers) (peer : EdgeId) (kept : Peering) (edge : EdgeState) (calls : List LinkCall) (out : List Effect) → edge.peering peer.0 ≡ Some kept → 1 ≤ quiet_ticks kept.session
    → at_edge (with_peering peer (Some (peering_later 1 kept)) edge) calls out ≡ happens told peer Ticked (at_edge edge calls out)
unfolding at_edge changes
goes_on told peer kept edge calls out is quiet =
    let work : Work = record { edge = edge; calls = calls; effects = out; idle = false } in
    let next : Work = record { edge = with_peering peer (Some (peering_later 1 kept)) edge; calls = calls; effects = out; idle = false } in
    sym (ap (λ (x : Option Peering). happens_to told peer Ticked x work) is
    ∙ (ap (λ (o : Outcome). comes_of told peer kept o work) (goes_quietly kept.session quiet)
    ∙ ap (λ (b : Bool). cond b next (gives (Session peer (phase_name kept.session.phase)) next)) (same_phase kept.session.phase)))

-- one that has nothing to do, or none
quiet_step : (told : Answers) (peer : EdgeId) (edge : EdgeState) (calls : List LinkCall) (out : List Effect) → 1 ≤ quiet_for (edge.peering peer.0)
    → (has_end edge peer ≡ false → losing_ends peer edge ≡ edge)
    → at_edge (with_peering peer (one_later 1 (edge.peering peer.0)) edge) calls out ≡ happens_with_ends told peer Ticked (at_edge edge calls out)
quiet_step told peer edge calls out quiet untold = by (edge.peering peer.0) refl where
  by : (x : Option Peering) → edge.peering peer.0 ≡ x → at_edge (with_peering peer (one_later 1 (edge.peering peer.0)) edge) calls out ≡ happens_with_ends told peer Ticked (at_edge edge calls out)
  by None is =
      ap (λ (e : EdgeState). at_edge e calls out) (ap (λ (x : Option Peering). with_peering peer (one_later 1 x) edge) is ∙ put_same peer None edge is)
      ∙ passed_by told peer Ticked edge calls out (ap is_there is) (untold (ap is_there is))
  by (Some kept) is =
      let now : EdgeState = with_peering peer (Some (peering_later 1 kept)) edge in
      ap (λ (x : Option Peering). at_edge (with_peering peer (one_later 1 x) edge) calls out) is
      ∙ happened told peer Ticked (at_edge edge calls out) (at_edge now calls out) (at_edge now calls out)
      (goes_on told peer kept edge calls out is (subst (λ (x : Option Peering). 1 ≤ quiet_for x) is quiet))
      (cleared_not peer now calls out (there_put peer (Some (peering_later 1 kept)) edge now refl refl))

not_before : (place : ℕ) → nat_lt place place ≡ false
not_before place = grind (arith, nat_tests)

-- one more has had it
ticked_next : (peering : ℕ → Option Peering) (place k : ℕ)
    → put_at (ticked_before place peering) place (one_later 1 (ticked_before place peering place)) k ≡ ticked_before (place + 1) peering k
ticked_next peering place k = by (cases_Bool (nat_eq k place)) where
  equal : nat_eq k place ≡ true → k ≡ place
  equal same = grind (arith, nat_tests)

  by : (nat_eq k place ≡ true) ⊎ (nat_eq k place ≡ false) → put_at (ticked_before place peering) place (one_later 1 (ticked_before place peering place)) k ≡ ticked_before (place + 1) peering k
  by (inl same) =
      let here : nat_lt k (place + 1) ≡ true = grind (arith, nat_tests, equal same) in
      ap (λ (b : Bool). cond b (one_later 1 (ticked_before place peering place)) (ticked_before place peering k)) same
      ∙ (ap (λ (b : Bool). one_later 1 (cond b (one_later 1 (peering place)) (peering place))) (not_before place)
      ∙ (ap (λ (n : ℕ). one_later 1 (peering n)) (sym (equal same))
      ∙ ap (λ (b : Bool). cond b (one_later 1 (peering k)) (peering k)) (sym here)))
  by (inr apart) =
      let there : nat_lt k place ≡ nat_lt k (place + 1) = grind (arith, nat_tests, apart) in
      ap (λ (b : Bool). cond b (one_later 1 (ticked_before place peering place)) (ticked_before place peering k)) apart
      ∙ ap (λ (b : Bool). cond b (one_later 1 (peering k)) (peering k)) there

-- so it is with so many neighbours from a place on
all_quiet : (told : Answers) (size place count : ℕ) (edge : EdgeState) (peering : ℕ → Option Peering) (calls : List LinkCall) (out : List Effect) → place + count ≡ size
    → ((k : ℕ) → 1 ≤ quiet_for (peering k)) → ((peer : EdgeId) → peer.0 < size → is_there (peering peer.0) ≡ false → losing_ends peer edge ≡ edge)
    → at_edge (with_sessions (ticked_before size peering) edge) calls out ≡ ticks_sessions told place count (at_edge (with_sessions (ticked_before place peering) edge) calls out)
unfolding with_peering with_kept with_ends_beside
all_quiet told size place zero edge peering calls out all quiet untold =
    let last : size ≡ place = omega (arith, all) in
    ap (λ (n : ℕ). at_edge (with_sessions (ticked_before n peering) edge) calls out) last
all_quiet told size place (suc count) edge peering calls out all quiet untold =
    all_quiet told size (place + 1) count edge peering calls out (omega (arith, all)) quiet untold
    ∙ ap (ticks_sessions told (place + 1) count) (ap (λ (e : EdgeState). at_edge e calls out) next
    ∙ quiet_step told peer before calls out (subst (λ (x : Option Peering). 1 ≤ quiet_for x) (sym here) (quiet place)) lost_none)
  where
    peer : EdgeId
    peer = record { 0 = place }

    before : EdgeState
    before = with_sessions (ticked_before place peering) edge

    here : ticked_before place peering place ≡ peering place
    here = ap (λ (b : Bool). cond b (one_later 1 (peering place)) (peering place)) (not_before place)

    next : with_sessions (ticked_before (place + 1) peering) edge ≡ with_peering peer (one_later 1 (ticked_before place peering place)) before
    next = sym (λ i. record edge { peering = λ k. ticked_next peering place k i })

    lost_none : has_end before peer ≡ false → losing_ends peer before ≡ before
    lost_none absent = ap (with_sessions (ticked_before place peering)) (untold peer (omega (arith, all)) (sym (ap is_there here) ∙ absent))

-- and with all
pub quiet_tick : (told : Answers) (v : EdgeLists) (calls : List LinkCall) (out : List Effect) → length v.peerings ≡ length v.plan.edges → 1 ≤ least_quiet v.peerings
    → ((peer : EdgeId) → peer.0 < length v.plan.edges → is_there (slice_index_or v.peerings peer.0 None) ≡ false → losing_ends peer (seen v) ≡ seen v)
    → at_edge (seen (record v { peerings = all_later 1 v.peerings })) calls out ≡ ticks_sessions told 0 (length v.plan.edges) (at_edge (seen v) calls out)
unfolding seen
quiet_tick told v calls out all quiet untold =
    ap (λ (e : EdgeState). at_edge e calls out) last
    ∙ (all_quiet told size 0 size (seen v) peering calls out (omega arith) (λ k. quiet_read 1 v.peerings k quiet) untold
    ∙ ap (λ (e : EdgeState). ticks_sessions told 0 size (at_edge e calls out)) first)
  where
    size : ℕ
    size = length v.plan.edges

    peering : ℕ → Option Peering
    peering = view None v.peerings

    none_before : (k : ℕ) → nat_lt k 0 ≡ false
    none_before k = grind (arith, nat_tests)

    first : with_sessions (ticked_before 0 peering) (seen v) ≡ seen v
    first = λ i. record (seen v) { peering = λ k. ap (λ (b : Bool). cond b (one_later 1 (peering k)) (peering k)) (none_before k) i }

    at : (k : ℕ) → (nat_lt k size ≡ true) ⊎ (nat_lt k size ≡ false) → one_later 1 (peering k) ≡ ticked_before size peering k
    at k (inl within) = ap (λ (b : Bool). cond b (one_later 1 (peering k)) (peering k)) (sym within)
    at k (inr past) =
        let none : peering k ≡ None = past_end None v.peerings k (grind (arith, nat_tests, past, all)) in
        ap (one_later 1) none ∙ (sym none ∙ ap (λ (b : Bool). cond b (one_later 1 (peering k)) (peering k)) (sym past))

    last : seen (record v { peerings = all_later 1 v.peerings }) ≡ with_sessions (ticked_before size peering) (seen v)
    last = λ i. record (seen v) { peering = λ k. (later_at 1 v.peerings k ∙ at k (cases_Bool (nat_lt k size))) i }

-- what always holds does so after it
holds_quiet : (v : EdgeLists) → v.stopped ≡ true → IsEdge v → IsEdge (record v { peerings = all_later 1 v.peerings })
unfolding seen
holds_quiet v working is = record {
  checked = is.checked;
  peerings = length_later 1 v.peerings ∙ is.peerings;
  held = few_later 1 v.peerings is.held;
  places = is.places;
  wires = is.wires;
  each_bits = is.each_bits;
  small = is.small;
  priorities = is.priorities;
  each_ping = is.each_ping;
  spokes = is.spokes;
  plan = is.plan;
  me = is.me;
  synced = λ going. absurd (cc (sym working ∙ going));
  tidy = tidy_alike v.plan (seen v) (view None (all_later 1 v.peerings)) v.marks (λ k. up_at 1 v.peerings k) is.tidy;
}

-- which may not be known
pub holds_passed : (v : EdgeLists) (now : List (Option Peering)) (passed : Bool) → (passed ≡ true → now ≡ all_later 1 v.peerings) → (passed ≡ false → now ≡ v.peerings) → v.stopped ≡ true → IsEdge v
    → IsEdge (record v { peerings = now })
holds_passed v now true later stays working is = subst (λ (l : List (Option Peering)). IsEdge (record v { peerings = l })) (sym (later refl)) (holds_quiet v working is)
holds_passed v now false later stays working is = subst (λ (l : List (Option Peering)). IsEdge (record v { peerings = l })) (sym (stays refl)) is

-- ---- no session stands at all

abbrev is_none_kept : List (Option Peering) → Bool
is_none_kept peerings = list_all (λ kept. not (is_there kept)) peerings

each_absent : (peerings : List (Option Peering)) (place : ℕ) → is_none_kept peerings ≡ true → is_there (get_or peerings place None) ≡ false
each_absent [] place none = refl
each_absent (kept ∷ more) zero none = not-true (is_there kept) (first_holds (not (is_there kept)) (is_none_kept more) none)
each_absent (kept ∷ more) (suc place) none = each_absent more place (second_holds (not (is_there kept)) (is_none_kept more) none)

all_absent : (peerings : List (Option Peering)) → ((place : ℕ) → is_there (get_or peerings place None) ≡ false) → is_none_kept peerings ≡ true
all_absent [] each = refl
all_absent (kept ∷ more) each = rw (each zero, all_absent more (λ place. each (suc place))) refl

pub alone : (edge : EdgeLists) (none : Bool) → none ≡ list_all (λ kept. not (is_there kept)) edge.peerings → (none ≡ true) ↔ ((peer : EdgeId) → has_end (seen edge) peer ≡ false)
unfolding seen
alone edge none is = ((λ all peer. each_absent edge.peerings peer.0 (sym is ∙ all)), (λ each. is ∙ all_absent edge.peerings (λ place. each (record { 0 = place }))))
