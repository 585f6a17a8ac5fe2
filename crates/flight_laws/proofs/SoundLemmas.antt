-- An edge keeps what it tells sound through each thing that it does.
use Rattle.std.proofs.Common.{◌≡◌, ◌≢◌, ◌≤◌, ◌+◌, ◌==◌, ◌∙◌, ℕ, Bool, true, false, cond, nat_eq, List, Option, Some, None, refl, sym, ap, subst, inl, inr, ⊎_elim, arith}
use Rattle.std.proofs.lemmas.Bool.{cases_Bool, eqb-true}
use Rattle.net_base.specs.declared.plan.places.EdgeId.{EdgeId}
use Rattle.label_space.specs.declared.kept.Kept.{Kept}
use Rattle.label_space.specs.Kept.{kept_at, without}
use Rattle.label_space.specs.Labels.{numbers_end, next_after}
use Rattle.label_space.proofs.KeptLemmas.{kept_without}
use Rattle.label_space.proofs.LawLemmas.{after_within}
use Rattle.net_values.specs.Label.{IsLabel}
use Rattle.net_values.proofs.BoolLemmas.{clash}
use Rattle.pw_signalling.specs.declared.binding.Binding.{Binding}
use Rattle.pw_signalling.specs.End.{EndState, LocalPart, Idle, Advertised, Withdrawing, fresh}
use Rattle.pw_signalling.specs.Rows.{released, renew_part, renewed}
use Rattle.session_core.specs.Phase.{Phase}
use Rattle.session_core.specs.Phase as phase
use Rattle.session_core.specs.Table.{SessionEvent, outcome_of}
use Rattle.pw_messages.specs.LinkAnswers.{Answers}
use Rattle.edge_model.specs.declared.end_place.EndPlace.{EndPlace}
use Rattle.edge_model.specs.Mend.{is_operational, is_up_with}
use Rattle.edge_model.specs.Session.{clears_ends, happens, happens_with_ends, losing_ends}
use Rattle.edge_model.specs.State.{EdgeState, Peering, end_at, has_end, is_there, with_end, with_ends_beside, with_next_label, with_kept}
use Rattle.edge_model.specs.Work.{Work, changes}
use Rattle.flight_laws.specs.Binding.{is_unasked}
use Rattle.flight_laws.specs.Sound.{IsSoundEnd, IsSoundHeld, IsSoundPart, TellsSoundly}
use Rattle.flight_laws.proofs.KeepLemmas.{IsInPhase, KeepsEnds, happens_keeps, happens_phase, phase_after, up_after}
use Rattle.flight_laws.proofs.WorkLemmas.{happens_spares}
use Rattle.edge_model.specs.Labels.{giving, keeps_one, left_label, releasing}
use Rattle.edge_model.proofs.HeldLemmas.{clears_keep}
use Rattle.flight_laws.specs.Rules.{part_owns}
use Rattle.flight_laws.proofs.FreedLemmas.{IsOwnedBeside, kept_from, left_is, lost_from, owns_own}
use Rattle.flight_laws.proofs.NameLemmas.{IsRekept}
use Rattle.pw_signalling.specs.Laws.{own_label}

-- ---- ends

idle_part : (local : LocalPart) → is_unasked local ≡ true → IsSoundPart local
idle_part (Idle declined) idle = tt
idle_part (Advertised label told) idle = clash idle
idle_part (Withdrawing label) idle = clash idle

none_held : (limit : ℕ) (held : Option Binding) → held ≡ None → IsSoundHeld limit held
none_held limit None none = tt
none_held limit (Some binding) none = absurd (cc)

pub idle_sound : (limit : ℕ) (up : Bool) (e : EndState) → is_unasked e.local ≡ true → e.remote ≡ None → IsSoundEnd limit up e
idle_sound limit true e idle none = (idle_part e.local idle, none_held limit e.remote none)
idle_sound limit false e idle none = (idle, none)

pub fresh_sound : (limit : ℕ) (up : Bool) → IsSoundEnd limit up fresh
fresh_sound limit up = idle_sound limit up fresh refl refl

-- a session that comes up
pub rises_sound : (limit : ℕ) (old new : Bool) (e : EndState) → (old ≡ true → new ≡ true) → IsSoundEnd limit old e → IsSoundEnd limit new e
rises_sound limit true true e rises sound = sound
rises_sound limit true false e rises sound = clash (rises refl)
rises_sound limit false true e rises sound = (idle_part e.local sound.0, none_held limit e.remote sound.1)
rises_sound limit false false e rises sound = sound

-- ends of a wire that are declined no longer, or of another one
pub renewed_sound : (limit : ℕ) (b up : Bool) (e : EndState) → IsSoundEnd limit up e → IsSoundEnd limit up (cond b (renewed e) e)
renewed_sound limit false up e sound = sound
renewed_sound limit true true e sound = (by_local e.local sound.0, sound.1) where
  by_local : (local : LocalPart) → IsSoundPart local → IsSoundPart (renew_part local)
  by_local (Idle declined) sound = tt
  by_local (Advertised label told) sound = sound
  by_local (Withdrawing label) sound = sound
renewed_sound limit true false e sound = (by_local e.local sound.0, sound.1) where
  by_local : (local : LocalPart) → is_unasked local ≡ true → is_unasked (renew_part local) ≡ true
  by_local (Idle declined) idle = refl
  by_local (Advertised label told) idle = clash idle
  by_local (Withdrawing label) idle = clash idle

-- ---- changes of an edge

-- only the ends change
pub sound_ends : {limit : ℕ → ℕ} → (old new : EdgeState) → new.next_label ≡ old.next_label → new.kept ≡ old.kept → new.bits ≡ old.bits → new.peering ≡ old.peering
    → ((wire peer : ℕ) → IsSoundEnd (limit wire) (is_up_with (old.peering peer)) (old.ends wire peer) → IsSoundEnd (limit wire) (is_up_with (old.peering peer)) (new.ends wire peer))
    → TellsSoundly limit old → TellsSoundly limit new
sound_ends old new label kept bits peering change sound = record {
  least = rw label sound.least;
  most = rw label sound.most;
  kept = λ number there. sound.kept number (subst (λ (ks : List Kept). kept_at number ks ≢ None) kept there);
  bits = λ wire. rw bits (sound.bits wire);
  ends = λ wire peer. rw peering (change wire peer (sound.ends wire peer));
}

-- nothing of it changes
pub sound_same : {limit : ℕ → ℕ} → (old new : EdgeState) → new.next_label ≡ old.next_label → new.kept ≡ old.kept → new.bits ≡ old.bits → new.peering ≡ old.peering → new.ends ≡ old.ends
    → TellsSoundly limit old → TellsSoundly limit new
sound_same old new label kept bits peering ends sound = sound_ends old new label kept bits peering (λ wire peer is. rw ends is) sound

pub sound_with_end : {limit : ℕ → ℕ} → (place : EndPlace) (end : EndState) (edge : EdgeState) → IsSoundEnd (limit place.wire.0) (is_up_with (edge.peering place.peer.0)) end → TellsSoundly limit edge
    → TellsSoundly limit (with_end place end edge)
unfolding with_end with_kept
sound_with_end {limit} place end edge is sound = sound_ends edge (with_end place end edge) refl refl refl refl (λ wire peer before. at_wire wire peer before) sound where
  at_peer : (most peer : ℕ) (other : EndState) → IsSoundEnd most (is_up_with (edge.peering place.peer.0)) end → IsSoundEnd most (is_up_with (edge.peering peer)) other
      → IsSoundEnd most (is_up_with (edge.peering peer)) (cond (nat_eq peer place.peer.0) end other)
  at_peer most peer other here before = elim (cases_Bool (nat_eq peer place.peer.0)) [
    | inl same ↦ rw same (subst (λ (k : ℕ). IsSoundEnd most (is_up_with (edge.peering k)) end) (sym (eqb-true peer place.peer.0 same)) here)
    | inr apart ↦ rw apart before
  ]

  at_wire : (wire peer : ℕ) → IsSoundEnd (limit wire) (is_up_with (edge.peering peer)) (edge.ends wire peer)
      → IsSoundEnd (limit wire) (is_up_with (edge.peering peer)) ((with_end place end edge).ends wire peer)
  at_wire wire peer before = elim (cases_Bool (nat_eq wire place.wire.0)) [
    | inl same ↦ (let e : wire ≡ place.wire.0 = eqb-true wire place.wire.0 same in
        rw same (at_peer (limit wire) peer (edge.ends place.wire.0 peer) (subst (λ (w : ℕ). IsSoundEnd (limit w) (is_up_with (edge.peering place.peer.0)) end) (sym e) is)
        (subst (λ (w : ℕ). IsSoundEnd (limit wire) (is_up_with (edge.peering peer)) (edge.ends w peer)) e before)))
    | inr apart ↦ rw apart before
  ]

pub sound_beside : {limit : ℕ → ℕ} → (peer : EdgeId) (change : EndState → EndState) (edge : EdgeState)
    → ((most : ℕ) (e : EndState) → IsSoundEnd most (is_up_with (edge.peering peer.0)) e → IsSoundEnd most (is_up_with (edge.peering peer.0)) (change e)) → TellsSoundly limit edge
    → TellsSoundly limit (with_ends_beside peer change edge)
unfolding with_ends_beside with_kept
sound_beside {limit} peer change edge keeps sound = sound_ends edge (with_ends_beside peer change edge) refl refl refl refl (λ wire k before. elim (cases_Bool (nat_eq k peer.0)) [
  | inl same ↦ rw same (subst (λ (p : ℕ). IsSoundEnd (limit wire) (is_up_with (edge.peering p)) (change (edge.ends wire p))) (sym (eqb-true k peer.0 same))
      (keeps (limit wire) (edge.ends wire peer.0) (subst (λ (p : ℕ). IsSoundEnd (limit wire) (is_up_with (edge.peering p)) (edge.ends wire p)) (eqb-true k peer.0 same) before)))
  | inr apart ↦ rw apart before
]) sound

one_above : (n : ℕ) → 16 ≤ n → 16 ≤ next_after n
one_above n least = by (n == numbers_end) where
  by : (last : Bool) → 16 ≤ cond last n (n + 1)
  by true = least
  by false = omega (arith, least)

pub sound_giving : {limit : ℕ → ℕ} → (label : ℕ) (edge : EdgeState) → TellsSoundly limit edge → TellsSoundly limit (giving label edge)
unfolding with_next_label with_kept
sound_giving label edge sound = record {
  least = one_above edge.next_label sound.least;
  most = after_within edge.next_label sound.most;
  kept = λ number there. sound.kept number (before number there);
  bits = sound.bits;
  ends = sound.ends;
}
  where
    before : (number : ℕ) → kept_at number (without label edge.kept) ≢ None → kept_at number edge.kept ≢ None
    before number there none = there (kept_without label number edge.kept ∙ by (nat_eq label number)) where
      by : (b : Bool) → cond b None (kept_at number edge.kept) ≡ None
      by true = refl
      by false = none

-- the number that an end owns is a label
pub owned_label : (local : LocalPart) (label : ℕ) → IsSoundPart local → part_owns local label ≡ true → IsLabel label
owned_label (Idle declined) label sound owned = clash owned
owned_label (Advertised own told) label sound owned = subst (λ (l : ℕ). IsLabel l) (eqb-true own label owned) sound.is_label
owned_label (Withdrawing own) label sound owned = subst (λ (l : ℕ). IsLabel l) (eqb-true own label owned) sound

pub end_label : (limit : ℕ) (up : Bool) (e : EndState) (label : ℕ) → IsSoundEnd limit up e → part_owns e.local label ≡ true → IsLabel label
end_label limit true e label sound owned = owned_label e.local label sound.0 owned
end_label limit false e label sound owned = owned_label e.local label (idle_part e.local sound.0) owned

-- what is kept where the ends beside a peer may be lost is a label
cleared_labels : (peer : EdgeId) (work : Work) (label : ℕ) → ((wire k : ℕ) → part_owns (work.edge.ends wire k).local label ≡ true → IsLabel label)
    → (kept_at label work.edge.kept ≢ None → IsLabel label)
    → kept_at label (clears_ends peer work).edge.kept ≢ None → IsLabel label
unfolding changes with_ends_beside with_kept
cleared_labels peer work label owned kept = by_end (has_end work.edge peer) where
  by_end : (b : Bool) → kept_at label (cond b work (changes (losing_ends peer) work)).edge.kept ≢ None → IsLabel label
  by_end true there = kept there
  by_end false there = ⊎_elim (λ (before : kept_at label work.edge.kept ≢ None). kept before) (λ (beside : IsOwnedBeside peer work.edge.ends label). owned beside.wire peer.0 beside.owned)
      (lost_from peer work.edge.ends work.edge.places work.edge.kept label there)

-- an edge whose kept numbers are other ones, all of them from those of before
pub sound_rekept : {limit : ℕ → ℕ} → (old new : EdgeState) → IsRekept old new → new.bits ≡ old.bits → new.peering ≡ old.peering → TellsSoundly limit old → TellsSoundly limit new
sound_rekept old new is bits peering sound = record {
  least = rw is.next sound.least;
  most = rw is.next sound.most;
  kept = λ label there. sound.kept label (is.from label there);
  bits = λ wire. rw bits (sound.bits wire);
  ends = λ wire k. rw (peering, is.ends) (sound.ends wire k);
}

-- a label is released, and its number is kept
pub sound_releasing : {limit : ℕ → ℕ} → (label : Option ℕ) (place : EndPlace) (edge : EdgeState) → TellsSoundly limit edge
    → TellsSoundly limit (with_end place (released label (end_at edge place)) edge) → TellsSoundly limit (releasing label place edge)
unfolding with_end with_kept
sound_releasing {limit} label place edge sound with_it = record {
  least = with_it.least;
  most = with_it.most;
  kept = λ number there. by (left_label (own_label (end_at edge place).local) (own_label (released label (end_at edge place)).local)) refl number there;
  bits = with_it.bits;
  ends = with_it.ends;
}
  where
    by : (r : Option ℕ) → left_label (own_label (end_at edge place).local) (own_label (released label (end_at edge place)).local) ≡ r → (number : ℕ)
        → kept_at number (keeps_one r place.peer edge.kept) ≢ None → IsLabel number
    by None is number there = sound.kept number there
    by (Some own) is number there = ⊎_elim (λ (before : kept_at number edge.kept ≢ None). sound.kept number before)
        (λ (same : own ≡ number). subst (λ (l : ℕ). IsLabel l) same
        (end_label (limit place.wire.0) (is_up_with (edge.peering place.peer.0)) (end_at edge place) own (sound.ends place.wire.0 place.peer.0)
        (owns_own (end_at edge place).local own (left_is (own_label (end_at edge place).local) (own_label (released label (end_at edge place)).local) own is).0)))
        (kept_from own place.peer edge.kept number there)

-- ---- an event of a session

pub up_is : (p : Phase) → is_operational p ≡ true → p ≡ phase.Operational
up_is phase.Initialized e = clash e
up_is phase.OpenSent e = clash e
up_is phase.OpenRec e = clash e
up_is phase.Operational e = refl

-- the session with the peer goes on as it is, where it was up
pub up_stays : (told : Answers) (peer : EdgeId) (event : SessionEvent) (near : Option Peering) (work : Work) → work.edge.peering peer.0 ≡ near → is_up_with near ≡ true
    → IsInPhase phase.Operational ((happens told peer event work).edge.peering peer.0)
up_stays told peer event None work at up = clash up
up_stays told peer event (Some kept) work at up =
    let is = up_is kept.session.phase up in
    subst (λ (p : Phase). IsInPhase p ((happens told peer event work).edge.peering peer.0))
    (ap (λ (p : Phase). phase_after p (outcome_of kept.session event)) is ∙ up_after kept.session event is) (happens_phase told peer event kept work at)

there_up : (near : Option Peering) → is_there near ≡ true → IsInPhase phase.Operational near → is_up_with near ≡ true
there_up None e is = clash e
there_up (Some kept) e is = rw is refl

-- the ends beside the peer are as they were, or lost where no session stands any more
cleared_ends : (peer : EdgeId) (work : Work) (wire k : ℕ) → (clears_ends peer work).edge.ends wire k
    ≡ cond (has_end work.edge peer) (work.edge.ends wire k) (cond (nat_eq k peer.0) fresh (work.edge.ends wire k))
unfolding changes with_ends_beside with_kept
cleared_ends peer work wire k = by_end (has_end work.edge peer) where
  by_end : (b : Bool) → (cond b work (changes (losing_ends peer) work)).edge.ends wire k ≡ cond b (work.edge.ends wire k) (cond (nat_eq k peer.0) fresh (work.edge.ends wire k))
  by_end true = refl
  by_end false = refl

pub cleared_rest : (peer : EdgeId) (work : Work) → ((clears_ends peer work).edge.next_label ≡ work.edge.next_label) × ((clears_ends peer work).edge.bits ≡ work.edge.bits)
unfolding changes with_ends_beside with_kept
cleared_rest peer work = by_end (has_end work.edge peer) where
  by_end : (b : Bool) → ((cond b work (changes (losing_ends peer) work)).edge.next_label ≡ work.edge.next_label) × ((cond b work (changes (losing_ends peer) work)).edge.bits ≡ work.edge.bits)
  by_end true = (refl, refl)
  by_end false = (refl, refl)

pub happens_sound : {limit : ℕ → ℕ} → (told : Answers) (peer : EdgeId) (event : SessionEvent) (work : Work) → TellsSoundly limit work.edge
    → TellsSoundly limit (happens_with_ends told peer event work).edge
happens_sound {limit} told peer event work sound = record {
  least = rw ((cleared_rest peer after).0 ∙ kept.next_label) sound.least;
  most = rw ((cleared_rest peer after).0 ∙ kept.next_label) sound.most;
  kept = λ label there. cleared_labels peer after label
      (λ wire k owned. end_label (limit wire) (is_up_with (work.edge.peering k)) (work.edge.ends wire k) label (sound.ends wire k)
      (subst (λ (f : ℕ → ℕ → EndState). part_owns (f wire k).local label ≡ true) kept.ends owned))
      (λ before. sound.kept label (subst (λ (ks : List Kept). kept_at label ks ≢ None) kept.kept before)) there;
  bits = λ wire. rw ((cleared_rest peer after).1 ∙ kept.bits) (sound.bits wire);
  ends = λ wire k. rw (clears_keep peer after, cleared_ends peer after wire k, kept.ends) (elim (cases_Bool (nat_eq k peer.0)) [
    | inl same ↦ rw same (subst (λ (p : ℕ). IsSoundEnd (limit wire) (is_up_with (after.edge.peering p)) (cond (has_end after.edge peer) (work.edge.ends wire p) fresh))
        (sym (eqb-true k peer.0 same)) (beside wire (has_end after.edge peer) refl))
    | inr apart ↦ rw (apart, (happens_spares told k peer event work apart).kept)
        (either (limit wire) (has_end after.edge peer) (work.edge.ends wire k) (is_up_with (work.edge.peering k)) (sound.ends wire k))
  ]);
}
  where
    after : Work
    after = happens told peer event work

    kept : KeepsEnds work.edge after.edge
    kept = happens_keeps told peer event work

    either : (most : ℕ) (b : Bool) (e : EndState) (up : Bool) → IsSoundEnd most up e → IsSoundEnd most up (cond b e e)
    either most true e up is = is
    either most false e up is = is

    beside : (wire : ℕ) (there : Bool) → has_end after.edge peer ≡ there → IsSoundEnd (limit wire) (is_up_with (after.edge.peering peer.0)) (cond there (work.edge.ends wire peer.0) fresh)
    beside wire true is = rises_sound (limit wire) (is_up_with (work.edge.peering peer.0)) (is_up_with (after.edge.peering peer.0)) (work.edge.ends wire peer.0)
        (λ up. there_up (after.edge.peering peer.0) is (up_stays told peer event (work.edge.peering peer.0) work refl up)) (sound.ends wire peer.0)
    beside wire false is = fresh_sound (limit wire) (is_up_with (after.edge.peering peer.0))
