-- An end that is stuck stays so: it was declined, its wire is off, its session is not up, or its edge has no label left, and while messages
-- are heard none of it changes.
use Rattle.std.proofs.Common.{◌≡◌, ◌&&◌, ◌||◌, ◌∙◌, ◌==◌, ◌⊎◌, inl, inr, not, is_some, option_map, cond, ℕ, Bool, true, false, List, [], ◌∷◌, Option, Some, None, refl, sym, ap, length, nat_lt}
use Rattle.std.specs.List.{find}
use Rattle.net_values.proofs.BoolLemmas.{clash}
use Rattle.net_base.specs.declared.plan.places.EdgeId.{EdgeId}
use Rattle.label_space.specs.Kept.{is_free, keeps, kept_at, label_of, least_free, most_kept, put_in, waiting}
use Rattle.label_space.specs.Labels.{number_to_give, numbers_end}
use Rattle.label_space.specs.declared.kept.Kept.{Kept}
use Rattle.label_space.specs.declared.kept.KeptState.{KeptState}
use Rattle.flight_laws.proofs.NameLemmas.{end_fact}
use Rattle.pw_signalling.specs.End.{EndState, LocalPart, Idle, Advertised, Withdrawing}
use Rattle.pw_signalling.specs.Rows.{release_part}
use Rattle.pw_signalling.specs.declared.told.Told.{Told}
use Rattle.edge_model.specs.Labels.{keeps_one, label_to_give, unless_kept}
use Rattle.edge_model.specs.Mend.{is_up_with}
use Rattle.edge_model.specs.Settled.{tells_wish}
use Rattle.edge_model.specs.State.{EdgeState, end_at, with_end}
use Rattle.edge_model.specs.declared.end_place.EndPlace.{EndPlace}
use Rattle.flight_laws.specs.Binding.{is_withdrawing}
use Rattle.move_laws.specs.Healing.{is_advertising, is_stuck, stays_idle}

-- ---- labels

-- a number that waits is none that is free
wait_put : (label : ℕ) (peer : EdgeId) (kept : List Kept) → find is_free (put_in (waiting label peer) kept) ≡ find is_free kept
wait_put label peer [] = refl
wait_put label peer (k ∷ ks) = by (nat_lt k.label label) (wait_put label peer ks) where
  first : (b : Bool) (one other : Option Kept) → one ≡ other → cond b (Some k) one ≡ cond b (Some k) other
  first true one other same = refl
  first false one other same = same

  by : (b : Bool) → find is_free (put_in (waiting label peer) ks) ≡ find is_free ks
      → find is_free (cond b (k ∷ put_in (waiting label peer) ks) (waiting label peer ∷ k ∷ ks)) ≡ find is_free (k ∷ ks)
  by true more = first (is_free k) (find is_free (put_in (waiting label peer) ks)) (find is_free ks) more
  by false more = refl

wait_kept : (label : ℕ) (peer : EdgeId) (kept : List Kept) → least_free (keeps label peer kept) ≡ least_free kept
wait_kept label peer kept = by (nat_lt (length kept) most_kept) where
  by : (b : Bool) → least_free (cond b (put_in (waiting label peer) kept) kept) ≡ least_free kept
  by true = ap (option_map label_of) (wait_put label peer kept)
  by false = refl

pub wait_one : (label : Option ℕ) (peer : EdgeId) (kept : List Kept) → least_free (keeps_one label peer kept) ≡ least_free kept
wait_one None peer kept = refl
wait_one (Some label) peer kept = by (kept_at label kept) where
  by : (o : Option KeptState) → least_free (unless_kept o label peer kept) ≡ least_free kept
  by None = wait_kept label peer kept
  by (Some state) = refl

-- so a number that is released is not to be given at once
pub given_same : (next : ℕ) (label : Option ℕ) (peer : EdgeId) (kept : List Kept) → number_to_give next (keeps_one label peer kept) ≡ number_to_give next kept
given_same next label peer kept = by (next == numbers_end) where
  by : (b : Bool) → cond b (least_free (keeps_one label peer kept)) (Some next) ≡ cond b (least_free kept) (Some next)
  by true = wait_one label peer kept
  by false = refl

-- ---- an end

-- what keeps an end idle stays
pub idle_on : (old new : EdgeState) (wire peer : ℕ) (local : LocalPart) → new.wire_on ≡ old.wire_on → is_up_with (new.peering peer) ≡ is_up_with (old.peering peer)
    → (label_to_give old ≡ None → label_to_give new ≡ None) → stays_idle old wire peer local ≡ true → stays_idle new wire peer local ≡ true
idle_on old new wire peer (Idle true) wires up labels is = refl
idle_on old new wire peer (Idle false) wires up labels is = ap (λ (b : Bool). b || not (is_some (label_to_give new))) same_parts ∙ either (old.wire_on wire) (is_up_with (old.peering peer)) is where
  none_left : (o : Option ℕ) → (label_to_give old) ≡ o → not (is_some o) ≡ true → not (is_some (label_to_give new)) ≡ true
  none_left None is none = ap (λ (o : Option ℕ). not (is_some o)) (labels is)
  none_left (Some label) is none = clash none

  either : (on is_up : Bool) → not (on && is_up) || not (is_some (label_to_give old)) ≡ true → not (on && is_up) || not (is_some (label_to_give new)) ≡ true
  either true true is = none_left (label_to_give old) refl is
  either true false is = refl
  either false is_up is = refl

  same_parts : not (new.wire_on wire && is_up_with (new.peering peer)) ≡ not (old.wire_on wire && is_up_with (old.peering peer))
  same_parts = ap (λ (f : ℕ → Bool). not (f wire && is_up_with (new.peering peer))) wires ∙ ap (λ (b : Bool). not (old.wire_on wire && b)) up
idle_on old new wire peer (Advertised label told) wires up labels is = clash is
idle_on old new wire peer (Withdrawing label) wires up labels is = clash is

-- what makes an end stuck stays
pub stuck_on : (old new : EdgeState) (wire peer : ℕ) → new.wire_on ≡ old.wire_on → is_up_with (new.peering peer) ≡ is_up_with (old.peering peer) → (label_to_give old ≡ None → label_to_give new ≡ None)
    → (new.ends wire peer).local ≡ (old.ends wire peer).local → is_stuck old wire peer ≡ true → is_stuck new wire peer ≡ true
stuck_on old new wire peer wires up labels same stuck = idle_on old new wire peer (new.ends wire peer).local wires up labels (ap (stays_idle old wire peer) same ∙ stuck)

-- an end that is put leaves others as they are
pub stuck_put : (place : EndPlace) (end : EndState) (edge : EdgeState) (wire peer : ℕ)
    → (stays_idle edge place.wire.0 place.peer.0 (end_at edge place).local ≡ true → stays_idle edge place.wire.0 place.peer.0 end.local ≡ true)
    → is_stuck edge wire peer ≡ true → stays_idle edge wire peer ((with_end place end edge).ends wire peer).local ≡ true
stuck_put place end edge wire peer now stuck =
    end_fact (λ w p e. (stays_idle edge w p (edge.ends w p).local ≡ true) → stays_idle edge w p e.local ≡ true) place end edge wire peer now (λ is. is) stuck

-- a Label Release changes no idle end
pub release_idle : (label : Option ℕ) (edge : EdgeState) (wire peer : ℕ) (local : LocalPart) → stays_idle edge wire peer local ≡ true → stays_idle edge wire peer (release_part label local) ≡ true
release_idle label edge wire peer (Idle declined) is = is
release_idle label edge wire peer (Advertised own told) is = clash is
release_idle label edge wire peer (Withdrawing own) is = clash is

-- ---- an end that has mended

-- where it should tell something, the wire is on and the session up, it tells it or is stuck, unless it waits for a release
pub mended_or_stuck : (place : EndPlace) (edge : EdgeState) (wished : Option Told) (local : LocalPart)
    → (edge.wire_on place.wire.0 ≡ true → is_up_with (edge.peering place.peer.0) ≡ true → is_some wished ≡ true)
    → tells_wish place wished (not (is_some (label_to_give edge))) local ≡ true → is_withdrawing local ≡ false
    → (is_advertising local ≡ true) ⊎ (stays_idle edge place.wire.0 place.peer.0 local ≡ true)
mended_or_stuck place edge wished (Idle true) wishes is waits = inr refl
mended_or_stuck place edge wished (Idle false) wishes is waits = inr (by (edge.wire_on place.wire.0) (is_up_with (edge.peering place.peer.0)) wishes is) where
  told : (o : Option Told) → is_some o ≡ true → not (is_some o) || not (is_some (label_to_give edge)) ≡ true → not (is_some (label_to_give edge)) ≡ true
  told None some is = clash some
  told (Some content) some is = is

  by : (on up : Bool) → (on ≡ true → up ≡ true → is_some wished ≡ true) → not (is_some wished) || not (is_some (label_to_give edge)) ≡ true
      → not (on && up) || not (is_some (label_to_give edge)) ≡ true
  by true true wishes is = told wished (wishes refl refl) is
  by true false wishes is = refl
  by false up wishes is = refl
mended_or_stuck place edge wished (Advertised label told) wishes is waits = inl refl
mended_or_stuck place edge wished (Withdrawing label) wishes is waits = clash (sym waits)
