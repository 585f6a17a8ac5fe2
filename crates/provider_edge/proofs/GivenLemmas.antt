-- Where no label is left to be given, none is after what lets no number be free: a label that an end leaves waits, and so do those of the
-- ends that are lost; and what waits for a peer begins to rest.
use Rattle.std.proofs.Common.{◌≡◌, ◌∙◌, ℕ, Bool, true, false, List, [], ◌∷◌, Option, Some, None, cond, length, nat_eq, nat_lt, not, is_some, option_map, refl, ap, sym}
use Rattle.std.specs.List.{find}
use Rattle.net_base.specs.declared.plan.places.EdgeId.{EdgeId}
use Rattle.label_space.specs.declared.kept.Kept.{Kept}
use Rattle.label_space.specs.declared.kept.KeptState.{KeptState}
use Rattle.label_space.specs.declared.kept.KeptState.TheVariants.{Waits, Rests, Free}
use Rattle.label_space.specs.Kept.{is_free, is_free_state, keeps, kept_at, label_of, least_free, met, met_state, most_kept, put_by, put_in, waiting}
use Rattle.label_space.specs.Labels.{number_to_give, numbers_end}
use Rattle.pw_signalling.specs.declared.binding.Binding.{Binding}
use Rattle.pw_signalling.specs.End.{EndState, LocalPart, Idle, Advertised, Withdrawing}
use Rattle.pw_signalling.specs.Laws.{own_label}
use Rattle.pw_signalling.specs.Rows.{bound, group_stated, group_unbound, is_in_group, stated, telling, unbound, withdrawn}
use Rattle.pw_tlvs.specs.declared.pw_status.PwStatus.{PwStatus}
use Rattle.edge_model.specs.declared.end_place.EndPlace.{EndPlace}
use Rattle.edge_model.specs.Labels.{keeps_lost, keeps_one, label_to_give, left_label, meeting, unless_kept}
use Rattle.edge_model.specs.Signal.{with_end_changed}
use Rattle.edge_model.specs.State.{EdgeState, end_at, with_end, with_kept}
use Rattle.edge_model.proofs.ReleaseLemmas.{left_none}
use Rattle.pw_ends.specs.Changes.{keeps_changed}
use Rattle.provider_edge.specs.Changes.{KeepsLabels, changing}

-- ---- no number is free that was not

put_free : (label : ℕ) (peer : EdgeId) (kept : List Kept) → find is_free (put_by label_of (waiting label peer) kept) ≡ find is_free kept
put_free label peer [] = refl
put_free label peer (k ∷ ks) = by (put_free label peer ks) (nat_lt k.label label) where
  by : find is_free (put_by label_of (waiting label peer) ks) ≡ find is_free ks → (b : Bool)
      → find is_free (cond b (k ∷ put_by label_of (waiting label peer) ks) (waiting label peer ∷ k ∷ ks)) ≡ find is_free (k ∷ ks)
  by rest true = ap (λ (found : Option Kept). cond (is_free k) (Some k) found) rest
  by rest false = refl

pub one_free : (own : Option ℕ) (peer : EdgeId) (kept : List Kept) → least_free (keeps_one own peer kept) ≡ least_free kept
one_free None peer kept = refl
one_free (Some label) peer kept = by (kept_at label kept) where
  room : (b : Bool) → least_free (cond b (put_in (waiting label peer) kept) kept) ≡ least_free kept
  room true = ap (option_map label_of) (put_free label peer kept)
  room false = refl

  by : (state : Option KeptState) → least_free (unless_kept state label peer kept) ≡ least_free kept
  by None = room (nat_lt (length kept) most_kept)
  by (Some state) = refl

pub lost_free : (peer : EdgeId) (ends : ℕ → ℕ → EndState) (places : List EndPlace) (kept : List Kept) → least_free (keeps_lost peer ends places kept) ≡ least_free kept
lost_free peer ends [] kept = refl
lost_free peer ends (place ∷ places) kept =
    lost_free peer ends places (cond (nat_eq place.peer.0 peer.0) (keeps_one (own_label (ends place.wire.0 place.peer.0).local) place.peer kept) kept) ∙ by (nat_eq place.peer.0 peer.0)
  where
    by : (b : Bool) → least_free (cond b (keeps_one (own_label (ends place.wire.0 place.peer.0).local) place.peer kept) kept) ≡ least_free kept
    by true = one_free (own_label (ends place.wire.0 place.peer.0).local) place.peer kept
    by false = refl

pub met_free : (peer : EdgeId) (kept : List Kept) → least_free (met peer kept) ≡ least_free kept
met_free peer [] = refl
met_free peer (k ∷ ks) = by k.state (met_free peer ks) where
  found : KeptState → Option Kept → Option ℕ
  found state rest = option_map label_of (cond (is_free_state state) (Some (record { label = k.label; state = state })) rest)

  waits : (b : Bool) (other : EdgeId) → least_free (met peer ks) ≡ least_free ks → found (cond b (Rests 0) (Waits other)) (find is_free (met peer ks)) ≡ least_free ks
  waits true other rest = rest
  waits false other rest = rest

  by : (state : KeptState) → least_free (met peer ks) ≡ least_free ks → found (met_state peer state) (find is_free (met peer ks)) ≡ found state (find is_free ks)
  by (Waits other) rest = waits (nat_eq other.0 peer.0) other rest
  by (Rests ticks) rest = rest
  by Free rest = refl

-- so no label is left that was not
pub none_left : (next : ℕ) (before after : List Kept) → least_free after ≡ least_free before → number_to_give next before ≡ None → number_to_give next after ≡ None
none_left next before after same none = ap (λ (least : Option ℕ). cond (nat_eq next numbers_end) least (Some next)) same ∙ none

pub meeting_leaves : (peer : EdgeId) (edge : EdgeState) → label_to_give edge ≡ None → label_to_give (meeting peer edge) ≡ None
unfolding with_kept
meeting_leaves peer edge = none_left edge.next_label edge.kept (met peer edge.kept) (met_free peer edge.kept)

-- one that is left, and one that is not
pub had_one : (before after : Option ℕ) (had : Bool) → had ≡ is_some before → had ≡ true → before ≡ None → after ≡ None
had_one None after had is so none = absurd (cc (sym so ∙ is))
had_one (Some label) after had is so none = absurd (cc (none))

pub has_none : (after : Option ℕ) (has : Bool) → has ≡ is_some after → has ≡ false → after ≡ None
has_none None has is so = refl
has_none (Some label) has is so = absurd (cc (sym so ∙ is))

-- whether one is left, in two words
pub none_is : (before after : Option ℕ) → (before ≡ None → after ≡ None) → not (is_some before) ≡ true → not (is_some after) ≡ true
none_is None after leaves is = ap (λ (o : Option ℕ). not (is_some o)) (leaves refl)
none_is (Some label) after leaves is = absurd (cc (is))

-- ---- changes by which no end leaves its label

pub keeps_withdrawn : KeepsLabels withdrawn
keeps_withdrawn end = by end.local where
  by : (local : LocalPart) → left_label (own_label local) (own_label (withdrawn (record { local = local; remote = end.remote })).local) ≡ None
  by (Idle declined) = refl
  by (Advertised label told) = refl
  by (Withdrawing label) = refl

pub keeps_telling : (status : PwStatus) → KeepsLabels (telling status)
keeps_telling status end = by end.local where
  by : (local : LocalPart) → left_label (own_label local) (own_label (telling status (record { local = local; remote = end.remote })).local) ≡ None
  by (Idle declined) = refl
  by (Advertised label told) = refl
  by (Withdrawing label) = refl

pub keeps_bound : (binding : Binding) → KeepsLabels (bound binding)
keeps_bound binding end = left_none (own_label end.local)

pub keeps_unbound : (label : Option ℕ) → KeepsLabels (unbound label)
keeps_unbound label end = left_none (own_label end.local)

pub keeps_stated : (status : PwStatus) → KeepsLabels (stated status)
keeps_stated status end = left_none (own_label end.local)

pub keeps_group_unbound : (group : ℕ) → KeepsLabels (group_unbound group)
keeps_group_unbound group end = by (is_in_group group end.remote) where
  by : (b : Bool) → left_label (own_label end.local) (own_label (cond b (unbound None end) end).local) ≡ None
  by true = left_none (own_label end.local)
  by false = left_none (own_label end.local)

pub keeps_group_stated : (group : ℕ) (status : PwStatus) → KeepsLabels (group_stated group status)
keeps_group_stated group status end = by (is_in_group group end.remote) where
  by : (b : Bool) → left_label (own_label end.local) (own_label (cond b (stated status end) end).local) ≡ None
  by true = left_none (own_label end.local)
  by false = left_none (own_label end.local)

-- the kept numbers stay then
pub changing_keeps : (change : EndState → EndState) (place : EndPlace) (edge : EdgeState) → KeepsLabels change → changing change place edge ≡ with_end_changed change (Some place) edge
unfolding with_end with_kept
changing_keeps change place edge keeps =
    ap (λ (left : Option ℕ). with_kept (keeps_one left place.peer edge.kept) (with_end place (change (end_at edge place)) edge)) (keeps (end_at edge place))

-- and so they do where each end beside a peer is changed
pub group_keeps : (peer : EdgeId) (change : EndState → EndState) (ends : ℕ → ℕ → EndState) (places : List EndPlace) (kept : List Kept) → KeepsLabels change
    → keeps_changed peer change ends places kept ≡ kept
group_keeps peer change ends [] kept keeps = refl
group_keeps peer change ends (place ∷ places) kept keeps = ap (keeps_changed peer change ends places) (by (nat_eq place.peer.0 peer.0)) ∙ group_keeps peer change ends places kept keeps where
  end : EndState
  end = ends place.wire.0 place.peer.0

  by : (b : Bool) → cond b (keeps_one (left_label (own_label end.local) (own_label (change end).local)) place.peer kept) kept ≡ kept
  by true = ap (λ (left : Option ℕ). keeps_one left place.peer kept) (keeps end)
  by false = refl
