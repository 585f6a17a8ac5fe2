-- The pseudowire ends of an edge as contracts see them: lists by slots, and by `seen_ends` a map from wires and neighbours.
use Rattle.std.specs.Prelude.{◌≡◌, ◌==◌, ◌≤◌, ◌<◌, ℕ, Bool, true, false, length, List, [], ◌∷◌, Option, Some, None, slice_index_or, if◌then◌else◌}
use Rattle.net_base.specs.declared.plan.places.EdgeId.{EdgeId}
use Rattle.net_base.specs.declared.plan.places.WireId.{WireId}
use Rattle.label_space.specs.Labels.{LabelNumbers}
use Rattle.pw_tlvs.specs.Written.{has_vlan}
use Rattle.pw_signalling.specs.declared.binding.Binding.{Binding}
use Rattle.pw_signalling.specs.declared.told.Told.{Told}
use Rattle.pw_signalling.specs.End.{EndState, LocalPart, Idle, Advertised, Withdrawing, fresh}
use Rattle.pw_signalling.specs.Laws.{own_label}
use Rattle.pw_signalling.specs.Rows.{renewed}
use Rattle.edge_model.specs.declared.end_place.EndPlace.{EndPlace}
use Rattle.edge_model.specs.EndPlaces.{is_at}
use Rattle.edge_model.specs.State.{put_at}

-- the ends by their slots: where each one is, and its state; and the labels, whose next one the edge gives next
pub record EndLists : Type 0 where
  pub places : List EndPlace
  pub ends : List EndState
  pub labels : LabelNumbers

-- the state of the first end of a wire beside a neighbour; of an end that is not there nothing was told
abbrev pub look : List EndPlace → List EndState → ℕ → ℕ → EndState
look [] ends wire peer = fresh
look (place ∷ places) [] wire peer = fresh
look (place ∷ places) (end ∷ ends) wire peer = if is_at wire peer place then end else look places ends wire peer

-- the states of all ends, by their wires and neighbours
unfoldable pub seen_ends : EndLists → ℕ → ℕ → EndState
seen_ends lists = look lists.places lists.ends

-- the place of a slot
abbrev pub no_place : EndPlace
no_place = record { wire = record { 0 = 0 }; peer = record { 0 = 0 }; pw_id = 0; segment = 0; side = 0; terminal = false }

abbrev pub place_of : EndLists → ℕ → EndPlace
place_of lists slot = slice_index_or lists.places slot no_place

-- the end at a place
abbrev pub end_there : EndLists → EndPlace → EndState
end_there lists place = seen_ends lists place.wire.0 place.peer.0

-- the end of a slot
abbrev pub end_in : EndLists → ℕ → EndState
end_in lists slot = seen_ends lists (place_of lists slot).wire.0 (place_of lists slot).peer.0

-- ---- changes of the map, as an edge's state has them

-- one end is changed
abbrev pub changed_at : EndPlace → (EndState → EndState) → (ℕ → ℕ → EndState) → ℕ → ℕ → EndState
changed_at place change ends = put_at ends place.wire.0 (put_at (ends place.wire.0) place.peer.0 (change (ends place.wire.0 place.peer.0)))

-- each end beside a peer is changed
abbrev pub changed_beside : EdgeId → (EndState → EndState) → (ℕ → ℕ → EndState) → ℕ → ℕ → EndState
changed_beside peer change ends wire k = if k == peer.0 then change (ends wire k) else ends wire k

-- the ends of a wire are declined no longer
abbrev pub renewed_of : WireId → (ℕ → ℕ → EndState) → ℕ → ℕ → EndState
renewed_of wire ends k peer = if k == wire.0 then renewed (ends k peer) else ends k peer

-- ---- what an end may tell: a PW type has 15 bits (RFC 8077 section 6.1)

-- what an end has told has a PW type in range
abbrev pub HasKind : LocalPart → Type 0
HasKind (Idle declined) = Unit {0}
HasKind (Advertised label told) = told.kind ≤ 0x7FFF
HasKind (Withdrawing label) = Unit {0}

-- what an end may hold of its peer, so that it can be told on: a PW type of 15 bits, a VLAN ID of 12 (IEEE 802.1Q clause 9.6), and at a
-- switching point fewer than three points, which leaves room for its own (RFC 6073 section 7)
pub record CanHold (place : EndPlace) (told : Told) : Type 0 where
  pub kind : told.kind ≤ 0x7FFF
  pub vlan : has_vlan told.vlan ≡ true
  pub room : place.terminal ≡ false → length told.points < 3

-- what an end holds, where it holds a binding, it can hold
abbrev pub Holds : EndPlace → Option Binding → Type 0
Holds place None = Unit {0}
Holds place (Some binding) = CanHold place binding.told

-- an end that has told nothing
abbrev pub IsIdle : LocalPart → Type 0
IsIdle (Idle declined) = Unit {0}
IsIdle (Advertised label told) = ⊥
IsIdle (Withdrawing label) = ⊥

-- an end has this label
abbrev pub is_label : ℕ → Option ℕ → Bool
is_label label None = false
is_label label (Some own) = own == label

-- the end owns the label: from its advertisement until it is idle
abbrev pub owns_label : ℕ → EndState → Bool
owns_label label end = is_label label (own_label end.local)
