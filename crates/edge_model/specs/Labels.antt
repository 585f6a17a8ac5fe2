-- The labels of an edge: which one is given next, and what becomes of a number that an end owns no longer (RFC 3032 section 2.1, RFC 5036
-- section 3.5.7). An end owns its label from the advertisement until it is idle; then the number waits for the neighbour of the segment.
-- A new connection with it begins the rest of the number, and after 64 ticks it is free.
use Rattle.std.specs.Prelude.{◌==◌, ℕ, List, [], ◌∷◌, Option, Some, None, if◌then◌else◌}
use Rattle.net_base.specs.declared.plan.places.EdgeId.{EdgeId}
use Rattle.label_space.specs.declared.kept.Kept.{Kept}
use Rattle.label_space.specs.declared.kept.KeptState.{KeptState}
use Rattle.label_space.specs.declared.owner.Owner.{Owner}
use Rattle.label_space.specs.Kept.{kept_at, keeps, met, put_by, ticked, without}
use Rattle.label_space.specs.Labels.{next_after, number_to_give, owned_label}
use Rattle.pw_signalling.specs.End.{EndState}
use Rattle.pw_signalling.specs.Laws.{own_label}
use Rattle.pw_signalling.specs.Rows.{released}
use Rattle.edge_model.specs.declared.end_place.EndPlace.{EndPlace}
use Rattle.edge_model.specs.State.{EdgeState, end_at, with_end, with_kept, with_next_label}

-- ---- a label is given

-- the label that an edge gives next, where there is one
abbrev pub label_to_give : EdgeState → Option ℕ
label_to_give edge = number_to_give edge.next_label edge.kept

-- a label is given: the one after it is next, and it is kept no longer
abbrev pub giving : ℕ → EdgeState → EdgeState
giving label edge = with_next_label (next_after edge.next_label) (with_kept (without label edge.kept) edge)

-- ---- a label is owned no longer

-- a number that is kept already stays as it is; another one waits for a peer, where there is room
abbrev pub unless_kept : Option KeptState → ℕ → EdgeId → List Kept → List Kept
unless_kept None label peer kept = keeps label peer kept
unless_kept (Some state) label peer kept = kept

-- a number is kept for a peer, where there is a number
abbrev pub keeps_one : Option ℕ → EdgeId → List Kept → List Kept
keeps_one None peer kept = kept
keeps_one (Some label) peer kept = unless_kept (kept_at label kept) label peer kept

-- the number that an end has left, which owns none now
abbrev pub left_label : Option ℕ → Option ℕ → Option ℕ
left_label None now = None
left_label (Some label) None = Some label
left_label (Some label) (Some other) = None

-- a Label Release of the label of an end, or of any: where the end is idle from then on, its number waits
abbrev pub releasing : Option ℕ → EndPlace → EdgeState → EdgeState
releasing label place edge =
    with_kept (keeps_one (left_label (own_label (end_at edge place).local) (own_label (released label (end_at edge place)).local)) place.peer edge.kept)
    (with_end place (released label (end_at edge place)) edge)

-- each end beside a peer is lost: their numbers wait, in the order of the edge's ends
abbrev pub keeps_lost : EdgeId → (ℕ → ℕ → EndState) → List EndPlace → List Kept → List Kept
keeps_lost peer ends [] kept = kept
keeps_lost peer ends (place ∷ places) kept =
    keeps_lost peer ends places (if place.peer.0 == peer.0 then keeps_one (own_label (ends place.wire.0 place.peer.0).local) place.peer kept else kept)

-- a restart: all numbers that ends own wait, the least first
abbrev pub owner_at : EndPlace → ℕ → Owner
owner_at place label = record { label = label; key = record { wire = place.wire; segment = place.segment }; side = place.side; peer = place.peer }

-- the end at a place is an owner, where it has a label
abbrev pub with_owner_at : EndPlace → Option ℕ → List Owner → List Owner
with_owner_at place None owners = owners
with_owner_at place (Some label) owners = put_by owned_label (owner_at place label) owners

-- the ends that own a label, in rising order of their labels
abbrev pub owners_of : (ℕ → ℕ → EndState) → List EndPlace → List Owner
owners_of ends [] = []
owners_of ends (place ∷ places) = with_owner_at place (own_label (ends place.wire.0 place.peer.0).local) (owners_of ends places)

-- the numbers of all owners, one after another
abbrev pub keeps_owned : List Owner → List Kept → List Kept
keeps_owned [] kept = kept
keeps_owned (o ∷ os) kept = keeps_owned os (keeps_one (Some o.label) o.peer kept)

-- all ends lose their labels
abbrev pub keeping_all : EdgeState → EdgeState
keeping_all edge = with_kept (keeps_owned (owners_of edge.ends edge.places) edge.kept) edge

-- ---- connections and ticks

-- a connection with a peer begins: what waits for it begins to rest
abbrev pub meeting : EdgeId → EdgeState → EdgeState
meeting peer edge = with_kept (met peer edge.kept) edge

-- a tick passes: each rest is longer
abbrev pub resting : EdgeState → EdgeState
resting edge = with_kept (ticked edge.kept) edge
