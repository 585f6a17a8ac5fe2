-- What becomes of ends: one of them, or each that stands at such a place.
use Rattle.std.specs.Prelude.{◌==◌, ℕ, Bool, true, List, [], ◌∷◌, slice_index_or, slice_set, if◌then◌else◌}
use Rattle.net_base.specs.declared.plan.places.EdgeId.{EdgeId}
use Rattle.label_space.specs.declared.kept.Kept.{Kept}
use Rattle.pw_signalling.specs.End.{EndState, fresh}
use Rattle.pw_signalling.specs.Laws.{own_label}
use Rattle.pw_signalling.specs.Rows.{group_stated, group_unbound, lost, released, renewed, stated, telling, unbound, withdrawn}
use Rattle.edge_model.specs.declared.end_place.EndPlace.{EndPlace}
use Rattle.edge_model.specs.EndPlaces.{is_of_wire}
use Rattle.edge_model.specs.Labels.{keeps_one, left_label}
use Rattle.pw_ends.specs.declared.end_change.EndChange.{EndChange}
use Rattle.pw_ends.specs.declared.end_change.EndChange.TheVariants as change
use Rattle.pw_ends.specs.declared.which_ends.WhichEnds.{WhichEnds}
use Rattle.pw_ends.specs.declared.which_ends.WhichEnds.TheVariants as which

-- what a change makes of an end
abbrev pub changed : EndChange → EndState → EndState
changed change.Withdrawn = withdrawn
changed (change.Telling status) = telling status
changed change.Renewed = renewed
changed (change.Unbound label) = unbound label
changed (change.Released label) = released label
changed (change.Stated status) = stated status
changed (change.GroupUnbound group) = group_unbound group
changed (change.GroupStated group status) = group_stated group status
changed change.Lost = lost

-- the places that are meant
abbrev pub is_meant : WhichEnds → EndPlace → Bool
is_meant (which.Beside peer) place = place.peer.0 == peer.0
is_meant (which.OfWire wire) place = is_of_wire wire place
is_meant which.All place = true

-- one end of a list is changed
abbrev pub changed_in : (EndState → EndState) → ℕ → List EndState → List EndState
changed_in change slot ends = slice_set ends slot (change (slice_index_or ends slot fresh))

-- each end that is meant is changed
abbrev pub changed_each : WhichEnds → (EndState → EndState) → List EndPlace → List EndState → List EndState
changed_each which change [] ends = ends
changed_each which change (place ∷ places) [] = []
changed_each which change (place ∷ places) (end ∷ ends) = (if is_meant which place then change end else end) ∷ changed_each which change places ends

-- ---- the numbers of the labels that ends have left (RFC 3032 section 2.1)

-- each end beside a peer is changed: the numbers of those that own no label from then on wait, in the order of the edge's ends
abbrev pub keeps_changed : EdgeId → (EndState → EndState) → (ℕ → ℕ → EndState) → List EndPlace → List Kept → List Kept
keeps_changed peer change ends [] kept = kept
keeps_changed peer change ends (place ∷ places) kept =
    keeps_changed peer change ends places
    (if place.peer.0 == peer.0 then keeps_one (left_label (own_label (ends place.wire.0 place.peer.0).local) (own_label (change (ends place.wire.0 place.peer.0)).local)) place.peer kept else kept)

-- the same of each end that is meant, by slots
abbrev pub keeps_meant : WhichEnds → (EndState → EndState) → List EndPlace → List EndState → List Kept → List Kept
keeps_meant which change [] ends kept = kept
keeps_meant which change (place ∷ places) [] kept = kept
keeps_meant which change (place ∷ places) (end ∷ ends) kept =
    keeps_meant which change places ends (if is_meant which place then keeps_one (left_label (own_label end.local) (own_label (change end).local)) place.peer kept else kept)
