-- The end at a segment of a wire.
use Rattle.std.specs.Prelude.{◌==◌, ◌&&◌, ℕ, Bool}
use Rattle.net_base.specs.declared.plan.places.SegKey.{SegKey}
use Rattle.edge_model.specs.declared.end_place.EndPlace.{EndPlace}

-- the end is at this segment
abbrev pub is_of_segment : SegKey → EndPlace → Bool
is_of_segment key place = place.wire.0 == key.wire.0 && place.segment == key.segment

-- the end is beside a peer
abbrev pub is_end_beside : ℕ → EndPlace → Bool
is_end_beside peer place = place.peer.0 == peer
