-- The order in which the ends of an edge stand.
use Rattle.std.specs.Prelude.{◌≡◌, ◌≤◌, nat_lt, Bool, List, AllPairs}
use Rattle.net_base.specs.declared.plan.places.WireId.{WireId}
use Rattle.edge_model.specs.declared.end_place.EndPlace.{EndPlace}

-- the end is one of an earlier wire
abbrev pub end_precedes_wire : WireId → EndPlace → Bool
end_precedes_wire wire place = nat_lt place.wire.0 wire.0

-- the end is one of a later wire
abbrev pub end_follows_wire : WireId → EndPlace → Bool
end_follows_wire wire place = nat_lt wire.0 place.wire.0

-- the first end is not one of a later wire, and ends of one wire are terminal alike
pub record PrecedesEnd (first second : EndPlace) : Type 0 where
  pub wires : first.wire.0 ≤ second.wire.0
  pub alike : first.wire.0 ≡ second.wire.0 → first.terminal ≡ second.terminal

-- so it is of each two of them
abbrev pub AreEndsInOrder : List EndPlace → Type 0
AreEndsInOrder places = AllPairs PrecedesEnd places
