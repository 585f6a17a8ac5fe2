-- What is held of a peer while an edge hears it.
use Rattle.std.specs.Prelude.{◌≡◌, ℕ, List, [], Option, Some, None}
use Rattle.net_base.specs.declared.plan.places.EdgeId.{EdgeId}
use Rattle.edge_model.specs.State.{EdgeState, Peering, with_peering}

-- the octets that are held of a peer are taken out, where the edge's end of the connection stands
abbrev pub AreTakenOut : EdgeId → Option Peering → EdgeState → EdgeState → Option (List ℕ) → Type 0
AreTakenOut peer None old new held = (held ≡ None) × (new ≡ old)
AreTakenOut peer (Some kept) old new held = (held ≡ Some kept.held) × (new ≡ with_peering peer (Some (record kept { held = [] })) old)
