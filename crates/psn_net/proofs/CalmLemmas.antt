-- What an edge holds of a peer.
use Rattle.std.proofs.Common.{◌≡◌, Option, Some, None, refl}
use Rattle.edge_model.specs.State.{Peering}
use Rattle.network_model.specs.State.{held_by}
use Rattle.peer_dialogue.specs.Peering.{held_octets}

-- what is held is one thing to the edge and to the network
pub held_is : (peering : Option Peering) → held_octets peering ≡ held_by peering
held_is None = refl
held_is (Some peering) = refl
