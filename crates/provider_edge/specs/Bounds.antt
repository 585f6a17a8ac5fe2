-- What an edge holds at most, whatever octets its neighbours send and whatever its links answer: its plan bounds its memory.
use Rattle.std.specs.Prelude.{◌≡◌, ◌≤◌, ℕ, [], Option, None, length}
use Rattle.std.specs.List.{find}
use Rattle.net_base.specs.declared.plan.Plan.{Plan}
use Rattle.pw_signalling.specs.End.{fresh}
use Rattle.vsi_bridge.specs.BridgeState.{most_addresses}
use Rattle.edge_model.specs.EndPlaces.{end_places, is_at}
use Rattle.edge_model.specs.State.{EdgeState, Peering}
use Rattle.peer_dialogue.specs.Peering.{held_octets}

-- the octets of the longest PDU: its PDU Length counts at most 4,096, and 4 stand before those that it counts (RFC 5036 section 3.1)
abbrev pub most_pdu_octets : ℕ
most_pdu_octets = 4100

-- of a connection no more octets are held than those of the longest PDU
abbrev pub HoldsFew : Option Peering → Type 0
HoldsFew kept = length (held_octets kept) ≤ most_pdu_octets

-- the plan bounds what an edge holds
pub record IsBounded (plan : Plan) (edge : EdgeState) : Type 0 where
  -- a connection is kept with edges of the plan alone, at most one with each of them
  pub connections : (peer : ℕ) → length plan.edges ≤ peer → edge.peering peer ≡ None
  pub octets : (peer : ℕ) → HoldsFew (edge.peering peer)
  -- of pseudowires what was told is kept at the edge's ends by the plan alone: at most one binding at each of them
  pub ends : (wire peer : ℕ) → find (is_at wire peer) (end_places plan edge.me) ≡ None → edge.ends wire peer ≡ fresh
  -- addresses are held of services of the plan alone
  pub services : (service : ℕ) → length plan.services ≤ service → edge.learned service ≡ []
  pub addresses : (service : ℕ) → length (edge.learned service) ≤ most_addresses
