-- A bound of the deliveries that are still to be made: what is on its way is worth so much, and so are the sessions that are still to come up,
-- and those of which one end alone stands.
use Rattle.std.specs.Prelude.{◌≡◌, ◌==◌, ◌+◌, ◌||◌, ℕ, suc, Bool, false, List, [], ◌∷◌, Option, Some, None, length, if◌then◌else◌}
use Rattle.net_base.specs.declared.plan.Plan.{Plan}
use Rattle.net_base.specs.declared.plan.places.EdgeId.{EdgeId}
use Rattle.net_base.specs.plan.Places.{wire_row}
use Rattle.ldp_grammar.specs.declared.message.Message.{Message}
use Rattle.session_core.specs.Phase.{Phase, Initialized, OpenSent, OpenRec, Operational}
use Rattle.edge_model.specs.Across.{mate_of}
use Rattle.edge_model.specs.declared.end_place.EndPlace.{EndPlace}
use Rattle.edge_model.specs.State.{EdgeState, Peering}
use Rattle.network_model.specs.State.{NetworkState, stands}
use Rattle.quiet_laws.specs.Measure.{AreOnWays, sum_below}
use Rattle.rest_laws.specs.Levels.{Saying, Binds, Withdraws, States}
use Rattle.settle_bounds.specs.Worth.{gate, mend_cost, message_worth, starts_spoke, worth_at}

-- ---- sessions that come up, and that end

-- where a session comes up, the ends beside the peer are mapped, and the edge may choose other spokes
abbrev pub may_rise : Plan → EdgeId → ℕ → EndPlace → Saying → Bool
may_rise plan me peer place Binds = place.peer.0 == peer
may_rise plan me peer place Withdraws = false
may_rise plan me peer place saying = starts_spoke me (wire_row plan place.wire)

abbrev pub is_peer : ℕ → Option EdgeId → Bool
is_peer peer None = false
is_peer peer (Some other) = other.0 == peer

-- where it ends, what came of the peer goes on no more, at the ends on the other side of a switching point
abbrev pub may_fall : Plan → EdgeId → ℕ → EndPlace → Saying → Bool
may_fall plan me peer place Binds = is_peer peer (mate_of me place (wire_row plan place.wire))
may_fall plan me peer place Withdraws = is_peer peer (mate_of me place (wire_row plan place.wire))
may_fall plan me peer place States = is_peer peer (mate_of me place (wire_row plan place.wire)) || starts_spoke me (wire_row plan place.wire)
may_fall plan me peer place saying = starts_spoke me (wire_row plan place.wire)

-- what an edge puts costs what it is worth, where it may be put
abbrev pub allowed : Plan → (ℕ → EdgeState) → EdgeId → (EndPlace → Saying → Bool) → EndPlace → Saying → ℕ
allowed plan edges me may place saying = gate (may place saying) (worth_at plan edges me.0 place saying)

abbrev pub rise_cost : Plan → (ℕ → EdgeState) → EdgeId → ℕ → ℕ
rise_cost plan edges me peer = mend_cost plan me (allowed plan edges me (may_rise plan me peer))

abbrev pub fall_cost : Plan → (ℕ → EdgeState) → EdgeId → ℕ → ℕ
fall_cost plan edges me peer = suc (mend_cost plan me (allowed plan edges me (may_fall plan me peer)))

-- ---- of a network

-- each state that a session leaves is answered twice at most (RFC 5036 section 2.5.4), and then it comes up
abbrev pub phase_worth : Phase → ℕ → ℕ
phase_worth Initialized rise = 6 + rise
phase_worth OpenSent rise = 4 + rise
phase_worth OpenRec rise = 2 + rise
phase_worth Operational rise = 0

-- a session ends where the other end of its connection is gone
abbrev pub lone_worth : Bool → ℕ → ℕ
lone_worth far fall = if far then 0 else fall

abbrev pub end_worth : Bool → (rise fall : ℕ) → Option Peering → ℕ
end_worth far rise fall None = 0
end_worth far rise fall (Some kept) = phase_worth kept.session.phase rise + lone_worth far fall

abbrev pub messages_worth : Plan → (ℕ → EdgeState) → (from to : ℕ) → List Message → ℕ
messages_worth plan edges from to [] = 0
messages_worth plan edges from to (message ∷ messages) = message_worth plan edges from to message + messages_worth plan edges from to messages

abbrev pub flight_worth : Plan → NetworkState → (ℕ → ℕ → List Message) → ℕ → ℕ → ℕ
flight_worth plan network messages a b = if stands network b a then messages_worth plan network.edges a b (messages a b) else 0

abbrev pub pair_worth : Plan → NetworkState → (ℕ → ℕ → List Message) → ℕ → ℕ → ℕ
pair_worth plan network messages a b =
    end_worth (stands network b a) (rise_cost plan network.edges (record { 0 = a }) b) (fall_cost plan network.edges (record { 0 = a }) b) ((network.edges a).peering b)
    + flight_worth plan network messages a b

-- so many deliveries at most
abbrev pub bound : Plan → NetworkState → (ℕ → ℕ → List Message) → ℕ
bound plan network messages = sum_below (λ a. sum_below (λ b. pair_worth plan network messages a b) (length plan.edges)) (length plan.edges)

-- the bound of a network, by the messages that are on their way in it
pub record IsBound (plan : Plan) (network : NetworkState) (most : ℕ) : Type 0 where
  pub messages : ℕ → ℕ → List Message
  pub on_way : AreOnWays plan network messages
  pub is : most ≡ bound plan network messages

pub record HasBound (plan : Plan) (network : NetworkState) : Type 0 where
  pub most : ℕ
  pub is : IsBound plan network most
