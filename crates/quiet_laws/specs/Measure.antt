-- A measure of a network, in which each delivery takes away: the states that sessions have still to leave, the messages that are on their
-- way, each with all that may come of it, and the octets of pipes.
use Rattle.std.specs.Prelude.{◌≡◌, ◌+◌, ◌*◌, nat_eq, ℕ, zero, suc, false, List, Option, Some, None, length, if◌then◌else◌}
use Rattle.net_base.specs.declared.plan.Plan.{Plan}
use Rattle.ldp_grammar.specs.declared.message.Message.{Message}
use Rattle.session_core.specs.Phase.{Phase, Initialized, OpenSent, OpenRec, Operational}
use Rattle.edge_model.specs.State.{Peering}
use Rattle.network_model.specs.State.{NetworkState, stands}
use Rattle.flight_laws.specs.Laws.{AreOnWay}
use Rattle.rest_laws.specs.Delivered.{weight}
use Rattle.rest_laws.specs.Levels.{levels_end}
use Rattle.rest_laws.specs.Rises.{most_put}
use Rattle.rest_laws.specs.Weight.{heavy}

-- the sum over the places below one
abbrev pub sum_below : (ℕ → ℕ) → ℕ → ℕ
sum_below f zero = 0
sum_below f (suc n) = f n + sum_below f n

-- how far a session has to go: one that is up can only end
abbrev pub phase_rank : Phase → ℕ
phase_rank Initialized = 4
phase_rank OpenSent = 3
phase_rank OpenRec = 2
phase_rank Operational = 1

abbrev pub end_rank : Option Peering → ℕ
end_rank None = 0
end_rank (Some kept) = phase_rank kept.session.phase

-- a PDU of a message has at most so many octets
abbrev pub octets_most : ℕ
octets_most = 260

-- an edge puts at most so many messages on one that it hears
abbrev pub puts_most : Plan → ℕ
puts_most plan = sum_below (λ k. most_put plan (record { 0 = k })) (length plan.edges)

-- so that one message weighs more than those, and their octets, together
abbrev pub few_of : Plan → ℕ
few_of plan = 261 * puts_most plan

-- a message, and its octets, are worth at most this
abbrev pub message_worth : Plan → ℕ
message_worth plan = heavy (few_of plan) levels_end + 260

-- a state that a session leaves is worth more than two replies and what the edge puts when it mends twice
abbrev pub state_worth : Plan → ℕ
state_worth plan = suc ((2 + puts_most plan) * message_worth plan + puts_most plan * message_worth plan)

-- what is on its way between two edges, where the end of the second one stands: the messages that it has yet to hear out, and the octets
-- that are not delivered yet
abbrev pub flight_worth : Plan → NetworkState → (ℕ → ℕ → List Message) → ℕ → ℕ → ℕ
flight_worth plan network messages a b =
    if stands network b a then weight plan network.edges a b (few_of plan) (messages a b) + length (network.pipes a b) else 0

-- with the state of the end of the first one
abbrev pub pair_worth : Plan → NetworkState → (ℕ → ℕ → List Message) → ℕ → ℕ → ℕ
pair_worth plan network messages a b = end_rank ((network.edges a).peering b) * state_worth plan + flight_worth plan network messages a b

-- of all pairs of edges
abbrev pub measure : Plan → NetworkState → (ℕ → ℕ → List Message) → ℕ
measure plan network messages = sum_below (λ a. sum_below (λ b. pair_worth plan network messages a b) (length plan.edges)) (length plan.edges)

-- the messages on their way between each two edges
abbrev pub AreOnWays : Plan → NetworkState → (ℕ → ℕ → List Message) → Type 0
AreOnWays plan network messages = (a b : ℕ) → nat_eq a b ≡ false → AreOnWay plan network a b (messages a b)
