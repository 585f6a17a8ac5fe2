-- The calls of an edge in independent mode (RFC 6870 section 4).
use Rattle.std.specs.Prelude.{◌&&◌, ℕ, Bool, false, List, length, Option, Some, None, is_some, if◌then◌else◌}
use Rattle.net_base.specs.declared.outside.link_call.LinkCall.{LinkCall}
use Rattle.net_base.specs.declared.plan.Plan.{Plan}
use Rattle.net_base.specs.declared.plan.places.EdgeId.{EdgeId}
use Rattle.pw_messages.specs.LinkAnswers.{Answers}
use Rattle.status_exchange.specs.declared.wish.Wish.{Wish}
use Rattle.status_exchange.specs.Laws.{is_known_active}
use Rattle.status_exchange.specs.Wish.{is_wished_active, is_same_wish}
use Rattle.independent_model.specs.Hear.{hears_by}
use Rattle.independent_model.specs.State.{ConnectionState, IndepState, fresh_connection, with_connection, with_local, without_remotes}
use Rattle.independent_model.specs.Tell.{tells, tells_from}
use Rattle.independent_model.specs.Wires.{is_between, other_end}
use Rattle.independent_model.specs.Work.{Goes, IndepOutcome}

-- the edge is connected with a peer
abbrev pub is_connected : IndepState → ℕ → Bool
is_connected edge peer = is_some (edge.connection peer)

-- a connection stands: each wire with the peer is told, in the order of the plan
abbrev pub independent_connects : Plan → Answers → ℕ → EdgeId → IndepState → List LinkCall → IndepOutcome
independent_connects plan told me peer edge calls = tells_from plan told me peer 0 (length plan.wires) (with_connection peer.0 (Some fresh_connection) edge) calls

-- nothing is heard where no connection stands
abbrev pub independent_hears_on : Plan → Answers → ℕ → EdgeId → List ℕ → Option ConnectionState → IndepState → List LinkCall → IndepOutcome
independent_hears_on plan told me peer octets None edge calls = Goes edge calls
independent_hears_on plan told me peer octets (Some kept) edge calls = hears_by plan told me peer octets kept.receiver edge calls

-- octets of a peer come
abbrev pub independent_hears : Plan → Answers → ℕ → EdgeId → List ℕ → IndepState → List LinkCall → IndepOutcome
independent_hears plan told me peer octets edge calls = independent_hears_on plan told me peer octets (edge.connection peer.0) edge calls

-- a connection is lost, and what is known by it
abbrev pub loses : Plan → ℕ → EdgeId → IndepState → IndepState
loses plan me peer edge = without_remotes (λ wire. is_between plan wire me peer.0) (with_connection peer.0 None edge)

-- the other end of the wire is told, where there is one
abbrev pub tells_other : Plan → Answers → ℕ → ℕ → Option EdgeId → IndepState → List LinkCall → IndepOutcome
tells_other plan told me wire None edge calls = Goes edge calls
tells_other plan told me wire (Some peer) edge calls = tells plan told me peer wire edge calls

-- the edge calls a wire something else, and tells it where it is connected
abbrev pub sets : Plan → Answers → ℕ → ℕ → Wish → IndepState → List LinkCall → IndepOutcome
sets plan told me wire wish edge calls =
    if is_same_wish (edge.local wire) wish then Goes edge calls else tells_other plan told me wire (other_end plan me wire) (with_local wire wish edge) calls

-- an edge uses a wire with its other end, where there is one
abbrev pub uses_with : IndepState → ℕ → Option EdgeId → Bool
uses_with edge wire None = false
uses_with edge wire (Some peer) = (is_connected edge peer.0 && is_wished_active (edge.local wire)) && is_known_active (edge.remote wire)

-- the edge uses the wire: it is connected, calls it active, and knows that the other end does
abbrev pub uses : Plan → ℕ → IndepState → ℕ → Bool
uses plan me edge wire = uses_with edge wire (other_end plan me wire)
