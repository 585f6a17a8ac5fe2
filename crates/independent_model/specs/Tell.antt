-- How an edge tells what it calls a wire (RFC 8077 section 6.3.2, RFC 6870 section 5).
use Rattle.std.specs.Prelude.{◌+◌, ◌++◌, ℕ, zero, suc, Bool, true, false, List, [], ◌∷◌, length, slice_get, Option, Some, None, if◌then◌else◌}
use Rattle.net_base.specs.declared.outside.link_call.LinkCall.{LinkCall}
use Rattle.net_base.specs.declared.plan.Plan.{Plan}
use Rattle.net_base.specs.declared.plan.edge_plan.EdgePlan.{EdgePlan}
use Rattle.net_base.specs.declared.plan.places.EdgeId.{EdgeId}
use Rattle.net_base.specs.declared.plan.wire_plan.WirePlan.{WirePlan}
use Rattle.net_base.specs.outside.Link.{call_of}
use Rattle.net_base.specs.plan.Paths.{offer_of}
use Rattle.ldp_grammar.specs.declared.message.Message.{Message}
use Rattle.ldp_grammar.specs.Written.{written}
use Rattle.pw_messages.specs.Content.{content_of, status_notification}
use Rattle.pw_messages.specs.LinkAnswers.{Answers}
use Rattle.pw_messages.specs.Sender.{platform_of}
use Rattle.status_exchange.specs.declared.wish.Wish.{Wish}
use Rattle.status_exchange.specs.Wish.{status_of}
use Rattle.independent_model.specs.declared.indep_stop.IndepStop.TheVariants as stop
use Rattle.independent_model.specs.State.{ConnectionState, IndepState, spoken_once, with_connection}
use Rattle.independent_model.specs.Wires.{is_between}
use Rattle.independent_model.specs.Work.{Goes, IndepOutcome, Stops, and_works}

-- ---- the message

-- the Notification that tells what an edge calls a wire, by the wire's offer at this end
abbrev pub notification : WirePlan → ℕ → Wish → ℕ → Message
notification row me wish id = status_notification row.pw_id (status_of wish) (content_of (offer_of row me) None) id

-- its octets, in a PDU of its own
abbrev pub octets_by : Option EdgePlan → Message → List ℕ
octets_by None message = []
octets_by (Some edge) message = written message (platform_of edge.address)

-- the octets of what the edge calls a wire, by its own row
abbrev pub octets_on : Plan → ℕ → WirePlan → Wish → ℕ → List ℕ
octets_on plan me row wish id = octets_by (slice_get plan.edges me) (notification row me wish id)

-- ---- it is told

-- the octets are put: the next message has the next number where the link takes them, and else nothing more is put
abbrev pub independent_puts : EdgeId → ConnectionState → List ℕ → Bool → IndepState → List LinkCall → IndepOutcome
independent_puts peer kept octets true edge calls = Goes (with_connection peer.0 (Some (spoken_once kept)) edge) (calls ++ call_of peer false octets true ∷ [])
independent_puts peer kept octets false edge calls = Stops stop.Link edge (calls ++ call_of peer false octets false ∷ [])

-- nothing is put where no connection stands
abbrev pub independent_tells_by : Plan → Answers → ℕ → EdgeId → ℕ → WirePlan → Option ConnectionState → IndepState → List LinkCall → IndepOutcome
independent_tells_by plan told me peer wire row None edge calls = Goes edge calls
independent_tells_by plan told me peer wire row (Some kept) edge calls = independent_puts peer kept (octets_on plan me row (edge.local wire) kept.next_id) (told (length calls)) edge calls

-- what the edge calls a wire is told to the peer, where it is connected
abbrev pub tells_row : Plan → Answers → ℕ → EdgeId → ℕ → WirePlan → IndepState → List LinkCall → IndepOutcome
tells_row plan told me peer wire row edge calls = independent_tells_by plan told me peer wire row (edge.connection peer.0) edge calls

-- by the row of the wire
abbrev pub tells_in : Plan → Answers → ℕ → EdgeId → ℕ → Option WirePlan → IndepState → List LinkCall → IndepOutcome
tells_in plan told me peer wire None edge calls = Goes edge calls
tells_in plan told me peer wire (Some row) edge calls = tells_row plan told me peer wire row edge calls

-- a wire of the plan
abbrev pub tells : Plan → Answers → ℕ → EdgeId → ℕ → IndepState → List LinkCall → IndepOutcome
tells plan told me peer wire edge calls = tells_in plan told me peer wire (slice_get plan.wires wire) edge calls

-- a wire is told where it joins the two edges
abbrev pub tells_place : Plan → Answers → ℕ → EdgeId → ℕ → IndepState → List LinkCall → IndepOutcome
tells_place plan told me peer wire edge calls = if is_between plan wire me peer.0 then tells plan told me peer wire edge calls else Goes edge calls

-- so many wires, from this one on
abbrev pub tells_from : Plan → Answers → ℕ → EdgeId → ℕ → ℕ → IndepState → List LinkCall → IndepOutcome
tells_from plan told me peer wire zero edge calls = Goes edge calls
tells_from plan told me peer wire (suc n) edge calls = and_works (tells_place plan told me peer wire edge calls) (λ e c. tells_from plan told me peer (wire + 1) n e c)
