-- What holds after every script.
use Rattle.std.specs.Prelude.{◌≡◌, ◌<◌, ◌^◌, ◌&&◌, ◌||◌, ◌++◌, not, ℕ, true, false, List, [], length, take, slice_get, Some, None}
use Rattle.std.specs.List.{All, AllByRecursion}
use Rattle.net_base.specs.declared.outside.link_call.LinkCall.{LinkCall}
use Rattle.net_base.specs.declared.plan.Plan.{Plan}
use Rattle.net_base.specs.declared.plan.edge_plan.EdgePlan.{EdgePlan}
use Rattle.net_base.specs.declared.plan.places.EdgeId.{EdgeId}
use Rattle.net_base.specs.declared.plan.wire_plan.WirePlan.{WirePlan}
use Rattle.net_base.specs.plan.Accepted.{IsChecked}
use Rattle.net_values.specs.Octets.{AreOctets}
use Rattle.ldp_grammar.specs.declared.message.Message.{Message}
use Rattle.pw_messages.specs.LinkAnswers.{Answers}
use Rattle.status_exchange.specs.Laws.{is_known_active}
use Rattle.pw_status.specs.Status.{is_standby}
use Rattle.status_exchange.specs.Wish.{asks_switchover, is_wished_active, is_ask, status_of}
use Rattle.independent_model.specs.Calls.{independent_hears, uses}
use Rattle.independent_model.specs.State.{IndepState}
use Rattle.independent_model.specs.Work.{and_works}
use Rattle.independent_model.specs.Wires.{is_between}
use Rattle.switchover_model.specs.declared.switch_line.SwitchLine.{SwitchLine}
use Rattle.switchover_model.specs.After.{TellsWire, known_after_all, octets_of_messages, some_tells}
use Rattle.switchover_model.specs.Network.{IsGoing, SwitchState, done_all, first_network, switch_flight, octets_held_by, edge_numbered, is_waiting, switches_stand, takes_all}

-- the numbers of a plan are those that their types hold
pub record IsRouter (row : EdgePlan) : Type 0 where
  pub four : length row.address.0 ≡ 4
  pub octets : AreOctets row.address.0

-- the groups of both offers
pub record HasGroups (row : WirePlan) : Type 0 where
  pub near : row.near.group < 2 ^ 32
  pub far : row.far.group < 2 ^ 32

-- so it is of all edges and wires
pub record HasSwitchTypes (plan : Plan) : Type 0 where
  pub routers : All IsRouter plan.edges
  pub groups : All HasGroups plan.wires

-- the octets that an edge has yet to hear out of another one are those of status Notifications of the wires between the two, and once they
-- are heard it knows what the other one calls the wire
pub record KnowsAfter (plan : Plan) (x : SwitchState) (me peer wire : ℕ) (row : WirePlan) : Type 0 where
  pub messages : List Message
  pub octets : switch_flight x peer me ≡ octets_of_messages plan peer messages
  pub told : AllByRecursion (TellsWire plan peer me) messages
  pub knows : known_after_all row.pw_id messages ((x.edges me).remote wire) ≡ Some (status_of ((x.edges peer).local wire))

-- Of the octets that have come by the connection the whole messages were heard, each a status Notification of a wire between the two, and
-- the last of them that tells the status of the wire is what the edge knows of it; none does where it knows nothing.
pub record KnowsLast (plan : Plan) (x : SwitchState) (me peer wire : ℕ) (row : WirePlan) : Type 0 where
  pub messages : List Message
  pub octets : x.came peer me ≡ octets_of_messages plan peer messages ++ octets_held_by ((x.edges me).connection peer)
  pub told : AllByRecursion (TellsWire plan peer me) messages
  pub knows : (x.edges me).remote wire ≡ known_after_all row.pw_id messages None

-- Of the status Notifications that have yet to be heard, one to the other edge tells a status of the wire with 0x40, or one back a status
-- without 0x20 (RFC 6870 section 5).
pub record HasAsked (plan : Plan) (x : SwitchState) (me peer wire : ℕ) (row : WirePlan) : Type 0 where
  pub out : List Message
  pub out_octets : switch_flight x me peer ≡ octets_of_messages plan me out
  pub out_told : AllByRecursion (TellsWire plan me peer) out
  pub back : List Message
  pub back_octets : switch_flight x peer me ≡ octets_of_messages plan peer back
  pub back_told : AllByRecursion (TellsWire plan peer me) back
  pub asked : some_tells row.pw_id asks_switchover out || some_tells row.pw_id (λ status. not (is_standby status)) back ≡ true

-- both use the wire where both call it active, and none asks
pub record IsAgreed (plan : Plan) (x : SwitchState) (a b wire : ℕ) : Type 0 where
  pub one : uses plan a (x.edges a) wire ≡ (is_wished_active ((x.edges a).local wire) && is_wished_active ((x.edges b).local wire))
  pub other : uses plan b (x.edges b) wire ≡ (is_wished_active ((x.edges a).local wire) && is_wished_active ((x.edges b).local wire))
  pub asks_not : is_ask ((x.edges a).local wire) ≡ false
  pub other_asks_not : is_ask ((x.edges b).local wire) ≡ false

-- two edges with a wire
pub record AgreesOn (plan : Plan) (x : SwitchState) (a b wire : ℕ) (row : WirePlan) : Type 0 where
  pub both : switches_stand x a b ≡ switches_stand x b a
  pub after : switches_stand x a b ≡ true → KnowsAfter plan x a b wire row
  -- an end whose own status is a request is not forgotten by the other one: it hears of it yet, or has answered
  pub asked : switches_stand x a b ≡ true → is_ask ((x.edges a).local wire) ≡ true → HasAsked plan x a b wire row
  pub quiet : switches_stand x a b ≡ true → switch_flight x a b ≡ [] → switch_flight x b a ≡ [] → IsAgreed plan x a b wire
  -- what is known is the last that was heard on this connection, and a wire is used only where that, and the edge itself, calls it active
  pub last : KnowsLast plan x a b wire row
  pub used : uses plan a (x.edges a) wire ≡ true → (is_wished_active ((x.edges a).local wire) ≡ true) × (is_known_active ((x.edges a).remote wire) ≡ true)
  pub gone : switches_stand x a b ≡ false → (switch_flight x a b ≡ []) × ((x.edges a).remote wire ≡ None)

-- after the lines of any script the two ends of a wire agree
abbrev pub ScriptsAgree : Type 0
ScriptsAgree = (plan : Plan) → IsChecked plan → HasSwitchTypes plan → (lines : List SwitchLine) → (a b wire : ℕ) (row : WirePlan) → slice_get plan.wires wire ≡ Some row → is_between plan wire a b ≡ true
    → AgreesOn plan (done_all plan lines first_network) a b wire row

-- A joined piece is heard like its two parts in turn, over every answer of a link; where something stops the first part, the second is not
-- heard.
abbrev pub SwitchHeardInParts : Type 0
SwitchHeardInParts = (plan : Plan) (told : Answers) (me : ℕ) (peer : EdgeId) (first more : List ℕ) (edge : IndepState) (calls : List LinkCall) → AreOctets (octets_held_by (edge.connection peer.0) ++ (first ++ more))
    → independent_hears plan told me peer (first ++ more) edge calls ≡ and_works (independent_hears plan told me peer first edge calls) (λ e c. independent_hears plan told me peer more e c)

-- No octets of the network are refused: whatever is on its way after any lines, an edge to which some of it comes goes on.
abbrev pub DeliveriesGoOn : Type 0
DeliveriesGoOn = (plan : Plan) → IsChecked plan → HasSwitchTypes plan → (lines : List SwitchLine) (from to count : ℕ) → is_waiting ((done_all plan lines first_network).pipes from to) ≡ true
    → IsGoing (independent_hears plan takes_all to (edge_numbered from) (take count ((done_all plan lines first_network).pipes from to)) ((done_all plan lines first_network).edges to) [])
