-- What a switching point tells on one side of a wire is what it holds on the other side, and it takes whatever comes to it.
use Rattle.std.specs.Prelude.{◌≡◌, nat_eq, ℕ, true, false, List, Some, None, option_and_then}
use Rattle.net_base.specs.declared.plan.Plan.{Plan}
use Rattle.net_base.specs.declared.plan.places.EdgeId.{EdgeId}
use Rattle.net_base.specs.declared.plan.places.WireId.{WireId}
use Rattle.net_base.specs.declared.plan.wire_plan.WirePlan.{WirePlan}
use Rattle.net_base.specs.declared.trace.event.Event.{Event}
use Rattle.net_base.specs.plan.Paths.{edge_address, mate}
use Rattle.net_base.specs.plan.Places.{wire_row}
use Rattle.ldp_grammar.specs.declared.message.Message.{Message}
use Rattle.ldp_grammar.specs.declared.message.Message.TheVariants.{LabelMapping}
use Rattle.pw_signalling.specs.declared.binding.Binding.{Binding}
use Rattle.pw_signalling.specs.declared.told.Told.{Told}
use Rattle.pw_signalling.specs.End.{Idle, Advertised}
use Rattle.pw_messages.specs.Content.{told_with}
use Rattle.pw_stitch.specs.Passing.{own_point, past_point}
use Rattle.edge_model.specs.declared.end_place.EndPlace.{EndPlace}
use Rattle.edge_model.specs.EndPlaces.{end_named}
use Rattle.edge_model.specs.Labels.{label_to_give}
use Rattle.edge_model.specs.Mend.{is_up_with}
use Rattle.edge_model.specs.Signal.{takes_content}
use Rattle.edge_model.specs.State.{EdgeState}
use Rattle.network_model.specs.State.{NetworkState}
use Rattle.flight_laws.specs.Laws.{AreOnWay, IsRun, network_after}
use Rattle.flight_laws.specs.Rules.{AllMessages}

-- ---- what is told

-- what an edge holds of one neighbour of a wire, its status among it, it tells the other one behind its own point; the wire is on at
-- the edge, and the session with the other neighbour is up
pub record PassesOn (plan : Plan) (me from to : EdgeId) (wire : WireId) (row : WirePlan) (edge : EdgeState) (content : Told) : Type 0 where
  pub binding : Binding
  pub held : (edge.ends wire.0 from.0).remote ≡ Some binding
  pub content_is : content ≡ past_point (own_point row.pw_id (edge_address plan me) (edge_address plan from)) binding.told
  pub on : edge.wire_on wire.0 ≡ true
  pub up : is_up_with (edge.peering to.0) ≡ true

-- A switching point of a wire, between two neighbours: whatever it advertises to one of them it holds of the other one. And where it
-- holds something, its wire is on, its session is up, and it neither waits for a release nor was declined, it has no label to give.
pub record TellsAcross (plan : Plan) (me from to : EdgeId) (wire : WireId) (row : WirePlan) (edge : EdgeState) : Type 0 where
  pub advertised : (label : ℕ) (content : Told) → (edge.ends wire.0 to.0).local ≡ Advertised label content → PassesOn plan me from to wire row edge content
  pub idle : (binding : Binding) → (edge.ends wire.0 from.0).remote ≡ Some binding → edge.wire_on wire.0 ≡ true → is_up_with (edge.peering to.0) ≡ true → (edge.ends wire.0 to.0).local ≡ Idle false
      → label_to_give edge ≡ None

-- after every event (RFC 6073 sections 7 and 10)
abbrev pub RunsTellAcross : Type 0
RunsTellAcross = (plan : Plan) (events : List Event) → IsRun plan events → (me from to : EdgeId) (wire : WireId) (row : WirePlan) → wire_row plan wire ≡ Some row → mate row me.0 from.0 ≡ Some to
    → TellsAcross plan me from to wire row ((network_after plan events).edges me.0)

-- ---- what is taken

-- the end that a Label Mapping names takes what the mapping tells
abbrev pub IsMappingTaken : Plan → (me peer : ℕ) → Message → Type 0
IsMappingTaken plan me peer (LabelMapping id fec label status points) =
    (place : EndPlace) → option_and_then (end_named plan (record { 0 = me }) (record { 0 = peer })) fec.pw_id ≡ Some place → takes_content plan (record { 0 = me }) place (told_with fec status points) ≡ true
IsMappingTaken plan me peer message = Unit {0}

-- whatever is on its way from an edge to another one
pub record TakesAll (plan : Plan) (network : NetworkState) (from to : ℕ) : Type 0 where
  pub messages : List Message
  pub on_way : AreOnWay plan network from to messages
  pub taken : AllMessages (IsMappingTaken plan to from) messages

-- no switching point refuses a Label Mapping for its points (RFC 6073 section 7.6)
abbrev pub RunsTakeMappings : Type 0
RunsTakeMappings = (plan : Plan) (events : List Event) → IsRun plan events → (from to : ℕ) → nat_eq from to ≡ false → TakesAll plan (network_after plan events) from to
