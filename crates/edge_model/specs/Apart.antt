-- What comes in the control channel of a pseudowire is never taken for a customer's frame (RFC 5085 sections 3 and 5).
use Rattle.std.specs.Prelude.{◌≡◌, ℕ, true, List, [], ◌∷◌, Some, Ok}
use Rattle.net_base.specs.declared.outside.link_call.LinkCall.{LinkCall}
use Rattle.net_base.specs.declared.plan.Plan.{Plan}
use Rattle.net_base.specs.declared.plan.wire_plan.WirePlan.{WirePlan}
use Rattle.net_base.specs.declared.trace.arrival.Arrival.TheVariants as arrival
use Rattle.net_base.specs.declared.trace.drop_cause.DropCause.{DropCause}
use Rattle.net_base.specs.plan.Paths.{offer_of}
use Rattle.net_base.specs.plan.Places.{wire_row}
use Rattle.pw_messages.specs.LinkAnswers.{Answers}
use Rattle.eth_encap.specs.declared.stack_entry.StackEntry.{StackEntry}
use Rattle.eth_encap.specs.Packet.{entry_of}
use Rattle.vccv_channel.specs.declared.cc.Cc.{Cc}
use Rattle.vccv_channel.specs.declared.cc.Cc.TheVariants.{Expiry}
use Rattle.pw_signalling.specs.declared.binding.Binding.{Binding}
use Rattle.edge_model.specs.declared.effect.Effect.{Effect}
use Rattle.edge_model.specs.declared.effect.Effect.TheVariants.{Dropped, Pong, Sent}
use Rattle.edge_model.specs.declared.end_place.EndPlace.{EndPlace}
use Rattle.edge_model.specs.Echo.{channel_under}
use Rattle.edge_model.specs.Local.{ComesInChannel}
use Rattle.edge_model.specs.Packet.{advertiser, behind_entry, is_alert, is_channel, packet_input}
use Rattle.edge_model.specs.State.{EdgeState, end_at}
use Rattle.edge_model.specs.Work.{Work, beginning}

-- what comes of a packet: it is dropped, its answer goes back to the neighbour and on the wire of the end by which it came, or it is
-- told as the answer to a ping of that wire
pub data IsVerified (plan : Plan) (edge : EdgeState) (octets : List ℕ) (effects : List Effect) : Type 0 where
  IsDropped : (why : DropCause) → effects ≡ Dropped why ∷ [] → IsVerified plan edge octets effects
  IsAnswered : (place : EndPlace) (row : WirePlan) (kind : Cc) (binding : Binding) (bytes : List ℕ) → ComesInChannel plan edge octets place row kind binding → effects ≡ Sent place.peer place.wire arrival.Own bytes ∷ [] → IsVerified plan edge octets effects
  IsTold : (place : EndPlace) (row : WirePlan) (kind : Cc) (binding : Binding) (sequence : ℕ) → ComesInChannel plan edge octets place row kind binding → effects ≡ Pong place.wire sequence ∷ [] → IsVerified plan edge octets effects

-- so it is, and no bridge has heard it: the edge is as before
pub record StaysInChannel (plan : Plan) (edge : EdgeState) (octets : List ℕ) (work : Work) : Type 0 where
  pub unheard : work.edge ≡ edge
  pub verified : IsVerified plan edge octets work.effects

-- what an edge makes of a packet, from before the input on
abbrev pub on_packet : Plan → Answers → EdgeState → List LinkCall → List ℕ → Work
on_packet plan told edge calls octets = packet_input plan told octets (beginning edge calls)

-- the label in front is that of the edge's end of this wire, which is bound, and nothing stands below it in the stack
pub record IsForEnd (plan : Plan) (edge : EdgeState) (octets : List ℕ) (place : EndPlace) (row : WirePlan) (binding : Binding) : Type 0 where
  pub entry : StackEntry
  pub read : entry_of octets ≡ Ok entry
  pub bottom : entry.bottom ≡ true
  pub owner : advertiser plan edge entry.label ≡ Some place
  pub terminal : place.terminal ≡ true
  pub is : wire_row plan place.wire ≡ Some row
  pub bound : (end_at edge place).remote ≡ Some binding

-- Of every edge, whatever its link answers.
pub record EchoesStayApart : Type 0 where
  -- type 1: behind a control word whose first nibble tells an associated channel (RFC 4385 section 5)
  pub header : (plan : Plan) (told : Answers) (edge : EdgeState) (calls : List LinkCall) (octets : List ℕ) (place : EndPlace) (row : WirePlan) (binding : Binding)
      → IsForEnd plan edge octets place row binding → (offer_of row edge.me.0).cword ≡ true → is_channel (behind_entry octets) ≡ true
      → StaysInChannel plan edge octets (on_packet plan told edge calls octets)
  -- type 2: behind a router alert
  pub alert : (plan : Plan) (told : Answers) (edge : EdgeState) (calls : List LinkCall) (octets : List ℕ) (front : StackEntry) → entry_of octets ≡ Ok front → is_alert front ≡ true
      → StaysInChannel plan edge octets (on_packet plan told edge calls octets)
  -- type 3: with a TTL that ends at an end which has picked that
  pub expiry : (plan : Plan) (told : Answers) (edge : EdgeState) (calls : List LinkCall) (octets : List ℕ) (place : EndPlace) (row : WirePlan) (binding : Binding)
      → (to : IsForEnd plan edge octets place row binding) → to.entry.ttl ≡ 1 → channel_under row edge.me binding ≡ Some Expiry
      → StaysInChannel plan edge octets (on_packet plan told edge calls octets)
