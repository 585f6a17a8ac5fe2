-- An edge sends a copy of an inner frame on a wire: as a packet under the label that its peer advertises (RFC 3032 section 2.1,
-- RFC 4448 section 4).
use Rattle.std.specs.Prelude.{ℕ, Bool, true, false, List, Option, Some, None}
use Rattle.net_base.specs.declared.plan.Plan.{Plan}
use Rattle.net_base.specs.declared.plan.offer.Offer.{Offer}
use Rattle.net_base.specs.declared.plan.places.EdgeId.{EdgeId}
use Rattle.net_base.specs.declared.plan.wire_plan.WirePlan.{WirePlan}
use Rattle.net_base.specs.declared.trace.arrival.Arrival.{Arrival}
use Rattle.net_base.specs.declared.trace.drop_cause.DropCause.{DropCause}
use Rattle.net_base.specs.declared.trace.drop_cause.DropCause.TheVariants as cause
use Rattle.net_base.specs.plan.Paths.{offer_of}
use Rattle.net_base.specs.plan.Places.{wire_row}
use Rattle.pw_messages.specs.LinkAnswers.{Answers}
use Rattle.eth_encap.specs.Packet.{packed}
use Rattle.pw_signalling.specs.declared.binding.Binding.{Binding}
use Rattle.edge_model.specs.declared.effect.Effect.TheVariants.{Sent, Dropped}
use Rattle.edge_model.specs.declared.end_place.EndPlace.{EndPlace}
use Rattle.edge_model.specs.State.{end_at}
use Rattle.edge_model.specs.Work.{Work, gives, next_answer, posts}

-- a frame or a packet is dropped
abbrev pub drops : DropCause → Work → Work
drops why work = gives (Dropped why) work

-- ---- a packet

-- the TTL with which a packet begins its way (RFC 3032 section 2.4 leaves it open; 255 is own)
abbrev pub full_ttl : ℕ
full_ttl = 255

-- the VLAN ID of the tag that tagged mode puts on: the one that the peer requests, or 0 (RFC 4448 sections 4.3 and 4.4)
abbrev pub pushed_vlan : Bool → Option ℕ → Option ℕ
pushed_vlan false requested = None
pushed_vlan true None = Some 0
pushed_vlan true (Some vlan) = Some vlan

-- the octets of an inner frame as a terminal edge with this offer sends it under the binding that it holds
abbrev pub packet_of : Offer → Binding → List ℕ → List ℕ
packet_of offer binding frame = packed binding.label full_ttl offer.cword (pushed_vlan offer.tagged binding.told.vlan) frame

-- ---- the link is asked to take it

-- what the link takes is sent; a packet that it does not take is dropped, and nothing else comes of that
abbrev pub had_posted : EndPlace → Arrival → List ℕ → Bool → Work → Work
had_posted place came octets true work = gives (Sent place.peer place.wire came octets) (posts place.peer octets true work)
had_posted place came octets false work = drops cause.LinkFault (posts place.peer octets false work)

-- by the next answer of the link
abbrev pub sends : Answers → EndPlace → Arrival → List ℕ → Work → Work
sends told place came octets work = had_posted place came octets (next_answer told work) work

-- a copy is sent under the binding of an end; where the end holds none, nothing is
abbrev pub sends_under : Answers → Arrival → List ℕ → EdgeId → EndPlace → Option WirePlan → Option Binding → Work → Work
sends_under told came frame me place None remote work = work
sends_under told came frame me place (Some row) None work = work
sends_under told came frame me place (Some row) (Some binding) work = sends told place came (packet_of (offer_of row me.0) binding frame) work

-- a copy is sent by an end of the edge
abbrev pub sends_copy : Plan → Answers → Arrival → List ℕ → Option EndPlace → Work → Work
sends_copy plan told came frame None work = work
sends_copy plan told came frame (Some place) work =
    sends_under told came frame work.edge.me place (wire_row plan place.wire) (end_at work.edge place).remote work
