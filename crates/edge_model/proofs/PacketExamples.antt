-- A frame crosses a pseudowire between two edges: the octets of its packet, and what the other edge makes of them. Each equation
-- below is found by evaluation alone.
use Rattle.std.proofs.Common.{◌≡◌, ℕ, Bool, true, false, List, [], ◌∷◌, Option, Some, None, refl}
use Rattle.std.specs.Prelude.{codes}
use Rattle.net_base.specs.declared.plan.Plan.{Plan}
use Rattle.net_base.specs.declared.plan.circuit_plan.CircuitPlan.{CircuitPlan}
use Rattle.net_base.specs.declared.plan.edge_plan.EdgePlan.{EdgePlan}
use Rattle.net_base.specs.declared.plan.offer.Offer.{Offer}
use Rattle.net_base.specs.declared.plan.places.CircuitId.{CircuitId}
use Rattle.net_base.specs.declared.plan.places.EdgeId.{EdgeId}
use Rattle.net_base.specs.declared.plan.places.WireId.{WireId}
use Rattle.net_base.specs.declared.plan.wire_plan.Class.TheVariants.{Mesh}
use Rattle.net_base.specs.declared.trace.arrival.Arrival.TheVariants as arrival
use Rattle.net_base.specs.declared.trace.drop_cause.DropCause.TheVariants as cause
use Rattle.net_base.specs.plan.Places.{circuit_row}
use Rattle.pw_signalling.specs.declared.told.Told.{Told}
use Rattle.pw_signalling.specs.Down.{down}
use Rattle.pw_signalling.specs.End.{EndState, Advertised}
use Rattle.pw_messages.specs.Content.{content_of}
use Rattle.pw_messages.specs.LinkAnswers.{Answers}
use Rattle.edge_model.specs.declared.effect.Effect.TheVariants.{Left, Sent, Dropped}
use Rattle.edge_model.specs.declared.end_place.EndPlace.{EndPlace}
use Rattle.edge_model.specs.Frame.{frame_input}
use Rattle.edge_model.specs.Packet.{packet_input}
use Rattle.edge_model.specs.State.{EdgeState, empty_edge, with_addresses, with_end, with_kept}
use Rattle.edge_model.specs.Work.{Work, beginning, changes, gives, idles, posts}

abbrev an_edge : ℕ → EdgePlan
an_edge last = record { name = codes "pe"; address = record { 0 = 10 ∷ 0 ∷ 0 ∷ last ∷ [] }; first_label = 16; keepalive = 180; max_pdu = 4096 }

abbrev a_circuit : ℕ → CircuitPlan
a_circuit edge = record { name = codes "c"; edge = record { 0 = edge }; service = record { 0 = 0 }; tag = None }

abbrev an_offer : Bool → Bool → Option ℕ → Offer
an_offer tagged cword vlan = record { tagged = tagged; cword = cword; mtu = Some 1500; vlan = vlan; vccv = None; status = true; group = 0; description = [] }

-- two edges with a circuit each, and a mesh wire between them on which both offer this
abbrev plan : Offer → Plan
plan offer = record {
  edges = an_edge 1 ∷ an_edge 2 ∷ [];
  services = record { name = codes "s"; mtu = 1500; age = 2 } ∷ [];
  circuits = a_circuit 0 ∷ a_circuit 1 ∷ [];
  wires =
      record {
        name = codes "w";
        service = record { 0 = 0 };
        class = Mesh;
        path = record { 0 = 0 } ∷ record { 0 = 1 } ∷ [];
        pw_id = 100;
        near = offer;
        far = offer;
        priority = 0;
      }
      ∷ [];
}

abbrev a : EdgeId
a = record { 0 = 0 }

abbrev b : EdgeId
b = record { 0 = 1 }

abbrev ca : CircuitId
ca = record { 0 = 0 }

abbrev cb : CircuitId
cb = record { 0 = 1 }

abbrev w : WireId
w = record { 0 = 0 }

-- both ends of the wire advertise label 16, and are bound to that of the other
abbrev content : Offer → Told
content offer = content_of offer (Some (record { 0 = 0 }))

abbrev an_end : Offer → EndState
an_end offer = record { local = Advertised 16 (content offer); remote = Some (record { label = 16; told = content offer }) }

abbrev place_at_a : EndPlace
place_at_a = record { wire = w; peer = b; pw_id = 100; segment = 0; side = 0; terminal = true }

abbrev place_at_b : EndPlace
place_at_b = record { wire = w; peer = a; pw_id = 100; segment = 0; side = 1; terminal = true }

abbrev edge_a : Offer → EdgeState
edge_a offer = with_end place_at_a (an_end offer) (empty_edge (plan offer) a)

abbrev edge_b : Offer → EdgeState
edge_b offer = with_end place_at_b (an_end offer) (empty_edge (plan offer) b)

abbrev taken : Answers
taken k = true

abbrev refused : Answers
refused k = false

-- the first edge takes a frame by its circuit, and the second one a packet
abbrev on_frame : Offer → Answers → List ℕ → Work
on_frame offer told octets = frame_input (plan offer) told ca octets (circuit_row (plan offer) ca) (beginning (edge_a offer) [])

abbrev on_packet : Offer → List ℕ → Work
on_packet offer octets = packet_input (plan offer) taken octets (beginning (edge_b offer) [])

-- a broadcast from station 1
abbrev broadcast : List ℕ
broadcast = 255 ∷ 255 ∷ 255 ∷ 255 ∷ 255 ∷ 255 ∷ 2 ∷ 0 ∷ 0 ∷ 0 ∷ 0 ∷ 1 ∷ 8 ∷ 0 ∷ []

-- ---- raw mode, with the control word

abbrev raw : Offer
raw = an_offer false true None

-- the entry has label 16, the bottom bit and TTL 255
abbrev packet : List ℕ
packet = 0 ∷ 1 ∷ 1 ∷ 255 ∷ 0 ∷ 0 ∷ 0 ∷ 0 ∷ broadcast

sends : (on_frame raw taken broadcast).effects ≡ Sent b w (arrival.Circuit ca) packet ∷ []
unfolding changes down gives idles posts with_addresses with_end with_kept
sends = refl

-- a packet that the link does not take is dropped
drops_refused : (on_frame raw refused broadcast).effects ≡ Dropped cause.LinkFault ∷ []
unfolding changes down gives idles posts with_addresses with_end with_kept
drops_refused = refl

-- it leaves at the circuit of the other edge, which has heard the station on the wire
leaves : (on_packet raw packet).effects ≡ Left cb broadcast ∷ []
unfolding changes down gives idles posts with_addresses with_end with_kept
leaves = refl

learns : (on_packet raw packet).edge.learned 0 ≡ record { address = record { 0 = 2 ∷ 0 ∷ 0 ∷ 0 ∷ 0 ∷ 1 ∷ [] }; port = 1; tick = 0 } ∷ []
unfolding changes down gives idles posts with_addresses with_end with_kept
learns = refl

-- with label 17, which no end advertises, it is dropped
drops_unknown : (on_packet raw (0 ∷ 1 ∷ 17 ∷ 255 ∷ 0 ∷ 0 ∷ 0 ∷ 0 ∷ broadcast)).effects ≡ Dropped cause.NoLabel ∷ []
unfolding changes down gives idles posts with_addresses with_end with_kept
drops_unknown = refl

-- and so it is with TTL 0, without the bottom bit, with an associated channel, or without its frame
drops_expired : (on_packet raw (0 ∷ 1 ∷ 1 ∷ 0 ∷ 0 ∷ 0 ∷ 0 ∷ 0 ∷ broadcast)).effects ≡ Dropped cause.Ttl ∷ []
unfolding changes down gives idles posts with_addresses with_end with_kept
drops_expired = refl

drops_deeper : (on_packet raw (0 ∷ 1 ∷ 0 ∷ 255 ∷ 0 ∷ 0 ∷ 0 ∷ 0 ∷ broadcast)).effects ≡ Dropped cause.NotBottom ∷ []
unfolding changes down gives idles posts with_addresses with_end with_kept
drops_deeper = refl

drops_channel : (on_packet raw (0 ∷ 1 ∷ 1 ∷ 255 ∷ 16 ∷ 0 ∷ 0 ∷ 33 ∷ broadcast)).effects ≡ Dropped cause.NotOffered ∷ []
unfolding changes down gives idles posts with_addresses with_end with_kept
drops_channel = refl

drops_short : (on_packet raw (0 ∷ 1 ∷ 1 ∷ 255 ∷ 0 ∷ 0 ∷ 0 ∷ 0 ∷ [])).effects ≡ Dropped cause.Short ∷ []
unfolding changes down gives idles posts with_addresses with_end with_kept
drops_short = refl

-- ---- tagged mode, with requested VLAN 9 and without the control word

abbrev with_tag : Offer
with_tag = an_offer true false (Some 9)

abbrev tagged_packet : List ℕ
tagged_packet = 0 ∷ 1 ∷ 1 ∷ 255 ∷ 255 ∷ 255 ∷ 255 ∷ 255 ∷ 255 ∷ 255 ∷ 2 ∷ 0 ∷ 0 ∷ 0 ∷ 0 ∷ 1 ∷ 129 ∷ 0 ∷ 0 ∷ 9 ∷ 8 ∷ 0 ∷ []

sends_tagged : (on_frame with_tag taken broadcast).effects ≡ Sent b w (arrival.Circuit ca) tagged_packet ∷ []
unfolding changes down gives idles posts with_addresses with_end with_kept
sends_tagged = refl

leaves_untagged : (on_packet with_tag tagged_packet).effects ≡ Left cb broadcast ∷ []
unfolding changes down gives idles posts with_addresses with_end with_kept
leaves_untagged = refl
