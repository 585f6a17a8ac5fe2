-- Pings and their answers between two edges: the octets of each control channel type, and what is made of an echo packet with a fault
-- (RFC 5085 section 5, RFC 792). Each equation below is found by evaluation alone.
use Rattle.std.proofs.Common.{◌≡◌, ◌++◌, ℕ, Bool, true, false, List, [], ◌∷◌, Option, Some, None, refl}
use Rattle.std.specs.Prelude.{codes}
use Rattle.net_base.specs.declared.plan.Plan.{Plan}
use Rattle.net_base.specs.declared.plan.circuit_plan.CircuitPlan.{CircuitPlan}
use Rattle.net_base.specs.declared.plan.edge_plan.EdgePlan.{EdgePlan}
use Rattle.net_base.specs.declared.plan.offer.Offer.{Offer}
use Rattle.net_base.specs.declared.plan.places.EdgeId.{EdgeId}
use Rattle.net_base.specs.declared.plan.places.WireId.{WireId}
use Rattle.net_base.specs.declared.plan.wire_plan.Class.TheVariants.{Mesh}
use Rattle.net_base.specs.declared.trace.arrival.Arrival.TheVariants as arrival
use Rattle.net_base.specs.declared.trace.drop_cause.DropCause.TheVariants as cause
use Rattle.pw_signalling.specs.declared.binding.Binding.{Binding}
use Rattle.pw_signalling.specs.declared.told.Told.{Told}
use Rattle.pw_signalling.specs.Down.{down}
use Rattle.pw_signalling.specs.End.{LocalPart, Advertised, Withdrawing}
use Rattle.pw_messages.specs.Content.{content_of}
use Rattle.pw_messages.specs.LinkAnswers.{Answers}
use Rattle.pw_stitch.specs.Passing.{past_point}
use Rattle.vccv_channel.specs.Checksum.{ones_plus}
use Rattle.vccv_channel.specs.Reading.{reading}
use Rattle.edge_model.specs.Connection.{restart_input}
use Rattle.edge_model.specs.declared.effect.Effect.TheVariants.{Dropped, Left, Pong, Sent}
use Rattle.edge_model.specs.declared.end_place.EndPlace.{EndPlace}
use Rattle.edge_model.specs.Packet.{packet_input}
use Rattle.edge_model.specs.Ping.{ping_input}
use Rattle.edge_model.specs.State.{EdgeState, empty_edge, with_addresses, with_end, with_next_ping, without_ends, with_kept}
use Rattle.edge_model.specs.Work.{Work, beginning, changes, gives, idles, posts}

abbrev an_edge : ℕ → EdgePlan
an_edge last = record { name = codes "pe"; address = record { 0 = 10 ∷ 0 ∷ 0 ∷ last ∷ [] }; first_label = 16; keepalive = 180; max_pdu = 4096 }

abbrev a_circuit : ℕ → CircuitPlan
a_circuit edge = record { name = codes "c"; edge = record { 0 = edge }; service = record { 0 = 0 }; tag = None }

-- an offer with a control word or without one, and with these control channel types
abbrev offering : Bool → Option ℕ → Offer
offering cword channels = record { tagged = false; cword = cword; mtu = Some 1500; vlan = None; vccv = channels; status = true; group = 0; description = [] }

abbrev a : EdgeId
a = record { 0 = 0 }

abbrev b : EdgeId
b = record { 0 = 1 }

abbrev c : EdgeId
c = record { 0 = 2 }

abbrev w : WireId
w = record { 0 = 0 }

-- three edges, and a mesh wire of the first two, or one from the first to the third over the second
abbrev plan_over : List EdgeId → Offer → Offer → Plan
plan_over path near far = record {
  edges = an_edge 1 ∷ an_edge 2 ∷ an_edge 3 ∷ [];
  services = record { name = codes "s"; mtu = 1500; age = 2 } ∷ [];
  circuits = a_circuit 0 ∷ a_circuit 1 ∷ [];
  wires = record { name = codes "w"; service = record { 0 = 0 }; class = Mesh; path = path; pw_id = 100; near = near; far = far; priority = 0 } ∷ [];
}

abbrev plan : Offer → Offer → Plan
plan near far = plan_over (a ∷ b ∷ []) near far

-- each end advertises label 16, and is bound to that of the other
abbrev content : Offer → Told
content offer = content_of offer (Some (record { 0 = 0 }))

abbrev advertised : Offer → LocalPart
advertised own = Advertised 16 (content own)

abbrev bound_to : Told → Option Binding
bound_to told = Some (record { label = 16; told = told })

abbrev place_at_a : EndPlace
place_at_a = record { wire = w; peer = b; pw_id = 100; segment = 0; side = 0; terminal = true }

abbrev place_at_b : EndPlace
place_at_b = record { wire = w; peer = a; pw_id = 100; segment = 0; side = 1; terminal = true }

abbrev edge_a : Offer → Offer → EdgeState
edge_a near far = with_end place_at_a (record { local = advertised near; remote = bound_to (content far) }) (empty_edge (plan near far) a)

abbrev edge_b : Offer → Offer → EdgeState
edge_b near far = with_end place_at_b (record { local = advertised far; remote = bound_to (content near) }) (empty_edge (plan near far) b)

abbrev taken : Answers
taken k = true

abbrev refused : Answers
refused k = false

-- the first edge pings, and each of the two takes a packet
abbrev pings : Offer → Offer → Answers → Work
pings near far told = ping_input (plan near far) told w (beginning (edge_a near far) [])

abbrev on_packet_at_a : Offer → Offer → List ℕ → Work
on_packet_at_a near far octets = packet_input (plan near far) taken octets (beginning (edge_a near far) [])

abbrev on_packet_at_b : Offer → Offer → List ℕ → Work
on_packet_at_b near far octets = packet_input (plan near far) taken octets (beginning (edge_b near far) [])

-- the first request, from 10.0.0.1 to 10.0.0.2: an IPv4 header of 20 octets and an ICMP message of 8, and the answer to it
abbrev request : List ℕ
request = 69 ∷ 0 ∷ 0 ∷ 28 ∷ 0 ∷ 0 ∷ 0 ∷ 0 ∷ 255 ∷ 1 ∷ 167 ∷ 222 ∷ 10 ∷ 0 ∷ 0 ∷ 1 ∷ 10 ∷ 0 ∷ 0 ∷ 2 ∷ 8 ∷ 0 ∷ 247 ∷ 154 ∷ 0 ∷ 100 ∷ 0 ∷ 1 ∷ []

abbrev answer : List ℕ
answer = 69 ∷ 0 ∷ 0 ∷ 28 ∷ 0 ∷ 0 ∷ 0 ∷ 0 ∷ 255 ∷ 1 ∷ 167 ∷ 222 ∷ 10 ∷ 0 ∷ 0 ∷ 2 ∷ 10 ∷ 0 ∷ 0 ∷ 1 ∷ 0 ∷ 0 ∷ 255 ∷ 154 ∷ 0 ∷ 100 ∷ 0 ∷ 1 ∷ []

-- what stands before them: an entry with label 16 and TTL 255, and an associated channel header; a router alert above such an entry; and
-- an entry with TTL 1
abbrev channel_header : List ℕ
channel_header = 0 ∷ 1 ∷ 1 ∷ 255 ∷ 16 ∷ 0 ∷ 0 ∷ 33 ∷ []

abbrev router_alert : List ℕ
router_alert = 0 ∷ 0 ∷ 16 ∷ 255 ∷ 0 ∷ 1 ∷ 1 ∷ 255 ∷ []

abbrev last_hop : List ℕ
last_hop = 0 ∷ 1 ∷ 1 ∷ 1 ∷ []

-- ---- type 1, with the control word

abbrev one : Offer
one = offering true (Some 1)

asks_by_header : (pings one one taken).effects ≡ Sent b w arrival.Own (channel_header ++ request) ∷ []
unfolding changes down gives idles ones_plus posts reading with_addresses with_end with_next_ping without_ends with_kept
asks_by_header = refl

answers_by_header : (on_packet_at_b one one (channel_header ++ request)).effects ≡ Sent a w arrival.Own (channel_header ++ answer) ∷ []
unfolding changes down gives idles ones_plus posts reading with_addresses with_end with_next_ping without_ends with_kept
answers_by_header = refl

hears_by_header : (on_packet_at_a one one (channel_header ++ answer)).effects ≡ Pong w 1 ∷ []
unfolding changes down gives idles ones_plus posts reading with_addresses with_end with_next_ping without_ends with_kept
hears_by_header = refl

applies : (pings one one taken).idle ≡ false
unfolding changes down gives idles ones_plus posts reading with_addresses with_end with_next_ping without_ends with_kept
applies = refl

-- the next ping has the next sequence number, also where the link did not take the packet
counts : (pings one one taken).edge.next_ping 0 ≡ 2
unfolding changes down gives idles ones_plus posts reading with_addresses with_end with_next_ping without_ends with_kept
counts = refl

counts_refused : (pings one one refused).edge.next_ping 0 ≡ 2
unfolding changes down gives idles ones_plus posts reading with_addresses with_end with_next_ping without_ends with_kept
counts_refused = refl

drops_refused : (pings one one refused).effects ≡ Dropped cause.LinkFault ∷ []
unfolding changes down gives idles ones_plus posts reading with_addresses with_end with_next_ping without_ends with_kept
drops_refused = refl

-- a restart forgets the sequence numbers, and the last of them is followed by 0
begins_again : (restart_input (beginning (with_next_ping w 7 (edge_a one one)) [])).edge.next_ping 0 ≡ 1
unfolding changes down gives idles ones_plus posts reading with_addresses with_end with_next_ping without_ends with_kept
begins_again = refl

wraps : (ping_input (plan one one) taken w (beginning (with_next_ping w 65535 (edge_a one one)) [])).edge.next_ping 0 ≡ 0
unfolding changes down gives idles ones_plus posts reading with_addresses with_end with_next_ping without_ends with_kept
wraps = refl

-- ---- type 2, without the control word

abbrev two : Offer
two = offering false (Some 2)

asks_by_alert : (pings two two taken).effects ≡ Sent b w arrival.Own (router_alert ++ request) ∷ []
unfolding changes down gives idles ones_plus posts reading with_addresses with_end with_next_ping without_ends with_kept
asks_by_alert = refl

answers_by_alert : (on_packet_at_b two two (router_alert ++ request)).effects ≡ Sent a w arrival.Own (router_alert ++ answer) ∷ []
unfolding changes down gives idles ones_plus posts reading with_addresses with_end with_next_ping without_ends with_kept
answers_by_alert = refl

hears_by_alert : (on_packet_at_a two two (router_alert ++ answer)).effects ≡ Pong w 1 ∷ []
unfolding changes down gives idles ones_plus posts reading with_addresses with_end with_next_ping without_ends with_kept
hears_by_alert = refl

-- ---- type 3, without the control word

abbrev three : Offer
three = offering false (Some 4)

asks_by_expiry : (pings three three taken).effects ≡ Sent b w arrival.Own (last_hop ++ request) ∷ []
unfolding changes down gives idles ones_plus posts reading with_addresses with_end with_next_ping without_ends with_kept
asks_by_expiry = refl

answers_by_expiry : (on_packet_at_b three three (last_hop ++ request)).effects ≡ Sent a w arrival.Own (last_hop ++ answer) ∷ []
unfolding changes down gives idles ones_plus posts reading with_addresses with_end with_next_ping without_ends with_kept
answers_by_expiry = refl

hears_by_expiry : (on_packet_at_a three three (last_hop ++ answer)).effects ≡ Pong w 1 ∷ []
unfolding changes down gives idles ones_plus posts reading with_addresses with_end with_next_ping without_ends with_kept
hears_by_expiry = refl

-- where both offer both, type 2 comes before type 3
prefers_alert : (pings (offering false (Some 7)) (offering false (Some 6)) taken).effects ≡ Sent b w arrival.Own (router_alert ++ request) ∷ []
unfolding changes down gives idles ones_plus posts reading with_addresses with_end with_next_ping without_ends with_kept
prefers_alert = refl

-- ---- where none was picked

idle_where_near_tells_none : (pings (offering true None) one taken).idle ≡ true
unfolding changes down gives idles ones_plus posts reading with_addresses with_end with_next_ping without_ends with_kept
idle_where_near_tells_none = refl

idle_where_far_tells_none : (pings one (offering true None) taken).idle ≡ true
unfolding changes down gives idles ones_plus posts reading with_addresses with_end with_next_ping without_ends with_kept
idle_where_far_tells_none = refl

idle_where_types_differ : (pings three two taken).idle ≡ true
unfolding changes down gives idles ones_plus posts reading with_addresses with_end with_next_ping without_ends with_kept
idle_where_types_differ = refl

idle_by_the_control_word : (pings (offering true (Some 6)) (offering true (Some 6)) taken).idle ≡ true
unfolding changes down gives idles ones_plus posts reading with_addresses with_end with_next_ping without_ends with_kept
idle_by_the_control_word = refl

abbrev pings_from : LocalPart → Option Binding → Work
pings_from local remote = ping_input (plan one one) taken w (beginning (with_end place_at_a (record { local = local; remote = remote }) (empty_edge (plan one one) a)) [])

-- the end has to advertise its label and to be bound
idle_where_unbound : (pings_from (advertised one) None).idle ≡ true
unfolding changes down gives idles ones_plus posts reading with_addresses with_end with_next_ping without_ends with_kept
idle_where_unbound = refl

idle_where_withdrawn : (pings_from (Withdrawing 16) (bound_to (content one))).idle ≡ true
unfolding changes down gives idles ones_plus posts reading with_addresses with_end with_next_ping without_ends with_kept
idle_where_withdrawn = refl

-- a packet in another channel is not offered, and one whose TTL ends there without type 3 is a frame
drops_alert : (on_packet_at_b three three (router_alert ++ request)).effects ≡ Dropped cause.NotOffered ∷ []
unfolding changes down gives idles ones_plus posts reading with_addresses with_end with_next_ping without_ends with_kept
drops_alert = refl

drops_header : (on_packet_at_b (offering true (Some 2)) one (channel_header ++ request)).effects ≡ Dropped cause.NotOffered ∷ []
unfolding changes down gives idles ones_plus posts reading with_addresses with_end with_next_ping without_ends with_kept
drops_header = refl

abbrev broadcast : List ℕ
broadcast = 255 ∷ 255 ∷ 255 ∷ 255 ∷ 255 ∷ 255 ∷ 2 ∷ 0 ∷ 0 ∷ 0 ∷ 0 ∷ 1 ∷ 8 ∷ 0 ∷ []

leaves_last_hop : (on_packet_at_b two two (last_hop ++ broadcast)).effects ≡ Left (record { 0 = 1 }) broadcast ∷ []
unfolding changes down gives idles ones_plus posts reading with_addresses with_end with_next_ping without_ends with_kept
leaves_last_hop = refl

-- ---- faults, each of them the first in its order

-- another version than 0 in the associated channel header, or no whole header
drops_version : (on_packet_at_b one one (0 ∷ 1 ∷ 1 ∷ 255 ∷ 17 ∷ 0 ∷ 0 ∷ 33 ∷ request)).effects ≡ Dropped cause.Version ∷ []
unfolding changes down gives idles ones_plus posts reading with_addresses with_end with_next_ping without_ends with_kept
drops_version = refl

drops_part : (on_packet_at_b one one (0 ∷ 1 ∷ 1 ∷ 255 ∷ 16 ∷ 0 ∷ 0 ∷ [])).effects ≡ Dropped cause.Version ∷ []
unfolding changes down gives idles ones_plus posts reading with_addresses with_end with_next_ping without_ends with_kept
drops_part = refl

-- another channel type than IPv4
drops_type : (on_packet_at_b one one (0 ∷ 1 ∷ 1 ∷ 255 ∷ 16 ∷ 0 ∷ 0 ∷ 34 ∷ request)).effects ≡ Dropped cause.Channel ∷ []
unfolding changes down gives idles ones_plus posts reading with_addresses with_end with_next_ping without_ends with_kept
drops_type = refl

-- a header of six words, a fragment, another protocol, or fewer octets than its total length says
drops_options : (on_packet_at_b one one (channel_header ++ 70 ∷ 0 ∷ 0 ∷ 28 ∷ 0 ∷ 0 ∷ 0 ∷ 0 ∷ 255 ∷ 1 ∷ 166 ∷ 222 ∷ 10 ∷ 0 ∷ 0 ∷ 1 ∷ 10 ∷ 0 ∷ 0 ∷ 2 ∷ 8 ∷ 0 ∷ 247 ∷ 154 ∷ 0 ∷ 100 ∷ 0 ∷ 1
    ∷ [])).effects ≡ Dropped cause.Ip ∷ []
unfolding changes down gives idles ones_plus posts reading with_addresses with_end with_next_ping without_ends with_kept
drops_options = refl

drops_fragment : (on_packet_at_b one one (channel_header ++ 69 ∷ 0 ∷ 0 ∷ 28 ∷ 0 ∷ 0 ∷ 32 ∷ 0 ∷ 255 ∷ 1 ∷ 135 ∷ 222 ∷ 10 ∷ 0 ∷ 0 ∷ 1 ∷ 10 ∷ 0 ∷ 0 ∷ 2 ∷ 8 ∷ 0 ∷ 247 ∷ 154 ∷ 0 ∷ 100 ∷ 0
    ∷ 1 ∷ [])).effects ≡ Dropped cause.Ip ∷ []
unfolding changes down gives idles ones_plus posts reading with_addresses with_end with_next_ping without_ends with_kept
drops_fragment = refl

drops_protocol : (on_packet_at_b one one (channel_header ++ 69 ∷ 0 ∷ 0 ∷ 28 ∷ 0 ∷ 0 ∷ 0 ∷ 0 ∷ 255 ∷ 17 ∷ 167 ∷ 206 ∷ 10 ∷ 0 ∷ 0 ∷ 1 ∷ 10 ∷ 0 ∷ 0 ∷ 2 ∷ 8 ∷ 0 ∷ 247 ∷ 154 ∷ 0 ∷ 100 ∷ 0
    ∷ 1 ∷ [])).effects ≡ Dropped cause.Ip ∷ []
unfolding changes down gives idles ones_plus posts reading with_addresses with_end with_next_ping without_ends with_kept
drops_protocol = refl

drops_cut : (on_packet_at_b one one (channel_header ++ 69 ∷ 0 ∷ 0 ∷ 28 ∷ 0 ∷ 0 ∷ 0 ∷ 0 ∷ 255 ∷ 1 ∷ 167 ∷ 222 ∷ 10 ∷ 0 ∷ 0 ∷ 1 ∷ 10 ∷ 0 ∷ 0 ∷ 2 ∷ 8 ∷ 0 ∷ 247 ∷ 154 ∷ 0 ∷ 100 ∷ 0
    ∷ [])).effects ≡ Dropped cause.Ip ∷ []
unfolding changes down gives idles ones_plus posts reading with_addresses with_end with_next_ping without_ends with_kept
drops_cut = refl

-- a wrong checksum of the header, or of the message
drops_header_sum : (on_packet_at_b one one (channel_header ++ 69 ∷ 0 ∷ 0 ∷ 28 ∷ 0 ∷ 0 ∷ 0 ∷ 0 ∷ 255 ∷ 1 ∷ 167 ∷ 223 ∷ 10 ∷ 0 ∷ 0 ∷ 1 ∷ 10 ∷ 0 ∷ 0 ∷ 2 ∷ 8 ∷ 0 ∷ 247 ∷ 154 ∷ 0 ∷ 100 ∷ 0
    ∷ 1 ∷ [])).effects ≡ Dropped cause.Checksum ∷ []
unfolding changes down gives idles ones_plus posts reading with_addresses with_end with_next_ping without_ends with_kept
drops_header_sum = refl

drops_message_sum : (on_packet_at_b one one (channel_header ++ 69 ∷ 0 ∷ 0 ∷ 28 ∷ 0 ∷ 0 ∷ 0 ∷ 0 ∷ 255 ∷ 1 ∷ 167 ∷ 222 ∷ 10 ∷ 0 ∷ 0 ∷ 1 ∷ 10 ∷ 0 ∷ 0 ∷ 2 ∷ 8 ∷ 0 ∷ 247 ∷ 154 ∷ 0 ∷ 100 ∷ 0
    ∷ 2 ∷ [])).effects ≡ Dropped cause.Checksum ∷ []
unfolding changes down gives idles ones_plus posts reading with_addresses with_end with_next_ping without_ends with_kept
drops_message_sum = refl

-- another type than echo, another code than 0, or the identifier of another wire
drops_timestamp : (on_packet_at_b one one (channel_header ++ 69 ∷ 0 ∷ 0 ∷ 28 ∷ 0 ∷ 0 ∷ 0 ∷ 0 ∷ 255 ∷ 1 ∷ 167 ∷ 222 ∷ 10 ∷ 0 ∷ 0 ∷ 1 ∷ 10 ∷ 0 ∷ 0 ∷ 2 ∷ 13 ∷ 0 ∷ 242 ∷ 154 ∷ 0 ∷ 100 ∷ 0
    ∷ 1 ∷ [])).effects ≡ Dropped cause.Icmp ∷ []
unfolding changes down gives idles ones_plus posts reading with_addresses with_end with_next_ping without_ends with_kept
drops_timestamp = refl

drops_code : (on_packet_at_b one one (channel_header ++ 69 ∷ 0 ∷ 0 ∷ 28 ∷ 0 ∷ 0 ∷ 0 ∷ 0 ∷ 255 ∷ 1 ∷ 167 ∷ 222 ∷ 10 ∷ 0 ∷ 0 ∷ 1 ∷ 10 ∷ 0 ∷ 0 ∷ 2 ∷ 8 ∷ 1 ∷ 247 ∷ 153 ∷ 0 ∷ 100 ∷ 0 ∷ 1
    ∷ [])).effects ≡ Dropped cause.Icmp ∷ []
unfolding changes down gives idles ones_plus posts reading with_addresses with_end with_next_ping without_ends with_kept
drops_code = refl

drops_identifier : (on_packet_at_b one one (channel_header ++ 69 ∷ 0 ∷ 0 ∷ 28 ∷ 0 ∷ 0 ∷ 0 ∷ 0 ∷ 255 ∷ 1 ∷ 167 ∷ 222 ∷ 10 ∷ 0 ∷ 0 ∷ 1 ∷ 10 ∷ 0 ∷ 0 ∷ 2 ∷ 8 ∷ 0 ∷ 247 ∷ 153 ∷ 0 ∷ 101 ∷ 0
    ∷ 1 ∷ [])).effects ≡ Dropped cause.Icmp ∷ []
unfolding changes down gives idles ones_plus posts reading with_addresses with_end with_next_ping without_ends with_kept
drops_identifier = refl

-- octets behind the IPv4 packet are not looked at, and are not answered
ignores_padding : (on_packet_at_b one one (channel_header ++ (request ++ (0 ∷ 0 ∷ [])))).effects ≡ Sent a w arrival.Own (channel_header ++ answer) ∷ []
unfolding changes down gives idles ones_plus posts reading with_addresses with_end with_next_ping without_ends with_kept
ignores_padding = refl

-- no bridge hears an echo packet
teaches_nothing : (on_packet_at_b one one (channel_header ++ request)).edge.learned 0 ≡ []
unfolding changes down gives idles ones_plus posts reading with_addresses with_end with_next_ping without_ends with_kept
teaches_nothing = refl

-- ---- over a switching point: a request of type 3 passes it with the TTL that ends at the far edge

abbrev long_plan : Plan
long_plan = plan_over (a ∷ b ∷ c ∷ []) three three

-- what each terminal edge holds names the switching point
abbrev past : Told
past = past_point (record { pw_id = Some 100; local = Some (record { 0 = 10 ∷ 0 ∷ 0 ∷ 2 ∷ [] }); remote = None }) (content three)

abbrev far_request : List ℕ
far_request = 69 ∷ 0 ∷ 0 ∷ 28 ∷ 0 ∷ 0 ∷ 0 ∷ 0 ∷ 255 ∷ 1 ∷ 167 ∷ 221 ∷ 10 ∷ 0 ∷ 0 ∷ 1 ∷ 10 ∷ 0 ∷ 0 ∷ 3 ∷ 8 ∷ 0 ∷ 247 ∷ 154 ∷ 0 ∷ 100 ∷ 0 ∷ 1 ∷ []

abbrev far_answer : List ℕ
far_answer = 69 ∷ 0 ∷ 0 ∷ 28 ∷ 0 ∷ 0 ∷ 0 ∷ 0 ∷ 255 ∷ 1 ∷ 167 ∷ 221 ∷ 10 ∷ 0 ∷ 0 ∷ 3 ∷ 10 ∷ 0 ∷ 0 ∷ 1 ∷ 0 ∷ 0 ∷ 255 ∷ 154 ∷ 0 ∷ 100 ∷ 0 ∷ 1 ∷ []

abbrev place_at_c : EndPlace
place_at_c = record { wire = w; peer = b; pw_id = 100; segment = 1; side = 1; terminal = true }

abbrev before : EndPlace
before = record { wire = w; peer = a; pw_id = 100; segment = 0; side = 1; terminal = false }

abbrev after : EndPlace
after = record { wire = w; peer = c; pw_id = 100; segment = 1; side = 0; terminal = false }

abbrev near_edge : EdgeState
near_edge = with_end place_at_a (record { local = advertised three; remote = bound_to past }) (empty_edge long_plan a)

-- the switching point advertises label 16 to the first edge and 17 to the third one
abbrev point : EdgeState
point = with_end after (record { local = Advertised 17 past; remote = bound_to (content three) })
    (with_end before (record { local = advertised three; remote = bound_to (content three) }) (empty_edge long_plan b))

abbrev far_edge : EdgeState
far_edge = with_end place_at_c (record { local = advertised three; remote = Some (record { label = 17; told = past }) }) (empty_edge long_plan c)

abbrev at : EdgeState → List ℕ → Work
at edge octets = packet_input long_plan taken octets (beginning edge [])

asks_past : (ping_input long_plan taken w (beginning near_edge [])).effects ≡ Sent b w arrival.Own (0 ∷ 1 ∷ 1 ∷ 2 ∷ far_request) ∷ []
unfolding changes down gives idles ones_plus posts reading with_addresses with_end with_next_ping without_ends with_kept
asks_past = refl

passes : (at point (0 ∷ 1 ∷ 1 ∷ 2 ∷ far_request)).effects ≡ Sent c w (arrival.Wire w) (last_hop ++ far_request) ∷ []
unfolding changes down gives idles ones_plus posts reading with_addresses with_end with_next_ping without_ends with_kept
passes = refl

answers_past : (at far_edge (last_hop ++ far_request)).effects ≡ Sent b w arrival.Own (0 ∷ 1 ∷ 17 ∷ 2 ∷ far_answer) ∷ []
unfolding changes down gives idles ones_plus posts reading with_addresses with_end with_next_ping without_ends with_kept
answers_past = refl

-- with a TTL that ends at the switching point it gets no further, and a router alert is for no end there
drops_expired : (at point (last_hop ++ far_request)).effects ≡ Dropped cause.Expired ∷ []
unfolding changes down gives idles ones_plus posts reading with_addresses with_end with_next_ping without_ends with_kept
drops_expired = refl

drops_alerted : (at point (router_alert ++ far_request)).effects ≡ Dropped cause.NoLabel ∷ []
unfolding changes down gives idles ones_plus posts reading with_addresses with_end with_next_ping without_ends with_kept
drops_alerted = refl

-- a switching point has no end of its own to ping
no_ping_of_a_point : (ping_input long_plan taken w (beginning point [])).idle ≡ true
unfolding changes down gives idles ones_plus posts reading with_addresses with_end with_next_ping without_ends with_kept
no_ping_of_a_point = refl
