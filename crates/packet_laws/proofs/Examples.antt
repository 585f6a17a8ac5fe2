-- Echo packets on a wire of two edges, and on one over a switching point (RFC 5085 section 5, RFC 6073 section 7.4). Each equation below is
-- found by evaluation alone.
use Rattle.std.proofs.Common.{◌≡◌, ◌++◌, ℕ, Bool, true, false, List, [], ◌∷◌, Option, Some, None, refl, arith}
use Rattle.std.specs.Prelude.{codes}
use Rattle.net_base.specs.declared.plan.Plan.{Plan}
use Rattle.net_base.specs.declared.plan.edge_plan.EdgePlan.{EdgePlan}
use Rattle.net_base.specs.declared.plan.offer.Offer.{Offer}
use Rattle.net_base.specs.declared.plan.places.EdgeId.{EdgeId}
use Rattle.net_base.specs.declared.plan.wire_plan.Class.TheVariants.{Mesh}
use Rattle.net_base.specs.declared.plan.wire_plan.WirePlan.{WirePlan}
use Rattle.net_values.specs.declared.addr.Addr.{Addr}
use Rattle.vccv_channel.specs.declared.cc.Cc.TheVariants.{Header, Alert, Expiry}
use Rattle.vccv_channel.specs.Channel.{payload}
use Rattle.vccv_channel.specs.Checksum.{ones_plus}
use Rattle.packet_laws.specs.Echoed.{Answers, Asks, CountsTtl, IsEchoMessage, echo_stack, planned_channel, source_address}

abbrev an_edge : ℕ → EdgePlan
an_edge last = record { name = codes "pe"; address = record { 0 = 10 ∷ 0 ∷ 0 ∷ last ∷ [] }; first_label = 16; keepalive = 180; max_pdu = 4096 }

abbrev address : ℕ → Addr
address last = record { 0 = 10 ∷ 0 ∷ 0 ∷ last ∷ [] }

-- an offer with a control word or without one, and with these control channel types
abbrev offering : Bool → Option ℕ → Offer
offering cword channels = record { tagged = false; cword = cword; mtu = Some 1500; vlan = None; vccv = channels; status = true; group = 0; description = [] }

abbrev edge : ℕ → EdgeId
edge place = record { 0 = place }

abbrev wire_over : List EdgeId → Offer → Offer → WirePlan
wire_over path near far = record { name = codes "w"; service = record { 0 = 0 }; class = Mesh; path = path; pw_id = 100; near = near; far = far; priority = 0 }

-- the first edge and the second, and the first and the second over the third
abbrev short : Offer → Offer → WirePlan
short near far = wire_over (edge 0 ∷ edge 1 ∷ []) near far

abbrev long : Offer → Offer → WirePlan
long near far = wire_over (edge 0 ∷ edge 2 ∷ edge 1 ∷ []) near far

abbrev plan : Plan
plan = record { edges = an_edge 1 ∷ an_edge 2 ∷ an_edge 3 ∷ []; services = []; circuits = []; wires = [] }

-- the first request, from 10.0.0.1 to 10.0.0.2, and the answer to it
abbrev request : List ℕ
request = 69 ∷ 0 ∷ 0 ∷ 28 ∷ 0 ∷ 0 ∷ 0 ∷ 0 ∷ 255 ∷ 1 ∷ 167 ∷ 222 ∷ 10 ∷ 0 ∷ 0 ∷ 1 ∷ 10 ∷ 0 ∷ 0 ∷ 2 ∷ 8 ∷ 0 ∷ 247 ∷ 154 ∷ 0 ∷ 100 ∷ 0 ∷ 1 ∷ []

abbrev answer : List ℕ
answer = 69 ∷ 0 ∷ 0 ∷ 28 ∷ 0 ∷ 0 ∷ 0 ∷ 0 ∷ 255 ∷ 1 ∷ 167 ∷ 222 ∷ 10 ∷ 0 ∷ 0 ∷ 2 ∷ 10 ∷ 0 ∷ 0 ∷ 1 ∷ 0 ∷ 0 ∷ 255 ∷ 154 ∷ 0 ∷ 100 ∷ 0 ∷ 1 ∷ []

-- ---- messages

asks : IsEchoMessage (short (offering true (Some 1)) (offering true (Some 1))) (address 1) (address 2) request
unfolding ones_plus
asks = Asks 1 (omega arith) refl

answers : IsEchoMessage (short (offering true (Some 1)) (offering true (Some 1))) (address 2) (address 1) answer
unfolding ones_plus
answers = Answers 1 (omega arith) refl

-- ---- between which edges

comes_from_first : source_address plan (long (offering true (Some 1)) (offering true (Some 1))) 0 2 ≡ Some (address 1)
comes_from_first = refl

comes_from_first_beyond : source_address plan (long (offering true (Some 1)) (offering true (Some 1))) 2 1 ≡ Some (address 1)
comes_from_first_beyond = refl

comes_from_last : source_address plan (long (offering true (Some 1)) (offering true (Some 1))) 2 0 ≡ Some (address 2)
comes_from_last = refl

-- ---- in which channel

picks_header : planned_channel plan (long (offering true (Some 1)) (offering true (Some 1))) 0 2 ≡ Some Header
picks_header = refl

picks_alert : planned_channel plan (short (offering false (Some 7)) (offering false (Some 6))) 0 1 ≡ Some Alert
picks_alert = refl

-- a router alert passes no switching point
picks_expiry : planned_channel plan (long (offering false (Some 7)) (offering false (Some 6))) 2 1 ≡ Some Expiry
picks_expiry = refl

picks_none : planned_channel plan (long (offering false (Some 2)) (offering false (Some 2))) 0 2 ≡ None
picks_none = refl

-- ---- with which TTL

by_header : echo_stack Header 16 255 ++ payload Header request ≡ (0 ∷ 1 ∷ 1 ∷ 255 ∷ 16 ∷ 0 ∷ 0 ∷ 33 ∷ []) ++ request
by_header = refl

by_alert : echo_stack Alert 16 255 ++ payload Alert request ≡ (0 ∷ 0 ∷ 16 ∷ 255 ∷ 0 ∷ 1 ∷ 1 ∷ 255 ∷ []) ++ request
by_alert = refl

by_expiry : echo_stack Expiry 16 1 ++ payload Expiry request ≡ (0 ∷ 1 ∷ 1 ∷ 1 ∷ []) ++ request
by_expiry = refl

-- type 1 over a switching point: 255, and one less behind it
header_before : CountsTtl plan (long (offering true (Some 1)) (offering true (Some 1))) 0 2 Header 255
header_before = refl

header_behind : CountsTtl plan (long (offering true (Some 1)) (offering true (Some 1))) 2 1 Header 254
header_behind = refl

-- type 3 ends at the far edge, whichever way it goes
expiry_short : CountsTtl plan (short (offering false (Some 4)) (offering false (Some 4))) 0 1 Expiry 1
expiry_short = refl

expiry_before : CountsTtl plan (long (offering false (Some 4)) (offering false (Some 4))) 1 2 Expiry 2
expiry_before = refl

expiry_behind : CountsTtl plan (long (offering false (Some 4)) (offering false (Some 4))) 2 0 Expiry 1
expiry_behind = refl
