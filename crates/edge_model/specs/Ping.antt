-- An edge pings the far end of a wire by an ICMP echo request in the wire's control channel (RFC 5085 sections 3 and 5).
use Rattle.std.specs.Prelude.{◌+◌, ◌%◌, ℕ, List, Option, Some, None, option_and_then, if◌then◌else◌}
use Rattle.net_base.specs.declared.plan.Plan.{Plan}
use Rattle.net_base.specs.declared.plan.places.EdgeId.{EdgeId}
use Rattle.net_base.specs.declared.plan.places.WireId.{WireId}
use Rattle.net_base.specs.declared.plan.wire_plan.WirePlan.{WirePlan}
use Rattle.net_base.specs.declared.trace.arrival.Arrival.TheVariants as arrival
use Rattle.net_base.specs.plan.Paths.{edge_address, first_edge, is_first, last_edge}
use Rattle.net_base.specs.plan.Places.{wire_row}
use Rattle.net_values.specs.declared.addr.Addr.{Addr}
use Rattle.pw_signalling.specs.declared.binding.Binding.{Binding}
use Rattle.pw_messages.specs.LinkAnswers.{Answers}
use Rattle.pw_stitch.specs.Stitch.{has_told}
use Rattle.vccv_channel.specs.declared.cc.Cc.{Cc}
use Rattle.vccv_channel.specs.declared.ping.Ping.{Ping}
use Rattle.vccv_channel.specs.Echo.{request_packet}
use Rattle.edge_model.specs.declared.end_place.EndPlace.{EndPlace}
use Rattle.edge_model.specs.Echo.{channel_octets, channel_under, ping_number}
use Rattle.edge_model.specs.Ends.{wire_end}
use Rattle.edge_model.specs.Send.{sends}
use Rattle.edge_model.specs.State.{EdgeState, end_at, with_next_ping}
use Rattle.edge_model.specs.Work.{Work, changes, idles}

-- ---- what is asked

-- the terminal edge of a path at its other end
abbrev pub far_terminal : EdgeId → List EdgeId → Option EdgeId
far_terminal me path = if is_first me.0 path then last_edge path else first_edge path

-- the address of that edge
abbrev pub far_address : Plan → EdgeId → WirePlan → Option Addr
far_address plan me row = option_and_then (edge_address plan) (far_terminal me row.path)

-- pings are numbered modulo 65,536
abbrev pub following_ping : ℕ → ℕ
following_ping sequence = (sequence + 1) % 65536

-- the ping of a wire from one address to another, with the wire's number
abbrev pub ping_between : WirePlan → Addr → Addr → ℕ → Ping
ping_between row from to sequence = record { from = from; to = to; number = ping_number row; sequence = sequence }

-- ---- it is sent

-- the next ping of the wire has the next sequence number
abbrev pub pinging : WireId → EdgeState → EdgeState
pinging wire edge = with_next_ping wire (following_ping (edge.next_ping wire.0)) edge

-- a sequence number is used up also where the link does not take the packet
abbrev pub asks : Answers → EndPlace → WirePlan → Cc → Binding → Option Addr → Option Addr → Work → Work
asks told place row kind binding (Some from) (Some to) work =
    sends told place arrival.Own (channel_octets kind binding (request_packet (ping_between row from to (work.edge.next_ping place.wire.0)))) (changes (pinging place.wire) work)
asks told place row kind binding from to work = idles work

-- in the control channel that the end has picked, where it has one
abbrev pub pings_in : Plan → Answers → EndPlace → WirePlan → Binding → Option Cc → Work → Work
pings_in plan told place row binding None work = idles work
pings_in plan told place row binding (Some kind) work =
    asks told place row kind binding (edge_address plan work.edge.me) (far_address plan work.edge.me row) work

-- under the binding that the end holds, where it holds one
abbrev pub pings_under : Plan → Answers → EndPlace → WirePlan → Option Binding → Work → Work
pings_under plan told place row None work = idles work
pings_under plan told place row (Some binding) work = pings_in plan told place row binding (channel_under row work.edge.me binding) work

-- at an end that has told its label
abbrev pub pings_at : Plan → Answers → EndPlace → Option WirePlan → Work → Work
pings_at plan told place None work = idles work
pings_at plan told place (Some row) work =
    if has_told (end_at work.edge place).local then pings_under plan told place row (end_at work.edge place).remote work else idles work

-- by the edge's end of the wire, where it has one
abbrev pub pings_by : Plan → Answers → Option EndPlace → Work → Work
pings_by plan told None work = idles work
pings_by plan told (Some place) work = pings_at plan told place (wire_row plan place.wire) work

-- the input `Ping`: it applies at a terminal edge of the wire whose end advertises its label, is bound, and has picked a control
-- channel
abbrev pub ping_input : Plan → Answers → WireId → Work → Work
ping_input plan told wire work = pings_by plan told (wire_end plan work.edge.me wire) work
