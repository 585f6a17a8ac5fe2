-- Pings of an edge, as contracts see them: the sequence numbers that come next, and what is made of an echo packet.
use Rattle.std.specs.Prelude.{ℕ, List, Option, Some, None, if◌then◌else◌}
use Rattle.net_base.specs.declared.plan.Plan.{Plan}
use Rattle.net_base.specs.declared.plan.places.EdgeId.{EdgeId}
use Rattle.net_base.specs.declared.plan.places.WireId.{WireId}
use Rattle.net_base.specs.declared.plan.wire_plan.WirePlan.{WirePlan}
use Rattle.net_base.specs.declared.trace.arrival.Arrival.TheVariants as arrival
use Rattle.net_base.specs.declared.trace.drop_cause.DropCause.TheVariants as cause
use Rattle.net_base.specs.plan.Paths.{edge_address}
use Rattle.net_base.specs.plan.Places.{wire_row}
use Rattle.net_values.specs.declared.addr.Addr.{Addr}
use Rattle.pw_signalling.specs.declared.binding.Binding.{Binding}
use Rattle.pw_messages.specs.LinkAnswers.{Answers}
use Rattle.pw_stitch.specs.Stitch.{has_told}
use Rattle.vccv_channel.specs.declared.cc.Cc.{Cc}
use Rattle.vccv_channel.specs.declared.ping.Ping.{Ping}
use Rattle.vccv_channel.specs.Echo.{request_packet}
use Rattle.edge_model.specs.declared.end_place.EndPlace.{EndPlace}
use Rattle.edge_model.specs.Echo.{channel_octets, channel_under, verifies_in}
use Rattle.edge_model.specs.Ping.{far_address, ping_between, pinging}
use Rattle.edge_model.specs.Send.{drops, sends}
use Rattle.edge_model.specs.State.{EdgeState, end_at, first_ping}
use Rattle.edge_model.specs.Work.{Work, changes, idles}

-- the wire counts as not pinged
abbrev pub unpinged : ℕ → ℕ
unpinged sequence = first_ping

-- the type of control channel that an end picks by what it holds of its peer
abbrev pub channel_by : WirePlan → EdgeId → Option Binding → Option Cc
channel_by row me None = None
channel_by row me (Some binding) = channel_under row me binding

-- what came in a control channel of an end: one that is not bound has picked none
abbrev pub verified_by : Answers → EndPlace → WirePlan → Cc → Option Binding → List ℕ → Work → Work
verified_by told place row kind None payload work = drops cause.NotOffered work
verified_by told place row kind (Some binding) payload work = verifies_in told place row kind binding payload work

-- ---- a ping is asked

-- the ping with this sequence number, where both addresses are known
abbrev pub ping_from : WirePlan → ℕ → Option Addr → Option Addr → Option Ping
ping_from row sequence (Some from) (Some to) = Some (ping_between row from to sequence)
ping_from row sequence from to = None

-- the next ping of a wire of an edge
abbrev pub ping_of : Plan → EdgeState → WireId → WirePlan → Option Ping
ping_of plan edge wire row = ping_from row (edge.next_ping wire.0) (edge_address plan edge.me) (far_address plan edge.me row)

-- the packet of a ping, where there is one
abbrev pub request_by : Cc → Binding → Option Ping → Option (List ℕ)
request_by kind binding None = None
request_by kind binding (Some ping) = Some (channel_octets kind binding (request_packet ping))

-- in the control channel that the end has picked, where it has one
abbrev pub request_in : Plan → EdgeState → WireId → WirePlan → Binding → Option Cc → Option (List ℕ)
request_in plan edge wire row binding None = None
request_in plan edge wire row binding (Some kind) = request_by kind binding (ping_of plan edge wire row)

-- under the binding that the end holds, where it holds one
abbrev pub request_under : Plan → EdgeState → WireId → WirePlan → Option Binding → Option (List ℕ)
request_under plan edge wire row None = None
request_under plan edge wire row (Some binding) = request_in plan edge wire row binding (channel_under row edge.me binding)

-- at an end that has told its label
abbrev pub request_at : Plan → EdgeState → EndPlace → Option WirePlan → Option (List ℕ)
request_at plan edge place None = None
request_at plan edge place (Some row) = if has_told (end_at edge place).local then request_under plan edge place.wire row (end_at edge place).remote else None

-- the packet of the next ping that an end asks, where it can
abbrev pub request_of : Plan → EdgeState → EndPlace → Option (List ℕ)
request_of plan edge place = request_at plan edge place (wire_row plan place.wire)

-- it is sent
abbrev pub asks_with : Answers → EndPlace → List ℕ → Work → Work
asks_with told place packet work = sends told place arrival.Own packet (changes (pinging place.wire) work)

-- the ping does not apply where there is no packet
abbrev pub asked_with : Answers → EndPlace → Option (List ℕ) → Work → Work
asked_with told place None work = idles work
asked_with told place (Some packet) work = asks_with told place packet work
