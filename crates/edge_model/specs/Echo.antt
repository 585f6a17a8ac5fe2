-- The control channel of a terminal end, and what an edge makes of an echo packet that came in it (RFC 5085 sections 3 and 5).
use Rattle.std.specs.Prelude.{◌%◌, ℕ, Bool, true, false, List, length, Option, Some, Result, Ok, Err, if◌then◌else◌}
use Rattle.net_base.specs.declared.plan.places.EdgeId.{EdgeId}
use Rattle.net_base.specs.declared.plan.wire_plan.WirePlan.{WirePlan}
use Rattle.net_base.specs.declared.trace.arrival.Arrival.TheVariants as arrival
use Rattle.net_base.specs.declared.trace.drop_cause.DropCause.TheVariants as cause
use Rattle.net_base.specs.plan.Paths.{offer_of}
use Rattle.pw_signalling.specs.declared.binding.Binding.{Binding}
use Rattle.pw_messages.specs.LinkAnswers.{Answers}
use Rattle.vccv_channel.specs.declared.cc.Cc.{Cc}
use Rattle.vccv_channel.specs.declared.cc.Cc.TheVariants.{Header, Alert, Expiry}
use Rattle.vccv_channel.specs.declared.echo.Echo.{Echo}
use Rattle.vccv_channel.specs.declared.echo.Echo.TheVariants.{Request, Answer}
use Rattle.vccv_channel.specs.declared.vccv_fault.VccvFault.{VccvFault}
use Rattle.vccv_channel.specs.Channel.{channel_packet, has_header}
use Rattle.vccv_channel.specs.Echo.{answer_packet}
use Rattle.vccv_channel.specs.Fault.{vccv_cause_of}
use Rattle.vccv_channel.specs.Pick.{picked}
use Rattle.vccv_channel.specs.Reading.{ip_packet_of, reading}
use Rattle.edge_model.specs.declared.effect.Effect.TheVariants.{Pong}
use Rattle.edge_model.specs.declared.end_place.EndPlace.{EndPlace}
use Rattle.edge_model.specs.Send.{drops, sends}
use Rattle.edge_model.specs.Work.{Work, gives}

-- ---- the channel

-- the identifier of the pings of a wire: its PW ID modulo 65,536
abbrev pub ping_number : WirePlan → ℕ
ping_number row = row.pw_id % 65536

-- the type of control channel that a terminal edge picks under a binding, by its own offer and by what the binding tells (RFC 5085
-- section 7)
abbrev pub channel_under : WirePlan → EdgeId → Binding → Option Cc
channel_under row me binding = picked (offer_of row me.0).vccv binding.told.vccv (offer_of row me.0).cword (length binding.told.points)

-- this type was picked
abbrev pub is_picked : Cc → Option Cc → Bool
is_picked Header (Some Header) = true
is_picked Alert (Some Alert) = true
is_picked Expiry (Some Expiry) = true
is_picked kind other = false

-- an IPv4 packet in the control channel towards the far edge
abbrev pub channel_octets : Cc → Binding → List ℕ → List ℕ
channel_octets kind binding ip = channel_packet kind binding.label (length binding.told.points) ip

-- ---- an echo packet came by an end

-- a request is answered by the same end in the same channel, an answer is told, and what has a fault is dropped
abbrev pub echoes : Answers → EndPlace → Cc → Binding → List ℕ → Result Echo VccvFault → Work → Work
echoes told place kind binding ip (Err why) work = drops (vccv_cause_of why) work
echoes told place kind binding ip (Ok (Answer sequence)) work = gives (Pong place.wire sequence) work
echoes told place kind binding ip (Ok (Request from to sequence long)) work = sends told place arrival.Own (channel_octets kind binding (answer_packet ip)) work

-- the payload is read as an echo message of the wire
abbrev pub verifies : Answers → EndPlace → WirePlan → Cc → Binding → List ℕ → Work → Work
verifies told place row kind binding payload work =
    echoes told place kind binding (ip_packet_of (has_header kind) payload) (reading (has_header kind) (ping_number row) payload) work

-- the same in the channel that the end has picked; any other is not offered
abbrev pub verifies_in : Answers → EndPlace → WirePlan → Cc → Binding → List ℕ → Work → Work
verifies_in told place row kind binding payload work =
    if is_picked kind (channel_under row work.edge.me binding) then verifies told place row kind binding payload work else drops cause.NotOffered work
