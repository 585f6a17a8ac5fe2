-- What holds of packets and frames in every run of a checked plan.
use Rattle.std.specs.Prelude.{◌≡◌, ℕ, List, Some}
use Rattle.net_base.specs.declared.plan.Plan.{Plan}
use Rattle.net_base.specs.declared.trace.event.Event.{Event}
use Rattle.net_base.specs.trace.Isolated.{Isolated}
use Rattle.flight_laws.specs.Laws.{IsRun, network_after}
use Rattle.network_model.specs.Run.{run}
use Rattle.network_model.specs.declared.packet.Packet.{Packet}
use Rattle.network_model.specs.Packet.{packet_at}
use Rattle.packet_laws.specs.Apart.{IsNoFrame}
use Rattle.packet_laws.specs.Carried.{KeepsPacketRule}
use Rattle.packet_laws.specs.Channel.{SharesChannel}

-- in every run, each packet under way follows the rule of packets
abbrev pub RunsKeepPacketRule : Type 0
RunsKeepPacketRule = (plan : Plan) (events : List Event) → IsRun plan events → KeepsPacketRule plan (network_after plan events) (run plan events).entries

-- in every run, frames stay within their services
abbrev pub RunsAreIsolated : Type 0
RunsAreIsolated = (plan : Plan) (events : List Event) → IsRun plan events → Isolated plan (run plan events).entries

-- ---- echo packets

-- a packet under way that belongs to no frame is never taken for one
abbrev pub RunsKeepEchoesApart : Type 0
RunsKeepEchoesApart = (plan : Plan) (events : List Event) → IsRun plan events → (number : ℕ) (packet : Packet) → packet_at (network_after plan events) number ≡ Some packet → packet.origin ≡ 0
    → IsNoFrame plan (network_after plan events) packet

-- in every run, the two terminal ends of a wire pick one control channel, where both are bound and both edges use a control word or
-- neither does
abbrev pub RunsShareChannels : Type 0
RunsShareChannels = (plan : Plan) (events : List Event) → IsRun plan events → SharesChannel plan (network_after plan events)
