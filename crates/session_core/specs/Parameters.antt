-- The parameters of a session: what an end proposes, why a proposal is refused, and what two proposals agree on (RFC 5036
-- section 3.5.3).
use Rattle.std.specs.Prelude.{◌==◌, ◌&&◌, ℕ, Bool, false, not, min, nat_le, bytes_eq, Option, Some, None, if◌then◌else◌}
use Rattle.net_values.specs.declared.addr.Addr.{Addr}
use Rattle.net_base.specs.declared.trace.state_name.Reason.{Reason}
use Rattle.net_base.specs.declared.trace.state_name.Reason.TheVariants as reason
use Rattle.ldp_grammar.specs.declared.ldp_id.LdpId.{LdpId}
use Rattle.ldp_grammar.specs.declared.session_params.SessionParams.{SessionParams}
use Rattle.session_core.specs.declared.peers.Peers.{Peers}
use Rattle.session_core.specs.declared.refusal.Refusal.{Refusal}
use Rattle.session_core.specs.declared.refusal.Refusal.TheVariants as refusal
use Rattle.session_core.specs.Phase as phase
use Rattle.session_core.specs.State.{SessionState}

-- the identifier is of this router and of the platform's label space, 0 (RFC 5036 section 2.2.2)
abbrev pub is_platform : Addr → LdpId → Bool
is_platform router id = bytes_eq id.router.0 router.0 && id.space == 0

-- what an end proposes: labels unasked (A = 0), no loop detection (D = 0, and so PVLim 0)
abbrev pub proposal : Peers → SessionParams
proposal peers = record {
  version = 1;
  keepalive = peers.keepalive;
  demand = false;
  loops = false;
  limit = 0;
  max_pdu = peers.max_pdu;
  receiver = record { router = peers.peer; space = 0 };
}

-- why a proposal is refused: of the three the first that holds. The A bit refuses nothing: as one end proposes labels
-- unasked, they are used so.
abbrev pub proposal_refusal : Peers → SessionParams → Option Refusal
proposal_refusal peers p =
    if not (p.version == 1) then Some refusal.Version
    else if not (is_platform peers.me p.receiver) then Some refusal.Receiver
    else if p.keepalive == 0 then Some refusal.KeepAliveTime
    else None

-- the reason for which a session ends by a refusal
abbrev pub refusal_reason : Refusal → Reason
refusal_reason refusal.Version = reason.BadVersion
refusal_reason refusal.Receiver = reason.BadReceiver
refusal_reason refusal.KeepAliveTime = reason.ZeroKeepAlive

-- the longest PDU that a proposal means: 255 or less stands for 4096, and no more than that is taken
abbrev pub longest : ℕ → ℕ
longest n = if nat_le n 255 then 4096 else min n 4096

-- the smaller of the two proposals holds, of the KeepAlive Time and of the Max PDU Length
abbrev pub agreed : SessionState → SessionParams → SessionState
agreed s p = record s { phase = phase.OpenRec; hold = min s.peers.keepalive p.keepalive; max_pdu = min s.peers.max_pdu (longest p.max_pdu) }
