-- What contracts see of a session (RFC 5036 sections 2.5.3, 2.5.4 and 2.5.6).
use Rattle.std.specs.Prelude.{◌≡◌, ◌≤◌, ◌<◌, ℕ, Bool, true, false, nat_lt, bytes_eq}
use Rattle.byteorder.specs.Endian.{big_number}
use Rattle.net_values.specs.declared.addr.Addr.{Addr}
use Rattle.net_base.specs.declared.trace.state_name.Reason.{Reason}
use Rattle.session_core.specs.declared.peers.Peers.{Peers}
use Rattle.session_core.specs.Phase.{Phase, is_agreed}
use Rattle.session_core.specs.Phase as phase
use Rattle.session_core.specs.declared.standing.Standing.{Standing}

-- A session that stands: its state and its two ends; the hold time and the longest PDU in force; and the ticks since the
-- last PDU was heard, and since the last one was put.
pub record SessionState : Type 0 where
  pub phase : Phase
  pub peers : Peers
  pub hold : ℕ
  pub max_pdu : ℕ
  pub wait : ℕ
  pub silence : ℕ

-- a session stands, or it ended for a reason
pub data SessionView : Type 0 where
  Stands : SessionState → SessionView
  EndedBy : Reason → SessionView

-- the session of a state that has this
abbrev pub in_phase : Phase → Standing → SessionState
in_phase state s = record { phase = state; peers = s.peers; hold = s.hold; max_pdu = s.max_pdu; wait = s.wait; silence = s.silence }

-- an address as an unsigned number
abbrev pub address_number : Addr → ℕ
address_number address = big_number 4 address.0

-- the end with the larger address is the active one: it opens the connection and speaks first (RFC 5036 sections 2.5.2 and
-- 2.5.3)
abbrev pub is_active : Peers → Bool
is_active peers = nat_lt (address_number peers.peer) (address_number peers.me)

-- The two ends are apart, and what this one proposes is in range: a KeepAlive Time of at least 3, and a Max PDU Length from
-- 256 to 4096.
pub record IsProper (ends : Peers) : Type 0 where
  pub apart : bytes_eq ends.me.0 ends.peer.0 ≡ false
  pub keepalive : 3 ≤ ends.keepalive
  pub least : 256 ≤ ends.max_pdu
  pub most : ends.max_pdu ≤ 4096

-- a connection of which nothing came yet: the hold time is the own proposal, and a PDU has at most 4096 octets
abbrev pub opened : Peers → SessionState
opened peers = record { phase = phase.Initialized; peers = peers; hold = peers.keepalive; max_pdu = 4096; wait = 0; silence = 0 }

-- What is so of a session that stands: its hold time is 1 tick to the own proposal, a PDU has at most 256 to 4096 octets, and
-- fewer ticks than the own proposal passed since a PDU was heard. As long as no Initialization was accepted the hold time is
-- the own proposal, and the longest PDU 4096 octets; once one was, the longest PDU is at most the own proposal.
pub record IsKept (state : Phase) (s : Standing) : Type 0 where
  pub proper : IsProper s.peers
  pub some : 1 ≤ s.hold
  pub within : s.hold ≤ s.peers.keepalive
  pub least : 256 ≤ s.max_pdu
  pub longest : s.max_pdu ≤ 4096
  pub waiting : s.wait < s.peers.keepalive
  pub own_time : is_agreed state ≡ false → s.hold ≡ s.peers.keepalive
  pub own_length : is_agreed state ≡ false → s.max_pdu ≡ 4096
  pub agreed : is_agreed state ≡ true → s.max_pdu ≤ s.peers.max_pdu
