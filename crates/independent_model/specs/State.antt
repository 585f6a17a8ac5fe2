-- What an edge keeps in independent mode (RFC 6870 section 4).
use Rattle.std.specs.Prelude.{ℕ, Bool, List, [], Option, None, option_map, if◌then◌else◌}
use Rattle.ldp_grammar.specs.declared.fault.Fault.{Fault}
use Rattle.pw_tlvs.specs.declared.pw_status.PwStatus.{PwStatus}
use Rattle.pw_messages.specs.Sender.{following}
use Rattle.status_exchange.specs.declared.wish.Wish.{Wish}
use Rattle.status_exchange.specs.declared.wish.Wish.TheVariants.{Standby}
use Rattle.status_exchange.specs.Exchange.{EdgeStatuses, put_at_place}

-- What an edge hears a peer with: the octets that are no whole PDU yet, and the place in the stream of the first of them; or the place
-- and the fault that was answered; or nothing any more, where it was refused what it had to tell while it heard.
pub data Receiver : Type 0 where
  Receiving : (base : ℕ) (held : List ℕ) → Receiver
  Broken : (base : ℕ) (fault : Fault) → Receiver
  Stopped : Receiver

-- a connection with a peer: what comes by it, and the number of the next message
pub record ConnectionState : Type 0 where
  pub receiver : Receiver
  pub next_id : ℕ

-- what it calls each wire, the last status that it has heard of its other end, and its connections, by places in the plan
pub record IndepState : Type 0 where
  pub local : ℕ → Wish
  pub remote : ℕ → Option PwStatus
  pub connection : ℕ → Option ConnectionState

-- a connection of which nothing came yet; messages are numbered from 1
abbrev pub fresh_connection : ConnectionState
fresh_connection = record { receiver = Receiving 0 []; next_id = 1 }

-- each end stands by, and no connection stands
abbrev pub first_state : IndepState
first_state = record { local = λ wire. Standby; remote = λ wire. None; connection = λ peer. None }

-- ---- changes

unfoldable pub with_local : ℕ → Wish → IndepState → IndepState
with_local wire wish edge = record edge { local = put_at_place wire wish edge.local }

unfoldable pub with_remote : ℕ → Option PwStatus → IndepState → IndepState
with_remote wire status edge = record edge { remote = put_at_place wire status edge.remote }

unfoldable pub with_connection : ℕ → Option ConnectionState → IndepState → IndepState
with_connection peer kept edge = record edge { connection = put_at_place peer kept edge.connection }

-- the remote statuses of some wires go
unfoldable pub without_remotes : (ℕ → Bool) → IndepState → IndepState
without_remotes test edge = record edge { remote = λ wire. if test wire then None else edge.remote wire }

-- the connection hears with this receiver
abbrev pub receiver_set : Receiver → ConnectionState → ConnectionState
receiver_set receiver kept = record kept { receiver = receiver }

-- what it hears a peer with, where it is connected
abbrev pub with_receiver : ℕ → Receiver → IndepState → IndepState
with_receiver peer receiver edge = with_connection peer (option_map (receiver_set receiver) (edge.connection peer)) edge

-- ---- the same without octets

-- the Message ID that comes next
abbrev pub id_next : ConnectionState → ℕ
id_next kept = kept.next_id

-- what an exchange of statuses sees of the edge
abbrev pub statuses_of : IndepState → EdgeStatuses
statuses_of edge = record { local = edge.local; remote = edge.remote; next = λ peer. option_map id_next (edge.connection peer) }

-- a message was put: the next one has the next number
abbrev pub spoken_once : ConnectionState → ConnectionState
spoken_once kept = record kept { next_id = following kept.next_id }
