-- What an edge hears a peer with, over a stream of octets.
use Rattle.std.specs.Prelude.{◌≡◌, ◌<◌, ◌-◌, ◌⊎◌, ℕ, List, length, Option, Some, None, Result, Ok, Err}
use Rattle.ldp_codec.specs.Decoded.{refusal_of}
use Rattle.ldp_grammar.specs.declared.fault.Fault.{Fault}
use Rattle.ldp_grammar.specs.declared.pdu.Pdu.{Pdu}
use Rattle.net_values.specs.Octets.{AreOctets}
use Rattle.ldp_stream.specs.FrontOf.{More, Got, Bad, front_of}
use Rattle.ldp_stream.specs.State.{StreamState, place_behind}
use Rattle.ldp_stream.specs.declared.stream_fault.StreamFault.{StreamFault}
use Rattle.ldp_stream.specs.declared.stream_fault.StreamFault.TheVariants as fault
use Rattle.independent_model.specs.declared.indep_stop.IndepStop.{IndepStop}
use Rattle.independent_model.specs.declared.indep_stop.IndepStop.TheVariants as stop
use Rattle.independent_model.specs.State.{ConnectionState, Stopped, Receiver, IndepState, Receiving, Broken, with_receiver}

-- what is seen of a stream
abbrev pub heard_by : ℕ → List ℕ → Option Fault → Receiver
heard_by base held None = Receiving base held
heard_by base held (Some wrong) = Broken base wrong

-- the receiver of a stream that goes on
abbrev pub receiver_of : StreamState → Receiver
receiver_of s = heard_by s.base s.held s.refused

-- the same of a stream, where there is one
abbrev pub receiver_in : Option StreamState → Receiver
receiver_in None = Stopped
receiver_in (Some s) = receiver_of s

-- a stream that an edge hears with: its maximum is 4096, and it holds octets
pub record IsReceiver (s : StreamState) : Type 0 where
  pub octets : AreOctets s.held
  pub max : s.max ≡ 4096

-- the same of a stream, where there is one
abbrev pub AreEars : Option StreamState → Type 0
AreEars None = Unit {0}
AreEars (Some s) = IsReceiver s

-- a PDU stood in front, and the octets behind it are held
pub record IsGot (old new : StreamState) (pdu : Pdu) : Type 0 where
  pub was : old.refused ≡ None
  pub front : front_of 4096 old.held ≡ Got pdu new.held
  pub base : new.base ≡ place_behind old.base (length old.held - length new.held)
  pub going : new.refused ≡ None
  pub octets : AreOctets old.held
  pub shorter : length new.held < length old.held

-- more octets are wanted
pub record IsReceiverWaiting (s : StreamState) : Type 0 where
  pub front : front_of 4096 s.held ≡ More
  pub going : s.refused ≡ None
  pub octets : AreOctets s.held
  pub room : length s.held < 4100

-- there is a fault in front, or it was answered before
pub record IsReceiverRefused (old new : StreamState) (answer : StreamFault) : Type 0 where
  pub wrong : Fault
  pub cause : (old.refused ≡ Some wrong) ⊎ ((old.refused ≡ None) × (front_of 4096 old.held ≡ Bad wrong))
  pub is : answer ≡ fault.Refused old.base (refusal_of wrong)
  pub receiver : receiver_of new ≡ Broken old.base wrong
  pub octets : AreOctets old.held

-- what a stream answers: a PDU, that there is none yet, or a refusal; want of memory tells nothing
abbrev pub IsNext : StreamState → StreamState → Result (Option Pdu) IndepStop → Type 0
IsNext old new (Ok (Some pdu)) = IsGot old new pdu
IsNext old new (Ok None) = IsReceiverWaiting new × (new ≡ old)
IsNext old new (Err stop.Link) = ⊥
IsNext old new (Err (stop.Refused answer)) = IsReceiverRefused old new answer
IsNext old new (Err stop.NoMemory) = Unit {0}

-- ---- it is taken out of a connection, and put back

-- a connection, where there is one, hears no longer
abbrev pub HasNoReceiver : Option ConnectionState → Type 0
HasNoReceiver None = Unit {0}
HasNoReceiver (Some kept) = kept.receiver ≡ Stopped

-- a connection hears with this receiver
abbrev pub HasReceiver : Receiver → Option ConnectionState → Type 0
HasReceiver receiver None = ⊥
HasReceiver receiver (Some kept) = kept.receiver ≡ receiver

-- nothing is heard with, or it is taken out
abbrev pub IsTakenOut : ℕ → IndepState → IndepState → Option StreamState → Type 0
IsTakenOut peer old new None = (new ≡ old) × HasNoReceiver (old.connection peer)
IsTakenOut peer old new (Some s) = (new ≡ with_receiver peer Stopped old) × HasReceiver (receiver_of s) (old.connection peer)

-- it is put back where all was heard or refused
abbrev pub kept_after : {T : Type 0} → ℕ → StreamState → Result T IndepStop → IndepState → IndepState
kept_after peer s (Ok done) edge = with_receiver peer (receiver_of s) edge
kept_after peer s (Err stop.Link) edge = edge
kept_after peer s (Err (stop.Refused answer)) edge = with_receiver peer (receiver_of s) edge
kept_after peer s (Err stop.NoMemory) edge = edge

-- something is heard with it, or was
abbrev pub IsHearing : Receiver → Type 0
IsHearing (Receiving base held) = Unit {0}
IsHearing (Broken base wrong) = Unit {0}
IsHearing Stopped = ⊥

-- ---- what is held

-- so many octets are held that are no whole PDU yet; of octets that were refused nothing is said
abbrev pub HoldsSoMany : ℕ → Receiver → Type 0
HoldsSoMany count (Receiving base held) = count ≡ length held
HoldsSoMany count (Broken base wrong) = Unit {0}
HoldsSoMany count Stopped = count ≡ 0

-- a connection holds so many, and where there is none none are held
abbrev pub HoldsBy : ℕ → Option ConnectionState → Type 0
HoldsBy count None = count ≡ 0
HoldsBy count (Some kept) = HoldsSoMany count kept.receiver
