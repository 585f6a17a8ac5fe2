-- What happens to a session, as the table of a session has it.
use Rattle.ldp_codec.specs.declared.decode_fault.DecodeFault.TheVariants as fault
use Rattle.session_core.specs.Table.{SessionEvent}
use Rattle.session_core.specs.Table as table
use Rattle.std.specs.Prelude.{◌≡◌}
use Rattle.peer_dialogue.specs.declared.peer_event.PeerEvent.{PeerEvent}
use Rattle.peer_dialogue.specs.declared.peer_event.PeerEvent.TheVariants as event

-- an event, with the message that it brings as it is now
abbrev pub event_of : PeerEvent → SessionEvent
event_of event.Start = table.Start
event_of (event.Heard sender) = table.Heard sender
event_of (event.Received message) = table.Received message.now
event_of (event.Refused wrong) = table.Refused wrong
event_of event.Ticked = table.Ticked

-- what is refused is octets, and not for want of memory
abbrev pub MayHappen : PeerEvent → Type 0
MayHappen (event.Refused wrong) = wrong ≡ fault.NoMemory → ⊥
MayHappen other = Unit {0}
