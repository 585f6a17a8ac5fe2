-- What a trace weighs, so that a run keeps within the memory of a machine.
use Rattle.std.specs.Prelude.{◌≡◌, ◌+◌, ◌^◌, ◌-◌, ◌&&◌, nat_le, nat_lt, min, ℕ, Bool, true, false, List, [], ◌∷◌, length, Option, Some, None, if◌then◌else◌}
use Rattle.net_base.specs.declared.trace.entry.Entry.{Entry}
use Rattle.net_base.specs.declared.trace.entry.Entry.TheVariants.{Did, Said, In, Sent, Left}
use Rattle.net_base.specs.declared.trace.event.Event.{Event}
use Rattle.net_base.specs.declared.trace.event.Event.TheVariants.{Frame, Arrive, Again, Ping}
use Rattle.psn_net.specs.declared.net_stop.NetStop.{NetStop}
use Rattle.psn_net.specs.declared.net_stop.NetStop.TheVariants.{Crowded, TooMuch}

-- the most that a trace weighs before a further event is done
abbrev pub most_weight : ℕ
most_weight = 268435456

-- the octets of the frame that an event brings
abbrev pub event_octets : Event → ℕ
event_octets (Frame circuit octets) = length octets
event_octets event = 0

-- an entry weighs 64, and the octets of the frame, packet or PDU that it holds
abbrev pub entry_weight : Entry → ℕ
entry_weight (Did event) = event_octets event + 64
entry_weight (Said from to octets) = length octets + 64
entry_weight (In circuit number octets) = length octets + 64
entry_weight (Sent from to wire came packet origin hops octets) = length octets + 64
entry_weight (Left circuit origin hops octets) = length octets + 64
entry_weight entry = 64

abbrev pub total_weight : List Entry → ℕ
total_weight [] = 0
total_weight (e ∷ es) = entry_weight e + total_weight es

-- the weight is counted up to 2^64 - 1
abbrev pub weight_of : List Entry → ℕ
weight_of trace = min (total_weight trace) (2 ^ 64 - 1)

abbrev pub is_event : Entry → Bool
is_event (Did event) = true
is_event entry = false

-- how many events a trace tells
abbrev pub events_told : List Entry → ℕ
events_told [] = 0
events_told (e ∷ es) = (if is_event e then 1 else 0) + events_told es

-- a trace with its counts
pub record IsCounted (trace : List Entry) (weight events : ℕ) : Type 0 where
  pub weighs : weight ≡ weight_of trace
  pub counts : events ≡ min (events_told trace) (2 ^ 64 - 1)

-- the number of the event after those of a trace, counted up to 2^64 - 1
abbrev pub next_event : List Entry → ℕ
next_event trace = min (events_told trace + 1) (2 ^ 64 - 1)

-- an event that may send a packet
abbrev pub may_send : Event → Bool
may_send (Frame circuit octets) = true
may_send (Arrive number) = true
may_send (Again number) = true
may_send (Ping edge wire) = true
may_send event = false

-- so many packets are under way at most before an event that may send one is done
abbrev pub most_packets : ℕ
most_packets = 65536

-- the number of packets under way is counted up to 2^32 - 1
abbrev pub counted_packets : ℕ → ℕ
counted_packets count = min count (2 ^ 32 - 1)

-- the event would send a packet where as many are under way as may be
abbrev pub crowd_at : List Entry → ℕ → Event → Option NetStop
crowd_at trace count event =
    if may_send event && nat_le most_packets (counted_packets count) then Some (Crowded (counted_packets count) (next_event trace)) else None

-- the limit that stops an event, where there is one: the trace is too heavy, or so many packets are under way already
unfoldable pub stop_at : List Entry → ℕ → Event → Option NetStop
stop_at trace count event =
    if nat_lt most_weight (weight_of trace) then Some (TooMuch (weight_of trace) (next_event trace)) else crowd_at trace count event
