-- What the types of entries say of them.
use Rattle.std.specs.Prelude.{◌≤◌, ◌<◌, ℕ, List}
use Rattle.std.specs.List.{AllByRecursion}
use Rattle.net_base.specs.declared.trace.entry.Entry.{Entry}
use Rattle.net_base.specs.declared.trace.entry.Entry.TheVariants as entry
use Rattle.net_base.specs.declared.trace.event.Event.{Event}
use Rattle.net_base.specs.declared.trace.event.Event.TheVariants as event
use Rattle.event_rows.specs.Rows.{IsToldNumber}

-- octets are octets
abbrev pub AreTypedOctets : List ℕ → Type 0
AreTypedOctets octets = AllByRecursion (λ octet. octet < 256) octets

-- the numbers of an event are in the ranges of their types, and its octets are octets
abbrev pub IsTypedEvent : Event → Type 0
IsTypedEvent (event.Deliver from to count) = count ≤ 65535
IsTypedEvent (event.Frame circuit octets) = AreTypedOctets octets
IsTypedEvent (event.Arrive packet) = IsToldNumber packet
IsTypedEvent (event.Discard packet) = IsToldNumber packet
IsTypedEvent (event.Again packet) = IsToldNumber packet
IsTypedEvent (event.Priority edge wire priority) = priority ≤ 255
IsTypedEvent done = Unit {0}

-- and those of an entry
abbrev pub IsTypedEntry : Entry → Type 0
IsTypedEntry (entry.Did done) = IsTypedEvent done
IsTypedEntry (entry.Said from to octets) = AreTypedOctets octets
IsTypedEntry (entry.In circuit number octets) = IsToldNumber number × AreTypedOctets octets
IsTypedEntry (entry.Sent from to wire came packet origin hops octets) = IsToldNumber packet × (IsToldNumber origin × (IsToldNumber hops × AreTypedOctets octets))
IsTypedEntry (entry.Copied packet of) = IsToldNumber packet × IsToldNumber of
IsTypedEntry (entry.Aged packet) = IsToldNumber packet
IsTypedEntry (entry.Left circuit origin hops octets) = IsToldNumber origin × (IsToldNumber hops × AreTypedOctets octets)
IsTypedEntry (entry.Dropped edge origin cause) = IsToldNumber origin
IsTypedEntry (entry.Pong edge wire sequence) = sequence ≤ 65535
IsTypedEntry told = Unit {0}
