-- The entries of one event.
use Rattle.std.specs.Prelude.{◌==◌, ◌+◌, ℕ, Bool, true, false, List, [], ◌∷◌, Option, Some, None, if◌then◌else◌}
use Rattle.std.specs.List.{list_any}
use Rattle.net_base.specs.declared.plan.places.CircuitId.{CircuitId}
use Rattle.net_base.specs.declared.trace.entry.Entry.{Entry}
use Rattle.net_base.specs.declared.trace.entry.Entry.TheVariants.{Did, Idle, In}
use Rattle.net_base.specs.declared.trace.event.Event.{Event}

-- the event that an entry tells of
abbrev pub event_of_entry : Entry → Option Event
event_of_entry (Did event) = Some event
event_of_entry entry = None

-- none of these tells of an event
abbrev pub HasNoEvent : List Entry → Type 0
HasNoEvent [] = Unit {0}
HasNoEvent (Did event ∷ es) = ⊥
HasNoEvent (e ∷ es) = HasNoEvent es

-- the entry that tells that an event was idle
abbrev pub is_idle_entry : Entry → Bool
is_idle_entry Idle = true
is_idle_entry entry = false

-- it is told that the event did not apply
abbrev pub tells_idle : List Entry → Bool
tells_idle entries = list_any is_idle_entry entries

-- so many entries stand before the one by which a frame entered at the circuit
abbrev pub entered_place : CircuitId → List Entry → ℕ
entered_place circuit [] = 0
entered_place circuit (Did event ∷ es) = 0
entered_place circuit (In at number octets ∷ es) = if at.0 == circuit.0 then 0 else 1 + entered_place circuit es
entered_place circuit (e ∷ es) = 1 + entered_place circuit es
