-- What the entries behind an event have told.
use Rattle.std.specs.Prelude.{◌≡◌, ◌<◌, ◌≤◌, ◌+◌, ◌==◌, ℕ, Bool, true, false, List, ◌∷◌, Option, Some, None, IfSome, option_map, length, if◌then◌else◌}
use Rattle.net_base.specs.declared.plan.Plan.{Plan}
use Rattle.net_base.specs.declared.plan.places.CircuitId.{CircuitId}
use Rattle.net_base.specs.declared.trace.entry.Entry.{Entry}
use Rattle.net_base.specs.declared.trace.entry.Entry.TheVariants as entry
use Rattle.net_base.specs.declared.trace.event.Event.{Event}
use Rattle.net_base.specs.declared.trace.event.Event.TheVariants.{Frame}
use Rattle.seen_network.specs.Once.{entered_as}
use Rattle.seen_network.specs.Seen.{Seen, seen_from}
use Rattle.seen_state.specs.Placed.{IsEventWithin}
use Rattle.seen_state.specs.SeenEdges.{sizes_of}
use Rattle.seen_network.specs.EventEntries.{HasNoEvent, entered_place, tells_idle}
use Rattle.window_audit.specs.Losses.{AreWithin}
use Rattle.window_audit.specs.declared.during.During.{During}

-- the entry tells of an event
abbrev pub tells_event : Entry → Bool
tells_event (entry.Did event) = true
tells_event e = false

-- what is seen may change by the entry
abbrev pub moves : Entry → Bool
moves (entry.Said from to octets) = true
moves (entry.Session edge peer name) = true
moves (entry.Wire edge wire down) = true
moves (entry.Sent from to wire came packet from2 hops octets) = true
moves (entry.Copied packet of) = true
moves (entry.Aged packet) = true
moves other = false

-- the number under which a frame entered at the circuit by the entry
abbrev pub entered_by : CircuitId → Entry → Option ℕ
entered_by circuit (entry.In at number octets) = if at.0 == circuit.0 then Some number else None
entered_by circuit e = None

-- the number under which the frame of an event entered by the entry, before which so many entries stand
abbrev pub first_by : Option Event → Entry → ℕ → Option (ℕ × ℕ)
first_by (Some (Frame circuit octets)) e count = option_map (λ number. (number, count)) (entered_by circuit e)
first_by event e count = None

-- it, where the frame had not entered
abbrev pub first_or : Option (ℕ × ℕ) → Option Event → Entry → ℕ → Option (ℕ × ℕ)
first_or (Some first) event e count = Some first
first_or None event e count = first_by event e count

-- an event and the entries behind it, or these alone
abbrev pub with_event : Option Event → List Entry → List Entry
with_event None rest = rest
with_event (Some event) rest = entry.Did event ∷ rest

-- the first entry by which a frame entered at the circuit: its number, and how many entries stand before it from the event on
pub record IsFirst (circuit : CircuitId) (rest : List Entry) (first : Option (ℕ × ℕ)) : Type 0 where
  pub number : option_map (λ found. found.0) first ≡ entered_as circuit rest
  pub place : IfSome first (λ found. found.1 ≡ 1 + entered_place circuit rest)

-- these entries were told behind the event, and none of an event
pub record AreTold (rest : List Entry) (during : During) : Type 0 where
  pub bare : HasNoEvent rest
  pub count : during.count ≡ length (with_event during.event rest)
  pub idle : during.idle ≡ tells_idle rest
  pub first : (circuit : CircuitId) (octets : List ℕ) → during.event ≡ Some (Frame circuit octets) → IsFirst circuit rest during.first
  pub shows : (seen : Seen) → seen_from seen during.kept.items ≡ seen_from seen rest

-- the event is one of a plan
abbrev pub IsEventOf : Plan → Option Event → Type 0
IsEventOf plan None = Unit {0}
IsEventOf plan (Some event) = IsEventWithin (sizes_of plan) event

-- those that wait are placed in a plan, and are no more than were told
pub record AreKept (plan : Plan) (during : During) : Type 0 where
  pub event : IsEventOf plan during.event
  pub bare : HasNoEvent during.kept.items
  pub placed : AreWithin (sizes_of plan) during.kept.items
  pub few : length during.kept.items ≤ during.count
  pub ahead : IfSome during.first (λ found. found.1 < during.count)
