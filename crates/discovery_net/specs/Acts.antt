-- What a network with Hello adjacencies does (RFC 5036 section 2.4.2): events of the network, and notes between them.
use Rattle.std.specs.Prelude.{◌++◌, length, List, [], ◌∷◌, map, Option, Some, None}
use Rattle.net_base.specs.declared.plan.Plan.{Plan}
use Rattle.net_base.specs.declared.trace.entry.Entry.{Entry}
use Rattle.net_base.specs.declared.trace.event.Event.{Event}
use Rattle.network_model.specs.State.{NetworkState}
use Rattle.network_model.specs.Step.{step}
use Rattle.psn_net.specs.declared.net_stop.NetStop.{NetStop}
use Rattle.psn_net.specs.Weight.{stop_at}
use Rattle.discovery_script.specs.declared.note.Note.{Note}
use Rattle.discovery_script.specs.declared.placed_note.PlacedNote.{PlacedNote}

-- an event of the network is done, or something of the adjacencies is told
pub data Act : Type 0 where
  Does : Event → Act
  Tells : Note → Act

-- the events alone
abbrev pub events_in : List Act → List Event
events_in [] = []
events_in (Does event ∷ acts) = event ∷ events_in acts
events_in (Tells note ∷ acts) = events_in acts

-- events alone, as acts
abbrev pub all_done : List Event → List Act
all_done events = map Does events

-- what acts come to: the state of the network, the whole trace, the notes in their places between its entries, and the limit that
-- stopped an event, where one did
pub record Course : Type 0 where
  pub state : NetworkState
  pub trace : List Entry
  pub notes : List PlacedNote
  pub stop : Option NetStop

-- what a script came to by its lines so far
abbrev pub course_of : NetworkState → List Entry → List PlacedNote → Option NetStop → Course
course_of state trace notes stop = record { state = state; trace = trace; notes = notes; stop = stop }

-- a note stands behind the entries that were told before it
abbrev pub noted : List Entry → List PlacedNote → Note → List PlacedNote
noted trace notes note = notes ++ record { entries = length trace; note = note } ∷ []

-- the course ends where a limit stops an event, and else goes on
abbrev pub unless_stopped : Option NetStop → Course → Course → Course
unless_stopped None stopped rest = rest
unless_stopped (Some stop) stopped rest = record stopped { stop = Some stop }

-- the acts from a state, a trace and its notes on; the limits are looked at before each event
abbrev pub course : Plan → NetworkState → List Entry → List PlacedNote → List Act → Course
course plan state trace notes [] = course_of state trace notes None
course plan state trace notes (Tells note ∷ acts) = course plan state trace (noted trace notes note) acts
course plan state trace notes (Does event ∷ acts) =
    unless_stopped (stop_at trace (length state.under_way) event) (course_of state trace notes None)
    (course plan (step plan state event).state (trace ++ (step plan state event).entries) notes acts)
