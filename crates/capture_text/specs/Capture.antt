-- The capture of the frames that left a circuit.
use Rattle.std.specs.Prelude.{◌+◌, ◌++◌, ◌==◌, ℕ, List, [], ◌∷◌, Option, Some, None, if◌then◌else◌}
use Rattle.net_base.specs.declared.plan.places.CircuitId.{CircuitId}
use Rattle.net_base.specs.declared.trace.entry.Entry.{Entry}
use Rattle.net_base.specs.declared.trace.entry.Entry.TheVariants.{Did, Left}
use Rattle.net_base.specs.declared.trace.event.Event.TheVariants.{Tick}
use Rattle.pcap_file.specs.Written.{TimedFrame, written_capture}

-- how many ticks have passed after one more entry
unfoldable pub ticks_after : Entry → ℕ → ℕ
ticks_after (Did Tick) ticks = ticks + 1
ticks_after entry ticks = ticks

-- the octets of the frame that an entry tells to have left this circuit
unfoldable pub octets_left : CircuitId → Entry → Option (List ℕ)
octets_left circuit (Left from origin hops octets) = if from.0 == circuit.0 then Some octets else None
octets_left circuit entry = None

-- a frame, where there is one, at this time in seconds
abbrev pub timed : ℕ → Option (List ℕ) → List TimedFrame
timed ticks None = []
timed ticks (Some octets) = record { seconds = ticks; frame = octets } ∷ []

-- the frame of an entry that tells that it left this circuit, at this time in seconds
abbrev pub timed_frame_of : CircuitId → ℕ → Entry → List TimedFrame
timed_frame_of circuit ticks entry = timed ticks (octets_left circuit entry)

-- the frames that left this circuit, in order, where so many ticks have passed before
abbrev pub frames_left : CircuitId → ℕ → List Entry → List TimedFrame
frames_left circuit ticks [] = []
frames_left circuit ticks (entry ∷ entries) = timed_frame_of circuit ticks entry ++ frames_left circuit (ticks_after entry ticks) entries

-- the whole capture: its times are the ticks before each frame
unfoldable pub capture_text : List Entry → CircuitId → List ℕ
capture_text trace circuit = written_capture (frames_left circuit 0 trace)
