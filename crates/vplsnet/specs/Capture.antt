-- What `capture` writes of a run.
use Rattle.std.specs.Prelude.{ℕ, List, [], position, Option, Some, None}
use Rattle.std.specs.Str.{bytes_eq}
use Rattle.net_base.specs.declared.plan.Plan.{Plan}
use Rattle.psn_net.specs.declared.net_stop.NetStop.{NetStop}
use Rattle.psn_net.specs.Lists.{NetLists}
use Rattle.capture_text.specs.Capture.{capture_text}
use Rattle.vplsnet.specs.Asked.{Asked, Replay, Tables, Capture, Decode, Rehearse, Migrate, Discover, Switchover, Audit}

-- the place of the circuit of this name
abbrev pub circuit_of : Plan → List ℕ → Option ℕ
circuit_of plan name = position (λ row. bytes_eq name row.name) plan.circuits

-- the name, where there is no such circuit
abbrev pub lacking : List ℕ → Option ℕ → Option (List ℕ)
lacking name None = Some name
lacking name (Some place) = None

-- the circuit that a command names and the plan lacks
abbrev pub lacks_circuit : Asked → Plan → Option (List ℕ)
lacks_circuit (Replay file) plan = None
lacks_circuit (Tables file) plan = None
lacks_circuit (Capture file circuit) plan = lacking circuit (circuit_of plan circuit)
lacks_circuit (Decode file) plan = None
lacks_circuit (Rehearse seed) plan = None
lacks_circuit (Migrate file) plan = None
lacks_circuit (Discover file script) plan = None
lacks_circuit (Switchover file script) plan = None
lacks_circuit (Audit file report) plan = None

-- the frames that left the circuit at this place, as a capture; nothing where there is none
abbrev pub left_at : NetLists → Option ℕ → List ℕ
left_at left None = []
left_at left (Some place) = capture_text left.trace (record { 0 = place })

-- the frames that left the circuit of this name, and nothing of a run that a limit stopped
abbrev pub captured : NetLists → List ℕ → Option NetStop → List ℕ
captured left circuit None = left_at left (circuit_of left.plan circuit)
captured left circuit (Some reason) = []
