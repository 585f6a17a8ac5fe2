-- A customer's frame enters at a circuit.
use Rattle.std.specs.Prelude.{◌+◌, ℕ, List, ◌∷◌, Option, Some, None, if◌then◌else◌}
use Rattle.net_base.specs.declared.plan.Plan.{Plan}
use Rattle.net_base.specs.declared.plan.circuit_plan.CircuitPlan.{CircuitPlan}
use Rattle.net_base.specs.declared.plan.places.CircuitId.{CircuitId}
use Rattle.net_base.specs.declared.trace.entry.Entry.TheVariants.{In}
use Rattle.edge_model.specs.Frame.{frame_input}
use Rattle.edge_model.specs.Work.{Work}
use Rattle.network_model.specs.Absorb.{Stepped, absorb, begin_at, idle, taken_all}
use Rattle.network_model.specs.State.{NetworkState, with_frame}

-- the number of the next frame that enters
abbrev pub next_origin : NetworkState → ℕ
next_origin network = network.entered + 1

-- the work of the circuit's edge on the frame
abbrev pub frame_work : Plan → NetworkState → CircuitId → List ℕ → CircuitPlan → Work
frame_work plan network circuit octets row = frame_input plan taken_all circuit octets (Some row) (begin_at network row.edge)

-- the frame has the next number, is told as it enters, and then the edge's work is
abbrev pub entering : NetworkState → CircuitId → List ℕ → CircuitPlan → Work → Stepped
entering network circuit octets row work = record {
  state = (absorb row.edge (next_origin network) 0 work (with_frame network)).state;
  entries = In circuit (next_origin network) octets ∷ (absorb row.edge (next_origin network) 0 work (with_frame network)).entries;
}

-- a frame enters only where its edge takes it
abbrev pub frame_event : Plan → CircuitId → List ℕ → Option CircuitPlan → NetworkState → Stepped
frame_event plan circuit octets None network = idle network
frame_event plan circuit octets (Some row) network =
    if (frame_work plan network circuit octets row).idle then idle network
    else entering network circuit octets row (frame_work plan network circuit octets row)
