-- A wire is put on or off at an edge, and the failure bits of its end there and the priority of a spoke are set.
use Rattle.std.specs.Prelude.{ℕ, Bool}
use Rattle.net_base.specs.declared.plan.Plan.{Plan}
use Rattle.net_base.specs.declared.plan.places.EdgeId.{EdgeId}
use Rattle.net_base.specs.declared.plan.places.WireId.{WireId}
use Rattle.edge_model.specs.Wire.{priority_input, status_input, wire_input}
use Rattle.network_model.specs.Absorb.{Stepped, answer, begin_at, taken_all}
use Rattle.network_model.specs.State.{NetworkState}

-- the event `Wire`
abbrev pub wire_event : Plan → EdgeId → WireId → Bool → NetworkState → Stepped
wire_event plan me wire on network = answer me 0 0 (wire_input plan taken_all wire on (begin_at network me)) network

-- the event `Status`
abbrev pub status_event : Plan → EdgeId → WireId → ℕ → NetworkState → Stepped
status_event plan me wire bits network = answer me 0 0 (status_input plan taken_all wire bits (begin_at network me)) network

-- the event `Priority`
abbrev pub priority_event : Plan → EdgeId → WireId → ℕ → NetworkState → Stepped
priority_event plan me wire priority network = answer me 0 0 (priority_input plan taken_all wire priority (begin_at network me)) network
