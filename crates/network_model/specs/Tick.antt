-- A tick passes for the packets under way, and then at each edge of the plan, in the plan's order, and nowhere else.
use Rattle.std.specs.Prelude.{◌+◌, ℕ, zero, suc, length}
use Rattle.net_base.specs.declared.plan.Plan.{Plan}
use Rattle.net_base.specs.declared.plan.places.EdgeId.{EdgeId}
use Rattle.edge_model.specs.Tick.{tick_input}
use Rattle.network_model.specs.Absorb.{Stepped, absorb, and_then, begin_at, network_stays, taken_all}
use Rattle.network_model.specs.Age.{ageing}
use Rattle.network_model.specs.State.{NetworkState}

-- the tick of one edge
abbrev pub tick_at : Plan → EdgeId → NetworkState → Stepped
tick_at plan me network = absorb me 0 0 (tick_input plan taken_all (begin_at network me)) network

-- so many edges from a place on
abbrev pub ticks_from : Plan → ℕ → ℕ → NetworkState → Stepped
ticks_from plan place zero network = network_stays network
ticks_from plan place (suc count) network = and_then (tick_at plan (record { 0 = place }) network) (ticks_from plan (place + 1) count)

-- the event `Tick`: packets grow older first, and then each edge has its tick, in the plan's order
abbrev pub tick_event : Plan → NetworkState → Stepped
tick_event plan network = and_then (ageing network) (ticks_from plan 0 (length plan.edges))
