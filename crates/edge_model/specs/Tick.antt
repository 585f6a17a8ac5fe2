-- A tick passes at an edge.
use Rattle.std.specs.Prelude.{◌+◌, filter, zero, suc, length, ℕ, List, Option, Some, None, slice_get}
use Rattle.net_base.specs.declared.plan.Plan.{Plan}
use Rattle.net_base.specs.declared.plan.service_plan.ServicePlan.{ServicePlan}
use Rattle.pw_messages.specs.LinkAnswers.{Answers}
use Rattle.mac_table.specs.Addresses.{is_young}
use Rattle.mac_table.specs.declared.mac_entry.MacEntry.{MacEntry}
use Rattle.edge_model.specs.Labels.{resting}
use Rattle.edge_model.specs.State.{EdgeState, later, with_learned, with_ticks}
use Rattle.session_core.specs.Table.{Ticked}
use Rattle.edge_model.specs.Mend.{mends}
use Rattle.edge_model.specs.Session.{happens_with_ends}
use Rattle.edge_model.specs.Work.{Work, changes}

-- the addresses of a service that came less than its age limit ago (RFC 4762 section 9.1)
abbrev pub aged : ℕ → Option ServicePlan → List MacEntry → List MacEntry
aged now None entries = entries
aged now (Some row) entries = filter (is_young now row.age) entries

-- each bridge forgets what it has not heard for as long as its age limit
abbrev pub forgetting : Plan → EdgeState → EdgeState
forgetting plan edge = with_learned (λ service. aged edge.ticks (slice_get plan.services service) (edge.learned service)) edge

-- the edge's labels rest, and it counts the tick
abbrev pub counted : EdgeState → EdgeState
counted edge = with_ticks (later edge.ticks) (resting edge)

-- the sessions with so many edges from a place on have the tick, in the plan's order
abbrev pub ticks_sessions : Answers → ℕ → ℕ → Work → Work
ticks_sessions told place zero work = work
ticks_sessions told place (suc count) work = ticks_sessions told (place + 1) count (happens_with_ends told (record { 0 = place }) Ticked work)

-- the input `Tick`: it always applies. Its labels rest first, the edge counts the tick, its sessions have it, its bridges forget, and then it mends its ends
abbrev pub tick_input : Plan → Answers → Work → Work
tick_input plan told work = mends plan told (changes (forgetting plan) (ticks_sessions told 0 (length plan.edges) (changes counted work)))
