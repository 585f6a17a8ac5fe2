-- In every state of a run what each edge was told of its wires is so.
use Rattle.std.proofs.Common.{◌≡◌, ◌∙◌, ℕ, List, refl}
use Rattle.net_base.specs.declared.plan.Plan.{Plan}
use Rattle.net_base.specs.plan.Accepted.{IsChecked}
use Rattle.net_base.specs.declared.trace.event.Event.{Event}
use Rattle.edge_model.specs.Connection.{restart_input}
use Rattle.edge_model.specs.State.{EdgeState, with_kept, with_learned, without_ends, without_peerings}
use Rattle.edge_model.specs.Synced.{InSync}
use Rattle.edge_model.specs.Work.{Work, changes}
use Rattle.edge_model.proofs.SignalLemmas.{mends_signals}
use Rattle.edge_model.proofs.SyncLemmas.{learns_synced, mends_synced, pings_synced, restart_synced, synced_first}
use Rattle.network_model.specs.Absorb.{taken_all}
use Rattle.network_model.specs.Run.{state_after}
use Rattle.network_model.specs.State.{empty_network}
use Rattle.network_model.proofs.EdgeLemmas.{HoldsOfEach}
use Rattle.seen_laws.proofs.EachEdgeLemmas.{HeldByMending, run_holds}

-- the edge is at its place, and what was told of its wires is so
pub record IsSyncedAt (plan : Plan) (k : ℕ) (edge : EdgeState) : Type 0 where
  pub me : edge.me ≡ record { 0 = k }
  pub synced : InSync plan edge

restarted_me : (work : Work) → (restart_input work).edge.me ≡ work.edge.me
unfolding changes with_kept with_learned without_ends without_peerings
restarted_me work = refl

held : (plan : Plan) → IsChecked plan → HeldByMending plan (IsSyncedAt plan)
held plan checked = record {
  me = λ k edge at. at.me;
  mends = λ k work me. record { me = (mends_signals plan taken_all work).edge.me ∙ me; synced = mends_synced plan taken_all work checked };
  learns = λ k old new only at. record { me = only.me ∙ at.me; synced = learns_synced plan old new only at.synced };
  pings = λ k pings edge at. record { me = at.me; synced = pings_synced plan pings edge at.synced };
  restarts = λ k work at. record { me = restarted_me work ∙ at.me; synced = restart_synced plan work };
}

pub run_synced : (plan : Plan) (events : List Event) → IsChecked plan → HoldsOfEach (IsSyncedAt plan) (state_after plan (empty_network plan) events)
run_synced plan events checked = run_holds plan (IsSyncedAt plan) (held plan checked) (λ k. record { me = refl; synced = synced_first plan (record { 0 = k }) }) events
