-- The edge at this place is over the row's plan and has this place, so its work is the row's. A link that takes all stops none.
use Rattle.std.proofs.Common.{[], ◌≡◌, ◌<◌, ◌∙◌, is_some, length, slice_set, ap, subst, arith}
use Rattle.net_base.specs.declared.plan.Plan.{Plan}
use Rattle.net_base.specs.declared.plan.places.EdgeId.{EdgeId}
use Rattle.independent_model.specs.Calls.{sets}
use Rattle.independent_model.specs.Wires.{other_end}
use Rattle.switchover_model.specs.Network.{takes_all}
use Rattle.switchover_net.specs.contracts.edge_row.EdgeRow.{the_view}
use Rattle.switchover_net.specs.Rows.{HasDoneWork, RowLists, seen_row}
use Rattle.switchover_net.proofs.RowLemmas.{found_place, found_plan, never_link, row_does}
use Rattle.independent_mode.specs.Lists.{independent_seen}
use Rattle.independent_model.proofs.StopLemmas.{calls_end}
use Rattle.switchover_net.proofs.edge_row.EdgeRow.set.Goals as goal

pub set-done-requires : goal.set-done-requires
set-done-requires c =
    let below : c.args.me.0 < length (the_view c.self.inside).edges = omega (arith, c.requires.me, ap (λ (n : RowLists). length n.plan.edges) c.self.view_is, c.self.invariant.count) in
    let planned : c.index_mut.result.now.plan ≡ c.args.self.now.plan =
    found_plan (the_view c.self.inside) c.args.me.0 c.index_mut.result.now c.self.invariant below c.index_mut.ensures.value ∙ ap (λ (n : RowLists). n.plan) c.self.view_is in
    let placed : c.index_mut.result.now.me ≡ record { 0 = c.args.me.0 } = found_place (the_view c.self.inside) c.args.me.0 c.index_mut.result.now c.self.invariant below c.index_mut.ensures.value in
    record {
      ends = ap (λ (p : Plan). is_some (other_end p c.index_mut.result.now.me.0 c.args.wire.0)) planned
          ∙ (ap (λ (m : EdgeId). is_some (other_end c.args.self.now.plan m.0 c.args.wire.0)) placed ∙ c.requires.ends);
    }

pub returns-clause-step : goal.returns-clause-step
returns-clause-step c =
    let below : c.args.me.0 < length (the_view c.self.inside).edges = omega (arith, c.requires.me, ap (λ (n : RowLists). length n.plan.edges) c.self.view_is, c.self.invariant.count) in
    subst (λ (n : RowLists). HasDoneWork c.args.me.0 n
    (record (the_view c.self.inside) { edges = slice_set (the_view c.self.inside).edges c.args.me.0 c.set-done.new.self }) c.into_calls-calls.result
    (sets n.plan takes_all c.args.me.0 c.args.wire.0 c.args.to (seen_row n c.args.me.0) [])) c.self.view_is
    (row_does (the_view c.self.inside) c.args.me.0
    (λ p m e s. sets p takes_all m c.args.wire.0 c.args.to e s) c.index_mut.result.now c.set-done.new.self c.new-link.result c.set-done.new.link c.into_calls-calls.result c.self.invariant below c.index_mut.ensures.value c.new-link.ensures
    (c.in-Ok.ensures.step takes_all c.into_calls-calls.ensures.taken) c.into_calls-calls.ensures.calls)

pub returns-in-Err-clause-link : goal.returns-in-Err-clause-link
returns-in-Err-clause-link c =
    never_link (Unit {0}) (Unit {0}) c.in-Err.stop (independent_seen c.set-done.new.self) c.set-done.new.link
    (sets c.index_mut.result.now.plan takes_all c.index_mut.result.now.me.0 c.args.wire.0 c.args.to (independent_seen c.index_mut.result.now) c.new-link.result) (length c.new-link.result)
    (calls_end.set c.index_mut.result.now.plan takes_all c.index_mut.result.now.me.0 c.args.wire.0 c.args.to (independent_seen c.index_mut.result.now) c.new-link.result)
    (c.in-Err.ensures.step takes_all c.into_calls-calls.ensures.taken)
