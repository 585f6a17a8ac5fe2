-- The edge at this place is over the row's plan and has this place, so its work is the row's. A link that takes all stops none; where the
-- definition goes on, nothing is refused.
use Rattle.std.proofs.Common.{[], ◌≡◌, ◌<◌, ◌∙◌, Err, List, length, slice_set, ap, sym, subst, arith}
use Rattle.net_base.specs.declared.plan.Plan.{Plan}
use Rattle.independent_model.specs.Calls.{independent_hears}
use Rattle.net_base.specs.declared.outside.link_call.LinkCall.{LinkCall}
use Rattle.independent_model.specs.Work.{NeverRefused}
use Rattle.switchover_model.specs.Network.{IsGoing, takes_all}
use Rattle.switchover_net.specs.contracts.edge_row.EdgeRow.{the_view}
use Rattle.switchover_net.specs.Rows.{HasDoneWork, RowLists, seen_row}
use Rattle.switchover_net.proofs.RowLemmas.{as_of_row, found_plan, never_link, never_refused, row_does}
use Rattle.independent_mode.specs.Lists.{independent_seen}
use Rattle.independent_model.proofs.StopLemmas.{calls_end}
use Rattle.switchover_net.proofs.edge_row.EdgeRow.hear.Goals as goal

pub hear-done-requires : goal.hear-done-requires
hear-done-requires c =
    let below : c.args.me.0 < length (the_view c.self.inside).edges = omega (arith, c.requires.me, ap (λ (n : RowLists). length n.plan.edges) c.self.view_is, c.self.invariant.count) in
    let planned : c.index_mut.result.now.plan ≡ c.args.self.now.plan =
    found_plan (the_view c.self.inside) c.args.me.0 c.index_mut.result.now c.self.invariant below c.index_mut.ensures.value ∙ ap (λ (n : RowLists). n.plan) c.self.view_is in
    record { within = subst (λ (p : Plan). c.args.peer.0 < length p.edges) (sym planned) c.requires.peer }

pub returns-clause-step : goal.returns-clause-step
returns-clause-step c =
    let below : c.args.me.0 < length (the_view c.self.inside).edges = omega (arith, c.requires.me, ap (λ (n : RowLists). length n.plan.edges) c.self.view_is, c.self.invariant.count) in
    subst (λ (n : RowLists). HasDoneWork c.args.me.0 n
    (record (the_view c.self.inside) { edges = slice_set (the_view c.self.inside).edges c.args.me.0 c.hear-done.new.self }) c.into_calls-calls.result
    (independent_hears n.plan takes_all c.args.me.0 c.args.peer c.args.bytes.now (seen_row n c.args.me.0) [])) c.self.view_is
    (row_does (the_view c.self.inside) c.args.me.0
    (λ p m e s. independent_hears p takes_all m c.args.peer c.args.bytes.now e s) c.index_mut.result.now c.hear-done.new.self c.new-link.result c.hear-done.new.link c.into_calls-calls.result c.self.invariant below c.index_mut.ensures.value c.new-link.ensures
    (c.in-Ok.ensures.step takes_all c.into_calls-calls.ensures.taken) c.into_calls-calls.ensures.calls)

pub returns-in-Err-clause-link : goal.returns-in-Err-clause-link
returns-in-Err-clause-link c =
    never_link (Unit {0}) (Unit {0}) c.in-Err.stop (independent_seen c.hear-done.new.self) c.hear-done.new.link
    (independent_hears c.index_mut.result.now.plan takes_all c.index_mut.result.now.me.0 c.args.peer c.args.bytes.now (independent_seen c.index_mut.result.now) c.new-link.result)
    (length c.new-link.result)
    (calls_end.heard c.index_mut.result.now.plan takes_all c.index_mut.result.now.me.0 c.args.peer c.args.bytes.now (independent_seen c.index_mut.result.now) c.new-link.result)
    (c.in-Err.ensures.step takes_all c.into_calls-calls.ensures.taken)

pub returns-in-Err-clause-refused : goal.returns-in-Err-clause-refused
returns-in-Err-clause-refused c =
    let below : c.args.me.0 < length (the_view c.self.inside).edges = omega (arith, c.requires.me, ap (λ (n : RowLists). length n.plan.edges) c.self.view_is, c.self.invariant.count) in
    subst (λ (n : RowLists). IsGoing (independent_hears n.plan takes_all c.args.me.0 c.args.peer c.args.bytes.now (seen_row n c.args.me.0) [])
    → NeverRefused {T = Unit {0}} (Err c.in-Err.stop)) c.self.view_is
    (never_refused (Unit {0}) (Unit {0}) c.in-Err.stop (independent_seen c.hear-done.new.self) c.hear-done.new.link
    (independent_hears c.index_mut.result.now.plan takes_all c.index_mut.result.now.me.0 c.args.peer c.args.bytes.now (independent_seen c.index_mut.result.now) c.new-link.result)
    (independent_hears (the_view c.self.inside).plan takes_all c.args.me.0 c.args.peer c.args.bytes.now (seen_row (the_view c.self.inside) c.args.me.0) [])
    (c.in-Err.ensures.step takes_all c.into_calls-calls.ensures.taken)
    (ap (λ (calls : List LinkCall). independent_hears c.index_mut.result.now.plan takes_all c.index_mut.result.now.me.0 c.args.peer c.args.bytes.now
    (independent_seen c.index_mut.result.now) calls) c.new-link.ensures
    ∙ as_of_row (the_view c.self.inside) c.args.me.0 c.index_mut.result.now
    (λ p m e. independent_hears p takes_all m c.args.peer c.args.bytes.now e []) c.self.invariant below c.index_mut.ensures.value))
