-- What is known is that of the longer trace, where an event leads the entries and where they stand before the first one.
use Rattle.std.proofs.Common.{List, subst}
use Rattle.std.proofs.lemmas.Result.{on_ok_weaker}
use Rattle.net_base.specs.declared.trace.entry.Entry.{Entry}
use Rattle.seen_network.specs.Seen.{Seen, seen_from}
use Rattle.seen_state.specs.SeenState.{Knows}
use Rattle.window_audit.specs.CalmMemory.{Remembers}
use Rattle.window_audit.proofs.WindowStateLemmas.{passed_event, passed_first}
use Rattle.window_audit.proofs.window_state.WindowState.pass.Goals as goal

pub returns-in-Some-clause-windows : goal.returns-in-Some-clause-windows
returns-in-Some-clause-windows c = on_ok_weaker c.pass_event-passed.result
    (λ windows. λ done rest told first at has sources.
    let now = passed_event c.args.plan.now done rest c.in-Some.event c.pass_event-passed.new.self c.args.sources.now c.args.during.now c.in-Some.is (windows done rest told at has) sources in
    record { state = now.state; calm = now.calm; open_windows = now.open_windows; owed = now.owed })
    c.pass_event-passed.ensures.windows

pub returns-in-None-clause-windows : goal.returns-in-None-clause-windows
returns-in-None-clause-windows c = on_ok_weaker c.pass_first-passed.result
    (λ knows. λ done rest told first at has sources.
    let now = passed_first c.args.plan.now done rest c.args.self.now c.pass_first-passed.new.self c.args.during.now c.in-None.is told first
    (subst (λ (es : List Entry). (seen : Seen) → Knows c.args.self.now.state seen → Knows c.pass_first-passed.new.self.state (seen_from seen es)) c.as_slice.ensures.value knows)
    (subst (λ (es : List Entry). (seen : Seen) → Remembers c.args.plan.now seen c.args.self.now.calm → Remembers c.args.plan.now (seen_from seen es) c.pass_first-passed.new.self.calm) c.as_slice.ensures.value
    (c.pass_first-passed.ensures.calm c.args.plan.now)) c.pass_first-passed.ensures.open_windows c.pass_first-passed.ensures.owed has in
    record { state = now.state; calm = now.calm; open_windows = now.open_windows; owed = now.owed })
    c.pass_first-passed.ensures.state
