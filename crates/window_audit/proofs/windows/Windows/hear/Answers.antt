-- An event begins where the last one is over.
use Rattle.std.proofs.Common.{subst}
use Rattle.seen_state.specs.Placed.{IsPlaced}
use Rattle.window_audit.proofs.WindowLemmas.{event_heard, event_of}
use Rattle.window_audit.proofs.windows.Windows.hear.Goals as goal

pub returns-in_ok-pass-in-Did-clause-heard : goal.returns-in_ok-pass-in-Did-clause-heard
returns-in_ok-pass-in-Did-clause-heard c = λ trace heard. rw c.in-Did.is
    (event_heard c.args.plan.now trace c.in-Did.event c.pass.new.self c.begin.new.self c.begin.ensures.event c.begin.ensures.told (c.in_ok-pass-in-Did.ensures.passed trace heard))

pub returns-in_ok-pass-in-Did-clause-ready : goal.returns-in_ok-pass-in-Did-clause-ready
returns-in_ok-pass-in-Did-clause-ready c = event_of c.args.plan.now c.args.self.now c.pass.new.self c.begin.new.self c.in_ok-pass-in-Did.ensures.of c.in_ok-pass-in-Did.ensures.place c.begin.ensures.count
    (c.begin.ensures.kept c.args.plan.now (subst (IsPlaced c.args.plan.now) c.in-Did.is c.requires.placed)) c.requires.few
