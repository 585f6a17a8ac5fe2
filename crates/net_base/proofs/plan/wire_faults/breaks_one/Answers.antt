use Rattle.std.proofs.Common.{◌∙◌, sym}
use Rattle.net_base.proofs.MarkLemmas.{none_broken}
use Rattle.net_base.proofs.plan.wire_faults.breaks_one.Goals as goal

pub returns-then-not-is_marked : goal.returns-then-not-is_marked
returns-then-not-is_marked c =
    sym (none_broken c.args.rule c.args.marks.now c.args.earlier.now c.args.wire.now c.requires.left (sym c.is_marked.ensures ∙ c.if-not-is_marked.true))
