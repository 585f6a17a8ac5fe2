-- A name that stands nowhere before is passed, and the first that does is the answer.
use Rattle.std.proofs.Common.{◌∙◌, sym}
use Rattle.plan_names.proofs.NameLemmas.{found_at, passed_at}
use Rattle.plan_names.proofs.name_index.first_again.Goals as goal

pub returns-then-not-is_first-clause-place : goal.returns-then-not-is_first-clause-place
returns-then-not-is_first-clause-place c =
    sym (found_at c.args.names.now c.loop-at.at c.loop-at-test.true (sym c.is_first.ensures ∙ c.if-not-is_first.true)) ∙ c.loop-at.invariant

pub loop-at-preserved : goal.loop-at-preserved
loop-at-preserved c = passed_at c.args.names.now c.loop-at.at c.loop-at-test.true (sym c.is_first.ensures ∙ c.if-not-is_first.false) ∙ c.loop-at.invariant
