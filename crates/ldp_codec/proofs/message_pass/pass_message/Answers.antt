-- A message is passed, or the first fault of its TLVs is its own.
use Rattle.std.proofs.Common.{Some, None, subst, sym, ◌∙◌}
use Rattle.ldp_grammar.specs.FirstFault.{IsFirstMessageFault}
use Rattle.ldp_codec.proofs.MessageWalkLemmas.{fault_as}
use Rattle.ldp_codec.proofs.ViewLemmas.{passed_here}
use Rattle.ldp_codec.proofs.message_pass.pass_message.Goals as goal

pub returns-in_default-clause-passed : goal.returns-in_default-clause-passed
returns-in_default-clause-passed c = passed_here c.args.rest.now c.in_ok-raw.raw.body.now c.in_ok-raw.raw.word c.in_ok-raw.raw.id None
    (sym c.in_default.is ∙ c.of.ensures) c.in_ok-raw.ensures.whole tt

pub returns-in-Ok-clause-passed : goal.returns-in-Ok-clause-passed
returns-in-Ok-clause-passed c = passed_here c.args.rest.now c.in_ok-raw.raw.body.now c.in_ok-raw.raw.word c.in_ok-raw.raw.id (Some c.in-Some.kind)
    (sym c.in-Some.is ∙ c.of.ensures) c.in_ok-raw.ensures.whole c.in-Ok.ensures.sound

pub returns-in-Err-clause-fault : goal.returns-in-Err-clause-fault
returns-in-Err-clause-fault c = λ before. subst (IsFirstMessageFault before c.args.rest.now) (sym c.behind.ensures)
    (fault_as (Some c.in-Some.kind) before c.args.rest.now c.in_ok-raw.raw.body.now c.in_ok-raw.raw.word c.in_ok-raw.raw.id c.in-Err.fault
    (sym c.in-Some.is ∙ c.of.ensures) c.in_ok-raw.ensures.whole c.in-Err.ensures.fault c.in-Err.ensures.near)
