use Rattle.std.proofs.Common.{ap, option_copied}
use Rattle.std.proofs.lemmas.Bool.{eq-eqb}
use Rattle.provider_edge.proofs.GivenLemmas.{keeps_group_stated, keeps_stated}
use Rattle.provider_edge.proofs.RowLemmas.{status_heard}
use Rattle.provider_edge.specs.Lists.{seen}
use Rattle.provider_edge.proofs.edge.Edge.hear_status.Goals as goal

pub change_named-requires : goal.change_named-requires
change_named-requires c = record { working = c.requires.working; one = keeps_stated c.in-Some.status; all = keeps_group_stated c.in-Some-fec.fec.now.group c.in-Some.status }

pub returns-then-code-eq-PW_STATUS_CODE-clause-step : goal.returns-then-code-eq-PW_STATUS_CODE-clause-step
returns-then-code-eq-PW_STATUS_CODE-clause-step c = λ calls out.
    status_heard c.args.self.now.plan c.args.peer c.args.code c.args.status c.in-Some.status (option_copied c.args.fec) c.in-Some-fec.fec.now (seen c.args.self.now)
    (seen c.change_named.new.self) calls out c.in-Some.is (ap option_copied c.in-Some-fec.is) (eq-eqb c.args.code.code 40 c.if-code-eq-PW_STATUS_CODE.true) (c.change_named.ensures.step)
