-- What was judged of the report is an answer.
use Rattle.vplsnet.specs.Around.{Around, around}
use Rattle.vplsnet.proofs.AuditLemmas.{audit_ended}
use Rattle.vplsnet.proofs.audit.audit_files.Goals as goal

pub returns-in-Ok-clause-answers : goal.returns-in-Ok-clause-answers
returns-in-Ok-clause-answers g c =
    let here : Around = around g.F.Shelf.reads g.F.Shelf.faults g.K.Sink.taken g.K.Sink.faults c.args.shelf.now c.args.sink.now c.plan_and_file.new.shelf c.judge.new.sink in
    audit_ended here c.args.file.now c.args.report.now c.in-Ok.both.octets c.as_slice-octets.result.now c.in-Ok.both.scenario c.without_run.result.network c.judge.result c.without_run.result.outcome
    c.as_slice-octets.ensures c.without_run.ensures.network c.without_run.ensures.outcome c.in-Ok.ensures.has c.judge.ensures
