-- What was written of the scenario of the file is an answer.
use Rattle.vplsnet.specs.Around.{Around, around}
use Rattle.vplsnet.proofs.AnswerLemmas.{migration_ended}
use Rattle.vplsnet.proofs.migrate.migrate_file.Goals as goal

pub returns-in-Ok-clause-answers : goal.returns-in-Ok-clause-answers
returns-in-Ok-clause-answers g c =
    let here : Around = around g.F.Shelf.reads g.F.Shelf.faults g.K.Sink.taken g.K.Sink.faults c.args.shelf.now c.args.sink.now c.file_scenario.new.shelf c.write_migrated.new.sink in
    migration_ended here c.args.file.now c.in-Ok.scenario c.without_run.result.network c.write_migrated.result c.without_run.result.outcome
    c.without_run.ensures.network c.without_run.ensures.outcome c.in-Ok.ensures.has c.write_migrated.ensures
