-- What was come to, and how its run ended, is an answer.
use Rattle.vplsnet.specs.Around.{Around, around}
use Rattle.vplsnet.specs.Asked.{run_asked_by}
use Rattle.vplsnet.proofs.AnswerLemmas.{run_answers}
use Rattle.vplsnet.proofs.run_files.run_files.Goals as goal

pub returns-in-Ok-clause-answers : goal.returns-in-Ok-clause-answers
returns-in-Ok-clause-answers g c =
    let here : Around = around g.F.Shelf.reads g.F.Shelf.faults g.K.Sink.taken g.K.Sink.faults c.args.shelf.now c.args.sink.now c.work_of.new.shelf c.finish_work.new.sink in
    run_answers here (run_asked_by c.args.request) c.in-Ok.work.scenario c.in-Ok.work.captures c.finish_work.result.network c.finish_work.result.outcome c.in-Ok.ensures.come c.finish_work.ensures.ends
