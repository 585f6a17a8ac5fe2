use Rattle.vplsnet.specs.Around.{Around, around}
use Rattle.vplsnet_survey.specs.Asked.{survey_by}
use Rattle.vplsnet_survey.proofs.AnswerLemmas.{answers_by, completes_as}
use Rattle.vplsnet_survey.proofs.survey.survey_file.Goals as goal

pub returns-clause-answers : goal.returns-clause-answers
returns-clause-answers g c =
    let here : Around = around g.F.Shelf.reads g.F.Shelf.faults g.K.Sink.taken g.K.Sink.faults c.args.shelf.now c.args.sink.now c.run_file-finish.new.shelf c.survey_left.new.sink in
    answers_by here (survey_by c.args.request) c.run_file-finish.result.network c.run_file-finish.result.outcome c.survey_left.result c.run_file-finish.ensures.says
    c.survey_left.ensures.done c.survey_left.ensures.ended c.survey_left.ensures.untaken

pub returns-clause-complete : goal.returns-clause-complete
returns-clause-complete g c =
    let here : Around = around g.F.Shelf.reads g.F.Shelf.faults g.K.Sink.taken g.K.Sink.faults c.args.shelf.now c.args.sink.now c.run_file-finish.new.shelf c.survey_left.new.sink in
    completes_as here (survey_by c.args.request) c.run_file-finish.result.network c.run_file-finish.result.outcome c.survey_left.result c.run_file-finish.ensures.complete
    c.survey_left.ensures.done c.survey_left.ensures.ended
