use Rattle.std.proofs.Common.{[]}
use Rattle.survey_text.proofs.survey.Survey.visit.Given as goal

abbrev pub ghost-take : goal.ghost-take
ghost-take g a = g.before

abbrev pub ghost-close : goal.ghost-close
ghost-close g a = record { before = g.before; faults = a.self.now.work.faults.items; parts = []; part = [] }
