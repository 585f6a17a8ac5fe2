use Rattle.std.proofs.Common.{◌≡◌, drop}
use Rattle.survey_text.specs.Surveys.{any_changed}
use Rattle.survey_text.proofs.told.is_some.Given as goal

abbrev pub invariant-loop-change : goal.invariant-loop-change
invariant-loop-change l = any_changed l.edges (drop l.change-index l.left) ≡ any_changed l.edges l.left
