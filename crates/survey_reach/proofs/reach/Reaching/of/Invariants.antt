use Rattle.std.proofs.Common.{false, slice_index_or}
use Rattle.survey_reach.proofs.reach.Reaching.of.Given as goal

abbrev pub ghost-fill_cores : goal.ghost-fill_cores
ghost-fill_cores g a = g.before

abbrev pub ghost-meshes : goal.ghost-meshes
ghost-meshes g a = λ wire. slice_index_or a.sound.now wire false
