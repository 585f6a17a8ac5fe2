use Rattle.std.proofs.Common.{refl, rules, slice_set}
use Rattle.survey_text.proofs.LeftLemmas.{less_more}
use Rattle.survey_text.proofs.told.leave_out.Goals as goal

pub loop-service-preserved : goal.loop-service-preserved
loop-service-preserved c =
    less_more c.args.count c.args.services.now c.args.left.now c.args.part.now c.loop-service.left
    (slice_set c.loop-service.left c.loop-service.service c.less-less.result) c.loop-service.service c.less-less.result c.index-left-service.result c.index-part-service.result
    c.index-services-service.result c.loop-service.invariant (search rules) (search rules) (search rules) c.index-part-service.is
    (record { lost = c.less-less.ensures.lost; found = c.less-less.ensures.found }) refl
