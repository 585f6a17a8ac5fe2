use Rattle.std.proofs.Common.{rules}
use Rattle.survey_text.specs.Surveys.{AreServices, IsOver}
use Rattle.survey_text.proofs.LeftLemmas.{leaves_by}
use Rattle.survey_text.proofs.work.Work.leave_two.Goals as goal

pub returns-clause-left : goal.returns-clause-left
returns-clause-left g c =
    let over : IsOver g.before c.args.over = search rules in
    let served : AreServices c.args.over.plan.now g.before c.args.known.now.services.items = search rules in
    leaves_by c.args.over.plan.now g.before c.args.faults c.as_slice-services.result.now c.args.known.now.services.items c.as_mut_slice-left.result.now c.args.self.now.left.items c.as_slice.result.now
    c.fill_changes.new.changes.items c.leave_out.new.left c.len.result c.args.self.now.left.len over.checked served c.in_ok-fill_changes.ensures (search rules) c.as_slice-services.ensures.value
    c.as_mut_slice-left.ensures.value c.as_slice.ensures.value c.len.ensures (search rules) (record { all = c.leave_out.ensures.all; each = c.leave_out.ensures.each })
