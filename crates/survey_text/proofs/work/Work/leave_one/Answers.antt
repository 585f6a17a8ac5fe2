use Rattle.std.proofs.Common.{◌<◌, [], ◌∷◌, List, length, ap, arith, rules}
use Rattle.survey_text.specs.declared.change.Change.{Change}
use Rattle.survey_text.specs.declared.service.Service.{Service}
use Rattle.survey_text.specs.Surveys.{AreAllKnown, AreLeft, IsOver, fault_in}
use Rattle.survey_text.proofs.KnownLemmas.{alone_known}
use Rattle.survey_text.proofs.LeftLemmas.{leaves_by}
use Rattle.survey_text.proofs.work.Work.leave_one.Goals as goal

pub leave_out-requires-clause-part : goal.leave_out-requires-clause-part
leave_out-requires-clause-part g c =
    let known : AreAllKnown c.args.over.plan.now g.before c.args.known.now = search rules in
    let within : c.args.place < length c.args.known.now.faults = search rules in
    let alone : AreLeft c.args.over.plan.now g.before (fault_in c.args.known.now.faults c.args.place ∷ []) [] c.index.result.now.changes.items =
    alone_known c.args.over.plan.now g.before c.args.known.now c.args.place c.index.result.now known within c.index.ensures in
    omega (arith, ap (λ (l : List Change). length l) c.as_slice-part.ensures.value, alone.all, ap (λ (l : List Service). length l) c.as_slice.ensures.value, known.services.all)

pub returns-clause-left : goal.returns-clause-left
returns-clause-left g c =
    let over : IsOver g.before c.args.over = search rules in
    let known : AreAllKnown c.args.over.plan.now g.before c.args.known.now = search rules in
    let within : c.args.place < length c.args.known.now.faults = search rules in
    let alone : AreLeft c.args.over.plan.now g.before (fault_in c.args.known.now.faults c.args.place ∷ []) [] c.index.result.now.changes.items =
    alone_known c.args.over.plan.now g.before c.args.known.now c.args.place c.index.result.now known within c.index.ensures in
    leaves_by c.args.over.plan.now g.before (fault_in c.args.known.now.faults c.args.place ∷ []) c.as_slice.result.now c.args.known.now.services.items c.as_mut_slice-left.result.now c.args.self.now.left.items
    c.as_slice-part.result.now c.index.result.now.changes.items c.leave_out.new.left c.len.result c.args.self.now.left.len over.checked known.services alone (search rules) c.as_slice.ensures.value
    c.as_mut_slice-left.ensures.value c.as_slice-part.ensures.value c.len.ensures (search rules) (record { all = c.leave_out.ensures.all; each = c.leave_out.ensures.each })
