use Rattle.std.proofs.Common.{◌<◌, [], ◌∷◌, length, refl, rules}
use Rattle.survey_text.specs.Surveys.{AreLeft, IsKnown, fault_in}
use Rattle.survey_text.proofs.KnownLemmas.{kept}
use Rattle.survey_text.proofs.known.Known.keep.Goals as goal

pub returns-clause-known : goal.returns-clause-known
returns-clause-known g c =
    let known : IsKnown c.args.over.plan.now g.before (length c.args.self.now.alone.items) c.args.self.now = search rules in
    let left : AreLeft c.args.over.plan.now g.before (fault_in c.args.self.now.faults (length c.args.self.now.alone.items) ∷ []) [] c.args.changes.now = search rules in
    let below : length c.args.self.now.alone.items < length c.args.self.now.faults = search rules in
    kept c.args.over.plan.now g.before c.args.self.now (record { services = c.args.self.now.services; faults = c.args.self.now.faults; alone = c.push.new.self }) c.args.changes.now
    (record { changes = c.in_ok-changes.changes }) known left below c.in_ok-changes.ensures.items refl refl c.in_ok-push.ensures.items
