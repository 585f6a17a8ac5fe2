use Rattle.std.proofs.Common.{◌∙◌, ℕ, ap, rules}
use Rattle.net_base.specs.plan.Accepted.{IsChecked}
use Rattle.survey_text.specs.Surveys.{IsService, is_less}
use Rattle.survey_text.proofs.ChangeLemmas.{change_made}
use Rattle.survey_text.proofs.service.Service.change.Goals as goal

pub returns-clause-is : goal.returns-clause-is
returns-clause-is g c =
    let plan = c.args.failed.plan.now in
    let checked : IsChecked plan = search rules in
    let served : IsService plan g.before c.args.self.now.shape.service c.args.self.now = search rules in
    change_made plan g.before c.args.self.now.shape.service c.args.self.now.sites.at checked served.sites.at c.args.failed.faults.now c.args.self.now.reach c.in_ok-now.now c.between.result
    served.reach c.in_ok-now.ensures.reach
    (λ a b. c.between.ensures.lost a b ∙ ap (λ (n : ℕ). is_less n c.args.self.now.sites.at c.args.self.now.reach c.in_ok-now.now a b) c.len-count.ensures)
    (λ a b. c.between.ensures.found a b ∙ ap (λ (n : ℕ). is_less n c.args.self.now.sites.at c.in_ok-now.now c.args.self.now.reach a b) c.len-count.ensures)
