use Rattle.std.proofs.Common.{◌&&◌, ◌∙◌, ℕ, ap, nat_lt, rules}
use Rattle.survey_reach.specs.Words.{in_word}
use Rattle.survey_text.specs.Surveys.{IsServiceOver, is_less}
use Rattle.survey_text.proofs.ChangeLemmas.{apart_made}
use Rattle.survey_text.proofs.service.Service.apart.Goals as goal

pub returns : goal.returns
returns g c =
    let served : IsServiceOver g.before c.args.over c.args.self.now = search rules in
    apart_made c.args.over.plan.now g.before c.args.self.now.shape.service c.args.self.now.sites.at served.made.checked served.served.sites.at c.all_pairs-all.result c.args.self.now.reach c.pairs_less.result
    (λ a b. c.all_pairs-all.ensures a b ∙ ap (λ (n : ℕ). nat_lt a n && in_word c.args.self.now.sites.at b) c.len-count.ensures) served.served.reach
    (λ a b. c.pairs_less.ensures a b ∙ ap (λ (n : ℕ). is_less n c.args.self.now.sites.at c.all_pairs-all.result c.args.self.now.reach a b) c.len-count.ensures)
