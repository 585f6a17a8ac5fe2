-- The lines over words are those over relations.
use Rattle.std.proofs.Common.{◌∙◌, rules}
use Rattle.survey_reach.specs.Words.{has_pair, in_word}
use Rattle.survey_text.specs.Surveys.{IsServiceOver}
use Rattle.survey_text.specs.Text.{relation_text}
use Rattle.survey_text.proofs.TextLemmas.{lost_lines, puts_same}
use Rattle.survey_text.proofs.service.Service.put_lost.Goals as goal

pub returns : goal.returns
returns g c =
    let served : IsServiceOver g.case.before c.args.over c.args.self.now = search rules in
    let service = c.args.self.now in
    puts_same _ _ _ _ _
    ((λ i. relation_text (c.relation.ensures.of i).over.plan.now g.case.before (c.relation.ensures.of i).service (c.relation.ensures.word i) (has_pair (c.relation.ensures.pairs i)) (in_word (c.relation.ensures.cut i)))
    ∙ lost_lines c.args.over.plan.now g.case.before g.case.faults service.shape.service c.args.lost.now service.reach service.sites.at c.cut_edges-cut.result _ served.made.checked
    c.requires.1.1 served.served.reach served.served.sites.at c.as_slice-edges.ensures c.cut_edges-cut.ensures) c.put.ensures
