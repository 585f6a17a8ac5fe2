-- One wire more was looked at: its number is taken where it is a rival.
use Rattle.std.proofs.Common.{◌≡◌, ◌<◌, ◌&&◌, ◌∙◌, not, List, ap, length, nat_eq, rules, subst}
use Rattle.net_values.proofs.RowLemmas.{same_read}
use Rattle.net_base.specs.declared.plan.Plan.{Plan}
use Rattle.net_base.specs.declared.plan.wire_plan.WirePlan.{WirePlan}
use Rattle.survey_reach.specs.FaultList.{are_rivals, lesser}
use Rattle.survey_reach.specs.Ground.{IsGroundOf, number_of}
use Rattle.survey_reach.proofs.GroundLemmas.{numbers_counted}
use Rattle.survey_reach.proofs.RivalLemmas.{number_had, rival_left, rival_more, rival_taken}
use Rattle.survey_reach.proofs.rivals.least_rival.Goals.{else-is_rival, then-is_rival}
use Rattle.survey_reach.proofs.rivals.least_rival.Goals as goal

pub loop-other-preserved : goal.loop-other-preserved
loop-other-preserved g c =
    let plan : Plan = c.args.plan.now in
    let place = c.loop-other.other in
    let row : WirePlan = c.index-wires-other.result in
    let least = c.loop-other.least in
    let ground : IsGroundOf plan g.before c.args.ground.now = search rules in
    let within : place < length plan.wires = subst (λ (xs : List WirePlan). place < length xs) c.as_slice-wires.ensures c.loop-other-test.true in
    let number : c.index-number.result.now ≡ number_of plan g.before place =
    c.index-number.ensures
    ∙ (same_read c.args.ground.now.numbers.items place c.index-number.result.now 0 (numbers_counted plan g.before c.args.ground.now place ground within)
    ∙ number_had plan g.before c.args.ground.now place ground within) in
    rival_more (number_of plan g.before) c.args.wire c.args.row.now least c.if-is_rival.least _ place c.as_slice-wires.result.now row row c.loop-other-test.true c.index-wires-other.is c.loop-other.invariant
    (elim c.if-is_rival.branch [
      | then-is_rival w ↦ rival_taken (not (nat_eq place c.args.wire) && are_rivals c.args.row.now row) _ least (lesser least (number_of plan g.before place)) _ w.if-is_rival.true c.is_rival.ensures
          (w.least-is ∙ (w.lesser-least.ensures ∙ ap (lesser least) number))
      | else-is_rival w ↦ rival_left (not (nat_eq place c.args.wire) && are_rivals c.args.row.now row) _ least (lesser least (number_of plan g.before place)) _ w.if-is_rival.false c.is_rival.ensures w.least-is
    ])
