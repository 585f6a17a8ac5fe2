use Rattle.std.proofs.Common.{◌++◌, ◌∙◌, Bool, false, [], Option, ap, rules}
use Rattle.net_values.proofs.RowLemmas.{same_read}
use Rattle.survey_laws.specs.declared.fault.Fault.{Fault}
use Rattle.survey_laws.specs.declared.fault.Fault.TheVariants as fault
use Rattle.survey_laws.specs.Faults.{where_so, with_fault}
use Rattle.survey_reach.specs.FaultList.{wires_from}
use Rattle.survey_reach.specs.Ground.{sound_at}
use Rattle.survey_reach.proofs.FaultLemmas.{wires_more}
use Rattle.survey_reach.proofs.GroundLemmas.{sound_had, wires_counted}
use Rattle.survey_reach.proofs.fault_list.add_wires.Goals as goal

pub loop-wire-preserved : goal.loop-wire-preserved
loop-wire-preserved g c =
    wires_more (sound_at c.args.plan.now g.before) c.loop-wire.wire c.args.plan.now.wires c.loop-wire.list c.push_some.new.list
    (c.args.list.now ++ wires_from (sound_at c.args.plan.now g.before) 0 c.args.plan.now.wires) (search rules) c.loop-wire.invariant
    (c.in_ok-push_some.ensures ∙ ap (λ (f : Option Fault). c.loop-wire.list ++ with_fault f [])
    (c.where_so.ensures ∙ ap (λ (b : Bool). where_so b (fault.Wire (record { 0 = c.loop-wire.wire }))) (c.index.ensures
    ∙ (same_read c.args.ground.now.sound.items c.loop-wire.wire c.index.result.now false (wires_counted c.args.plan.now g.before c.args.ground.now c.loop-wire.wire (search rules) (search rules))
    ∙ sound_had c.args.plan.now g.before c.args.ground.now c.loop-wire.wire (search rules) (search rules)))))
