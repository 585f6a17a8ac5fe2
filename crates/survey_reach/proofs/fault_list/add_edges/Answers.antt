use Rattle.std.proofs.Common.{◌++◌, ◌∙◌, Bool, [], Option, ap, rules}
use Rattle.survey_laws.specs.declared.fault.Fault.{Fault}
use Rattle.survey_laws.specs.declared.fault.Fault.TheVariants as fault
use Rattle.survey_laws.specs.Faults.{where_so, with_fault}
use Rattle.survey_reach.specs.FaultList.{edges_from}
use Rattle.survey_reach.specs.Words.{has_pair}
use Rattle.survey_reach.proofs.FaultLemmas.{edges_more}
use Rattle.survey_reach.proofs.fault_list.add_edges.Goals as goal

pub loop-edge-preserved : goal.loop-edge-preserved
loop-edge-preserved c =
    edges_more (has_pair c.args.connected.now) c.args.edges.now c.loop-edge.edge c.args.edges.now c.loop-edge.list c.push_some.new.list
    (c.args.list.now ++ edges_from (has_pair c.args.connected.now) c.args.edges.now 0 c.args.edges.now) (search rules) c.loop-edge.invariant
    (c.in_ok-push_some.ensures ∙ ap (λ (f : Option Fault). c.loop-edge.list ++ with_fault f [])
    (c.where_so.ensures ∙ ap (λ (b : Bool). where_so b (fault.Edge (record { 0 = c.loop-edge.edge }))) c.has_peer.ensures))
