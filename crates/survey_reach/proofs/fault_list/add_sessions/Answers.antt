-- The connections of one edge stand before those of the later ones.
use Rattle.std.proofs.Common.{◌<◌, ◌≤◌, ◌+◌, ◌++◌, ◌∙◌, Bool, [], Option, ap, arith, drop, length, rules}
use Rattle.survey_laws.specs.declared.fault.Fault.{Fault}
use Rattle.survey_laws.specs.declared.fault.Fault.TheVariants as fault
use Rattle.survey_laws.specs.Faults.{where_so, with_fault}
use Rattle.survey_reach.specs.FaultList.{sessions_from}
use Rattle.survey_reach.specs.Words.{has_pair}
use Rattle.survey_reach.proofs.FaultLemmas.{sessions_end, sessions_start, with_end, with_more}
use Rattle.survey_reach.proofs.fault_list.add_sessions.Goals as goal

pub loop-b-init : goal.loop-b-init
loop-b-init c = sessions_start (has_pair c.args.connected.now) c.loop-a.a c.args.edges.now c.loop-a.list _ (search (rules, arith)) c.loop-a.invariant

pub loop-b-preserved : goal.loop-b-preserved
loop-b-preserved c =
    let edges = c.args.edges.now in
    let pair = has_pair c.args.connected.now in
    let within : c.loop-b.b < length edges = search (rules, arith) in
    with_more pair c.loop-a.a c.loop-b.b edges (sessions_from pair (c.loop-a.a + 1) (drop (c.loop-a.a + 1) edges)) c.loop-b.list c.push_some.new.list _ within c.loop-b.invariant
    (c.in_ok-push_some.ensures ∙ ap (λ (f : Option Fault). c.loop-b.list ++ with_fault f [])
    (c.where_so.ensures ∙ ap (λ (b : Bool). where_so b (fault.Session (record { 0 = c.loop-a.a }) (record { 0 = c.loop-b.b }))) c.has.ensures))

pub loop-a-preserved : goal.loop-a-preserved
loop-a-preserved c =
    let edges = c.args.edges.now in
    let pair = has_pair c.args.connected.now in
    let past : length edges ≤ c.loop-b.b = search (rules, arith) in
    with_end pair c.loop-a.a c.loop-b.b edges (sessions_from pair (c.loop-a.a + 1) (drop (c.loop-a.a + 1) edges)) c.loop-b.list _ past c.loop-b.invariant

pub returns : goal.returns
returns c = sessions_end (has_pair c.args.connected.now) c.loop-a.a c.args.edges.now c.loop-a.list _ (search (rules, arith)) c.loop-a.invariant
