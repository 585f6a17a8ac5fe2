-- One more port is told where the addresses pass to it, and is passed by where they do not; at the end all are, over the same plan.
use Rattle.std.proofs.Common.{◌<◌, ◌≤◌, ◌∙◌, Some, length, ap, refl, sym, arith}
use Rattle.hvpls_spokes.specs.Port.{ports_of}
use Rattle.hvpls_spokes.specs.PortSet.{holds_port}
use Rattle.hvpls_spokes.specs.Role.{role_of}
use Rattle.edge_model.specs.Clear.{tells_at}
use Rattle.peer_dialogue.proofs.SpeakerLemmas.{agrees_before}
use Rattle.provider_edge.proofs.AtWorkLemmas.{works_both}
use Rattle.provider_edge.proofs.BridgeLemmas.{copied_else, copied_if}
use Rattle.provider_edge.proofs.ClearLemmas.{passed_to, passed_to_none, where_kept}
use Rattle.provider_edge.proofs.CopyLemmas.{copied_next, copies_end}
use Rattle.provider_edge.specs.AtWork.{at_work}
use Rattle.provider_edge.proofs.edge.Edge.pass_on.Goals.{then-contains+in_ok-tell_at, else-contains}
use Rattle.provider_edge.proofs.edge.Edge.pass_on.Goals as goal

pub returns-then-is_spoke_edge-clause-step : goal.returns-then-is_spoke_edge-clause-step
returns-then-is_spoke_edge-clause-step g c = λ told agrees.
    passed_to_none c.args.self.now told c.args.addresses.now c.args.service c.args.from c.role_at-role.result
    (role_of c.args.self.now.plan c.args.service c.args.self.now.me) (g.L.Link.calls c.args.work.now.link.now) c.args.work.now.effects.now.list
    c.role_at-role.ensures (c.is_spoke_edge.ensures c.if-is_spoke_edge.true)

pub returns-clause-step : goal.returns-clause-step
returns-clause-step g c = λ told agrees.
    let past : length (ports_of c.args.self.now.plan c.args.service c.args.self.now.me) ≤ c.loop-port.port =
    omega (arith, c.len-port-end.ensures.len, ap length c.in-Some.ensures.some, c.loop-port-test.false) in
    passed_to c.args.self.now told c.args.addresses.now c.args.service c.args.from c.role_at-role.result (Some c.role_at-role.result)
    (role_of c.args.self.now.plan c.args.service c.args.self.now.me) c.in-Some.ports.now (holds_port c.pass_to-passed.result)
    (g.L.Link.calls c.args.work.now.link.now) c.args.work.now.effects.now.list _
    (sym c.role_at-role.ensures) refl c.in-Some.ensures.some c.pass_to-passed.ensures
    (sym (copies_end (holds_port c.pass_to-passed.result) (tells_at c.args.self.now.plan told c.args.addresses.now) c.loop-port.port c.loop-port.port
    (ports_of c.args.self.now.plan c.args.service c.args.self.now.me) _ past) ∙ c.loop-port.invariant.step told agrees)

pub loop-port-preserved : goal.loop-port-preserved
loop-port-preserved g c =
    elim c.if-contains.branch [
      | then-contains+in_ok-tell_at w ↦ rw w.self-is (rw w.work-is (record {
        goes = works_both g.L.Link.calls _ _ _ _ _ _ c.loop-port.invariant.goes w.in_ok-tell_at.ensures.goes;
        step = λ told agrees.
            let within : c.loop-port.port < length (ports_of c.args.self.now.plan c.args.service c.args.self.now.me) =
            omega (arith, c.len-port-end.ensures.len, ap length c.in-Some.ensures.some, c.loop-port-test.true) in
            copied_next (holds_port c.pass_to-passed.result) (tells_at c.args.self.now.plan told c.args.addresses.now) c.loop-port.port
            (ports_of c.args.self.now.plan c.args.service c.args.self.now.me) (at_work g.L.Link.calls c.loop-port.self c.loop-port.work)
            (at_work g.L.Link.calls w.tell_at.new.self w.tell_at.new.work) _ within
            (where_kept c.args.self.now c.loop-port.self told c.args.addresses.now c.args.service c.loop-port.port (holds_port c.pass_to-passed.result c.loop-port.port)
            (at_work g.L.Link.calls c.loop-port.self c.loop-port.work) (at_work g.L.Link.calls w.tell_at.new.self w.tell_at.new.work) c.loop-port.invariant.goes.keeps
            (copied_if (holds_port c.pass_to-passed.result c.loop-port.port) (at_work g.L.Link.calls c.loop-port.self c.loop-port.work) _ _ (sym c.contains.ensures ∙ w.if-contains.true)
            (w.in_ok-tell_at.ensures.step told agrees)))
            (c.loop-port.invariant.step told (agrees_before told _ _ w.in_ok-tell_at.ensures.goes.on.calls agrees));
      }))
      | else-contains w ↦ rw w.self-is (rw w.work-is (record {
        goes = c.loop-port.invariant.goes;
        step = λ told agrees.
            let within : c.loop-port.port < length (ports_of c.args.self.now.plan c.args.service c.args.self.now.me) =
            omega (arith, c.len-port-end.ensures.len, ap length c.in-Some.ensures.some, c.loop-port-test.true) in
            copied_next (holds_port c.pass_to-passed.result) (tells_at c.args.self.now.plan told c.args.addresses.now) c.loop-port.port
            (ports_of c.args.self.now.plan c.args.service c.args.self.now.me) (at_work g.L.Link.calls c.loop-port.self c.loop-port.work)
            (at_work g.L.Link.calls c.loop-port.self c.loop-port.work) _ within
            (where_kept c.args.self.now c.loop-port.self told c.args.addresses.now c.args.service c.loop-port.port (holds_port c.pass_to-passed.result c.loop-port.port)
            (at_work g.L.Link.calls c.loop-port.self c.loop-port.work) (at_work g.L.Link.calls c.loop-port.self c.loop-port.work) c.loop-port.invariant.goes.keeps
            (copied_else (holds_port c.pass_to-passed.result c.loop-port.port) (at_work g.L.Link.calls c.loop-port.self c.loop-port.work) _ (sym c.contains.ensures ∙ w.if-contains.false)))
            (c.loop-port.invariant.step told agrees);
      }))
    ]
