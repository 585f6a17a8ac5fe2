use Rattle.std.proofs.Common.{◌≤◌, ◌∙◌, ℕ, ap, sym, subst}
use Rattle.hvpls_spokes.specs.PortSet.{holds_port}
use Rattle.hvpls_spokes.specs.declared.port_set.PortSet.{PortSet}
use Rattle.hvpls_spokes.specs.declared.edge_role.Role.TheVariants as role
use Rattle.mac_withdraw.specs.Passing.{is_passed_to}
use Rattle.mac_withdraw.proofs.PassingLemmas.{all_passed, pass_over, put_next}
use Rattle.mac_withdraw.proofs.passing.all_but.Goals.{else-is_passed, then-is_passed}
use Rattle.mac_withdraw.proofs.passing.all_but.Goals as goal

pub loop-port-preserved : goal.loop-port-preserved
loop-port-preserved c = elim c.if-is_passed.branch [
  | then-is_passed w ↦ λ p. ap (λ (s : PortSet). holds_port s p) w.passed-is ∙ put_next (is_passed_to role.Core c.args.ports.now c.args.from) (holds_port c.loop-port.passed) (holds_port w.insert.new.self) c.loop-port.port
      c.loop-port.invariant (sym c.is_passed.ensures ∙ w.if-is_passed.true) w.insert.ensures.it w.insert.ensures.others p
  | else-is_passed w ↦ λ p. ap (λ (s : PortSet). holds_port s p) w.passed-is ∙ pass_over (is_passed_to role.Core c.args.ports.now c.args.from) (holds_port c.loop-port.passed) c.loop-port.port
      c.loop-port.invariant (sym c.is_passed.ensures ∙ w.if-is_passed.false) p
]

pub returns : goal.returns
returns c = all_passed c.args.ports.now c.args.from c.loop-port.port (holds_port c.loop-port.passed)
    (subst (λ (n : ℕ). n ≤ c.loop-port.port) c.len-port-end.ensures.len c.loop-port-test.false) c.loop-port.invariant
