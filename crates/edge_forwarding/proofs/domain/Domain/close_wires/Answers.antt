-- One more port is passed, which forwards no more where it is a wire's; at the end all ports are passed.
use Rattle.std.proofs.Common.{◌∙◌, ◌&&◌, List, length, nat_eq, not, slice_get, ap, arith}
use Rattle.hvpls_spokes.specs.declared.port.Port.{Port}
use Rattle.hvpls_spokes.specs.PortSet.{holds_port}
use Rattle.vsi_bridge.specs.BridgeState.{BridgeState}
use Rattle.hvpls_spokes.specs.Port.{is_wire}
use Rattle.edge_forwarding.proofs.DomainLemmas.{closed_end, closed_next}
use Rattle.edge_forwarding.proofs.domain.Domain.close_wires.Goals as goal

pub loop-port-preserved : goal.loop-port-preserved
loop-port-preserved c = record {
  bridge = c.close.ensures.bridge ∙ c.loop-port.invariant.bridge;
  forwarding = closed_next c.args.self.now.bridge.ports (holds_port c.args.self.now.forwarding) (holds_port c.loop-port.self.forwarding)
      (holds_port c.close.new.self.forwarding) c.loop-port.port c.loop-port.invariant.forwarding
      (λ p. c.close.ensures.forwarding p ∙ ap (λ (b : BridgeState). holds_port c.loop-port.self.forwarding p && not
      (nat_eq p c.loop-port.port && is_wire (slice_get b.ports c.loop-port.port))) c.loop-port.invariant.bridge);
}

pub returns : goal.returns
returns c = record {
  bridge = c.loop-port.invariant.bridge;
  forwarding = closed_end c.args.self.now.bridge.ports (holds_port c.args.self.now.forwarding) (holds_port c.loop-port.self.forwarding) c.loop-port.port
      (omega (arith, c.loop-port-test.false, c.loop-port.auto.port-end, c.len-port-end.ensures.len, ap (λ (ports : List Port). length ports) c.ports.ensures)) c.loop-port.invariant.forwarding;
}
