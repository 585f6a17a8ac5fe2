use Rattle.std.proofs.Common.{◌∙◌, ℕ, List, ap}
use Rattle.hvpls_spokes.specs.PortSet.{holds_port}
use Rattle.vsi_bridge.specs.Targets.{is_target, known_port}
use Rattle.edge_forwarding.proofs.domain.Domain.hear.Goals as goal

pub returns-clause-targets : goal.returns-clause-targets
returns-clause-targets c = λ p.
    c.decide.ensures.targets p
    ∙ ap (λ (octets : List ℕ). is_target c.args.self.now.bridge.ports (holds_port c.args.self.now.forwarding) c.args.arrival
    (known_port c.decide.new.self.entries (record { 0 = octets })) p) c.address_at-destination.ensures
