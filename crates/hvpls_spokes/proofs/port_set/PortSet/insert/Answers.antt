use Rattle.std.proofs.Common.{◌∙◌, ℕ, List, ap, arith}
use Rattle.hvpls_spokes.specs.PortSet.{holds_port}
use Rattle.hvpls_spokes.proofs.PortSetLemmas.{set_same, set_other}
use Rattle.hvpls_spokes.proofs.port_set.PortSet.insert.Goals as goal

pub returns-clause-it : goal.returns-clause-it
returns-clause-it c = set_same c.self.inside.words c.args.port c.requires (omega arith)

pub returns-clause-others : goal.returns-clause-others
returns-clause-others c p ne =
    set_other c.self.inside.words c.args.port p c.requires (omega arith) ne ∙ ap (λ (words : List ℕ). holds_port words p) c.self.view_is
