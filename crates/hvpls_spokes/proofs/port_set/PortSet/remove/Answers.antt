use Rattle.std.proofs.Common.{◌∙◌, ℕ, List, ap, arith}
use Rattle.hvpls_spokes.specs.PortSet.{holds_port}
use Rattle.hvpls_spokes.proofs.PortSetLemmas.{clear_same, clear_other}
use Rattle.hvpls_spokes.proofs.port_set.PortSet.remove.Goals as goal

pub returns-clause-it : goal.returns-clause-it
returns-clause-it c = clear_same c.self.inside.words c.args.port c.requires (omega arith)

pub returns-clause-others : goal.returns-clause-others
returns-clause-others c p ne =
    clear_other c.self.inside.words c.args.port p c.requires (omega arith) ne ∙ ap (λ (words : List ℕ). holds_port words p) c.self.view_is
