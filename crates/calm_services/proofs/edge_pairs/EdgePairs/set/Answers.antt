use Rattle.std.proofs.Common.{◌∙◌, ℕ, List, ap, arith}
use Rattle.calm_services.specs.EdgePairs.{holds_number}
use Rattle.calm_services.proofs.PairLemmas.{set_same, set_other}
use Rattle.calm_services.proofs.edge_pairs.EdgePairs.set.Goals as goal

pub returns-clause-it : goal.returns-clause-it
returns-clause-it c = set_same c.self.inside.rows c.args.number c.requires (omega arith)

pub returns-clause-others : goal.returns-clause-others
returns-clause-others c n ne =
    set_other c.self.inside.rows c.args.number n c.requires (omega arith) ne ∙ ap (λ (rows : List ℕ). holds_number rows n) c.self.view_is
