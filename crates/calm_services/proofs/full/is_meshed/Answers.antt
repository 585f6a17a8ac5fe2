use Rattle.std.proofs.Common.{◌==◌, ◌&&◌, ◌||◌, sym}
use Rattle.std.specs.Prelude.{not}
use Rattle.calm_services.specs.EdgePairs.{has_pair, is_core_of}
use Rattle.calm_services.proofs.CalmLemmas.{below_fails}
use Rattle.calm_services.proofs.full.is_meshed.Goals as goal

pub returns-then-not-is_meshed_with : goal.returns-then-not-is_meshed_with
returns-then-not-is_meshed_with c =
    sym (below_fails (λ b. not (is_core_of c.args.edges.now c.args.a.0 && is_core_of c.args.edges.now b) || (c.args.a.0 == b || has_pair c.args.pairs.now c.args.a.0 b)) c.args.count c.loop-b.b c.loop-b-test.true
    (sym c.if-not-is_meshed_with.ensures))
