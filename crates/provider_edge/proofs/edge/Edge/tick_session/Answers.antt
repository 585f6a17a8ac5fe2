use Rattle.std.proofs.Common.{refl}
use Rattle.session_core.specs.Table.{Ticked}
use Rattle.provider_edge.proofs.TickLemmas.{passed_by}
use Rattle.provider_edge.specs.Lists.{seen}
use Rattle.provider_edge.proofs.edge.Edge.tick_session.Goals as goal

pub returns-then-is_apart-clause-step : goal.returns-then-is_apart-clause-step
returns-then-is_apart-clause-step g c = λ told agrees.
    passed_by told c.args.peer Ticked (seen c.args.self.now) (g.L.Link.calls c.args.work.now.link.now) c.args.work.now.effects.now.list
    (c.if-is_apart.ensures.absent refl) (c.if-is_apart.ensures.untold refl)
