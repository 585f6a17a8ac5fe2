use Rattle.std.proofs.Common.{ap}
use Rattle.net_base.specs.declared.trace.state_name.Reason.TheVariants as reason
use Rattle.peer_dialogue.proofs.SettleLemmas.{lost_at, map_on}
use Rattle.peer_dialogue.proofs.peering.Peering.lose.Goals as goal

pub returns-clause-step : goal.returns-clause-step
returns-clause-step g c = map_on _ _ c.end.result
    (λ gave told edge. lost_at told c.args.peer c.args.self reason.Closed edge (g.L.Link.calls c.args.work.now.link.now)
    (g.L.Link.calls c.end.new.work.link.now) c.args.work.now.effects.now.list c.end.new.work.effects.now.list (ap g.L.Link.calls c.end.ensures.link) gave)
    c.end.ensures.told
