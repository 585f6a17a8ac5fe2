use Rattle.peer_dialogue.proofs.SettleLemmas.{map_on}
use Rattle.provider_edge.proofs.GivenLemmas.{keeps_group_unbound, keeps_unbound}
use Rattle.provider_edge.proofs.RowLemmas.{withdraw_heard}
use Rattle.provider_edge.specs.Lists.{seen}
use Rattle.provider_edge.proofs.edge.Edge.hear_withdraw.Goals as goal

pub change_named-requires : goal.change_named-requires
change_named-requires g c = record { working = c.requires.working; one = keeps_unbound c.args.label.now; all = keeps_group_unbound c.args.fec.now.group }

pub returns-clause-step : goal.returns-clause-step
returns-clause-step g c = map_on _ _ c.release.result
    (λ puts told agrees.
    withdraw_heard c.args.self.now.plan told c.args.peer c.args.fec.now c.args.label.now (seen c.args.self.now) (seen c.change_named.new.self)
    (g.L.Link.calls c.args.work.now.link.now) c.args.work.now.effects.now.list _
    (c.change_named.ensures.step) (puts told agrees))
    c.release.ensures.step
