-- Without a FEC, and where it names no end, nothing is done; else what came is cleared by the end that it names.
use Rattle.pw_ends.specs.Ends.{place_of}
use Rattle.peer_dialogue.proofs.SettleLemmas.{map_on}
use Rattle.provider_edge.proofs.RowLemmas.{named_none, named_some}
use Rattle.provider_edge.proofs.ClearLemmas.{end_heard, no_end_heard, no_fec_heard}
use Rattle.provider_edge.specs.AtWork.{at_work}
use Rattle.provider_edge.specs.Lists.{seen}
use Rattle.provider_edge.proofs.edge.Edge.hear_mac_withdraw.Goals as goal

pub returns-in_default-clause-step : goal.returns-in_default-clause-step
returns-in_default-clause-step g c = λ told agrees.
    no_fec_heard c.args.self.now.plan told c.args.peer c.args.fec.now c.args.macs.now (at_work g.L.Link.calls c.args.self.now c.args.work.now) c.in_default.is

pub returns-in_default-slot_of-clause-step : goal.returns-in_default-slot_of-clause-step
returns-in_default-slot_of-clause-step g c = λ told agrees.
    no_end_heard c.args.self.now.plan told c.args.peer c.args.fec.now c.in-Some.fec c.args.macs.now c.in-Some-macs.addresses (seen c.args.self.now)
    (g.L.Link.calls c.args.work.now.link.now) c.args.work.now.effects.now.list c.in-Some.is c.in-Some-macs.is
    (named_none c.slot_of.result c.args.self.now.ends _ (c.slot_of.ensures.named) c.in_default-slot_of.is)

pub returns-clause-step : goal.returns-clause-step
returns-clause-step g c = map_on _ _ c.clear_by.result
    (λ step. λ told agrees.
    end_heard c.args.self.now.plan told c.args.peer c.args.fec.now c.in-Some.fec c.args.macs.now c.in-Some-macs.addresses (place_of c.args.self.now.ends c.in-Some-slot_of.slot)
    (seen c.args.self.now) (g.L.Link.calls c.args.work.now.link.now) c.args.work.now.effects.now.list _
    c.in-Some.is c.in-Some-macs.is (named_some c.slot_of.result c.in-Some-slot_of.slot c.args.self.now.ends _ (c.slot_of.ensures.named) c.in-Some-slot_of.is) (step told agrees))
    c.clear_by.ensures.step
