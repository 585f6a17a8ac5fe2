-- An end that takes the content is bound. One that does not loses its binding and keeps its label, and the label that came is released.
use Rattle.std.proofs.Common.{◌∙◌, None}
use Rattle.pw_signalling.specs.Rows.{unbound}
use Rattle.peer_dialogue.proofs.SettleLemmas.{map_on}
use Rattle.pw_ends.specs.Ends.{place_of}
use Rattle.edge_model.specs.Signal.{end_of_fec}
use Rattle.provider_edge.proofs.GivenLemmas.{changing_keeps, keeps_unbound}
use Rattle.provider_edge.proofs.RowLemmas.{bound_known, bound_not, named_some}
use Rattle.provider_edge.specs.Lists.{seen}
use Rattle.provider_edge.proofs.edge.Edge.hear_mapping.Goals as goal

pub returns-then-takes_content-clause-step : goal.returns-then-takes_content-clause-step
returns-then-takes_content-clause-step g c = λ told agrees.
    bound_known c.args.self.now told c.args.peer c.args.fec.now c.args.binding.now (end_of_fec c.args.self.now.plan (seen c.args.self.now) c.args.peer c.args.fec.now)
    (place_of c.args.self.now.ends c.in-Some.slot) c.takes_content.result (seen c.bind.new.self) (g.L.Link.calls c.args.work.now.link.now) c.args.work.now.effects.now.list
    (named_some c.slot_of.result c.in-Some.slot c.args.self.now.ends _ (c.slot_of.ensures.named) c.in-Some.is)
    c.takes_content.ensures.takes c.if-takes_content.true c.bind.ensures.step

pub returns-clause-step : goal.returns-clause-step
returns-clause-step g c = map_on _ _ c.release-2.result
    (λ put. λ told agrees.
    bound_not c.args.self.now told c.args.peer c.args.fec.now c.args.binding.now (end_of_fec c.args.self.now.plan (seen c.args.self.now) c.args.peer c.args.fec.now)
    (place_of c.args.self.now.ends c.in-Some.slot) c.takes_content.result (seen c.change.new.self) (g.L.Link.calls c.args.work.now.link.now) c.args.work.now.effects.now.list _
    (named_some c.slot_of.result c.in-Some.slot c.args.self.now.ends _ (c.slot_of.ensures.named) c.in-Some.is)
    c.takes_content.ensures.takes c.if-takes_content.false
    (c.change.ensures.step ∙ changing_keeps (unbound None) (place_of c.args.self.now.ends c.in-Some.slot) (seen c.args.self.now) (keeps_unbound None)) (put told agrees))
    c.release-2.ensures.step
