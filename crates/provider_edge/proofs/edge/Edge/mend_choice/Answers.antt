-- A spoke that is not newly chosen tells nothing; one that is puts a withdrawal with an empty list of addresses.
use Rattle.std.proofs.Common.{None}
use Rattle.pw_ends.specs.Ends.{place_of}
use Rattle.edge_forwarding.specs.Views.{view}
use Rattle.peer_dialogue.proofs.SettleLemmas.{map_ok}
use Rattle.provider_edge.proofs.MendLemmas.{choice_stays, choice_tells}
use Rattle.provider_edge.specs.AtWork.{at_work}
use Rattle.provider_edge.specs.Lists.{seen}
use Rattle.provider_edge.proofs.edge.Edge.mend_choice.Goals as goal

pub returns-then-not-is_new_choice-clause-step : goal.returns-then-not-is_new_choice-clause-step
returns-then-not-is_new_choice-clause-step g c = λ told agrees.
    choice_stays c.args.self.now.plan told (view None c.args.chosen.now) (place_of c.args.self.now.ends c.args.slot) (seen c.args.self.now)
    (g.L.Link.calls c.args.work.now.link.now) c.args.work.now.effects.now.list c.is_new_choice.result
    (c.is_new_choice.ensures) c.if-not-is_new_choice.true

pub returns-clause-step : goal.returns-clause-step
returns-clause-step g c =
    map_ok _ _ c.tell_piece.result (λ failed said. λ told agrees.
    choice_tells c.args.self.now.plan told (view None c.args.chosen.now) (place_of c.args.self.now.ends c.args.slot) (seen c.args.self.now)
    (g.L.Link.calls c.args.work.now.link.now) c.args.work.now.effects.now.list c.is_new_choice.result
    (record { work = at_work g.L.Link.calls c.tell_piece.new.self c.tell_piece.new.work; failed = failed })
    (c.is_new_choice.ensures) c.if-not-is_new_choice.false (said told agrees))
    c.tell_piece.ensures.step
