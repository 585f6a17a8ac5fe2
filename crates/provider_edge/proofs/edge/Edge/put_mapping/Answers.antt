-- An end that may not tell, wishes nothing, or finds no label left tells nothing; else it advertises the label that it took, and its
-- mapping is put.
use Rattle.std.proofs.Common.{◌∙◌, ap}
use Rattle.pw_messages.specs.Content.{mapping}
use Rattle.edge_model.specs.declared.end_place.EndPlace.{EndPlace}
use Rattle.edge_model.specs.Mend.{wish}
use Rattle.edge_model.specs.Session.{says}
use Rattle.peer_dialogue.proofs.SettleLemmas.{map_ok}
use Rattle.pw_ends.specs.Ends.{place_of}
use Rattle.provider_edge.proofs.MendLemmas.{untold_stays}
use Rattle.provider_edge.proofs.RowLemmas.{advertises_none, advertises_some, wishes_none, wishes_some}
use Rattle.provider_edge.specs.AtWork.{at_work}
use Rattle.provider_edge.specs.Lists.{seen}
use Rattle.provider_edge.proofs.edge.Edge.put_mapping.Goals as goal

pub returns-in_default-clause-step : goal.returns-in_default-clause-step
returns-in_default-clause-step g c = λ told agrees.
    wishes_none told (place_of c.args.self.now.ends c.args.slot) (wish c.args.self.now.plan (seen c.args.self.now) (place_of c.args.self.now.ends c.args.slot)) c.wish.result
    (at_work g.L.Link.calls c.args.self.now c.args.work.now)
    c.wish.ensures.wish c.in_default.is

pub returns-in_default-advertise-clause-step : goal.returns-in_default-advertise-clause-step
returns-in_default-advertise-clause-step g c = λ told agrees.
    let none = c.advertise.ensures.none c.in_default-advertise.is in
    wishes_some told (place_of c.args.self.now.ends c.args.slot)
    (wish c.args.self.now.plan (seen c.args.self.now) (place_of c.args.self.now.ends c.args.slot)) c.wish.result c.in-Some.content (at_work g.L.Link.calls c.args.self.now c.args.work.now) _
    c.wish.ensures.wish c.in-Some.is
    (advertises_none told (place_of c.args.self.now.ends c.args.slot) c.in-Some.content (seen c.args.self.now) (seen c.advertise.new.self)
    (g.L.Link.calls c.args.work.now.link.now) c.args.work.now.effects.now.list none.0 none.1)

pub returns-clause-step : goal.returns-clause-step
returns-clause-step g c =
    map_ok _ _ c.say.result (λ failed said. λ told agrees.
    let some = c.in-Some-advertise.ensures.step in
    wishes_some told (place_of c.args.self.now.ends c.args.slot)
    (wish c.args.self.now.plan (seen c.args.self.now) (place_of c.args.self.now.ends c.args.slot)) c.wish.result c.in-Some.content (at_work g.L.Link.calls c.args.self.now c.args.work.now)
    (record { work = at_work g.L.Link.calls c.say.new.self c.say.new.work; failed = failed })
    c.wish.ensures.wish c.in-Some.is
    (advertises_some told (place_of c.args.self.now.ends c.args.slot) c.in-Some.content c.in-Some-advertise.label (seen c.args.self.now) (seen c.advertise.new.self)
    (g.L.Link.calls c.args.work.now.link.now) c.args.work.now.effects.now.list
    (record { work = at_work g.L.Link.calls c.say.new.self c.say.new.work; failed = failed })
    some.0 some.1
    (said told agrees ∙ ap (λ (p : EndPlace). says told p.peer (mapping p.pw_id c.in-Some-advertise.label c.in-Some.content)
    (at_work g.L.Link.calls c.advertise.new.self c.args.work.now)) c.place_at-place.ensures.place)))
    c.say.ensures.step

pub returns-then-not-may_tell-clause-step : goal.returns-then-not-may_tell-clause-step
returns-then-not-may_tell-clause-step g c = λ told agrees.
    untold_stays c.args.self.now.plan told (place_of c.args.self.now.ends c.args.slot) c.place_at-place.result (seen c.args.self.now)
    (g.L.Link.calls c.args.work.now.link.now) c.args.work.now.effects.now.list c.may_tell.result
    c.place_at-place.ensures.place c.may_tell.ensures c.if-not-may_tell.true
