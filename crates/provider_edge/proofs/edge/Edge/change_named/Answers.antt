-- The end that the PW ID names is changed and keeps its label, and without such an end nothing is; without a PW ID each end beside the peer
-- is changed.
use Rattle.std.proofs.Common.{◌∙◌, ℕ, Option, ap, sym}
use Rattle.pw_ends.specs.Changes.{changed}
use Rattle.pw_ends.specs.Ends.{place_of}
use Rattle.edge_model.specs.EndPlaces.{end_named}
use Rattle.edge_model.specs.Signal.{with_named}
use Rattle.provider_edge.proofs.GivenLemmas.{changing_keeps}
use Rattle.provider_edge.proofs.RowLemmas.{named_none, named_some, one_none, one_some, with_named_some}
use Rattle.provider_edge.specs.Lists.{seen}
use Rattle.provider_edge.proofs.edge.Edge.change_named.Goals as goal

pub returns-in-Some-slot_named-clause-step : goal.returns-in-Some-slot_named-clause-step
returns-in-Some-slot_named-clause-step c =
    with_named_some c.args.self.now.plan c.args.peer c.args.fec.now (changed c.args.one.now) (changed c.args.all.now) c.args.fec.now.pw_id c.in-Some.pw_id c.args.self.now
    (seen c.change.new.self) c.in-Some.is
    (one_some (changed c.args.one.now) (end_named c.args.self.now.plan c.args.self.now.me c.args.peer c.in-Some.pw_id) (place_of c.args.self.now.ends c.in-Some-slot_named.slot)
    (seen c.args.self.now) (seen c.change.new.self)
    (named_some c.slot_named.result c.in-Some-slot_named.slot c.args.self.now.ends _ c.slot_named.ensures.named c.in-Some-slot_named.is)
    (c.change.ensures.step ∙ changing_keeps (changed c.args.one.now) (place_of c.args.self.now.ends c.in-Some-slot_named.slot) (seen c.args.self.now) c.requires.one))

pub returns-in_default-clause-step : goal.returns-in_default-clause-step
returns-in_default-clause-step c =
    with_named_some c.args.self.now.plan c.args.peer c.args.fec.now (changed c.args.one.now) (changed c.args.all.now) c.args.fec.now.pw_id c.in-Some.pw_id c.args.self.now
    (seen c.args.self.now) c.in-Some.is
    (one_none (changed c.args.one.now) (end_named c.args.self.now.plan c.args.self.now.me c.args.peer c.in-Some.pw_id) (seen c.args.self.now)
    (named_none c.slot_named.result c.args.self.now.ends _ c.slot_named.ensures.named c.in_default.is))

pub returns-in-None-clause-step : goal.returns-in-None-clause-step
returns-in-None-clause-step c =
    c.change_beside.ensures.step
    ∙ ap (λ (x : Option ℕ). with_named c.args.self.now.plan c.args.peer c.args.fec.now (changed c.args.one.now) (changed c.args.all.now) x (seen c.args.self.now)) (sym c.in-None.is)
