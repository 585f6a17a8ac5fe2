use Rattle.std.proofs.Common.{◌∙◌, ap}
use Rattle.edge_model.specs.declared.end_place.EndPlace.{EndPlace}
use Rattle.edge_model.specs.Role.{role_at}
use Rattle.pw_signalling.specs.AnyEnd.{end_of}
use Rattle.provider_edge.proofs.MendLemmas.{down_read, down_untold}
use Rattle.provider_edge.specs.Lists.{seen}
use Rattle.provider_edge.proofs.edge.Edge.down_of.Goals as goal

pub returns : goal.returns
returns c =
    down_read c.args.self.now c.args.slot c.place_at-place.result (end_of c.end_in-2.result.now) c.role_of-role.result c.bits_of.result c.why_down.result
    c.place_at-place.ensures.place c.end_in-2.ensures.end
    (c.role_of-role.ensures ∙ ap (λ (p : EndPlace). role_at c.args.self.now.plan (seen c.args.self.now) p) c.place_at-place.ensures.place) (c.bits_of.ensures.bits) c.why_down.ensures.cause

pub returns-then-not-has_told : goal.returns-then-not-has_told
returns-then-not-has_told c = down_untold c.args.self.now c.args.slot (end_of c.end_in.result.now) c.has_told.result c.end_in.ensures.end c.has_told.ensures c.if-not-has_told.true
