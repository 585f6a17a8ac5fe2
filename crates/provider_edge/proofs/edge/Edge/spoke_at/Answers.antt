use Rattle.std.proofs.Common.{◌≡◌, ◌∙◌, ap}
use Rattle.edge_model.specs.declared.end_place.EndPlace.{EndPlace}
use Rattle.edge_model.specs.Spokes.{is_usable}
use Rattle.pw_ends.specs.Ends.{place_of}
use Rattle.pw_signalling.specs.AnyEnd.{end_of}
use Rattle.provider_edge.proofs.SpokeLemmas.{usable_read}
use Rattle.provider_edge.specs.Lists.{seen}
use Rattle.provider_edge.proofs.edge.Edge.spoke_at.Goals as goal

pub returns : goal.returns
returns c =
    let usable : c.is_none.result ≡ is_usable (seen c.args.self.now) (place_of c.args.self.now.ends c.args.slot) =
    usable_read c.args.self.now c.args.slot c.place_at-place.result c.bits_of-bits.result (end_of c.end_in.result.now) c.why_down-down.result c.is_none.result
    c.place_at-place.ensures.place (c.bits_of-bits.ensures.bits) c.end_in.ensures.end c.why_down-down.ensures.cause c.is_none.ensures in
    λ i. record {
      priority = (c.priority_of.ensures ∙ ap (λ (p : EndPlace). (seen c.args.self.now).priority p.wire.0) c.place_at-place.ensures.place) i;
      usable = usable i;
    }
