use Rattle.std.proofs.Common.{◌∙◌, ap, sym}
use Rattle.provider_edge.proofs.SpokeLemmas.{wires_same}
use Rattle.provider_edge.specs.Spokes.{SpokeLists}
use Rattle.provider_edge.proofs.spokes.Spokes.are_chosen.Goals as goal

pub returns : goal.returns
returns c = λ same. wires_same c.args.chosen.now c.as_slice.result.now (sym c.eq.ensures ∙ same) ∙ (c.as_slice.ensures.value ∙ ap (λ (s : SpokeLists). s.chosen) c.self.view_is)
