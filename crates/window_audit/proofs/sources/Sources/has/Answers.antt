use Rattle.std.proofs.Common.{◌∙◌, List, ap}
use Rattle.window_audit.specs.Sources.{has_source}
use Rattle.window_audit.specs.declared.source.Source.{Source}
use Rattle.window_audit.proofs.SourceLemmas.{found_source}
use Rattle.window_audit.proofs.sources.Sources.has.Goals as goal

pub returns : goal.returns
returns c =
    c.contains.ensures
    ∙ (found_source c.self.inside.set.keys (record { service = c.args.service.0; address = c.args.address })
    ∙ ap (λ (xs : List Source). has_source xs c.args.service.0 c.args.address.0) c.self.view_is)
