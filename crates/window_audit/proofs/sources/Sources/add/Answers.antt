use Rattle.std.proofs.Common.{◌==◌, ◌&&◌, ◌∙◌, List, true, ap, cond}
use Rattle.std.specs.Str.{bytes_eq}
use Rattle.window_audit.specs.Sources.{has_source}
use Rattle.window_audit.specs.declared.source.Source.{Source}
use Rattle.window_audit.proofs.SourceLemmas.{put_one}
use Rattle.window_audit.proofs.sources.Sources.add.Goals as goal

pub returns : goal.returns
returns c = λ other address.
    put_one c.self.inside.set.keys c.insert.new.self.keys (record { service = c.args.service.0; address = c.args.from }) c.in_ok-insert.ensures.updates.0 other address
    ∙ ap (λ (xs : List Source). cond (c.args.service.0 == other.0 && bytes_eq c.args.from.0 address.0) true (has_source xs other.0 address.0)) c.self.view_is
