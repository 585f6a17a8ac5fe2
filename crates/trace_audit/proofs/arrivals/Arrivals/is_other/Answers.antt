use Rattle.std.proofs.Common.{◌∙◌, ap}
use Rattle.trace_audit.specs.Arrivals.{ArrivalLists, entered_of, has_other}
use Rattle.trace_audit.proofs.ArrivalLemmas.{any_key}
use Rattle.trace_audit.proofs.arrivals.Arrivals.is_other.Goals as goal

pub returns : goal.returns
returns c = c.contains.ensures ∙ (any_key c.self.inside.others.keys c.args.came.now ∙ ap (λ (a : ArrivalLists). has_other a.others (entered_of c.args.came.now)) c.self.view_is)
