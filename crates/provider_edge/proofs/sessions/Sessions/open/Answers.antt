-- Nothing is kept.
use Rattle.std.proofs.Common.{◌∙◌, ap, arith}
use Rattle.provider_edge.proofs.SessionsLemmas.{later_nothing, watched_first}
use Rattle.provider_edge.specs.Sessions.{all_later}
use Rattle.provider_edge.proofs.sessions.Sessions.open.Goals as goal

pub invariant_of-result : goal.invariant_of-result
invariant_of-result c = watched_first c.new.result 0 c.args.count c.in_ok-none_kept.field-0.items c.new.ensures (omega arith) c.in_ok-none_kept.ensures

pub returns : goal.returns
returns c = ap (all_later 0) c.in_ok-none_kept.ensures ∙ later_nothing 0 c.args.count
