-- What a call makes in which an edge may speak.
use Rattle.std.specs.Prelude.{List, Result}
use Rattle.net_base.specs.declared.outside.link_call.LinkCall.{LinkCall}
use Rattle.pw_messages.specs.LinkAnswers.{Agrees, Answers}
use Rattle.independent_model.specs.declared.indep_stop.IndepStop.{IndepStop}
use Rattle.independent_model.specs.Work.{CallsGoOn, Comes, IndepOutcome, NeverRefused}
use Rattle.independent_mode.specs.Lists.{IndepLists, KeepsIndependent, independent_seen}

-- It is this work, by what the link answered: the plan stays, the calls of the link go on, and nothing is refused.
pub record Speaks {T : Type 0} (old new : IndepLists) (before after : List LinkCall) (result : Result T IndepStop) (work : Answers → IndepOutcome) : Type 0 where
  pub keeps : KeepsIndependent old new
  pub goes : CallsGoOn before after
  pub never : NeverRefused result
  pub step : (told : Answers) → Agrees told after → Comes result (independent_seen new) after (work told)
