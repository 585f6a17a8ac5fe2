use Rattle.std.proofs.Common.{◌∙◌}
use Rattle.provider_edge.proofs.SessionsLemmas.{later_none}
use Rattle.provider_edge.proofs.sessions.Sessions.look_ahead.Goals as goal

pub returns : goal.returns
returns c = later_none c.pass_all.new.kept.items ∙ (c.pass_all.ensures ∙ c.self.view_is)
