-- Nothing is kept, so that no session has anything to do.
use Rattle.std.proofs.Common.{◌∙◌, ap, map}
use Rattle.peer_dialogue.specs.Peering.{gone}
use Rattle.provider_edge.proofs.SessionsLemmas.{later_gone, watched_gone}
use Rattle.provider_edge.specs.Sessions.{all_later}
use Rattle.provider_edge.proofs.sessions.Sessions.clear.Goals as goal

pub invariant_of-self : goal.invariant_of-self
invariant_of-self c =
    watched_gone c.self.inside.standing c.new-self-inside.result c.self.inside.passed c.self.inside.spare c.self.inside.kept.items c.drop_all.new.kept.items c.self.invariant c.new-self-inside.ensures c.drop_all.ensures

pub returns : goal.returns
returns c = ap (all_later 0) c.drop_all.ensures ∙ (later_gone c.self.inside.kept.items c.self.inside.passed ∙ ap (map gone) c.self.view_is)
