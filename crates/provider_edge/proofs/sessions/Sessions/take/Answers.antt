-- The ticks that have passed are counted before.
use Rattle.std.proofs.Common.{◌<◌, ◌∙◌, List, None, Option, ap, length, slice_set, subst, sym, arith}
use Rattle.edge_model.specs.State.{Peering}
use Rattle.provider_edge.proofs.SessionsLemmas.{later_none, watched_few, watched_set}
use Rattle.provider_edge.specs.Sessions.{AreWatched, all_later}
use Rattle.provider_edge.proofs.sessions.Sessions.take.Goals as goal

pub invariant_of-self : goal.invariant_of-self
invariant_of-self c =
    subst (λ (x : Option Peering). AreWatched c.without-self-inside.result 0 c.self.inside.spare (slice_set c.pass_all.new.kept.items c.args.peer.0 x)) (sym c.take.ensures.after)
    (watched_set c.self.inside.standing c.without-self-inside.result c.self.inside.passed c.self.inside.spare c.self.inside.spare c.args.peer.0 c.self.inside.kept.items c.pass_all.new.kept.items None
    c.self.invariant c.pass_all.ensures (omega arith)
    (omega (arith, watched_few c.self.inside.standing c.self.inside.passed c.self.inside.spare c.self.inside.kept.items c.self.invariant)) c.without-self-inside.ensures
    (subst (λ (l : List (Option Peering)). c.args.peer.0 < length l) (sym (c.pass_all.ensures ∙ c.self.view_is)) c.requires))

pub returns-clause-rest : goal.returns-clause-rest
returns-clause-rest c =
    ap (λ (x : Option Peering). all_later 0 (slice_set c.pass_all.new.kept.items c.args.peer.0 x)) c.take.ensures.after
    ∙ (later_none (slice_set c.pass_all.new.kept.items c.args.peer.0 None)
    ∙ ap (λ (l : List (Option Peering)). slice_set l c.args.peer.0 None) (c.pass_all.ensures ∙ c.self.view_is))
