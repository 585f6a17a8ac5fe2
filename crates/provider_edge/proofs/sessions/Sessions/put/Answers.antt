-- The ticks that have passed are counted before, and no more may pass than the new session lets.
use Rattle.std.proofs.Common.{◌≤◌, ◌<◌, ◌∙◌, List, Option, ap, length, slice_set, subst, sym, arith}
use Rattle.edge_model.specs.State.{Peering}
use Rattle.provider_edge.proofs.SessionsLemmas.{later_none, watched_set}
use Rattle.provider_edge.specs.Sessions.{quiet_for}
use Rattle.provider_edge.proofs.sessions.Sessions.put.Goals as goal

pub invariant_of-self : goal.invariant_of-self
invariant_of-self c =
    let fewer : c.with_one-self-inside.result ≤ c.self.inside.spare = grind (arith, c.with_one-self-inside.ensures) in
    let quiet : c.with_one-self-inside.result ≤ quiet_for c.args.kept = grind (arith, c.with_one-self-inside.ensures) in
    watched_set c.self.inside.standing c.with_kept-self-inside.result c.self.inside.passed c.self.inside.spare c.with_one-self-inside.result c.args.peer.0 c.self.inside.kept.items c.pass_all.new.kept.items c.args.kept
    c.self.invariant c.pass_all.ensures fewer quiet c.with_kept-self-inside.ensures
    (subst (λ (l : List (Option Peering)). c.args.peer.0 < length l) (sym (c.pass_all.ensures ∙ c.self.view_is)) c.requires)

pub returns : goal.returns
returns c =
    later_none (slice_set c.pass_all.new.kept.items c.args.peer.0 c.args.kept)
    ∙ ap (λ (l : List (Option Peering)). slice_set l c.args.peer.0 c.args.kept) (c.pass_all.ensures ∙ c.self.view_is)
