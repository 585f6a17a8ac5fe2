-- Ticks at which there is nothing to do.
use Rattle.std.proofs.Common.{◌≡◌, ◌∙◌, ℕ, subst, sym}
use Rattle.session_core.specs.declared.peers.Peers.{Peers}
use Rattle.session_core.specs.State.{SessionView, Stands, EndedBy}
use Rattle.session_core.specs.Ticks.{view_later}
use Rattle.session_core.proofs.TickLemmas.{later_peers}
use Rattle.peer_dialogue.specs.Peering.{StandsBetween}

-- the session stands between the same ends
pub stands_later : (between : Peers) (n : ℕ) (old new : SessionView) → new ≡ view_later n old → StandsBetween between old → StandsBetween between new
stands_later between n old new is stands = subst (StandsBetween between) (sym is) (by old stands) where
  by : (old : SessionView) → StandsBetween between old → StandsBetween between (view_later n old)
  by (Stands s) stands = later_peers n s ∙ stands
  by (EndedBy why) stands = stands
