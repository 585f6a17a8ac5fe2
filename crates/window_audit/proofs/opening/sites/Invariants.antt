use Rattle.std.proofs.Common.{◌≡◌, ◌&&◌, ℕ, nat_lt}
use Rattle.hvpls_spokes.specs.PortSet.{holds_port}
use Rattle.seen_network.specs.Seen.{Seen}
use Rattle.seen_state.specs.SeenState.{Knows}
use Rattle.window_audit.specs.Opening.{is_due}
use Rattle.window_audit.proofs.opening.sites.Given as goal

abbrev pub invariant-loop-place : goal.invariant-loop-place
invariant-loop-place l = (seen : Seen) → Knows l.state seen → (p : ℕ) → holds_port l.sites p ≡ (nat_lt p l.place && is_due l.plan seen l.service l.sender p)
