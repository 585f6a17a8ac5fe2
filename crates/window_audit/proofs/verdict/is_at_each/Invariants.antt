use Rattle.std.proofs.Common.{◌≡◌, ◌<◌, ℕ}
use Rattle.hvpls_spokes.specs.PortSet.{holds_port}
use Rattle.window_audit.specs.Verdict.{is_owed_at}
use Rattle.window_audit.proofs.verdict.is_at_each.Given as goal

abbrev pub invariant-loop-circuit : goal.invariant-loop-circuit
invariant-loop-circuit l = (c : ℕ) → c < l.circuit → holds_port l.at c ≡ is_owed_at l.plan l.sites c
