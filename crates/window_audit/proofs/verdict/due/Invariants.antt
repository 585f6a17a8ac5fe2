use Rattle.std.proofs.Common.{◌≡◌, ◌&&◌, ℕ, nat_lt}
use Rattle.hvpls_spokes.specs.PortSet.{holds_port}
use Rattle.window_audit.proofs.verdict.due.Given as goal

abbrev pub invariant-loop-circuit : goal.invariant-loop-circuit
invariant-loop-circuit l = (c : ℕ) → holds_port l.due c ≡ (nat_lt c l.circuit && holds_port l.sites c)
