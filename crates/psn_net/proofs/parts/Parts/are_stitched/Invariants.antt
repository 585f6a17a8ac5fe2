use Rattle.std.proofs.Common.{◌≡◌, drop}
use Rattle.network_model.specs.Calm.{inner_stitched}
use Rattle.psn_net.specs.Lists.{network_seen}
use Rattle.psn_net.proofs.parts.Parts.are_stitched.Given as goal

abbrev pub invariant-loop-place : goal.invariant-loop-place
invariant-loop-place l = inner_stitched l.self.plan (network_seen l.self) l.wire.0 (drop l.place l.path) ≡ inner_stitched l.self.plan (network_seen l.self) l.wire.0 l.path
