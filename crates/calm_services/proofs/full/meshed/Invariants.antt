use Rattle.std.proofs.Common.{◌≡◌, ◌<◌, ◌||◌, ℕ, drop}
use Rattle.net_base.specs.plan.Roles.{any_wire}
use Rattle.calm_services.specs.Calm.{meshes_where}
use Rattle.calm_services.specs.EdgePairs.{has_pair}
use Rattle.calm_services.proofs.full.meshed.Given as goal

abbrev pub invariant-loop-place : goal.invariant-loop-place
invariant-loop-place g l = (x y : ℕ) → x < 64 → y < 64
    → any_wire (meshes_where (g.N.PlannedNetwork.carries l.network) l.service x y) l.place (drop l.place l.wires) || has_pair l.pairs x y
    ≡ any_wire (meshes_where (g.N.PlannedNetwork.carries l.network) l.service x y) 0 l.wires
