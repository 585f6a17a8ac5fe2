use Rattle.std.proofs.Common.{◌≡◌, ◌<◌, ◌||◌, ℕ, drop}
use Rattle.net_base.specs.plan.Roles.{any_wire}
use Rattle.survey_reach.specs.Reach.{sound_mesh}
use Rattle.survey_reach.specs.Words.{has_pair}
use Rattle.survey_reach.proofs.reach.meshes.Given as goal

abbrev pub invariant-loop-wire : goal.invariant-loop-wire
invariant-loop-wire g l = (a b : ℕ) → a < 64 → b < 64
    → has_pair l.pairs a b || any_wire (sound_mesh g.test l.service a b) l.wire (drop l.wire l.wires) ≡ any_wire (sound_mesh g.test l.service a b) 0 l.wires
