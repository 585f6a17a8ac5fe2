-- The key is among all keys where it is among those that are left.
use Rattle.std.proofs.Common.{◌≡◌, drop, map}
use Rattle.scenario_text.specs.Keys.{is_among}
use Rattle.scenario_text.proofs.keys.is_among.Given as goal

abbrev pub invariant-loop-other : goal.invariant-loop-other
invariant-loop-other l = is_among (map (λ k. k.now) (drop l.other-index l.keys)) l.key ≡ is_among (map (λ k. k.now) l.keys) l.key
