-- The ends own what they owned.
use Rattle.std.proofs.Common.{map}
use Rattle.pw_signalling.specs.AnyEnd.{end_of}
use Rattle.pw_ends.proofs.KeptLemmas.{kept_ticked}
use Rattle.pw_ends.proofs.pw_ends.PwEnds.tick.Goals as goal

pub invariant_of-self : goal.invariant_of-self
invariant_of-self c = record {
  kept = kept_ticked c.self.inside.places (map end_of c.self.inside.ends.items) c.self.inside.labels c.tick.new.self c.self.inside.owned c.self.invariant.kept c.tick.ensures.space;
  untold = c.self.invariant.untold;
}
