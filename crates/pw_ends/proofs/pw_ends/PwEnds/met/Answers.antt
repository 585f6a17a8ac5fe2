-- The ends own what they owned.
use Rattle.std.proofs.Common.{map}
use Rattle.pw_signalling.specs.AnyEnd.{end_of}
use Rattle.pw_ends.proofs.KeptLemmas.{kept_met}
use Rattle.pw_ends.proofs.pw_ends.PwEnds.met.Goals as goal

pub invariant_of-self : goal.invariant_of-self
invariant_of-self c = record {
  kept = kept_met c.args.peer c.self.inside.places (map end_of c.self.inside.ends.items) c.self.inside.labels c.met.new.self c.self.inside.owned c.self.invariant.kept c.met.ensures.space;
  untold = c.self.invariant.untold;
}
