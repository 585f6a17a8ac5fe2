-- One adjacency more is looked at.
use Rattle.std.proofs.Common.{◌∙◌, false, get_or, refl, arith}
use Rattle.std.proofs.lemmas.List.{length-replicate, length-set}
use Rattle.ldp_discovery.specs.Live.{unknown}
use Rattle.ldp_discovery.proofs.LapsedLemmas.{one_more, started}
use Rattle.ldp_discovery.proofs.adjacencies.lapsing.Goals as goal

pub loop-place-init : goal.loop-place-init
loop-place-init c = record {
  lapsed = λ peer. started 64 peer c.args.known.now;
  size = length-replicate 64 false;
}

pub loop-place-preserved : goal.loop-place-preserved
loop-place-preserved c = record {
  lapsed = one_more c.loop-place.ended c.args.known.now c.loop-place.place (get_or c.args.known.now c.loop-place.place unknown) c.is_lapsing.result
      (omega (arith, c.loop-place.invariant.size, c.loop-place-test.true, c.requires)) refl c.is_lapsing.ensures c.loop-place.invariant.lapsed;
  size = length-set c.loop-place.ended c.loop-place.place c.is_lapsing.result ∙ c.loop-place.invariant.size;
}
