use Rattle.std.proofs.Common.{arith}
use Rattle.vplsnet.proofs.StreamLemmas.{fed_all, fed_none, fed_on, fed_stopped}
use Rattle.vplsnet.proofs.decoder.Decoder.take_all.Goals as goal

pub feeding-init : goal.feeding-init
feeding-init g c = fed_none _ _ _ c.requires.none

pub feeding-preserved : goal.feeding-preserved
feeding-preserved g c = fed_on _ _ _ _ _ _ _ _ _ _ c.feeding.invariant
    (record { before = grind (arith); piece_is = c.piece_at.ensures; count = c.feed-at.ensures.count; fed = c.feed-at.ensures.held })
    c.in-Ok.ensures.going c.in-Ok.ensures.pending c.in-Ok.ensures.on

pub returns-in-Err-clause-stopped : goal.returns-in-Err-clause-stopped
returns-in-Err-clause-stopped g c = fed_stopped _ _ _ _ _ _ c.in-Err.stop _ _ _ c.feeding.invariant
    (record { before = grind (arith); piece_is = c.piece_at.ensures; count = c.feed-at.ensures.count; fed = c.feed-at.ensures.held })
    c.in-Err.ensures.stopped

pub returns-clause-left : goal.returns-clause-left
returns-clause-left g c = fed_all _ _ _ _ _ _ c.feeding.invariant (grind (arith)) c.held.ensures.count
