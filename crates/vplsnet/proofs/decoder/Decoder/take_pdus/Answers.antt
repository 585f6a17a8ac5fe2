use Rattle.vplsnet.proofs.StreamLemmas.{taken_going, taken_on}
use Rattle.vplsnet.proofs.decoder.Decoder.take_pdus.Goals as goal

pub taking-preserved : goal.taking-preserved
taking-preserved g c = record {
  going = taken_going c.in_ok-take_pdu.field-0 _ _ _ _ _ c.if-not-branch.false c.taking.invariant.going c.requires.few c.in_ok-take_pdu.ensures.taken;
  on = taken_on c.in_ok-take_pdu.field-0 _ _ _ _ _ _ _ c.if-not-branch.false c.taking.invariant.going c.requires.few c.taking.invariant.on c.in_ok-take_pdu.ensures.taken;
}
