use Rattle.std.proofs.Common.{arith}
use Rattle.vplsnet.proofs.StreamLemmas.{stream_faulty, stream_left}
use Rattle.vplsnet.proofs.decoder.Decoder.write.Goals as goal

pub outcome_with-requires : goal.outcome_with-requires
outcome_with-requires g c = c.in-Ok.ensures.left.within

pub returns-in-Ok : goal.returns-in-Ok
returns-in-Ok g c = stream_left _ _ _ _ _ _ _ _ _ (λ i. omega (arith, c.type_inv.octets i)) c.requires.empty c.in-Ok.ensures.left c.outcome_with.ensures c.flush_page.ensures

pub returns-in-Err-Fault : goal.returns-in-Err-Fault
returns-in-Err-Fault g c = stream_faulty _ _ _ _ _ _ _ _ _ _
    (λ i. omega (arith, c.type_inv.octets i)) c.requires.empty c.in-Err-Fault.field-0-is c.in-Err-Fault.ensures.stopped c.outcome_at.ensures c.flush_page-in-Err-Fault.ensures
