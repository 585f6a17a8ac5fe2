use Rattle.vplsnet.proofs.WritingLemmas.{front_flushed, rose_flushed}
use Rattle.vplsnet_survey.proofs.EndLemmas.{part_stops}
use Rattle.vplsnet_survey.proofs.put.write_survey.Goals as goal

pub returns-in-Err-NoMemory : goal.returns-in-Err-NoMemory
returns-in-Err-NoMemory g c = part_stops _ _ _ _ c.in-Err-NoMemory.field-0-is c.in-Ok.ensures c.in-Err-NoMemory.ensures

pub returns : goal.returns
returns g c = record {
  front = front_flushed _ _ _ _ c.in-Ok.ensures c.in-Ok-put.ensures c.in-Err-flush.ensures.cut;
  rose = rose_flushed _ _ _ _ c.in-Ok-put.ensures c.in-Err-flush.ensures.cut;
}
