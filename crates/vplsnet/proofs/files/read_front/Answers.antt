-- One more piece of the same file is read behind the others, at most one octet beyond the limit in all; where that one is read, the octets
-- are the file's front.
use Rattle.std.proofs.Common.{arith}
use Rattle.std.proofs.lemmas.Grind.{common_steps}
use Rattle.vplsnet.proofs.FileLemmas.{read_all, read_next, read_beyond}
use Rattle.vplsnet.proofs.ReadLemmas.{reads_more}
use Rattle.vplsnet.proofs.files.read_front.Goals as goal

pub reading-preserved : goal.reading-preserved
reading-preserved g c = record {
  front = read_next _ _ _ _ _ _ _ _ _ _ _ _ c.reading.invariant.reads c.in-Ok.ensures.reads c.len-in-reading-2.ensures c.reading.invariant.front c.in-Ok.ensures.bound c.in-Ok-extend_from_slice.ensures.ok;
  faults = λ name. grind (arith, common_steps, c.reading.invariant.faults name, c.in-Ok.ensures.never_fall name);
  reads = reads_more c.args.name.now c.args.limit _ _ _ _ _ _ c.reading.invariant.reads c.in-Ok.ensures.reads (grind (arith, common_steps));
  within = grind (arith, common_steps);
  size = grind (arith, common_steps);
}

pub returns-clause-front : goal.returns-clause-front
returns-clause-front g c = read_beyond _ _ _ _ c.reading.invariant.front (grind arith)

pub returns-in-Ok-eq0-clause-front : goal.returns-in-Ok-eq0-clause-front
returns-in-Ok-eq0-clause-front g c =
    read_all _ _ _ _ _ _ _ _ _ _ _ c.reading.invariant.reads c.in-Ok-eq0.ensures.reads (grind (arith, common_steps)) c.len-in-reading-2.ensures c.reading.invariant.front
    (grind (arith, common_steps)) (grind (arith, common_steps))

pub returns-in-Err-clause-never_fall : goal.returns-in-Err-clause-never_fall
returns-in-Err-clause-never_fall g c = λ name. grind (arith, c.reading.invariant.faults name, c.in-Err.ensures.never_fall name)

pub returns-in-Ok-eq0-clause-never_fall : goal.returns-in-Ok-eq0-clause-never_fall
returns-in-Ok-eq0-clause-never_fall g c = λ name. grind (arith, c.reading.invariant.faults name, c.in-Ok-eq0.ensures.never_fall name)

pub returns-in-Err-extend_from_slice-clause-never_fall : goal.returns-in-Err-extend_from_slice-clause-never_fall
returns-in-Err-extend_from_slice-clause-never_fall g c = λ name. grind (arith, c.reading.invariant.faults name, c.in-Ok.ensures.never_fall name)

pub returns-clause-never_fall : goal.returns-clause-never_fall
returns-clause-never_fall g c = c.reading.invariant.faults

pub returns-in-Ok-eq0-clause-within : goal.returns-in-Ok-eq0-clause-within
returns-in-Ok-eq0-clause-within g c = c.reading.invariant.within

pub returns-clause-within : goal.returns-clause-within
returns-clause-within g c = c.reading.invariant.within

pub reading-smaller : goal.reading-smaller
reading-smaller g c = grind (arith, common_steps)

pub returns-in-Err-clause-fault : goal.returns-in-Err-clause-fault
returns-in-Err-clause-fault g c = λ is. grind (arith, c.reading.invariant.faults c.args.name.now, c.in-Err.ensures.cause.failed)

pub returns-in-Err-clause-reads : goal.returns-in-Err-clause-reads
returns-in-Err-clause-reads g c = reads_more c.args.name.now c.args.limit _ _ _ _ _ _ c.reading.invariant.reads c.in-Err.ensures.reads (grind (arith, common_steps))

pub returns-in-Ok-eq0-clause-reads : goal.returns-in-Ok-eq0-clause-reads
returns-in-Ok-eq0-clause-reads g c = reads_more c.args.name.now c.args.limit _ _ _ _ _ _ c.reading.invariant.reads c.in-Ok-eq0.ensures.reads (grind (arith, common_steps))

pub returns-in-Err-extend_from_slice-clause-reads : goal.returns-in-Err-extend_from_slice-clause-reads
returns-in-Err-extend_from_slice-clause-reads g c = reads_more c.args.name.now c.args.limit _ _ _ _ _ _ c.reading.invariant.reads c.in-Ok.ensures.reads (grind (arith, common_steps))

pub returns-clause-reads : goal.returns-clause-reads
returns-clause-reads g c = c.reading.invariant.reads
