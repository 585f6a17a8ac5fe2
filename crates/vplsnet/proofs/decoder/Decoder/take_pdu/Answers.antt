use Rattle.std.proofs.Common.{rules}
use Rattle.vplsnet.proofs.StreamLemmas.{stopped_cut, stopped_front}
use Rattle.vplsnet.proofs.decoder.Decoder.take_pdu.Goals as goal

pub returns-in-Err-clause-stopped : goal.returns-in-Err-clause-stopped
returns-in-Err-clause-stopped g c = stopped_front _ c.args.fed _ _ c.requires.going c.in-Err.ensures.stopped

pub returns-in-Err-write_front-clause-stopped : goal.returns-in-Err-write_front-clause-stopped
returns-in-Err-write_front-clause-stopped g c = stopped_cut _ c.args.fed c.put_front.new.text.items _ _ _ c.requires.going (search rules) c.as_slice.ensures.value c.in-Err-write_front.ensures.puts
