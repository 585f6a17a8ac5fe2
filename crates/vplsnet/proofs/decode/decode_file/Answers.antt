-- What was written of the octets of the file is an answer.
use Rattle.vplsnet.specs.Around.{Around, around}
use Rattle.vplsnet.proofs.AnswerLemmas.{stream_ended}
use Rattle.vplsnet.proofs.decode.decode_file.Goals as goal

pub returns-in-Ok-octets_of-clause-answers : goal.returns-in-Ok-octets_of-clause-answers
returns-in-Ok-octets_of-clause-answers g c =
    let here : Around = around g.F.Shelf.reads g.F.Shelf.faults g.K.Sink.taken g.K.Sink.faults c.args.shelf.now c.args.sink.now c.octets_of.new.shelf c.write.new.sink in
    stream_ended here c.args.file.now c.in-Ok-octets_of.octets c.as_slice.result.now c.without_run-in-Ok-octets_of.result.network c.write.result c.without_run-in-Ok-octets_of.result.outcome
    c.as_slice.ensures c.without_run-in-Ok-octets_of.ensures.network c.without_run-in-Ok-octets_of.ensures.outcome c.in-Ok-octets_of.ensures.has c.in-Ok-octets_of.ensures.fits c.write.ensures
