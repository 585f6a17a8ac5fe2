-- What was written of the script is an answer.
use Rattle.vplsnet.specs.Around.{Around, around}
use Rattle.vplsnet.proofs.DiscoverLemmas.{discovery_answers}
use Rattle.vplsnet.proofs.discover.discover_files.Goals as goal

pub returns-in-Ok-clause-answers : goal.returns-in-Ok-clause-answers
returns-in-Ok-clause-answers g c =
    let here : Around = around g.F.Shelf.reads g.F.Shelf.faults g.K.Sink.taken g.K.Sink.faults c.args.shelf.now c.args.sink.now c.plan_and_file.new.shelf c.discover.new.sink in
    discovery_answers here c.args.file.now c.args.script.now c.in-Ok.both.octets c.as_slice.result.now c.in-Ok.both.scenario c.discover.result.network c.discover.result.outcome
    c.as_slice.ensures c.in-Ok.ensures.has c.discover.ensures.ends
