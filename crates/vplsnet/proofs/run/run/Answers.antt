-- What was asked for is what the words ask for.
use Rattle.std.proofs.Common.{map, string_bytes, rules}
use Rattle.vplsnet.specs.Around.{Around, around}
use Rattle.vplsnet.specs.Asked.{Audit, Decode, Discover, Migrate, Switchover, asked, run_asked_by}
use Rattle.vplsnet.proofs.AnswerLemmas.{completes_by}
use Rattle.vplsnet.proofs.ReadLemmas.{asked_reads}
use Rattle.vplsnet.proofs.run.run.Goals as goal

pub returns-in-Run-clause-complete : goal.returns-in-Run-clause-complete
returns-in-Run-clause-complete g c =
    let here : Around = around g.F.Shelf.reads g.F.Shelf.faults g.K.Sink.taken g.K.Sink.faults c.args.shelf.now c.args.sink.now c.run_files.new.shelf c.run_files.new.sink in
    completes_by here (run_asked_by c.in-Run.request) (asked (map string_bytes c.args.words.now)) c.run_files.result.network c.run_files.result.outcome (search rules) c.run_files.ensures.answers

pub returns-in-Run-clause-reads : goal.returns-in-Run-clause-reads
returns-in-Run-clause-reads g c =
    asked_reads _ (run_asked_by c.in-Run.request) (asked (map string_bytes c.args.words.now))
    (g.F.Shelf.reads c.args.shelf.now) (g.F.Shelf.reads c.run_files.new.shelf) (search rules) c.run_files.ensures.reads

pub returns-in-Decode-clause-complete : goal.returns-in-Decode-clause-complete
returns-in-Decode-clause-complete g c =
    let here : Around = around g.F.Shelf.reads g.F.Shelf.faults g.K.Sink.taken g.K.Sink.faults c.args.shelf.now c.args.sink.now c.decode_file.new.shelf c.decode_file.new.sink in
    completes_by here (Decode c.in-Decode.file.now) (asked (map string_bytes c.args.words.now)) c.decode_file.result.network c.decode_file.result.outcome (search rules) c.decode_file.ensures.answers

pub returns-in-Decode-clause-reads : goal.returns-in-Decode-clause-reads
returns-in-Decode-clause-reads g c =
    asked_reads _ (Decode c.in-Decode.file.now) (asked (map string_bytes c.args.words.now))
    (g.F.Shelf.reads c.args.shelf.now) (g.F.Shelf.reads c.decode_file.new.shelf) (search rules) c.decode_file.ensures.reads

pub returns-in-Migrate-clause-complete : goal.returns-in-Migrate-clause-complete
returns-in-Migrate-clause-complete g c =
    let here : Around = around g.F.Shelf.reads g.F.Shelf.faults g.K.Sink.taken g.K.Sink.faults c.args.shelf.now c.args.sink.now c.migrate_file.new.shelf c.migrate_file.new.sink in
    completes_by here (Migrate c.in-Migrate.file.now)
    (asked (map string_bytes c.args.words.now)) c.migrate_file.result.network c.migrate_file.result.outcome (search rules) c.migrate_file.ensures.answers

pub returns-in-Migrate-clause-reads : goal.returns-in-Migrate-clause-reads
returns-in-Migrate-clause-reads g c =
    asked_reads _ (Migrate c.in-Migrate.file.now) (asked (map string_bytes c.args.words.now))
    (g.F.Shelf.reads c.args.shelf.now) (g.F.Shelf.reads c.migrate_file.new.shelf) (search rules) c.migrate_file.ensures.reads

pub returns-in-Discover-clause-complete : goal.returns-in-Discover-clause-complete
returns-in-Discover-clause-complete g c =
    let here : Around = around g.F.Shelf.reads g.F.Shelf.faults g.K.Sink.taken g.K.Sink.faults c.args.shelf.now c.args.sink.now c.discover_files.new.shelf c.discover_files.new.sink in
    completes_by here (Discover c.in-Discover.file.now c.in-Discover.script.now)
    (asked (map string_bytes c.args.words.now)) c.discover_files.result.network c.discover_files.result.outcome (search rules) c.discover_files.ensures.answers

pub returns-in-Discover-clause-reads : goal.returns-in-Discover-clause-reads
returns-in-Discover-clause-reads g c =
    asked_reads _ (Discover c.in-Discover.file.now c.in-Discover.script.now) (asked (map string_bytes c.args.words.now))
    (g.F.Shelf.reads c.args.shelf.now) (g.F.Shelf.reads c.discover_files.new.shelf) (search rules) c.discover_files.ensures.reads

pub returns-in-Switchover-clause-complete : goal.returns-in-Switchover-clause-complete
returns-in-Switchover-clause-complete g c =
    let here : Around = around g.F.Shelf.reads g.F.Shelf.faults g.K.Sink.taken g.K.Sink.faults c.args.shelf.now c.args.sink.now c.switchover_files.new.shelf c.switchover_files.new.sink in
    completes_by here (Switchover c.in-Switchover.file.now c.in-Switchover.script.now)
    (asked (map string_bytes c.args.words.now)) c.switchover_files.result.network c.switchover_files.result.outcome (search rules) c.switchover_files.ensures.answers

pub returns-in-Switchover-clause-reads : goal.returns-in-Switchover-clause-reads
returns-in-Switchover-clause-reads g c =
    asked_reads _ (Switchover c.in-Switchover.file.now c.in-Switchover.script.now) (asked (map string_bytes c.args.words.now))
    (g.F.Shelf.reads c.args.shelf.now) (g.F.Shelf.reads c.switchover_files.new.shelf) (search rules) c.switchover_files.ensures.reads

pub returns-in-Audit-clause-complete : goal.returns-in-Audit-clause-complete
returns-in-Audit-clause-complete g c =
    let here : Around = around g.F.Shelf.reads g.F.Shelf.faults g.K.Sink.taken g.K.Sink.faults c.args.shelf.now c.args.sink.now c.audit_files.new.shelf c.audit_files.new.sink in
    completes_by here (Audit c.in-Audit.file.now c.in-Audit.report.now)
    (asked (map string_bytes c.args.words.now)) c.audit_files.result.network c.audit_files.result.outcome (search rules) c.audit_files.ensures.answers

pub returns-in-Audit-clause-reads : goal.returns-in-Audit-clause-reads
returns-in-Audit-clause-reads g c =
    asked_reads _ (Audit c.in-Audit.file.now c.in-Audit.report.now) (asked (map string_bytes c.args.words.now))
    (g.F.Shelf.reads c.args.shelf.now) (g.F.Shelf.reads c.audit_files.new.shelf) (search rules) c.audit_files.ensures.reads
