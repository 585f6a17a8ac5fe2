-- The frames of one more command were read, or not had; the reads are those of what is played.
use Rattle.std.proofs.Common.{subst}
use Rattle.command_text.specs.declared.command.Command.{Command}
use Rattle.vplsnet.specs.Around.{gained}
use Rattle.vplsnet.specs.Captures.{GainsPlayed}
use Rattle.vplsnet.specs.Inputs.{played_by}
use Rattle.vplsnet.proofs.AgreeLemmas.{within_first, within_second}
use Rattle.vplsnet.proofs.CaptureLemmas.{never_later, played_more, played_stopped}
use Rattle.vplsnet.proofs.ReadLemmas.{played_on}
use Rattle.vplsnet.proofs.captures.captures_of.Goals as goal

pub returns-in-Err-clause-fails : goal.returns-in-Err-clause-fails
returns-in-Err-clause-fails g c =
    played_stopped _ _ _ (g.F.Shelf.faults c.args.shelf.now) (g.F.Shelf.faults c.loop-command.shelf) (g.F.Shelf.faults c.add_played.new.shelf) _
    c.args.commands.now c.loop-command.command-index c.command-item.result _ _
    (within_first _ _ _ _ _ c.loop-command.invariant.reads c.add_played.ensures.reads) (within_second _ _ _ _ _ c.loop-command.invariant.reads c.add_played.ensures.reads)
    c.loop-command.invariant.never_fall c.loop-command-test.true c.command-item.is c.loop-command.invariant.read c.in-Err.ensures.fails

pub returns-in-Err-clause-reads : goal.returns-in-Err-clause-reads
returns-in-Err-clause-reads g c =
    played_on _ _ _ _ c.args.commands.now c.loop-command.command-index c.command-item.result _ _ _ _
    (within_first _ _ _ _ _ c.loop-command.invariant.reads c.add_played.ensures.reads) (within_second _ _ _ _ _ c.loop-command.invariant.reads c.add_played.ensures.reads)
    c.loop-command-test.true c.command-item.is c.loop-command.invariant.read c.loop-command.invariant.reads c.add_played.ensures.reads

pub loop-command-preserved : goal.loop-command-preserved
loop-command-preserved g c =
    let command : Command = c.command-item.result in
    record {
      never_fall = never_later _ _ _ c.loop-command.invariant.never_fall c.add_played.ensures.never_fall;
      reads = played_on _ _ _ _ c.args.commands.now c.loop-command.command-index command _ _ _ _
          (within_first _ _ _ _ _ c.loop-command.invariant.reads c.add_played.ensures.reads) (within_second _ _ _ _ _ c.loop-command.invariant.reads c.add_played.ensures.reads)
          c.loop-command-test.true c.command-item.is c.loop-command.invariant.read c.loop-command.invariant.reads c.add_played.ensures.reads;
      read = played_more _ _ _ _ c.args.commands.now c.loop-command.command-index command _ _
          (within_first _ _ _ _ _ c.loop-command.invariant.reads c.add_played.ensures.reads) (within_second _ _ _ _ _ c.loop-command.invariant.reads c.add_played.ensures.reads)
          c.loop-command-test.true c.loop-command.invariant.read
          (subst (λ (x : Command). GainsPlayed (gained (g.F.Shelf.reads c.loop-command.shelf) (g.F.Shelf.reads c.add_played.new.shelf)) (played_by x) c.loop-command.captures c.add_played.new.captures)
          c.command-item.is c.in-Ok.ensures.gains);
    }
