use Rattle.std.proofs.Common.{drop}
use Rattle.net_base.specs.outside.Outside.{NeverFall}
use Rattle.vplsnet.specs.Around.{gained}
use Rattle.vplsnet.specs.Inputs.{played}
use Rattle.vplsnet.specs.Reads.{GainsReads, IsPlayedRead}
use Rattle.vplsnet.proofs.CaptureLemmas.{IsPlayedTo}
use Rattle.vplsnet.proofs.captures.captures_of.Given as goal

abbrev pub invariant-loop-command : goal.invariant-loop-command
invariant-loop-command g l = record {
  never_fall : NeverFall (g.F.Shelf.faults l.fn.shelf) (g.F.Shelf.faults l.shelf);
  reads : GainsReads (IsPlayedRead (gained (g.F.Shelf.reads l.fn.shelf) (g.F.Shelf.reads l.shelf)) (played l.commands)) (g.F.Shelf.reads l.fn.shelf) (g.F.Shelf.reads l.shelf);
  read : IsPlayedTo (gained (g.F.Shelf.reads l.fn.shelf) (g.F.Shelf.reads l.shelf)) (played l.commands) (played (drop l.command-index l.commands)) l.captures;
}
