use Rattle.std.proofs.Common.{◌≡◌, ◌≤◌, ◌+◌, ◌-◌, length}
use Rattle.net_base.specs.outside.Outside.{NeverFall}
use Rattle.vplsnet.specs.Around.{gained}
use Rattle.vplsnet.specs.Reads.{GainsReads, IsReadOf}
use Rattle.vplsnet.proofs.FileLemmas.{IsRead}
use Rattle.vplsnet.proofs.files.read_front.Given as goal

abbrev pub invariant-reading : goal.invariant-reading
invariant-reading g l = record {
  front : IsRead (gained (g.F.Shelf.reads l.fn.shelf) (g.F.Shelf.reads l.shelf)) l.name l.octets;
  faults : NeverFall (g.F.Shelf.faults l.fn.shelf) (g.F.Shelf.faults l.shelf);
  reads : GainsReads (IsReadOf (record { name = l.name; limit = l.limit })) (g.F.Shelf.reads l.fn.shelf) (g.F.Shelf.reads l.shelf);
  within : length l.octets ≤ l.limit + 1;
  size : length l.piece ≡ 4096;
}

abbrev pub decreases-reading : goal.decreases-reading
decreases-reading g l = l.limit + 1 - length l.octets
