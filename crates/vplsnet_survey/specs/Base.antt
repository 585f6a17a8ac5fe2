-- A call of `vplsnet` that writes to nothing.
use Rattle.std.specs.Prelude.{ℕ, List, None}
use Rattle.net_base.specs.outside.Outside.{ReadCall}
use Rattle.vplsnet.specs.Around.{Around, gained}

-- what lies around it, by what a shelf tells of itself before and after it
abbrev pub unwritten : {F : Type 0} → (F → List ReadCall) → (F → List ℕ → ℕ) → F → F → Around
unwritten reads shelf_faults shelf shelf_now = record {
  files = gained (reads shelf) (reads shelf_now);
  shelf_before = shelf_faults shelf;
  shelf_after = shelf_faults shelf_now;
  taken_before = None;
  taken_after = None;
  sink_before = 0;
  sink_after = 0;
}
