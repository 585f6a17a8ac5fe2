-- How far a report was read.
use Rattle.std.specs.Prelude.{ℕ, List}
use Rattle.report_entries.specs.declared.tally.Tally.{Tally}

-- what was read of a report, and what is left
pub record ReadSoFar : Type 0 where
  -- the lines before
  pub tally : Tally
  -- what follows them
  pub rest : List ℕ
  -- octets that wait to be compared: none, but where memory was refused
  pub waits : List ℕ
