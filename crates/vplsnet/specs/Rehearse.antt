-- What `rehearse` writes of a run.
use Rattle.std.specs.Prelude.{◌++◌, codes, ℕ, List, [], ◌∷◌, Option, Some, None}
use Rattle.std.specs.Fmt.{decimal}
use Rattle.psn_net.specs.declared.net_stop.NetStop.{NetStop}
use Rattle.psn_net.specs.Lists.{NetLists}
use Rattle.report_text.specs.Report.{counts_line}
use Rattle.text_lines.specs.Lines.{line_of}

-- the seed, and the counts of the run; nothing of a run that a limit stopped
abbrev pub rehearse_text : ℕ → NetLists → Option NetStop → List ℕ
rehearse_text seed left None = line_of (codes "rehearse" ∷ decimal seed ∷ []) ++ counts_line left.trace
rehearse_text seed left (Some reason) = []
