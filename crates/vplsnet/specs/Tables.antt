-- What `tables` writes of a run.
use Rattle.std.specs.Prelude.{ℕ, List, [], Option, Some, None}
use Rattle.psn_net.specs.declared.net_stop.NetStop.{NetStop}
use Rattle.psn_net.specs.Lists.{NetLists, network_seen}
use Rattle.tables_text.specs.Tables.{tables}

-- the tables of the network after the run, and nothing of a run that a limit stopped
abbrev pub tables_text : NetLists → Option NetStop → List ℕ
tables_text left None = tables left.plan (network_seen left)
tables_text left (Some reason) = []
