-- What `discover` writes of a script.
use Rattle.std.specs.Prelude.{◌≡◌, ℕ, List, Option, Some, None}
use Rattle.net_base.specs.declared.plan.Plan.{Plan}
use Rattle.discovery_net.specs.Acts.{course_of}
use Rattle.discovery_net.specs.Script.{HoldsBehindEach, events_made, script_course}
use Rattle.discovery_script.specs.declared.placed_note.PlacedNote.{PlacedNote}
use Rattle.discovery_script.specs.declared.script_line.ScriptLine.{ScriptLine}
use Rattle.discovery_text.specs.Text.{discovery_report}
use Rattle.psn_net.specs.declared.net_stop.NetStop.{NetStop}
use Rattle.psn_net.specs.Lists.{NetLists, network_seen}
use Rattle.vplsnet.specs.declared.outcome.Outcome.{Outcome}
use Rattle.vplsnet.specs.declared.outcome.Outcome.TheVariants.{Done, Stopped}
use Rattle.vplsnet.specs.Replay.{ending_by}
use Rattle.vplsnet.specs.RunOver.{IsRunOver}

-- the report, with the notes in their places, also of a run that a limit stopped
abbrev pub discovery_text : NetLists → List PlacedNote → Option NetStop → List ℕ
discovery_text left notes reason = discovery_report left.plan left.trace notes (ending_by reason)

-- The run over the events that the lines make, in order, with what was told of adjacencies.
pub record IsDiscoveryRun (plan : Plan) (lines : List ScriptLine) (left : NetLists) (notes : List PlacedNote) (reason : Option NetStop) : Type 0 where
  pub is_run : IsRunOver plan (events_made plan lines) left reason
  -- the network and the notes, each in its place, are what the lines come to
  pub course : course_of (network_seen left) left.trace notes reason ≡ script_course plan lines
  -- behind each line that was done an end of a connection stands only where its edge's adjacency with the peer lives (RFC 5036 section
  -- 2.4.2)
  pub standing : HoldsBehindEach plan lines

-- its text and its network
pub record TellsDiscovery (plan : Plan) (lines : List ScriptLine) (text : List ℕ) (network : Option NetLists) (reason : Option NetStop) : Type 0 where
  pub left : NetLists
  pub notes : List PlacedNote
  pub network_is : network ≡ Some left
  pub is_run : IsDiscoveryRun plan lines left notes reason
  pub text_is : text ≡ discovery_text left notes reason

-- the text, the network after the run and the outcome that `discover` makes of lines
abbrev pub IsDiscoverRun : Plan → List ScriptLine → List ℕ → Option NetLists → Outcome → Type 0
IsDiscoverRun plan lines text network Done = TellsDiscovery plan lines text network None
IsDiscoverRun plan lines text network (Stopped reason) = TellsDiscovery plan lines text network (Some reason)
IsDiscoverRun plan lines text network outcome = ⊥
