-- The run of a script of Hellos and events (RFC 5036 section 2.4.2): one line after another.
use Rattle.std.specs.Prelude.{◌≡◌, ◌++◌, ℕ, true, List, [], ◌∷◌}
use Rattle.net_base.specs.declared.plan.Plan.{Plan}
use Rattle.net_base.specs.declared.trace.event.Event.{Event}
use Rattle.network_model.specs.State.{empty_network, stands}
use Rattle.discovery_script.specs.declared.script_line.ScriptLine.{ScriptLine}
use Rattle.discovery_net.specs.Acts.{Act, Course, course, events_in}
use Rattle.discovery_net.specs.Deeds.{Discovery, adjacency_lives, discovery_opened}
use Rattle.discovery_net.specs.Lines.{acts_of, after_line}
use Rattle.discovery_net.specs.Lists.{DiscoveryLists, IsAt, course_on}

-- the acts of lines in turn
abbrev pub script_acts : Plan → Discovery → List ScriptLine → List Act
script_acts plan d [] = []
script_acts plan d (line ∷ lines) = acts_of plan d line ++ script_acts plan (after_line plan d line) lines

-- the network behind lines
abbrev pub after_lines : Plan → Discovery → List ScriptLine → Discovery
after_lines plan d [] = d
after_lines plan d (line ∷ lines) = after_lines plan (after_line plan d line) lines

-- what a script comes to
abbrev pub script_course : Plan → List ScriptLine → Course
script_course plan lines = course plan (empty_network plan) [] [] (script_acts plan (discovery_opened plan) lines)

-- the network in the middle of a script, of which these lines are left
pub record IsUnderWay (plan : Plan) (all left : List ScriptLine) (now : DiscoveryLists) : Type 0 where
  pub discovery : Discovery
  pub at : IsAt discovery now
  pub comes : course_on now (script_acts plan discovery left) ≡ script_course plan all

-- the events that its lines make
abbrev pub events_made : Plan → List ScriptLine → List Event
events_made plan lines = events_in (script_acts plan (discovery_opened plan) lines)

-- an end of a connection stands only where its edge's adjacency with the peer lives
abbrev pub StandsByAdjacency : Discovery → Type 0
StandsByAdjacency d = (edge peer : ℕ) → stands d.network edge peer ≡ true → adjacency_lives d edge peer ≡ true

-- so it is behind each line of a script
abbrev pub HoldsBehindEach : Plan → List ScriptLine → Type 0
HoldsBehindEach plan lines = (front behind : List ScriptLine) → lines ≡ front ++ behind → StandsByAdjacency (after_lines plan (discovery_opened plan) front)
