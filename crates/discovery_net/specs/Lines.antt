-- What each line of a script does: Hellos that come, ticks, and events between the edges (RFC 5036 section 2.4.2).
use Rattle.std.specs.Prelude.{◌+◌, ◌++◌, ◌&&◌, ℕ, zero, suc, List, [], ◌∷◌, Bool, Option, Some, None, length, if◌then◌else◌}
use Rattle.net_base.specs.declared.plan.Plan.{Plan}
use Rattle.net_base.specs.declared.plan.places.EdgeId.{EdgeId}
use Rattle.net_base.specs.declared.trace.event.Event.TheVariants as event
use Rattle.net_base.specs.plan.Paths.{are_joined}
use Rattle.ldp_discovery.specs.Adjacencies.{id_behind}
use Rattle.ldp_discovery.specs.Live.{Deed, said, heard, ticked}
use Rattle.ldp_discovery.specs.Histories.{ends_by_tick, with_deed}
use Rattle.network_model.specs.Run.{state_after}
use Rattle.network_model.specs.State.{NetworkState, stands}
use Rattle.network_model.specs.Step.{step}
use Rattle.command_run.specs.Made.{made_by}
use Rattle.discovery_script.specs.declared.script_line.ScriptLine.{ScriptLine}
use Rattle.discovery_script.specs.declared.script_line.ScriptLine.TheVariants as line
use Rattle.discovery_script.specs.declared.note.Note.TheVariants as note
use Rattle.discovery_net.specs.Acts.{Act, Does, Tells, all_done, events_in}
use Rattle.discovery_net.specs.Deeds.{Discovery, Hello, adjacency_lives, hello_numbered, octets_of_hello}

-- ---- an edge says a Hello to a peer that a segment joins it to

-- the next Hello of an edge
abbrev pub next_hello : Discovery → EdgeId → EdgeId → ℕ → Hello
next_hello d from to hold = record { from = from; to = to; id = id_behind (d.histories from.0); hold = hold }

-- the line `hello`: a Hello is said, between edges that a segment joins
abbrev pub hello_acts : Plan → Discovery → EdgeId → EdgeId → ℕ → List Act
hello_acts plan d from to hold =
    if are_joined plan from.0 to.0 then Tells (note.Hello (length d.hellos + 1) from to (octets_of_hello plan (next_hello d from to hold))) ∷ [] else Tells note.Idle ∷ []

-- ---- a Hello is heard, some time after it was said

-- the line `bring`: a Hello that was said is heard, which tells of an adjacency that did not live before
abbrev pub bring_acts : Discovery → Option Hello → List Act
bring_acts d None = Tells note.Idle ∷ []
bring_acts d (Some hello) = if adjacency_lives d hello.to.0 hello.from.0 then [] else Tells (note.Up hello.to hello.from) ∷ []

-- ---- a connection opens where both edges hold an adjacency with the other one

-- both edges hold an adjacency with the other one
abbrev pub may_open : Discovery → EdgeId → EdgeId → Bool
may_open d from to = adjacency_lives d from.0 to.0 && adjacency_lives d to.0 from.0

-- the line `open`: the two connect where they may, and are barred where they may not
abbrev pub open_acts : Plan → Discovery → EdgeId → EdgeId → List Act
open_acts plan d from to =
    if are_joined plan from.0 to.0
    then (if may_open d from to then Does (event.Connect from to) ∷ [] else Tells (note.Barred from to) ∷ [])
    else Tells note.Idle ∷ []

-- ---- a tick: adjacencies end, and take what stands on them along

-- an edge, and a peer with which its adjacency ends
pub record Lapse : Type 0 where
  pub edge : EdgeId
  pub peer : EdgeId

-- those of an edge with so many peers from a place on, and behind them others
abbrev pub lapses_with : (ℕ → Bool) → EdgeId → ℕ → ℕ → List Lapse → List Lapse
lapses_with ends edge place zero behind = behind
lapses_with ends edge place (suc count) behind =
    if ends place then record { edge = edge; peer = record { 0 = place } } ∷ lapses_with ends edge (place + 1) count behind else lapses_with ends edge (place + 1) count behind

-- those of so many edges from a place on, each with so many peers
abbrev pub lapses_from : (ℕ → List Deed) → ℕ → ℕ → ℕ → List Lapse
lapses_from histories peers place zero = []
lapses_from histories peers place (suc count) =
    lapses_with (ends_by_tick (histories place)) (record { 0 = place }) 0 peers (lapses_from histories peers (place + 1) count)

-- each that ends is told, and the edge's end is lost with it, where it stands; then the tick of the network comes
abbrev pub downs : Plan → NetworkState → List Lapse → List Act
downs plan network [] = Does event.Tick ∷ []
downs plan network (lapse ∷ lapses) =
    Tells (note.Down lapse.edge lapse.peer)
    ∷ (if stands network lapse.edge.0 lapse.peer.0
    then Does (event.Lose lapse.edge lapse.peer) ∷ downs plan (step plan network (event.Lose lapse.edge lapse.peer)).state lapses
    else downs plan network lapses)

-- the line `tick`
abbrev pub tick_acts : Plan → Discovery → List Act
tick_acts plan d = downs plan d.network (lapses_from d.histories (length plan.edges) 0 (length plan.edges))

-- ---- the lines

-- A row for each line
abbrev pub acts_of : Plan → Discovery → ScriptLine → List Act
acts_of plan d (line.Hello from to hold) = hello_acts plan d from to hold
acts_of plan d (line.Bring number) = bring_acts d (hello_numbered d number)
acts_of plan d (line.Open from to) = open_acts plan d from to
acts_of plan d line.Tick = tick_acts plan d
acts_of plan d (line.Do command) = all_done (made_by plan d.network [] command)

-- a Hello, where there is one, is heard by the edge to which it was said
abbrev pub heard_at : Option Hello → (ℕ → List Deed) → ℕ → List Deed
heard_at None histories = histories
heard_at (Some hello) histories = with_deed hello.to (heard hello.from.0 hello.hold) histories

-- what each edge has said, heard and counted then
abbrev pub histories_after : Plan → Discovery → ScriptLine → ℕ → List Deed
histories_after plan d (line.Hello from to hold) = if are_joined plan from.0 to.0 then with_deed from (said to.0 hold) d.histories else d.histories
histories_after plan d (line.Bring number) = heard_at (hello_numbered d number) d.histories
histories_after plan d (line.Open from to) = d.histories
histories_after plan d line.Tick = λ k. ticked ∷ d.histories k
histories_after plan d (line.Do command) = d.histories

-- and the Hellos that were said
abbrev pub hellos_after : Plan → Discovery → ScriptLine → List Hello
hellos_after plan d (line.Hello from to hold) = if are_joined plan from.0 to.0 then d.hellos ++ next_hello d from to hold ∷ [] else d.hellos
hellos_after plan d other = d.hellos

-- the network, the histories and the Hellos after a line
abbrev pub after_line : Plan → Discovery → ScriptLine → Discovery
after_line plan d line = record {
  network = state_after plan d.network (events_in (acts_of plan d line));
  histories = histories_after plan d line;
  hellos = hellos_after plan d line;
}
