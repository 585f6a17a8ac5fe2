-- The commands of a document, word by word.
use Rattle.std.specs.Prelude.{◌+◌, nat_lt, codes, not, ℕ, List, [], ◌∷◌, is_some, option_and_then, option_map, Result, Ok, Err, if◌then◌else◌}
use Rattle.std.specs.Str.{bytes_eq}
use Rattle.toml.specs.Data.{Data, Items, no_items, item, as_str}
use Rattle.net_base.specs.declared.plan.Plan.{Plan}
use Rattle.net_base.specs.declared.trace.event.Event.{Event}
use Rattle.net_base.specs.declared.trace.event.Event.TheVariants.{Tick, Frame}
use Rattle.command_text.specs.declared.command.Command.{Command}
use Rattle.command_text.specs.declared.command.Command.TheVariants.{One, Settle, Flow, Ticks, Play}
use Rattle.plan_names.specs.declared.plan_names.PlanNames.{PlanNames}
use Rattle.command_text.specs.declared.scenario_fault.ScenarioFault.{ScenarioFault}
use Rattle.command_text.specs.declared.scenario_fault.ScenarioFault.TheVariants.{WrongKind, BadWord}
use Rattle.command_text.specs.Reading.{◌>>=◌, checked, found}
use Rattle.command_text.specs.Places.{place_of_key, top_row}
use Rattle.plan_names.specs.Names.{place_in}
use Rattle.plan_names.specs.Planned.{names_of}
use Rattle.octet_text.specs.Cut.{behind_mark}
use Rattle.script_text.specs.Script.{space, words_of}
use Rattle.line_shapes.specs.Shapes.{line_said}
use Rattle.event_rows.specs.Rows.{event_forms, event_made}
use Rattle.plan_names.specs.Decimal.{decimal_from}
use Rattle.command_text.specs.Words.{word_at, first_word, said_word, ends_before, some_word}
use Rattle.command_text.specs.Hex.{frame_of}

-- the most events of a document
abbrev pub most_events : ℕ
most_events = 100000

-- frame C HEX
unfoldable pub frame_event_in : PlanNames → ℕ → List ℕ → Result Event ScenarioFault
frame_event_in names event text = do
  circuit ← said_word (place_in names.circuits) event 2 text
  octets ← said_word frame_of event 3 text
  end ← ends_before event 4 text
  Ok (Frame (record { 0 = circuit }) octets)

-- the same by what follows its first word
unfoldable pub frame_command_behind : PlanNames → ℕ → List ℕ → Result Event ScenarioFault
frame_command_behind names event rest = do
  circuit ← found (BadWord event 2) (place_in names.circuits (first_word rest))
  octets ← found (BadWord event 3) (option_and_then frame_of (option_map first_word (behind_mark space rest)))
  end ← checked (BadWord event 4) (not (is_some (option_and_then (behind_mark space) (behind_mark space rest))))
  Ok (Frame (record { 0 = circuit }) octets)

-- the event of the words of a text, by its row
abbrev pub event_by : ℕ → Result (ℕ × List ℕ) ℕ → Result Event ScenarioFault
event_by event (Ok read) = Ok (event_made read.0 read.1)
event_by event (Err word) = Err (BadWord event word)

unfoldable pub row_event_in : Plan → ℕ → List ℕ → Result Event ScenarioFault
row_event_in plan event text = event_by event (line_said plan event_forms (words_of text))

-- N of settle, flow and tick
unfoldable pub repeats_in : ℕ → List ℕ → Result ℕ ScenarioFault
repeats_in event text = do
  count ← said_word (decimal_from 1 10000) event 2 text
  end ← ends_before event 3 text
  Ok count

-- tick alone, or tick N
abbrev pub tick_in : ℕ → List ℕ → Result Command ScenarioFault
tick_in event text = if is_some (word_at 2 text) then repeats_in event text >>= (λ count. Ok (Ticks count)) else Ok (One Tick)

-- play C FILE, of which a document has at most four
unfoldable pub play_in : PlanNames → ℕ → ℕ → List ℕ → Result Command ScenarioFault
play_in names event plays text = do
  few ← checked (BadWord event 1) (nat_lt plays 4)
  circuit ← said_word (place_in names.circuits) event 2 text
  file ← said_word some_word event 3 text
  end ← ends_before event 4 text
  Ok (Play (record { 0 = circuit }) file)

-- one event
abbrev pub one : Result Event ScenarioFault → Result Command ScenarioFault
one read = read >>= (λ event. Ok (One event))

-- the command of this first word
unfoldable pub command_of : Plan → ℕ → ℕ → List ℕ → List ℕ → Result Command ScenarioFault
command_of plan event plays word text =
    if bytes_eq word (codes "frame") then one (frame_event_in (names_of plan) event text)
    else if bytes_eq word (codes "tick") then tick_in event text
    else if bytes_eq word (codes "settle") then repeats_in event text >>= (λ count. Ok (Settle count))
    else if bytes_eq word (codes "flow") then repeats_in event text >>= (λ count. Ok (Flow count))
    else if bytes_eq word (codes "play") then play_in (names_of plan) event plays text
    else one (row_event_in plan event text)

-- the command that a text is, after so many commands `play`
abbrev pub command_in : Plan → ℕ → ℕ → List ℕ → Result Command ScenarioFault
command_in plan event plays text = command_of plan event plays (first_word text) text

-- the command that an item is, which is a string
abbrev pub event_in : Plan → ℕ → ℕ → Data → Result Command ScenarioFault
event_in plan event plays value = found (WrongKind (place_of_key top_row (codes "events"))) (as_str value) >>= command_in plan event plays

-- one more where the command is `play`
abbrev pub plays_after : ℕ → Command → ℕ
plays_after plays (Play circuit file) = plays + 1
plays_after plays command = plays

-- the commands of items, the first of which has this number
abbrev pub commands_in : Plan → ℕ → ℕ → Items → Result (List Command) ScenarioFault
commands_in plan event plays no_items = Ok []
commands_in plan event plays (item value rest) =
    event_in plan event plays value >>= (λ x. commands_in plan (event + 1) (plays_after plays x) rest >>= (λ xs. Ok (x ∷ xs)))
