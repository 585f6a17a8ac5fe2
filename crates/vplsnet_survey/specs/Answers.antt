-- How a call of `vplsnet-survey` ends: as one of `vplsnet tables` of its file, but for what it writes.
use Rattle.std.specs.Prelude.{◌≡◌, ◌⊎◌, ◌<◌, ◌≤◌, ◌-◌, ◌^◌, min, ℕ, List, Option, Some, None}
use Rattle.net_base.specs.declared.plan.Plan.{Plan}
use Rattle.net_base.specs.declared.trace.event.Event.{Event}
use Rattle.network_model.specs.State.{NetworkState}
use Rattle.flight_laws.specs.Laws.{network_after}
use Rattle.psn_net.specs.declared.net_stop.NetStop.{NetStop}
use Rattle.scenario_text.specs.declared.scenario.Scenario.{Scenario}
use Rattle.survey_text.specs.Text.{survey_text}
use Rattle.text_lines.specs.Written.{AppendsFront, Writes}
use Rattle.vplsnet.specs.declared.outcome.Outcome.{Outcome}
use Rattle.vplsnet.specs.declared.outcome.Outcome.TheVariants as outcome
use Rattle.vplsnet.specs.Answers.{IsRefused, IsSoundOutcome}
use Rattle.vplsnet.specs.Around.{Around, Files, Has, HasWriteFault}
use Rattle.vplsnet.specs.Asked.{Asked, Tables}
use Rattle.vplsnet.specs.Inputs.{ComesTo, Run, Works}
use Rattle.vplsnet.specs.ScenarioRun.{events_of, whole_run}
use Rattle.vplsnet_survey.specs.declared.ending.Ending.{Ending}
use Rattle.vplsnet_survey.specs.declared.ending.Ending.TheVariants.{Done, Vplsnet, TooManyCases}
use Rattle.vplsnet_survey.specs.Asked.{SurveyAsked}
use Rattle.vplsnet_survey.specs.Ended.{TakesPart, case_limit, count_cases}
use Rattle.vplsnet_survey.specs.Promises.{KeepsFaults}

-- the call of `vplsnet` by which the scenario is read and run
abbrev pub tables_of : SurveyAsked → Asked
tables_of asked = Tables asked.file

-- the files were read, and this is the scenario with the frames of the captures that it plays; the run of its events ended so
pub record IsBase (files : Files) (file : List ℕ) (reason : Option NetStop) : Type 0 where
  pub scenario : Scenario
  pub captures : List (List (List ℕ))
  pub come : ComesTo (Has files) (Tables file) (Works (Run scenario captures))
  pub stops : (whole_run scenario captures).stop ≡ reason

-- the events of the base, and the network that they leave
abbrev pub base_events : {files : Files} {file : List ℕ} {reason : Option NetStop} → IsBase files file reason → List Event
base_events base = events_of base.scenario base.captures

abbrev pub base_plan : {files : Files} {file : List ℕ} {reason : Option NetStop} → IsBase files file reason → Plan
base_plan base = base.scenario.plan

abbrev pub base_state : {files : Files} {file : List ℕ} {reason : Option NetStop} → IsBase files file reason → NetworkState
base_state base = network_after (base_plan base) (base_events base)

-- the whole text was taken: the survey of the network that the scenario's events leave; and every law holds of it, with these events before the
-- failures
pub record IsSurveyed (around : Around) (asked : SurveyAsked) : Type 0 where
  pub base : IsBase around.files asked.file None
  pub few : count_cases (base_plan base) (base_state base) asked.most ≤ case_limit
  pub taken : Writes around.taken_before around.taken_after (survey_text (base_plan base) (base_state base) asked.most)
  pub laws : KeepsFaults (base_plan base) (base_events base)

-- a front of it was taken that lacks its end, and then the sink failed
pub record IsSurveyCut (around : Around) (asked : SurveyAsked) : Type 0 where
  pub base : IsBase around.files asked.file None
  pub taken : AppendsFront around.taken_before around.taken_after (survey_text (base_plan base) (base_state base) asked.most)
  pub cause : HasWriteFault around

-- there are more cases than the limit, counted up to 2^64 - 1, and nothing was taken
pub record IsTooMany (around : Around) (asked : SurveyAsked) (count : ℕ) : Type 0 where
  pub base : IsBase around.files asked.file None
  pub many : case_limit < count_cases (base_plan base) (base_state base) asked.most
  pub counted : count ≡ min (count_cases (base_plan base) (base_state base) asked.most) (2 ^ 64 - 1)
  pub untouched : around.taken_after ≡ around.taken_before

-- memory was refused on the way through the cases, and a front of the text was taken, all of it perhaps
pub record IsSurveyPart (around : Around) (asked : SurveyAsked) : Type 0 where
  pub base : IsBase around.files asked.file None
  pub taken : TakesPart around.taken_before around.taken_after (survey_text (base_plan base) (base_state base) asked.most)

-- what is refused before any run, as `vplsnet` refuses it, and nothing was taken
abbrev pub SaysRefused : Around → SurveyAsked → Outcome → Type 0
SaysRefused around asked it = IsRefused around.files around.shelf_before around.shelf_after (tables_of asked) it × (around.taken_after ≡ around.taken_before)

-- what an outcome of `vplsnet` says, its cause among it
abbrev pub SaysAs : Around → SurveyAsked → Outcome → Type 0
SaysAs around asked outcome.Done = ⊥
SaysAs around asked outcome.Usage = ⊥
SaysAs around asked outcome.ReadFault = SaysRefused around asked outcome.ReadFault
SaysAs around asked outcome.WriteFault = IsSurveyCut around asked
SaysAs around asked (outcome.TooLong named limit) = SaysRefused around asked (outcome.TooLong named limit)
SaysAs around asked (outcome.ScenarioRefused fault) = SaysRefused around asked (outcome.ScenarioRefused fault)
SaysAs around asked (outcome.NoCircuit circuit) = SaysRefused around asked (outcome.NoCircuit circuit)
SaysAs around asked (outcome.CaptureRefused file fault) = SaysRefused around asked (outcome.CaptureRefused file fault)
SaysAs around asked (outcome.ScriptRefused line word) = SaysRefused around asked (outcome.ScriptRefused line word)
SaysAs around asked (outcome.AuditRefused line rule) = SaysRefused around asked (outcome.AuditRefused line rule)
SaysAs around asked (outcome.Stopped reason) = IsBase around.files asked.file (Some reason) × (around.taken_after ≡ around.taken_before)
SaysAs around asked (outcome.DecodeRefused fault) = ⊥
SaysAs around asked (outcome.Unfinished at) = ⊥
SaysAs around asked outcome.NoMemory = (around.taken_after ≡ around.taken_before) ⊎ IsSurveyPart around asked

-- what an ending says
abbrev pub SaysEnding : Around → SurveyAsked → Ending → Type 0
SaysEnding around asked Done = IsSurveyed around asked
SaysEnding around asked (Vplsnet it) = SaysAs around asked it
SaysEnding around asked (TooManyCases count) = IsTooMany around asked count

-- the same of words that may ask for nothing
abbrev pub SurveyFinishes : Around → Option SurveyAsked → Ending → Type 0
SurveyFinishes around None ending = (ending ≡ Vplsnet outcome.Usage) × (around.taken_after ≡ around.taken_before)
SurveyFinishes around (Some asked) ending = SaysEnding around asked ending

-- an ending by what a call of `vplsnet tables` would come to: where that would be done the survey is, or has too many cases
abbrev pub EndsAs : Outcome → Ending → Type 0
EndsAs called Done = called ≡ outcome.Done
EndsAs called (TooManyCases count) = called ≡ outcome.Done
EndsAs called (Vplsnet it) = (it ≡ called) ⊎ (it ≡ outcome.NoMemory)

-- in a sound surrounding the ending is what the files call for, or memory was refused
abbrev pub SurveyCompletes : Around → SurveyAsked → Ending → Type 0
SurveyCompletes around asked ending = (called : Outcome) → IsSoundOutcome around (tables_of asked) called → EndsAs called ending
