-- How a survey ended, and what was written.
use Rattle.std.specs.Prelude.{◌≡◌, ◌<◌, ◌≤◌, ◌++◌, ◌-◌, ◌^◌, codes, min, ℕ, List, [], length, Option, Some, None, slice_index_or, take}
use Rattle.std.specs.Fmt.{decimal}
use Rattle.net_base.specs.declared.plan.Plan.{Plan}
use Rattle.net_base.specs.outside.Outside.{Appends, Rose}
use Rattle.network_model.specs.State.{NetworkState}
use Rattle.psn_net.specs.Lists.{NetLists, network_seen}
use Rattle.survey_reach.specs.declared.shape.Shape.{Shape}
use Rattle.survey_reach.specs.FaultList.{all_faults}
use Rattle.survey_reach.specs.Reach.{IsShapeOf}
use Rattle.survey_text.specs.Cases.{cases_of}
use Rattle.survey_text.specs.Text.{survey_text}
use Rattle.text_lines.specs.Written.{Written, AppendsFront, Writes}
use Rattle.vplsnet.specs.declared.outcome.Outcome.{Outcome}
use Rattle.vplsnet.specs.declared.outcome.Outcome.TheVariants.{WriteFault, NoMemory}
use Rattle.vplsnet.specs.Finish.{exit_status, finish_text}
use Rattle.vplsnet_survey.specs.declared.ending.Ending.{Ending}
use Rattle.vplsnet_survey.specs.declared.ending.Ending.TheVariants.{Done, Vplsnet, TooManyCases}

-- the status of an ending
abbrev pub ending_status : Ending → ℕ
ending_status Done = 0
ending_status (Vplsnet outcome) = exit_status outcome
ending_status (TooManyCases count) = 7

-- the line that tells of an ending that was not done
abbrev pub ending_text : Ending → List ℕ
ending_text Done = []
ending_text (Vplsnet outcome) = finish_text outcome
ending_text (TooManyCases count) = codes "vplsnet: stopped: TooManyCases " ++ decimal count

-- the most cases of a survey
abbrev pub case_limit : ℕ
case_limit = 100000000

-- how many cases of at most so many faults a network has
abbrev pub count_cases : Plan → NetworkState → ℕ → ℕ
count_cases plan before most = length (cases_of most (all_faults plan before))

-- a front of the text was taken, all of it perhaps, where it is told
pub record TakesPart (old now : Option (List ℕ)) (text : List ℕ) : Type 0 where
  pub len : ℕ
  pub taken : Appends old now (take len text)

-- a front of the text was taken that lacks its end, and a call of the sink failed
pub record TakesFront (old now : Written) (text : List ℕ) : Type 0 where
  pub front : AppendsFront old.taken now.taken text
  pub rose : Rose old.faults now.faults

-- a text was not written whole
abbrev pub EndsShort : List ℕ → Written → Written → Outcome → Type 0
EndsShort text old now WriteFault = TakesFront old now text
EndsShort text old now NoMemory = TakesPart old.taken now.taken text
EndsShort text old now outcome = ⊥

-- how the writing of a text ended
abbrev pub WritesText : List ℕ → Written → Written → Ending → Type 0
WritesText text old now Done = Writes old.taken now.taken text
WritesText text old now (Vplsnet outcome) = EndsShort text old now outcome
WritesText text old now (TooManyCases count) = ⊥

-- the cases are too many: nothing is written, and they are counted up to 2^64 - 1
pub record HasTooMany (cases count : ℕ) (old now : Written) : Type 0 where
  pub many : case_limit < cases
  pub counted : count ≡ min cases (2 ^ 64 - 1)
  pub taken : now.taken ≡ old.taken

-- how the survey of a network with so many cases ended, of which this is the text
abbrev pub WritesSurvey : ℕ → List ℕ → Written → Written → Ending → Type 0
WritesSurvey cases text old now Done = (cases ≤ case_limit) × Writes old.taken now.taken text
WritesSurvey cases text old now (Vplsnet outcome) = EndsShort text old now outcome
WritesSurvey cases text old now (TooManyCases count) = HasTooMany cases count old now

-- the same of the network that a run has left, where there is one
abbrev pub SurveysLeft : Option NetLists → ℕ → Written → Written → Ending → Type 0
SurveysLeft None most old now ending = (ending ≡ Vplsnet NoMemory) × (now.taken ≡ old.taken)
SurveysLeft (Some left) most old now ending =
    WritesSurvey (count_cases left.plan (network_seen left) most) (survey_text left.plan (network_seen left) most) old now ending

-- what the plan says of so many services, in the plan's order
pub record AreShapesOf (plan : Plan) (count : ℕ) (shapes : List Shape) : Type 0 where
  pub all : length shapes ≡ count
  pub each : (service : ℕ) (none : Shape) → service < count → IsShapeOf plan (record { 0 = service }) (slice_index_or shapes service none)
