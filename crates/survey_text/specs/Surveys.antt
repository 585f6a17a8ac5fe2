-- What a survey at work knows, and what has been written when it ends.
use Rattle.std.specs.Prelude.{◌≡◌, ◌<◌, ◌≤◌, ◌++◌, ◌==◌, ◌&&◌, ◌||◌, not, nat_lt, ℕ, Bool, false, List, [], ◌∷◌, length, map, Option, Result, Ok, Err, slice_index_or}
use Rattle.net_base.specs.declared.plan.Plan.{Plan}
use Rattle.net_base.specs.declared.plan.edge_plan.EdgePlan.{EdgePlan}
use Rattle.net_base.specs.declared.plan.places.ServiceId.{ServiceId}
use Rattle.net_base.specs.plan.Accepted.{IsChecked}
use Rattle.network_model.specs.State.{NetworkState}
use Rattle.survey_laws.specs.declared.fault.Fault.{Fault}
use Rattle.survey_laws.specs.declared.fault.Fault.TheVariants as fault
use Rattle.survey_reach.specs.declared.shape.Shape.{Shape}
use Rattle.survey_reach.specs.FaultList.{all_faults}
use Rattle.survey_reach.specs.Ground.{IsGroundOf}
use Rattle.survey_reach.specs.Reach.{IsShapeOf, reaches}
use Rattle.survey_reach.specs.Words.{has_pair, in_word}
use Rattle.survey_text.specs.declared.change.Change.{Change}
use Rattle.survey_text.specs.declared.known.Alone.{Alone}
use Rattle.survey_text.specs.declared.known.Known.{Known}
use Rattle.survey_text.specs.declared.over.Over.{Over}
use Rattle.survey_text.specs.declared.service.Service.{Service}
use Rattle.survey_text.specs.declared.sites.Sites.{Sites}
use Rattle.survey_text.specs.declared.stop.SurveyStop.{SurveyStop}
use Rattle.survey_text.specs.declared.stop.SurveyStop.TheVariants as stop
use Rattle.survey_text.specs.declared.survey.Survey.{Survey}
use Rattle.survey_text.specs.declared.tally.Tally.{Tally}
use Rattle.survey_text.specs.declared.worked_case.WorkedCase.{WorkedCase}
use Rattle.survey_text.specs.Cases.{changes_beside, count_lost, is_told}
use Rattle.survey_text.specs.Relations.{any_pair, count_sites, find, has_site, lose}
use Rattle.survey_text.specs.Text.{Tallied, case_texts, no_cases, tally_cases}
use Rattle.text_lines.specs.Written.{IsCut, Written, WritingGoesOn, lines_written}

-- a survey is made over a checked plan and the ground of a network's state
pub record IsOver (before : NetworkState) (over : Over) : Type 0 where
  pub checked : IsChecked over.plan.now
  pub ground : IsGroundOf over.plan.now before over.ground.now

-- what the plan says of each service, in the plan's order
pub record AreShapes (plan : Plan) (shapes : List Shape) : Type 0 where
  pub all : length shapes ≡ length plan.services
  pub each : (service : ℕ) (none : Shape) → service < length plan.services → IsShapeOf plan (record { 0 = service }) (slice_index_or shapes service none)

-- how many sites stand at an edge, and which edges have some
abbrev pub count_in : Sites → ℕ → ℕ
count_in sites edge = slice_index_or sites.counts edge 0

pub record AreSites (plan : Plan) (before : NetworkState) (service : ServiceId) (sites : Sites) : Type 0 where
  pub counts : (edge : ℕ) → count_in sites edge ≡ count_sites plan before service edge
  pub at : (edge : ℕ) → in_word sites.at edge ≡ has_site plan before service edge

-- a service over the ground
pub record IsService (plan : Plan) (before : NetworkState) (asked : ServiceId) (service : Service) : Type 0 where
  pub shape : IsShapeOf plan asked service.shape
  pub sites : AreSites plan before asked service.sites
  pub reach : (a b : ℕ) → has_pair service.reach a b ≡ reaches plan before [] asked a b

-- so it is with a survey that is made over this
pub record IsServiceOver (before : NetworkState) (over : Over) (service : Service) : Type 0 where
  pub made : IsOver before over
  pub served : IsService over.plan.now before service.shape.service service

pub record AreServices (plan : Plan) (before : NetworkState) (services : List Service) : Type 0 where
  pub all : length services ≡ length plan.services
  pub each : (service : ℕ) (none : Service) → service < length plan.services → IsService plan before (record { 0 = service }) (slice_index_or services service none)

-- two edges are a pair by a relation, of which the second one is of these, and they are not one
abbrev pub is_whole : List ℕ → ℕ → ℕ → ℕ → Bool
is_whole whole at a b = (has_pair whole a b && in_word at b) && not (b == a)

-- two edges, of so many and of these, are a pair by a first relation and not by a second one
abbrev pub is_less : ℕ → ℕ → List ℕ → List ℕ → ℕ → ℕ → Bool
is_less count at first second a b = nat_lt a count && ((in_word at a && in_word at b) && (has_pair first a b && not (has_pair second a b)))

-- what faults change in a service, and none of some parts of them does
pub record IsLeft (plan : Plan) (before : NetworkState) (service : ServiceId) (faults : List Fault) (parts : List (List Fault)) (change : Change) : Type 0 where
  pub lost : (a b : ℕ) → has_pair change.lost a b ≡ changes_beside (lose plan before service) faults parts a b
  pub found : (a b : ℕ) → has_pair change.found a b ≡ changes_beside (find plan before service) faults parts a b

-- so it is in each service
pub record AreLeft (plan : Plan) (before : NetworkState) (faults : List Fault) (parts : List (List Fault)) (changes : List Change) : Type 0 where
  pub all : length changes ≡ length plan.services
  pub each : (service : ℕ) (none : Change) → service < length plan.services → IsLeft plan before (record { 0 = service }) faults parts (slice_index_or changes service none)

-- of so many edges, of these alone, what is left of a change where another one is taken away
pub record IsLess (count at : ℕ) (old part new : Change) : Type 0 where
  pub lost : (a b : ℕ) → has_pair new.lost a b ≡ is_less count at old.lost part.lost a b
  pub found : (a b : ℕ) → has_pair new.found a b ≡ is_less count at old.found part.found a b

-- so it is in each service
pub record AreLess (count : ℕ) (services : List Service) (old part new : List Change) : Type 0 where
  pub all : length new ≡ length old
  pub each : (service : ℕ) (none : Change) (any : Service) → service < length old
      → IsLess count (slice_index_or services service any).sites.at (slice_index_or old service none) (slice_index_or part service none) (slice_index_or new service none)

-- something is changed in a service, and in one of several
abbrev pub is_changed : List EdgePlan → Change → Bool
is_changed edges change = any_pair edges (has_pair change.lost) || any_pair edges (has_pair change.found)

abbrev pub any_changed : List EdgePlan → List Change → Bool
any_changed edges [] = false
any_changed edges (change ∷ changes) = is_changed edges change || any_changed edges changes

-- what is left beside a part of a case, whatever case it is, and whatever parts were looked at before
pub record LeavesOut (plan : Plan) (before : NetworkState) (part : List Fault) (old new : List Change) : Type 0 where
  pub all : length new ≡ length old
  pub left : (faults : List Fault) (parts : List (List Fault)) → AreLeft plan before faults parts old → AreLeft plan before faults (part ∷ parts) new

-- beside several parts, of which the last one was looked at first
pub record LeavesAll (plan : Plan) (before : NetworkState) (parts : List (List Fault)) (old new : List Change) : Type 0 where
  pub all : length new ≡ length old
  pub left : (faults : List Fault) (earlier : List (List Fault)) → AreLeft plan before faults earlier old → AreLeft plan before faults (parts ++ earlier) new

-- a case of which some parts were looked at, and the next part
pub record Case : Type 0 where
  pub before : NetworkState
  pub faults : List Fault
  pub parts : List (List Fault)
  pub part : List Fault

-- a case was worked out over a network
pub record IsWorked (case : Case) (worked : WorkedCase) : Type 0 where
  pub over : IsOver case.before worked.over
  pub services : AreServices worked.over.plan.now case.before worked.services.now
  pub faults : worked.faults.now ≡ case.faults
  pub changes : AreLeft worked.over.plan.now case.before case.faults [] worked.changes.now
  pub lost : worked.lost ≡ count_lost worked.over.plan.now case.before case.faults
  pub told : worked.told ≡ is_told worked.over.plan.now case.before case.faults

-- a tally as it is counted
abbrev pub tallied : Tally → Tallied
tallied tally = record { cases = tally.cases; split = tally.split; told = tally.told; worst = tally.worst; worst_case = tally.worst_case.items }

-- what is known of a network: its services, its faults, and of so many of these what each changes alone
pub record IsKnown (plan : Plan) (before : NetworkState) (count : ℕ) (known : Known) : Type 0 where
  pub services : AreServices plan before known.services.items
  pub faults : known.faults ≡ all_faults plan before
  pub counted : length known.alone.items ≡ count
  pub alone : (place : ℕ) (fault : Fault) (none : Alone) → place < count → AreLeft plan before (slice_index_or (all_faults plan before) place fault ∷ []) [] (slice_index_or known.alone.items place none).changes.items

-- what each fault changes alone is known
abbrev pub AreAllKnown : Plan → NetworkState → Known → Type 0
AreAllKnown plan before known = IsKnown plan before (length (all_faults plan before)) known

-- the fault at a place of a list, and those at places; outside it stands any one
abbrev pub fault_in : List Fault → ℕ → Fault
fault_in faults place = slice_index_or faults place (fault.Edge (record { 0 = 0 }))

abbrev pub faults_at : List Fault → List ℕ → List Fault
faults_at faults places = map (fault_in faults) places

-- places of a list of so many
pub record ArePlaces (count : ℕ) (places : List ℕ) : Type 0 where
  pub each : (i none : ℕ) → i < length places → slice_index_or places i none < count

-- a case of the faults at these places can be worked out: it is one of them, or two or three where what each changes alone is known
pub record IsCaseOf (plan : Plan) (before : NetworkState) (known : Known) (places : List ℕ) : Type 0 where
  pub services : AreServices plan before known.services.items
  pub most : length places ≤ 3
  pub within : ArePlaces (length known.faults) places
  pub alone : 1 < length places → AreAllKnown plan before known

-- a survey has worked out a case, and whether it is told
pub record IsWorkedOut (plan : Plan) (case : Case) (survey : Survey) (told : Bool) : Type 0 where
  pub services : AreServices plan case.before survey.known.services.items
  pub faults : survey.work.faults.items ≡ case.faults
  pub changes : AreLeft plan case.before case.faults [] survey.work.changes.items
  pub is : told ≡ is_told plan case.before case.faults

-- a survey before its first case
pub record IsSurveyOf (plan : Plan) (before : NetworkState) (survey : Survey) : Type 0 where
  pub known : IsKnown plan before 0 survey.known
  pub tally : tallied survey.tally ≡ no_cases

-- a front of a text was put, and no more
pub record PutsFront (old now : Written) (text : List ℕ) : Type 0 where
  pub front : List ℕ
  pub rest : List ℕ
  pub goes : WritingGoesOn old now front
  pub all : front ++ rest ≡ text

-- a survey stopped: a call of the sink failed, and of what waited and of the text a front was taken that lacks its end; or memory lacked in
-- the midst, and a front of the text was put
abbrev pub Stops : SurveyStop → Written → Written → List ℕ → Type 0
Stops stop.Failed old now text = IsCut old now text
Stops stop.NoMemory old now text = PutsFront old now text

-- a text was put, or it stopped
abbrev pub Surveys : {T : Type 0} → Result T SurveyStop → Written → Written → List ℕ → Type 0
Surveys (Ok value) old now text = WritingGoesOn old now text
Surveys (Err fault) old now text = Stops fault old now text

abbrev pub SurveysOn : {K T : Type 0} → (K → Option (List ℕ)) → (K → ℕ) → List ℕ → List ℕ → K → K → Result T SurveyStop → List ℕ → Type 0
SurveysOn taken faults page page_now sink sink_now result text = Surveys result (lines_written (taken sink) (faults sink) page) (lines_written (taken sink_now) (faults sink_now) page_now) text

-- the lines of some cases were put, and they were counted
pub record AreVisited (plan : Plan) (before : NetworkState) (old now : Written) (tally tally_now : Tallied) (cases : List (List Fault)) : Type 0 where
  pub text : WritingGoesOn old now (case_texts plan before cases)
  pub counts : tally_now ≡ tally_cases plan before tally cases

-- so it is, or it stopped within their lines
abbrev pub Visits : {T : Type 0} → Plan → NetworkState → Result T SurveyStop → Written → Written → Tallied → Tallied → List (List Fault) → Type 0
Visits plan before (Ok value) old now tally tally_now cases = AreVisited plan before old now tally tally_now cases
Visits plan before (Err fault) old now tally tally_now cases = Stops fault old now (case_texts plan before cases)

abbrev pub VisitsOn : {K T : Type 0} → Plan → NetworkState → (K → Option (List ℕ)) → (K → ℕ) → List ℕ → List ℕ → K → K → Result T SurveyStop → Tally → Tally → List (List Fault) → Type 0
VisitsOn plan before taken faults page page_now sink sink_now result tally tally_now cases =
    Visits plan before result (lines_written (taken sink) (faults sink) page) (lines_written (taken sink_now) (faults sink_now) page_now) (tallied tally) (tallied tally_now) cases
