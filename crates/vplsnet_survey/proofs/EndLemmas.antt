-- How the writing of a survey ends.
use Rattle.std.proofs.Common.{◌≡◌, ◌≤◌, ◌<◌, ◌-◌, ◌^◌, ◌++◌, ◌∙◌, min, ℕ, List, [], length, Option, Some, None, take, append_assoc, append-nil, ap, subst, sym}
use Rattle.net_base.specs.declared.plan.Plan.{Plan}
use Rattle.net_base.specs.outside.Outside.{Appends}
use Rattle.net_base.specs.plan.Accepted.{IsChecked}
use Rattle.net_values.proofs.RowLemmas as rows
use Rattle.network_model.specs.State.{NetworkState}
use Rattle.survey_laws.specs.declared.fault.Fault.{Fault}
use Rattle.survey_reach.specs.FaultList.{all_faults}
use Rattle.survey_reach.specs.Ground.{IsGroundOf}
use Rattle.survey_text.specs.declared.over.Over.{Over}
use Rattle.survey_text.specs.Cases.{cases_of}
use Rattle.survey_text.specs.declared.stop.SurveyStop.{SurveyStop}
use Rattle.survey_text.specs.declared.stop.SurveyStop.TheVariants as stop
use Rattle.survey_text.specs.Surveys.{IsOver, PutsFront, Stops}
use Rattle.text_lines.specs.Written.{IsCut, Written, WritingGoesOn}
use Rattle.text_lines.proofs.WrittenLemmas.{cut_text, whole_text}
use Rattle.vplsnet.proofs.WritingLemmas.{front_flushed, rose_flushed}
use Rattle.vplsnet_survey.specs.declared.ending.Ending.{Ending}
use Rattle.vplsnet_survey.specs.declared.ending.Ending.TheVariants.{Done, Vplsnet, TooManyCases}
use Rattle.vplsnet_survey.specs.Ended.{HasTooMany, TakesFront, TakesPart, WritesSurvey, WritesText, case_limit, count_cases}

none_taken : (taken : Option (List ℕ)) → Appends taken taken []
none_taken None = tt
none_taken (Some before) = ap Some (sym (append-nil before))

-- nothing was written yet
pub part_none : (now old : Option (List ℕ)) (text : List ℕ) → now ≡ old → TakesPart old now text
part_none now old text same = record { len = 0; taken = subst (λ (taken : Option (List ℕ)). Appends old taken []) (sym same) (none_taken old) }

-- a front was put, of which something waits
pub part_put : (old now : Written) (text : List ℕ) → old.waiting ≡ [] → PutsFront old now text → TakesPart old.taken now.taken text
part_put old now text none put =
    let gained : List ℕ = put.goes.gained in
    let front : gained ++ now.waiting ≡ put.front = put.goes.text ∙ ap (λ (l : List ℕ). l ++ put.front) none in
    let all : gained ++ (now.waiting ++ put.rest) ≡ text = sym (append_assoc gained now.waiting put.rest) ∙ (ap (λ (l : List ℕ). l ++ put.rest) front ∙ put.all) in
    record {
      len = length gained;
      taken = subst (Appends old.taken now.taken) (sym (rows.take_front gained (now.waiting ++ put.rest)) ∙ ap (take (length gained)) all) put.goes.taken;
    }

pub part_stops : (why : SurveyStop) (old now : Written) (text : List ℕ) → why ≡ stop.NoMemory → old.waiting ≡ [] → Stops why old now text → TakesPart old.taken now.taken text
part_stops why old now text is none stops = part_put old now text none (subst (λ (w : SurveyStop). Stops w old now text) is stops)

pub front_put : (old now : Written) (text : List ℕ) → old.waiting ≡ [] → IsCut old now text → TakesFront old now text
front_put old now text none cut = record { front = cut_text old now text none cut; rose = cut.rose }

pub front_left : (old mid now : Written) (text : List ℕ) → old.waiting ≡ [] → WritingGoesOn old mid text → IsCut mid now [] → TakesFront old now text
front_left old mid now text none goes cut = record { front = front_flushed old mid now text none goes cut; rose = rose_flushed old mid now text goes cut }

pub ruleset write_steps = (part_none, part_put, front_put, front_left, whole_text)

-- ---- not too many cases

pub few_writes : (cases : ℕ) (text : List ℕ) (old now : Written) (ending : Ending) → cases ≤ case_limit → WritesText text old now ending → WritesSurvey cases text old now ending
few_writes cases text old now Done few writes = (few, writes)
few_writes cases text old now (Vplsnet outcome) few writes = writes
few_writes cases text old now (TooManyCases count) few writes = absurd writes

-- how many there are of the faults that are known
pub cases_counted : (plan : Plan) (before : NetworkState) (most count : ℕ) (faults : List Fault) → faults ≡ all_faults plan before → count ≡ length (cases_of most faults)
    → count ≡ count_cases plan before most
cases_counted plan before most count faults is counted = counted ∙ ap (λ (f : List Fault). length (cases_of most f)) is

pub too_many : (cases count total : ℕ) (old now : Written) → cases ≡ total → case_limit < cases → count ≡ min cases (2 ^ 64 - 1) → now.taken ≡ old.taken → HasTooMany total count old now
too_many cases count total old now is many counted same = record {
  many = subst (λ (n : ℕ). case_limit < n) is many;
  counted = counted ∙ ap (λ (n : ℕ). min n (2 ^ 64 - 1)) is;
  taken = same;
}

pub ruleset many_steps = (few_writes, cases_counted, too_many)

-- ---- over the plan of the network

pub over_is : (before : NetworkState) (plan : Plan) (over : Over) → over.plan.now ≡ plan → IsChecked plan → IsGroundOf plan before over.ground.now → IsOver before over
over_is before plan over same checked ground = record {
  checked = subst (λ (p : Plan). IsChecked p) (sym same) checked;
  ground = subst (λ (p : Plan). IsGroundOf p before over.ground.now) (sym same) ground;
}
