-- What a call answers by what its stages say.
use Rattle.std.proofs.Common.{◌≡◌, ◌≢◌, ◌↔◌, ◌⊎◌, ◌∙◌, ℕ, List, [], Option, Some, None, IfSome, option_map, inl, inr, refl, arith, subst, sym}
use Rattle.net_base.specs.outside.Outside.{ReadCall}
use Rattle.net_base.specs.declared.plan.Plan.{Plan}
use Rattle.network_model.specs.State.{NetworkState}
use Rattle.psn_net.specs.Lists.{NetLists, network_seen}
use Rattle.survey_text.specs.Text.{survey_text}
use Rattle.text_lines.specs.Written.{Written, lines_written}
use Rattle.vplsnet.specs.declared.outcome.Outcome.{Outcome}
use Rattle.vplsnet.specs.declared.outcome.Outcome.TheVariants as outcome
use Rattle.vplsnet.specs.Answers.{Completes, SaysOutcome}
use Rattle.vplsnet.specs.Around.{Around, Files, HasWriteFault}
use Rattle.vplsnet.specs.Asked.{Tables}
use Rattle.vplsnet.specs.Reads.{GainsReads, MayRead}
use Rattle.vplsnet_survey.specs.declared.ending.Ending.{Ending}
use Rattle.vplsnet_survey.specs.declared.ending.Ending.TheVariants.{Done, Vplsnet, TooManyCases}
use Rattle.vplsnet_survey.specs.Answers.{EndsAs, SaysAs, SaysEnding, SurveyCompletes, SurveyFinishes, base_events, base_plan, base_state, tables_of}
use Rattle.vplsnet_survey.specs.Asked.{SurveyAsked}
use Rattle.vplsnet_survey.specs.Ended.{EndsShort, SurveysLeft, WritesSurvey, count_cases}
use Rattle.vplsnet_survey.proofs.BaseLemmas.{IsLeftBy, left_by, no_fault_done, run_made, sound_unwritten, stopped_by, unwritten_of}
use Rattle.vplsnet_survey.proofs.LawLemmas.{laws_kept}

-- what the sink took by a call, and how its count of faults stands
abbrev pub old_of : Around → Written
old_of around = lines_written around.taken_before around.sink_before []

abbrev pub now_of : Around → Written
now_of around = lines_written around.taken_after around.sink_after []

-- ---- a run that was done

short_says : (around : Around) (asked : SurveyAsked) (network : Option NetLists) (left : IsLeftBy around.files asked.file network) (it : Outcome)
    → EndsShort (survey_text (base_plan left.base) (base_state left.base) asked.most) (old_of around) (now_of around) it → SaysAs around asked it
short_says around asked network left outcome.WriteFault short = record { base = left.base; taken = short.front; cause = short.rose }
short_says around asked network left outcome.NoMemory short = inr (record { base = left.base; taken = short })
short_says around asked network left outcome.Done short = absurd short
short_says around asked network left outcome.Usage short = absurd short
short_says around asked network left outcome.ReadFault short = absurd short
short_says around asked network left (outcome.TooLong named limit) short = absurd short
short_says around asked network left (outcome.ScenarioRefused fault) short = absurd short
short_says around asked network left (outcome.NoCircuit circuit) short = absurd short
short_says around asked network left (outcome.CaptureRefused file fault) short = absurd short
short_says around asked network left (outcome.ScriptRefused line word) short = absurd short
short_says around asked network left (outcome.AuditRefused line rule) short = absurd short
short_says around asked network left (outcome.Stopped stop) short = absurd short
short_says around asked network left (outcome.DecodeRefused fault) short = absurd short
short_says around asked network left (outcome.Unfinished at) short = absurd short

survey_says : (around : Around) (asked : SurveyAsked) (network : Option NetLists) (left : IsLeftBy around.files asked.file network) (ending : Ending)
    → WritesSurvey (count_cases (base_plan left.base) (base_state left.base) asked.most) (survey_text (base_plan left.base) (base_state left.base) asked.most) (old_of around) (now_of around) ending
    → SaysEnding around asked ending
survey_says around asked network left Done writes =
    record { base = left.base; few = writes.0; taken = writes.1; laws = laws_kept (base_plan left.base) (base_events left.base) }
survey_says around asked network left (Vplsnet it) writes = short_says around asked network left it writes
survey_says around asked network left (TooManyCases count) writes = record { base = left.base; many = writes.many; counted = writes.counted; untouched = writes.taken }

pub done_says : (around : Around) (asked : SurveyAsked) (network : Option NetLists) (ending : Ending) → SaysOutcome (unwritten_of around) (Tables asked.file) network outcome.Done
    → SurveysLeft network asked.most (old_of around) (now_of around) ending → SaysEnding around asked ending
done_says around asked network ending says surveys =
    let left : IsLeftBy around.files asked.file network = left_by (unwritten_of around) asked.file network says in
    let seen : SurveysLeft (Some left.left) asked.most (old_of around) (now_of around) ending =
    subst (λ (n : Option NetLists). SurveysLeft n asked.most (old_of around) (now_of around) ending) left.is surveys in
    let planned : WritesSurvey (count_cases (base_plan left.base) (network_seen left.left) asked.most) (survey_text (base_plan left.base) (network_seen left.left) asked.most)
    (old_of around) (now_of around) ending =
    subst (λ (p : Plan). WritesSurvey (count_cases p (network_seen left.left) asked.most) (survey_text p (network_seen left.left) asked.most) (old_of around) (now_of around) ending) left.plan seen in
    survey_says around asked network left ending
    (subst (λ (s : NetworkState). WritesSurvey (count_cases (base_plan left.base) s asked.most) (survey_text (base_plan left.base) s asked.most) (old_of around) (now_of around) ending)
    left.state planned)

-- ---- a run that was not

other_says : (around : Around) (asked : SurveyAsked) (network : Option NetLists) (it : Outcome) → SaysOutcome (unwritten_of around) (Tables asked.file) network it → it ≢ outcome.Done
    → around.taken_after ≡ around.taken_before → SaysAs around asked it
other_says around asked network outcome.Done says other same = absurd (other refl)
other_says around asked network outcome.Usage says other same = says
other_says around asked network outcome.ReadFault says other same = (says.0, same)
other_says around asked network outcome.WriteFault says other same = absurd (never_rose says.cause) where
  never_rose : HasWriteFault (unwritten_of around) → ⊥
  never_rose rose = omega (arith, rose)
other_says around asked network (outcome.TooLong named limit) says other same = (says.0, same)
other_says around asked network (outcome.ScenarioRefused fault) says other same = (says.0, same)
other_says around asked network (outcome.NoCircuit circuit) says other same = (says.0, same)
other_says around asked network (outcome.CaptureRefused file fault) says other same = (says.0, same)
other_says around asked network (outcome.ScriptRefused line word) says other same = (says.0, same)
other_says around asked network (outcome.AuditRefused line rule) says other same = (says.0, same)
other_says around asked network (outcome.Stopped reason) says other same = (stopped_by (unwritten_of around) asked.file network reason says, same)
other_says around asked network (outcome.DecodeRefused fault) says other same = absurd ((run_made (unwritten_of around) asked.file says.text network (outcome.DecodeRefused fault) says.made).makes)
other_says around asked network (outcome.Unfinished at) says other same = absurd ((run_made (unwritten_of around) asked.file says.text network (outcome.Unfinished at) says.made).makes)
other_says around asked network outcome.NoMemory says other same = inl same

-- ---- the two together

is_done : (o : Outcome) → (o ≡ outcome.Done) ⊎ (o ≢ outcome.Done)
is_done outcome.Done = inl refl
is_done outcome.Usage = inr (λ e. absurd (cc (e)))
is_done outcome.ReadFault = inr (λ e. absurd (cc (e)))
is_done outcome.WriteFault = inr (λ e. absurd (cc (e)))
is_done (outcome.TooLong named limit) = inr (λ e. absurd (cc (e)))
is_done (outcome.ScenarioRefused fault) = inr (λ e. absurd (cc (e)))
is_done (outcome.NoCircuit circuit) = inr (λ e. absurd (cc (e)))
is_done (outcome.CaptureRefused file fault) = inr (λ e. absurd (cc (e)))
is_done (outcome.ScriptRefused line word) = inr (λ e. absurd (cc (e)))
is_done (outcome.AuditRefused line rule) = inr (λ e. absurd (cc (e)))
is_done (outcome.Stopped reason) = inr (λ e. absurd (cc (e)))
is_done (outcome.DecodeRefused fault) = inr (λ e. absurd (cc (e)))
is_done (outcome.Unfinished at) = inr (λ e. absurd (cc (e)))
is_done outcome.NoMemory = inr (λ e. absurd (cc (e)))

pub answers_by : (around : Around) (asked : SurveyAsked) (network : Option NetLists) (it : Outcome) (ending : Ending) → SaysOutcome (unwritten_of around) (Tables asked.file) network it
    → (it ≡ outcome.Done → SurveysLeft network asked.most (old_of around) (now_of around) ending) → (it ≢ outcome.Done → ending ≡ Vplsnet it)
    → (it ≢ outcome.Done → around.taken_after ≡ around.taken_before) → SaysEnding around asked ending
answers_by around asked network it ending says done other same = by it says done other same (is_done it) where
  by : (o : Outcome) → SaysOutcome (unwritten_of around) (Tables asked.file) network o → (o ≡ outcome.Done → SurveysLeft network asked.most (old_of around) (now_of around) ending)
      → (o ≢ outcome.Done → ending ≡ Vplsnet o) → (o ≢ outcome.Done → around.taken_after ≡ around.taken_before) → (o ≡ outcome.Done) ⊎ (o ≢ outcome.Done) → SaysEnding around asked ending
  by o says done other same (inl is) =
      done_says around asked network ending (subst (λ (p : Outcome). SaysOutcome (unwritten_of around) (Tables asked.file) network p) is says) (done is)
  by o says done other same (inr not) = subst (SaysEnding around asked) (sym (other not)) (other_says around asked network o says not (same not))

-- ---- and in a sound surrounding the ending is what the files call for

-- a survey that is called for is done, or has too many cases, or memory was refused
short_called : (around : Around) (text : List ℕ) (it : Outcome) → (¬ HasWriteFault around) → EndsShort text (old_of around) (now_of around) it → it ≡ outcome.NoMemory
short_called around text outcome.NoMemory sound short = refl
short_called around text outcome.WriteFault sound short = absurd (sound short.rose)
short_called around text outcome.Done sound short = absurd short
short_called around text outcome.Usage sound short = absurd short
short_called around text outcome.ReadFault sound short = absurd short
short_called around text (outcome.TooLong named limit) sound short = absurd short
short_called around text (outcome.ScenarioRefused fault) sound short = absurd short
short_called around text (outcome.NoCircuit circuit) sound short = absurd short
short_called around text (outcome.CaptureRefused file fault) sound short = absurd short
short_called around text (outcome.ScriptRefused line word) sound short = absurd short
short_called around text (outcome.AuditRefused line rule) sound short = absurd short
short_called around text (outcome.Stopped stop) sound short = absurd short
short_called around text (outcome.DecodeRefused fault) sound short = absurd short
short_called around text (outcome.Unfinished at) sound short = absurd short

survey_called : (around : Around) (cases : ℕ) (text : List ℕ) (ending : Ending) (called : Outcome) → called ≡ outcome.Done → (¬ HasWriteFault around)
    → WritesSurvey cases text (old_of around) (now_of around) ending → EndsAs called ending
survey_called around cases text Done called is sound writes = is
survey_called around cases text (TooManyCases count) called is sound writes = is
survey_called around cases text (Vplsnet it) called is sound writes = inr (short_called around text it sound writes)

left_called : (around : Around) (asked : SurveyAsked) (network : Option NetLists) (ending : Ending) (called : Outcome) → called ≡ outcome.Done → (¬ HasWriteFault around)
    → SurveysLeft network asked.most (old_of around) (now_of around) ending → EndsAs called ending
left_called around asked None ending called is sound surveys = subst (EndsAs called) (sym surveys.0) (inr refl)
left_called around asked (Some left) ending called is sound surveys =
    survey_called around (count_cases left.plan (network_seen left) asked.most) (survey_text left.plan (network_seen left) asked.most) ending called is sound surveys

pub completes_as : (around : Around) (asked : SurveyAsked) (network : Option NetLists) (it : Outcome) (ending : Ending) → Completes (unwritten_of around) (Tables asked.file) it
    → (it ≡ outcome.Done → SurveysLeft network asked.most (old_of around) (now_of around) ending) → (it ≢ outcome.Done → ending ≡ Vplsnet it) → SurveyCompletes around asked ending
completes_as around asked network it ending completes done other called sound =
    by (is_done it) (completes called (sound_unwritten around (Tables asked.file) called sound))
  where
    by : (it ≡ outcome.Done) ⊎ (it ≢ outcome.Done) → (it ≡ called) ⊎ (it ≡ outcome.NoMemory) → EndsAs called ending
    by (inl is) (inl same) =
        let called_done : called ≡ outcome.Done = sym same ∙ is in
        left_called around asked network ending called called_done (no_fault_done around asked.file called called_done sound) (done is)
    by (inl is) (inr want) = absurd (cc (is, want))
    by (inr not) which = subst (EndsAs called) (sym (other not)) which

-- ---- the words

pub finishes_by : (around : Around) (asked : SurveyAsked) (words : Option SurveyAsked) (ending : Ending) → Some asked ≡ words → SaysEnding around asked ending → SurveyFinishes around words ending
finishes_by around asked words ending is says = subst (λ (o : Option SurveyAsked). SurveyFinishes around o ending) is says

pub usage_by : (around : Around) (asked : SurveyAsked) (words : Option SurveyAsked) (ending : Ending) → Some asked ≡ words → SaysEnding around asked ending
    → (ending ≡ Vplsnet outcome.Usage) ↔ (words ≡ None)
usage_by around asked words ending is says = (
  λ usage. absurd (subst (SaysEnding around asked) usage says),
  λ none. absurd (cc (is, none)),
)

pub all_by : (around : Around) (asked : SurveyAsked) (words : Option SurveyAsked) (ending : Ending) → Some asked ≡ words → SurveyCompletes around asked ending
    → IfSome words (λ asked. SurveyCompletes around asked ending)
all_by around asked words ending is completes = subst (λ (o : Option SurveyAsked). IfSome o (λ it. SurveyCompletes around it ending)) is completes

pub reads_by : (files : Files) (asked : SurveyAsked) (words : Option SurveyAsked) (before after : List ReadCall) → Some asked ≡ words
    → GainsReads (MayRead files (Some (tables_of asked))) before after → GainsReads (MayRead files (option_map tables_of words)) before after
reads_by files asked words before after is reads = subst (λ (o : Option SurveyAsked). GainsReads (MayRead files (option_map tables_of o)) before after) is reads

pub ruleset word_steps = (finishes_by, usage_by, all_by, reads_by)
