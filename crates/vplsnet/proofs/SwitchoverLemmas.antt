-- What `switchover` answers by what its stages say.
use Rattle.std.proofs.Common.{◌≡◌, ℕ, List, [], ◌∷◌, Option, None, Ok, Err, inl, inr, refl, sym, subst}
use Rattle.std.specs.List.{All}
use Rattle.std.proofs.lemmas.List.Elements.{All-cons, All-head, All-nil, All-tail}
use Rattle.net_base.specs.declared.plan.Plan.{Plan}
use Rattle.net_base.specs.outside.Outside.{ReadCall}
use Rattle.net_base.specs.plan.Accepted.{IsChecked}
use Rattle.flight_laws.specs.Ends.{AreFieldOffers, HasTypes as HasFieldTypes}
use Rattle.psn_net.specs.Lists.{NetLists}
use Rattle.session_core.specs.Laws.{IsAddress}
use Rattle.scenario_text.specs.declared.scenario.Scenario.{Scenario}
use Rattle.scenario_text.specs.Document.{document}
use Rattle.script_text.specs.declared.script_fault.ScriptFault.{ScriptFault}
use Rattle.script_text.specs.Reading.{FailsScript}
use Rattle.switchover_model.specs.declared.switch_line.SwitchLine.{SwitchLine}
use Rattle.switchover_model.specs.Laws.{HasGroups, HasSwitchTypes, IsRouter}
use Rattle.switchover_model.proofs.AgreeLemmas.{scripts_agree}
use Rattle.switchover_script.specs.Lines.{switch_lines_in}
use Rattle.switchover_text.specs.Text.{switchover_report}
use Rattle.text_lines.specs.Written.{Written, lines_written}
use Rattle.vplsnet.specs.declared.outcome.Outcome.{Outcome}
use Rattle.vplsnet.specs.declared.outcome.Outcome.TheVariants.{Done, ScenarioRefused, NoMemory}
use Rattle.vplsnet.specs.Answers.{SaysOutcome}
use Rattle.vplsnet.specs.Around.{Around, Files, Has, IsUntouched}
use Rattle.vplsnet.specs.Asked.{Switchover}
use Rattle.vplsnet.specs.Inputs.{ComesTo, Exchange, IsNextInput, IsNextBehind, IsNextExchange, Refuses, Wanted, Works, next_script, script_file, script_limit}
use Rattle.vplsnet.specs.PlanFile.{HasBoth, IsReadOfTwo, LacksOne, ReadsSecond}
use Rattle.vplsnet.specs.Reads.{GainsReads, IsReadOfNext}
use Rattle.vplsnet.specs.ScriptFile.{EndsScript, outcome_of_script}
use Rattle.vplsnet.specs.Switchover.{AgreesBehindEach}
use Rattle.vplsnet.specs.Writing.{EndsExchange, WritesText}
use Rattle.vplsnet.proofs.AnswerLemmas.{none_answers, now_of, old_of, refused_answers, text_answers}
use Rattle.vplsnet.proofs.PlanFileLemmas.{next_after, two_read, two_refused}
use Rattle.vplsnet.proofs.ScriptFileLemmas.{no_lines, script_ended}
use Rattle.vplsnet.proofs.WritingLemmas.{ends_text}
use Rattle.packet_laws.proofs.MessageLemmas.{all_octets}

-- ---- what is asked of a plan

-- the numbers of a plan that fit their fields
all_as : {A : Type 0} (P Q : A → Type 0) (xs : List A) → ((x : A) → P x → Q x) → All P xs → All Q xs
all_as P Q [] follows all = All-nil Q
all_as P Q (x ∷ xs) follows all = All-cons Q x xs (follows x (All-head P x xs all)) (all_as P Q xs follows (All-tail P x xs all))

pub switch_types : (plan : Plan) → HasFieldTypes plan → HasSwitchTypes plan
switch_types plan types = record {
  routers = all_as (λ row. IsAddress row.address) IsRouter plan.edges (λ row is. record { four = is.four; octets = all_octets row.address.0 is.octets }) types.addresses;
  groups = all_as AreFieldOffers HasGroups plan.wires (λ row are. record { near = are.near.group; far = are.far.group }) types.offers;
}

-- ---- the writing of what comes of lines

agrees_each : (plan : Plan) (lines : List SwitchLine) → IsChecked plan → HasFieldTypes plan → AgreesBehindEach plan lines
agrees_each plan lines checked types front behind split a b wire row is between = scripts_agree plan checked (switch_types plan types) front a b wire row is between

pub exchange_told : (plan : Plan) (lines : List SwitchLine) (text : List ℕ) (old now : Written) (outcome : Outcome) → IsChecked plan → HasFieldTypes plan → text
    ≡ switchover_report plan lines → WritesText text Done old now outcome
    → EndsExchange plan lines old now None outcome
exchange_told plan lines text old now outcome checked types same written =
    inl (record {
      agrees = agrees_each plan lines checked types;
      ends = ends_text (switchover_report plan lines) None Done outcome old now None outcome (subst (λ (l : List ℕ). WritesText l Done old now outcome) same written) refl refl;
    })

pub exchange_none : (plan : Plan) (lines : List SwitchLine) (old now : Written) (outcome : Outcome) → outcome ≡ NoMemory → now.taken ≡ old.taken → EndsExchange plan lines old now None outcome
exchange_none plan lines old now outcome ends taken = inr (record { outcome_is = ends; no_run = refl; taken = taken })

pub ruleset line_steps = (exchange_told, exchange_none)

-- ---- the script

pub lines_end : (plan : Plan) (octets : List ℕ) (lines lent : List SwitchLine) (old now : Written) (outcome : Outcome) → lent ≡ lines → switch_lines_in plan octets ≡ Ok lines
    → EndsExchange plan lent old now None outcome
    → EndsScript (switch_lines_in plan octets) (λ ls. EndsExchange plan ls old now None outcome) old now None outcome
lines_end plan octets lines lent old now outcome same is ends = inl (record { lines = lines; is = is; ends = subst (λ (ls : List SwitchLine). EndsExchange plan ls old now None outcome) same ends })

pub refused_end : (plan : Plan) (octets : List ℕ) (fault : ScriptFault) (old : Written) (outcome : Outcome) → FailsScript fault (switch_lines_in plan octets) → outcome ≡ outcome_of_script fault
    → EndsScript (switch_lines_in plan octets) (λ ls. EndsExchange plan ls old old None outcome) old old None outcome
refused_end plan octets fault old outcome fails is = inr (record { why = no_lines (switch_lines_in plan octets) fault outcome fails is; taken = refl; no_run = refl })

pub ruleset script_steps = (lines_end, refused_end)

-- ---- answers

abbrev script_wanted : List ℕ → Wanted
script_wanted script = record { name = script; limit = script_limit }

-- a script is read behind the scenario
reads_script : (file script : List ℕ) → ReadsSecond (Switchover file script) file (script_wanted script)
reads_script file script = record {
  first = refl;
  refuses = λ octets fault is. next_after (λ scenario it. IsNextBehind (script_file script) (IsNextExchange scenario) [] it) octets (Err fault) (Refuses (ScenarioRefused fault)) is refl;
  next = λ octets scenario is. next_after (λ scenario it. IsNextBehind (script_file script) (IsNextExchange scenario) [] it) octets (Ok scenario) (script_file script) is refl;
}

-- what comes behind both files
script_next : (file script octets : List ℕ) (scenario : Scenario) (text : List ℕ) → document text ≡ Ok scenario
    → IsNextInput (Switchover file script) (text ∷ octets ∷ []) (next_script (Exchange scenario.plan) (switch_lines_in scenario.plan octets))
script_next file script octets scenario text is =
    next_after (λ s it. IsNextBehind (script_file script) (IsNextExchange s) (octets ∷ []) it) text (Ok scenario) (next_script (Exchange scenario.plan) (switch_lines_in scenario.plan octets)) is refl

-- one of the files was not had
pub exchange_lacks : (around : Around) (file script : List ℕ) (network : Option NetLists) (outcome : Outcome)
    → LacksOne around.files around.shelf_before around.shelf_after file (script_wanted script) outcome → IsUntouched around network
    → SaysOutcome around (Switchover file script) network outcome
exchange_lacks around file script network outcome lacks untouched =
    refused_answers around (Switchover file script) network outcome
    (two_refused around.files around.shelf_before around.shelf_after (Switchover file script) file (script_wanted script) outcome (reads_script file script) lacks) untouched

pub exchange_reads : (files : Files) (file script : List ℕ) (before after : List ReadCall) → GainsReads (IsReadOfTwo files file (script_wanted script)) before after
    → GainsReads (IsReadOfNext (Has files) (Switchover file script)) before after
exchange_reads files file script before after gains = two_read files (Switchover file script) file (script_wanted script) before after (reads_script file script) gains

-- what comes of the lines was written
lines_answer : (around : Around) (file script : List ℕ) (plan : Plan) (lines : List SwitchLine) (network : Option NetLists) (outcome : Outcome)
    → ComesTo (Has around.files) (Switchover file script) (Works (Exchange plan lines))
    → EndsExchange plan lines (old_of around) (now_of around) network outcome → SaysOutcome around (Switchover file script) network outcome
lines_answer around file script plan lines network outcome come (inl told) =
    text_answers around (Switchover file script) (switchover_report plan lines) None Done network outcome refl
    (record { work = Exchange plan lines; come = come; makes = record { text_is = refl; agrees = told.agrees; ends = refl; no_run = refl } }) told.ends
lines_answer around file script plan lines network outcome come (inr none) = none_answers around (Switchover file script) network outcome none

exchange_answers : (around : Around) (file script octets : List ℕ) (scenario : Scenario) (network : Option NetLists) (outcome : Outcome)
    → HasBoth around.files file (script_wanted script) scenario octets
    → EndsScript (switch_lines_in scenario.plan octets) (λ lines. EndsExchange scenario.plan lines (old_of around) (now_of around) network outcome) (old_of around) (now_of around) network outcome
    → SaysOutcome around (Switchover file script) network outcome
exchange_answers around file script octets scenario network outcome both ends =
    script_ended around (Switchover file script) file octets (script_wanted script) scenario (switch_lines_in scenario.plan octets) (Exchange scenario.plan)
    (λ lines. EndsExchange scenario.plan lines (old_of around) (now_of around) network outcome) network outcome (reads_script file script) both (script_next file script octets scenario)
    (λ lines come it. lines_answer around file script scenario.plan lines network outcome come it) ends

pub exchange_ended : (around : Around) (file script octets lent : List ℕ) (scenario : Scenario) (network : Option NetLists) (made outcome : Outcome) → lent ≡ octets → network ≡ None → outcome ≡ made
    → HasBoth around.files file (script_wanted script) scenario octets
    → EndsScript (switch_lines_in scenario.plan lent)
    (λ lines. EndsExchange scenario.plan lines (lines_written around.taken_before around.sink_before []) (lines_written around.taken_after around.sink_after []) None made)
    (lines_written around.taken_before around.sink_before []) (lines_written around.taken_after around.sink_after []) None made
    → SaysOutcome around (Switchover file script) network outcome
exchange_ended around file script octets lent scenario network made outcome same none is both ends =
    subst (λ (n : Option NetLists). SaysOutcome around (Switchover file script) n outcome) (sym none)
    (subst (λ (o : Outcome). SaysOutcome around (Switchover file script) None o) (sym is)
    (exchange_answers around file script octets scenario None made both
    (subst (λ (o : List ℕ). EndsScript (switch_lines_in scenario.plan o) (λ lines. EndsExchange scenario.plan lines (old_of around) (now_of around) None made) (old_of around)
    (now_of around) None made) same ends)))

pub ruleset file_steps = (exchange_lacks, exchange_reads, exchange_ended)
