-- What `discover` answers by what its stages say.
use Rattle.std.proofs.Common.{◌≡◌, ◌≤◌, ◌<◌, ◌+◌, ◌++◌, ◌∷◌, ◌∙◌, ℕ, zero, suc, Bool, true, false, List, [], Option, Some, None, Ok, Err, length, inl, inr, arith, refl, ap, sym, subst, if◌then◌else◌}
use Rattle.std.specs.List.{All, AllByRecursion}
use Rattle.std.proofs.lemmas.List.{append-nil}
use Rattle.std.proofs.lemmas.List.Elements.{All-append, All-cons, All-head, All-nil, All-tail}
use Rattle.net_base.specs.declared.plan.Plan.{Plan}
use Rattle.net_base.specs.declared.plan.places.EdgeId.{EdgeId}
use Rattle.net_base.specs.declared.trace.event.Event.{Event}
use Rattle.net_base.specs.declared.trace.event.Event.TheVariants.{Connect, Lose, Tick}
use Rattle.net_base.specs.outside.Outside.{ReadCall}
use Rattle.net_base.specs.plan.Accepted.{IsChecked}
use Rattle.net_base.specs.plan.Paths.{are_joined}
use Rattle.net_base.specs.plan.Planned.{IsEventOf, IsFrame}
use Rattle.command_run.specs.Made.{made_by}
use Rattle.command_run.proofs.PlannedLemmas.{made_planned}
use Rattle.command_text.specs.Planned.{IsPlanned}
use Rattle.discovery_net.specs.Acts.{Act, Does, Tells, events_in}
use Rattle.discovery_net.specs.Deeds.{Discovery as DiscoveryState, Hello, adjacency_lives, hello_numbered, octets_of_hello, discovery_opened}
use Rattle.discovery_net.specs.Lines.{Lapse, acts_of, after_line, bring_acts, downs, lapses_from, lapses_with, may_open, next_hello}
use Rattle.discovery_net.specs.Lists.{DiscoveryLists, ended_at}
use Rattle.discovery_net.specs.Script.{HoldsBehindEach, events_made, script_acts, script_course}
use Rattle.discovery_net.proofs.CourseLemmas.{done_alone}
use Rattle.ldp_discovery.specs.Histories.{ends_by_tick}
use Rattle.ldp_discovery.specs.Live.{Deed}
use Rattle.discovery_script.specs.declared.note.Note.TheVariants as note
use Rattle.discovery_script.specs.declared.placed_note.PlacedNote.{PlacedNote}
use Rattle.discovery_script.specs.declared.script_line.ScriptLine.{ScriptLine}
use Rattle.discovery_script.specs.declared.script_line.ScriptLine.TheVariants as line
use Rattle.discovery_script.specs.Lines.{discovery_lines_in}
use Rattle.discovery_script.specs.Planned.{IsDiscoveryLineOf}
use Rattle.flight_laws.specs.Ends.{HasTypes}
use Rattle.network_model.specs.State.{NetworkState, empty_network, stands}
use Rattle.network_model.specs.Step.{step}
use Rattle.psn_net.specs.declared.net_stop.NetStop.{NetStop}
use Rattle.psn_net.specs.Lists.{NetLists}
use Rattle.psn_net.specs.Runs.{ended, ran}
use Rattle.scenario_text.specs.declared.scenario.Scenario.{Scenario}
use Rattle.scenario_text.specs.Document.{document}
use Rattle.script_text.specs.declared.script_fault.ScriptFault.{ScriptFault}
use Rattle.script_text.specs.Reading.{FailsScript}
use Rattle.text_lines.specs.Written.{Written, lines_written}
use Rattle.vplsnet.specs.declared.outcome.Outcome.{Outcome}
use Rattle.vplsnet.specs.declared.outcome.Outcome.TheVariants.{ScenarioRefused, NoMemory}
use Rattle.vplsnet.specs.Answers.{SaysOutcome}
use Rattle.vplsnet.specs.Around.{Around, Files, Has, IsUntouched}
use Rattle.vplsnet.specs.Asked.{Discover}
use Rattle.vplsnet.specs.Discover.{IsDiscoverRun, IsDiscoveryRun, discovery_text}
use Rattle.vplsnet.specs.Inputs.{ComesTo, Discovery, IsNextInput, IsNextBehind, IsNextDiscovery, Refuses, Wanted, Works, next_script, script_file, script_limit}
use Rattle.vplsnet.specs.PlanFile.{HasBoth, IsReadOfTwo, LacksOne, ReadsSecond}
use Rattle.vplsnet.specs.Reads.{GainsReads, IsReadOfNext}
use Rattle.vplsnet.specs.RunOver.{outcome_by}
use Rattle.vplsnet.specs.ScriptFile.{EndsScript, outcome_of_script}
use Rattle.vplsnet.specs.Writing.{EndsDiscovery, EndsText}
use Rattle.vplsnet.proofs.AnswerLemmas.{none_answers, now_of, old_of, refused_answers, run_own, text_answers}
use Rattle.vplsnet.proofs.PlanFileLemmas.{next_after, two_read, two_refused}
use Rattle.vplsnet.proofs.RunLemmas.{is_run_over}
use Rattle.vplsnet.proofs.ScriptFileLemmas.{no_lines, script_ended}

-- ---- the events of lines speak of the plan

events_joined : (acts more : List Act) → events_in (acts ++ more) ≡ events_in acts ++ events_in more
events_joined [] more = refl
events_joined (Does event ∷ acts) more = ap (λ (es : List Event). event ∷ es) (events_joined acts more)
events_joined (Tells told ∷ acts) more = events_joined acts more

-- both edges of each adjacency that ends are below this place
abbrev AreBelow : ℕ → List Lapse → Type 0
AreBelow most lapses = AllByRecursion (λ (lapse : Lapse). (lapse.edge.0 < most) × (lapse.peer.0 < most)) lapses

with_below : (most : ℕ) (ends : ℕ → Bool) (edge : EdgeId) (place count : ℕ) (behind : List Lapse) → edge.0 < most → place + count ≤ most → AreBelow most behind
    → AreBelow most (lapses_with ends edge place count behind)
with_below most ends edge place zero behind here within are = are
with_below most ends edge place (suc count) behind here within are =
    by (ends place) (with_below most ends edge (place + 1) count behind here (omega (arith, within)) are)
  where
    below : place < most
    below = omega (arith, within)

    by : (test : Bool) → AreBelow most (lapses_with ends edge (place + 1) count behind)
        → AreBelow most (if test then record { edge = edge; peer = record { 0 = place } } ∷ lapses_with ends edge (place + 1) count behind else lapses_with ends edge (place + 1) count behind)
    by true later = ((here, below), later)
    by false later = later

from_below : (most : ℕ) (histories : ℕ → List Deed) (place count : ℕ) → place + count ≤ most → AreBelow most (lapses_from histories most place count)
from_below most histories place zero within = tt
from_below most histories place (suc count) within =
    with_below most (ends_by_tick (histories place)) (record { 0 = place }) 0 most (lapses_from histories most (place + 1) count) (omega (arith, within)) (omega arith)
    (from_below most histories (place + 1) count (omega (arith, within)))

downs_planned : (plan : Plan) (lapses : List Lapse) (network : NetworkState) → AreBelow (length plan.edges) lapses → All (IsEventOf plan) (events_in (downs plan network lapses))
downs_planned plan [] network are = All-cons (IsEventOf plan) Tick [] tt (All-nil (IsEventOf plan))
downs_planned plan (lapse ∷ lapses) network are = by (stands network lapse.edge.0 lapse.peer.0) (λ later. downs_planned plan lapses later are.1) where
  lost : NetworkState
  lost = (step plan network (Lose lapse.edge lapse.peer)).state

  by : (up : Bool) → ((later : NetworkState) → All (IsEventOf plan) (events_in (downs plan later lapses)))
      → All (IsEventOf plan) (events_in (if up then Does (Lose lapse.edge lapse.peer) ∷ downs plan lost lapses else downs plan network lapses))
  by true behind = All-cons (IsEventOf plan) (Lose lapse.edge lapse.peer) (events_in (downs plan lost lapses)) are.0 (behind lost)
  by false behind = behind network

line_planned : (plan : Plan) (d : DiscoveryState) (l : ScriptLine) → IsDiscoveryLineOf plan l → All (IsEventOf plan) (events_in (acts_of plan d l))
line_planned plan d (line.Hello from to hold) of = by (are_joined plan from.0 to.0) where
  by : (joined : Bool) → All (IsEventOf plan) (events_in (if joined then Tells (note.Hello (length d.hellos + 1) from to (octets_of_hello plan (next_hello d from to hold))) ∷ [] else Tells note.Idle ∷ []))
  by true = All-nil (IsEventOf plan)
  by false = All-nil (IsEventOf plan)
line_planned plan d (line.Bring number) of = by (hello_numbered d number) where
  told : (hello : Hello) (lived : Bool) → All (IsEventOf plan) (events_in (if lived then [] else Tells (note.Up hello.to hello.from) ∷ []))
  told hello true = All-nil (IsEventOf plan)
  told hello false = All-nil (IsEventOf plan)

  by : (found : Option Hello) → All (IsEventOf plan) (events_in (bring_acts d found))
  by None = All-nil (IsEventOf plan)
  by (Some hello) = told hello (adjacency_lives d hello.to.0 hello.from.0)
line_planned plan d (line.Open from to) of = by (are_joined plan from.0 to.0) (may_open d from to) where
  by : (joined may : Bool) → All (IsEventOf plan) (events_in (if joined then (if may then Does (Connect from to) ∷ [] else Tells (note.Barred from to) ∷ []) else Tells note.Idle ∷ []))
  by true true = All-cons (IsEventOf plan) (Connect from to) [] of (All-nil (IsEventOf plan))
  by true false = All-nil (IsEventOf plan)
  by false may = All-nil (IsEventOf plan)
line_planned plan d line.Tick of =
    downs_planned plan (lapses_from d.histories (length plan.edges) 0 (length plan.edges)) d.network (from_below (length plan.edges) d.histories 0 (length plan.edges) (omega arith))
line_planned plan d (line.Do command) of =
    let made : List Event = made_by plan d.network [] command in
    let one : All (IsEventOf plan) (made ++ []) =
    made_planned plan d.network [] (command ∷ []) (All-nil (All IsFrame)) (All-cons (IsPlanned plan) command [] of.0 (All-nil (IsPlanned plan))) in
    subst (All (IsEventOf plan)) (append-nil made ∙ sym (done_alone made)) one

acts_planned : (plan : Plan) (d : DiscoveryState) (lines : List ScriptLine) → All (IsDiscoveryLineOf plan) lines → All (IsEventOf plan) (events_in (script_acts plan d lines))
acts_planned plan d [] are = All-nil (IsEventOf plan)
acts_planned plan d (l ∷ lines) are =
    let here : List Act = acts_of plan d l in
    let later : List Act = script_acts plan (after_line plan d l) lines in
    subst (All (IsEventOf plan)) (sym (events_joined here later))
    (All-append (IsEventOf plan) (events_in here) (events_in later) (line_planned plan d l (All-head (IsDiscoveryLineOf plan) l lines are))
    (acts_planned plan (after_line plan d l) lines (All-tail (IsDiscoveryLineOf plan) l lines are)))

-- ---- the run of a script

discovery_run : (plan : Plan) (lines : List ScriptLine) (net : DiscoveryLists) (reason : Option NetStop) → IsChecked plan → All (IsDiscoveryLineOf plan) lines → HasTypes plan → net.network.plan
    ≡ plan → net.network.failed ≡ false
    → ended_at net reason ≡ script_course plan lines → ended net.network reason ≡ ran plan (empty_network plan) [] (events_made plan lines) → HoldsBehindEach plan lines
    → IsDiscoveryRun plan lines net.network net.notes reason
discovery_run plan lines net reason checked are types kept going course ends standing = record {
  is_run = is_run_over plan (events_made plan lines) net.network reason checked (acts_planned plan (discovery_opened plan) lines are)
      (record { plan_is = kept; going = going; ends = ends; types = types });
  course = course;
  standing = standing;
}

-- how the writing of its report ended
pub ends_script : (plan : Plan) (lines : List ScriptLine) (net : DiscoveryLists) (reason : Option NetStop) (old now : Written) (network : Option NetLists) (outcome : Outcome)
    → IsChecked plan → All (IsDiscoveryLineOf plan) lines → HasTypes plan
    → net.network.plan ≡ plan → net.network.failed ≡ false → ended_at net reason ≡ script_course plan lines → ended net.network reason
    ≡ ran plan (empty_network plan) [] (events_made plan lines) → HoldsBehindEach plan lines
    → EndsText (discovery_text net.network net.notes reason) (Some net.network) (outcome_by reason) old now network outcome → EndsDiscovery plan lines old now network outcome
ends_script plan lines net reason old now network outcome checked are types kept going course ends standing text =
    inl (record { left = net.network; notes = net.notes; reason = reason; is_run = discovery_run plan lines net reason checked are types kept going course ends standing; ends = text })

pub ends_no_script : (plan : Plan) (lines : List ScriptLine) (old now : Written) (network : Option NetLists) (outcome : Outcome) → outcome ≡ NoMemory → network ≡ None → now.taken
    ≡ old.taken → EndsDiscovery plan lines old now network outcome
ends_no_script plan lines old now network outcome is none taken = inr (record { outcome_is = is; no_run = none; taken = taken })

-- ---- answers

abbrev script_wanted : List ℕ → Wanted
script_wanted script = record { name = script; limit = script_limit }

-- a script is read behind the scenario
reads_script : (file script : List ℕ) → ReadsSecond (Discover file script) file (script_wanted script)
reads_script file script = record {
  first = refl;
  refuses = λ octets fault is. next_after (λ scenario it. IsNextBehind (script_file script) (IsNextDiscovery scenario) [] it) octets (Err fault) (Refuses (ScenarioRefused fault)) is refl;
  next = λ octets scenario is. next_after (λ scenario it. IsNextBehind (script_file script) (IsNextDiscovery scenario) [] it) octets (Ok scenario) (script_file script) is refl;
}

-- what comes behind both files
script_next : (file script octets : List ℕ) (scenario : Scenario) (text : List ℕ) → document text ≡ Ok scenario
    → IsNextInput (Discover file script) (text ∷ octets ∷ []) (next_script (Discovery scenario.plan) (discovery_lines_in scenario.plan octets))
script_next file script octets scenario text is =
    next_after (λ s it. IsNextBehind (script_file script) (IsNextDiscovery s) (octets ∷ []) it) text (Ok scenario)
    (next_script (Discovery scenario.plan) (discovery_lines_in scenario.plan octets)) is refl

-- one of the files was not had
pub discovery_lacks : (around : Around) (file script : List ℕ) (network : Option NetLists) (outcome : Outcome)
    → LacksOne around.files around.shelf_before around.shelf_after file (script_wanted script) outcome → IsUntouched around network
    → SaysOutcome around (Discover file script) network outcome
discovery_lacks around file script network outcome lacks untouched =
    refused_answers around (Discover file script) network outcome
    (two_refused around.files around.shelf_before around.shelf_after (Discover file script) file (script_wanted script) outcome (reads_script file script) lacks) untouched

pub discovery_reads : (files : Files) (file script : List ℕ) (before after : List ReadCall) → GainsReads (IsReadOfTwo files file (script_wanted script)) before after
    → GainsReads (IsReadOfNext (Has files) (Discover file script)) before after
discovery_reads files file script before after gains = two_read files (Discover file script) file (script_wanted script) before after (reads_script file script) gains

-- a run is made of its lines
script_made : (plan : Plan) (lines : List ScriptLine) (left : NetLists) (notes : List PlacedNote) (reason : Option NetStop) → IsDiscoveryRun plan lines left notes reason
    → IsDiscoverRun plan lines (discovery_text left notes reason) (Some left) (outcome_by reason)
script_made plan lines left notes None run = record { left = left; notes = notes; network_is = refl; is_run = run; text_is = refl }
script_made plan lines left notes (Some reason) run = record { left = left; notes = notes; network_is = refl; is_run = run; text_is = refl }

-- its report was written
lines_answer : (around : Around) (file script : List ℕ) (plan : Plan) (lines : List ScriptLine) (network : Option NetLists) (outcome : Outcome)
    → ComesTo (Has around.files) (Discover file script) (Works (Discovery plan lines))
    → EndsDiscovery plan lines (old_of around) (now_of around) network outcome → SaysOutcome around (Discover file script) network outcome
lines_answer around file script plan lines network outcome come (inl told) =
    text_answers around (Discover file script) (discovery_text told.left told.notes told.reason) (Some told.left) (outcome_by told.reason) network outcome (run_own told.reason)
    (record { work = Discovery plan lines; come = come; makes = script_made plan lines told.left told.notes told.reason told.is_run }) told.ends
lines_answer around file script plan lines network outcome come (inr none) = none_answers around (Discover file script) network outcome none

pub discovery_answers : (around : Around) (file script octets lent : List ℕ) (scenario : Scenario) (network : Option NetLists) (outcome : Outcome) → lent ≡ octets
    → HasBoth around.files file (script_wanted script) scenario octets
    → EndsScript (discovery_lines_in scenario.plan lent)
    (λ lines. EndsDiscovery scenario.plan lines (lines_written around.taken_before around.sink_before []) (lines_written around.taken_after around.sink_after []) network outcome)
    (lines_written around.taken_before around.sink_before []) (lines_written around.taken_after around.sink_after []) network outcome
    → SaysOutcome around (Discover file script) network outcome
discovery_answers around file script octets lent scenario network outcome same both ends =
    script_ended around (Discover file script) file octets (script_wanted script) scenario (discovery_lines_in scenario.plan octets) (Discovery scenario.plan)
    (λ lines. EndsDiscovery scenario.plan lines (old_of around) (now_of around) network outcome) network outcome (reads_script file script) both (script_next file script octets scenario)
    (λ lines come it. lines_answer around file script scenario.plan lines network outcome come it)
    (subst (λ (o : List ℕ). EndsScript (discovery_lines_in scenario.plan o) (λ lines. EndsDiscovery scenario.plan lines (old_of around) (now_of around) network outcome)
    (old_of around) (now_of around) network outcome) same ends)

pub ruleset file_steps = (discovery_lacks, discovery_reads, discovery_answers)

-- ---- on the way

pub lines_end : (plan : Plan) (octets : List ℕ) (lines : List ScriptLine) (old now : Written) (network : Option NetLists) (outcome : Outcome) → discovery_lines_in plan octets
    ≡ Ok lines → EndsDiscovery plan lines old now network outcome
    → EndsScript (discovery_lines_in plan octets) (λ ls. EndsDiscovery plan ls old now network outcome) old now network outcome
lines_end plan octets lines old now network outcome is ends = inl (record { lines = lines; is = is; ends = ends })

pub refused_end : (plan : Plan) (octets : List ℕ) (fault : ScriptFault) (old : Written) (network : Option NetLists) (made outcome : Outcome)
    → FailsScript fault (discovery_lines_in plan octets) → made ≡ outcome_of_script fault → network ≡ None
    → outcome ≡ made → EndsScript (discovery_lines_in plan octets) (λ ls. EndsDiscovery plan ls old old network outcome) old old network outcome
refused_end plan octets fault old network made outcome fails is none same =
    inr (record { why = no_lines (discovery_lines_in plan octets) fault outcome fails (same ∙ is); taken = refl; no_run = none })

pub ruleset script_steps = (lines_end, refused_end)

pub ruleset line_steps = (ends_script, ends_no_script)
