-- A call of `vplsnet tables` that writes to nothing.
use Rattle.std.proofs.Common.{◌≡◌, ◌∙◌, ◌++◌, true, codes, ℕ, List, [], ◌∷◌, Option, Some, None, Result, Ok, Err, IfSome, inl, inr, refl, ap, arith, subst, sym}
use Rattle.net_base.specs.outside.Outside.{ReadCall, Rose}
use Rattle.command_text.specs.declared.scenario_fault.ScenarioFault.{ScenarioFault}
use Rattle.psn_net.specs.declared.net_stop.NetStop.{NetStop}
use Rattle.psn_net.specs.Lists.{NetLists, network_seen}
use Rattle.scenario_text.specs.declared.scenario.Scenario.{Scenario}
use Rattle.scenario_text.specs.Document.{document}
use Rattle.network_model.specs.State.{empty_network}
use Rattle.network_model.specs.Run.{state_after}
use Rattle.flight_laws.specs.Laws.{network_after}
use Rattle.vplsnet.specs.declared.outcome.Outcome.{Outcome}
use Rattle.vplsnet.specs.declared.outcome.Outcome.TheVariants as outcome
use Rattle.vplsnet.specs.Answers.{CallsFor, Completes, Finishes, IsMade, IsSoundFile, IsSoundOutcome, MakesAnswer, SaysOutcome}
use Rattle.vplsnet.specs.Around.{Around, Files, Has, HasWriteFault}
use Rattle.vplsnet.specs.Asked.{Asked, Tables, asked, is_plain_argument}
use Rattle.vplsnet.specs.Inputs.{AreReadNext, ComesTo, CommandWork, IsNextInput, IsNextPlayed, IsNextRead, Next, Reads, Refuses, Run, Works, played}
use Rattle.vplsnet.specs.Reads.{GainsReads, MayRead}
use Rattle.vplsnet.specs.RunOver.{IsRunOver}
use Rattle.vplsnet.specs.ScenarioRun.{IsScenarioRun, events_of}
use Rattle.vplsnet_survey.specs.Answers.{IsBase, base_events, base_plan}

-- ---- the words

asked_tables : (file : List ℕ) → is_plain_argument file ≡ true → asked (codes "tables" ∷ file ∷ []) ≡ Some (Tables file)
asked_tables file plain = rw plain refl

words_ask : (words : List (List ℕ)) (file : List ℕ) → words ≡ codes "tables" ∷ file ∷ [] → is_plain_argument file ≡ true → asked words ≡ Some (Tables file)
words_ask words file are plain = ap asked are ∙ asked_tables file plain

pub base_says : (around : Around) (words : List (List ℕ)) (file : List ℕ) (network : Option NetLists) (it : Outcome) → words ≡ codes "tables" ∷ file ∷ [] → is_plain_argument file ≡ true
    → Finishes around (asked words) network it → SaysOutcome around (Tables file) network it
base_says around words file network it are plain finishes = subst (λ (o : Option Asked). Finishes around o network it) (words_ask words file are plain) finishes

pub base_completes : (around : Around) (words : List (List ℕ)) (file : List ℕ) (it : Outcome) → words ≡ codes "tables" ∷ file ∷ [] → is_plain_argument file ≡ true
    → IfSome (asked words) (λ asked. Completes around asked it) → Completes around (Tables file) it
base_completes around words file it are plain completes = subst (λ (o : Option Asked). IfSome o (λ asked. Completes around asked it)) (words_ask words file are plain) completes

pub base_reads : (files : Files) (words : List (List ℕ)) (file : List ℕ) (before after : List ReadCall) → words ≡ codes "tables" ∷ file ∷ [] → is_plain_argument file ≡ true
    → GainsReads (MayRead files (asked words)) before after → GainsReads (MayRead files (Some (Tables file))) before after
base_reads files words file before after are plain reads = subst (λ (o : Option Asked). GainsReads (MayRead files o) before after) (words_ask words file are plain) reads

pub ruleset base_steps = (base_says, base_completes, base_reads)

-- ---- its work is the run of a scenario

pub record IsRunWork (work : CommandWork) : Type 0 where
  pub scenario : Scenario
  pub captures : List (List (List ℕ))
  pub is : work ≡ Run scenario captures

played_runs : (scenario : Scenario) (captures : List (List (List ℕ))) (files read : List (List ℕ)) (work : CommandWork) → IsNextPlayed scenario captures files read (Works work) → IsRunWork work
played_runs scenario captures [] read work is = record { scenario = scenario; captures = captures; is = cc (is) }
played_runs scenario captures (file ∷ files) [] work is = absurd (cc (is))
played_runs scenario captures (file ∷ files) (octets ∷ read) work (inl (frames, is, next)) = played_runs scenario (captures ++ frames ∷ []) files read work next
played_runs scenario captures (file ∷ files) (octets ∷ read) work (inr (fault, first, next)) = absurd (cc (next))

read_runs : (file : List ℕ) (result : Result Scenario ScenarioFault) (read : List (List ℕ)) (work : CommandWork) → IsNextRead (Tables file) result read (Works work) → IsRunWork work
read_runs file (Err fault) read work is = absurd (cc (is))
read_runs file (Ok scenario) read work is = played_runs scenario [] (played scenario.commands) read work is

tables_run : (file : List ℕ) (read : List (List ℕ)) (work : CommandWork) → IsNextInput (Tables file) read (Works work) → IsRunWork work
tables_run file [] work is = absurd (cc (is))
tables_run file (octets ∷ read) work is = read_runs file (document octets) read work is

-- what was made of it
pub record IsRunMade (files : Files) (file text : List ℕ) (network : Option NetLists) (it : Outcome) : Type 0 where
  pub scenario : Scenario
  pub captures : List (List (List ℕ))
  pub come : ComesTo (Has files) (Tables file) (Works (Run scenario captures))
  pub makes : MakesAnswer (Tables file) (Run scenario captures) text network it

pub run_made : (around : Around) (file text : List ℕ) (network : Option NetLists) (it : Outcome) → IsMade around (Tables file) text network it → IsRunMade around.files file text network it
run_made around file text network it made =
    let work : IsRunWork made.work = tables_run file made.come.read made.work made.come.is_next in
    record {
      scenario = work.scenario;
      captures = work.captures;
      come = subst (λ (w : CommandWork). ComesTo (Has around.files) (Tables file) (Works w)) work.is made.come;
      makes = subst (λ (w : CommandWork). MakesAnswer (Tables file) w text network it) work.is made.makes;
    }

-- ---- the base of a survey

run_over : (scenario : Scenario) (captures : List (List (List ℕ))) (left : NetLists) (reason : Option NetStop) → IsScenarioRun scenario captures left reason
    → IsRunOver scenario.plan (events_of scenario captures) left reason
run_over scenario captures left reason is = is.is_run

-- the network that the run left is that behind the events
pub record IsLeftBy (files : Files) (file : List ℕ) (network : Option NetLists) : Type 0 where
  pub base : IsBase files file None
  pub left : NetLists
  pub is : network ≡ Some left
  pub plan : left.plan ≡ base_plan base
  pub state : network_seen left ≡ network_after (base_plan base) (base_events base)

pub left_by : (around : Around) (file : List ℕ) (network : Option NetLists) → SaysOutcome around (Tables file) network outcome.Done → IsLeftBy around.files file network
left_by around file network says =
    let made : IsRunMade around.files file says.text network outcome.Done = run_made around file says.text network outcome.Done says.made in
    let run : IsRunOver made.scenario.plan (events_of made.scenario made.captures) made.makes.left None = run_over made.scenario made.captures made.makes.left None made.makes.is_run in
    record {
      base = record { scenario = made.scenario; captures = made.captures; come = made.come; stops = ap (λ e. e.stop) (sym run.ends) };
      left = made.makes.left;
      is = made.makes.network_is;
      plan = run.plan_is;
      state = run.state_is ∙ ap (state_after made.scenario.plan (empty_network made.scenario.plan)) (sym run.are_done);
    }

pub stopped_by : (around : Around) (file : List ℕ) (network : Option NetLists) (reason : NetStop) → SaysOutcome around (Tables file) network (outcome.Stopped reason)
    → IsBase around.files file (Some reason)
stopped_by around file network reason says =
    let made : IsRunMade around.files file says.text network (outcome.Stopped reason) = run_made around file says.text network (outcome.Stopped reason) says.made in
    let run : IsRunOver made.scenario.plan (events_of made.scenario made.captures) made.makes.left (Some reason) =
    run_over made.scenario made.captures made.makes.left (Some reason) made.makes.is_run in
    record { scenario = made.scenario; captures = made.captures; come = made.come; stops = ap (λ e. e.stop) (sym run.ends) }

-- ---- what holds of files holds of a call that writes to another sink

come_as : (One Other : List ℕ → List ℕ → Type 0) (it : Asked) (before read : List (List ℕ)) → ((name octets : List ℕ) → One name octets → Other name octets) → AreReadNext One it before read
    → AreReadNext Other it before read
come_as One Other it before [] into are = tt
come_as One Other it before (octets ∷ rest) into are = (
  record { wanted = are.0.wanted; next = are.0.next; holds = into are.0.wanted.name octets are.0.holds; fits = are.0.fits },
  come_as One Other it (before ++ octets ∷ []) rest into are.1,
)

never_rose : Rose 0 0 → ⊥
never_rose rose = omega (arith, rose)

-- the same call, but that it writes to nothing
abbrev pub unwritten_of : Around → Around
unwritten_of around = record around { taken_before = None; taken_after = None; sink_before = 0; sink_after = 0 }

calls_unwritten : (around : Around) (next : Next) (called : Outcome) → CallsFor around next called → CallsFor (unwritten_of around) next called
calls_unwritten around (Reads wanted) called calls = record {
  octets = calls.octets;
  sound = record { tells = calls.sound.tells; read = calls.sound.read };
  longer = calls.longer;
  is = calls.is;
}
calls_unwritten around (Refuses refused) called calls = calls
calls_unwritten around (Works work) called calls = (calls.0, never_rose)

pub sound_unwritten : (around : Around) (it : Asked) (called : Outcome) → IsSoundOutcome around it called → IsSoundOutcome (unwritten_of around) it called
sound_unwritten around it called sound = record {
  next = sound.next;
  come = record {
    read = sound.come.read;
    are_read = come_as (IsSoundFile around) (IsSoundFile (unwritten_of around)) it [] sound.come.read (λ name octets file. record { tells = file.tells; read = file.read }) sound.come.are_read;
    is_next = sound.come.is_next;
  };
  calls = calls_unwritten around sound.next called sound.calls;
}

-- ---- what calls for Done has no fault of the sink

played_not_done : (scenario : Scenario) (captures : List (List (List ℕ))) (files read : List (List ℕ)) → IsNextPlayed scenario captures files read (Refuses outcome.Done) → ⊥
played_not_done scenario captures [] read is = absurd (cc (is))
played_not_done scenario captures (file ∷ files) [] is = absurd (cc (is))
played_not_done scenario captures (file ∷ files) (octets ∷ read) (inl (frames, is, next)) = played_not_done scenario (captures ++ frames ∷ []) files read next
played_not_done scenario captures (file ∷ files) (octets ∷ read) (inr (fault, first, next)) = absurd (cc (next))

read_not_done : (file : List ℕ) (result : Result Scenario ScenarioFault) (read : List (List ℕ)) → IsNextRead (Tables file) result read (Refuses outcome.Done) → ⊥
read_not_done file (Err fault) read is = absurd (cc (is))
read_not_done file (Ok scenario) read is = played_not_done scenario [] (played scenario.commands) read is

tables_not_done : (file : List ℕ) (read : List (List ℕ)) → IsNextInput (Tables file) read (Refuses outcome.Done) → ⊥
tables_not_done file [] is = absurd (cc (is))
tables_not_done file (octets ∷ read) is = read_not_done file (document octets) read is

called_no_fault : (around : Around) (file : List ℕ) (next : Next) (read : List (List ℕ)) → IsNextInput (Tables file) read next → CallsFor around next outcome.Done → ¬ HasWriteFault around
called_no_fault around file (Reads wanted) read is calls = absurd (cc (calls.is))
called_no_fault around file (Refuses refused) read is calls = absurd (tables_not_done file read (subst (λ (o : Outcome). IsNextInput (Tables file) read (Refuses o)) (sym calls) is))
called_no_fault around file (Works work) read is calls = calls.1

pub no_fault_done : (around : Around) (file : List ℕ) (called : Outcome) → called ≡ outcome.Done → IsSoundOutcome around (Tables file) called → ¬ HasWriteFault around
no_fault_done around file called is sound =
    called_no_fault around file sound.next sound.come.read sound.come.is_next (subst (λ (o : Outcome). CallsFor around sound.next o) is sound.calls)
