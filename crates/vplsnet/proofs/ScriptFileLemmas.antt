-- What a script comes to that is read behind a scenario.
use Rattle.std.proofs.Common.{◌≡◌, [], ◌∷◌, ℕ, List, Option, Result, Ok, Err, inl, inr, sym, subst}
use Rattle.psn_net.specs.Lists.{NetLists}
use Rattle.scenario_text.specs.declared.scenario.Scenario.{Scenario}
use Rattle.scenario_text.specs.Document.{document}
use Rattle.script_text.specs.declared.script_fault.ScriptFault.{ScriptFault}
use Rattle.script_text.specs.declared.script_fault.ScriptFault.TheVariants as script_fault
use Rattle.script_text.specs.Reading.{FailsScript}
use Rattle.vplsnet.specs.declared.outcome.Outcome.{Outcome}
use Rattle.vplsnet.specs.declared.outcome.Outcome.TheVariants.{Done, Usage, ReadFault, WriteFault, TooLong, ScenarioRefused, NoCircuit, CaptureRefused, ScriptRefused, AuditRefused, Stopped, DecodeRefused, Unfinished, NoMemory}
use Rattle.vplsnet.specs.Answers.{IsRefused, SaysOutcome}
use Rattle.vplsnet.specs.Around.{Around, Has}
use Rattle.vplsnet.specs.Asked.{Asked}
use Rattle.vplsnet.specs.Inputs.{ComesTo, IsNextInput, Wanted, CommandWork, Works, next_script}
use Rattle.vplsnet.specs.PlanFile.{HasBoth, ReadsSecond}
use Rattle.vplsnet.specs.ScriptFile.{EndsScript, IsNoScript, outcome_of_script}
use Rattle.vplsnet.proofs.AnswerLemmas.{now_of, old_of, refused_answers}
use Rattle.vplsnet.proofs.PlanFileLemmas.{comes_behind_both}

-- the outcome of a fault that is told by its place
pub no_lines : {Lines : Type 0} (read : Result Lines ScriptFault) (fault : ScriptFault) (outcome : Outcome) → FailsScript fault read → outcome ≡ outcome_of_script fault → IsNoScript read outcome
no_lines read fault outcome fails is = subst (λ (o : Outcome). IsNoScript read o) (sym is) (by fault fails) where
  by : (f : ScriptFault) → FailsScript f read → IsNoScript read (outcome_of_script f)
  by (script_fault.Bad line word) fails = fails
  by script_fault.NoMemory fails = tt

-- A script was read behind its scenario: an answer of its lines is one of the call, and so is what refuses it.
pub script_ended : {Lines : Type 0} (around : Around) (asked : Asked) (file octets : List ℕ) (second : Wanted) (scenario : Scenario) (read : Result Lines ScriptFault) (work : Lines → CommandWork) (Ends : Lines → Type 0) (network : Option NetLists)
    (outcome : Outcome) → ReadsSecond asked file second → HasBoth around.files file second scenario octets
    → ((text : List ℕ) → document text ≡ Ok scenario → IsNextInput asked (text ∷ octets ∷ []) (next_script work read))
    → ((lines : Lines) → ComesTo (Has around.files) asked (Works (work lines)) → Ends lines → SaysOutcome around asked network outcome)
    → EndsScript read Ends (old_of around) (now_of around) network outcome → SaysOutcome around asked network outcome
script_ended {Lines} around asked file octets second scenario read work Ends network outcome reads both next answers ends = by ends where
  comes : (result : Result Lines ScriptFault) → read ≡ result → ComesTo (Has around.files) asked (next_script work result)
  comes result is = comes_behind_both around.files asked file octets second scenario (next_script work result) reads both
      (λ text document_is. subst (λ (r : Result Lines ScriptFault). IsNextInput asked (text ∷ octets ∷ []) (next_script work r)) is (next text document_is))

  refused : (o : Outcome) → IsNoScript read o → IsRefused around.files around.shelf_before around.shelf_after asked o
  refused (ScriptRefused line word) why = comes (Err (script_fault.Bad line word)) why
  refused NoMemory why = tt
  refused Done why = absurd why
  refused Usage why = absurd why
  refused ReadFault why = absurd why
  refused WriteFault why = absurd why
  refused (TooLong named limit) why = absurd why
  refused (ScenarioRefused fault) why = absurd why
  refused (NoCircuit circuit) why = absurd why
  refused (CaptureRefused name fault) why = absurd why
  refused (AuditRefused line rule) why = absurd why
  refused (Stopped stop) why = absurd why
  refused (DecodeRefused fault) why = absurd why
  refused (Unfinished at) why = absurd why

  by : EndsScript read Ends (old_of around) (now_of around) network outcome → SaysOutcome around asked network outcome
  by (inl told) = answers told.lines (comes (Ok told.lines) told.is) told.ends
  by (inr none) = refused_answers around asked network outcome (refused outcome none.why) (record { taken = none.taken; no_run = none.no_run })
