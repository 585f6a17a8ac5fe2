-- How the writing of a text ends.
use Rattle.std.proofs.Common.{◌≡◌, ◌∙◌, ◌<◌, ◌^◌, ℕ, List, [], Option, Some, None, length, inl, inr, refl, subst}
use Rattle.std.specs.List.{All}
use Rattle.net_base.specs.outside.Outside.{Rose}
use Rattle.migration.specs.Law.{IsMigrated}
use Rattle.psn_net.specs.declared.net_stop.NetStop.{NetStop}
use Rattle.psn_net.specs.Lists.{NetLists}
use Rattle.report_laws.specs.Types.{IsTypedEntry}
use Rattle.scenario_text.specs.declared.scenario.Scenario.{Scenario}
use Rattle.text_lines.specs.Written.{Written, AppendsFront, WritingGoesOn, IsCut, Writes}
use Rattle.text_lines.proofs.WrittenLemmas.{cut_text, whole_text}
use Rattle.vplsnet.specs.declared.outcome.Outcome.{Outcome}
use Rattle.vplsnet.specs.declared.outcome.Outcome.TheVariants.{Done, WriteFault, NoMemory}
use Rattle.vplsnet.specs.Answers.{run_text}
use Rattle.vplsnet.specs.Asked.{Asked}
use Rattle.vplsnet.specs.RunOver.{outcome_by}
use Rattle.vplsnet.specs.ScenarioRun.{IsScenarioRun}
use Rattle.vplsnet.specs.StreamSteps.{Flushes}
use Rattle.vplsnet.specs.Writing.{EndsMigration, EndsRun, EndsText, WritesText}
use Rattle.vplsnet.proofs.ReportLemmas.{typed_trace}
use Rattle.vplsnet.proofs.StreamLemmas.{cut_behind}

-- ---- a text that was put, and then what waits is written

pub front_flushed : (a b c : Written) (text : List ℕ) → a.waiting ≡ [] → WritingGoesOn a b text → IsCut b c [] → AppendsFront a.taken c.taken text
front_flushed a b c text none goes cut = cut_text a c text none (cut_behind a b c text goes cut)

pub rose_flushed : (a b c : Written) (text : List ℕ) → WritingGoesOn a b text → IsCut b c [] → Rose a.faults c.faults
rose_flushed a b c text goes cut = (cut_behind a b c text goes cut).rose

pub rose_put : (a b : Written) (text : List ℕ) → IsCut a b text → Rose a.faults b.faults
rose_put a b text cut = cut.rose

-- ---- the end of a call

pub ends_whole : (text : List ℕ) (left : Option NetLists) (made : Outcome) (old now : Written) (network : Option NetLists) (outcome : Outcome) → outcome ≡ made → network ≡ left
    → Writes old.taken now.taken text
    → EndsText text left made old now network outcome
ends_whole text left made old now network outcome is same taken = inl (record { outcome_is = is; network_is = same; taken = taken })

pub ends_front : (text : List ℕ) (left : Option NetLists) (made : Outcome) (old now : Written) (network : Option NetLists) (outcome : Outcome) → outcome ≡ WriteFault → network ≡ left
    → AppendsFront old.taken now.taken text
    → Rose old.faults now.faults → EndsText text left made old now network outcome
ends_front text left made old now network outcome is same taken cause = inr (inl (record { outcome_is = is; network_is = same; taken = taken; cause = cause }))

pub ends_none : (text : List ℕ) (left : Option NetLists) (made : Outcome) (old now : Written) (network : Option NetLists) (outcome : Outcome) → outcome ≡ NoMemory → network ≡ None
    → now.taken ≡ old.taken
    → EndsText text left made old now network outcome
ends_none text left made old now network outcome is none taken = inr (inr (record { outcome_is = is; no_run = none; taken = taken }))

-- a text that was put on an empty page, and then what waits was written
pub text_flushed : (text : List ℕ) (made ready : Outcome) (old before put now : Written) (outcome : Outcome) → before.taken ≡ old.taken → before.faults ≡ old.faults → before.waiting ≡ []
    → WritingGoesOn before put text → Flushes ready outcome put now → ready ≡ made
    → WritesText text made old now outcome
text_flushed text made ready old before put now outcome taken faults none goes (inl all) is =
    inl (record {
      outcome_is = all.is ∙ is;
      network_is = refl;
      taken = subst (λ (t : Option (List ℕ)). Writes t now.taken text) taken (whole_text before put now.taken text none goes all.taken);
    })
text_flushed text made ready old before put now outcome taken faults none goes (inr front) is =
    inr (record {
      outcome_is = front.is;
      network_is = refl;
      taken = subst (λ (t : Option (List ℕ)). AppendsFront t now.taken text) taken (front_flushed before put now text none goes front.cut);
      cause = subst (λ (n : ℕ). Rose n now.faults) faults (rose_flushed before put now text goes front.cut);
    })

-- one of which a front alone was put
pub text_cut : (text : List ℕ) (made : Outcome) (old now : Written) (outcome : Outcome) → outcome ≡ WriteFault → AppendsFront old.taken now.taken text → Rose old.faults now.faults
    → WritesText text made old now outcome
text_cut text made old now outcome is taken cause = inr (record { outcome_is = is; network_is = refl; taken = taken; cause = cause })

pub ruleset put_steps = (text_cut, cut_text, rose_put)

pub ends_text : (text : List ℕ) (left : Option NetLists) (made told : Outcome) (old now : Written) (network : Option NetLists) (outcome : Outcome) → WritesText text made old now told
    → outcome ≡ told → network ≡ left → EndsText text left made old now network outcome
ends_text text left made told old now network outcome (inl whole) is same = inl (record { outcome_is = is ∙ whole.outcome_is; network_is = same; taken = whole.taken })
ends_text text left made told old now network outcome (inr front) is same =
    inr (inl (record { outcome_is = is ∙ front.outcome_is; network_is = same; taken = front.taken; cause = front.cause }))

-- that of a migration
pub migrated_whole : (scenario : Scenario) (text lent : List ℕ) (old now : Written) (outcome : Outcome) → IsMigrated scenario text → lent ≡ text → outcome ≡ Done
    → Writes old.taken now.taken lent → EndsMigration scenario old now None outcome
migrated_whole scenario text lent old now outcome is same ends taken =
    inl (record { text = text; is_migrated = is; ends = ends_whole text None Done old now None outcome ends refl (subst (λ (l : List ℕ). Writes old.taken now.taken l) same taken) })

pub migrated_front : (scenario : Scenario) (text lent : List ℕ) (old now : Written) (outcome : Outcome) → IsMigrated scenario text → lent ≡ text → outcome ≡ WriteFault
    → AppendsFront old.taken now.taken lent → Rose old.faults now.faults
    → EndsMigration scenario old now None outcome
migrated_front scenario text lent old now outcome is same ends taken cause =
    inl (record { text = text; is_migrated = is; ends = ends_front text None Done old now None outcome ends refl (subst (λ (l : List ℕ). AppendsFront old.taken now.taken l) same taken) cause })

pub migrated_none : (scenario : Scenario) (old now : Written) (outcome : Outcome) → outcome ≡ NoMemory → now.taken ≡ old.taken → EndsMigration scenario old now None outcome
migrated_none scenario old now outcome ends taken = inr (record { outcome_is = ends; no_run = refl; taken = taken })

pub ruleset migrated_steps = (migrated_whole, migrated_front, migrated_none)

-- that of a run
pub ends_run : (scenario : Scenario) (captures : List (List (List ℕ))) (asked : Asked) (left : NetLists) (reason : Option NetStop) (old now : Written) (network : Option NetLists) (outcome : Outcome)
    → IsScenarioRun scenario captures left reason → All IsTypedEntry left.trace → length left.trace < 2 ^ 64
    → EndsText (run_text asked left reason) (Some left) (outcome_by reason) old now network outcome
    → EndsRun scenario captures asked old now network outcome
ends_run scenario captures asked left reason old now network outcome is typed few ends =
    inl (record { left = left; reason = reason; is_run = is; typed = typed_trace scenario captures left reason is typed few; ends = ends })

pub ends_no_run : (scenario : Scenario) (captures : List (List (List ℕ))) (asked : Asked) (old now : Written) (network : Option NetLists) (outcome : Outcome) → outcome ≡ NoMemory
    → network ≡ None → now.taken ≡ old.taken
    → EndsRun scenario captures asked old now network outcome
ends_no_run scenario captures asked old now network outcome is none taken = inr (record { outcome_is = is; no_run = none; taken = taken })

pub ruleset run_steps = (ends_run, ends_no_run)
