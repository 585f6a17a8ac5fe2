-- What may stand behind `do`: a command that a script may say, or a word that is wrong, the fifth one at most.
use Rattle.std.proofs.Common.{◌≡◌, ◌≤◌, ◌||◌, ◌⊎◌, ◌∙◌, ℕ, Bool, true, false, List, length, Option, Some, None, option_and_then, Result, Ok, Err, if◌then◌else◌, not, is_some, codes, inl, inr, refl, sym, ap, subst, arith}
use Rattle.std.specs.Str.{bytes_eq}
use Rattle.net_base.specs.declared.plan.Plan.{Plan}
use Rattle.net_base.specs.declared.trace.event.Event.{Event}
use Rattle.plan_names.specs.Decimal.{decimal_from}
use Rattle.plan_names.specs.Names.{place_in}
use Rattle.plan_names.specs.Planned.{names_of}
use Rattle.script_text.specs.Script.{words_of}
use Rattle.script_text.proofs.PartLemmas.{words_begin}
use Rattle.line_shapes.specs.Laws.{have_kinds}
use Rattle.line_shapes.specs.Shapes.{AreShort, first_said, form_at, line_said}
use Rattle.line_shapes.proofs.ReadLemmas.{read_is}
use Rattle.line_shapes.proofs.StopLemmas.{StopsBy, line_early}
use Rattle.line_shapes.proofs.TableLemmas.{AllBelow, are_kinds, below_all}
use Rattle.event_rows.specs.Rows.{event_forms, event_made}
use Rattle.command_text.specs.declared.command.Command.{Command}
use Rattle.command_text.specs.declared.command.Command.TheVariants.{One}
use Rattle.command_text.specs.declared.scenario_fault.ScenarioFault.{ScenarioFault}
use Rattle.command_text.specs.declared.scenario_fault.ScenarioFault.TheVariants.{BadWord}
use Rattle.command_text.specs.Events.{command_in, command_of, event_by, frame_event_in, one, repeats_in, row_event_in}
use Rattle.command_text.specs.Hex.{frame_of}
use Rattle.command_text.specs.Reading.{◌>>=◌, checked, found}
use Rattle.command_text.specs.Words.{ends_before, first_word, said_word, word_at}
use Rattle.discovery_script.specs.Lines.{is_barred}
use Rattle.discovery_script.specs.Planned.{IsScripted}

abbrev IsEarly : ScenarioFault → Type 0
IsEarly (BadWord event word) = word ≤ 5
IsEarly fault = Unit {0}

-- what was read is so, or wrong at an early word
abbrev Fine : {A : Type 0} → (A → Type 0) → Result A ScenarioFault → Type 0
Fine P (Ok x) = P x
Fine P (Err fault) = IsEarly fault

abbrev Any : {A : Type 0} → A → Type 0
Any x = Unit {0}

-- an event that a script may say
abbrev IsSaid : Event → Type 0
IsSaid event = IsScripted (One event)

found_fine : {A : Type 0} (event word : ℕ) (o : Option A) → word ≤ 5 → Fine Any (found (BadWord event word) o)
found_fine event word None early = early
found_fine event word (Some x) early = tt

checked_fine : (event word : ℕ) (b : Bool) → word ≤ 5 → Fine Any (checked (BadWord event word) b)
checked_fine event word true early = tt
checked_fine event word false early = early

then_fine : {A B : Type 0} (P : A → Type 0) (Q : B → Type 0) (read : Result A ScenarioFault) (next : A → Result B ScenarioFault) → Fine P read → ((x : A) → P x → Fine Q (next x))
    → Fine Q (read >>= next)
then_fine P Q (Ok x) next fine on = on x fine
then_fine P Q (Err fault) next fine on = fine

if_fine : {A : Type 0} (P : A → Type 0) (b : Bool) (x y : Result A ScenarioFault) → Fine P x → Fine P y → Fine P (if b then x else y)
if_fine P true x y first other = first
if_fine P false x y first other = other

else_fine : {A : Type 0} (P : A → Type 0) (b : Bool) (x y : Result A ScenarioFault) → b ≡ false → Fine P y → Fine P (if b then x else y)
else_fine P b x y is other = rw is other

said_fine : {A : Type 0} (reader : List ℕ → Option A) (event number : ℕ) (text : List ℕ) → number ≤ 5 → Fine Any (said_word reader event number text)
said_fine reader event number text early = found_fine event number (option_and_then reader (word_at number text)) early

ends_fine : (event number : ℕ) (text : List ℕ) → number ≤ 5 → Fine Any (ends_before event number text)
ends_fine event number text early = checked_fine event number (not (is_some (word_at number text))) early

one_fine : (read : Result Event ScenarioFault) → Fine IsSaid read → Fine IsScripted (one read)
one_fine read fine = then_fine IsSaid IsScripted read (λ event. Ok (One event)) fine (λ event is. is)

-- what a row makes may be said, or its word is barred
abbrev MayBeSaid : ℕ → Type 0
MayBeSaid row = (v : List ℕ) → IsSaid (event_made row v) ⊎ (is_barred (form_at event_forms row).word ≡ true)

may_be_said : AllBelow MayBeSaid (length event_forms)
may_be_said = (
  ((((((((((((tt, λ v. inl tt), λ v. inl tt), λ v. inl tt), λ v. inl tt), λ v. inr refl), λ v. inl tt), λ v. inl tt), λ v. inr refl), λ v. inl tt), λ v. inl tt), λ v. inl tt), λ v. inl tt),
  λ v. inl tt,
)

are_short : AreShort event_forms
are_short = (
  omega arith,
  (omega arith, (omega arith, (omega arith, (omega arith, (omega arith, (omega arith, (omega arith, (omega arith, (omega arith, (omega arith, (omega arith, (omega arith, tt)))))))))))),
)

true_not_false : ◌≡◌ {A = Bool} true false → ⊥
true_not_false e = cc e

module _ (plan : Plan) (event : ℕ) (text : List ℕ) where
  frame_fine : Fine IsSaid (frame_event_in (names_of plan) event text)
  unfolding frame_event_in
  frame_fine =
      then_fine Any IsSaid _ _ (said_fine (place_in (names_of plan).circuits) event 2 text (omega arith))
      (λ x a. then_fine Any IsSaid _ _ (said_fine frame_of event 3 text (omega arith)) (λ y b. then_fine Any IsSaid _ _ (ends_fine event 4 text (omega arith)) (λ e c. tt)))

  repeats_fine : Fine Any (repeats_in event text)
  unfolding repeats_in
  repeats_fine = then_fine Any Any _ _ (said_fine (decimal_from 1 10000) event 2 text (omega arith)) (λ x a. then_fine Any Any _ _ (ends_fine event 3 text (omega arith)) (λ e b. tt))

  -- an event by its row
  row_fine : is_barred (first_word text) ≡ false → Fine IsSaid (row_event_in plan event text)
  unfolding row_event_in have_kinds
  row_fine allowed = of_read (line_said plan event_forms (words_of text)) refl (line_early plan event_forms (words_of text) are_short)
    where
      of_read : (r : Result (ℕ × List ℕ) ℕ) → line_said plan event_forms (words_of text) ≡ r → StopsBy 5 r → Fine IsSaid (event_by event r)
      of_read (Ok read) is early =
          let line = read_is plan event_forms (words_of text) read is in
          elim (below_all MayBeSaid (length event_forms) read.0 may_be_said line.within read.1) [
            | inl said ↦ said
            | inr barred ↦
                let same : (form_at event_forms read.0).word ≡ first_word text = ap first_said (line.same (are_kinds event_forms read.0 refl)) ∙ ap first_said (words_begin text) in
                absurd (true_not_false (sym barred ∙ ap is_barred same ∙ allowed))
          ]
      of_read (Err word) is early = early

  command_fine : (word : List ℕ) → is_barred (first_word text) ≡ false → bytes_eq word (codes "tick") ≡ false → bytes_eq word (codes "play") ≡ false → Fine IsScripted (command_of plan event 0 word text)
  unfolding command_of
  command_fine word allowed no_tick no_play =
      if_fine IsScripted (bytes_eq word (codes "frame")) _ _ (one_fine _ frame_fine)
      (else_fine IsScripted (bytes_eq word (codes "tick")) _ _ no_tick
      (if_fine IsScripted (bytes_eq word (codes "settle")) _ _ (then_fine Any IsScripted _ _ repeats_fine (λ count is. tt))
      (if_fine IsScripted (bytes_eq word (codes "flow")) _ _ (then_fine Any IsScripted _ _ repeats_fine (λ count is. tt))
      (else_fine IsScripted (bytes_eq word (codes "play")) _ _ no_play (one_fine _ (row_fine allowed))))))

neither : (a b c : Bool) → (a || b) || c ≡ false → (a ≡ false) × ((b ≡ false) × (c ≡ false))
neither true b c e = absurd (cc)
neither false true c e = absurd (cc)
neither false false true e = absurd (cc)
neither false false false e = (λ i. false, (λ i. false, λ i. false))

said_fine_of : (plan : Plan) (event : ℕ) (text : List ℕ) → is_barred (first_word text) ≡ false → Fine IsScripted (command_in plan event 0 text)
said_fine_of plan event text allowed =
    let no = neither (bytes_eq (first_word text) (codes "connect")) (bytes_eq (first_word text) (codes "tick")) (bytes_eq (first_word text) (codes "play")) allowed in
    command_fine plan event text (first_word text) allowed no.1.0 no.1.1

pub wrong_early : (plan : Plan) (event at word : ℕ) (text : List ℕ) → is_barred (first_word text) ≡ false → command_in plan event 0 text ≡ Err (BadWord at word) → word ≤ 5
wrong_early plan event at word text allowed e = subst (Fine IsScripted) e (said_fine_of plan event text allowed)

pub is_scripted : (plan : Plan) (event : ℕ) (text : List ℕ) (command : Command) → is_barred (first_word text) ≡ false → command_in plan event 0 text ≡ Ok command → IsScripted command
is_scripted plan event text command allowed e = subst (Fine IsScripted) e (said_fine_of plan event text allowed)
