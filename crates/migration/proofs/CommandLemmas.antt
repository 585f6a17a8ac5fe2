-- Each command is read from its text.
use Rattle.std.proofs.Common.{◌≡◌, ◌≤◌, ◌+◌, ℕ, List, [], ◌∷◌, length, Some, Ok, codes, lt-ltb, refl, arith}
use Rattle.std.specs.Fmt.{decimal}
use Rattle.toml.specs.View.{items_of}
use Rattle.net_base.specs.declared.plan.Plan.{Plan}
use Rattle.net_base.specs.plan.NameFaults.{circuit_names}
use Rattle.line_shapes.specs.Words.{circuit_name}
use Rattle.command_text.specs.declared.command.Command.{Command}
use Rattle.command_text.specs.declared.command.Command.TheVariants.{One, Settle, Flow, Ticks, Play}
use Rattle.plan_names.specs.Planned.{HasNames}
use Rattle.command_text.specs.Planned.{IsCount}
use Rattle.command_text.specs.Events.{repeats_in, play_in, command_of, command_in, commands_in, plays_after}
use Rattle.plan_names.specs.Names.{place_in}
use Rattle.plan_names.specs.Decimal.{decimal_from}
use Rattle.command_text.specs.Words.{some_word, word_at}
use Rattle.script_text.specs.Script.{spaced_words, words_of}
use Rattle.script_text.proofs.PartLemmas.{AreWhole, IsWhole, words_again}
use Rattle.event_laws.proofs.ReadLemmas.{by_word, ends_is, said_is}
use Rattle.plan_names.proofs.DecimalLemmas.{number_said}
use Rattle.line_shapes.proofs.NameLemmas.{row_said}
use Rattle.event_laws.proofs.ValueLemmas.{decimal_graphic, row_graphic, whole_word}
use Rattle.event_laws.proofs.EventLemmas.{reads}
use Rattle.migration.specs.Commands.{command_text, event_items}
use Rattle.migration.specs.CommandLaw.{HasNoBlank, IsSaidCommand, AreSaidCommands, ReadsMigratedCommands}

-- a count of repetitions
repeats_read : (number count : ℕ) (word : List ℕ) → IsWhole word → IsCount count → repeats_in number (spaced_words (word ∷ decimal count ∷ [])) ≡ Ok count
unfolding repeats_in
repeats_read number count word first is =
    let words : List (List ℕ) = word ∷ decimal count ∷ [] in
    let again = words_again word (decimal count ∷ []) (first, (whole_word (decimal count) (decimal_graphic count (omega (arith, is.1))), tt)) in
    let said2 = said_is (decimal_from 1 10000) number 2 (spaced_words words) (decimal count) words count again refl (number_said 1 10000 count is.0 is.1 (omega (arith, is.1))) in
    let ends3 = ends_is number 3 (spaced_words words) words again refl in
    rw (said2, ends3) refl

whole_file : (file : List ℕ) → HasNoBlank file → IsWhole file
whole_file [] none = tt
whole_file (octet ∷ rest) none = (none.0, whole_file rest none.1)

file_said : (file : List ℕ) → 1 ≤ length file → some_word file ≡ Some file
file_said file some = rw (lt-ltb 0 (length file) (omega (arith, some))) refl

-- one command
module _ (plan : Plan) (number plays : ℕ) where
  many_read : (word : List ℕ) (count : ℕ) (command : Command) → IsWhole word → IsCount count
      → (repeats_in number (spaced_words (word ∷ decimal count ∷ [])) ≡ Ok count → words_of (spaced_words (word ∷ decimal count ∷ [])) ≡ word ∷ decimal count ∷ []
      → command_of plan number plays word (spaced_words (word ∷ decimal count ∷ [])) ≡ Ok command)
      → command_in plan number plays (spaced_words (word ∷ decimal count ∷ [])) ≡ Ok command
  many_read word count command first is reads =
      let whole : AreWhole (word ∷ decimal count ∷ []) = (first, (whole_word (decimal count) (decimal_graphic count (omega (arith, is.1))), tt)) in
      by_word plan number plays word (decimal count ∷ []) command whole (reads (repeats_read number count word first is) (words_again word (decimal count ∷ []) whole))

  pub command_read : (command : Command) → HasNames plan → IsSaidCommand plan plays command → command_in plan number plays (command_text plan command) ≡ Ok command
  unfolding command_text command_of play_in word_at
  command_read (One event) names said = reads plan event number plays names said.0 said.1
  command_read (Settle count) names said = many_read (codes "settle") count (Settle count) (whole_word (codes "settle") refl) said (λ count again. rw count refl)
  command_read (Flow count) names said = many_read (codes "flow") count (Flow count) (whole_word (codes "flow") refl) said (λ count again. rw count refl)
  command_read (Ticks count) names said = many_read (codes "tick") count (Ticks count) (whole_word (codes "tick") refl) said (λ count again. rw (again, count) refl)
  command_read (Play circuit file) names said =
      let word : List ℕ = codes "play" in
      let rest : List (List ℕ) = circuit_name plan circuit ∷ file ∷ [] in
      let whole : AreWhole (word ∷ rest) = (
        whole_word word refl,
        (whole_word (circuit_name plan circuit) (row_graphic (λ row. row.name) plan.circuits circuit.0 names.circuits said.0), (whole_file file said.3, tt)),
      ) in
      let again = words_again word rest whole in
      let said2 = said_is (place_in (circuit_names plan.circuits)) number 2 (spaced_words (word ∷ rest)) (circuit_name plan circuit) (word ∷ rest) circuit.0 again refl
      (row_said (λ row. row.name) plan.circuits circuit.0 names.circuits said.0) in
      let said3 = said_is some_word number 3 (spaced_words (word ∷ rest)) file (word ∷ rest) file again refl (file_said file said.2) in
      let ends4 = ends_is number 4 (spaced_words (word ∷ rest)) (word ∷ rest) again refl in
      by_word plan number plays word rest (Play circuit file) whole (rw (lt-ltb plays 4 said.1, said2, said3, ends4) refl)

-- the others behind it
all_read : (plan : Plan) (commands : List Command) (number plays : ℕ) → HasNames plan → AreSaidCommands plan plays commands
    → commands_in plan number plays (items_of (event_items plan commands)) ≡ Ok commands
all_read plan [] number plays names said = refl
all_read plan (command ∷ commands) number plays names said =
    rw (command_read plan number plays command names said.0, all_read plan commands (number + 1) (plays_after plays command) names said.1) refl

pub reads_all : ReadsMigratedCommands
reads_all plan commands names said = all_read plan commands 1 0 names said
