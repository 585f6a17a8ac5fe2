-- What is read of words that are parted by spaces.
use Rattle.std.proofs.Common.{◌≡◌, ◌-◌, ◌∙◌, ℕ, true, List, ◌∷◌, slice_get, Option, Some, None, Ok, refl, ap}
use Rattle.net_base.specs.declared.plan.Plan.{Plan}
use Rattle.script_text.specs.Script.{spaced_words, words_of}
use Rattle.script_text.proofs.PartLemmas.{AreWhole, first_again}
use Rattle.command_text.specs.declared.command.Command.{Command}
use Rattle.command_text.specs.Events.{command_in, command_of}
use Rattle.command_text.specs.Words.{ends_before, said_word, word_at}

-- what a word says that is there
pub said_is : {A : Type 0} (reader : List ℕ → Option A) (event number : ℕ) (text word : List ℕ) (words : List (List ℕ)) (value : A) → words_of text ≡ words
    → slice_get words (number - 1) ≡ Some word → reader word ≡ Some value → said_word reader event number text ≡ Ok value
unfolding word_at
said_is reader event number text word words value again at reads = rw (again, at, reads) refl

-- no word of this number
pub ends_is : (event number : ℕ) (text : List ℕ) (words : List (List ℕ)) → words_of text ≡ words → slice_get words (number - 1) ≡ None → ends_before event number text ≡ Ok true
unfolding word_at
ends_is event number text words again at = rw (again, at) refl

-- a command by its first word
pub by_word : (plan : Plan) (number plays : ℕ) (word : List ℕ) (words : List (List ℕ)) (command : Command) → AreWhole (word ∷ words)
    → command_of plan number plays word (spaced_words (word ∷ words)) ≡ Ok command → command_in plan number plays (spaced_words (word ∷ words)) ≡ Ok command
by_word plan number plays word words command whole reads =
    ap (λ (first : List ℕ). command_of plan number plays first (spaced_words (word ∷ words))) (first_again word words whole) ∙ reads
