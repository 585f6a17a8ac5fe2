-- The words of a command, parted by one space and counted from 1.
use Rattle.std.specs.Prelude.{◌==◌, ◌-◌, not, nat_lt, ℕ, Bool, List, length, slice_get, Option, Some, None, option_and_then, is_some, Result, if◌then◌else◌}
use Rattle.octet_text.specs.Cut.{before_mark}
use Rattle.script_text.specs.Script.{space, words_of}
use Rattle.command_text.specs.declared.scenario_fault.ScenarioFault.{ScenarioFault}
use Rattle.command_text.specs.declared.scenario_fault.ScenarioFault.TheVariants.{BadWord}
use Rattle.command_text.specs.Reading.{checked, found}

abbrev pub is_space : ℕ → Bool
is_space octet = octet == 32

-- the first word
abbrev pub first_word : List ℕ → List ℕ
first_word text = before_mark space text

-- the word of this number
unfoldable pub word_at : ℕ → List ℕ → Option (List ℕ)
word_at number text = slice_get (words_of text) (number - 1)

-- what the word of this number says
abbrev pub said_word : {A : Type 0} → (List ℕ → Option A) → ℕ → ℕ → List ℕ → Result A ScenarioFault
said_word reader event number text = found (BadWord event number) (option_and_then reader (word_at number text))

-- no word of this number
abbrev pub ends_before : ℕ → ℕ → List ℕ → Result Bool ScenarioFault
ends_before event number text = checked (BadWord event number) (not (is_some (word_at number text)))

-- a word that is not empty
abbrev pub some_word : List ℕ → Option (List ℕ)
some_word text = if nat_lt 0 (length text) then Some text else None
