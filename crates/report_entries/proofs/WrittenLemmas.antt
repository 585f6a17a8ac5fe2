-- A line that is put and flushed was taken whole.
use Rattle.std.proofs.Common.{◌≡◌, ◌∙◌, ◌++◌, ℕ, List, [], ◌∷◌, Some, sym, ap, append-nil}
use Rattle.net_values.proofs.OptionLemmas.{some_same}
use Rattle.text_lines.specs.Written.{WritingGoesOn, Writes, lines_written}

pub whole_line : (line page : List ℕ) (taken : List ℕ) (last : List ℕ) (faults now : ℕ) → WritingGoesOn (lines_written (Some []) faults []) (lines_written (Some taken) now page) line
    → Writes (Some taken) (Some last) page → last ≡ line
whole_line line [] taken last faults now goes writes = some_same writes ∙ (sym (append-nil taken) ∙ (ap (λ (l : List ℕ). l ++ []) (some_same goes.taken) ∙ goes.text))
whole_line line (octet ∷ page) taken last faults now goes writes = some_same writes ∙ (ap (λ (l : List ℕ). l ++ octet ∷ page) (some_same goes.taken) ∙ goes.text)
