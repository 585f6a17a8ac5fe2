-- A line that was written is a line and its line feed.
use Rattle.std.proofs.Common.{◌≡◌, ◌+◌, ◌++◌, ◌&&◌, ◌∙◌, ℕ, codes, false, Bool, List, [], ◌∷◌, length, nat_eq, take, drop, refl, sym, ap, arith, length-append}
use Rattle.std.proofs.Math.Bool.{and_assoc}
use Rattle.std.specs.Str.{bytes_eq}
use Rattle.net_values.proofs.RowLemmas.{octets_apart_test}

pub other_line : (written line : List ℕ) → (length written ≡ length line + 1 → ⊥) → bytes_eq written (line ++ codes "\n") ≡ false
other_line written line apart = octets_apart_test written (line ++ codes "\n") (λ same. apart (ap length same ∙ length-append line (codes "\n")))

parts_same : (written line end : List ℕ) → length written ≡ length line + length end → bytes_eq written (line ++ end) ≡ (bytes_eq (take (length line) written) line && bytes_eq (drop (length line) written) end)
parts_same written [] end long = refl
parts_same [] (y ∷ line) end long = absurd (omega (arith, long))
parts_same (x ∷ written) (y ∷ line) end long =
    ap (λ (b : Bool). nat_eq x y && b) (parts_same written line end (omega (arith, long)))
    ∙ sym (and_assoc (nat_eq x y) (bytes_eq (take (length line) written) line) (bytes_eq (drop (length line) written) end))

pub same_line : (written front back line : List ℕ) → length written ≡ length line + 1 → front ≡ take (length line) written → back ≡ drop (length line) written
    → bytes_eq written (line ++ codes "\n") ≡ (bytes_eq front line && bytes_eq back (codes "\n"))
same_line written front back line long first last = parts_same written line (codes "\n") long ∙ (λ i. bytes_eq (sym first i) line && bytes_eq (sym last i) (codes "\n"))
