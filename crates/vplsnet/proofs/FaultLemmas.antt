-- The line of a fault: its texts one behind another, and the octets of a key as they are printed.
use Rattle.std.proofs.Common.{◌≡◌, ◌∙◌, ◌<◌, ◌+◌, ◌++◌, ◌∷◌, ℕ, List, [], codes, map, length, drop, slice_index_or, refl, ap, sym, append_assoc}
use Rattle.std.proofs.lemmas.List.{drop_more}
use Rattle.command_text.specs.Places.{masked}

-- one octet more was printed
pub printed_more : (before after octets : List ℕ) (i d printed : ℕ) → i < length octets → printed ≡ masked (slice_index_or octets i d) → after ≡ before ++ printed ∷ []
    → after ++ map masked (drop (i + 1) octets) ≡ before ++ map masked (drop i octets)
printed_more before after octets i d printed below is adds =
    ap (λ (l : List ℕ). l ++ map masked (drop (i + 1) octets)) adds
    ∙ (append_assoc before (printed ∷ []) (map masked (drop (i + 1) octets))
    ∙ (ap (λ (o : ℕ). before ++ o ∷ map masked (drop (i + 1) octets)) is
    ∙ sym (ap (λ (l : List ℕ). before ++ map masked l) (drop_more octets i d below))))

-- ---- texts behind the name of the program

pub one_told : (begun line text whole : List ℕ) → begun ≡ codes "vplsnet: " → line ≡ begun ++ text → codes "vplsnet: " ++ text ≡ whole → line ≡ whole
one_told begun line text whole is adds all = adds ∙ (ap (λ (l : List ℕ). l ++ text) is ∙ all)

pub two_told : (begun first line text more whole : List ℕ) → begun ≡ codes "vplsnet: " → first ≡ begun ++ text → line ≡ first ++ more → (codes "vplsnet: " ++ text) ++ more ≡ whole → line ≡ whole
two_told begun first line text more whole is one two all =
    two ∙ (ap (λ (l : List ℕ). l ++ more) (one_told begun first text (codes "vplsnet: " ++ text) is one refl) ∙ all)

pub ruleset line_steps = (one_told, two_told)
