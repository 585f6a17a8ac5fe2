-- What several crates and files need of the definitions here.
use Rattle.std.proofs.Common.{◌++◌, ◌∷◌, ◌≡◌, List, [], ap, refl}
use Rattle.ldp_grammar.specs.declared.message.Message.{Message}

pub none_behind : (xs : List Message) → xs ++ [] ≡ xs
none_behind [] = refl
none_behind (x ∷ xs) = ap (λ (l : List Message). x ∷ l) (none_behind xs)
