-- What several crates and files need of the definitions here.
use Rattle.std.proofs.Common.{◌++◌, ◌∷◌, ◌≡◌, List, [], false, refl, ℕ}
use Rattle.switchover_model.specs.Network.{is_waiting}

pub waiting_none : (l held : List ℕ) → held ++ l ≡ [] → is_waiting l ≡ false
waiting_none [] held e = refl
waiting_none (o ∷ l) [] e = absurd (cc (e))
waiting_none (o ∷ l) (p ∷ held) e = absurd (cc (e))
