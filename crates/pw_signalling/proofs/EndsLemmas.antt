-- Ends in a list, where one moves.
use Rattle.std.proofs.Common.{◌≡◌, ◌<◌, ◌∙◌, ℕ, zero, suc, List, [], ◌∷◌, length, get_or, set, map, refl, ap}
use Rattle.std.proofs.lemmas.List.{map-set, get_or-map}
use Rattle.pw_signalling.specs.declared.pw_end.PwEnd.{PwEnd}
use Rattle.pw_signalling.specs.End.{fresh}
use Rattle.pw_signalling.specs.AnyEnd.{end_of}

set_twice : (ends : List PwEnd) (place : ℕ) (meanwhile end : PwEnd) → set (set ends place meanwhile) place end ≡ set ends place end
set_twice [] place meanwhile end = refl
set_twice (e ∷ ends) zero meanwhile end = refl
set_twice (e ∷ ends) (suc place) meanwhile end = ap (λ (l : List PwEnd). e ∷ l) (set_twice ends place meanwhile end)

-- an end was taken out of its place, and another one stands there now
pub moved : (ends : List PwEnd) (place : ℕ) (meanwhile end : PwEnd) → map end_of (set (set ends place meanwhile) place end) ≡ set (map end_of ends) place (end_of end)
moved ends place meanwhile end = ap (λ (l : List PwEnd). map end_of l) (set_twice ends place meanwhile end) ∙ map-set end_of ends place end

-- what stands at a place
pub standing : (ends : List PwEnd) (place : ℕ) (other : PwEnd) → place < length ends → get_or (map end_of ends) place fresh ≡ end_of (get_or ends place other)
standing ends place other within = get_or-map end_of ends place other fresh within

-- for a call that takes an end out of a vector by `mem::replace`, moves it, and puts it back
pub ruleset moves = (moved, standing)
