-- What several crates and files need of the definitions here.
use Rattle.std.proofs.Common.{◌==◌, ◌≡◌, None, Option, Some, false, is_some, refl, true, ℕ}
use Rattle.net_base.specs.declared.trace.down.Down.{Down}
use Rattle.pw_signalling.specs.declared.told.Told.{Told}
use Rattle.edge_model.specs.Ends.{is_up}
use Rattle.edge_model.specs.Mend.{advertising, is_up_with}
use Rattle.edge_model.specs.State.{EdgeState, Peering, is_there, put_at, with_end, with_kept, with_next_label}
use Rattle.edge_model.specs.declared.end_place.EndPlace.{EndPlace}

pub advertising_changed : (place : EndPlace) (label : ℕ) (content : Told) (edge : EdgeState) → (advertising place label content edge).peering ≡ edge.peering
unfolding with_end with_next_label with_kept
advertising_changed place label content edge = refl

pub gone_up : (k : Option Peering) → is_there k ≡ false → is_up_with k ≡ false
gone_up None absent = refl
gone_up (Some k) absent = absurd (cc (absent))

pub put_away : {X : Type 0} (map : ℕ → X) (place : ℕ) (x : X) (k : ℕ) → (k == place) ≡ false → put_at map place x k ≡ map k
put_away map place x k apart = rw apart refl

pub up_not : (down : Option Down) → is_some down ≡ true → is_up down ≡ false
up_not None is = absurd (cc (is))
up_not (Some why) is = refl
