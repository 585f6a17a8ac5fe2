-- What several crates and files need of the definitions here.
use Rattle.std.proofs.Common.{◌++◌, ◌≡◌, Bool, List, cond, false, refl, true, ℕ}
use Rattle.net_base.specs.declared.trace.state_name.StateName.{StateName}
use Rattle.seen_network.specs.Seen.{Seen, said_towards, session_told, with_octets, with_rest, with_standing}
use Rattle.net_base.specs.declared.trace.state_name.StateName.TheVariants as state

pub said_way : (from to : ℕ) (octets : List ℕ) (seen : Seen) → (said_towards from to octets seen).under_way ≡ seen.under_way
unfolding with_octets
said_way from to octets seen = by (seen.stands to from) where
  by : (b : Bool) → (cond b (with_octets from to (seen.pipes from to ++ octets) seen) seen).under_way ≡ seen.under_way
  by true = refl
  by false = refl

pub session_way : (edge peer : ℕ) (name : StateName) (seen : Seen) → (session_told edge peer name seen).under_way ≡ seen.under_way
unfolding with_octets with_standing with_rest
session_way edge peer state.NonExistent seen = refl
session_way edge peer state.Initialized seen = refl
session_way edge peer state.OpenSent seen = refl
session_way edge peer state.OpenRec seen = refl
session_way edge peer state.Operational seen = refl
session_way edge peer (state.Ended why) seen = refl
