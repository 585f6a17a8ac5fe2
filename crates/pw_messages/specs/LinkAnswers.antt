-- What a link makes of its calls.
use Rattle.std.specs.Prelude.{◌≡◌, ◌<◌, ℕ, Bool, List, length, slice_index_or}
use Rattle.net_base.specs.declared.outside.link_call.LinkCall.{LinkCall}

-- whether the call with a number, counted from 0, is taken
abbrev pub Answers : Type 0
Answers = ℕ → Bool

-- the link answered its calls like this
pub record Agrees (told : Answers) (calls : List LinkCall) : Type 0 where
  pub each : (k : ℕ) (other : LinkCall) → k < length calls → (slice_index_or calls k other).taken ≡ told k
