-- A link that takes every call.
use Rattle.std.proofs.Common.{◌≡◌, ◌++◌, ◌∷◌, [], List, true, arith}
use Rattle.net_base.specs.declared.outside.link_call.LinkCall.{LinkCall}
use Rattle.net_base.proofs.CommonLemmas.{last_taken}
use Rattle.pw_messages.specs.LinkAnswers.{Agrees}
use Rattle.switchover_model.specs.Network.{takes_all}

pub agrees_none : Agrees takes_all []
agrees_none = record { each = λ k other below. absurd (omega arith) }

pub agrees_more : (calls : List LinkCall) (call : LinkCall) → call.taken ≡ true → Agrees takes_all calls → Agrees takes_all (calls ++ call ∷ [])
agrees_more calls call is all = record { each = last_taken calls call is all.each }
