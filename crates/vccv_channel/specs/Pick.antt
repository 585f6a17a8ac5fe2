-- Which control channel both ends can use (RFC 5085 sections 5.3.1 and 7).
use Rattle.std.specs.Prelude.{◌==◌, ◌&&◌, not, ℕ, Bool, [], ◌∷◌, Option, Some, None, if◌then◌else◌}
use Rattle.std.specs.List.{find}
use Rattle.std.specs.Int.{bit_at}
use Rattle.vccv_channel.specs.declared.cc.Cc.{Cc}
use Rattle.vccv_channel.specs.declared.cc.Cc.TheVariants.{Header, Alert, Expiry}

-- the bit of a control channel type
abbrev pub bit_of : Cc → ℕ
bit_of Header = 0
bit_of Alert = 1
bit_of Expiry = 2

-- the control channel types offer this one
abbrev pub offers : ℕ → Cc → Bool
offers types kind = bit_at types (bit_of kind) == 1

-- ICMP ping is bit 0 of the connectivity verification types
abbrev pub offers_ping : ℕ → Bool
offers_ping verifications = bit_at verifications 0 == 1

-- a control word makes type 1 the only one; a Router Alert label does not pass a switching point
abbrev pub is_usable_type : Bool → ℕ → Cc → Bool
is_usable_type cword points Header = cword
is_usable_type cword points Alert = not cword && (points == 0)
is_usable_type cword points Expiry = not cword

-- the first in this order that can be used and that both ends offer
abbrev pub shared : Bool → ℕ → ℕ → ℕ → Option Cc
shared cword points own told =
    find (λ kind. is_usable_type cword points kind && (offers own kind && offers told kind)) (Header ∷ Alert ∷ Expiry ∷ [])

-- an end that tells control channel types tells ping with them; the other has to tell it too
abbrev pub picked : Option ℕ → Option (ℕ × ℕ) → Bool → ℕ → Option Cc
picked None remote cword points = None
picked (Some own) None cword points = None
picked (Some own) (Some told) cword points =
    if offers_ping told.1 then shared cword points own told.0 else None
