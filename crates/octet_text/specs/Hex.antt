-- Octets as pairs of hexadecimal digits.
use Rattle.std.specs.Prelude.{◌&&◌, ◌+◌, ◌-◌, ◌*◌, not, nat_le, ℕ, Bool, true, false, List, [], ◌∷◌, map, Option, Some, None, option_and_then, option_map, unwrap_or, if◌then◌else◌}
use Rattle.std.specs.Char.{is_ascii_uppercase}
use Rattle.std.specs.Int.Bits.{bit_or}

-- the value of a digit: 0 to 9, a to f, A to F
abbrev pub digit_value : ℕ → Option ℕ
digit_value octet =
    if nat_le 48 octet && nat_le octet 57 then Some (octet - 48)
    else if nat_le 97 octet && nat_le octet 102 then Some (octet - 97 + 10)
    else if nat_le 65 octet && nat_le octet 70 then Some (octet - 65 + 10)
    else None

-- the octet of two digits
abbrev pub pair_value : ℕ → ℕ → Option ℕ
pair_value a b = option_and_then (λ high. option_map (λ low. high * 16 + low) (digit_value b)) (digit_value a)

-- what the value of a digit adds to an octet as its second one; 256 where there is none. As its first one it adds 16 times as much
abbrev pub part : Option ℕ → ℕ
part value = unwrap_or value 256

-- the same where capital letters are no digits
abbrev pub small_part : ℕ → ℕ
small_part octet = if nat_le 48 octet && nat_le octet 57 then octet - 48 else if nat_le 97 octet && nat_le octet 102 then octet - 87 else 256

-- what a digit is worth; 255 where it is none
abbrev pub worth : ℕ → ℕ
worth octet = unwrap_or (digit_value octet) 255

-- the octets of pairs of digits
abbrev pub unhex : List ℕ → Option (List ℕ)
unhex [] = Some []
unhex (a ∷ []) = None
unhex (a ∷ b ∷ rest) = option_and_then (λ octet. option_map (λ octets. octet ∷ octets) (unhex rest)) (pair_value a b)

-- an octet that is no capital letter
abbrev pub is_small : ℕ → Bool
is_small octet = not (is_ascii_uppercase octet)

-- the octet, where it is no capital letter, and else one that is no digit
abbrev pub small_or_none : ℕ → ℕ
small_or_none octet = if is_small octet then octet else 0

-- a digit where capital letters are digits, and where they are none
abbrev pub digit_in : Bool → ℕ → ℕ
digit_in true octet = octet
digit_in false octet = small_or_none octet

abbrev pub digits_in : Bool → List ℕ → List ℕ
digits_in true octets = octets
digits_in false octets = map small_or_none octets

-- a letter as a small one, where capital letters are digits. No digit becomes a letter by it, nor another octet a letter that is a digit
abbrev pub lowered : Bool → ℕ → ℕ
lowered true octet = bit_or octet 32
lowered false octet = octet
