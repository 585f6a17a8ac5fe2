-- A switching point's octets are one point, or have one first fault.
use Rattle.std.proofs.Common.{◌≡◌, ◌+◌, ◌++◌, ◌∙◌, ℕ, List, [], ◌∷◌, length, length-append, refl, sym, ap, arith, inr}
use Rattle.std.specs.Prelude.{slice_index, option_map}
use Rattle.std.specs.List.{flat_map}
use Rattle.std.proofs.lemmas.Grind.{flat_map-append}
use Rattle.byteorder.specs.Endian.{big_number, big_bytes}
use Rattle.net_values.specs.declared.addr.Addr.{Addr}
use Rattle.pw_tlvs.specs.declared.field_fault.FieldFault.{FieldFault}
use Rattle.pw_tlvs.specs.declared.registry.Registry.TheVariants.{SwitchingPointPart}
use Rattle.pw_tlvs.specs.declared.point.Point.{Point}
use Rattle.pw_tlvs.specs.SubTlvs.{SubTlv, said, spell}
use Rattle.pw_tlvs.specs.Written.{told, written_point}
use Rattle.pw_tlvs.specs.Point.{IsPoint, IsPointFault, address_of}
use Rattle.pw_tlvs.specs.Faults.{IsInside}
use Rattle.pw_tlvs.proofs.WrongLemmas.{named_within}
use Rattle.pw_tlvs.proofs.SubTlvLemmas.{never_both, one_joining}

-- four octets are their list
pub four_octets : (octets : List ℕ) → length octets ≡ 4 → slice_index octets 0 ∷ slice_index octets 1 ∷ slice_index octets 2 ∷ slice_index octets 3 ∷ [] ≡ octets
four_octets [] four = absurd (omega arith)
four_octets (a ∷ []) four = absurd (omega arith)
four_octets (a ∷ b ∷ []) four = absurd (omega arith)
four_octets (a ∷ b ∷ c ∷ []) four = absurd (omega arith)
four_octets (a ∷ b ∷ c ∷ d ∷ []) four = refl
four_octets (a ∷ b ∷ c ∷ d ∷ e ∷ more) four = absurd (omega arith)

-- the octets are one point at most
pub one_point : (octets : List ℕ) (a b : Point) → IsPoint octets a → IsPoint octets b → a ≡ b
one_point octets a b one other =
    let same = one_joining SwitchingPointPart octets one.subs other.subs one.are other.are in
    let pw_id = one.pw_id ∙ (ap (λ (l : List SubTlv). option_map (λ (value : List ℕ). big_number 4 value) (said 0x01 l)) same ∙ sym other.pw_id) in
    let local = one.local ∙ (ap (λ (l : List SubTlv). option_map address_of (said 0x03 l)) same ∙ sym other.local) in
    let remote = one.remote ∙ (ap (λ (l : List SubTlv). option_map address_of (said 0x04 l)) same ∙ sym other.remote) in
    λ i. record { pw_id = pw_id i; local = local i; remote = remote i }

-- octets that are a point have no fault
pub never_point : (octets : List ℕ) (a : Point) (f : FieldFault) → IsPoint octets a → IsPointFault octets f → ⊥
never_point octets a f is named = never_both SwitchingPointPart 0 octets is.subs f is.are named

abbrev pub pw_id_octets : Point → List ℕ
pw_id_octets point = flat_map (spell SwitchingPointPart) (told 0x01 (option_map (λ pw_id. big_bytes 4 pw_id) point.pw_id))

abbrev pub local_octets : Point → List ℕ
local_octets point = flat_map (spell SwitchingPointPart) (told 0x03 (option_map (λ address. address.0) point.local))

abbrev pub remote_octets : Point → List ℕ
remote_octets point = flat_map (spell SwitchingPointPart) (told 0x04 (option_map (λ address. address.0) point.remote))

-- a written point is its three parts joined
pub point_parts : (point : Point) → written_point point ≡ (pw_id_octets point ++ local_octets point) ++ remote_octets point
point_parts point =
    let first = told 0x01 (option_map (λ (n : ℕ). big_bytes 4 n) point.pw_id) in
    let second = told 0x03 (option_map (λ (a : Addr). a.0) point.local) in
    let third = told 0x04 (option_map (λ (a : Addr). a.0) point.remote) in
    flat_map-append (spell SwitchingPointPart) (first ++ second) third ∙ ap (λ (l : List ℕ). l ++ flat_map (spell SwitchingPointPart) third) (flat_map-append (spell SwitchingPointPart) first second)

pub point_length : (point : Point) → length (written_point point) ≡ (length (pw_id_octets point) + length (local_octets point)) + length (remote_octets point)
point_length point =
    let parts = ap length (point_parts point) in
    let two = length-append (pw_id_octets point ++ local_octets point) (remote_octets point) in
    let one = length-append (pw_id_octets point) (local_octets point) in
    omega (arith, parts, two, one)

-- a fault that can be named is within the octets
pub point_inside : (octets : List ℕ) (f : FieldFault) → IsPointFault octets f → IsInside octets f
point_inside octets f named = inr (let close = named_within SwitchingPointPart 0 octets f named in omega arith)
