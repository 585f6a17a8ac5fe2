-- Written parameters are those that are told, joined.
use Rattle.std.proofs.Common.{◌≡◌, ◌+◌, ◌++◌, ◌∙◌, ℕ, List, length, length-append, ap, arith}
use Rattle.std.specs.Prelude.{option_map}
use Rattle.std.specs.List.{flat_map}
use Rattle.std.proofs.lemmas.Grind.{flat_map-append}
use Rattle.byteorder.specs.Endian.{big_bytes}
use Rattle.pw_tlvs.specs.declared.registry.Registry.TheVariants.{InterfaceParameter}
use Rattle.pw_tlvs.specs.declared.if_params.IfParams.{IfParams}
use Rattle.pw_tlvs.specs.SubTlvs.{SubTlv, spell}
use Rattle.pw_tlvs.specs.Written.{told, description_value, pair_octets, written_parameters}

abbrev pub mtu_octets : IfParams → List ℕ
mtu_octets params = flat_map (spell InterfaceParameter) (told 0x01 (option_map (λ mtu. big_bytes 2 mtu) params.mtu))

abbrev pub description_octets : IfParams → List ℕ
description_octets params = flat_map (spell InterfaceParameter) (told 0x03 (description_value params.description))

abbrev pub vlan_octets : IfParams → List ℕ
vlan_octets params = flat_map (spell InterfaceParameter) (told 0x06 (option_map (λ vlan. big_bytes 2 vlan) params.vlan))

abbrev pub vccv_octets : IfParams → List ℕ
vccv_octets params = flat_map (spell InterfaceParameter) (told 0x0C (option_map pair_octets params.vccv))

joined_four : (a b c d : List SubTlv) → flat_map (spell InterfaceParameter) (((a ++ b) ++ c) ++ d)
    ≡ ((flat_map (spell InterfaceParameter) a ++ flat_map (spell InterfaceParameter) b) ++ flat_map (spell InterfaceParameter) c) ++ flat_map (spell InterfaceParameter) d
joined_four a b c d =
    flat_map-append (spell InterfaceParameter) ((a ++ b) ++ c) d
    ∙ (ap (λ (l : List ℕ). l ++ flat_map (spell InterfaceParameter) d) (flat_map-append (spell InterfaceParameter) (a ++ b) c)
    ∙ ap (λ (l : List ℕ). (l ++ flat_map (spell InterfaceParameter) c) ++ flat_map (spell InterfaceParameter) d) (flat_map-append (spell InterfaceParameter) a b))

pub parameter_parts : (params : IfParams) → written_parameters params ≡ ((mtu_octets params ++ description_octets params) ++ vlan_octets params) ++ vccv_octets params
parameter_parts params =
    joined_four (told 0x01 (option_map (λ (n : ℕ). big_bytes 2 n) params.mtu)) (told 0x03 (description_value params.description))
    (told 0x06 (option_map (λ (n : ℕ). big_bytes 2 n) params.vlan)) (told 0x0C (option_map pair_octets params.vccv))

pub parameters_length : (params : IfParams) → length (written_parameters params)
    ≡ ((length (mtu_octets params) + length (description_octets params)) + length (vlan_octets params)) + length (vccv_octets params)
parameters_length params =
    let parts = ap length (parameter_parts params) in
    let three = length-append ((mtu_octets params ++ description_octets params) ++ vlan_octets params) (vccv_octets params) in
    let two = length-append (mtu_octets params ++ description_octets params) (vlan_octets params) in
    let one = length-append (mtu_octets params) (description_octets params) in
    omega (arith, parts, three, two, one)
