-- What an edge writes is short, so that a PDU of it keeps to every maximum of a session.
use Rattle.std.proofs.Common.{◌≡◌, ◌≤◌, ◌+◌, ◌*◌, ◌++◌, ◌∙◌, ℕ, List, [], ◌∷◌, length, flat_map, Option, Some, None, ap, length-append, arith}
use Rattle.std.specs.Prelude.{IfSome, option_map}
use Rattle.std.specs.List.{AllByRecursion}
use Rattle.std.proofs.lemmas.Grind.{flat_map-append}
use Rattle.byteorder.specs.Endian.{big_bytes}
use Rattle.net_values.specs.declared.addr.Addr.{Addr}
use Rattle.net_values.specs.declared.mac.Mac.{Mac}
use Rattle.pw_tlvs.specs.declared.if_params.IfParams.{IfParams}
use Rattle.pw_tlvs.specs.declared.point.Point.{Point}
use Rattle.pw_tlvs.specs.declared.pw_fec.PwFec.{PwFec}
use Rattle.pw_tlvs.specs.declared.pw_status.PwStatus.{PwStatus}
use Rattle.pw_tlvs.specs.declared.registry.Registry.TheVariants.{InterfaceParameter, SwitchingPointPart}
use Rattle.pw_tlvs.specs.Macs.{mac_octets}
use Rattle.pw_tlvs.specs.SubTlvs.{spell}
use Rattle.pw_tlvs.specs.Written.{IsFecInRange, IsPointInRange, description_value, information, pair_octets, told, written_fec, written_parameters, written_point}
use Rattle.pw_tlvs.proofs.ParameterLemmas.{parameters_length}
use Rattle.pw_tlvs.proofs.PointLemmas.{point_length}
use Rattle.pw_tlvs.proofs.MacLemmas.{length_macs}
use Rattle.ldp_grammar.specs.declared.address_list.AddressList.{AddressList}
use Rattle.ldp_grammar.specs.declared.message.Message.TheVariants.{Notification, Hello, Initialization, KeepAlive, Address, AddressWithdraw, LabelMapping, LabelRequest, LabelWithdraw, LabelRelease, LabelAbort, Other, Unprocessed}
use Rattle.ldp_grammar.specs.Rows.{fec, label, request_id, switching_point}
use Rattle.ldp_grammar.specs.Octets.{two, four}
use Rattle.ldp_grammar.specs.Tlvs.{Tlv, spell_tlv}
use Rattle.ldp_grammar.specs.Written.{AreSixOctets, IsAddress4, WrittenIsShort, fec_tlvs, ignorable, label_tlvs, list_length, mac_tlvs, macs_length, point_tlvs, status_tlvs, tlv, transport_tlvs, withdrawn_tlvs}

-- interface parameters that are told
pair_short : (kind : ℕ) (number : Option ℕ) → length (flat_map (spell InterfaceParameter) (told kind (option_map (λ (n : ℕ). big_bytes 2 n) number))) ≤ 4
pair_short kind None = omega arith
pair_short kind (Some n) = omega arith

pub vccv_short : (kind : ℕ) (types : Option (ℕ × ℕ)) → length (flat_map (spell InterfaceParameter) (told kind (option_map pair_octets types))) ≤ 4
vccv_short kind None = omega arith
vccv_short kind (Some types) = omega arith

pub description_short : (kind : ℕ) (text : List ℕ) → length text ≤ 80 → length (flat_map (spell InterfaceParameter) (told kind (description_value text))) ≤ 82
description_short kind [] few = omega arith
description_short kind (x ∷ xs) few = omega (arith, few, length-append xs [])

pub parameters_short : (params : IfParams) → length params.description ≤ 80 → length (written_parameters params) ≤ 94
parameters_short params few =
    omega (arith, parameters_length params, pair_short 0x01 params.mtu, description_short 0x03 params.description few, pair_short 0x06 params.vlan, vccv_short 0x0C params.vccv)

information_short : (pw_id : Option ℕ) (params : IfParams) → length params.description ≤ 80 → length (information pw_id params) ≤ 98
information_short None params few = omega arith
information_short (Some n) params few = omega (arith, parameters_short params few)

fec_short : (pw : PwFec) → IsFecInRange pw → length (written_fec pw) ≤ 106
fec_short pw range = omega (arith, information_short pw.pw_id pw.params range.description)

-- parts of a switching point that are told
number_short : (kind : ℕ) (number : Option ℕ) → length (flat_map (spell SwitchingPointPart) (told kind (option_map (λ (n : ℕ). big_bytes 4 n) number))) ≤ 6
number_short kind None = omega arith
number_short kind (Some n) = omega arith

address_short : (kind : ℕ) (address : Option Addr) → IfSome address (λ (a : Addr). length a.0 ≡ 4)
    → length (flat_map (spell SwitchingPointPart) (told kind (option_map (λ (a : Addr). a.0) address))) ≤ 6
address_short kind None four = omega arith
address_short kind (Some a) four = omega (arith, four, length-append a.0 [])

point_short : (point : Point) → IsPointInRange point → length (written_point point) ≤ 18
point_short point range = omega (arith, point_length point, number_short 0x01 point.pw_id, address_short 0x03 point.local range.local, address_short 0x04 point.remote range.remote)

-- TLVs one after another
pub first_length : (t : Tlv) (ts : List Tlv) → length (flat_map spell_tlv (t ∷ ts)) ≡ 4 + length t.value + length (flat_map spell_tlv ts)
first_length t ts = omega (arith, length-append t.value (flat_map spell_tlv ts))

pub both_length : (ts us : List Tlv) → length (flat_map spell_tlv (ts ++ us)) ≡ length (flat_map spell_tlv ts) + length (flat_map spell_tlv us)
both_length ts us = ap length (flat_map-append spell_tlv ts us) ∙ length-append (flat_map spell_tlv ts) (flat_map spell_tlv us)

points_short : (points : List Point) → AllByRecursion IsPointInRange points → length (flat_map spell_tlv (point_tlvs points)) ≤ 22 * length points
points_short [] all = omega arith
points_short (point ∷ points) all = omega (arith, first_length (ignorable switching_point (written_point point)) (point_tlvs points), point_short point all.0, points_short points all.1)

fecs_short : (pw : Option PwFec) → IfSome pw IsFecInRange → length (flat_map spell_tlv (fec_tlvs pw)) ≤ 110
fecs_short None range = omega arith
fecs_short (Some pw) range = omega (arith, first_length (tlv fec (written_fec pw)) [], fec_short pw range)

pub states_short : (state : Option PwStatus) → length (flat_map spell_tlv (status_tlvs state)) ≤ 8
states_short None = omega arith
states_short (Some state) = omega arith

labels_short : (given : Option ℕ) → length (flat_map spell_tlv (label_tlvs given)) ≤ 8
labels_short None = omega arith
labels_short (Some given) = omega arith

transports_short : (address : Option Addr) → IsAddress4 address → length (flat_map spell_tlv (transport_tlvs address)) ≤ 8
transports_short None four = omega arith
transports_short (Some a) four = omega (arith, four, length-append a.0 [])

withdrawn_short : (addresses : Option AddressList) → list_length addresses ≡ 0 → length (flat_map spell_tlv (withdrawn_tlvs addresses)) ≤ 6
withdrawn_short None none = omega arith
withdrawn_short (Some a) none = omega (arith, none, length-append a.octets [])

lists_short : (macs : Option (List Mac)) → AreSixOctets macs → macs_length macs ≤ 16 → length (flat_map spell_tlv (mac_tlvs macs)) ≤ 100
lists_short None six few = omega arith
lists_short (Some macs) six few = omega (arith, few, length_macs macs six, length-append (mac_octets macs) [])

router_length : (router : List ℕ) (space : ℕ) → length ((router ++ two space) ++ []) ≡ length router + 2
router_length router space = omega (arith, length-append (router ++ two space) [], length-append router (two space))

pub written_is_short : WrittenIsShort
written_is_short (Notification id code state pw) fits none few = omega (arith, both_length (status_tlvs state) (fec_tlvs pw), states_short state, fecs_short pw fits.4)
written_is_short (Hello id hold targeted request transport) fits none few = omega (arith, transports_short transport fits.2)
written_is_short (Initialization id params) fits none few = omega (arith, fits.1.receiver.router, router_length params.receiver.router.0 params.receiver.space)
written_is_short (KeepAlive id) fits none few = omega arith
written_is_short (Address id family octets) fits none few = omega (arith, none, length-append octets [])
written_is_short (AddressWithdraw id addresses pw macs) fits none few =
    omega (
      arith,
      both_length (withdrawn_tlvs addresses) (fec_tlvs pw ++ mac_tlvs macs),
      both_length (fec_tlvs pw) (mac_tlvs macs),
      withdrawn_short addresses none,
      fecs_short pw fits.2,
      lists_short macs fits.3 few,
    )
written_is_short (LabelMapping id pw given state points) fits none few =
    let last = both_length (status_tlvs state) (point_tlvs points) in
    let second = first_length (tlv label (four given)) (status_tlvs state ++ point_tlvs points) in
    let first = first_length (tlv fec (written_fec pw)) (tlv label (four given) ∷ (status_tlvs state ++ point_tlvs points)) in
    omega (arith, first, second, last, fec_short pw fits.1, states_short state, points_short points fits.5, fits.4)
written_is_short (LabelRequest id pw) fits none few = omega (arith, first_length (tlv fec (written_fec pw)) [], fec_short pw fits.1)
written_is_short (LabelWithdraw id pw given) fits none few = omega (arith, first_length (tlv fec (written_fec pw)) (label_tlvs given), labels_short given, fec_short pw fits.1)
written_is_short (LabelRelease id pw given) fits none few = omega (arith, first_length (tlv fec (written_fec pw)) (label_tlvs given), labels_short given, fec_short pw fits.1)
written_is_short (LabelAbort id pw request) fits none few = omega (arith, first_length (tlv fec (written_fec pw)) (tlv request_id (four request) ∷ []), fec_short pw fits.1)
written_is_short (Other id u number) fits none few = omega arith
written_is_short (Unprocessed id number why) fits none few = omega arith
