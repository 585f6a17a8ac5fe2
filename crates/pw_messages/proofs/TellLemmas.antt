-- What is told of a pseudowire can be written.
use Rattle.std.proofs.Common.{◌≡◌, ◌≤◌, ◌+◌, ◌++◌, ◌∙◌, ℕ, true, List, [], ◌∷◌, Option, Some, None, length, flat_map, refl, ap, arith}
use Rattle.std.proofs.lemmas.Bool.Decides.{nat_tests}
use Rattle.net_base.specs.declared.plan.offer.Offer.{Offer}
use Rattle.net_values.specs.declared.mac.Mac.{Mac}
use Rattle.net_base.specs.plan.Accepted.{IsOffer}
use Rattle.net_base.specs.plan.Faults.{is_told_within}
use Rattle.pw_tlvs.specs.declared.point.Point.{Point}
use Rattle.pw_tlvs.specs.declared.pw_fec.PwFec.{PwFec}
use Rattle.pw_tlvs.specs.declared.pw_status.PwStatus.{PwStatus}
use Rattle.pw_tlvs.specs.Macs.{mac_octets}
use Rattle.pw_tlvs.specs.Written.{has_vlan, written_fec}
use Rattle.pw_signalling.specs.declared.told.Told.{Told}
use Rattle.ldp_grammar.specs.declared.message.Message.TheVariants.{AddressWithdraw, LabelMapping}
use Rattle.ldp_grammar.specs.Octets.{four}
use Rattle.ldp_grammar.specs.Rows.{fec, label, mac_list}
use Rattle.ldp_grammar.specs.Tlvs.{spell_tlv}
use Rattle.ldp_grammar.specs.Written.{ignorable, message_octets, point_tlvs, status_tlvs, tlv}
use Rattle.ldp_grammar.proofs.ShortLemmas.{first_length, both_length, states_short}
use Rattle.pw_messages.specs.Content.{bare_fec_of}

pub vlan_within : (vlan : Option ℕ) → is_told_within 0 4095 vlan ≡ true → has_vlan vlan ≡ true
vlan_within None within = refl
vlan_within (Some n) within = grind (arith, nat_tests)

-- an offer's VLAN ID has 12 bits
pub offers_vlan : (offer : Offer) → IsOffer offer → has_vlan offer.vlan ≡ true
offers_vlan offer is = vlan_within offer.vlan is.vlan

-- a mapping whose FEC and switching points are short
pub mapping_short : (id : ℕ) (pw : PwFec) (given : ℕ) (state : Option PwStatus) (points : List Point) → length (written_fec pw) ≤ 106
    → length (flat_map spell_tlv (point_tlvs points)) ≤ 66 → 6 + length (message_octets (LabelMapping id pw given state points)) ≤ 256
mapping_short id pw given state points fec_fits points_fit =
    let last = both_length (status_tlvs state) (point_tlvs points) in
    let second = first_length (tlv label (four given)) (status_tlvs state ++ point_tlvs points) in
    let first = first_length (tlv fec (written_fec pw)) (tlv label (four given) ∷ (status_tlvs state ++ point_tlvs points)) in
    omega (arith, first, second, last, states_short state, fec_fits, points_fit)

-- a MAC withdraw of few addresses
pub withdrawal_short : (id pw_id : ℕ) (told : Told) (pw : PwFec) (addresses : List Mac) → pw ≡ bare_fec_of pw_id told → length (mac_octets addresses) ≤ 180
    → 6 + length (message_octets (AddressWithdraw id None (Some pw) (Some addresses))) ≤ 256
withdrawal_short id pw_id told pw addresses same few =
    let bare_fits : length (written_fec (bare_fec_of pw_id told)) ≡ 12 = refl in
    let fec_fits : length (written_fec pw) ≡ 12 = ap (λ (p : PwFec). length (written_fec p)) same ∙ bare_fits in
    let second = first_length (ignorable mac_list (mac_octets addresses)) [] in
    let first = first_length (tlv fec (written_fec pw)) (ignorable mac_list (mac_octets addresses) ∷ []) in
    omega (arith, first, second, fec_fits, few)
