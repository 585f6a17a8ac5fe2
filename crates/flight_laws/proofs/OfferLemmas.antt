-- What an edge tells of a pseudowire can be written, and is octets.
use Rattle.std.proofs.Common.{◌≡◌, ◌≤◌, ◌<◌, ◌+◌, ◌^◌, ◌++◌, ◌&&◌, ℕ, Bool, true, false, cond, nat_le, length, flat_map, List, [], ◌∷◌, Option, Some, None, refl, length-append, inr, arith}
use Rattle.std.specs.Prelude.{IfSome, is_some, option_map}
use Rattle.std.specs.List.{AllByRecursion}
use Rattle.std.proofs.lemmas.Bool.Decides.{nat_tests}
use Rattle.net_base.specs.declared.plan.offer.Offer.{Offer}
use Rattle.net_values.specs.declared.addr.Addr.{Addr}
use Rattle.net_values.specs.declared.mac.Mac.{Mac}
use Rattle.net_base.specs.plan.Accepted.{IsOffer}
use Rattle.net_base.specs.plan.Faults.{is_told_within}
use Rattle.net_values.specs.Label.{IsLabel}
use Rattle.net_values.proofs.BoolLemmas.{first_holds, second_holds}
use Rattle.pw_tlvs.specs.declared.if_params.IfParams.{IfParams}
use Rattle.pw_tlvs.specs.declared.point.Point.{Point}
use Rattle.pw_tlvs.specs.declared.pw_fec.PwFec.{PwFec}
use Rattle.pw_tlvs.specs.declared.pw_status.PwStatus.{PwStatus}
use Rattle.pw_tlvs.specs.declared.registry.Registry.TheVariants.{InterfaceParameter, SwitchingPointPart}
use Rattle.pw_tlvs.specs.SubTlvs.{SubTlv, spell}
use Rattle.pw_tlvs.specs.Written.{IsFecInRange, IsPointInRange, control_and_kind, description_value, has_vlan, information, may_tell, pair_octets, parameter_sub_tlvs, part_sub_tlvs, told, writable_fec, written_fec, written_parameters, written_point}
use Rattle.pw_signalling.specs.declared.told.Told.{Told}
use Rattle.pw_signalling.specs.Rows.{with_status}
use Rattle.pw_messages.specs.Content.{bare, bare_fec_of, content_of, fec_of, mac_withdrawal, mapping, params_of, pw_status_notice, release, status_notification, told_with, withdrawal}
use Rattle.pw_messages.proofs.TellLemmas.{vlan_within}
use Rattle.pw_stitch.specs.Passing.{own_point, past_point}
use Rattle.ldp_grammar.specs.Octets.{two, four}
use Rattle.ldp_grammar.specs.Tlvs.{Tlv}
use Rattle.ldp_grammar.specs.Written.{IsState, label_tlvs, point_tlvs, status_tlvs}
use Rattle.ldp_grammar.proofs.OctetLemmas.{AreOctets, octet_front}
use Rattle.ldp_grammar.proofs.WrittenOctets.{four_octets, no_octets, octets_append, status_are, two_octets}
use Rattle.session_core.specs.declared.peers.Peers.{Peers}
use Rattle.pw_tlvs.specs.Fec.{no_params}
use Rattle.ldp_grammar.specs.declared.message.Message.{Message}
use Rattle.ldp_grammar.specs.declared.message.Message.TheVariants.{LabelMapping}
use Rattle.ldp_grammar.proofs.ReadingLemmas.{octets_behind}
use Rattle.ldp_grammar.proofs.ShortLemmas.{parameters_short}
use Rattle.flight_laws.specs.Ends.{IsFieldOffer}
use Rattle.flight_laws.specs.Flight.{is_plain}
use Rattle.flight_laws.specs.Messages.{HaveOctets, IsSaidAcross, IsSound}
use Rattle.flight_laws.specs.Sound.{CanBeMapped, IsSoundTold}
use Rattle.flight_laws.proofs.PieceLemmas.{IsPiece, macs_octets}

-- a message of pseudowires, by its Message ID: any ends may say it, and it is no Initialization
pub record IsOfWires (message : ℕ → Message) : Type 0 where
  pub said : (ends : Peers) (id : ℕ) → id < 2 ^ 32 → IsSaidAcross ends (message id)
  pub plain : (id : ℕ) → is_plain (message id) ≡ true

-- ---- octets of parameters

-- the octets of a sub-TLV
IsShortSub : SubTlv → Type 0
IsShortSub s = (s.kind < 256) × (2 + length s.value < 256) × AreOctets s.value

sub_octets : (ss : List SubTlv) → AllByRecursion IsShortSub ss → AreOctets (flat_map (spell InterfaceParameter) ss)
unfolding IsShortSub
sub_octets [] all = no_octets
sub_octets (s ∷ ss) all =
    octets_append (spell InterfaceParameter s) (flat_map (spell InterfaceParameter) ss)
    (octet_front s.kind ((2 + length s.value) ∷ s.value) all.0.0 (octet_front (2 + length s.value) s.value all.0.1 all.0.2))
    (sub_octets ss all.1)

subs-append : (xs ys : List SubTlv) → AllByRecursion IsShortSub xs → AllByRecursion IsShortSub ys → AllByRecursion IsShortSub (xs ++ ys)
subs-append [] ys one other = other
subs-append (x ∷ xs) ys one other = (one.0, subs-append xs ys one.1 other)

number_sub : (kind : ℕ) (number : Option ℕ) → kind < 256 → AllByRecursion IsShortSub (told kind (option_map (λ (n : ℕ). two n) number))
unfolding IsShortSub
number_sub kind None small = tt
number_sub kind (Some n) small = ((small, omega arith, two_octets n), tt)

text_sub : (kind : ℕ) (text : List ℕ) → kind < 256 → length text ≤ 80 → AreOctets text → AllByRecursion IsShortSub (told kind (description_value text))
unfolding IsShortSub
text_sub kind [] small few octets = tt
text_sub kind (x ∷ xs) small few octets = ((small, omega (arith, few), octets), tt)

pair_sub : (kind : ℕ) (types : Option (ℕ × ℕ)) → kind < 256 → IfSome types (λ pair. (pair.0 < 256) × (pair.1 < 256)) → AllByRecursion IsShortSub (told kind (option_map pair_octets types))
unfolding IsShortSub
pair_sub kind None small octets = tt
pair_sub kind (Some pair) small octets = ((small, omega arith, octet_front pair.0 (pair.1 ∷ []) octets.0 (octet_front pair.1 [] octets.1 no_octets)), tt)

parameters_octets : (params : IfParams) → length params.description ≤ 80 → AreOctets params.description → IfSome params.vccv (λ pair. (pair.0 < 256) × (pair.1 < 256))
    → AreOctets (written_parameters params)
parameters_octets params few octets types = sub_octets (parameter_sub_tlvs params)
    (subs-append ((told 0x01 (option_map (λ (n : ℕ). two n) params.mtu) ++ told 0x03 (description_value params.description)) ++ told 0x06 (option_map (λ (n : ℕ). two n) params.vlan))
    (told 0x0C (option_map pair_octets params.vccv))
    (subs-append (told 0x01 (option_map (λ (n : ℕ). two n) params.mtu) ++ told 0x03 (description_value params.description)) (told 0x06 (option_map (λ (n : ℕ). two n) params.vlan))
    (subs-append (told 0x01 (option_map (λ (n : ℕ). two n) params.mtu)) (told 0x03 (description_value params.description)) (number_sub 0x01 params.mtu (omega arith))
    (text_sub 0x03 params.description (omega arith) few octets))
    (number_sub 0x06 params.vlan (omega arith)))
    (pair_sub 0x0C params.vccv (omega arith) types))

number_length : (kind : ℕ) (number : Option ℕ) → length (flat_map (spell InterfaceParameter) (told kind (option_map (λ (n : ℕ). two n) number))) ≤ 4
number_length kind None = omega arith
number_length kind (Some n) = omega arith

-- ---- octets of FECs

fec_octets : (fec : PwFec) → length (information fec.pw_id fec.params) < 256 → AreOctets (information fec.pw_id fec.params) → AreOctets (written_fec fec)
fec_octets fec short octets =
    let inner = information fec.pw_id fec.params in
    octet_front 0x80 (two (control_and_kind fec.c fec.kind) ++ (length inner ∷ (four fec.group ++ inner))) (omega arith)
    (octets_append (two (control_and_kind fec.c fec.kind)) (length inner ∷ (four fec.group ++ inner)) (two_octets (control_and_kind fec.c fec.kind))
    (octet_front (length inner) (four fec.group ++ inner) short (octets_append (four fec.group) inner (four_octets fec.group) octets)))

-- a FEC without parameters
pub bare_octets : (fec : PwFec) → fec.params ≡ no_params → AreOctets (written_fec fec)
bare_octets fec none = fec_octets fec (rw none (short fec.pw_id)) (rw none (octets fec.pw_id)) where
  short : (pw_id : Option ℕ) → length (information pw_id no_params) < 256
  short None = omega arith
  short (Some n) = omega arith

  octets : (pw_id : Option ℕ) → AreOctets (information pw_id no_params)
  octets None = no_octets
  octets (Some n) = octets_append (four n) [] (four_octets n) no_octets

pub bare_in_range : (fec : PwFec) → fec.params ≡ no_params → fec.group < 2 ^ 32 → IfSome fec.pw_id (λ n. n < 2 ^ 32) → IsFecInRange fec
bare_in_range fec none group pw_id = record { group = group; pw_id = pw_id; mtu = rw none tt; description = rw none (omega arith) }

pub bare_writable : (fec : PwFec) → fec.params ≡ no_params → fec.kind ≤ 0x7FFF → writable_fec fec ≡ true
bare_writable fec none kind = rw (none, may fec.pw_id, small fec.kind kind) refl where
  may : (pw_id : Option ℕ) → may_tell pw_id no_params ≡ true
  may None = refl
  may (Some n) = refl

  small : (n : ℕ) → n ≤ 0x7FFF → nat_le n 0x7FFF ≡ true
  small n few = grind (arith, nat_tests)

-- ---- messages

-- a release of a FEC whose numbers fit
pub release_is : (fec : PwFec) (label : Option ℕ) → fec.kind ≤ 0x7FFF → fec.group < 2 ^ 32 → IfSome fec.pw_id (λ n. n < 2 ^ 32) → IfSome label IsLabel → IsOfWires (release fec label)
release_is fec label kind group pw_id fits = record {
  said = λ ends id small. (
    (small, bare_in_range (bare fec) refl group pw_id, fits),
    bare_writable (bare fec) refl kind,
    (bare_octets (bare fec) refl, labels label),
  );
  plain = λ id. refl;
}
  where
    labels : (label : Option ℕ) → HaveOctets (label_tlvs label)
    labels None = tt
    labels (Some n) = (four_octets n, tt)

pub withdrawal_is : (pw_id label : ℕ) (told : Told) → pw_id < 2 ^ 32 → CanBeMapped label told → IsOfWires (withdrawal pw_id label told)
withdrawal_is pw_id label told small can = record {
  said = λ ends id few. (
    (few, bare_in_range (bare_fec_of pw_id told) refl can.group small, can.is_label),
    bare_writable (bare_fec_of pw_id told) refl can.kind,
    (bare_octets (bare_fec_of pw_id told) refl, (four_octets label, tt)),
  );
  plain = λ id. refl;
}

pub status_is : (pw_id label : ℕ) (status : PwStatus) (told : Told) → pw_id < 2 ^ 32 → status.0 < 2 ^ 32 → CanBeMapped label told → IsOfWires (status_notification pw_id status told)
status_is pw_id label status told small fits can = record {
  said = λ ends id few. (
    (
      (few, omega arith, omega arith, fits, bare_in_range (bare_fec_of pw_id told) refl can.group small),
      bare_writable (bare_fec_of pw_id told) refl can.kind,
      (status_are pw_status_notice, (four_octets status.0, (bare_octets (bare_fec_of pw_id told) refl, tt))),
    ),
    inr (refl, refl, refl),
  );
  plain = λ id. refl;
}

-- a MAC withdraw of few addresses
pub clearance_is : (pw_id label : ℕ) (macs : List Mac) (told : Told) → pw_id < 2 ^ 32 → IsPiece macs → CanBeMapped label told → IsOfWires (mac_withdrawal pw_id macs told)
clearance_is pw_id label macs told small piece can = record {
  said = λ ends id few. (
    (
      (few, tt, bare_in_range (bare_fec_of pw_id told) refl can.group small, piece.are.six),
      bare_writable (bare_fec_of pw_id told) refl can.kind,
      (bare_octets (bare_fec_of pw_id told) refl, (macs_octets macs piece.are.octets, tt)),
    ),
    (refl, piece.few),
  );
  plain = λ id. refl;
}

content_kind : (offer : Offer) (status : Option PwStatus) → (content_of offer status).kind ≤ 0x7FFF
content_kind offer status = by_mode offer.tagged where
  by_mode : (b : Bool) → cond b 0x0004 0x0005 ≤ 0x7FFF
  by_mode true = omega arith
  by_mode false = omega arith

-- an offer can be told
pub content_can : (label : ℕ) (offer : Offer) (status : Option PwStatus) → IsLabel label → IsFieldOffer offer → CanBeMapped label (content_of offer status)
content_can label offer status is field = record { is_label = is; kind = content_kind offer status; group = field.group }

small_kind : (n : ℕ) → n ≤ 0x7FFF → nat_le n 0x7FFF ≡ true
small_kind n few = grind (arith, nat_tests)

channels_small : (vccv : Option ℕ) → is_told_within 0 7 vccv ≡ true → IfSome (option_map (λ (channels : ℕ). (channels, 0x01)) vccv) (λ (pair : ℕ × ℕ). (pair.0 < 256) × (pair.1 < 256))
channels_small None h = tt
channels_small (Some n) h = (few n h, omega arith) where
  few : (n : ℕ) → is_told_within 0 7 (Some n) ≡ true → n < 256
  few n h = grind (arith, nat_tests)

-- ---- contents of Label Mappings

-- an offer is one, whatever its status, and has no point
pub offer_sound : (limit : ℕ) (offer : Offer) (status : Option PwStatus) → IsState status → IsFieldOffer offer → IsOffer offer → IsSoundTold limit (content_of offer status)
offer_sound limit offer status state field fit = record {
  kind = content_kind offer status;
  group = field.group;
  mtu = field.mtu;
  description = field.description;
  vlan = vlan_within offer.vlan fit.vlan;
  octets = parameters_octets (params_of (content_of offer status)) field.description field.octets (channels_small offer.vccv fit.vccv);
  status = state;
  few = omega arith;
  points = tt;
  point_octets = tt;
}

-- a label can be told with it
pub sound_can : (limit label : ℕ) (content : Told) → IsLabel label → IsSoundTold limit content → CanBeMapped label content
sound_can limit label content is sound = record { is_label = is; kind = sound.kind; group = sound.group }

-- another status of it
pub status_sound : (limit : ℕ) (status : PwStatus) (content : Told) → status.0 < 2 ^ 32 → IsSoundTold limit content → IsSoundTold limit (with_status status content)
status_sound limit status content small sound = record {
  kind = sound.kind;
  group = sound.group;
  mtu = sound.mtu;
  description = sound.description;
  vlan = sound.vlan;
  octets = sound.octets;
  status = small;
  few = sound.few;
  points = sound.points;
  point_octets = sound.point_octets;
}

points_octets_append : (points : List Point) (point : Point) → HaveOctets (point_tlvs points) → AreOctets (written_point point) → HaveOctets (point_tlvs (points ++ point ∷ []))
points_octets_append [] point all one = (one, tt)
points_octets_append (first ∷ points) point all one = (all.0, points_octets_append points point all.1 one)

points_range_append : (points : List Point) (point : Point) → AllByRecursion IsPointInRange points → IsPointInRange point → AllByRecursion IsPointInRange (points ++ point ∷ [])
points_range_append [] point all one = (one, tt)
points_range_append (first ∷ points) point all one = (all.0, points_range_append points point all.1 one)

one_more_point : (points : List Point) (point : Point) (limit : ℕ) → length points ≤ limit → length (points ++ point ∷ []) ≤ limit + 1
one_more_point points point limit few = omega (arith, few, length-append points (point ∷ []))

-- one point more is behind it
pub past_sound : (limit : ℕ) (point : Point) (content : Told) → IsPointInRange point → AreOctets (written_point point) → IsSoundTold limit content → IsSoundTold (limit + 1) (past_point point content)
past_sound limit point content range octets sound = record {
  kind = sound.kind;
  group = sound.group;
  mtu = sound.mtu;
  description = sound.description;
  vlan = sound.vlan;
  octets = sound.octets;
  status = sound.status;
  few = one_more_point content.points point limit sound.few;
  points = points_range_append content.points point sound.points range;
  point_octets = points_octets_append content.points point sound.point_octets octets;
}

-- ---- what a Label Mapping that is heard has

-- its FEC names a PW ID
parameters_in : (fec : PwFec) → is_some fec.pw_id ≡ true → AreOctets (written_fec fec) → AreOctets (written_parameters fec.params)
parameters_in fec some octets = by_id fec.pw_id some (octets_behind (four fec.group) (information fec.pw_id fec.params)
    (octets_behind (length (information fec.pw_id fec.params) ∷ []) (four fec.group ++ information fec.pw_id fec.params)
    (octets_behind (two (control_and_kind fec.c fec.kind)) (length (information fec.pw_id fec.params) ∷ (four fec.group ++ information fec.pw_id fec.params))
    (octets_behind (0x80 ∷ []) (two (control_and_kind fec.c fec.kind) ++ (length (information fec.pw_id fec.params) ∷ (four fec.group ++ information fec.pw_id fec.params))) octets))))
  where
    by_id : (pw_id : Option ℕ) → is_some pw_id ≡ true → AreOctets (information pw_id fec.params) → AreOctets (written_parameters fec.params)
    by_id None none octets = absurd (cc)
    by_id (Some n) some octets = octets_behind (four n) (written_parameters fec.params) octets

tlvs_behind : (front more : List Tlv) → HaveOctets (front ++ more) → HaveOctets more
tlvs_behind [] more all = all
tlvs_behind (t ∷ front) more all = tlvs_behind front more all.1

kind_of : (n : ℕ) → nat_le n 0x7FFF ≡ true → n ≤ 0x7FFF
kind_of n few = grind (arith, nat_tests)

-- what it tells is a content of one, with the points that it may have
pub heard_sound : (limit id : ℕ) (fec : PwFec) (label : ℕ) (status : Option PwStatus) (points : List Point) → IsSound (LabelMapping id fec label status points) → length points ≤ limit
    → IsSoundTold limit (told_with fec status points)
heard_sound limit id fec label status points sound few =
    let some : is_some fec.pw_id ≡ true = first_holds (is_some fec.pw_id) (writable_fec fec) sound.1 in
    let can : writable_fec fec ≡ true = second_holds (is_some fec.pw_id) (writable_fec fec) sound.1 in
    record {
      kind = kind_of fec.kind (first_holds (nat_le fec.kind 0x7FFF) (has_vlan fec.params.vlan && may_tell fec.pw_id fec.params) can);
      group = sound.0.1.group;
      mtu = sound.0.1.mtu;
      description = sound.0.1.description;
      vlan = first_holds (has_vlan fec.params.vlan) (may_tell fec.pw_id fec.params) (second_holds (nat_le fec.kind 0x7FFF) (has_vlan fec.params.vlan && may_tell fec.pw_id fec.params) can);
      octets = parameters_in fec some sound.2.0;
      status = sound.0.3;
      few = few;
      points = sound.0.5;
      point_octets = tlvs_behind (status_tlvs status) (point_tlvs points) sound.2.1.1;
    }

-- ---- a Label Mapping

mapping_tlvs : (status : Option PwStatus) (points : List Point) → HaveOctets (point_tlvs points) → HaveOctets (status_tlvs status ++ point_tlvs points)
mapping_tlvs None points all = all
mapping_tlvs (Some status) points all = (four_octets status.0, all)

-- of at most three points
pub mapping_sound : (pw_id label : ℕ) (content : Told) → pw_id < 2 ^ 32 → IsLabel label → IsSoundTold 3 content → IsOfWires (mapping pw_id label content)
mapping_sound pw_id label content small is sound = record {
  said = λ ends id few. (
    (few, record { group = sound.group; pw_id = small; mtu = sound.mtu; description = sound.description }, is, sound.status, sound.few, sound.points),
    rw (sound.vlan, small_kind content.kind sound.kind) refl,
    (fec_octets (fec_of pw_id content) short octets, (four_octets label, mapping_tlvs content.status content.points sound.point_octets)),
  );
  plain = λ id. refl;
}
  where
    octets : AreOctets (information (Some pw_id) (params_of content))
    octets = octets_append (four pw_id) (written_parameters (params_of content)) (four_octets pw_id) sound.octets

    short : length (information (Some pw_id) (params_of content)) < 256
    short = omega (arith, parameters_short (params_of content) sound.description)

pub mapping_is : (pw_id label : ℕ) (offer : Offer) (status : Option PwStatus) → pw_id < 2 ^ 32 → IsLabel label → IsState status → IsFieldOffer offer → IsOffer offer
    → IsOfWires (mapping pw_id label (content_of offer status))
mapping_is pw_id label offer status small is state field fit = mapping_sound pw_id label (content_of offer status) small is (offer_sound 3 offer status state field fit)

-- ---- the point of an edge

-- the octets of a part of it
IsShortPart : SubTlv → Type 0
IsShortPart s = (s.kind < 256) × (0 + length s.value < 256) × AreOctets s.value

part_octets : (ss : List SubTlv) → AllByRecursion IsShortPart ss → AreOctets (flat_map (spell SwitchingPointPart) ss)
unfolding IsShortPart
part_octets [] all = no_octets
part_octets (s ∷ ss) all =
    octets_append (spell SwitchingPointPart s) (flat_map (spell SwitchingPointPart) ss)
    (octet_front s.kind ((0 + length s.value) ∷ s.value) all.0.0 (octet_front (0 + length s.value) s.value all.0.1 all.0.2))
    (part_octets ss all.1)

part_number : (kind number : ℕ) → kind < 256 → AllByRecursion IsShortPart (told kind (Some (four number)))
unfolding IsShortPart
part_number kind number small = ((small, omega arith, four_octets number), tt)

-- an address that a point names, where it names one
abbrev pub IsPointAddress : Option Addr → Type 0
IsPointAddress None = Unit {0}
IsPointAddress (Some address) = (length address.0 ≡ 4) × AreOctets address.0

part_address : (kind : ℕ) (address : Option Addr) → kind < 256 → IsPointAddress address → AllByRecursion IsShortPart (told kind (option_map (λ (a : Addr). a.0) address))
unfolding IsShortPart
part_address kind None small is = tt
part_address kind (Some address) small is = ((small, omega (arith, is.0), is.1), tt)

parts-append : (xs ys : List SubTlv) → AllByRecursion IsShortPart xs → AllByRecursion IsShortPart ys → AllByRecursion IsShortPart (xs ++ ys)
parts-append [] ys one other = other
parts-append (x ∷ xs) ys one other = (one.0, parts-append xs ys one.1 other)

address_range : (address : Option Addr) → IsPointAddress address → IfSome address (λ (a : Addr). length a.0 ≡ 4)
address_range None is = tt
address_range (Some address) is = is.0

pub own_in_range : (pw_id : ℕ) (own far : Option Addr) → pw_id < 2 ^ 32 → IsPointAddress own → IsPointAddress far → IsPointInRange (own_point pw_id own far)
own_in_range pw_id own far small near beyond = record { pw_id = small; local = address_range own near; remote = address_range far beyond }

pub own_octets : (pw_id : ℕ) (own far : Option Addr) → IsPointAddress own → IsPointAddress far → AreOctets (written_point (own_point pw_id own far))
own_octets pw_id own far near beyond = part_octets (part_sub_tlvs (own_point pw_id own far))
    (parts-append (told 0x01 (Some (four pw_id)) ++ told 0x03 (option_map (λ (a : Addr). a.0) own)) (told 0x04 (option_map (λ (a : Addr). a.0) far))
    (parts-append (told 0x01 (Some (four pw_id))) (told 0x03 (option_map (λ (a : Addr). a.0) own)) (part_number 0x01 pw_id (omega arith)) (part_address 0x03 own (omega arith) near))
    (part_address 0x04 far (omega arith) beyond))
