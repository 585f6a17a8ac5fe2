-- What is told of a pseudowire, and how messages carry it (RFC 8077 section 6).
use Rattle.std.specs.Prelude.{ℕ, Bool, List, [], Option, Some, None, option_map, if◌then◌else◌}
use Rattle.net_base.specs.declared.plan.offer.Offer.{Offer}
use Rattle.net_values.specs.declared.mac.Mac.{Mac}
use Rattle.pw_tlvs.specs.declared.if_params.IfParams.{IfParams}
use Rattle.pw_tlvs.specs.declared.point.Point.{Point}
use Rattle.pw_tlvs.specs.declared.pw_fec.PwFec.{PwFec}
use Rattle.pw_tlvs.specs.declared.pw_status.PwStatus.{PwStatus}
use Rattle.pw_tlvs.specs.Fec.{no_params}
use Rattle.ldp_grammar.specs.declared.message.Message.{Message}
use Rattle.ldp_grammar.specs.declared.message.Message.TheVariants.{Notification, AddressWithdraw, LabelMapping, LabelWithdraw, LabelRelease}
use Rattle.ldp_grammar.specs.declared.status_code.StatusCode.{StatusCode}
use Rattle.pw_signalling.specs.declared.binding.Binding.{Binding}
use Rattle.pw_signalling.specs.declared.told.Told.{Told}

-- ---- PWid FEC elements

-- the interface parameters of a content
abbrev pub params_of : Told → IfParams
params_of told = record { mtu = told.mtu; description = told.description; vlan = told.vlan; vccv = told.vccv }

-- the FEC of a Label Mapping
abbrev pub fec_of : ℕ → Told → PwFec
fec_of pw_id told = record { c = told.c; kind = told.kind; group = told.group; pw_id = Some pw_id; params = params_of told }

-- the FEC of every other message about an end: what the end has told, without parameters
abbrev pub bare_fec_of : ℕ → Told → PwFec
bare_fec_of pw_id told = record { c = told.c; kind = told.kind; group = told.group; pw_id = Some pw_id; params = no_params }

-- a FEC that came, without its parameters
abbrev pub bare : PwFec → PwFec
bare fec = record fec { params = no_params }

-- ---- what a Label Mapping tells

-- the content that a Label Mapping tells by its FEC, its status and its points
abbrev pub told_with : PwFec → Option PwStatus → List Point → Told
told_with fec status points = record {
  c = fec.c;
  kind = fec.kind;
  group = fec.group;
  mtu = fec.params.mtu;
  vlan = fec.params.vlan;
  vccv = fec.params.vccv;
  description = fec.params.description;
  status = status;
  points = points;
}

-- the binding that a Label Mapping tells
abbrev pub binding_in : PwFec → ℕ → Option PwStatus → List Point → Binding
binding_in fec label status points = record { label = label; told = told_with fec status points }

-- ---- what an offer tells

-- the PW types (RFC 4446 section 3.2)
abbrev pub ethernet_tagged : ℕ
ethernet_tagged = 0x0004

abbrev pub ethernet_raw : ℕ
ethernet_raw = 0x0005

-- the connectivity verification type of an ICMP ping (RFC 5085 section 5.3.1)
abbrev pub icmp_ping : ℕ
icmp_ping = 0x01

-- the content of an offer, with a status or without one
abbrev pub content_of : Offer → Option PwStatus → Told
content_of offer status = record {
  c = offer.cword;
  kind = if offer.tagged then ethernet_tagged else ethernet_raw;
  group = offer.group;
  mtu = offer.mtu;
  vlan = offer.vlan;
  vccv = option_map (λ channels. (channels, icmp_ping)) offer.vccv;
  description = offer.description;
  status = status;
  points = [];
}

-- ---- messages, by their Message ID

-- the Label Mapping of a content
abbrev pub mapping : ℕ → ℕ → Told → ℕ → Message
mapping pw_id label told id = LabelMapping id (fec_of pw_id told) label told.status told.points

-- the Label Withdraw of it, whose FEC has no parameters
abbrev pub withdrawal : ℕ → ℕ → Told → ℕ → Message
withdrawal pw_id label told id = LabelWithdraw id (bare_fec_of pw_id told) (Some label)

-- a release of what came with this FEC and label
abbrev pub release : PwFec → Option ℕ → ℕ → Message
release fec label id = LabelRelease id (bare fec) label

-- the status data of a Notification that tells the status of a pseudowire (RFC 8077 section 6.3.2)
abbrev pub pw_status_code : ℕ
pw_status_code = 0x28

abbrev pub pw_status_notice : StatusCode
pw_status_notice = record { fatal = Bool.false; forward = Bool.false; code = pw_status_code; message = 0; kind = 0 }

-- the Notification of a new status
abbrev pub status_notification : ℕ → PwStatus → Told → ℕ → Message
status_notification pw_id status told id = Notification id pw_status_notice (Some status) (Some (bare_fec_of pw_id told))

-- a MAC withdraw of these addresses, where none are named of all that were learned elsewhere (RFC 4762 section 6.2)
abbrev pub mac_withdrawal : ℕ → List Mac → Told → ℕ → Message
mac_withdrawal pw_id addresses told id = AddressWithdraw id None (Some (bare_fec_of pw_id told)) (Some addresses)
