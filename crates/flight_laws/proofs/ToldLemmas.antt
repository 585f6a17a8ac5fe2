-- An edge's own work keeps what its ends tell and hold, and what it says, as the plan has it.
use Rattle.std.proofs.Common.{◌≡◌, ◌<◌, ◌^◌, ◌∙◌, ℕ, true, List, [], Option, Some, None, refl, sym, ap}
use Rattle.std.specs.Prelude.{is_some}
use Rattle.net_base.specs.declared.plan.Plan.{Plan}
use Rattle.net_base.specs.declared.plan.offer.Offer.{Offer}
use Rattle.net_base.specs.declared.plan.places.WireId.{WireId}
use Rattle.net_base.specs.declared.plan.wire_plan.WirePlan.{WirePlan}
use Rattle.net_base.specs.plan.Paths.{Expected, expected, joins, offer_of}
use Rattle.net_values.specs.declared.mac.Mac.{Mac}
use Rattle.net_base.specs.plan.Places.{wire_row}
use Rattle.pw_tlvs.specs.declared.point.Point.{Point}
use Rattle.pw_tlvs.specs.declared.pw_fec.PwFec.{PwFec}
use Rattle.pw_tlvs.specs.declared.pw_status.PwStatus.{PwStatus}
use Rattle.net_values.specs.Label.{IsLabel}
use Rattle.ldp_grammar.specs.Written.{IsState}
use Rattle.ldp_grammar.specs.declared.message.Message.{Message}
use Rattle.ldp_grammar.specs.declared.message.Message.TheVariants.{Notification, AddressWithdraw, LabelMapping, LabelWithdraw, LabelRelease}
use Rattle.pw_signalling.specs.declared.binding.Binding.{Binding}
use Rattle.pw_signalling.specs.declared.told.Told.{Told}
use Rattle.pw_signalling.specs.End.{EndState, LocalPart, Idle, Advertised, Withdrawing}
use Rattle.pw_signalling.specs.Rows.{advertise_part, names, release_part, renew_part, status_part, tell_part, unless_named, with_status, withdraw_part}
use Rattle.session_core.specs.declared.peers.Peers.{Peers}
use Rattle.session_core.specs.declared.reply.Reply.{Reply}
use Rattle.session_core.specs.declared.reply.Reply.TheVariants as reply
use Rattle.session_core.specs.Messages.{message_of}
use Rattle.pw_messages.specs.Content.{bare, bare_fec_of, content_of, mac_withdrawal, mapping, release, status_notification, told_with, withdrawal}
use Rattle.edge_model.specs.State.{EdgeState}
use Rattle.flight_laws.specs.Rules.{FarTells, NamesTold, NearTells, TellsExpected, TellsOfWire, TellsPlan, expected_told}
use Rattle.flight_laws.proofs.NameLemmas.{split}
use Rattle.flight_laws.proofs.TellLemmas.{TellsOwnOffer}

-- ---- messages

-- a FEC without parameters, of a wire of which an edge tells another one, its status among it
pub record NamesStatus (plan : Plan) (from to : ℕ) (fec : PwFec) : Type 0 where
  pub wire : WireId
  pub row : WirePlan
  pub is : wire_row plan wire ≡ Some row
  pub joined : joins from to row.path ≡ true
  pub bare : fec ≡ bare_fec_of row.pw_id (expected_told (expected plan row from to) None)
  pub carries : (expected plan row from to).offer.status ≡ true

pub names_told : (plan : Plan) (from to : ℕ) (fec : PwFec) → NamesStatus plan from to fec → NamesTold plan from to fec
names_told plan from to fec names = record { wire = names.wire; row = names.row; is = names.is; joined = names.joined; bare = names.bare }

-- a message tells what the plan has the two edges tell, and a status only where the offer has one
abbrev pub TellsFirm : Plan → ℕ → ℕ → Message → Type 0
TellsFirm plan from to (LabelMapping id fec label status points) = TellsOfWire plan from to fec (told_with fec status points)
TellsFirm plan from to (LabelWithdraw id fec label) = NamesTold plan from to fec
TellsFirm plan from to (LabelRelease id fec label) = NamesTold plan to from fec
TellsFirm plan from to (Notification id code status (Some fec)) = NamesStatus plan from to fec
TellsFirm plan from to (AddressWithdraw id addresses (Some fec) macs) = NamesTold plan from to fec
TellsFirm plan from to message = Unit {0}

pub tells_plan : (plan : Plan) (from to : ℕ) (m : Message) → TellsFirm plan from to m → TellsPlan plan from to m
tells_plan plan from to (LabelMapping id fec label status points) tells = tells
tells_plan plan from to (LabelWithdraw id fec label) tells = tells
tells_plan plan from to (LabelRelease id fec label) tells = tells
tells_plan plan from to (Notification id code status (Some fec)) tells = names_told plan from to fec tells
tells_plan plan from to (Notification id code status None) tells = tt
tells_plan plan from to (AddressWithdraw id addresses (Some fec) macs) tells = tells
tells_plan plan from to (AddressWithdraw id addresses None macs) tells = tt
tells_plan plan from to m tells = tt

-- what a session says of itself tells of no pseudowire
pub reply_tells : (plan : Plan) (from to : ℕ) (r : Reply) (id : ℕ) (ends : Peers) → TellsFirm plan from to (message_of r id ends)
reply_tells plan from to reply.Init id ends = tt
reply_tells plan from to reply.KeepAlive id ends = tt
reply_tells plan from to (reply.Notice status) id ends = tt

-- ---- a terminal edge's offer

offer_told : (e : Expected) (offer : Offer) (status : Option PwStatus) → e.offer ≡ offer → e.points ≡ [] → content_of offer status ≡ expected_told e status
offer_told e offer status is none = rw (is, none) refl

pub offer_tells : (plan : Plan) (row : WirePlan) (from to : ℕ) (status : Option PwStatus) → TellsOwnOffer plan row from to → is_some status ≡ (offer_of row from).status
    → TellsExpected plan row from to (content_of (offer_of row from) status)
offer_tells plan row from to status own carries = record {
  content = offer_told (expected plan row from to) (offer_of row from) status own.offer own.points;
  carries = carries ∙ ap (λ (offer : Offer). offer.status) (sym own.offer);
}

-- another status where there is one
with_status_told : (e : Expected) (status : PwStatus) (told : Told) → told ≡ expected_told e told.status → with_status status told ≡ expected_told e (Some status)
with_status_told e status told is = ap (λ (t : Told). with_status status t) is

pub status_tells : (plan : Plan) (row : WirePlan) (from to : ℕ) (status : PwStatus) (told : Told) → TellsExpected plan row from to told → (expected plan row from to).offer.status ≡ true
    → TellsExpected plan row from to (with_status status told)
status_tells plan row from to status told tells carries = record {
  content = with_status_told (expected plan row from to) status told tells.content;
  carries = sym carries;
}

pub has_status : (plan : Plan) (row : WirePlan) (from to : ℕ) (told : Told) (status : PwStatus) → TellsExpected plan row from to told → told.status ≡ Some status
    → (expected plan row from to).offer.status ≡ true
has_status plan row from to told status tells is = sym tells.carries ∙ ap (λ (s : Option PwStatus). is_some s) is

-- ---- what is said

bare_of : (e : Expected) (pw_id : ℕ) (told : Told) → told ≡ expected_told e told.status → bare_fec_of pw_id told ≡ bare_fec_of pw_id (expected_told e None)
bare_of e pw_id told is = ap (λ (t : Told). bare_fec_of pw_id t) is

pub mapping_tells : (plan : Plan) (wire : WireId) (row : WirePlan) (from to pw_id label id : ℕ) (told : Told) → wire_row plan wire ≡ Some row → joins from to row.path ≡ true → pw_id ≡ row.pw_id
    → TellsExpected plan row from to told → TellsFirm plan from to (mapping pw_id label told id)
mapping_tells plan wire row from to pw_id label id told is joined same tells = record { wire = wire; row = row; is = is; joined = joined; named = ap (λ (n : ℕ). Some n) same; tells = tells }

bare_named : (plan : Plan) (row : WirePlan) (from to pw_id : ℕ) (told : Told) → pw_id ≡ row.pw_id → TellsExpected plan row from to told → bare_fec_of pw_id told
    ≡ bare_fec_of row.pw_id (expected_told (expected plan row from to) None)
bare_named plan row from to pw_id told same tells = ap (λ (n : ℕ). bare_fec_of n told) same ∙ bare_of (expected plan row from to) row.pw_id told tells.content

pub withdrawal_tells : (plan : Plan) (wire : WireId) (row : WirePlan) (from to pw_id label id : ℕ) (told : Told) → wire_row plan wire ≡ Some row → joins from to row.path ≡ true → pw_id ≡ row.pw_id
    → TellsExpected plan row from to told → TellsFirm plan from to (withdrawal pw_id label told id)
withdrawal_tells plan wire row from to pw_id label id told is joined same tells = record { wire = wire; row = row; is = is; joined = joined; bare = bare_named plan row from to pw_id told same tells }

pub notification_tells : (plan : Plan) (wire : WireId) (row : WirePlan) (from to pw_id id : ℕ) (status : PwStatus) (told : Told) → wire_row plan wire ≡ Some row
    → joins from to row.path ≡ true → pw_id ≡ row.pw_id
    → TellsExpected plan row from to told → (expected plan row from to).offer.status ≡ true → TellsFirm plan from to (status_notification pw_id status told id)
notification_tells plan wire row from to pw_id id status told is joined same tells carries =
    record { wire = wire; row = row; is = is; joined = joined; bare = bare_named plan row from to pw_id told same tells; carries = carries }

pub clearance_tells : (plan : Plan) (wire : WireId) (row : WirePlan) (from to pw_id id : ℕ) (addresses : List Mac) (told : Told) → wire_row plan wire ≡ Some row
    → joins from to row.path ≡ true → pw_id ≡ row.pw_id
    → TellsExpected plan row from to told → TellsFirm plan from to (mac_withdrawal pw_id addresses told id)
clearance_tells plan wire row from to pw_id id addresses told is joined same tells =
    record { wire = wire; row = row; is = is; joined = joined; bare = bare_named plan row from to pw_id told same tells }

-- a release tells what the message told that it answers
bare_in : (e : Expected) (fec : PwFec) (status : Option PwStatus) (points : List Point) (pw_id : ℕ) → fec.pw_id ≡ Some pw_id → told_with fec status points ≡ expected_told e status → bare fec
    ≡ bare_fec_of pw_id (expected_told e None)
bare_in e fec status points pw_id named is = bare_again fec status points pw_id named ∙ ap (λ (t : Told). bare_fec_of pw_id t) is
  where
    bare_again : (fec : PwFec) (status : Option PwStatus) (points : List Point) (pw_id : ℕ) → fec.pw_id ≡ Some pw_id → bare fec ≡ bare_fec_of pw_id (told_with fec status points)
    bare_again fec status points pw_id named = rw named refl

pub release_of_mapping_tells : (plan : Plan) (from to id : ℕ) (fec : PwFec) (label : Option ℕ) (status : Option PwStatus) (points : List Point)
    → TellsOfWire plan from to fec (told_with fec status points)
    → TellsFirm plan to from (release fec label id)
release_of_mapping_tells plan from to id fec label status points tells = record {
  wire = tells.wire;
  row = tells.row;
  is = tells.is;
  joined = tells.joined;
  bare = bare_in (expected plan tells.row from to) fec status points tells.row.pw_id tells.named tells.tells.content;
}

pub release_of_withdrawal_tells : (plan : Plan) (from to id : ℕ) (fec : PwFec) (label : Option ℕ) → NamesTold plan from to fec → TellsFirm plan to from (release fec label id)
release_of_withdrawal_tells plan from to id fec label names = record {
  wire = names.wire;
  row = names.row;
  is = names.is;
  joined = names.joined;
  bare = ap (λ (f : PwFec). bare f) names.bare;
}

-- ---- the ends of an edge

-- a label that is held is one, and so is a status
abbrev pub HeldFits : Option Binding → Type 0
HeldFits None = Unit {0}
HeldFits (Some binding) = IsLabel binding.label × IsState binding.told.status

-- what one end tells and holds, where its wire joins the two edges, and a label and a status that can be told
pub record TellsAt (plan : Plan) (me wire peer : ℕ) (end : EndState) : Type 0 where
  pub near : (row : WirePlan) → wire_row plan (record { 0 = wire }) ≡ Some row → joins me peer row.path ≡ true → NearTells plan row me peer end.local
  pub far : (row : WirePlan) → wire_row plan (record { 0 = wire }) ≡ Some row → joins peer me row.path ≡ true → FarTells plan row peer me end.remote
  pub held : HeldFits end.remote

-- each end of an edge
abbrev pub TellsOwn : Plan → ℕ → EdgeState → Type 0
TellsOwn plan me edge = (wire peer : ℕ) → TellsAt plan me wire peer (edge.ends wire peer)

pub fresh_tells : (plan : Plan) (me wire peer : ℕ) → TellsAt plan me wire peer Rattle.pw_signalling.specs.End.fresh
fresh_tells plan me wire peer = record { near = λ row is joined. tt; far = λ row is joined. tt; held = tt }

-- another local part
pub local_tells : (plan : Plan) (me wire peer : ℕ) (end : EndState) (local : LocalPart)
    → ((row : WirePlan) → wire_row plan (record { 0 = wire }) ≡ Some row → joins me peer row.path ≡ true → NearTells plan row me peer end.local → NearTells plan row me peer local)
    → TellsAt plan me wire peer end → TellsAt plan me wire peer (record { local = local; remote = end.remote })
local_tells plan me wire peer end local keeps tells =
    record { near = λ row is joined. keeps row is joined (tells.near row is joined); far = λ row is joined. tells.far row is joined; held = tells.held }

-- another remote part
pub remote_tells : (plan : Plan) (me wire peer : ℕ) (end : EndState) (remote : Option Binding)
    → ((row : WirePlan) → wire_row plan (record { 0 = wire }) ≡ Some row → joins peer me row.path ≡ true → FarTells plan row peer me end.remote → FarTells plan row peer me remote)
    → HeldFits remote → TellsAt plan me wire peer end → TellsAt plan me wire peer (record { local = end.local; remote = remote })
remote_tells plan me wire peer end remote keeps held tells =
    record { near = λ row is joined. tells.near row is joined; far = λ row is joined. keeps row is joined (tells.far row is joined); held = held }

pub near_withdrawn : (plan : Plan) (row : WirePlan) (from to : ℕ) (local : LocalPart) → NearTells plan row from to local → NearTells plan row from to (withdraw_part local)
near_withdrawn plan row from to (Idle declined) tells = tt
near_withdrawn plan row from to (Advertised label told) tells = tt
near_withdrawn plan row from to (Withdrawing label) tells = tt

pub near_renewed : (plan : Plan) (row : WirePlan) (from to : ℕ) (local : LocalPart) → NearTells plan row from to local → NearTells plan row from to (renew_part local)
near_renewed plan row from to (Idle declined) tells = tt
near_renewed plan row from to (Advertised label told) tells = tells
near_renewed plan row from to (Withdrawing label) tells = tt

pub near_released : (plan : Plan) (row : WirePlan) (from to : ℕ) (given : Option ℕ) (local : LocalPart) → NearTells plan row from to local → NearTells plan row from to (release_part given local)
near_released plan row from to given (Idle declined) tells = tt
near_released plan row from to given (Advertised own told) tells = split {P = NearTells plan row from to (release_part given (Advertised own told))} (names given own) (λ b. rw b tt) (λ b. rw b tells)
near_released plan row from to given (Withdrawing own) tells = split {P = NearTells plan row from to (release_part given (Withdrawing own))} (names given own) (λ b. rw b tt) (λ b. rw b tt)

pub near_advertised : (plan : Plan) (row : WirePlan) (from to label : ℕ) (told : Told) (local : LocalPart) → TellsExpected plan row from to told → NearTells plan row from to local
    → NearTells plan row from to (advertise_part label told local)
near_advertised plan row from to label told (Idle declined) new tells = new
near_advertised plan row from to label told (Advertised own old) new tells = tells
near_advertised plan row from to label told (Withdrawing own) new tells = tells

pub near_told : (plan : Plan) (row : WirePlan) (from to : ℕ) (status : PwStatus) (local : LocalPart) → (expected plan row from to).offer.status ≡ true
    → NearTells plan row from to local → NearTells plan row from to (tell_part status local)
near_told plan row from to status (Idle declined) carries tells = tt
near_told plan row from to status (Advertised own told) carries tells = status_tells plan row from to status told tells carries
near_told plan row from to status (Withdrawing own) carries tells = tt

pub far_unless : (plan : Plan) (row : WirePlan) (from to : ℕ) (label : Option ℕ) (held : Option Binding) → FarTells plan row from to held → FarTells plan row from to (unless_named label held)
far_unless plan row from to label None tells = tt
far_unless plan row from to label (Some binding) tells = split {P = FarTells plan row from to (unless_named label (Some binding))} (names label binding.label) (λ b. rw b tt) (λ b. rw b tells)

pub fits_unless : (label : Option ℕ) (held : Option Binding) → HeldFits held → HeldFits (unless_named label held)
fits_unless label None holds = tt
fits_unless label (Some binding) holds = split {P = HeldFits (unless_named label (Some binding))} (names label binding.label) (λ b. rw b tt) (λ b. rw b holds)

pub fits_status : (status : PwStatus) (held : Option Binding) → status.0 < 2 ^ 32 → HeldFits held → HeldFits (status_part status held)
fits_status status None small holds = tt
fits_status status (Some binding) small holds = (holds.0, small)

pub far_status : (plan : Plan) (row : WirePlan) (from to : ℕ) (status : PwStatus) (held : Option Binding) → (expected plan row from to).offer.status ≡ true
    → FarTells plan row from to held → FarTells plan row from to (status_part status held)
far_status plan row from to status None carries tells = tt
far_status plan row from to status (Some binding) carries tells = status_tells plan row from to status binding.told tells carries
