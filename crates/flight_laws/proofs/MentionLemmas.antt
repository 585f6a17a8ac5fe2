-- Messages and bindings name labels that were given, and go on to do so while the edge that gave them works.
use Rattle.std.proofs.Common.{◌≡◌, ◌++◌, ℕ, List, [], ◌∷◌, Option, Some, None, sym, ap, subst}
use Rattle.std.specs.Option.{option_and_then}
use Rattle.net_base.specs.declared.plan.Plan.{Plan}
use Rattle.net_base.specs.declared.plan.places.EdgeId.{EdgeId}
use Rattle.net_values.specs.declared.mac.Mac.{Mac}
use Rattle.pw_tlvs.specs.declared.point.Point.{Point}
use Rattle.pw_tlvs.specs.declared.pw_fec.PwFec.{PwFec}
use Rattle.pw_tlvs.specs.declared.pw_status.PwStatus.{PwStatus}
use Rattle.ldp_grammar.specs.declared.message.Message.{Message}
use Rattle.ldp_grammar.specs.declared.message.Message.TheVariants.{LabelMapping, LabelWithdraw, LabelRelease}
use Rattle.pw_signalling.specs.declared.binding.Binding.{Binding}
use Rattle.pw_signalling.specs.declared.told.Told.{Told}
use Rattle.pw_signalling.specs.Rows.{group_stated, group_unbound, is_in_group, names, status_part, unless_named}
use Rattle.pw_signalling.specs.End.{EndState}
use Rattle.session_core.specs.declared.peers.Peers.{Peers}
use Rattle.session_core.specs.declared.reply.Reply.{Reply}
use Rattle.session_core.specs.declared.reply.Reply.TheVariants as reply
use Rattle.session_core.specs.Messages.{message_of}
use Rattle.pw_messages.specs.Content.{mac_withdrawal, mapping, release, status_notification, withdrawal}
use Rattle.edge_model.specs.declared.end_place.EndPlace.{EndPlace}
use Rattle.edge_model.specs.EndPlaces.{end_named}
use Rattle.edge_model.specs.Signal.{end_of_fec}
use Rattle.edge_model.specs.State.{EdgeState}
use Rattle.flight_laws.specs.Rules.{AllMessages, BindsGiven, MayName, MayNameAt, NamesFar, NamesOwn}
use Rattle.flight_laws.proofs.NameLemmas.{KeepsNames, split}

-- ---- lists of messages

pub all_more : (P : Message → Type 0) (ms ns : List Message) → AllMessages P ms → AllMessages P ns → AllMessages P (ms ++ ns)
all_more P [] ns one other = other
all_more P (m ∷ ms) ns one other = (one.0, all_more P ms ns one.1 other)

pub all_kept : (P Q : Message → Type 0) (ms : List Message) → ((m : Message) → P m → Q m) → AllMessages P ms → AllMessages Q ms
all_kept P Q [] keeps all = tt
all_kept P Q (m ∷ ms) keeps all = (keeps m all.0, all_kept P Q ms keeps all.1)

-- ---- what is named goes on

-- whatever message or binding may name a label with an end beside a peer may do so still
abbrev pub KeepsMentions : ℕ → EdgeState → EdgeState → Type 0
KeepsMentions peer old new = (wire label : ℕ) → MayName old wire peer label → MayName new wire peer label

pub mentions : (peer : ℕ) (old new : EdgeState) → KeepsNames old new → KeepsMentions peer old new
mentions peer old new keeps wire label may = keeps.names wire peer label None may

may_mentioned : (old new : EdgeState) (peer label : ℕ) (place : Option EndPlace) → KeepsMentions peer old new → MayNameAt old peer place label → MayNameAt new peer place label
may_mentioned old new peer label None keeps may = may
may_mentioned old new peer label (Some place) keeps may = keeps place.wire.0 label may

-- the end that a FEC names at an edge that stays at its place
named_kept : (plan : Plan) (old new : EdgeState) (peer label : ℕ) (fec : PwFec) → new.me ≡ old.me → KeepsMentions peer old new
    → MayNameAt old peer (end_of_fec plan old (record { 0 = peer }) fec) label → MayNameAt new peer (end_of_fec plan new (record { 0 = peer }) fec) label
named_kept plan old new peer label fec same keeps may =
    subst (λ (place : Option EndPlace). MayNameAt new peer place label) (ap (λ (k : EdgeId). option_and_then (end_named plan k (record { 0 = peer })) fec.pw_id) (sym same))
    (may_mentioned old new peer label (end_of_fec plan old (record { 0 = peer }) fec) keeps may)

pub own_mentioned : (plan : Plan) (old new : EdgeState) (peer : ℕ) (m : Message) → new.me ≡ old.me → KeepsMentions peer old new → NamesOwn plan old peer m → NamesOwn plan new peer m
own_mentioned plan old new peer (LabelMapping id fec label status points) same keeps may = named_kept plan old new peer label fec same keeps may
own_mentioned plan old new peer (LabelWithdraw id fec (Some label)) same keeps may = named_kept plan old new peer label fec same keeps may
own_mentioned plan old new peer (LabelWithdraw id fec None) same keeps may = tt
own_mentioned plan old new peer m same keeps may = tt

pub own_kept : (plan : Plan) (old new : EdgeState) (peer : ℕ) (m : Message) → new.me ≡ old.me → KeepsNames old new → NamesOwn plan old peer m → NamesOwn plan new peer m
own_kept plan old new peer m same keeps may = own_mentioned plan old new peer m same (mentions peer old new keeps) may

pub far_mentioned : (plan : Plan) (old new : EdgeState) (peer : ℕ) (m : Message) → new.me ≡ old.me → KeepsMentions peer old new → NamesFar plan old peer m → NamesFar plan new peer m
far_mentioned plan old new peer (LabelRelease id fec (Some label)) same keeps may = named_kept plan old new peer label fec same keeps may
far_mentioned plan old new peer (LabelRelease id fec None) same keeps may = tt
far_mentioned plan old new peer m same keeps may = tt

pub far_kept : (plan : Plan) (old new : EdgeState) (peer : ℕ) (m : Message) → new.me ≡ old.me → KeepsNames old new → NamesFar plan old peer m → NamesFar plan new peer m
far_kept plan old new peer m same keeps may = far_mentioned plan old new peer m same (mentions peer old new keeps) may

pub binds_mentioned : (old new : EdgeState) (wire peer : ℕ) (held : Option Binding) → KeepsMentions peer old new → BindsGiven old wire peer held → BindsGiven new wire peer held
binds_mentioned old new wire peer None keeps given = tt
binds_mentioned old new wire peer (Some binding) keeps given = keeps wire binding.label given

pub binds_kept : (old new : EdgeState) (wire peer : ℕ) (held : Option Binding) → KeepsNames old new → BindsGiven old wire peer held → BindsGiven new wire peer held
binds_kept old new wire peer held keeps given = binds_mentioned old new wire peer held (mentions peer old new keeps) given

-- ---- what an edge says

-- a mapping, and a withdrawal, of a label that may be named with the end that the peer and the PW ID name
pub mapping_names : (plan : Plan) (edge : EdgeState) (peer : ℕ) (place : EndPlace) (pw_id label : ℕ) (told : Told) (id : ℕ) → end_named plan edge.me (record { 0 = peer }) pw_id ≡ Some place
    → MayName edge place.wire.0 peer label → NamesOwn plan edge peer (mapping pw_id label told id)
mapping_names plan edge peer place pw_id label told id named may = rw named may

pub withdrawal_names : (plan : Plan) (edge : EdgeState) (peer : ℕ) (place : EndPlace) (pw_id label : ℕ) (told : Told) (id : ℕ) → end_named plan edge.me (record { 0 = peer }) pw_id ≡ Some place
    → MayName edge place.wire.0 peer label → NamesOwn plan edge peer (withdrawal pw_id label told id)
withdrawal_names plan edge peer place pw_id label told id named may = rw named may

-- they name no label of the peer, and a status, a MAC withdraw and a release name none of the edge's own
pub mapping_far : (plan : Plan) (far : EdgeState) (me pw_id label : ℕ) (told : Told) (id : ℕ) → NamesFar plan far me (mapping pw_id label told id)
mapping_far plan far me pw_id label told id = tt

pub withdrawal_far : (plan : Plan) (far : EdgeState) (me pw_id label : ℕ) (told : Told) (id : ℕ) → NamesFar plan far me (withdrawal pw_id label told id)
withdrawal_far plan far me pw_id label told id = tt

pub status_own : (plan : Plan) (edge : EdgeState) (peer pw_id : ℕ) (status : PwStatus) (told : Told) (id : ℕ) → NamesOwn plan edge peer (status_notification pw_id status told id)
status_own plan edge peer pw_id status told id = tt

pub status_far : (plan : Plan) (far : EdgeState) (me pw_id : ℕ) (status : PwStatus) (told : Told) (id : ℕ) → NamesFar plan far me (status_notification pw_id status told id)
status_far plan far me pw_id status told id = tt

pub clearance_own : (plan : Plan) (edge : EdgeState) (peer pw_id : ℕ) (addresses : List Mac) (told : Told) (id : ℕ) → NamesOwn plan edge peer (mac_withdrawal pw_id addresses told id)
clearance_own plan edge peer pw_id addresses told id = tt

pub clearance_far : (plan : Plan) (far : EdgeState) (me pw_id : ℕ) (addresses : List Mac) (told : Told) (id : ℕ) → NamesFar plan far me (mac_withdrawal pw_id addresses told id)
clearance_far plan far me pw_id addresses told id = tt

pub release_own : (plan : Plan) (edge : EdgeState) (peer : ℕ) (fec : PwFec) (label : Option ℕ) (id : ℕ) → NamesOwn plan edge peer (release fec label id)
release_own plan edge peer fec label id = tt

-- a release names the label of the message that it answers
pub release_of_mapping : (plan : Plan) (far : EdgeState) (me : ℕ) (heard : ℕ) (fec : PwFec) (label : ℕ) (status : Option PwStatus) (points : List Point) (id : ℕ)
    → NamesOwn plan far me (LabelMapping heard fec label status points) → NamesFar plan far me (release fec (Some label) id)
release_of_mapping plan far me heard fec label status points id may = may

pub release_of_withdrawal : (plan : Plan) (far : EdgeState) (me : ℕ) (heard : ℕ) (fec : PwFec) (label : Option ℕ) (id : ℕ) → NamesOwn plan far me (LabelWithdraw heard fec label)
    → NamesFar plan far me (release fec label id)
release_of_withdrawal plan far me heard fec None id may = tt
release_of_withdrawal plan far me heard fec (Some label) id may = may

-- what a session says of itself names no label
pub reply_own : (plan : Plan) (edge : EdgeState) (peer : ℕ) (r : Reply) (id : ℕ) (ends : Peers) → NamesOwn plan edge peer (message_of r id ends)
reply_own plan edge peer reply.Init id ends = tt
reply_own plan edge peer reply.KeepAlive id ends = tt
reply_own plan edge peer (reply.Notice status) id ends = tt

pub reply_far : (plan : Plan) (far : EdgeState) (me : ℕ) (r : Reply) (id : ℕ) (ends : Peers) → NamesFar plan far me (message_of r id ends)
reply_far plan far me reply.Init id ends = tt
reply_far plan far me reply.KeepAlive id ends = tt
reply_far plan far me (reply.Notice status) id ends = tt

-- ---- what is held of a peer

pub binds_unless : (far : EdgeState) (wire me : ℕ) (label : Option ℕ) (held : Option Binding) → BindsGiven far wire me held → BindsGiven far wire me (unless_named label held)
binds_unless far wire me label None given = tt
binds_unless far wire me label (Some binding) given = split {P = BindsGiven far wire me (unless_named label (Some binding))} (names label binding.label) (λ b. rw b tt) (λ b. rw b given)

pub binds_status : (far : EdgeState) (wire me : ℕ) (status : PwStatus) (held : Option Binding) → BindsGiven far wire me held → BindsGiven far wire me (status_part status held)
binds_status far wire me status None given = tt
binds_status far wire me status (Some binding) given = given

pub binds_group_unbound : (far : EdgeState) (wire me group : ℕ) (end : EndState) → BindsGiven far wire me end.remote → BindsGiven far wire me (group_unbound group end).remote
binds_group_unbound far wire me group end given =
    split {P = BindsGiven far wire me (group_unbound group end).remote} (is_in_group group end.remote) (λ b. rw b (binds_unless far wire me None end.remote given)) (λ b. rw b given)

pub binds_group_stated : (far : EdgeState) (wire me group : ℕ) (status : PwStatus) (end : EndState) → BindsGiven far wire me end.remote → BindsGiven far wire me (group_stated group status end).remote
binds_group_stated far wire me group status end given =
    split {P = BindsGiven far wire me (group_stated group status end).remote} (is_in_group group end.remote) (λ b. rw b (binds_status far wire me status end.remote given)) (λ b. rw b given)
