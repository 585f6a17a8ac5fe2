-- What an edge makes of the messages about pseudowires that it hears in a session that is up: one definition a message (RFC
-- 5036 sections 3.5.7, 3.5.10 and 3.5.11, RFC 8077 sections 6 and 6.3.2).
use Rattle.std.specs.Prelude.{◌==◌, ◌||◌, ℕ, Bool, false, List, Option, Some, None, option_and_then, if◌then◌else◌}
use Rattle.net_values.specs.declared.addr.Addr.{Addr}
use Rattle.net_base.specs.declared.plan.Plan.{Plan}
use Rattle.net_base.specs.declared.plan.places.EdgeId.{EdgeId}
use Rattle.net_base.specs.plan.Paths.{edge_address}
use Rattle.pw_tlvs.specs.declared.point.Point.{Point}
use Rattle.pw_tlvs.specs.declared.pw_fec.PwFec.{PwFec}
use Rattle.pw_tlvs.specs.declared.pw_status.PwStatus.{PwStatus}
use Rattle.ldp_grammar.specs.declared.status_code.StatusCode.{StatusCode}
use Rattle.pw_signalling.specs.declared.binding.Binding.{Binding}
use Rattle.pw_signalling.specs.declared.told.Told.{Told}
use Rattle.pw_signalling.specs.End.{EndState}
use Rattle.pw_signalling.specs.Rows.{bound, group_stated, group_unbound, stated, unbound}
use Rattle.pw_messages.specs.Content.{binding_in, pw_status_code, release}
use Rattle.pw_messages.specs.LinkAnswers.{Answers}
use Rattle.pw_stitch.specs.Accepting.{accepts}
use Rattle.edge_model.specs.declared.end_place.EndPlace.{EndPlace}
use Rattle.edge_model.specs.EndPlaces.{end_named}
use Rattle.edge_model.specs.Labels.{releasing}
use Rattle.edge_model.specs.Session.{says}
use Rattle.edge_model.specs.State.{EdgeState, end_at, with_end, with_ends_beside}
use Rattle.edge_model.specs.Work.{Work, changes}

-- the end that a FEC names, beside the peer that sent it; a FEC without a PW ID names none
abbrev pub end_of_fec : Plan → EdgeState → EdgeId → PwFec → Option EndPlace
end_of_fec plan edge peer fec = option_and_then (end_named plan edge.me peer) fec.pw_id

-- one end is changed, where it is there
abbrev pub with_end_changed : (EndState → EndState) → Option EndPlace → EdgeState → EdgeState
with_end_changed change None edge = edge
with_end_changed change (Some place) edge = with_end place (change (end_at edge place)) edge

-- the end that a FEC names is changed, and each end beside the peer where it names a group
abbrev pub with_named : Plan → EdgeId → PwFec → (one all : EndState → EndState) → Option ℕ → EdgeState → EdgeState
with_named plan peer fec one all None edge = with_ends_beside peer all edge
with_named plan peer fec one all (Some pw_id) edge = with_end_changed one (end_named plan edge.me peer pw_id) edge

-- a release is put, whatever it answers
abbrev pub releases_label : Answers → EdgeId → PwFec → Option ℕ → Work → Work
releases_label told peer fec label work = (says told peer (release fec label) work).work

-- a terminal edge takes whatever it is told, and a switching point what it accepts (RFC 6073 section 7.6)
abbrev pub accepts_at : Option Addr → Told → Bool
accepts_at None content = false
accepts_at (Some own) content = accepts own content

-- the content of a mapping is taken at an end
abbrev pub takes_content : Plan → EdgeId → EndPlace → Told → Bool
takes_content plan me place content = place.terminal || accepts_at (edge_address plan me) content

-- the binding is replaced; that of an end that does not take the new one goes, and the label is released
abbrev pub binds_or_releases : Plan → Answers → EdgeId → PwFec → Binding → EndPlace → Work → Work
binds_or_releases plan told peer fec binding place work =
    if takes_content plan work.edge.me place binding.told
    then changes (with_end_changed (bound binding) (Some place)) work
    else releases_label told peer fec (Some binding.label) (changes (with_end_changed (unbound None) (Some place)) work)

-- Label Mapping: a known pseudowire is bound; the label of an unknown one is released
abbrev pub maps_to : Plan → Answers → EdgeId → PwFec → Binding → Option EndPlace → Work → Work
maps_to plan told peer fec binding None work = releases_label told peer fec (Some binding.label) work
maps_to plan told peer fec binding (Some place) work = binds_or_releases plan told peer fec binding place work

abbrev pub hears_mapping : Plan → Answers → EdgeId → PwFec → ℕ → Option PwStatus → List Point → Work → Work
hears_mapping plan told peer fec label status points work = maps_to plan told peer fec (binding_in fec label status points) (end_of_fec plan work.edge peer fec) work

-- Label Withdraw: the binding goes where the label is absent or its own, or each binding of the peer's group; the label is
-- always released, whether there was a binding or not
abbrev pub hears_withdraw : Plan → Answers → EdgeId → PwFec → Option ℕ → Work → Work
hears_withdraw plan told peer fec label work =
    releases_label told peer fec label (changes (with_named plan peer fec (unbound label) (group_unbound fec.group) fec.pw_id) work)

-- at the end that is named, where there is one
abbrev pub with_released : Option ℕ → Option EndPlace → EdgeState → EdgeState
with_released label None edge = edge
with_released label (Some place) edge = releasing label place edge

-- Label Release of the own label, or without a label: an end that has withdrawn it is idle, and one that advertises it is
-- declined. One of another label, or without a PW ID, changes nothing
abbrev pub hears_release : Plan → EdgeId → PwFec → Option ℕ → Work → Work
hears_release plan peer fec label work = changes (λ edge. with_released label (end_of_fec plan edge peer fec) edge) work

-- a Notification with the status of a pseudowire, or of each one of the peer's group
abbrev pub hears_status : Plan → EdgeId → StatusCode → Option PwStatus → Option PwFec → Work → Work
hears_status plan peer code (Some status) (Some fec) work =
    if code.code == pw_status_code
    then changes (with_named plan peer fec (stated status) (group_stated fec.group status) fec.pw_id) work
    else work
hears_status plan peer code status fec work = work
