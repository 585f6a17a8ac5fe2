-- What an end holds of its peer once it has heard the messages on their way, and what the peer advertises.
use Rattle.std.specs.Prelude.{◌==◌, not, ℕ, Bool, true, false, List, [], ◌∷◌, Option, Some, None, if◌then◌else◌}
use Rattle.pw_tlvs.specs.declared.pw_fec.PwFec.{PwFec}
use Rattle.pw_tlvs.specs.declared.pw_status.PwStatus.{PwStatus}
use Rattle.ldp_grammar.specs.declared.message.Message.{Message}
use Rattle.ldp_grammar.specs.declared.message.Message.TheVariants.{Notification, LabelMapping, LabelWithdraw}
use Rattle.ldp_grammar.specs.declared.status_code.StatusCode.{StatusCode}
use Rattle.pw_signalling.specs.declared.binding.Binding.{Binding}
use Rattle.pw_signalling.specs.End.{LocalPart, Idle, Advertised, Withdrawing}
use Rattle.pw_signalling.specs.Rows.{is_in_group, status_part, unless_named}
use Rattle.pw_messages.specs.Content.{binding_in, pw_status_code}

-- what becomes of the binding that is held of the wire with this PW ID, where a FEC names the wire, or without a PW ID the
-- binding's group
abbrev pub where_named : ℕ → PwFec → Option ℕ → (named grouped held : Option Binding) → Option Binding
where_named pw_id fec None named grouped held = if is_in_group fec.group held then grouped else held
where_named pw_id fec (Some other) named grouped held = if other == pw_id then named else held

-- the binding after a Notification: the status is that of the pseudowire, where one is told with a FEC that names it
abbrev pub status_heard : ℕ → StatusCode → Option PwStatus → Option PwFec → Option Binding → Option Binding
status_heard pw_id code (Some status) (Some fec) held =
    if code.code == pw_status_code then where_named pw_id fec fec.pw_id (status_part status held) (status_part status held) held else held
status_heard pw_id code status fec held = held

-- what is held of the wire with this PW ID once a message was heard
abbrev pub heard_of : ℕ → Message → Option Binding → Option Binding
heard_of pw_id (LabelMapping id fec label status points) held = where_named pw_id fec fec.pw_id (Some (binding_in fec label status points)) held held
heard_of pw_id (LabelWithdraw id fec label) held = where_named pw_id fec fec.pw_id (unless_named label held) None held
heard_of pw_id (Notification id code status fec) held = status_heard pw_id code status fec held
heard_of pw_id message held = held

-- once all of them were heard, in order
abbrev pub bound_after : ℕ → List Message → Option Binding → Option Binding
bound_after pw_id [] held = held
bound_after pw_id (message ∷ messages) held = bound_after pw_id messages (heard_of pw_id message held)

-- what an end advertises: its label and its content, or nothing
abbrev pub advertised_by : LocalPart → Option Binding
advertised_by (Idle declined) = None
advertised_by (Advertised label told) = Some (record { label = label; told = told })
advertised_by (Withdrawing label) = None

-- an end that has told nothing
abbrev pub is_idle : LocalPart → Bool
is_idle (Idle declined) = true
is_idle local = false

-- an end that has told nothing, and was not declined
abbrev pub is_unasked : LocalPart → Bool
is_unasked (Idle declined) = not declined
is_unasked local = false

-- an end that waits for the release of its label
abbrev pub is_withdrawing : LocalPart → Bool
is_withdrawing (Withdrawing label) = true
is_withdrawing local = false
