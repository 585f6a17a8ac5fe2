-- What a call makes of an end: one definition a call, for all states. What a definition does not name stays.
use Rattle.std.specs.Prelude.{◌==◌, ℕ, Bool, true, false, Option, Some, None, if◌then◌else◌}
use Rattle.pw_tlvs.specs.declared.pw_status.PwStatus.{PwStatus}
use Rattle.pw_signalling.specs.declared.binding.Binding.{Binding}
use Rattle.pw_signalling.specs.declared.told.Told.{Told}
use Rattle.pw_signalling.specs.End.{EndState, LocalPart, Idle, Advertised, Withdrawing, fresh}

-- ---- what the end does

-- advertise: an idle end advertises a label with its content
abbrev pub advertise_part : ℕ → Told → LocalPart → LocalPart
advertise_part label told (Idle declined) = Advertised label told
advertise_part label told local = local

-- what the calls make of the end's own part they make of the end: here a Label Mapping is put (RFC 5036 section 3.5.7)
abbrev pub advertised : ℕ → Told → EndState → EndState
advertised label told e = record { local = advertise_part label told e.local; remote = e.remote }

-- the content with this status
abbrev pub with_status : PwStatus → Told → Told
with_status status told = record told { status = Some status }

-- tell: the told status becomes this one
abbrev pub tell_part : PwStatus → LocalPart → LocalPart
tell_part status (Advertised label told) = Advertised label (with_status status told)
tell_part status local = local

-- a Notification with the status is put (RFC 8077 section 6.3.2)
abbrev pub telling : PwStatus → EndState → EndState
telling status e = record { local = tell_part status e.local; remote = e.remote }

-- withdraw: an end that advertises withdraws its label, and waits for the peer's release (RFC 5036 section 3.5.10)
abbrev pub withdraw_part : LocalPart → LocalPart
withdraw_part (Advertised label told) = Withdrawing label
withdraw_part local = local

-- a Label Withdraw is put
abbrev pub withdrawn : EndState → EndState
withdrawn e = record { local = withdraw_part e.local; remote = e.remote }

-- renew: an idle end is no longer declined
abbrev pub renew_part : LocalPart → LocalPart
renew_part (Idle declined) = Idle false
renew_part local = local

-- the end may advertise again
abbrev pub renewed : EndState → EndState
renewed e = record { local = renew_part e.local; remote = e.remote }

-- lost: nothing was told by either side
abbrev pub lost : EndState → EndState
lost e = fresh

-- ---- what comes from the peer

-- another remote part
abbrev pub with_remote_part : Option Binding → EndState → EndState
with_remote_part remote e = record { local = e.local; remote = remote }

-- a Label Mapping: its binding replaces the one that was held (RFC 5036 section 3.5.7)
abbrev pub bound : Binding → EndState → EndState
bound binding e = with_remote_part (Some binding) e

-- a message with this label, or with none, is about the label
abbrev pub names : Option ℕ → ℕ → Bool
names None own = true
names (Some label) own = label == own

-- a Label Withdraw: the binding goes where the label is absent or its own (RFC 5036 section 3.5.10)
abbrev pub unless_named : Option ℕ → Option Binding → Option Binding
unless_named label None = None
unless_named label (Some binding) = if names label binding.label then None else Some binding

-- the end without the binding that the label names
abbrev pub unbound : Option ℕ → EndState → EndState
unbound label e = with_remote_part (unless_named label e.remote) e

-- a Label Release of the own label, or without a label: what was withdrawn is released, and what is advertised is declined
-- (RFC 5036 section 3.5.11); of another label it changes nothing
abbrev pub release_part : Option ℕ → LocalPart → LocalPart
release_part label (Idle declined) = Idle declined
release_part label (Advertised own told) = if names label own then Idle true else Advertised own told
release_part label (Withdrawing own) = if names label own then Idle false else Withdrawing own

-- the end whose label is released
abbrev pub released : Option ℕ → EndState → EndState
released label e = record { local = release_part label e.local; remote = e.remote }

-- the binding with this status
abbrev pub binding_with_status : PwStatus → Binding → Binding
binding_with_status status binding = record { label = binding.label; told = with_status status binding.told }

-- a status: it is that of the binding, where one is held (RFC 8077 section 6.3.2)
abbrev pub status_part : PwStatus → Option Binding → Option Binding
status_part status None = None
status_part status (Some binding) = Some (binding_with_status status binding)

-- the end with this status of the peer
abbrev pub stated : PwStatus → EndState → EndState
stated status e = with_remote_part (status_part status e.remote) e

-- there is a binding of the group
abbrev pub is_in_group : ℕ → Option Binding → Bool
is_in_group group None = false
is_in_group group (Some binding) = binding.told.group == group

-- a Label Withdraw of a whole group, and below it a status of one: the same as without a group, where the binding is of the group (RFC 8077
-- section 6.5)
abbrev pub group_unbound : ℕ → EndState → EndState
group_unbound group e = if is_in_group group e.remote then unbound None e else e

-- a status of a whole group
abbrev pub group_stated : ℕ → PwStatus → EndState → EndState
group_stated group status e = if is_in_group group e.remote then stated status e else e
