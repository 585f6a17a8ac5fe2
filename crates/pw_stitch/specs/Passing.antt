-- What a switching point passes on from one side to the other: all that it was told there, with its own point added (RFC 6073
-- section 7), and changes of the status by Notifications (RFC 6073 section 10).
use Rattle.std.specs.Prelude.{◌++◌, ℕ, [], ◌∷◌, Option, Some, None}
use Rattle.net_values.specs.declared.addr.Addr.{Addr}
use Rattle.pw_tlvs.specs.declared.point.Point.{Point}
use Rattle.pw_tlvs.specs.declared.pw_status.PwStatus.{PwStatus}
use Rattle.pw_signalling.specs.declared.binding.Binding.{Binding}
use Rattle.pw_signalling.specs.declared.told.Told.{Told}

-- ---- the content

-- the point of a switching point: the PW ID of the segment before it, its own address, and that of the edge from which it has
-- the pseudowire (RFC 6073 section 7.4)
abbrev pub own_point : ℕ → Option Addr → Option Addr → Point
own_point pw_id own far = record { pw_id = Some pw_id; local = own; remote = far }

-- a content behind one switching point more
abbrev pub past_point : Point → Told → Told
past_point point told = record told { points = told.points ++ point ∷ [] }

-- what an end should tell, where this is held on the other side: nothing unless that side is bound
abbrev pub wanted : Point → Option Binding → Option Told
wanted point None = None
wanted point (Some binding) = Some (past_point point binding.told)

-- ---- the status

-- the status 0 tells no fault
abbrev pub clear_status : PwStatus
clear_status = record { 0 = 0 }

-- the status that is told, and without one that of no fault
abbrev pub stated_or_clear : Option PwStatus → PwStatus
stated_or_clear None = clear_status
stated_or_clear (Some status) = status

-- the status that an end tells, where its mapping has one: that of what is held on the other side, or 0 where that has none
abbrev pub passed_status : Option Binding → PwStatus
passed_status None = clear_status
passed_status (Some binding) = stated_or_clear binding.told.status
