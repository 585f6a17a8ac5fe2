-- What an end calls its pseudowire, and what becomes of that (RFC 6870 sections 4 and 5).
use Rattle.std.specs.Prelude.{◌&&◌, ◌||◌, not, Bool, true, false, if◌then◌else◌}
use Rattle.pw_tlvs.specs.declared.pw_status.PwStatus.{PwStatus}
use Rattle.pw_status.specs.Status.{is_set, is_standby}
use Rattle.status_exchange.specs.declared.wish.Wish.{Wish}
use Rattle.status_exchange.specs.declared.wish.Wish.TheVariants.{Active, Standby, Ask}

-- the status by which it is told
abbrev pub status_of : Wish → PwStatus
status_of Active = record { 0 = 0 }
status_of Standby = record { 0 = 0x20 }
status_of Ask = record { 0 = 0x40 }

-- the status asks for a switchover: 0x40 (RFC 6870 section 5)
abbrev pub asks_switchover : PwStatus → Bool
asks_switchover status = is_set status 6

-- the end asks for a switchover
abbrev pub is_ask : Wish → Bool
is_ask Ask = true
is_ask wish = false

-- the end calls the wire active: its status is without 0x20
abbrev pub is_wished_active : Wish → Bool
is_wished_active Standby = false
is_wished_active wish = true

-- both are one
abbrev pub is_same_wish : Wish → Wish → Bool
is_same_wish Active Active = true
is_same_wish Standby Standby = true
is_same_wish Ask Ask = true
is_same_wish a b = false

-- ---- what the end does once it has heard a status

-- where the other end asks for a switchover, an end that stands by is active
abbrev pub yields : PwStatus → Wish → Wish
yields status wish = if asks_switchover status && not (is_wished_active wish) then Active else wish

-- where the other end does not stand by, an end that asks is active, and asks no more
abbrev pub rests_active : PwStatus → Wish → Wish
rests_active status wish = if not (is_standby status) && is_ask wish then Active else wish

-- what an end calls a wire once it has heard this status of the other end
abbrev pub becomes : PwStatus → Wish → Wish
becomes status wish = rests_active status (yields status wish)

-- what it then calls the wire is told where it was asked, and where that has changed
abbrev pub is_status_told : PwStatus → Wish → Bool
is_status_told status wish = asks_switchover status || not (is_same_wish (becomes status wish) wish)
