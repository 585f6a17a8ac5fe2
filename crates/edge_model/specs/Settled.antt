-- An end that is settled: it tells what it should by now, and what is told of its wire is so (RFC 8077 sections 6 and 6.3). Mending does
-- nothing there.
use Rattle.std.specs.Prelude.{◌≡◌, ◌==◌, ◌||◌, not, is_some, ℕ, Bool, true, Option, Some, None}
use Rattle.net_base.specs.declared.plan.Plan.{Plan}
use Rattle.net_base.specs.declared.plan.wire_plan.WirePlan.{WirePlan}
use Rattle.net_base.specs.plan.Places.{wire_row}
use Rattle.pw_tlvs.specs.declared.pw_status.PwStatus.{PwStatus}
use Rattle.pw_signalling.specs.declared.told.Told.{Told}
use Rattle.pw_signalling.specs.End.{LocalPart, Idle, Advertised, Withdrawing}
use Rattle.edge_model.specs.declared.end_place.EndPlace.{EndPlace}
use Rattle.edge_model.specs.Labels.{label_to_give}
use Rattle.edge_model.specs.Mend.{cause_number, port_of_wire, offer_stands, wish}
use Rattle.edge_model.specs.Role.{down_at, status_to_tell}
use Rattle.edge_model.specs.State.{EdgeState, addresses_of, end_at, without_port}

-- an end that should tell something advertises it, where a label is left and its last one was not declined; one that should tell
-- nothing does not
abbrev pub tells_wish : EndPlace → Option Told → (none_left : Bool) → LocalPart → Bool
tells_wish place wished none_left (Idle declined) = declined || (not (is_some wished) || none_left)
tells_wish place wished none_left (Advertised label content) = offer_stands place content wished
tells_wish place wished none_left (Withdrawing label) = true

-- the end at a place tells what it should by now
abbrev pub is_mended : Plan → EdgeState → EndPlace → Bool
is_mended plan edge place = tells_wish place (wish plan edge place) (not (is_some (label_to_give edge))) (end_at edge place).local

-- the status that it has told, where it has told one, is the one of now
abbrev pub is_status : ℕ → Option PwStatus → Bool
is_status status None = true
is_status status (Some last) = last.0 == status

-- an end that advertises has told this status last, where it has told one
abbrev pub tells_now : ℕ → LocalPart → Bool
tells_now status (Idle declined) = true
tells_now status (Advertised label content) = is_status status content.status
tells_now status (Withdrawing label) = true

-- the end at a place has told its status of now
abbrev pub is_told : Plan → EdgeState → EndPlace → Bool
is_told plan edge place = tells_now (status_to_tell plan edge place).0 (end_at edge place).local

-- and what was told of a terminal end is so
abbrev pub is_down_told : Plan → EdgeState → EndPlace → Bool
is_down_told plan edge place = not place.terminal || cause_number (edge.told_down place.wire.0) == cause_number (down_at plan edge place)

-- the addresses at the port of a terminal end that does not forward are gone
abbrev pub IsForgotten : Plan → EdgeState → EndPlace → Type 0
IsForgotten plan edge place = (row : WirePlan) → place.terminal ≡ true → wire_row plan place.wire ≡ Some row → is_some (down_at plan edge place) ≡ true
    → without_port (port_of_wire plan edge place.wire row) (addresses_of edge row.service) ≡ addresses_of edge row.service

-- all of it is so: what the end tells, its status, what was learned at its wire, and what was told of the wire
pub record IsSettled (plan : Plan) (edge : EdgeState) (place : EndPlace) : Type 0 where
  pub mended : is_mended plan edge place ≡ true
  pub told : is_told plan edge place ≡ true
  pub forgotten : IsForgotten plan edge place
  pub down : is_down_told plan edge place ≡ true
