-- Whether the standby bit that a peer tells is looked at: by the core edge's end of a spoke alone (RFC 6870, RFC 4762 section 10.2.1).
use Rattle.std.specs.Prelude.{◌≡◌, ◌≢◌, true, Some}
use Rattle.net_base.specs.declared.plan.Plan.{Plan}
use Rattle.net_base.specs.declared.plan.wire_plan.WirePlan.{WirePlan}
use Rattle.net_base.specs.plan.Places.{is_mesh_class, wire_row}
use Rattle.pw_tlvs.specs.declared.pw_status.PwStatus.{PwStatus}
use Rattle.pw_signalling.specs.declared.end_role.EndRole.TheVariants as role
use Rattle.pw_signalling.specs.Laws.{AreSameButStandby}
use Rattle.pw_signalling.specs.Rows.{stated}
use Rattle.edge_model.specs.declared.end_place.EndPlace.{EndPlace}
use Rattle.edge_model.specs.Role.{down_at, role_at}
use Rattle.edge_model.specs.State.{EdgeState, end_at, with_end}

-- the edge, whose peer has told this status of the pseudowire of an end
abbrev pub told_status : EndPlace → PwStatus → EdgeState → EdgeState
told_status place status edge = with_end place (stated status (end_at edge place)) edge

-- In every state of an edge: why an end does not forward is the same with the standby bit as without it,
pub record SpokesAloneStandBy : Type 0 where
  -- at each end of a mesh wire,
  pub mesh : (plan : Plan) (edge : EdgeState) (place : EndPlace) (row : WirePlan) (first second : PwStatus) → wire_row plan place.wire ≡ Some row → is_mesh_class row.class ≡ true
      → AreSameButStandby first second → down_at plan (told_status place first edge) place ≡ down_at plan (told_status place second edge) place
  -- and at each end but a core edge's end of a spoke
  pub others : (plan : Plan) (edge : EdgeState) (place : EndPlace) (first second : PwStatus) → role_at plan edge place ≢ role.Core
      → AreSameButStandby first second → down_at plan (told_status place first edge) place ≡ down_at plan (told_status place second edge) place
