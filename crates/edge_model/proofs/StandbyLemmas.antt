-- Of the standby bit that a peer tells, a core edge's end of a spoke alone takes heed.
use Rattle.std.proofs.Common.{◌≡◌, ◌≢◌, ◌∙◌, Bool, true, Option, Some, cond, sym, ap}
use Rattle.net_base.specs.declared.plan.Plan.{Plan}
use Rattle.net_base.specs.declared.plan.wire_plan.WirePlan.{WirePlan}
use Rattle.net_base.specs.plan.Places.{is_mesh_class, wire_row}
use Rattle.net_base.specs.plan.Paths.{is_last}
use Rattle.pw_tlvs.specs.declared.pw_status.PwStatus.{PwStatus}
use Rattle.pw_signalling.specs.declared.end_role.EndRole.{EndRole}
use Rattle.pw_signalling.specs.declared.end_role.EndRole.TheVariants as role
use Rattle.pw_signalling.specs.Down.{down}
use Rattle.pw_signalling.specs.Laws.{AreSameButStandby}
use Rattle.pw_signalling.specs.Rows.{stated}
use Rattle.pw_signalling.proofs.StandbyLemmas.{heeds_no_standby}
use Rattle.edge_model.specs.declared.end_place.EndPlace.{EndPlace}
use Rattle.edge_model.specs.Role.{down_at, is_chosen, role_at, role_in}
use Rattle.edge_model.specs.StandbyBit.{SpokesAloneStandBy, told_status}
use Rattle.edge_model.specs.State.{EdgeState, end_at, with_end, with_kept}
use Rattle.edge_model.proofs.MendedLemmas.{end_put}

-- why an end does not forward once its peer has told a status
told_down_at : (plan : Plan) (edge : EdgeState) (place : EndPlace) (status : PwStatus)
    → down_at plan (told_status place status edge) place ≡ down (role_at plan edge place) (edge.bits place.wire.0) (stated status (end_at edge place))
unfolding with_end with_kept
told_down_at plan edge place status = ap (down (role_at plan edge place) (edge.bits place.wire.0)) (end_put place (stated status (end_at edge place)) edge)

others : (plan : Plan) (edge : EdgeState) (place : EndPlace) (first second : PwStatus) → role_at plan edge place ≢ role.Core
    → AreSameButStandby first second → down_at plan (told_status place first edge) place ≡ down_at plan (told_status place second edge) place
others plan edge place first second other same =
    told_down_at plan edge place first
    ∙ (heeds_no_standby.others (role_at plan edge place) (edge.bits place.wire.0) (end_at edge place) first second other same
    ∙ sym (told_down_at plan edge place second))

-- an end of a mesh wire
mesh_role : (plan : Plan) (edge : EdgeState) (place : EndPlace) (row : WirePlan) → wire_row plan place.wire ≡ Some row → is_mesh_class row.class ≡ true → role_at plan edge place ≡ role.Mesh
mesh_role plan edge place row is mesh =
    ap (λ (o : Option WirePlan). role_in o edge.me edge.chosen place.wire) is
    ∙ ap (λ (b : Bool). cond b role.Mesh (cond (is_last edge.me.0 row.path) role.Core (cond (is_chosen edge.chosen place.wire row) role.Chosen role.NotChosen))) mesh

pub spokes_alone_stand_by : SpokesAloneStandBy
spokes_alone_stand_by = record {
  mesh = λ plan edge place row first second is mesh same. others plan edge place first second (apart (mesh_role plan edge place row is mesh)) same;
  others = others;
}
  where
    apart : {own : EndRole} → own ≡ role.Mesh → own ≢ role.Core
    apart is core =
        let wrong : role.Mesh ≡ role.Core = sym is ∙ core in
        cc
