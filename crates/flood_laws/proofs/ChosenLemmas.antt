-- A spoke edge's end of a spoke forwards only where the edge has chosen the spoke, so no two spokes of one service do.
use Rattle.std.proofs.Common.{◌≡◌, ◌∙◌, ℕ, Bool, true, false, Option, Some, None, cond, refl, ap, sym, inl, inr}
use Rattle.std.proofs.lemmas.Bool.{cases_Bool, eqb-true}
use Rattle.net_values.proofs.RowLemmas.{none_passes}
use Rattle.net_base.specs.declared.plan.Plan.{Plan}
use Rattle.net_base.specs.declared.plan.wire_plan.WirePlan.{WirePlan}
use Rattle.net_base.specs.declared.plan.places.EdgeId.{EdgeId}
use Rattle.net_base.specs.declared.plan.places.ServiceId.{ServiceId}
use Rattle.net_base.specs.declared.plan.places.WireId.{WireId}
use Rattle.net_base.specs.declared.trace.down.Down.TheVariants as cause
use Rattle.net_base.specs.plan.Paths.{is_last}
use Rattle.net_base.specs.plan.Places.{is_mesh_class, wire_row}
use Rattle.net_base.specs.plan.Roles.{is_wire_of}
use Rattle.pw_signalling.proofs.LawLemmas.{forwards_where_both_agree}
use Rattle.pw_signalling.specs.declared.end_role.EndRole.{EndRole}
use Rattle.pw_signalling.specs.declared.end_role.EndRole.TheVariants as role
use Rattle.pw_signalling.specs.Down.{causes, down, far_told, holds_cause, of_both, own_told}
use Rattle.pw_signalling.specs.End.{EndState}
use Rattle.pw_signalling.specs.Laws.{BothAgree}
use Rattle.edge_model.specs.declared.end_place.EndPlace.{EndPlace}
use Rattle.edge_model.specs.Ends.{end_forwards, forwards_at, wire_end}
use Rattle.edge_model.specs.Role.{down_at, is_chosen, is_chosen_wire, role_at, role_in}
use Rattle.edge_model.specs.State.{EdgeState, end_at}
use Rattle.edge_model.proofs.CopyLemmas.{found_end, up_is_none}

-- an end of a spoke that was not chosen does not forward
pub not_chosen_down : {P : Type 0} (bits : ℕ) (e : EndState) → down role.NotChosen bits e ≡ None → P
unfolding down
not_chosen_down {P} bits e up =
    both (forwards_where_both_agree role.NotChosen bits e up) (none_passes (holds_cause role.NotChosen bits (own_told e.local) (far_told e.remote)) causes 7 cause.Standby up refl)
  where
    both : BothAgree e → of_both (λ a b. true) (own_told e.local) (far_told e.remote) ≡ false → P
    both agree none = (let wrong : true ≡ false = rw (agree.advertises, agree.bound) at none in absurd (cc (wrong)))

some_wire : (wire : WireId) (o : Option WireId) → is_chosen_wire wire o ≡ true → o ≡ Some wire
some_wire wire None is = absurd (cc (is))
some_wire wire (Some other) is = ap (λ (n : ℕ). Some (record { 0 = n })) (eqb-true other.0 wire.0 is)

-- a spoke edge's end that forwards
pub forwards_chosen : (plan : Plan) (edge : EdgeState) (wire : WireId) (row : WirePlan) → wire_row plan wire ≡ Some row → is_mesh_class row.class ≡ false → is_last edge.me.0 row.path ≡ false
    → end_forwards plan edge wire ≡ true → edge.chosen row.service.0 ≡ Some wire
forwards_chosen plan edge wire row is spoke first up = by_end (wire_end plan edge.me wire) refl up where
  role_is : (place : EndPlace) → place.wire ≡ wire → (b : Bool) → is_chosen edge.chosen wire row ≡ b → role_at plan edge place ≡ cond b role.Chosen role.NotChosen
  role_is place of_wire b chosen =
      ap (λ (w : WireId). role_in (wire_row plan w) edge.me edge.chosen w) of_wire
      ∙ (ap (λ (o : Option WirePlan). role_in o edge.me edge.chosen wire) is
      ∙ (ap (λ (m : Bool). cond m role.Mesh (cond (is_last edge.me.0 row.path) role.Core (cond (is_chosen edge.chosen wire row) role.Chosen role.NotChosen))) spoke
      ∙ (ap (λ (l : Bool). cond l role.Core (cond (is_chosen edge.chosen wire row) role.Chosen role.NotChosen)) first
      ∙ ap (λ (c : Bool). cond c role.Chosen role.NotChosen) chosen)))

  by_end : (found : Option EndPlace) → wire_end plan edge.me wire ≡ found → forwards_at plan edge found ≡ true → edge.chosen row.service.0 ≡ Some wire
  by_end None at up = absurd (cc (up))
  by_end (Some place) at up = elim (cases_Bool (is_chosen edge.chosen wire row)) [
    | inl chosen ↦ some_wire wire (edge.chosen row.service.0) chosen
    | inr away ↦
        not_chosen_down (edge.bits place.wire.0) (end_at edge place)
        (ap (λ (r : EndRole). down r (edge.bits place.wire.0) (end_at edge place)) (sym (role_is place (found_end plan edge.me wire place at).of_wire false away))
        ∙ up_is_none (down_at plan edge place) up)
  ]

same_wire : (one other : WireId) → Some one ≡ Some other → one ≡ other
same_wire one other same = cc (same)

-- of two spokes of a service whose ends at their spoke edge forward
pub one_chosen : (plan : Plan) (edge : EdgeState) (at : ℕ) (service : ServiceId) (wire next : WireId) (row other : WirePlan) → edge.me ≡ record { 0 = at }
    → wire_row plan wire ≡ Some row → is_wire_of service row ≡ true → is_mesh_class row.class ≡ false → is_last at row.path ≡ false → end_forwards plan edge wire ≡ true
    → wire_row plan next ≡ Some other → is_wire_of service other ≡ true → is_mesh_class other.class ≡ false → is_last at other.path ≡ false → end_forwards plan edge next ≡ true
    → next.0 ≡ wire.0
one_chosen plan edge at service wire next row other placed is of_service spoke first takes next_is next_of too also sends =
    let here : edge.chosen row.service.0 ≡ Some wire = forwards_chosen plan edge wire row is spoke (ap (λ (m : EdgeId). is_last m.0 row.path) placed ∙ first) takes in
    let there : edge.chosen other.service.0 ≡ Some next = forwards_chosen plan edge next other next_is too (ap (λ (m : EdgeId). is_last m.0 other.path) placed ∙ also) sends in
    let same : other.service.0 ≡ row.service.0 = eqb-true other.service.0 service.0 next_of ∙ sym (eqb-true row.service.0 service.0 of_service) in
    ap (λ (w : WireId). w.0) (same_wire next wire (sym there ∙ (ap edge.chosen same ∙ here)))
