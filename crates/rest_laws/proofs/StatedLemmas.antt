-- What an edge that had mended puts on the status of a pseudowire.
use Rattle.std.proofs.Common.{◌≡◌, ◌≤◌, ◌<◌, ◌+◌, ◌∙◌, ◌&&◌, ◌||◌, ℕ, suc, Bool, true, false, cond, is_some, not, nat_eq, List, [], ◌∷◌, Option, Some, None, refl, sym, ap, subst, arith, inl, inr}
use Rattle.std.proofs.lemmas.Bool.{cases_Bool, eqb-true}
use Rattle.std.specs.List.{AllByRecursion}
use Rattle.net_base.specs.declared.plan.Plan.{Plan}
use Rattle.net_base.specs.declared.plan.places.EdgeId.{EdgeId}
use Rattle.net_base.specs.declared.plan.wire_plan.WirePlan.{WirePlan}
use Rattle.net_base.specs.plan.Accepted.{IsChecked, IsWireOf}
use Rattle.net_base.specs.plan.Paths.{edge_address, follows, has_repeat, is_first, is_last, mate, mate_on}
use Rattle.net_base.specs.plan.Places.{is_mesh_class, wire_row}
use Rattle.net_base.specs.plan.Roles.{is_wire_of}
use Rattle.net_base.specs.declared.plan.places.ServiceId.{ServiceId}
use Rattle.net_base.proofs.PathLemmas.{joins_turned}
use Rattle.net_values.proofs.BoolLemmas.{clash, first_holds, second_holds}
use Rattle.net_values.proofs.RowLemmas.{row_holds}
use Rattle.network_model.proofs.WayLemmas.{behind_first, later_stands, way_kept}
use Rattle.pw_tlvs.specs.declared.point.Point.{Point}
use Rattle.pw_tlvs.specs.declared.pw_status.PwStatus.{PwStatus}
use Rattle.pw_signalling.specs.declared.binding.Binding.{Binding}
use Rattle.pw_signalling.specs.declared.told.Told.{Told}
use Rattle.pw_signalling.specs.End.{EndState, LocalPart, Idle, Advertised, Withdrawing}
use Rattle.pw_signalling.specs.Rows.{status_part}
use Rattle.pw_stitch.specs.Passing.{own_point, passed_status, wanted}
use Rattle.edge_model.specs.Across.{held_beyond, held_from, held_of}
use Rattle.edge_model.specs.declared.end_place.EndPlace.{EndPlace}
use Rattle.edge_model.specs.EndPlaces.{end_places}
use Rattle.edge_model.specs.Labels.{label_to_give}
use Rattle.edge_model.specs.Mend.{is_new_choice, is_up_with, mends, offer_stands, passed_from, wish}
use Rattle.edge_model.specs.Settled.{is_mended, is_told, tells_now, tells_wish}
use Rattle.edge_model.specs.Role.{end_role_of, is_chosen, own_status, role_in, status_to_tell}
use Rattle.edge_model.specs.Spokes.{choice, choosing, is_spoke_row, is_usable}
use Rattle.pw_signalling.specs.declared.end_role.EndRole.{EndRole}
use Rattle.pw_signalling.specs.declared.end_role.EndRole.TheVariants as role
use Rattle.pw_signalling.specs.Down.{down}
use Rattle.edge_model.specs.Work.{Work}
use Rattle.network_model.specs.Absorb.{taken_all}
use Rattle.pw_status.specs.Status.{combined}
use Rattle.spoke_redundancy.specs.Telling.{is_not_chosen}
use Rattle.net_base.specs.declared.plan.places.WireId.{WireId}
use Rattle.net_base.proofs.CommonLemmas.{same_row}
use Rattle.rest_laws.proofs.DueLemmas.{PutsMore}
use Rattle.rest_laws.proofs.ChoiceLemmas.{choice_by_spokes}
use Rattle.rest_laws.proofs.StatusLemmas.{mending_puts_moved, passed_is, told_here}
use Rattle.rest_laws.proofs.StillLemmas.{no_new_choice}
use Rattle.rest_laws.proofs.TakeLemmas.{first_goes}
use Rattle.edge_model.specs.State.{EdgeState, end_at, with_chosen}
use Rattle.flight_laws.proofs.AcrossLemmas.{other_side}
use Rattle.flight_laws.proofs.MendedRunLemmas.{IsMendedAt}
use Rattle.flight_laws.proofs.PlaceLemmas.{IsEndOf, all-map, places_are}
use Rattle.rest_laws.specs.Levels.{Clears, States, address_stage, is_above, level, edges_spoken, status_stage}
use Rattle.rest_laws.proofs.BindLemmas.{HoldsOther, WishStays, stays_passing, stays_terminal, tells_by, wish_passing}
use Rattle.rest_laws.proofs.HearLemmas.{above_is, above_like, mended_here, spoken_few}
use Rattle.rest_laws.proofs.PutLemmas.{same_side, stands_at}
use Rattle.rest_laws.proofs.StepLemmas.{spoken_next}

-- an end that should tell as before is mended as before
pub mended_same : (p : EndPlace) (one other : Option Told) → is_some one ≡ is_some other → ((content : Told) → offer_stands p content one ≡ offer_stands p content other) → (none : Bool) (local : LocalPart)
    → tells_wish p one none local ≡ tells_wish p other none local
mended_same p one other some stands none (Idle declined) = ap (λ (b : Bool). declined || (not b || none)) some
mended_same p one other some stands none (Advertised label content) = stands content
mended_same p one other some stands none (Withdrawing label) = refl

-- what a switching point passes on goes by another status, and is the same else
some_stated : (up : Bool) (point : Point) (status : PwStatus) (r : Option Binding) → is_some (cond up (wanted point (status_part status r)) None) ≡ is_some (cond up (wanted point r) None)
some_stated true point status None = refl
some_stated true point status (Some binding) = refl
some_stated false point status r = refl

stands_stated : (p : EndPlace) (content : Told) (up : Bool) (point : Point) (status : PwStatus) (r : Option Binding)
    → offer_stands p content (cond up (wanted point (status_part status r)) None) ≡ offer_stands p content (cond up (wanted point r) None)
stands_stated p content true point status None = refl
stands_stated p content true point status (Some binding) = refl
stands_stated p content false point status r = refl

none_small : 0 ≤ 2
none_small = omega arith

-- of a status from a core edge
stage_low : (n : ℕ) → n ≤ 4 → 32 + n ≤ 36
stage_low n few = omega (arith, few)

-- and of one from a spoke edge
spoke_far : (least n : ℕ) → least ≤ 36 → least < 48 + n
spoke_far least n low = omega (arith, low)

first_of : (first last : Bool) → last ≡ false → first || last ≡ true → first ≡ true
first_of true last none either = refl
first_of false last none either = clash (sym none ∙ either)

cleared_far : (mesh onward : Bool) (n least : ℕ) → least ≤ 36 → least < address_stage mesh onward + n
cleared_far true onward n least low = omega (arith, low)
cleared_far false true n least low = omega (arith, low)
cleared_far false false n least low = omega (arith, low)

-- withdrawals of addresses are above statuses from core edges
clears_over : (plan : Plan) (edges : ℕ → EdgeState) (me : EdgeId) (least : ℕ) → least ≤ 36 → (p : EndPlace) → IsEndOf plan me p → is_above plan edges me.0 least p Clears ≡ true
clears_over plan edges me least low p here = above_is plan edges me least p here.row Clears here.is (cleared_far (is_mesh_class here.row.class) (follows here.row.path me.0 p.peer.0) (edges_spoken here.row me.0 p.peer.0) least low)

module _ (plan : Plan) (checked : IsChecked plan) (edges : ℕ → EdgeState) (me : EdgeId) (q : EndPlace) (q_is : IsEndOf plan me q) (old new : EdgeState) (mended : IsMendedAt plan me.0 old) (other : HoldsOther q old new) (status : PwStatus) (stated_is : (end_at new q).remote
    ≡ status_part status (end_at old q).remote) (steady : q.terminal ≡ true → tells_by q_is.row old.me (old.bits q.wire.0) (end_at new q).remote ≡ tells_by q_is.row old.me (old.bits q.wire.0) (end_at old q).remote) where
  abbrev Stays : EndPlace → Type 0
  Stays p = WishStays plan checked edges me q q_is 0 none_small old new mended other (λ terminal free. steady terminal) p

  terminal_stays : (p : EndPlace) → IsEndOf plan me p → p.terminal ≡ true → Stays p
  terminal_stays p here terminal = elim (cases_Bool (stands_at q p.wire.0 p.peer.0)) [
    | inl same ↦ there
        (eqb-true p.wire.0 q.wire.0 (first_holds (nat_eq p.wire.0 q.wire.0) (nat_eq p.peer.0 q.peer.0) same))
        (eqb-true p.peer.0 q.peer.0 (second_holds (nat_eq p.wire.0 q.wire.0) (nat_eq p.peer.0 q.peer.0) same))
    | inr apart ↦ stays_terminal plan checked edges me q q_is 0 none_small old new mended other (λ terminal free. steady terminal) p here terminal
        (ap (tells_by here.row old.me (old.bits p.wire.0)) (other.remotes p.wire.0 p.peer.0 apart))
  ] where
    there : p.wire.0 ≡ q.wire.0 → p.peer.0 ≡ q.peer.0 → Stays p
    there w k =
        let rows : here.row ≡ q_is.row = same_row (sym here.is ∙ (ap (λ (n : ℕ). wire_row plan (record { 0 = n })) w ∙ q_is.is)) in
        stays_terminal plan checked edges me q q_is 0 none_small old new mended other (λ terminal free. steady terminal) p here terminal
        (ap (λ (r : WirePlan). tells_by r old.me (old.bits p.wire.0) (end_at new p).remote) rows
        ∙ (ap (λ (n : ℕ). tells_by q_is.row old.me (old.bits n) (new.ends n p.peer.0).remote) w
        ∙ (ap (λ (n : ℕ). tells_by q_is.row old.me (old.bits q.wire.0) (new.ends q.wire.0 n).remote) k
        ∙ (steady (sym (same_side plan me p q here q_is w) ∙ terminal)
        ∙ (ap (λ (n : ℕ). tells_by q_is.row old.me (old.bits q.wire.0) (old.ends q.wire.0 n).remote) (sym k)
        ∙ (ap (λ (n : ℕ). tells_by q_is.row old.me (old.bits n) (old.ends n p.peer.0).remote) (sym w)
        ∙ ap (λ (r : WirePlan). tells_by r old.me (old.bits p.wire.0) (end_at old p).remote) (sym rows)))))))

  -- beyond the end of which the status was told
  passing_next : (p : EndPlace) (here : IsEndOf plan me p) → p.terminal ≡ false → (from : EdgeId) → mate_on here.row.path me.0 p.peer.0 ≡ Some from → p.wire.0 ≡ q.wire.0 → from.0 ≡ q.peer.0 → Stays p
  passing_next p here switching from mated w k = record {
    some = ap (λ (o : Option Told). is_some o) new_is ∙ (some_stated up point status (end_at old q).remote ∙ sym (ap (λ (o : Option Told). is_some o) old_is));
    stands = λ content. ap (offer_stands p content) new_is ∙ (stands_stated p content up point status (end_at old q).remote ∙ sym (ap (offer_stands p content) old_is));
  } where
    up : Bool
    up = old.wire_on p.wire.0 && is_up_with (old.peering p.peer.0)

    point : Point
    point = own_point here.row.pw_id (edge_address plan old.me) (edge_address plan from)

    held_at : (edge : EdgeState) → held_of edge p.wire from.0 ≡ (end_at edge q).remote
    held_at edge = ap (λ (n : ℕ). (edge.ends n from.0).remote) w ∙ ap (λ (n : ℕ). (edge.ends q.wire.0 n).remote) k

    mate_at : (edge : EdgeState) → edge.me ≡ me → mate here.row edge.me.0 p.peer.0 ≡ Some from
    mate_at edge at = ap (λ (e : EdgeId). mate_on here.row.path e.0 p.peer.0) at ∙ mated

    old_is : wish plan old p ≡ cond up (wanted point (end_at old q).remote) None
    old_is = wish_passing plan old p here.row here.is switching
        ∙ (ap (λ (m : Option EdgeId). cond up (passed_from plan here.row old.me (held_of old p.wire) m) None) (mate_at old mended.me) ∙ ap (λ (r : Option Binding). cond up (wanted point r) None) (held_at old))

    new_is : wish plan new p ≡ cond up (wanted point (status_part status (end_at old q).remote)) None
    new_is = wish_passing plan new p here.row here.is switching
        ∙ (ap (λ (m : EdgeId). cond (new.wire_on p.wire.0 && is_up_with (new.peering p.peer.0)) (passed_from plan here.row m (held_of new p.wire) (mate here.row m.0 p.peer.0)) None) other.me
        ∙ (ap (λ (on : ℕ → Bool). cond (on p.wire.0 && is_up_with (new.peering p.peer.0)) (passed_from plan here.row old.me (held_of new p.wire) (mate here.row old.me.0 p.peer.0)) None) other.wires
        ∙ (ap (λ (b : Bool). cond (old.wire_on p.wire.0 && b) (passed_from plan here.row old.me (held_of new p.wire) (mate here.row old.me.0 p.peer.0)) None) (other.ups p.peer.0)
        ∙ (ap (λ (m : Option EdgeId). cond up (passed_from plan here.row old.me (held_of new p.wire) m) None) (mate_at old mended.me)
        ∙ ap (λ (r : Option Binding). cond up (wanted point r) None) (held_at new ∙ stated_is)))))

  passing_stays : (p : EndPlace) → IsEndOf plan me p → p.terminal ≡ false → Stays p
  passing_stays p here switching = by (mate_on here.row.path me.0 p.peer.0) refl where
    by : (from : Option EdgeId) → mate_on here.row.path me.0 p.peer.0 ≡ from → Stays p
    by None mated = stays_passing plan checked edges me q q_is 0 none_small old new mended other (λ terminal free. steady terminal) p here switching None mated refl
    by (Some from) mated = elim (cases_Bool (stands_at q p.wire.0 from.0)) [
      | inl same ↦ passing_next p here switching from mated (eqb-true p.wire.0 q.wire.0 (first_holds (nat_eq p.wire.0 q.wire.0) (nat_eq from.0 q.peer.0) same))
          (eqb-true from.0 q.peer.0 (second_holds (nat_eq p.wire.0 q.wire.0) (nat_eq from.0 q.peer.0) same))
      | inr apart ↦ stays_passing plan checked edges me q q_is 0 none_small old new mended other (λ terminal free. steady terminal) p here switching (Some from) mated
          (ap (λ (r : Option Binding). passed_from plan here.row old.me (λ (n : ℕ). r) (Some from)) (other.remotes p.wire.0 from.0 apart))
    ]

  place_stays : (p : EndPlace) → IsEndOf plan me p → Stays p
  place_stays p here = by p.terminal refl where
    by : (t : Bool) → p.terminal ≡ t → Stays p
    by true terminal = terminal_stays p here terminal
    by false switching = passing_stays p here switching

  -- so nothing of labels is due
  pub stated_mended : (p : EndPlace) → IsEndOf plan me p → is_mended plan new p ≡ true
  stated_mended p here =
      let stays : Stays p = place_stays p here in
      mended_same p (wish plan new p) (wish plan old p) stays.some stays.stands (not (is_some (label_to_give new))) (end_at new p).local
      ∙ (ap (λ (o : Option ℕ). tells_wish p (wish plan old p) (not (is_some o)) (end_at new p).local) other.labels
      ∙ (ap (tells_wish p (wish plan old p) (not (is_some (label_to_give old)))) (other.locals p.wire.0 p.peer.0) ∙ mended_here plan checked me old mended p here))

  pub stated_all : AllByRecursion (λ p. is_mended plan new p ≡ true) (end_places plan me)
  stated_all = all-map (IsEndOf plan me) (λ p. is_mended plan new p ≡ true) (end_places plan me) (λ p here. stated_mended p here) (places_are plan me)

  -- a status that is passed on is of a higher level
  pub status_onward : (to : ℕ) → mate_on q_is.row.path me.0 q.peer.0 ≡ Some (record { 0 = to }) → level edges q.wire.0 q_is.row q.peer.0 me.0 States < level edges q.wire.0 q_is.row me.0 to States
  status_onward to mated =
      let fit : IsWireOf plan q_is.row = row_holds (IsWireOf plan) plan.wires q.wire.0 q_is.row q_is.is checked.wires in
      let way : follows q_is.row.path me.0 to ≡ follows q_is.row.path q.peer.0 me.0 = way_kept q_is.row.path me.0 q.peer.0 (record { 0 = to }) fit.once mated in
      let longer : edges_spoken q_is.row me.0 to ≡ suc (edges_spoken q_is.row q.peer.0 me.0) = spoken_next q_is.row.path me.0 q.peer.0 (record { 0 = to }) fit.once mated in
      rw (longer, way) (one_more (status_stage (not (is_mesh_class q_is.row.class) && follows q_is.row.path q.peer.0 me.0)) (edges_spoken q_is.row q.peer.0 me.0))
    where
      one_more : (stage n : ℕ) → stage + n < stage + suc n
      one_more stage n = omega arith

  -- ---- statuses

  -- where the status to tell is as before, it was told
  same_told : (p : EndPlace) → IsEndOf plan me p → status_to_tell plan new p ≡ status_to_tell plan old p → is_told plan new p ≡ false → ⊥
  same_told p here same untold =
      let wrong : false ≡ true =
      sym untold ∙ (ap (λ (s : PwStatus). tells_now s.0 (end_at new p).local) same ∙ (ap (tells_now (status_to_tell plan old p).0) (other.locals p.wire.0 p.peer.0) ∙ told_here plan checked me old mended p here)) in
      absurd (cc (wrong))

  abbrev least : ℕ
  least = level edges q.wire.0 q_is.row q.peer.0 me.0 States

  at_new : new.me ≡ me
  at_new = other.me ∙ mended.me

  -- a status that is due then at a switching point is of a higher level than the one that was heard
  pub passing_due : (p : EndPlace) → IsEndOf plan me p → p.terminal ≡ false → is_told plan new p ≡ false → is_above plan edges me.0 least p States ≡ true
  passing_due p here switching untold = mates (mate_on here.row.path me.0 p.peer.0) refl where
    next : (from : EdgeId) → mate_on here.row.path me.0 p.peer.0 ≡ Some from → p.wire.0 ≡ q.wire.0 → from.0 ≡ q.peer.0 → is_above plan edges me.0 least p States ≡ true
    next from mated w k =
        let rows : here.row ≡ q_is.row = same_row (sym here.is ∙ (ap (λ (n : ℕ). wire_row plan (record { 0 = n })) w ∙ q_is.is)) in
        let fit : IsWireOf plan q_is.row = row_holds (IsWireOf plan) plan.wires q.wire.0 q_is.row q_is.is checked.wires in
        let of_row : mate_on q_is.row.path me.0 p.peer.0 ≡ Some q.peer =
        ap (λ (r : WirePlan). mate_on r.path me.0 p.peer.0) (sym rows) ∙ (mated ∙ ap (λ (n : ℕ). Some (record { 0 = n })) k) in
        above_like plan edges me least p q.wire.0 p.peer.0 q_is.row States w refl q_is.is (status_onward p.peer.0 (other_side q_is.row.path me p.peer q.peer fit.once of_row))

    mates : (from : Option EdgeId) → mate_on here.row.path me.0 p.peer.0 ≡ from → is_above plan edges me.0 least p States ≡ true
    mates None mated = absurd (same_told p here (passed_is plan me new at_new p here switching None mated ∙ sym (passed_is plan me old mended.me p here switching None mated)) untold)
    mates (Some from) mated = elim (cases_Bool (stands_at q p.wire.0 from.0)) [
      | inl same ↦ next from mated (eqb-true p.wire.0 q.wire.0 (first_holds (nat_eq p.wire.0 q.wire.0) (nat_eq from.0 q.peer.0) same))
          (eqb-true from.0 q.peer.0 (second_holds (nat_eq p.wire.0 q.wire.0) (nat_eq from.0 q.peer.0) same))
      | inr apart ↦ absurd (same_told p here
          (passed_is plan me new at_new p here switching (Some from) mated
          ∙ (ap passed_status (other.remotes p.wire.0 from.0 apart) ∙ sym (passed_is plan me old mended.me p here switching (Some from) mated))) untold)
    ]

  -- ---- once the edge has chosen

  module _ (chosen : new.chosen ≡ old.chosen) (priorities : new.priority ≡ old.priority) where
    abbrev now : EdgeState
    now = choosing plan new

    same_ends : now.ends ≡ new.ends
    unfolding with_chosen
    same_ends = refl

    same_me : now.me ≡ new.me
    unfolding with_chosen
    same_me = refl

    same_bits : now.bits ≡ new.bits
    unfolding with_chosen
    same_bits = refl

    now_chosen : now.chosen ≡ (λ (service : ℕ). choice plan new (record { 0 = service }))
    unfolding with_chosen
    now_chosen = refl

    local_now : (p : EndPlace) → (end_at now p).local ≡ (end_at old p).local
    local_now p = ap (λ (all : ℕ → ℕ → EndState). (all p.wire.0 p.peer.0).local) same_ends ∙ other.locals p.wire.0 p.peer.0

    -- where the status to tell is as it was, it was told
    told_now : (p : EndPlace) → IsEndOf plan me p → status_to_tell plan now p ≡ status_to_tell plan old p → is_told plan now p ≡ false → ⊥
    told_now p here same untold =
        let wrong : false ≡ true =
        sym untold ∙ (ap (λ (s : PwStatus). tells_now s.0 (end_at now p).local) same ∙ (ap (tells_now (status_to_tell plan old p).0) (local_now p) ∙ told_here plan checked me old mended p here)) in
        absurd (cc (wrong))

    -- a switching point looks at no choice
    switching_now : (p : EndPlace) → IsEndOf plan me p → p.terminal ≡ false → is_told plan now p ≡ is_told plan new p
    switching_now p here switching = by (mate_on here.row.path me.0 p.peer.0) refl where
      by : (from : Option EdgeId) → mate_on here.row.path me.0 p.peer.0 ≡ from → is_told plan now p ≡ is_told plan new p
      by from mated =
          ap (λ (s : PwStatus). tells_now s.0 (end_at now p).local)
          (passed_is plan me now (same_me ∙ at_new) p here switching from mated
          ∙ (ap (λ (all : ℕ → ℕ → EndState). passed_status (held_from (λ (k : ℕ). (all p.wire.0 k).remote) from)) same_ends ∙ sym (passed_is plan me new at_new p here switching from mated)))
          ∙ ap (λ (all : ℕ → ℕ → EndState). tells_now (status_to_tell plan new p).0 (all p.wire.0 p.peer.0).local) same_ends

    -- a terminal end goes by its failure bits, and by what it is to the service
    own_now : (p : EndPlace) → p.terminal ≡ true → role_in (wire_row plan p.wire) old.me now.chosen p.wire ≡ role_in (wire_row plan p.wire) old.me old.chosen p.wire
        → status_to_tell plan now p ≡ status_to_tell plan old p
    own_now p terminal role =
        ap (λ (t : Bool). cond t (own_status plan now p) (passed_status (held_beyond plan now p))) terminal
        ∙ (ap (λ (bits : ℕ → ℕ). combined (bits p.wire.0) (is_not_chosen (role_in (wire_row plan p.wire) now.me now.chosen p.wire))) (same_bits ∙ other.bits)
        ∙ (ap (λ (m : EdgeId). combined (old.bits p.wire.0) (is_not_chosen (role_in (wire_row plan p.wire) m now.chosen p.wire))) (same_me ∙ other.me)
        ∙ (ap (λ (r : EndRole). combined (old.bits p.wire.0) (is_not_chosen r)) role
        ∙ sym (ap (λ (t : Bool). cond t (own_status plan old p) (passed_status (held_beyond plan old p))) terminal))))

    -- what is due of statuses, where a spoke's first edge may tell any
    due_now : ((p : EndPlace) → (here : IsEndOf plan me p) → p.terminal ≡ true → is_mesh_class here.row.class ≡ false → is_last me.0 here.row.path ≡ false → is_told plan now p ≡ false
        → is_above plan edges me.0 least p States ≡ true)
        → (p : EndPlace) → IsEndOf plan me p → is_told plan now p ≡ false → is_above plan edges me.0 least p States ≡ true
    due_now spokes p here untold = by p.terminal refl where
      of_role : p.terminal ≡ true → (chosen : Bool → EndRole) → ((c : ℕ → Option WireId) → role_in (wire_row plan p.wire) old.me c p.wire ≡ chosen true) → is_above plan edges me.0 least p States ≡ true
      of_role terminal chosen any = absurd (told_now p here (own_now p terminal (any now.chosen ∙ sym (any old.chosen))) untold)

      role_is : (c : ℕ → Option WireId) → role_in (wire_row plan p.wire) old.me c p.wire ≡ end_role_of here.row me (is_chosen c p.wire here.row)
      role_is c = ap (λ (o : Option WirePlan). role_in o old.me c p.wire) here.is ∙ ap (λ (m : EdgeId). end_role_of here.row m (is_chosen c p.wire here.row)) mended.me

      by_class : p.terminal ≡ true → (mesh last : Bool) → is_mesh_class here.row.class ≡ mesh → is_last me.0 here.row.path ≡ last → is_above plan edges me.0 least p States ≡ true
      by_class terminal true last mesh at = of_role terminal (λ b. role.Mesh) (λ c. role_is c ∙ rw mesh refl)
      by_class terminal false true mesh at = of_role terminal (λ b. role.Core) (λ c. role_is c ∙ rw (mesh, at) refl)
      by_class terminal false false mesh at = spokes p here terminal mesh at untold

      by : (t : Bool) → p.terminal ≡ t → is_above plan edges me.0 least p States ≡ true
      by true terminal = by_class terminal (is_mesh_class here.row.class) (is_last me.0 here.row.path) refl refl
      by false switching = passing_due p here switching (sym (switching_now p here switching) ∙ untold)

    -- the status came from a core edge, or by a mesh wire: whatever spoke edges tell is above
    module _ (below : not (is_mesh_class q_is.row.class) && follows q_is.row.path q.peer.0 me.0 ≡ false) where
      low : least ≤ 36
      low = rw below (stage_low (edges_spoken q_is.row q.peer.0 me.0) (spoken_few plan checked q.wire q_is.row q.peer.0 me.0 q_is.is (sym (joins_turned q_is.row.path me.0 q.peer.0) ∙ q_is.joined)))

      spoke_above : (p : EndPlace) → (here : IsEndOf plan me p) → p.terminal ≡ true → is_mesh_class here.row.class ≡ false → is_last me.0 here.row.path ≡ false → is_above plan edges me.0 least p States ≡ true
      spoke_above p here terminal mesh last =
          let fit : IsWireOf plan here.row = row_holds (IsWireOf plan) plan.wires p.wire.0 here.row here.is checked.wires in
          let first : is_first me.0 here.row.path ≡ true = first_of (is_first me.0 here.row.path) (is_last me.0 here.row.path) last (sym here.terminal ∙ terminal) in
          let on : follows here.row.path me.0 p.peer.0 ≡ true = first_goes here.row.path me.0 p.peer.0 fit.once first here.joined in
          let stage : not (is_mesh_class here.row.class) && follows here.row.path me.0 p.peer.0 ≡ true = rw (mesh, on) refl in
          above_is plan edges me least p here.row States here.is
          (subst (λ (t : Bool). least < status_stage t + edges_spoken here.row me.0 p.peer.0) (sym stage) (spoke_far least (edges_spoken here.row me.0 p.peer.0) low))

      pub stated_below : (work : Work) → work.edge ≡ new → PutsMore plan me (is_above plan edges me.0 least) work.effects (mends plan taken_all work).effects
      stated_below work is =
          mending_puts_moved plan me (is_above plan edges me.0 least) work
          (ap (λ (e : EdgeState). e.me) is ∙ at_new)
          (subst (λ (e : EdgeState). AllByRecursion (λ p. is_mended plan e p ≡ true) (end_places plan me)) (sym is) stated_all)
          (λ p here untold. due_now (λ x there terminal mesh last not_told. spoke_above x there terminal mesh last) p here (ap (λ (e : EdgeState). is_told plan (choosing plan e) p) (sym is) ∙ untold))
          (λ p here anew. clears_over plan edges me least low p here)

    -- it came from a spoke edge: the edge chooses as before
    module _ (onward : not (is_mesh_class q_is.row.class) && follows q_is.row.path q.peer.0 me.0 ≡ true) where
      not_first : is_first me.0 q_is.row.path ≡ true → ⊥
      not_first first =
          let fit : IsWireOf plan q_is.row = row_holds (IsWireOf plan) plan.wires q.wire.0 q_is.row q_is.is checked.wires in
          behind q_is.row.path fit.once (second_holds (not (is_mesh_class q_is.row.class)) (follows q_is.row.path q.peer.0 me.0) onward) first
        where
          behind : (path : List EdgeId) → has_repeat path ≡ false → follows path q.peer.0 me.0 ≡ true → is_first me.0 path ≡ true → ⊥
          behind [] once on first = clash first
          behind (one ∷ rest) once on first = clash (sym (behind_first one rest me.0 once (later_stands one rest q.peer.0 me.0 on)) ∙ first)

      usable_same : (service : ServiceId) (p : EndPlace) → IsEndOf plan me p → is_spoke_row service me (wire_row plan p.wire) ≡ true → is_usable new p ≡ is_usable old p
      usable_same service p here spoke = elim (cases_Bool (nat_eq p.wire.0 q.wire.0)) [
        | inl same ↦ absurd (not_first (ap (λ (r : WirePlan). is_first me.0 r.path) (sym (rows (eqb-true p.wire.0 q.wire.0 same))) ∙ first))
        | inr apart ↦ (let end : end_at new p ≡ end_at old p = end_same (ap (λ (b : Bool). b && nat_eq p.peer.0 q.peer.0) apart) in
            ap (λ (bits : ℕ → ℕ). not (is_some (down role.Chosen (bits p.wire.0) (end_at new p)))) other.bits ∙ ap (λ (e : EndState). not (is_some (down role.Chosen (old.bits p.wire.0) e))) end)
      ] where
        rows : p.wire.0 ≡ q.wire.0 → here.row ≡ q_is.row
        rows w = same_row (sym here.is ∙ (ap (λ (n : ℕ). wire_row plan (record { 0 = n })) w ∙ q_is.is))

        first : is_first me.0 here.row.path ≡ true
        first = second_holds (is_wire_of service here.row && not (is_mesh_class here.row.class)) (is_first me.0 here.row.path) (ap (is_spoke_row service me) (sym here.is) ∙ spoke)

        end_same : stands_at q p.wire.0 p.peer.0 ≡ false → end_at new p ≡ end_at old p
        end_same away = λ i. record { local = other.locals p.wire.0 p.peer.0 i; remote = other.remotes p.wire.0 p.peer.0 away i }

      as_before : now.chosen ≡ old.chosen
      as_before = now_chosen ∙ (λ i service. (choice_by_spokes plan me old new (record { 0 = service }) mended.me at_new priorities (usable_same (record { 0 = service })) ∙ sym (mended.chosen service)) i)

      pub stated_onward : (work : Work) → work.edge ≡ new → PutsMore plan me (is_above plan edges me.0 least) work.effects (mends plan taken_all work).effects
      stated_onward work is =
          mending_puts_moved plan me (is_above plan edges me.0 least) work
          (ap (λ (e : EdgeState). e.me) is ∙ at_new)
          (subst (λ (e : EdgeState). AllByRecursion (λ p. is_mended plan e p ≡ true) (end_places plan me)) (sym is) stated_all)
          (λ p here untold. due_now (λ x there terminal mesh last not_told. absurd (told_now x there (own_now x terminal (ap (λ (c : ℕ → Option WireId). role_in (wire_row plan x.wire) old.me c x.wire) as_before)) not_told))
          p here (ap (λ (e : EdgeState). is_told plan (choosing plan e) p) (sym is) ∙ untold))
          (λ p here anew. absurd (none_anew p (ap (λ (e : EdgeState). is_new_choice e.chosen (choosing plan e).chosen p.wire (wire_row plan p.wire)) (sym is) ∙ anew)))
        where
          none_anew : (p : EndPlace) → is_new_choice new.chosen now.chosen p.wire (wire_row plan p.wire) ≡ true → ⊥
          none_anew p anew =
              let wrong : true ≡ false =
              sym anew ∙ (ap (λ (c : ℕ → Option WireId). is_new_choice c now.chosen p.wire (wire_row plan p.wire)) chosen
              ∙ (ap (λ (c : ℕ → Option WireId). is_new_choice old.chosen c p.wire (wire_row plan p.wire)) as_before ∙ no_new_choice old.chosen p.wire (wire_row plan p.wire))) in
              absurd (cc (wrong))

    -- so an edge puts messages of higher levels alone
    pub stated_rises : (work : Work) → work.edge ≡ new → PutsMore plan me (is_above plan edges me.0 least) work.effects (mends plan taken_all work).effects
    stated_rises work is = by (not (is_mesh_class q_is.row.class) && follows q_is.row.path q.peer.0 me.0) refl where
      by : (b : Bool) → not (is_mesh_class q_is.row.class) && follows q_is.row.path q.peer.0 me.0 ≡ b → PutsMore plan me (is_above plan edges me.0 least) work.effects (mends plan taken_all work).effects
      by true onward = stated_onward onward work is
      by false below = stated_below below work is
