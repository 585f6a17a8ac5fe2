-- What is due at an edge that had mended, once one of its ends holds another binding, or none any more.
use Rattle.std.proofs.Common.{◌≡◌, ◌≤◌, ◌<◌, ◌+◌, ◌*◌, ◌∙◌, ◌&&◌, ◌||◌, ◌⊎◌, ℕ, suc, Bool, true, false, cond, is_some, not, nat_eq, Option, Some, None, refl, sym, ap, arith, inl, inr, ⊎_elim}
use Rattle.std.proofs.lemmas.Bool.{cases_Bool, eqb-true}
use Rattle.net_base.specs.declared.plan.Plan.{Plan}
use Rattle.net_base.specs.declared.plan.places.EdgeId.{EdgeId}
use Rattle.net_base.specs.declared.plan.wire_plan.WirePlan.{WirePlan}
use Rattle.net_base.specs.plan.Accepted.{IsChecked, IsWireOf}
use Rattle.net_base.specs.plan.Paths.{first_edge, follows, joins, last_edge, mate, mate_on, offer_of}
use Rattle.net_base.specs.plan.Places.{wire_row}
use Rattle.net_base.proofs.PathLemmas.{joins_turned}
use Rattle.net_base.proofs.CommonLemmas.{same_row}
use Rattle.net_values.proofs.BoolLemmas.{first_holds, second_holds}
use Rattle.net_values.proofs.RowLemmas.{row_holds}
use Rattle.network_model.proofs.WayLemmas.{joins_is, one_way, way_kept}
use Rattle.pw_status.specs.Status.{method_by}
use Rattle.pw_messages.specs.Content.{content_of}
use Rattle.pw_signalling.specs.declared.binding.Binding.{Binding}
use Rattle.pw_signalling.specs.declared.told.Told.{Told}
use Rattle.pw_stitch.specs.Change.{is_same_but_status}
use Rattle.edge_model.specs.Across.{held_of}
use Rattle.edge_model.specs.declared.end_place.EndPlace.{EndPlace}
use Rattle.edge_model.specs.Labels.{label_to_give}
use Rattle.edge_model.specs.Mend.{is_up_with, offer_stands, passed_from, status_held, status_offered, tells_status, wish, wish_of}
use Rattle.edge_model.specs.State.{EdgeState, end_at}
use Rattle.flight_laws.proofs.AcrossLemmas.{other_side}
use Rattle.flight_laws.proofs.MendedRunLemmas.{IsMendedAt}
use Rattle.flight_laws.proofs.PlaceLemmas.{IsEndOf}
use Rattle.rest_laws.specs.Levels.{Saying, Binds, Withdraws, bits_of, hangs, is_above, label_stage, level, edges_spoken, way_hangs}
use Rattle.rest_laws.proofs.DueLemmas.{IsDue}
use Rattle.rest_laws.proofs.HearLemmas.{above_like, due_after, spoken_few}
use Rattle.rest_laws.proofs.PutLemmas.{same_side, stands_at}
use Rattle.rest_laws.proofs.StepLemmas.{spoken_next}

-- an end holds another binding, or none, and nothing else has changed of ends and of what they should tell
pub record HoldsOther (q : EndPlace) (old new : EdgeState) : Type 0 where
  pub me : new.me ≡ old.me
  pub wires : new.wire_on ≡ old.wire_on
  pub bits : new.bits ≡ old.bits
  pub ups : (k : ℕ) → is_up_with (new.peering k) ≡ is_up_with (old.peering k)
  pub labels : label_to_give new ≡ label_to_give old
  pub locals : (wire k : ℕ) → (new.ends wire k).local ≡ (old.ends wire k).local
  pub remotes : (wire k : ℕ) → stands_at q wire k ≡ false → (new.ends wire k).remote ≡ (old.ends wire k).remote

-- ---- what one end should tell

-- a terminal end tells anything, by its failure bits and what it holds
abbrev pub tells_by : WirePlan → EdgeId → ℕ → Option Binding → Bool
tells_by row me bits remote = tells_status (method_by (offer_of row me.0).status (status_held remote)) || nat_eq bits 0

some_by : (up tells : Bool) (content : Told) → is_some (cond up (cond tells (Some content) None) None) ≡ up && tells
some_by true true content = refl
some_by true false content = refl
some_by false tells content = refl

pub some_terminal : (plan : Plan) (edge : EdgeState) (p : EndPlace) (row : WirePlan) → wire_row plan p.wire ≡ Some row → p.terminal ≡ true
    → is_some (wish plan edge p) ≡ (edge.wire_on p.wire.0 && is_up_with (edge.peering p.peer.0)) && tells_by row edge.me (edge.bits p.wire.0) (end_at edge p).remote
some_terminal plan edge p row is terminal =
    ap (λ (o : Option WirePlan). is_some (wish_of plan edge p o)) is
    ∙ (ap (λ (t : Bool). is_some (cond (edge.wire_on p.wire.0 && is_up_with (edge.peering p.peer.0))
    (cond t (cond (tells_by row edge.me (edge.bits p.wire.0) (end_at edge p).remote) (Some (content_of (offer_of row edge.me.0) (status_offered plan edge p (offer_of row edge.me.0)))) None)
    (passed_from plan row edge.me (held_of edge p.wire) (mate row edge.me.0 p.peer.0))) None)) terminal
    ∙ some_by (edge.wire_on p.wire.0 && is_up_with (edge.peering p.peer.0)) (tells_by row edge.me (edge.bits p.wire.0) (end_at edge p).remote)
    (content_of (offer_of row edge.me.0) (status_offered plan edge p (offer_of row edge.me.0))))

pub wish_passing : (plan : Plan) (edge : EdgeState) (p : EndPlace) (row : WirePlan) → wire_row plan p.wire ≡ Some row → p.terminal ≡ false
    → wish plan edge p ≡ cond (edge.wire_on p.wire.0 && is_up_with (edge.peering p.peer.0)) (passed_from plan row edge.me (held_of edge p.wire) (mate row edge.me.0 p.peer.0)) None
wish_passing plan edge p row is switching =
    ap (wish_of plan edge p) is
    ∙ ap (λ (t : Bool). cond (edge.wire_on p.wire.0 && is_up_with (edge.peering p.peer.0))
    (cond t (cond (tells_by row edge.me (edge.bits p.wire.0) (end_at edge p).remote) (Some (content_of (offer_of row edge.me.0) (status_offered plan edge p (offer_of row edge.me.0)))) None)
    (passed_from plan row edge.me (held_of edge p.wire) (mate row edge.me.0 p.peer.0))) None) switching

-- what a terminal end has told stands where it should tell anything
pub terminal_stands : (p : EndPlace) → p.terminal ≡ true → (content : Told) (one other : Option Told) → is_some one ≡ is_some other → offer_stands p content one ≡ offer_stands p content other
terminal_stands p terminal content None None same = refl
terminal_stands p terminal content None (Some y) same = absurd (cc (same))
terminal_stands p terminal content (Some x) None same = absurd (cc (same))
terminal_stands p terminal content (Some x) (Some y) same =
    ap (λ (t : Bool). t || is_same_but_status content x) terminal ∙ sym (ap (λ (t : Bool). t || is_same_but_status content y) terminal)

-- ---- the two ways of a wire

-- of two offers one alone can hang on the other
one_hangs : (x y r s : Bool) → x && (not y && r) ≡ true → y && (not x && s) ≡ false
one_hangs true true r s h = absurd (cc (h))
one_hangs true false r s h = refl
one_hangs false y r s h = absurd (cc (h))

pub other_way : (plan : Plan) (edges : ℕ → EdgeState) (wire : ℕ) (row : WirePlan) (a b : ℕ) → IsWireOf plan row → joins a b row.path ≡ true → way_hangs edges wire row a b ≡ true → way_hangs edges wire row b a ≡ false
other_way plan edges wire row a b fit joined h = by (follows row.path a b) refl where
  near : ℕ
  near = bits_of edges wire (first_edge row.path)

  far : ℕ
  far = bits_of edges wire (last_edge row.path)

  by : (t : Bool) → follows row.path a b ≡ t → way_hangs edges wire row b a ≡ false
  by true on =
      ap (λ (t : Bool). cond t (hangs row.near row.far near) (hangs row.far row.near far)) (one_way row.path a b fit.once on)
      ∙ one_hangs row.near.status row.far.status (not (nat_eq near 0)) (not (nat_eq far 0)) (ap (λ (t : Bool). cond t (hangs row.near row.far near) (hangs row.far row.near far)) (sym on) ∙ h)
  by false off =
      let back : follows row.path b a ≡ true = ap (λ (t : Bool). t || follows row.path b a) (sym off) ∙ (sym (joins_is row.path a b) ∙ joined) in
      ap (λ (t : Bool). cond t (hangs row.near row.far near) (hangs row.far row.near far)) back
      ∙ one_hangs row.far.status row.near.status (not (nat_eq far 0)) (not (nat_eq near 0)) (ap (λ (t : Bool). cond t (hangs row.near row.far near) (hangs row.far row.near far)) (sym off) ∙ h)

-- ---- levels

next_more : (stage n c : ℕ) → c ≤ 2 → stage + (3 * n + c) < stage + 3 * suc n
next_more stage n c small = omega (arith, small)

next_more_too : (stage n c : ℕ) → c ≤ 2 → stage + (3 * n + c) < stage + (3 * suc n + 2)
next_more_too stage n c small = omega (arith, small)

hung_more : (n m c : ℕ) → c ≤ 2 → n ≤ 4 → 0 + (3 * n + c) < 16 + m
hung_more n m c small few = omega (arith, small, few)

module _ (plan : Plan) (checked : IsChecked plan) (edges : ℕ → EdgeState) (me : EdgeId) (q : EndPlace) (q_is : IsEndOf plan me q) (c : ℕ) (small : c ≤ 2) where
  abbrev row : WirePlan
  row = q_is.row

  fit : IsWireOf plan row
  fit = row_holds (IsWireOf plan) plan.wires q.wire.0 row q_is.is checked.wires

  -- the level of what was heard at the end
  abbrev heard : ℕ
  heard = label_stage (way_hangs edges q.wire.0 row q.peer.0 me.0) + (3 * edges_spoken row q.peer.0 me.0 + c)

  abbrev may : EndPlace → Saying → Bool
  may = is_above plan edges me.0 heard

  -- the way on is the same way, and one step longer
  same_way : (to : ℕ) → mate_on row.path me.0 q.peer.0 ≡ Some (record { 0 = to }) → way_hangs edges q.wire.0 row me.0 to ≡ way_hangs edges q.wire.0 row q.peer.0 me.0
  same_way to mated =
      ap (λ (t : Bool). cond t (hangs row.near row.far (bits_of edges q.wire.0 (first_edge row.path))) (hangs row.far row.near (bits_of edges q.wire.0 (last_edge row.path))))
      (way_kept row.path me.0 q.peer.0 (record { 0 = to }) fit.once mated)

  onward : (to : ℕ) → mate_on row.path me.0 q.peer.0 ≡ Some (record { 0 = to }) → (heard < level edges q.wire.0 row me.0 to Binds) × (heard < level edges q.wire.0 row me.0 to Withdraws)
  onward to mated =
      let same : way_hangs edges q.wire.0 row me.0 to ≡ way_hangs edges q.wire.0 row q.peer.0 me.0 = same_way to mated in
      let longer : edges_spoken row me.0 to ≡ suc (edges_spoken row q.peer.0 me.0) = spoken_next row.path me.0 q.peer.0 (record { 0 = to }) fit.once mated in (
        rw (same, longer) (next_more_too (label_stage (way_hangs edges q.wire.0 row q.peer.0 me.0)) (edges_spoken row q.peer.0 me.0) c small),
        rw (same, longer) (next_more (label_stage (way_hangs edges q.wire.0 row q.peer.0 me.0)) (edges_spoken row q.peer.0 me.0) c small),
      )

  -- the way back hangs, so that what came hangs on nothing
  back_more : way_hangs edges q.wire.0 row me.0 q.peer.0 ≡ true → (heard < level edges q.wire.0 row me.0 q.peer.0 Binds) × (heard < level edges q.wire.0 row me.0 q.peer.0 Withdraws)
  back_more hung =
      let free : way_hangs edges q.wire.0 row q.peer.0 me.0 ≡ false = other_way plan edges q.wire.0 row me.0 q.peer.0 fit q_is.joined hung in
      let few : edges_spoken row q.peer.0 me.0 ≤ 4 = spoken_few plan checked q.wire row q.peer.0 me.0 q_is.is (sym (joins_turned row.path me.0 q.peer.0) ∙ q_is.joined) in (
        rw (hung, free) (hung_more (edges_spoken row q.peer.0 me.0) (3 * edges_spoken row me.0 q.peer.0 + 2) c small few),
        rw (hung, free) (hung_more (edges_spoken row q.peer.0 me.0) (3 * edges_spoken row me.0 q.peer.0) c small few),
      )

  module _ (old new : EdgeState) (mended : IsMendedAt plan me.0 old) (other : HoldsOther q old new) (steady : q.terminal ≡ true → way_hangs edges q.wire.0 row me.0 q.peer.0 ≡ false
      → tells_by row old.me (old.bits q.wire.0) (end_at new q).remote ≡ tells_by row old.me (old.bits q.wire.0) (end_at old q).remote) where
    -- at an end what it should tell is as before
    pub record WishStays (p : EndPlace) : Type 0 where
      pub some : is_some (wish plan new p) ≡ is_some (wish plan old p)
      pub stands : (content : Told) → offer_stands p content (wish plan new p) ≡ offer_stands p content (wish plan old p)

    -- or whatever it puts of labels is of a higher level
    record MayBoth (p : EndPlace) : Type 0 where
      binds : may p Binds ≡ true
      withdraws : may p Withdraws ≡ true

    pub stays_terminal : (p : EndPlace) → (here : IsEndOf plan me p) → p.terminal ≡ true
        → tells_by here.row old.me (old.bits p.wire.0) (end_at new p).remote ≡ tells_by here.row old.me (old.bits p.wire.0) (end_at old p).remote → WishStays p
    stays_terminal p here terminal tells = record { some = some; stands = λ content. terminal_stands p terminal content (wish plan new p) (wish plan old p) some } where
      held : Option Binding
      held = (end_at new p).remote

      some : is_some (wish plan new p) ≡ is_some (wish plan old p)
      some =
          some_terminal plan new p here.row here.is terminal
          ∙ (ap (λ (m : EdgeId). (new.wire_on p.wire.0 && is_up_with (new.peering p.peer.0)) && tells_by here.row m (new.bits p.wire.0) held) other.me
          ∙ (ap (λ (on : ℕ → Bool). (on p.wire.0 && is_up_with (new.peering p.peer.0)) && tells_by here.row old.me (new.bits p.wire.0) held) other.wires
          ∙ (ap (λ (up : Bool). (old.wire_on p.wire.0 && up) && tells_by here.row old.me (new.bits p.wire.0) held) (other.ups p.peer.0)
          ∙ (ap (λ (bits : ℕ → ℕ). (old.wire_on p.wire.0 && is_up_with (old.peering p.peer.0)) && tells_by here.row old.me (bits p.wire.0) held) other.bits
          ∙ (ap (λ (t : Bool). (old.wire_on p.wire.0 && is_up_with (old.peering p.peer.0)) && t) tells
          ∙ sym (some_terminal plan old p here.row here.is terminal))))))

    pub stays_passing : (p : EndPlace) → (here : IsEndOf plan me p) → p.terminal ≡ false → (from : Option EdgeId) → mate_on here.row.path me.0 p.peer.0 ≡ from
        → passed_from plan here.row old.me (held_of new p.wire) from ≡ passed_from plan here.row old.me (held_of old p.wire) from → WishStays p
    stays_passing p here switching from mated passed = record { some = ap (λ (o : Option Told). is_some o) same; stands = λ content. ap (offer_stands p content) same } where
      mate_is : mate here.row old.me.0 p.peer.0 ≡ from
      mate_is = ap (λ (k : EdgeId). mate_on here.row.path k.0 p.peer.0) mended.me ∙ mated

      same : wish plan new p ≡ wish plan old p
      same =
          wish_passing plan new p here.row here.is switching
          ∙ (ap (λ (m : EdgeId). cond (new.wire_on p.wire.0 && is_up_with (new.peering p.peer.0)) (passed_from plan here.row m (held_of new p.wire) (mate here.row m.0 p.peer.0)) None) other.me
          ∙ (ap (λ (on : ℕ → Bool). cond (on p.wire.0 && is_up_with (new.peering p.peer.0)) (passed_from plan here.row old.me (held_of new p.wire) (mate here.row old.me.0 p.peer.0)) None) other.wires
          ∙ (ap (λ (up : Bool). cond (old.wire_on p.wire.0 && up) (passed_from plan here.row old.me (held_of new p.wire) (mate here.row old.me.0 p.peer.0)) None) (other.ups p.peer.0)
          ∙ (ap (λ (o : Option Told). cond (old.wire_on p.wire.0 && is_up_with (old.peering p.peer.0)) o None)
          (ap (passed_from plan here.row old.me (held_of new p.wire)) mate_is ∙ (passed ∙ sym (ap (passed_from plan here.row old.me (held_of old p.wire)) mate_is)))
          ∙ sym (wish_passing plan old p here.row here.is switching)))))

    -- the row of another end of the same wire
    pub row_same : (p : EndPlace) → (here : IsEndOf plan me p) → p.wire.0 ≡ q.wire.0 → here.row ≡ row
    row_same p here w = same_row (sym here.is ∙ (ap (λ (n : ℕ). wire_row plan (record { 0 = n })) w ∙ q_is.is))

    at_terminal : (p : EndPlace) → IsEndOf plan me p → p.terminal ≡ true → WishStays p ⊎ MayBoth p
    at_terminal p here terminal = elim (cases_Bool (stands_at q p.wire.0 p.peer.0)) [
      | inl same ↦ there
          (eqb-true p.wire.0 q.wire.0 (first_holds (nat_eq p.wire.0 q.wire.0) (nat_eq p.peer.0 q.peer.0) same))
          (eqb-true p.peer.0 q.peer.0 (second_holds (nat_eq p.wire.0 q.wire.0) (nat_eq p.peer.0 q.peer.0) same))
      | inr apart ↦ inl (stays_terminal p here terminal (ap (tells_by here.row old.me (old.bits p.wire.0)) (other.remotes p.wire.0 p.peer.0 apart)))
    ] where
      there : p.wire.0 ≡ q.wire.0 → p.peer.0 ≡ q.peer.0 → WishStays p ⊎ MayBoth p
      there w k = by (way_hangs edges q.wire.0 row me.0 q.peer.0) refl where
        by : (b : Bool) → way_hangs edges q.wire.0 row me.0 q.peer.0 ≡ b → WishStays p ⊎ MayBoth p
        by true hung =
            let more = back_more hung in
            inr (record { binds = above_like plan edges me heard p q.wire.0 q.peer.0 row Binds w k q_is.is more.0; withdraws = above_like plan edges me heard p q.wire.0 q.peer.0 row Withdraws w k q_is.is more.1 })
        by false free =
            inl (stays_terminal p here terminal
            (ap (λ (r : WirePlan). tells_by r old.me (old.bits p.wire.0) (end_at new p).remote) (row_same p here w)
            ∙ (ap (λ (n : ℕ). tells_by row old.me (old.bits n) (new.ends n p.peer.0).remote) w
            ∙ (ap (λ (n : ℕ). tells_by row old.me (old.bits q.wire.0) (new.ends q.wire.0 n).remote) k
            ∙ (steady (sym (same_side plan me p q here q_is w) ∙ terminal) free
            ∙ (ap (λ (n : ℕ). tells_by row old.me (old.bits q.wire.0) (old.ends q.wire.0 n).remote) (sym k)
            ∙ (ap (λ (n : ℕ). tells_by row old.me (old.bits n) (old.ends n p.peer.0).remote) (sym w)
            ∙ ap (λ (r : WirePlan). tells_by r old.me (old.bits p.wire.0) (end_at old p).remote) (sym (row_same p here w)))))))))

    at_passing : (p : EndPlace) → IsEndOf plan me p → p.terminal ≡ false → WishStays p ⊎ MayBoth p
    at_passing p here switching = by (mate_on here.row.path me.0 p.peer.0) refl where
      next : (from : EdgeId) → mate_on here.row.path me.0 p.peer.0 ≡ Some from → p.wire.0 ≡ q.wire.0 → from.0 ≡ q.peer.0 → MayBoth p
      next from mated w k =
          let of_row : mate_on row.path me.0 p.peer.0 ≡ Some q.peer =
          ap (λ (r : WirePlan). mate_on r.path me.0 p.peer.0) (sym (row_same p here w)) ∙ (mated ∙ ap (λ (n : ℕ). Some (record { 0 = n })) k) in
          let more = onward p.peer.0 (other_side row.path me p.peer q.peer fit.once of_row) in
          record { binds = above_like plan edges me heard p q.wire.0 p.peer.0 row Binds w refl q_is.is more.0; withdraws = above_like plan edges me heard p q.wire.0 p.peer.0 row Withdraws w refl q_is.is more.1 }

      by : (from : Option EdgeId) → mate_on here.row.path me.0 p.peer.0 ≡ from → WishStays p ⊎ MayBoth p
      by None mated = inl (stays_passing p here switching None mated refl)
      by (Some from) mated = elim (cases_Bool (stands_at q p.wire.0 from.0)) [
        | inl same ↦ inr (next from mated (eqb-true p.wire.0 q.wire.0 (first_holds (nat_eq p.wire.0 q.wire.0) (nat_eq from.0 q.peer.0) same))
            (eqb-true from.0 q.peer.0 (second_holds (nat_eq p.wire.0 q.wire.0) (nat_eq from.0 q.peer.0) same)))
        | inr apart ↦ inl (stays_passing p here switching (Some from) mated
            (ap (λ (r : Option Binding). passed_from plan here.row old.me (λ (k : ℕ). r) (Some from)) (other.remotes p.wire.0 from.0 apart)))
      ]

    at_place : (p : EndPlace) → IsEndOf plan me p → WishStays p ⊎ MayBoth p
    at_place p here = by p.terminal refl where
      by : (t : Bool) → p.terminal ≡ t → WishStays p ⊎ MayBoth p
      by true terminal = at_terminal p here terminal
      by false switching = at_passing p here switching

    -- whatever is due of labels then is of a higher level than what was heard
    pub other_due : IsDue plan me may new
    other_due = due_after plan checked me may old new mended (λ left. ap (λ (o : Option ℕ). is_some o) (sym other.labels) ∙ left)
        (λ p here at some. ⊎_elim
        (λ (h : WishStays p). inl (sym (other.locals p.wire.0 p.peer.0) ∙ at, sym h.some ∙ some))
        (λ (h : MayBoth p). inr h.binds)
        (at_place p here))
        (λ p here label content at gone. ⊎_elim
        (λ (h : WishStays p). inl (sym (other.locals p.wire.0 p.peer.0) ∙ at, sym (h.stands content) ∙ gone))
        (λ (h : MayBoth p). inr h.withdraws)
        (at_place p here))
