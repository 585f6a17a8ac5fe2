-- What an edge that had mended puts on a withdrawal of addresses: it passes it on, from a spoke edge to a core edge, to other core edges,
-- and to spoke edges, and from switching point to switching point.
use Rattle.std.proofs.Common.{◌≡◌, ◌≤◌, ◌<◌, ◌+◌, ◌∙◌, ◌&&◌, ◌||◌, ℕ, suc, Bool, true, false, cond, not, is_some, nat_eq, List, [], ◌∷◌, Option, Some, None, slice_get, unwrap_or, refl, sym, ap, subst, arith, zero-add}
use Rattle.std.proofs.lemmas.Bool.{eqb-true}
use Rattle.std.proofs.lemmas.List.Quantifiers.{position-Some}
use Rattle.std.proofs.lemmas.Option.{unwrap_or-slice_get}
use Rattle.net_values.proofs.BoolLemmas.{clash, first_holds, second_holds}
use Rattle.net_values.proofs.RowLemmas.{found_passes, row_holds}
use Rattle.net_values.specs.declared.mac.Mac.{Mac}
use Rattle.net_base.specs.declared.plan.Plan.{Plan}
use Rattle.net_base.specs.declared.plan.places.EdgeId.{EdgeId}
use Rattle.net_base.specs.declared.plan.places.ServiceId.{ServiceId}
use Rattle.net_base.specs.declared.plan.places.WireId.{WireId}
use Rattle.net_base.specs.declared.plan.wire_plan.WirePlan.{WirePlan}
use Rattle.net_base.specs.plan.Accepted.{IsChecked, IsWireOf}
use Rattle.net_base.specs.plan.Paths.{follows, is_first, is_last, mate_on}
use Rattle.net_base.specs.plan.Places.{is_mesh_class, wire_row}
use Rattle.net_base.specs.plan.Roles.{is_core_edge, is_spoke_edge, is_spoke_from, is_wire_of}
use Rattle.net_base.proofs.CommonLemmas.{same_row}
use Rattle.net_base.proofs.PathLemmas.{joins_turned}
use Rattle.pw_tlvs.specs.declared.pw_fec.PwFec.{PwFec}
use Rattle.pw_messages.specs.Content.{mac_withdrawal}
use Rattle.pw_signalling.specs.End.{EndState, LocalPart, Idle, Advertised, Withdrawing}
use Rattle.hvpls_spokes.specs.declared.edge_role.Role.{Role}
use Rattle.hvpls_spokes.specs.declared.edge_role.Role.TheVariants as role
use Rattle.hvpls_spokes.specs.declared.port.Port.{Port}
use Rattle.hvpls_spokes.specs.declared.port.Port.TheVariants as port
use Rattle.hvpls_spokes.specs.Port.{is_mesh, is_mesh_port, is_wire_port, ports_of}
use Rattle.hvpls_spokes.specs.Role as roles
use Rattle.hvpls_spokes.proofs.PortsLemmas.{IsWired, served_at}
use Rattle.mac_withdraw.specs.Passing.{is_passed_to, is_wire_at}
use Rattle.mac_withdraw.specs.Pieces.{pieces_of}
use Rattle.edge_model.specs.declared.end_place.EndPlace.{EndPlace}
use Rattle.edge_model.specs.Across.{end_beside, end_beyond, mate_of}
use Rattle.edge_model.specs.Clear.{clears_at, clears_by, clears_wire, hears_mac_withdraw, passes_on, tells_at, tells_by, withdrawing_at}
use Rattle.edge_model.specs.EndPlaces.{end_places, is_at, is_end_of_wire}
use Rattle.edge_model.specs.Ends.{wire_end}
use Rattle.edge_model.specs.Frame.{copies}
use Rattle.edge_model.specs.Mend.{mends, port_of_wire}
use Rattle.edge_model.specs.Session.{says}
use Rattle.edge_model.specs.Settled.{is_mended, is_told, tells_now, tells_wish}
use Rattle.edge_model.specs.Signal.{end_of_fec}
use Rattle.edge_model.specs.State.{EdgeState, end_at, with_addresses}
use Rattle.edge_model.specs.Withdraw.{tells_piece, tells_piece_by, tells_pieces}
use Rattle.edge_model.specs.Work.{Work, changes}
use Rattle.edge_model.specs.Labels.{label_to_give}
use Rattle.edge_model.specs.Mend.{wish}
use Rattle.edge_model.proofs.ChoiceLemmas.{choice_same}
use Rattle.pw_signalling.specs.declared.end_role.EndRole.TheVariants as end_role
use Rattle.pw_signalling.specs.Down.{down}
use Rattle.pw_tlvs.specs.declared.pw_status.PwStatus.{PwStatus}
use Rattle.network_model.specs.Absorb.{taken_all}
use Rattle.network_model.proofs.WayLemmas.{joins_is, way_kept}
use Rattle.flight_laws.proofs.MendedRunLemmas.{IsMendedAt}
use Rattle.flight_laws.proofs.PassingLemmas.{wire_end_is}
use Rattle.flight_laws.proofs.PlaceLemmas.{IsEndOf, all-map, find_holds, places_are}
use Rattle.flood_laws.proofs.LinkLemmas.{none_at}
use Rattle.rest_laws.specs.Levels.{Saying, Clears, address_stage, is_above, level, edges_spoken}
use Rattle.rest_laws.proofs.DueLemmas.{PutsMore}
use Rattle.rest_laws.proofs.HearLemmas.{above_is, spoken_few}
use Rattle.rest_laws.proofs.PutLemmas.{HasPut, HasSaid, WishesAlike, put_then, puts_not, puts_then, says_puts, some_alike, stands_alike}
use Rattle.rest_laws.proofs.StatedLemmas.{mended_same}
use Rattle.rest_laws.proofs.StatusLemmas.{status_alike}
use Rattle.rest_laws.proofs.StepLemmas.{spoken_next}
use Rattle.rest_laws.proofs.StillLemmas.{mended_puts_none}
use Rattle.rest_laws.proofs.TakeLemmas.{last_goes}

-- ---- an edge that has only put something has mended still

module _ (plan : Plan) (me : EdgeId) (old new : EdgeState) (put : HasPut old new) (mended : IsMendedAt plan me.0 old) where
  alike : WishesAlike old new
  alike = record {
    me = put.me;
    wires = put.wires;
    bits = put.bits;
    remotes = λ wire k. ap (λ (all : ℕ → ℕ → EndState). (all wire k).remote) put.ends;
    ups = put.ups;
    labels = λ left. ap (λ (o : Option ℕ). is_some o) (sym put.labels) ∙ left;
  }

  end_kept : (p : EndPlace) → is_mended plan old p ≡ true → is_mended plan new p ≡ true
  end_kept p is =
      mended_same p (wish plan new p) (wish plan old p) (some_alike plan old new alike p) (stands_alike plan old new alike p) (not (is_some (label_to_give new))) (end_at new p).local
      ∙ (ap (λ (o : Option ℕ). tells_wish p (wish plan old p) (not (is_some o)) (end_at new p).local) put.labels
      ∙ (ap (λ (all : ℕ → ℕ → EndState). tells_wish p (wish plan old p) (not (is_some (label_to_give old))) (all p.wire.0 p.peer.0).local) put.ends ∙ is))

  status_kept : (p : EndPlace) → is_told plan old p ≡ true → is_told plan new p ≡ true
  status_kept p is =
      ap (λ (s : PwStatus). tells_now s.0 (end_at new p).local) (status_alike plan old new p alike put.chosen)
      ∙ (ap (λ (all : ℕ → ℕ → EndState). tells_now (Rattle.edge_model.specs.Role.status_to_tell plan old p).0 (all p.wire.0 p.peer.0).local) put.ends ∙ is)

  pub put_mended : IsMendedAt plan me.0 new
  put_mended = record {
    me = put.me ∙ mended.me;
    ends = all-map (λ p. is_mended plan old p ≡ true) (λ p. is_mended plan new p ≡ true) (end_places plan me) (λ p is. end_kept p is) mended.ends;
    statuses = all-map (λ p. is_told plan old p ≡ true) (λ p. is_told plan new p ≡ true) (end_places plan me) (λ p is. status_kept p is) mended.statuses;
    chosen = λ service. ap (λ (c : ℕ → Option WireId). c service) put.chosen
        ∙ (mended.chosen service
        ∙ sym (choice_same plan old new put.me put.bits put.priorities (λ wire k bits. ap (λ (all : ℕ → ℕ → EndState). down end_role.Chosen bits (all wire k)) put.ends) (record { 0 = service })));
  }

-- ---- addresses are told where they may be

module _ (plan : Plan) (me : EdgeId) (may : EndPlace → Saying → Bool) (first : Work) (at_me : first.edge.me ≡ me) (addresses : List Mac) where
  -- while they are told
  pub record IsClearing (work : Work) : Type 0 where
    pub put : HasPut first.edge work.edge
    pub puts : PutsMore plan me may first.effects work.effects

  piece_clears : (place : EndPlace) → IsEndOf plan me place → may place Clears ≡ true → (piece : List Mac) (work : Work) → IsClearing work → IsClearing (tells_piece taken_all place piece work).work
  piece_clears place here allowed piece work now = by (end_at work.edge place).local where
    by : (local : LocalPart) → IsClearing (tells_piece_by taken_all place piece local work).work
    by (Idle declined) = now
    by (Withdrawing label) = now
    by (Advertised label content) =
        let next : Work = (says taken_all place.peer (mac_withdrawal place.pw_id piece content) work).work in
        let said : HasSaid plan me may work next = says_puts plan me may place (mac_withdrawal place.pw_id piece content) Clears work here (λ id. refl) (λ id. refl) allowed in
        record { put = put_then first.edge work.edge next.edge now.put said.put; puts = puts_then plan me may first.effects work.effects next.effects now.puts said.puts }

  pieces_clear : (place : EndPlace) → IsEndOf plan me place → may place Clears ≡ true → (pieces : List (List Mac)) (work : Work) → IsClearing work → IsClearing (tells_pieces taken_all place pieces work)
  pieces_clear place here allowed [] work now = now
  pieces_clear place here allowed (piece ∷ pieces) work now = pieces_clear place here allowed pieces (tells_piece taken_all place piece work).work (piece_clears place here allowed piece work now)

  -- at an end, where there is one
  pub found_clears : (found : Option EndPlace) → ((place : EndPlace) → found ≡ Some place → IsEndOf plan me place × (may place Clears ≡ true)) → (work : Work) → IsClearing work
      → IsClearing (tells_by taken_all addresses found work)
  found_clears None each work now = now
  found_clears (Some place) each work now = (let fit = each place refl in pieces_clear place fit.0 fit.1 (pieces_of addresses) work now)

  -- by a port
  abbrev pub MayBy : Port → Type 0
  MayBy (port.Circuit circuit) = Unit {0}
  MayBy (port.Mesh wire) = (place : EndPlace) → wire_end plan me wire ≡ Some place → may place Clears ≡ true
  MayBy (port.Spoke wire) = (place : EndPlace) → wire_end plan me wire ≡ Some place → may place Clears ≡ true

  wire_clears : (wire : WireId) → ((place : EndPlace) → wire_end plan me wire ≡ Some place → may place Clears ≡ true) → (work : Work) → IsClearing work
      → IsClearing (tells_by taken_all addresses (wire_end plan work.edge.me wire) work)
  wire_clears wire allowed work now = found_clears (wire_end plan work.edge.me wire)
      (λ place is. (let at : wire_end plan me wire ≡ Some place = ap (λ (k : EdgeId). wire_end plan k wire) (sym (now.put.me ∙ at_me)) ∙ is in (wire_end_is plan me wire place at, allowed place at))) work now

  port_clears : (x : Port) → MayBy x → (work : Work) → IsClearing work → IsClearing (tells_at plan taken_all addresses x work)
  port_clears (port.Circuit circuit) allowed work now = now
  port_clears (port.Mesh wire) allowed work now = wire_clears wire allowed work now
  port_clears (port.Spoke wire) allowed work now = wire_clears wire allowed work now

  next_place : (p k : ℕ) → (p + 1) + k ≡ p + suc k
  next_place p k = omega arith

  first_place : (p : ℕ) → p + 0 ≡ p
  first_place p = omega arith

  pub ports_clear : (targets : ℕ → Bool) (p : ℕ) (xs : List Port) → ((k : ℕ) (x : Port) → slice_get xs k ≡ Some x → targets (p + k) ≡ true → MayBy x) → (work : Work) → IsClearing work
      → IsClearing (copies targets (tells_at plan taken_all addresses) p xs work)
  ports_clear targets p [] each work now = now
  ports_clear targets p (x ∷ xs) each work now =
      ports_clear targets (p + 1) xs (λ k y at is. each (suc k) y at (ap targets (sym (next_place p k)) ∙ is)) (cond (targets p) (tells_at plan taken_all addresses x work) work) (by (targets p) refl)
    where
      by : (b : Bool) → targets p ≡ b → IsClearing (cond b (tells_at plan taken_all addresses x work) work)
      by true is = port_clears x (each 0 x refl (ap targets (first_place p) ∙ is)) work now
      by false is = now

-- ---- levels

-- of spoke edges, and between core edges
spoke_low : (n : ℕ) → n ≤ 4 → 64 + n ≤ 68
spoke_low n few = omega (arith, few)

mesh_low : (n : ℕ) → n ≤ 4 → 80 + n ≤ 84
mesh_low n few = omega (arith, few)

to_mesh : (least n : ℕ) → least ≤ 68 → least < 80 + n
to_mesh least n low = omega (arith, low)

to_spoke : (least n : ℕ) → least ≤ 84 → least < 96 + n
to_spoke least n low = omega (arith, low)

lower : (n : ℕ) → n ≤ 68 → n ≤ 84
lower n low = omega (arith, low)

one_more : (stage n : ℕ) → stage + n < stage + suc n
one_more stage n = omega arith

stage_is : {mesh onward m o : Bool} → mesh ≡ m → onward ≡ o → address_stage mesh onward ≡ address_stage m o
stage_is one other = λ i. address_stage (one i) (other i)

-- a port that leads to a wire
leads_to : (wire : WireId) (ports : List Port) (from : ℕ) → (Rattle.std.specs.Prelude.position (is_wire_port wire) ports ≡ Some from) → (o : Option Port) → slice_get ports from ≡ o
    → is_wire_port wire (unwrap_or o (port.Circuit (record { 0 = 0 }))) ≡ true
leads_to wire ports from found o at =
    ap (λ (x : Option Port). is_wire_port wire (unwrap_or x (port.Circuit (record { 0 = 0 })))) (sym at)
    ∙ (ap (is_wire_port wire) (unwrap_or-slice_get ports from (port.Circuit (record { 0 = 0 }))) ∙ (position-Some (is_wire_port wire) ports from (port.Circuit (record { 0 = 0 })) found).1)

module _ (plan : Plan) (checked : IsChecked plan) (edges : ℕ → EdgeState) (me : EdgeId) (q : EndPlace) (q_is : IsEndOf plan me q) where
  abbrev row : WirePlan
  row = q_is.row

  fit : IsWireOf plan row
  fit = row_holds (IsWireOf plan) plan.wires q.wire.0 row q_is.is checked.wires

  abbrev least : ℕ
  least = level edges q.wire.0 row q.peer.0 me.0 Clears

  abbrev may : EndPlace → Saying → Bool
  may = is_above plan edges me.0 least

  few : edges_spoken row q.peer.0 me.0 ≤ 4
  few = spoken_few plan checked q.wire row q.peer.0 me.0 q_is.is (sym (joins_turned row.path me.0 q.peer.0) ∙ q_is.joined)

  -- ---- at a switching point

  beyond_above : (place : EndPlace) → end_beyond plan me q ≡ Some place → IsEndOf plan me place × (may place Clears ≡ true)
  beyond_above place is = by (mate_on row.path me.0 q.peer.0) refl (ap (λ (o : Option WirePlan). end_beside plan me q.wire (mate_of me q o)) (sym q_is.is) ∙ is) where
    by : (peer : Option EdgeId) → mate_on row.path me.0 q.peer.0 ≡ peer → end_beside plan me q.wire (mate_on row.path me.0 q.peer.0) ≡ Some place → IsEndOf plan me place × (may place Clears ≡ true)
    by None at found = absurd (cc (ap (end_beside plan me q.wire) (sym at) ∙ found))
    by (Some to) at found =
        let one = find_holds (IsEndOf plan me) (is_at q.wire.0 to.0) (end_places plan me) place (places_are plan me) (ap (end_beside plan me q.wire) (sym at) ∙ found) in
        let w : place.wire.0 ≡ q.wire.0 = sym (eqb-true q.wire.0 place.wire.0 (first_holds (nat_eq q.wire.0 place.wire.0) (nat_eq to.0 place.peer.0) one.passes)) in
        let k : to.0 ≡ place.peer.0 = eqb-true to.0 place.peer.0 (second_holds (nat_eq q.wire.0 place.wire.0) (nat_eq to.0 place.peer.0) one.passes) in
        let way : follows row.path me.0 to.0 ≡ follows row.path q.peer.0 me.0 = way_kept row.path me.0 q.peer.0 to fit.once at in
        let longer : edges_spoken row me.0 to.0 ≡ suc (edges_spoken row q.peer.0 me.0) = spoken_next row.path me.0 q.peer.0 to fit.once at in
        let more : least < level edges q.wire.0 row me.0 to.0 Clears = rw (longer, way) (one_more (address_stage (is_mesh_class row.class) (follows row.path q.peer.0 me.0)) (edges_spoken row q.peer.0 me.0)) in
        (one.holds, Rattle.rest_laws.proofs.HearLemmas.above_like plan edges me least place q.wire.0 to.0 row Clears w (sym k) q_is.is more)

  -- ---- at a core edge of the service

  module _ (terminal : q.terminal ≡ true) (core : is_spoke_edge plan row.service me.0 ≡ false) where
    -- no spoke of the service starts there
    not_first : (wire : ℕ) (other : WirePlan) → slice_get plan.wires wire ≡ Some other → is_wire_of row.service other ≡ true → is_mesh_class other.class ≡ false → is_first me.0 other.path ≡ false
    not_first wire other is ours spoke = by (is_first me.0 other.path) refl where
      starts : is_first me.0 other.path ≡ true → is_spoke_from row.service me.0 other ≡ true
      starts at = rw (ours, spoke, at) refl

      by : (b : Bool) → is_first me.0 other.path ≡ b → b ≡ false
      by true at = sym (starts at) ∙ none_at (is_spoke_from row.service me.0) plan.wires wire other core is
      by false at = refl

    own : is_wire_of row.service row ≡ true
    own = Rattle.net_values.proofs.NumberLemmas.same_number row.service.0

    -- what came by a spoke came from its spoke edge
    came_onward : is_mesh_class row.class ≡ false → follows row.path q.peer.0 me.0 ≡ true
    came_onward spoke =
        let last : is_last me.0 row.path ≡ true = ap (λ (b : Bool). b || is_last me.0 row.path) (sym (not_first q.wire.0 row q_is.is own spoke)) ∙ (sym q_is.terminal ∙ terminal) in
        ap (λ (b : Bool). b || follows row.path q.peer.0 me.0) (sym (last_goes row.path me.0 q.peer.0 fit.once last)) ∙ (sym (joins_is row.path me.0 q.peer.0) ∙ q_is.joined)

    low_spoke : is_mesh_class row.class ≡ false → least ≤ 68
    low_spoke spoke = subst (λ (s : ℕ). s + edges_spoken row q.peer.0 me.0 ≤ 68) (sym (stage_is spoke (came_onward spoke))) (spoke_low (edges_spoken row q.peer.0 me.0) few)

    low : least ≤ 84
    low = by (is_mesh_class row.class) refl where
      by : (b : Bool) → is_mesh_class row.class ≡ b → least ≤ 84
      by true mesh = subst (λ (m : Bool). address_stage m (follows row.path q.peer.0 me.0) + edges_spoken row q.peer.0 me.0 ≤ 84) (sym mesh) (mesh_low (edges_spoken row q.peer.0 me.0) few)
      by false spoke = lower least (low_spoke spoke)

    -- the terminal end of a wire
    record IsEndAt (place : EndPlace) (wire : ℕ) (other : WirePlan) : Type 0 where
      here : IsEndOf plan me place
      rows : here.row ≡ other
      ends : place.terminal ≡ true

    end_of_wire : (wire : WireId) (other : WirePlan) (place : EndPlace) → slice_get plan.wires wire.0 ≡ Some other → wire_end plan me wire ≡ Some place → IsEndAt place wire.0 other
    end_of_wire wire other place is found =
        let passes = found_passes (is_end_of_wire wire) (end_places plan me) place found in
        let w : place.wire.0 ≡ wire.0 = eqb-true place.wire.0 wire.0 (first_holds (nat_eq place.wire.0 wire.0) place.terminal passes) in
        let here : IsEndOf plan me place = wire_end_is plan me wire place found in
        record {
          here = here;
          rows = same_row (sym here.is ∙ (ap (λ (n : ℕ). wire_row plan (record { 0 = n })) w ∙ is));
          ends = second_holds (nat_eq place.wire.0 wire.0) place.terminal passes;
        }

    mesh_above : is_mesh_class row.class ≡ false → (wire : WireId) → IsWired plan.wires row.service me true wire.0 → (place : EndPlace) → wire_end plan me wire ≡ Some place → may place Clears ≡ true
    mesh_above spoke wire wired place found =
        let end : IsEndAt place wire.0 wired.row = end_of_wire wire wired.row place wired.is found in
        let mesh : is_mesh_class end.here.row.class ≡ true = ap (λ (r : WirePlan). is_mesh_class r.class) end.rows ∙ wired.class in
        above_is plan edges me least place end.here.row Clears end.here.is (subst (λ (m : Bool). least < address_stage m (follows end.here.row.path me.0 place.peer.0) + edges_spoken end.here.row me.0 place.peer.0) (sym mesh)
        (to_mesh least (edges_spoken end.here.row me.0 place.peer.0) (low_spoke spoke)))

    spoke_above : (wire : WireId) → IsWired plan.wires row.service me false wire.0 → (place : EndPlace) → wire_end plan me wire ≡ Some place → may place Clears ≡ true
    spoke_above wire wired place found =
        let end : IsEndAt place wire.0 wired.row = end_of_wire wire wired.row place wired.is found in
        let spoke : is_mesh_class end.here.row.class ≡ false = ap (λ (r : WirePlan). is_mesh_class r.class) end.rows ∙ wired.class in
        let ours : is_wire_of row.service wired.row ≡ true = first_holds (is_wire_of row.service wired.row) (is_first me.0 wired.row.path || is_last me.0 wired.row.path) wired.ends in
        let inner : is_first me.0 end.here.row.path ≡ false = ap (λ (r : WirePlan). is_first me.0 r.path) end.rows ∙ not_first wire.0 wired.row wired.is ours wired.class in
        let last : is_last me.0 end.here.row.path ≡ true = ap (λ (b : Bool). b || is_last me.0 end.here.row.path) (sym inner) ∙ (sym end.here.terminal ∙ end.ends) in
        let fits : IsWireOf plan end.here.row = row_holds (IsWireOf plan) plan.wires place.wire.0 end.here.row end.here.is checked.wires in
        let off : follows end.here.row.path me.0 place.peer.0 ≡ false = last_goes end.here.row.path me.0 place.peer.0 fits.once last in
        above_is plan edges me least place end.here.row Clears end.here.is (subst (λ (s : ℕ). least < s + edges_spoken end.here.row me.0 place.peer.0) (sym (stage_is spoke off)) (to_spoke least (edges_spoken end.here.row me.0 place.peer.0) low))

    -- the port by which it came is a mesh wire's where its wire is one
    from_class : (from : ℕ) → Rattle.std.specs.Prelude.position (is_wire_port q.wire) (ports_of plan row.service me) ≡ Some from → is_mesh_port (ports_of plan row.service me) from ≡ is_mesh_class row.class
    from_class from found = by (slice_get (ports_of plan row.service me) from) refl where
      class_of : (mesh : Bool) (wire : WireId) → nat_eq wire.0 q.wire.0 ≡ true → IsWired plan.wires row.service me mesh wire.0 → mesh ≡ is_mesh_class row.class
      class_of mesh wire same wired =
          let rows : wired.row ≡ row = same_row (sym wired.is ∙ (ap (slice_get plan.wires) (eqb-true wire.0 q.wire.0 same) ∙ q_is.is)) in
          sym wired.class ∙ ap (λ (r : WirePlan). is_mesh_class r.class) rows

      by : (o : Option Port) → slice_get (ports_of plan row.service me) from ≡ o → is_mesh_port (ports_of plan row.service me) from ≡ is_mesh_class row.class
      by None at = clash (leads_to q.wire (ports_of plan row.service me) from found None at)
      by (Some (port.Circuit circuit)) at = clash (leads_to q.wire (ports_of plan row.service me) from found (Some (port.Circuit circuit)) at)
      by (Some (port.Mesh wire)) at =
          ap is_mesh at ∙ class_of true wire (leads_to q.wire (ports_of plan row.service me) from found (Some (port.Mesh wire)) at) (served_at plan row.service me from (port.Mesh wire) at)
      by (Some (port.Spoke wire)) at =
          ap is_mesh at ∙ class_of false wire (leads_to q.wire (ports_of plan row.service me) from found (Some (port.Spoke wire)) at) (served_at plan row.service me from (port.Spoke wire) at)

    -- split horizon
    not_mesh : (class from p : Bool) → (a : Bool) → a && not (from && p) ≡ true → from ≡ class → p ≡ true → class ≡ false
    not_mesh true from p a passed came goes = clash (sym (rw (came, goes) (ends_false a)) ∙ passed) where
      ends_false : (a : Bool) → a && false ≡ false
      ends_false true = refl
      ends_false false = refl
    not_mesh false from p a passed came goes = refl

    pub passed_above : (first : Work) (at_me : first.edge.me ≡ me) (addresses : List Mac) (from : ℕ) → Rattle.std.specs.Prelude.position (is_wire_port q.wire) (ports_of plan row.service me) ≡ Some from
        → (p : ℕ) (x : Port) → slice_get (ports_of plan row.service me) p ≡ Some x → is_passed_to role.Core (ports_of plan row.service me) from p ≡ true → MayBy plan me may first at_me addresses x
    passed_above first at_me addresses from found p (port.Circuit circuit) at passed = tt
    passed_above first at_me addresses from found p (port.Mesh wire) at passed =
        mesh_above (not_mesh (is_mesh_class row.class) (is_mesh_port (ports_of plan row.service me) from) (is_mesh_port (ports_of plan row.service me) p)
        (is_wire_at (ports_of plan row.service me) p && not (nat_eq p from)) passed (from_class from found) (ap is_mesh at))
        wire (served_at plan row.service me p (port.Mesh wire) at)
    passed_above first at_me addresses from found p (port.Spoke wire) at passed = spoke_above wire (served_at plan row.service me p (port.Spoke wire) at)

  -- ---- all

  module _ (addresses : List Mac) (work : Work) (mended : IsMendedAt plan me.0 work.edge) where
    abbrev Clearing : Work → Type 0
    Clearing = IsClearing plan me may work mended.me addresses

    begins : Clearing work
    begins = record {
      put = record { me = refl; wires = refl; bits = refl; ends = refl; ups = λ k. refl; labels = refl; chosen = refl; priorities = refl };
      puts = puts_not plan me may work.effects;
    }

    forgets : (service : ServiceId) (from : ℕ) → Clearing (changes (withdrawing_at service addresses from) work)
    unfolding changes with_addresses
    forgets service from = record {
      put = record { me = refl; wires = refl; bits = refl; ends = refl; ups = λ k. refl; labels = refl; chosen = refl; priorities = refl };
      puts = puts_not plan me may work.effects;
    }

    forgets_me : (service : ServiceId) (from : ℕ) → (changes (withdrawing_at service addresses from) work).edge.me ≡ me
    forgets_me service from = (forgets service from).put.me ∙ mended.me

    passes : q.terminal ≡ true → (from : ℕ) → port_of_wire plan work.edge q.wire row ≡ Some from
        → Clearing (passes_on plan taken_all addresses row.service from (roles.role_of plan row.service work.edge.me) (changes (withdrawing_at row.service addresses from) work))
    passes terminal from found = by_role (is_spoke_edge plan row.service work.edge.me.0) (is_core_edge plan row.service work.edge.me.0) refl where
      begun : Work
      begun = changes (withdrawing_at row.service addresses from) work

      goes : (r : Role) → ((p : ℕ) (x : Port) → slice_get (ports_of plan row.service me) p ≡ Some x → is_passed_to r (ports_of plan row.service me) from p ≡ true → MayBy plan me may work mended.me addresses x)
          → Clearing (copies (is_passed_to r (ports_of plan row.service begun.edge.me) from) (tells_at plan taken_all addresses) 0 (ports_of plan row.service begun.edge.me) begun)
      goes r each = subst (λ (k : EdgeId). Clearing (copies (is_passed_to r (ports_of plan row.service k) from) (tells_at plan taken_all addresses) 0 (ports_of plan row.service k) begun)) (sym (forgets_me row.service from))
          (ports_clear plan me may work mended.me addresses (is_passed_to r (ports_of plan row.service me) from) 0 (ports_of plan row.service me)
          (λ k x at passed. each k x at (ap (is_passed_to r (ports_of plan row.service me) from) (sym (zero-add k)) ∙ passed)) begun (forgets row.service from))

      by_role : (spoke core : Bool) → is_spoke_edge plan row.service work.edge.me.0 ≡ spoke
          → Clearing (passes_on plan taken_all addresses row.service from (cond spoke (Some role.SpokeEdge) (cond core (Some role.Core) None)) begun)
      by_role true core is = goes role.SpokeEdge (λ p x at passed. clash passed)
      by_role false true is = goes role.Core (passed_above terminal (ap (λ (k : EdgeId). is_spoke_edge plan row.service k.0) (sym mended.me) ∙ is) work mended.me addresses from
          (ap (λ (k : EdgeId). Rattle.std.specs.Prelude.position (is_wire_port q.wire) (ports_of plan row.service k)) (sym mended.me) ∙ found))
      by_role false false is = forgets row.service from

    at_port : q.terminal ≡ true → (from : Option ℕ) → port_of_wire plan work.edge q.wire row ≡ from → Clearing (clears_at plan taken_all addresses row.service from work)
    at_port terminal None found = begins
    at_port terminal (Some from) found = passes terminal from found

    cleared : Clearing (clears_by plan taken_all addresses (Some q) work)
    cleared = by q.terminal refl where
      by : (t : Bool) → q.terminal ≡ t → Clearing (cond t (clears_wire plan taken_all addresses q (wire_row plan q.wire) work) (tells_by taken_all addresses (end_beyond plan work.edge.me q) work))
      by true terminal = subst (λ (o : Option WirePlan). Clearing (clears_wire plan taken_all addresses q o work)) (sym q_is.is) (at_port terminal (port_of_wire plan work.edge q.wire row) refl)
      by false switching = found_clears plan me may work mended.me addresses (end_beyond plan work.edge.me q)
          (λ place is. beyond_above place (ap (λ (k : EdgeId). end_beyond plan k q) (sym mended.me) ∙ is)) work begins

    -- it passes the addresses on, and mends nothing
    pub clear_rises : (fec : PwFec) → end_of_fec plan work.edge q.peer fec ≡ Some q
        → PutsMore plan me may work.effects (mends plan taken_all (hears_mac_withdraw plan taken_all q.peer (Some fec) (Some addresses) work)).effects
    clear_rises fec named =
        let heard : Work = clears_by plan taken_all addresses (Some q) work in
        subst (λ (w : Work). PutsMore plan me may work.effects (mends plan taken_all w).effects) (sym (ap (λ (o : Option EndPlace). clears_by plan taken_all addresses o work) named))
        (puts_then plan me may work.effects heard.effects (mends plan taken_all heard).effects cleared.puts
        (mended_puts_none plan me may heard (put_mended plan me work.edge heard.edge cleared.put mended)))
