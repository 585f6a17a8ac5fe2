-- In a quiet service a wire that forwards at both terminal edges carries frames: each switching point between them has both sides
-- advertised and bound.
use Rattle.std.proofs.Common.{◌≡◌, ◌≤◌, ◌==◌, ◌&&◌, ◌||◌, ◌∙◌, arith, length, not, ℕ, Bool, true, false, List, [], ◌∷◌, Option, Some, None, is_some, nat_eq, refl, sym, ap, subst}
use Rattle.std.proofs.lemmas.Bool.{eqb-true}
use Rattle.std.specs.List.{AllByRecursion, list_all}
use Rattle.net_values.proofs.BoolLemmas.{clash, first_holds, or_later}
use Rattle.net_values.proofs.NumberLemmas.{same_number}
use Rattle.net_base.specs.declared.plan.Plan.{Plan}
use Rattle.net_base.specs.declared.plan.places.EdgeId.{EdgeId}
use Rattle.net_base.specs.declared.plan.places.ServiceId.{ServiceId}
use Rattle.net_base.specs.declared.plan.places.WireId.{WireId}
use Rattle.net_base.specs.declared.plan.wire_plan.WirePlan.{WirePlan}
use Rattle.net_base.specs.declared.trace.event.Event.{Event}
use Rattle.net_base.specs.plan.Accepted.{IsChecked, IsWireOf}
use Rattle.net_base.specs.plan.Paths.{is_first, is_last, joins, mate, mate_on}
use Rattle.net_base.specs.plan.Places.{wire_row}
use Rattle.net_base.specs.plan.Roles.{are_joined_by, is_wire_of}
use Rattle.net_base.proofs.PathLemmas.{joins_turned, mate_back, mate_joined, place_of}
use Rattle.pw_signalling.specs.declared.binding.Binding.{Binding}
use Rattle.pw_signalling.specs.declared.told.Told.{Told}
use Rattle.pw_signalling.specs.End.{EndState, Advertised}
use Rattle.pw_signalling.specs.Laws.{BothAgree}
use Rattle.pw_signalling.proofs.LawLemmas.{forwards_where_both_agree}
use Rattle.pw_stitch.specs.Stitch.{has_told, is_joined_end}
use Rattle.edge_model.specs.declared.end_place.EndPlace.{EndPlace}
use Rattle.edge_model.specs.EndPlaces.{end_places, is_terminal}
use Rattle.edge_model.specs.Ends.{end_forwards, forwards_at, is_joined_place, is_stitched, wire_end}
use Rattle.edge_model.specs.Role.{down_at, role_at}
use Rattle.edge_model.specs.State.{end_at}
use Rattle.edge_model.proofs.CopyLemmas.{IsWireEnd, found_end, up_is_none}
use Rattle.edge_model.proofs.OneEndLemmas.{one_neighbour}
use Rattle.edge_model.proofs.PacketLemmas.{wire_end_is}
use Rattle.edge_model.proofs.PlaceLemmas.{IsEndOf, places_are}
use Rattle.network_model.specs.Calm.{carries, first_forwards, has_live_spokes, inner_stitched, is_calm, is_drained, is_full, is_joined_up, is_quiet, last_forwards}
use Rattle.network_model.specs.State.{NetworkState, stands}
use Rattle.flight_laws.specs.Across.{PassesOn, TellsAcross}
use Rattle.flight_laws.specs.Binding.{advertised_by, is_idle}
use Rattle.flight_laws.specs.Laws.{AreSettled, IsRun, network_after}
use Rattle.flight_laws.proofs.AcrossLemmas.{runs_tell_across}
use Rattle.flight_laws.proofs.BoundRunLemmas.{runs_settle}
use Rattle.flight_laws.proofs.PlaceLemmas.{same_row}
use Rattle.flight_laws.proofs.RuledMendLemmas.{wire_fits}
use Rattle.flight_laws.proofs.RunLemmas.{run_ordered}
use Rattle.flood_laws.proofs.DueLemmas.{last_sends}
use Rattle.flood_laws.proofs.FarLemmas.{are_settled, far_advertises, joined_by}
use Rattle.flood_laws.proofs.LinkLemmas.{IsLink}
use Rattle.flood_laws.proofs.MateLemmas.{GoesBack, Mates, OfEach, OfFirst, OfLast, from_first, from_last, mates_of, of_joined}
use Rattle.flood_laws.proofs.WholeLemmas.{wire_whole}

-- an end advertises its label
record HasTold (end : EndState) : Type 0 where
  label : ℕ
  content : Told
  is : end.local ≡ Advertised label content

-- ---- a wire of a quiet service

module _ (plan : Plan) (network : NetworkState) (service : ServiceId) (wire : WireId) (row : WirePlan) (checked : IsChecked plan) (quiet : is_quiet plan network service ≡ true)
    (settled : (a b : ℕ) → are_joined_by plan service a b ≡ true → AreSettled plan network a b) (is : wire_row plan wire ≡ Some row) (ours : is_wire_of service row ≡ true)
    (across : (me from to : EdgeId) → mate row me.0 from.0 ≡ Some to → TellsAcross plan me from to wire row (network.edges me.0))
    (placed : (k : ℕ) → (network.edges k).me ≡ record { 0 = k }) where
  row_is : IsWireOf plan row
  row_is = wire_fits plan wire row checked is

  -- an edge advertises to a neighbour
  abbrev Tells : ℕ → ℕ → Type 0
  Tells a b = HasTold ((network.edges a).ends wire.0 b)

  -- what one advertises the other one holds
  holds : (a b : ℕ) → joins a b row.path ≡ true → Tells b a → is_some ((network.edges a).ends wire.0 b).remote ≡ true
  holds a b joined told = by (stands network a b) (stands network b a) (is_drained network a b && is_drained network b a) refl refl (are_settled plan network service a b wire row checked is ours joined quiet) where
    two : AreSettled plan network a b
    two = settled a b (joined_by plan network service a b wire row checked is ours joined)

    by : (x y drained : Bool) → stands network a b ≡ x → stands network b a ≡ y → (not x && not y) || ((x && y) && drained) ≡ true → is_some ((network.edges a).ends wire.0 b).remote ≡ true
    by true true drained one other test = ap is_some (((two.up (record { one = one; other = other })).1.1 wire row is joined).near ∙ ap advertised_by told.is)
    by true false drained one other test = clash test
    by false true drained one other test = clash test
    by false false drained one other test = clash (sym (ap is_idle told.is) ∙ (two.apart one other wire row is joined).other_idle)

  -- what an edge holds, its neighbour advertises
  held_told : (a b : ℕ) (binding : Binding) → joins a b row.path ≡ true → ((network.edges a).ends wire.0 b).remote ≡ Some binding → Tells b a
  held_told a b binding joined bound = record {
    label = binding.label;
    content = binding.told;
    is = far_advertises plan network service a b wire row binding checked quiet settled is ours joined bound;
  }

  -- a switching point tells one neighbour what it holds of the other one
  passes_back : (x w y : EdgeId) → joins x.0 w.0 row.path ≡ true → mate_on row.path x.0 w.0 ≡ Some y → Tells x.0 y.0 → Tells w.0 x.0
  passes_back x w y joined mated told =
      let passes : PassesOn plan x w y wire row (network.edges x.0) told.content = (across x w y mated).advertised told.label told.content told.is in
      held_told x.0 w.0 passes.binding joined passes.held

  back : GoesBack (mate_on row.path) (λ a b. Tells a b)
  back x w y mated told = passes_back x w y (sym (joins_turned row.path w.0 x.0) ∙ beside) mated told where
    turned : (o : Option EdgeId) → mate_on row.path x.0 y.0 ≡ o → place_of o ≡ Some w.0 → joins w.0 x.0 row.path ≡ true
    turned None at found = absurd (cc found)
    turned (Some other) at found =
        let same : other.0 ≡ w.0 = cc (found) in
        sym (joins_turned row.path x.0 w.0) ∙ (ap (λ (n : ℕ). joins x.0 n row.path) (sym same) ∙ mate_joined row.path x.0 y.0 other at)

    beside : joins w.0 x.0 row.path ≡ true
    beside = turned (mate_on row.path x.0 y.0) refl (mate_back row.path x.0 w.0 y row_is.once mated)

  -- ---- a terminal edge at which it forwards tells its neighbour, and holds what the neighbour tells

  live : (e n : EdgeId) → joins e.0 n.0 row.path ≡ true → is_terminal row e ≡ true → end_forwards plan (network.edges e.0) wire ≡ true → Tells e.0 n.0 × Tells n.0 e.0
  live e n joined terminal up = by (wire_end plan (network.edges e.0).me wire) refl up where
    by : (found : Option EndPlace) → wire_end plan (network.edges e.0).me wire ≡ found → forwards_at plan (network.edges e.0) found ≡ true → Tells e.0 n.0 × Tells n.0 e.0
    by None at up = absurd (cc (up))
    by (Some place) at up =
        let end : IsEndOf plan (network.edges e.0).me place = wire_end_is plan (network.edges e.0).me wire place at in
        let ends : IsWireEnd wire place = found_end plan (network.edges e.0).me wire place at in
        let rows : end.row ≡ row = same_row end.row row (sym end.is ∙ (ap (wire_row plan) ends.of_wire ∙ is)) in
        let beside : joins e.0 place.peer.0 row.path ≡ true =
        ap (λ (r : WirePlan). joins e.0 place.peer.0 r.path) (sym rows) ∙ (ap (λ (k : EdgeId). joins k.0 place.peer.0 end.row.path) (sym (placed e.0)) ∙ end.joined) in
        let peer : place.peer.0 ≡ n.0 = one_neighbour row.path e.0 place.peer.0 n.0 row_is.once terminal beside joined in
        let agree : BothAgree (end_at (network.edges e.0) place) =
        forwards_where_both_agree (role_at plan (network.edges e.0) place) ((network.edges e.0).bits place.wire.0) (end_at (network.edges e.0) place) (up_is_none (down_at plan (network.edges e.0) place) up) in
        let same : end_at (network.edges e.0) place ≡ (network.edges e.0).ends wire.0 n.0 =
        ap (λ (w : WireId). (network.edges e.0).ends w.0 place.peer.0) ends.of_wire ∙ ap ((network.edges e.0).ends wire.0) peer in (
          record { label = agree.label; content = agree.own; is = ap (λ (s : EndState). s.local) (sym same) ∙ agree.advertises },
          held_told e.0 n.0 agree.binding joined (ap (λ (s : EndState). s.remote) (sym same) ∙ agree.bound),
        )

  -- ---- the last edge of a part of the path

  first_joined : (x y : EdgeId) (rest : List EdgeId) → joins x.0 y.0 (x ∷ y ∷ rest) ≡ true
  first_joined x y rest = rw (same_number x.0, same_number y.0) refl

  last_pair : (x y : EdgeId) → joins y.0 x.0 (x ∷ y ∷ []) ≡ true
  last_pair x y = sym (joins_turned (x ∷ y ∷ []) x.0 y.0) ∙ first_joined x y []

  last_told : (path : List EdgeId) → ((a b : ℕ) → joins a b path ≡ true → joins a b row.path ≡ true) → ((e : ℕ) → is_last e path ≡ true → is_last e row.path ≡ true)
      → last_forwards plan network wire.0 path ≡ true → OfLast (λ a b. Tells a b) path
  last_told [] within ends up = tt
  last_told (only ∷ []) within ends up = tt
  last_told (x ∷ y ∷ []) within ends up = (live y x (within y.0 x.0 (last_pair x y)) (or_later (is_first y.0 row.path) (ends y.0 (same_number y.0))) up).1
  last_told (x ∷ y ∷ z ∷ rest) within ends up = last_told (y ∷ z ∷ rest) (λ a b joined. within a b (or_later ((a == x.0 && b == y.0) || (b == x.0 && a == y.0)) joined)) ends up

  -- ---- the switching points

  module _ (on : OfEach (λ a b. Tells a b) row.path) (turned : OfEach (λ a b. Tells b a) row.path) where
    place_joined : (x : EdgeId) (place : EndPlace) → IsEndOf plan x place → is_joined_place (network.edges x.0) wire place ≡ true
    place_joined x place end = by (nat_eq place.wire.0 wire.0) refl where
      both : (b c : Bool) → b ≡ true → c ≡ true → b && c ≡ true
      both true c e h = h
      both false c e h = e

      inside : nat_eq place.wire.0 wire.0 ≡ true → is_joined_end (end_at (network.edges x.0) place) ≡ true
      inside same =
          let at : place.wire.0 ≡ wire.0 = eqb-true place.wire.0 wire.0 same in
          let rows : end.row ≡ row = same_row end.row row (sym end.is ∙ (ap (λ (n : ℕ). wire_row plan (record { 0 = n })) at ∙ is)) in
          let joined : joins x.0 place.peer.0 row.path ≡ true = ap (λ (r : WirePlan). joins x.0 place.peer.0 r.path) (sym rows) ∙ end.joined in
          let told = of_joined (λ a b. Tells a b) row.path x.0 place.peer.0 on turned joined in
          ap (λ (n : ℕ). is_joined_end ((network.edges x.0).ends n place.peer.0)) {x = place.wire.0} {y = wire.0} at
          ∙ both (has_told ((network.edges x.0).ends wire.0 place.peer.0).local) (is_some ((network.edges x.0).ends wire.0 place.peer.0).remote) (ap has_told told.0.is)
          (holds x.0 place.peer.0 joined told.1)

      by : (b : Bool) → nat_eq place.wire.0 wire.0 ≡ b → not b || is_joined_end (end_at (network.edges x.0) place) ≡ true
      by true same = inside same
      by false other = refl

    all_joined : (x : EdgeId) (places : List EndPlace) → AllByRecursion (IsEndOf plan x) places → list_all (is_joined_place (network.edges x.0) wire) places ≡ true
    all_joined x [] all = refl
    all_joined x (place ∷ places) all = rw (place_joined x place all.0) (all_joined x places all.1)

    stitched : (x : EdgeId) → is_stitched plan (network.edges x.0) wire ≡ true
    stitched x = ap (λ (m : EdgeId). list_all (is_joined_place (network.edges x.0) wire) (end_places plan m)) (placed x.0) ∙ all_joined x (end_places plan x) (places_are plan x)

    inner : (path : List EdgeId) → inner_stitched plan network wire.0 path ≡ true
    inner [] = refl
    inner (last ∷ []) = refl
    inner (point ∷ next ∷ rest) = rw (stitched point) (inner (next ∷ rest))

  -- ---- the wire

  no_path : {P : Type 0} → (path : List EdgeId) → row.path ≡ path → length path ≤ 1 → P
  no_path path at few = absurd (omega (arith, few, row_is.least, ap length at))

  -- both ends forward
  pub both_carry : first_forwards plan network wire.0 row.path ≡ true → last_forwards plan network wire.0 row.path ≡ true → carries plan network wire.0 row ≡ true
  both_carry up far = by row.path refl where
    by : (path : List EdgeId) → row.path ≡ path → carries plan network wire.0 row ≡ true
    by [] at = no_path [] at (omega arith)
    by (only ∷ []) at = no_path (only ∷ []) at (omega arith)
    by (x ∷ y ∷ rest) at =
        all _ _ _ up far (ap (λ (path : List EdgeId). is_joined_up plan network wire.0 path) at ∙ whole)
      where
        all : (a b c : Bool) → a ≡ true → b ≡ true → c ≡ true → (a && b) && c ≡ true
        all a b c one two three = rw (one, two, three) refl

        mates : Mates (mate_on row.path) row.path
        mates = mates_of row.path row_is.once

        last : OfLast (λ a b. Tells a b) row.path
        last = last_told row.path (λ a b j. j) (λ e j. j) far

        here : end_forwards plan (network.edges x.0) wire ≡ true
        here = sym (ap (first_forwards plan network wire.0) at) ∙ up

        first : is_terminal row x ≡ true
        first = ap (λ (b : Bool). b || is_last x.0 row.path) (ap (is_first x.0) at ∙ same_number x.0)

        near : Tells y.0 x.0
        near = (live x y (ap (joins x.0 y.0) at ∙ first_joined x y rest) first here).1

        start : OfFirst (λ a b. Tells a b) row.path
        start = subst (OfFirst (λ a b. Tells a b)) (sym at) near

        whole : inner_stitched plan network wire.0 (y ∷ rest) ≡ true
        whole = inner (from_last (mate_on row.path) (λ a b. Tells a b) back row.path mates last) (from_first (mate_on row.path) (λ a b. Tells a b) back row.path mates start) (y ∷ rest)

-- ---- what a copy needs of a service

-- the service is quiet, and a wire of it that forwards at both terminal edges carries frames
pub record IsSteady (plan : Plan) (network : NetworkState) (service : ServiceId) : Type 0 where
  pub quiet : is_quiet plan network service ≡ true
  pub whole : (wire : WireId) (row : WirePlan) (link : IsLink plan row) → wire_row plan wire ≡ Some row → is_wire_of service row ≡ true
      → end_forwards plan (network.edges link.near.0) wire ≡ true → end_forwards plan (network.edges link.far.0) wire ≡ true → carries plan network wire.0 row ≡ true

-- so it is in every run where it is quiet
pub run_steady : (plan : Plan) (events : List Event) (service : ServiceId) → IsRun plan events → is_quiet plan (network_after plan events) service ≡ true
    → IsSteady plan (network_after plan events) service
run_steady plan events service run quiet = record {
  quiet = quiet;
  whole = λ wire row link is ours near far.
      both_carry plan (network_after plan events) service wire row run.checked quiet (λ a b joined. runs_settle plan events run service quiet a b joined) is ours
      (λ me from to mated. runs_tell_across plan events run me from to wire row is mated) (run_ordered plan events run).placed
      (ap (first_forwards plan (network_after plan events) wire.0) link.path ∙ near)
      (ap (last_forwards plan (network_after plan events) wire.0) link.path ∙ (last_sends plan (network_after plan events) wire.0 row link ∙ far));
}

-- and where it is calm
pub calm_steady : (plan : Plan) (network : NetworkState) (service : ServiceId) → IsChecked plan → is_calm plan network service ≡ true → ((k : ℕ) → (network.edges k).me ≡ record { 0 = k })
    → IsSteady plan network service
calm_steady plan network service checked calmed placed = record {
  quiet = first_holds (is_quiet plan network service) (is_full plan network service)
      (first_holds (is_quiet plan network service && is_full plan network service) (has_live_spokes plan network service) calmed);
  whole = λ wire row link is ours near far. wire_whole plan network service wire row link checked calmed placed is ours near;
}
