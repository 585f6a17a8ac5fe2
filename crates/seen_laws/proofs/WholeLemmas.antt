-- In a quiet service a wire carries frames where it is seen up at both terminal edges.
use Rattle.std.proofs.Common.{◌≡◌, ◌≤◌, ◌==◌, ◌&&◌, ◌||◌, ◌∙◌, arith, length, ℕ, Bool, true, false, List, [], ◌∷◌, Option, Some, None, refl, sym, ap}
use Rattle.std.proofs.lemmas.Bool.{eq-eqb}
use Rattle.net_values.proofs.BoolLemmas.{or_later}
use Rattle.net_values.proofs.NumberLemmas.{same_number}
use Rattle.net_values.proofs.RowLemmas.{found_is_any}
use Rattle.net_base.specs.declared.plan.Plan.{Plan}
use Rattle.net_base.specs.declared.plan.places.EdgeId.{EdgeId}
use Rattle.net_base.specs.declared.plan.places.ServiceId.{ServiceId}
use Rattle.net_base.specs.declared.plan.places.WireId.{WireId}
use Rattle.net_base.specs.declared.plan.wire_plan.WirePlan.{WirePlan}
use Rattle.net_base.specs.declared.trace.down.Down.{Down}
use Rattle.net_base.specs.plan.Accepted.{IsChecked, IsWireOf}
use Rattle.net_base.specs.plan.Paths.{is_first, is_last, joins, mate}
use Rattle.net_base.specs.plan.Places.{wire_row}
use Rattle.net_base.specs.plan.Roles.{are_joined_by, is_wire_of}
use Rattle.net_base.proofs.PathLemmas.{joins_turned}
use Rattle.edge_model.specs.EndPlaces.{end_places, ends_here, is_end_of_wire, is_named, is_terminal}
use Rattle.edge_model.specs.Ends.{end_forwards, is_up}
use Rattle.edge_model.proofs.PlaceLemmas.{IsEndOf, places_are}
use Rattle.edge_model.proofs.SyncLemmas.{forwards_as_told}
use Rattle.network_model.specs.Calm.{carries, first_forwards, is_joined_up, is_quiet, last_forwards}
use Rattle.network_model.specs.State.{NetworkState}
use Rattle.flight_laws.specs.Across.{TellsAcross}
use Rattle.flight_laws.specs.Laws.{AreSettled}
use Rattle.flight_laws.proofs.PlaceLemmas.{IsFound, NamedEnd, end_of, find_holds}
use Rattle.flight_laws.proofs.RuledMendLemmas.{wire_fits}
use Rattle.flood_laws.proofs.JoinedLemmas.{both_carry}
use Rattle.seen_network.specs.Calm.{is_seen_up, last_up}
use Rattle.seen_network.specs.Seen.{Seen, is_shown_up}
use Rattle.seen_laws.proofs.SyncRunLemmas.{IsSyncedAt}

-- ---- a wire of a quiet service

module _ (plan : Plan) (network : NetworkState) (service : ServiceId) (wire : WireId) (row : WirePlan) (checked : IsChecked plan) (quiet : is_quiet plan network service ≡ true)
    (settled : (a b : ℕ) → are_joined_by plan service a b ≡ true → AreSettled plan network a b) (is : wire_row plan wire ≡ Some row) (ours : is_wire_of service row ≡ true)
    (across : (me from to : EdgeId) → mate row me.0 from.0 ≡ Some to → TellsAcross plan me from to wire row (network.edges me.0))
    (synced : (k : ℕ) → IsSyncedAt plan k (network.edges k)) where
  row_is : IsWireOf plan row
  row_is = wire_fits plan wire row checked is

  -- ---- a terminal edge forwards where it has told so

  module _ (e n : EdgeId) (joined : joins e.0 n.0 row.path ≡ true) (terminal : is_terminal row e ≡ true) where
    named : NamedEnd plan e n wire row
    named = end_of plan e n wire row checked is joined

    placed : IsFound (IsEndOf plan e) (is_named n row.pw_id) named.place
    placed = find_holds (IsEndOf plan e) (is_named n row.pw_id) (end_places plan e) named.place (places_are plan e) named.named

    at_end : named.place.terminal ≡ true
    at_end =
        let rows : Some placed.holds.row ≡ Some row = sym placed.holds.is ∙ (ap (wire_row plan) named.wire_is ∙ is) in
        let same : placed.holds.row ≡ row = cc (rows) in
        placed.holds.terminal ∙ (ap (λ (r : WirePlan). is_terminal r e) same ∙ terminal)

    me_is : (network.edges e.0).me ≡ e
    me_is = (synced e.0).me

    pub here : ends_here plan (network.edges e.0).me wire ≡ true
    here = ap (λ (m : EdgeId). ends_here plan m wire) me_is
        ∙ found_is_any (is_named n row.pw_id) (is_end_of_wire wire) (end_places plan e) named.place named.named
        (rw (eq-eqb named.place.wire.0 wire.0 (ap (λ (w : WireId). w.0) named.wire_is), at_end) refl)

    pub forwards_told : end_forwards plan (network.edges e.0) wire ≡ is_shown_up ((network.edges e.0).told_down wire.0)
    forwards_told = forwards_as_told plan (network.edges e.0) wire (synced e.0).synced here ∙ same_up ((network.edges e.0).told_down wire.0) where
      same_up : (d : Option Down) → is_up d ≡ is_shown_up d
      same_up None = refl
      same_up (Some why) = refl

  -- ---- what is seen of the wire is so

  module _ (seen : Seen) (shown_up : (a : ℕ) → seen.up a wire.0 ≡ is_shown_up ((network.edges a).told_down wire.0)) where
    first_joined : (x y : EdgeId) (rest : List EdgeId) → joins x.0 y.0 (x ∷ y ∷ rest) ≡ true
    first_joined x y rest = rw (same_number x.0, same_number y.0) refl

    last_pair : (x y : EdgeId) → joins y.0 x.0 (x ∷ y ∷ []) ≡ true
    last_pair x y = sym (joins_turned (x ∷ y ∷ []) x.0 y.0) ∙ first_joined x y []

    ends_last : (y : EdgeId) → is_last y.0 row.path ≡ true → is_terminal row y ≡ true
    ends_last y last = or_later (is_first y.0 row.path) last

    ends_first : (x : EdgeId) → is_first x.0 row.path ≡ true → is_terminal row x ≡ true
    ends_first x first = rw first refl

    -- at the last edge of a part of the path
    last_same : (path : List EdgeId) → ((a b : ℕ) → joins a b path ≡ true → joins a b row.path ≡ true) → ((e : ℕ) → is_last e path ≡ true → is_last e row.path ≡ true)
        → (x y : EdgeId) (rest : List EdgeId) → path ≡ x ∷ y ∷ rest
        → last_up seen wire.0 (x ∷ y ∷ rest) ≡ last_forwards plan network wire.0 (x ∷ y ∷ rest)
    last_same path within ends x y [] at =
        let joined : joins y.0 x.0 row.path ≡ true = within y.0 x.0 (ap (joins y.0 x.0) at ∙ last_pair x y) in
        let terminal : is_terminal row y ≡ true = ends_last y (ends y.0 (ap (is_last y.0) at ∙ same_number y.0)) in
        shown_up y.0 ∙ sym (forwards_told y x joined terminal)
    last_same path within ends x y (z ∷ rest) at =
        last_same (y ∷ z ∷ rest) (λ a b joined. within a b (ap (joins a b) at ∙ or_later ((a == x.0 && b == y.0) || (b == x.0 && a == y.0)) joined))
        (λ e last. ends e (ap (is_last e) at ∙ last)) y z rest refl

    no_path : {P : Type 0} → (path : List EdgeId) → row.path ≡ path → length path ≤ 1 → P
    no_path path at few = absurd (omega (arith, few, row_is.least, ap length at))

    -- at both
    ends_same : is_seen_up seen wire.0 row ≡ first_forwards plan network wire.0 row.path && last_forwards plan network wire.0 row.path
    ends_same = by row.path refl where
      by : (path : List EdgeId) → row.path ≡ path → is_seen_up seen wire.0 row ≡ first_forwards plan network wire.0 row.path && last_forwards plan network wire.0 row.path
      by [] at = no_path [] at (omega arith)
      by (only ∷ []) at = no_path (only ∷ []) at (omega arith)
      by (x ∷ y ∷ rest) at = rw at (ap (λ (b : Bool). b && last_up seen wire.0 (x ∷ y ∷ rest)) first_same
          ∙ ap (λ (b : Bool). end_forwards plan (network.edges x.0) wire && b) (last_same row.path (λ a b j. j) (λ e j. j) x y rest at))
        where
          first_same : seen.up x.0 wire.0 ≡ end_forwards plan (network.edges x.0) wire
          first_same = shown_up x.0 ∙ sym (forwards_told x y (ap (joins x.0 y.0) at ∙ first_joined x y rest) (ends_first x (ap (is_first x.0) at ∙ same_number x.0)))

    -- and then it is stitched between them
    ends_carry : first_forwards plan network wire.0 row.path && last_forwards plan network wire.0 row.path ≡ carries plan network wire.0 row
    ends_carry = by (first_forwards plan network wire.0 row.path) (last_forwards plan network wire.0 row.path) refl refl where
      none : (a b : Bool) → a && b ≡ false → first_forwards plan network wire.0 row.path ≡ a → last_forwards plan network wire.0 row.path ≡ b
          → first_forwards plan network wire.0 row.path && last_forwards plan network wire.0 row.path ≡ carries plan network wire.0 row
      none a b down here there =
          let both : first_forwards plan network wire.0 row.path && last_forwards plan network wire.0 row.path ≡ false =
          ap (λ (t : Bool). t && last_forwards plan network wire.0 row.path) here ∙ (ap (λ (t : Bool). a && t) there ∙ down) in
          both ∙ sym (ap (λ (t : Bool). t && is_joined_up plan network wire.0 row.path) both)

      by : (p q : Bool) → first_forwards plan network wire.0 row.path ≡ p → last_forwards plan network wire.0 row.path ≡ q
          → first_forwards plan network wire.0 row.path && last_forwards plan network wire.0 row.path ≡ carries plan network wire.0 row
      by true true here there =
          ap (λ (t : Bool). t && last_forwards plan network wire.0 row.path) here
          ∙ (there ∙ sym (both_carry plan network service wire row checked quiet settled is ours across (λ k. (synced k).me) here there))
      by true false here there = none true false refl here there
      by false q here there = none false q refl here there

    pub carried : is_seen_up seen wire.0 row ≡ carries plan network wire.0 row
    carried = ends_same ∙ ends_carry
