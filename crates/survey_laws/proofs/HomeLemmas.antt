-- The core edge of each spoke edge of a service that is at rest: the last edge of the spoke that it chooses among its sound ones.
use Rattle.std.proofs.Common.{◌≡◌, ◌+◌, ◌&&◌, ◌||◌, ◌∙◌, arith, ℕ, zero, suc, Bool, true, false, cond, get_or, not, map, nat_eq, List, [], ◌∷◌, Option, Some, None, option_and_then, option_map, slice_get, zero-add, refl, sym, ap, subst}
use Rattle.std.proofs.lemmas.Bool.{eqb-true}
use Rattle.std.proofs.lemmas.Bool.Decides.{nat_tests}
use Rattle.std.proofs.lemmas.List.Quantifiers.{position-Some}
use Rattle.std.proofs.lemmas.Option.{get_or_from_slice_get, slice_get-map}
use Rattle.std.specs.List.{list_any}
use Rattle.net_values.proofs.BoolLemmas.{clash, first_holds, second_holds}
use Rattle.net_values.proofs.NumberLemmas.{add_zero, next_place, same_number}
use Rattle.net_base.specs.declared.plan.Plan.{Plan}
use Rattle.net_base.specs.declared.plan.places.EdgeId.{EdgeId}
use Rattle.net_base.specs.declared.plan.places.ServiceId.{ServiceId}
use Rattle.net_base.specs.declared.plan.places.WireId.{WireId}
use Rattle.net_base.specs.declared.plan.wire_plan.WirePlan.{WirePlan}
use Rattle.net_base.specs.plan.Paths.{is_first}
use Rattle.net_base.specs.plan.Places.{is_mesh_class, wire_row}
use Rattle.net_base.specs.plan.Roles.{is_spoke_from, is_wire_of}
use Rattle.spoke_redundancy.specs.declared.spoke.Spoke.{Spoke}
use Rattle.spoke_redundancy.specs.Choice.{chosen, comes_before, is_best}
use Rattle.edge_model.specs.declared.end_place.EndPlace.{EndPlace}
use Rattle.edge_model.specs.EndPlaces.{end_places}
use Rattle.edge_model.specs.Role.{is_chosen_wire}
use Rattle.edge_model.specs.Spokes.{is_spoke_row, spoke_places}
use Rattle.network_model.specs.Calm.{carries, is_live_spoke}
use Rattle.network_model.specs.Reach.{home_among, home_of, last_place}
use Rattle.network_model.specs.State.{NetworkState}
use Rattle.flood_laws.proofs.ChoiceLemmas.{filter_at}
use Rattle.settle_laws.specs.Sound.{is_first_choice, is_sound, is_sound_row, is_used, sound_choice, sound_spoke_at}
use Rattle.survey_laws.specs.Would.{last_of}

-- ---- the spoke that is chosen

-- the end of a wire that is chosen among these: it can be chosen
record ChosenPlace (f : EndPlace → Spoke) (places : List EndPlace) (wire : WireId) : Type 0 where
  i : ℕ
  place : EndPlace
  at : slice_get places i ≡ Some place
  wire_is : place.wire ≡ wire
  usable : (f place).usable ≡ true

chosen_place : (f : EndPlace → Spoke) (places : List EndPlace) (wire : WireId)
    → option_map (λ (place : EndPlace). place.wire) (option_and_then (slice_get places) (chosen (map f places))) ≡ Some wire → ChosenPlace f places wire
chosen_place f places wire is = by_number (chosen (map f places)) refl is where
  found : (i : ℕ) (place : EndPlace) → chosen (map f places) ≡ Some i → slice_get places i ≡ Some place → place.wire ≡ wire → ChosenPlace f places wire
  found i place first at same =
      let best = position-Some (is_best (map f places)) (map f places) i (f place) first in
      let there : slice_get (map f places) i ≡ Some (f place) = slice_get-map f places i ∙ ap (option_map f) at in
      let one : get_or (map f places) i (f place) ≡ f place = get_or_from_slice_get (map f places) i (f place) (f place) there in
      let passes : is_best (map f places) (f place) ≡ true = subst (λ (s : Spoke). is_best (map f places) s ≡ true) one best.1 in
      record {
        i = i;
        place = place;
        at = at;
        wire_is = same;
        usable = first_holds (f place).usable (not (list_any (comes_before (f place)) (map f places))) passes;
      }

  wire_of : (place : EndPlace) → Some place.wire ≡ Some wire → place.wire ≡ wire
  wire_of place e = cc

  by_place : (i : ℕ) → chosen (map f places) ≡ Some i → (p : Option EndPlace) → slice_get places i ≡ p → option_map (λ (place : EndPlace). place.wire) p ≡ Some wire
      → ChosenPlace f places wire
  by_place i first None at is = absurd (cc (is))
  by_place i first (Some place) at is = found i place first at (wire_of place is)

  by_number : (o : Option ℕ) → chosen (map f places) ≡ o → option_map (λ (place : EndPlace). place.wire) (option_and_then (slice_get places) o) ≡ Some wire
      → ChosenPlace f places wire
  by_number None first is = absurd (cc (is))
  by_number (Some i) first is = by_place i first (slice_get places i) refl is

-- a wire is live where it is a spoke and carries frames, which it does where it is sound and chosen; and what is chosen is a sound spoke
lives : (spoke sound chosen live : Bool) → (spoke ≡ true → live ≡ sound && chosen) → (chosen ≡ true → spoke ≡ true) → (chosen ≡ true → sound ≡ true) → spoke && live ≡ chosen
lives true true chosen live is of on = is refl
lives true false true live is of on = clash (on refl)
lives true false false live is of on = is refl
lives false sound true live is of on = clash (of refl)
lives false sound false live is of on = refl

apart_later : (place at wire : ℕ) → wire ≡ place + suc at → nat_eq wire (place + 0) ≡ false
apart_later place at wire is = grind (arith, nat_tests)

module _ (plan : Plan) (network : NetworkState) (service : ServiceId) (x : ℕ)
    (carried : (wire : WireId) (row : WirePlan) → wire_row plan wire ≡ Some row → is_wire_of service row ≡ true
    → carries plan network wire.0 row ≡ (is_sound network wire.0 row && is_used plan network wire row)) where
  abbrev here : EdgeId
  here = record { 0 = x }

  abbrev wire_at : ℕ → WireId
  wire_at k = record { 0 = k }

  abbrev choice : Option WireId
  choice = sound_choice plan network service x

  -- a spoke of the edge is used where it is chosen
  used_is : (k : ℕ) (row : WirePlan) → is_spoke_from service x row ≡ true → is_used plan network (wire_at k) row ≡ is_chosen_wire (wire_at k) choice
  used_is k row spoke =
      ap (λ (mesh : Bool). mesh || is_first_choice plan network (wire_at k) row row.path) (no_mesh (is_mesh_class row.class) (second_holds (is_wire_of service row) (not (is_mesh_class row.class)) both))
      ∙ by row.path (second_holds (is_wire_of service row && not (is_mesh_class row.class)) (is_first x row.path) spoke)
    where
      both : is_wire_of service row && not (is_mesh_class row.class) ≡ true
      both = first_holds (is_wire_of service row && not (is_mesh_class row.class)) (is_first x row.path) spoke

      no_mesh : (b : Bool) → not b ≡ true → b ≡ false
      no_mesh true e = sym e
      no_mesh false e = refl

      same : row.service ≡ service
      same = ap (λ (n : ℕ). record { 0 = n }) (eqb-true row.service.0 service.0 (first_holds (is_wire_of service row) (not (is_mesh_class row.class)) both))

      by : (path : List EdgeId) → is_first x path ≡ true → is_first_choice plan network (wire_at k) row path ≡ is_chosen_wire (wire_at k) choice
      by [] first = clash first
      by (start ∷ rest) first =
          ap (λ (s : ServiceId). is_chosen_wire (wire_at k) (sound_choice plan network s start.0)) same
          ∙ ap (λ (n : ℕ). is_chosen_wire (wire_at k) (sound_choice plan network service n)) (sym (eqb-true x start.0 first))

  -- the chosen wire is a sound spoke of the edge
  record IsSoundSpoke (k : ℕ) (row : WirePlan) : Type 0 where
    spoke : is_spoke_from service x row ≡ true
    sound : is_sound network k row ≡ true

  chosen_spoke : (k : ℕ) (row : WirePlan) → slice_get plan.wires k ≡ Some row → is_chosen_wire (wire_at k) choice ≡ true → IsSoundSpoke k row
  chosen_spoke k row is chosen = by choice refl chosen where
    by : (o : Option WireId) → choice ≡ o → is_chosen_wire (wire_at k) o ≡ true → IsSoundSpoke k row
    by None at chosen = clash chosen
    by (Some wire) at chosen =
        let chose : ChosenPlace (sound_spoke_at plan network x) (spoke_places plan here service) wire = chosen_place (sound_spoke_at plan network x) (spoke_places plan here service) wire at in
        let among = filter_at (λ (p : EndPlace). is_spoke_row service here (wire_row plan p.wire)) (end_places plan here) chose.i chose.place chose.at in
        let same : chose.place.wire ≡ wire_at k = chose.wire_is ∙ ap (λ (n : ℕ). record { 0 = n }) (eqb-true wire.0 k chosen) in
        let row_is : wire_row plan chose.place.wire ≡ Some row = ap (wire_row plan) same ∙ is in
        record {
          spoke = ap (is_spoke_row service here) (sym row_is) ∙ among.passes;
          sound = ap (is_sound_row network k) (sym row_is) ∙ (ap (λ (w : WireId). is_sound_row network w.0 (wire_row plan chose.place.wire)) (sym same) ∙ chose.usable);
        }

  -- and it alone is the live spoke of it
  live_is : (k : ℕ) (row : WirePlan) → slice_get plan.wires k ≡ Some row → is_live_spoke plan network service x k row ≡ is_chosen_wire (wire_at k) choice
  live_is k row is = lives (is_spoke_from service x row) (is_sound network k row) (is_chosen_wire (wire_at k) choice) (carries plan network k row)
      (λ spoke. carried (wire_at k) row is (ours spoke) ∙ ap (λ (used : Bool). is_sound network k row && used) (used_is k row spoke))
      (λ chosen. (chosen_spoke k row is chosen).spoke)
      (λ chosen. (chosen_spoke k row is chosen).sound)
    where
      ours : is_spoke_from service x row ≡ true → is_wire_of service row ≡ true
      ours spoke = first_holds (is_wire_of service row) (not (is_mesh_class row.class))
          (first_holds (is_wire_of service row && not (is_mesh_class row.class)) (is_first x row.path) spoke)

  -- ---- its core edge

  -- where one wire alone is live
  home_at : (place : ℕ) (rows : List WirePlan) (wire at : ℕ) → wire ≡ place + at
      → ((k : ℕ) (row : WirePlan) → slice_get rows k ≡ Some row → is_live_spoke plan network service x (place + k) row ≡ nat_eq wire (place + k))
      → home_among plan network service x place rows ≡ last_of (slice_get rows at)
  home_at place [] wire at is live = refl
  home_at place (row ∷ rows) wire zero is live =
      ap (λ (b : Bool). cond b (last_place row.path) (home_among plan network service x (place + 1) rows))
      (ap (λ (n : ℕ). is_live_spoke plan network service x n row) (add_zero place) ∙ (live 0 row refl ∙ (ap (nat_eq wire) (sym is) ∙ same_number wire)))
  home_at place (row ∷ rows) wire (suc at) is live =
      ap (λ (b : Bool). cond b (last_place row.path) (home_among plan network service x (place + 1) rows))
      (ap (λ (n : ℕ). is_live_spoke plan network service x n row) (add_zero place) ∙ (live 0 row refl ∙ apart_later place at wire is))
      ∙ home_at (place + 1) rows wire at (is ∙ sym (next_place place at)) (λ k other later.
      ap (λ (n : ℕ). is_live_spoke plan network service x n other) (next_place place k) ∙ (live (suc k) other later ∙ ap (nat_eq wire) (sym (next_place place k))))

  -- where none is
  home_none : (place : ℕ) (rows : List WirePlan) → ((k : ℕ) (row : WirePlan) → slice_get rows k ≡ Some row → is_live_spoke plan network service x (place + k) row ≡ false)
      → home_among plan network service x place rows ≡ None
  home_none place [] live = refl
  home_none place (row ∷ rows) live =
      ap (λ (b : Bool). cond b (last_place row.path) (home_among plan network service x (place + 1) rows))
      (ap (λ (n : ℕ). is_live_spoke plan network service x n row) (add_zero place) ∙ live 0 row refl)
      ∙ home_none (place + 1) rows (λ k other later. ap (λ (n : ℕ). is_live_spoke plan network service x n other) (next_place place k) ∙ live (suc k) other later)

  pub home_is : home_of plan network service x ≡ option_and_then (λ (wire : WireId). last_of (wire_row plan wire)) choice
  home_is = by choice refl where
    live_at : (k : ℕ) (row : WirePlan) → slice_get plan.wires k ≡ Some row → is_live_spoke plan network service x (0 + k) row ≡ is_chosen_wire (wire_at k) choice
    live_at k row is = ap (λ (n : ℕ). is_live_spoke plan network service x n row) (zero-add k) ∙ live_is k row is

    by : (o : Option WireId) → choice ≡ o → home_of plan network service x ≡ option_and_then (λ (wire : WireId). last_of (wire_row plan wire)) o
    by None at = home_none 0 plan.wires (λ k row is. live_at k row is ∙ ap (is_chosen_wire (wire_at k)) at)
    by (Some wire) at = home_at 0 plan.wires wire.0 wire.0 (sym (zero-add wire.0))
        (λ k row is. live_at k row is ∙ (ap (is_chosen_wire (wire_at k)) at ∙ ap (nat_eq wire.0) (sym (zero-add k))))
