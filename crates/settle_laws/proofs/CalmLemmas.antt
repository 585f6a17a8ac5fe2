-- A quiet service is calm exactly where it is sound.
use Rattle.std.proofs.Common.{◌≡◌, ◌==◌, ◌&&◌, ◌||◌, ◌+◌, ◌≤◌, ◌∙◌, arith, length, not, is_some, map, filter, option_and_then, option_map, ℕ, zero, suc, Bool, true, false, cond, List, [], ◌∷◌, Option, Some, None, slice_get, nat_eq, refl, sym, ap, subst, zero-add}
use Rattle.std.proofs.lemmas.Bool.{eqb-true, eq-eqb}
use Rattle.std.proofs.lemmas.Bool.Decides.{nat_tests}
use Rattle.std.specs.List.{AllByRecursion, find}
use Rattle.net_values.proofs.BoolLemmas.{clash, first_holds, second_holds, or_later}
use Rattle.net_values.proofs.NumberLemmas.{add_zero, next_place, same_number}
use Rattle.net_base.specs.declared.plan.Plan.{Plan}
use Rattle.net_base.specs.declared.trace.down.Down.{Down}
use Rattle.net_base.specs.plan.Accepted.{IsWireOf}
use Rattle.spoke_redundancy.specs.declared.spoke.Spoke.{Spoke}
use Rattle.spoke_redundancy.specs.Choice.{chosen}
use Rattle.net_base.specs.declared.plan.places.EdgeId.{EdgeId}
use Rattle.net_base.specs.declared.plan.places.ServiceId.{ServiceId}
use Rattle.net_base.specs.declared.plan.places.WireId.{WireId}
use Rattle.net_base.specs.declared.plan.wire_plan.WirePlan.{WirePlan}
use Rattle.net_base.specs.plan.Paths.{has_repeat, is_first, is_last, joins}
use Rattle.net_base.specs.plan.Places.{is_mesh_class, wire_row}
use Rattle.net_base.specs.plan.Roles.{all_below, any_wire, count_wires, is_core_edge, is_mesh_of, is_spoke_edge, is_spoke_from, is_wire_of}
use Rattle.pw_signalling.specs.declared.end_role.EndRole.TheVariants as role
use Rattle.pw_signalling.specs.Down.{down}
use Rattle.edge_model.specs.declared.end_place.EndPlace.{EndPlace}
use Rattle.edge_model.specs.EndPlaces.{end_places, is_named}
use Rattle.edge_model.specs.Ends.{end_forwards}
use Rattle.edge_model.specs.Role.{is_chosen, is_chosen_wire}
use Rattle.edge_model.specs.Spokes.{is_spoke_row, is_usable, spoke_at, spoke_places}
use Rattle.edge_model.specs.State.{end_at}
use Rattle.edge_model.proofs.OneEndLemmas.{one_neighbour}
use Rattle.network_model.specs.Calm.{carries, has_live_spokes, inner_stitched, is_calm, is_full, is_live_spoke, last_forwards, meshes}
use Rattle.network_model.specs.State.{NetworkState}
use Rattle.flight_laws.proofs.PlaceLemmas.{IsEndOf, NamedEnd, places_are, same_row}
use Rattle.flood_laws.proofs.ChosenLemmas.{forwards_chosen}
use Rattle.settle_laws.specs.Sound.{has_sound_meshes, has_sound_spokes, is_sound, is_sound_mesh, is_first_choice, is_sound_row, is_sound_service, is_sound_spoke, is_used, sound_choice, sound_spoke_at}
use Rattle.settle_laws.proofs.CarryLemmas.{carries_sound, down_sound, first_joined, first_not_last, is_chosen_first, is_taken, sound_carries, sound_usable}
use Rattle.flood_laws.proofs.ChoiceLemmas.{IsChoice, all_get}
use Rattle.settle_laws.specs.Laws.{HasLabels}
use Rattle.settle_laws.proofs.ChoiceLemmas.{HasChoice, makes_choice}
use Rattle.settle_laws.proofs.WireLemmas.{HasSettled, end_same, named, row_is}

-- ---- tests of wires

pub below_same : (n : ℕ) (f g : ℕ → Bool) → ((k : ℕ) → f k ≡ g k) → all_below n f ≡ all_below n g
below_same zero f g same = refl
below_same (suc n) f g same = rw (same n, below_same n f g same) refl

-- tests that agree on the rows of a list
pub any_same : (f g : ℕ → WirePlan → Bool) (place : ℕ) (rows : List WirePlan) → ((k : ℕ) (row : WirePlan) → slice_get rows k ≡ Some row → f (place + k) row ≡ g (place + k) row)
    → any_wire f place rows ≡ any_wire g place rows
any_same f g place [] same = refl
any_same f g place (row ∷ rows) same =
    let here : f place row ≡ g place row = ap (λ (n : ℕ). f n row) (add_zero place) ∙ (same 0 row refl ∙ ap (λ (n : ℕ). g n row) (sym (add_zero place))) in
    rw (here, any_same f g (place + 1) rows (λ k other is. ap (λ (n : ℕ). f n other) (next_place place k) ∙ (same (suc k) other is ∙ ap (λ (n : ℕ). g n other) (sym (next_place place k))))) refl

-- some wire that passes a test
record SomeWire (test : ℕ → WirePlan → Bool) (place : ℕ) (rows : List WirePlan) : Type 0 where
  k : ℕ
  row : WirePlan
  is : slice_get rows k ≡ Some row
  passes : test (place + k) row ≡ true

wire_found : (test : ℕ → WirePlan → Bool) (place : ℕ) (rows : List WirePlan) → any_wire test place rows ≡ true → SomeWire test place rows
wire_found test place [] some = clash some
wire_found test place (row ∷ rows) some = by (test place row) refl (λ rest. wire_found test (place + 1) rows rest) where
  by : (b : Bool) → test place row ≡ b → (any_wire test (place + 1) rows ≡ true → SomeWire test (place + 1) rows) → SomeWire test place (row ∷ rows)
  by true here further = record { k = 0; row = row; is = refl; passes = ap (λ (n : ℕ). test n row) (sym (add_zero place)) ∙ here }
  by false away further =
      let later : SomeWire test (place + 1) rows = further (rw away at some) in
      record { k = suc later.k; row = later.row; is = later.is; passes = ap (λ (n : ℕ). test n later.row) (sym (next_place place later.k)) ∙ later.passes }

wire_passes : (test : ℕ → WirePlan → Bool) (place k : ℕ) (rows : List WirePlan) (row : WirePlan) → slice_get rows k ≡ Some row → test (place + k) row ≡ true → any_wire test place rows ≡ true
wire_passes test place k [] row is passes = absurd (cc (is))
wire_passes test place zero (r ∷ rows) row is passes =
    let same : r ≡ row = cc (is) in
    rw (ap (test place) same ∙ (ap (λ (n : ℕ). test n row) (add_zero place) ∙ passes)) refl
wire_passes test place (suc k) (r ∷ rows) row is passes =
    or_later (test place r) (wire_passes test (place + 1) k rows row is (ap (λ (n : ℕ). test n row) (next_place place k) ∙ passes))

-- none passes, or one alone
count_none : (test : ℕ → WirePlan → Bool) (place : ℕ) (rows : List WirePlan) → ((k : ℕ) (row : WirePlan) → slice_get rows k ≡ Some row → test (place + k) row ≡ false) → count_wires test place rows ≡ 0
count_none test place [] none = refl
count_none test place (row ∷ rows) none =
    let here : test place row ≡ false = ap (λ (n : ℕ). test n row) (add_zero place) ∙ none 0 row refl in
    rw (here, count_none test (place + 1) rows (λ k other is. ap (λ (n : ℕ). test n other) (next_place place k) ∙ none (suc k) other is)) refl

behind_none : (k : ℕ) → nat_eq (suc k) 0 ≡ false
behind_none k = grind (arith, nat_tests)

none_behind : (k : ℕ) → nat_eq 0 (suc k) ≡ false
none_behind k = grind (arith, nat_tests)

next_apart : (k at : ℕ) → nat_eq k at ≡ false → nat_eq (suc k) (suc at) ≡ false
next_apart k at apart = grind (arith, nat_tests)

count_one : (test : ℕ → WirePlan → Bool) (place at : ℕ) (rows : List WirePlan) (row : WirePlan) → slice_get rows at ≡ Some row → test (place + at) row ≡ true
    → ((k : ℕ) (other : WirePlan) → slice_get rows k ≡ Some other → nat_eq k at ≡ false → test (place + k) other ≡ false) → count_wires test place rows ≡ 1
count_one test place at [] row is passes others = absurd (cc (is))
count_one test place zero (r ∷ rows) row is passes others =
    let same : r ≡ row = cc (is) in
    let here : test place r ≡ true = ap (test place) same ∙ (ap (λ (n : ℕ). test n row) (add_zero place) ∙ passes) in
    rw (here, count_none test (place + 1) rows (λ k other later. ap (λ (n : ℕ). test n other) (next_place place k) ∙ others (suc k) other later (behind_none k))) refl
count_one test place (suc at) (r ∷ rows) row is passes others =
    let here : test place r ≡ false = ap (λ (n : ℕ). test n r) (add_zero place) ∙ others 0 r refl (none_behind at) in
    rw (
      here,
      count_one test (place + 1) at rows row is (ap (λ (n : ℕ). test n row) (next_place place at) ∙ passes)
          (λ k other later apart. ap (λ (n : ℕ). test n other) (next_place place k) ∙ others (suc k) other later (next_apart k at apart)),
    ) refl

pub same_tests : (a b : Bool) → (a ≡ true → b ≡ true) → (b ≡ true → a ≡ true) → a ≡ b
same_tests true b on back = sym (on refl)
same_tests false true on back = back refl
same_tests false false on back = refl

not_so : (b : Bool) → (b ≡ true → false ≡ true) → b ≡ false
not_so true wrong = sym (wrong refl)
not_so false wrong = refl

no_cause : (why : Option Down) → not (is_some why) ≡ true → why ≡ None
no_cause None is = refl
no_cause (Some why) is = clash is

map_same : {A B : Type 0} (f g : A → B) (xs : List A) → AllByRecursion (λ x. f x ≡ g x) xs → map f xs ≡ map g xs
map_same f g [] all = refl
map_same f g (x ∷ xs) all = λ i. all.0 i ∷ map_same f g xs all.1 i

-- what holds of each item of a list, and of those that pass a test something else, holds so of the items that pass it
filter_all : {A : Type 0} (P Q : A → Type 0) (test : A → Bool) (xs : List A) → AllByRecursion P xs → ((x : A) → P x → test x ≡ true → Q x) → AllByRecursion Q (filter test xs)
filter_all P Q test [] all next = tt
filter_all P Q test (x ∷ xs) all next = by (test x) refl (filter_all P Q test xs all.1 next) where
  by : (b : Bool) → test x ≡ b → AllByRecursion Q (filter test xs) → AllByRecursion Q (cond b (x ∷ filter test xs) (filter test xs))
  by true passes rest = (next x all.0 passes, rest)
  by false fails rest = rest

-- the parts of what makes a spoke
record IsSpoke (service : ServiceId) (edge : ℕ) (row : WirePlan) : Type 0 where
  ours : is_wire_of service row ≡ true
  spoke : is_mesh_class row.class ≡ false
  first : is_first edge row.path ≡ true

spoke_is : (service : ServiceId) (edge : ℕ) (row : WirePlan) → is_spoke_from service edge row ≡ true → IsSpoke service edge row
spoke_is service edge row is =
    let both = first_holds (is_wire_of service row && not (is_mesh_class row.class)) (is_first edge row.path) is in
    record {
      ours = first_holds (is_wire_of service row) (not (is_mesh_class row.class)) both;
      spoke = by (is_mesh_class row.class) (second_holds (is_wire_of service row) (not (is_mesh_class row.class)) both);
      first = second_holds (is_wire_of service row && not (is_mesh_class row.class)) (is_first edge row.path) is;
    }
  where
    by : (b : Bool) → not b ≡ true → b ≡ false
    by true e = sym e
    by false e = refl

-- a path with two edges or more
record IsPath (path : List EdgeId) (edge : ℕ) : Type 0 where
  next : EdgeId
  rest : List EdgeId
  is : path ≡ record { 0 = edge } ∷ next ∷ rest

path_is : (path : List EdgeId) (edge : ℕ) → 2 ≤ length path → is_first edge path ≡ true → IsPath path edge
path_is [] edge least first = clash first
path_is (only ∷ []) edge least first = absurd (omega (arith, least))
path_is (x ∷ y ∷ rest) edge least first = record { next = y; rest = rest; is = ap (λ (n : ℕ). record { 0 = n } ∷ y ∷ rest) (sym (eqb-true edge x.0 first)) }

module _ (plan : Plan) (network : NetworkState) (service : ServiceId) (has : HasSettled plan network service) (labels : HasLabels plan network service) where
  abbrev wire_at : ℕ → WireId
  wire_at k = record { 0 = k }

  -- ---- mesh wires

  mesh_same : (k : ℕ) (row : WirePlan) → slice_get plan.wires k ≡ Some row → is_wire_of service row ≡ true → is_mesh_class row.class ≡ true → carries plan network k row ≡ is_sound network k row
  mesh_same k row is ours mesh = same_tests (carries plan network k row) (is_sound network k row)
      (carries_sound plan network service has (wire_at k) row is ours)
      (λ sound. sound_carries plan network service has (wire_at k) row is ours labels sound (rw mesh refl))

  meshes_same : (a b k : ℕ) (row : WirePlan) → slice_get plan.wires k ≡ Some row → meshes plan network service a b k row ≡ is_sound_mesh network service a b k row
  meshes_same a b k row is = by (is_mesh_of service row) refl where
    by : (m : Bool) → is_mesh_of service row ≡ m → meshes plan network service a b k row ≡ is_sound_mesh network service a b k row
    by true of = ap (λ (c : Bool). (is_mesh_of service row && ((is_first a row.path && is_last b row.path) || (is_first b row.path && is_last a row.path))) && c)
        (mesh_same k row is (first_holds (is_wire_of service row) (is_mesh_class row.class) of) (second_holds (is_wire_of service row) (is_mesh_class row.class) of))
    by false other = rw other refl

  pub full_same : is_full plan network service ≡ has_sound_meshes plan network service
  full_same = below_same (length plan.edges) _ _ (λ a. below_same (length plan.edges) _ _ (λ b.
      ap (λ (m : Bool). not (is_core_edge plan service a && is_core_edge plan service b) || (a == b || m))
      (any_same (meshes plan network service a b) (is_sound_mesh network service a b) 0 plan.wires
      (λ k row is. ap (λ (n : ℕ). meshes plan network service a b n row) (zero-add k) ∙ (meshes_same a b k row is ∙ ap (λ (n : ℕ). is_sound_mesh network service a b n row) (sym (zero-add k)))))))

  -- ---- spokes

  module _ (x : ℕ) where
    abbrev me : EdgeId
    me = record { 0 = x }

    placed : (network.edges x).me ≡ record { 0 = x }
    placed = has.ordered.placed x

    -- the spoke that the edge has chosen is sound
    chosen_sound : (wire : WireId) → IsChoice plan service (network.edges x) wire → (row : WirePlan) → wire_row plan wire ≡ Some row → is_spoke_from service x row ≡ true → is_sound network wire.0 row ≡ true
    chosen_sound wire chose row is spoke =
        let of : IsSpoke service x row = spoke_is service x row spoke in
        let fit = row_is plan network service has wire row is of.ours in
        let path : IsPath row.path x = path_is row.path x fit.least of.first in
        let end : IsEndOf plan me chose.place =
        all_get (IsEndOf plan me) (end_places plan me) chose.k chose.place (places_are plan me) (ap (λ (m : EdgeId). slice_get (end_places plan m) chose.k) (sym placed) ∙ chose.at) in
        let rows : end.row ≡ row = same_row end.row row (sym end.is ∙ (ap (wire_row plan) chose.wire_is ∙ is)) in
        let beside : joins x chose.place.peer.0 row.path ≡ true = ap (λ (r : WirePlan). joins x chose.place.peer.0 r.path) (sym rows) ∙ end.joined in
        let next : joins x path.next.0 row.path ≡ true = ap (joins x path.next.0) path.is ∙ first_joined me path.next path.rest in
        let peer : chose.place.peer.0 ≡ path.next.0 = one_neighbour row.path x chose.place.peer.0 path.next.0 fit.once (rw of.first refl) beside next in
        down_sound plan network service has wire row is of.ours me path.next path.rest path.is role.Chosen
        (ap (λ (n : ℕ). down role.Chosen ((network.edges x).bits wire.0) ((network.edges x).ends wire.0 n)) (sym peer)
        ∙ (ap (λ (w : WireId). down role.Chosen ((network.edges x).bits w.0) ((network.edges x).ends w.0 chose.place.peer.0)) (sym chose.wire_is) ∙ chose.usable))

    -- its row
    record ChosenRow (wire : WireId) : Type 0 where
      row : WirePlan
      is : wire_row plan wire ≡ Some row
      spoke : is_spoke_from service x row ≡ true

    chosen_row : (wire : WireId) → IsChoice plan service (network.edges x) wire → ChosenRow wire
    chosen_row wire chose = by (wire_row plan chose.place.wire) refl chose.spoke where
      by : (o : Option WirePlan) → wire_row plan chose.place.wire ≡ o → is_spoke_row service (network.edges x).me o ≡ true → ChosenRow wire
      by None at spoke = clash spoke
      by (Some row) at spoke = record { row = row; is = ap (wire_row plan) (sym chose.wire_is) ∙ at; spoke = ap (λ (m : EdgeId). is_spoke_from service m.0 row) (sym placed) ∙ spoke }

    -- an edge with a sound spoke has chosen one
    sound_chosen : (k : ℕ) (row : WirePlan) → slice_get plan.wires k ≡ Some row → is_spoke_from service x row ≡ true → is_sound network k row ≡ true → HasChoice plan service (network.edges x)
    sound_chosen k row is spoke sound =
        let of : IsSpoke service x row = spoke_is service x row spoke in
        let fit = row_is plan network service has (wire_at k) row is of.ours in
        let path : IsPath row.path x = path_is row.path x fit.least of.first in
        let next : joins x path.next.0 row.path ≡ true = ap (joins x path.next.0) path.is ∙ first_joined me path.next path.rest in
        let end : NamedEnd plan me path.next (wire_at k) row = named plan network service has (wire_at k) row is of.ours me path.next next in
        let same = end_same plan network service has (wire_at k) row is of.ours me path.next next in
        let up : down role.Chosen ((network.edges x).bits k) ((network.edges x).ends k path.next.0) ≡ None =
        sound_usable plan network service has (wire_at k) row is of.ours labels sound me path.next path.rest path.is in
        makes_choice plan service (network.edges x) (is_named path.next row.pw_id) end.place
        (ap (λ (m : EdgeId). find (is_named path.next row.pw_id) (end_places plan m)) placed ∙ end.named)
        (ap (λ (m : EdgeId). is_spoke_row service m (wire_row plan end.place.wire)) placed ∙ (ap (λ (o : Option WirePlan). is_spoke_row service me o) (ap (wire_row plan) end.wire_is ∙ is) ∙ spoke))
        (ap (λ (w : WireId). down role.Chosen ((network.edges x).bits w.0) (end_at (network.edges x) end.place)) end.wire_is ∙ (ap (down role.Chosen ((network.edges x).bits k)) same ∙ up))

    -- a spoke that carries frames is the chosen one
    live_chosen : (k : ℕ) (row : WirePlan) → slice_get plan.wires k ≡ Some row → is_spoke_from service x row ≡ true → carries plan network k row ≡ true → (network.edges x).chosen row.service.0 ≡ Some (wire_at k)
    live_chosen k row is spoke live =
        let of : IsSpoke service x row = spoke_is service x row spoke in
        let fit = row_is plan network service has (wire_at k) row is of.ours in
        let path : IsPath row.path x = path_is row.path x fit.least of.first in
        forwards_chosen plan (network.edges x) (wire_at k) row is of.spoke
        (ap (λ (m : EdgeId). is_last m.0 row.path) placed ∙ (ap (is_last x) path.is ∙ first_not_last me path.next path.rest (ap has_repeat (sym path.is) ∙ fit.once)))
        (first_holds (end_forwards plan (network.edges x) (wire_at k)) (last_forwards plan network k (me ∷ path.next ∷ path.rest))
        (first_holds (end_forwards plan (network.edges x) (wire_at k) && last_forwards plan network k (me ∷ path.next ∷ path.rest)) (inner_stitched plan network k (path.next ∷ path.rest)) (rw path.is at live)))

    -- a sound spoke that is chosen carries frames
    chosen_live : (k : ℕ) (row : WirePlan) → slice_get plan.wires k ≡ Some row → is_spoke_from service x row ≡ true → is_sound network k row ≡ true → is_chosen (network.edges x).chosen (wire_at k) row ≡ true
        → carries plan network k row ≡ true
    chosen_live k row is spoke sound chosen =
        let of : IsSpoke service x row = spoke_is service x row spoke in
        let path : IsPath row.path x = path_is row.path x (row_is plan network service has (wire_at k) row is of.ours).least of.first in
        sound_carries plan network service has (wire_at k) row is of.ours labels sound (rw (of.spoke, path.is) chosen)

    service_same : (row : WirePlan) → is_wire_of service row ≡ true → row.service.0 ≡ service.0
    service_same row ours = eqb-true row.service.0 service.0 ours

    -- with one spoke that is sound one carries frames, and it alone
    one_live : SomeWire (is_sound_spoke network service x) 0 plan.wires → count_wires (is_live_spoke plan network service x) 0 plan.wires ≡ 1
    one_live some =
        let at : is_sound_spoke network service x some.k some.row ≡ true = ap (λ (n : ℕ). is_sound_spoke network service x n some.row) (sym (zero-add some.k)) ∙ some.passes in
        let made : HasChoice plan service (network.edges x) =
        sound_chosen some.k some.row some.is (first_holds (is_spoke_from service x some.row) (is_sound network some.k some.row) at) (second_holds (is_spoke_from service x some.row) (is_sound network some.k some.row) at) in
        let best : ChosenRow made.wire = chosen_row made.wire made.choice_is in
        let of : IsSpoke service x best.row = spoke_is service x best.row best.spoke in
        let now : (network.edges x).chosen service.0 ≡ Some made.wire = (has.mended x).chosen service.0 ∙ made.is in
        let is : is_chosen (network.edges x).chosen made.wire best.row ≡ true =
        ap (λ (n : ℕ). is_chosen_wire made.wire ((network.edges x).chosen n)) (service_same best.row of.ours) ∙ (ap (is_chosen_wire made.wire) now ∙ same_number made.wire.0) in
        let live : carries plan network made.wire.0 best.row ≡ true = chosen_live made.wire.0 best.row best.is best.spoke (chosen_sound made.wire made.choice_is best.row best.is best.spoke) is in
        count_one (is_live_spoke plan network service x) 0 made.wire.0 plan.wires best.row best.is
        (ap (λ (n : ℕ). is_live_spoke plan network service x n best.row) (zero-add made.wire.0) ∙ rw (best.spoke, live) refl)
        (λ k other is apart. ap (λ (n : ℕ). is_live_spoke plan network service x n other) (zero-add k)
        ∙ not_so (is_live_spoke plan network service x k other) (λ lives. sym apart ∙ alone made.wire now k other is lives))
      where
        alone : (wire : WireId) → (network.edges x).chosen service.0 ≡ Some wire → (k : ℕ) (other : WirePlan) → slice_get plan.wires k ≡ Some other → is_live_spoke plan network service x k other ≡ true → nat_eq k wire.0 ≡ true
        alone wire now k other is lives =
            let spoke : is_spoke_from service x other ≡ true = first_holds (is_spoke_from service x other) (carries plan network k other) lives in
            let of : IsSpoke service x other = spoke_is service x other spoke in
            let also : (network.edges x).chosen other.service.0 ≡ Some (wire_at k) = live_chosen k other is spoke (second_holds (is_spoke_from service x other) (carries plan network k other) lives) in
            let both : Some (wire_at k) ≡ Some wire = sym also ∙ (ap (network.edges x).chosen (service_same other of.ours) ∙ now) in
            let same : wire_at k ≡ wire = cc (both) in
            eq-eqb k wire.0 (ap (λ (w : WireId). w.0) same)

    live_same : (count_wires (is_live_spoke plan network service x) 0 plan.wires == 1) ≡ any_wire (is_sound_spoke network service x) 0 plan.wires
    live_same = by (any_wire (is_sound_spoke network service x) 0 plan.wires) refl where
      by : (b : Bool) → any_wire (is_sound_spoke network service x) 0 plan.wires ≡ b → (count_wires (is_live_spoke plan network service x) 0 plan.wires == 1) ≡ any_wire (is_sound_spoke network service x) 0 plan.wires
      by true some = rw (some, one_live (wire_found (is_sound_spoke network service x) 0 plan.wires some)) refl
      by false none = rw (none, count_none (is_live_spoke plan network service x) 0 plan.wires (λ k row is. dead k row is)) refl where
        dead : (k : ℕ) (row : WirePlan) → slice_get plan.wires k ≡ Some row → is_live_spoke plan network service x (0 + k) row ≡ false
        dead k row is = ap (λ (n : ℕ). is_live_spoke plan network service x n row) (zero-add k) ∙ not_so (is_live_spoke plan network service x k row) wrong where
          wrong : is_live_spoke plan network service x k row ≡ true → false ≡ true
          wrong lives =
              let spoke : is_spoke_from service x row ≡ true = first_holds (is_spoke_from service x row) (carries plan network k row) lives in
              let of : IsSpoke service x row = spoke_is service x row spoke in
              let sound : is_sound network k row ≡ true = carries_sound plan network service has (wire_at k) row is of.ours (second_holds (is_spoke_from service x row) (carries plan network k row) lives) in
              sym none ∙ wire_passes (is_sound_spoke network service x) 0 k plan.wires row is (ap (λ (n : ℕ). is_sound_spoke network service x n row) (zero-add k) ∙ rw (spoke, sound) refl)

  pub spokes_same : has_live_spokes plan network service ≡ has_sound_spokes plan network service
  spokes_same = below_same (length plan.edges) _ _ (λ x. ap (λ (b : Bool). not (is_spoke_edge plan service x) || b) (live_same x))

  pub calm_same : is_calm plan network service ≡ is_sound_service plan network service
  calm_same = rw (has.quiet, full_same, spokes_same) refl

  -- ---- the choice

  module _ (x : ℕ) where
    abbrev here : EdgeId
    here = record { 0 = x }

    -- a spoke of the edge would forward there, were it chosen, exactly where it is sound
    usable_same : (place : EndPlace) → IsEndOf plan here place → is_spoke_row service here (wire_row plan place.wire) ≡ true → spoke_at (network.edges x) place ≡ sound_spoke_at plan network x place
    usable_same place end spoke = λ i. record { priority = (network.edges x).priority place.wire.0; usable = usable i } where
      of : IsSpoke service x end.row
      of = spoke_is service x end.row (ap (is_spoke_row service here) (sym end.is) ∙ spoke)

      fit : IsWireOf plan end.row
      fit = row_is plan network service has place.wire end.row end.is of.ours

      path : IsPath end.row.path x
      path = path_is end.row.path x fit.least of.first

      next : joins x path.next.0 end.row.path ≡ true
      next = ap (joins x path.next.0) path.is ∙ first_joined here path.next path.rest

      peer : place.peer.0 ≡ path.next.0
      peer = one_neighbour end.row.path x place.peer.0 path.next.0 fit.once (rw of.first refl) end.joined next

      same : down role.Chosen ((network.edges x).bits place.wire.0) (end_at (network.edges x) place) ≡ down role.Chosen ((network.edges x).bits place.wire.0) ((network.edges x).ends place.wire.0 path.next.0)
      same = ap (λ (n : ℕ). down role.Chosen ((network.edges x).bits place.wire.0) ((network.edges x).ends place.wire.0 n)) peer

      usable : is_usable (network.edges x) place ≡ is_sound_row network place.wire.0 (wire_row plan place.wire)
      usable = same_tests (is_usable (network.edges x) place) (is_sound network place.wire.0 end.row)
          (λ up. down_sound plan network service has place.wire end.row end.is of.ours here path.next path.rest path.is role.Chosen
          (sym same ∙ no_cause (down role.Chosen ((network.edges x).bits place.wire.0) (end_at (network.edges x) place)) up))
          (λ sound. ap (λ (why : Option Down). not (is_some why)) (same ∙ sound_usable plan network service has place.wire end.row end.is of.ours labels sound here path.next path.rest path.is))
          ∙ ap (is_sound_row network place.wire.0) (sym end.is)

    pub chooses_sound : (network.edges x).chosen service.0 ≡ sound_choice plan network service x
    chooses_sound =
        (has.mended x).chosen service.0
        ∙ (ap (λ (m : EdgeId). option_map (λ (p : EndPlace). p.wire) (option_and_then (slice_get (spoke_places plan m service)) (chosen (map (spoke_at (network.edges x)) (spoke_places plan m service))))) (has.ordered.placed x)
        ∙ ap (λ (spokes : List Spoke). option_map (λ (p : EndPlace). p.wire) (option_and_then (slice_get (spoke_places plan here service)) (chosen spokes)))
        (map_same (spoke_at (network.edges x)) (sound_spoke_at plan network x) (spoke_places plan here service)
        (filter_all (IsEndOf plan here) (λ p. spoke_at (network.edges x) p ≡ sound_spoke_at plan network x p) (λ (p : EndPlace). is_spoke_row service here (wire_row plan p.wire))
        (end_places plan here) (places_are plan here) usable_same)))

  -- ---- a wire

  pub carries_same : (wire : WireId) (row : WirePlan) → wire_row plan wire ≡ Some row → is_wire_of service row ≡ true → carries plan network wire.0 row ≡ (is_sound network wire.0 row && is_used plan network wire row)
  carries_same wire row is ours =
      same_tests (carries plan network wire.0 row) (is_sound network wire.0 row && is_taken network wire row)
      (λ live. rw (carries_sound plan network service has wire row is ours live, taken live) refl)
      (λ both. sound_carries plan network service has wire row is ours labels (first_holds (is_sound network wire.0 row) (is_taken network wire row) both) (second_holds (is_sound network wire.0 row) (is_taken network wire row) both))
      ∙ ap (λ (b : Bool). is_sound network wire.0 row && (is_mesh_class row.class || b)) (first_same row.path)
    where
      taken : carries plan network wire.0 row ≡ true → is_taken network wire row ≡ true
      taken live = by (is_mesh_class row.class) refl where
        by : (mesh : Bool) → is_mesh_class row.class ≡ mesh → is_taken network wire row ≡ true
        by true mesh = rw mesh refl
        by false spoke = of row.path refl where
          of : (path : List EdgeId) → row.path ≡ path → is_taken network wire row ≡ true
          of [] at = clash (rw at at live)
          of (x ∷ rest) at =
              let chosen : (network.edges x.0).chosen row.service.0 ≡ Some wire = live_chosen x.0 wire.0 row is (rw (ours, spoke, at, same_number x.0) refl) live in
              rw (spoke, at, chosen, same_number wire.0) refl

      of_service : service ≡ row.service
      of_service = ap (λ (n : ℕ). record { 0 = n }) (sym (eqb-true row.service.0 service.0 ours))

      first_same : (path : List EdgeId) → is_chosen_first network wire row path ≡ is_first_choice plan network wire row path
      first_same [] = refl
      first_same (x ∷ rest) = ap (is_chosen_wire wire) (subst (λ (s : ServiceId). (network.edges x.0).chosen s.0 ≡ sound_choice plan network s x.0) of_service (chooses_sound x.0))
