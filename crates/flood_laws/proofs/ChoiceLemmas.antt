-- What a spoke edge chooses among its spokes: one that would forward.
use Rattle.std.proofs.Common.{◌≡◌, ◌∙◌, get_or, is_some, not, option_and_then, option_map, filter, slice_get, suc, zero, ℕ, Bool, true, false, List, [], ◌∷◌, Option, Some, None, refl, sym, ap, subst}
use Rattle.std.proofs.lemmas.List.Quantifiers.{position-Some}
use Rattle.std.proofs.lemmas.Option.{get_or_from_slice_get, slice_get-map}
use Rattle.std.specs.List.{AllByRecursion, list_any}
use Rattle.net_values.proofs.BoolLemmas.{clash, first_holds}
use Rattle.net_base.specs.declared.plan.Plan.{Plan}
use Rattle.net_base.specs.declared.plan.places.ServiceId.{ServiceId}
use Rattle.net_base.specs.declared.plan.places.WireId.{WireId}
use Rattle.net_base.specs.declared.trace.down.Down.{Down}
use Rattle.net_base.specs.plan.Places.{wire_row}
use Rattle.pw_signalling.specs.declared.end_role.EndRole.TheVariants as role
use Rattle.pw_signalling.specs.Down.{down}
use Rattle.spoke_redundancy.specs.declared.spoke.Spoke.{Spoke}
use Rattle.spoke_redundancy.specs.Choice.{chosen, comes_before, is_best}
use Rattle.edge_model.specs.declared.end_place.EndPlace.{EndPlace}
use Rattle.edge_model.specs.EndPlaces.{end_places}
use Rattle.edge_model.specs.Spokes.{choice, is_spoke_row, is_usable, spoke_at, spoke_places, spokes_of}
use Rattle.edge_model.specs.State.{EdgeState, end_at}

-- ---- rows

-- an item of a list that passes a test
pub record IsAmong {A : Type 0} (f : A → Bool) (xs : List A) (x : A) : Type 0 where
  pub k : ℕ
  pub at : slice_get xs k ≡ Some x
  pub passes : f x ≡ true

pub filter_at : {A : Type 0} (f : A → Bool) (xs : List A) (i : ℕ) (x : A) → slice_get (filter f xs) i ≡ Some x → IsAmong f xs x
filter_at f [] i x is = absurd (cc (is))
filter_at {A} f (y ∷ ys) i x is = by (f y) refl (λ j at. filter_at f ys j x at) where
  later : IsAmong f ys x → IsAmong f (y ∷ ys) x
  later m = record { k = suc m.k; at = m.at; passes = m.passes }

  here : f y ≡ true → (i : ℕ) → slice_get (y ∷ filter f ys) i ≡ Some x → ((j : ℕ) → slice_get (filter f ys) j ≡ Some x → IsAmong f ys x) → IsAmong f (y ∷ ys) x
  here passes zero at rest = (let same : y ≡ x = cc (at) in record { k = 0; at = ap Some same; passes = ap f (sym same) ∙ passes })
  here passes (suc j) at rest = later (rest j at)

  by : (b : Bool) → f y ≡ b → ((j : ℕ) → slice_get (filter f ys) j ≡ Some x → IsAmong f ys x) → IsAmong f (y ∷ ys) x
  by true passes rest = here passes i (rw passes at is) rest
  by false fails rest = later (rest i (rw fails at is))

-- what holds of each item holds of the one at a place
pub all_get : {A : Type 0} (P : A → Type 0) (xs : List A) (k : ℕ) (x : A) → AllByRecursion P xs → slice_get xs k ≡ Some x → P x
all_get P [] k x all is = absurd (cc (is))
all_get P (y ∷ ys) zero x all is = (let same : y ≡ x = cc (is) in subst P same all.0)
all_get P (y ∷ ys) (suc k) x all is = all_get P ys k x all.1 is

-- what holds of the item at each place holds of each item
pub all_by_place : {A : Type 0} (P : A → Type 0) (xs : List A) → ((k : ℕ) (x : A) → slice_get xs k ≡ Some x → P x) → AllByRecursion P xs
all_by_place P [] each = tt
all_by_place P (x ∷ xs) each = (each 0 x refl, all_by_place P xs (λ k y at. each (suc k) y at))

-- ---- the choice

-- the end of the spoke that an edge chooses: it would forward
pub record IsChoice (plan : Plan) (service : ServiceId) (edge : EdgeState) (wire : WireId) : Type 0 where
  pub place : EndPlace
  pub k : ℕ
  pub at : slice_get (end_places plan edge.me) k ≡ Some place
  pub wire_is : place.wire ≡ wire
  pub spoke : is_spoke_row service edge.me (wire_row plan place.wire) ≡ true
  pub usable : down role.Chosen (edge.bits place.wire.0) (end_at edge place) ≡ None

not_some : (o : Option Down) → not (is_some o) ≡ true → o ≡ None
not_some None is = refl
not_some (Some x) is = clash is

pub choice_is : (plan : Plan) (service : ServiceId) (edge : EdgeState) (wire : WireId) → choice plan edge service ≡ Some wire → IsChoice plan service edge wire
choice_is plan service edge wire is = by_number (chosen (spokes_of plan edge service)) refl is where
  places : List EndPlace
  places = spoke_places plan edge.me service

  spokes : List Spoke
  spokes = spokes_of plan edge service

  found : (i : ℕ) (place : EndPlace) → chosen spokes ≡ Some i → slice_get places i ≡ Some place → place.wire ≡ wire → IsChoice plan service edge wire
  found i place first at same =
      let best = position-Some (is_best spokes) spokes i (spoke_at edge place) first in
      let there : slice_get spokes i ≡ Some (spoke_at edge place) = slice_get-map (spoke_at edge) places i ∙ ap (option_map (spoke_at edge)) at in
      let one : get_or spokes i (spoke_at edge place) ≡ spoke_at edge place = get_or_from_slice_get spokes i (spoke_at edge place) (spoke_at edge place) there in
      let passes : is_best spokes (spoke_at edge place) ≡ true = subst (λ (s : Spoke). is_best spokes s ≡ true) one best.1 in
      let among = filter_at (λ (p : EndPlace). is_spoke_row service edge.me (wire_row plan p.wire)) (end_places plan edge.me) i place at in
      record {
        place = place;
        k = among.k;
        at = among.at;
        wire_is = same;
        spoke = among.passes;
        usable = not_some (down role.Chosen (edge.bits place.wire.0) (end_at edge place)) (first_holds (is_usable edge place) (not (list_any (comes_before (spoke_at edge place)) spokes)) passes);
      }

  wire_of : (place : EndPlace) → Some place.wire ≡ Some wire → place.wire ≡ wire
  wire_of place e = cc

  by_place : (i : ℕ) → chosen spokes ≡ Some i → (p : Option EndPlace) → slice_get places i ≡ p → option_map (λ (place : EndPlace). place.wire) p
      ≡ Some wire → IsChoice plan service edge wire
  by_place i first None at is = absurd (cc (is))
  by_place i first (Some place) at is = found i place first at (wire_of place is)

  by_number : (o : Option ℕ) → chosen spokes ≡ o → option_map (λ (place : EndPlace). place.wire) (option_and_then (slice_get places) o) ≡ Some wire
      → IsChoice plan service edge wire
  by_number None first is = absurd (cc (is))
  by_number (Some i) first is = by_place i first (slice_get places i) refl is
