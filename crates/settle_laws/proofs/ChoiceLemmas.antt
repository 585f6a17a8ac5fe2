-- What a spoke edge has chosen: of its spokes that would forward, one, if there is one.
use Rattle.std.proofs.Common.{◌≡◌, ◌<◌, ◌||◌, ◌∙◌, arith, cond, filter, is_some, map, option_and_then, option_map, slice_get, length, nat_lt, suc, zero, ℕ, Bool, true, false, List, [], ◌∷◌, Option, Some, None, refl, sym, ap, subst}
use Rattle.std.proofs.lemmas.Bool.Decides.{nat_tests}
use Rattle.std.proofs.lemmas.List.Quantifiers.{position-Some}
use Rattle.std.specs.List.{find, list_any}
use Rattle.net_values.proofs.BoolLemmas.{clash, or_later}
use Rattle.net_base.specs.declared.plan.Plan.{Plan}
use Rattle.net_base.specs.declared.plan.places.ServiceId.{ServiceId}
use Rattle.net_base.specs.declared.plan.places.WireId.{WireId}
use Rattle.net_base.specs.plan.Places.{wire_row}
use Rattle.pw_signalling.specs.declared.end_role.EndRole.TheVariants as role
use Rattle.pw_signalling.specs.Down.{down}
use Rattle.spoke_redundancy.specs.declared.spoke.Spoke.{Spoke}
use Rattle.spoke_redundancy.specs.Choice.{chosen, is_best, is_usable_spoke}
use Rattle.spoke_redundancy.specs.Least.{IsLeast, is_less, is_usable_below}
use Rattle.spoke_redundancy.proofs.ChoiceLemmas.{chosen_is, none_is}
use Rattle.edge_model.specs.declared.end_place.EndPlace.{EndPlace}
use Rattle.edge_model.specs.EndPlaces.{end_places}
use Rattle.edge_model.specs.Spokes.{choice, is_spoke_row, is_usable, spoke_at, spoke_places, spokes_of}
use Rattle.edge_model.specs.State.{EdgeState, end_at}
use Rattle.flood_laws.proofs.ChoiceLemmas.{IsChoice, choice_is}

-- ---- a usable spoke makes a choice

record HasLeast (spokes : List Spoke) : Type 0 where
  least : Option ℕ
  is : IsLeast spokes least

none_usable : (spoke : Spoke) (number : ℕ) → spoke.usable ≡ false → is_usable_below number spoke ≡ false
none_usable spoke number unused = rw unused refl

abbrev lesser : ℕ → Option ℕ → ℕ
lesser priority None = priority
lesser priority (Some least) = cond (nat_lt least priority) least priority

lesser_is : (priority number : ℕ) (least : Option ℕ) → nat_lt priority number || is_less least number ≡ nat_lt (lesser priority least) number
lesser_is priority number None = by (nat_lt priority number) where
  by : (b : Bool) → b || false ≡ b
  by true = refl
  by false = refl
lesser_is priority number (Some least) = by (nat_lt least priority) refl where
  by : (b : Bool) → nat_lt least priority ≡ b → nat_lt priority number || nat_lt least number ≡ nat_lt (cond b least priority) number
  by true is = grind (arith, nat_tests)
  by false is = grind (arith, nat_tests)

least_of : (spokes : List Spoke) → HasLeast spokes
least_of [] = record { least = None; is = record { below = λ number. refl } }
least_of (spoke ∷ spokes) = by spoke.usable refl (least_of spokes) where
  by : (b : Bool) → spoke.usable ≡ b → HasLeast spokes → HasLeast (spoke ∷ spokes)
  by false unused rest = record { least = rest.least; is = record { below = λ number. rw (none_usable spoke number unused) (rest.is.below number) } }
  by true used rest = record {
    least = Some (lesser spoke.priority rest.least);
    is = record { below = λ number. rw (used, rest.is.below number) (lesser_is spoke.priority number rest.least) };
  }

some_chosen : (spokes : List Spoke) → list_any is_usable_spoke spokes ≡ true → is_some (chosen spokes) ≡ true
some_chosen spokes some = by (chosen spokes) refl where
  has : HasLeast spokes
  has = least_of spokes

  by : (o : Option ℕ) → chosen spokes ≡ o → is_some (chosen spokes) ≡ true
  by None at = clash (sym ((none_is spokes has.least has.is).0 (chosen_is spokes has.least has.is ∙ at)) ∙ some)
  by (Some i) at = ap is_some at

-- a usable spoke of an edge is one of its spokes
usable_among : (edge : EdgeState) (test wanted : EndPlace → Bool) (places : List EndPlace) (place : EndPlace) → find wanted places ≡ Some place → test place ≡ true → is_usable edge place ≡ true
    → list_any is_usable_spoke (map (spoke_at edge) (filter test places)) ≡ true
usable_among edge test wanted [] place is spoke usable = absurd (cc (is))
usable_among edge test wanted (p ∷ ps) place is spoke usable = by (wanted p) is (λ rest. usable_among edge test wanted ps place rest spoke usable) where
  here : p ≡ place → list_any is_usable_spoke (map (spoke_at edge) (filter test (p ∷ ps))) ≡ true
  here same = rw (ap test same ∙ spoke, ap (is_usable edge) same ∙ usable) refl

  later : list_any is_usable_spoke (map (spoke_at edge) (filter test ps)) ≡ true → list_any is_usable_spoke (map (spoke_at edge) (filter test (p ∷ ps))) ≡ true
  later rest = of (test p) where
    of : (b : Bool) → list_any is_usable_spoke (map (spoke_at edge) (cond b (p ∷ filter test ps) (filter test ps))) ≡ true
    of true = or_later (is_usable edge p) rest
    of false = rest

  by : (b : Bool) → cond b (Some p) (find wanted ps) ≡ Some place → (find wanted ps ≡ Some place → list_any is_usable_spoke (map (spoke_at edge) (filter test ps)) ≡ true)
      → list_any is_usable_spoke (map (spoke_at edge) (filter test (p ∷ ps))) ≡ true
  by true is rest = (let same : p ≡ place = cc (is) in here same)
  by false is rest = later (rest is)

-- ---- the choice

-- an edge chooses a spoke, one that would forward
pub record HasChoice (plan : Plan) (service : ServiceId) (edge : EdgeState) : Type 0 where
  pub wire : WireId
  pub is : choice plan edge service ≡ Some wire
  pub choice_is : IsChoice plan service edge wire

some_place : {A : Type 0} (xs : List A) (i : ℕ) → i < length xs → is_some (slice_get xs i) ≡ true
some_place [] i within = absurd (omega (arith, within))
some_place (x ∷ xs) zero within = refl
some_place (x ∷ xs) (suc i) within = some_place xs i (omega (arith, within))

mapped_length : {A B : Type 0} (f : A → B) (xs : List A) → length (map f xs) ≡ length xs
mapped_length f [] = refl
mapped_length f (x ∷ xs) = ap suc (mapped_length f xs)

module _ (plan : Plan) (service : ServiceId) (edge : EdgeState) where
  abbrev places : List EndPlace
  places = spoke_places plan edge.me service

  abbrev spokes : List Spoke
  spokes = spokes_of plan edge service

  -- an edge with a usable spoke makes a choice
  pub makes_choice : (wanted : EndPlace → Bool) (place : EndPlace) → find wanted (end_places plan edge.me) ≡ Some place → is_spoke_row service edge.me (wire_row plan place.wire) ≡ true
      → down role.Chosen (edge.bits place.wire.0) (end_at edge place) ≡ None → HasChoice plan service edge
  makes_choice wanted place is spoke up = by_number (chosen spokes) refl (some_chosen spokes any) where
    any : list_any is_usable_spoke spokes ≡ true
    any = usable_among edge (λ (p : EndPlace). is_spoke_row service edge.me (wire_row plan p.wire)) wanted (end_places plan edge.me) place is spoke (rw up refl)

    by_place : (i : ℕ) → chosen spokes ≡ Some i → (p : Option EndPlace) → slice_get places i ≡ p → is_some p ≡ true → HasChoice plan service edge
    by_place i first None at some = clash some
    by_place i first (Some q) at some =
        let is : choice plan edge service ≡ Some q.wire =
        ap (λ (o : Option ℕ). option_map (λ (p : EndPlace). p.wire) (option_and_then (slice_get places) o)) first ∙ ap (option_map (λ (p : EndPlace). p.wire)) at in
        record { wire = q.wire; is = is; choice_is = choice_is plan service edge q.wire is }

    by_number : (o : Option ℕ) → chosen spokes ≡ o → is_some (chosen spokes) ≡ true → HasChoice plan service edge
    by_number None at some = clash (ap is_some (sym at) ∙ some)
    by_number (Some i) at some =
        let within : i < length spokes = (position-Some (is_best spokes) spokes i (spoke_at edge place) at).0 in
        by_place i at (slice_get places i) refl (some_place places i (subst (λ (n : ℕ). i < n) (mapped_length (spoke_at edge) places) within))
