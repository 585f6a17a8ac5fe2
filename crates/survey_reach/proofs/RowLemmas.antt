-- Lists by places.
use Rattle.std.proofs.Common.{◌≡◌, ◌<◌, ◌+◌, ◌++◌, ◌∙◌, ℕ, Bool, true, false, List, [], ◌∷◌, Option, None, IfSome, cond, length, nat_eq, slice_index_or, refl, ap, arith, sym, subst}
use Rattle.std.proofs.lemmas.Bool.Decides.{nat_tests}
use Rattle.std.proofs.lemmas.Bool.{eqb-true}
use Rattle.std.proofs.lemmas.List.{length_push}
use Rattle.net_values.proofs.RowLemmas.{index_end}
use Rattle.net_base.specs.declared.plan.Plan.{Plan}
use Rattle.net_base.specs.declared.plan.places.EdgeId.{EdgeId}
use Rattle.net_base.specs.declared.plan.places.ServiceId.{ServiceId}
use Rattle.network_model.specs.State.{NetworkState}
use Rattle.survey_laws.specs.declared.fault.Fault.{Fault}
use Rattle.survey_laws.specs.Would.{would_core}
use Rattle.survey_reach.specs.Reach.{AreCores, place_of}
use Rattle.survey_reach.specs.Rows.{IsFilled}

pub filled_none : {B : Type 0} (given : ℕ → B) (none : B) → IsFilled given none 0 []
filled_none given none = record { all = refl; each = λ place below. absurd (omega (arith, below)) }

-- an item was pushed that is what is given for the next place
pub filled_more : {B : Type 0} (given : ℕ → B) (none : B) (count : ℕ) (items more : List B) (item : B) → IsFilled given none count items → item ≡ given count → more ≡ items ++ item ∷ []
    → IsFilled given none (count + 1) more
filled_more given none count items more item so_far is pushed = subst (IsFilled given none (count + 1)) (sym pushed) (record {
  all = omega (arith, joined, so_far.all);
  each = λ place below. index_end items item none place ∙ by place below (nat_eq place (length items)) refl;
})
  where
    joined : length (items ++ item ∷ []) ≡ length items + 1
    joined = grind (arith, length_push items item)

    by : (place : ℕ) → place < count + 1 → (b : Bool) → nat_eq place (length items) ≡ b → cond b item (slice_index_or items place none) ≡ given place
    by place below true same = is ∙ ap given (sym (eqb-true place (length items) same ∙ so_far.all))
    by place below false other = so_far.each place (grind (arith, nat_tests, below, other, so_far.all))

-- ---- core edges

pub cores_none : (plan : Plan) (before : NetworkState) (faults : List Fault) (service : ServiceId) → AreCores plan before faults service 0 []
cores_none plan before faults service = record { all = refl; each = λ edge below. absurd (omega (arith, below)); few = record { each = λ edge. tt } }

pub cores_more : (plan : Plan) (before : NetworkState) (faults : List Fault) (service : ServiceId) (count : ℕ) (cores more : List (Option EdgeId)) (core : Option EdgeId)
    → AreCores plan before faults service count cores → place_of core ≡ would_core plan before faults service count → IfSome core (λ edge. edge.0 < 64) → more ≡ cores ++ core ∷ []
    → AreCores plan before faults service (count + 1) more
cores_more plan before faults service count cores more core so_far is few pushed = subst (AreCores plan before faults service (count + 1)) (sym pushed) (record {
  all = omega (arith, joined, so_far.all);
  each = λ edge below. ap place_of (index_end cores core None edge) ∙ by edge below (nat_eq edge (length cores)) refl;
  few = record { each = λ edge. subst (λ (e : Option EdgeId). IfSome e (λ core. core.0 < 64)) (sym (index_end cores core None edge)) (by_few edge (nat_eq edge (length cores))) };
})
  where
    joined : length (cores ++ core ∷ []) ≡ length cores + 1
    joined = grind (arith, length_push cores core)

    by_few : (edge : ℕ) (b : Bool) → IfSome (cond b core (slice_index_or cores edge None)) (λ core. core.0 < 64)
    by_few edge true = few
    by_few edge false = so_far.few.each edge

    by : (edge : ℕ) → edge < count + 1 → (b : Bool) → nat_eq edge (length cores) ≡ b → place_of (cond b core (slice_index_or cores edge None)) ≡ would_core plan before faults service edge
    by edge below true same = is ∙ ap (would_core plan before faults service) (sym (eqb-true edge (length cores) same ∙ so_far.all))
    by edge below false other = so_far.each edge (grind (arith, nat_tests, below, other, so_far.all))
