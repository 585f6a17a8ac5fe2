-- Tests of edges, of pairs of edges and of wires one after another.
use Rattle.std.proofs.Common.{◌≡◌, ◌==◌, ◌<◌, ◌≤◌, ◌+◌, ◌∙◌, ◌&&◌, ◌||◌, ℕ, zero, suc, Bool, true, false, List, cond, drop, get_or, length, refl, sym, ap, ap₂, arith, inl, inr}
use Rattle.std.proofs.lemmas.Bool.{and_from, and_left, and_right, cases_order}
use Rattle.std.proofs.lemmas.List.{drop_all, drop_more}
use Rattle.std.proofs.lemmas.Option.{slice_get-get_or}
use Rattle.std.specs.Prelude.{not}
use Rattle.net_base.specs.declared.plan.Plan.{Plan}
use Rattle.net_base.specs.declared.plan.places.ServiceId.{ServiceId}
use Rattle.net_base.specs.declared.plan.wire_plan.WirePlan.{WirePlan}
use Rattle.net_base.specs.plan.Accepted.{IsWithinLimits}
use Rattle.net_base.specs.plan.Roles.{all_below, any_wire, are_joined_by, count_wires, is_core_edge}
use Rattle.calm_services.specs.declared.service_edges.ServiceEdges.{ServiceEdges}
use Rattle.calm_services.specs.Calm.{all_pairs, is_full_where, is_quiet_where, meshes_where}
use Rattle.calm_services.specs.EdgePairs.{AreEdgesOf, AreJoined, AreMeshed, has_pair, is_core_of}

-- ---- edges

-- it holds of one number more
pub below_more : (test : ℕ → Bool) (i : ℕ) → all_below i test ≡ true → test i ≡ true → all_below (i + 1) test ≡ true
below_more test i below here =
    let next : i + 1 ≡ suc i = omega arith in
    rw next (and_from (test i) (all_below i test) here below)

-- it does not hold of one number
pub below_fails : (test : ℕ → Bool) (n i : ℕ) → i < n → test i ≡ false → all_below n test ≡ false
below_fails test zero i within fails = absurd (omega arith)
below_fails test (suc n) i within fails = elim (cases_order i n) [
  | inl same ↦ and_left (test n) (all_below n test) (sym (ap test same) ∙ fails)
  | inr rest ↦ elim rest [
    | inl under ↦ and_right (test n) (all_below n test) (below_fails test n i under fails)
    | inr over ↦ absurd (omega arith)
  ]
]

-- ---- pairs of edges

below_same : (n : ℕ) (f g : ℕ → Bool) → ((k : ℕ) → k < n → f k ≡ g k) → all_below n f ≡ all_below n g
below_same zero f g same = refl
below_same (suc n) f g same = ap₂ (λ (s t : Bool). s && t) (same n (omega arith)) (below_same n f g (λ k less. same k (omega (arith, less))))

pairs_same : (n : ℕ) (f g : ℕ → ℕ → Bool) → ((a b : ℕ) → a < n → b < n → f a b ≡ g a b) → all_pairs n f ≡ all_pairs n g
pairs_same n f g same = below_same n (λ a. all_below n (f a)) (λ a. all_below n (g a)) (λ a low. below_same n (f a) (g a) (λ b under. same a b low under))

-- the pairs are those that the service joins
pub quiet_by : (plan : Plan) (settled : ℕ → ℕ → Bool) (service : ServiceId) (rows : List ℕ) → IsWithinLimits plan → AreJoined plan service rows
    → all_pairs (length plan.edges) (λ a b. not (has_pair rows a b) || settled a b) ≡ is_quiet_where plan settled service
quiet_by plan settled service rows limits joined =
    pairs_same (length plan.edges) (λ a b. not (has_pair rows a b) || settled a b) (λ a b. not (are_joined_by plan service a b) || settled a b)
    (λ a b low under. ap (λ (t : Bool). not t || settled a b) (joined a b (omega (arith, low, limits.edges)) (omega (arith, under, limits.edges))))

-- the pairs are those that mesh wires join, and the edges those of the service
pub full_by : (plan : Plan) (carries : ℕ → WirePlan → Bool) (service : ServiceId) (edges : ServiceEdges) (rows : List ℕ) → IsWithinLimits plan → AreEdgesOf plan service edges → AreMeshed plan carries service rows
    → all_pairs (length plan.edges) (λ a b. not (is_core_of edges a && is_core_of edges b) || (a == b || has_pair rows a b)) ≡ is_full_where plan carries service
full_by plan carries service edges rows limits are meshed =
    pairs_same (length plan.edges) (λ a b. not (is_core_of edges a && is_core_of edges b) || (a == b || has_pair rows a b))
    (λ a b. not (is_core_edge plan service a && is_core_edge plan service b) || (a == b || any_wire (meshes_where carries service a b) 0 plan.wires))
    (λ a b low under. ap₂ (λ (s t : Bool). not s || (a == b || t)) (ap₂ (λ (s t : Bool). s && t) (core a low) (core b under)) (meshed a b (omega (arith, low, limits.edges)) (omega (arith, under, limits.edges)))) where
      core : (e : ℕ) → e < length plan.edges → is_core_of edges e ≡ is_core_edge plan service e
      core e less = ap₂ (λ (s t : Bool). s && not t) (are.ports e (omega (arith, less, limits.edges))) (are.spokes e (omega (arith, less, limits.edges)))

-- ---- wires

pub count_more : (test : ℕ → WirePlan → Bool) (place : ℕ) (rows : List WirePlan) (row : WirePlan) → place < length rows
    → count_wires test place (drop place rows) ≡ cond (test place (get_or rows place row)) 1 0 + count_wires test (place + 1) (drop (place + 1) rows)
count_more test place rows row within = ap (count_wires test place) (drop_more rows place row within)

pub count_end : (test : ℕ → WirePlan → Bool) (place : ℕ) (rows : List WirePlan) → length rows ≤ place → count_wires test place (drop place rows) ≡ 0
count_end test place rows past = ap (count_wires test place) (drop_all place rows past)

pub ruleset wire_steps = (count_more, count_end, slice_get-get_or)
