-- Two edges that the service joins: the two are joined back, and are no one edge.
use Rattle.flight_laws.proofs.PlanLemmas.{joined_apart}
use Rattle.net_base.proofs.PathLemmas.{joins_turned}
use Rattle.net_base.specs.declared.plan.Plan.{Plan}
use Rattle.net_base.specs.declared.plan.places.ServiceId.{ServiceId}
use Rattle.net_base.specs.declared.plan.wire_plan.WirePlan.{WirePlan}
use Rattle.net_base.specs.plan.Accepted.{IsChecked}
use Rattle.net_base.specs.plan.Paths.{joins}
use Rattle.net_base.specs.plan.Roles.{are_joined_by, is_wire_of}
use Rattle.net_values.proofs.BoolLemmas.{clash}
use Rattle.std.proofs.Common.{Bool, List, [], false, nat_eq, refl, sym, true, ℕ, ◌&&◌, ◌∙◌, ◌∷◌, ◌≡◌}
use Rattle.std.proofs.lemmas.Bool.{or_right, and_parts}
use Rattle.std.specs.List.{list_any}

any_weaker : {A : Type 0} (test other : A → Bool) (xs : List A) → ((x : A) → test x ≡ true → other x ≡ true) → list_any test xs ≡ true → list_any other xs ≡ true
any_weaker test other [] follows some = clash some
any_weaker test other (x ∷ xs) follows some = by (test x) refl (any_weaker test other xs follows) where
  by : (b : Bool) → test x ≡ b → (list_any test xs ≡ true → list_any other xs ≡ true) → list_any other (x ∷ xs) ≡ true
  by true here rest = rw (follows x here) refl
  by false away rest = or_right (other x) (list_any other xs) (rest (rw away at some))

pub joined_back : (plan : Plan) (service : ServiceId) (a b : ℕ) → are_joined_by plan service a b ≡ true → are_joined_by plan service b a ≡ true
joined_back plan service a b joined = any_weaker (λ (r : WirePlan). is_wire_of service r && joins a b r.path) (λ (r : WirePlan). is_wire_of service r && joins b a r.path) plan.wires
    (λ r is. (let parts = and_parts (is_wire_of service r) (joins a b r.path) is in rw (parts.0) (sym (joins_turned r.path a b) ∙ parts.1))) joined

pub joined_away : (plan : Plan) (service : ServiceId) (a b : ℕ) → IsChecked plan → are_joined_by plan service a b ≡ true → nat_eq a b ≡ false
joined_away plan service a b checked joined = joined_apart plan a b checked
    (any_weaker (λ (r : WirePlan). is_wire_of service r && joins a b r.path) (λ (r : WirePlan). joins a b r.path) plan.wires
    (λ r is. (and_parts (is_wire_of service r) (joins a b r.path) is).1) joined)
