-- What a case changes in a service, edge by edge.
use Rattle.std.proofs.Common.{◌≡◌, ◌≤◌, ◌<◌, ◌+◌, ◌&&◌, ◌||◌, ◌∙◌, not, if◌then◌else◌, ℕ, Bool, true, false, List, [], ◌∷◌, Some, cond, drop, length, nat_eq, nat_lt, refl, ap, arith, sym}
use Rattle.std.specs.List.{All, list_any}
use Rattle.std.proofs.lemmas.Bool.{eqb-true, le-ltb, lt-ltb}
use Rattle.std.proofs.lemmas.List.{drop_all}
use Rattle.std.proofs.lemmas.List.Elements.{All-head, All-tail}
use Rattle.net_values.proofs.BoolLemmas.{and_true, clash_at, first_holds, second_holds}
use Rattle.net_values.proofs.NumberLemmas.{from_none, lt_next}
use Rattle.net_base.specs.declared.plan.Plan.{Plan}
use Rattle.net_base.specs.declared.plan.circuit_plan.CircuitPlan.{CircuitPlan}
use Rattle.net_base.specs.declared.plan.edge_plan.EdgePlan.{EdgePlan}
use Rattle.net_base.specs.declared.plan.places.ServiceId.{ServiceId}
use Rattle.net_base.specs.plan.Accepted.{IsChecked, IsCircuitOf}
use Rattle.net_base.specs.plan.Roles.{is_circuit_at}
use Rattle.network_model.specs.Reach.{is_row_on}
use Rattle.network_model.specs.State.{NetworkState}
use Rattle.survey_laws.specs.declared.fault.Fault.{Fault}
use Rattle.survey_laws.specs.Would.{would_reach}
use Rattle.survey_reach.specs.Reach.{reaches}
use Rattle.survey_reach.specs.Words.{has_pair, in_word}
use Rattle.survey_text.specs.declared.change.Change.{Change}
use Rattle.survey_text.specs.declared.service.Service.{Service}
use Rattle.survey_text.specs.Cases.{changes_beside}
use Rattle.survey_text.specs.Relations.{any_edge, any_pair, are_apart, count_sites, find, has_site, is_site_at, lose, sites_of}
use Rattle.survey_text.specs.Surveys.{IsLeft, IsService, is_less}
use Rattle.survey_text.proofs.EdgeLemmas.{any_same, any_step}

-- ---- pairs that are made row by row

rows_none : (test : ℕ → ℕ → Bool) (pairs : List ℕ) → ((a b : ℕ) → has_pair pairs a b ≡ false) → (a b : ℕ) → has_pair pairs a b ≡ nat_lt a 0 && test a b
rows_none test pairs none a b = none a b ∙ sym (ap (λ (t : Bool). t && test a b) (le-ltb a 0 (omega arith)))

rows_more : (test : ℕ → ℕ → Bool) (old new : List ℕ) (edge row : ℕ) → ((a b : ℕ) → has_pair old a b ≡ nat_lt a edge && test a b) → ((k : ℕ) → in_word row k ≡ test edge k)
    → ((i j : ℕ) → has_pair new i j ≡ cond (nat_eq i edge) (in_word row j) (has_pair old i j)) → (a b : ℕ) → has_pair new a b ≡ nat_lt a (edge + 1) && test a b
rows_more test old new edge row so_far made put a b = put a b ∙ by (nat_eq a edge) refl where
  by : (t : Bool) → nat_eq a edge ≡ t → cond t (in_word row b) (has_pair old a b) ≡ nat_lt a (edge + 1) && test a b
  by false apart = so_far a b ∙ ap (λ (t : Bool). t && test a b) (sym (lt_next a edge apart))
  by true same =
      let here : a ≡ edge = eqb-true a edge same in
      let below : nat_lt a (edge + 1) ≡ true = lt-ltb a (edge + 1) (omega (arith, here)) in
      (made b ∙ ap (λ (e : ℕ). test e b) (sym here)) ∙ sym (ap (λ (t : Bool). t && test a b) below)

-- those of a first relation that are none of a second one
pub less_none : (at : ℕ) (first second pairs : List ℕ) → ((a b : ℕ) → has_pair pairs a b ≡ false) → (a b : ℕ) → has_pair pairs a b ≡ is_less 0 at first second a b
less_none at first second = rows_none (λ a b. (in_word at a && in_word at b) && (has_pair first a b && not (has_pair second a b)))

pub less_more : (at : ℕ) (first second old new : List ℕ) (edge row : ℕ) → ((a b : ℕ) → has_pair old a b ≡ is_less edge at first second a b)
    → ((k : ℕ) → in_word row k ≡ (in_word at edge && in_word at k) && (has_pair first edge k && not (has_pair second edge k)))
    → ((i j : ℕ) → has_pair new i j ≡ cond (nat_eq i edge) (in_word row j) (has_pair old i j)) → (a b : ℕ) → has_pair new a b ≡ is_less (edge + 1) at first second a b
less_more at first second = rows_more (λ a b. (in_word at a && in_word at b) && (has_pair first a b && not (has_pair second a b)))

pub ruleset less_steps = (less_none, less_more)

-- any two of which the second one is of these
pub two_none : (at : ℕ) (pairs : List ℕ) → ((a b : ℕ) → has_pair pairs a b ≡ false) → (a b : ℕ) → has_pair pairs a b ≡ nat_lt a 0 && in_word at b
two_none at = rows_none (λ a b. in_word at b)

pub two_more : (at : ℕ) (old new : List ℕ) (edge : ℕ) → ((a b : ℕ) → has_pair old a b ≡ nat_lt a edge && in_word at b)
    → ((i j : ℕ) → has_pair new i j ≡ cond (nat_eq i edge) (in_word at j) (has_pair old i j)) → (a b : ℕ) → has_pair new a b ≡ nat_lt a (edge + 1) && in_word at b
two_more at old new edge so_far = rows_more (λ a b. in_word at b) old new edge at so_far (λ k. refl)

pub ruleset two_steps = (two_none, two_more)

-- ---- whether some edge is a pair with another one

row_any : (pairs : List ℕ) (edges : List EdgePlan) (edge row : ℕ) (some : Bool) → ((k : ℕ) → in_word row k ≡ has_pair pairs edge k) → some ≡ any_edge (in_word row) 0 (drop 0 edges)
    → some ≡ any_edge (has_pair pairs edge) 0 edges
row_any pairs edges edge row some read is = is ∙ any_same (in_word row) (has_pair pairs edge) 0 edges read

pub pair_found : (pairs : List ℕ) (edges : List EdgePlan) (edge row : ℕ) (whole some : Bool) → edge < length edges
    → any_edge (λ a. any_edge (has_pair pairs a) 0 edges) edge (drop edge edges) ≡ whole → ((k : ℕ) → in_word row k ≡ has_pair pairs edge k)
    → some ≡ any_edge (in_word row) 0 (drop 0 edges) → some ≡ true → true ≡ whole
pair_found pairs edges edge row whole some below so_far read is holds =
    ap (λ (t : Bool). t || any_edge (λ a. any_edge (has_pair pairs a) 0 edges) (edge + 1) (drop (edge + 1) edges)) (sym holds ∙ row_any pairs edges edge row some read is)
    ∙ (sym (any_step (λ a. any_edge (has_pair pairs a) 0 edges) edge edge edges below) ∙ so_far)

pub no_pair : (pairs : List ℕ) (edges : List EdgePlan) (edge row : ℕ) (whole some : Bool) → edge < length edges
    → any_edge (λ a. any_edge (has_pair pairs a) 0 edges) edge (drop edge edges) ≡ whole → ((k : ℕ) → in_word row k ≡ has_pair pairs edge k)
    → some ≡ any_edge (in_word row) 0 (drop 0 edges) → some ≡ false → any_edge (λ a. any_edge (has_pair pairs a) 0 edges) (edge + 1) (drop (edge + 1) edges) ≡ whole
no_pair pairs edges edge row whole some below so_far read is fails =
    ap (λ (t : Bool). t || any_edge (λ a. any_edge (has_pair pairs a) 0 edges) (edge + 1) (drop (edge + 1) edges)) (sym fails ∙ row_any pairs edges edge row some read is)
    ∙ (sym (any_step (λ a. any_edge (has_pair pairs a) 0 edges) edge edge edges below) ∙ so_far)

pub pairs_end : (test : ℕ → Bool) (edges : List EdgePlan) (edge : ℕ) (whole : Bool) → length edges ≤ edge → any_edge test edge (drop edge edges) ≡ whole → false ≡ whole
pairs_end test edges edge whole past so_far = sym (ap (any_edge test edge) (drop_all edge edges past)) ∙ so_far

-- ---- an edge with a site is one of the plan

pub no_sites : (plan : Plan) (before : NetworkState) (service : ServiceId) (edge place : ℕ) (rows : List CircuitPlan) → All (IsCircuitOf plan) rows → nat_lt edge (length plan.edges) ≡ false
    → sites_of before service edge place rows ≡ 0
no_sites plan before service edge place [] all past = refl
no_sites plan before service edge place (row ∷ rows) all past =
    by (is_site_at before service edge place row) refl (no_sites plan before service edge (place + 1) rows (All-tail (IsCircuitOf plan) row rows all) past) where
      by : (b : Bool) → is_site_at before service edge place row ≡ b → sites_of before service edge (place + 1) rows ≡ 0 → (if b then 1 else 0) + sites_of before service edge (place + 1) rows ≡ 0
      by false is none = from_none (sites_of before service edge (place + 1) rows) ∙ none
      by true is none =
          let there : nat_eq row.edge.0 edge ≡ true = second_holds (nat_eq row.service.0 service.0) (nat_eq row.edge.0 edge)
          (first_holds (is_circuit_at service edge row) (is_row_on before (record { 0 = place }) (Some row)) is) in
          let below : nat_lt row.edge.0 (length plan.edges) ≡ true = lt-ltb row.edge.0 (length plan.edges) (All-head (IsCircuitOf plan) row rows all).edge in
          clash_at (nat_lt edge (length plan.edges)) (ap (λ (e : ℕ). nat_lt e (length plan.edges)) (sym (eqb-true row.edge.0 edge there)) ∙ below) past

pub site_within : (plan : Plan) (before : NetworkState) (service : ServiceId) (edge : ℕ) → IsChecked plan → has_site plan before service edge ≡ true → nat_lt edge (length plan.edges) ≡ true
site_within plan before service edge checked has = by (nat_lt edge (length plan.edges)) refl where
  by : (b : Bool) → nat_lt edge (length plan.edges) ≡ b → b ≡ true
  by true is = refl
  by false is = clash_at (has_site plan before service edge) has (ap (nat_lt 0) (no_sites plan before service edge 0 plan.circuits checked.circuits is))

-- ---- what is changed

-- two edges with sites, of the plan, that are a pair by one relation and not by another one
held : (a b m n r s : Bool) → (a ≡ true → m ≡ true) → (b ≡ true → n ≡ true) → m && ((a && b) && (((m && n) && r) && not ((m && n) && s))) ≡ ((a && b) && (r && not s)) && true
held false b true n r s first second = refl
held false b false n r s first second = refl
held true false true n r s first second = refl
held true false false n r s first second = refl
held true true m n r s first second = λ i. two i
  where
    plain : (r s : Bool) → true && ((true && true) && (((true && true) && r) && not ((true && true) && s))) ≡ ((true && true) && (r && not s)) && true
    plain true true = refl
    plain true false = refl
    plain false s = refl

    two : m && ((true && true) && (((m && n) && r) && not ((m && n) && s))) ≡ ((true && true) && (r && not s)) && true
    two = (λ i. first refl i && ((true && true) && (((first refl i && second refl i) && r) && not ((first refl i && second refl i) && s)))) ∙ plain r s

held_apart : (a b m n s : Bool) → (a ≡ true → m ≡ true) → (b ≡ true → n ≡ true) → m && ((a && b) && ((m && b) && not ((m && n) && s))) ≡ (a && b) && not s
held_apart false b true n s first second = refl
held_apart false b false n s first second = refl
held_apart true false true n s first second = refl
held_apart true false false n s first second = refl
held_apart true true m n s first second = (λ i. first refl i && ((true && true) && ((first refl i && true) && not ((first refl i && second refl i) && s)))) ∙ refl

-- what of it is left beside one more part
held_less : (a b m w any p : Bool) → (a ≡ true → m ≡ true) → m && ((a && b) && ((((a && b) && w) && not any) && not (p && true))) ≡ ((a && b) && w) && not (p || any)
held_less false b true w any p first = refl
held_less false b false w any p first = refl
held_less true false true w any p first = refl
held_less true false false w any p first = refl
held_less true true m w any p first = (λ i. first refl i && ((true && true) && ((((true && true) && w) && not any) && not (p && true)))) ∙ plain w any p
  where
    plain : (w any p : Bool) → true && ((true && true) && ((((true && true) && w) && not any) && not (p && true))) ≡ ((true && true) && w) && not (p || any)
    plain false any p = refl
    plain true true true = refl
    plain true true false = refl
    plain true false true = refl
    plain true false false = refl

module _ (plan : Plan) (before : NetworkState) (service : ServiceId) (at : ℕ) (checked : IsChecked plan) (sites : (k : ℕ) → in_word at k ≡ has_site plan before service k)
  where
    -- by whom each edge reaches before and behind faults
    less_is : (one other : List Fault) (first second : List ℕ) → ((a b : ℕ) → has_pair first a b ≡ reaches plan before one service a b)
        → ((a b : ℕ) → has_pair second a b ≡ reaches plan before other service a b) → (a b : ℕ)
        → is_less (length plan.edges) at first second a b
        ≡ ((has_site plan before service a && has_site plan before service b) && (would_reach plan before one service a b && not (would_reach plan before other service a b))) && true
    less_is one other first second first_is second_is a b =
        (λ i. nat_lt a (length plan.edges) && ((sites a i && sites b i) && (first_is a b i && not (second_is a b i))))
        ∙ held (has_site plan before service a) (has_site plan before service b) (nat_lt a (length plan.edges)) (nat_lt b (length plan.edges)) (would_reach plan before one service a b)
        (would_reach plan before other service a b) (site_within plan before service a checked) (site_within plan before service b checked)

    pub change_made : (faults : List Fault) (reach now : List ℕ) (change : Change) → ((a b : ℕ) → has_pair reach a b ≡ reaches plan before [] service a b)
        → ((a b : ℕ) → has_pair now a b ≡ reaches plan before faults service a b) → ((a b : ℕ) → has_pair change.lost a b ≡ is_less (length plan.edges) at reach now a b)
        → ((a b : ℕ) → has_pair change.found a b ≡ is_less (length plan.edges) at now reach a b) → IsLeft plan before service faults [] change
    change_made faults reach now change was is lost found = record {
      lost = λ a b. lost a b ∙ less_is [] faults reach now was is a b;
      found = λ a b. found a b ∙ less_is faults [] now reach is was a b;
    }

    pub apart_made : (all reach pairs : List ℕ) → ((a b : ℕ) → has_pair all a b ≡ nat_lt a (length plan.edges) && in_word at b) → ((a b : ℕ) → has_pair reach a b ≡ reaches plan before [] service a b)
        → ((a b : ℕ) → has_pair pairs a b ≡ is_less (length plan.edges) at all reach a b) → (a b : ℕ) → has_pair pairs a b ≡ are_apart plan before service a b
    apart_made all reach pairs two was made a b =
        made a b
        ∙ ((λ i. nat_lt a (length plan.edges) && ((sites a i && sites b i) && ((two a b ∙ ap (λ (t : Bool). nat_lt a (length plan.edges) && t) (sites b)) i && not (was a b i))))
        ∙ held_apart (has_site plan before service a) (has_site plan before service b) (nat_lt a (length plan.edges)) (nat_lt b (length plan.edges)) (would_reach plan before [] service a b)
        (site_within plan before service a checked) (site_within plan before service b checked))

    pub left_more : (faults part : List Fault) (parts : List (List Fault)) (old other new : Change) → IsLeft plan before service faults parts old → IsLeft plan before service part [] other
        → ((a b : ℕ) → has_pair new.lost a b ≡ is_less (length plan.edges) at old.lost other.lost a b)
        → ((a b : ℕ) → has_pair new.found a b ≡ is_less (length plan.edges) at old.found other.found a b) → IsLeft plan before service faults (part ∷ parts) new
    left_more faults part parts old other new left alone lost found = record {
      lost = λ a b. lost a b
          ∙ ((λ i. nat_lt a (length plan.edges) && ((sites a i && sites b i) && (left.lost a b i && not (alone.lost a b i))))
          ∙ held_less (has_site plan before service a) (has_site plan before service b) (nat_lt a (length plan.edges))
          (would_reach plan before [] service a b && not (would_reach plan before faults service a b)) (list_any (λ part. lose plan before service part a b) parts)
          (lose plan before service part a b) (site_within plan before service a checked));
      found = λ a b. found a b
          ∙ ((λ i. nat_lt a (length plan.edges) && ((sites a i && sites b i) && (left.found a b i && not (alone.found a b i))))
          ∙ held_less (has_site plan before service a) (has_site plan before service b) (nat_lt a (length plan.edges))
          (would_reach plan before faults service a b && not (would_reach plan before [] service a b)) (list_any (λ part. find plan before service part a b) parts)
          (find plan before service part a b) (site_within plan before service a checked));
    }
