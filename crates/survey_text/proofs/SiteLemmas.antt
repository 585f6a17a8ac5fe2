-- Sites one by one.
use Rattle.std.proofs.Common.{◌≡◌, ◌<◌, ◌≤◌, ◌+◌, ◌++◌, ◌||◌, ◌&&◌, ◌∙◌, if◌then◌else◌, nat_eq, nat_lt, replicate, ℕ, zero, suc, Bool, true, false, List, [], ◌∷◌, Option, Some, length, drop, get_or, slice_get, slice_index_or, refl, ap, arith, sym, append_assoc}
use Rattle.std.specs.Prelude.{codes}
use Rattle.std.proofs.lemmas.Bool.{eqb-true, le-ltb, lt-ltb}
use Rattle.std.proofs.lemmas.List.{at_drop_more}
use Rattle.std.proofs.lemmas.Option.{slice_get-get_or, slice_get_within}
use Rattle.net_values.proofs.NumberLemmas.{lt_next}
use Rattle.net_base.specs.declared.plan.Plan.{Plan}
use Rattle.net_base.specs.declared.plan.circuit_plan.CircuitPlan.{CircuitPlan}
use Rattle.net_base.specs.declared.plan.edge_plan.EdgePlan.{EdgePlan}
use Rattle.net_base.specs.declared.plan.places.ServiceId.{ServiceId}
use Rattle.net_base.specs.plan.Accepted.{IsChecked}
use Rattle.network_model.specs.Reach.{is_row_on}
use Rattle.network_model.specs.State.{NetworkState}
use Rattle.survey_laws.specs.declared.fault.Fault.{Fault}
use Rattle.survey_reach.specs.Words.{in_word}
use Rattle.survey_text.specs.declared.over.Over.{Over}
use Rattle.survey_text.specs.declared.sites.Sites.{Sites}
use Rattle.survey_text.specs.Relations.{count_sites, has_site, is_site_row, sites_of}
use Rattle.survey_text.specs.Surveys.{AreSites, IsOver, count_in}
use Rattle.survey_text.specs.Text.{any_off, fault_words, is_off_row, later_words, name_at, name_off, names_at, names_if, names_off, names_where, row_line, row_lines}
use Rattle.text_pieces.specs.Pieces.{spaced}
use Rattle.survey_text.proofs.ChangeLemmas.{no_sites}

-- the ground says of a circuit of the plan whether it is on
pub ground_says : (before : NetworkState) (over : Over) (circuit : ℕ) (row : CircuitPlan) → IsOver before over → slice_get over.plan.now.circuits circuit ≡ Some row
    → slice_index_or over.ground.now.on.items circuit false ≡ is_row_on before (record { 0 = circuit }) (Some row)
ground_says before over circuit row is got =
    is.ground.on.each circuit (slice_get_within over.plan.now.circuits circuit row got) ∙ ap (is_row_on before (record { 0 = circuit })) got

pub ground_counts : (before : NetworkState) (over : Over) (circuit : ℕ) (row : CircuitPlan) → IsOver before over → slice_get over.plan.now.circuits circuit ≡ Some row
    → circuit < length over.ground.now.on.items
ground_counts before over circuit row is got = omega (arith, slice_get_within over.plan.now.circuits circuit row got, is.ground.on.all)

pub ruleset site_steps = (ground_says, ground_counts)

pub few_circuits : (before : NetworkState) (over : Over) → IsOver before over → length over.plan.now.circuits ≤ 512
few_circuits before over is = is.checked.limits.circuits

pub sites_step : (before : NetworkState) (service : ServiceId) (edge place i : ℕ) (rows : List CircuitPlan) → i < length rows
    → sites_of before service edge place (drop i rows) ≡ (if is_site_row before service edge place (slice_get rows i) then 1 else 0) + sites_of before service edge (place + 1) (drop (i + 1) rows)
sites_step before service edge place i [] h = absurd (omega (arith, h))
sites_step before service edge place i (row ∷ rows) h =
    at_drop_more (sites_of before service edge place) (row ∷ rows) i row h
    ∙ ap (λ (o : Option CircuitPlan). (if is_site_row before service edge place o then 1 else 0) + sites_of before service edge (place + 1) (drop (i + 1) (row ∷ rows))) (sym (slice_get-get_or (row ∷ rows) i row h))

pub off_step : (before : NetworkState) (service : ServiceId) (place i : ℕ) (rows : List CircuitPlan) → i < length rows
    → any_off before service place (drop i rows) ≡ is_off_row before service place (slice_get rows i) || any_off before service (place + 1) (drop (i + 1) rows)
off_step before service place i [] h = absurd (omega (arith, h))
off_step before service place i (row ∷ rows) h =
    at_drop_more (any_off before service place) (row ∷ rows) i row h
    ∙ ap (λ (o : Option CircuitPlan). is_off_row before service place o || any_off before service (place + 1) (drop (i + 1) (row ∷ rows))) (sym (slice_get-get_or (row ∷ rows) i row h))

-- ---- names

pub spaced_two : (first second : List (List ℕ)) → spaced (first ++ second) ≡ spaced first ++ spaced second
spaced_two [] second = refl
spaced_two (word ∷ first) second = ap (λ (l : List ℕ). (codes " " ++ word) ++ l) (spaced_two first second) ∙ sym (append_assoc (codes " " ++ word) (spaced first) (spaced second))

pub names_step : (before : NetworkState) (service : ServiceId) (edge place i : ℕ) (rows : List CircuitPlan) → i < length rows
    → spaced (names_at before service edge place (drop i rows)) ≡ spaced (name_at before service edge place (slice_get rows i)) ++ spaced (names_at before service edge (place + 1) (drop (i + 1) rows))
names_step before service edge place i [] h = absurd (omega (arith, h))
names_step before service edge place i (row ∷ rows) h =
    at_drop_more (λ (l : List CircuitPlan). spaced (names_at before service edge place l)) (row ∷ rows) i row h
    ∙ (spaced_two (name_at before service edge place (Some (get_or (row ∷ rows) i row))) (names_at before service edge (place + 1) (drop (i + 1) (row ∷ rows)))
    ∙ ap (λ (o : Option CircuitPlan). spaced (name_at before service edge place o) ++ spaced (names_at before service edge (place + 1) (drop (i + 1) (row ∷ rows)))) (sym (slice_get-get_or (row ∷ rows) i row h)))

pub off_names_step : (before : NetworkState) (service : ServiceId) (place i : ℕ) (rows : List CircuitPlan) → i < length rows
    → spaced (names_off before service place (drop i rows)) ≡ spaced (name_off before service place (slice_get rows i)) ++ spaced (names_off before service (place + 1) (drop (i + 1) rows))
off_names_step before service place i [] h = absurd (omega (arith, h))
off_names_step before service place i (row ∷ rows) h =
    at_drop_more (λ (l : List CircuitPlan). spaced (names_off before service place l)) (row ∷ rows) i row h
    ∙ (spaced_two (name_off before service place (Some (get_or (row ∷ rows) i row))) (names_off before service (place + 1) (drop (i + 1) (row ∷ rows)))
    ∙ ap (λ (o : Option CircuitPlan). spaced (name_off before service place o) ++ spaced (names_off before service (place + 1) (drop (i + 1) (row ∷ rows)))) (sym (slice_get-get_or (row ∷ rows) i row h)))

pub where_step : (plan : Plan) (before : NetworkState) (service : ServiceId) (test : ℕ → Bool) (place i : ℕ) (rows : List EdgePlan) → i < length rows
    → spaced (names_where plan before service test place (drop i rows)) ≡ spaced (names_if plan before service test place) ++ spaced (names_where plan before service test (place + 1) (drop (i + 1) rows))
where_step plan before service test place i [] h = absurd (omega (arith, h))
where_step plan before service test place i (row ∷ rows) h =
    at_drop_more (λ (l : List EdgePlan). spaced (names_where plan before service test place l)) (row ∷ rows) i row h
    ∙ spaced_two (names_if plan before service test place) (names_where plan before service test (place + 1) (drop (i + 1) (row ∷ rows)))

pub rows_step : (plan : Plan) (before : NetworkState) (service : ServiceId) (word : List ℕ) (pair : ℕ → ℕ → Bool) (place i : ℕ) (rows : List EdgePlan) → i < length rows
    → row_lines plan before service word pair place (drop i rows) ≡ row_line plan before service word (pair place) place (drop (i + 1) rows) ++ row_lines plan before service word pair (place + 1) (drop (i + 1) rows)
rows_step plan before service word pair place i [] h = absurd (omega (arith, h))
rows_step plan before service word pair place i (row ∷ rows) h = at_drop_more (row_lines plan before service word pair place) (row ∷ rows) i row h

-- ---- events

pub later_step : (plan : Plan) (faults : List Fault) (i : ℕ) (fault : Fault) → i < length faults
    → spaced (later_words plan (drop i faults)) ≡ (codes " +" ++ spaced (fault_words plan (get_or faults i fault))) ++ spaced (later_words plan (drop (i + 1) faults))
later_step plan faults i fault within =
    at_drop_more (λ (l : List Fault). spaced (later_words plan l)) faults i fault within
    ∙ spaced_two (codes "+" ∷ fault_words plan (get_or faults i fault)) (later_words plan (drop (i + 1) faults))

-- ---- the sites of a service, edge by edge

pub zeros : (count k : ℕ) → ◌≡◌ {A = ℕ} (slice_index_or (replicate count 0) k 0) 0
zeros zero k = refl
zeros (suc count) zero = refl
zeros (suc count) (suc k) = zeros count k

-- those of the edges below one are known
pub record AreSitesTo (plan : Plan) (before : NetworkState) (service : ServiceId) (edge : ℕ) (sites : Sites) : Type 0 where
  pub counts : (k : ℕ) → count_in sites k ≡ (if nat_lt k edge then count_sites plan before service k else 0)
  pub at : (k : ℕ) → in_word sites.at k ≡ nat_lt k edge && has_site plan before service k

pub sites_start : (plan : Plan) (before : NetworkState) (service : ServiceId) (sites : Sites) → ((k : ℕ) → count_in sites k ≡ 0) → ((k : ℕ) → in_word sites.at k ≡ false)
    → AreSitesTo plan before service 0 sites
sites_start plan before service sites none off = record {
  counts = λ k. none k ∙ sym (ap (λ (t : Bool). if t then count_sites plan before service k else 0) (le-ltb k 0 (omega arith)));
  at = λ k. off k ∙ sym (ap (λ (t : Bool). t && has_site plan before service k) (le-ltb k 0 (omega arith)));
}

or_false : (b : Bool) → b || false ≡ b
or_false true = refl
or_false false = refl

pub sites_more : (plan : Plan) (before : NetworkState) (service : ServiceId) (edge count : ℕ) (old new : Sites) → AreSitesTo plan before service edge old → count ≡ count_sites plan before service edge
    → ((k : ℕ) → count_in new k ≡ (if nat_eq k edge then count else count_in old k))
    → ((k : ℕ) → in_word new.at k ≡ (if nat_eq k edge then nat_lt 0 count || in_word old.at k else in_word old.at k)) → AreSitesTo plan before service (edge + 1) new
sites_more plan before service edge count old new so_far is counts at = record {
  counts = λ k. counts k ∙ count_by k (nat_eq k edge) refl;
  at = λ k. at k ∙ at_by k (nat_eq k edge) refl;
}
  where
    within : (k : ℕ) → k ≡ edge → nat_lt k (edge + 1) ≡ true
    within k here = lt-ltb k (edge + 1) (omega (arith, here))

    count_by : (k : ℕ) (b : Bool) → nat_eq k edge ≡ b → (if b then count else count_in old k) ≡ (if nat_lt k (edge + 1) then count_sites plan before service k else 0)
    count_by k true same =
        let here : k ≡ edge = eqb-true k edge same in
        (is ∙ ap (count_sites plan before service) (sym here)) ∙ sym (ap (λ (t : Bool). if t then count_sites plan before service k else 0) (within k here))
    count_by k false apart = so_far.counts k ∙ ap (λ (t : Bool). if t then count_sites plan before service k else 0) (sym (lt_next k edge apart))

    at_by : (k : ℕ) (b : Bool) → nat_eq k edge ≡ b → (if b then nat_lt 0 count || in_word old.at k else in_word old.at k) ≡ nat_lt k (edge + 1) && has_site plan before service k
    at_by k true same =
        let here : k ≡ edge = eqb-true k edge same in
        let off : in_word old.at k ≡ false = so_far.at k ∙ ap (λ (t : Bool). t && has_site plan before service k) (le-ltb k edge (omega (arith, here))) in
        ((λ i. nat_lt 0 (is i) || off i) ∙ (or_false (has_site plan before service edge) ∙ ap (has_site plan before service) (sym here)))
        ∙ sym (ap (λ (t : Bool). t && has_site plan before service k) (within k here))
    at_by k false apart = so_far.at k ∙ ap (λ (t : Bool). t && has_site plan before service k) (sym (lt_next k edge apart))

-- those of all edges, and elsewhere there are none
pub sites_all : (plan : Plan) (before : NetworkState) (service : ServiceId) (edge : ℕ) (sites : Sites) → IsChecked plan → length plan.edges ≡ edge → AreSitesTo plan before service edge sites
    → AreSites plan before service sites
sites_all plan before service edge sites checked all so_far = record {
  counts = λ k. so_far.counts k ∙ (ap (λ (n : ℕ). if nat_lt k n then count_sites plan before service k else 0) (sym all) ∙ count_by k (nat_lt k (length plan.edges)) refl);
  at = λ k. so_far.at k ∙ (ap (λ (n : ℕ). nat_lt k n && has_site plan before service k) (sym all) ∙ at_by k (nat_lt k (length plan.edges)) refl);
}
  where
    none : (k : ℕ) → nat_lt k (length plan.edges) ≡ false → count_sites plan before service k ≡ 0
    none k past = no_sites plan before service k 0 plan.circuits checked.circuits past

    count_by : (k : ℕ) (b : Bool) → nat_lt k (length plan.edges) ≡ b → (if b then count_sites plan before service k else 0) ≡ count_sites plan before service k
    count_by k true e = refl
    count_by k false past = sym (none k past)

    at_by : (k : ℕ) (b : Bool) → nat_lt k (length plan.edges) ≡ b → b && has_site plan before service k ≡ has_site plan before service k
    at_by k true e = refl
    at_by k false past = sym (ap (nat_lt 0) (none k past))
