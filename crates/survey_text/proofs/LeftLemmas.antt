-- What a case changes, service by service, and what of it is left beside its parts.
use Rattle.std.proofs.Common.{◌≡◌, ◌≤◌, ◌<◌, ◌+◌, ◌++◌, ◌&&◌, ◌||◌, ◌∙◌, not, ℕ, suc, Bool, true, false, List, [], ◌∷◌, cond, drop, length, nat_eq, slice_index_or, slice_set, take, refl, ap, arith, subst, sym}
use Rattle.std.specs.List.{list_any}
use Rattle.std.proofs.lemmas.Bool.{eqb-true}
use Rattle.std.proofs.lemmas.Bool.Decides.{nat_tests}
use Rattle.std.proofs.lemmas.List.{at_drop_more, get_or-set_other, get_or-set_same, length_push}
use Rattle.net_values.proofs.BoolLemmas.{and_true, first_fails, second_fails}
use Rattle.net_values.proofs.NumberLemmas.{at_start, step_over}
use Rattle.net_values.proofs.RowLemmas.{index_end, same_read, set_length}
use Rattle.net_base.specs.declared.plan.Plan.{Plan}
use Rattle.net_base.specs.declared.plan.edge_plan.EdgePlan.{EdgePlan}
use Rattle.net_base.specs.declared.plan.service_plan.ServicePlan.{ServicePlan}
use Rattle.net_base.specs.plan.Accepted.{IsChecked}
use Rattle.network_model.specs.State.{NetworkState}
use Rattle.survey_laws.specs.declared.fault.Fault.{Fault}
use Rattle.survey_reach.specs.Words.{has_pair}
use Rattle.survey_text.specs.declared.change.Change.{Change}
use Rattle.survey_text.specs.declared.service.Service.{Service}
use Rattle.survey_text.specs.declared.sites.Sites.{Sites}
use Rattle.survey_text.specs.Cases.{changes_beside, found_at, is_told_beside, is_told_in, is_told_of, lost_at, sum_over}
use Rattle.survey_text.specs.Relations.{any_edge, any_pair, find, lose, pairs_where}
use Rattle.survey_text.specs.Surveys.{AreLeft, AreLess, AreServices, AreSites, IsLeft, IsLess, LeavesAll, LeavesOut, any_changed, count_in, is_changed}
use Rattle.survey_text.proofs.ChangeLemmas.{left_more}

-- ---- lists that are made place by place

pub record ArePlaced {A : Type 0} (P : ℕ → A → Type 0) (count : ℕ) (items : List A) : Type 0 where
  pub all : length items ≡ count
  pub each : (place : ℕ) (none : A) → place < count → P place (slice_index_or items place none)

pub placed_none : {A : Type 0} (P : ℕ → A → Type 0) → ArePlaced P 0 []
placed_none P = record { all = refl; each = λ place none below. absurd (omega (arith, below)) }

pub placed_more : {A : Type 0} (P : ℕ → A → Type 0) (count : ℕ) (items more : List A) (item : A) → ArePlaced P count items → P count item → more ≡ items ++ item ∷ [] → ArePlaced P (count + 1) more
placed_more {A = A} P count items more item so_far is pushed = subst (ArePlaced P (count + 1)) (sym pushed) (record {
  all = omega (arith, joined, so_far.all);
  each = λ place none below. subst (P place) (sym (index_end items item none place)) (by place none below (nat_eq place (length items)) refl);
})
  where
    joined : length (items ++ item ∷ []) ≡ length items + 1
    joined = grind (arith, length_push items item)

    by : (place : ℕ) (none : A) → place < count + 1 → (b : Bool) → nat_eq place (length items) ≡ b → P place (cond b item (slice_index_or items place none))
    by place none below true same = subst (λ (n : ℕ). P n item) (sym (eqb-true place (length items) same ∙ so_far.all)) is
    by place none below false other = so_far.each place none (grind (arith, nat_tests, below, other, so_far.all))

-- ---- what is left, service by service

-- what was taken away so far, and what was not looked at
pub record AreLessTo (count : ℕ) (services : List Service) (old part now : List Change) (done : ℕ) : Type 0 where
  pub all : length now ≡ length old
  pub each : (service : ℕ) (none : Change) (any : Service) → service < length old → service < done
      → IsLess count (slice_index_or services service any).sites.at (slice_index_or old service none) (slice_index_or part service none) (slice_index_or now service none)
  pub kept : (service : ℕ) (none : Change) → done ≤ service → slice_index_or now service none ≡ slice_index_or old service none

pub less_start : (count : ℕ) (services : List Service) (old part : List Change) → AreLessTo count services old part old 0
less_start count services old part = record { all = refl; each = λ service none any below past. absurd (omega (arith, past)); kept = λ service none past. refl }

pub less_more : (count : ℕ) (services : List Service) (old part now new : List Change) (done : ℕ) (less one other : Change) (service : Service) → AreLessTo count services old part now done
    → done < length old → length part ≡ length old → length services ≡ length old → other ≡ slice_index_or part done other
    → IsLess count (slice_index_or services done service).sites.at (slice_index_or now done one) other less → new ≡ slice_set now done less → AreLessTo count services old part new (done + 1)
less_more count services old part now new done less one other service so_far below parts all read is put = subst (λ (l : List Change). AreLessTo count services old part l (done + 1)) (sym put) (record {
  all = set_length now done less ∙ so_far.all;
  each = λ place none any within past. by place none any within past (nat_eq place done) refl;
  kept = λ place none past. get_or-set_other now done place less none (omega (arith, past)) ∙ so_far.kept place none (omega (arith, past));
})
  where
    within_now : done < length now
    within_now = omega (arith, below, so_far.all)

    here : (none : Change) (any : Service) → IsLess count (slice_index_or services done any).sites.at (slice_index_or old done none) (slice_index_or part done none) less
    here none any =
        subst (λ (s : Service). IsLess count s.sites.at (slice_index_or old done none) (slice_index_or part done none) less) (same_read services done service any (omega (arith, below, all)))
        (subst (λ (c : Change). IsLess count (slice_index_or services done service).sites.at c (slice_index_or part done none) less) (same_read now done one none within_now ∙ so_far.kept done none (omega arith))
        (subst (λ (c : Change). IsLess count (slice_index_or services done service).sites.at (slice_index_or now done one) c less) (read ∙ same_read part done other none (omega (arith, below, parts))) is))

    by : (place : ℕ) (none : Change) (any : Service) → place < length old → place < done + 1 → (b : Bool) → nat_eq place done ≡ b
        → IsLess count (slice_index_or services place any).sites.at (slice_index_or old place none) (slice_index_or part place none) (slice_index_or (slice_set now done less) place none)
    by place none any within past true same =
        subst (λ (n : ℕ). IsLess count (slice_index_or services n any).sites.at (slice_index_or old n none) (slice_index_or part n none) (slice_index_or (slice_set now done less) n none))
        (sym (eqb-true place done same))
        (subst (IsLess count (slice_index_or services done any).sites.at (slice_index_or old done none) (slice_index_or part done none)) (sym (get_or-set_same now done less none within_now)) (here none any))
    by place none any within past false other =
        subst (IsLess count (slice_index_or services place any).sites.at (slice_index_or old place none) (slice_index_or part place none))
        (sym (get_or-set_other now done place less none (grind (arith, nat_tests, other)))) (so_far.each place none any within (grind (arith, nat_tests, past, other)))

pub less_end : (count : ℕ) (services : List Service) (old part now : List Change) (done : ℕ) → AreLessTo count services old part now done → length old ≤ done → AreLess count services old part now
less_end count services old part now done is past = record { all = is.all; each = λ service none any below. is.each service none any below (omega (arith, below, past)) }

pub ruleset less_steps = (less_start, less_more, less_end)

some_of : (services : List Service) → 0 < length services → Service
some_of [] some = absurd (omega (arith, some))
some_of (service ∷ services) some = service

-- so the parts of a case are left out
pub leaves : (plan : Plan) (before : NetworkState) (part : List Fault) (services : List Service) (old other new : List Change) → IsChecked plan → AreServices plan before services
    → AreLeft plan before part [] other → length old ≡ length plan.services → AreLess (length plan.edges) services old other new → LeavesOut plan before part old new
leaves plan before part services old other new checked served alone all less = record {
  all = less.all;
  left = λ faults parts left. record {
    all = less.all ∙ all;
    each = λ service none below.
        let any : Service = some_of services (omega (arith, below, served.all)) in
        let is : IsLess (length plan.edges) (slice_index_or services service any).sites.at (slice_index_or old service none) (slice_index_or other service none) (slice_index_or new service none) =
        less.each service none any (omega (arith, below, all)) in
        left_more plan before (record { 0 = service }) (slice_index_or services service any).sites.at checked (served.each service any below).sites.at faults part parts (slice_index_or old service none)
        (slice_index_or other service none) (slice_index_or new service none) (left.each service none below) (alone.each service none below) is.lost is.found;
  };
}

pub three_left : (plan : Plan) (before : NetworkState) (one other last : List Fault) (at_first at_second at_third now : List Change) → LeavesOut plan before one at_first at_second
    → LeavesOut plan before other at_second at_third → LeavesOut plan before last at_third now → LeavesAll plan before (last ∷ other ∷ one ∷ []) at_first now
three_left plan before one other last at_first at_second at_third now first second third = record {
  all = third.all ∙ (second.all ∙ first.all);
  left = λ faults earlier left. third.left faults (other ∷ one ∷ earlier) (second.left faults (one ∷ earlier) (first.left faults earlier left));
}

-- ---- whether a case is told

changed_of : (plan : Plan) (before : NetworkState) (faults : List Fault) (parts : List (List Fault)) (service : ℕ) (change : Change) → IsLeft plan before (record { 0 = service }) faults parts change
    → is_changed plan.edges change ≡ is_told_of plan before faults parts service
changed_of plan before faults parts service change is = λ i. any_pair plan.edges (λ a b. is.lost a b i) || any_pair plan.edges (λ a b. is.found a b i)

told_from : (plan : Plan) (before : NetworkState) (faults : List Fault) (parts : List (List Fault)) (place : ℕ) (left : List Change) (rows : List ServicePlan) → length left ≡ length rows
    → ((i : ℕ) (none : Change) → i < length left → IsLeft plan before (record { 0 = place + i }) faults parts (slice_index_or left i none))
    → any_changed plan.edges left ≡ is_told_in plan before faults parts place rows
told_from plan before faults parts place [] [] all each = refl
told_from plan before faults parts place [] (row ∷ rows) all each = absurd (omega (arith, all))
told_from plan before faults parts place (change ∷ left) [] all each = absurd (omega (arith, all))
told_from plan before faults parts place (change ∷ left) (row ∷ rows) all each =
    both (told_from plan before faults parts (place + 1) left rows (omega (arith, all))
    (λ i none below. subst (λ (n : ℕ). IsLeft plan before (record { 0 = n }) faults parts (slice_index_or left i none)) (sym (step_over place i)) (each (suc i) none (omega (arith, below)))))
  where
    here : is_changed plan.edges change ≡ is_told_of plan before faults parts place
    here = changed_of plan before faults parts place change (subst (λ (n : ℕ). IsLeft plan before (record { 0 = n }) faults parts change) (at_start place) (each 0 change (omega arith)))

    both : any_changed plan.edges left ≡ is_told_in plan before faults parts (place + 1) rows
        → is_changed plan.edges change || any_changed plan.edges left ≡ is_told_of plan before faults parts place || is_told_in plan before faults parts (place + 1) rows
    both later = λ i. here i || later i

pub told_is : (plan : Plan) (before : NetworkState) (faults : List Fault) (parts : List (List Fault)) (left : List Change) → AreLeft plan before faults parts left
    → any_changed plan.edges left ≡ is_told_beside plan before faults parts
told_is plan before faults parts left is =
    told_from plan before faults parts 0 left plan.services is.all
    (λ i none below. subst (λ (n : ℕ). IsLeft plan before (record { 0 = n }) faults parts (slice_index_or left i none)) (sym (from_none_plus i)) (is.each i none (omega (arith, below, is.all))))
  where
    from_none_plus : (i : ℕ) → 0 + i ≡ i
    from_none_plus i = omega arith

-- ---- how many pairs of sites

pub sum_step : (count : ℕ → ℕ) (place i : ℕ) (rows : List ServicePlan) → i < length rows → sum_over count place (drop i rows) ≡ count place + sum_over count (place + 1) (drop (i + 1) rows)
sum_step count place i [] below = absurd (omega (arith, below))
sum_step count place i (row ∷ rows) below = at_drop_more (sum_over count place) (row ∷ rows) i row below

pub lost_of : (plan : Plan) (before : NetworkState) (faults : List Fault) (service : ℕ) (change : Change) (sites : Sites) → IsLeft plan before (record { 0 = service }) faults [] change
    → AreSites plan before (record { 0 = service }) sites → pairs_where (count_in sites) (has_pair change.lost) 0 plan.edges ≡ lost_at plan before faults service
lost_of plan before faults service change sites is at =
    λ i. pairs_where (λ edge. at.counts edge i) (λ a b. (is.lost a b ∙ and_true (lose plan before (record { 0 = service }) faults a b)) i) 0 plan.edges

pub found_of : (plan : Plan) (before : NetworkState) (faults : List Fault) (service : ℕ) (change : Change) (sites : Sites) → IsLeft plan before (record { 0 = service }) faults [] change
    → AreSites plan before (record { 0 = service }) sites → pairs_where (count_in sites) (has_pair change.found) 0 plan.edges ≡ found_at plan before faults service
found_of plan before faults service change sites is at =
    λ i. pairs_where (λ edge. at.counts edge i) (λ a b. (is.found a b ∙ and_true (find plan before (record { 0 = service }) faults a b)) i) 0 plan.edges

-- ---- what a slice is given back

taken : {A : Type 0} (xs ys : List A) → take (length xs) (xs ++ ys) ≡ xs
taken [] ys = refl
taken {A = A} (x ∷ xs) ys = ap (λ (l : List A). x ∷ l) (taken xs ys)

written_back : (old new : List Change) (len : ℕ) → length new ≡ length old → length old ≡ len → take len (new ++ drop (length new) old) ≡ new
written_back old new len same all = ap (λ (n : ℕ). take n (new ++ drop (length new) old)) (sym all ∙ sym same) ∙ taken new (drop (length new) old)

pub leaves_by : (plan : Plan) (before : NetworkState) (part : List Fault) (lent services : List Service) (at_first old alone other new : List Change) (count len : ℕ) → IsChecked plan
    → AreServices plan before services → AreLeft plan before part [] other → length old ≡ length plan.services → lent ≡ services → at_first ≡ old → alone ≡ other → count ≡ length plan.edges
    → length old ≡ len → AreLess count lent at_first alone new → LeavesOut plan before part old (take len (new ++ drop (length new) old))
leaves_by plan before part lent services at_first old alone other new count len checked served left all same_services same_old same_other same_count same_len less =
    subst (LeavesOut plan before part old) (sym (written_back old new len is.all same_len)) (leaves plan before part services old other new checked served left all is)
  where
    is : AreLess (length plan.edges) services old other new
    is = subst (λ (n : ℕ). AreLess n services old other new) same_count (subst (λ (s : List Service). AreLess count s old other new) same_services
        (subst (λ (o : List Change). AreLess count lent o other new) same_old (subst (λ (a : List Change). AreLess count lent at_first a new) same_other less)))

-- ---- what is told beside fewer parts alone

module _ (plan : Plan) (before : NetworkState) (faults part : List Fault) (parts : List (List Fault))
  where
    beside_less : (c p any : Bool) → c && not any ≡ false → c && not (p || any) ≡ false
    beside_less false p any fails = refl
    beside_less true true any fails = refl
    beside_less true false any fails = fails

    edges_fail : (test other : ℕ → Bool) → ((k : ℕ) → test k ≡ false → other k ≡ false) → (place : ℕ) (rows : List EdgePlan) → any_edge test place rows ≡ false → any_edge other place rows ≡ false
    edges_fail test other down place [] fails = refl
    edges_fail test other down place (row ∷ rows) fails =
        both (down place (first_fails (test place) (any_edge test (place + 1) rows) fails))
        (edges_fail test other down (place + 1) rows (second_fails (test place) (any_edge test (place + 1) rows) fails))
      where
        both : other place ≡ false → any_edge other (place + 1) rows ≡ false → other place || any_edge other (place + 1) rows ≡ false
        both here later = λ i. here i || later i

    pairs_fail : (change : List Fault → ℕ → ℕ → Bool) → any_pair plan.edges (changes_beside change faults parts) ≡ false → any_pair plan.edges (changes_beside change faults (part ∷ parts)) ≡ false
    pairs_fail change = edges_fail (λ a. any_edge (changes_beside change faults parts a) 0 plan.edges) (λ a. any_edge (changes_beside change faults (part ∷ parts) a) 0 plan.edges)
        (λ a. edges_fail (changes_beside change faults parts a) (changes_beside change faults (part ∷ parts) a)
        (λ b. beside_less (change faults a b) (change part a b) (list_any (λ p. change p a b) parts)) 0 plan.edges) 0 plan.edges

    told_fails : (place : ℕ) (rows : List ServicePlan) → is_told_in plan before faults parts place rows ≡ false → is_told_in plan before faults (part ∷ parts) place rows ≡ false
    told_fails place [] fails = refl
    told_fails place (row ∷ rows) fails =
        both (λ i. pairs_fail (lose plan before (record { 0 = place })) (first_fails lost found here) i || pairs_fail (find plan before (record { 0 = place })) (second_fails lost found here) i)
        (told_fails (place + 1) rows (second_fails (lost || found) (is_told_in plan before faults parts (place + 1) rows) fails))
      where
        lost : Bool
        lost = any_pair plan.edges (changes_beside (lose plan before (record { 0 = place })) faults parts)

        found : Bool
        found = any_pair plan.edges (changes_beside (find plan before (record { 0 = place })) faults parts)

        here : lost || found ≡ false
        here = first_fails (lost || found) (is_told_in plan before faults parts (place + 1) rows) fails

        both : is_told_of plan before faults (part ∷ parts) place ≡ false → is_told_in plan before faults (part ∷ parts) (place + 1) rows ≡ false
            → is_told_of plan before faults (part ∷ parts) place || is_told_in plan before faults (part ∷ parts) (place + 1) rows ≡ false
        both now later = λ i. now i || later i

    pub not_told_beside : is_told_beside plan before faults parts ≡ false → is_told_beside plan before faults (part ∷ parts) ≡ false
    not_told_beside = told_fails 0 plan.services
