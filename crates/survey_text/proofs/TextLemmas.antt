-- Lines service by service and edge by edge, and over words in the place of relations.
use Rattle.std.proofs.Common.{◌≡◌, ◌<◌, ◌+◌, ◌++◌, ◌&&◌, ◌∙◌, not, if◌then◌else◌, nat_eq, nat_lt, ℕ, Bool, true, false, List, [], ◌∷◌, Result, length, drop, refl, ap, arith, subst, sym}
use Rattle.std.specs.Prelude.{codes}
use Rattle.std.specs.Fmt.{decimal}
use Rattle.std.proofs.lemmas.List.{at_drop_more}
use Rattle.net_base.specs.declared.plan.Plan.{Plan}
use Rattle.net_base.specs.declared.plan.edge_plan.EdgePlan.{EdgePlan}
use Rattle.net_base.specs.declared.plan.places.ServiceId.{ServiceId}
use Rattle.net_base.specs.declared.plan.service_plan.ServicePlan.{ServicePlan}
use Rattle.net_base.specs.plan.Accepted.{IsChecked}
use Rattle.network_model.specs.State.{NetworkState}
use Rattle.survey_laws.specs.declared.fault.Fault.{Fault}
use Rattle.survey_laws.specs.Would.{would_reach}
use Rattle.survey_reach.specs.Reach.{reaches}
use Rattle.survey_reach.specs.Words.{has_pair, in_word}
use Rattle.survey_reach.proofs.WordLemmas.{none_in_zero as none_on}
use Rattle.survey_text.specs.declared.over.Over.{Over}
use Rattle.survey_text.specs.declared.over.OverService.{OverService}
use Rattle.survey_text.specs.declared.service.Service.{Service}
use Rattle.survey_text.specs.declared.sites.Sites.{Sites}
use Rattle.survey_text.specs.declared.worked_case.WorkedCase.{WorkedCase}
use Rattle.survey_text.specs.Cases.{changes_beside, count_found}
use Rattle.survey_text.specs.Relations.{any_edge, are_apart, find, has_site, is_cut, is_other, is_reached, lose, pairs_where, sites_where}
use Rattle.survey_text.specs.Surveys.{AreSites, Case, IsOver, IsServiceOver, IsWorked, count_in, is_whole}
use Rattle.survey_text.specs.Text.{apart_text, case_end, case_line, case_text, change_text, change_texts, count_all, count_apart, count_head, found_text, label_line, label_lines, lost_text, relation_text, service_text, service_texts}
use Rattle.text_lines.specs.Written.{IsCut, Puts, Written}
use Rattle.survey_text.proofs.EdgeLemmas.{none_passes}
use Rattle.survey_text.proofs.ChangeLemmas.{site_within}

pub changes_step : (plan : Plan) (before : NetworkState) (faults : List Fault) (place i : ℕ) (rows : List ServicePlan) → i < length rows
    → change_texts plan before faults place (drop i rows) ≡ change_text plan before faults place ++ change_texts plan before faults (place + 1) (drop (i + 1) rows)
changes_step plan before faults place i [] h = absurd (omega (arith, h))
changes_step plan before faults place i (row ∷ rows) h = at_drop_more (change_texts plan before faults place) (row ∷ rows) i row h

pub services_step : (plan : Plan) (before : NetworkState) (place i : ℕ) (rows : List ServicePlan) → i < length rows
    → service_texts plan before place (drop i rows) ≡ service_text plan before (record { 0 = place }) ++ service_texts plan before (place + 1) (drop (i + 1) rows)
services_step plan before place i [] h = absurd (omega (arith, h))
services_step plan before place i (row ∷ rows) h = at_drop_more (service_texts plan before place) (row ∷ rows) i row h

pub labels_step : (plan : Plan) (before : NetworkState) (place i : ℕ) (rows : List EdgePlan) → i < length rows
    → label_lines plan before place (drop i rows) ≡ label_line plan before place ++ label_lines plan before (place + 1) (drop (i + 1) rows)
labels_step plan before place i [] h = absurd (omega (arith, h))
labels_step plan before place i (row ∷ rows) h = at_drop_more (label_lines plan before place) (row ∷ rows) i row h

-- ---- numbers

pub all_counted : (plan : Plan) (before : NetworkState) (service : ServiceId) (sites : Sites) → AreSites plan before service sites
    → sites_where (count_in sites) (λ edge. true) 0 plan.edges ≡ count_all plan before service
all_counted plan before service sites are = ap (λ (count : ℕ → ℕ). sites_where count (λ edge. true) 0 plan.edges) (λ i. λ edge. are.counts edge i)

pub apart_counted : (plan : Plan) (before : NetworkState) (service : ServiceId) (sites : Sites) (pairs : List ℕ) → AreSites plan before service sites
    → ((a b : ℕ) → has_pair pairs a b ≡ are_apart plan before service a b) → pairs_where (count_in sites) (has_pair pairs) 0 plan.edges ≡ count_apart plan before service
apart_counted plan before service sites pairs are apart = λ i. pairs_where (λ edge. are.counts edge i) (λ a b. apart a b i) 0 plan.edges

-- ---- edges that are cut

-- what two relations say of one edge is the same, and an edge outside is no pair with any
pub cut_is : (rows : List EdgePlan) (pair whole other : ℕ → ℕ → Bool) (edge : ℕ) → ((k : ℕ) → pair edge k ≡ true → nat_lt edge (length rows) ≡ true)
    → (nat_lt edge (length rows) ≡ true → (k : ℕ) → whole edge k ≡ other edge k) → nat_lt edge (length rows) && is_cut rows pair whole edge ≡ is_cut rows pair other edge
cut_is rows pair whole other edge within same = by (nat_lt edge (length rows)) refl
  where
    out : (b : Bool) (k : ℕ) → nat_lt edge (length rows) ≡ false → pair edge k ≡ b → b ≡ false
    out true k e f = absurd (cc (sym e ∙ within k f))
    out false k e f = refl

    by : (b : Bool) → nat_lt edge (length rows) ≡ b → b && is_cut rows pair whole edge ≡ is_cut rows pair other edge
    by true e =
        ap (λ (t : ℕ → Bool). any_edge (pair edge) 0 rows && not (any_edge (λ k. t k && not (pair edge k)) 0 rows)) (λ i. λ k. same e k i)
    by false e = sym (ap (λ (b : Bool). b && not (any_edge (λ k. other edge k && not (pair edge k)) 0 rows)) (none_passes (pair edge) 0 rows (λ k. out (pair edge k) k e refl)))

-- the edges that an edge of the plan reaches, where they have sites, by the words
reached_by : (a b w s : Bool) (other : Bool) → a ≡ true → (s ≡ true → b ≡ true) → (((a && b) && w) && s) && other ≡ (w && s) && other
reached_by true true w s other e f = refl
reached_by true false w true other e f = absurd (cc (f refl))
reached_by true false true false other e f = refl
reached_by true false false false other e f = refl
reached_by false b w s other e f = absurd (cc e)

pub reached_is : (plan : Plan) (before : NetworkState) (service : ServiceId) (reach : List ℕ) (at a b : ℕ) → IsChecked plan → nat_lt a (length plan.edges) ≡ true
    → has_pair reach a b ≡ reaches plan before [] service a b → in_word at b ≡ has_site plan before service b → is_whole reach at a b ≡ is_reached plan before service a b
reached_is plan before service reach at a b checked within says stands =
    (λ i. (says i && stands i) && not (nat_eq b a))
    ∙ reached_by (nat_lt a (length plan.edges)) (nat_lt b (length plan.edges)) (would_reach plan before [] service a b) (has_site plan before service b) (not (nat_eq b a)) within
    (site_within plan before service b checked)

other_by : (a s other : Bool) → a ≡ true → ((a && s) && s) && other ≡ s && other
other_by true true other e = refl
other_by true false other e = refl
other_by false s other e = absurd (cc e)

pub other_is : (plan : Plan) (before : NetworkState) (service : ServiceId) (all : List ℕ) (at a b : ℕ) → nat_lt a (length plan.edges) ≡ true
    → has_pair all a b ≡ nat_lt a (length plan.edges) && in_word at b → in_word at b ≡ has_site plan before service b → is_whole all at a b ≡ is_other plan before service a b
other_is plan before service all at a b within says stands =
    (λ i. ((says i && stands i) && not (nat_eq b a)))
    ∙ ((λ i. ((nat_lt a (length plan.edges) && stands i) && has_site plan before service b) && not (nat_eq b a))
    ∙ other_by (nat_lt a (length plan.edges)) (has_site plan before service b) (not (nat_eq b a)) within)

-- an edge that is a pair has a site, and is one of the plan
paired_within : (s t r : Bool) → (s && t) && r ≡ true → s ≡ true
paired_within true t r e = refl
paired_within false t r e = absurd (cc e)

pub lose_within : (plan : Plan) (before : NetworkState) (service : ServiceId) (faults : List Fault) (a b : ℕ) → IsChecked plan → lose plan before service faults a b ≡ true → nat_lt a (length plan.edges) ≡ true
lose_within plan before service faults a b checked e =
    site_within plan before service a checked
    (paired_within (has_site plan before service a) (has_site plan before service b) (would_reach plan before [] service a b && not (would_reach plan before faults service a b)) e)

pub apart_within : (plan : Plan) (before : NetworkState) (service : ServiceId) (a b : ℕ) → IsChecked plan → are_apart plan before service a b ≡ true → nat_lt a (length plan.edges) ≡ true
apart_within plan before service a b checked e =
    site_within plan before service a checked (paired_within (has_site plan before service a) (has_site plan before service b) (not (would_reach plan before [] service a b)) e)

and_true : (b : Bool) → b && true ≡ b
and_true true = refl
and_true false = refl

-- ---- the lines of a relation over words are those over relations

pub lost_lines : (plan : Plan) (before : NetworkState) (faults : List Fault) (service : ServiceId) (lost reach : List ℕ) (at cut : ℕ) (rows : List EdgePlan) → IsChecked plan
    → ((a b : ℕ) → has_pair lost a b ≡ changes_beside (lose plan before service) faults [] a b) → ((a b : ℕ) → has_pair reach a b ≡ reaches plan before [] service a b)
    → ((k : ℕ) → in_word at k ≡ has_site plan before service k) → rows ≡ plan.edges
    → ((k : ℕ) → in_word cut k ≡ nat_lt k (length rows) && is_cut rows (has_pair lost) (is_whole reach at) k)
    → relation_text plan before service (codes "lost") (has_pair lost) (in_word cut) ≡ lost_text plan before faults service
lost_lines plan before faults service lost reach at cut rows checked says reached stands same cuts =
    λ i. relation_text plan before service (codes "lost") (pairs i) (are i)
  where
    pair : (a b : ℕ) → has_pair lost a b ≡ lose plan before service faults a b
    pair a b = says a b ∙ and_true (lose plan before service faults a b)

    pairs : has_pair lost ≡ lose plan before service faults
    pairs = λ i. λ a b. pair a b i

    is : (k : ℕ) → in_word cut k ≡ is_cut plan.edges (lose plan before service faults) (is_reached plan before service) k
    is k = cuts k ∙ ((λ i. nat_lt k (length (same i)) && is_cut (same i) (pairs i) (is_whole reach at) k)
        ∙ cut_is plan.edges (lose plan before service faults) (is_whole reach at) (is_reached plan before service) k (λ b. lose_within plan before service faults k b checked)
        (λ within b. reached_is plan before service reach at k b checked within (reached k b) (stands b)))

    are : in_word cut ≡ is_cut plan.edges (lose plan before service faults) (is_reached plan before service)
    are = λ i. λ k. is k i

pub found_lines : (plan : Plan) (before : NetworkState) (faults : List Fault) (service : ServiceId) (found : List ℕ)
    → ((a b : ℕ) → has_pair found a b ≡ changes_beside (find plan before service) faults [] a b)
    → relation_text plan before service (codes "found") (has_pair found) (in_word 0) ≡ found_text plan before faults service
found_lines plan before faults service found says = λ i. relation_text plan before service (codes "found") (λ a b. pair a b i) (λ k. none_on k i)
  where
    pair : (a b : ℕ) → has_pair found a b ≡ find plan before service faults a b
    pair a b = says a b ∙ and_true (find plan before service faults a b)

pub apart_lines : (plan : Plan) (before : NetworkState) (service : ServiceId) (apart all : List ℕ) (at cut : ℕ) (rows : List EdgePlan) → IsChecked plan
    → ((a b : ℕ) → has_pair apart a b ≡ are_apart plan before service a b) → ((a b : ℕ) → has_pair all a b ≡ nat_lt a (length rows) && in_word at b)
    → ((k : ℕ) → in_word at k ≡ has_site plan before service k) → rows ≡ plan.edges
    → ((k : ℕ) → in_word cut k ≡ nat_lt k (length rows) && is_cut rows (has_pair apart) (is_whole all at) k)
    → relation_text plan before service (codes "apart") (has_pair apart) (in_word cut) ≡ apart_text plan before service
apart_lines plan before service apart all at cut rows checked says whole stands same cuts = λ i. relation_text plan before service (codes "apart") (pairs i) (are i)
  where
    pairs : has_pair apart ≡ are_apart plan before service
    pairs = λ i. λ a b. says a b i

    every : (a b : ℕ) → has_pair all a b ≡ nat_lt a (length plan.edges) && in_word at b
    every a b = whole a b ∙ (λ i. nat_lt a (length (same i)) && in_word at b)

    is : (k : ℕ) → in_word cut k ≡ is_cut plan.edges (are_apart plan before service) (is_other plan before service) k
    is k = cuts k ∙ ((λ i. nat_lt k (length (same i)) && is_cut (same i) (pairs i) (is_whole all at) k)
        ∙ cut_is plan.edges (are_apart plan before service) (is_whole all at) (is_other plan before service) k (λ b. apart_within plan before service k b checked)
        (λ within b. other_is plan before service all at k b within (every k b) (stands b)))

    are : in_word cut ≡ is_cut plan.edges (are_apart plan before service) (is_other plan before service)
    are = λ i. λ k. is k i

-- a text by another name
pub puts_same : {T E : Type 0} (result : Result T E) (a b : Written) (first second : List ℕ) → first ≡ second → Puts result a b first → Puts result a b second
puts_same result a b first second same puts = subst (Puts result a b) same puts

pub cut_same : (a b : Written) (first second : List ℕ) → first ≡ second → IsCut a b first → IsCut a b second
cut_same a b first second same cut = subst (IsCut a b) same cut

-- the first line of a case by what was worked out
pub case_line_is : (case : Case) (worked : WorkedCase) (found : ℕ) → IsWorked case worked → found ≡ count_found worked.over.plan.now case.before case.faults
    → count_head (codes "case") worked.lost ++ ((codes " " ++ decimal found) ++ case_end worked.over.plan.now worked.faults.now) ≡ case_line worked.over.plan.now case.before case.faults
case_line_is case worked found is counts = λ i. count_head (codes "case") (is.lost i) ++ ((codes " " ++ decimal (counts i)) ++ case_end worked.over.plan.now (is.faults i))

-- a survey of a service is made over the same
pub relation_over : (before : NetworkState) (over : Over) (service : ServiceId) (of : OverService) (any : Service) → of ≡ record { over = over; service = service } → IsServiceOver before over any → IsOver before of.over
relation_over before over service of any is made = subst (λ (o : OverService). IsOver before o.over) (sym is) made.made

-- the lines of a case that is told
pub case_told : (case : Case) (worked : WorkedCase) → IsWorked case worked → worked.told ≡ true
    → case_line worked.over.plan.now case.before case.faults ++ change_texts worked.over.plan.now case.before case.faults 0 worked.over.plan.now.services ≡ case_text worked.over.plan.now case.before case.faults
case_told case worked is so =
    ap (λ (t : Bool). if t then case_line worked.over.plan.now case.before case.faults ++ change_texts worked.over.plan.now case.before case.faults 0 worked.over.plan.now.services else []) (sym so ∙ is.told)
