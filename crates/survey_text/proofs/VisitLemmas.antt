-- Cases one behind another.
use Rattle.std.proofs.Common.{◌≡◌, ◌<◌, ◌≤◌, ◌+◌, ◌++◌, ◌∙◌, ℕ, zero, suc, List, [], ◌∷◌, Result, Ok, Err, OnOk, length, slice_index_or, drop, refl, sym, ap, arith, subst, append_assoc}
use Rattle.std.proofs.lemmas.List.{append-nil, drop_all}
use Rattle.net_values.proofs.RowLemmas.{drop_next, same_read}
use Rattle.net_base.specs.declared.plan.Plan.{Plan}
use Rattle.network_model.specs.State.{NetworkState}
use Rattle.survey_laws.specs.declared.fault.Fault.{Fault}
use Rattle.survey_laws.specs.declared.fault.Fault.TheVariants as fault
use Rattle.survey_reach.specs.FaultList.{all_faults}
use Rattle.survey_text.specs.declared.change.Change.{Change}
use Rattle.survey_text.specs.declared.known.Known.{Known}
use Rattle.survey_text.specs.declared.stop.SurveyStop.{SurveyStop}
use Rattle.survey_text.specs.declared.stop.SurveyStop.TheVariants as stop
use Rattle.survey_text.specs.Cases.{cases_of, pairs, triples, triples_with, with_one}
use Rattle.survey_text.specs.Surveys.{AreAllKnown, AreLeft, AreVisited, IsCaseOf, IsKnown, PutsFront, Stops, Surveys, Visits, fault_in, faults_at}
use Rattle.survey_text.specs.Text.{Tallied, case_text, case_texts, cases_text, end_text, ground_text, no_cases, survey_text, tally_case, tally_cases}
use Rattle.text_lines.specs.Written.{IsCut, Written, WritingGoesOn}
use Rattle.text_lines.proofs.WrittenLemmas.{cut_first, cut_later, goes_none, goes_two}

-- memory lacked before anything was put
pub front_none : (w : Written) (text : List ℕ) → PutsFront w w text
front_none w text = record { front = []; rest = text; goes = goes_none w; all = refl }

-- it stopped within a first text, or within a second one
pub stops_first : (fault : SurveyStop) (a b : Written) (first second : List ℕ) → Stops fault a b first → Stops fault a b (first ++ second)
stops_first stop.Failed a b first second cut = cut_first a b first second cut
stops_first stop.NoMemory a b first second put = record {
  front = put.front;
  rest = put.rest ++ second;
  goes = put.goes;
  all = sym (append_assoc put.front put.rest second) ∙ ap (λ (l : List ℕ). l ++ second) put.all;
}

pub stops_later : (fault : SurveyStop) (a b c : Written) (first second : List ℕ) → WritingGoesOn a b first → Stops fault b c second → Stops fault a c (first ++ second)
stops_later stop.Failed a b c first second one cut = cut_later a b c first second one cut
stops_later stop.NoMemory a b c first second one put = record {
  front = first ++ put.front;
  rest = put.rest;
  goes = goes_two a b c first put.front one put.goes;
  all = append_assoc first put.front put.rest ∙ ap (λ (l : List ℕ). first ++ l) put.all;
}

pub surveys_two : {T : Type 0} (result : Result T SurveyStop) (a b c : Written) (first second : List ℕ) → WritingGoesOn a b first → Surveys result b c second → Surveys result a c (first ++ second)
surveys_two (Ok value) a b c first second one two = goes_two a b c first second one two
surveys_two (Err fault) a b c first second one two = stops_later fault a b c first second one two

-- ---- the lines and the tally of some cases, and of more

pub texts_two : (plan : Plan) (before : NetworkState) (first second : List (List Fault)) → case_texts plan before (first ++ second) ≡ case_texts plan before first ++ case_texts plan before second
texts_two plan before [] second = refl
texts_two plan before (one ∷ first) second =
    ap (λ (l : List ℕ). case_text plan before one ++ l) (texts_two plan before first second)
    ∙ sym (append_assoc (case_text plan before one) (case_texts plan before first) (case_texts plan before second))

pub tally_two : (plan : Plan) (before : NetworkState) (tally : Tallied) (first second : List (List Fault))
    → tally_cases plan before tally (first ++ second) ≡ tally_cases plan before (tally_cases plan before tally first) second
tally_two plan before tally [] second = refl
tally_two plan before tally (one ∷ first) second = tally_two plan before (tally_case plan before one tally) first second

pub visited_two : (plan : Plan) (before : NetworkState) (a b c : Written) (t u v : Tallied) (first second : List (List Fault))
    → AreVisited plan before a b t u first → AreVisited plan before b c u v second → AreVisited plan before a c t v (first ++ second)
visited_two plan before a b c t u v first second one two = record {
  text = subst (WritingGoesOn a c) (sym (texts_two plan before first second)) (goes_two a b c (case_texts plan before first) (case_texts plan before second) one.text two.text);
  counts = two.counts ∙ (ap (λ (w : Tallied). tally_cases plan before w second) one.counts ∙ sym (tally_two plan before t first second));
}

pub visits_two : {T : Type 0} (plan : Plan) (before : NetworkState) (result : Result T SurveyStop) (a b c : Written) (t u v : Tallied) (first second : List (List Fault))
    → AreVisited plan before a b t u first → Visits plan before result b c u v second → Visits plan before result a c t v (first ++ second)
visits_two plan before (Ok value) a b c t u v first second one two = visited_two plan before a b c t u v first second one two
visits_two plan before (Err fault) a b c t u v first second one two =
    subst (Stops fault a c) (sym (texts_two plan before first second)) (stops_later fault a b c (case_texts plan before first) (case_texts plan before second) one.text two)

pub visits_first : (plan : Plan) (before : NetworkState) (fault : SurveyStop) (a b : Written) (first second : List (List Fault))
    → Stops fault a b (case_texts plan before first) → Stops fault a b (case_texts plan before (first ++ second))
visits_first plan before fault a b first second stops =
    subst (Stops fault a b) (sym (texts_two plan before first second)) (stops_first fault a b (case_texts plan before first) (case_texts plan before second) stops)

pub visited_none : (plan : Plan) (before : NetworkState) (w : Written) (t : Tallied) → AreVisited plan before w w t t []
visited_none plan before w t = record { text = goes_none w; counts = refl }

-- one case was put and counted
pub visits_one : {T : Type 0} (plan : Plan) (before : NetworkState) (result : Result T SurveyStop) (a b : Written) (t u : Tallied) (one : List Fault)
    → Surveys result a b (case_text plan before one) → u ≡ tally_case plan before one t → Visits plan before result a b t u (one ∷ [])
visits_one plan before (Ok value) a b t u one text is = record { text = subst (WritingGoesOn a b) (sym (append-nil (case_text plan before one))) text; counts = is }
visits_one plan before (Err fault) a b t u one text is = subst (Stops fault a b) (sym (append-nil (case_text plan before one))) text

-- ---- some of the cases were visited, and some are left

pub record Visiting (plan : Plan) (before : NetworkState) (old now : Written) (tally tally_now : Tallied) (rest whole : List (List Fault)) : Type 0 where
  front : List (List Fault)
  done : AreVisited plan before old now tally tally_now front
  all : front ++ rest ≡ whole

pub visiting_none : (plan : Plan) (before : NetworkState) (w : Written) (t : Tallied) (whole : List (List Fault)) → Visiting plan before w w t t whole whole
visiting_none plan before w t whole = record { front = []; done = visited_none plan before w t; all = refl }

pub visiting_more : (plan : Plan) (before : NetworkState) (a b c : Written) (t u v : Tallied) (rest item later whole : List (List Fault)) → rest ≡ item ++ later
    → Visiting plan before a b t u rest whole → AreVisited plan before b c u v item → Visiting plan before a c t v later whole
visiting_more plan before a b c t u v rest item later whole split so_far more = record {
  front = so_far.front ++ item;
  done = visited_two plan before a b c t u v so_far.front item so_far.done more;
  all = append_assoc so_far.front item later ∙ (ap (λ (l : List (List Fault)). so_far.front ++ l) (sym split) ∙ so_far.all);
}

pub visiting_stops : (plan : Plan) (before : NetworkState) (fault : SurveyStop) (a b c : Written) (t u : Tallied) (rest item later whole : List (List Fault)) → rest ≡ item ++ later
    → Visiting plan before a b t u rest whole → Stops fault b c (case_texts plan before item) → Stops fault a c (case_texts plan before whole)
visiting_stops plan before fault a b c t u rest item later whole split so_far stops =
    let next = visits_first plan before fault b c item later stops in
    let longer = stops_later fault a b c (case_texts plan before so_far.front) (case_texts plan before (item ++ later)) so_far.done.text next in
    subst (Stops fault a c) (sym (texts_two plan before so_far.front (item ++ later)) ∙ ap (case_texts plan before) (ap (λ (l : List (List Fault)). so_far.front ++ l) (sym split) ∙ so_far.all)) longer

pub visiting_all : (plan : Plan) (before : NetworkState) (a b : Written) (t u : Tallied) (rest whole : List (List Fault)) → rest ≡ []
    → Visiting plan before a b t u rest whole → AreVisited plan before a b t u whole
visiting_all plan before a b t u rest whole none so_far =
    subst (AreVisited plan before a b t u) (sym (append-nil so_far.front) ∙ (ap (λ (l : List (List Fault)). so_far.front ++ l) (sym none) ∙ so_far.all)) so_far.done

-- ---- the cases from a fault on

faults_next : (faults : List Fault) (place : ℕ) → place < length faults → drop place faults ≡ fault_in faults place ∷ drop (place + 1) faults
faults_next faults place within = drop_next faults place (fault_in faults place) within (same_read faults place (fault.Edge (record { 0 = 0 })) (fault_in faults place) within)

pub one_more : (front faults : List Fault) (place : ℕ) → place < length faults
    → with_one front (drop place faults) ≡ ((front ++ fault_in faults place ∷ []) ∷ []) ++ with_one front (drop (place + 1) faults)
one_more front faults place within = ap (with_one front) (faults_next faults place within)

pub pair_more : (faults : List Fault) (place : ℕ) → place < length faults
    → pairs (drop place faults) ≡ with_one (fault_in faults place ∷ []) (drop (place + 1) faults) ++ pairs (drop (place + 1) faults)
pair_more faults place within = ap pairs (faults_next faults place within)

pub triple_with_more : (one : Fault) (faults : List Fault) (place : ℕ) → place < length faults
    → triples_with one (drop place faults) ≡ with_one (one ∷ fault_in faults place ∷ []) (drop (place + 1) faults) ++ triples_with one (drop (place + 1) faults)
triple_with_more one faults place within = ap (triples_with one) (faults_next faults place within)

pub triple_more : (faults : List Fault) (place : ℕ) → place < length faults
    → triples (drop place faults) ≡ triples_with (fault_in faults place) (drop (place + 1) faults) ++ triples (drop (place + 1) faults)
triple_more faults place within = ap triples (faults_next faults place within)

-- memory lacked once a whole text was put
pub front_all : (a b : Written) (text : List ℕ) → WritingGoesOn a b text → PutsFront a b text
front_all a b text goes = record { front = text; rest = []; goes = goes; all = append-nil text }

-- the same of a list by another name
pub one_more_of : (front faults whole : List Fault) (place : ℕ) → faults ≡ whole → place < length whole
    → with_one front (drop place whole) ≡ ((front ++ fault_in faults place ∷ []) ∷ []) ++ with_one front (drop (place + 1) whole)
one_more_of front faults whole place same within =
    one_more front whole place within ∙ ap (λ (f : List Fault). ((front ++ fault_in f place ∷ []) ∷ []) ++ with_one front (drop (place + 1) whole)) (sym same)

-- by two names of what is left
pub visiting_as : (plan : Plan) (before : NetworkState) (a b : Written) (t u : Tallied) (rest same whole : List (List Fault)) → rest ≡ same
    → Visiting plan before a b t u rest whole → Visiting plan before a b t u same whole
visiting_as plan before a b t u rest same whole is so_far = subst (λ (l : List (List Fault)). Visiting plan before a b t u l whole) is so_far

-- it stopped within a case by two names of what is known
pub stops_known : (plan : Plan) (before : NetworkState) (fault : SurveyStop) (a b : Written) (now known : Known) (places : List ℕ) → now ≡ known
    → Stops fault a b (case_texts plan before (faults_at now.faults places ∷ [])) → Stops fault a b (case_texts plan before (faults_at known.faults places ∷ []))
stops_known plan before fault a b now known places same stops = subst (λ (k : Known). Stops fault a b (case_texts plan before (faults_at k.faults places ∷ []))) same stops

-- no fault is left behind the last one
pub none_later : (cases : List Fault → List (List Fault)) (faults : List Fault) (place : ℕ) (rest : List (List Fault)) → cases [] ≡ [] → length faults ≤ place → cases (drop place faults) ++ rest ≡ rest
none_later cases faults place rest none past = ap (λ (l : List (List Fault)). l ++ rest) (ap cases (drop_all place faults past) ∙ none)

-- ---- which cases can be worked out

pub case_one : (plan : Plan) (before : NetworkState) (place : ℕ) (known : Known) → IsKnown plan before place known → place < length known.faults → IsCaseOf plan before known (place ∷ [])
case_one plan before place known is within = record {
  services = is.services;
  most = omega arith;
  within = record { each = by };
  alone = λ more. absurd (omega (arith, more));
}
  where
    by : (i none : ℕ) → i < length (place ∷ []) → slice_index_or (place ∷ []) i none < length known.faults
    by zero none below = within
    by (suc i) none below = absurd (omega (arith, below))

pub case_two : (plan : Plan) (before : NetworkState) (first second : ℕ) (now known : Known) → now ≡ known → AreAllKnown plan before known → first < length known.faults → second < length known.faults
    → IsCaseOf plan before now (first ∷ second ∷ [])
case_two plan before first second now known same are low high = subst (λ (k : Known). IsCaseOf plan before k (first ∷ second ∷ [])) (sym same) (record {
  services = are.services;
  most = omega arith;
  within = record { each = by };
  alone = λ more. are;
})
  where
    by : (i none : ℕ) → i < length (first ∷ second ∷ []) → slice_index_or (first ∷ second ∷ []) i none < length known.faults
    by zero none below = low
    by (suc zero) none below = high
    by (suc (suc i)) none below = absurd (omega (arith, below))

pub case_three : (plan : Plan) (before : NetworkState) (first second third : ℕ) (now known : Known) → now ≡ known → AreAllKnown plan before known → first < length known.faults
    → second < length known.faults → third < length known.faults → IsCaseOf plan before now (first ∷ second ∷ third ∷ [])
case_three plan before first second third now known same are low middle high = subst (λ (k : Known). IsCaseOf plan before k (first ∷ second ∷ third ∷ [])) (sym same) (record {
  services = are.services;
  most = omega arith;
  within = record { each = by };
  alone = λ more. are;
})
  where
    by : (i none : ℕ) → i < length (first ∷ second ∷ third ∷ []) → slice_index_or (first ∷ second ∷ third ∷ []) i none < length known.faults
    by zero none below = low
    by (suc zero) none below = middle
    by (suc (suc zero)) none below = high
    by (suc (suc (suc i))) none below = absurd (omega (arith, below))

-- the case that was closed is that of the faults at some places
pub visits_case : {T : Type 0} (plan : Plan) (before : NetworkState) (result : Result T SurveyStop) (a b : Written) (t u : Tallied) (one case : List Fault) → one ≡ case
    → Surveys result a b (case_text plan before one) → OnOk result (u ≡ tally_case plan before one t) → Visits plan before result a b t u (case ∷ [])
visits_case plan before (Ok value) a b t u one case same text is =
    subst (λ (c : List Fault). Visits plan before (Ok value) a b t u (c ∷ [])) same (visits_one plan before (Ok value) a b t u one text is)
visits_case plan before (Err fault) a b t u one case same text is =
    subst (λ (c : List Fault). Stops fault a b (case_texts plan before (c ∷ []))) same (subst (Stops fault a b) (sym (append-nil (case_text plan before one))) text)

pub on_ok : {T E P : Type 0} (result : Result T E) → P → OnOk result P
on_ok (Ok value) p = p
on_ok (Err fault) p = tt

-- ---- what is known by its count

pub known_counts : (plan : Plan) (before : NetworkState) (count : ℕ) (old now : Known) → now ≡ old → IsKnown plan before count old → IsKnown plan before (length now.alone.items) now
known_counts plan before count old now same is =
    subst (λ (k : Known). IsKnown plan before (length k.alone.items) k) (sym same) (subst (λ (n : ℕ). IsKnown plan before n old) (sym is.counted) is)

pub changes_count : (plan : Plan) (before : NetworkState) (count : ℕ) (old now : Known) (changes : List Change) → now ≡ old → IsKnown plan before count old
    → AreLeft plan before (fault_in old.faults count ∷ []) [] changes → AreLeft plan before (fault_in now.faults (length now.alone.items) ∷ []) [] changes
changes_count plan before count old now changes same is left =
    subst (λ (k : Known). AreLeft plan before (fault_in k.faults (length k.alone.items) ∷ []) [] changes) (sym same)
    (subst (λ (n : ℕ). AreLeft plan before (fault_in old.faults n ∷ []) [] changes) (sym is.counted) left)

pub within_counts : (plan : Plan) (before : NetworkState) (count : ℕ) (old now : Known) → now ≡ old → IsKnown plan before count old → count < length old.faults → length now.alone.items < length now.faults
within_counts plan before count old now same is within =
    subst (λ (k : Known). length k.alone.items < length k.faults) (sym same) (subst (λ (n : ℕ). n < length old.faults) (sym is.counted) within)

pub known_next : (plan : Plan) (before : NetworkState) (count : ℕ) (old now new : Known) → now ≡ old → IsKnown plan before count old → IsKnown plan before (length now.alone.items + 1) new
    → IsKnown plan before (count + 1) new
known_next plan before count old now new same is next =
    subst (λ (n : ℕ). IsKnown plan before (n + 1) new) (ap (λ (k : Known). length k.alone.items) same ∙ is.counted) next

pub ruleset known_steps = (known_counts, changes_count, within_counts, known_next)

pub known_all : (plan : Plan) (before : NetworkState) (count : ℕ) (known : Known) → IsKnown plan before count known → length known.faults ≡ count → AreAllKnown plan before known
known_all plan before count known is all = subst (λ (n : ℕ). IsKnown plan before n known) (sym all ∙ ap length is.faults) is

-- ---- the whole text

end_same : (plan : Plan) (before : NetworkState) (faults : List Fault) (cases : List (List Fault)) (t u : Tallied) (count : ℕ) → u ≡ tally_cases plan before t cases → t ≡ no_cases → count ≡ length faults
    → end_text plan count u ≡ end_text plan (length faults) (tally_cases plan before no_cases cases)
end_same plan before faults cases t u count is none counted = λ i. end_text plan (counted i) ((is ∙ ap (λ (w : Tallied). tally_cases plan before w cases) none) i)

-- the last lines behind those of all cases
pub ends : (plan : Plan) (before : NetworkState) (a b c : Written) (t u : Tallied) (faults : List Fault) (cases : List (List Fault)) (count : ℕ) → AreVisited plan before a b t u cases → t ≡ no_cases
    → count ≡ length faults → WritingGoesOn b c (end_text plan count u) → WritingGoesOn a c (cases_text plan before faults cases)
ends plan before a b c t u faults cases count visited none counted goes =
    goes_two a b c (case_texts plan before cases) (end_text plan (length faults) (tally_cases plan before no_cases cases)) visited.text
    (subst (WritingGoesOn b c) (end_same plan before faults cases t u count visited.counts none counted) goes)

pub ends_cut : (plan : Plan) (before : NetworkState) (a b c : Written) (t u : Tallied) (faults : List Fault) (cases : List (List Fault)) (count : ℕ) → AreVisited plan before a b t u cases → t ≡ no_cases
    → count ≡ length faults → IsCut b c (end_text plan count u) → IsCut a c (cases_text plan before faults cases)
ends_cut plan before a b c t u faults cases count visited none counted cut =
    cut_later a b c (case_texts plan before cases) (end_text plan (length faults) (tally_cases plan before no_cases cases)) visited.text
    (subst (IsCut b c) (end_same plan before faults cases t u count visited.counts none counted) cut)

pub ends_before : (plan : Plan) (before : NetworkState) (fault : SurveyStop) (a b : Written) (faults : List Fault) (cases : List (List Fault)) → Stops fault a b (case_texts plan before cases)
    → Stops fault a b (cases_text plan before faults cases)
ends_before plan before fault a b faults cases stops = stops_first fault a b (case_texts plan before cases) (end_text plan (length faults) (tally_cases plan before no_cases cases)) stops

-- all of it behind the lines of the ground
pub surveyed : {T : Type 0} (plan : Plan) (before : NetworkState) (most : ℕ) (result : Result T SurveyStop) (a b c : Written) (faults : List Fault) → faults ≡ all_faults plan before
    → WritingGoesOn a b (ground_text plan before) → Surveys result b c (cases_text plan before faults (cases_of most faults)) → Surveys result a c (survey_text plan before most)
unfolding survey_text
surveyed plan before most result a b c faults is goes rest =
    surveys_two result a b c (ground_text plan before) (cases_text plan before (all_faults plan before) (cases_of most (all_faults plan before))) goes
    (subst (λ (f : List Fault). Surveys result b c (cases_text plan before f (cases_of most f))) is rest)

pub survey_cut : (plan : Plan) (before : NetworkState) (most : ℕ) (a b : Written) → IsCut a b (ground_text plan before) → IsCut a b (survey_text plan before most)
unfolding survey_text
survey_cut plan before most a b cut = cut_first a b (ground_text plan before) (cases_text plan before (all_faults plan before) (cases_of most (all_faults plan before))) cut
