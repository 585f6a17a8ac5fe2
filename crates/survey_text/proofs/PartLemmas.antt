-- The faults of a case by their places, and what is left beside its parts.
use Rattle.std.proofs.Common.{◌≡◌, ◌<◌, ◌≤◌, ◌+◌, ◌++◌, ◌∙◌, ℕ, suc, false, List, [], ◌∷◌, length, drop, slice_index_or, refl, ap, arith, subst, sym, append_assoc}
use Rattle.std.proofs.lemmas.List.{append-nil, at_drop_all, at_drop_more}
use Rattle.net_values.proofs.RowLemmas.{same_read}
use Rattle.net_base.specs.declared.plan.Plan.{Plan}
use Rattle.network_model.specs.State.{NetworkState}
use Rattle.survey_laws.specs.declared.fault.Fault.{Fault}
use Rattle.survey_laws.specs.declared.fault.Fault.TheVariants as fault
use Rattle.survey_text.specs.declared.change.Change.{Change}
use Rattle.survey_text.specs.Cases.{is_told, is_told_beside, pairs_of, parts, singles_of}
use Rattle.survey_text.specs.Surveys.{AreLeft, ArePlaces, LeavesAll, LeavesOut, any_changed, fault_in, faults_at}
use Rattle.survey_text.proofs.LeftLemmas.{not_told_beside, told_is}

-- ---- faults by their places

pub place_within : (count : ℕ) (places : List ℕ) (i place d : ℕ) → ArePlaces count places → i < length places → place ≡ slice_index_or places i d → place < count
place_within count places i place d are below read = subst (λ (n : ℕ). n < count) (sym read) (are.each i d below)

pub fault_read : (faults : List Fault) (place : ℕ) (one : Fault) → place < length faults → one ≡ slice_index_or faults place one → one ≡ fault_in faults place
fault_read faults place one below read = read ∙ same_read faults place one (fault.Edge (record { 0 = 0 })) below

pub faults_counted : (faults : List Fault) (places : List ℕ) → length (faults_at faults places) ≡ length places
faults_counted faults [] = refl
faults_counted faults (place ∷ places) = ap suc (faults_counted faults places)

pub case_counts : (held faults : List Fault) (places : List ℕ) → held ≡ faults_at faults places → length held ≡ length places
case_counts held faults places is = ap (λ (l : List Fault). length l) is ∙ faults_counted faults places

-- one more fault was taken
pub faults_more : (faults : List Fault) (places : List ℕ) (i d : ℕ) (one : Fault) (old new whole : List Fault) → i < length places → one ≡ fault_in faults (slice_index_or places i d)
    → old ++ faults_at faults (drop i places) ≡ whole → new ≡ old ++ one ∷ [] → new ++ faults_at faults (drop (i + 1) places) ≡ whole
faults_more faults places i d one old new whole below read so_far pushed =
    let rest : List Fault = faults_at faults (drop (i + 1) places) in
    ap (λ (l : List Fault). l ++ rest) pushed
    ∙ (append_assoc old (one ∷ []) rest
    ∙ (ap (λ (f : Fault). old ++ f ∷ rest) read
    ∙ (ap (λ (l : List Fault). old ++ l) (sym (at_drop_more (faults_at faults) places i d below)) ∙ so_far)))

pub faults_end : (faults : List Fault) (places : List ℕ) (i : ℕ) (held whole : List Fault) → length places ≤ i → held ++ faults_at faults (drop i places) ≡ whole → held ≡ whole
faults_end faults places i held whole past so_far =
    sym (append-nil held) ∙ (ap (λ (l : List Fault). held ++ l) (sym (at_drop_all (faults_at faults) places i past)) ∙ so_far)

pub three_are : (faults : List Fault) (one other last : Fault) → length faults ≡ 3 → one ≡ slice_index_or faults 0 one → other ≡ slice_index_or faults 1 other → last ≡ slice_index_or faults 2 last
    → faults ≡ one ∷ other ∷ last ∷ []
three_are [] one other last three first second third = absurd (omega (arith, three))
three_are (a ∷ []) one other last three first second third = absurd (omega (arith, three))
three_are (a ∷ b ∷ []) one other last three first second third = absurd (omega (arith, three))
three_are (a ∷ b ∷ c ∷ []) one other last three first second third = λ i. sym first i ∷ sym second i ∷ sym third i ∷ []
three_are (a ∷ b ∷ c ∷ d ∷ faults) one other last three first second third = absurd (omega (arith, three))

-- ---- what each of several faults changes alone is left out, one by one

singles_end : (faults : List Fault) (one : Fault) → singles_of (faults ++ one ∷ []) ≡ (one ∷ []) ∷ singles_of faults
singles_end [] one = refl
singles_end (first ∷ faults) one = ap (λ (l : List (List Fault)). l ++ (first ∷ []) ∷ []) (singles_end faults one)

pub record AreLeftOut (plan : Plan) (before : NetworkState) (old now : List Change) (rest whole : List Fault) : Type 0 where
  done : List Fault
  pub left : LeavesAll plan before (singles_of done) old now
  all : done ++ rest ≡ whole

pub out_none : (plan : Plan) (before : NetworkState) (old : List Change) (whole : List Fault) → AreLeftOut plan before old old whole whole
out_none plan before old whole = record { done = []; left = record { all = refl; left = λ faults earlier left. left }; all = refl }

pub out_more : (plan : Plan) (before : NetworkState) (old now new : List Change) (rest later whole : List Fault) (one : Fault) → rest ≡ one ∷ later → AreLeftOut plan before old now rest whole
    → LeavesOut plan before (one ∷ []) now new → AreLeftOut plan before old new later whole
out_more plan before old now new rest later whole one is so_far out = record {
  done = so_far.done ++ one ∷ [];
  left = subst (λ (parts : List (List Fault)). LeavesAll plan before parts old new) (sym (singles_end so_far.done one)) (record {
    all = out.all ∙ so_far.left.all;
    left = λ faults earlier left. out.left faults (singles_of so_far.done ++ earlier) (so_far.left.left faults earlier left);
  });
  all = append_assoc so_far.done (one ∷ []) later ∙ (ap (λ (l : List Fault). so_far.done ++ l) (sym is) ∙ so_far.all);
}

pub out_all : (plan : Plan) (before : NetworkState) (old now : List Change) (rest whole : List Fault) → rest ≡ [] → AreLeftOut plan before old now rest whole
    → LeavesAll plan before (singles_of whole) old now
out_all plan before old now rest whole none so_far =
    subst (λ (l : List Fault). LeavesAll plan before (singles_of l) old now) (sym (append-nil so_far.done) ∙ (ap (λ (l : List Fault). so_far.done ++ l) (sym none) ∙ so_far.all)) so_far.left

-- ---- whether a case is told, by what is left

no_parts : (faults : List Fault) → length faults < 2 → [] ≡ parts faults
no_parts [] few = refl
no_parts (one ∷ []) few = refl
no_parts (one ∷ next ∷ faults) few = absurd (omega (arith, few))

two_parts : (faults : List Fault) → length faults ≡ 2 → singles_of faults ++ [] ≡ parts faults
two_parts [] two = absurd (omega (arith, two))
two_parts (one ∷ []) two = absurd (omega (arith, two))
two_parts (one ∷ next ∷ []) two = refl
two_parts (one ∷ next ∷ last ∷ faults) two = absurd (omega (arith, two))

three_parts : (faults : List Fault) → length faults ≡ 3 → pairs_of faults ++ (singles_of faults ++ []) ≡ parts faults
three_parts [] three = absurd (omega (arith, three))
three_parts (one ∷ []) three = absurd (omega (arith, three))
three_parts (one ∷ next ∷ []) three = absurd (omega (arith, three))
three_parts (one ∷ next ∷ last ∷ []) three = refl
three_parts (one ∷ next ∷ last ∷ more ∷ faults) three = absurd (omega (arith, three))

module _ (plan : Plan) (before : NetworkState) (faults : List Fault) (left : List Change)
  where
    pub told_alone : length faults < 2 → AreLeft plan before faults [] left → any_changed plan.edges left ≡ is_told plan before faults
    told_alone few is = told_is plan before faults [] left is ∙ ap (is_told_beside plan before faults) (no_parts faults few)

    pub told_two : (all : List Change) → length faults ≡ 2 → AreLeft plan before faults [] all → LeavesAll plan before (singles_of faults) all left → any_changed plan.edges left ≡ is_told plan before faults
    told_two all two is singles =
        told_is plan before faults (singles_of faults ++ []) left (singles.left faults [] is) ∙ ap (is_told_beside plan before faults) (two_parts faults two)

    pub told_three : (all beside : List Change) → length faults ≡ 3 → AreLeft plan before faults [] all → LeavesAll plan before (singles_of faults) all beside
        → LeavesAll plan before (pairs_of faults) beside left → any_changed plan.edges left ≡ is_told plan before faults
    told_three all beside three is singles pairs =
        told_is plan before faults (pairs_of faults ++ (singles_of faults ++ [])) left (pairs.left faults (singles_of faults ++ []) (singles.left faults [] is))
        ∙ ap (is_told_beside plan before faults) (three_parts faults three)

-- nothing is left beside what each of three faults changes alone
not_told : (plan : Plan) (before : NetworkState) (faults : List Fault) → length faults ≡ 3 → is_told_beside plan before faults (singles_of faults ++ []) ≡ false → is_told plan before faults ≡ false
not_told plan before [] three none = absurd (omega (arith, three))
not_told plan before (one ∷ []) three none = absurd (omega (arith, three))
not_told plan before (one ∷ next ∷ []) three none = absurd (omega (arith, three))
not_told plan before (one ∷ next ∷ last ∷ []) three none =
    not_told_beside plan before (one ∷ next ∷ last ∷ []) (one ∷ next ∷ []) ((one ∷ last ∷ []) ∷ (next ∷ last ∷ []) ∷ (last ∷ []) ∷ (next ∷ []) ∷ (one ∷ []) ∷ [])
    (not_told_beside plan before (one ∷ next ∷ last ∷ []) (one ∷ last ∷ []) ((next ∷ last ∷ []) ∷ (last ∷ []) ∷ (next ∷ []) ∷ (one ∷ []) ∷ [])
    (not_told_beside plan before (one ∷ next ∷ last ∷ []) (next ∷ last ∷ []) ((last ∷ []) ∷ (next ∷ []) ∷ (one ∷ []) ∷ []) none))
not_told plan before (one ∷ next ∷ last ∷ more ∷ faults) three none = absurd (omega (arith, three))

pub told_none : (plan : Plan) (before : NetworkState) (faults : List Fault) (all left : List Change) → length faults ≡ 3 → AreLeft plan before faults [] all
    → LeavesAll plan before (singles_of faults) all left → any_changed plan.edges left ≡ false → any_changed plan.edges left ≡ is_told plan before faults
told_none plan before faults all left three is singles none =
    none ∙ sym (not_told plan before faults three (sym (told_is plan before faults (singles_of faults ++ []) left (singles.left faults [] is)) ∙ none))
