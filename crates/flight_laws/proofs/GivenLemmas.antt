-- Labels that are given and not free: what an edge does leaves them so, and the one that it gives next is none of them.
use Rattle.std.proofs.Common.{◌≡◌, ◌≤◌, ◌+◌, ◌==◌, ◌&&◌, ◌||◌, not, nat_lt, nat_eq, length, ℕ, Bool, true, false, cond, List, [], ◌∷◌, Option, Some, None, refl, sym, ap, subst, arith}
use Rattle.std.proofs.lemmas.Bool.{eq-eqb, and_from, or_right, or_left}
use Rattle.std.proofs.lemmas.Bool.Decides.{nat_tests}
use Rattle.std.specs.Prelude.{option_map}
use Rattle.std.specs.List.{find, list_any}
use Rattle.net_base.specs.declared.plan.places.EdgeId.{EdgeId}
use Rattle.net_values.specs.Label.{IsLabel}
use Rattle.net_values.proofs.BoolLemmas.{first_holds, clash, second_holds, and_not_held}
use Rattle.net_values.proofs.OptionLemmas.{same_number_held}
use Rattle.label_space.specs.declared.kept.Kept.{Kept}
use Rattle.label_space.specs.declared.kept.KeptState.{KeptState}
use Rattle.label_space.specs.declared.kept.KeptState.TheVariants.{Waits, Rests, Free}
use Rattle.label_space.specs.Kept.{is_free, is_free_state, kept_at, met, met_state, label_of, least_free, most_kept, put_by, put_in, waiting, without}
use Rattle.label_space.specs.Labels.{next_after, numbers_end}
use Rattle.pw_signalling.specs.End.{EndState}
use Rattle.pw_signalling.specs.Laws.{own_label}
use Rattle.pw_signalling.specs.Rows.{released}
use Rattle.pw_signalling.specs.declared.told.Told.{Told}
use Rattle.edge_model.specs.declared.end_place.EndPlace.{EndPlace}
use Rattle.edge_model.specs.Labels.{keeps_lost, keeps_one, label_to_give, left_label, meeting, releasing, unless_kept}
use Rattle.edge_model.specs.Mend.{advertising}
use Rattle.edge_model.specs.Session.{clears_ends, losing_ends}
use Rattle.edge_model.specs.Signal.{with_end_changed, with_released}
use Rattle.edge_model.specs.State.{EdgeState, end_at, has_end, with_end, with_ends_beside, with_kept, with_next_label}
use Rattle.edge_model.specs.Work.{Work, changes}
use Rattle.flight_laws.specs.Bound.{given_of, is_free_one}
use Rattle.flight_laws.proofs.BindingLemmas.{StaysGiven}

either_of : (a b c : Bool) → (a ≡ true → c ≡ true) → (b ≡ true → c ≡ true) → a || b ≡ true → c ≡ true
either_of true b c one other is = one refl
either_of false b c one other is = other is

-- no number is free that was not
abbrev pub FreesNone : List Kept → List Kept → Type 0
FreesNone old new = (label : ℕ) → list_any (is_free_one label) new ≡ true → list_any (is_free_one label) old ≡ true

pub stays_given : (old new : EdgeState) → ((label : ℕ) → nat_lt label old.next_label ≡ true → nat_lt label new.next_label ≡ true) → FreesNone old.kept new.kept
    → StaysGiven (given_of old) (given_of new)
stays_given old new below frees label given =
    and_from (nat_lt label new.next_label) (not (list_any (is_free_one label) new.kept))
    (below label (first_holds (nat_lt label old.next_label) (not (list_any (is_free_one label) old.kept)) given))
    (none (list_any (is_free_one label) old.kept) (list_any (is_free_one label) new.kept) (frees label)
    (second_holds (nat_lt label old.next_label) (not (list_any (is_free_one label) old.kept)) given))
  where
    none : (a b : Bool) → (b ≡ true → a ≡ true) → not a ≡ true → not b ≡ true
    none true b from is = clash is
    none false true from is = clash (from refl)
    none false false from is = refl

pub given_on : (old new : EdgeState) → new.next_label ≡ old.next_label → new.kept ≡ old.kept → StaysGiven (given_of old) (given_of new)
given_on old new next kept =
    stays_given old new (λ label below. subst (λ (n : ℕ). nat_lt label n ≡ true) (sym next) below) (λ label free. subst (λ (ks : List Kept). list_any (is_free_one label) ks ≡ true) kept free)

-- ---- numbers that are kept

put_frees : (label other : ℕ) (peer : EdgeId) (kept : List Kept) → list_any (is_free_one label) (put_by label_of (waiting other peer) kept) ≡ true → list_any (is_free_one label) kept ≡ true
put_frees label other peer [] free = either_of (nat_eq other label && false) false false (λ is. second_holds (nat_eq other label) false is) (λ is. is) free
put_frees label other peer (k ∷ ks) free = by (nat_lt k.label other) (λ rest. put_frees label other peer ks rest) free where
  by : (here : Bool) → (list_any (is_free_one label) (put_by label_of (waiting other peer) ks) ≡ true → list_any (is_free_one label) ks ≡ true)
      → list_any (is_free_one label) (cond here (k ∷ put_by label_of (waiting other peer) ks) (waiting other peer ∷ k ∷ ks)) ≡ true → list_any (is_free_one label) (k ∷ ks) ≡ true
  by true rest free = either_of (is_free_one label k) (list_any (is_free_one label) (put_by label_of (waiting other peer) ks)) (list_any (is_free_one label) (k ∷ ks))
      (λ is. or_left (is_free_one label k) (list_any (is_free_one label) ks) is) (λ is. or_right (is_free_one label k) (list_any (is_free_one label) ks) (rest is)) free
  by false rest free = either_of (nat_eq other label && false) (list_any (is_free_one label) (k ∷ ks)) (list_any (is_free_one label) (k ∷ ks))
      (λ is. clash (second_holds (nat_eq other label) false is)) (λ is. is) free

one_frees : (own : Option ℕ) (peer : EdgeId) (kept : List Kept) → FreesNone kept (keeps_one own peer kept)
one_frees None peer kept label free = free
one_frees (Some other) peer kept label free = by (kept_at other kept) free where
  room : (b : Bool) → list_any (is_free_one label) (cond b (put_in (waiting other peer) kept) kept) ≡ true → list_any (is_free_one label) kept ≡ true
  room true free = put_frees label other peer kept free
  room false free = free

  by : (r : Option KeptState) → list_any (is_free_one label) (unless_kept r other peer kept) ≡ true → list_any (is_free_one label) kept ≡ true
  by None = room (nat_lt (length kept) most_kept)
  by (Some state) = λ free. free

lost_frees : (peer : EdgeId) (ends : ℕ → ℕ → EndState) (places : List EndPlace) (kept : List Kept) → FreesNone kept (keeps_lost peer ends places kept)
lost_frees peer ends [] kept label free = free
lost_frees peer ends (place ∷ places) kept label free =
    by (nat_eq place.peer.0 peer.0) (lost_frees peer ends places (cond (nat_eq place.peer.0 peer.0) (keeps_one (own_label (ends place.wire.0 place.peer.0).local) place.peer kept) kept) label free)
  where
    by : (b : Bool) → list_any (is_free_one label) (cond b (keeps_one (own_label (ends place.wire.0 place.peer.0).local) place.peer kept) kept) ≡ true → list_any (is_free_one label) kept ≡ true
    by true free = one_frees (own_label (ends place.wire.0 place.peer.0).local) place.peer kept label free
    by false free = free

pub cleared_given : (peer : EdgeId) (work : Work) → StaysGiven (given_of work.edge) (given_of (clears_ends peer work).edge)
unfolding changes with_ends_beside with_kept
cleared_given peer work = by (has_end work.edge peer) where
  by : (b : Bool) → StaysGiven (given_of work.edge) (given_of (cond b work (changes (losing_ends peer) work)).edge)
  by true = λ label given. given
  by false = stays_given work.edge (losing_ends peer work.edge) (λ label below. below) (lost_frees peer work.edge.ends work.edge.places work.edge.kept)

pub released_given : (label : Option ℕ) (place : EndPlace) (edge : EdgeState) → StaysGiven (given_of edge) (given_of (releasing label place edge))
unfolding with_end with_kept
released_given label place edge =
    stays_given edge (releasing label place edge) (λ l below. below)
    (one_frees (left_label (own_label (end_at edge place).local) (own_label (released label (end_at edge place)).local)) place.peer edge.kept)

pub heard_given : (label : Option ℕ) (found : Option EndPlace) (edge : EdgeState) → StaysGiven (given_of edge) (given_of (with_released label found edge))
heard_given label None edge = λ other given. given
heard_given label (Some place) edge = released_given label place edge

pub released_ends : (label : Option ℕ) (found : Option EndPlace) (edge : EdgeState) → (with_released label found edge).ends ≡ (with_end_changed (released label) found edge).ends
unfolding with_kept
released_ends label None edge = refl
released_ends label (Some place) edge = refl

-- ---- a connection begins

met_frees : (peer : EdgeId) (kept : List Kept) → FreesNone kept (met peer kept)
met_frees peer [] label free = free
met_frees peer (k ∷ ks) label free =
    either_of (nat_eq k.label label && is_free_state (met_state peer k.state)) (list_any (is_free_one label) (met peer ks)) (list_any (is_free_one label) (k ∷ ks))
    (λ is. or_left (is_free_one label k) (list_any (is_free_one label) ks) (and_from (nat_eq k.label label) (is_free k) (first_holds (nat_eq k.label label) (is_free_state (met_state peer k.state)) is)
    (still k.state (second_holds (nat_eq k.label label) (is_free_state (met_state peer k.state)) is))))
    (λ is. or_right (is_free_one label k) (list_any (is_free_one label) ks) (met_frees peer ks label is)) free
  where
    either : (b : Bool) (other : EdgeId) → is_free_state (cond b (Rests 0) (Waits other)) ≡ true → false ≡ true
    either true other is = is
    either false other is = is

    still : (s : KeptState) → is_free_state (met_state peer s) ≡ true → is_free_state s ≡ true
    still (Waits other) is = either (nat_eq other.0 peer.0) other is
    still (Rests ticks) is = is
    still Free is = is

pub met_given : (peer : EdgeId) (edge : EdgeState) → StaysGiven (given_of edge) (given_of (meeting peer edge))
unfolding with_kept
met_given peer edge = stays_given edge (meeting peer edge) (λ label below. below) (met_frees peer edge.kept)

-- ---- a number is given

without_frees : (other : ℕ) (kept : List Kept) → FreesNone kept (without other kept)
without_frees other [] label free = free
without_frees other (k ∷ ks) label free = by (not (nat_eq k.label other)) (λ rest. without_frees other ks label rest) free where
  by : (b : Bool) → (list_any (is_free_one label) (without other ks) ≡ true → list_any (is_free_one label) ks ≡ true)
      → list_any (is_free_one label) (cond b (k ∷ without other ks) (without other ks)) ≡ true
      → list_any (is_free_one label) (k ∷ ks) ≡ true
  by true rest free = either_of (is_free_one label k) (list_any (is_free_one label) (without other ks)) (list_any (is_free_one label) (k ∷ ks))
      (λ is. or_left (is_free_one label k) (list_any (is_free_one label) ks) is) (λ is. or_right (is_free_one label k) (list_any (is_free_one label) ks) (rest is)) free
  by false rest free = or_right (is_free_one label k) (list_any (is_free_one label) ks) (rest free)

without_it : (label : ℕ) (kept : List Kept) → list_any (is_free_one label) (without label kept) ≡ false
without_it label [] = refl
without_it label (k ∷ ks) = by (nat_eq k.label label) refl (without_it label ks) where
  by : (b : Bool) → nat_eq k.label label ≡ b → list_any (is_free_one label) (without label ks) ≡ false → list_any (is_free_one label) (cond (not b) (k ∷ without label ks) (without label ks)) ≡ false
  by true is rest = rest
  by false is rest = rw is rest

least_frees : (label : ℕ) (kept : List Kept) → least_free kept ≡ Some label → list_any (is_free_one label) kept ≡ true
least_frees label [] found = nothing found where
  nothing : {P : Type 0} → None ≡ Some label → P
  nothing e = absurd (cc)
least_frees label (k ∷ ks) found = by (is_free k) refl found (λ rest. least_frees label ks rest) where
  by : (free : Bool) → is_free k ≡ free → option_map label_of (cond free (Some k) (find is_free ks)) ≡ Some label → (least_free ks ≡ Some label → list_any (is_free_one label) ks ≡ true)
      → (nat_eq k.label label && is_free k) || list_any (is_free_one label) ks ≡ true
  by true is found rest = or_left (nat_eq k.label label && is_free k) (list_any (is_free_one label) ks)
      (and_from (nat_eq k.label label) (is_free k) (eq-eqb k.label label (same_number_held k.label label found)) is)
  by false is found rest = or_right (nat_eq k.label label && is_free k) (list_any (is_free_one label) ks) (rest found)

pub not_given : (edge : EdgeState) (label : ℕ) → label_to_give edge ≡ Some label → given_of edge label ≡ false
not_given edge label give = by (edge.next_label == numbers_end) give where
  next_not : (a b : ℕ) (c : Bool) → a ≡ b → nat_lt b a && c ≡ false
  next_not a b c same = rw (less a b same) refl where
    less : (a b : ℕ) → a ≡ b → nat_lt b a ≡ false
    less a b same = grind (arith, nat_tests)

  by : (last : Bool) → cond last (least_free edge.kept) (Some edge.next_label) ≡ Some label → given_of edge label ≡ false
  by true give = and_not_held (nat_lt label edge.next_label) (list_any (is_free_one label) edge.kept) (least_frees label edge.kept give)
  by false give = next_not edge.next_label label (not (list_any (is_free_one label) edge.kept)) (same_number_held edge.next_label label give)

advertised_rest : (place : EndPlace) (label : ℕ) (content : Told) (edge : EdgeState) → ((advertising place label content edge).next_label ≡ next_after edge.next_label)
    × ((advertising place label content edge).kept ≡ without label edge.kept)
unfolding with_end with_next_label with_kept
advertised_rest place label content edge = (refl, refl)

pub advertised_given : (place : EndPlace) (label : ℕ) (content : Told) (edge : EdgeState) → StaysGiven (given_of edge) (given_of (advertising place label content edge))
advertised_given place label content edge =
    let rest = advertised_rest place label content edge in
    stays_given edge (advertising place label content edge)
    (λ other below. subst (λ (n : ℕ). nat_lt other n ≡ true) (sym rest.0) (further other edge.next_label (edge.next_label == numbers_end) below))
    (λ other free. without_frees label edge.kept other (subst (λ (ks : List Kept). list_any (is_free_one other) ks ≡ true) rest.1 free))
  where
    further : (a b : ℕ) (last : Bool) → nat_lt a b ≡ true → nat_lt a (cond last b (b + 1)) ≡ true
    further a b true below = below
    further a b false below = more a b below where
      more : (a b : ℕ) → nat_lt a b ≡ true → nat_lt a (b + 1) ≡ true
      more a b below = grind (arith, nat_tests)

pub now_given : (place : EndPlace) (label : ℕ) (content : Told) (edge : EdgeState) → label_to_give edge ≡ Some label → IsLabel label → given_of (advertising place label content edge) label ≡ true
now_given place label content edge give is =
    let rest = advertised_rest place label content edge in
    and_from (nat_lt label (advertising place label content edge).next_label) (not (list_any (is_free_one label) (advertising place label content edge).kept))
    (subst (λ (n : ℕ). nat_lt label n ≡ true) (sym rest.0) (by (edge.next_label == numbers_end) refl give))
    (subst (λ (ks : List Kept). not (list_any (is_free_one label) ks) ≡ true) (sym rest.1) (ap (λ (b : Bool). not b) (without_it label edge.kept)))
  where
    low : (a b : ℕ) → a ≤ 1048575 → (b == numbers_end) ≡ true → nat_lt a b ≡ true
    low a b below last = grind (arith, nat_tests)

    after : (a b : ℕ) → a ≡ b → nat_lt b (a + 1) ≡ true
    after a b same = grind (arith, nat_tests)

    by : (last : Bool) → (edge.next_label == numbers_end) ≡ last → cond last (least_free edge.kept) (Some edge.next_label) ≡ Some label
        → nat_lt label (cond last edge.next_label (edge.next_label + 1)) ≡ true
    by true last give = low label edge.next_label is.below last
    by false some give = after edge.next_label label (same_number_held edge.next_label label give)
