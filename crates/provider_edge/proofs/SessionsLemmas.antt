-- What an edge keeps of its neighbours, ticks later.
use Rattle.std.proofs.Common.{◌≡◌, ◌≤◌, ◌<◌, ◌+◌, ◌-◌, ◌∙◌, ◌^◌, ◌++◌, ◌==◌, ◌||◌, ◌⊎◌, ℕ, zero, suc, Bool, true, false, not, cond, drop, nat_lt, List, [], ◌∷◌, Option, Some, None, get_or, length, map, min, option_map, replicate, slice_index_or, slice_set, take, refl, ap, sym, subst, arith, inl, inr}
use Rattle.std.specs.List.{list_all}
use Rattle.std.specs.Prelude.{All}
use Rattle.std.proofs.Math.ListN.{drop_of_length-le}
use Rattle.std.proofs.lemmas.Bool.{cases_Bool, eqb-true}
use Rattle.std.proofs.lemmas.Bool.Decides.{nat_tests}
use Rattle.std.proofs.lemmas.List.{length-map}
use Rattle.std.proofs.lemmas.List.Elements.{All-cons, All-head, All-nil, All-tail}
use Rattle.net_values.proofs.RowLemmas.{edited_length}
use Rattle.edge_model.specs.Hear.{is_up_phase, was_up}
use Rattle.edge_model.specs.State.{Peering, is_there}
use Rattle.session_core.specs.Session.{phase_name}
use Rattle.session_core.proofs.TickLemmas.{later_longest, later_phase, quiet_left}
use Rattle.pw_ends.specs.declared.peer_marks.PeerMarks.{PeerMarks}
use Rattle.pw_ends.specs.Marks.{is_marked}
use Rattle.edge_forwarding.proofs.Views.{view_at}
use Rattle.peer_dialogue.specs.Peering.{gone, held_octets, peering_later, session_name}
use Rattle.provider_edge.specs.Bounds.{HoldsFew, most_pdu_octets}
use Rattle.provider_edge.specs.Sessions.{AreStanding, AreWatched, all_later, holding, least_quiet, longest_of, quiet_for}

-- one of them later
abbrev pub one_later : ℕ → Option Peering → Option Peering
one_later ticks kept = option_map (peering_later ticks) kept

-- ---- lists

pub later_at : (ticks : ℕ) (kept : List (Option Peering)) (place : ℕ) → slice_index_or (all_later ticks kept) place None ≡ one_later ticks (slice_index_or kept place None)
later_at ticks [] place = refl
later_at ticks (x ∷ kept) zero = refl
later_at ticks (x ∷ kept) (suc place) = later_at ticks kept place

one_now : (x : Option Peering) → one_later 0 x ≡ x
one_now None = refl
one_now (Some kept) = refl

pub later_none : (kept : List (Option Peering)) → all_later 0 kept ≡ kept
later_none [] = refl
later_none (x ∷ kept) = λ i. one_now x i ∷ later_none kept i

one_next : (ticks : ℕ) (x : Option Peering) → one_later (ticks + 1) x ≡ one_later 1 (one_later ticks x)
one_next ticks None = refl
one_next ticks (Some kept) = let next : ticks + 1 ≡ suc ticks = omega arith in ap (λ (n : ℕ). one_later n (Some kept)) next

pub later_next : (ticks : ℕ) (kept : List (Option Peering)) → all_later (ticks + 1) kept ≡ all_later 1 (all_later ticks kept)
later_next ticks [] = refl
later_next ticks (x ∷ kept) = λ i. one_next ticks x i ∷ later_next ticks kept i

pub later_nothing : (ticks count : ℕ) → all_later ticks (replicate count None) ≡ replicate count None
later_nothing ticks zero = refl
later_nothing ticks (suc count) = ap (λ l. None ∷ l) (later_nothing ticks count)

pub later_gone : (kept : List (Option Peering)) (ticks : ℕ) → all_later 0 (map gone kept) ≡ map gone (all_later ticks kept)
later_gone [] ticks = refl
later_gone (x ∷ kept) ticks = ap (λ l. None ∷ l) (later_gone kept ticks)

pub length_later : (ticks : ℕ) (kept : List (Option Peering)) → length (all_later ticks kept) ≡ length kept
length_later ticks kept = length-map kept (one_later ticks)

-- ---- what is read of one is the same later

there_later : (ticks : ℕ) (x : Option Peering) → is_there (one_later ticks x) ≡ is_there x
there_later ticks None = refl
there_later ticks (Some kept) = refl

name_later : (ticks : ℕ) (x : Option Peering) → session_name (one_later ticks x) ≡ session_name x
name_later ticks None = refl
name_later ticks (Some kept) = ap phase_name (later_phase ticks kept.session)

up_later : (ticks : ℕ) (x : Option Peering) → was_up (one_later ticks x) ≡ was_up x
up_later ticks None = refl
up_later ticks (Some kept) = ap is_up_phase (later_phase ticks kept.session)

longest_later : (ticks : ℕ) (x : Option Peering) → longest_of (one_later ticks x) ≡ longest_of x
longest_later ticks None = refl
longest_later ticks (Some kept) = ap Some (later_longest ticks kept.session)

held_later : (ticks : ℕ) (x : Option Peering) → held_octets (one_later ticks x) ≡ held_octets x
held_later ticks None = refl
held_later ticks (Some kept) = refl

pub there_at : (ticks : ℕ) (kept : List (Option Peering)) (place : ℕ) → is_there (slice_index_or (all_later ticks kept) place None) ≡ is_there (slice_index_or kept place None)
there_at ticks kept place = ap is_there (later_at ticks kept place) ∙ there_later ticks (slice_index_or kept place None)

pub name_at : (ticks : ℕ) (kept : List (Option Peering)) (place : ℕ) → session_name (slice_index_or (all_later ticks kept) place None) ≡ session_name (slice_index_or kept place None)
name_at ticks kept place = ap session_name (later_at ticks kept place) ∙ name_later ticks (slice_index_or kept place None)

pub up_at : (ticks : ℕ) (kept : List (Option Peering)) (place : ℕ) → was_up (slice_index_or (all_later ticks kept) place None) ≡ was_up (slice_index_or kept place None)
up_at ticks kept place = ap was_up (later_at ticks kept place) ∙ up_later ticks (slice_index_or kept place None)

pub longest_at : (ticks : ℕ) (kept : List (Option Peering)) (place : ℕ) → longest_of (slice_index_or (all_later ticks kept) place None) ≡ longest_of (slice_index_or kept place None)
longest_at ticks kept place = ap longest_of (later_at ticks kept place) ∙ longest_later ticks (slice_index_or kept place None)

pub held_at : (ticks : ℕ) (kept : List (Option Peering)) (place : ℕ) → held_octets (slice_index_or (all_later ticks kept) place None) ≡ held_octets (slice_index_or kept place None)
held_at ticks kept place = ap held_octets (later_at ticks kept place) ∙ held_later ticks (slice_index_or kept place None)

pub empty_later : (ticks : ℕ) (kept : List (Option Peering)) → list_all (λ one. not (is_there one)) (all_later ticks kept) ≡ list_all (λ one. not (is_there one)) kept
empty_later ticks [] = refl
empty_later ticks (None ∷ kept) = empty_later ticks kept
empty_later ticks (Some x ∷ kept) = refl

few_one : (ticks : ℕ) (x : Option Peering) → HoldsFew x → HoldsFew (one_later ticks x)
few_one ticks x few = subst (λ (held : List ℕ). length held ≤ most_pdu_octets) (sym (held_later ticks x)) few

pub few_later : (ticks : ℕ) (kept : List (Option Peering)) → All HoldsFew kept → All HoldsFew (all_later ticks kept)
few_later ticks [] few = All-nil HoldsFew
few_later ticks (x ∷ kept) few =
    All-cons HoldsFew (one_later ticks x) (all_later ticks kept) (few_one ticks x (All-head HoldsFew x kept few)) (few_later ticks kept (All-tail HoldsFew x kept few))

-- what is read of one within the list before its ticks are counted
pub read_later : {A : Type 0} (f : Option Peering → A) → ((ticks : ℕ) (kept : List (Option Peering)) (place : ℕ) → f (slice_index_or (all_later ticks kept) place None) ≡ f (slice_index_or kept place None))
    → (ticks : ℕ) (kept looked now : List (Option Peering)) (place : ℕ) (x : Option Peering) (r : A) → all_later ticks kept ≡ now → looked ≡ kept → x ≡ slice_index_or looked place None → r ≡ f x
    → r ≡ f (slice_index_or now place None)
read_later f same ticks kept looked now place x r is at read answer =
    answer ∙ (ap f read ∙ (ap (λ l. f (slice_index_or l place None)) at ∙ (sym (same ticks kept place) ∙ ap (λ l. f (slice_index_or l place None)) is)))

-- ---- ticks at which none has anything to do

most_quiet : (kept : List (Option Peering)) → least_quiet kept ≤ 2 ^ 64 - 1
most_quiet [] = omega arith
most_quiet (x ∷ kept) = grind (arith, most_quiet kept)

pub least_first : (kept : List (Option Peering)) → min (2 ^ 64 - 1) (least_quiet kept) ≡ least_quiet kept
least_first kept = grind (arith, most_quiet kept)

pub least_last : (least i : ℕ) (kept : List (Option Peering)) → least < 2 ^ 64 → length kept ≤ i → min least (least_quiet (drop i kept)) ≡ least_quiet kept → least ≡ least_quiet kept
least_last least i kept few past is = grind (arith, few) ∙ (sym (ap (λ l. min least (least_quiet l)) (drop_of_length-le kept past)) ∙ is)

one_quiet : (passed more : ℕ) (x : Option Peering) → passed + more ≤ quiet_for x → more ≤ quiet_for (one_later passed x)
one_quiet passed more None quiet = omega (arith, quiet)
one_quiet passed more (Some kept) quiet = quiet_left passed more kept.session quiet

-- some of them have passed
pub quiet_later : (passed more : ℕ) (kept : List (Option Peering)) → passed + more ≤ least_quiet kept → more ≤ least_quiet (all_later passed kept)
quiet_later passed more [] quiet = omega (arith, quiet)
quiet_later passed more (x ∷ kept) quiet =
    both (quiet_for (one_later passed x)) (least_quiet (all_later passed kept)) (one_quiet passed more x (grind (arith, quiet))) (quiet_later passed more kept (grind (arith, quiet)))
  where
    both : (a b : ℕ) → more ≤ a → more ≤ b → more ≤ min a b
    both a b first second = grind (arith, first, second)

-- each of them has as many
pub quiet_at : (ticks : ℕ) (kept : List (Option Peering)) (place : ℕ) (d : Option Peering) → ticks ≤ least_quiet kept → place < length kept → ticks ≤ quiet_for (get_or kept place d)
quiet_at ticks [] place d quiet within = absurd (omega (arith, within))
quiet_at ticks (x ∷ kept) zero d quiet within = grind (arith, quiet)
quiet_at ticks (x ∷ kept) (suc place) d quiet within = quiet_at ticks kept place d (grind (arith, quiet)) (omega (arith, within))

-- so has one that has not yet counted them, where those before have
pub counted_at : (ticks : ℕ) (kept now : List (Option Peering)) (i : ℕ) (d : Option Peering) → ticks ≤ least_quiet kept → now ≡ all_later ticks (take i kept) ++ drop i kept → i < length now
    → ticks ≤ quiet_for (slice_index_or now i d)
counted_at ticks kept now i d quiet is within =
    subst (λ l. ticks ≤ quiet_for (slice_index_or l i d)) (sym is) (subst (λ x. ticks ≤ quiet_for x) (sym (at kept i below)) (quiet_at ticks kept i d quiet below))
  where
    below : i < length kept
    below = omega (arith, within, ap length is, edited_length (one_later ticks) kept i)

    at : (kept : List (Option Peering)) (i : ℕ) → i < length kept → slice_index_or (all_later ticks (take i kept) ++ drop i kept) i d ≡ get_or kept i d
    at [] i few = absurd (omega (arith, few))
    at (x ∷ kept) zero few = refl
    at (x ∷ kept) (suc i) few = at kept i (omega (arith, few))

-- also where none stands
pub quiet_read : (ticks : ℕ) (kept : List (Option Peering)) (place : ℕ) → ticks ≤ least_quiet kept → ticks ≤ quiet_for (slice_index_or kept place None)
quiet_read ticks [] place quiet = quiet
quiet_read ticks (x ∷ kept) zero quiet = grind (arith, quiet)
quiet_read ticks (x ∷ kept) (suc place) quiet = quiet_read ticks kept place (grind (arith, quiet))

quiet_set : (ticks : ℕ) (kept : List (Option Peering)) (place : ℕ) (x : Option Peering) → ticks ≤ least_quiet kept → ticks ≤ quiet_for x → ticks ≤ least_quiet (slice_set kept place x)
quiet_set ticks [] place x quiet one = quiet
quiet_set ticks (y ∷ kept) zero x quiet one = both (quiet_for x) (least_quiet kept) one (grind (arith, quiet)) where
  both : (a b : ℕ) → ticks ≤ a → ticks ≤ b → ticks ≤ min a b
  both a b first second = grind (arith, first, second)
quiet_set ticks (y ∷ kept) (suc place) x quiet one =
    both (quiet_for y) (least_quiet (slice_set kept place x)) (grind (arith, quiet)) (quiet_set ticks kept place x (grind (arith, quiet)) one)
  where
    both : (a b : ℕ) → ticks ≤ a → ticks ≤ b → ticks ≤ min a b
    both a b first second = grind (arith, first, second)

quiet_gone : (kept : List (Option Peering)) → 2 ^ 64 - 1 ≤ least_quiet (map gone kept)
quiet_gone [] = omega arith
quiet_gone (x ∷ kept) = grind (arith, quiet_gone kept)

quiet_nothing : (count : ℕ) → 2 ^ 64 - 1 ≤ least_quiet (replicate count None)
quiet_nothing zero = omega arith
quiet_nothing (suc count) = grind (arith, quiet_nothing count)

-- ---- what always holds

-- no mark stands for a neighbour of which something is kept
unmarked : (marks : PeerMarks) (k : ℕ) → ((k : ℕ) → is_marked marks k ≡ not (nat_lt k 64)) → k < 64 → is_marked marks k ≡ false
unmarked marks k none within = none k ∙ below where
  below : not (nat_lt k 64) ≡ false
  below = grind (arith, nat_tests, within)

-- nothing is kept of any
pub watched_first : (marks : PeerMarks) (spare count : ℕ) (now : List (Option Peering)) → ((k : ℕ) → is_marked marks k ≡ not (nat_lt k 64)) → spare < 2 ^ 64 → now ≡ replicate count None
    → AreWatched marks 0 spare now
watched_first marks spare count now none few is = record {
  quiet = subst (λ l. 0 + spare ≤ least_quiet l) (sym is) (omega (arith, few, quiet_nothing count));
  marked = λ k within absent. unmarked marks k none within;
}

pub watched_gone : (standing marks : PeerMarks) (passed spare : ℕ) (kept now : List (Option Peering)) → AreWatched standing passed spare kept
    → ((k : ℕ) → is_marked marks k ≡ not (nat_lt k 64)) → now ≡ map gone kept
    → AreWatched marks 0 spare now
watched_gone standing marks passed spare kept now are none is = record {
  quiet = subst (λ l. 0 + spare ≤ least_quiet l) (sym is) (omega (arith, are.quiet, most_quiet kept, quiet_gone kept));
  marked = λ k within absent. unmarked marks k none within;
}

pub standing_later : (marks : PeerMarks) (ticks : ℕ) (kept : List (Option Peering)) → AreStanding marks kept → AreStanding marks (all_later ticks kept)
standing_later marks ticks kept are = λ k within absent. are k within (sym (there_at ticks kept k) ∙ absent)

-- the ticks are counted, and one is another
pub watched_set : (standing marks : PeerMarks) (passed spare left place : ℕ) (kept now : List (Option Peering)) (x : Option Peering) → AreWatched standing passed spare kept → now ≡ all_later passed kept
    → left ≤ spare → left ≤ quiet_for x → ((k : ℕ) → is_marked marks k ≡ cond (k == place) (is_there x || not (nat_lt k 64)) (is_marked standing k)) → place < length now
    → AreWatched marks 0 left (slice_set now place x)
watched_set standing marks passed spare left place kept now x are is fewer quiet marked within = record {
  quiet = omega (arith, quiet_set left now place x (omega (arith, fewer, counted)) quiet);
  marked = λ k below absent. marked k ∙ by k below absent (cases_Bool (k == place));
}
  where
    counted : spare ≤ least_quiet now
    counted = subst (λ l. spare ≤ least_quiet l) (sym is) (quiet_later passed spare kept are.quiet)

    read : (k : ℕ) → is_there (slice_index_or (slice_set now place x) k None) ≡ is_there (cond (k == place) x (slice_index_or now k None))
    read k = ap is_there (view_at None now place x k within)

    by : (k : ℕ) → k < 64 → is_there (slice_index_or (slice_set now place x) k None) ≡ false → ((k == place) ≡ true) ⊎ ((k == place) ≡ false)
        → cond (k == place) (is_there x || not (nat_lt k 64)) (is_marked standing k) ≡ false
    by k below absent (inl same) =
        let there : is_there x ≡ false = sym (ap (λ (b : Bool). is_there (cond b x (slice_index_or now k None))) same) ∙ (sym (read k) ∙ absent) in
        let first : nat_lt k 64 ≡ true = grind (arith, nat_tests, below) in
        rw (same, there, first) refl
    by k below absent (inr apart) =
        let there : is_there (slice_index_or now k None) ≡ false = sym (ap (λ (b : Bool). is_there (cond b x (slice_index_or now k None))) apart) ∙ (sym (read k) ∙ absent) in
        rw apart (are.marked k below (sym (there_at passed kept k) ∙ (sym (ap (λ l. is_there (slice_index_or l k None)) is) ∙ there)))

-- with other octets held it is there, and has as many ticks
pub there_holding : (held : List ℕ) (x : Option Peering) → is_there (holding held x) ≡ is_there x
there_holding held None = refl
there_holding held (Some kept) = refl

quiet_holding : (held : List ℕ) (x : Option Peering) → quiet_for (holding held x) ≡ quiet_for x
quiet_holding held None = refl
quiet_holding held (Some kept) = refl

-- the ticks are counted, and of one other octets are held
pub watched_held : (standing : PeerMarks) (passed spare place : ℕ) (kept now : List (Option Peering)) (held : List ℕ) → AreWatched standing passed spare kept
    → now ≡ all_later passed kept → place < length now → AreWatched standing 0 spare (slice_set now place (holding held (slice_index_or now place None)))
watched_held standing passed spare place kept now held are is within = record {
  quiet = omega (arith, quiet_set spare now place (holding held one) counted (subst (λ (n : ℕ). spare ≤ n) (sym (quiet_holding held one)) (quiet_read spare now place counted)));
  marked = λ k below absent. by k below (sym (ap is_there (view_at None now place (holding held one) k within)) ∙ absent) (cases_Bool (k == place));
}
  where
    one : Option Peering
    one = slice_index_or now place None

    counted : spare ≤ least_quiet now
    counted = subst (λ (l : List (Option Peering)). spare ≤ least_quiet l) (sym is) (quiet_later passed spare kept are.quiet)

    stood : (k : ℕ) → k < 64 → is_there (slice_index_or now k None) ≡ false → is_marked standing k ≡ false
    stood k below absent = are.marked k below (sym (there_at passed kept k) ∙ (sym (ap (λ (l : List (Option Peering)). is_there (slice_index_or l k None)) is) ∙ absent))

    by : (k : ℕ) → k < 64 → is_there (cond (k == place) (holding held one) (slice_index_or now k None)) ≡ false → ((k == place) ≡ true) ⊎ ((k == place) ≡ false) → is_marked standing k ≡ false
    by k below absent (inl same) =
        stood k below (ap (λ (n : ℕ). is_there (slice_index_or now n None)) (eqb-true k place same)
        ∙ (sym (there_holding held one) ∙ (sym (ap (λ (b : Bool). is_there (cond b (holding held one) (slice_index_or now k None))) same) ∙ absent)))
    by k below absent (inr apart) = stood k below (sym (ap (λ (b : Bool). is_there (cond b (holding held one) (slice_index_or now k None))) apart) ∙ absent)

-- the ticks that may pass are few enough to be counted
pub watched_few : (standing : PeerMarks) (passed spare : ℕ) (kept : List (Option Peering)) → AreWatched standing passed spare kept → passed + spare < 2 ^ 64
watched_few standing passed spare kept are = omega (arith, are.quiet, most_quiet kept)
