-- The frames of which copies go.
use Rattle.std.proofs.Common.{◌≡◌, ◌==◌, ◌+◌, ◌||◌, ◌++◌, ◌∷◌, ◌∙◌, [], ℕ, Bool, true, false, List, Option, Some, None, cond, refl, ap, sym}
use Rattle.std.proofs.lemmas.Bool.{eqb-true}
use Rattle.std.specs.List.{list_any}
use Rattle.net_values.proofs.BoolLemmas.{second_fails, first_fails}
use Rattle.net_base.specs.declared.trace.entry.Entry.{Entry}
use Rattle.seen_network.specs.Once.{has_seen}
use Rattle.seen_network.specs.Seen.{Seen, SeenCopy, copy_comes, copy_goes, delivers, end_goes, origin_among, repeats, seen_from, with_copies, with_octets, with_on, with_rest, with_standing, with_up, without_copy, without_edge}
use Rattle.seen_state.specs.Copies.{CopyMaps, TellsPackets, origin_under}
use Rattle.seen_state.specs.declared.seen_state.SeenState.{SeenState}
use Rattle.window_audit.specs.Losses.{Follows}

-- ---- one copy goes

abbrev any_of : ℕ → List SeenCopy → Bool
any_of origin copies = list_any (λ copy. copy.origin == origin) copies

gone : (number origin : ℕ) (cs : List SeenCopy) → any_of origin cs ≡ true → any_of origin (without_copy number cs) ≡ false → origin_among number cs ≡ Some origin
gone number origin [] had lost = absurd (cc (had))
gone number origin (c ∷ cs) had lost = by (c.number == number) (c.origin == origin) refl had lost (gone number origin cs) where
  by : (a b : Bool) → (c.origin == origin) ≡ b → b || any_of origin cs ≡ true → any_of origin (cond a cs (c ∷ without_copy number cs)) ≡ false
      → (any_of origin cs ≡ true → any_of origin (without_copy number cs) ≡ false → origin_among number cs ≡ Some origin)
      → cond a (Some c.origin) (origin_among number cs) ≡ Some origin
  by true true is had lost rest = ap Some (eqb-true c.origin origin is)
  by true false is had lost rest = absurd (cc (had, lost))
  by false true is had lost rest = absurd (cc (sym is ∙ first_fails (c.origin == origin) (any_of origin (without_copy number cs)) lost))
  by false false is had lost rest = rest had (second_fails (c.origin == origin) (any_of origin (without_copy number cs)) lost)

first_none : (origin : ℕ) (xs ys : List SeenCopy) → any_of origin (xs ++ ys) ≡ false → any_of origin xs ≡ false
first_none origin [] ys none = refl
first_none origin (x ∷ xs) ys none =
    ap (λ (b : Bool). b || any_of origin xs) (first_fails (x.origin == origin) (any_of origin (xs ++ ys)) none)
    ∙ first_none origin xs ys (second_fails (x.origin == origin) (any_of origin (xs ++ ys)) none)

pub went_of : (maps : CopyMaps) (number origin : ℕ) (seen : Seen) → TellsPackets maps seen.under_way → has_seen seen origin ≡ true → has_seen (copy_goes number seen) origin ≡ false
    → origin_under maps number ≡ Some origin
unfolding with_copies
went_of maps number origin seen told had lost = told.origins number ∙ gone number origin seen.under_way had lost

pub came_of : (maps : CopyMaps) (number of origin : ℕ) (seen : Seen) → TellsPackets maps seen.under_way → has_seen seen origin ≡ true → has_seen (copy_comes number of seen) origin ≡ false
    → origin_under maps number ≡ Some origin
unfolding with_copies
came_of maps number of origin seen told had lost =
    told.origins number ∙ gone number origin seen.under_way had (first_none origin (without_copy number seen.under_way) (record { number = number; origin = of } ∷ []) lost)

pub repeated_of : (maps : CopyMaps) (number origin : ℕ) (of : Option ℕ) (seen : Seen) → TellsPackets maps seen.under_way → has_seen seen origin ≡ true
    → has_seen (repeats number of seen) origin ≡ false → origin_under maps number ≡ Some origin
repeated_of maps number origin None seen told had lost = absurd (cc (sym had ∙ lost))
repeated_of maps number origin (Some of) seen told had lost = came_of maps number of origin seen told had lost

-- ---- what takes none

pub none_by : (before after : Seen) (origin : ℕ) → after.under_way ≡ before.under_way → has_seen before origin ≡ true → has_seen after origin ≡ false → ⊥
none_by before after origin same had lost = cc (sym had ∙ (ap (λ (cs : List SeenCopy). any_of origin cs) (sym same) ∙ lost))

pub end_same : (edge peer : ℕ) (seen : Seen) → (end_goes edge peer seen).under_way ≡ seen.under_way
unfolding with_octets with_rest with_standing
end_same edge peer seen = refl

pub up_same : (edge wire : ℕ) (up : Bool) (seen : Seen) → (with_up edge wire up seen).under_way ≡ seen.under_way
unfolding with_up
up_same edge wire up seen = refl

pub on_same : (circuit : ℕ) (on : Bool) (seen : Seen) → (with_on circuit on seen).under_way ≡ seen.under_way
unfolding with_on
on_same circuit on seen = refl

pub standing_same : (a b c d : ℕ) (seen : Seen) → (with_standing a b true (with_standing c d true seen)).under_way ≡ seen.under_way
unfolding with_standing
standing_same a b c d seen = refl

pub delivered_same : (from to count : ℕ) (seen : Seen) → (delivers from to count seen).under_way ≡ seen.under_way
unfolding with_octets with_rest
delivered_same from to count seen = refl

pub without_same : (edge : ℕ) (seen : Seen) → (without_edge edge seen).under_way ≡ seen.under_way
unfolding without_edge
without_same edge seen = refl

-- ---- what is listed

-- ---- entry by entry

-- so far some of the entries were told
pub record IsToldSoFar (seen : Seen) (entries rest : List Entry) (state : SeenState) (old new : List ℕ) : Type 0 where
  pub mid : Seen
  pub follows : Follows seen mid state old new
  pub on : seen_from mid rest ≡ seen_from seen entries
