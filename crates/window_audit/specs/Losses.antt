-- The frames of which copies went.
use Rattle.std.specs.Prelude.{◌≡◌, ℕ, true, false, List, [], ◌∷◌}
use Rattle.net_base.specs.declared.trace.entry.Entry.{Entry}
use Rattle.seen_network.specs.Once.{has_seen}
use Rattle.seen_network.specs.Seen.{Seen}
use Rattle.seen_state.specs.Placed.{IsWithin}
use Rattle.seen_state.specs.SeenState.{Knows}
use Rattle.seen_state.specs.declared.seen_state.SeenState.{SeenState}
use Rattle.seen_state.specs.declared.sizes.Sizes.{Sizes}
use Rattle.window_audit.specs.OpenWindows.{is_one_of}

-- the frames of which no copy is under way any more are among these
pub record ListsLosses (before after : Seen) (old new : List ℕ) : Type 0 where
  pub kept : (origin : ℕ) → is_one_of old origin ≡ true → is_one_of new origin ≡ true
  pub lost : (origin : ℕ) → has_seen before origin ≡ true → has_seen after origin ≡ false → is_one_of new origin ≡ true

-- this is seen after that, and the frames of which copies went are listed
pub record Follows (before after : Seen) (state : SeenState) (old new : List ℕ) : Type 0 where
  pub knows : Knows state after
  pub losses : ListsLosses before after old new

-- each of these entries speaks of what is there
abbrev pub AreWithin : Sizes → List Entry → Type 0
AreWithin sizes [] = Unit {0}
AreWithin sizes (e ∷ es) = IsWithin sizes e × AreWithin sizes es
