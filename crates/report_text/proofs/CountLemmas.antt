-- A count grows by one at most.
use Rattle.std.proofs.Common.{◌≡◌, ◌≤◌, ◌+◌, ℕ, List, [], ◌∷◌, length, sym, subst, arith}
use Rattle.net_base.specs.declared.trace.entry.Entry.{Entry}
use Rattle.net_base.specs.declared.trace.entry.Entry.TheVariants as entry
use Rattle.report_text.specs.declared.counts.Counts.{Counts}
use Rattle.report_text.specs.Counted.{AreWithin, counted, counts_behind, no_counts}

-- a bound may be higher
pub within_more : (counts : Counts) (a b : ℕ) → AreWithin a counts → a ≤ b → AreWithin b counts
within_more counts a b are le =
    record { events = omega (arith, are.events, le); entered = omega (arith, are.entered, le); left = omega (arith, are.left, le); sent = omega (arith, are.sent, le); dropped = omega (arith, are.dropped, le) }

still : (most : ℕ) (counts : Counts) → AreWithin most counts → AreWithin (most + 1) counts
still most counts are = within_more counts most (most + 1) are (omega arith)

more : (x : Entry) (most : ℕ) (counts : Counts) → AreWithin most counts → AreWithin (most + 1) (counted x counts)
more (entry.Did event) most counts are =
    record { events = omega (arith, are.events); entered = omega (arith, are.entered); left = omega (arith, are.left); sent = omega (arith, are.sent); dropped = omega (arith, are.dropped) }
more entry.Idle most counts are = still most counts are
more (entry.Said from to octets) most counts are = still most counts are
more (entry.In circuit number octets) most counts are =
    record { events = omega (arith, are.events); entered = omega (arith, are.entered); left = omega (arith, are.left); sent = omega (arith, are.sent); dropped = omega (arith, are.dropped) }
more (entry.Sent from to wire came packet origin hops octets) most counts are =
    record { events = omega (arith, are.events); entered = omega (arith, are.entered); left = omega (arith, are.left); sent = omega (arith, are.sent); dropped = omega (arith, are.dropped) }
more (entry.Copied packet of) most counts are = still most counts are
more (entry.Aged packet) most counts are = still most counts are
more (entry.Left circuit origin hops octets) most counts are =
    record { events = omega (arith, are.events); entered = omega (arith, are.entered); left = omega (arith, are.left); sent = omega (arith, are.sent); dropped = omega (arith, are.dropped) }
more (entry.Dropped edge origin cause) most counts are =
    record { events = omega (arith, are.events); entered = omega (arith, are.entered); left = omega (arith, are.left); sent = omega (arith, are.sent); dropped = omega (arith, are.dropped) }
more (entry.Session edge peer name) most counts are = still most counts are
more (entry.Wire edge wire down) most counts are = still most counts are
more (entry.Pong edge wire sequence) most counts are = still most counts are

-- each entry is counted at most once
pub counted_within : (x : Entry) (old new : Counts) → new ≡ counted x old → (most : ℕ) → AreWithin most old → AreWithin (most + 1) new
counted_within x old new is most are = subst (AreWithin (most + 1)) (sym is) (more x most old are)

behind_within : (trace : List Entry) (counts : Counts) (most : ℕ) → AreWithin most counts → AreWithin (most + length trace) (counts_behind counts trace)
behind_within [] counts most are = within_more counts most (most + 0) are (omega arith)
behind_within (x ∷ xs) counts most are = within_more (counts_behind (counted x counts) xs) ((most + 1) + length xs) (most + length (x ∷ xs)) (behind_within xs (counted x counts) (most + 1) (more x most counts are)) (omega arith)

-- no count is above the number of the entries
pub counts_within : (trace : List Entry) → AreWithin (length trace) (counts_behind no_counts trace)
counts_within trace =
    let none : AreWithin 0 no_counts = record { events = omega arith; entered = omega arith; left = omega arith; sent = omega arith; dropped = omega arith } in
    within_more (counts_behind no_counts trace) (0 + length trace) (length trace) (behind_within trace no_counts 0 none) (omega arith)
