-- Entries are read one behind the other, event by event.
use Rattle.std.proofs.Common.{◌≡◌, ◌++◌, ◌∙◌, Bool, List, [], ◌∷◌, refl, ap}
use Rattle.net_base.specs.declared.trace.entry.Entry.{Entry}
use Rattle.net_base.specs.declared.trace.entry.Entry.TheVariants as entry
use Rattle.seen_network.specs.Seen.{BeginsEvent, Seen, happened_or, is_idle_behind, seen_from, told_by_itself}

-- whether an event applied is not told behind the next one
pub idle_behind : (front back : List Entry) → BeginsEvent back → is_idle_behind (front ++ back) ≡ is_idle_behind front
idle_behind [] [] begins = refl
idle_behind [] (entry.Did event ∷ es) begins = refl
idle_behind [] (entry.Idle ∷ es) begins = absurd begins
idle_behind [] (entry.Said from to octets ∷ es) begins = absurd begins
idle_behind [] (entry.In circuit number octets ∷ es) begins = absurd begins
idle_behind [] (entry.Sent from to wire came packet origin hops octets ∷ es) begins = absurd begins
idle_behind [] (entry.Copied packet of ∷ es) begins = absurd begins
idle_behind [] (entry.Aged packet ∷ es) begins = absurd begins
idle_behind [] (entry.Left circuit origin hops octets ∷ es) begins = absurd begins
idle_behind [] (entry.Dropped edge origin cause ∷ es) begins = absurd begins
idle_behind [] (entry.Session edge peer name ∷ es) begins = absurd begins
idle_behind [] (entry.Wire edge wire down ∷ es) begins = absurd begins
idle_behind [] (entry.Pong edge wire sequence ∷ es) begins = absurd begins
idle_behind (entry.Did event ∷ front) back begins = refl
idle_behind (entry.Idle ∷ front) back begins = refl
idle_behind (entry.Said from to octets ∷ front) back begins = idle_behind front back begins
idle_behind (entry.In circuit number octets ∷ front) back begins = idle_behind front back begins
idle_behind (entry.Sent from to wire came packet origin hops octets ∷ front) back begins = idle_behind front back begins
idle_behind (entry.Copied packet of ∷ front) back begins = idle_behind front back begins
idle_behind (entry.Aged packet ∷ front) back begins = idle_behind front back begins
idle_behind (entry.Left circuit origin hops octets ∷ front) back begins = idle_behind front back begins
idle_behind (entry.Dropped edge origin cause ∷ front) back begins = idle_behind front back begins
idle_behind (entry.Session edge peer name ∷ front) back begins = idle_behind front back begins
idle_behind (entry.Wire edge wire down ∷ front) back begins = idle_behind front back begins
idle_behind (entry.Pong edge wire sequence ∷ front) back begins = idle_behind front back begins

pub seen_on : (front back : List Entry) (seen : Seen) → BeginsEvent back → seen_from seen (front ++ back) ≡ seen_from (seen_from seen front) back
seen_on [] back seen begins = refl
seen_on (entry.Did event ∷ front) back seen begins =
    ap (λ (idle : Bool). seen_from (happened_or idle event seen) (front ++ back)) (idle_behind front back begins) ∙ seen_on front back (happened_or (is_idle_behind front) event seen) begins
seen_on (entry.Idle ∷ front) back seen begins = seen_on front back (told_by_itself entry.Idle seen) begins
seen_on (entry.Said from to octets ∷ front) back seen begins = seen_on front back (told_by_itself (entry.Said from to octets) seen) begins
seen_on (entry.In circuit number octets ∷ front) back seen begins = seen_on front back (told_by_itself (entry.In circuit number octets) seen) begins
seen_on (entry.Sent from to wire came packet origin hops octets ∷ front) back seen begins = seen_on front back (told_by_itself (entry.Sent from to wire came packet origin hops octets) seen) begins
seen_on (entry.Copied packet of ∷ front) back seen begins = seen_on front back (told_by_itself (entry.Copied packet of) seen) begins
seen_on (entry.Aged packet ∷ front) back seen begins = seen_on front back (told_by_itself (entry.Aged packet) seen) begins
seen_on (entry.Left circuit origin hops octets ∷ front) back seen begins = seen_on front back (told_by_itself (entry.Left circuit origin hops octets) seen) begins
seen_on (entry.Dropped edge origin cause ∷ front) back seen begins = seen_on front back (told_by_itself (entry.Dropped edge origin cause) seen) begins
seen_on (entry.Session edge peer name ∷ front) back seen begins = seen_on front back (told_by_itself (entry.Session edge peer name) seen) begins
seen_on (entry.Wire edge wire down ∷ front) back seen begins = seen_on front back (told_by_itself (entry.Wire edge wire down) seen) begins
seen_on (entry.Pong edge wire sequence ∷ front) back seen begins = seen_on front back (told_by_itself (entry.Pong edge wire sequence) seen) begins

pub ruleset in_parts = (seen_on)
