-- What a trace shows of a network: the connections that stand, what is on their way and held, the wires that are up, the circuits
-- that are on, and the packets under way.
use Rattle.std.specs.Prelude.{◌==◌, ◌&&◌, ◌+◌, ◌++◌, nat_lt, ℕ, zero, suc, Bool, true, false, List, [], ◌∷◌, Option, Some, None, length, take, drop, if◌then◌else◌}
use Rattle.net_base.specs.declared.trace.down.Down.{Down}
use Rattle.net_base.specs.declared.trace.entry.Entry.{Entry}
use Rattle.net_base.specs.declared.trace.entry.Entry.TheVariants as entry
use Rattle.net_base.specs.declared.trace.event.Event.{Event}
use Rattle.net_base.specs.declared.trace.event.Event.TheVariants as event
use Rattle.net_base.specs.declared.trace.state_name.StateName.{StateName}
use Rattle.net_base.specs.declared.trace.state_name.StateName.TheVariants as state
use Rattle.net_base.specs.trace.Frame.{pair_at}

-- a packet that is seen under way: its number, and the number of the frame that it carries a copy of
pub record SeenCopy : Type 0 where
  pub number : ℕ
  pub origin : ℕ

-- what was seen so far; ends by edge and peer, pipes by sender and receiver, wires by edge and wire
pub record Seen : Type 0 where
  -- the end of a connection stands
  pub stands : ℕ → ℕ → Bool
  -- the octets that an edge put towards another one, and that are not delivered yet
  pub pipes : ℕ → ℕ → List ℕ
  -- what an edge took of a peer, without the whole PDUs
  pub rests : ℕ → ℕ → List ℕ
  -- the wire is up
  pub up : ℕ → ℕ → Bool
  -- the circuit is on
  pub on : ℕ → Bool
  -- the packets under way, in the order in which they were told
  pub under_way : List SeenCopy

-- before the first entry
abbrev pub nothing_seen : Seen
nothing_seen = record { stands = λ edge peer. false; pipes = λ from to. []; rests = λ edge peer. []; up = λ edge wire. false; on = λ circuit. true; under_way = [] }

-- a map with another value at one place, and at a place of two
abbrev pub at : {X : Type 0} → (ℕ → X) → ℕ → X → ℕ → X
at map place value k = if k == place then value else map k

abbrev pub at_both : {X : Type 0} → (ℕ → ℕ → X) → ℕ → ℕ → X → ℕ → ℕ → X
at_both map a b value x y = if x == a && y == b then value else map x y

-- ---- octets

-- octets without the whole PDUs in front of them, by their lengths, at most so many (RFC 5036 section 3.1)
abbrev pub cut_within : ℕ → List ℕ → List ℕ
cut_within zero octets = octets
cut_within (suc n) octets =
    if nat_lt (length octets) 4 then octets
    else if nat_lt (length octets) (4 + pair_at octets 2) then octets
    else cut_within n (drop (4 + pair_at octets 2) octets)

-- all of them: a PDU has octets
abbrev pub cut : List ℕ → List ℕ
cut octets = cut_within (length octets) octets

-- ---- what can become of it, one operation a field

unfoldable pub with_standing : ℕ → ℕ → Bool → Seen → Seen
with_standing edge peer stands seen = record seen { stands = at_both seen.stands edge peer stands }

unfoldable pub with_octets : ℕ → ℕ → List ℕ → Seen → Seen
with_octets from to octets seen = record seen { pipes = at_both seen.pipes from to octets }

unfoldable pub with_rest : ℕ → ℕ → List ℕ → Seen → Seen
with_rest edge peer octets seen = record seen { rests = at_both seen.rests edge peer octets }

unfoldable pub with_up : ℕ → ℕ → Bool → Seen → Seen
with_up edge wire up seen = record seen { up = at_both seen.up edge wire up }

unfoldable pub with_on : ℕ → Bool → Seen → Seen
with_on circuit on seen = record seen { on = at seen.on circuit on }

unfoldable pub with_copies : List SeenCopy → Seen → Seen
with_copies copies seen = record seen { under_way = copies }

-- an edge is as before the first entry, but for its circuits
unfoldable pub without_edge : ℕ → Seen → Seen
without_edge edge seen = record seen {
  stands = λ me peer. if me == edge then false else seen.stands me peer;
  pipes = λ from to. if to == edge then [] else seen.pipes from to;
  rests = λ me peer. if me == edge then [] else seen.rests me peer;
  up = λ me wire. if me == edge then false else seen.up me wire;
}

-- the end of an edge with a peer goes, with what was on its way to it and what it held
abbrev pub end_goes : ℕ → ℕ → Seen → Seen
end_goes edge peer seen = with_rest edge peer [] (with_octets peer edge [] (with_standing edge peer false seen))

-- octets towards a peer whose end stands are on their way; towards one that is gone they go nowhere
abbrev pub said_towards : ℕ → ℕ → List ℕ → Seen → Seen
said_towards from to octets seen = if seen.stands to from then with_octets from to (seen.pipes from to ++ octets) seen else seen

-- ---- packets

-- the copies but the first with this number
abbrev pub without_copy : ℕ → List SeenCopy → List SeenCopy
without_copy number [] = []
without_copy number (copy ∷ copies) = if copy.number == number then copies else copy ∷ without_copy number copies

-- a packet goes; one of which the number is not seen is none
abbrev pub copy_goes : ℕ → Seen → Seen
copy_goes number seen = with_copies (without_copy number seen.under_way) seen

-- a packet comes; it takes the place of one with its number
abbrev pub copy_comes : ℕ → ℕ → Seen → Seen
copy_comes number origin seen = with_copies (without_copy number seen.under_way ++ record { number = number; origin = origin } ∷ []) seen

-- the frame that the copy with a number is of
abbrev pub origin_among : ℕ → List SeenCopy → Option ℕ
origin_among number [] = None
origin_among number (copy ∷ copies) = if copy.number == number then Some copy.origin else origin_among number copies

-- a copy of this frame is repeated under a new number, where the frame is known
abbrev pub repeats : ℕ → Option ℕ → Seen → Seen
repeats number None seen = seen
repeats number (Some origin) seen = copy_comes number origin seen

-- ---- events and entries

-- octets reach their edge, which then holds what is no whole PDU
abbrev pub delivers : ℕ → ℕ → ℕ → Seen → Seen
delivers from to count seen = with_rest to from (cut (seen.rests to from ++ take count (seen.pipes from to))) (with_octets from to (drop count (seen.pipes from to)) seen)

-- what an event that applies shows by itself
abbrev pub happened : Event → Seen → Seen
happened (event.Connect from to) seen = with_standing to.0 from.0 true (with_standing from.0 to.0 true seen)
happened (event.Deliver from to count) seen = delivers from.0 to.0 count seen
happened (event.Lose edge peer) seen = end_goes edge.0 peer.0 seen
happened (event.Restart edge) seen = without_edge edge.0 seen
happened event.Tick seen = seen
happened (event.Frame circuit octets) seen = seen
happened (event.Arrive packet) seen = copy_goes packet seen
happened (event.Discard packet) seen = copy_goes packet seen
happened (event.Again packet) seen = seen
happened (event.Wire edge wire on) seen = seen
happened (event.Circuit circuit on) seen = with_on circuit.0 on seen
happened (event.Status edge wire bits) seen = seen
happened (event.Priority edge wire priority) seen = seen
happened (event.Ping edge wire) seen = seen

-- a wire without a cause is shown up
abbrev pub is_shown_up : Option Down → Bool
is_shown_up None = true
is_shown_up (Some why) = false

-- a session that has ended takes its end with it
abbrev pub session_told : ℕ → ℕ → StateName → Seen → Seen
session_told edge peer (state.Ended why) seen = end_goes edge peer seen
session_told edge peer name seen = seen

-- what an entry shows by itself
abbrev pub told_by_itself : Entry → Seen → Seen
told_by_itself (entry.Said from to octets) seen = said_towards from.0 to.0 octets seen
told_by_itself (entry.Session edge peer name) seen = session_told edge.0 peer.0 name seen
told_by_itself (entry.Wire edge wire down) seen = with_up edge.0 wire.0 (is_shown_up down) seen
told_by_itself (entry.Sent from to wire arrival packet origin hops octets) seen = copy_comes packet origin seen
told_by_itself (entry.Copied packet of) seen = repeats packet (origin_among of seen.under_way) seen
told_by_itself (entry.Aged packet) seen = copy_goes packet seen
told_by_itself other seen = seen

-- ---- a trace

-- An event did not apply where `Idle` is told of it: among the entries behind it, before the next event.
abbrev pub is_idle_behind : List Entry → Bool
is_idle_behind [] = false
is_idle_behind (entry.Did event ∷ es) = false
is_idle_behind (entry.Idle ∷ es) = true
is_idle_behind (e ∷ es) = is_idle_behind es

-- what an event shows by itself, of which so is told whether it applied
abbrev pub happened_or : (idle : Bool) → Event → Seen → Seen
happened_or idle event seen = if idle then seen else happened event seen

-- what entries show behind what was seen before
abbrev pub seen_from : Seen → List Entry → Seen
seen_from seen [] = seen
seen_from seen (entry.Did event ∷ es) = seen_from (happened_or (is_idle_behind es) event seen) es
seen_from seen (e ∷ es) = seen_from (told_by_itself e seen) es

-- what a trace shows
abbrev pub seen_in : List Entry → Seen
seen_in trace = seen_from nothing_seen trace

-- no event is cut: what follows is an event, or nothing
abbrev pub BeginsEvent : List Entry → Type 0
BeginsEvent [] = Unit {0}
BeginsEvent (entry.Did event ∷ es) = Unit {0}
BeginsEvent (e ∷ es) = ⊥
