-- Which edges have something to deliver, as an index of pairs.
use Rattle.std.specs.Prelude.{◌≡◌, ◌<◌, ◌==◌, ◌&&◌, ◌||◌, nat_lt, ℕ, Bool, false, List, [], ◌∷◌, length, if◌then◌else◌}
use Rattle.net_base.specs.declared.trace.entry.Entry.{Entry}
use Rattle.net_base.specs.declared.trace.entry.Entry.TheVariants.{Said, Session}
use Rattle.net_base.specs.declared.trace.event.Event.{Event}
use Rattle.net_base.specs.declared.trace.event.Event.TheVariants.{Connect, Deliver, Lose, Restart, Tick, Frame, Arrive, Discard, Again, Wire, Circuit, Status, Priority, Ping}
use Rattle.network_model.specs.Connection.{is_deliverable}
use Rattle.psn_net.specs.Lists.{NetLists, network_seen}
use Rattle.psn_net.specs.PairIndex.{IndexLists, has_mark, put_pair}

-- the marks say what may be delivered
pub record IsIndexed (n : NetLists) (index : IndexLists) : Type 0 where
  pub each : (i j : ℕ) → i < length n.plan.edges → j < length n.plan.edges → has_mark index i j ≡ is_deliverable (network_seen n) i j

-- they do for all pairs but these
pub record IsIndexedBeside (n : NetLists) (index : IndexLists) (these : ℕ → ℕ → Bool) : Type 0 where
  pub each : (i j : ℕ) → i < length n.plan.edges → j < length n.plan.edges → these i j ≡ false → has_mark index i j ≡ is_deliverable (network_seen n) i j

-- the marks of these pairs were made anew, and the others stay
pub record AreMarkedAnew (n : NetLists) (these : ℕ → ℕ → Bool) (old new : IndexLists) : Type 0 where
  pub each : (i j : ℕ) → i < length n.plan.edges → j < length n.plan.edges → has_mark new i j ≡ (if these i j then is_deliverable (network_seen n) i j else has_mark old i j)

-- the marks of the pairs of an edge with those before a place were
pub record IsMarkedTo (n : NetLists) (me place : ℕ) (old new : IndexLists) : Type 0 where
  pub each : (i j : ℕ) → has_mark new i j ≡ (if (i == me && nat_lt j place) || (j == me && nat_lt i place) then is_deliverable (network_seen n) i j else has_mark old i j)

-- the marks of the two pairs of two edges were
pub record HasMarkedPair (n : NetLists) (me other : ℕ) (old new : IndexLists) : Type 0 where
  pub is : has_mark new ≡ put_pair other me (is_deliverable (network_seen n) other me) (put_pair me other (is_deliverable (network_seen n) me other) (has_mark old))

-- the marks of all pairs of an edge were made anew
abbrev pub IsMarked : NetLists → ℕ → IndexLists → IndexLists → Type 0
IsMarked n me old new = IsMarkedTo n me (length n.plan.edges) old new

-- ---- which pairs an event changes

-- two edges are these two
abbrev pub is_pair : ℕ → ℕ → ℕ → ℕ → Bool
is_pair one other i j = (i == one && j == other) || (i == other && j == one)

-- one of two edges is this one
abbrev pub is_with : ℕ → ℕ → ℕ → Bool
is_with me i j = i == me || j == me

-- an entry tells of two edges: one put octets towards the other, or has a session with it in another state
abbrev pub is_told_by : Entry → ℕ → ℕ → Bool
is_told_by (Said from to octets) i j = is_pair from.0 to.0 i j
is_told_by (Session edge peer state) i j = is_pair edge.0 peer.0 i j
is_told_by entry i j = false

-- one of the entries does
abbrev pub is_told_between : List Entry → ℕ → ℕ → Bool
is_told_between [] i j = false
is_told_between (e ∷ es) i j = is_told_by e i j || is_told_between es i j

-- what an event changes between two edges although no entry tells of them
abbrev pub changes_between : Event → ℕ → ℕ → Bool
changes_between (Deliver from to count) i j = is_pair from.0 to.0 i j
changes_between (Restart me) i j = is_with me.0 i j
changes_between (Connect from to) i j = false
changes_between (Lose me peer) i j = false
changes_between Tick i j = false
changes_between (Frame circuit octets) i j = false
changes_between (Circuit circuit on) i j = false
changes_between (Wire me wire on) i j = false
changes_between (Status me wire bits) i j = false
changes_between (Priority me wire priority) i j = false
changes_between (Arrive number) i j = false
changes_between (Discard number) i j = false
changes_between (Again number) i j = false
changes_between (Ping me wire) i j = false

-- an event with these entries may change what is to be delivered between two edges
abbrev pub may_change : Event → List Entry → ℕ → ℕ → Bool
may_change event entries i j = changes_between event i j || is_told_between entries i j
