-- The adjacencies of one edge, as contracts see them.
use Rattle.std.specs.Prelude.{◌≡◌, ◌≤◌, ◌<◌, ◌+◌, ◌%◌, ◌^◌, ◌&&◌, not, map, ℕ, Bool, true, false, List, [], ◌∷◌, length, slice_get, slice_index_or, slice_set, Option, Some, None, Result, Ok, Err, IfSome}
use Rattle.net_values.specs.declared.addr.Addr.{Addr}
use Rattle.net_base.specs.declared.plan.Plan.{Plan}
use Rattle.net_base.specs.declared.plan.edge_plan.EdgePlan.{EdgePlan}
use Rattle.net_base.specs.plan.Paths.{are_joined}
use Rattle.ldp_discovery.specs.declared.adjacency.Adjacency.{Adjacency}
use Rattle.ldp_discovery.specs.declared.heard.Heard.{Heard}
use Rattle.ldp_discovery.specs.declared.heard.Heard.TheVariants.{Fresh, Ignored}
use Rattle.ldp_discovery.specs.declared.heard.HelloFault.{HelloFault}
use Rattle.ldp_discovery.specs.declared.neighbour.Neighbour.{Neighbour}
use Rattle.ldp_discovery.specs.Hellos.{Says}
use Rattle.ldp_discovery.specs.Live.{Deed, said, heard, ticked, adjacency_aged, is_adjacency_live, kept, live, hold_proposed, refreshed, unknown, AreHolds}

-- by the plan's places: what the plan says of each edge, and what is kept of it
pub record AdjacencyLists : Type 0 where
  pub address : Addr
  -- the Message ID of the next Hello
  pub next_id : ℕ
  pub neighbours : List Neighbour
  pub known : List Adjacency

-- something is kept of each edge, and a plan has 64 edges at most
pub record AreWhole (a : AdjacencyLists) : Type 0 where
  pub count : length a.known ≡ length a.neighbours
  pub few : length a.known ≤ 64

-- the edges of a plan beside this one, from a place on
abbrev pub neighbours_from : Plan → ℕ → ℕ → List EdgePlan → List Neighbour
neighbours_from plan me place [] = []
neighbours_from plan me place (row ∷ rows) = record { address = row.address; joined = are_joined plan me place } ∷ neighbours_from plan me (place + 1) rows

-- the neighbour, where there is one, is joined to the edge
abbrev pub is_joined_to : Option Neighbour → Bool
is_joined_to None = false
is_joined_to (Some neighbour) = neighbour.joined

-- what is kept of a peer
abbrev pub known_of : AdjacencyLists → ℕ → Adjacency
known_of a peer = slice_index_or a.known peer unknown

-- Message IDs count from 1, modulo 2^32
abbrev pub id_after : ℕ → ℕ
id_after id = (id + 1) % 2 ^ 32

-- ---- what becomes of them

-- what an edge keeps after a deed: a Hello of its own, one that it hears, or a tick
abbrev pub adjacencies_after : Deed → AdjacencyLists → AdjacencyLists
adjacencies_after (said peer hold) a = record a { next_id = id_after a.next_id; known = slice_set a.known peer (hold_proposed hold (known_of a peer)) }
adjacencies_after (heard peer hold) a = record a { known = slice_set a.known peer (refreshed hold (known_of a peer)) }
adjacencies_after ticked a = record a { known = map adjacency_aged a.known }

-- an adjacency lives, and does not any more a tick later
abbrev pub lapses : Adjacency → Bool
lapses adjacency = is_adjacency_live adjacency && not (is_adjacency_live (adjacency_aged adjacency))

-- octets that are heard of an edge of the plan are a Hello of it with this hold time, or are none
abbrev pub SaysFrom : AdjacencyLists → ℕ → List ℕ → Result ℕ HelloFault → Type 0
SaysFrom a from octets verdict = IfSome (slice_get a.neighbours from) (λ neighbour. Says neighbour.address octets verdict)

-- a Hello was heard, and is kept
pub record IsFresh (old now : AdjacencyLists) (from : ℕ) (octets : List ℕ) : Type 0 where
  pub hold : ℕ
  pub says : SaysFrom old from octets (Ok hold)
  pub kept : now ≡ adjacencies_after (heard from hold) old

-- what came of octets that were heard: what is no Hello changes nothing
abbrev pub Hears : AdjacencyLists → ℕ → List ℕ → Heard → AdjacencyLists → Type 0
Hears old from octets Fresh now = IsFresh old now from octets
Hears old from octets (Ignored fault) now = SaysFrom old from octets (Err fault) × (now ≡ old)

-- ---- the history of an edge

-- the Message ID of the Hello that an edge says after these deeds
abbrev pub id_behind : List Deed → ℕ
id_behind [] = 1
id_behind (said peer hold ∷ earlier) = id_after (id_behind earlier)
id_behind (heard peer hold ∷ earlier) = id_behind earlier
id_behind (ticked ∷ earlier) = id_behind earlier

-- what is kept is what the edge's deeds have left, the last of them first
pub record IsAfter (history : List Deed) (a : AdjacencyLists) : Type 0 where
  pub peers : (peer : ℕ) → peer < length a.known → known_of a peer ≡ kept peer history
  pub numbered : a.next_id ≡ id_behind history

-- so it stays with each further deed
abbrev pub DeedsAreKept : Type 0
DeedsAreKept = (deed : Deed) (history : List Deed) (a : AdjacencyLists) → IsAfter history a → IsAfter (deed ∷ history) (adjacencies_after deed a)
