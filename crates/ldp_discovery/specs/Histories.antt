-- What each edge has said, heard and counted of Hellos (RFC 5036 section 2.4.2).
use Rattle.std.specs.Prelude.{◌≡◌, ◌==◌, ◌&&◌, not, ℕ, Bool, List, ◌∷◌, length, slice_get, IfSome, Some, if◌then◌else◌}
use Rattle.net_base.specs.declared.plan.Plan.{Plan}
use Rattle.net_base.specs.declared.plan.places.EdgeId.{EdgeId}
use Rattle.net_base.specs.plan.Paths.{edge_address}
use Rattle.ldp_discovery.specs.Adjacencies.{AdjacencyLists, IsAfter, neighbours_from}
use Rattle.ldp_discovery.specs.Live.{Deed, ticked, AreHolds, live}

-- a further deed of one edge
abbrev pub with_deed : EdgeId → Deed → (ℕ → List Deed) → ℕ → List Deed
with_deed me deed histories k = if k == me.0 then deed ∷ histories k else histories k

-- an adjacency with a peer lives, and does not any more a tick later
abbrev pub ends_by_tick : List Deed → ℕ → Bool
ends_by_tick history peer = live peer history && not (live peer (ticked ∷ history))

-- the adjacencies of an edge of the plan
pub record IsOfEdge (plan : Plan) (me : ℕ) (a : AdjacencyLists) : Type 0 where
  pub address : edge_address plan (record { 0 = me }) ≡ Some a.address
  pub neighbours : a.neighbours ≡ neighbours_from plan me 0 plan.edges
  pub known : length a.known ≡ length plan.edges

-- each edge of the plan has its adjacencies
pub record AreEdgesOf (plan : Plan) (all : List AdjacencyLists) : Type 0 where
  pub count : length all ≡ length plan.edges
  pub each : (k : ℕ) → IfSome (slice_get all k) (IsOfEdge plan k)

-- they are what these histories have left
pub record AreAfter (histories : ℕ → List Deed) (all : List AdjacencyLists) : Type 0 where
  pub each : (k : ℕ) → IfSome (slice_get all k) (IsAfter (histories k))
  pub holds : (k : ℕ) → AreHolds (histories k)

-- each edge keeps something of as many edges as there are
abbrev pub AreSized : List AdjacencyLists → Type 0
AreSized all = (k : ℕ) → IfSome (slice_get all k) (λ a. length a.known ≡ length all)
