-- The edges of a plan in independent mode (RFC 6870 section 4) as contracts see them: lists by the plan's places, and by `seen_row` a map.
use Rattle.std.specs.Prelude.{◌≡◌, ◌<◌, ℕ, List, [], length, slice_index_or, Result, Ok, Err}
use Rattle.independent_model.specs.declared.indep_stop.IndepStop.{IndepStop}
use Rattle.independent_model.specs.declared.indep_stop.IndepStop.TheVariants as stop
use Rattle.net_base.specs.declared.outside.link_call.LinkCall.{LinkCall}
use Rattle.net_base.specs.declared.plan.Plan.{Plan}
use Rattle.net_base.specs.plan.Accepted.{IsChecked}
use Rattle.independent_model.specs.State.{IndepState, first_state}
use Rattle.independent_model.specs.Work.{IndepOutcome}
use Rattle.independent_mode.specs.Lists.{IndepLists, independent_seen}
use Rattle.status_exchange.specs.Exchange.{put_at_place}
use Rattle.switchover_model.specs.Network.{calls_of, edge_after}

-- the plan, and its edges by their places
pub record RowLists : Type 0 where
  pub plan : Plan
  pub edges : List IndepLists

-- an edge past the plan
abbrev pub edge_past : Plan → ℕ → IndepLists
edge_past plan k = record { plan = plan; me = record { 0 = k }; wishes = []; remotes = []; connections = [] }

-- the edge at a place
abbrev pub switch_edge_lists : RowLists → ℕ → IndepLists
switch_edge_lists row k = slice_index_or row.edges k (edge_past row.plan k)

-- the states of all edges, by their places
unfoldable pub seen_row : RowLists → ℕ → IndepState
seen_row row k = independent_seen (switch_edge_lists row k)

-- what always holds of it
pub record IsRow (row : RowLists) : Type 0 where
  pub checked : IsChecked row.plan
  pub count : length row.edges ≡ length row.plan.edges
  pub planned : (k : ℕ) → k < length row.edges → (switch_edge_lists row k).plan ≡ row.plan
  pub placed : (k : ℕ) → (switch_edge_lists row k).me ≡ record { 0 = k }

-- so many edges of a plan before their first call
pub record AreFresh (plan : Plan) (count : ℕ) (edges : List IndepLists) : Type 0 where
  pub len : length edges ≡ count
  pub planned : (k : ℕ) → k < count → (slice_index_or edges k (edge_past plan k)).plan ≡ plan
  pub placed : (k : ℕ) → (slice_index_or edges k (edge_past plan k)).me ≡ record { 0 = k }
  pub first : (k : ℕ) → independent_seen (slice_index_or edges k (edge_past plan k)) ≡ first_state

-- an edge did this work, and what it put was given out
pub record HasDoneWork (me : ℕ) (old new : RowLists) (calls : List LinkCall) (outcome : IndepOutcome) : Type 0 where
  pub state : seen_row new ≡ put_at_place me (edge_after outcome) (seen_row old)
  pub put : calls ≡ calls_of outcome

-- it is not the link that stopped it
abbrev pub NeverLink : {T : Type 0} → Result T IndepStop → Type 0
NeverLink (Ok done) = Unit {0}
NeverLink (Err stop.Link) = ⊥
NeverLink (Err (stop.Refused fault)) = Unit {0}
NeverLink (Err stop.NoMemory) = Unit {0}
