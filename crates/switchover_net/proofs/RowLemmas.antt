-- The edges in lists as in maps.
use Rattle.std.proofs.Common.{◌≡◌, ◌==◌, ◌<◌, ◌∙◌, ℕ, Bool, true, false, List, [], Err, cond, refl, ap, sym, subst, length, slice_set, slice_index_or}
use Rattle.std.proofs.lemmas.Bool.{eqb-true}
use Rattle.net_values.proofs.RowLemmas.{same_read, set_length}
use Rattle.net_base.specs.declared.plan.Plan.{Plan}
use Rattle.net_base.specs.declared.plan.places.EdgeId.{EdgeId}
use Rattle.net_base.specs.declared.outside.link_call.LinkCall.{LinkCall}
use Rattle.independent_model.specs.Calls.{loses}
use Rattle.independent_model.specs.State.{IndepState}
use Rattle.independent_model.specs.declared.indep_stop.IndepStop.{IndepStop}
use Rattle.independent_model.specs.declared.indep_stop.IndepStop.TheVariants as stop
use Rattle.independent_model.specs.Work.{Comes, Goes, NeverRefused, IndepOutcome}
use Rattle.switchover_model.specs.Network.{IsGoing, calls_of, edge_after, takes_all}
use Rattle.independent_model.specs.Stops.{EndsAs}
use Rattle.independent_mode.specs.Lists.{IndepLists, KeepsIndependent, independent_seen}
use Rattle.independent_mode.proofs.ListLemmas.{set_at}
use Rattle.status_exchange.specs.Exchange.{put_at_place}
use Rattle.switchover_net.specs.Rows.{HasDoneWork, IsRow, NeverLink, RowLists, switch_edge_lists, edge_past, seen_row}

-- an edge is put into its place
pub row_set : (row : RowLists) (me : ℕ) (now : IndepLists) (state : IndepState) → me < length row.edges → independent_seen now ≡ state
    → seen_row (record row { edges = slice_set row.edges me now }) ≡ put_at_place me state (seen_row row)
unfolding seen_row
row_set row me now state h w = λ i k. at_each k i
  where
    at_each : (k : ℕ) → independent_seen (slice_index_or (slice_set row.edges me now) k (edge_past row.plan k))
        ≡ put_at_place me state (λ j. independent_seen (slice_index_or row.edges j (edge_past row.plan j))) k
    at_each k = ap independent_seen (set_at (edge_past row.plan k) row.edges me now k h) ∙ by (k == me)
      where
        by : (b : Bool) → independent_seen (cond b now (slice_index_or row.edges k (edge_past row.plan k))) ≡ cond b state (independent_seen (slice_index_or row.edges k (edge_past row.plan k)))
        by true = w
        by false = refl

-- the edge that was looked up
pub found_is : (row : RowLists) (me : ℕ) (found : IndepLists) → me < length row.edges → found ≡ slice_index_or row.edges me found → found ≡ switch_edge_lists row me
found_is row me found below at = at ∙ same_read row.edges me found (edge_past row.plan me) below

-- it worked: what holds of a row goes on
pub row_kept : (row : RowLists) (me : ℕ) (found now : IndepLists) → IsRow row → me < length row.edges → found ≡ slice_index_or row.edges me found → KeepsIndependent found now
    → IsRow (record row { edges = slice_set row.edges me now })
row_kept row me found now is below at keeps = record {
  checked = is.checked;
  count = set_length row.edges me now ∙ is.count;
  planned = λ k within. ap (λ (e : IndepLists). e.plan) (set_at (edge_past row.plan k) row.edges me now k below) ∙ by (k == me) k (subst (λ (m : ℕ). k < m) (set_length row.edges me now) within);
  placed = λ k. ap (λ (e : IndepLists). e.me) (set_at (edge_past row.plan k) row.edges me now k below) ∙ place_by (k == me) k refl;
} where
  by : (b : Bool) (k : ℕ) → k < length row.edges → (cond b now (switch_edge_lists row k)).plan ≡ row.plan
  by true k within = keeps.plan ∙ (ap (λ (e : IndepLists). e.plan) (found_is row me found below at) ∙ is.planned me below)
  by false k within = is.planned k within

  edge_id : ℕ → EdgeId
  edge_id m = record { 0 = m }

  place_by : (b : Bool) (k : ℕ) → (k == me) ≡ b → (cond b now (switch_edge_lists row k)).me ≡ record { 0 = k }
  place_by true k here = keeps.me ∙ (ap (λ (e : IndepLists). e.me) (found_is row me found below at) ∙ (is.placed me ∙ ap edge_id (sym (eqb-true k me here))))
  place_by false k apart = is.placed k

-- what an edge does by its own plan and place is what the row says of it
pub as_of_row : {X : Type 0} (row : RowLists) (me : ℕ) (found : IndepLists) (does : Plan → ℕ → IndepState → X) → IsRow row → me < length row.edges → found ≡ slice_index_or row.edges me found
    → does found.plan found.me.0 (independent_seen found) ≡ does row.plan me (seen_row row me)
unfolding seen_row
as_of_row row me found does is below at =
    ap (λ (e : IndepLists). does e.plan e.me.0 (independent_seen e)) (found_is row me found below at)
    ∙ (ap (λ (p : Plan). does p (switch_edge_lists row me).me.0 (independent_seen (switch_edge_lists row me))) (is.planned me below)
    ∙ ap (λ (m : EdgeId). does row.plan m.0 (independent_seen (switch_edge_lists row me))) (is.placed me))

-- an edge loses a connection
pub row_lost : (row : RowLists) (me : ℕ) (peer : EdgeId) (found now : IndepLists) → IsRow row → me < length row.edges → found ≡ slice_index_or row.edges me found
    → independent_seen now ≡ loses found.plan found.me.0 peer (independent_seen found)
    → seen_row (record row { edges = slice_set row.edges me now }) ≡ put_at_place me (loses row.plan me peer (seen_row row me)) (seen_row row)
row_lost row me peer found now is below found_at done =
    row_set row me now (loses row.plan me peer (seen_row row me)) below (done ∙ as_of_row row me found (λ p m e. loses p m peer e) is below found_at)

-- an edge does a work over a link that had no calls
pub row_does : (row : RowLists) (me : ℕ) (does : Plan → ℕ → IndepState → List LinkCall → IndepOutcome) (found now : IndepLists) (before calls given : List LinkCall) → IsRow row → me < length row.edges
    → found ≡ slice_index_or row.edges me found → before ≡ [] → does found.plan found.me.0 (independent_seen found) before ≡ Goes (independent_seen now) calls → given ≡ calls
    → HasDoneWork me row (record row { edges = slice_set row.edges me now }) given (does row.plan me (seen_row row me) [])
row_does row me does found now before calls given is below found_at fresh done gives =
    let same : does row.plan me (seen_row row me) [] ≡ Goes (independent_seen now) calls =
    sym (as_of_row row me found (λ p m e. does p m e []) is below found_at) ∙ (ap (λ (c : List LinkCall). does found.plan found.me.0 (independent_seen found) c) (sym fresh) ∙ done) in
    record {
      state = row_set row me now (edge_after (does row.plan me (seen_row row me) [])) below (sym (ap edge_after same));
      put = gives ∙ sym (ap calls_of same);
    }

-- the edge that was looked up is of the row's plan
pub found_plan : (row : RowLists) (me : ℕ) (found : IndepLists) → IsRow row → me < length row.edges → found ≡ slice_index_or row.edges me found → found.plan ≡ row.plan
found_plan row me found is below at = ap (λ (e : IndepLists). e.plan) (found_is row me found below at) ∙ is.planned me below

-- and of its place
pub found_place : (row : RowLists) (me : ℕ) (found : IndepLists) → IsRow row → me < length row.edges → found ≡ slice_index_or row.edges me found → found.me ≡ record { 0 = me }
found_place row me found is below at = ap (λ (e : IndepLists). e.me) (found_is row me found below at) ∙ is.placed me

-- a link that takes all stops no call
pub never_link : (T U : Type 0) (why : IndepStop) (edge : IndepState) (calls : List LinkCall) (outcome : IndepOutcome) (from : ℕ) → EndsAs takes_all from outcome
    → Comes {T = T} (Err why) edge calls outcome → NeverLink {T = U} (Err why)
never_link T U stop.Link edge calls outcome from ends comes = let last = subst (λ (o : IndepOutcome). EndsAs takes_all from o) comes ends in absurd (cc (last.failed))
never_link T U (stop.Refused fault) edge calls outcome from ends comes = tt
never_link T U stop.NoMemory edge calls outcome from ends comes = tt

-- where the work goes on, nothing is refused
pub never_refused : (T U : Type 0) (why : IndepStop) (edge : IndepState) (calls : List LinkCall) (outcome other : IndepOutcome) → Comes {T = T} (Err why) edge calls outcome → outcome
    ≡ other → IsGoing other → NeverRefused {T = U} (Err why)
never_refused T U stop.Link edge calls outcome other comes same going = tt
never_refused T U (stop.Refused fault) edge calls outcome other comes same going = subst IsGoing (sym same ∙ comes) going
never_refused T U stop.NoMemory edge calls outcome other comes same going = tt
