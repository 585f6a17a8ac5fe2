-- Edges before their first call.
use Rattle.std.proofs.Common.{◌≡◌, ◌<◌, ◌+◌, ◌++◌, ◌∷◌, ◌∙◌, [], ℕ, Bool, true, false, List, cond, refl, ap, sym, subst, arith, length, length-append, nat_eq, slice_index_or, inl, inr}
use Rattle.std.proofs.lemmas.Bool.{cases_order, eq-eqb, eqb-true}
use Rattle.net_values.proofs.RowLemmas.{index_end}
use Rattle.net_base.specs.declared.plan.Plan.{Plan}
use Rattle.net_base.specs.declared.plan.places.EdgeId.{EdgeId}
use Rattle.net_base.specs.plan.Accepted.{IsChecked}
use Rattle.independent_model.specs.State.{first_state}
use Rattle.independent_mode.specs.Lists.{IndepLists, independent_seen}
use Rattle.switchover_net.specs.Rows.{AreFresh, IsRow, edge_past, seen_row}

no_edge_seen : (plan : Plan) (k : ℕ) → independent_seen (edge_past plan k) ≡ first_state
unfolding independent_seen
no_edge_seen plan k = refl

pub fresh_none : (plan : Plan) → AreFresh plan 0 []
fresh_none plan = record { len = refl; planned = λ k below. refl; placed = λ k. refl; first = λ k. no_edge_seen plan k }

abbrev edge_id : ℕ → EdgeId
edge_id k = record { 0 = k }

fresh_more : (plan : Plan) (count : ℕ) (edges : List IndepLists) (more : IndepLists) → AreFresh plan count edges → more.plan ≡ plan → more.me ≡ record { 0 = count } → independent_seen more
    ≡ first_state → AreFresh plan (count + 1) (edges ++ more ∷ [])
fresh_more plan count edges more are planned placed first = record {
  len = length-append edges (more ∷ []) ∙ omega (arith, are.len);
  planned = λ k below. ap (λ (e : IndepLists). e.plan) (index_end edges more (edge_past plan k) k) ∙ planned_by k below (nat_eq k (length edges)) refl;
  placed = λ k. ap (λ (e : IndepLists). e.me) (index_end edges more (edge_past plan k) k) ∙ placed_by k (nat_eq k (length edges)) refl;
  first = λ k. ap independent_seen (index_end edges more (edge_past plan k) k) ∙ first_by k (nat_eq k (length edges));
} where
  planned_by : (k : ℕ) → k < count + 1 → (b : Bool) → nat_eq k (length edges) ≡ b → (cond b more (slice_index_or edges k (edge_past plan k))).plan ≡ plan
  planned_by k below true e = planned
  planned_by k below false e =
      let apart : (nat_eq k (length edges) ≡ true) → ⊥ = λ same. let wrong : false ≡ true = sym e ∙ same in absurd (cc (wrong)) in
      are.planned k (elim (cases_order k (length edges)) [
        | inl same ↦ absurd (apart (eq-eqb k (length edges) same))
        | inr rest ↦ omega (arith, below, are.len)
      ])

  placed_by : (k : ℕ) (b : Bool) → nat_eq k (length edges) ≡ b → (cond b more (slice_index_or edges k (edge_past plan k))).me ≡ record { 0 = k }
  placed_by k true e = placed ∙ ap edge_id (sym are.len ∙ sym (eqb-true k (length edges) e))
  placed_by k false e = are.placed k

  first_by : (k : ℕ) (b : Bool) → independent_seen (cond b more (slice_index_or edges k (edge_past plan k))) ≡ first_state
  first_by k true = first
  first_by k false = are.first k

pub fresh_next : (plan : Plan) (count : ℕ) (edges after : List IndepLists) (more : IndepLists) → AreFresh plan count edges → after ≡ edges ++ more ∷ [] → more.plan ≡ plan → more.me
    ≡ record { 0 = count } → independent_seen more ≡ first_state → AreFresh plan (count + 1) after
fresh_next plan count edges after more are is planned placed first = subst (λ (es : List IndepLists). AreFresh plan (count + 1) es) (sym is) (fresh_more plan count edges more are planned placed first)

-- all edges of a plan
pub fresh_row : (plan : Plan) (edges : List IndepLists) → IsChecked plan → AreFresh plan (length plan.edges) edges → IsRow (record { plan = plan; edges = edges })
fresh_row plan edges checked are = record { checked = checked; count = are.len; planned = λ k within. are.planned k (subst (λ (n : ℕ). k < n) are.len within); placed = are.placed }

pub fresh_seen : (plan : Plan) (edges : List IndepLists) → AreFresh plan (length plan.edges) edges → seen_row (record { plan = plan; edges = edges }) ≡ (λ me. first_state)
unfolding seen_row
fresh_seen plan edges are = λ i me. are.first me i

pub ruleset row_opened = (fresh_row, fresh_seen)
