-- The two ends of a session of an edge are proper.
use Rattle.std.proofs.Common.{◌≡◌, ◌||◌, ◌∙◌, ℕ, suc, Bool, true, false, List, [], ◌∷◌, Option, Some, None, slice_get, slice_index_or, nat_eq, refl, sym, subst, inl, inr, arith}
use Rattle.std.proofs.lemmas.Bool.{cases_order, eq-eqb}
use Rattle.std.proofs.lemmas.Option.{slice_get_within, get_or_from_slice_get}
use Rattle.std.specs.List.{list_any}
use Rattle.std.specs.Prelude.{All}
use Rattle.std.specs.Str.{bytes_eq}
use Rattle.net_values.proofs.RowLemmas.{bytes_eq-sym}
use Rattle.net_base.specs.declared.plan.Plan.{Plan}
use Rattle.net_base.specs.declared.plan.edge_plan.EdgePlan.{EdgePlan}
use Rattle.net_base.specs.declared.plan.wire_plan.WirePlan.{WirePlan}
use Rattle.net_base.specs.plan.Accepted.{IsChecked, IsEdgePlan, IsWireOf}
use Rattle.net_base.specs.plan.Paths.{are_joined, joins}
use Rattle.net_base.proofs.PathLemmas.{joins_apart}
use Rattle.session_core.specs.declared.peers.Peers.{Peers}
use Rattle.session_core.specs.State.{IsProper}
use Rattle.edge_model.specs.Connection.{peers_of}
use Rattle.peer_dialogue.specs.Peering.{peers_between}

joined_apart : (plan : Plan) (rows : List WirePlan) (a b : ℕ) → All (IsWireOf plan) rows → list_any (λ (row : WirePlan). joins a b row.path) rows ≡ true → nat_eq a b ≡ false
joined_apart plan [] a b all joined = absurd (cc (joined))
joined_apart plan (x ∷ rows) a b all joined = by (joins a b x.path) refl joined (λ rest. joined_apart plan rows a b (λ i d within. all (suc i) d (omega arith)) rest) where
  by : (here : Bool) → joins a b x.path ≡ here → here || list_any (λ (row : WirePlan). joins a b row.path) rows ≡ true
      → (list_any (λ (row : WirePlan). joins a b row.path) rows ≡ true → nat_eq a b ≡ false) → nat_eq a b ≡ false
  by true here any rest = joins_apart x.path a b ((all 0 x (omega arith)).once) here
  by false here any rest = rest any

row_at : (rows : List EdgePlan) (k : ℕ) (row : EdgePlan) (d : EdgePlan) → slice_get rows k ≡ Some row → slice_index_or rows k d ≡ row
row_at rows k row d is = get_or_from_slice_get rows k row d is

pub proper_between : (plan : Plan) (me peer : ℕ) (found : Option Peers) (peers : Peers) → IsChecked plan → are_joined plan me peer ≡ true → found
    ≡ peers_between (slice_get plan.edges me) (slice_get plan.edges peer) → found ≡ Some peers → IsProper peers
proper_between plan me peer found peers checked joined is some = by (slice_get plan.edges me) (slice_get plan.edges peer) refl refl (sym is ∙ some) where
  apart : (own other : EdgePlan) → slice_get plan.edges me ≡ Some own → slice_get plan.edges peer ≡ Some other → bytes_eq own.address.0 other.address.0 ≡ false
  apart own other at there = elim (cases_order me peer) [
    | inl same ↦ absurd (cc (sym (joined_apart plan plan.wires me peer checked.wires joined) ∙ eq-eqb me peer same))
    | inr rest ↦ elim rest [
      | inl less ↦
          subst (λ (e : EdgePlan). bytes_eq own.address.0 e.address.0 ≡ false) (row_at plan.edges peer other own there)
          (subst (λ (e : EdgePlan). bytes_eq e.address.0 (slice_index_or plan.edges peer own).address.0 ≡ false) (row_at plan.edges me own own at)
          (checked.addresses me peer own less (slice_get_within plan.edges peer other there)))
      | inr more ↦
          bytes_eq-sym own.address.0 other.address.0
          ∙ subst (λ (e : EdgePlan). bytes_eq other.address.0 e.address.0 ≡ false) (row_at plan.edges me own own at)
          (subst (λ (e : EdgePlan). bytes_eq e.address.0 (slice_index_or plan.edges me own).address.0 ≡ false) (row_at plan.edges peer other own there)
          (checked.addresses peer me own more (slice_get_within plan.edges me own at)))
    ]
  ]

  by : (own other : Option EdgePlan) → slice_get plan.edges me ≡ own → slice_get plan.edges peer ≡ other → peers_between own other ≡ Some peers → IsProper peers
  by None other at there some = absurd (cc (some))
  by (Some own) None at there some = absurd (cc (some))
  by (Some own) (Some other) at there some =
      let same : peers_of own other ≡ peers = cc (some) in
      let row : IsEdgePlan own = subst IsEdgePlan (row_at plan.edges me own own at) (checked.edges me own (slice_get_within plan.edges me own at)) in
      subst IsProper same (record { apart = apart own other at there; keepalive = row.keepalive.0; least = row.max_pdu.0; most = row.max_pdu.1 })
