-- An edge holds no more than its plan lets it hold.
use Rattle.std.proofs.Common.{◌≡◌, ◌≤◌, ℕ, List, [], ◌∷◌, Option, None, length, map, slice_set, ap, inl, inr, subst, sym, arith, ◌∙◌}
use Rattle.std.specs.Prelude.{All}
use Rattle.std.specs.List.{find}
use Rattle.std.proofs.lemmas.Bool.{cases_order}
use Rattle.std.proofs.lemmas.List.Elements.{All-cons, All-nil, All-set}
use Rattle.net_values.proofs.RowLemmas.{same_read}
use Rattle.net_base.specs.declared.plan.Plan.{Plan}
use Rattle.vsi_bridge.specs.BridgeState.{most_addresses}
use Rattle.edge_model.specs.EndPlaces.{is_at}
use Rattle.edge_model.specs.State.{Peering}
use Rattle.edge_forwarding.specs.Forwarding.{domain_of, entries_of}
use Rattle.edge_forwarding.proofs.Views.{past_end}
use Rattle.edge_forwarding.specs.Views.{view}
use Rattle.peer_dialogue.specs.Peering.{gone}
use Rattle.pw_ends.specs.Ends.{seen_ends}
use Rattle.pw_ends.proofs.BesideLemmas.{look_none}
use Rattle.provider_edge.specs.Bounds.{HoldsFew, IsBounded}
use Rattle.provider_edge.specs.Invariant.{IsEdge}
use Rattle.provider_edge.specs.Lists.{EdgeLists, seen}

few_in : (kept : List (Option Peering)) → All HoldsFew kept → (peer : ℕ) → HoldsFew (view None kept peer)
few_in kept few peer = elim (cases_order peer (length kept)) [
  | inl same ↦ beyond (omega (arith, same))
  | inr rest ↦ elim rest [
    | inl less ↦ subst HoldsFew (same_read kept peer None None less) (few peer None less)
    | inr more ↦ beyond (omega (arith, more))
  ]
]
  where
    beyond : length kept ≤ peer → HoldsFew (view None kept peer)
    beyond past = subst HoldsFew (sym (past_end None kept peer past)) (omega arith)

-- no connection is kept any more
pub few_gone : (kept : List (Option Peering)) → All HoldsFew (map gone kept)
few_gone [] = All-nil HoldsFew
few_gone (k ∷ kept) = All-cons HoldsFew None (map gone kept) (omega arith) (few_gone kept)

-- one connection is ended
pub few_ended : (kept : List (Option Peering)) (peer : ℕ) (none : Option Peering) → none ≡ None → All HoldsFew kept → All HoldsFew (slice_set kept peer none)
few_ended kept peer none is few = All-set HoldsFew kept peer none (subst HoldsFew (sym is) (omega arith)) few

pub bounded : (e : EdgeLists) → IsEdge e
    → ((service : ℕ) → length (entries_of (domain_of e.forwarding service)) ≤ most_addresses)
    → ((service : ℕ) → length e.forwarding.plan.services ≤ service → entries_of (domain_of e.forwarding service) ≡ [])
    → IsBounded e.plan (seen e)
unfolding seen seen_ends
bounded e is few past = record {
  connections = λ peer beyond. past_end None e.peerings peer (omega (arith, is.peerings, beyond));
  octets = few_in e.peerings is.held;
  ends = λ wire peer none. look_none e.ends.places e.ends.ends wire peer (ap (find (is_at wire peer)) is.places ∙ none);
  services = λ service beyond. past service (subst (λ (p : Plan). length p.services ≤ service) (sym is.plan) beyond);
  addresses = few;
}
