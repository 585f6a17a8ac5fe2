-- Octets are held of a neighbour, or taken out: its session stays as it is, so that no end is unsettled.
use Rattle.std.proofs.Common.{◌≡◌, ◌<◌, ◌≤◌, ◌∙◌, ℕ, true, false, List, [], Option, Some, None, length, length-set, option_map, slice_index_or, slice_set, refl, ap, sym, arith}
use Rattle.std.proofs.lemmas.List.Elements.{All-set}
use Rattle.std.specs.Prelude.{IfSome}
use Rattle.net_base.specs.declared.outside.link_call.LinkCall.{LinkCall}
use Rattle.net_base.specs.declared.plan.places.EdgeId.{EdgeId}
use Rattle.edge_model.specs.declared.effect.Effect.{Effect}
use Rattle.edge_model.specs.Hear.{holds, was_up}
use Rattle.edge_model.specs.State.{EdgeState, Peering, with_peering}
use Rattle.edge_model.specs.Work.{changes}
use Rattle.peer_dialogue.specs.Peering.{at_edge}
use Rattle.peer_dialogue.proofs.SpeakerLemmas.{put_same, put_twice}
use Rattle.provider_edge.proofs.EdgeLemmas.{holds_marks, seen_marks}
use Rattle.provider_edge.proofs.ListLemmas.{holds_peerings, peering_read, seen_put}
use Rattle.provider_edge.proofs.TidyLemmas.{tidy_put}
use Rattle.provider_edge.specs.Bounds.{HoldsFew, most_pdu_octets}
use Rattle.provider_edge.specs.Hearing.{AreTakenOut}
use Rattle.provider_edge.specs.Invariant.{IsEdge}
use Rattle.provider_edge.specs.Lists.{EdgeLists, seen}
use Rattle.provider_edge.specs.Sessions.{holding}
use Rattle.provider_edge.specs.Tidy.{IsTidy}

up_holding : (held : List ℕ) (x : Option Peering) → was_up (holding held x) ≡ was_up x
up_holding held None = refl
up_holding held (Some kept) = refl

few_holding : (held : List ℕ) (x : Option Peering) → length held ≤ most_pdu_octets → HoldsFew (holding held x)
few_holding held None few = omega arith
few_holding held (Some kept) few = few

-- what is kept of the peer, with these octets held
abbrev pub with_held : EdgeLists → EdgeId → List ℕ → List (Option Peering)
with_held v peer held = slice_set v.peerings peer.0 (holding held (slice_index_or v.peerings peer.0 None))

pub seen_held : (v : EdgeLists) (peer : EdgeId) (held : List ℕ) → peer.0 < length v.peerings
    → seen (record v { peerings = with_held v peer held }) ≡ with_peering peer (holding held ((seen v).peering peer.0)) (seen v)
seen_held v peer held within =
    sym (seen_marks (record v { peerings = with_held v peer held }) None)
    ∙ (seen_put v peer (holding held (slice_index_or v.peerings peer.0 None)) within
    ∙ ap (λ (x : Option Peering). with_peering peer (holding held x) (seen v)) (peering_read v peer (slice_index_or v.peerings peer.0 None) refl))

pub holds_held : (v : EdgeLists) (peer : EdgeId) (held : List ℕ) → peer.0 < length v.peerings → v.stopped ≡ true → length held ≤ most_pdu_octets → IsEdge v
    → IsEdge (record v { peerings = with_held v peer held })
holds_held v peer held within working few is =
    holds_marks (record v { peerings = with_held v peer held; marks = None }) v.marks working tidy
    (holds_peerings v (with_held v peer held) (length-set v.peerings peer.0 (holding held one))
    (All-set HoldsFew v.peerings peer.0 (holding held one) (few_holding held one few) is.held) working is)
  where
    one : Option Peering
    one = slice_index_or v.peerings peer.0 None

    tidy : IfSome v.marks (IsTidy v.plan (seen (record v { peerings = with_held v peer held; marks = None })))
    tidy =
        tidy_put v.plan peer one (holding held one) (seen v) (with_peering peer None (seen v)) (seen (record v { peerings = with_held v peer held; marks = None })) v.marks is.tidy
        (peering_read v peer one refl) refl (seen_put v peer (holding held one) within ∙ sym (put_twice peer None (holding held one) (seen v))) (up_holding held one)

-- what was held is taken out
pub taken_out : (peer : EdgeId) (held : Option (List ℕ)) (old new : EdgeState) → held ≡ option_map (λ (kept : Peering). kept.held) (old.peering peer.0)
    → new ≡ with_peering peer (holding [] (old.peering peer.0)) old → AreTakenOut peer (old.peering peer.0) old new held
taken_out peer held old new is puts = by (old.peering peer.0) refl is puts where
  by : (x : Option Peering) → old.peering peer.0 ≡ x → held ≡ option_map (λ (kept : Peering). kept.held) x → new ≡ with_peering peer (holding [] x) old → AreTakenOut peer x old new held
  by None at is puts = (is, puts ∙ put_same peer None old at)
  by (Some kept) at is puts = (is, puts)

-- octets are held where something is kept
pub now_holding : (peer : EdgeId) (held : List ℕ) (old new : EdgeState) (calls : List LinkCall) (out : List Effect) → new ≡ with_peering peer (holding held (old.peering peer.0)) old
    → at_edge new calls out ≡ holds peer held (old.peering peer.0) (at_edge old calls out)
unfolding at_edge changes
now_holding peer held old new calls out puts =
    ap (λ (e : EdgeState). record { edge = e; calls = calls; effects = out; idle = false }) puts ∙ by (old.peering peer.0) refl
  where
    by : (x : Option Peering) → old.peering peer.0 ≡ x
        → record { edge = with_peering peer (holding held x) old; calls = calls; effects = out; idle = false } ≡ holds peer held x (record { edge = old; calls = calls; effects = out; idle = false })
    by None at = ap (λ (e : EdgeState). record { edge = e; calls = calls; effects = out; idle = false }) (put_same peer None old at)
    by (Some kept) at = refl
