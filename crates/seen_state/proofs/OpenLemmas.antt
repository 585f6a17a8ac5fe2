-- Before the first entry.
use Rattle.std.proofs.Common.{◌≡◌, ◌<◌, ◌∙◌, [], ℕ, zero, suc, arith, true, false, refl, ap, length, replicate, slice_index_or}
use Rattle.net_values.proofs.RowLemmas.{replicate_length, replicate_default}
use Rattle.seen_network.specs.Seen.{nothing_seen}
use Rattle.seen_state.specs.declared.sizes.Sizes.{Sizes}
use Rattle.seen_state.specs.PeerEnd.{no_end}
use Rattle.seen_state.specs.SeenEdges.{EdgeSeen, IsWhole, ShowsEdges, unseen_edge, shown_with}

ends_none : (n m w : ℕ) (i j : ℕ) → slice_index_or (slice_index_or (replicate n (record { ends = replicate m no_end; up = replicate w false })) i unseen_edge).ends j no_end ≡ no_end
ends_none zero m w i j = refl
ends_none (suc n) m w zero j = replicate_default m no_end j
ends_none (suc n) m w (suc i) j = ends_none n m w i j

none_up : (n m w : ℕ) (i j : ℕ) → slice_index_or (slice_index_or (replicate n (record { ends = replicate m no_end; up = replicate w false })) i unseen_edge).up j false ≡ false
none_up zero m w i j = refl
none_up (suc n) m w zero j = replicate_default w false j
none_up (suc n) m w (suc i) j = none_up n m w i j

row_at : (n : ℕ) (e : EdgeSeen) (k : ℕ) → k < n → slice_index_or (replicate n e) k unseen_edge ≡ e
row_at zero e k h = absurd (omega (arith, h))
row_at (suc n) e zero h = refl
row_at (suc n) e (suc k) h = row_at n e k (omega (arith, h))

pub opened_whole : (sizes : Sizes)
    → IsWhole (record { sizes = sizes; edges = replicate sizes.edges (record { ends = replicate sizes.edges no_end; up = replicate sizes.wires false }); on = replicate sizes.circuits true })
opened_whole sizes = record {
  edges = replicate_length sizes.edges (record { ends = replicate sizes.edges no_end; up = replicate sizes.wires false });
  ends = λ k h. ap (λ (e : EdgeSeen). length e.ends) (row_at sizes.edges (record { ends = replicate sizes.edges no_end; up = replicate sizes.wires false }) k h) ∙ replicate_length sizes.edges no_end;
  wires = λ k h. ap (λ (e : EdgeSeen). length e.up) (row_at sizes.edges (record { ends = replicate sizes.edges no_end; up = replicate sizes.wires false }) k h) ∙ replicate_length sizes.wires false;
  circuits = replicate_length sizes.circuits true;
}

pub opened_shows : (sizes : Sizes)
    → ShowsEdges (record {
      sizes = sizes;
      edges = replicate sizes.edges (record { ends = replicate sizes.edges no_end; up = replicate sizes.wires false });
      on = replicate sizes.circuits true;
    }) nothing_seen
unfolding shown_with
opened_shows sizes = λ z. record {
  stands = λ i j. (ends_none sizes.edges sizes.edges sizes.wires i j z).stands;
  pipes = λ i j. (ends_none sizes.edges sizes.edges sizes.wires j i z).way;
  rests = λ i j. (ends_none sizes.edges sizes.edges sizes.wires i j z).rest;
  up = λ i j. none_up sizes.edges sizes.edges sizes.wires i j z;
  on = λ i. replicate_default sizes.circuits true i z;
  under_way = [];
}

pub ruleset opened = (opened_whole, opened_shows)
