-- Whether each end of an edge lets the packets of a wire through, one slot after another.
use Rattle.std.proofs.Common.{◌≡◌, ◌<◌, ◌≤◌, ◌+◌, ◌∙◌, ◌&&◌, ℕ, Bool, true, false, List, drop, get_or, length, ap, subst}
use Rattle.std.specs.List.{list_all}
use Rattle.std.proofs.lemmas.List.{drop_all, drop_more}
use Rattle.net_base.specs.declared.plan.places.WireId.{WireId}
use Rattle.edge_model.specs.declared.end_place.EndPlace.{EndPlace}
use Rattle.edge_model.specs.Ends.{is_joined_place, is_stitched}
use Rattle.provider_edge.specs.Invariant.{IsEdge}
use Rattle.provider_edge.specs.Lists.{EdgeLists, seen}

pub all_more : (test : EndPlace → Bool) (slot : ℕ) (places : List EndPlace) (d : EndPlace) → slot < length places → test (get_or places slot d) ≡ true
    → list_all test (drop slot places) ≡ list_all test (drop (slot + 1) places)
all_more test slot places d within passes = ap (list_all test) (drop_more places slot d within) ∙ ap (λ b. b && list_all test (drop (slot + 1) places)) passes

pub all_fails : (test : EndPlace → Bool) (slot : ℕ) (places : List EndPlace) (d : EndPlace) → slot < length places → test (get_or places slot d) ≡ false → list_all test (drop slot places) ≡ false
all_fails test slot places d within fails = ap (list_all test) (drop_more places slot d within) ∙ ap (λ b. b && list_all test (drop (slot + 1) places)) fails

pub all_end : (test : EndPlace → Bool) (slot : ℕ) (places : List EndPlace) → length places ≤ slot → list_all test (drop slot places) ≡ true
all_end test slot places past = ap (list_all test) (drop_all slot places past)

pub ruleset stitch_steps = (all_more, all_fails, all_end)

-- the places of the slots are those of the plan
pub stitched_is : (c now : EdgeLists) (wire : WireId) → c ≡ now → IsEdge c → list_all (is_joined_place (seen now) wire) now.ends.places ≡ is_stitched now.plan (seen now) wire
unfolding seen
stitched_is c now wire same is = subst (λ (n : EdgeLists). list_all (is_joined_place (seen n) wire) n.ends.places ≡ is_stitched n.plan (seen n) wire) same
    (ap (list_all (is_joined_place (seen c) wire)) is.places)
