-- The labels of an edge are those of its ends.
use Rattle.std.proofs.Common.{◌≡◌, ◌∙◌, ℕ, List, option_map, ap, subst}
use Rattle.std.specs.List.{find}
use Rattle.net_base.specs.declared.plan.places.SegKey.{SegKey}
use Rattle.label_space.specs.declared.owner.Owner.{Owner}
use Rattle.label_space.specs.Labels.{LabelNumbers, owner_of}
use Rattle.edge_model.specs.declared.end_place.EndPlace.{EndPlace}
use Rattle.edge_model.specs.EndPlaces.{end_places}
use Rattle.edge_model.specs.State.{end_at}
use Rattle.pw_ends.specs.Ends.{end_there, owns_label}
use Rattle.pw_ends.specs.Kept.{segment_of}
use Rattle.provider_edge.specs.contracts.edge.Edge.{the_view}
use Rattle.provider_edge.specs.Invariant.{IsEdge}
use Rattle.provider_edge.specs.Lists.{EdgeLists, seen}
use Rattle.provider_edge.proofs.ListLemmas.{kept_now, next_at}
use Rattle.provider_edge.proofs.edge.Edge.labels.Goals as goal

abbrev named : EndPlace → SegKey × ℕ
named place = (segment_of place, place.side)

owned_at : (c : EdgeLists) (owners : List Owner) (label : ℕ) → IsEdge c → owner_of label owners ≡ option_map named (find (λ place. owns_label label (end_there c.ends place)) c.ends.places)
    → owner_of label owners ≡ option_map named (find (λ place. owns_label label (end_at (seen c) place)) (end_places c.plan c.me))
unfolding seen
owned_at c owners label is owned = owned ∙ ap (λ (places : List EndPlace). option_map named (find (λ place. owns_label label (end_there c.ends place)) places)) is.places

pub returns : goal.returns
returns c = record {
  next = subst (λ (n : EdgeLists). c.labels.result.now.next ≡ (seen n).next_label) c.self.view_is (ap (λ (l : LabelNumbers). l.next) c.labels.ensures.labels ∙ next_at (the_view c.self.inside));
  kept = subst (λ (n : EdgeLists). c.labels.result.now.kept ≡ (seen n).kept) c.self.view_is (ap (λ (l : LabelNumbers). l.kept) c.labels.ensures.labels ∙ kept_now (the_view c.self.inside));
  owners = λ label. subst (λ (n : EdgeLists). owner_of label c.labels.result.now.owners
      ≡ option_map named (find (λ place. owns_label label (end_at (seen n) place)) (end_places n.plan n.me))) c.self.view_is
      (owned_at (the_view c.self.inside) c.labels.result.now.owners label c.self.invariant (c.labels.ensures.owners label));
}
