-- Each label that the label space has is that of the end that owns it.
use Rattle.std.proofs.Common.{◌≡◌, option_map, subst}
use Rattle.std.specs.List.{find}
use Rattle.label_space.specs.Labels.{owner_of}
use Rattle.pw_ends.specs.contracts.pw_ends.PwEnds.{the_view}
use Rattle.pw_ends.specs.Ends.{EndLists, end_there, owns_label}
use Rattle.pw_ends.specs.Kept.{segment_of}
use Rattle.pw_ends.proofs.LabelLemmas.{labels_owned}
use Rattle.pw_ends.proofs.pw_ends.PwEnds.labels.Goals as goal

pub returns-clause-owners : goal.returns-clause-owners
returns-clause-owners c =
    let labels = c.self.inside.labels in
    λ label. subst (λ (l : EndLists). owner_of label labels.owners
    ≡ option_map (λ place. (segment_of place, place.side)) (find (λ place. owns_label label (end_there l place)) l.places)) c.self.view_is
    (labels_owned (the_view c.self.inside) c.self.inside.owned c.self.invariant.kept label)
