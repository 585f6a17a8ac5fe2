-- The slot beside the label is that of the first end that owns it.
use Rattle.std.proofs.Common.{◌∙◌, length, map, position, ap, subst, IfSome, ◌<◌}
use Rattle.pw_signalling.specs.AnyEnd.{end_of}
use Rattle.pw_ends.specs.Ends.{EndLists, owns_label}
use Rattle.pw_ends.proofs.OwnerLemmas.{owner_found, owner_within}
use Rattle.pw_ends.proofs.pw_ends.PwEnds.owner_of.Goals as goal

pub returns-clause-slot : goal.returns-clause-slot
returns-clause-slot c =
    c.slot.ensures
    ∙ (owner_found c.args.number (map end_of c.self.inside.ends.items) c.self.inside.labels c.self.inside.owned c.self.invariant.kept.slots
    ∙ ap (λ (l : EndLists). position (owns_label c.args.number) l.ends) c.self.view_is)

pub returns-clause-within : goal.returns-clause-within
returns-clause-within c =
    subst (λ (l : EndLists). IfSome c.slot.result (λ slot. slot < length l.places)) c.self.view_is
    (owner_within c.args.number c.self.inside.places (map end_of c.self.inside.ends.items) c.slot.result c.self.invariant.kept.count
    (c.slot.ensures ∙ owner_found c.args.number (map end_of c.self.inside.ends.items) c.self.inside.labels c.self.inside.owned c.self.invariant.kept.slots))
