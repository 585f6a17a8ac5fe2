-- The label space has what the end owns as its label, and what it holds can be told on.
use Rattle.std.proofs.Common.{◌<◌, length, subst, sym}
use Rattle.pw_signalling.specs.Laws.{own_label}
use Rattle.pw_ends.specs.contracts.pw_ends.PwEnds.{the_view}
use Rattle.pw_ends.specs.Ends.{EndLists, Holds, end_in, place_of}
use Rattle.pw_ends.specs.Kept.{IsOwner}
use Rattle.pw_ends.proofs.KeptLemmas.{holding_seen, owner_seen}
use Rattle.pw_ends.proofs.pw_ends.PwEnds.end.Goals as goal

pub returns-clause-owner : goal.returns-clause-owner
returns-clause-owner c =
    subst (λ (l : EndLists). IsOwner l.labels.owners (place_of l c.args.slot) (own_label (end_in l c.args.slot).local)) c.self.view_is
    (owner_seen (the_view c.self.inside) c.self.inside.owned c.args.slot c.self.invariant.kept (subst (λ (l : EndLists). c.args.slot < length l.places) (sym c.self.view_is) c.requires.slot))

pub returns-clause-holds : goal.returns-clause-holds
returns-clause-holds c =
    subst (λ (l : EndLists). Holds (place_of l c.args.slot) (end_in l c.args.slot).remote) c.self.view_is
    (holding_seen (the_view c.self.inside) c.self.inside.owned c.args.slot c.self.invariant.kept (subst (λ (l : EndLists). c.args.slot < length l.places) (sym c.self.view_is) c.requires.slot))
