-- The wish is made of the wire's offer at this edge, of what its end holds, and of its bits and status; the plan is checked, so the offer
-- is a proper one.
use Rattle.std.proofs.Common.{◌∙◌, ap, sym, subst}
use Rattle.net_base.specs.plan.Accepted.{IsChecked, IsOffer}
use Rattle.net_base.specs.plan.Paths.{offer_of}
use Rattle.pw_ends.specs.Ends.{place_of}
use Rattle.pw_signalling.specs.AnyEnd.{end_of}
use Rattle.std.specs.Option.{option_copied}
use Rattle.provider_edge.proofs.MendLemmas.{offer_holds, wish_read}
use Rattle.provider_edge.specs.Lists.{EdgeLists}
use Rattle.provider_edge.proofs.edge.Edge.terminal_wish.Goals as goal

pub returns-clause-wish : goal.returns-clause-wish
returns-clause-wish c =
    wish_read c.args.self.now c.args.slot c.args.row.now c.place_at-place.result c.offer_of-offer.result (end_of c.end_in.result.now)
    (option_copied c.remote-remote.result) c.bits_of.result c.status_to_tell.result c.terminal_wish.result
    c.place_at-place.ensures.place
    (c.offer_of-offer.ensures ∙ ap (λ (n : EdgeLists). offer_of c.args.row.now n.me.0) c.self.view_is)
    c.end_in.ensures.end c.remote-remote.ensures.remote (c.bits_of.ensures.bits) (c.status_to_tell.ensures) c.terminal_wish.ensures.wish

pub returns-clause-vlan : goal.returns-clause-vlan
returns-clause-vlan c =
    c.terminal_wish.ensures.vlan (subst IsOffer (sym c.offer_of-offer.ensures)
    (offer_holds c.args.self.now.plan (place_of c.args.self.now.ends c.args.slot).wire c.args.row.now c.self.inside.me.0
    (subst (λ (n : EdgeLists). IsChecked n.plan) c.self.view_is c.self.invariant.checked) c.requires.row))
