-- Without a neighbour on the other side nothing is wished; else it is what is held of that neighbour, behind the edge's own point.
use Rattle.std.proofs.Common.{◌≡◌, ◌∙◌, Option, ap}
use Rattle.std.specs.Option.{option_copied}
use Rattle.net_base.specs.plan.Paths.{edge_address, mate}
use Rattle.net_values.specs.declared.addr.Addr.{Addr}
use Rattle.pw_stitch.specs.Passing.{own_point}
use Rattle.provider_edge.proofs.AcrossLemmas.{passed_none, passed_read}
use Rattle.provider_edge.specs.Lists.{EdgeLists}
use Rattle.provider_edge.proofs.edge.Edge.passed_wish.Goals as goal

pub returns-in_err-from-clause-wish : goal.returns-in_err-from-clause-wish
returns-in_err-from-clause-wish c =
    c.from_residual.ensures
    ∙ passed_none c.args.self.now c.args.slot c.args.row.now c.place_at-place.result c.mate.result c.place_at-place.ensures.place
    (c.mate.ensures ∙ ap (λ (n : EdgeLists). mate c.args.row.now n.me.0 c.place_at-place.result.peer.0) c.self.view_is) (c.in_err-from.was)

pub returns-clause-wish : goal.returns-clause-wish
returns-clause-wish c =
    let here : c.address_of.result ≡ edge_address c.args.self.now.plan c.args.self.now.me = c.address_of.ensures ∙ ap (λ (n : EdgeLists). edge_address c.args.self.now.plan n.me) c.self.view_is in
    passed_read c.args.self.now c.args.slot c.args.row.now c.place_at-place.result c.in_ok-from.from c.mate.result
    (own_point c.args.row.now.pw_id c.address_of.result c.address_of-2.result) (option_copied c.held_beside.result) c.wanted.result c.place_at-place.ensures.place
    (c.mate.ensures ∙ ap (λ (n : EdgeLists). mate c.args.row.now n.me.0 c.place_at-place.result.peer.0) c.self.view_is) (c.in_ok-from.was)
    (ap (λ (a : Option Addr). own_point c.args.row.now.pw_id a c.address_of-2.result) here
    ∙ ap (own_point c.args.row.now.pw_id (edge_address c.args.self.now.plan c.args.self.now.me)) c.address_of-2.ensures) c.held_beside.ensures.held c.wanted.ensures.told
