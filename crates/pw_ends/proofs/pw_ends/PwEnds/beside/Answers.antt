-- What stands at the slot that is found.
use Rattle.std.proofs.Common.{◌∙◌, ap, position}
use Rattle.pw_ends.specs.Ends.{EndLists}
use Rattle.edge_model.specs.EndPlaces.{is_at}
use Rattle.pw_ends.proofs.BesideLemmas.{beside_peer, beside_place}
use Rattle.pw_ends.proofs.pw_ends.PwEnds.beside.Goals as goal

pub returns-clause-wire : goal.returns-clause-wire
returns-clause-wire c = beside_place c.args.self.now c.args.wire c.args.peer c.beside.result
    (c.beside.ensures ∙ ap (λ (l : EndLists). position (is_at c.args.wire.0 c.args.peer.0) l.places) c.self.view_is)

pub returns-clause-peer : goal.returns-clause-peer
returns-clause-peer c = beside_peer c.args.self.now c.args.wire c.args.peer c.beside.result
    (c.beside.ensures ∙ ap (λ (l : EndLists). position (is_at c.args.wire.0 c.args.peer.0) l.places) c.self.view_is)
