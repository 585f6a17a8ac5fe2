use Rattle.std.proofs.Common.{◌≡◌, ◌-◌, ◌*◌, length, drop}
use Rattle.pw_messages.specs.LinkAnswers.{Agrees, Answers}
use Rattle.mac_withdraw.specs.Pieces.{piece_count, pieces_from, pieces_of}
use Rattle.edge_model.specs.Withdraw.{tells_pieces}
use Rattle.pw_ends.specs.Ends.{place_of}
use Rattle.provider_edge.specs.AtWork.{Works, at_work}
use Rattle.provider_edge.proofs.edge.Edge.tell_pieces.Given as goal

abbrev pub invariant-loop-index : goal.invariant-loop-index
invariant-loop-index g l = record {
  goes : Works g.L.Link.calls l.fn.self l.fn.work l.self l.work;
  step : (told : Answers) → Agrees told (g.L.Link.calls l.work.link.now)
      → tells_pieces told (place_of l.fn.self.ends l.slot) (pieces_of l.addresses) (at_work g.L.Link.calls l.fn.self l.fn.work)
      ≡ tells_pieces told (place_of l.fn.self.ends l.slot) (pieces_from (piece_count (length l.addresses) - l.index) (drop (30 * l.index) l.addresses)) (at_work g.L.Link.calls l.self l.work);
}
