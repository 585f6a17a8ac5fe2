-- One more piece, of few addresses, is told by the same end, until all are.
use Rattle.std.proofs.Common.{◌∙◌, ◌<◌, List, length, ap, arith, slice_index_or}
use Rattle.edge_model.specs.declared.end_place.EndPlace.{EndPlace}
use Rattle.mac_withdraw.specs.Pieces.{piece_count}
use Rattle.pw_ends.specs.Ends.{no_place, place_of}
use Rattle.peer_dialogue.proofs.SpeakerLemmas.{agrees_before}
use Rattle.provider_edge.proofs.AtWorkLemmas.{works_both}
use Rattle.provider_edge.proofs.MendLemmas.{within_kept}
use Rattle.provider_edge.proofs.WithdrawLemmas.{piece_within, pieces_end, pieces_next}
use Rattle.provider_edge.proofs.edge.Edge.tell_pieces.Goals as goal

pub piece_at-piece-requires : goal.piece_at-piece-requires
piece_at-piece-requires g c = piece_within (length c.args.addresses.now) c.loop-index.index (omega (arith, c.loop-index-test.true, c.pieces-index-end.ensures))

pub tell_piece-requires : goal.tell_piece-requires
tell_piece-requires g c = record {
  working = c.loop-index.invariant.goes.keeps.stopped ∙ c.requires.working;
  slot = within_kept c.args.self.now c.loop-index.self c.args.slot c.loop-index.invariant.goes.keeps c.requires.slot;
  few = c.piece_at-piece.ensures.few;
}

pub loop-index-preserved : goal.loop-index-preserved
loop-index-preserved g c = record {
  goes = works_both g.L.Link.calls _ _ _ _ _ _ c.loop-index.invariant.goes c.in_ok-tell_piece.ensures.goes;
  step = λ told agrees.
      let below : c.loop-index.index < piece_count (length c.args.addresses.now) = omega (arith, c.loop-index-test.true, c.pieces-index-end.ensures) in
      pieces_next told (place_of c.args.self.now.ends c.args.slot) (place_of c.loop-index.self.ends c.args.slot)
      (piece_count (length c.args.addresses.now)) c.loop-index.index c.args.addresses.now c.piece_at-piece.result.now _ _ _ c.in_ok-tell_piece.field-0 below
      (ap (λ (l : List EndPlace). slice_index_or l c.args.slot no_place) c.loop-index.invariant.goes.keeps.places) c.piece_at-piece.ensures.piece
      (c.loop-index.invariant.step told (agrees_before told _ _ c.in_ok-tell_piece.ensures.goes.on.calls agrees)) (c.in_ok-tell_piece.ensures.step told agrees);
}

pub returns-clause-step : goal.returns-clause-step
returns-clause-step g c = λ told agrees.
    pieces_end told (place_of c.args.self.now.ends c.args.slot) (piece_count (length c.args.addresses.now)) c.loop-index.index c.args.addresses.now _ _
    (omega (arith, c.loop-index-test.false, c.pieces-index-end.ensures))
    (c.loop-index.invariant.step told agrees)

pub returns-in_err-tell_piece-clause-goes : goal.returns-in_err-tell_piece-clause-goes
returns-in_err-tell_piece-clause-goes g c = works_both g.L.Link.calls _ _ _ _ _ _ c.loop-index.invariant.goes c.tell_piece.ensures.goes
