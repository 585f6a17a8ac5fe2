-- An edge tells a neighbour that addresses are to be forgotten: a MAC withdraw on an end, in pieces (RFC 4762 section 6.2).
use Rattle.std.specs.Prelude.{List, [], ◌∷◌}
use Rattle.net_values.specs.declared.mac.Mac.{Mac}
use Rattle.pw_signalling.specs.End.{LocalPart, Advertised}
use Rattle.pw_messages.specs.Content.{mac_withdrawal}
use Rattle.pw_messages.specs.LinkAnswers.{Answers}
use Rattle.edge_model.specs.declared.end_place.EndPlace.{EndPlace}
use Rattle.edge_model.specs.Put.{Spoken, stays}
use Rattle.edge_model.specs.Session.{says}
use Rattle.edge_model.specs.State.{end_at}
use Rattle.edge_model.specs.Work.{Work}

-- one piece is put by an end that advertises its label: its FEC is what the end has told
abbrev pub tells_piece_by : Answers → EndPlace → List Mac → LocalPart → Work → Spoken
tells_piece_by told place addresses (Advertised label content) work = says told place.peer (mac_withdrawal place.pw_id addresses content) work
tells_piece_by told place addresses local work = stays work

-- by what the end at the place has told
abbrev pub tells_piece : Answers → EndPlace → List Mac → Work → Spoken
tells_piece told place addresses work = tells_piece_by told place addresses (end_at work.edge place).local work

-- each piece in turn, whatever became of the one before
abbrev pub tells_pieces : Answers → EndPlace → List (List Mac) → Work → Work
tells_pieces told place [] work = work
tells_pieces told place (piece ∷ pieces) work = tells_pieces told place pieces (tells_piece told place piece work).work
