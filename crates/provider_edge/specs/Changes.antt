-- What becomes of one end of an edge, and of the label that it leaves.
use Rattle.std.specs.Prelude.{◌≡◌, None}
use Rattle.pw_signalling.specs.End.{EndState}
use Rattle.pw_signalling.specs.Laws.{own_label}
use Rattle.edge_model.specs.declared.end_place.EndPlace.{EndPlace}
use Rattle.edge_model.specs.Labels.{keeps_one, left_label}
use Rattle.edge_model.specs.State.{EdgeState, end_at, with_end, with_kept}

-- the end at a place is changed; the label that it owns no longer waits for the neighbour
abbrev pub changing : (EndState → EndState) → EndPlace → EdgeState → EdgeState
changing change place edge =
    with_kept (keeps_one (left_label (own_label (end_at edge place).local) (own_label (change (end_at edge place)).local)) place.peer edge.kept)
    (with_end place (change (end_at edge place)) edge)

-- no end leaves its label by a change
abbrev pub KeepsLabels : (EndState → EndState) → Type 0
KeepsLabels change = (end : EndState) → left_label (own_label end.local) (own_label (change end).local) ≡ None
