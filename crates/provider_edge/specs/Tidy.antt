-- An edge that is tidy: but for the ends that have a mark there is nothing to mend.
use Rattle.std.specs.Prelude.{◌≡◌, ◌<◌, ℕ, Bool, true, false, not, length, List, Option, Some, None}
use Rattle.net_base.specs.declared.outside.link_call.LinkCall.{LinkCall}
use Rattle.net_base.specs.declared.plan.Plan.{Plan}
use Rattle.pw_messages.specs.LinkAnswers.{Answers}
use Rattle.edge_model.specs.declared.effect.Effect.{Effect}
use Rattle.edge_model.specs.declared.end_place.EndPlace.{EndPlace}
use Rattle.edge_model.specs.EndPlaces.{end_places}
use Rattle.edge_model.specs.Hear.{is_up_phase}
use Rattle.edge_model.specs.Mend.{mends}
use Rattle.edge_model.specs.Settled.{IsSettled}
use Rattle.edge_model.specs.Spokes.{choice}
use Rattle.edge_model.specs.State.{EdgeState, Peering}
use Rattle.peer_dialogue.specs.Peering.{at_edge}
use Rattle.provider_edge.specs.declared.end_marks.EndMarks.{EndMarks}
use Rattle.provider_edge.specs.Marks.{IsUnmarked, MarksEach, MarksWire, place_at}
use Rattle.provider_edge.specs.Spokes.{starts_spoke}

-- mending is nothing, whatever the link would answer, and whatever the edge did before: it stays as it is, calls its link not, and
-- gives out nothing
abbrev pub MendsNothing : Plan → EdgeState → Type 0
MendsNothing plan edge = (told : Answers) (calls : List LinkCall) (out : List Effect) → mends plan told (at_edge edge calls out) ≡ at_edge edge calls out

-- the end of a slot is settled
abbrev pub IsSettledAt : Plan → EdgeState → ℕ → Type 0
IsSettledAt plan edge slot = slot < length (end_places plan edge.me) → IsSettled plan edge (place_at (end_places plan edge.me) slot)

-- no end of a spoke of a service that starts at the edge has a mark
abbrev pub IsPassedBy : Plan → EdgeState → EndMarks → ℕ → Type 0
IsPassedBy plan edge marks service = (slot : ℕ) → slot < length (end_places plan edge.me) → starts_spoke plan edge.me (record { 0 = service }) (place_at (end_places plan edge.me) slot) ≡ true → IsUnmarked marks slot

-- the edge has chosen for a service as it would choose by now
abbrev pub HasChosenFor : Plan → EdgeState → ℕ → Type 0
HasChosenFor plan edge service = edge.chosen service ≡ choice plan edge (record { 0 = service })

-- an edge with these marks is tidy: each end without one is settled, and each service without one has its choice
pub record IsTidy (plan : Plan) (edge : EdgeState) (marks : EndMarks) : Type 0 where
  pub ends : (slot : ℕ) → IsUnmarked marks slot → IsSettledAt plan edge slot
  pub chosen : (service : ℕ) → IsPassedBy plan edge marks service → HasChosenFor plan edge service

-- and each end of a wire has a mark, so that there any may change
pub record IsTidyBesides (plan : Plan) (edge : EdgeState) (wire : ℕ) (marks : EndMarks) : Type 0 where
  pub tidy : IsTidy plan edge marks
  pub marked : MarksWire (end_places plan edge.me) wire marks

-- and each end that passes a test
pub record IsTidyApart (plan : Plan) (edge : EdgeState) (test : EndPlace → Bool) (marks : EndMarks) : Type 0 where
  pub tidy : IsTidy plan edge marks
  pub marked : MarksEach (end_places plan edge.me) test marks

-- the session stands, and is up or not as it was
abbrev pub stands_as : Bool → Option Peering → Bool
stands_as up None = false
stands_as true (Some kept) = is_up_phase kept.session.phase
stands_as false (Some kept) = not (is_up_phase kept.session.phase)
