-- A message about a wire makes an edge that has mended put messages of higher levels alone.
use Rattle.std.specs.Prelude.{◌≡◌, ◌≤◌, ◌<◌, ◌+◌, ◌-◌, ◌*◌, ◌++◌, ℕ, suc, true, List, [], ◌∷◌, Some, length, map}
use Rattle.std.specs.List.{AllByRecursion}
use Rattle.net_values.specs.declared.addr.Addr.{Addr}
use Rattle.net_base.specs.declared.plan.Plan.{Plan}
use Rattle.net_base.specs.declared.plan.places.EdgeId.{EdgeId}
use Rattle.net_base.specs.declared.plan.places.WireId.{WireId}
use Rattle.net_base.specs.declared.plan.wire_plan.WirePlan.{WirePlan}
use Rattle.net_base.specs.plan.Accepted.{IsChecked}
use Rattle.net_base.specs.plan.Paths.{expected, joins}
use Rattle.net_base.specs.plan.Places.{wire_row}
use Rattle.ldp_grammar.specs.declared.message.Message.{Message}
use Rattle.ldp_grammar.specs.declared.message.Message.TheVariants.{AddressWithdraw, LabelMapping, LabelWithdraw, Notification}
use Rattle.ldp_grammar.specs.Written.{written}
use Rattle.mac_withdraw.specs.Pieces.{pieces_of}
use Rattle.pw_messages.specs.Content.{told_with}
use Rattle.pw_messages.specs.Sender.{platform_of}
use Rattle.edge_model.specs.declared.effect.Effect.{Effect}
use Rattle.edge_model.specs.declared.effect.Effect.TheVariants.{Said}
use Rattle.edge_model.specs.declared.end_place.EndPlace.{EndPlace}
use Rattle.edge_model.specs.EndPlaces.{end_places}
use Rattle.edge_model.specs.Hear.{acts_on}
use Rattle.edge_model.specs.Mend.{mends}
use Rattle.edge_model.specs.Settled.{is_mended, is_told}
use Rattle.edge_model.specs.Signal.{end_of_fec, takes_content}
use Rattle.edge_model.specs.Spokes.{choice}
use Rattle.edge_model.specs.State.{EdgeState, has_end}
use Rattle.edge_model.specs.Work.{Work}
use Rattle.network_model.specs.Absorb.{taken_all}
use Rattle.flight_laws.specs.Rules.{FarTells, TellsOfWire}
use Rattle.rest_laws.specs.Levels.{level_of, levels_end}
use Rattle.rest_laws.specs.Weight.{heavy, total}

-- the edge has mended: each of its ends tells what it should, the status of now among it, and it has chosen among its spokes
pub record HasMended (plan : Plan) (edge : EdgeState) : Type 0 where
  pub ends : AllByRecursion (λ place. is_mended plan edge place ≡ true) (end_places plan edge.me)
  pub statuses : AllByRecursion (λ place. is_told plan edge place ≡ true) (end_places plan edge.me)
  pub chosen : (service : ℕ) → edge.chosen service ≡ choice plan edge (record { 0 = service })

-- ---- what an edge puts

-- so many messages are said
abbrev pub says_any : Effect → ℕ
says_any (Said peer octets) = 1
says_any effect = 0

abbrev pub said_count : List Effect → ℕ
said_count [] = 0
said_count (effect ∷ effects) = says_any effect + said_count effects

-- octets for a peer spell a message about a wire between the two, of this level
pub record IsSaidAt (plan : Plan) (edges : ℕ → EdgeState) (me level peer : ℕ) (octets : List ℕ) : Type 0 where
  pub message : Message
  pub router : Addr
  pub spelled : octets ≡ written message (platform_of router)
  pub is : level_of plan edges me peer message ≡ Some level

-- whatever is said is of these levels, in turn
abbrev pub AreSaidAt : Plan → (ℕ → EdgeState) → (me : ℕ) → List Effect → List ℕ → Type 0
AreSaidAt plan edges me [] [] = Unit {0}
AreSaidAt plan edges me [] (level ∷ levels) = ⊥
AreSaidAt plan edges me (Said peer octets ∷ effects) [] = ⊥
AreSaidAt plan edges me (Said peer octets ∷ effects) (level ∷ levels) = IsSaidAt plan edges me level peer.0 octets × AreSaidAt plan edges me effects levels
AreSaidAt plan edges me (effect ∷ effects) levels = AreSaidAt plan edges me effects levels

-- more is given out, and whatever is said of it is of a level above this one; of so many messages at most
pub record PutsAbove (plan : Plan) (edges : ℕ → EdgeState) (me least most : ℕ) (old new : List Effect) : Type 0 where
  pub more : List Effect
  pub joined : new ≡ old ++ more
  pub levels : List ℕ
  pub are : AreSaidAt plan edges me more levels
  pub above : AllByRecursion (λ level. least < level) levels
  pub few : length levels ≤ most

-- so many messages answer one at most: a Label Mapping that is refused, or a Label Withdraw, is answered once, and a withdrawal of
-- addresses goes on in pieces by each port of the service, or beyond a switching point
abbrev pub answers_most : Plan → Message → ℕ
answers_most plan (LabelMapping id fec label status points) = 1
answers_most plan (LabelWithdraw id fec label) = 1
answers_most plan (AddressWithdraw id addresses fec (Some macs)) = suc (length plan.circuits + length plan.wires) * length (pieces_of macs)
answers_most plan message = 0

-- and an edge that mends puts three at each of its ends at most
abbrev pub put_most : Plan → EdgeId → Message → ℕ
put_most plan me message = answers_most plan message + 3 * length (end_places plan me)

-- no message that is said in a run makes it put more: the addresses of one are one piece (RFC 4762 section 6.2)
abbrev pub most_put : Plan → EdgeId → ℕ
most_put plan me = suc (length plan.circuits + length plan.wires) + 3 * length (end_places plan me)

-- ---- what an edge hears

-- what an edge holds of a peer tells what the plan has the peer tell
abbrev pub HoldsByPlan : Plan → EdgeState → EdgeId → Type 0
HoldsByPlan plan edge peer =
    (wire : WireId) (row : WirePlan) → wire_row plan wire ≡ Some row → joins peer.0 edge.me.0 row.path ≡ true → FarTells plan row peer.0 edge.me.0 (edge.ends wire.0 peer.0).remote

-- a message from a peer is by the plan: what a Label Mapping tells is what the plan has the peer tell, and the end that it names takes it;
-- and a Notification tells the status of a wire only where the peer's offer has statuses
abbrev pub IsByPlan : Plan → EdgeState → EdgeId → Message → Type 0
IsByPlan plan edge peer (LabelMapping id fec label status points) =
    TellsOfWire plan peer.0 edge.me.0 fec (told_with fec status points) × ((place : EndPlace) → end_of_fec plan edge peer fec ≡ Some place → takes_content plan edge.me place (told_with fec status points) ≡ true)
IsByPlan plan edge peer (Notification id code status (Some fec)) =
    (wire : WireId) (row : WirePlan) → wire_row plan wire ≡ Some row → joins peer.0 edge.me.0 row.path ≡ true → fec.pw_id ≡ Some row.pw_id → (expected plan row peer.0 edge.me.0).offer.status ≡ true
IsByPlan plan edge peer message = Unit {0}

-- An edge that has mended, and whose end of the connection with a peer stands, acts on a message from the peer and mends: whatever it puts is of a higher level than the message.
abbrev pub HearingRises : Type 0
HearingRises = (plan : Plan) → IsChecked plan → (edges : ℕ → EdgeState) (peer : EdgeId) (message : Message) (least : ℕ) (work : Work) → has_end work.edge peer ≡ true → HasMended plan work.edge
    → (edges work.edge.me.0).bits ≡ work.edge.bits → HoldsByPlan plan work.edge peer → IsByPlan plan work.edge peer message → level_of plan edges peer.0 work.edge.me.0 message ≡ Some least
    → PutsAbove plan edges work.edge.me.0 least (put_most plan work.edge.me message) work.effects (mends plan taken_all (acts_on plan taken_all peer message work)).effects

-- ---- weights

-- so many levels are left above one
abbrev pub left_above : ℕ → ℕ
left_above level = levels_end - level

-- So what it puts weighs less than the message that it heard, by any weights by which one message weighs more than so many of higher levels.
abbrev pub HearingLightens : Type 0
HearingLightens = (plan : Plan) → IsChecked plan → (edges : ℕ → EdgeState) (me peer : EdgeId) (message : Message) (least few : ℕ) (old new : List Effect) → level_of plan edges peer.0 me.0 message ≡ Some least
    → (puts : PutsAbove plan edges me.0 least (put_most plan me message) old new) → put_most plan me message ≤ few
    → total few (map left_above puts.levels) < heavy few (left_above least)
