-- What holds of a wire's end at an edge, of what its neighbour holds of it, and of the messages on their way between the two.
use Rattle.label_space.specs.declared.kept.Kept.{Kept}
use Rattle.label_space.specs.Kept.{is_free}
use Rattle.std.specs.List.{list_any}
use Rattle.std.specs.Prelude.{◌≡◌, ◌++◌, ◌==◌, ◌&&◌, ◌||◌, not, nat_lt, ℕ, Bool, true, false, List, [], ◌∷◌, Option, Some, None, is_some, if◌then◌else◌}
use Rattle.net_base.specs.declared.plan.Plan.{Plan}
use Rattle.net_base.specs.declared.plan.places.EdgeId.{EdgeId}
use Rattle.net_base.specs.declared.plan.places.WireId.{WireId}
use Rattle.net_base.specs.declared.plan.wire_plan.WirePlan.{WirePlan}
use Rattle.net_base.specs.plan.Paths.{joins}
use Rattle.net_base.specs.plan.Places.{wire_row}
use Rattle.ldp_grammar.specs.declared.message.Message.{Message}
use Rattle.ldp_grammar.specs.declared.message.Message.TheVariants.{Notification, LabelMapping, LabelWithdraw, LabelRelease}
use Rattle.pw_signalling.specs.declared.binding.Binding.{Binding}
use Rattle.pw_signalling.specs.End.{LocalPart, Idle, Advertised, Withdrawing}
use Rattle.pw_signalling.specs.Rows.{release_part}
use Rattle.edge_model.specs.State.{EdgeState, is_there}
use Rattle.edge_model.specs.Work.{Work}
use Rattle.network_model.specs.State.{NetworkState}
use Rattle.flight_laws.specs.Binding.{advertised_by, bound_after}
use Rattle.flight_laws.specs.Coming.{and_more}
use Rattle.flight_laws.specs.Ends.{ends_at}
use Rattle.flight_laws.specs.Flight.{all_messages}
use Rattle.flight_laws.specs.Meeting.{said_to}
use Rattle.flight_laws.specs.Messages.{AreSaid, octets_of_all}
use Rattle.flight_laws.specs.Pair.{AreTalking}

-- some message passes a test
abbrev pub some_message : (Message → Bool) → List Message → Bool
some_message test [] = false
some_message test (message ∷ messages) = test message || some_message test messages

-- the end advertises this label
abbrev pub has_advertised : LocalPart → ℕ → Bool
has_advertised (Idle declined) label = false
has_advertised (Advertised own told) label = own == label
has_advertised (Withdrawing own) label = false

-- the label was given, and is not free to be given again
abbrev pub is_free_one : ℕ → Kept → Bool
is_free_one label k = k.label == label && is_free k

-- the same of a label of an edge
abbrev pub given_of : EdgeState → ℕ → Bool
given_of edge label = nat_lt label edge.next_label && not (list_any (is_free_one label) edge.kept)

-- the label was given before, and the end does not advertise it now
abbrev pub is_old : (ℕ → Bool) → LocalPart → ℕ → Bool
is_old given near label = given label && not (has_advertised near label)

-- what is said of a label: it names a PW ID and the label, and where the PW ID is the wire's the label is old
abbrev pub names_old : ℕ → (ℕ → Bool) → LocalPart → (named label : Option ℕ) → Bool
names_old pw_id given near (Some other) (Some label) = not (other == pw_id) || is_old given near label
names_old pw_id given near named label = false

-- it names this wire and this label
abbrev pub names_label : ℕ → ℕ → (named label : Option ℕ) → Bool
names_label pw_id own (Some other) (Some label) = other == pw_id && label == own
names_label pw_id own named label = false

-- each message that an end says names its wire by the PW ID, and each Label Withdraw of the wire is of an old label
abbrev pub withdraws_old : ℕ → (ℕ → Bool) → LocalPart → Message → Bool
withdraws_old pw_id given near (LabelMapping id fec label status points) = is_some fec.pw_id
withdraws_old pw_id given near (LabelWithdraw id fec label) = names_old pw_id given near fec.pw_id label
withdraws_old pw_id given near (Notification id code status (Some fec)) = is_some fec.pw_id
withdraws_old pw_id given near message = true

-- each Label Release that its neighbour says of the wire is of an old label
abbrev pub releases_old : ℕ → (ℕ → Bool) → LocalPart → Message → Bool
releases_old pw_id given near (LabelRelease id fec label) = names_old pw_id given near fec.pw_id label
releases_old pw_id given near message = true

-- a Label Withdraw of this label of the wire
abbrev pub is_withdrawal_of : ℕ → ℕ → Message → Bool
is_withdrawal_of pw_id own (LabelWithdraw id fec label) = names_label pw_id own fec.pw_id label
is_withdrawal_of pw_id own message = false

-- a Label Release of this label of the wire
abbrev pub is_release_of : ℕ → ℕ → Message → Bool
is_release_of pw_id own (LabelRelease id fec label) = names_label pw_id own fec.pw_id label
is_release_of pw_id own message = false

-- the end's own label was given before; of one that is withdrawn the Label Withdraw or the Label Release is on its way; and an idle end
-- was not declined
abbrev pub is_waited_for : ℕ → (ℕ → Bool) → LocalPart → (out back : List Message) → Bool
is_waited_for pw_id given (Idle declined) out back = not declined
is_waited_for pw_id given (Advertised label told) out back = given label
is_waited_for pw_id given (Withdrawing label) out back = given label && (some_message (is_withdrawal_of pw_id label) out || some_message (is_release_of pw_id label) back)

-- the end of the wire with this PW ID at an edge of which these labels are given, what its neighbour holds of it, and the messages on
-- their way from the edge and to it
pub record IsBoundBy (pw_id : ℕ) (given : ℕ → Bool) (near : LocalPart) (far : Option Binding) (out back : List Message) : Type 0 where
  pub agrees : bound_after pw_id out far ≡ advertised_by near
  pub withdrawn : all_messages (withdraws_old pw_id given near) out ≡ true
  pub released : all_messages (releases_old pw_id given near) back ≡ true
  pub waits : is_waited_for pw_id given near out back ≡ true

-- ---- messages that say nothing of the wire

-- another wire is named
abbrev pub names_other : ℕ → Option ℕ → Bool
names_other pw_id None = false
names_other pw_id (Some other) = not (other == pw_id)

-- a message says nothing of the wire with this PW ID
abbrev pub is_silent : ℕ → Message → Bool
is_silent pw_id (LabelMapping id fec label status points) = names_other pw_id fec.pw_id
is_silent pw_id (LabelWithdraw id fec label) = names_other pw_id fec.pw_id && is_some label
is_silent pw_id (LabelRelease id fec label) = names_other pw_id fec.pw_id && is_some label
is_silent pw_id (Notification id code status (Some fec)) = names_other pw_id fec.pw_id
is_silent pw_id message = true

-- what becomes of the end once a message of its neighbour was heard
abbrev pub released_by : ℕ → Option ℕ → Option ℕ → LocalPart → LocalPart
released_by pw_id None label near = near
released_by pw_id (Some other) label near = if other == pw_id then release_part label near else near

-- only a Label Release changes what the end has told
abbrev pub answered_part : ℕ → Message → LocalPart → LocalPart
answered_part pw_id (LabelRelease id fec label) near = released_by pw_id fec.pw_id label near
answered_part pw_id message near = near

-- ---- all wires between two edges

-- the ends of each wire between two edges, and the messages on their way from the first to the second and back
pub record AreBound (plan : Plan) (a b : ℕ) (one other : EdgeState) (out back : List Message) : Type 0 where
  pub near : (wire : WireId) (row : WirePlan) → wire_row plan wire ≡ Some row → joins a b row.path ≡ true
      → IsBoundBy row.pw_id (given_of one) (one.ends wire.0 b).local (other.ends wire.0 a).remote out back
  pub far : (wire : WireId) (row : WirePlan) → wire_row plan wire ≡ Some row → joins a b row.path ≡ true
      → IsBoundBy row.pw_id (given_of other) (other.ends wire.0 a).local (one.ends wire.0 b).remote back out

-- ---- an edge at work

-- what an edge at work has said to a place, and what the place has said to it, by messages
pub record HasSaid (plan : Plan) (me : EdgeId) (place : ℕ) (far : EdgeState) (out : List ℕ) (work : Work) : Type 0 where
  pub messages : List Message
  pub answers : List Message
  pub out_is : and_more (far.peering me.0) out (said_to place work.effects) ≡ octets_of_all (ends_at plan me.0 place).me messages
  pub talk : AreTalking (ends_at plan me.0 place) (ends_at plan place me.0) (work.edge.peering place) (far.peering me.0) messages answers

-- what it leaves for the place: whatever messages those octets are, the ends of all wires between the two are bound by them and by
-- the messages that the edge is still to hear
pub record LeavesBound (plan : Plan) (me : EdgeId) (place : ℕ) (far : EdgeState) (out : List ℕ) (answers : List Message) (work : Work) : Type 0 where
  pub bound : (messages : List Message) → AreSaid (ends_at plan me.0 place) messages → and_more (far.peering me.0) out (said_to place work.effects) ≡ octets_of_all (ends_at plan me.0 place).me messages
      → is_there (work.edge.peering place) ≡ true → is_there (far.peering me.0) ≡ true → AreBound plan me.0 place work.edge far messages answers

-- ---- the network

-- two edges of which both ends stand: whatever messages the octets on their way are, the ends of all wires between the two are
-- bound by them
pub record AreBoundBy (plan : Plan) (a b : ℕ) (one other : EdgeState) (out back : List ℕ) : Type 0 where
  pub bound : (messages answers : List Message) → AreSaid (ends_at plan a b) messages → AreSaid (ends_at plan b a) answers
      → out ≡ octets_of_all (ends_at plan a b).me messages → back ≡ octets_of_all (ends_at plan b a).me answers
      → is_there (one.peering b) ≡ true → is_there (other.peering a) ≡ true → AreBound plan a b one other messages answers

-- the messages that a place still has for an edge, of which these octets are held already
pub record AreAnswers (plan : Plan) (network : NetworkState) (me : EdgeId) (place : ℕ) (held : List ℕ) (answers : List Message) : Type 0 where
  pub said : AreSaid (ends_at plan place me.0) answers
  pub octets : held ++ network.pipes place me.0 ≡ octets_of_all (ends_at plan place me.0).me answers
