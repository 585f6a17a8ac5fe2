-- What holds of the two ends of a connection and of the messages on their way between them, whether the ends stand or not.
use Rattle.std.specs.Prelude.{◌≡◌, ◌≤◌, ◌<◌, ◌^◌, ◌++◌, ℕ, Bool, true, false, List, [], ◌∷◌, Option, Some, None, option_map}
use Rattle.ldp_grammar.specs.declared.message.Message.{Message}
use Rattle.session_core.specs.declared.peers.Peers.{Peers}
use Rattle.session_core.specs.declared.reply.Reply.{Reply}
use Rattle.session_core.specs.Laws.{IsAddress, IsFacing}
use Rattle.session_core.specs.Messages.{message_of}
use Rattle.session_core.specs.Phase.{Phase}
use Rattle.session_core.specs.Phase as phase
use Rattle.session_core.specs.State.{IsProper, is_active}
use Rattle.session_core.specs.Table.{Outcome, Stay, Goes, Ends}
use Rattle.edge_model.specs.Put.{having_spoken, octets_of}
use Rattle.edge_model.specs.Session.{with_session}
use Rattle.edge_model.specs.State.{Peering}
use Rattle.flight_laws.specs.Coming.{and_more, is_talk, is_talk_without}
use Rattle.flight_laws.specs.Endings.{is_no_refusal}
use Rattle.flight_laws.specs.Messages.{AreSaid, octets_of_all}

-- the ends of a session, as a checked plan has them
pub record AreFit (ends : Peers) : Type 0 where
  pub proper : IsProper ends
  pub me : IsAddress ends.me
  pub peer : IsAddress ends.peer
  pub keepalive : ends.keepalive ≤ 65535

-- the same, seen from both
pub record AreEnds (own other : Peers) : Type 0 where
  pub one : AreFit own
  pub two : AreFit other
  pub facing : IsFacing own other
  pub back : IsFacing other own

-- an end that stands: it is the one of the plan, a PDU of 256 octets has room, and an active end has spoken
pub record IsStanding (own other : Peers) (kept : Peering) : Type 0 where
  pub peers : kept.session.peers ≡ own
  pub between : AreEnds own other
  pub least : 256 ≤ kept.session.max_pdu
  pub most : kept.session.max_pdu ≤ 4096
  pub numbered : kept.next_id < 2 ^ 32
  pub passive : kept.session.phase ≡ phase.Initialized → is_active own ≡ false

-- an end, where it stands, is so
abbrev pub StandsIf : Peers → Peers → Option Peering → Type 0
StandsIf own other None = Unit {0}
StandsIf own other (Some kept) = IsStanding own other kept

-- the state of the session that is kept
abbrev pub phase_of : Peering → Phase
phase_of kept = kept.session.phase

-- the states of the two ends go with what is on its way
abbrev pub is_in_step : Peers → (one other : Option Peering) → (out back : List Message) → Bool
is_in_step own None other out back = is_talk_without (option_map phase_of other) out back
is_in_step own (Some kept) other out back = is_talk (is_active own) kept.session.phase (option_map phase_of other) out back

-- two ends, by messages
pub record AreTalking (own other : Peers) (near far : Option Peering) (out back : List Message) : Type 0 where
  pub said : AreSaid own out
  pub answered : AreSaid other back
  pub here : StandsIf own other near
  pub there : StandsIf other own far
  pub steps : is_in_step own near far out back ≡ true

-- two ends, by octets
pub record ArePaired (own other : Peers) (near far : Option Peering) (out back : List ℕ) : Type 0 where
  pub messages : List Message
  pub answers : List Message
  pub out_is : out ≡ octets_of_all own.me messages
  pub back_is : back ≡ octets_of_all other.me answers
  pub talk : AreTalking own other near far messages answers

-- ---- what comes of an event

-- replies that are put, one after another: what is kept then, the messages and the octets
abbrev pub having_put_all : List Reply → Peering → Peering
having_put_all [] kept = kept
having_put_all (reply ∷ replies) kept = having_put_all replies (having_spoken kept)

-- the messages that replies become, with their Message IDs
abbrev pub messages_put : List Reply → Peering → List Message
messages_put [] kept = []
messages_put (reply ∷ replies) kept = message_of reply kept.next_id kept.session.peers ∷ messages_put replies (having_spoken kept)

-- their octets, one PDU each
abbrev pub octets_put : List Reply → Peering → List ℕ
octets_put [] kept = []
octets_put (reply ∷ replies) kept = octets_of kept reply ++ octets_put replies (having_spoken kept)

-- once it has come, the two ends are in step again, with these messages still to hear, or none where the session ends
abbrev pub StayInStep : Peers → Peers → Peering → Option Peering → (out back : List Message) → Outcome → Type 0
StayInStep own other kept far out back Stay = AreTalking own other (Some kept) far out back
StayInStep own other kept far out back (Goes next replies) =
    AreTalking own other (Some (having_put_all replies (with_session next kept))) far (and_more far out (messages_put replies (with_session next kept))) back
StayInStep own other kept far out back (Ends why replies) =
    (is_no_refusal why ≡ true) × AreTalking own other None far (and_more far out (messages_put replies kept)) []
