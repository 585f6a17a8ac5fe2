-- How octets are heard in pieces.
use Rattle.std.specs.Prelude.{◌≡◌, ◌≤◌, ◌<◌, ℕ, suc, List, [], ◌∷◌, length, Option, Some, None}
use Rattle.net_base.specs.declared.plan.Plan.{Plan}
use Rattle.net_base.specs.declared.plan.places.EdgeId.{EdgeId}
use Rattle.ldp_codec.specs.Decoded.{refusal_of}
use Rattle.ldp_codec.specs.declared.decode_fault.DecodeFault.{DecodeFault}
use Rattle.ldp_grammar.specs.declared.fault.Fault.{Fault}
use Rattle.net_values.specs.Octets.{AreOctets}
use Rattle.ldp_stream.specs.Front.{HasFront, IsFrontFault, IsPending}
use Rattle.ldp_stream.specs.State.{IsFaultOf, StreamState}
use Rattle.pw_messages.specs.LinkAnswers.{Answers}
use Rattle.edge_model.specs.Hear.{hears_few}
use Rattle.edge_model.specs.State.{Peering}
use Rattle.edge_model.specs.Work.{Work}
use Rattle.ldp_codec.specs.Views.{IsPduOf, SeenPdu}
use Rattle.ldp_grammar.specs.declared.ldp_id.LdpId.{LdpId}
use Rattle.ldp_grammar.specs.declared.message.Message.TheVariants as message
use Rattle.ldp_grammar.specs.declared.pdu.Pdu.{Pdu}
use Rattle.peer_dialogue.specs.Heard.{CanBeHeard}
use Rattle.std.specs.List.{AllByRecursion}
use Rattle.peer_dialogue.specs.declared.next.Next.{Next}
use Rattle.peer_dialogue.specs.declared.next.Next.TheVariants as next

-- the stream holds octets, and no fault was answered
pub record IsReady (s : StreamState) : Type 0 where
  pub octets : AreOctets s.held
  pub going : s.refused ≡ None

-- the same of a stream, where there is one
abbrev pub AreReady : Option StreamState → Type 0
AreReady None = Unit {0}
AreReady (Some s) = IsReady s

-- the octets that are held
abbrev pub octets_in : Option StreamState → List ℕ
octets_in None = []
octets_in (Some s) = s.held

-- more octets are wanted for a PDU within the maximum
pub record IsWaiting (max : ℕ) (held : List ℕ) : Type 0 where
  pub octets : AreOctets held
  pub most : max ≤ 4096
  pub pending : IsPending max held
  pub room : length held < 4100

-- where the session stands, more octets are wanted for a PDU within its maximum
abbrev pub IsWaitingFor : Option Peering → List ℕ → Type 0
IsWaitingFor None held = Unit {0}
IsWaitingFor (Some kept) held = IsWaiting kept.session.max_pdu held

-- the octets begin with the PDU, and those behind it are then held
pub record IsAtPdu (max : ℕ) (old new : List ℕ) (pdu : Pdu) : Type 0 where
  pub front : HasFront max old pdu new
  pub shorter : length new < length old
  pub heard : AllByRecursion CanBeHeard pdu.messages

-- there is a fault in front, and this refusal names it
pub record IsAtFault (max : ℕ) (old : List ℕ) (refusal : DecodeFault) : Type 0 where
  pub fault : Fault
  pub front : IsFrontFault max old fault
  pub names : refusal ≡ refusal_of fault

-- the PDU of one KeepAlive
abbrev pub alive : LdpId → ℕ → Pdu
alive sender id = record { id = sender; messages = message.KeepAlive id ∷ [] }

-- this is what is made of a PDU that is seen
abbrev pub IsSeenAs : SeenPdu → Next → Type 0
IsSeenAs seen next.More = ⊥
IsSeenAs seen (next.KeepAlive sender id) = IsPduOf seen (alive sender id)
IsSeenAs seen (next.Pdu pdu) = IsPduOf seen pdu
IsSeenAs seen (next.Fault refusal) = ⊥

-- the stream goes on, and the PDU stands in front
pub record IsInFront (s : StreamState) (pdu : Pdu) : Type 0 where
  pub going : s.refused ≡ None
  pub rest : List ℕ
  pub front : HasFront s.max s.held pdu rest

-- the stream has a fault, and this refusal names it
pub record IsRefusedBy (s : StreamState) (refusal : DecodeFault) : Type 0 where
  pub fault : Fault
  pub stands : IsFaultOf s fault
  pub names : refusal ≡ refusal_of fault

-- what stands in front of a stream
abbrev pub StandsIn : StreamState → Next → Type 0
StandsIn s next.More = (s.refused ≡ None) × IsPending s.max s.held
StandsIn s (next.KeepAlive sender id) = IsInFront s (alive sender id)
StandsIn s (next.Pdu pdu) = IsInFront s pdu
StandsIn s (next.Fault refusal) = IsRefusedBy s refusal

-- what stands in front of the octets that are held
abbrev pub StandsNext : ℕ → List ℕ → List ℕ → Next → Type 0
StandsNext max old new next.More = IsWaiting max new × (new ≡ old)
StandsNext max old new (next.KeepAlive sender id) = IsAtPdu max old new (alive sender id)
StandsNext max old new (next.Pdu pdu) = IsAtPdu max old new pdu
StandsNext max old new (next.Fault refusal) = IsAtFault max old refusal

-- this is what comes of the octets that are left, where enough PDUs may be heard
pub record Within (plan : Plan) (told : Answers) (peer : EdgeId) (rest : List ℕ) (now whole : Work) : Type 0 where
  pub fuel : ℕ
  pub enough : length rest ≤ fuel
  pub is : whole ≡ hears_few plan told peer (suc fuel) rest now

-- of the octets those in front were heard, and these are left
pub record HearsOn (plan : Plan) (told : Answers) (peer : EdgeId) (octets rest : List ℕ) (work now : Work) : Type 0 where
  pub on : (n : ℕ) → length octets ≤ n → Within plan told peer rest now (hears_few plan told peer (suc n) octets work)
