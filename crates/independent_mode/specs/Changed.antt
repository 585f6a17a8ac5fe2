-- What a call has changed of an edge, whatever it answers: what it has heard so far, and what is kept of one peer.
use Rattle.std.specs.Prelude.{◌≡◌, ◌==◌, ◌++◌, ℕ, false, List, [], ◌∷◌, flat_map, Option, Some, None, if◌then◌else◌}
use Rattle.net_base.specs.declared.plan.Plan.{Plan}
use Rattle.net_base.specs.declared.plan.places.EdgeId.{EdgeId}
use Rattle.pw_tlvs.specs.declared.pw_fec.PwFec.{PwFec}
use Rattle.pw_tlvs.specs.declared.pw_status.PwStatus.{PwStatus}
use Rattle.net_values.specs.Octets.{AreOctets}
use Rattle.ldp_grammar.specs.declared.message.Message.{Message}
use Rattle.ldp_grammar.specs.declared.message.Message.TheVariants.{Notification}
use Rattle.ldp_grammar.specs.declared.pdu.Pdu.{Pdu}
use Rattle.ldp_stream.specs.FrontOf.{Got, front_of}
use Rattle.pw_messages.specs.Content.{pw_status_code}
use Rattle.independent_model.specs.Calls.{is_connected}
use Rattle.independent_model.specs.Hear.{learns}
use Rattle.independent_model.specs.State.{ConnectionState, IndepState, Stopped, Receiver, Receiving, Broken}
use Rattle.independent_model.specs.Wires.{wire_named}

-- nothing but what is kept of one peer has changed, and the edge is connected with it as it was
pub record ChangesOnly (peer : ℕ) (old new : IndepState) : Type 0 where
  pub same : new ≡ record old { connection = new.connection }
  pub others : (k : ℕ) → (k == peer) ≡ false → new.connection k ≡ old.connection k
  pub stands : is_connected new peer ≡ is_connected old peer

-- ---- what an edge learns of messages, without what it tells of it

-- of a status, where a wire is named
abbrev pub learns_of : PwStatus → Option ℕ → IndepState → IndepState
learns_of status None edge = edge
learns_of status (Some wire) edge = learns wire status edge

-- of a status Notification
abbrev pub learns_notice : Plan → ℕ → EdgeId → ℕ → Option PwStatus → Option PwFec → IndepState → IndepState
learns_notice plan me peer code None fec edge = edge
learns_notice plan me peer code (Some status) None edge = edge
learns_notice plan me peer code (Some status) (Some fec) edge = if code == pw_status_code then learns_of status (wire_named plan me peer.0 fec.pw_id) edge else edge

-- of a message
abbrev pub learns_message : Plan → ℕ → EdgeId → Message → IndepState → IndepState
learns_message plan me peer (Notification id code status fec) edge = learns_notice plan me peer code.code status fec edge
learns_message plan me peer message edge = edge

-- of all of them, in order
abbrev pub learns_messages : Plan → ℕ → EdgeId → List Message → IndepState → IndepState
learns_messages plan me peer [] edge = edge
learns_messages plan me peer (message ∷ messages) edge = learns_messages plan me peer messages (learns_message plan me peer message edge)

-- some of the messages were heard, from the first one on, and no other one
pub record HearsFront (plan : Plan) (me : ℕ) (peer : EdgeId) (messages : List Message) (old new : IndepState) : Type 0 where
  pub front : List Message
  pub rest : List Message
  pub split : messages ≡ front ++ rest
  pub changed : ChangesOnly peer.0 (learns_messages plan me peer front old) new

-- ---- octets that come

-- these PDUs stand in front of the octets, and others behind them (RFC 5036 section 3.1)
abbrev pub ReadsTo : List Pdu → List ℕ → List ℕ → Type 0
ReadsTo [] octets behind = octets ≡ behind
ReadsTo (pdu ∷ pdus) octets behind = AreOctets octets × ((rest : List ℕ) × ((front_of 4096 octets ≡ Got pdu rest) × ReadsTo pdus rest behind))

-- the messages of PDUs, in order
abbrev pub messages_of : List Pdu → List Message
messages_of pdus = flat_map (λ (pdu : Pdu). pdu.messages) pdus

-- all messages of some PDUs in front of the octets were heard, and these octets are left
pub record HearsAll (plan : Plan) (me : ℕ) (peer : EdgeId) (octets left : List ℕ) (old new : IndepState) : Type 0 where
  pub pdus : List Pdu
  pub read : ReadsTo pdus octets left
  pub changed : ChangesOnly peer.0 (learns_messages plan me peer (messages_of pdus) old) new

-- of some PDUs in front of the octets messages were heard, from the first one on, and no other one
pub record HearsSome (plan : Plan) (me : ℕ) (peer : EdgeId) (octets : List ℕ) (old new : IndepState) : Type 0 where
  pub pdus : List Pdu
  pub left : List ℕ
  pub read : ReadsTo pdus octets left
  pub heard : HearsFront plan me peer (messages_of pdus) old new

-- the octets of a peer that are no whole PDU yet, and those that come; of a stream that was refused nothing is said
abbrev pub IsCome : Receiver → List ℕ → List ℕ → Type 0
IsCome (Receiving base held) octets whole = whole ≡ held ++ octets
IsCome (Broken base wrong) octets whole = Unit {0}
IsCome Stopped octets whole = whole ≡ []

-- the same by a connection; where there is none, nothing comes
abbrev pub IsComeBy : Option ConnectionState → List ℕ → List ℕ → Type 0
IsComeBy None octets whole = whole ≡ []
IsComeBy (Some kept) octets whole = IsCome kept.receiver octets whole

-- of the octets that are held of a peer and come messages were heard, from the first one on, and nothing else has changed but what is kept of
-- the peer
pub record HearsCome (plan : Plan) (me : ℕ) (peer : EdgeId) (octets : List ℕ) (old new : IndepState) : Type 0 where
  pub whole : List ℕ
  pub come : IsComeBy (old.connection peer.0) octets whole
  pub some : HearsSome plan me peer whole old new
