-- What is known of the wires once messages have been heard (RFC 8077 section 6.3.2), and which messages edges tell each other.
use Rattle.std.specs.Prelude.{◌≡◌, ◌<◌, ◌^◌, ◌==◌, ◌&&◌, ◌||◌, ◌++◌, ℕ, Bool, true, false, List, [], ◌∷◌, slice_get, Option, Some, None, if◌then◌else◌}
use Rattle.net_base.specs.declared.plan.Plan.{Plan}
use Rattle.net_base.specs.declared.plan.wire_plan.WirePlan.{WirePlan}
use Rattle.pw_tlvs.specs.declared.pw_fec.PwFec.{PwFec}
use Rattle.pw_tlvs.specs.declared.pw_status.PwStatus.{PwStatus}
use Rattle.ldp_grammar.specs.declared.message.Message.{Message}
use Rattle.ldp_grammar.specs.declared.message.Message.TheVariants.{Notification}
use Rattle.pw_messages.specs.Content.{pw_status_code}
use Rattle.status_exchange.specs.declared.wish.Wish.{Wish}
use Rattle.independent_model.specs.Tell.{notification, octets_by}
use Rattle.independent_model.specs.Wires.{is_between}

-- the PW ID of a FEC, where it has one, is this one
abbrev pub is_id : ℕ → Option ℕ → Bool
is_id pw_id None = false
is_id pw_id (Some other) = pw_id == other

-- a status Notification of the wire with this PW ID replaces what was known of it
abbrev pub known_by : ℕ → ℕ → Option PwStatus → Option PwFec → Option PwStatus → Option PwStatus
known_by pw_id code None fec known = known
known_by pw_id code (Some status) None known = known
known_by pw_id code (Some status) (Some fec) known = if code == pw_status_code && is_id pw_id fec.pw_id then Some status else known

-- what is known of the wire after a message
abbrev pub status_known_after : ℕ → Message → Option PwStatus → Option PwStatus
status_known_after pw_id (Notification id code status fec) known = known_by pw_id code.code status fec known
status_known_after pw_id message known = known

-- what is known after all of them
abbrev pub known_after_all : ℕ → List Message → Option PwStatus → Option PwStatus
known_after_all pw_id [] known = known
known_after_all pw_id (message ∷ messages) known = known_after_all pw_id messages (status_known_after pw_id message known)

-- a status passes the test
abbrev pub some_status : (PwStatus → Bool) → Option PwStatus → Bool
some_status test None = false
some_status test (Some status) = test status

-- one of these messages tells a status of the wire that passes the test
abbrev pub some_tells : ℕ → (PwStatus → Bool) → List Message → Bool
some_tells pw_id test [] = false
some_tells pw_id test (message ∷ messages) = some_status test (status_known_after pw_id message None) || some_tells pw_id test messages

-- the message is the status Notification by which one edge tells another one what it calls a wire between the two
pub record TellsWire (plan : Plan) (from to : ℕ) (message : Message) : Type 0 where
  pub wire : ℕ
  pub row : WirePlan
  pub is : slice_get plan.wires wire ≡ Some row
  pub joined : is_between plan wire from to ≡ true
  pub wish : Wish
  pub id : ℕ
  pub small : id < 2 ^ 32
  pub told : message ≡ notification row from wish id

-- the octets of messages of one edge, each in a PDU of its own
abbrev pub octets_of_messages : Plan → ℕ → List Message → List ℕ
octets_of_messages plan from [] = []
octets_of_messages plan from (message ∷ messages) = octets_by (slice_get plan.edges from) message ++ octets_of_messages plan from messages
