-- What is said in a run spells PDUs, each of one message.
use Rattle.std.specs.Prelude.{ℕ, List, [], ◌∷◌, length}
use Rattle.std.specs.List.{AllByRecursion}
use Rattle.net_base.specs.declared.plan.Plan.{Plan}
use Rattle.net_base.specs.declared.trace.entry.Entry.{Entry}
use Rattle.net_base.specs.declared.trace.entry.Entry.TheVariants.{Said}
use Rattle.net_base.specs.declared.trace.event.Event.{Event}
use Rattle.ldp_grammar.specs.declared.message.Message.{Message}
use Rattle.ldp_stream.specs.Parsed.{IsParsed, Pending}
use Rattle.session_core.specs.declared.peers.Peers.{Peers}
use Rattle.pw_messages.specs.Sender.{platform_of}
use Rattle.network_model.specs.Run.{run}
use Rattle.flight_laws.specs.Ends.{ends_at}
use Rattle.flight_laws.specs.Laws.{IsRun}
use Rattle.flight_laws.specs.Messages.{IsSaidAcross}

-- The octets are those of one PDU, and nothing stands behind it: it is of this end's router with label space 0, its PDU Length is at
-- most 4096, and it has one message, which an end says (RFC 5036 sections 3.1 and 3.5).
pub record IsOnePdu (own : Peers) (octets : List ℕ) : Type 0 where
  pub message : Message
  pub said : IsSaidAcross own message
  pub parsed : IsParsed 4096 octets (record { base = 0; pdu = record { id = platform_of own.me; messages = message ∷ [] } } ∷ []) (Pending (length octets) [])

-- what an edge says to a peer is so, by the rows of the two in the plan
abbrev pub SpellsPdu : Plan → Entry → Type 0
SpellsPdu plan (Said edge peer octets) = IsOnePdu (ends_at plan edge.0 peer.0) octets
SpellsPdu plan entry = Unit {0}

-- so it is with each entry
abbrev pub SpellPdus : Plan → List Entry → Type 0
SpellPdus plan entries = AllByRecursion (SpellsPdu plan) entries

-- in every run
abbrev pub RunsSpellPdus : Type 0
RunsSpellPdus = (plan : Plan) (events : List Event) → IsRun plan events → SpellPdus plan (run plan events).entries
