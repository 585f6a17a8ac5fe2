-- How a call of an edge ends, by what the link made of its puts.
use Rattle.std.specs.Prelude.{◌≡◌, ◌<◌, ◌≤◌, ◌+◌, ◌^◌, ◌++◌, ℕ, zero, suc, true, false, List, [], ◌∷◌, length, Result, Ok, Err}
use Rattle.net_base.specs.declared.outside.link_call.LinkCall.{LinkCall}
use Rattle.net_base.specs.declared.plan.Plan.{Plan}
use Rattle.net_base.specs.declared.plan.places.EdgeId.{EdgeId}
use Rattle.net_values.specs.Octets.{AreOctets}
use Rattle.ldp_codec.specs.Decoded.{refusal_of}
use Rattle.ldp_grammar.specs.declared.fault.Fault.{Fault}
use Rattle.ldp_stream.specs.Parsed.{PlacedPdu, Pending, Refused, IsParsedFrom}
use Rattle.ldp_stream.specs.declared.stream_fault.StreamFault.{StreamFault}
use Rattle.ldp_stream.specs.declared.stream_fault.StreamFault.TheVariants as fault
use Rattle.pw_messages.specs.LinkAnswers.{Answers}
use Rattle.status_exchange.specs.declared.wish.Wish.{Wish}
use Rattle.independent_model.specs.declared.indep_stop.IndepStop.{IndepStop}
use Rattle.independent_model.specs.declared.indep_stop.IndepStop.TheVariants as stop
use Rattle.independent_model.specs.Calls.{independent_connects, independent_hears, sets}
use Rattle.independent_model.specs.Hear.{hears_by}
use Rattle.independent_model.specs.State.{IndepState, Receiving}
use Rattle.independent_model.specs.Work.{Goes, IndepOutcome, Stops}

-- of the calls from one number on up to another one each was taken
abbrev pub AllTaken : Answers → ℕ → ℕ → Type 0
AllTaken told from to = (k : ℕ) → from ≤ k → k < to → told k ≡ true

-- the last one was not, and each before it was
pub record LastFailed (told : Answers) (from to : ℕ) : Type 0 where
  pub last : ℕ
  pub is : to ≡ last + 1
  pub least : from ≤ last
  pub taken : AllTaken told from last
  pub failed : told last ≡ false

-- `Link` comes exactly where a put has failed, which is then the last one; else all were taken
abbrev pub EndsAs : Answers → ℕ → IndepOutcome → Type 0
EndsAs told from (Goes edge calls) = (from ≤ length calls) × AllTaken told from (length calls)
EndsAs told from (Stops stop.Link edge calls) = LastFailed told from (length calls)
EndsAs told from (Stops (stop.Refused fault) edge calls) = (from ≤ length calls) × AllTaken told from (length calls)
EndsAs told from (Stops stop.NoMemory edge calls) = ⊥

-- what a link has made of its calls
abbrev pub answers_of : List LinkCall → Answers
answers_of [] k = false
answers_of (call ∷ calls) zero = call.taken
answers_of (call ∷ calls) (suc k) = answers_of calls k

-- The same of what a call answers, by the calls of the link before it and behind it. After want of memory nothing is said of it.
abbrev pub EndsBy : {T : Type 0} → List LinkCall → List LinkCall → Result T IndepStop → Type 0
EndsBy old new (Ok done) = AllTaken (answers_of new) (length old) (length new)
EndsBy old new (Err stop.Link) = LastFailed (answers_of new) (length old) (length new)
EndsBy old new (Err (stop.Refused fault)) = AllTaken (answers_of new) (length old) (length new)
EndsBy old new (Err stop.NoMemory) = Unit {0}

-- of every call that puts
pub record CallsEnd : Type 0 where
  pub connected : (plan : Plan) (told : Answers) (me : ℕ) (peer : EdgeId) (edge : IndepState) (calls : List LinkCall) → EndsAs told (length calls) (independent_connects plan told me peer edge calls)
  pub heard : (plan : Plan) (told : Answers) (me : ℕ) (peer : EdgeId) (octets : List ℕ) (edge : IndepState) (calls : List LinkCall) → EndsAs told (length calls) (independent_hears plan told me peer octets edge calls)
  pub set : (plan : Plan) (told : Answers) (me wire : ℕ) (wish : Wish) (edge : IndepState) (calls : List LinkCall) → EndsAs told (length calls) (sets plan told me wire wish edge calls)

-- ---- octets that are refused

-- the octets from a place of the connection on are PDUs with an ending; it is a fault exactly where the call refuses them, by this fault at
-- its place, and a proper prefix of a PDU where it goes on
pub record IsPendingFrom (base : ℕ) (octets : List ℕ) : Type 0 where
  pub pdus : List PlacedPdu
  pub at : ℕ
  pub rest : List ℕ
  pub parsed : IsParsedFrom base 4096 octets pdus (Pending at rest)

-- octets in which a PDU has a fault, behind some without one
pub record IsFaulty (base : ℕ) (octets : List ℕ) (answer : StreamFault) : Type 0 where
  pub pdus : List PlacedPdu
  pub at : ℕ
  pub wrong : Fault
  pub parsed : IsParsedFrom base 4096 octets pdus (Refused at wrong)
  pub is : answer ≡ fault.Refused at (refusal_of wrong)

-- what the octets of a hearing are, by how it ends
abbrev pub ParsesAs : ℕ → List ℕ → IndepOutcome → Type 0
ParsesAs base octets (Goes edge calls) = IsPendingFrom base octets
ParsesAs base octets (Stops stop.Link edge calls) = Unit {0}
ParsesAs base octets (Stops (stop.Refused answer) edge calls) = IsFaulty base octets answer
ParsesAs base octets (Stops stop.NoMemory edge calls) = ⊥

-- of the octets that are held and come, as long as places can be counted
abbrev pub HearsParsed : Type 0
HearsParsed = (plan : Plan) (told : Answers) (me : ℕ) (peer : EdgeId) (base : ℕ) (held octets : List ℕ) (edge : IndepState) (calls : List LinkCall) → AreOctets (held ++ octets) → base + length (held ++ octets) < 2 ^ 64
    → ParsesAs base (held ++ octets) (hears_by plan told me peer octets (Receiving base held) edge calls)
