-- What is known on the way through the octets of a stream.
use Rattle.std.specs.Prelude.{◌≡◌, ◌≤◌, ◌+◌, ◌++◌, ◌⊎◌, ℕ, Bool, true, false, List, [], length, drop, None}
use Rattle.ldp_grammar.specs.declared.fault.Fault.{Fault}
use Rattle.ldp_grammar.specs.declared.pdu.Pdu.{Pdu}
use Rattle.ldp_codec.specs.declared.decode_fault.DecodeFault.{DecodeFault}
use Rattle.ldp_codec.specs.Decoded.{refusal_of}
use Rattle.ldp_stream.specs.declared.stream_fault.StreamFault.{StreamFault}
use Rattle.ldp_stream.specs.declared.stream_fault.StreamFault.TheVariants as fault
use Rattle.ldp_stream.specs.Front.{HasFront, IsPending}
use Rattle.ldp_stream.specs.Parsed.{Ending, Pending, Refused}
use Rattle.ldp_stream.specs.Seen.{HasNext, IsRefusal}
use Rattle.ldp_stream.specs.State.{StreamState, Passes, Waits}
use Rattle.message_text.specs.Line.{decoded_lines}
use Rattle.text_lines.specs.Written.{Written, WritingGoesOn, IsCut, Writes}
use Rattle.vplsnet.specs.declared.outcome.Outcome.{Outcome}
use Rattle.vplsnet.specs.declared.outcome.Outcome.TheVariants.{DecodeRefused, NoMemory, WriteFault}
use Rattle.vplsnet.specs.declared.stream_stop.StreamStop.{StreamStop}
use Rattle.vplsnet.specs.declared.stream_stop.StreamStop.TheVariants as stop
use Rattle.vplsnet.specs.StreamText.{largest_pdu, IsTextFrom, IsStreamText}

-- no fault was answered yet, and so many octets were fed
pub record IsStreamGoing (s : StreamState) (fed : ℕ) : Type 0 where
  pub going : s.refused ≡ None
  pub max : s.max ≡ largest_pdu
  pub place : s.base + length s.held ≡ fed

-- a PDU stands in front and can be given up, and the lines of its messages were added
pub record PutsFront (s : StreamState) (before after : List ℕ) : Type 0 where
  pub ready : HasNext s
  pub pdu : Pdu
  pub rest : List ℕ
  pub front : HasFront s.max s.held pdu rest
  pub lines : after ≡ before ++ decoded_lines s.base pdu.messages

-- the lines of a PDU were added, or none stands in front whole
abbrev pub PutsOne : Bool → StreamState → List ℕ → List ℕ → Type 0
PutsOne true s before after = PutsFront s before after
PutsOne false s before after = ((s.refused ≡ None) × IsPending s.max s.held) × (after ≡ before)

-- why no lines were added: a fault in front, or want of memory
abbrev pub IsFrontStop : StreamState → StreamFault → Type 0
IsFrontStop s refusal = IsRefusal s refusal ⊎ (refusal ≡ fault.NoMemory)

-- the PDU in front was taken, and these are the lines of its messages
pub record AddsPdu (old new : StreamState) (lines : List ℕ) : Type 0 where
  pub pdu : Pdu
  pub passes : Passes old new pdu
  pub are : lines ≡ decoded_lines old.base pdu.messages

-- the PDU in front was taken, and the lines of its messages were put
pub record TakesPdu (old new : StreamState) (before after : Written) : Type 0 where
  pub lines : List ℕ
  pub adds : AddsPdu old new lines
  pub goes : WritingGoesOn before after lines

-- a PDU was taken, or none stands in front whole
abbrev pub TakesOne : Bool → StreamState → StreamState → Written → Written → Type 0
TakesOne true old new before after = TakesPdu old new before after
TakesOne false old new before after = Waits old new × (after ≡ before)

-- a front of a text was put, all of it perhaps
pub record PutsPart (whole : List ℕ) (before after : Written) : Type 0 where
  pub front : List ℕ
  pub rest : List ℕ
  pub all : whole ≡ front ++ rest
  pub goes : WritingGoesOn before after front

-- a front of a text was put, and the rest is the text of what is held and of what follows it
pub record PutsUpTo (s : StreamState) (more whole : List ℕ) (ending : Ending) (before after : Written) : Type 0 where
  pub part : PutsPart whole before after
  pub left : IsTextFrom s.base (s.held ++ more) part.rest ending

-- whatever follows, a front of the text was put, and the rest is the text of what is held now and of what follows it
pub record TextGoesOn (old new : StreamState) (before after : Written) : Type 0 where
  pub on : (more whole : List ℕ) (ending : Ending) → IsTextFrom old.base (old.held ++ more) whole ending → PutsUpTo new more whole ending before after

-- the text was put whole, and ends at this fault
pub record PutsToFault (base : ℕ) (refusal : DecodeFault) (whole : List ℕ) (ending : Ending) (before after : Written) : Type 0 where
  pub fault : Fault
  pub names : refusal ≡ refusal_of fault
  pub ends : ending ≡ Refused base fault
  pub goes : WritingGoesOn before after whole

-- what was put of a text where its writing stopped
abbrev pub StopsText : StreamStop → List ℕ → Ending → Written → Written → Type 0
StopsText (stop.Fault (fault.Refused base refusal)) whole ending before after = PutsToFault base refusal whole ending before after
StopsText (stop.Fault fault.NoMemory) whole ending before after = PutsPart whole before after
StopsText stop.Failed whole ending before after = IsCut before after whole

-- whatever follows, the writing of the text stopped
pub record IsStopped (reason : StreamStop) (s : StreamState) (before after : Written) : Type 0 where
  pub on : (more whole : List ℕ) (ending : Ending) → IsTextFrom s.base (s.held ++ more) whole ending → StopsText reason whole ending before after

-- the octets before this place were fed; what is left of the text is that of the octets held and of those behind
pub record IsFedTo (octets : List ℕ) (at : ℕ) (s : StreamState) (before after : Written) : Type 0 where
  pub within : at ≤ length octets
  pub going : IsStreamGoing s at
  pub pending : IsPending largest_pdu s.held
  pub on : (whole : List ℕ) (ending : Ending) → IsStreamText octets whole ending → PutsUpTo s (drop at octets) whole ending before after

-- the text was put whole, and so many octets are left behind its last PDU
pub record PutsAll (octets : List ℕ) (left : ℕ) (whole : List ℕ) (ending : Ending) (before after : Written) : Type 0 where
  pub at : ℕ
  pub rest : List ℕ
  pub ends : ending ≡ Pending at rest
  pub left_is : left ≡ length rest
  pub place : at + left ≡ length octets
  pub goes : WritingGoesOn before after whole

-- the text of these octets was put whole
pub record LeavesSome (octets : List ℕ) (before after : Written) (left : ℕ) : Type 0 where
  pub within : left ≤ length octets
  pub on : (whole : List ℕ) (ending : Ending) → IsStreamText octets whole ending → PutsAll octets left whole ending before after

-- the writing of the text of these octets stopped
pub record StopsIn (reason : StreamStop) (octets : List ℕ) (before after : Written) : Type 0 where
  pub on : (whole : List ℕ) (ending : Ending) → IsStreamText octets whole ending → StopsText reason whole ending before after

-- the outcome of a stream whose text ends at a fault, or for which memory was refused
abbrev pub outcome_at : StreamFault → Outcome
outcome_at (fault.Refused base refusal) = DecodeRefused (fault.Refused base refusal)
outcome_at fault.NoMemory = NoMemory

-- what waited was taken, and the call ends as it was to end
pub record FlushesAll (made outcome : Outcome) (before after : Written) : Type 0 where
  pub is : outcome ≡ made
  pub taken : Writes before.taken after.taken before.waiting

-- the sink failed
pub record FlushesFront (outcome : Outcome) (before after : Written) : Type 0 where
  pub is : outcome ≡ WriteFault
  pub cut : IsCut before after []

-- all that was made is written, or a front of it
abbrev pub Flushes : Outcome → Outcome → Written → Written → Type 0
Flushes made outcome before after = FlushesAll made outcome before after ⊎ FlushesFront outcome before after
