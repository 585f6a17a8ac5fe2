-- The text of a stream of LDP messages, and the outcome by which it ends.
use Rattle.std.specs.Prelude.{◌≡◌, ◌++◌, ℕ, List, [], ◌∷◌}
use Rattle.ldp_codec.specs.Decoded.{refusal_of}
use Rattle.ldp_stream.specs.declared.stream_fault.StreamFault.TheVariants as stop
use Rattle.ldp_stream.specs.Parsed.{PlacedPdu, Ending, Pending, Refused, IsParsedFrom}
use Rattle.vplsnet.specs.declared.outcome.Outcome.{Outcome}
use Rattle.vplsnet.specs.declared.outcome.Outcome.TheVariants.{Done, DecodeRefused, Unfinished}
use Rattle.message_text.specs.Line.{decoded_lines}

-- the largest PDU Length of a stream (RFC 5036 section 3.1)
abbrev pub largest_pdu : ℕ
largest_pdu = 4096

-- the lines of PDUs, each of its messages with the place where it begins
abbrev pub stream_lines : List PlacedPdu → List ℕ
stream_lines [] = []
stream_lines (p ∷ ps) = decoded_lines p.base p.pdu.messages ++ stream_lines ps

-- the octets, from this place of a stream on, are PDUs with this text, and behind them this ending
pub record IsTextFrom (base : ℕ) (octets text : List ℕ) (ending : Ending) : Type 0 where
  pub pdus : List PlacedPdu
  pub parsed : IsParsedFrom base largest_pdu octets pdus ending
  pub text_is : text ≡ stream_lines pdus

-- the same of a whole stream
abbrev pub IsStreamText : List ℕ → List ℕ → Ending → Type 0
IsStreamText octets text ending = IsTextFrom 0 octets text ending

-- A stream that ends behind a PDU is decoded; one that ends within a PDU is unfinished where that begins; a fault
-- refuses it.
abbrev pub outcome_of_ending : Ending → Outcome
outcome_of_ending (Pending at []) = Done
outcome_of_ending (Pending at (octet ∷ rest)) = Unfinished at
outcome_of_ending (Refused base fault) = DecodeRefused (stop.Refused base (refusal_of fault))
