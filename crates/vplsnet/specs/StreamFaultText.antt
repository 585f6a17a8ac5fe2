-- The fault of a stream in words.
use Rattle.std.specs.Prelude.{codes, ℕ, List, [], ◌∷◌}
use Rattle.std.specs.Fmt.{decimal}
use Rattle.ldp_codec.specs.declared.decode_fault.DecodeFault.{DecodeFault}
use Rattle.ldp_codec.specs.declared.decode_fault.DecodeFault.TheVariants as refusal
use Rattle.ldp_stream.specs.declared.stream_fault.StreamFault.{StreamFault}
use Rattle.ldp_stream.specs.declared.stream_fault.StreamFault.TheVariants as stop
use Rattle.message_text.specs.Words.{field_name}

-- the fault's name, its place in the PDU, and the field that it names
abbrev pub decode_fault_words : DecodeFault → List (List ℕ)
decode_fault_words (refusal.Version at) = codes "Version" ∷ decimal at ∷ []
decode_fault_words (refusal.PduLength at) = codes "PduLength" ∷ decimal at ∷ []
decode_fault_words (refusal.MessageLength at) = codes "MessageLength" ∷ decimal at ∷ []
decode_fault_words (refusal.TlvLength at) = codes "TlvLength" ∷ decimal at ∷ []
decode_fault_words (refusal.TlvValue at field) = codes "TlvValue" ∷ decimal at ∷ field_name field ∷ []
decode_fault_words (refusal.Repeated at field) = codes "Repeated" ∷ decimal at ∷ field_name field ∷ []
decode_fault_words refusal.NoMemory = codes "out of memory" ∷ []

-- the place of the PDU in the stream, and its fault
abbrev pub stream_fault_words : StreamFault → List (List ℕ)
stream_fault_words (stop.Refused base fault) = decimal base ∷ decode_fault_words fault
stream_fault_words stop.NoMemory = codes "out of memory" ∷ []
