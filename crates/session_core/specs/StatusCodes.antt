-- The status data that a session writes, and the notifications that carry them (RFC 5036 sections 3.4.6 and 3.9).
use Rattle.std.specs.Prelude.{ℕ, true, false}
use Rattle.ldp_codec.specs.declared.decode_fault.DecodeFault.{DecodeFault}
use Rattle.ldp_codec.specs.declared.decode_fault.DecodeFault.TheVariants as fault
use Rattle.ldp_grammar.specs.declared.message.Message.{Message}
use Rattle.ldp_grammar.specs.Written.{id_of, written_type}
use Rattle.session_core.specs.declared.reply.Reply.{Reply}
use Rattle.session_core.specs.declared.reply.Reply.TheVariants.{Notice}

abbrev pub bad_ldp_identifier : ℕ
bad_ldp_identifier = 0x01

abbrev pub bad_protocol_version : ℕ
bad_protocol_version = 0x02

abbrev pub bad_pdu_length : ℕ
bad_pdu_length = 0x03

abbrev pub bad_message_length : ℕ
bad_message_length = 0x05

abbrev pub bad_tlv_length : ℕ
bad_tlv_length = 0x07

abbrev pub malformed_tlv_value : ℕ
malformed_tlv_value = 0x08

abbrev pub shutdown : ℕ
shutdown = 0x0a

-- "Session Rejected/No Hello": the Initialization is for another receiver
abbrev pub no_hello : ℕ
no_hello = 0x10

abbrev pub keep_alive_timer_expired : ℕ
keep_alive_timer_expired = 0x14

abbrev pub bad_keep_alive_time : ℕ
bad_keep_alive_time = 0x18

abbrev pub internal_error : ℕ
internal_error = 0x19

-- a fatal Notification about a message; its Message ID and its type without U bit tell which
abbrev pub about : Message → ℕ → Reply
about message code = Notice (record { fatal = true; forward = false; code = code; message = id_of message; kind = written_type message })

-- a fatal Notification about no message
abbrev pub about_none : ℕ → Reply
about_none code = Notice (record { fatal = true; forward = false; code = code; message = 0; kind = 0 })

-- the status data that tells what is wrong in a PDU (RFC 5036 sections 3.5.1.2.1 and 3.5.1.2.2); want of memory is no fault of
-- the peer
abbrev pub data_of : DecodeFault → ℕ
data_of (fault.Version at) = bad_protocol_version
data_of (fault.PduLength at) = bad_pdu_length
data_of (fault.MessageLength at) = bad_message_length
data_of (fault.TlvLength at) = bad_tlv_length
data_of (fault.TlvValue at field) = malformed_tlv_value
data_of (fault.Repeated at field) = malformed_tlv_value
data_of fault.NoMemory = internal_error
