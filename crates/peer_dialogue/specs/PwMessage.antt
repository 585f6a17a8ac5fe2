-- The messages about pseudowires that an edge puts, without their Message ID (RFC 8077 section 6).
use Rattle.std.specs.Prelude.{◌≡◌, ◌≤◌, true, ℕ, length}
use Rattle.pw_tlvs.specs.Written.{has_vlan}
use Rattle.ldp_grammar.specs.declared.message.Message.{Message}
use Rattle.pw_messages.specs.Content.{mac_withdrawal, mapping, release, status_notification, withdrawal}
use Rattle.peer_dialogue.specs.declared.pw_message.PwMessage.{PwMessage}
use Rattle.peer_dialogue.specs.declared.pw_message.PwMessage.TheVariants as message

-- the message with this Message ID
abbrev pub numbered : PwMessage → ℕ → Message
numbered (message.Mapping pw_id label told) id = mapping pw_id label told id
numbered (message.Withdrawal pw_id label told) id = withdrawal pw_id label told id
numbered (message.Release fec label) id = release fec label id
numbered (message.Status pw_id status told) id = status_notification pw_id status told id
numbered (message.MacWithdrawal pw_id addresses told) id = mac_withdrawal pw_id addresses.now told id

-- a PW type has 15 bits, a VLAN ID 12, and a MAC withdraw at most 30 addresses
abbrev pub CanBeSaid : PwMessage → Type 0
CanBeSaid (message.Mapping pw_id label told) = (told.kind ≤ 0x7FFF) × (has_vlan told.vlan ≡ true)
CanBeSaid (message.Withdrawal pw_id label told) = told.kind ≤ 0x7FFF
CanBeSaid (message.Release fec label) = fec.kind ≤ 0x7FFF
CanBeSaid (message.Status pw_id status told) = told.kind ≤ 0x7FFF
CanBeSaid (message.MacWithdrawal pw_id addresses told) = (told.kind ≤ 0x7FFF) × (length addresses.now ≤ 30)
