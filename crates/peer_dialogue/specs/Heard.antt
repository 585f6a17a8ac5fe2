-- What is known of a message that was read: a PW type has 15 bits (RFC 8077 section 6.1), and a VLAN ID 12 (IEEE 802.1Q clause 9.6).
use Rattle.std.specs.Prelude.{◌≡◌, ◌≤◌, true}
use Rattle.pw_tlvs.specs.Written.{has_vlan}
use Rattle.ldp_grammar.specs.declared.message.Message.{Message}
use Rattle.ldp_grammar.specs.declared.message.Message.TheVariants.{LabelMapping, LabelWithdraw}
use Rattle.pw_signalling.specs.declared.told.Told.{Told}

-- what a message that was read tells of a pseudowire is in range
abbrev pub CanBeHeard : Message → Type 0
CanBeHeard (LabelMapping id fec label status points) = (fec.kind ≤ 0x7FFF) × (has_vlan fec.params.vlan ≡ true)
CanBeHeard (LabelWithdraw id fec label) = fec.kind ≤ 0x7FFF
CanBeHeard other = Unit {0}

-- a content that can be told on: its Label Mapping can be written
abbrev pub CanBeTold : Told → Type 0
CanBeTold told = (told.kind ≤ 0x7FFF) × (has_vlan told.vlan ≡ true)
