-- What octets come to: each octets spell a PDU or have a first fault (RFC 5036 sections 3.1 and 3.3 to 3.5).
use Rattle.std.specs.Prelude.{◌≤◌, ◌&&◌, ℕ, Bool, true, nat_lt, List, [], ◌∷◌}
use Rattle.net_values.specs.Octets.{AreOctets}
use Rattle.ldp_grammar.specs.declared.fault.Fault.{Fault}
use Rattle.ldp_grammar.specs.declared.pdu.Pdu.{Pdu}
use Rattle.ldp_grammar.specs.Spells.{Spells}
use Rattle.ldp_grammar.specs.FirstFault.{FirstFault}

-- whether each number is one that an octet holds
abbrev pub are_octets : List ℕ → Bool
are_octets [] = true
are_octets (octet ∷ octets) = nat_lt octet 256 && are_octets octets

-- the PDU that octets spell, or their first fault, with what shows it
pub data Reading (bytes : List ℕ) (max : ℕ) : Type 0 where
  spelled : (pdu : Pdu) → Spells bytes max pdu → Reading bytes max
  refused : (fault : Fault) → FirstFault bytes max fault → Reading bytes max

-- of all octets one of the two can be told, for each maximum of a session
pub record EachIsRead : Type 0 where
  pub reading : (bytes : List ℕ) (max : ℕ) → AreOctets bytes → max ≤ 4096 → Reading bytes max
