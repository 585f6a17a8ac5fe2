-- What is read of octets is what they say.
use Rattle.std.proofs.Common.{◌≡◌, ◌∙◌, List, [], ◌∷◌, ℕ, false, Result, Ok, Err, inl, inr, refl, sym, ap, arith}
use Rattle.net_values.specs.declared.addr.Addr.{Addr}
use Rattle.net_values.proofs.RowLemmas.{same_octets}
use Rattle.ldp_grammar.specs.declared.pdu.Pdu.{Pdu}
use Rattle.ldp_grammar.specs.Spells.{Spells}
use Rattle.ldp_codec.specs.declared.decode_fault.DecodeFault.{DecodeFault}
use Rattle.ldp_codec.specs.declared.decode_fault.DecodeFault.TheVariants.{NoMemory}
use Rattle.ldp_codec.specs.Decoded.{IsUnlessNoMemory}
use Rattle.ldp_discovery.specs.declared.heard.HelloFault.{HelloFault}
use Rattle.ldp_discovery.specs.declared.heard.HelloFault.TheVariants.{NotPdu}
use Rattle.ldp_grammar.proofs.RoundTripLemmas.{written_is_read}
use Rattle.ldp_discovery.specs.Hellos.{HellosAreHeard, Says, hello_of, hold_in, identifier, is_no_memory}
use Rattle.ldp_discovery.proofs.HelloLemmas.{hello_length}

abbrev pub Accepts : List ℕ → Result Pdu DecodeFault → Type 0
Accepts octets result = (pdu : Pdu) → Spells octets 4096 pdu → IsUnlessNoMemory result (Ok pdu)

same_of : (a b : Pdu) → ◌≡◌ {A = Result Pdu DecodeFault} (Ok a) (Ok b) → a ≡ b
same_of a b e = cc

pub says_pdu : (address : Addr) (octets : List ℕ) (pdu : Pdu) (verdict : Result ℕ HelloFault) → Spells octets 4096 pdu → Accepts octets (Ok pdu) → verdict ≡ hold_in address pdu
    → Says address octets verdict
says_pdu address octets pdu verdict spells accepts is = record {
  spelled = λ other spelled. is ∙ of_answer other (accepts other spelled);
  other = λ none. absurd (none pdu spells);
}
  where
    of_answer : (other : Pdu) → IsUnlessNoMemory (Ok pdu) (Ok other) → hold_in address pdu ≡ hold_in address other
    of_answer other (inl e) = ap (λ (p : Pdu). hold_in address p) (same_of pdu other e)
    of_answer other (inr e) = absurd (cc)

of_fault_in : (fault : DecodeFault) → ◌≡◌ {A = Result Pdu DecodeFault} (Err fault) (Err NoMemory) → fault ≡ NoMemory
of_fault_in fault e = cc

pub says_none : (address : Addr) (octets : List ℕ) (fault : DecodeFault) → is_no_memory fault ≡ false → Accepts octets (Err fault) → Says address octets (Err NotPdu)
says_none address octets fault some accepts = record {
  spelled = λ pdu spelled. absurd (of_answer pdu (accepts pdu spelled));
  other = λ none. refl;
}
  where
    of_answer : (pdu : Pdu) → IsUnlessNoMemory (Err fault) (Ok pdu) → ⊥
    of_answer pdu (inl e) = cc
    of_answer pdu (inr e) = cc (sym some ∙ ap is_no_memory (of_fault_in fault e))

-- ---- the Hello of an edge

sent_by : (address : Addr) (id hold : ℕ) → hold_in address (record { id = identifier address; messages = hello_of address id hold ∷ [] }) ≡ Ok hold
sent_by address id hold = rw (same_octets address.0) refl

pub hellos_heard : HellosAreHeard
hellos_heard address id hold verdict four few short says =
    says.spelled (record { id = identifier address; messages = hello_of address id hold ∷ [] })
    (written_is_read.read 4096 (hello_of address id hold) (identifier address) (omega arith) refl (few, short, four) (record { router = four; space = omega arith })
    (omega (arith, hello_length address id hold four)))
    ∙ sent_by address id hold
