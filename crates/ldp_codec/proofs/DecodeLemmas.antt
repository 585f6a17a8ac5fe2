-- What a decoder answers.
use Rattle.std.proofs.Common.{◌≡◌, ◌≤◌, ◌<◌, ◌++◌, ◌⊎◌, inl, inr, ℕ, List, length, flat_map, refl, sym, ap, subst, ◌∙◌}
use Rattle.std.specs.Prelude.{Result, Ok, Err, IfOk, IfErr}
use Rattle.ldp_grammar.specs.declared.fault.Fault.{Fault}
use Rattle.ldp_grammar.specs.declared.cause.Cause.{Cause}
use Rattle.ldp_grammar.specs.declared.cause.Cause.TheVariants as cause
use Rattle.ldp_grammar.specs.declared.ldp_id.LdpId.{LdpId}
use Rattle.ldp_grammar.specs.declared.pdu.Pdu.{Pdu}
use Rattle.ldp_grammar.specs.Octets.{two}
use Rattle.ldp_grammar.specs.Spells.{IsFramed, Spelling, Spells, StandInOrder, spell_message}
use Rattle.ldp_grammar.specs.FirstFault.{FirstFault, Names}
use Rattle.ldp_grammar.proofs.PduLemmas.{never_both, one_first}
use Rattle.ldp_grammar.proofs.MeaningLemmas.{one_pdu}
use Rattle.ldp_codec.specs.declared.decode_fault.DecodeFault.{DecodeFault}
use Rattle.ldp_codec.specs.declared.decode_fault.DecodeFault.TheVariants.{Version, PduLength, MessageLength, TlvLength, TlvValue, Repeated, NoMemory}
use Rattle.ldp_codec.specs.Decoded.{IsUnlessNoMemory, TellsFault, refusal_at, refusal_of, refusal_for}
use Rattle.ldp_codec.specs.declared.stop.Stop.{Stop}
use Rattle.ldp_codec.specs.declared.stop.Stop.TheVariants as stop
use Rattle.ldp_codec.specs.Stop.{StopsAt}
use Rattle.ldp_codec.specs.Views.{IsPduOf, IsViewOf, SeenPdu}

tells_at : (P : Fault → Type 0) (c : Cause) (place : ℕ) → P (record { place = place; cause = c }) → TellsFault P (refusal_at c place)
tells_at P cause.Version place holds = holds
tells_at P cause.PduLength place holds = holds
tells_at P cause.MessageLength place holds = holds
tells_at P cause.TlvLength place holds = holds
tells_at P (cause.TlvValue field) place holds = holds
tells_at P (cause.Repeated field) place holds = holds

pub tells_of : (P : Fault → Type 0) (f : Fault) → P f → TellsFault P (refusal_of f)
tells_of P f holds = tells_at P f.cause f.place holds

-- the fault that a refusal tells, or want of memory
told : (P : Fault → Type 0) (e : DecodeFault) → TellsFault P e → ((f : Fault) × (P f) × (e ≡ refusal_of f)) ⊎ (e ≡ NoMemory)
told P (Version at) tells = inl (record { place = at; cause = cause.Version }, tells, refl)
told P (PduLength at) tells = inl (record { place = at; cause = cause.PduLength }, tells, refl)
told P (MessageLength at) tells = inl (record { place = at; cause = cause.MessageLength }, tells, refl)
told P (TlvLength at) tells = inl (record { place = at; cause = cause.TlvLength }, tells, refl)
told P (TlvValue at field) tells = inl (record { place = at; cause = cause.TlvValue field }, tells, refl)
told P (Repeated at field) tells = inl (record { place = at; cause = cause.Repeated field }, tells, refl)
told P NoMemory tells = inr refl

-- where a PDU is spelled, it is the answer
pub accepts : (bytes : List ℕ) (max : ℕ) (r : Result Pdu DecodeFault) → max ≤ 4096 → IfOk r (Spells bytes max) → IfErr r (TellsFault (FirstFault bytes max)) → (pdu : Pdu)
    → Spells bytes max pdu → IsUnlessNoMemory r (Ok pdu)
accepts bytes max (Ok p) small spelled fault pdu is = inl (ap Ok (one_pdu bytes max p pdu spelled is))
accepts bytes max (Err e) small spelled fault pdu is = elim (told (FirstFault bytes max) e fault) [
  | inl w ↦ absurd (never_both bytes max pdu w.0 small is w.1)
  | inr none ↦ inr (ap Err none)
]

-- where a fault is the first, it is the answer
pub refuses : (bytes : List ℕ) (max : ℕ) (r : Result Pdu DecodeFault) → max ≤ 4096 → IfOk r (Spells bytes max) → IfErr r (TellsFault (FirstFault bytes max)) → (f : Fault)
    → FirstFault bytes max f → IsUnlessNoMemory r (Err (refusal_of f))
refuses bytes max (Ok p) small spelled fault f is = absurd (never_both bytes max p f small spelled is)
refuses bytes max (Err e) small spelled fault f is = elim (told (FirstFault bytes max) e fault) [
  | inl w ↦ inl (ap Err (w.2 ∙ ap refusal_of (one_first (Names bytes max) w.0 f w.1 is)))
  | inr none ↦ inr (ap Err none)
]

-- what stopped the reading is told by its refusal
pub tells_for : (P : Fault → Type 0) (s : Stop) → StopsAt P s → TellsFault P (refusal_for s)
tells_for P (stop.At f) stops = tells_of P f stops
tells_for P stop.NoMemory stops = tt

-- the PDU of which something is seen is the one that is spelled
pub view_read : (bytes : List ℕ) (max : ℕ) (seen : SeenPdu) (pdu : Pdu) → IsViewOf bytes max seen → IsPduOf seen pdu → Spells bytes max pdu
view_read bytes max seen pdu v is =
    let id : v.pdu.id ≡ pdu.id = sym (is.id ∙ v.id) in
    record {
      spellings = v.spells.spellings;
      framed = subst (λ (i : LdpId). IsFramed bytes max (i.router.0 ++ two i.space) (flat_map spell_message v.spells.spellings)) id v.spells.framed;
      router = subst (λ (i : LdpId). length i.router.0 ≡ 4) id v.spells.router;
      space = subst (λ (i : LdpId). i.space < 65536) id v.spells.space;
      fit = v.spells.fit;
      stand = subst (λ (ss : List Spelling). StandInOrder ss pdu.messages) v.spellings is.stand;
    }

-- a PDU that is seen has no fault
pub viewed_faultless : (bytes : List ℕ) (max : ℕ) (seen : SeenPdu) (f : Fault) → max ≤ 4096 → IsViewOf bytes max seen → FirstFault bytes max f → ⊥
viewed_faultless bytes max seen f small v first = never_both bytes max v.pdu f small v.spells first
