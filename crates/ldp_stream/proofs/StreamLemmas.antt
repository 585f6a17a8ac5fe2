-- What a stream answers is the one thing that stands in front.
use Rattle.std.proofs.Common.{◌≡◌, ◌≤◌, ◌<◌, ◌+◌, ◌^◌, ◌++◌, ◌∙◌, inl, inr, ℕ, List, ◌∷◌, Option, Some, None, length, take, drop, sym, ap, subst, append_assoc, length-append, arith}
use Rattle.std.proofs.lemmas.List.{take-append-drop}
use Rattle.ldp_grammar.specs.declared.fault.Fault.{Fault}
use Rattle.ldp_grammar.specs.declared.pdu.Pdu.{Pdu}
use Rattle.ldp_grammar.specs.FirstFault.{FirstFault}
use Rattle.ldp_codec.specs.Views.{IsPduOf, SeenPdu}
use Rattle.ldp_codec.proofs.DecodeLemmas.{view_read}
use Rattle.ldp_stream.specs.Seen.{HasNext, IsPeeked, IsSeenIn}
use Rattle.ldp_stream.specs.Front.{HasFront, HasPdu, IsFrontFault, size_of}
use Rattle.ldp_stream.specs.Halt.{IsSpelledBy}
use Rattle.ldp_stream.specs.Parsed.{Ending, IsParsedFrom, PlacedPdu}
use Rattle.ldp_stream.specs.Laws.{PassesAreParsed}
use Rattle.ldp_stream.specs.State.{IsFaultOf, Passes, StreamState, place_behind}
use Rattle.ldp_stream.proofs.ParsedLemmas.{one_parsing}
use Rattle.ldp_stream.proofs.FrontLemmas.{in_front, one_front}

none_some : (f : Fault) → ◌≡◌ {A = Option Fault} None (Some f) → ⊥
none_some f e = cc (e)

-- so many octets in front are a PDU that stands there
spelled_front : (max : ℕ) (held : List ℕ) (pdu : Pdu) (size : ℕ) → IsSpelledBy max held pdu size → HasFront max held pdu (drop size held)
spelled_front max held pdu size s = record { piece = take size held; split = sym (take-append-drop size held); spelled = s.spelled }

pub front_is : (max : ℕ) (held : List ℕ) (p q : Pdu) (size : ℕ) (rest : List ℕ) → max ≤ 4096 → IsSpelledBy max held p size → HasFront max held q rest → p ≡ q
front_is max held p q size rest small s front = (one_front.one_pdu max held p q (drop size held) rest small (spelled_front max held p size s) front).0

pub front_stands : (max : ℕ) (held : List ℕ) (p : Pdu) (size : ℕ) (f : Fault) → max ≤ 4096 → IsSpelledBy max held p size → IsFrontFault max held f → ⊥
front_stands max held p size f small s fault = one_front.not_faulty max held p (drop size held) f small (spelled_front max held p size s) fault

-- a stream that goes on has the fault in front
pub going_fault : (s : StreamState) (f : Fault) → s.refused ≡ None → IsFaultOf s f → IsFrontFault s.max s.held f
going_fault s f going (inl before) = absurd (none_some f (sym going ∙ before))
going_fault s f going (inr stands) = stands.1

-- a place that can be counted
pub within_places : (base count : ℕ) → base + count < 2 ^ 64 → place_behind base count ≡ base + count
unfolding place_behind
within_places base count few = omega arith

passed_octets : (old new : StreamState) (pdu : Pdu) (p : Passes old new pdu) → length old.held ≡ length p.piece + length new.held
passed_octets old new pdu p = ap length p.split ∙ length-append p.piece new.held

passed_place : (old new : StreamState) (pdu : Pdu) (p : Passes old new pdu) → old.base + length old.held < 2 ^ 64 → new.base ≡ old.base + length p.piece
passed_place old new pdu p few = ap (λ (s : StreamState). s.base) p.is ∙ within_places old.base (length p.piece) (omega (arith, few, passed_octets old new pdu p))

passed_parsed : (old new : StreamState) (pdu : Pdu) (more : List ℕ) (pdus : List PlacedPdu) (ending : Ending) → old.base + length old.held < 2 ^ 64 → Passes old new pdu
    → IsParsedFrom new.base old.max (new.held ++ more) pdus ending → IsParsedFrom old.base old.max (old.held ++ more) (record { base = old.base; pdu = pdu } ∷ pdus) ending
passed_parsed old new pdu more pdus ending few p w =
    let behind : IsParsedFrom (old.base + length p.piece) old.max (new.held ++ more) pdus ending =
    subst (λ (n : ℕ). IsParsedFrom n old.max (new.held ++ more) pdus ending) (passed_place old new pdu p few) w in
    let all = one_parsing.steps old.base old.max p.piece (new.held ++ more) pdu pdus ending p.spelled behind in
    let split : p.piece ++ (new.held ++ more) ≡ old.held ++ more = sym (append_assoc p.piece new.held more) ∙ ap (λ (l : List ℕ). l ++ more) (sym p.split) in
    subst (λ (l : List ℕ). IsParsedFrom old.base old.max l (record { base = old.base; pdu = pdu } ∷ pdus) ending) split all

passed_counted : (old new : StreamState) (pdu : Pdu) → old.base + length old.held < 2 ^ 64 → Passes old new pdu → new.base + length new.held ≡ old.base + length old.held
passed_counted old new pdu few p = omega (arith, passed_place old new pdu p few, passed_octets old new pdu p)

pub passes_are_parsed : PassesAreParsed
passes_are_parsed = record { parsed = passed_parsed; counted = passed_counted }

-- the fault of the octets of a PDU stands in front
pub faulty_whole : (max : ℕ) (held : List ℕ) (f : Fault) → HasPdu max held → FirstFault (take (size_of held) held) max f → IsFrontFault max held f
faulty_whole max held f there first = inr (inr (record { there = there; first = first }))

-- the PDU that is seen is the one that is spelled
pub seen_read : (max : ℕ) (held : List ℕ) (seen : SeenPdu) (pdu : Pdu) → IsSeenIn max held seen → IsPduOf seen pdu → IsSpelledBy max held pdu (size_of held)
seen_read max held seen pdu s is = record { within = s.there.whole; spelled = view_read (take (size_of held) held) max seen pdu s.viewed is }

-- what is seen of the front of a stream that goes on
pub peeked : (s : StreamState) (seen : SeenPdu) → s.refused ≡ None → IsSeenIn s.max s.held seen → IsPeeked s seen
peeked s seen going is = record { going = going; piece = take (size_of s.held) s.held; rest = drop (size_of s.held) s.held; split = sym (take-append-drop (size_of s.held) s.held); viewed = is.viewed }

-- where a PDU is seen, no fault stands in front
pub seen_faultless : (max : ℕ) (held : List ℕ) (seen : SeenPdu) (f : Fault) → max ≤ 4096 → IsSeenIn max held seen → IsFrontFault max held f → ⊥
seen_faultless max held seen f small s fault =
    let front : HasFront max held s.viewed.pdu (drop (size_of held) held) =
    record { piece = take (size_of held) held; split = sym (take-append-drop (size_of held) held); spelled = s.viewed.spells } in
    one_front.not_faulty max held s.viewed.pdu (drop (size_of held) held) f small front fault

-- the PDU in front is there whole
pub next_whole : (s : StreamState) → s.max ≤ 4096 → HasNext s → HasPdu s.max s.held
next_whole s small n =
    let at = in_front s.max s.held n.front.piece n.rest n.pdu small n.front.split n.front.spelled in
    record { header = at.header; whole = at.within }

-- what is left is what stands behind the PDU that is passed
pub passes_front : (s new : StreamState) (pdu : Pdu) (rest : List ℕ) → s.max ≤ 4096 → s.refused ≡ None → HasFront s.max s.held pdu rest → new
    ≡ record { held = drop (size_of s.held) s.held; max = s.max; base = place_behind s.base (size_of s.held); refused = s.refused } → Passes s new pdu
passes_front s new pdu rest small going front is =
    let at = in_front s.max s.held front.piece rest pdu small front.split front.spelled in
    let held : new.held ≡ drop (size_of s.held) s.held = ap (λ (n : StreamState). n.held) is in
    record {
      going = going;
      piece = front.piece;
      split = front.split ∙ ap (λ (l : List ℕ). front.piece ++ l) (sym (held ∙ at.back));
      spelled = front.spelled;
      is = is ∙ (λ i. record { held = sym held i; max = s.max; base = place_behind s.base (at.size i); refused = going i });
    }

-- a PDU that is seen can be passed
pub ready : (s : StreamState) (seen : SeenPdu) → s.refused ≡ None → IsSeenIn s.max s.held seen → HasNext s
ready s seen going is = record {
  going = going;
  pdu = is.viewed.pdu;
  rest = drop (size_of s.held) s.held;
  front = record { piece = take (size_of s.held) s.held; split = sym (take-append-drop (size_of s.held) s.held); spelled = is.viewed.spells };
}
