-- What is seen in front of a stream.
use Rattle.std.proofs.Common.{◌≡◌, ◌≤◌, ℕ, List, [], ◌∷◌, Some, Result, Ok, Err, length, slice_get, refl, ap, subst, sym, arith}
use Rattle.std.specs.Prelude.{IfOk}
use Rattle.ldp_codec.specs.Views.{IsPduOf, SeenPdu}
use Rattle.ldp_codec.specs.declared.decode_fault.DecodeFault.{DecodeFault}
use Rattle.ldp_grammar.specs.declared.ldp_id.LdpId.{LdpId}
use Rattle.ldp_grammar.specs.declared.message.Message.TheVariants as message
use Rattle.ldp_grammar.specs.declared.pdu.Pdu.{Pdu}
use Rattle.ldp_grammar.specs.Spells.{Spelling, StandInOrder, StandsFor}
use Rattle.ldp_stream.specs.Front.{HasFront}
use Rattle.ldp_stream.specs.Seen.{HasNext, IsPeeked, IsRefusal}
use Rattle.ldp_stream.specs.State.{IsStreamRefused, Passes, StreamState}
use Rattle.ldp_stream.specs.declared.stream_fault.StreamFault.TheVariants as stop
use Rattle.ldp_codec.proofs.DecodeLemmas.{view_read}
use Rattle.peer_dialogue.specs.declared.next.Next.{Next}
use Rattle.peer_dialogue.specs.declared.next.Next.TheVariants as next
use Rattle.peer_dialogue.specs.Hearing.{IsAtFault, IsAtPdu, IsInFront, IsReady, IsSeenAs, IsWaiting, StandsIn, alive}
use Rattle.peer_dialogue.proofs.HearLemmas.{at_fault, at_pdu, passed_ready, waiting}

one_spelling : (ss : List Spelling) (s : Spelling) → length ss ≡ 1 → Some s ≡ slice_get ss 0 → ss ≡ s ∷ []
one_spelling [] s one first = absurd (omega arith)
one_spelling (x ∷ []) s one first = let same : x ≡ s = cc (sym first) in ap (λ (y : Spelling). y ∷ []) same
one_spelling (x ∷ y ∷ ss) s one first = absurd (omega arith)

-- the only message of a PDU is a KeepAlive
pub seen_alive : (seen : SeenPdu) (sender : LdpId) (id : ℕ) (s : Spelling) → 1 ≡ length seen.spellings → Some s ≡ slice_get seen.spellings 0 → StandsFor s (message.KeepAlive id)
    → sender ≡ seen.id → IsPduOf seen (alive sender id)
seen_alive seen sender id s one first stands from = record {
  id = from;
  stand = subst (λ (ss : List Spelling). StandInOrder ss (message.KeepAlive id ∷ [])) (sym (one_spelling seen.spellings s (sym one) first)) (stands, tt);
}

-- the PDU that is seen stands in front
in_front : (s : StreamState) (seen : SeenPdu) (pdu : Pdu) → IsPeeked s seen → IsPduOf seen pdu → IsInFront s pdu
in_front s seen pdu peeked is = record {
  going = peeked.going;
  rest = peeked.rest;
  front = record { piece = peeked.piece; split = peeked.split; spelled = view_read peeked.piece s.max seen pdu peeked.viewed is };
}

pub stands_seen : {E : Type 0} (s : StreamState) (seen : SeenPdu) (r : Result Next E) → IsPeeked s seen → IfOk r (IsSeenAs seen) → IfOk r (StandsIn s)
stands_seen s seen (Err stopped) peeked is = tt
stands_seen s seen (Ok next.More) peeked is = absurd is
stands_seen s seen (Ok (next.KeepAlive sender id)) peeked is = in_front s seen (alive sender id) peeked is
stands_seen s seen (Ok (next.Pdu pdu)) peeked is = in_front s seen pdu peeked is
stands_seen s seen (Ok (next.Fault refusal)) peeked is = absurd is

-- the fault that is refused stands in front
pub stands_refused : (s : StreamState) (base : ℕ) (refusal : DecodeFault) → IsRefusal s (stop.Refused base refusal) → StandsIn s (next.Fault refusal)
stands_refused s base refusal is = record { fault = is.fault; stands = is.stands; names = cc (is.is) }

-- ---- and what is made of it

pub set_ready : (max : ℕ) (first old : StreamState) → old ≡ record first { max = max } → IsReady first → IsReady old
set_ready max first old is ready = subst IsReady (sym is) (record { octets = ready.octets; going = ready.going })

-- a PDU in front may be passed
pub front_next : (s : StreamState) (pdu : Pdu) → IsInFront s pdu → HasNext s
front_next s pdu is = record { going = is.going; pdu = pdu; rest = is.rest; front = is.front }

front_passes : (s new : StreamState) (pdu : Pdu) → IsInFront s pdu → ((p : Pdu) (rest : List ℕ) → HasFront s.max s.held p rest → Passes s new p) → Passes s new pdu
front_passes s new pdu is passes = passes pdu is.rest is.front

pub front_ready : (max : ℕ) (first old new : StreamState) (pdu : Pdu) → old ≡ record first { max = max } → IsReady first → IsInFront old pdu
    → ((p : Pdu) (rest : List ℕ) → HasFront old.max old.held p rest → Passes old new p) → IsReady new
front_ready max first old new pdu is ready front passes = passed_ready max first old new pdu is ready (front_passes old new pdu front passes)

pub front_pdu : (max : ℕ) (first old new : StreamState) (pdu : Pdu) → max ≤ 4096 → old ≡ record first { max = max } → IsReady first → IsInFront old pdu
    → ((p : Pdu) (rest : List ℕ) → HasFront old.max old.held p rest → Passes old new p) → IsAtPdu max first.held new.held pdu
front_pdu max first old new pdu small is ready front passes = at_pdu max max first old new pdu small refl is ready (front_passes old new pdu front passes)

-- more octets are waited for
pub front_waits : (max : ℕ) (first old : StreamState) → max ≤ 4096 → old ≡ record first { max = max } → IsReady first → StandsIn old next.More → IsWaiting max old.held × (old.held ≡ first.held)
front_waits max first old small is ready more = waiting max max first old old small refl is ready (record { going = more.0; pending = more.1; unchanged = refl })

-- a fault is in front
pub front_fault : (max : ℕ) (first old : StreamState) (refusal : DecodeFault) → old ≡ record first { max = max } → IsReady first → StandsIn old (next.Fault refusal) → IsAtFault max first.held refusal
front_fault max first old refusal is ready faulty =
    let refused : IsStreamRefused old (record { held = old.held; max = old.max; base = old.base; refused = Some faulty.fault }) old.base refusal =
    record { fault = faulty.fault; names = faulty.names; place = refl; stands = faulty.stands; is = refl } in
    at_fault max max first old (record { held = old.held; max = old.max; base = old.base; refused = Some faulty.fault }) old.base refusal refl is ready refused
