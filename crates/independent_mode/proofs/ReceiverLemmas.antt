-- What an edge hears a peer with.
use Rattle.std.proofs.Common.{◌≡◌, ◌<◌, ◌≤◌, ◌-◌, ◌⊎◌, ◌++◌, ◌∙◌, ℕ, List, Some, None, length, take, refl, ap, sym, subst, inl, inr, arith, length-append}
use Rattle.ldp_codec.specs.declared.decode_fault.DecodeFault.{DecodeFault}
use Rattle.ldp_grammar.specs.declared.pdu.Pdu.{Pdu}
use Rattle.net_values.specs.Octets.{AreOctets}
use Rattle.ldp_grammar.proofs.OctetLemmas.{octets_take}
use Rattle.ldp_grammar.proofs.ReadingLemmas.{octets_behind}
use Rattle.ldp_grammar.proofs.WrittenOctets.{octets_append}
use Rattle.ldp_stream.specs.Front.{IsFrontFault, IsPending}
use Rattle.ldp_stream.specs.FrontOf.{More, Got, Bad, front_of}
use Rattle.ldp_stream.specs.State.{IsFaultOf, IsStreamRefused, Passes, StreamState, Waits, empty, place_behind}
use Rattle.ldp_stream.specs.declared.stream_fault.StreamFault.TheVariants as fault
use Rattle.ldp_stream.proofs.FrontOfLemmas.{front_is_read}
use Rattle.independent_mode.specs.Receiver.{IsReceiver, IsGot, IsReceiverRefused, IsReceiverWaiting, receiver_of}

pub empty_receiver : (s : StreamState) → s ≡ empty → IsReceiver s
empty_receiver s is = subst IsReceiver (sym is) (record { octets = λ at. grind (arith); max = refl })

pending_room : (held : List ℕ) → IsPending 4096 held → length held < 4100
pending_room held (inl few) = omega arith
pending_room held (inr (inl lacks)) = omega (arith, lacks.few)
pending_room held (inr (inr lacks)) = omega (arith, lacks.few, lacks.header.most)

-- ---- the next PDU

pub next_got : (old new : StreamState) (pdu : Pdu) → IsReceiver old → Passes old new pdu → IsGot old new pdu
next_got old new pdu receiver passes =
    let small : old.max ≤ 4096 = omega (arith, receiver.max) in
    let front : front_of 4096 old.held ≡ Got pdu new.held = subst (λ (n : ℕ). front_of n old.held ≡ Got pdu new.held) receiver.max
    (front_is_read.only old.max old.held (Got pdu new.held) receiver.octets small (record { piece = passes.piece; split = passes.split; spelled = passes.spelled })) in
    let size : length passes.piece ≡ length old.held - length new.held = omega (arith, ap length passes.split, length-append passes.piece new.held) in
    record {
      was = passes.going;
      front = front;
      base = ap (λ (s : StreamState). s.base) passes.is ∙ ap (place_behind old.base) size;
      going = ap (λ (s : StreamState). s.refused) passes.is;
      octets = receiver.octets;
      shorter = front_is_read.shorter 4096 old.held new.held pdu receiver.octets (omega arith) front;
    }

pub passed_receiver : (old new : StreamState) (pdu : Pdu) → IsReceiver old → Passes old new pdu → IsReceiver new
passed_receiver old new pdu receiver passes = record {
  octets = octets_behind passes.piece new.held (subst AreOctets passes.split receiver.octets);
  max = ap (λ (s : StreamState). s.max) passes.is ∙ receiver.max;
}

pub next_waits : (old new : StreamState) → IsReceiver old → Waits old new → IsReceiverWaiting new × (new ≡ old)
next_waits old new receiver waits = (subst IsReceiverWaiting (sym waits.unchanged) here, waits.unchanged)
  where
    pending : IsPending 4096 old.held
    pending = subst (λ (n : ℕ). IsPending n old.held) receiver.max waits.pending

    here : IsReceiverWaiting old
    here = record { front = front_is_read.only 4096 old.held More receiver.octets (omega arith) pending; going = waits.going; octets = receiver.octets; room = pending_room old.held pending }

pub waited_receiver : (old new : StreamState) → IsReceiver old → Waits old new → IsReceiver new
waited_receiver old new receiver waits = subst IsReceiver (sym waits.unchanged) receiver

-- ---- a fault

pub next_refused : (old new : StreamState) (base : ℕ) (refusal : DecodeFault) → IsReceiver old → IsStreamRefused old new base refusal → IsReceiverRefused old new (fault.Refused base refusal)
next_refused old new base refusal receiver refused = record {
  wrong = refused.fault;
  cause = cause refused.stands;
  is = rw (refused.names, refused.place) refl;
  receiver = ap receiver_of refused.is;
  octets = receiver.octets;
}
  where
    cause : IsFaultOf old refused.fault → (old.refused ≡ Some refused.fault) ⊎ ((old.refused ≡ None) × (front_of 4096 old.held ≡ Bad refused.fault))
    cause (inl before) = inl before
    cause (inr here) = inr (here.0, front_is_read.only 4096 old.held (Bad refused.fault) receiver.octets (omega arith) (subst (λ (n : ℕ). IsFrontFault n old.held refused.fault) receiver.max here.1))

pub refused_receiver : (old new : StreamState) (base : ℕ) (refusal : DecodeFault) → IsReceiver old → IsStreamRefused old new base refusal → IsReceiver new
refused_receiver old new base refusal receiver refused = record {
  octets = subst AreOctets (sym (ap (λ (s : StreamState). s.held) refused.is)) receiver.octets;
  max = ap (λ (s : StreamState). s.max) refused.is ∙ receiver.max;
}

-- ---- more octets

pub fed_receiver : (old new : StreamState) (piece : List ℕ) (count : ℕ) → IsReceiver old → AreOctets piece → new ≡ record old { held = old.held ++ take count piece } → IsReceiver new
fed_receiver old new piece count receiver octets is =
    subst IsReceiver (sym is) (record { octets = octets_append old.held (take count piece) receiver.octets (octets_take count piece octets); max = receiver.max })
