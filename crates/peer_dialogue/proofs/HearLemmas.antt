-- An edge hears octets in pieces, one PDU after another.
use Rattle.std.proofs.Common.{◌≡◌, ◌<◌, ◌≤◌, ◌+◌, ◌++◌, ◌∙◌, ℕ, zero, suc, List, [], ◌∷◌, Option, Some, None, length, take, drop, slice_index_or, refl, ap, sym, subst, inl, inr, arith, append_assoc, length-append}
use Rattle.std.proofs.lemmas.List.{append-nil, take-append-drop}
use Rattle.net_base.specs.declared.plan.Plan.{Plan}
use Rattle.net_base.specs.declared.plan.places.EdgeId.{EdgeId}
use Rattle.ldp_codec.specs.Decoded.{refusal_of}
use Rattle.ldp_codec.specs.declared.decode_fault.DecodeFault.{DecodeFault}
use Rattle.ldp_grammar.specs.declared.fault.Fault.{Fault}
use Rattle.ldp_grammar.specs.declared.message.Message.{Message}
use Rattle.ldp_grammar.specs.declared.pdu.Pdu.{Pdu}
use Rattle.net_values.specs.Octets.{AreOctets}
use Rattle.ldp_grammar.proofs.OctetLemmas.{octets_take}
use Rattle.ldp_grammar.proofs.ReadingLemmas.{octets_behind}
use Rattle.ldp_grammar.proofs.WrittenOctets.{octets_append}
use Rattle.ldp_stream.specs.Front.{HasFront, IsFrontFault, IsPending}
use Rattle.ldp_stream.specs.FrontOf.{Front, More, Got, Bad, front_of}
use Rattle.ldp_stream.specs.State.{Passes, StreamState, Waits, IsStreamRefused, IsFaultOf, empty}
use Rattle.ldp_stream.proofs.FrontOfLemmas.{front_is_read}
use Rattle.session_core.specs.Table.{Refused}
use Rattle.pw_messages.specs.LinkAnswers.{Answers}
use Rattle.edge_model.specs.Hear.{hears, hears_few, hears_front, hears_message, hears_messages, hears_pdu, hears_within}
use Rattle.edge_model.specs.Session.{happens_with_ends}
use Rattle.edge_model.specs.State.{Peering, with_peering}
use Rattle.edge_model.specs.Work.{Work, changes}
use Rattle.peer_dialogue.specs.Hearing.{HearsOn, IsAtFault, IsAtPdu, IsReady, IsWaiting, Within}
use Rattle.peer_dialogue.proofs.HeardLemmas.{spelled_heard}

-- ---- messages in order

pub messages_more : (plan : Plan) (told : Answers) (peer : EdgeId) (messages : List Message) (place : ℕ) (message : Message) (work : Work) → place < length messages → message
    ≡ slice_index_or messages place message
    → hears_messages plan told peer (drop place messages) work ≡ hears_messages plan told peer (drop (place + 1) messages) (hears_message plan told peer message work)
messages_more plan told peer [] place message work within at = absurd (omega arith)
messages_more plan told peer (x ∷ messages) zero message work within at = ap (λ (m : Message). hears_messages plan told peer messages (hears_message plan told peer m work)) (sym at)
messages_more plan told peer (x ∷ messages) (suc place) message work within at =
    let behind : suc place + 1 ≡ suc (place + 1) = omega arith in
    rw behind (messages_more plan told peer messages place message work (omega arith) at)

pub messages_end : (plan : Plan) (told : Answers) (peer : EdgeId) (messages : List Message) (place : ℕ) (work : Work) → length messages ≤ place
    → hears_messages plan told peer (drop place messages) work ≡ work
messages_end plan told peer [] zero work past = refl
messages_end plan told peer [] (suc place) work past = refl
messages_end plan told peer (x ∷ messages) zero work past = absurd (omega arith)
messages_end plan told peer (x ∷ messages) (suc place) work past = messages_end plan told peer messages place work (omega arith)

-- ---- what stands in front

pub pending_room : (max : ℕ) (held : List ℕ) → max ≤ 4096 → IsPending max held → length held < 4100
pending_room max held small (inl few) = omega arith
pending_room max held small (inr (inl lacks)) = omega (arith, lacks.few)
pending_room max held small (inr (inr lacks)) = omega (arith, lacks.few, lacks.header.most)

pub waiting_none : (max : ℕ) → max ≤ 4096 → IsWaiting max []
waiting_none max small = record { octets = λ at. grind (arith); most = small; pending = inl (omega arith); room = omega arith }

pub waiting : (max set : ℕ) (first old new : StreamState) → max ≤ 4096 → set ≡ max → old ≡ record first { max = set } → IsReady first → Waits old new → IsWaiting max new.held × (new.held ≡ first.held)
waiting max set first old new small same is ready made =
    let waits : Waits (record first { max = max }) new = subst (λ (s : StreamState). Waits s new) (is ∙ ap (λ (n : ℕ). record first { max = n }) same) made in (
      subst (λ (s : StreamState). IsWaiting max s.held) (sym waits.unchanged)
          (record { octets = ready.octets; most = small; pending = waits.pending; room = pending_room max first.held small waits.pending }),
      ap (λ (s : StreamState). s.held) waits.unchanged,
    )

pub at_pdu : (max set : ℕ) (first old new : StreamState) (pdu : Pdu) → max ≤ 4096 → set ≡ max → old ≡ record first { max = set } → IsReady first → Passes old new pdu
    → IsAtPdu max first.held new.held pdu
at_pdu max set first old new pdu small same is ready made =
    let passes : Passes (record first { max = max }) new pdu = subst (λ (s : StreamState). Passes s new pdu) (is ∙ ap (λ (n : ℕ). record first { max = n }) same) made in
    let front : HasFront max first.held pdu new.held = record { piece = passes.piece; split = passes.split; spelled = passes.spelled } in
    record {
      front = front;
      shorter = front_is_read.shorter max first.held new.held pdu ready.octets small (front_is_read.only max first.held (Got pdu new.held) ready.octets small front);
      heard = spelled_heard passes.spelled.spellings pdu.messages passes.spelled.stand;
    }

pub passed_ready : (set : ℕ) (first old new : StreamState) (pdu : Pdu) → old ≡ record first { max = set } → IsReady first → Passes old new pdu → IsReady new
passed_ready set first old new pdu is ready made =
    let passes : Passes (record first { max = set }) new pdu = subst (λ (s : StreamState). Passes s new pdu) is made in
    record { octets = octets_behind passes.piece new.held (subst AreOctets passes.split ready.octets); going = ap (λ (s : StreamState). s.refused) passes.is }

pub at_fault : (max set : ℕ) (first old new : StreamState) (base : ℕ) (refusal : DecodeFault) → set ≡ max → old ≡ record first { max = set } → IsReady first
    → IsStreamRefused old new base refusal → IsAtFault max first.held refusal
at_fault max set first old new base refusal same is ready made =
    let refused : IsStreamRefused (record first { max = max }) new base refusal =
    subst (λ (s : StreamState). IsStreamRefused s new base refusal) (is ∙ ap (λ (n : ℕ). record first { max = n }) same) made in
    record { fault = refused.fault; front = stands refused.fault refused.stands; names = refused.names }
  where
    stands : (fault : Fault) → IsFaultOf (record first { max = max }) fault → IsFrontFault max first.held fault
    stands fault (inl before) = absurd (cc (sym ready.going ∙ before))
    stands fault (inr here) = here.1

-- ---- octets

front_got : (max : ℕ) (held rest more : List ℕ) (pdu : Pdu) → AreOctets held → AreOctets more → max ≤ 4096 → HasFront max held pdu rest → front_of max (held ++ more) ≡ Got pdu (rest ++ more)
front_got max held rest more pdu octets others small front =
    front_is_read.only max (held ++ more) (Got pdu (rest ++ more)) (octets_append held more octets others) small
    (record { piece = front.piece; split = ap (λ (l : List ℕ). l ++ more) front.split ∙ append_assoc front.piece rest more; spelled = front.spelled })

front_bad : (max : ℕ) (held more : List ℕ) (fault : Fault) → AreOctets held → AreOctets more → max ≤ 4096 → IsFrontFault max held fault → front_of max (held ++ more) ≡ Bad fault
front_bad max held more fault octets others small front =
    front_is_read.bad_more max held more fault (octets_append held more octets others) small (front_is_read.only max held (Bad fault) octets small front)

front_more : (max : ℕ) (held : List ℕ) → AreOctets held → max ≤ 4096 → IsPending max held → front_of max held ≡ More
front_more max held octets small pending = front_is_read.only max held More octets small pending

few_at : (plan : Plan) (told : Answers) (peer : EdgeId) (n : ℕ) (octets : List ℕ) (kept : Peering) (front : Front) (work : Work)
    → work.edge.peering peer.0 ≡ Some kept → front_of kept.session.max_pdu octets ≡ front
    → hears_few plan told peer (suc n) octets work ≡ hears_front plan told peer (hears_few plan told peer n) kept octets front work
few_at plan told peer n octets kept front work there is =
    ap (λ (x : Option Peering). hears_within plan told peer (hears_few plan told peer n) octets x work) there
    ∙ ap (λ (f : Front). hears_front plan told peer (hears_few plan told peer n) kept octets f work) is

few_none : (plan : Plan) (told : Answers) (peer : EdgeId) (n : ℕ) (octets : List ℕ) (work : Work) → work.edge.peering peer.0 ≡ None → hears_few plan told peer (suc n) octets work ≡ work
few_none plan told peer n octets work none = ap (λ (x : Option Peering). hears_within plan told peer (hears_few plan told peer n) octets x work) none

-- one PDU was heard
pub heard_pdu : (plan : Plan) (told : Answers) (peer : EdgeId) (held rest more : List ℕ) (pdu : Pdu) (kept : Peering) (work now : Work)
    → AreOctets held → AreOctets more → kept.session.max_pdu ≤ 4096 → work.edge.peering peer.0 ≡ Some kept → HasFront kept.session.max_pdu held pdu rest → length rest < length held
    → now ≡ hears_pdu plan told peer pdu work
    → HearsOn plan told peer (held ++ more) (rest ++ more) work now
heard_pdu plan told peer held rest more pdu kept work now octets others small there front less is = record { on = on } where
  long : length (rest ++ more) < length (held ++ more)
  long = omega (arith, length-append rest more, length-append held more, less)

  on : (n : ℕ) → length (held ++ more) ≤ n → Within plan told peer (rest ++ more) now (hears_few plan told peer (suc n) (held ++ more) work)
  on zero within = absurd (omega (arith, long))
  on (suc n) within = record {
    fuel = n;
    enough = omega (arith, long, within);
    is = few_at plan told peer (suc n) (held ++ more) kept (Got pdu (rest ++ more)) work there (front_got kept.session.max_pdu held rest more pdu octets others small front)
        ∙ ap (hears_few plan told peer (suc n) (rest ++ more)) (sym is);
  }

-- there is a fault in front, which ends the session
pub heard_fault : (plan : Plan) (told : Answers) (peer : EdgeId) (held rest more : List ℕ) (fault : Fault) (refusal : DecodeFault) (kept : Peering) (work now : Work)
    → AreOctets held → AreOctets more → kept.session.max_pdu ≤ 4096 → work.edge.peering peer.0 ≡ Some kept → IsFrontFault kept.session.max_pdu held fault → refusal ≡ refusal_of fault
    → now ≡ happens_with_ends told peer (Refused refusal) work → now.edge.peering peer.0 ≡ None
    → HearsOn plan told peer (held ++ more) rest work now
heard_fault plan told peer held rest more fault refusal kept work now octets others small there front names is gone = record {
  on = λ n within. record {
    fuel = length rest;
    enough = omega arith;
    is = few_at plan told peer n (held ++ more) kept (Bad fault) work there (front_bad kept.session.max_pdu held more fault octets others small front)
        ∙ (ap (λ (r : DecodeFault). happens_with_ends told peer (Refused r) work) (sym names)
        ∙ (sym is ∙ sym (few_none plan told peer (length rest) rest now gone)));
  };
}

pub on_both : (plan : Plan) (told : Answers) (peer : EdgeId) (a b c : List ℕ) (u v w : Work) → HearsOn plan told peer a b u v → HearsOn plan told peer b c v w → HearsOn plan told peer a c u w
on_both plan told peer a b c u v w first next = record {
  on = λ n within.
      let one = first.on n within in
      let two = next.on one.fuel one.enough in
      record { fuel = two.fuel; enough = two.enough; is = one.is ∙ two.is };
}

pub on_same : (plan : Plan) (told : Answers) (peer : EdgeId) (a b c : List ℕ) (u v : Work) → b ≡ c → HearsOn plan told peer a b u v → HearsOn plan told peer a c u v
on_same plan told peer a b c u v same on = subst (λ (l : List ℕ). HearsOn plan told peer a l u v) same on

-- all was heard, and the session ended
pub ended_all : (plan : Plan) (told : Answers) (peer : EdgeId) (octets rest : List ℕ) (work now : Work) → now.edge.peering peer.0 ≡ None → HearsOn plan told peer octets rest work now
    → now ≡ hears plan told peer octets work
ended_all plan told peer octets rest work now none on =
    let here = on.on (length octets) (omega arith) in
    sym (here.is ∙ few_none plan told peer here.fuel rest now none)

-- all was heard, and what is left is held
pub held_all : (plan : Plan) (told : Answers) (peer : EdgeId) (octets rest : List ℕ) (work now : Work) (kept : Peering) → now.edge.peering peer.0 ≡ Some kept
    → IsWaiting kept.session.max_pdu rest → HearsOn plan told peer octets (rest ++ []) work now
    → changes (with_peering peer (Some (record kept { held = rest }))) now ≡ hears plan told peer octets work
held_all plan told peer octets rest work now kept there waits on =
    let here = (on_same plan told peer octets (rest ++ []) rest work now (append-nil rest) on).on (length octets) (omega arith) in
    sym (here.is ∙ few_at plan told peer here.fuel rest kept More now there (front_more kept.session.max_pdu rest waits.octets waits.most waits.pending))

-- a piece is fed
pub fed_same : (held rest : List ℕ) (count : ℕ) → held ++ rest ≡ (held ++ take count rest) ++ drop count rest
fed_same held rest count = ap (λ (l : List ℕ). held ++ l) (sym (take-append-drop count rest)) ∙ sym (append_assoc held (take count rest) (drop count rest))

pub drop_both : (count at : ℕ) (octets : List ℕ) → drop count (drop at octets) ≡ drop (at + count) octets
drop_both count zero octets = let same : 0 + count ≡ count = omega arith in rw same refl
drop_both zero (suc at) [] = let same : suc at + 0 ≡ suc at = omega arith in rw same refl
drop_both (suc count) (suc at) [] = let same : suc at + suc count ≡ suc (at + suc count) = omega arith in rw same refl
drop_both count (suc at) (x ∷ octets) = let same : suc at + count ≡ suc (at + count) = omega arith in rw same (drop_both count at octets)

pub fed_ready : (old new : StreamState) (piece : List ℕ) (count : ℕ) → IsReady old → AreOctets piece → new ≡ record old { held = old.held ++ take count piece } → IsReady new
fed_ready old new piece count ready octets is =
    subst IsReady (sym is) (record { octets = octets_append old.held (take count piece) ready.octets (octets_take count piece octets); going = ready.going })

pub drop_end : (at : ℕ) (octets : List ℕ) → length octets ≤ at → drop at octets ≡ []
drop_end zero [] past = refl
drop_end (suc at) [] past = refl
drop_end zero (x ∷ octets) past = absurd (omega arith)
drop_end (suc at) (x ∷ octets) past = drop_end at octets (omega arith)

pub fed_on : (held new octets : List ℕ) (at count : ℕ) → new ≡ held ++ take count (drop at octets) → held ++ drop at octets ≡ new ++ drop (at + count) octets
fed_on held new octets at count is =
    fed_same held (drop at octets) count
    ∙ (ap (λ (l : List ℕ). l ++ drop count (drop at octets)) (sym is) ∙ ap (λ (l : List ℕ). new ++ l) (drop_both count at octets))

-- a stream that has just been opened
pub empty_ready : (s : StreamState) → s ≡ empty → IsReady s
empty_ready s is = subst IsReady (sym is) (record { octets = λ at. grind (arith); going = refl })
