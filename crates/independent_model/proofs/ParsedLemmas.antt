-- The octets that a call hears are PDUs with an ending, and it refuses them exactly where that is a fault.
use Rattle.std.proofs.Common.{◌≡◌, ◌<◌, ◌+◌, ◌-◌, ◌^◌, ◌==◌, ◌++◌, ◌∙◌, ℕ, zero, suc, Bool, true, false, List, [], ◌∷◌, Option, Some, None, length, slice_get, if◌then◌else◌, refl, sym, ap, subst, arith, append-nil, length-append}
use Rattle.net_base.specs.declared.outside.link_call.LinkCall.{LinkCall}
use Rattle.net_base.specs.declared.plan.Plan.{Plan}
use Rattle.net_base.specs.declared.plan.places.EdgeId.{EdgeId}
use Rattle.net_base.specs.declared.plan.wire_plan.WirePlan.{WirePlan}
use Rattle.net_values.specs.Octets.{AreOctets}
use Rattle.pw_tlvs.specs.declared.pw_fec.PwFec.{PwFec}
use Rattle.pw_tlvs.specs.declared.pw_status.PwStatus.{PwStatus}
use Rattle.ldp_grammar.specs.declared.message.Message.{Message}
use Rattle.ldp_grammar.specs.declared.message.Message.TheVariants.{Notification}
use Rattle.ldp_grammar.specs.declared.pdu.Pdu.{Pdu}
use Rattle.ldp_stream.specs.Front.{HasFront}
use Rattle.ldp_stream.specs.FrontOf.{Front, More, Got, Bad, front_of, StandsInFront}
use Rattle.ldp_stream.specs.Parsed.{Pending, Refused, IsParsedFrom}
use Rattle.ldp_stream.specs.State.{place_behind}
use Rattle.ldp_stream.proofs.FrontOfLemmas.{front_is_read}
use Rattle.ldp_stream.proofs.ParsedLemmas.{one_parsing}
use Rattle.ldp_stream.proofs.StreamLemmas.{within_places}
use Rattle.pw_messages.specs.Content.{pw_status_code}
use Rattle.pw_messages.specs.LinkAnswers.{Answers}
use Rattle.status_exchange.specs.Wish.{is_status_told}
use Rattle.independent_model.specs.declared.indep_stop.IndepStop.TheVariants as stop
use Rattle.independent_model.specs.Hear.{independent_hears_few, independent_hears_front, independent_hears_message, independent_hears_messages, hears_notice, hears_of, independent_hears_status, learns}
use Rattle.independent_model.specs.State.{ConnectionState, Stopped, IndepState, with_receiver}
use Rattle.independent_model.specs.Tell.{octets_on, independent_puts, tells, independent_tells_by, tells_in}
use Rattle.independent_model.specs.Wires.{wire_named}
use Rattle.independent_model.specs.Work.{Goes, IndepOutcome, Stops, and_works}
use Rattle.independent_model.specs.Stops.{HearsParsed, ParsesAs}

-- ---- what is told refuses nothing

abbrev NoneRefused : IndepOutcome → Type 0
NoneRefused (Goes e c) = Unit {0}
NoneRefused (Stops stop.Link e c) = Unit {0}
NoneRefused (Stops (stop.Refused f) e c) = ⊥
NoneRefused (Stops stop.NoMemory e c) = ⊥

then_none : (o : IndepOutcome) (f : IndepState → List LinkCall → IndepOutcome) → NoneRefused o → ((e : IndepState) (c : List LinkCall) → NoneRefused (f e c)) → NoneRefused (and_works o f)
then_none (Goes e c) f is more = more e c
then_none (Stops why e c) f is more = is

module _ (plan : Plan) (told : Answers) (me : ℕ) (peer : EdgeId) where
  puts_none : (kept : ConnectionState) (octets : List ℕ) (b : Bool) (e : IndepState) (c : List LinkCall) → NoneRefused (independent_puts peer kept octets b e c)
  puts_none kept octets true e c = tt
  puts_none kept octets false e c = tt

  tells_none : (k : ℕ) (e : IndepState) (c : List LinkCall) → NoneRefused (tells plan told me peer k e c)
  tells_none k e c = by_row (slice_get plan.wires k)
    where
      by_peer : (row : WirePlan) (o : Option ConnectionState) → NoneRefused (independent_tells_by plan told me peer k row o e c)
      by_peer row None = tt
      by_peer row (Some kept) = puts_none kept (octets_on plan me row (e.local k) kept.next_id) (told (length c)) e c

      by_row : (o : Option WirePlan) → NoneRefused (tells_in plan told me peer k o e c)
      by_row None = tt
      by_row (Some row) = by_peer row (e.connection peer.0)

  status_none : (k : ℕ) (s : PwStatus) (e : IndepState) (c : List LinkCall) → NoneRefused (independent_hears_status plan told me peer k s e c)
  status_none k s e c = by (is_status_told s (e.local k))
    where
      by : (b : Bool) → NoneRefused (if b then tells plan told me peer k (learns k s e) c else Goes (learns k s e) c)
      by true = tells_none k (learns k s e) c
      by false = tt

  of_none : (s : PwStatus) (o : Option ℕ) (e : IndepState) (c : List LinkCall) → NoneRefused (hears_of plan told me peer s o e c)
  of_none s None e c = tt
  of_none s (Some k) e c = status_none k s e c

  notice_none : (code : ℕ) (s : Option PwStatus) (fec : Option PwFec) (e : IndepState) (c : List LinkCall) → NoneRefused (hears_notice plan told me peer code s fec e c)
  notice_none code None fec e c = tt
  notice_none code (Some s) None e c = tt
  notice_none code (Some s) (Some fec) e c = by (code == pw_status_code)
    where
      by : (b : Bool) → NoneRefused (if b then hears_of plan told me peer s (wire_named plan me peer.0 fec.pw_id) e c else Goes e c)
      by true = of_none s (wire_named plan me peer.0 fec.pw_id) e c
      by false = tt

  message_none : (m : Message) (e : IndepState) (c : List LinkCall) → NoneRefused (independent_hears_message plan told me peer m e c)
  message_none (Notification id code s fec) e c = notice_none code.code s fec e c
  message_none m e c = tt

  messages_none : (ms : List Message) (e : IndepState) (c : List LinkCall) → NoneRefused (independent_hears_messages plan told me peer ms e c)
  messages_none [] e c = tt
  messages_none (m ∷ ms) e c = then_none (independent_hears_message plan told me peer m e c) (λ e c. independent_hears_messages plan told me peer ms e c) (message_none m e c) (λ e c. messages_none ms e c)

  -- ---- one PDU after another

  pdu_first : (base at : ℕ) (octets rest : List ℕ) (pdu : Pdu) (o : IndepOutcome) → HasFront 4096 octets pdu rest → at ≡ base + (length octets - length rest) → ParsesAs at rest o → ParsesAs base octets o
  pdu_first base at octets rest pdu (Goes e c) front place is = record {
    pdus = record { base = base; pdu = pdu } ∷ is.pdus;
    at = is.at;
    rest = is.rest;
    parsed = subst (λ (l : List ℕ). IsParsedFrom base 4096 l (record { base = base; pdu = pdu } ∷ is.pdus) (Pending is.at is.rest)) (sym front.split)
        (one_parsing.steps base 4096 front.piece rest pdu is.pdus (Pending is.at is.rest) front.spelled
        (subst (λ (n : ℕ). IsParsedFrom n 4096 rest is.pdus (Pending is.at is.rest)) (place ∙ omega (arith, ap length front.split, length-append front.piece rest)) is.parsed));
  }
  pdu_first base at octets rest pdu (Stops stop.Link e c) front place is = tt
  pdu_first base at octets rest pdu (Stops (stop.Refused answer) e c) front place is = record {
    pdus = record { base = base; pdu = pdu } ∷ is.pdus;
    at = is.at;
    wrong = is.wrong;
    parsed = subst (λ (l : List ℕ). IsParsedFrom base 4096 l (record { base = base; pdu = pdu } ∷ is.pdus) (Refused is.at is.wrong)) (sym front.split)
        (one_parsing.steps base 4096 front.piece rest pdu is.pdus (Refused is.at is.wrong) front.spelled
        (subst (λ (n : ℕ). IsParsedFrom n 4096 rest is.pdus (Refused is.at is.wrong)) (place ∙ omega (arith, ap length front.split, length-append front.piece rest)) is.parsed));
    is = is.is;
  }
  pdu_first base at octets rest pdu (Stops stop.NoMemory e c) front place is = is

  then_parses : (base : ℕ) (octets : List ℕ) (o : IndepOutcome) (f : IndepState → List LinkCall → IndepOutcome) → NoneRefused o
      → ((e : IndepState) (c : List LinkCall) → ParsesAs base octets (f e c)) → ParsesAs base octets (and_works o f)
  then_parses base octets (Goes e c) f none more = more e c
  then_parses base octets (Stops stop.Link e c) f none more = tt
  then_parses base octets (Stops (stop.Refused answer) e c) f none more = absurd none
  then_parses base octets (Stops stop.NoMemory e c) f none more = none

  few_parse : (n base : ℕ) (octets : List ℕ) (e : IndepState) (c : List LinkCall) → AreOctets octets → length octets < n → base + length octets < 2 ^ 64
      → ParsesAs base octets (independent_hears_few plan told me peer n base octets e c)
  few_parse zero base octets e c are few places = absurd (omega (arith, few))
  few_parse (suc n) base octets e c are few places = by (front_of 4096 octets) refl (λ b r e c a l p. few_parse n b r e c a l p)
    where
      by : (front : Front) → front_of 4096 octets ≡ front
          → ((b : ℕ) (r : List ℕ) (e : IndepState) (c : List LinkCall) → AreOctets r → length r < n → b + length r < 2 ^ 64 → ParsesAs b r (independent_hears_few plan told me peer n b r e c))
          → ParsesAs base octets (independent_hears_front plan told me peer (independent_hears_few plan told me peer n) base octets front e c)
      by More is again = record {
        pdus = [];
        at = base;
        rest = octets;
        parsed = one_parsing.waits base 4096 octets (subst (StandsInFront 4096 octets) is (front_is_read.stands 4096 octets are (omega arith)));
      }
      by (Bad wrong) is again = record {
        pdus = [];
        at = base;
        wrong = wrong;
        parsed = subst (λ (l : List ℕ). IsParsedFrom base 4096 l [] (Refused base wrong)) (append-nil octets)
            (one_parsing.faulty base 4096 octets [] wrong (subst (StandsInFront 4096 octets) is (front_is_read.stands 4096 octets are (omega arith))));
        is = refl;
      }
      by (Got pdu rest) is again =
          let front : HasFront 4096 octets pdu rest = subst (StandsInFront 4096 octets) is (front_is_read.stands 4096 octets are (omega arith)) in
          let less : length rest < length octets = front_is_read.shorter 4096 octets rest pdu are (omega arith) is in
          let behind : AreOctets rest = front_is_read.behind 4096 octets rest pdu are (omega arith) is in
          let place : place_behind base (length octets - length rest) ≡ base + (length octets - length rest) = within_places base (length octets - length rest) (omega (arith, places, less)) in
          let at = place_behind base (length octets - length rest) in
          then_parses base octets (independent_hears_messages plan told me peer pdu.messages e c) (λ e c. independent_hears_few plan told me peer n at rest e c) (messages_none pdu.messages e c)
          (λ e c. pdu_first base at octets rest pdu (independent_hears_few plan told me peer n at rest e c) front place (again at rest e c behind (omega (arith, less, few)) (omega (arith, places, less, place))))

pub hears_parsed : HearsParsed
hears_parsed plan told me peer base held octets e c are places =
    few_parse plan told me peer (suc (length (held ++ octets))) base (held ++ octets) (with_receiver peer.0 Stopped e) c are (omega arith) places
