-- Octets of a peer are heard.
use Rattle.std.proofs.Common.{◌≡◌, ◌<◌, ◌≤◌, ◌+◌, ◌-◌, ◌==◌, ◌&&◌, ◌||◌, ◌⊎◌, ◌++◌, ◌∙◌, ℕ, zero, suc, Bool, true, false, List, [], ◌∷◌, Option, Some, None, Result, Ok, Err, length, nat_lt, take, drop, slice_get, slice_index_or, option_map, if◌then◌else◌, refl, ap, sym, subst, arith, append_assoc, append-nil, length-append, inl, inr}
use Rattle.std.proofs.lemmas.Bool.{cases_Bool}
use Rattle.std.proofs.lemmas.Bool.Decides.{nat_tests}
use Rattle.std.proofs.lemmas.List.{take-append-drop}
use Rattle.std.proofs.lemmas.Option.{slice_get_within}
use Rattle.net_base.specs.declared.outside.link_call.LinkCall.{LinkCall}
use Rattle.net_base.specs.declared.plan.Plan.{Plan}
use Rattle.net_base.specs.declared.plan.places.EdgeId.{EdgeId}
use Rattle.net_base.specs.declared.plan.wire_plan.WirePlan.{WirePlan}
use Rattle.ldp_codec.specs.Decoded.{refusal_of}
use Rattle.ldp_grammar.specs.declared.fault.Fault.{Fault}
use Rattle.ldp_grammar.specs.declared.message.Message.{Message}
use Rattle.ldp_grammar.specs.declared.pdu.Pdu.{Pdu}
use Rattle.net_values.specs.Octets.{AreOctets}
use Rattle.ldp_grammar.proofs.WrittenOctets.{octets_append}
use Rattle.ldp_stream.specs.FrontOf.{Front, More, Got, Bad, front_of}
use Rattle.ldp_stream.specs.State.{StreamState, place_behind}
use Rattle.ldp_stream.specs.declared.stream_fault.StreamFault.{StreamFault}
use Rattle.ldp_stream.specs.declared.stream_fault.StreamFault.TheVariants as fault
use Rattle.ldp_stream.proofs.FrontOfLemmas.{front_is_read}
use Rattle.pw_messages.specs.LinkAnswers.{Answers}
use Rattle.independent_model.specs.declared.indep_stop.IndepStop.{IndepStop}
use Rattle.independent_model.specs.declared.indep_stop.IndepStop.TheVariants as stop
use Rattle.independent_mode.specs.Receiver.{HasReceiver, HasNoReceiver, IsGot, IsHearing, IsNext, IsReceiverRefused, IsTakenOut, IsReceiverWaiting, receiver_of, heard_by, kept_after}
use Rattle.independent_model.specs.Hear.{hears_all, hears_at, hears_by, independent_hears_few, independent_hears_front, independent_hears_message, independent_hears_messages}
use Rattle.independent_model.specs.Calls.{independent_hears, independent_hears_on}
use Rattle.independent_mode.specs.Heard.{HearsTo}
use Rattle.independent_model.specs.State.{ConnectionState, Stopped, Receiver, IndepState, Receiving, Broken, receiver_set, with_connection, with_receiver, with_remote, without_remotes}
use Rattle.independent_model.specs.Wires.{is_between, is_row_between}
use Rattle.independent_model.specs.Work.{Comes, Goes, NeverRefused, IndepOutcome, Stops, and_works}
use Rattle.independent_model.proofs.CommonLemmas.{then_same}

-- ---- messages in order

pub messages_more : (plan : Plan) (told : Answers) (me : ℕ) (peer : EdgeId) (messages : List Message) (place : ℕ) (message : Message) (edge : IndepState) (calls : List LinkCall)
    → place < length messages → message ≡ slice_index_or messages place message
    → independent_hears_messages plan told me peer (drop place messages) edge calls
    ≡ and_works (independent_hears_message plan told me peer message edge calls) (λ e c. independent_hears_messages plan told me peer (drop (place + 1) messages) e c)
messages_more plan told me peer [] place message edge calls within at = absurd (omega (arith, within))
messages_more plan told me peer (x ∷ messages) zero message edge calls within at =
    ap (λ (m : Message). and_works (independent_hears_message plan told me peer m edge calls) (λ e c. independent_hears_messages plan told me peer messages e c)) (sym at)
messages_more plan told me peer (x ∷ messages) (suc place) message edge calls within at =
    let behind : suc place + 1 ≡ suc (place + 1) = omega arith in
    rw behind (messages_more plan told me peer messages place message edge calls (omega (arith, within)) at)

pub messages_end : (plan : Plan) (told : Answers) (me : ℕ) (peer : EdgeId) (messages : List Message) (place : ℕ) (edge : IndepState) (calls : List LinkCall) → length messages ≤ place
    → independent_hears_messages plan told me peer (drop place messages) edge calls ≡ Goes edge calls
messages_end plan told me peer [] zero edge calls past = refl
messages_end plan told me peer [] (suc place) edge calls past = refl
messages_end plan told me peer (x ∷ messages) zero edge calls past = absurd (omega (arith, past))
messages_end plan told me peer (x ∷ messages) (suc place) edge calls past = messages_end plan told me peer messages place edge calls (omega (arith, past))

-- ---- octets

module _ (plan : Plan) (told : Answers) (me : ℕ) (peer : EdgeId) where
  few_at : (n base : ℕ) (held : List ℕ) (front : Front) (edge : IndepState) (calls : List LinkCall) → front_of 4096 held ≡ front
      → independent_hears_few plan told me peer (suc n) base held edge calls ≡ independent_hears_front plan told me peer (independent_hears_few plan told me peer n) base held front edge calls
  few_at n base held front edge calls is = ap (λ (f : Front). independent_hears_front plan told me peer (independent_hears_few plan told me peer n) base held f edge calls) is

  -- more turns than octets change nothing
  enough : (n m base : ℕ) (held : List ℕ) (edge : IndepState) (calls : List LinkCall) → AreOctets held → length held < n → length held < m
      → independent_hears_few plan told me peer n base held edge calls ≡ independent_hears_few plan told me peer m base held edge calls
  enough zero m base held edge calls octets few many = absurd (omega (arith, few))
  enough (suc n) zero base held edge calls octets few many = absurd (omega (arith, many))
  enough (suc n) (suc m) base held edge calls octets few many = by (λ b rest e c are one two. enough n m b rest e c are one two) (front_of 4096 held) refl
    where
      by : ((b : ℕ) (rest : List ℕ) (e : IndepState) (c : List LinkCall) → AreOctets rest → length rest < n → length rest < m → independent_hears_few plan told me peer n b rest e c
          ≡ independent_hears_few plan told me peer m b rest e c)
          → (front : Front) → front_of 4096 held ≡ front → independent_hears_few plan told me peer (suc n) base held edge calls ≡ independent_hears_few plan told me peer (suc m) base held edge calls
      by again More is = few_at n base held More edge calls is ∙ sym (few_at m base held More edge calls is)
      by again (Bad wrong) is = few_at n base held (Bad wrong) edge calls is ∙ sym (few_at m base held (Bad wrong) edge calls is)
      by again (Got pdu rest) is =
          let less : length rest < length held = front_is_read.shorter 4096 held rest pdu octets (omega arith) is in
          let behind : AreOctets rest = front_is_read.behind 4096 held rest pdu octets (omega arith) is in
          few_at n base held (Got pdu rest) edge calls is
          ∙ (then_same (independent_hears_messages plan told me peer pdu.messages edge calls)
          (λ e c. independent_hears_few plan told me peer n (place_behind base (length held - length rest)) rest e c)
          (λ e c. independent_hears_few plan told me peer m (place_behind base (length held - length rest)) rest e c)
          (λ e c. again (place_behind base (length held - length rest)) rest e c behind (omega (arith, less, few)) (omega (arith, less, many)))
          ∙ sym (few_at m base held (Got pdu rest) edge calls is))

  -- a PDU in front
  all_got : (base : ℕ) (held rest more : List ℕ) (pdu : Pdu) (edge : IndepState) (calls : List LinkCall) → AreOctets held → AreOctets more → front_of 4096 held ≡ Got pdu rest
      → hears_all plan told me peer base (held ++ more) edge calls
      ≡ and_works (independent_hears_messages plan told me peer pdu.messages edge calls) (λ e c. hears_all plan told me peer (place_behind base (length held - length rest)) (rest ++ more) e c)
  all_got base held rest more pdu edge calls octets others is =
      let all : AreOctets (held ++ more) = octets_append held more octets others in
      let front : front_of 4096 (held ++ more) ≡ Got pdu (rest ++ more) = front_is_read.got_more 4096 held more rest pdu all (omega arith) is in
      let less : length (rest ++ more) < length (held ++ more) = front_is_read.shorter 4096 (held ++ more) (rest ++ more) pdu all (omega arith) front in
      let behind : AreOctets (rest ++ more) = front_is_read.behind 4096 (held ++ more) (rest ++ more) pdu all (omega arith) front in
      let size : length (held ++ more) - length (rest ++ more) ≡ length held - length rest = omega (arith, length-append held more, length-append rest more) in
      few_at (length (held ++ more)) base (held ++ more) (Got pdu (rest ++ more)) edge calls front
      ∙ then_same (independent_hears_messages plan told me peer pdu.messages edge calls)
      (λ e c. independent_hears_few plan told me peer (length (held ++ more)) (place_behind base (length (held ++ more) - length (rest ++ more))) (rest ++ more) e c)
      (λ e c. hears_all plan told me peer (place_behind base (length held - length rest)) (rest ++ more) e c)
      (λ e c. ap (λ (n : ℕ). independent_hears_few plan told me peer (length (held ++ more)) (place_behind base n) (rest ++ more) e c) size
      ∙ enough (length (held ++ more)) (suc (length (rest ++ more))) (place_behind base (length held - length rest)) (rest ++ more) e c behind less (omega arith))

  going_is : (s : StreamState) → s.refused ≡ None → receiver_of s ≡ Receiving s.base s.held
  going_is s going = ap (λ (o : Option Fault). heard_by s.base s.held o) going

  shut_is : (s : StreamState) (wrong : Fault) → s.refused ≡ Some wrong → receiver_of s ≡ Broken s.base wrong
  shut_is s wrong is = ap (λ (o : Option Fault). heard_by s.base s.held o) is

  got_at : (old new : StreamState) (pdu : Pdu) (more : List ℕ) (edge : IndepState) (calls : List LinkCall) → IsGot old new pdu → AreOctets more
      → hears_at plan told me peer (receiver_of old) more edge calls
      ≡ and_works (independent_hears_messages plan told me peer pdu.messages edge calls) (λ e c. hears_at plan told me peer (receiver_of new) more e c)
  got_at old new pdu more edge calls got octets =
      ap (λ (receiver : Receiver). hears_at plan told me peer receiver more edge calls) (going_is old got.was)
      ∙ (all_got old.base old.held new.held more pdu edge calls got.octets octets got.front
      ∙ then_same (independent_hears_messages plan told me peer pdu.messages edge calls)
      (λ e c. hears_all plan told me peer (place_behind old.base (length old.held - length new.held)) (new.held ++ more) e c)
      (λ e c. hears_at plan told me peer (receiver_of new) more e c)
      (λ e c. ap (λ (n : ℕ). hears_all plan told me peer n (new.held ++ more) e c) (sym got.base)
      ∙ ap (λ (receiver : Receiver). hears_at plan told me peer receiver more e c) (sym (going_is new got.going))))

  -- one PDU was heard
  pub at_got : (old new : StreamState) (pdu : Pdu) (more : List ℕ) (whole : IndepOutcome) (edge next : IndepState) (calls after : List LinkCall) → IsGot old new pdu → AreOctets more
      → whole ≡ hears_at plan told me peer (receiver_of old) more edge calls → independent_hears_messages plan told me peer pdu.messages edge calls ≡ Goes next after
      → whole ≡ hears_at plan told me peer (receiver_of new) more next after
  at_got old new pdu more whole edge next calls after got octets was heard =
      was ∙ (got_at old new pdu more edge calls got octets ∙ ap (λ (o : IndepOutcome). and_works o (λ e c. hears_at plan told me peer (receiver_of new) more e c)) heard)

  -- more octets are wanted
  pub at_waits : (s : StreamState) (edge : IndepState) (calls : List LinkCall) → IsReceiverWaiting s → hears_at plan told me peer (receiver_of s) [] edge calls
      ≡ Goes (with_receiver peer.0 (receiver_of s) edge) calls
  at_waits s edge calls waits = ap (λ (receiver : Receiver). hears_at plan told me peer receiver [] edge calls) is
      ∙ (ap (λ (l : List ℕ). hears_all plan told me peer s.base l edge calls) (append-nil s.held)
      ∙ (few_at (length s.held) s.base s.held More edge calls waits.front ∙ ap (λ (receiver : Receiver). Goes (with_receiver peer.0 receiver edge) calls) (sym is)))
    where
      is : receiver_of s ≡ Receiving s.base s.held
      is = going_is s waits.going

  -- there is a fault in front
  pub at_refused : (old new : StreamState) (answer : StreamFault) (more : List ℕ) (edge : IndepState) (calls : List LinkCall) → IsReceiverRefused old new answer → AreOctets more
      → hears_at plan told me peer (receiver_of old) more edge calls ≡ Stops (stop.Refused answer) (with_receiver peer.0 (receiver_of new) edge) calls
  at_refused old new answer more edge calls refused octets = by refused.cause ∙ rw (refused.is, refused.receiver) refl
    where
      by : (old.refused ≡ Some refused.wrong) ⊎ ((old.refused ≡ None) × (front_of 4096 old.held ≡ Bad refused.wrong))
          → hears_at plan told me peer (receiver_of old) more edge calls
          ≡ Stops (stop.Refused (fault.Refused old.base (refusal_of refused.wrong))) (with_receiver peer.0 (Broken old.base refused.wrong) edge) calls
      by (inl before) = ap (λ (receiver : Receiver). hears_at plan told me peer receiver more edge calls) (shut_is old refused.wrong before)
      by (inr here) =
          let all : AreOctets (old.held ++ more) = octets_append old.held more refused.octets octets in
          ap (λ (receiver : Receiver). hears_at plan told me peer receiver more edge calls) (going_is old here.0)
          ∙ few_at (length (old.held ++ more)) old.base (old.held ++ more) (Bad refused.wrong) edge calls (front_is_read.bad_more 4096 old.held more refused.wrong all (omega arith) here.1)

  -- ---- a piece is fed

  pub drop_both : (count at : ℕ) (octets : List ℕ) → drop count (drop at octets) ≡ drop (at + count) octets
  drop_both count zero octets = let same : 0 + count ≡ count = omega arith in rw same refl
  drop_both zero (suc at) [] = let same : suc at + 0 ≡ suc at = omega arith in rw same refl
  drop_both (suc count) (suc at) [] = let same : suc at + suc count ≡ suc (at + suc count) = omega arith in rw same refl
  drop_both count (suc at) (x ∷ octets) = let same : suc at + count ≡ suc (at + count) = omega arith in rw same (drop_both count at octets)

  pub fed_at : (old new : StreamState) (octets : List ℕ) (at count : ℕ) (edge : IndepState) (calls : List LinkCall) → IsReceiverWaiting old → new
      ≡ record old { held = old.held ++ take count (drop at octets) }
      → hears_at plan told me peer (receiver_of old) (drop at octets) edge calls ≡ hears_at plan told me peer (receiver_of new) (drop (at + count) octets) edge calls
  fed_at old new octets at count edge calls waits is =
      ap (λ (receiver : Receiver). hears_at plan told me peer receiver (drop at octets) edge calls) (going_is old waits.going)
      ∙ (ap (λ (l : List ℕ). hears_all plan told me peer old.base l edge calls)
      (ap (λ (l : List ℕ). old.held ++ l) (sym (take-append-drop count (drop at octets))) ∙ (sym (append_assoc old.held (take count (drop at octets)) (drop count (drop at octets)))
      ∙ ap (λ (l : List ℕ). (old.held ++ take count (drop at octets)) ++ l) (drop_both count at octets)))
      ∙ ap (λ (receiver : Receiver). hears_at plan told me peer receiver (drop (at + count) octets) edge calls)
      (sym (ap receiver_of is ∙ going_is (record old { held = old.held ++ take count (drop at octets) }) waits.going)))

  pub drop_end : (octets : List ℕ) → drop (length octets) octets ≡ []
  drop_end [] = refl
  drop_end (x ∷ octets) = drop_end octets

  -- ---- what a call has answered

  -- a message of a PDU was not taken
  pub hears_stopped : (T U : Type 0) (why : IndepStop) (old new : StreamState) (pdu : Pdu) (more : List ℕ) (whole : IndepOutcome) (edge next : IndepState) (calls after : List LinkCall)
      → IsGot old new pdu → AreOctets more
      → whole ≡ hears_at plan told me peer (receiver_of old) more edge calls → NeverRefused {T = T} (Err why)
      → Comes {T = T} (Err why) next after (independent_hears_messages plan told me peer pdu.messages edge calls)
      → HearsTo {T = U} plan told me peer (Err why) new more next after whole
  hears_stopped T U stop.Link old new pdu more whole edge next calls after got octets was never comes =
      was ∙ (got_at old new pdu more edge calls got octets ∙ ap (λ (o : IndepOutcome). and_works o (λ e c. hears_at plan told me peer (receiver_of new) more e c)) comes)
  hears_stopped T U (stop.Refused answer) old new pdu more whole edge next calls after got octets was never comes = absurd never
  hears_stopped T U stop.NoMemory old new pdu more whole edge next calls after got octets was never comes = tt

  -- the octets were refused, or there was no memory for them
  pub next_stopped : (U : Type 0) (why : IndepStop) (old new : StreamState) (more : List ℕ) (whole : IndepOutcome) (edge : IndepState) (calls : List LinkCall)
      → IsNext old new (Err why) → AreOctets more
      → whole ≡ hears_at plan told me peer (receiver_of old) more edge calls → HearsTo {T = U} plan told me peer (Err why) new more edge calls whole
  next_stopped U stop.Link old new more whole edge calls next octets was = absurd next
  next_stopped U (stop.Refused answer) old new more whole edge calls next octets was = was ∙ at_refused old new answer more edge calls next octets
  next_stopped U stop.NoMemory old new more whole edge calls next octets was = tt

  -- nothing was left to hear
  pub all_heard : (s : StreamState) (octets : List ℕ) (at : ℕ) (whole : IndepOutcome) (edge : IndepState) (calls : List LinkCall) → IsReceiverWaiting s → at ≡ length octets → whole
      ≡ hears_at plan told me peer (receiver_of s) (drop at octets) edge calls
      → whole ≡ Goes (with_receiver peer.0 (receiver_of s) edge) calls
  all_heard s octets at whole edge calls waits end was =
      was ∙ (ap (λ (l : List ℕ). hears_at plan told me peer (receiver_of s) l edge calls) (ap (λ (n : ℕ). drop n octets) end ∙ drop_end octets) ∙ at_waits s edge calls waits)

  -- what a call on octets in parts has answered
  pub part_stopped : (T U : Type 0) (why : IndepStop) (s : StreamState) (more : List ℕ) (whole start : IndepOutcome) (edge : IndepState) (calls : List LinkCall) → start ≡ whole
      → HearsTo {T = T} plan told me peer (Err why) s more edge calls whole
      → Comes {T = U} (Err why) (kept_after {T = U} peer.0 s (Err why) edge) calls start
  part_stopped T U stop.Link s more whole start edge calls was to = was ∙ to
  part_stopped T U (stop.Refused answer) s more whole start edge calls was to = was ∙ to
  part_stopped T U stop.NoMemory s more whole start edge calls was to = tt

-- all that is held was heard
pub on_ok : {T : Type 0} (plan : Plan) (told : Answers) (me : ℕ) (peer : EdgeId) (r : Result T IndepStop) (done : T) (s : StreamState) (more : List ℕ) (edge : IndepState) (calls : List LinkCall) (whole : IndepOutcome) → r ≡ Ok done
    → HearsTo plan told me peer r s more edge calls whole → whole ≡ hears_at plan told me peer (receiver_of s) more edge calls
on_ok plan told me peer r done s more edge calls whole is to = subst (λ x. HearsTo plan told me peer x s more edge calls whole) is to

-- ---- by what the edge hears with

-- it hears nothing
pub hears_none : (plan : Plan) (told : Answers) (me : ℕ) (peer : EdgeId) (octets : List ℕ) (edge : IndepState) (calls : List LinkCall) → HasNoReceiver (edge.connection peer.0)
    → independent_hears plan told me peer octets edge calls ≡ Goes edge calls
hears_none plan told me peer octets edge calls none = by (edge.connection peer.0) none
  where
    by : (o : Option ConnectionState) → HasNoReceiver o → independent_hears_on plan told me peer octets o edge calls ≡ Goes edge calls
    by None none = refl
    by (Some kept) none = ap (λ (receiver : Receiver). hears_by plan told me peer octets receiver edge calls) none

-- it is put back as it was taken out
back : (peer : ℕ) (kept : ConnectionState) (receiver : Receiver) (edge : IndepState) → edge.connection peer ≡ Some kept → kept.receiver ≡ receiver
    → with_receiver peer receiver (with_receiver peer Stopped edge) ≡ edge
unfolding with_connection
back peer kept receiver edge is same = λ i. record edge { connection = λ k. by k (k == peer) refl i }
  where
    number : (k : ℕ) → (k == peer) ≡ true → k ≡ peer
    number k e = grind (arith, nat_tests)

    self : (peer == peer) ≡ true
    self = grind (arith, nat_tests)

    one : (if peer == peer then option_map (receiver_set Stopped) (edge.connection peer) else edge.connection peer) ≡ Some (receiver_set Stopped kept)
    one = rw (self, is) refl

    by : (k : ℕ) (b : Bool) → (k == peer) ≡ b
        → (if b then option_map (receiver_set receiver)
        (if peer == peer then option_map (receiver_set Stopped) (edge.connection peer) else edge.connection peer) else if b then option_map (receiver_set Stopped)
        (edge.connection peer) else edge.connection k) ≡ edge.connection k
    by k true e = rw one (ap (λ (x : Receiver). Some (receiver_set x kept)) (sym same) ∙ (sym is ∙ ap edge.connection (sym (number k e))))
    by k false e = refl

-- a stream that is heard on
pub hears_stream : (plan : Plan) (told : Answers) (me : ℕ) (peer : EdgeId) (octets : List ℕ) (s : StreamState) (edge : IndepState) (calls : List LinkCall)
    → HasReceiver (receiver_of s) (edge.connection peer.0)
    → independent_hears plan told me peer octets edge calls ≡ hears_at plan told me peer (receiver_of s) octets (with_receiver peer.0 Stopped edge) calls
hears_stream plan told me peer octets s edge calls has = by (edge.connection peer.0) refl has
  where
    same : (receiver : Receiver) (kept : ConnectionState) → edge.connection peer.0 ≡ Some kept → kept.receiver ≡ receiver → IsHearing receiver
        → hears_by plan told me peer octets receiver edge calls ≡ hears_at plan told me peer receiver octets (with_receiver peer.0 Stopped edge) calls
    same (Receiving base held) kept is at hearing = refl
    same (Broken base wrong) kept is at hearing = ap (λ (e : IndepState). Stops (stop.Refused (fault.Refused base (refusal_of wrong))) e calls) (sym (back peer.0 kept (Broken base wrong) edge is at))
    same Stopped kept is at hearing = absurd hearing

    hearing : (o : Option Fault) → IsHearing (heard_by s.base s.held o)
    hearing None = tt
    hearing (Some wrong) = tt

    by : (o : Option ConnectionState) → edge.connection peer.0 ≡ o → HasReceiver (receiver_of s) o → independent_hears_on plan told me peer octets o edge calls
        ≡ hears_at plan told me peer (receiver_of s) octets (with_receiver peer.0 Stopped edge) calls
    by None is none = absurd none
    by (Some kept) is at = ap (λ (receiver : Receiver). hears_by plan told me peer octets receiver edge calls) at ∙ same (receiver_of s) kept is at (hearing s.refused)

-- all of a call
pub heard_comes : {T : Type 0} (plan : Plan) (told : Answers) (me : ℕ) (peer : EdgeId) (octets : List ℕ) (s now : StreamState) (r : Result T IndepStop) (edge first next last : IndepState) (calls after : List LinkCall)
    → IsTakenOut peer.0 edge first (Some s) → Comes r (kept_after peer.0 now r next) after (hears_at plan told me peer (receiver_of s) octets first calls) → last ≡ kept_after peer.0 now r next
    → Comes r last after (independent_hears plan told me peer octets edge calls)
heard_comes {T = T} plan told me peer octets s now r edge first next last calls after out comes is =
    subst (λ (o : IndepOutcome). Comes r last after o) (sym (hears_stream plan told me peer octets s edge calls out.1))
    (subst (λ (e : IndepState). Comes r e after (hears_at plan told me peer (receiver_of s) octets (with_receiver peer.0 Stopped edge) calls)) (sym is)
    (subst (λ (e : IndepState). Comes r (kept_after peer.0 now r next) after (hears_at plan told me peer (receiver_of s) octets e calls)) out.0 comes))

-- ---- what is forgotten

pub forgets_none : (test : ℕ → Bool) (edge : IndepState) → edge ≡ without_remotes (λ wire. nat_lt wire 0 && test wire) edge
unfolding without_remotes
forgets_none test edge = λ i. record edge { remote = λ wire. by (nat_lt wire 0) (test wire) (edge.remote wire) (none wire) i }
  where
    none : (wire : ℕ) → nat_lt wire 0 ≡ false
    none wire = grind (arith, nat_tests)

    by : {A : Type 0} (a b : Bool) (x : Option A) → a ≡ false → x ≡ (if a && b then None else x)
    by true b x e = absurd (cc (e))
    by false b x e = refl

same_under : (p q : ℕ → Bool) (edge : IndepState) → ((wire : ℕ) → p wire ≡ q wire) → without_remotes p edge ≡ without_remotes q edge
unfolding without_remotes
same_under p q edge same = λ i. record edge { remote = λ wire. (ap (λ (b : Bool). if b then None else edge.remote wire) (same wire)) i }

more_under : (n : ℕ) (test : ℕ → Bool) (edge : IndepState) → with_remote n None (without_remotes (λ wire. nat_lt wire n && test wire) edge)
    ≡ without_remotes (λ wire. nat_lt wire n && test wire || wire == n) edge
unfolding without_remotes with_remote
more_under n test edge = λ i. record edge { remote = λ wire. by (nat_lt wire n && test wire) (wire == n) (edge.remote wire) i }
  where
    by : {A : Type 0} (a b : Bool) (x : Option A) → (if b then None else if a then None else x) ≡ (if a || b then None else x)
    by true true x = refl
    by true false x = refl
    by false true x = refl
    by false false x = refl

pub forgets_with : (n : ℕ) (test : ℕ → Bool) (edge now last : IndepState) → test n ≡ true → now ≡ without_remotes (λ wire. nat_lt wire n && test wire) edge → last ≡ with_remote n None now
    → last ≡ without_remotes (λ wire. nat_lt wire (n + 1) && test wire) edge
forgets_with n test edge now last is was put =
    put ∙ (ap (with_remote n None) was ∙ (more_under n test edge
    ∙ same_under (λ wire. nat_lt wire n && test wire || wire == n) (λ wire. nat_lt wire (n + 1) && test wire) edge (λ wire. by wire (wire == n) refl)))
  where
    same : (wire : ℕ) → (wire == n) ≡ true → wire ≡ n
    same wire e = grind (arith, nat_tests)

    by : (wire : ℕ) (b : Bool) → (wire == n) ≡ b → (nat_lt wire n && test wire || wire == n) ≡ (nat_lt wire (n + 1) && test wire)
    by wire true e = let at : test wire ≡ true = ap test (same wire e) ∙ is in grind (arith, nat_tests, at, e)
    by wire false e = grind (arith, nat_tests, e)

pub forgets_without : (n : ℕ) (test : ℕ → Bool) (edge now last : IndepState) → test n ≡ false → now ≡ without_remotes (λ wire. nat_lt wire n && test wire) edge → last ≡ now
    → last ≡ without_remotes (λ wire. nat_lt wire (n + 1) && test wire) edge
forgets_without n test edge now last is was put = put ∙ (was ∙ same_under (λ wire. nat_lt wire n && test wire) (λ wire. nat_lt wire (n + 1) && test wire) edge (λ wire. by wire (wire == n) refl))
  where
    same : (wire : ℕ) → (wire == n) ≡ true → wire ≡ n
    same wire e = grind (arith, nat_tests)

    by : (wire : ℕ) (b : Bool) → (wire == n) ≡ b → (nat_lt wire n && test wire) ≡ (nat_lt wire (n + 1) && test wire)
    by wire true e = let at : test wire ≡ false = ap test (same wire e) ∙ is in grind (arith, nat_tests, at, e)
    by wire false e = grind (arith, nat_tests, e)

pub forgets_step : (n : ℕ) (test : ℕ → Bool) (edge now last : IndepState) → now ≡ without_remotes (λ wire. nat_lt wire n && test wire) edge
    → (test n ≡ true → last ≡ with_remote n None now) → (test n ≡ false → last ≡ now)
    → last ≡ without_remotes (λ wire. nat_lt wire (n + 1) && test wire) edge
forgets_step n test edge now last was with_it without_it = elim (cases_Bool (test n)) [
  | inl is ↦ forgets_with n test edge now last is was (with_it is)
  | inr is ↦ forgets_without n test edge now last is was (without_it is)
]

-- past the last wire none joins two edges
past_last : (plan : Plan) (wire a b : ℕ) → length plan.wires ≤ wire → is_between plan wire a b ≡ false
unfolding is_between
past_last plan wire a b past = by (slice_get plan.wires wire) refl
  where
    by : (o : Option WirePlan) → slice_get plan.wires wire ≡ o → is_row_between o a b ≡ false
    by None is = refl
    by (Some row) is = absurd (omega (arith, past, slice_get_within plan.wires wire row is))

pub forgets_all : (plan : Plan) (me peer n : ℕ) (edge last : IndepState) → length plan.wires ≤ n → last ≡ without_remotes (λ wire. nat_lt wire n && is_between plan wire me peer) edge
    → last ≡ without_remotes (λ wire. is_between plan wire me peer) edge
forgets_all plan me peer n edge last past was = was
    ∙ same_under (λ wire. nat_lt wire n && is_between plan wire me peer) (λ wire. is_between plan wire me peer) edge (λ wire. by wire (nat_lt wire n) refl)
  where
    by : (wire : ℕ) (b : Bool) → nat_lt wire n ≡ b → (b && is_between plan wire me peer) ≡ is_between plan wire me peer
    by wire true e = refl
    by wire false e = sym (past_last plan wire me peer (grind (arith, nat_tests, e, past)))
