-- How a call of an edge ends.
use Rattle.std.proofs.Common.{◌≡◌, ◌<◌, ◌≤◌, ◌+◌, ◌-◌, ◌==◌, ◌++◌, ◌∙◌, ℕ, zero, suc, Bool, true, false, List, [], ◌∷◌, Option, Some, None, Result, Ok, Err, length, slice_get, slice_index_or, if◌then◌else◌, refl, ap, subst, arith, length-append, ⊎_elim}
use Rattle.std.proofs.lemmas.Bool.{cases_lt}
use Rattle.net_base.specs.declared.outside.link_call.LinkCall.{LinkCall}
use Rattle.net_base.specs.declared.plan.Plan.{Plan}
use Rattle.net_base.specs.declared.plan.places.EdgeId.{EdgeId}
use Rattle.net_base.specs.declared.plan.wire_plan.WirePlan.{WirePlan}
use Rattle.net_base.specs.outside.Link.{call_of}
use Rattle.pw_tlvs.specs.declared.pw_fec.PwFec.{PwFec}
use Rattle.pw_tlvs.specs.declared.pw_status.PwStatus.{PwStatus}
use Rattle.ldp_grammar.specs.declared.message.Message.{Message}
use Rattle.ldp_grammar.specs.declared.message.Message.TheVariants.{Notification}
use Rattle.ldp_stream.specs.FrontOf.{Front, More, Got, Bad, front_of}
use Rattle.ldp_stream.specs.State.{place_behind}
use Rattle.pw_messages.specs.Content.{pw_status_code}
use Rattle.pw_messages.specs.LinkAnswers.{Agrees, Answers}
use Rattle.status_exchange.specs.declared.wish.Wish.{Wish}
use Rattle.status_exchange.specs.Wish.{is_same_wish, is_status_told}
use Rattle.independent_model.specs.declared.indep_stop.IndepStop.{IndepStop}
use Rattle.independent_model.specs.declared.indep_stop.IndepStop.TheVariants as stop
use Rattle.independent_model.specs.Calls.{independent_hears, independent_hears_on, sets, tells_other}
use Rattle.independent_model.specs.Hear.{hears_at, hears_by, independent_hears_few, independent_hears_front, independent_hears_message, independent_hears_messages, hears_notice, hears_of, independent_hears_status, learns}
use Rattle.independent_model.specs.State.{ConnectionState, Stopped, Receiver, IndepState, Receiving, Broken, fresh_connection, with_connection, with_receiver, with_local}
use Rattle.independent_model.specs.Tell.{octets_on, independent_puts, tells, independent_tells_by, tells_from, tells_in, tells_place}
use Rattle.independent_model.specs.Wires.{is_between, other_end, wire_named}
use Rattle.independent_model.specs.Work.{Comes, Goes, NeverRefused, IndepOutcome, Stops, and_works}
use Rattle.independent_model.specs.Stops.{AllTaken, CallsEnd, EndsAs, EndsBy, answers_of}

module _ (told : Answers) where
  none_taken : (n : ℕ) → AllTaken told n n
  none_taken n k least less = absurd (omega (arith, least, less))

  both_taken : (a b c : ℕ) → AllTaken told a b → AllTaken told b c → AllTaken told a c
  both_taken a b c one two k least less = ⊎_elim (λ (h : k < b). one k least h) (λ (h : b ≤ k). two k h less) (cases_lt k b)

  -- more puts before, which were taken
  earlier : (a b : ℕ) (o : IndepOutcome) → a ≤ b → AllTaken told a b → EndsAs told b o → EndsAs told a o
  earlier a b (Goes e c) less taken is = (omega (arith, less, is.0), both_taken a b (length c) taken is.1)
  earlier a b (Stops stop.Link e c) less taken is = record { last = is.last; is = is.is; least = omega (arith, less, is.least); taken = both_taken a b is.last taken is.taken; failed = is.failed }
  earlier a b (Stops (stop.Refused f) e c) less taken is = (omega (arith, less, is.0), both_taken a b (length c) taken is.1)
  earlier a b (Stops stop.NoMemory e c) less taken is = is

  done_ends : (e : IndepState) (c : List LinkCall) → EndsAs told (length c) (Goes e c)
  done_ends e c = (omega arith, none_taken (length c))

  then_ends : (from : ℕ) (o : IndepOutcome) (f : IndepState → List LinkCall → IndepOutcome) → EndsAs told from o → ((e : IndepState) (c : List LinkCall) → EndsAs told (length c) (f e c))
      → EndsAs told from (and_works o f)
  then_ends from (Goes e c) f is more = earlier from (length c) (f e c) is.0 is.1 (more e c)
  then_ends from (Stops why e c) f is more = is

  one_more : (calls : List LinkCall) (call : LinkCall) → length (calls ++ call ∷ []) ≡ length calls + 1
  one_more calls call = length-append calls (call ∷ [])

  one_taken : (n m : ℕ) → m ≡ n + 1 → told n ≡ true → AllTaken told n m
  one_taken n m is taken k least less = let same : k ≡ n = omega (arith, is, least, less) in ap told same ∙ taken

  puts_end : (peer : EdgeId) (kept : ConnectionState) (octets : List ℕ) (e : IndepState) (c : List LinkCall) → EndsAs told (length c) (independent_puts peer kept octets (told (length c)) e c)
  puts_end peer kept octets e c = by (told (length c)) refl
    where
      by : (b : Bool) → told (length c) ≡ b → EndsAs told (length c) (independent_puts peer kept octets b e c)
      by true is =
          let long : length (c ++ call_of peer false octets true ∷ []) ≡ length c + 1 = one_more c (call_of peer false octets true) in
          (omega (arith, long), one_taken (length c) (length (c ++ call_of peer false octets true ∷ [])) long is)
      by false is = record { last = length c; is = one_more c (call_of peer false octets false); least = omega arith; taken = none_taken (length c); failed = is }

  module _ (plan : Plan) (me : ℕ) (peer : EdgeId) where
    tells_end : (k : ℕ) (e : IndepState) (c : List LinkCall) → EndsAs told (length c) (tells plan told me peer k e c)
    tells_end k e c = by_row (slice_get plan.wires k)
      where
        by_peer : (row : WirePlan) (o : Option ConnectionState) → EndsAs told (length c) (independent_tells_by plan told me peer k row o e c)
        by_peer row None = done_ends e c
        by_peer row (Some kept) = puts_end peer kept (octets_on plan me row (e.local k) kept.next_id) e c

        by_row : (o : Option WirePlan) → EndsAs told (length c) (tells_in plan told me peer k o e c)
        by_row None = done_ends e c
        by_row (Some row) = by_peer row (e.connection peer.0)

    place_ends : (k : ℕ) (e : IndepState) (c : List LinkCall) → EndsAs told (length c) (tells_place plan told me peer k e c)
    place_ends k e c = by (is_between plan k me peer.0)
      where
        by : (b : Bool) → EndsAs told (length c) (if b then tells plan told me peer k e c else Goes e c)
        by true = tells_end k e c
        by false = done_ends e c

    from_ends : (k n : ℕ) (e : IndepState) (c : List LinkCall) → EndsAs told (length c) (tells_from plan told me peer k n e c)
    from_ends k zero e c = done_ends e c
    from_ends k (suc n) e c = then_ends (length c) (tells_place plan told me peer k e c) (λ e c. tells_from plan told me peer (k + 1) n e c) (place_ends k e c) (λ e c. from_ends (k + 1) n e c)

    status_ends : (k : ℕ) (s : PwStatus) (e : IndepState) (c : List LinkCall) → EndsAs told (length c) (independent_hears_status plan told me peer k s e c)
    status_ends k s e c = by (is_status_told s (e.local k))
      where
        by : (b : Bool) → EndsAs told (length c) (if b then tells plan told me peer k (learns k s e) c else Goes (learns k s e) c)
        by true = tells_end k (learns k s e) c
        by false = done_ends (learns k s e) c

    of_ends : (s : PwStatus) (o : Option ℕ) (e : IndepState) (c : List LinkCall) → EndsAs told (length c) (hears_of plan told me peer s o e c)
    of_ends s None e c = done_ends e c
    of_ends s (Some k) e c = status_ends k s e c

    notice_ends : (code : ℕ) (s : Option PwStatus) (fec : Option PwFec) (e : IndepState) (c : List LinkCall) → EndsAs told (length c) (hears_notice plan told me peer code s fec e c)
    notice_ends code None fec e c = done_ends e c
    notice_ends code (Some s) None e c = done_ends e c
    notice_ends code (Some s) (Some fec) e c = by (code == pw_status_code)
      where
        by : (b : Bool) → EndsAs told (length c) (if b then hears_of plan told me peer s (wire_named plan me peer.0 fec.pw_id) e c else Goes e c)
        by true = of_ends s (wire_named plan me peer.0 fec.pw_id) e c
        by false = done_ends e c

    message_ends : (m : Message) (e : IndepState) (c : List LinkCall) → EndsAs told (length c) (independent_hears_message plan told me peer m e c)
    message_ends (Notification id code s fec) e c = notice_ends code.code s fec e c
    message_ends m e c = done_ends e c

    messages_end : (ms : List Message) (e : IndepState) (c : List LinkCall) → EndsAs told (length c) (independent_hears_messages plan told me peer ms e c)
    messages_end [] e c = done_ends e c
    messages_end (m ∷ ms) e c = then_ends (length c) (independent_hears_message plan told me peer m e c) (λ e c. independent_hears_messages plan told me peer ms e c) (message_ends m e c) (λ e c. messages_end ms e c)

    few_end : (n base : ℕ) (held : List ℕ) (e : IndepState) (c : List LinkCall) → EndsAs told (length c) (independent_hears_few plan told me peer n base held e c)
    few_end zero base held e c = done_ends (with_receiver peer.0 (Receiving base held) e) c
    few_end (suc n) base held e c = by (front_of 4096 held) (λ b r e c. few_end n b r e c)
      where
        by : (front : Front) → ((b : ℕ) (r : List ℕ) (e : IndepState) (c : List LinkCall) → EndsAs told (length c) (independent_hears_few plan told me peer n b r e c))
            → EndsAs told (length c) (independent_hears_front plan told me peer (independent_hears_few plan told me peer n) base held front e c)
        by More again = done_ends (with_receiver peer.0 (Receiving base held) e) c
        by (Got pdu rest) again = then_ends (length c) (independent_hears_messages plan told me peer pdu.messages e c)
            (λ e c. independent_hears_few plan told me peer n (place_behind base (length held - length rest)) rest e c)
            (messages_end pdu.messages e c) (λ e c. again (place_behind base (length held - length rest)) rest e c)
        by (Bad wrong) again = (omega arith, none_taken (length c))

    heard_ends : (octets : List ℕ) (e : IndepState) (c : List LinkCall) → EndsAs told (length c) (independent_hears plan told me peer octets e c)
    heard_ends octets e c = by (e.connection peer.0)
      where
        by_receiver : (receiver : Receiver) → EndsAs told (length c) (hears_by plan told me peer octets receiver e c)
        by_receiver (Receiving base held) = few_end (suc (length (held ++ octets))) base (held ++ octets) (with_receiver peer.0 Stopped e) c
        by_receiver (Broken base wrong) = (omega arith, none_taken (length c))
        by_receiver Stopped = done_ends e c

        by : (o : Option ConnectionState) → EndsAs told (length c) (independent_hears_on plan told me peer octets o e c)
        by None = done_ends e c
        by (Some kept) = by_receiver kept.receiver

  set_ends : (plan : Plan) (me wire : ℕ) (wish : Wish) (e : IndepState) (c : List LinkCall) → EndsAs told (length c) (sets plan told me wire wish e c)
  set_ends plan me wire wish e c = by (is_same_wish (e.local wire) wish)
    where
      by_other : (o : Option EdgeId) → EndsAs told (length c) (tells_other plan told me wire o (with_local wire wish e) c)
      by_other None = done_ends (with_local wire wish e) c
      by_other (Some peer) = tells_end plan me peer wire (with_local wire wish e) c

      by : (b : Bool) → EndsAs told (length c) (if b then Goes e c else tells_other plan told me wire (other_end plan me wire) (with_local wire wish e) c)
      by true = done_ends e c
      by false = by_other (other_end plan me wire)

pub calls_end : CallsEnd
calls_end = record {
  connected = λ plan told me peer e c. from_ends told plan me peer 0 (length plan.wires) (with_connection peer.0 (Some fresh_connection) e) c;
  heard = λ plan told me peer octets e c. heard_ends told plan me peer octets e c;
  set = λ plan told me wire wish e c. set_ends told plan me wire wish e c;
}

-- ---- by what a call answers

pub agrees_self : (calls : List LinkCall) → Agrees (answers_of calls) calls
agrees_self calls = record { each = each calls }
  where
    each : (calls : List LinkCall) (k : ℕ) (other : LinkCall) → k < length calls → (slice_index_or calls k other).taken ≡ answers_of calls k
    each [] k other within = absurd (omega (arith, within))
    each (call ∷ calls) zero other within = refl
    each (call ∷ calls) (suc k) other within = each calls k other (omega (arith, within))

ends_by : {T : Type 0} (result : Result T IndepStop) (edge : IndepState) (old new : List LinkCall) (outcome : IndepOutcome) → Comes result edge new outcome
    → EndsAs (answers_of new) (length old) outcome → EndsBy old new result
ends_by (Ok done) edge old new outcome comes ends = (subst (λ (o : IndepOutcome). EndsAs (answers_of new) (length old) o) comes ends).1
ends_by (Err stop.Link) edge old new outcome comes ends = subst (λ (o : IndepOutcome). EndsAs (answers_of new) (length old) o) comes ends
ends_by (Err (stop.Refused fault)) edge old new outcome comes ends = (subst (λ (o : IndepOutcome). EndsAs (answers_of new) (length old) o) comes ends).1
ends_by (Err stop.NoMemory) edge old new outcome comes ends = tt

-- a call that does not go on answers what another one has answered
pub comes_err : (T U : Type 0) (why : IndepStop) (edge : IndepState) (calls : List LinkCall) (outcome : IndepOutcome) → Comes {T = T} (Err why) edge calls outcome
    → Comes {T = U} (Err why) edge calls outcome
comes_err T U stop.Link edge calls outcome comes = comes
comes_err T U (stop.Refused fault) edge calls outcome comes = comes
comes_err T U stop.NoMemory edge calls outcome comes = tt

pub never_err : (T U : Type 0) (why : IndepStop) → NeverRefused {T = T} (Err why) → NeverRefused {T = U} (Err why)
never_err T U stop.Link never = tt
never_err T U (stop.Refused fault) never = never
never_err T U stop.NoMemory never = tt

pub ends_err : (T U : Type 0) (why : IndepStop) (old new : List LinkCall) → EndsBy {T = T} old new (Err why) → EndsBy {T = U} old new (Err why)
ends_err T U stop.Link old new ends = ends
ends_err T U (stop.Refused fault) old new ends = ends
ends_err T U stop.NoMemory old new ends = tt

-- nothing was put
pub none_ends : (calls : List LinkCall) → AllTaken (answers_of calls) (length calls) (length calls)
none_ends calls = none_taken (answers_of calls) (length calls)

-- wires of a connection were told
pub all_end : {T : Type 0} (result : Result T IndepStop) (plan : Plan) (me : ℕ) (peer : EdgeId) (k n : ℕ) (first last : IndepState) (old new : List LinkCall)
    → Comes result last new (tells_from plan (answers_of new) me peer k n first old) → EndsBy old new result
all_end result plan me peer k n first last old new comes =
    ends_by result last old new (tells_from plan (answers_of new) me peer k n first old) comes (from_ends (answers_of new) plan me peer k n first old)

-- one wire was told
pub other_ends : {T : Type 0} (result : Result T IndepStop) (plan : Plan) (me wire : ℕ) (other : Option EdgeId) (first last : IndepState) (old new : List LinkCall)
    → Comes result last new (tells_other plan (answers_of new) me wire other first old) → EndsBy old new result
other_ends result plan me wire other first last old new comes = ends_by result last old new (tells_other plan (answers_of new) me wire other first old) comes (by other)
  where
    by : (o : Option EdgeId) → EndsAs (answers_of new) (length old) (tells_other plan (answers_of new) me wire o first old)
    by None = done_ends (answers_of new) first old
    by (Some peer) = tells_end (answers_of new) plan me peer wire first old

-- octets were heard
pub at_ends : {T : Type 0} (result : Result T IndepStop) (plan : Plan) (me : ℕ) (peer : EdgeId) (receiver : Receiver) (more : List ℕ) (first last : IndepState) (old new : List LinkCall) → Comes result last new (hears_at plan (answers_of new) me peer receiver more first old) → EndsBy old new result
at_ends result plan me peer receiver more first last old new comes = ends_by result last old new (hears_at plan (answers_of new) me peer receiver more first old) comes (by receiver)
  where
    by : (receiver : Receiver) → EndsAs (answers_of new) (length old) (hears_at plan (answers_of new) me peer receiver more first old)
    by (Receiving base held) = few_end (answers_of new) plan me peer (suc (length (held ++ more))) base (held ++ more) first old
    by (Broken base wrong) = (omega arith, none_taken (answers_of new) (length old))
    by Stopped = done_ends (answers_of new) first old
