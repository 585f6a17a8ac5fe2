-- An edge tells what it calls its wires.
use Rattle.std.proofs.Common.{◌≡◌, ◌<◌, ◌≤◌, ◌+◌, ◌-◌, ◌==◌, ◌++◌, ◌∙◌, ℕ, zero, suc, Bool, true, false, List, [], ◌∷◌, Option, Some, None, Err, length, slice_get, option_map, if◌then◌else◌, refl, ap, sym, subst, arith}
use Rattle.std.proofs.lemmas.Bool.Decides.{nat_tests}
use Rattle.net_values.proofs.RowLemmas.{last_of}
use Rattle.net_base.specs.declared.outside.link_call.LinkCall.{LinkCall}
use Rattle.net_base.specs.declared.plan.Plan.{Plan}
use Rattle.net_base.specs.declared.plan.places.EdgeId.{EdgeId}
use Rattle.net_base.specs.declared.plan.wire_plan.WirePlan.{WirePlan}
use Rattle.net_base.specs.outside.Link.{call_of}
use Rattle.pw_messages.specs.LinkAnswers.{Agrees, Answers}
use Rattle.independent_model.specs.declared.indep_stop.IndepStop.{IndepStop}
use Rattle.independent_model.specs.declared.indep_stop.IndepStop.TheVariants as stop
use Rattle.independent_model.specs.State.{ConnectionState, Stopped, Receiver, IndepState, receiver_set, id_next, spoken_once, with_connection, with_receiver}
use Rattle.ldp_stream.specs.State.{StreamState}
use Rattle.independent_mode.specs.Lists.{IndepLists, KeepsIndependent}
use Rattle.independent_mode.specs.Receiver.{HasReceiver, HasNoReceiver, IsTakenOut, receiver_in, receiver_of}
use Rattle.independent_model.specs.Tell.{octets_on, independent_puts, tells, independent_tells_by, tells_from, tells_in, tells_place}
use Rattle.independent_model.specs.Work.{Comes, Goes, CallsGoOn, IndepOutcome, Stops, and_works}

-- ---- calls that go on

pub same_calls : (calls : List LinkCall) → CallsGoOn calls calls
same_calls calls = record { longer = omega arith; same = λ k d within. refl }

pub goes_both : (a b c : List LinkCall) → CallsGoOn a b → CallsGoOn b c → CallsGoOn a c
goes_both a b c one two = record { longer = omega (arith, one.longer, two.longer); same = λ k d within. two.same k d (omega (arith, within, one.longer)) ∙ one.same k d within }

pub agrees_before : (told : Answers) (old new : List LinkCall) → CallsGoOn old new → Agrees told new → Agrees told old
agrees_before told old new goes agrees = record { each = λ k d within. ap (λ (c : LinkCall). c.taken) (sym (goes.same k d within)) ∙ agrees.each k d (omega (arith, within, goes.longer)) }

-- what was told of the call that came last
pub told_last : (told : Answers) (calls new : List LinkCall) (call : LinkCall) → new ≡ calls ++ call ∷ [] → Agrees told new → told (length calls) ≡ call.taken
told_last told calls new call is agrees = sym (here.each (length calls) call (within calls)) ∙ ap (λ (c : LinkCall). c.taken) (last_of calls call call)
  where
    here : Agrees told (calls ++ call ∷ [])
    here = subst (Agrees told) is agrees

    within : (xs : List LinkCall) → length xs < length (xs ++ call ∷ [])
    within [] = omega arith
    within (x ∷ xs) = omega (arith, within xs)

pub keeps_both : (a b c : IndepLists) → KeepsIndependent a b → KeepsIndependent b c → KeepsIndependent a c
keeps_both a b c one two = record { plan = two.plan ∙ one.plan; me = two.me ∙ one.me }

-- ---- what is kept for one peer

pub put_twice : (peer : ℕ) (first next : Option ConnectionState) (edge : IndepState) → with_connection peer next (with_connection peer first edge) ≡ with_connection peer next edge
unfolding with_connection
put_twice peer first next edge = λ i. record edge { connection = λ k. over (k == peer) (edge.connection k) i } where
  over : (b : Bool) (other : Option ConnectionState) → (if b then next else if b then first else other) ≡ (if b then next else other)
  over true other = refl
  over false other = refl

pub counted : (peer : ℕ) (kept now said : ConnectionState) (first next last : IndepState) → Some kept ≡ first.connection peer → first.connection peer ≡ Some now → said ≡ spoken_once kept
    → next ≡ with_connection peer None first
    → last ≡ with_connection peer (Some said) next → last ≡ with_connection peer (Some (spoken_once now)) first
counted peer kept now said first next last was is spoke taken put =
    let same : kept ≡ now = cc (was ∙ is) in
    put ∙ (ap (λ (e : IndepState). with_connection peer (Some said) e) taken
    ∙ (put_twice peer None (Some said) first ∙ ap (λ (k : ConnectionState). with_connection peer (Some k) first) (spoke ∙ ap spoken_once same)))

-- the connection that was taken out is as it was put back
pub put_same : (peer : ℕ) (kept : Option ConnectionState) (edge : IndepState) → edge.connection peer ≡ kept → with_connection peer kept edge ≡ edge
unfolding with_connection
put_same peer kept edge is = λ i. record edge { connection = λ k. by k (k == peer) refl i } where
  same : (k : ℕ) → (k == peer) ≡ true → k ≡ peer
  same k e = grind (arith, nat_tests)

  by : (k : ℕ) (b : Bool) → (k == peer) ≡ b → (if b then kept else edge.connection k) ≡ edge.connection k
  by k true e = sym (ap edge.connection (same k e) ∙ is)
  by k false e = refl

pub put_receiver : (peer : ℕ) (kept said : ConnectionState) (receiver : Receiver) (first next last : IndepState) → Some kept ≡ first.connection peer → next
    ≡ with_connection peer None first → said ≡ receiver_set receiver kept
    → last ≡ with_connection peer (Some said) next → last ≡ with_receiver peer receiver first
put_receiver peer kept said receiver first next last was taken is put =
    put ∙ (ap (with_connection peer (Some said)) taken ∙ (put_twice peer None (Some said) first
    ∙ (ap (λ (k : ConnectionState). with_connection peer (Some k) first) is ∙ ap (λ (o : Option ConnectionState). with_connection peer (option_map (receiver_set receiver) o) first) was)))

pub none_taken : (peer : ℕ) (o : Option ConnectionState) (first next : IndepState) → o ≡ None → o ≡ first.connection peer → next ≡ with_connection peer None first → (next ≡ first)
    × HasNoReceiver (first.connection peer)
none_taken peer o first next none was taken =
    let gone : first.connection peer ≡ None = sym was ∙ none in
    (taken ∙ put_same peer None first gone, subst HasNoReceiver (sym gone) tt)

pub out_taken : (peer : ℕ) (kept rest : ConnectionState) (receiver : Option StreamState) (first next last : IndepState) → Some kept ≡ first.connection peer → receiver_in receiver
    ≡ kept.receiver → rest ≡ receiver_set Stopped kept
    → next ≡ with_connection peer None first → last ≡ with_connection peer (Some rest) next → IsTakenOut peer first last receiver
out_taken peer kept rest None first next last was is left taken put =
    let same : rest ≡ kept = left ∙ ap (λ (e : Receiver). receiver_set e kept) is in (
      put ∙ (ap (with_connection peer (Some rest)) taken ∙ (put_twice peer None (Some rest) first ∙ put_same peer (Some rest) first (sym was ∙ ap (λ (k : ConnectionState). Some k) (sym same)))),
      subst HasNoReceiver was (sym is),
    )
out_taken peer kept rest (Some s) first next last was is left taken put = (put_receiver peer kept rest Stopped first next last was taken left put, subst (HasReceiver (receiver_of s)) was (sym is))

-- ---- one wire is told

row_there : (rows : List WirePlan) (wire : ℕ) → wire < length rows → (o : Option WirePlan) → slice_get rows wire ≡ o → o ≡ None → ⊥
row_there [] wire within o is none = omega (arith, within)
row_there (row ∷ rows) zero within o is none = cc (is ∙ none)
row_there (row ∷ rows) (suc wire) within o is none = row_there rows wire (omega (arith, within)) o is none

-- no connection stands
pub told_none : (plan : Plan) (told : Answers) (me : ℕ) (peer : EdgeId) (wire : ℕ) (edge : IndepState) (calls : List LinkCall) → None ≡ option_map id_next (edge.connection peer.0)
    → tells plan told me peer wire edge calls ≡ Goes edge calls
told_none plan told me peer wire edge calls none = by_row (slice_get plan.wires wire)
  where
    gone : (o : Option ConnectionState) → None ≡ option_map id_next o → o ≡ None
    gone None is = refl
    gone (Some kept) is = absurd (cc (is))

    by_row : (o : Option WirePlan) → tells_in plan told me peer wire o edge calls ≡ Goes edge calls
    by_row None = refl
    by_row (Some row) = ap (λ (o : Option ConnectionState). independent_tells_by plan told me peer wire row o edge calls) (gone (edge.connection peer.0) none)

-- a connection stands: the octets are put, with the number of the next message
pub record HasKept (id : ℕ) (o : Option ConnectionState) : Type 0 where
  pub kept : ConnectionState
  pub is : o ≡ Some kept
  pub number : kept.next_id ≡ id

pub kept_of : (id : ℕ) (o : Option ConnectionState) → Some id ≡ option_map id_next o → HasKept id o
kept_of id None is = absurd (cc (is))
kept_of id (Some kept) is = record { kept = kept; is = refl; number = cc (sym is) }

module _ (plan : Plan) (told : Answers) (me : ℕ) (peer : EdgeId) (wire : ℕ) (edge : IndepState) (calls : List LinkCall) (id : ℕ) (octets : List ℕ) where
  put_is : (kept : ConnectionState) → edge.connection peer.0 ≡ Some kept → kept.next_id ≡ id → wire < length plan.wires
      → ((row : WirePlan) → slice_get plan.wires wire ≡ Some row → octets ≡ octets_on plan me row (edge.local wire) id)
      → tells plan told me peer wire edge calls ≡ independent_puts peer kept octets (told (length calls)) edge calls
  put_is kept is number within are = by_row (slice_get plan.wires wire) refl
    where
      by_row : (o : Option WirePlan) → slice_get plan.wires wire ≡ o → tells_in plan told me peer wire o edge calls ≡ independent_puts peer kept octets (told (length calls)) edge calls
      by_row None none = absurd (row_there plan.wires wire within None none refl)
      by_row (Some row) there = ap (λ (o : Option ConnectionState). independent_tells_by plan told me peer wire row o edge calls) is
          ∙ ap (λ (os : List ℕ). independent_puts peer kept os (told (length calls)) edge calls) (ap (octets_on plan me row (edge.local wire)) number ∙ sym (are row there))

  pub told_ok : (new : IndepState) (after : List LinkCall) → Some id ≡ option_map id_next (edge.connection peer.0) → wire < length plan.wires
      → ((row : WirePlan) → slice_get plan.wires wire ≡ Some row → octets ≡ octets_on plan me row (edge.local wire) id)
      → after ≡ calls ++ call_of peer false octets true ∷ [] → Agrees told after
      → ((kept : ConnectionState) → edge.connection peer.0 ≡ Some kept → new ≡ with_connection peer.0 (Some (spoken_once kept)) edge)
      → tells plan told me peer wire edge calls ≡ Goes new after
  told_ok new after there within are called agrees counts =
      let k = kept_of id (edge.connection peer.0) there in
      put_is k.kept k.is k.number within are
      ∙ (ap (λ (b : Bool). independent_puts peer k.kept octets b edge calls) (told_last told calls after (call_of peer false octets true) called agrees)
      ∙ rw (counts k.kept k.is, called) refl)

  pub told_err : (after : List LinkCall) → Some id ≡ option_map id_next (edge.connection peer.0) → wire < length plan.wires
      → ((row : WirePlan) → slice_get plan.wires wire ≡ Some row → octets ≡ octets_on plan me row (edge.local wire) id)
      → after ≡ calls ++ call_of peer false octets false ∷ [] → Agrees told after
      → tells plan told me peer wire edge calls ≡ Stops stop.Link edge after
  told_err after there within are called agrees =
      let k = kept_of id (edge.connection peer.0) there in
      put_is k.kept k.is k.number within are
      ∙ (ap (λ (b : Bool). independent_puts peer k.kept octets b edge calls) (told_last told calls after (call_of peer false octets false) called agrees)
      ∙ rw called refl)

-- ---- one after another

-- it goes on from what it came to
pub goes_then : (o whole : IndepOutcome) (edge : IndepState) (calls : List LinkCall) (f : IndepState → List LinkCall → IndepOutcome) → whole ≡ and_works o f → o ≡ Goes edge calls
    → whole ≡ f edge calls
goes_then o whole edge calls f is goes = is ∙ ap (λ (p : IndepOutcome). and_works p f) goes

-- it stops where what is done first does
pub stops_then : (T U : Type 0) (why : IndepStop) (edge : IndepState) (calls : List LinkCall) (o whole : IndepOutcome) (f : IndepState → List LinkCall → IndepOutcome) → whole ≡ and_works o f
    → Comes {T = T} (Err why) edge calls o → Comes {T = U} (Err why) edge calls whole
stops_then T U stop.Link edge calls o whole f is comes = is ∙ ap (λ (p : IndepOutcome). and_works p f) comes
stops_then T U (stop.Refused fault) edge calls o whole f is comes = is ∙ ap (λ (p : IndepOutcome). and_works p f) comes
stops_then T U stop.NoMemory edge calls o whole f is comes = tt

pub from_more : (plan : Plan) (told : Answers) (me : ℕ) (peer : EdgeId) (i n : ℕ) (edge : IndepState) (calls : List LinkCall) → i < n
    → tells_from plan told me peer i (n - i) edge calls ≡ and_works (tells_place plan told me peer i edge calls) (λ e c. tells_from plan told me peer (i + 1) (n - (i + 1)) e c)
from_more plan told me peer i n edge calls less = let e : n - i ≡ suc (n - (i + 1)) = omega (arith, less) in rw e refl

pub from_end : (plan : Plan) (told : Answers) (me : ℕ) (peer : EdgeId) (i n : ℕ) (edge : IndepState) (calls : List LinkCall) → n ≤ i → tells_from plan told me peer i (n - i) edge calls
    ≡ Goes edge calls
from_end plan told me peer i n edge calls past = let e : n - i ≡ 0 = omega (arith, past) in rw e refl
