-- An octet that is held behind the others has completed no PDU: nothing was put, and the edge uses the same wires.
use Rattle.std.proofs.Common.{◌≡◌, ◌<◌, ◌≤◌, ◌==◌, ◌+◌, ◌-◌, ◌&&◌, ◌||◌, ◌++◌, ◌∙◌, nat_lt, ℕ, zero, suc, Bool, true, false, List, [], ◌∷◌, Option, Some, None, is_some, length, take, drop, option_map, if◌then◌else◌, refl, sym, ap, subst, arith, length-append, append-nil}
use Rattle.std.proofs.lemmas.List.{length-drop, length-take}
use Rattle.std.proofs.lemmas.Bool.{eqb-true, ltb-false}
use Rattle.net_values.proofs.NumberLemmas.{same_number as self}
use Rattle.net_base.specs.declared.outside.link_call.LinkCall.{LinkCall}
use Rattle.net_base.specs.declared.plan.Plan.{Plan}
use Rattle.net_base.specs.declared.plan.places.EdgeId.{EdgeId}
use Rattle.ldp_grammar.specs.declared.cause.Cause.TheVariants as cause
use Rattle.ldp_grammar.specs.declared.pdu.Pdu.{Pdu}
use Rattle.ldp_grammar.specs.Octets.{two_at}
use Rattle.ldp_grammar.specs.Reading.{Reading, spelled, refused}
use Rattle.ldp_grammar.proofs.ReadingOf.{reading_of}
use Rattle.ldp_stream.specs.Front.{size_of}
use Rattle.ldp_stream.specs.FrontOf.{Front, More, Got, Bad, front_in, front_of, length_front, whole_front}
use Rattle.ldp_stream.specs.State.{place_behind}
use Rattle.pw_messages.specs.LinkAnswers.{Answers}
use Rattle.status_exchange.specs.Exchange.{at_two}
use Rattle.status_exchange.specs.Laws.{is_known_active}
use Rattle.status_exchange.specs.Wish.{is_wished_active}
use Rattle.status_exchange.proofs.StatusLemmas.{at_same}
use Rattle.independent_mode.specs.Receiver.{HoldsSoMany, HoldsBy}
use Rattle.independent_model.specs.Calls.{independent_hears, independent_hears_on, is_connected, uses, uses_with}
use Rattle.independent_model.specs.Hear.{hears_by, independent_hears_few, independent_hears_front, independent_hears_messages}
use Rattle.independent_model.specs.State.{ConnectionState, Stopped, Receiver, IndepState, Receiving, Broken, receiver_set, with_connection, with_receiver}
use Rattle.independent_model.specs.Wires.{other_end}
use Rattle.independent_model.specs.Work.{Goes, IndepOutcome, Stops, and_works}
use Rattle.switchover_model.specs.declared.switch_entry.SwitchEntry.{SwitchEntry}
use Rattle.switchover_model.specs.Network.{IsGoing, calls_of, delivers_one, edge_after, is_waiting, takes_all}
use Rattle.switchover_model.specs.Text.{hear_entries, turned_all, used, used_from}
use Rattle.switchover_net.specs.Net.{Makes, SwitchLists}
use Rattle.octet_pipes.specs.Pipes.{pipes_of}
use Rattle.switchover_net.specs.Rows.{HasDoneWork, seen_row}
use Rattle.switchover_net.proofs.NetLemmas.{was_heard}

-- ---- a PDU has octets

in_front : {bytes : List ℕ} (max : ℕ) (o : Option (Reading bytes max)) (behind rest : List ℕ) (pdu : Pdu) → front_in o behind ≡ Got pdu rest → rest ≡ behind
in_front max None behind rest pdu is = absurd (cc (is))
in_front max (Some (spelled p s)) behind rest pdu is = cc (is)
in_front max (Some (refused fault first)) behind rest pdu is = absurd (cc (is))

pub got_shorter : (held rest : List ℕ) (pdu : Pdu) → front_of 4096 held ≡ Got pdu rest → length rest < length held
unfolding front_of
got_shorter held rest pdu is = by (nat_lt (length held) 2) (two_at 0 held == 1) is
  where
    shorter : rest ≡ drop (size_of held) held → nat_lt (length held) 4 ≡ false → length rest < length held
    shorter e long = omega (arith, ltb-false (length held) 4 long, ap length e, length-drop (size_of held) held)

    by_size : (u : Bool) → nat_lt (length held) 4 ≡ false → (if u then More else front_in (reading_of (take (size_of held) held) 4096) (drop (size_of held) held)) ≡ Got pdu rest
        → length rest < length held
    by_size true long e = absurd (cc (e))
    by_size false long e = shorter (in_front 4096 (reading_of (take (size_of held) held) 4096) (drop (size_of held) held) rest pdu e) long

    by_length : (s t : Bool) → nat_lt (length held) 4 ≡ s → (if s then More else if t then Bad (record { place = 2; cause = cause.PduLength }) else whole_front 4096 held)
        ≡ Got pdu rest → length rest < length held
    by_length true t at e = absurd (cc (e))
    by_length false true at e = absurd (cc (e))
    by_length false false at e = by_size (nat_lt (length held) (size_of held)) at e

    by : (s t : Bool) → (if s then More else if t then length_front 4096 held else Bad (record { place = 0; cause = cause.Version })) ≡ Got pdu rest → length rest < length held
    by true t e = absurd (cc (e))
    by false true e = by_length (nat_lt (length held) 4) (nat_lt (two_at 2 held) 14 || nat_lt 4096 (two_at 2 held)) refl e
    by false false e = absurd (cc (e))

-- ---- what is held in the end stood behind each PDU that was heard

received : (peer base : ℕ) (held : List ℕ) (edge : IndepState) (count : ℕ) → HoldsBy count ((with_receiver peer (Receiving base held) edge).connection peer) → count ≤ length held
unfolding with_connection
received peer base held edge count holds = by (edge.connection peer)
    (subst (λ (b : Bool). HoldsBy count (if b then option_map (receiver_set (Receiving base held)) (edge.connection peer) else edge.connection peer)) (self peer) holds)
  where
    by : (o : Option ConnectionState) → HoldsBy count (option_map (receiver_set (Receiving base held)) o) → count ≤ length held
    by None is = omega (arith, is)
    by (Some kept) is = omega (arith, is)

-- ---- what the edge hears with does not matter to the wires that it uses

connected_deaf : (peer k : ℕ) (r : Receiver) (edge : IndepState) → is_connected (with_receiver peer r edge) k ≡ is_connected edge k
unfolding with_connection
connected_deaf peer k r edge = by (k == peer) refl
  where
    kept : (o : Option ConnectionState) → is_some (option_map (receiver_set r) o) ≡ is_some o
    kept None = refl
    kept (Some c) = refl

    by : (b : Bool) → (k == peer) ≡ b → is_some (if b then option_map (receiver_set r) (edge.connection peer) else edge.connection k) ≡ is_some (edge.connection k)
    by true at = kept (edge.connection peer) ∙ ap (λ (n : ℕ). is_some (edge.connection n)) (sym (eqb-true k peer at))
    by false at = refl

uses_deaf : (peer : ℕ) (r : Receiver) (edge : IndepState) (wire : ℕ) (other : Option EdgeId) → uses_with (with_receiver peer r edge) wire other ≡ uses_with edge wire other
unfolding with_connection
uses_deaf peer r edge wire None = refl
uses_deaf peer r edge wire (Some p) = ap (λ (b : Bool). (b && is_wished_active (edge.local wire)) && is_known_active (edge.remote wire)) (connected_deaf peer p.0 r edge)

used_deaf : (plan : Plan) (me peer : ℕ) (r : Receiver) (edge : IndepState) (wire n : ℕ) → used_from plan me (with_receiver peer r edge) wire n ≡ used_from plan me edge wire n
used_deaf plan me peer r edge wire zero = refl
used_deaf plan me peer r edge wire (suc n) =
    ap (λ (b : Bool). b ∷ used_from plan me (with_receiver peer r edge) (wire + 1) n) (uses_deaf peer r edge wire (other_end plan me wire))
    ∙ ap (λ (l : List Bool). uses plan me edge wire ∷ l) (used_deaf plan me peer r edge (wire + 1) n)

-- ---- of an octet

pub record IsSilent (plan : Plan) (me : ℕ) (edge e : IndepState) (calls c : List LinkCall) : Type 0 where
  pub put : c ≡ calls
  pub same : used plan me e ≡ used plan me edge

module _ (plan : Plan) (told : Answers) (me : ℕ) (peer : EdgeId) (e : IndepState) (c : List LinkCall) (count : ℕ) (holds : HoldsBy count (e.connection peer.0)) where
  waits : (base : ℕ) (held : List ℕ) (edge : IndepState) (calls : List LinkCall) → Goes (with_receiver peer.0 (Receiving base held) edge) calls ≡ Goes e c → count ≤ length held
  waits base held edge calls is = let at : with_receiver peer.0 (Receiving base held) edge ≡ e = cc (is) in
      received peer.0 base held edge count (subst (λ (s : IndepState). HoldsBy count (s.connection peer.0)) (sym at) holds)

  behind : (o : IndepOutcome) (rest : List ℕ) (on : IndepState → List LinkCall → IndepOutcome) → ((edge : IndepState) (calls : List LinkCall) → on edge calls ≡ Goes e c → count ≤ length rest)
      → and_works o on ≡ Goes e c → count ≤ length rest
  behind (Goes edge calls) rest on again is = again edge calls is
  behind (Stops why edge calls) rest on again is = absurd (cc (is))

  front_at : (n base : ℕ) (held : List ℕ) (edge : IndepState) (calls : List LinkCall) (front : Front) → front_of 4096 held ≡ front → independent_hears_few plan told me peer (suc n) base held edge calls ≡ Goes e c
      → independent_hears_front plan told me peer (independent_hears_few plan told me peer n) base held front edge calls ≡ Goes e c
  front_at n base held edge calls front at is = sym (ap (λ (f : Front). independent_hears_front plan told me peer (independent_hears_few plan told me peer n) base held f edge calls) at) ∙ is

  few_held : (n base : ℕ) (held : List ℕ) (edge : IndepState) (calls : List LinkCall) → independent_hears_few plan told me peer n base held edge calls ≡ Goes e c → count ≤ length held
  few_held zero base held edge calls is = waits base held edge calls is
  few_held (suc n) base held edge calls is = by (λ b rest s l. few_held n b rest s l) (front_of 4096 held) refl
    where
      by : ((b : ℕ) (rest : List ℕ) (s : IndepState) (l : List LinkCall) → independent_hears_few plan told me peer n b rest s l ≡ Goes e c → count ≤ length rest) → (front : Front)
          → front_of 4096 held ≡ front → count ≤ length held
      by again More at = waits base held edge calls (front_at n base held edge calls More at is)
      by again (Bad wrong) at = absurd (cc (front_at n base held edge calls (Bad wrong) at is))
      by again (Got pdu rest) at =
          let less : length rest < length held = got_shorter held rest pdu at in
          let few : count ≤ length rest = behind (independent_hears_messages plan told me peer pdu.messages edge calls) rest
          (λ s l. independent_hears_few plan told me peer n (place_behind base (length held - length rest)) rest s l)
          (λ s l. again (place_behind base (length held - length rest)) rest s l) (front_at n base held edge calls (Got pdu rest) at is) in
          omega (arith, less, few)

  module _ (octets : List ℕ) (before : ℕ) (edge : IndepState) (calls : List LinkCall) (few : length octets ≤ 1) (more : before < count) where
    nothing : Goes edge calls ≡ Goes e c → IsSilent plan me edge e calls c
    nothing is = let at : e ≡ edge = cc (is) in let put : c ≡ calls = cc (is) in record { put = put; same = ap (used plan me) at }

    receives : (base : ℕ) (held : List ℕ) → before ≡ length held → hears_by plan told me peer octets (Receiving base held) edge calls ≡ Goes e c → IsSilent plan me edge e calls c
    receives base held holds_now is = by (front_of 4096 (held ++ octets)) refl
      where
        deaf : IndepState
        deaf = with_receiver peer.0 Stopped edge

        n : ℕ
        n = length (held ++ octets)

        by : (front : Front) → front_of 4096 (held ++ octets) ≡ front → IsSilent plan me edge e calls c
        by More at =
            let goes : Goes (with_receiver peer.0 (Receiving base (held ++ octets)) deaf) calls ≡ Goes e c = front_at n base (held ++ octets) deaf calls More at is in
            let now : e ≡ with_receiver peer.0 (Receiving base (held ++ octets)) deaf = cc (goes) in
            let put : c ≡ calls = cc (goes) in
            record {
              put = put;
              same = ap (used plan me) now ∙ (used_deaf plan me peer.0 (Receiving base (held ++ octets)) deaf 0 (length plan.wires) ∙ used_deaf plan me peer.0 Stopped edge 0 (length plan.wires));
            }
        by (Bad wrong) at = absurd (cc (front_at n base (held ++ octets) deaf calls (Bad wrong) at is))
        by (Got pdu rest) at =
            let less : length rest < length (held ++ octets) = got_shorter (held ++ octets) rest pdu at in
            let left : count ≤ length rest = behind (independent_hears_messages plan told me peer pdu.messages deaf calls) rest
            (λ s l. independent_hears_few plan told me peer n (place_behind base (length (held ++ octets) - length rest)) rest s l)
            (λ s l. few_held n (place_behind base (length (held ++ octets) - length rest)) rest s l) (front_at n base (held ++ octets) deaf calls (Got pdu rest) at is) in
            absurd (omega (arith, less, left, few, more, holds_now, length-append held octets))

    by_receiver : (r : Receiver) → HoldsSoMany before r → hears_by plan told me peer octets r edge calls ≡ Goes e c → IsSilent plan me edge e calls c
    by_receiver (Receiving base held) holds_now is = receives base held holds_now is
    by_receiver (Broken base wrong) holds_now is = absurd (cc (is))
    by_receiver Stopped holds_now is = nothing is

    by_connection : (o : Option ConnectionState) → HoldsBy before o → independent_hears_on plan told me peer octets o edge calls ≡ Goes e c → IsSilent plan me edge e calls c
    by_connection None holds_now is = nothing is
    by_connection (Some kept) holds_now is = by_receiver kept.receiver holds_now is

    pub grown : HoldsBy before (edge.connection peer.0) → independent_hears plan told me peer octets edge calls ≡ Goes e c → IsSilent plan me edge e calls c
    grown holds_now is = by_connection (edge.connection peer.0) holds_now is

-- ---- of the network

going_is : (o : IndepOutcome) → IsGoing o → o ≡ Goes (edge_after o) (calls_of o)
going_is (Goes edge calls) going = refl
going_is (Stops why edge calls) going = absurd going

turned_none : (me i : ℕ) (l : List Bool) → turned_all me i l l ≡ []
turned_none me i [] = refl
turned_none me i (true ∷ l) = turned_none me (i + 1) l
turned_none me i (false ∷ l) = turned_none me (i + 1) l

put_nothing : (a b : ℕ) (p : ℕ → ℕ → List ℕ) → p ≡ at_two a b (p a b ++ []) p
put_nothing a b p = λ i x y. by x y (x == a) (y == b) refl refl i
  where
    same : (x y : ℕ) → x ≡ a → y ≡ b → p x y ≡ p a b ++ []
    same x y one two = rw (one, two) (sym (append-nil (p a b)))

    by : (x y : ℕ) (s t : Bool) → (x == a) ≡ s → (y == b) ≡ t → p x y ≡ (if s && t then p a b ++ [] else p x y)
    by x y true true one two = same x y (eqb-true x a one) (eqb-true y b two)
    by x y true false one two = refl
    by x y false t one two = refl

module _ (plan : Plan) (me : ℕ) (peer : EdgeId) (old new : SwitchLists) (calls : List LinkCall) (before after : ℕ)
    (going : IsGoing (independent_hears plan takes_all me peer (take 1 (pipes_of old.pipes peer.0 me)) (seen_row old.row me) []))
    (done : HasDoneWork me old.row new.row calls (independent_hears plan takes_all me peer (take 1 (pipes_of old.pipes peer.0 me)) (seen_row old.row me) []))
    (held : HoldsBy before ((seen_row old.row me).connection peer.0)) (held_now : HoldsBy after ((seen_row new.row me).connection peer.0)) (more : before < after) where
  abbrev outcome : IndepOutcome
  outcome = independent_hears plan takes_all me peer (take 1 (pipes_of old.pipes peer.0 me)) (seen_row old.row me) []

  state : seen_row new.row me ≡ edge_after outcome
  state = ap (λ (f : ℕ → IndepState). f me) done.state ∙ at_same me (edge_after outcome) (seen_row old.row)

  silent : IsSilent plan me (seen_row old.row me) (edge_after outcome) [] (calls_of outcome)
  silent = grown plan takes_all me peer (edge_after outcome) (calls_of outcome) after (subst (λ (s : IndepState). HoldsBy after (s.connection peer.0)) state held_now)
      (take 1 (pipes_of old.pipes peer.0 me)) before (seen_row old.row me) []
      (omega (arith, length-take 1 (pipes_of old.pipes peer.0 me))) more held (going_is outcome going)

  same_used : used plan me (seen_row new.row me) ≡ used plan me (seen_row old.row me)
  same_used = ap (used plan me) state ∙ silent.same

  pub was_silent : (out : List SwitchEntry) → is_waiting (pipes_of old.pipes peer.0 me) ≡ true → pipes_of new.pipes ≡ at_two peer.0 me (drop 1 (pipes_of old.pipes peer.0 me)) (pipes_of old.pipes)
      → Makes old new out out (delivers_one plan peer.0 me) (hear_entries plan peer.0 me)
  was_silent out waiting left =
      was_heard plan me peer old new new.row [] (used plan me (seen_row old.row me)) out out waiting (record { state = done.state; put = sym silent.put }) refl refl
      (left ∙ put_nothing me peer.0 (at_two peer.0 me (drop 1 (pipes_of old.pipes peer.0 me)) (pipes_of old.pipes)))
      (sym (ap (λ (l : List SwitchEntry). (out ++ []) ++ l)
      (ap (turned_all me 0 (used plan me (seen_row old.row me))) same_used ∙ turned_none me 0 (used plan me (seen_row old.row me))) ∙ (append-nil (out ++ []) ∙ append-nil out)))

  pub still_used : (was : List Bool) → new.row.plan ≡ plan → was ≡ used plan me (seen_row old.row me) → was ≡ used new.row.plan me (seen_row new.row me)
  still_used was planned is = is ∙ (sym same_used ∙ ap (λ (p : Plan). used p me (seen_row new.row me)) (sym planned))
