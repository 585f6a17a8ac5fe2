-- An edge's work over octets is its work in an exchange of statuses.
use Rattle.std.proofs.Common.{◌≡◌, ◌<◌, ◌+◌, ◌-◌, ◌^◌, ◌==◌, ◌++◌, ◌∙◌, ℕ, zero, suc, Bool, true, false, List, [], ◌∷◌, Option, Some, None, length, slice_get, option_map, if◌then◌else◌, refl, sym, ap, subst, arith, append_assoc, append-nil}
use Rattle.std.proofs.lemmas.Bool.Decides.{nat_tests}
use Rattle.net_values.proofs.NumberLemmas.{same_number, equal_turned}
use Rattle.net_base.specs.declared.outside.link_call.LinkCall.{LinkCall}
use Rattle.net_base.specs.declared.plan.Plan.{Plan}
use Rattle.net_base.specs.declared.plan.wire_plan.WirePlan.{WirePlan}
use Rattle.net_base.specs.outside.Link.{call_of}
use Rattle.net_base.specs.plan.Accepted.{IsChecked}
use Rattle.pw_messages.specs.Sender.{following}
use Rattle.pw_messages.proofs.CommonLemmas.{following_small}
use Rattle.status_exchange.specs.declared.wish.Wish.{Wish}
use Rattle.status_exchange.specs.Exchange.{EdgeStatuses, StatusWork, StatusMessage, silent}
use Rattle.status_exchange.specs.Exchange as exchange
use Rattle.status_exchange.specs.Wish.{is_same_wish, is_status_told, status_of}
use Rattle.independent_model.specs.Calls.{independent_connects, sets}
use Rattle.independent_model.specs.Hear.{independent_hears_message, hears_of, independent_hears_status, learns}
use Rattle.switchover_model.specs.Network.{edge_numbered, put_to, takes_all}
use Rattle.independent_model.specs.State.{ConnectionState, Receiver, IndepState, fresh_connection, id_next, spoken_once, statuses_of, with_connection, with_local, with_remote}
use Rattle.independent_model.specs.Tell.{notification, octets_on, tells, independent_tells_by, tells_from, tells_in}
use Rattle.independent_model.specs.Wires.{is_between, other_end, wiring}
use Rattle.independent_model.specs.Work.{Goes, IndepOutcome, and_works}
use Rattle.switchover_model.proofs.FlightLemmas.{AreTold, are_both, octets_in_row, octets_told, told_both}
use Rattle.switchover_model.proofs.TwoLemmas.{between_two, named_is}

-- ---- what was put

pub said_one : (b : ℕ) (calls : List LinkCall) (call : LinkCall) → put_to b (calls ++ call ∷ []) ≡ put_to b calls ++ (if call.peer.0 == b then call.bytes else [])
said_one b [] call = by (call.peer.0 == b)
  where
    by : (t : Bool) → (if t then call.bytes ++ [] else []) ≡ (if t then call.bytes else [])
    by true = append-nil call.bytes
    by false = refl
said_one b (x ∷ calls) call = by (x.peer.0 == b) (said_one b calls call)
  where
    by : (t : Bool) → put_to b (calls ++ call ∷ []) ≡ put_to b calls ++ (if call.peer.0 == b then call.bytes else [])
        → (if t then x.bytes ++ put_to b (calls ++ call ∷ []) else put_to b (calls ++ call ∷ []))
        ≡ (if t then x.bytes ++ put_to b calls else put_to b calls) ++ (if call.peer.0 == b then call.bytes else [])
    by true rest = ap (λ (l : List ℕ). x.bytes ++ l) rest ∙ sym (append_assoc x.bytes (put_to b calls) (if call.peer.0 == b then call.bytes else []))
    by false rest = rest

-- what an edge hears a peer with
abbrev pub receiver_part : ConnectionState → Receiver
receiver_part kept = kept.receiver

-- ---- an edge at work for a peer

-- from a state and the calls before: what was told since, and that nothing else was put or is heard with otherwise
pub record At (plan : Plan) (me peer : ℕ) (start : IndepState) (before : List LinkCall) (out : List StatusMessage) (edge : IndepState) (calls : List LinkCall) : Type 0 where
  pub said : put_to peer calls ≡ put_to peer before ++ octets_told plan me out
  pub others : (b : ℕ) → (b == peer) ≡ false → put_to b calls ≡ put_to b before
  pub receivers : (b : ℕ) → option_map receiver_part (edge.connection b) ≡ option_map receiver_part (start.connection b)
  pub small : (p id : ℕ) → option_map id_next (edge.connection p) ≡ Some id → id < 2 ^ 32
  pub told : AreTold plan out

pub record Does (plan : Plan) (me peer : ℕ) (start : IndepState) (before : List LinkCall) (t : StatusWork) (o : IndepOutcome) : Type 0 where
  pub edge : IndepState
  pub calls : List LinkCall
  pub out : List StatusMessage
  pub is : o ≡ Goes edge calls
  pub statuses : t ≡ record { edge = statuses_of edge; out = out }
  pub at : At plan me peer start before out edge calls

pub at_first : (plan : Plan) (me peer : ℕ) (start edge : IndepState) (calls : List LinkCall) → ((b : ℕ) → option_map receiver_part (edge.connection b) ≡ option_map receiver_part (start.connection b))
    → ((p id : ℕ) → option_map id_next (edge.connection p) ≡ Some id → id < 2 ^ 32) → At plan me peer start calls [] edge calls
at_first plan me peer start edge calls receivers small = record { said = sym (append-nil (put_to peer calls)); others = λ b away. refl; receivers = receivers; small = small; told = tt }

module _ (plan : Plan) (me peer : ℕ) (start : IndepState) (before : List LinkCall) where
  -- what the edge calls a wire is told
  tell_does : (k : ℕ) (row : WirePlan) (out : List StatusMessage) (edge : IndepState) (calls : List LinkCall) → slice_get plan.wires k ≡ Some row → At plan me peer start before out edge calls
      → Does plan me peer start before (exchange.exchange_tells peer k (record { edge = statuses_of edge; out = out })) (tells plan takes_all me (edge_numbered peer) k edge calls)
  unfolding with_connection
  tell_does k row out edge calls row_is at_now = by (edge.connection peer) refl
    where
      by_row : tells plan takes_all me (edge_numbered peer) k edge calls ≡ independent_tells_by plan takes_all me (edge_numbered peer) k row (edge.connection peer) edge calls
      by_row = ap (λ (o : Option WirePlan). tells_in plan takes_all me (edge_numbered peer) k o edge calls) row_is

      by : (o : Option ConnectionState) → edge.connection peer ≡ o
          → Does plan me peer start before (exchange.exchange_tells peer k (record { edge = statuses_of edge; out = out })) (tells plan takes_all me (edge_numbered peer) k edge calls)
      by None is = record {
        edge = edge;
        calls = calls;
        out = out;
        is = by_row ∙ ap (λ (o : Option ConnectionState). independent_tells_by plan takes_all me (edge_numbered peer) k row o edge calls) is;
        statuses = ap (λ (o : Option ConnectionState). exchange.tells_as peer k (option_map id_next o) (record { edge = statuses_of edge; out = out })) is;
        at = at_now;
      }
      by (Some kept) is =
          let telling : StatusMessage = record { wire = k; wish = edge.local k; id = kept.next_id } in
          let octets = octets_on plan me row (edge.local k) kept.next_id in
          let call = call_of (edge_numbered peer) false octets true in
          let number : kept.next_id < 2 ^ 32 = at_now.small peer kept.next_id (ap (option_map id_next) is) in
          record {
            edge = with_connection peer (Some (spoken_once kept)) edge;
            calls = calls ++ call ∷ [];
            out = out ++ telling ∷ [];
            is = by_row ∙ ap (λ (o : Option ConnectionState). independent_tells_by plan takes_all me (edge_numbered peer) k row o edge calls) is;
            statuses = ap (λ (o : Option ConnectionState). exchange.tells_as peer k (option_map id_next o) (record { edge = statuses_of edge; out = out })) is
                ∙ (λ i. record { edge = record (statuses_of edge) { next = λ p. next_is p (p == peer) i }; out = out ++ telling ∷ [] });
            at = record {
              said = said_one peer calls call ∙ (rw (same_number peer) (ap (λ (l : List ℕ). l ++ octets) at_now.said ∙ (append_assoc (put_to peer before) (octets_told plan me out) octets
                  ∙ ap (λ (l : List ℕ). put_to peer before ++ l)
                  (ap (λ (l : List ℕ). octets_told plan me out ++ l) (sym (append-nil octets) ∙ ap (λ (o : Option WirePlan). octets_in_row plan me telling o ++ []) (sym row_is))
                  ∙ sym (told_both plan me out (telling ∷ []))))));
              others = λ b away. said_one b calls call ∙ rw (equal_turned peer b ∙ away) (append-nil (put_to b calls) ∙ at_now.others b away);
              receivers = λ b. receiver_is kept is b (b == peer) refl ∙ at_now.receivers b;
              small = λ p id. small_is kept number p id (p == peer);
              told = are_both plan out (telling ∷ []) at_now.told (record { row = row; row_is = row_is; small = number }, tt);
            };
          }
        where
          next_is : (p : ℕ) (b : Bool) → (if b then Some (following kept.next_id) else option_map id_next (edge.connection p))
              ≡ option_map id_next (if b then Some (spoken_once kept) else edge.connection p)
          next_is p true = refl
          next_is p false = refl

          same : (p : ℕ) → (p == peer) ≡ true → p ≡ peer
          same p e = grind (arith, nat_tests)

          receiver_is : (kept : ConnectionState) → edge.connection peer ≡ Some kept → (p : ℕ) (b : Bool) → (p == peer) ≡ b
              → option_map receiver_part (if b then Some (spoken_once kept) else edge.connection p) ≡ option_map receiver_part (edge.connection p)
          receiver_is kept is p true e = ap (option_map receiver_part) (sym is) ∙ ap (λ (n : ℕ). option_map receiver_part (edge.connection n)) (sym (same p e))
          receiver_is kept is p false e = refl

          small_is : (kept : ConnectionState) → kept.next_id < 2 ^ 32 → (p id : ℕ) (b : Bool) → option_map id_next (if b then Some (spoken_once kept) else edge.connection p) ≡ Some id → id < 2 ^ 32
          small_is kept number p id true e = let is_id : following kept.next_id ≡ id = cc (e) in subst (λ (n : ℕ). n < 2 ^ 32) is_id (following_small kept.next_id number)
          small_is kept number p id false e = at_now.small p id e

  -- all wires with the peer are told
  all_do : IsChecked plan → (k n : ℕ) (out : List StatusMessage) (edge : IndepState) (calls : List LinkCall) → At plan me peer start before out edge calls
      → Does plan me peer start before (exchange.exchange_tells_from (wiring plan) me peer k n (record { edge = statuses_of edge; out = out })) (tells_from plan takes_all me (edge_numbered peer) k n edge calls)
  all_do checked k zero out edge calls at_now = record { edge = edge; calls = calls; out = out; is = refl; statuses = refl; at = at_now }
  all_do checked k (suc n) out edge calls at_now = by (is_between plan k me peer) refl (λ o e c a. all_do checked (k + 1) n o e c a)
    where
      by : (b : Bool) → is_between plan k me peer ≡ b
          → ((o : List StatusMessage) (e : IndepState) (c : List LinkCall) → At plan me peer start before o e c
          → Does plan me peer start before (exchange.exchange_tells_from (wiring plan) me peer (k + 1) n (record { edge = statuses_of e; out = o })) (tells_from plan takes_all me (edge_numbered peer) (k + 1) n e c))
          → Does plan me peer start before (exchange.exchange_tells_from (wiring plan) me peer (k + 1) n
          (if b then exchange.exchange_tells peer k (record { edge = statuses_of edge; out = out }) else record { edge = statuses_of edge; out = out }))
          (and_works (if b then tells plan takes_all me (edge_numbered peer) k edge calls else Goes edge calls) (λ e c. tells_from plan takes_all me (edge_numbered peer) (k + 1) n e c))
      by true is again =
          let two = between_two plan k me peer checked is in
          let d = tell_does k two.row out edge calls two.row_is at_now in
          let r = again d.out d.edge d.calls d.at in
          record {
            edge = r.edge;
            calls = r.calls;
            out = r.out;
            is = ap (λ (o : IndepOutcome). and_works o (λ e c. tells_from plan takes_all me (edge_numbered peer) (k + 1) n e c)) d.is ∙ r.is;
            statuses = ap (exchange.exchange_tells_from (wiring plan) me peer (k + 1) n) d.statuses ∙ r.statuses;
            at = r.at;
          }
      by false is again = again out edge calls at_now

-- ---- the calls

receivers_same : (edge : IndepState) (b : ℕ) → option_map receiver_part (edge.connection b) ≡ option_map receiver_part (edge.connection b)
receivers_same edge b = refl

-- a status is heard
pub hear_does : (plan : Plan) (me peer k : ℕ) (row : WirePlan) (wish : Wish) (id : ℕ) (edge : IndepState) (calls : List LinkCall) → IsChecked plan → slice_get plan.wires k ≡ Some row
    → is_between plan k me peer ≡ true
    → ((p n : ℕ) → option_map id_next (edge.connection p) ≡ Some n → n < 2 ^ 32)
    → Does plan me peer edge calls (exchange.exchange_hears peer k (status_of wish) (statuses_of edge)) (independent_hears_message plan takes_all me (edge_numbered peer) (notification row peer wish id) edge calls)
unfolding with_local with_remote
hear_does plan me peer k row wish id edge calls checked row_is joined small = record { edge = d.edge; calls = d.calls; out = d.out; is = named ∙ d.is; statuses = d.statuses; at = d.at }
  where
    named : independent_hears_message plan takes_all me (edge_numbered peer) (notification row peer wish id) edge calls ≡ independent_hears_status plan takes_all me (edge_numbered peer) k (status_of wish) edge calls
    named = ap (λ (o : Option ℕ). hears_of plan takes_all me (edge_numbered peer) (status_of wish) o edge calls) (named_is plan me peer k row checked row_is joined)

    first : At plan me peer edge calls [] (learns k (status_of wish) edge) calls
    first = at_first plan me peer edge (learns k (status_of wish) edge) calls (receivers_same edge) small

    by : (b : Bool) → Does plan me peer edge calls
        (if b then exchange.exchange_tells peer k (silent (exchange.exchange_learns k (status_of wish) (statuses_of edge))) else silent (exchange.exchange_learns k (status_of wish) (statuses_of edge)))
        (if b then tells plan takes_all me (edge_numbered peer) k (learns k (status_of wish) edge) calls else Goes (learns k (status_of wish) edge) calls)
    by true = tell_does plan me peer edge calls k row [] (learns k (status_of wish) edge) calls row_is first
    by false = record { edge = learns k (status_of wish) edge; calls = calls; out = []; is = refl; statuses = refl; at = first }

    d : Does plan me peer edge calls (exchange.exchange_hears peer k (status_of wish) (statuses_of edge)) (independent_hears_status plan takes_all me (edge_numbered peer) k (status_of wish) edge calls)
    d = by (is_status_told (status_of wish) (edge.local k))

-- a wire is called something else
pub set_does : (plan : Plan) (me peer k : ℕ) (row : WirePlan) (wish : Wish) (edge : IndepState) (calls : List LinkCall) → slice_get plan.wires k ≡ Some row → other_end plan me k ≡ Some (edge_numbered peer)
    → is_same_wish (edge.local k) wish ≡ false → ((p n : ℕ) → option_map id_next (edge.connection p) ≡ Some n → n < 2 ^ 32)
    → Does plan me peer edge calls (exchange.exchange_sets peer k wish (statuses_of edge)) (sets plan takes_all me k wish edge calls)
unfolding with_local
set_does plan me peer k row wish edge calls row_is other away small =
    let first : At plan me peer edge calls [] (with_local k wish edge) calls = at_first plan me peer edge (with_local k wish edge) calls (receivers_same edge) small in
    let d = tell_does plan me peer edge calls k row [] (with_local k wish edge) calls row_is first in
    record { edge = d.edge; calls = d.calls; out = d.out; is = rw (away, other) d.is; statuses = d.statuses; at = d.at }

-- a connection stands
pub connect_does : (plan : Plan) (me peer : ℕ) (edge : IndepState) (calls : List LinkCall) → IsChecked plan → ((p n : ℕ) → option_map id_next (edge.connection p) ≡ Some n → n < 2 ^ 32)
    → Does plan me peer (with_connection peer (Some fresh_connection) edge) calls (exchange.exchange_connects (wiring plan) me peer (statuses_of edge)) (independent_connects plan takes_all me (edge_numbered peer) edge calls)
unfolding with_connection
connect_does plan me peer edge calls checked small =
    let up = with_connection peer (Some fresh_connection) edge in
    let first : At plan me peer up calls [] up calls = at_first plan me peer up up calls (receivers_same up) (λ p n. number p n (p == peer)) in
    let d = all_do plan me peer up calls checked 0 (length plan.wires) [] up calls first in
    record {
      edge = d.edge;
      calls = d.calls;
      out = d.out;
      is = d.is;
      statuses = ap (λ (e : EdgeStatuses). exchange.exchange_tells_from (wiring plan) me peer 0 (length plan.wires) (silent e))
          (λ i. record (statuses_of edge) { next = λ p. next_is p (p == peer) i }) ∙ d.statuses;
      at = d.at;
    }
  where
    next_is : (p : ℕ) (b : Bool) → (if b then Some 1 else option_map id_next (edge.connection p)) ≡ option_map id_next (if b then Some fresh_connection else edge.connection p)
    next_is p true = refl
    next_is p false = refl

    number : (p n : ℕ) (b : Bool) → option_map id_next (if b then Some fresh_connection else edge.connection p) ≡ Some n → n < 2 ^ 32
    number p n true e = let one : 1 ≡ n = cc (e) in omega (arith, one)
    number p n false e = small p n e
