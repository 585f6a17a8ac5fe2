-- An event changes what may be delivered only between two edges of which its entries tell, or which it sets.
use Rattle.std.proofs.Common.{◌≡◌, ◌<◌, ◌+◌, ◌++◌, ◌&&◌, ◌||◌, ◌∙◌, drop, take, subst, ℕ, zero, suc, Bool, true, false, not, List, [], ◌∷◌, Option, Some, None, cond, refl, ap, sym, nat_eq, length, inl, inr}
use Rattle.std.proofs.lemmas.Bool.{cases_Bool, eqb-true, and_parts, or_parts, or_from}
use Rattle.net_values.proofs.BoolLemmas.{and_turned, second_fails_of_both}
use Rattle.net_values.proofs.NumberLemmas.{same_number}
use Rattle.net_base.specs.declared.plan.Plan.{Plan}
use Rattle.net_base.specs.declared.plan.circuit_plan.CircuitPlan.{CircuitPlan}
use Rattle.net_base.specs.declared.plan.places.CircuitId.{CircuitId}
use Rattle.net_base.specs.declared.plan.places.EdgeId.{EdgeId}
use Rattle.net_base.specs.declared.trace.entry.Entry.{Entry}
use Rattle.net_base.specs.declared.trace.entry.Entry.TheVariants as entry
use Rattle.net_base.specs.declared.trace.event.Event.{Event}
use Rattle.net_base.specs.declared.trace.event.Event.TheVariants as event
use Rattle.net_base.specs.plan.Places.{circuit_row}
use Rattle.edge_model.specs.declared.effect.Effect.{Effect}
use Rattle.edge_model.specs.declared.effect.Effect.TheVariants as effect
use Rattle.edge_model.specs.Circuit.{circuit_input}
use Rattle.edge_model.specs.State.{EdgeState, is_there, with_kept}
use Rattle.edge_model.specs.Tick.{tick_input}
use Rattle.edge_model.specs.Wire.{priority_input, status_input, wire_input}
use Rattle.edge_model.specs.Work.{Work, changes}
use Rattle.edge_model.proofs.SessionLemmas.{are_all}
use Rattle.network_model.specs.Age.{aged_entries}
use Rattle.network_model.specs.Absorb.{Stepped, absorb, absorb_all, absorb_one, all_entries_of, answer, begin_at, entries_told, idle, taken_all}
use Rattle.network_model.specs.Circuit.{circuit_event}
use Rattle.network_model.specs.Connection.{can_connect, connect_event, connected_work, connecting, deliver_event, delivering, hearing_work, is_deliverable, is_drained_pipe, lose_event, losing, losing_work, restart_event}
use Rattle.network_model.specs.Frame.{entering, frame_event, frame_work, next_origin}
use Rattle.network_model.specs.Ping.{ping_work}
use Rattle.network_model.specs.declared.packet.Packet.{Packet}
use Rattle.network_model.specs.Packet.{again_event, arrive_event, arriving, discard_event, packet_at, packet_work}
use Rattle.network_model.specs.State.{NetworkState, edge_at, stands, with_copy, with_edge, with_frame, with_older, with_packet, with_pipe, without_octets_to, without_packet}
use Rattle.network_model.specs.Step.{brings, step}
use Rattle.network_model.specs.Tick.{tick_at, tick_event, ticks_from}
use Rattle.network_model.proofs.AbsorbLemmas.{all_keep}
use Rattle.psn_net.specs.DeliveryIndex.{IsIndexed, IsIndexedBeside, is_pair, changes_between, is_told_between, is_told_by, is_with, may_change}
use Rattle.psn_net.specs.PairIndex.{IndexLists}
use Rattle.psn_net.specs.Lists.{NetLists, network_seen}
use Rattle.psn_net.proofs.TellingLemmas.{TellsAll, circuit_tells, connected_tells, frame_tells, is_silent, leaves_open, lost_tells, octets_tell, packet_tells, ping_tells, priority_tells, status_tells, tells_all, tick_tells, wire_tells}

-- between two edges all is as it was: what stands, and what is on its way from the first one to the second
pub record IsKeptAt (i j : ℕ) (old now : NetworkState) : Type 0 where
  pub there : stands now i j ≡ stands old i j
  pub back : stands now j i ≡ stands old j i
  pub pipe : now.pipes i j ≡ old.pipes i j

-- it is where no entry tells of them
abbrev pub KeepsUntold : ℕ → ℕ → NetworkState → Stepped → Type 0
KeepsUntold i j n stepped = is_told_between stepped.entries i j ≡ false → IsKeptAt i j n stepped.state

stays_at : (i j : ℕ) (n : NetworkState) → IsKeptAt i j n n
stays_at i j n = record { there = refl; back = refl; pipe = refl }

then_at : (i j : ℕ) (a b c : NetworkState) → IsKeptAt i j a b → IsKeptAt i j b c → IsKeptAt i j a c
then_at i j a b c first next = record { there = next.there ∙ first.there; back = next.back ∙ first.back; pipe = next.pipe ∙ first.pipe }

-- ---- tests

or_swap : (a b : Bool) → a || b ≡ b || a
or_swap true true = refl
or_swap true false = refl
or_swap false true = refl
or_swap false false = refl

-- ---- what entries tell of two edges they tell in either order

pair_swap : (one other i j : ℕ) → is_pair one other j i ≡ is_pair one other i j
pair_swap one other i j = by (nat_eq j one) (nat_eq i other) (nat_eq j other) (nat_eq i one) where
  by : (p q r s : Bool) → (p && q) || (r && s) ≡ (s && r) || (q && p)
  by p q r s = or_swap (p && q) (r && s) ∙ (ap (λ (x : Bool). x || (p && q)) (and_turned r s) ∙ ap (λ (x : Bool). (s && r) || x) (and_turned p q))

told_by_swap : (e : Entry) (i j : ℕ) → is_told_by e j i ≡ is_told_by e i j
told_by_swap (entry.Said from to octets) i j = pair_swap from.0 to.0 i j
told_by_swap (entry.Session edge peer state) i j = pair_swap edge.0 peer.0 i j
told_by_swap e i j = refl

told_swap : (es : List Entry) (i j : ℕ) → is_told_between es j i ≡ is_told_between es i j
told_swap [] i j = refl
told_swap (e ∷ es) i j = ap (λ (b : Bool). b || is_told_between es j i) (told_by_swap e i j) ∙ ap (λ (b : Bool). is_told_by e i j || b) (told_swap es i j)

-- what joined entries do not tell, neither part does
untold_both : (xs ys : List Entry) (i j : ℕ) → is_told_between (xs ++ ys) i j ≡ false → (is_told_between xs i j ≡ false) × (is_told_between ys i j ≡ false)
untold_both [] ys i j h = (refl, h)
untold_both (x ∷ xs) ys i j h =
    let first = or_parts (is_told_by x i j) (is_told_between (xs ++ ys) i j) h in
    let rest = untold_both xs ys i j first.1 in
    (or_from (is_told_by x i j) (is_told_between xs i j) first.0 rest.0, rest.1)

-- ---- an edge's work goes into the network

-- where the entries of an edge tell nothing of it and a peer, the edge was silent towards the peer
not_told : (me peer k : ℕ) → is_pair me peer me k ≡ false → nat_eq k peer ≡ false
not_told me peer k h = second_fails_of_both (nat_eq me me) (nat_eq k peer) (same_number me) (or_parts (nat_eq me me && nat_eq k peer) (nat_eq me peer && nat_eq k me) h).0

silent_to : (me : EdgeId) (k origin hops : ℕ) (es : List Effect) (n : NetworkState) → is_told_between (all_entries_of me origin hops es n) me.0 k ≡ false → are_all (is_silent k) es ≡ true
silent_to me k origin hops [] n none = refl
silent_to me k origin hops (effect.Said peer octets ∷ es) n none =
    let next : NetworkState = absorb_one me origin hops (effect.Said peer octets) n in
    let both = or_parts (is_pair me.0 peer.0 me.0 k) (is_told_between (all_entries_of me origin hops es next) me.0 k) none in
    let away : nat_eq k peer.0 ≡ false = not_told me.0 peer.0 k both.0 in
    rw away (silent_to me k origin hops es next both.1)
silent_to me k origin hops (effect.Session peer state ∷ es) n none =
    let both = or_parts (is_pair me.0 peer.0 me.0 k) (is_told_between (all_entries_of me origin hops es n) me.0 k) none in
    let away : nat_eq k peer.0 ≡ false = not_told me.0 peer.0 k both.0 in
    rw away (silent_to me k origin hops es n both.1)
silent_to me k origin hops (e ∷ es) n none = silent_to me k origin hops es (absorb_one me origin hops e n) none

silent_at : (me : EdgeId) (origin hops : ℕ) (es : List Effect) (n : NetworkState) (i j : ℕ) → is_told_between (all_entries_of me origin hops es n) i j ≡ false → nat_eq i me.0 ≡ true
    → are_all (is_silent j) es ≡ true
silent_at me origin hops es n i j none here =
    silent_to me j origin hops es n (ap (λ (k : ℕ). is_told_between (all_entries_of me origin hops es n) k j) (sym (eqb-true i me.0 here)) ∙ none)

-- ---- what is on its way

pipe_apart : (from to : EdgeId) (octets : List ℕ) (n : NetworkState) (i j : ℕ) → nat_eq i from.0 && nat_eq j to.0 ≡ false → (with_pipe from to octets n).pipes i j ≡ n.pipes i j
unfolding with_pipe
pipe_apart from to octets n i j h = elim (cases_Bool (nat_eq i from.0)) [
  | inl here ↦
      (let away : nat_eq j to.0 ≡ false = second_fails_of_both (nat_eq i from.0) (nat_eq j to.0) here h in
      rw here (rw away (ap (λ (k : ℕ). n.pipes k j) (sym (eqb-true i from.0 here)))))
  | inr other ↦ rw other refl
]

first_apart : (one other i j : ℕ) → is_pair one other i j ≡ false → nat_eq i one && nat_eq j other ≡ false
first_apart one other i j h = (or_parts (nat_eq i one && nat_eq j other) (nat_eq i other && nat_eq j one) h).0

not_closing : (a b : Bool) → (b ≡ true → not a ≡ true) → a && b ≡ false
not_closing true true h = let wrong : false ≡ true = h refl in absurd (cc (wrong))
not_closing true false h = refl
not_closing false b h = refl

one_pipe : (me : EdgeId) (origin hops : ℕ) (e : Effect) (n : NetworkState) (i j : ℕ) → is_told_between (entries_told me origin hops e n) i j ≡ false → (nat_eq j me.0 ≡ true → leaves_open i e ≡ true)
    → (absorb_one me origin hops e n).pipes i j ≡ n.pipes i j
unfolding with_packet
one_pipe me origin hops (effect.Said peer octets) n i j none leaves = by (stands n peer.0 me.0) where
  apart : nat_eq i me.0 && nat_eq j peer.0 ≡ false
  apart = first_apart me.0 peer.0 i j (or_parts (is_pair me.0 peer.0 i j) false none).0

  by : (b : Bool) → (cond b (with_pipe me peer (n.pipes me.0 peer.0 ++ octets) n) n).pipes i j ≡ n.pipes i j
  by true = pipe_apart me peer (n.pipes me.0 peer.0 ++ octets) n i j apart
  by false = refl
one_pipe me origin hops (effect.Sent peer wire came octets) n i j none leaves = refl
one_pipe me origin hops (effect.Closed peer) n i j none leaves = pipe_apart peer me [] n i j (not_closing (nat_eq i peer.0) (nat_eq j me.0) leaves)
one_pipe me origin hops e n i j none leaves = refl

all_pipes : (me : EdgeId) (origin hops : ℕ) (es : List Effect) (n : NetworkState) (i j : ℕ) → is_told_between (all_entries_of me origin hops es n) i j ≡ false
    → (nat_eq j me.0 ≡ true → are_all (leaves_open i) es ≡ true) → (absorb_all me origin hops es n).pipes i j ≡ n.pipes i j
all_pipes me origin hops [] n i j none leaves = refl
all_pipes me origin hops (e ∷ es) n i j none leaves =
    let next : NetworkState = absorb_one me origin hops e n in
    let both = untold_both (entries_told me origin hops e n) (all_entries_of me origin hops es next) i j none in
    all_pipes me origin hops es next i j both.1 (λ here. (and_parts (leaves_open i e) (are_all (leaves_open i) es) (leaves here)).1)
    ∙ one_pipe me origin hops e n i j both.0 (λ here. (and_parts (leaves_open i e) (are_all (leaves_open i) es) (leaves here)).0)

-- ---- what stands

stood : (me : EdgeId) (work : Work) (n : NetworkState) (i j : ℕ) → TellsAll (n.edges me.0) work → (nat_eq i me.0 ≡ true → are_all (is_silent j) work.effects ≡ true)
    → stands (with_edge me work.edge n) i j ≡ stands n i j
unfolding with_edge
stood me work n i j tells silent = elim (cases_Bool (nat_eq i me.0)) [
  | inl here ↦ rw here (tells.there j (silent here) ∙ ap (λ (k : ℕ). is_there ((n.edges k).peering j)) (sym (eqb-true i me.0 here)))
  | inr away ↦ rw away refl
]

absorb_at : (me : EdgeId) (origin hops : ℕ) (work : Work) (n : NetworkState) (i j : ℕ) → TellsAll (n.edges me.0) work → KeepsUntold i j n (absorb me origin hops work n)
unfolding with_edge
absorb_at me origin hops work n i j tells none = record {
  there = edges i j ∙ stood me work n i j tells (silent_at me origin hops work.effects driven i j none);
  back = edges j i ∙ stood me work n j i tells (silent_at me origin hops work.effects driven j i swapped);
  pipe = all_pipes me origin hops work.effects driven i j none (λ here. tells.leaves i (silent_at me origin hops work.effects driven j i swapped here));
} where
  driven : NetworkState
  driven = with_edge me work.edge n

  swapped : is_told_between (all_entries_of me origin hops work.effects driven) j i ≡ false
  swapped = told_swap (all_entries_of me origin hops work.effects driven) i j ∙ none

  edges : (a b : ℕ) → stands (absorb_all me origin hops work.effects driven) a b ≡ stands driven a b
  edges a b = ap (λ (states : ℕ → EdgeState). is_there ((states a).peering b)) (all_keep me origin hops work.effects driven).edges

answer_at : (me : EdgeId) (origin hops : ℕ) (work : Work) (n : NetworkState) (i j : ℕ) → TellsAll (n.edges me.0) work → KeepsUntold i j n (answer me origin hops work n)
answer_at me origin hops work n i j tells = by work.idle where
  by : (b : Bool) → KeepsUntold i j n (cond b (idle n) (absorb me origin hops work n))
  by true = λ none. stays_at i j n
  by false = absorb_at me origin hops work n i j tells

-- ---- connections

connecting_at : (from to : EdgeId) (first second : Work) (n : NetworkState) (i j : ℕ) → TellsAll (n.edges from.0) first → TellsAll (n.edges to.0) second
    → KeepsUntold i j n (connecting from first to second n)
unfolding with_edge
connecting_at from to first second n i j one other none = record {
  there = edges i j ∙ both_stood i j (silent_at from 0 0 first.effects both i j parts.0) (silent_at to 0 0 second.effects given i j parts.1);
  back = edges j i ∙ both_stood j i (silent_at from 0 0 first.effects both j i first_swapped) (silent_at to 0 0 second.effects given j i second_swapped);
  pipe = all_pipes to 0 0 second.effects given i j parts.1 (λ here. other.leaves i (silent_at to 0 0 second.effects given j i second_swapped here))
      ∙ all_pipes from 0 0 first.effects both i j parts.0 (λ here. one.leaves i (silent_at from 0 0 first.effects both j i first_swapped here));
} where
  both : NetworkState
  both = with_edge to second.edge (with_edge from first.edge n)

  given : NetworkState
  given = absorb_all from 0 0 first.effects both

  parts : (is_told_between (all_entries_of from 0 0 first.effects both) i j ≡ false) × (is_told_between (all_entries_of to 0 0 second.effects given) i j ≡ false)
  parts = untold_both (all_entries_of from 0 0 first.effects both) (all_entries_of to 0 0 second.effects given) i j none

  first_swapped : is_told_between (all_entries_of from 0 0 first.effects both) j i ≡ false
  first_swapped = told_swap (all_entries_of from 0 0 first.effects both) i j ∙ parts.0

  second_swapped : is_told_between (all_entries_of to 0 0 second.effects given) j i ≡ false
  second_swapped = told_swap (all_entries_of to 0 0 second.effects given) i j ∙ parts.1

  edges : (a b : ℕ) → stands (absorb_all to 0 0 second.effects given) a b ≡ stands both a b
  edges a b =
      ap (λ (states : ℕ → EdgeState). is_there ((states a).peering b)) (all_keep to 0 0 second.effects given).edges
      ∙ ap (λ (states : ℕ → EdgeState). is_there ((states a).peering b)) (all_keep from 0 0 first.effects both).edges

  both_stood : (a b : ℕ) → (nat_eq a from.0 ≡ true → are_all (is_silent b) first.effects ≡ true) → (nat_eq a to.0 ≡ true → are_all (is_silent b) second.effects ≡ true) → stands both a b ≡ stands n a b
  both_stood a b h g = elim (cases_Bool (nat_eq a to.0)) [
    | inl here ↦ rw here (other.there b (g here) ∙ ap (λ (k : ℕ). is_there ((n.edges k).peering b)) (sym (eqb-true a to.0 here)))
    | inr away ↦ rw away (stood from first n a b one h)
  ]

connect_at : (plan : Plan) (from to : EdgeId) (n : NetworkState) (i j : ℕ) → KeepsUntold i j n (connect_event plan from to n)
connect_at plan from to n i j = by (can_connect plan n from.0 to.0) where
  first : Work
  first = connected_work plan n from to

  second : Work
  second = connected_work plan n to from

  by : (b : Bool) → KeepsUntold i j n (cond b (connecting from first to second n) (idle n))
  by true = connecting_at from to first second n i j
      (tells_all (n.edges from.0) first (λ k. connected_tells plan taken_all k to (begin_at n from)))
      (tells_all (n.edges to.0) second (λ k. connected_tells plan taken_all k from (begin_at n to)))
  by false = λ none. stays_at i j n

losing_at : (plan : Plan) (me peer : EdgeId) (n : NetworkState) (i j : ℕ) → KeepsUntold i j n (losing plan me peer n)
losing_at plan me peer n i j =
    absorb_at me 0 0 (losing_work plan n me peer) n i j (tells_all (n.edges me.0) (losing_work plan n me peer) (λ k. lost_tells plan taken_all k peer (begin_at n me)))

lose_at : (plan : Plan) (me peer : EdgeId) (n : NetworkState) (i j : ℕ) → KeepsUntold i j n (lose_event plan me peer n)
lose_at plan me peer n i j = by (stands n me.0 peer.0) where
  by : (b : Bool) → KeepsUntold i j n (cond b (losing plan me peer n) (idle n))
  by true = losing_at plan me peer n i j
  by false = λ none. stays_at i j n

piped_at : (from to : EdgeId) (octets : List ℕ) (n : NetworkState) (i j : ℕ) → is_pair from.0 to.0 i j ≡ false → IsKeptAt i j n (with_pipe from to octets n)
unfolding with_pipe
piped_at from to octets n i j apart = record { there = refl; back = refl; pipe = pipe_apart from to octets n i j (first_apart from.0 to.0 i j apart) }

delivering_at : (plan : Plan) (from to : EdgeId) (count : ℕ) (n : NetworkState) (i j : ℕ) → is_pair from.0 to.0 i j ≡ false → KeepsUntold i j n (delivering plan from to count n)
unfolding with_pipe
delivering_at plan from to count n i j apart none =
    then_at i j n rest (delivering plan from to count n).state (piped_at from to (drop count (n.pipes from.0 to.0)) n i j apart)
    (absorb_at to 0 0 work rest i j (tells_all (n.edges to.0) work (λ k. octets_tell plan taken_all k from octets ((edge_at n to).peering from.0) (begin_at n to))) none)
  where
    octets : List ℕ
    octets = take count (n.pipes from.0 to.0)

    work : Work
    work = hearing_work plan n from to octets

    rest : NetworkState
    rest = with_pipe from to (drop count (n.pipes from.0 to.0)) n

deliver_at : (plan : Plan) (from to : EdgeId) (count : ℕ) (n : NetworkState) (i j : ℕ) → is_pair from.0 to.0 i j ≡ false → KeepsUntold i j n (deliver_event plan from to count n)
deliver_at plan from to count n i j apart = by (is_deliverable n from.0 to.0) (is_drained_pipe n from.0 to.0) where
  by : (a b : Bool) → KeepsUntold i j n (cond a (cond b (losing plan to from n) (delivering plan from to count n)) (idle n))
  by false b = λ none. stays_at i j n
  by true true = losing_at plan to from n i j
  by true false = delivering_at plan from to count n i j apart

-- a restart tells nothing
restart_at : (me : EdgeId) (n : NetworkState) (i j : ℕ) → is_with me.0 i j ≡ false → IsKeptAt i j n (restart_event me n).state
unfolding changes with_edge with_kept without_octets_to
restart_at me n i j apart =
    let both = or_parts (nat_eq i me.0) (nat_eq j me.0) apart in
    record { there = rw both.0 refl; back = rw both.1 refl; pipe = rw both.1 refl }

-- ---- ticks, frames, circuits and packets

ticks_at : (plan : Plan) (place count : ℕ) (n : NetworkState) (i j : ℕ) → KeepsUntold i j n (ticks_from plan place count n)
ticks_at plan place zero n i j none = stays_at i j n
ticks_at plan place (suc count) n i j none =
    let me : EdgeId = record { 0 = place } in
    let work : Work = tick_input plan taken_all (begin_at n me) in
    let ticked : NetworkState = (tick_at plan me n).state in
    let both = untold_both (tick_at plan me n).entries (ticks_from plan (place + 1) count ticked).entries i j none in
    then_at i j n ticked (ticks_from plan place (suc count) n).state
    (absorb_at me 0 0 work n i j (tells_all (n.edges place) work (λ k. tick_tells plan taken_all k (begin_at n me))) both.0)
    (ticks_at plan (place + 1) count ticked i j both.1)

older_at : (n : NetworkState) (i j : ℕ) → IsKeptAt i j n (with_older n)
unfolding with_older
older_at n i j = record { there = refl; back = refl; pipe = refl }

tick_at_all : (plan : Plan) (n : NetworkState) (i j : ℕ) → KeepsUntold i j n (tick_event plan n)
tick_at_all plan n i j none =
    let ticked : Stepped = ticks_from plan 0 (length plan.edges) (with_older n) in
    then_at i j n (with_older n) ticked.state (older_at n i j) (ticks_at plan 0 (length plan.edges) (with_older n) i j (untold_both (aged_entries n.under_way) ticked.entries i j none).1)

frame_at : (plan : Plan) (circuit : CircuitId) (octets : List ℕ) (row : Option CircuitPlan) (n : NetworkState) (i j : ℕ) → KeepsUntold i j n (frame_event plan circuit octets row n)
unfolding with_frame
frame_at plan circuit octets None n i j = λ none. stays_at i j n
frame_at plan circuit octets (Some row) n i j = by work.idle where
  work : Work
  work = frame_work plan n circuit octets row

  entered : KeepsUntold i j n (entering n circuit octets row work)
  entered none =
      then_at i j n (with_frame n) (entering n circuit octets row work).state (record { there = refl; back = refl; pipe = refl })
      (absorb_at row.edge (next_origin n) 0 work (with_frame n) i j
      (tells_all (n.edges row.edge.0) work (λ k. frame_tells plan taken_all k circuit octets (Some row) (begin_at n row.edge))) none)

  by : (b : Bool) → KeepsUntold i j n (cond b (idle n) (entering n circuit octets row work))
  by true = λ none. stays_at i j n
  by false = entered

circuit_at : (plan : Plan) (circuit : CircuitId) (on : Bool) (row : Option CircuitPlan) (n : NetworkState) (i j : ℕ) → KeepsUntold i j n (circuit_event plan circuit on row n)
circuit_at plan circuit on None n i j = λ none. stays_at i j n
circuit_at plan circuit on (Some row) n i j =
    let work : Work = circuit_input plan taken_all circuit on (Some row) (begin_at n row.edge) in
    answer_at row.edge 0 0 work n i j (tells_all (n.edges row.edge.0) work (λ k. circuit_tells plan taken_all k circuit on (Some row) (begin_at n row.edge)))

arrive_at : (plan : Plan) (packet : Option Packet) (n : NetworkState) (i j : ℕ) → KeepsUntold i j n (arrive_event plan packet n)
unfolding without_packet
arrive_at plan None n i j none = stays_at i j n
arrive_at plan (Some packet) n i j none =
    then_at i j n (without_packet packet.number n) (arriving plan packet n).state (record { there = refl; back = refl; pipe = refl })
    (absorb_at packet.to packet.origin packet.hops (packet_work plan n packet) (without_packet packet.number n) i j
    (tells_all (n.edges packet.to.0) (packet_work plan n packet) (λ k. packet_tells plan taken_all k packet.bytes (begin_at n packet.to))) none)

discard_at : (packet : Option Packet) (n : NetworkState) (i j : ℕ) → KeepsUntold i j n (discard_event packet n)
unfolding without_packet
discard_at None n i j none = stays_at i j n
discard_at (Some packet) n i j none = record { there = refl; back = refl; pipe = refl }

again_at : (packet : Option Packet) (n : NetworkState) (i j : ℕ) → KeepsUntold i j n (again_event packet n)
unfolding with_copy
again_at None n i j none = stays_at i j n
again_at (Some packet) n i j none = record { there = refl; back = refl; pipe = refl }

-- ---- every event

brings_at : (plan : Plan) (e : Event) (n : NetworkState) (i j : ℕ) → changes_between e i j ≡ false → KeepsUntold i j n (brings plan e n)
brings_at plan (event.Connect from to) n i j apart = connect_at plan from to n i j
brings_at plan (event.Deliver from to count) n i j apart = deliver_at plan from to count n i j apart
brings_at plan (event.Lose me peer) n i j apart = lose_at plan me peer n i j
brings_at plan (event.Restart me) n i j apart = λ none. restart_at me n i j apart
brings_at plan event.Tick n i j apart = tick_at_all plan n i j
brings_at plan (event.Frame circuit octets) n i j apart = frame_at plan circuit octets (circuit_row plan circuit) n i j
brings_at plan (event.Circuit circuit on) n i j apart = circuit_at plan circuit on (circuit_row plan circuit) n i j
brings_at plan (event.Wire me wire on) n i j apart =
    let work : Work = wire_input plan taken_all wire on (begin_at n me) in
    answer_at me 0 0 work n i j (tells_all (n.edges me.0) work (λ k. wire_tells plan taken_all k wire on (begin_at n me)))
brings_at plan (event.Status me wire bits) n i j apart =
    let work : Work = status_input plan taken_all wire bits (begin_at n me) in
    answer_at me 0 0 work n i j (tells_all (n.edges me.0) work (λ k. status_tells plan taken_all k wire bits (begin_at n me)))
brings_at plan (event.Priority me wire priority) n i j apart =
    let work : Work = priority_input plan taken_all wire priority (begin_at n me) in
    answer_at me 0 0 work n i j (tells_all (n.edges me.0) work (λ k. priority_tells plan taken_all k wire priority (begin_at n me)))
brings_at plan (event.Arrive number) n i j apart = arrive_at plan (packet_at n number) n i j
brings_at plan (event.Discard number) n i j apart = discard_at (packet_at n number) n i j
brings_at plan (event.Again number) n i j apart = again_at (packet_at n number) n i j
brings_at plan (event.Ping me wire) n i j apart =
    answer_at me 0 0 (ping_work plan n me wire) n i j (tells_all (n.edges me.0) (ping_work plan n me wire) (λ k. ping_tells plan taken_all k wire (begin_at n me)))

-- ---- so the index is right beside them

deliverable_at : (old now : NetworkState) (i j : ℕ) → IsKeptAt i j old now → is_deliverable now i j ≡ is_deliverable old i j
deliverable_at old now i j kept =
    ap (λ (b : Bool). b && (not (is_drained_pipe now i j) || not (stands now i j))) kept.back
    ∙ (ap (λ (octets : List ℕ). stands old j i && (not (nat_eq (length octets) 0) || not (stands now i j))) kept.pipe
    ∙ ap (λ (b : Bool). stands old j i && (not (is_drained_pipe old i j) || not b)) kept.there)

dropped : (xs ys : List Entry) → drop (length xs) (xs ++ ys) ≡ ys
dropped [] ys = refl
dropped (x ∷ xs) ys = dropped xs ys

pub indexed_beside : (old now : NetLists) (index : IndexLists) (e : Event) (told : ℕ) → IsIndexed old index → now.plan ≡ old.plan → network_seen now ≡ (step old.plan (network_seen old) e).state
    → now.trace ≡ old.trace ++ (step old.plan (network_seen old) e).entries → told ≡ length old.trace → IsIndexedBeside now index (may_change e (drop told now.trace))
indexed_beside old now index e told indexed planned stepped traced at = record {
  each = λ i j a b h.
      let both = or_parts (changes_between e i j) (is_told_between (drop told now.trace) i j) h in
      indexed.each i j (within i a) (within j b)
      ∙ sym (ap (λ (s : NetworkState). is_deliverable s i j) stepped
      ∙ deliverable_at (network_seen old) (brings old.plan e (network_seen old)).state i j (brings_at old.plan e (network_seen old) i j both.0 (sym (ap (λ (es : List Entry). is_told_between es i j) entries) ∙ both.1)));
} where
  within : (k : ℕ) → k < length now.plan.edges → k < length old.plan.edges
  within k a = subst (λ (p : Plan). k < length p.edges) planned a

  -- behind the entry of the event itself
  entries : drop told now.trace ≡ (step old.plan (network_seen old) e).entries
  entries = ap (λ (k : ℕ). drop k now.trace) at ∙ (ap (λ (es : List Entry). drop (length old.trace) es) traced ∙ dropped old.trace (step old.plan (network_seen old) e).entries)

-- a frame sets no pair
pub indexed_beside_frame : (old now : NetLists) (index : IndexLists) (circuit : CircuitId) (octets : List ℕ) (told : ℕ) → IsIndexed old index → now.plan ≡ old.plan
    → network_seen now ≡ (step old.plan (network_seen old) (event.Frame circuit octets)).state → now.trace ≡ old.trace ++ (step old.plan (network_seen old) (event.Frame circuit octets)).entries → told ≡ length old.trace
    → IsIndexedBeside now index (is_told_between (drop told now.trace))
indexed_beside_frame old now index circuit octets told indexed planned stepped traced at = indexed_beside old now index (event.Frame circuit octets) told indexed planned stepped traced at
