-- Every run of a checked plan keeps the ends of wires bound, and what follows: where both ends stand once an edge has heard the
-- messages on their way to it, and where they stand in a quiet state.
use Rattle.std.proofs.Common.{◌≡◌, ◌&&◌, ◌||◌, ◌∙◌, ℕ, zero, suc, Bool, true, false, not, nat_eq, nat_lt, length, List, [], ◌∷◌, refl, sym, subst, inl, inr, arith}
use Rattle.std.proofs.lemmas.Bool.{cases_Bool, eqb-true}
use Rattle.std.proofs.lemmas.Bool.Decides.{nat_tests}
use Rattle.std.proofs.lemmas.List.Elements.{All-head, All-tail}
use Rattle.std.specs.List.{All, list_any}
use Rattle.net_values.proofs.BoolLemmas.{first_holds, clash, second_holds}
use Rattle.net_values.proofs.NumberLemmas.{none_below}
use Rattle.net_values.proofs.RowLemmas.{empty_of_test}
use Rattle.net_base.specs.declared.plan.Plan.{Plan}
use Rattle.net_base.specs.declared.plan.places.ServiceId.{ServiceId}
use Rattle.net_base.specs.declared.plan.wire_plan.WirePlan.{WirePlan}
use Rattle.net_base.specs.declared.trace.event.Event.{Event}
use Rattle.net_base.specs.declared.trace.event.Event.TheVariants.{Connect, Deliver, Lose, Restart, Tick, Frame, Arrive, Discard, Again, Wire, Circuit, Status, Priority, Ping}
use Rattle.net_base.specs.plan.Accepted.{IsChecked, IsWireOf}
use Rattle.net_base.specs.plan.Paths.{joins}
use Rattle.net_base.specs.plan.Places.{circuit_row}
use Rattle.net_base.specs.plan.Planned.{IsEventOf}
use Rattle.net_base.specs.plan.Roles.{all_below, are_joined_by, is_wire_of}
use Rattle.pw_signalling.specs.End.{LocalPart, Idle, Advertised, Withdrawing}
use Rattle.edge_model.specs.Mend.{is_up_with}
use Rattle.edge_model.proofs.CommonLemmas.{gone_up}
use Rattle.network_model.specs.Calm.{is_drained, is_quiet, is_settled}
use Rattle.network_model.specs.Packet.{packet_at}
use Rattle.network_model.specs.Run.{state_after}
use Rattle.network_model.specs.State.{NetworkState, empty_network, held, stands}
use Rattle.network_model.specs.Step.{brings, step}
use Rattle.flight_laws.specs.Binding.{is_idle, is_unasked, is_withdrawing}
use Rattle.flight_laws.specs.Bound.{AreBound, IsBoundBy, given_of, is_waited_for}
use Rattle.flight_laws.specs.Ends.{HasTypes, IsOrdered, ends_at}
use Rattle.flight_laws.specs.Facts.{flight}
use Rattle.flight_laws.specs.Laws.{BothStand, HasAgreed, IsRun, IsStillBetween, IsUnbound, KeepsToldRule, OfWires, RunsAgreeAfterFlight, RunsSettle, network_after}
use Rattle.flight_laws.specs.Pair.{ArePaired}
use Rattle.flight_laws.specs.Sound.{point_limit}
use Rattle.flight_laws.proofs.BoundConnectLemmas.{connect_bounds, low_end}
use Rattle.flight_laws.proofs.BoundEventLemmas.{Bounds, again_bounds, arrive_bounds, circuit_bounds, deliver_bounds, discard_bounds, frame_bounds, lose_bounds, restart_bounds, priority_bounds, status_bounds, wire_bounds, ping_bounds}
use Rattle.flight_laws.proofs.TickBindingLemmas.{tick_bounds}
use Rattle.flight_laws.proofs.PlanLemmas.{both_in}
use Rattle.flight_laws.proofs.RuledNetworkLemmas.{IsRuledNetwork}
use Rattle.flight_laws.proofs.RuledRunLemmas.{brings_ruled, empty_ruled, keeps_told_rule}
use Rattle.flight_laws.proofs.RunLemmas.{both_apart, empty_ordered, none_said, run_ordered, runs_come_up, step_keeps}

-- ---- runs

brings_bounds : (plan : Plan) (event : Event) (network : NetworkState) → IsChecked plan → HasTypes plan → IsEventOf plan event → IsOrdered plan network → IsRuledNetwork plan network
    → KeepsToldRule plan network → Bounds plan network → Bounds plan (brings plan event network).state
brings_bounds plan (Connect from to) network checked types planned ordered ruled told bounds = connect_bounds plan from to network checked types ordered bounds
brings_bounds plan (Deliver from to count) network checked types planned ordered ruled told bounds = deliver_bounds plan from to count network checked types ordered bounds told
brings_bounds plan (Lose me peer) network checked types planned ordered ruled told bounds = lose_bounds plan me peer network checked types ordered bounds
brings_bounds plan (Restart me) network checked types planned ordered ruled told bounds = restart_bounds plan me network bounds
brings_bounds plan Tick network checked types planned ordered ruled told bounds = tick_bounds plan network checked types ordered ruled bounds
brings_bounds plan (Frame circuit octets) network checked types planned ordered ruled told bounds = frame_bounds plan circuit octets (circuit_row plan circuit) network checked types ordered bounds
brings_bounds plan (Circuit circuit on) network checked types planned ordered ruled told bounds = circuit_bounds plan circuit on (circuit_row plan circuit) network checked types ordered bounds
brings_bounds plan (Wire me wire on) network checked types planned ordered ruled told bounds = wire_bounds plan me wire on network checked types ordered bounds
brings_bounds plan (Status me wire bits) network checked types planned ordered ruled told bounds = status_bounds plan me wire bits network checked types planned.2 ordered bounds
brings_bounds plan (Priority me wire priority) network checked types planned ordered ruled told bounds = priority_bounds plan me wire priority network checked types ordered bounds
brings_bounds plan (Arrive number) network checked types planned ordered ruled told bounds = arrive_bounds plan (packet_at network number) network checked types ordered bounds
brings_bounds plan (Discard number) network checked types planned ordered ruled told bounds = discard_bounds plan (packet_at network number) network bounds
brings_bounds plan (Again number) network checked types planned ordered ruled told bounds = again_bounds plan (packet_at network number) network bounds
brings_bounds plan (Ping me wire) network checked types planned ordered ruled told bounds = ping_bounds plan me wire network checked types ordered bounds

after_bounds : (plan : Plan) (events : List Event) (network : NetworkState) → IsChecked plan → HasTypes plan → All (IsEventOf plan) events → IsOrdered plan network
    → IsRuledNetwork plan network → Bounds plan network → Bounds plan (state_after plan network events)
after_bounds plan [] network checked types planned ordered ruled bounds = bounds
after_bounds plan (e ∷ es) network checked types planned ordered ruled bounds =
    let here : IsEventOf plan e = All-head (IsEventOf plan) e es planned in
    after_bounds plan es (step plan network e).state checked types (All-tail (IsEventOf plan) e es planned) (step_keeps plan e network checked types here ordered).ordered
    (brings_ruled plan e network checked types here ordered ruled)
    (brings_bounds plan e network checked types here ordered ruled (keeps_told_rule plan network ordered ruled) bounds)

-- no end stands yet
empty_bounds : (plan : Plan) → Bounds plan (empty_network plan)
empty_bounds plan a b apart = record { bound = λ messages answers said answered out_is back_is near far. clash near }

pub run_bounds : (plan : Plan) (events : List Event) → IsRun plan events → Bounds plan (network_after plan events)
run_bounds plan events run = after_bounds plan events (empty_network plan) run.checked run.types run.planned (empty_ordered plan run.checked) (empty_ruled plan run.checked) (empty_bounds plan)

-- the ends of wires between two edges whose ends stand, with the messages on their way
pub record AreBoundNow (plan : Plan) (network : NetworkState) (a b : ℕ) : Type 0 where
  pub pair : ArePaired (ends_at plan a b) (ends_at plan b a) ((network.edges a).peering b) ((network.edges b).peering a) (flight network a b) (flight network b a)
  pub bound : AreBound plan a b (network.edges a) (network.edges b) pair.messages pair.answers

pub bound_now : (plan : Plan) (network : NetworkState) (a b : ℕ) → IsOrdered plan network → Bounds plan network → BothStand network a b → AreBoundNow plan network a b
bound_now plan network a b ordered bounds both =
    let apart : nat_eq a b ≡ false = both_apart plan network a b ordered both.one in
    let pair : ArePaired (ends_at plan a b) (ends_at plan b a) ((network.edges a).peering b) ((network.edges b).peering a) (flight network a b) (flight network b a) = ordered.two a b apart in
    record { pair = pair; bound = (bounds a b apart).bound pair.messages pair.answers pair.talk.said pair.talk.answered pair.out_is pair.back_is both.one both.other }

-- ---- after the flight

pub runs_agree_after_flight : RunsAgreeAfterFlight
runs_agree_after_flight plan events run a b both =
    let now : AreBoundNow plan (network_after plan events) a b = bound_now plan (network_after plan events) a b (run_ordered plan events run) (run_bounds plan events run) both in
    record {
      messages = now.pair.answers;
      on_way = record { octets = now.pair.back_is; said = now.pair.talk.answered };
      binds = λ wire row is joined. (now.bound.far wire row is joined).agrees;
    }

-- ---- quiet states

-- what holds of each number below another one
below : (n : ℕ) (test : ℕ → Bool) (k : ℕ) → all_below n test ≡ true → nat_lt k n ≡ true → test k ≡ true
below zero test k all less = absurd (none_below k less)
below (suc n) test k all less = elim (cases_Bool (nat_eq k n)) [
  | inl same ↦ subst (λ (m : ℕ). test m ≡ true) (sym (eqb-true k n same)) (first_holds (test n) (all_below n test) all)
  | inr other ↦ below n test k (second_holds (test n) (all_below n test) all) (further k n less other)
]
  where
    further : (k n : ℕ) → nat_lt k (suc n) ≡ true → nat_eq k n ≡ false → nat_lt k n ≡ true
    further k n less other = grind (arith, nat_tests)

any_wire : (plan : Plan) (service : ServiceId) (a b : ℕ) (rows : List WirePlan) → All (IsWireOf plan) rows → list_any (λ (wire : WirePlan). is_wire_of service wire && joins a b wire.path) rows ≡ true
    → (nat_lt a (length plan.edges) ≡ true) × (nat_lt b (length plan.edges) ≡ true)
any_wire plan service a b [] all some = clash some
any_wire plan service a b (row ∷ rows) all some = elim (cases_Bool (is_wire_of service row && joins a b row.path)) [
  | inl here ↦ both_in plan row.path a b (All-head (IsWireOf plan) row rows all).edges (second_holds (is_wire_of service row) (joins a b row.path) here)
  | inr later ↦ any_wire plan service a b rows (All-tail (IsWireOf plan) row rows all) (rw later at some)
]

pub settled : (plan : Plan) (network : NetworkState) (service : ServiceId) (a b : ℕ) → IsChecked plan → is_quiet plan network service ≡ true → are_joined_by plan service a b ≡ true
    → is_settled network a b ≡ true
settled plan network service a b checked quiet joined =
    let inside = any_wire plan service a b plan.wires checked.wires joined in
    joined_settled (are_joined_by plan service a b) joined
    (below (length plan.edges) (λ k. not (are_joined_by plan service a k) || is_settled network a k) b
    (below (length plan.edges) (λ m. all_below (length plan.edges) (λ k. not (are_joined_by plan service m k) || is_settled network m k)) a quiet inside.0) inside.1)
  where
    joined_settled : (is : Bool) → is ≡ true → not is || is_settled network a b ≡ true → is_settled network a b ≡ true
    joined_settled true e h = h
    joined_settled false e h = clash e

-- ---- between two ends that stand, nothing is on its way

pub drained_flight : (network : NetworkState) (from to : ℕ) → is_drained network from to ≡ true → flight network from to ≡ []
drained_flight network from to drained =
    rw (empty_of_test (held network to from) (second_holds (nat_eq (length (network.pipes from to)) 0) (nat_eq (length (held network to from)) 0) drained))
    (empty_of_test (network.pipes from to) (first_holds (nat_eq (length (network.pipes from to)) 0) (nat_eq (length (held network to from)) 0) drained))

still : (network : NetworkState) (a b : ℕ) → is_settled network a b ≡ true → BothStand network a b → IsStillBetween network a b
still network a b is both =
    let drained : is_drained network a b && is_drained network b a ≡ true = rw (both.one, both.other) at is in
    record {
      both = both;
      out = drained_flight network a b (first_holds (is_drained network a b) (is_drained network b a) drained);
      back = drained_flight network b a (second_holds (is_drained network a b) (is_drained network b a) drained);
    }

-- an end waits for a release only where a message is on its way
waits_not : (pw_id : ℕ) (next : ℕ → Bool) (near : LocalPart) → is_waited_for pw_id next near [] [] ≡ true → is_withdrawing near ≡ false
waits_not pw_id next (Idle declined) waits = refl
waits_not pw_id next (Advertised label told) waits = refl
waits_not pw_id next (Withdrawing label) waits = clash (second_holds (next label) false waits)

agreed : (plan : Plan) (network : NetworkState) (a b : ℕ) → IsStillBetween network a b → AreBoundNow plan network a b → OfWires plan network a b HasAgreed
agreed plan network a b quiet now wire row is joined =
    let out : now.pair.messages ≡ [] = none_said (ends_at plan a b).me now.pair.messages (sym quiet.out ∙ now.pair.out_is) in
    let back : now.pair.answers ≡ [] = none_said (ends_at plan b a).me now.pair.answers (sym quiet.back ∙ now.pair.back_is) in
    let near : IsBoundBy row.pw_id (given_of (network.edges a)) ((network.edges a).ends wire.0 b).local ((network.edges b).ends wire.0 a).remote [] [] =
    rw (out, back) at (now.bound.near wire row is joined) in
    let far : IsBoundBy row.pw_id (given_of (network.edges b)) ((network.edges b).ends wire.0 a).local ((network.edges a).ends wire.0 b).remote [] [] =
    rw (back, out) at (now.bound.far wire row is joined) in
    record {
      near = far.agrees;
      far = near.agrees;
      one_waits_not = waits_not row.pw_id (given_of (network.edges a)) ((network.edges a).ends wire.0 b).local near.waits;
      other_waits_not = waits_not row.pw_id (given_of (network.edges b)) ((network.edges b).ends wire.0 a).local far.waits;
    }

-- ---- between two ends that do not stand

unasked_idle : (local : LocalPart) → is_unasked local ≡ true → is_idle local ≡ true
unasked_idle (Idle declined) is = refl
unasked_idle (Advertised label told) is = is
unasked_idle (Withdrawing label) is = is

unbound : (plan : Plan) (network : NetworkState) (a b : ℕ) → IsOrdered plan network → stands network a b ≡ false → stands network b a ≡ false → OfWires plan network a b IsUnbound
unbound plan network a b ordered gone gone' wire row is joined =
    let one = low_end (point_limit plan a wire.0) (is_up_with ((network.edges a).peering b)) ((network.edges a).ends wire.0 b) (gone_up ((network.edges a).peering b) gone)
    ((ordered.sound a).ends wire.0 b) in
    let other = low_end (point_limit plan b wire.0) (is_up_with ((network.edges b).peering a)) ((network.edges b).ends wire.0 a) (gone_up ((network.edges b).peering a) gone')
    ((ordered.sound b).ends wire.0 a) in
    record {
      one_idle = unasked_idle ((network.edges a).ends wire.0 b).local one.0;
      other_idle = unasked_idle ((network.edges b).ends wire.0 a).local other.0;
      near = one.1;
      far = other.1;
    }

pub runs_settle : RunsSettle
runs_settle plan events run service quiet a b joined =
    let network : NetworkState = network_after plan events in
    let ordered : IsOrdered plan network = run_ordered plan events run in
    let is : is_settled network a b ≡ true = settled plan network service a b run.checked quiet joined in
    record {
      up = λ both. (let rest : IsStillBetween network a b = still network a b is both in
          let up = runs_come_up plan events run a b rest in
          (up.0, (up.1, agreed plan network a b rest (bound_now plan network a b ordered (run_bounds plan events run) both))));
      apart = λ gone gone'. unbound plan network a b ordered gone gone';
    }
