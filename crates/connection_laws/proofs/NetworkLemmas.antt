-- What the events of the network leave of its connections.
use Rattle.std.proofs.Common.{◌≡◌, ◌⊎◌, ◌∙◌, ◌+◌, ◌&&◌, ◌||◌, nat_eq, ℕ, zero, suc, Bool, true, false, cond, List, [], ◌∷◌, length, Option, Some, None, inl, inr, refl, sym, ap, subst, arith}
use Rattle.std.proofs.lemmas.Bool.{eqb-true}
use Rattle.std.proofs.lemmas.Bool.Decides.{nat_tests}
use Rattle.net_values.proofs.NumberLemmas.{same_number}
use Rattle.net_base.specs.declared.plan.Plan.{Plan}
use Rattle.net_base.specs.declared.plan.circuit_plan.CircuitPlan.{CircuitPlan}
use Rattle.net_base.specs.declared.plan.places.CircuitId.{CircuitId}
use Rattle.net_base.specs.declared.plan.places.EdgeId.{EdgeId}
use Rattle.net_base.specs.declared.plan.places.WireId.{WireId}
use Rattle.net_base.specs.declared.trace.event.Event.{Event}
use Rattle.net_base.specs.declared.trace.event.Event.TheVariants.{Connect, Deliver, Lose, Restart, Tick, Frame, Arrive, Discard, Again, Wire, Circuit, Status, Priority, Ping}
use Rattle.net_base.specs.declared.trace.state_name.Reason.TheVariants as reason
use Rattle.net_base.specs.plan.Places.{circuit_row}
use Rattle.session_core.specs.Phase.{Phase}
use Rattle.session_core.specs.Phase as phase
use Rattle.session_core.specs.State.{SessionState, is_active}
use Rattle.session_core.specs.Table as table
use Rattle.edge_model.specs.declared.effect.Effect.{Effect}
use Rattle.edge_model.specs.Connection.{restart_input}
use Rattle.edge_model.specs.Mend.{mends}
use Rattle.edge_model.specs.Ping.{ping_input}
use Rattle.edge_model.specs.Put.{put_replies}
use Rattle.edge_model.specs.Session.{comes_of, happens, happens_to, happens_with_ends}
use Rattle.edge_model.specs.State.{EdgeState, Peering, has_end, is_there, put_at, with_peering}
use Rattle.edge_model.specs.Work.{Work, changes, gives, idles}
use Rattle.edge_model.proofs.BridgeLemmas.{frame_bridges, packet_bridges, ping_bridges}
use Rattle.edge_model.proofs.HeldLemmas.{clears_keep}
use Rattle.edge_model.proofs.MendLemmas.{mends_stands}
use Rattle.network_model.specs.Absorb.{Stepped, absorb, absorb_all, absorb_one, answer, begin_at, idle, taken_all}
use Rattle.network_model.specs.Connection.{can_connect, connected_work, connecting, delivering, hearing_work, is_deliverable, is_drained_pipe, losing}
use Rattle.network_model.specs.Circuit.{circuit_event}
use Rattle.network_model.specs.Frame.{entering, frame_event, frame_work}
use Rattle.network_model.specs.declared.packet.Packet.{Packet}
use Rattle.network_model.specs.Packet.{again_event, arrive_event, discard_event, packet_at, packet_work}
use Rattle.network_model.specs.State.{NetworkState, stands, with_edge, with_pipe, without_packet, without_octets_to, with_copy, with_frame, with_older}
use Rattle.network_model.specs.Step.{step}
use Rattle.network_model.specs.Age.{ageing}
use Rattle.network_model.specs.Tick.{tick_at, ticks_from}
use Rattle.network_model.proofs.CommonLemmas.{one_edges}
use Rattle.connection_laws.specs.Laws.{EndsAreLost, EndsComeByConnections, connects_them}
use Rattle.connection_laws.proofs.EndLemmas.{Stood}
use Rattle.connection_laws.proofs.StepLemmas.{circuit_stood, connected_stood, lost_stood, octets_stood, priority_stood, restart_stood, status_stood, tick_stood, wire_stood}

-- ---- what edges give out is no matter of their ends

all_edges : (me : EdgeId) (origin hops : ℕ) (es : List Effect) (network : NetworkState) → (absorb_all me origin hops es network).edges ≡ network.edges
all_edges me origin hops [] network = refl
all_edges me origin hops (e ∷ es) network = all_edges me origin hops es (absorb_one me origin hops e network) ∙ one_edges me origin hops e network

-- ---- ends of the whole network

-- each that stands stood before, or may have come
NetStood : (ℕ → ℕ → Bool) → (ℕ → EdgeState) → (ℕ → EdgeState) → Type 0
NetStood may old new = (a b : ℕ) → is_there ((new a).peering b) ≡ true → (is_there ((old a).peering b) ≡ true) ⊎ (may a b ≡ true)

module _ (may : ℕ → ℕ → Bool) where
  net_not : (edges : ℕ → EdgeState) → NetStood may edges edges
  unfolding NetStood
  net_not edges a b is = inl is

  net_then : (x y z : ℕ → EdgeState) → NetStood may x y → NetStood may y z → NetStood may x z
  unfolding NetStood
  net_then x y z first next a b is = by (next a b is)
    where
      by : (is_there ((y a).peering b) ≡ true) ⊎ (may a b ≡ true) → (is_there ((x a).peering b) ≡ true) ⊎ (may a b ≡ true)
      by (inl there) = first a b there
      by (inr came) = inr came

  -- one edge has worked
  put_stood : (edges : ℕ → EdgeState) (me : EdgeId) (old new : Work) → old.edge ≡ edges me.0 → Stood (may me.0) old new → NetStood may edges (put_at edges me.0 new.edge)
  unfolding NetStood
  put_stood edges me old new is stood a b there = by (nat_eq a me.0) refl there
    where
      by : (test : Bool) → nat_eq a me.0 ≡ test → is_there ((cond test new.edge (edges a)).peering b) ≡ true → (is_there ((edges a).peering b) ≡ true) ⊎ (may a b ≡ true)
      by true here stands =
          let at : a ≡ me.0 = eqb-true a me.0 here in
          either (stood.each b stands) at
        where
          either : (is_there (old.edge.peering b) ≡ true) ⊎ (may me.0 b ≡ true) → a ≡ me.0 → (is_there ((edges a).peering b) ≡ true) ⊎ (may a b ≡ true)
          either (inl stood) at = inl (ap (λ (n : ℕ). is_there ((edges n).peering b)) at ∙ (sym (ap (λ (e : EdgeState). is_there (e.peering b)) is) ∙ stood))
          either (inr came) at = inr (ap (λ (n : ℕ). may n b) at ∙ came)
      by false away stands = inl stands

  absorb_stood : (me : EdgeId) (origin hops : ℕ) (old new : Work) (network : NetworkState) → old.edge ≡ network.edges me.0 → Stood (may me.0) old new
      → NetStood may network.edges (absorb me origin hops new network).state.edges
  unfolding with_edge
  absorb_stood me origin hops old new network is stood =
      subst (NetStood may network.edges) (sym (all_edges me origin hops new.effects (with_edge me new.edge network))) (put_stood network.edges me old new is stood)

  answer_stood : (me : EdgeId) (old new : Work) (network : NetworkState) → old.edge ≡ network.edges me.0 → Stood (may me.0) old new → NetStood may network.edges (answer me 0 0 new network).state.edges
  answer_stood me old new network is stood = by new.idle
    where
      by : (b : Bool) → NetStood may network.edges (cond b (idle network) (absorb me 0 0 new network)).state.edges
      by true = net_not network.edges
      by false = absorb_stood me 0 0 old new network is stood

  -- where an edge's sessions are as they were
  same_stood : (me : ℕ) (old new : Work) → new.edge.peering ≡ old.edge.peering → Stood (may me) old new
  same_stood me old new same = record { each = λ k is. inl (ap (λ (f : ℕ → Option Peering). is_there (f k)) (sym same) ∙ is) }

-- so many edges tick
ticks_stood : (may : ℕ → ℕ → Bool) (plan : Plan) (place count : ℕ) (network : NetworkState) → NetStood may network.edges (ticks_from plan place count network).state.edges
ticks_stood may plan place zero network = net_not may network.edges
ticks_stood may plan place (suc count) network =
    let first : NetworkState = (tick_at plan (record { 0 = place }) network).state in
    net_then may network.edges first.edges (ticks_from plan (place + 1) count first).state.edges
    (absorb_stood may (record { 0 = place }) 0 0 (begin_at network (record { 0 = place })) _ network refl (tick_stood (may place) plan taken_all (begin_at network (record { 0 = place }))))
    (ticks_stood may plan (place + 1) count first)

-- ---- events

module _ (plan : Plan) (network : NetworkState) where
  -- a condition that is not met is idle
  or_idle : (may : ℕ → ℕ → Bool) (b : Bool) (done : Stepped) → NetStood may network.edges done.state.edges → NetStood may network.edges (cond b done (idle network)).state.edges
  or_idle may true done is = is
  or_idle may false done is = net_not may network.edges

  losing_stood : (may : ℕ → ℕ → Bool) (me peer : EdgeId) → NetStood may network.edges (losing plan me peer network).state.edges
  losing_stood may me peer = absorb_stood may me 0 0 (begin_at network me) _ network refl (lost_stood (may me.0) plan taken_all peer (begin_at network me))

  delivering_stood : (may : ℕ → ℕ → Bool) (from to : EdgeId) (count : ℕ) → NetStood may network.edges (delivering plan from to count network).state.edges
  unfolding with_pipe
  delivering_stood may from to count =
      absorb_stood may to 0 0 (begin_at network to) (hearing_work plan network from to _) (with_pipe from to _ network) refl
      (octets_stood (may to.0) plan taken_all from _ _ (begin_at network to))

  deliver_stood : (may : ℕ → ℕ → Bool) (from to : EdgeId) (count : ℕ) → NetStood may network.edges (step plan network (Deliver from to count)).state.edges
  deliver_stood may from to count = or_idle may (is_deliverable network from.0 to.0) _ (by (is_drained_pipe network from.0 to.0))
    where
      by : (b : Bool) → NetStood may network.edges (cond b (losing plan to from network) (delivering plan from to count network)).state.edges
      by true = losing_stood may to from
      by false = delivering_stood may from to count

  restart_stands : (may : ℕ → ℕ → Bool) (me : EdgeId) → NetStood may network.edges (step plan network (Restart me)).state.edges
  unfolding without_octets_to
  restart_stands may me = absorb_stood may me 0 0 (begin_at network me) (restart_input (begin_at network me)) (without_octets_to me network) refl (restart_stood (may me.0) (begin_at network me))

  frame_stood : (may : ℕ → ℕ → Bool) (circuit : CircuitId) (octets : List ℕ) → NetStood may network.edges (step plan network (Frame circuit octets)).state.edges
  unfolding with_frame
  frame_stood may circuit octets = by (circuit_row plan circuit)
    where
      entered : (row : CircuitPlan) (b : Bool) → NetStood may network.edges (cond b (idle network) (entering network circuit octets row (frame_work plan network circuit octets row))).state.edges
      entered row true = net_not may network.edges
      entered row false =
          absorb_stood may row.edge _ 0 (begin_at network row.edge) (frame_work plan network circuit octets row) (with_frame network) refl
          (same_stood may row.edge.0 (begin_at network row.edge) _ (frame_bridges plan taken_all circuit octets (Some row) (begin_at network row.edge)).edge.peering)

      by : (row : Option CircuitPlan) → NetStood may network.edges (frame_event plan circuit octets row network).state.edges
      by None = net_not may network.edges
      by (Some row) = entered row (frame_work plan network circuit octets row).idle

  circuit_stands : (may : ℕ → ℕ → Bool) (circuit : CircuitId) (on : Bool) → NetStood may network.edges (step plan network (Circuit circuit on)).state.edges
  circuit_stands may circuit on = by (circuit_row plan circuit)
    where
      by : (row : Option CircuitPlan) → NetStood may network.edges (circuit_event plan circuit on row network).state.edges
      by None = net_not may network.edges
      by (Some row) = answer_stood may row.edge (begin_at network row.edge) _ network refl (circuit_stood (may row.edge.0) plan taken_all circuit on (Some row) (begin_at network row.edge))

  arrive_stood : (may : ℕ → ℕ → Bool) (number : ℕ) → NetStood may network.edges (step plan network (Arrive number)).state.edges
  unfolding without_packet
  arrive_stood may number = by (packet_at network number)
    where
      by : (packet : Option Packet) → NetStood may network.edges (arrive_event plan packet network).state.edges
      by None = net_not may network.edges
      by (Some packet) =
          absorb_stood may packet.to packet.origin packet.hops (begin_at network packet.to) (packet_work plan network packet) (without_packet packet.number network) refl
          (same_stood may packet.to.0 (begin_at network packet.to) _ (packet_bridges plan taken_all packet.bytes (begin_at network packet.to)).edge.peering)

  discard_stood : (may : ℕ → ℕ → Bool) (number : ℕ) → NetStood may network.edges (step plan network (Discard number)).state.edges
  unfolding without_packet
  discard_stood may number = by (packet_at network number)
    where
      by : (packet : Option Packet) → NetStood may network.edges (discard_event packet network).state.edges
      by None = net_not may network.edges
      by (Some packet) = net_not may network.edges

  again_stood : (may : ℕ → ℕ → Bool) (number : ℕ) → NetStood may network.edges (step plan network (Again number)).state.edges
  unfolding with_copy
  again_stood may number = by (packet_at network number)
    where
      by : (packet : Option Packet) → NetStood may network.edges (again_event packet network).state.edges
      by None = net_not may network.edges
      by (Some packet) = net_not may network.edges

  ping_stood : (may : ℕ → ℕ → Bool) (me : EdgeId) (wire : WireId) → NetStood may network.edges (step plan network (Ping me wire)).state.edges
  ping_stood may me wire =
      let only = ping_bridges plan taken_all wire (begin_at network me) in
      answer_stood may me (begin_at network me) (ping_input plan taken_all wire (begin_at network me)) network refl
      (same_stood may me.0 (begin_at network me) (ping_input plan taken_all wire (begin_at network me)) (ap (λ (e : EdgeState). e.peering) only.edge))

  tick_stands : (may : ℕ → ℕ → Bool) → NetStood may network.edges (step plan network Tick).state.edges
  unfolding with_older
  tick_stands may = ticks_stood may plan 0 (length plan.edges) (ageing network).state

  -- two edges have worked
  both_stood : (may : ℕ → ℕ → Bool) (from to : EdgeId) (first second : Work) → Stood (may from.0) (begin_at network from) first → Stood (may to.0) (begin_at network to) second
      → NetStood may network.edges (put_at (put_at network.edges from.0 first.edge) to.0 second.edge)
  unfolding NetStood
  both_stood may from to first second one other a b =
      by (nat_eq a to.0) (put_stood may network.edges from (begin_at network from) first refl one a b) (put_stood may network.edges to (begin_at network to) second refl other a b)
    where
      by : (test : Bool) → (is_there ((put_at network.edges from.0 first.edge a).peering b) ≡ true → (is_there ((network.edges a).peering b) ≡ true) ⊎ (may a b ≡ true))
          → (is_there ((cond (nat_eq a to.0) second.edge (network.edges a)).peering b) ≡ true → (is_there ((network.edges a).peering b) ≡ true) ⊎ (may a b ≡ true))
          → is_there ((cond (nat_eq a to.0) second.edge (put_at network.edges from.0 first.edge a)).peering b) ≡ true → (is_there ((network.edges a).peering b) ≡ true) ⊎ (may a b ≡ true)
      by test far near = of (nat_eq a to.0) far near
        where
          of : (test : Bool) → (is_there ((put_at network.edges from.0 first.edge a).peering b) ≡ true → (is_there ((network.edges a).peering b) ≡ true) ⊎ (may a b ≡ true))
              → (is_there ((cond test second.edge (network.edges a)).peering b) ≡ true → (is_there ((network.edges a).peering b) ≡ true) ⊎ (may a b ≡ true))
              → is_there ((cond test second.edge (put_at network.edges from.0 first.edge a)).peering b) ≡ true → (is_there ((network.edges a).peering b) ≡ true) ⊎ (may a b ≡ true)
          of true far near = near
          of false far near = far

  connecting_stood : (may : ℕ → ℕ → Bool) (from to : EdgeId) (first second : Work) → Stood (may from.0) (begin_at network from) first → Stood (may to.0) (begin_at network to) second
      → NetStood may network.edges (connecting from first to second network).state.edges
  unfolding with_edge
  connecting_stood may from to first second one other =
      let put : NetworkState = with_edge to second.edge (with_edge from first.edge network) in
      subst (NetStood may network.edges)
      (sym (all_edges to 0 0 second.effects (absorb_all from 0 0 first.effects put) ∙ all_edges from 0 0 first.effects put))
      (both_stood may from to first second one other)

  connect_stood : (from to : EdgeId) → NetStood (connects_them (Connect from to)) network.edges (step plan network (Connect from to)).state.edges
  connect_stood from to =
      or_idle (connects_them (Connect from to)) (can_connect plan network from.0 to.0) _
      (connecting_stood (connects_them (Connect from to)) from to (connected_work plan network from to) (connected_work plan network to from)
      (connected_stood (connects_them (Connect from to) from.0) plan taken_all to (begin_at network from) there)
      (connected_stood (connects_them (Connect from to) to.0) plan taken_all from (begin_at network to) back))
    where
      both : (a b c : Bool) → a ≡ true → b ≡ true → (a && b) || c ≡ true
      both true true c one other = refl
      both false b c one other = absurd (cc (one))
      both true false c one other = absurd (cc (other))

      behind : (a b c : Bool) → b ≡ true → c ≡ true → a || (b && c) ≡ true
      behind true b c one other = refl
      behind false true true one other = refl
      behind false false c one other = absurd (cc (one))
      behind false true false one other = absurd (cc (other))

      there : connects_them (Connect from to) from.0 to.0 ≡ true
      there = both (nat_eq from.0 from.0) (nat_eq to.0 to.0) _ (same_number from.0) (same_number to.0)

      back : connects_them (Connect from to) to.0 from.0 ≡ true
      back = behind _ (nat_eq to.0 to.0) (nat_eq from.0 from.0) (same_number to.0) (same_number from.0)

  by_event : (event : Event) → NetStood (connects_them event) network.edges (step plan network event).state.edges
  by_event (Connect from to) = connect_stood from to
  by_event (Deliver from to count) = deliver_stood (connects_them (Deliver from to count)) from to count
  by_event (Lose me peer) = or_idle (connects_them (Lose me peer)) (stands network me.0 peer.0) _ (losing_stood (connects_them (Lose me peer)) me peer)
  by_event (Restart me) = restart_stands (connects_them (Restart me)) me
  by_event Tick = tick_stands (connects_them Tick)
  by_event (Frame circuit octets) = frame_stood (connects_them (Frame circuit octets)) circuit octets
  by_event (Arrive number) = arrive_stood (connects_them (Arrive number)) number
  by_event (Discard number) = discard_stood (connects_them (Discard number)) number
  by_event (Again number) = again_stood (connects_them (Again number)) number
  by_event (Circuit circuit on) = circuit_stands (connects_them (Circuit circuit on)) circuit on
  by_event (Wire me wire on) = answer_stood (connects_them (Wire me wire on)) me (begin_at network me) _ network refl
      (wire_stood (connects_them (Wire me wire on) me.0) plan taken_all wire on (begin_at network me))
  by_event (Status me wire bits) =
      answer_stood (connects_them (Status me wire bits)) me (begin_at network me) _ network refl
      (status_stood (connects_them (Status me wire bits) me.0) plan taken_all wire bits (begin_at network me))
  by_event (Priority me wire priority) =
      answer_stood (connects_them (Priority me wire priority)) me (begin_at network me) _ network refl
      (priority_stood (connects_them (Priority me wire priority) me.0) plan taken_all wire priority (begin_at network me))
  by_event (Ping me wire) = ping_stood (connects_them (Ping me wire)) me wire

pub come_by_connections : EndsComeByConnections
unfolding NetStood
come_by_connections plan network event a b is = by_event plan network event a b is

-- ---- an end that is lost

closes_at : (state : Phase) (active : Bool) (s : SessionState) → table.table state (table.Closed reason.Closed) active s ≡ table.Ends reason.Closed []
closes_at phase.Initialized true s = refl
closes_at phase.Initialized false s = refl
closes_at phase.OpenSent active s = refl
closes_at phase.OpenRec active s = refl
closes_at phase.Operational active s = refl

gone_at : (peer : EdgeId) (edge : EdgeState) → (with_peering peer None edge).peering peer.0 ≡ None
unfolding with_peering
gone_at peer edge = ap (λ (b : Bool). cond b None (edge.peering peer.0)) same
  where
    same : nat_eq peer.0 peer.0 ≡ true
    same = grind (arith, nat_tests)

closed_gone : (peer : EdgeId) (kept : Option Peering) (work : Work) → work.edge.peering peer.0 ≡ kept → (happens_to taken_all peer (table.Closed reason.Closed) kept work).edge.peering peer.0 ≡ None
unfolding changes gives
closed_gone peer None work is = is
closed_gone peer (Some kept) work is =
    ap (λ o. (comes_of taken_all peer kept o work).edge.peering peer.0) (closes_at kept.session.phase (is_active kept.session.peers) kept.session)
    ∙ gone_at peer (put_replies taken_all peer [] work).work.edge

pub are_lost : EndsAreLost
unfolding with_edge
are_lost plan network me peer = by (stands network me.0 peer.0) refl
  where
    ended : Work
    ended = happens_with_ends taken_all peer (table.Closed reason.Closed) (begin_at network me)

    gone : has_end ended.edge peer ≡ false
    gone = ap is_there
        (ap (λ (f : ℕ → Option Peering). f peer.0) (clears_keep peer (happens taken_all peer (table.Closed reason.Closed) (begin_at network me)))
        ∙ closed_gone peer ((network.edges me.0).peering peer.0) (begin_at network me) refl)

    mended : Work
    mended = mends plan taken_all ended

    none : has_end mended.edge peer ≡ false
    none = mends_stands plan taken_all peer ended (λ k. refl) ∙ gone

    at_itself : (edge : EdgeState) → has_end edge peer ≡ false → is_there ((put_at network.edges me.0 edge me.0).peering peer.0) ≡ false
    at_itself edge gone_there = ap (λ (b : Bool). is_there ((cond b edge (network.edges me.0)).peering peer.0)) same ∙ gone_there
      where
        same : nat_eq me.0 me.0 ≡ true
        same = grind (arith, nat_tests)

    lost : (b : Bool) → stands network me.0 peer.0 ≡ b → b ≡ true → is_there (((absorb me 0 0 (cond b mended (idles (begin_at network me))) network).state.edges me.0).peering peer.0) ≡ false
    lost true is up = ap (λ (f : ℕ → EdgeState). is_there ((f me.0).peering peer.0)) (all_edges me 0 0 mended.effects (with_edge me mended.edge network)) ∙ at_itself mended.edge none
    lost false is up = absurd (cc (up))

    by : (b : Bool) → stands network me.0 peer.0 ≡ b → is_there (((cond b (losing plan me peer network) (idle network)).state.edges me.0).peering peer.0) ≡ false
    by true is = subst (λ (b : Bool). is_there (((absorb me 0 0 (cond b mended (idles (begin_at network me))) network).state.edges me.0).peering peer.0) ≡ false) (sym is) (lost true is refl)
    by false is = is
