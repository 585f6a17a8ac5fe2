-- What bridges have learned and what packets carry came by frames that entered.
use Rattle.std.proofs.Common.{◌≡◌, ◌<◌, ◌+◌, ◌++◌, ◌||◌, ◌∙◌, ℕ, zero, suc, Bool, true, false, List, [], ◌∷◌, Option, Some, None, cond, drop, length, take, nat_eq, refl, sym, ap, subst, append_assoc, append-nil, inl, inr}
use Rattle.std.proofs.lemmas.Bool.{cases_Bool, eqb-true}
use Rattle.std.proofs.lemmas.List.Folds.{list_any-append}
use Rattle.std.specs.List.{AllByRecursion, list_any}
use Rattle.net_values.proofs.BoolLemmas.{clash, second_fails, first_fails}
use Rattle.net_base.specs.declared.plan.Plan.{Plan}
use Rattle.net_base.specs.declared.plan.circuit_plan.CircuitPlan.{CircuitPlan}
use Rattle.net_base.specs.declared.plan.places.CircuitId.{CircuitId}
use Rattle.net_base.specs.declared.plan.places.EdgeId.{EdgeId}
use Rattle.net_base.specs.declared.plan.places.ServiceId.{ServiceId}
use Rattle.net_base.specs.declared.plan.places.WireId.{WireId}
use Rattle.net_base.specs.declared.trace.entry.Entry.{Entry}
use Rattle.net_base.specs.declared.trace.event.Event.{Event}
use Rattle.net_base.specs.declared.trace.event.Event.TheVariants.{Connect, Deliver, Lose, Restart, Tick, Frame, Arrive, Discard, Again, Wire, Circuit, Status, Priority, Ping}
use Rattle.net_base.specs.plan.Places.{circuit_row}
use Rattle.mac_table.specs.Addresses.{has_address}
use Rattle.edge_model.specs.Circuit.{circuit_input}
use Rattle.edge_model.specs.Connection.{restart_input}
use Rattle.edge_model.specs.declared.effect.Effect.{Effect}
use Rattle.edge_model.specs.declared.effect.Effect.TheVariants as effect
use Rattle.edge_model.specs.State.{EdgeState}
use Rattle.edge_model.specs.Tick.{tick_input}
use Rattle.edge_model.specs.Wire.{priority_input, status_input, wire_input}
use Rattle.edge_model.specs.Work.{Work}
use Rattle.network_model.specs.Absorb.{absorb, absorb_all, answer, begin_at, idle, taken_all}
use Rattle.network_model.specs.Circuit.{circuit_event}
use Rattle.network_model.specs.Connection.{can_connect, connect_event, connected_work, connecting, deliver_event, delivering, hearing_work, is_deliverable, is_drained_pipe, lose_event, losing, losing_work, restart_event}
use Rattle.network_model.specs.declared.packet.Packet.{Packet}
use Rattle.network_model.specs.Packet.{again_event, discard_event, packet_at}
use Rattle.network_model.specs.Ping.{ping_event, ping_work}
use Rattle.network_model.specs.Run.{entries_along, run}
use Rattle.network_model.specs.State.{NetworkState, all_older, edge_at, empty_network, lives_on, older, stands, with_copy, with_edge, with_older, with_pipe, without_number, without_octets_to, without_packet}
use Rattle.network_model.specs.Step.{brings, step}
use Rattle.network_model.specs.Tick.{tick_at, ticks_from}
use Rattle.network_model.specs.Window.{packet_teaches, teaches}
use Rattle.network_model.specs.Wire.{priority_event, status_event, wire_event}
use Rattle.network_model.proofs.AbsorbLemmas.{all_keep}
use Rattle.network_model.proofs.PacketListLemmas.{all_send, packet_holds, packets_of}
use Rattle.network_model.proofs.RunLemmas.{after-append}
use Rattle.flight_laws.specs.Laws.{IsRun, network_after}
use Rattle.flight_laws.proofs.RuledRunLemmas.{run_ruled}
use Rattle.packet_laws.proofs.RunLemmas.{runs_keep_packet_rule}
use Rattle.flood_laws.proofs.StillLemmas.{IsUnlearned, step_unlearned}
use Rattle.seen_network.specs.Once.{OnceSeen, is_sourced_by}
use Rattle.seen_laws.specs.Sources.{KnowsSources}
use Rattle.seen_laws.proofs.OnceLemmas.{frame_seen, front_run, once_seen}
use Rattle.seen_laws.proofs.ShrinkLemmas.{Shrinks, circuit_shrinks, connected_shrinks, lost_shrinks, octets_shrink, ping_shrinks, priority_shrinks, restart_shrinks, status_shrinks, tick_shrinks, wire_shrinks}
use Rattle.seen_laws.proofs.SyncRunLemmas.{run_synced}

module _ (plan : Plan) (service : ServiceId) (address : List ℕ) where
  abbrev Absent : EdgeState → Type 0
  Absent edge = has_address (edge.learned service.0) (record { 0 = address }) ≡ false

  abbrev Unlearned : NetworkState → Type 0
  Unlearned network = IsUnlearned plan service address network

  abbrev test : Packet → Bool
  test = packet_teaches plan service address

  unnumbered : (me : EdgeId) (hops sent : ℕ) (es : List Effect) → list_any (packet_teaches plan service address) (packets_of me 0 hops sent es) ≡ false
  unnumbered me hops sent [] = refl
  unnumbered me hops sent (effect.Sent peer wire came octets ∷ es) = unnumbered me hops (sent + 1) es
  unnumbered me hops sent (effect.Said peer octets ∷ es) = unnumbered me hops sent es
  unnumbered me hops sent (effect.Left at octets ∷ es) = unnumbered me hops sent es
  unnumbered me hops sent (effect.Dropped why ∷ es) = unnumbered me hops sent es
  unnumbered me hops sent (effect.Session peer state ∷ es) = unnumbered me hops sent es
  unnumbered me hops sent (effect.Wire wire down ∷ es) = unnumbered me hops sent es
  unnumbered me hops sent (effect.Pong wire sequence ∷ es) = unnumbered me hops sent es
  unnumbered me hops sent (effect.Closed peer ∷ es) = unnumbered me hops sent es

  -- effects of no frame
  all_unlearned : (me : EdgeId) (es : List Effect) (network : NetworkState) → Unlearned network → Unlearned (absorb_all me 0 0 es network)
  all_unlearned me es network unlearned =
      let packets : List Packet = packets_of me 0 0 network.sent es in
      record {
        tables = λ k within. ap (λ (edges : ℕ → EdgeState). has_address ((edges k).learned service.0) (record { 0 = address })) (all_keep me 0 0 es network).edges ∙ unlearned.tables k within;
        packets = ap (list_any (packet_teaches plan service address)) (all_send me 0 0 es network).under_way
            ∙ (list_any-append (packet_teaches plan service address) network.under_way packets
            ∙ (ap (λ (b : Bool). b || list_any (packet_teaches plan service address) packets) unlearned.packets ∙ unnumbered me 0 network.sent es));
      }

  edge_unlearned : (me : EdgeId) (edge : EdgeState) (network : NetworkState) → Unlearned network → (me.0 < length plan.edges → Absent edge) → Unlearned (with_edge me edge network)
  unfolding with_edge
  edge_unlearned me edge network unlearned here = record {
    tables = λ k within. elim (cases_Bool (nat_eq k me.0)) [
      | inl same ↦ rw same (here (subst (λ (n : ℕ). n < length plan.edges) (eqb-true k me.0 same) within))
      | inr other ↦ rw other (unlearned.tables k within)
    ];
    packets = unlearned.packets;
  }

  -- an edge whose tables have got no address
  still_absent : (me : EdgeId) (edge : EdgeState) (network : NetworkState) → Unlearned network → Shrinks (network.edges me.0) edge → me.0 < length plan.edges → Absent edge
  still_absent me edge network unlearned shrinks within = shrinks.gone service.0 (record { 0 = address }) (unlearned.tables me.0 within)

  absorb_unlearned : (me : EdgeId) (work : Work) (network : NetworkState) → Unlearned network → Shrinks (network.edges me.0) work.edge → Unlearned (absorb me 0 0 work network).state
  absorb_unlearned me work network unlearned shrinks =
      all_unlearned me work.effects (with_edge me work.edge network) (edge_unlearned me work.edge network unlearned (still_absent me work.edge network unlearned shrinks))

  answer_unlearned : (me : EdgeId) (work : Work) (network : NetworkState) → Unlearned network → Shrinks (network.edges me.0) work.edge → Unlearned (answer me 0 0 work network).state
  answer_unlearned me work network unlearned shrinks = by work.idle where
    by : (idles : Bool) → Unlearned (cond idles (idle network) (absorb me 0 0 work network)).state
    by true = unlearned
    by false = absorb_unlearned me work network unlearned shrinks

  -- ---- connections

  connect_unlearned : (from to : EdgeId) (network : NetworkState) → Unlearned network → Unlearned (connect_event plan from to network).state
  connect_unlearned from to network unlearned = by (can_connect plan network from.0 to.0) where
    first : Work
    first = connected_work plan network from to

    second : Work
    second = connected_work plan network to from

    both : Unlearned (with_edge to (connected_work plan network to from).edge (with_edge from (connected_work plan network from to).edge network))
    both = edge_unlearned to (connected_work plan network to from).edge (with_edge from (connected_work plan network from to).edge network)
        (edge_unlearned from (connected_work plan network from to).edge network unlearned
        (still_absent from (connected_work plan network from to).edge network unlearned (connected_shrinks plan taken_all (begin_at network from) to)))
        (still_absent to (connected_work plan network to from).edge network unlearned (connected_shrinks plan taken_all (begin_at network to) from))

    by : (connects : Bool) → Unlearned (cond connects (connecting from (connected_work plan network from to) to (connected_work plan network to from) network) (idle network)).state
    by true = all_unlearned to (connected_work plan network to from).effects
        (absorb_all from 0 0 (connected_work plan network from to).effects
        (with_edge to (connected_work plan network to from).edge (with_edge from (connected_work plan network from to).edge network)))
        (all_unlearned from (connected_work plan network from to).effects
        (with_edge to (connected_work plan network to from).edge (with_edge from (connected_work plan network from to).edge network)) both)
    by false = unlearned

  losing_unlearned : (me peer : EdgeId) (network : NetworkState) → Unlearned network → Unlearned (losing plan me peer network).state
  losing_unlearned me peer network unlearned = absorb_unlearned me (losing_work plan network me peer) network unlearned (lost_shrinks plan taken_all (begin_at network me) peer)

  piped_unlearned : (from to : EdgeId) (octets : List ℕ) (network : NetworkState) → Unlearned network → Unlearned (with_pipe from to octets network)
  unfolding with_pipe
  piped_unlearned from to octets network unlearned = record { tables = unlearned.tables; packets = unlearned.packets }

  piped_edges : (from to me : EdgeId) (octets : List ℕ) (network : NetworkState) (edge : EdgeState) → Shrinks (network.edges me.0) edge → Shrinks ((with_pipe from to octets network).edges me.0) edge
  unfolding with_pipe
  piped_edges from to me octets network edge shrinks = shrinks

  delivering_unlearned : (from to : EdgeId) (count : ℕ) (network : NetworkState) → Unlearned network → Unlearned (delivering plan from to count network).state
  delivering_unlearned from to count network unlearned =
      let octets : List ℕ = take count (network.pipes from.0 to.0) in
      let rest : List ℕ = drop count (network.pipes from.0 to.0) in
      let work : Work = hearing_work plan network from to octets in
      absorb_unlearned to work (with_pipe from to rest network) (piped_unlearned from to rest network unlearned)
      (piped_edges from to to rest network work.edge (octets_shrink plan taken_all (begin_at network to) from octets ((edge_at network to).peering from.0)))

  deliver_unlearned : (from to : EdgeId) (count : ℕ) (network : NetworkState) → Unlearned network → Unlearned (deliver_event plan from to count network).state
  deliver_unlearned from to count network unlearned = by (is_deliverable network from.0 to.0) (is_drained_pipe network from.0 to.0) where
    by : (applies drained : Bool) → Unlearned (cond applies (cond drained (losing plan to from network) (delivering plan from to count network)) (idle network)).state
    by true true = losing_unlearned to from network unlearned
    by true false = delivering_unlearned from to count network unlearned
    by false drained = unlearned

  lose_unlearned : (me peer : EdgeId) (network : NetworkState) → Unlearned network → Unlearned (lose_event plan me peer network).state
  lose_unlearned me peer network unlearned = by (stands network me.0 peer.0) where
    by : (applies : Bool) → Unlearned (cond applies (losing plan me peer network) (idle network)).state
    by true = losing_unlearned me peer network unlearned
    by false = unlearned

  emptied_unlearned : (me : EdgeId) (network : NetworkState) → Unlearned network → Unlearned (without_octets_to me network)
  unfolding without_octets_to
  emptied_unlearned me network unlearned = record { tables = unlearned.tables; packets = unlearned.packets }

  emptied_edges : (me : EdgeId) (network : NetworkState) (edge : EdgeState) → Shrinks (network.edges me.0) edge → Shrinks ((without_octets_to me network).edges me.0) edge
  unfolding without_octets_to
  emptied_edges me network edge shrinks = shrinks

  restart_unlearned : (me : EdgeId) (network : NetworkState) → Unlearned network → Unlearned (restart_event me network).state
  restart_unlearned me network unlearned =
      let work : Work = restart_input (begin_at network me) in
      absorb_unlearned me work (without_octets_to me network) (emptied_unlearned me network unlearned) (emptied_edges me network work.edge (restart_shrinks (begin_at network me)))

  -- ---- ticks, circuits and wires

  -- what lives on carries what it carried
  older_none : (packets : List Packet) → list_any (packet_teaches plan service address) packets ≡ false → list_any (packet_teaches plan service address) (all_older packets) ≡ false
  older_none [] none = refl
  older_none (p ∷ ps) none = by (lives_on p) (older_none ps (second_fails (packet_teaches plan service address p) (list_any (packet_teaches plan service address) ps) none)) where
    by : (b : Bool) → list_any (packet_teaches plan service address) (all_older ps) ≡ false → list_any (packet_teaches plan service address) (cond b (older p ∷ all_older ps) (all_older ps)) ≡ false
    by true rest = ap (λ (b : Bool). b || list_any (packet_teaches plan service address) (all_older ps))
        (first_fails (packet_teaches plan service address p) (list_any (packet_teaches plan service address) ps) none) ∙ rest
    by false rest = rest

  older_unlearned : (network : NetworkState) → Unlearned network → Unlearned (with_older network)
  unfolding with_older
  older_unlearned network unlearned = record { tables = unlearned.tables; packets = older_none network.under_way unlearned.packets }

  ticks_unlearned : (place count : ℕ) (network : NetworkState) → Unlearned network → Unlearned (ticks_from plan place count network).state
  ticks_unlearned place zero network unlearned = unlearned
  ticks_unlearned place (suc count) network unlearned =
      let me : EdgeId = record { 0 = place } in
      ticks_unlearned (place + 1) count (tick_at plan me network).state
      (absorb_unlearned me (tick_input plan taken_all (begin_at network me)) network unlearned (tick_shrinks plan taken_all (begin_at network me)))

  circuit_unlearned : (circuit : CircuitId) (on : Bool) (row : Option CircuitPlan) (network : NetworkState) → Unlearned network → Unlearned (circuit_event plan circuit on row network).state
  circuit_unlearned circuit on None network unlearned = unlearned
  circuit_unlearned circuit on (Some row) network unlearned =
      answer_unlearned row.edge (circuit_input plan taken_all circuit on (Some row) (begin_at network row.edge)) network unlearned
      (circuit_shrinks plan taken_all (begin_at network row.edge) circuit on (Some row))

  wire_unlearned : (me : EdgeId) (wire : WireId) (on : Bool) (network : NetworkState) → Unlearned network → Unlearned (wire_event plan me wire on network).state
  wire_unlearned me wire on network unlearned =
      answer_unlearned me (wire_input plan taken_all wire on (begin_at network me)) network unlearned (wire_shrinks plan taken_all (begin_at network me) wire on)

  status_unlearned : (me : EdgeId) (wire : WireId) (bits : ℕ) (network : NetworkState) → Unlearned network → Unlearned (status_event plan me wire bits network).state
  status_unlearned me wire bits network unlearned =
      answer_unlearned me (status_input plan taken_all wire bits (begin_at network me)) network unlearned (status_shrinks plan taken_all (begin_at network me) wire bits)

  priority_unlearned : (me : EdgeId) (wire : WireId) (priority : ℕ) (network : NetworkState) → Unlearned network → Unlearned (priority_event plan me wire priority network).state
  priority_unlearned me wire priority network unlearned =
      answer_unlearned me (priority_input plan taken_all wire priority (begin_at network me)) network unlearned (priority_shrinks plan taken_all (begin_at network me) wire priority)

  ping_unlearned : (me : EdgeId) (wire : WireId) (network : NetworkState) → Unlearned network → Unlearned (ping_event plan me wire network).state
  ping_unlearned me wire network unlearned = answer_unlearned me (ping_work plan network me wire) network unlearned (ping_shrinks plan taken_all (begin_at network me) wire)

  -- ---- packets

  none_without : (number : ℕ) (packets : List Packet) → list_any (packet_teaches plan service address) packets ≡ false
      → list_any (packet_teaches plan service address) (without_number number packets) ≡ false
  none_without number [] none = refl
  none_without number (p ∷ ps) none = by (nat_eq p.number number) (none_without number ps later) where
    later : list_any (packet_teaches plan service address) ps ≡ false
    later = second_fails (packet_teaches plan service address p) (list_any (packet_teaches plan service address) ps) none

    by : (b : Bool) → list_any (packet_teaches plan service address) (without_number number ps) ≡ false
        → list_any (packet_teaches plan service address) (cond b ps (p ∷ without_number number ps)) ≡ false
    by true rest = later
    by false rest = ap (λ (b : Bool). b || list_any (packet_teaches plan service address) (without_number number ps))
        (first_fails (packet_teaches plan service address p) (list_any (packet_teaches plan service address) ps) none) ∙ rest

  discard_unlearned : (found : Option Packet) (network : NetworkState) → Unlearned network → Unlearned (discard_event found network).state
  unfolding without_packet
  discard_unlearned None network unlearned = unlearned
  discard_unlearned (Some packet) network unlearned = record { tables = unlearned.tables; packets = none_without packet.number network.under_way unlearned.packets }

  each_none : (packets : List Packet) → list_any (packet_teaches plan service address) packets ≡ false → AllByRecursion (λ packet. packet_teaches plan service address packet ≡ false) packets
  each_none [] none = tt
  each_none (p ∷ ps) none = (
    first_fails (packet_teaches plan service address p) (list_any (packet_teaches plan service address) ps) none,
    each_none ps (second_fails (packet_teaches plan service address p) (list_any (packet_teaches plan service address) ps) none),
  )

  again_unlearned : (number : ℕ) (found : Option Packet) (network : NetworkState) → packet_at network number ≡ found → Unlearned network → Unlearned (again_event found network).state
  unfolding with_copy
  again_unlearned number None network is unlearned = unlearned
  again_unlearned number (Some packet) network is unlearned =
      let own : packet_teaches plan service address packet ≡ false =
      packet_holds (λ packet. packet_teaches plan service address packet ≡ false) network number packet (each_none network.under_way unlearned.packets) is in
      let copy : Packet = record {
        number = network.sent + 1;
        wire = packet.wire;
        from = packet.from;
        to = packet.to;
        origin = packet.origin;
        hops = packet.hops;
        age = packet.age;
        bytes = packet.bytes;
      } in
      record {
        tables = unlearned.tables;
        packets = list_any-append (packet_teaches plan service address) network.under_way (copy ∷ [])
            ∙ (ap (λ (b : Bool). b || (packet_teaches plan service address packet || false)) unlearned.packets ∙ ap (λ (b : Bool). b || false) own);
      }

  -- ---- one event

  frame_untaught : (circuit : CircuitId) (octets : List ℕ) (network : NetworkState) → ((k : ℕ) → (network.edges k).me ≡ record { 0 = k })
      → list_any (is_sourced_by plan service address) (brings plan (Frame circuit octets) network).entries ≡ false → teaches plan network service address (Frame circuit octets) ≡ false
  frame_untaught circuit octets network placed none = by (teaches plan network service address (Frame circuit octets)) refl where
    by : (b : Bool) → teaches plan network service address (Frame circuit octets) ≡ b → b ≡ false
    by true taught = clash (sym none ∙ frame_seen plan network service address circuit octets placed taught)
    by false other = refl

  event_unlearned : (before : List Event) (event : Event) → IsRun plan before → list_any (is_sourced_by plan service address) (brings plan event (network_after plan before)).entries ≡ false
      → Unlearned (network_after plan before) → Unlearned (step plan (network_after plan before) event).state
  event_unlearned before (Connect from to) is none unlearned = connect_unlearned from to (network_after plan before) unlearned
  event_unlearned before (Deliver from to count) is none unlearned = deliver_unlearned from to count (network_after plan before) unlearned
  event_unlearned before (Lose me peer) is none unlearned = lose_unlearned me peer (network_after plan before) unlearned
  event_unlearned before (Restart me) is none unlearned = restart_unlearned me (network_after plan before) unlearned
  event_unlearned before Tick is none unlearned = ticks_unlearned 0 (length plan.edges) (with_older (network_after plan before)) (older_unlearned (network_after plan before) unlearned)
  event_unlearned before (Frame circuit octets) is none unlearned =
      step_unlearned plan (network_after plan before) (run plan before).entries 0 service address (Frame circuit octets) is.checked (run_ruled plan before is)
      (runs_keep_packet_rule plan before is) refl
      (frame_untaught circuit octets (network_after plan before) (λ k. (run_synced plan before is.checked k).me) none) unlearned
  event_unlearned before (Circuit circuit on) is none unlearned = circuit_unlearned circuit on (circuit_row plan circuit) (network_after plan before) unlearned
  event_unlearned before (Wire me wire on) is none unlearned = wire_unlearned me wire on (network_after plan before) unlearned
  event_unlearned before (Status me wire bits) is none unlearned = status_unlearned me wire bits (network_after plan before) unlearned
  event_unlearned before (Priority me wire priority) is none unlearned = priority_unlearned me wire priority (network_after plan before) unlearned
  event_unlearned before (Arrive number) is none unlearned =
      step_unlearned plan (network_after plan before) (run plan before).entries 0 service address (Arrive number) is.checked (run_ruled plan before is)
      (runs_keep_packet_rule plan before is) refl refl unlearned
  event_unlearned before (Discard number) is none unlearned = discard_unlearned (packet_at (network_after plan before) number) (network_after plan before) unlearned
  event_unlearned before (Again number) is none unlearned = again_unlearned number (packet_at (network_after plan before) number) (network_after plan before) refl unlearned
  event_unlearned before (Ping me wire) is none unlearned = ping_unlearned me wire (network_after plan before) unlearned

  -- ---- runs

  along_unlearned : (before events : List Event) → IsRun plan (before ++ events) → list_any (is_sourced_by plan service address) (entries_along plan (network_after plan before) events) ≡ false
      → Unlearned (network_after plan before) → Unlearned (network_after plan (before ++ events))
  along_unlearned before [] is none unlearned = subst (λ (l : List Event). Unlearned (network_after plan l)) (sym (append-nil before)) unlearned
  along_unlearned before (e ∷ es) is none unlearned =
      subst (λ (l : List Event). Unlearned (network_after plan l)) (append_assoc before (e ∷ []) es)
      (along_unlearned (before ++ e ∷ []) es (subst (IsRun plan) (sym (append_assoc before (e ∷ []) es)) is)
      (ap (λ (n : NetworkState). list_any (is_sourced_by plan service address) (entries_along plan n es)) after_is
      ∙ second_fails (list_any (is_sourced_by plan service address) own) (list_any (is_sourced_by plan service address) rest) parts)
      (subst Unlearned (sym after_is) (event_unlearned before e (front_run plan (before ++ e ∷ es) before (e ∷ es) is refl)
      (first_fails (list_any (is_sourced_by plan service address) own) (list_any (is_sourced_by plan service address) rest) parts) unlearned)))
    where
      own : List Entry
      own = (brings plan e (network_after plan before)).entries

      rest : List Entry
      rest = entries_along plan (step plan (network_after plan before) e).state es

      after_is : network_after plan (before ++ e ∷ []) ≡ (step plan (network_after plan before) e).state
      after_is = after-append plan (empty_network plan) before (e ∷ [])

      parts : list_any (is_sourced_by plan service address) (brings plan e (network_after plan before)).entries || list_any (is_sourced_by plan service address)
          (entries_along plan (step plan (network_after plan before) e).state es) ≡ false
      parts = sym (list_any-append (is_sourced_by plan service address) (brings plan e (network_after plan before)).entries
          (entries_along plan (step plan (network_after plan before) e).state es)) ∙ none

  first_unlearned : Unlearned (network_after plan [])
  first_unlearned = record { tables = λ k within. refl; packets = refl }

  run_unlearned : (events : List Event) → IsRun plan events → list_any (is_sourced_by plan service address) (run plan events).entries ≡ false → Unlearned (network_after plan events)
  run_unlearned events is none = along_unlearned [] events is none first_unlearned

pub knows_sources : (plan : Plan) (events : List Event) → IsRun plan events → KnowsSources plan (network_after plan events) (run plan events).entries
knows_sources plan events is = record {
  learned = λ edge service address within held. by service address (list_any (is_sourced_by plan service address) (run plan events).entries) refl
      (λ unlearned. clash (sym (unlearned.tables edge within) ∙ held));
  carried = λ service address held. by service address (list_any (is_sourced_by plan service address) (run plan events).entries) refl (λ unlearned. clash (sym unlearned.packets ∙ held));
} where
  by : (service : ServiceId) (address : List ℕ) (b : Bool) → list_any (is_sourced_by plan service address) (run plan events).entries ≡ b
      → (IsUnlearned plan service address (network_after plan events) → b ≡ true) → b ≡ true
  by service address true some not_so = refl
  by service address false none not_so = not_so (run_unlearned plan service address events is none)

-- ---- exactly once, as the trace alone shows it

pub runs_seen_once : (plan : Plan) (events : List Event) → IsRun plan events → OnceSeen 12 plan (run plan events).entries
runs_seen_once plan events is = once_seen plan events is (λ front rest split. knows_sources plan front (front_run plan events front rest is split))
