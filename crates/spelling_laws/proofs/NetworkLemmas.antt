-- What an edge has said goes into what the network tells, event by event.
use Rattle.std.proofs.Common.{◌≡◌, ◌≤◌, ◌+◌, ◌++◌, ◌&&◌, ◌||◌, ◌∙◌, ℕ, zero, suc, Bool, true, false, cond, not, nat_eq, List, [], ◌∷◌, Option, Some, None, length, take, drop, refl, sym, subst, append-nil, inl, arith}
use Rattle.net_values.proofs.BoolLemmas.{clash}
use Rattle.net_base.specs.declared.plan.Plan.{Plan}
use Rattle.net_base.specs.declared.plan.circuit_plan.CircuitPlan.{CircuitPlan}
use Rattle.net_base.specs.declared.plan.places.CircuitId.{CircuitId}
use Rattle.net_base.specs.declared.plan.places.EdgeId.{EdgeId}
use Rattle.net_base.specs.declared.plan.places.WireId.{WireId}
use Rattle.net_base.specs.declared.trace.arrival.Arrival.TheVariants as arrival
use Rattle.net_base.specs.declared.trace.entry.Entry.{Entry}
use Rattle.net_base.specs.declared.trace.entry.Entry.TheVariants as entry
use Rattle.net_base.specs.declared.trace.event.Event.{Event}
use Rattle.net_base.specs.declared.trace.event.Event.TheVariants.{Connect, Deliver, Lose, Restart, Tick, Frame, Arrive, Discard, Again, Wire, Circuit, Status, Priority, Ping}
use Rattle.net_base.specs.plan.Accepted.{IsChecked}
use Rattle.net_base.specs.plan.Paths.{are_joined}
use Rattle.net_base.specs.plan.Places.{circuit_row, wire_row}
use Rattle.net_base.specs.plan.Planned.{IsEventOf}
use Rattle.net_base.specs.trace.Isolated.{inner_at}
use Rattle.ldp_grammar.specs.declared.pdu.Pdu.{Pdu}
use Rattle.ldp_grammar.specs.Spells.{Spells}
use Rattle.ldp_grammar.specs.Written.{written}
use Rattle.ldp_grammar.proofs.RoundTripLemmas.{written_is_read}
use Rattle.ldp_stream.specs.Parsed.{IsParsed, IsParsedFrom, Pending}
use Rattle.ldp_stream.proofs.ParsedLemmas.{one_parsing}
use Rattle.session_core.specs.declared.peers.Peers.{Peers}
use Rattle.pw_messages.specs.Sender.{platform_of}
use Rattle.edge_model.specs.Circuit.{is_same, turned}
use Rattle.edge_model.specs.declared.effect.Effect.{Effect}
use Rattle.edge_model.specs.declared.effect.Effect.TheVariants as effect
use Rattle.edge_model.specs.Connection.{restart_input, restarted}
use Rattle.edge_model.specs.EndPlaces.{ends_here, passes}
use Rattle.edge_model.specs.Frame.{is_own, port_at, received}
use Rattle.edge_model.specs.Hear.{octets_input}
use Rattle.edge_model.specs.Mend.{mends}
use Rattle.edge_model.specs.State.{Peering, is_on, is_there, with_bits, with_priority}
use Rattle.edge_model.specs.Tick.{tick_input}
use Rattle.edge_model.specs.Wire.{is_own_spoke, turned_wire}
use Rattle.edge_model.specs.Work.{Work, changes, idles}
use Rattle.edge_model.proofs.BridgeLemmas.{PingGoes, PingIdles, PingOutcome, ping_outcome}
use Rattle.network_model.specs.Absorb.{absorb, absorb_one, all_entries_of, answer, begin_at, idle, taken_all}
use Rattle.network_model.specs.Age.{aged_entries}
use Rattle.network_model.specs.Circuit.{circuit_event}
use Rattle.network_model.specs.Connection.{connect_event, connected_work, connecting, deliver_event, delivering, hearing_work, is_drained_pipe, lose_event, losing, losing_work, restart_event}
use Rattle.network_model.specs.declared.packet.Packet.{Packet}
use Rattle.network_model.specs.Frame.{entering, frame_event, next_origin}
use Rattle.network_model.specs.Packet.{again_event, arrive_event, discard_event, packet_at, packet_work}
use Rattle.network_model.specs.Ping.{ping_event, ping_work}
use Rattle.network_model.specs.State.{NetworkState, lives_on, stands, with_edge, with_frame, with_older, with_pipe, without_octets_to, without_packet}
use Rattle.network_model.specs.Step.{brings, step}
use Rattle.network_model.specs.Tick.{tick_at, tick_event, ticks_from}
use Rattle.network_model.specs.Wire.{priority_event, status_event, wire_event}
use Rattle.flight_laws.specs.Ends.{HasTypes, IsOrdered, ends_at}
use Rattle.flight_laws.proofs.CircuitLemmas.{idles_are}
use Rattle.flight_laws.proofs.EventLemmas.{older_ordered, stands_apart}
use Rattle.flight_laws.proofs.PlanLemmas.{joined_turned}
use Rattle.flight_laws.proofs.SaidLemmas.{IsReady, ready}
use Rattle.flight_laws.proofs.WorkingLemmas.{bits_kept, circuit_kept, packet_kept, ping_kept, priority_kept, received_kept, wire_kept}
use Rattle.flight_laws.proofs.WorksLemmas.{work_keeps}
use Rattle.spelling_laws.specs.Laws.{IsOnePdu, SpellPdus}
use Rattle.spelling_laws.proofs.ConnectLemmas.{connected_tells}
use Rattle.spelling_laws.proofs.EventLemmas.{begun, deliver_tells, losing_tells, tick_works}
use Rattle.spelling_laws.proofs.PutLemmas.{AllTell, IsTold, changes_tell}
use Rattle.spelling_laws.proofs.WorkLemmas.{Works, works_told}

-- ---- octets

-- the octets of a message that an end says are one PDU
pub told_pdu : (own : Peers) (octets : List ℕ) → IsTold own octets → IsOnePdu own octets
told_pdu own octets told = record {
  message = told.message;
  said = told.said;
  parsed = subst (λ (l : List ℕ). IsParsed 4096 l (record { base = 0; pdu = pdu } ∷ []) (Pending (length l) [])) (sym told.spelled)
      (subst (λ (l : List ℕ). IsParsed 4096 l (record { base = 0; pdu = pdu } ∷ []) (Pending (length bytes) [])) (append-nil bytes)
      (one_parsing.steps 0 4096 bytes [] pdu [] (Pending (length bytes) []) spells behind));
}
  where
    pdu : Pdu
    pdu = record { id = platform_of own.me; messages = told.message ∷ [] }

    bytes : List ℕ
    bytes = written told.message (platform_of own.me)

    is_ready : IsReady told.message own.me
    is_ready = ready own told.message told.fit told.said

    spells : Spells bytes 4096 pdu
    spells = written_is_read.read 4096 told.message (platform_of own.me) (omega arith) is_ready.can is_ready.fits
        (record { router = told.fit.me.four; space = omega arith }) (omega (arith, is_ready.short))

    none : (n : ℕ) → n ≡ 0 + n
    none n = omega arith

    behind : IsParsedFrom (0 + length bytes) 4096 [] [] (Pending (length bytes) [])
    behind = subst (λ (n : ℕ). IsParsedFrom n 4096 [] [] (Pending (length bytes) [])) (none (length bytes)) (one_parsing.waits (length bytes) 4096 [] (inl (omega arith)))

pub spell_joined : (plan : Plan) (xs ys : List Entry) → SpellPdus plan xs → SpellPdus plan ys → SpellPdus plan (xs ++ ys)
spell_joined plan [] ys one other = other
spell_joined plan (x ∷ xs) ys one other = (one.0, spell_joined plan xs ys one.1 other)

entries_spell : (plan : Plan) (me : EdgeId) (origin hops : ℕ) (es : List Effect) (network : NetworkState) → AllTell plan me.0 es → SpellPdus plan (all_entries_of me origin hops es network)
entries_spell plan me origin hops [] network tell = tt
entries_spell plan me origin hops (effect.Said peer octets ∷ es) network tell =
    (told_pdu (ends_at plan me.0 peer.0) octets tell.0, entries_spell plan me origin hops es (absorb_one me origin hops (effect.Said peer octets) network) tell.1)
entries_spell plan me origin hops (effect.Closed peer ∷ es) network tell = entries_spell plan me origin hops es (absorb_one me origin hops (effect.Closed peer) network) tell.1
entries_spell plan me origin hops (e ∷ es) network tell = (tt, entries_spell plan me origin hops es (absorb_one me origin hops e network) tell.1)

-- ---- events

idle_spells : (plan : Plan) (network : NetworkState) → SpellPdus plan (idle network).entries
idle_spells plan network = (tt, tt)

absorb_spells : (plan : Plan) (me : EdgeId) (origin hops : ℕ) (work : Work) (network : NetworkState) → AllTell plan me.0 work.effects → SpellPdus plan (absorb me origin hops work network).entries
absorb_spells plan me origin hops work network tell = entries_spell plan me origin hops work.effects (with_edge me work.edge network) tell

-- an input that applies or not
answer_spells : (plan : Plan) (network : NetworkState) (me : EdgeId) (applies : Bool) (work : Work) → AllTell plan me.0 work.effects
    → SpellPdus plan (answer me 0 0 (cond applies work (idles (begin_at network me))) network).entries
answer_spells plan network me true work tell = either work.idle where
  either : (b : Bool) → SpellPdus plan (cond b (idle network) (absorb me 0 0 work network)).entries
  either true = idle_spells plan network
  either false = absorb_spells plan me 0 0 work network tell
answer_spells plan network me false work tell = rw (idles_are (begin_at network me)) (idle_spells plan network)

module _ (plan : Plan) (network : NetworkState) (checked : IsChecked plan) (types : HasTypes plan) (ordered : IsOrdered plan network) where
  connect_spells : (from to : EdgeId) → SpellPdus plan (connect_event plan from to network).entries
  connect_spells from to = by (are_joined plan from.0 to.0) (stands network from.0 to.0) (stands network to.0 from.0) refl refl refl where
    by : (joined one other : Bool) → are_joined plan from.0 to.0 ≡ joined → stands network from.0 to.0 ≡ one → stands network to.0 from.0 ≡ other
        → SpellPdus plan (cond (joined && (not one && not other)) (connecting from (connected_work plan network from to) to (connected_work plan network to from) network) (idle network)).entries
    by true false false joined one other =
        spell_joined plan _ _ (entries_spell plan from 0 0 (connected_work plan network from to).effects _ (connected_tells plan network from to checked types ordered joined one))
        (entries_spell plan to 0 0 (connected_work plan network to from).effects _ (connected_tells plan network to from checked types ordered (sym (joined_turned plan from.0 to.0) ∙ joined) other))
    by true true other is none none' = idle_spells plan network
    by true false true is none none' = idle_spells plan network
    by false one other is none none' = idle_spells plan network

  losing_spells : (me peer : EdgeId) → stands network me.0 peer.0 ≡ true → SpellPdus plan (losing plan me peer network).entries
  losing_spells me peer up = absorb_spells plan me 0 0 (losing_work plan network me peer) network (losing_tells plan network me peer checked types ordered up)

  lose_spells : (me peer : EdgeId) → SpellPdus plan (lose_event plan me peer network).entries
  lose_spells me peer = by (stands network me.0 peer.0) refl where
    by : (up : Bool) → stands network me.0 peer.0 ≡ up → SpellPdus plan (cond up (losing plan me peer network) (idle network)).entries
    by true up = losing_spells me peer up
    by false up = idle_spells plan network

  delivering_spells : (from to : EdgeId) (count : ℕ) (near : Option Peering) → nat_eq from.0 to.0 ≡ false → (network.edges to.0).peering from.0 ≡ near → is_there near ≡ true
      → SpellPdus plan (delivering plan from to count network).entries
  delivering_spells from to count None apart at up = clash up
  delivering_spells from to count (Some kept) apart at up =
      absorb_spells plan to 0 0 (hearing_work plan network from to (take count (network.pipes from.0 to.0)))
      (with_pipe from to (drop count (network.pipes from.0 to.0)) network)
      (subst (λ (o : Option Peering). AllTell plan to.0 (octets_input plan taken_all from (take count (network.pipes from.0 to.0)) o (begin_at network to)).effects) (sym at)
      (deliver_tells plan from to count network kept checked types ordered apart at))

  deliver_spells : (from to : EdgeId) (count : ℕ) → SpellPdus plan (deliver_event plan from to count network).entries
  deliver_spells from to count = by_stand (stands network to.0 from.0) refl where
    some : stands network to.0 from.0 ≡ true → (drained : Bool) → SpellPdus plan (cond drained (losing plan to from network) (delivering plan from to count network)).entries
    some is true = losing_spells to from is
    some is false = delivering_spells from to count ((network.edges to.0).peering from.0) (stands_apart plan network from.0 to.0 ordered is) refl is

    which : stands network to.0 from.0 ≡ true → (any : Bool)
        → SpellPdus plan (cond any (cond (is_drained_pipe network from.0 to.0) (losing plan to from network) (delivering plan from to count network)) (idle network)).entries
    which is true = some is (is_drained_pipe network from.0 to.0)
    which is false = idle_spells plan network

    by_stand : (up : Bool) → stands network to.0 from.0 ≡ up
        → SpellPdus plan (cond (up && (not (is_drained_pipe network from.0 to.0) || not (stands network from.0 to.0)))
        (cond (is_drained_pipe network from.0 to.0) (losing plan to from network) (delivering plan from to count network)) (idle network)).entries
    by_stand true is = which is _
    by_stand false is = idle_spells plan network

  restart_spells : (me : EdgeId) → SpellPdus plan (restart_event me network).entries
  restart_spells me = absorb_spells plan me 0 0 (restart_input (begin_at network me)) (without_octets_to me network) (changes_tell plan me.0 restarted (begin_at network me) tt)

  frame_spells : (circuit : CircuitId) (octets : List ℕ) (row : Option CircuitPlan) → SpellPdus plan (frame_event plan circuit octets row network).entries
  frame_spells circuit octets None = idle_spells plan network
  frame_spells circuit octets (Some row) = taken (is_own start.edge row && is_on start.edge circuit) where
    start : Work
    start = begin_at network row.edge

    full : Work
    full = received plan taken_all (arrival.Circuit circuit) row.service (port_at plan start.edge circuit row) (inner_at plan circuit octets) start

    either : (idles_not : Bool) → SpellPdus plan (cond idles_not (idle network) (entering network circuit octets row full)).entries
    either true = idle_spells plan network
    either false = (
      tt,
      absorb_spells plan row.edge (next_origin network) 0 full (with_frame network)
          (received_kept plan row.edge (Works plan network row.edge checked types) (works_told plan network row.edge checked types) taken_all (arrival.Circuit circuit) row.service
          (port_at plan start.edge circuit row) (inner_at plan circuit octets) start (begun plan network row.edge checked types ordered)).1,
    )

    taken : (b : Bool) → SpellPdus plan (cond (cond b full (idles start)).idle (idle network) (entering network circuit octets row (cond b full (idles start)))).entries
    taken true = either full.idle
    taken false = rw (idles_are start) (idle_spells plan network)

  arrive_spells : (packet : Option Packet) → SpellPdus plan (arrive_event plan packet network).entries
  arrive_spells None = idle_spells plan network
  arrive_spells (Some packet) =
      absorb_spells plan packet.to packet.origin packet.hops (packet_work plan network packet) (without_packet packet.number network)
      (packet_kept plan packet.to (Works plan network packet.to checked types) (works_told plan network packet.to checked types) taken_all packet.bytes (begin_at network packet.to)
      (begun plan network packet.to checked types ordered)).1

  discard_spells : (packet : Option Packet) → SpellPdus plan (discard_event packet network).entries
  discard_spells None = idle_spells plan network
  discard_spells (Some packet) = tt

  again_spells : (packet : Option Packet) → SpellPdus plan (again_event packet network).entries
  again_spells None = idle_spells plan network
  again_spells (Some packet) = (tt, tt)

  circuit_spells : (circuit : CircuitId) (on : Bool) (row : Option CircuitPlan) → SpellPdus plan (circuit_event plan circuit on row network).entries
  circuit_spells circuit on None = idle_spells plan network
  circuit_spells circuit on (Some row) =
      answer_spells plan network row.edge (is_own (begin_at network row.edge).edge row && not (is_same on (is_on (begin_at network row.edge).edge circuit)))
      (mends plan taken_all (changes (turned plan circuit row on) (begin_at network row.edge)))
      (circuit_kept plan row.edge (Works plan network row.edge checked types) (works_told plan network row.edge checked types) circuit row on (begin_at network row.edge)
      (begun plan network row.edge checked types ordered)).1

  wire_spells : (me : EdgeId) (wire : WireId) (on : Bool) → SpellPdus plan (wire_event plan me wire on network).entries
  wire_spells me wire on =
      answer_spells plan network me (passes plan (begin_at network me).edge.me wire && not (is_same on ((begin_at network me).edge.wire_on wire.0)))
      (mends plan taken_all (changes (turned_wire wire on) (begin_at network me)))
      (wire_kept plan me (Works plan network me checked types) (works_told plan network me checked types) wire on (begin_at network me) (begun plan network me checked types ordered)).1

  status_spells : (me : EdgeId) (wire : WireId) (bits : ℕ) → bits ≤ 31 → SpellPdus plan (status_event plan me wire bits network).entries
  status_spells me wire bits few =
      answer_spells plan network me (ends_here plan (begin_at network me).edge.me wire && not (nat_eq bits ((begin_at network me).edge.bits wire.0)))
      (mends plan taken_all (changes (with_bits wire bits) (begin_at network me)))
      (bits_kept plan me (Works plan network me checked types) (works_told plan network me checked types) wire bits (begin_at network me) few (begun plan network me checked types ordered)).1

  priority_spells : (me : EdgeId) (wire : WireId) (priority : ℕ) → SpellPdus plan (priority_event plan me wire priority network).entries
  priority_spells me wire priority =
      answer_spells plan network me (is_own_spoke (begin_at network me).edge.me (wire_row plan wire) && not (nat_eq priority ((begin_at network me).edge.priority wire.0)))
      (mends plan taken_all (changes (with_priority wire priority) (begin_at network me)))
      (priority_kept plan me (Works plan network me checked types) (works_told plan network me checked types) wire priority (begin_at network me) (begun plan network me checked types ordered)).1

  ping_spells : (me : EdgeId) (wire : WireId) → SpellPdus plan (ping_event plan me wire network).entries
  ping_spells me wire = by (ping_outcome plan taken_all wire (begin_at network me)) where
    by : PingOutcome (begin_at network me) (ping_work plan network me wire) → SpellPdus plan (ping_event plan me wire network).entries
    by (PingIdles is) = subst (λ (work : Work). SpellPdus plan (answer me 0 0 work network).entries) (sym is) (answer_spells plan network me false (begin_at network me) tt)
    by (PingGoes only) =
        answer_spells plan network me true (ping_work plan network me wire)
        (ping_kept plan me (Works plan network me checked types) (works_told plan network me checked types) wire (begin_at network me) only (begun plan network me checked types ordered)).1

-- ---- ticks

ticks_spell : (plan : Plan) (place count : ℕ) (network : NetworkState) → IsChecked plan → HasTypes plan → IsOrdered plan network → SpellPdus plan (ticks_from plan place count network).entries
ticks_spell plan place zero network checked types ordered = tt
ticks_spell plan place (suc count) network checked types ordered =
    let me : EdgeId = record { 0 = place } in
    let ticked : Works plan network me checked types (tick_input plan taken_all (begin_at network me)) = tick_works plan network me checked types ordered in
    spell_joined plan (tick_at plan me network).entries (ticks_from plan (place + 1) count (tick_at plan me network).state).entries
    (absorb_spells plan me 0 0 (tick_input plan taken_all (begin_at network me)) network ticked.1)
    (ticks_spell plan (place + 1) count (tick_at plan me network).state checked types (work_keeps plan network me 0 0 (tick_input plan taken_all (begin_at network me)) ordered ticked.0).ordered)

aged_spell : (plan : Plan) (packets : List Packet) → SpellPdus plan (aged_entries packets)
aged_spell plan [] = tt
aged_spell plan (p ∷ ps) = by (lives_on p) (aged_spell plan ps) where
  by : (b : Bool) → SpellPdus plan (aged_entries ps) → SpellPdus plan (cond b (aged_entries ps) (entry.Aged p.number ∷ aged_entries ps))
  by true rest = rest
  by false rest = (tt, rest)

tick_spells : (plan : Plan) (network : NetworkState) → IsChecked plan → HasTypes plan → IsOrdered plan network → SpellPdus plan (tick_event plan network).entries
tick_spells plan network checked types ordered =
    spell_joined plan (aged_entries network.under_way) (ticks_from plan 0 (length plan.edges) (with_older network)).entries (aged_spell plan network.under_way)
    (ticks_spell plan 0 (length plan.edges) (with_older network) checked types (older_ordered plan network ordered))

-- ---- each event

brings_spells : (plan : Plan) (event : Event) (network : NetworkState) → IsChecked plan → HasTypes plan → IsEventOf plan event → IsOrdered plan network
    → SpellPdus plan (brings plan event network).entries
brings_spells plan (Connect from to) network checked types planned ordered = connect_spells plan network checked types ordered from to
brings_spells plan (Deliver from to count) network checked types planned ordered = deliver_spells plan network checked types ordered from to count
brings_spells plan (Lose me peer) network checked types planned ordered = lose_spells plan network checked types ordered me peer
brings_spells plan (Restart me) network checked types planned ordered = restart_spells plan network checked types ordered me
brings_spells plan Tick network checked types planned ordered = tick_spells plan network checked types ordered
brings_spells plan (Frame circuit octets) network checked types planned ordered = frame_spells plan network checked types ordered circuit octets (circuit_row plan circuit)
brings_spells plan (Circuit circuit on) network checked types planned ordered = circuit_spells plan network checked types ordered circuit on (circuit_row plan circuit)
brings_spells plan (Wire me wire on) network checked types planned ordered = wire_spells plan network checked types ordered me wire on
brings_spells plan (Status me wire bits) network checked types planned ordered = status_spells plan network checked types ordered me wire bits planned.2
brings_spells plan (Priority me wire priority) network checked types planned ordered = priority_spells plan network checked types ordered me wire priority
brings_spells plan (Arrive number) network checked types planned ordered = arrive_spells plan network checked types ordered (packet_at network number)
brings_spells plan (Discard number) network checked types planned ordered = discard_spells plan network checked types ordered (packet_at network number)
brings_spells plan (Again number) network checked types planned ordered = again_spells plan network checked types ordered (packet_at network number)
brings_spells plan (Ping me wire) network checked types planned ordered = ping_spells plan network checked types ordered me wire

pub step_spells : (plan : Plan) (event : Event) (network : NetworkState) → IsChecked plan → HasTypes plan → IsEventOf plan event → IsOrdered plan network
    → SpellPdus plan (step plan network event).entries
step_spells plan event network checked types planned ordered = (tt, brings_spells plan event network checked types planned ordered)
