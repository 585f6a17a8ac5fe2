-- Events that tell of no frame: connections come and go, octets are delivered, edges restart, circuits and wires go on and
-- off, and failures of wires are set. A tick tells of none either, and makes the packets under way older.
use Rattle.std.proofs.Common.{◌≡◌, ◌+◌, ◌++◌, ◌∙◌, ℕ, zero, suc, Bool, true, false, List, [], ◌∷◌, Option, Some, None, cond, refl, length, take, drop}
use Rattle.net_values.proofs.BoolLemmas.{first_holds, second_holds}
use Rattle.net_base.specs.declared.plan.Plan.{Plan}
use Rattle.net_base.specs.declared.plan.circuit_plan.CircuitPlan.{CircuitPlan}
use Rattle.net_base.specs.declared.plan.places.CircuitId.{CircuitId}
use Rattle.net_base.specs.declared.plan.places.EdgeId.{EdgeId}
use Rattle.net_base.specs.declared.plan.places.WireId.{WireId}
use Rattle.net_base.specs.declared.trace.entry.Entry.{Entry}
use Rattle.net_base.specs.declared.trace.entry.Entry.TheVariants.{Left, Sent}
use Rattle.net_base.specs.declared.trace.event.Event.{Event}
use Rattle.net_base.specs.declared.trace.event.Event.TheVariants.{Connect, Deliver, Lose, Restart, Tick, Frame, Arrive, Discard, Again, Wire, Circuit, Status, Priority, Ping}
use Rattle.net_base.specs.plan.Places.{circuit_row}
use Rattle.edge_model.specs.Circuit.{circuit_input}
use Rattle.edge_model.specs.Connection.{restart_input}
use Rattle.edge_model.specs.declared.effect.Effect.{Effect}
use Rattle.edge_model.specs.declared.effect.Effect.TheVariants as effect
use Rattle.edge_model.specs.State.{EdgeState}
use Rattle.edge_model.specs.Tick.{tick_input}
use Rattle.edge_model.specs.Wire.{priority_input, status_input, wire_input}
use Rattle.edge_model.specs.Work.{Work, changes}
use Rattle.edge_model.proofs.SessionLemmas.{are_all, own_effects}
use Rattle.edge_model.proofs.SignalLemmas.{circuit_signals, connected_signals, is_of_signalling, lost_signals, octets_signal, priority_signals, status_signals, tick_works, wire_signals}
use Rattle.network_model.specs.declared.packet.Packet.{Packet}
use Rattle.network_model.specs.Age.{aged_entries}
use Rattle.net_base.specs.declared.trace.entry.Entry.TheVariants.{Aged}
use Rattle.network_model.specs.Absorb.{Stepped, absorb, absorb_all, absorb_one, all_entries_of, answer, begin_at, idle, taken_all}
use Rattle.network_model.specs.Circuit.{circuit_event}
use Rattle.network_model.specs.Connection.{can_connect, connect_event, connected_work, connecting, deliver_event, delivering, given_out, hearing_work, is_deliverable, is_drained_pipe, lose_event, losing, losing_work, restart_event}
use Rattle.network_model.specs.State.{NetworkState, edge_at, lives_on, stands, with_edge, with_older, with_pipe, without_octets_to}
use Rattle.network_model.specs.Step.{step}
use Rattle.network_model.specs.Tick.{tick_at, tick_event, ticks_from}
use Rattle.network_model.specs.Wire.{priority_event, status_event, wire_event}

-- no frame left, and no packet was sent
abbrev pub NoneGoesOut : List Entry → Type 0
NoneGoesOut [] = Unit {0}
NoneGoesOut (Left circuit origin hops octets ∷ es) = ⊥
NoneGoesOut (Sent from to wire came packet origin hops octets ∷ es) = ⊥
NoneGoesOut (e ∷ es) = NoneGoesOut es

pub none-append : (xs ys : List Entry) → NoneGoesOut xs → NoneGoesOut ys → NoneGoesOut (xs ++ ys)
none-append [] ys front back = back
none-append (Left circuit origin hops octets ∷ xs) ys front back = front
none-append (Sent from to wire came packet origin hops octets ∷ xs) ys front back = front
none-append (x ∷ xs) ys front back = none-append xs ys front back

-- effects of signalling are told so
pub signals_tell : (me : EdgeId) (origin hops : ℕ) (es : List Effect) (network : NetworkState) → are_all is_of_signalling es ≡ true → NoneGoesOut (all_entries_of me origin hops es network)
signals_tell me origin hops [] network own = tt
signals_tell me origin hops (effect.Said peer octets ∷ es) network own = signals_tell me origin hops es (absorb_one me origin hops (effect.Said peer octets) network) own
signals_tell me origin hops (effect.Session peer state ∷ es) network own = signals_tell me origin hops es network own
signals_tell me origin hops (effect.Wire wire down ∷ es) network own = signals_tell me origin hops es network own
signals_tell me origin hops (effect.Closed peer ∷ es) network own = signals_tell me origin hops es (absorb_one me origin hops (effect.Closed peer) network) own
signals_tell me origin hops (e ∷ es) network own = absurd (cc (own))

-- what effects of signalling leave of a network as it is
pub record IsQuiet (old new : NetworkState) : Type 0 where
  pub under_way : new.under_way ≡ old.under_way
  pub sent : new.sent ≡ old.sent
  pub entered : new.entered ≡ old.entered

pipe_quiet : (from to : EdgeId) (octets : List ℕ) (network : NetworkState) (b : Bool) → IsQuiet network (cond b (with_pipe from to octets network) network)
unfolding with_pipe
pipe_quiet from to octets network true = record { under_way = refl; sent = refl; entered = refl }
pipe_quiet from to octets network false = record { under_way = refl; sent = refl; entered = refl }

quiet_then : (a b c : NetworkState) → IsQuiet a b → IsQuiet b c → IsQuiet a c
quiet_then a b c first next = record { under_way = next.under_way ∙ first.under_way; sent = next.sent ∙ first.sent; entered = next.entered ∙ first.entered }

one_quiet : (me : EdgeId) (origin hops : ℕ) (e : Effect) (network : NetworkState) → is_of_signalling e ≡ true → IsQuiet network (absorb_one me origin hops e network)
one_quiet me origin hops (effect.Said peer octets) network own = pipe_quiet me peer _ network (stands network peer.0 me.0)
one_quiet me origin hops (effect.Session peer state) network own = record { under_way = refl; sent = refl; entered = refl }
one_quiet me origin hops (effect.Wire wire down) network own = record { under_way = refl; sent = refl; entered = refl }
one_quiet me origin hops (effect.Closed peer) network own = pipe_quiet peer me [] network true
one_quiet me origin hops e network own = absurd (cc (own))

pub signals_quiet : (me : EdgeId) (origin hops : ℕ) (es : List Effect) (network : NetworkState) → are_all is_of_signalling es ≡ true → IsQuiet network (absorb_all me origin hops es network)
signals_quiet me origin hops [] network own = record { under_way = refl; sent = refl; entered = refl }
signals_quiet me origin hops (e ∷ es) network own =
    let next : NetworkState = absorb_one me origin hops e network in
    quiet_then network next (absorb_all me origin hops es next) (one_quiet me origin hops e network (first_holds (is_of_signalling e) (are_all is_of_signalling es) own))
    (signals_quiet me origin hops es next (second_holds (is_of_signalling e) (are_all is_of_signalling es) own))

-- ---- the works of the events give out effects of signalling alone

pub connected_own : (plan : Plan) (network : NetworkState) (me peer : EdgeId) → are_all is_of_signalling (connected_work plan network me peer).effects ≡ true
connected_own plan network me peer = own_effects is_of_signalling (connected_work plan network me peer).effects (connected_signals plan taken_all peer (begin_at network me)).effects

pub hearing_own : (plan : Plan) (network : NetworkState) (from to : EdgeId) (octets : List ℕ) → are_all is_of_signalling (hearing_work plan network from to octets).effects ≡ true
hearing_own plan network from to octets =
    own_effects is_of_signalling (hearing_work plan network from to octets).effects (octets_signal plan taken_all from octets ((edge_at network to).peering from.0) (begin_at network to)).effects

pub losing_own : (plan : Plan) (network : NetworkState) (me peer : EdgeId) → are_all is_of_signalling (losing_work plan network me peer).effects ≡ true
losing_own plan network me peer = own_effects is_of_signalling (losing_work plan network me peer).effects (lost_signals plan taken_all peer (begin_at network me)).effects

pub ticking_own : (plan : Plan) (network : NetworkState) (me : EdgeId) → are_all is_of_signalling (tick_input plan taken_all (begin_at network me)).effects ≡ true
ticking_own plan network me = own_effects is_of_signalling (tick_input plan taken_all (begin_at network me)).effects (tick_works plan taken_all (begin_at network me)).effects

pub circuit_own : (plan : Plan) (network : NetworkState) (circuit : CircuitId) (on : Bool) (row : CircuitPlan)
    → are_all is_of_signalling (circuit_input plan taken_all circuit on (Some row) (begin_at network row.edge)).effects ≡ true
circuit_own plan network circuit on row =
    own_effects is_of_signalling (circuit_input plan taken_all circuit on (Some row) (begin_at network row.edge)).effects
    (circuit_signals plan taken_all circuit on (Some row) (begin_at network row.edge)).effects

pub wire_own : (plan : Plan) (network : NetworkState) (me : EdgeId) (wire : WireId) (on : Bool) → are_all is_of_signalling (wire_input plan taken_all wire on (begin_at network me)).effects ≡ true
wire_own plan network me wire on = own_effects is_of_signalling (wire_input plan taken_all wire on (begin_at network me)).effects (wire_signals plan taken_all wire on (begin_at network me)).effects

pub status_own : (plan : Plan) (network : NetworkState) (me : EdgeId) (wire : WireId) (bits : ℕ) → are_all is_of_signalling (status_input plan taken_all wire bits (begin_at network me)).effects ≡ true
status_own plan network me wire bits =
    own_effects is_of_signalling (status_input plan taken_all wire bits (begin_at network me)).effects (status_signals plan taken_all wire bits (begin_at network me)).effects

pub priority_own : (plan : Plan) (network : NetworkState) (me : EdgeId) (wire : WireId) (priority : ℕ)
    → are_all is_of_signalling (priority_input plan taken_all wire priority (begin_at network me)).effects ≡ true
priority_own plan network me wire priority =
    own_effects is_of_signalling (priority_input plan taken_all wire priority (begin_at network me)).effects (priority_signals plan taken_all wire priority (begin_at network me)).effects

-- ---- the events

pub connect_tells : (plan : Plan) (from to : EdgeId) (network : NetworkState) → NoneGoesOut (connect_event plan from to network).entries
connect_tells plan from to network = by (can_connect plan network from.0 to.0) where
  first : Work
  first = connected_work plan network from to

  second : Work
  second = connected_work plan network to from

  by : (connects : Bool) → NoneGoesOut (cond connects (connecting from first to second network) (idle network)).entries
  by true =
      let ready : NetworkState = with_edge to second.edge (with_edge from first.edge network) in
      let here : Stepped = given_out from first.effects ready in
      none-append here.entries (given_out to second.effects here.state).entries
      (signals_tell from 0 0 first.effects ready (connected_own plan network from to))
      (signals_tell to 0 0 second.effects here.state (connected_own plan network to from))
  by false = tt

losing_tells : (plan : Plan) (me peer : EdgeId) (network : NetworkState) → NoneGoesOut (losing plan me peer network).entries
losing_tells plan me peer network = signals_tell me 0 0 (losing_work plan network me peer).effects (with_edge me (losing_work plan network me peer).edge network) (losing_own plan network me peer)

delivering_tells : (plan : Plan) (from to : EdgeId) (count : ℕ) (network : NetworkState) → NoneGoesOut (delivering plan from to count network).entries
delivering_tells plan from to count network =
    let octets : List ℕ = take count (network.pipes from.0 to.0) in
    signals_tell to 0 0 (hearing_work plan network from to octets).effects
    (with_edge to (hearing_work plan network from to octets).edge (with_pipe from to (drop count (network.pipes from.0 to.0)) network))
    (hearing_own plan network from to octets)

pub deliver_tells : (plan : Plan) (from to : EdgeId) (count : ℕ) (network : NetworkState) → NoneGoesOut (deliver_event plan from to count network).entries
deliver_tells plan from to count network = by (is_deliverable network from.0 to.0) (is_drained_pipe network from.0 to.0) where
  by : (applies drained : Bool) → NoneGoesOut (cond applies (cond drained (losing plan to from network) (delivering plan from to count network)) (idle network)).entries
  by true true = losing_tells plan to from network
  by true false = delivering_tells plan from to count network
  by false drained = tt

pub lose_tells : (plan : Plan) (me peer : EdgeId) (network : NetworkState) → NoneGoesOut (lose_event plan me peer network).entries
lose_tells plan me peer network = by (stands network me.0 peer.0) where
  by : (applies : Bool) → NoneGoesOut (cond applies (losing plan me peer network) (idle network)).entries
  by true = losing_tells plan me peer network
  by false = tt

pub restart_tells : (me : EdgeId) (network : NetworkState) → NoneGoesOut (restart_event me network).entries
unfolding changes
restart_tells me network = tt

answer_tells : (me : EdgeId) (work : Work) (network : NetworkState) → are_all is_of_signalling work.effects ≡ true → NoneGoesOut (answer me 0 0 work network).entries
answer_tells me work network own = by work.idle where
  by : (idles : Bool) → NoneGoesOut (cond idles (idle network) (absorb me 0 0 work network)).entries
  by true = tt
  by false = signals_tell me 0 0 work.effects (with_edge me work.edge network) own

pub circuit_tells : (plan : Plan) (network : NetworkState) (circuit : CircuitId) (on : Bool) (row : Option CircuitPlan) → NoneGoesOut (circuit_event plan circuit on row network).entries
circuit_tells plan network circuit on None = tt
circuit_tells plan network circuit on (Some row) =
    answer_tells row.edge (circuit_input plan taken_all circuit on (Some row) (begin_at network row.edge)) network (circuit_own plan network circuit on row)

pub wire_tells : (plan : Plan) (me : EdgeId) (wire : WireId) (on : Bool) (network : NetworkState) → NoneGoesOut (wire_event plan me wire on network).entries
wire_tells plan me wire on network = answer_tells me (wire_input plan taken_all wire on (begin_at network me)) network (wire_own plan network me wire on)

pub status_tells : (plan : Plan) (me : EdgeId) (wire : WireId) (bits : ℕ) (network : NetworkState) → NoneGoesOut (status_event plan me wire bits network).entries
status_tells plan me wire bits network = answer_tells me (status_input plan taken_all wire bits (begin_at network me)) network (status_own plan network me wire bits)

pub priority_tells : (plan : Plan) (me : EdgeId) (wire : WireId) (priority : ℕ) (network : NetworkState) → NoneGoesOut (priority_event plan me wire priority network).entries
priority_tells plan me wire priority network = answer_tells me (priority_input plan taken_all wire priority (begin_at network me)) network (priority_own plan network me wire priority)

ticks_tell : (plan : Plan) (place count : ℕ) (network : NetworkState) → NoneGoesOut (ticks_from plan place count network).entries
ticks_tell plan place zero network = tt
ticks_tell plan place (suc count) network =
    let me : EdgeId = record { 0 = place } in
    let first : Stepped = tick_at plan me network in
    let work : Work = tick_input plan taken_all (begin_at network me) in
    none-append first.entries (ticks_from plan (place + 1) count first.state).entries (signals_tell me 0 0 work.effects (with_edge me work.edge network) (ticking_own plan network me))
    (ticks_tell plan (place + 1) count first.state)

aged_tell : (packets : List Packet) → NoneGoesOut (aged_entries packets)
aged_tell [] = tt
aged_tell (p ∷ ps) = by (lives_on p) (aged_tell ps) where
  by : (b : Bool) → NoneGoesOut (aged_entries ps) → NoneGoesOut (cond b (aged_entries ps) (Aged p.number ∷ aged_entries ps))
  by true rest = rest
  by false rest = rest

pub tick_tells : (plan : Plan) (network : NetworkState) → NoneGoesOut (tick_event plan network).entries
tick_tells plan network =
    none-append (aged_entries network.under_way) (ticks_from plan 0 (length plan.edges) (with_older network)).entries (aged_tell network.under_way)
    (ticks_tell plan 0 (length plan.edges) (with_older network))

-- ---- and leave the packets under way, and the counts, as they are

edge_quiet : (me : EdgeId) (edge : EdgeState) (network : NetworkState) → IsQuiet network (with_edge me edge network)
unfolding with_edge
edge_quiet me edge network = record { under_way = refl; sent = refl; entered = refl }

emptied_quiet : (me : EdgeId) (network : NetworkState) → IsQuiet network (without_octets_to me network)
unfolding without_octets_to
emptied_quiet me network = record { under_way = refl; sent = refl; entered = refl }

absorb_quiet : (me : EdgeId) (work : Work) (network : NetworkState) → are_all is_of_signalling work.effects ≡ true → IsQuiet network (absorb me 0 0 work network).state
absorb_quiet me work network own =
    let next : NetworkState = with_edge me work.edge network in
    quiet_then network next (absorb_all me 0 0 work.effects next) (edge_quiet me work.edge network) (signals_quiet me 0 0 work.effects next own)

answer_quiet : (me : EdgeId) (work : Work) (network : NetworkState) → are_all is_of_signalling work.effects ≡ true → IsQuiet network (answer me 0 0 work network).state
answer_quiet me work network own = by work.idle where
  by : (idles : Bool) → IsQuiet network (cond idles (idle network) (absorb me 0 0 work network)).state
  by true = record { under_way = refl; sent = refl; entered = refl }
  by false = absorb_quiet me work network own

connecting_quiet : (plan : Plan) (from to : EdgeId) (network : NetworkState)
    → IsQuiet network (connecting from (connected_work plan network from to) to (connected_work plan network to from) network).state
connecting_quiet plan from to network =
    let first : Work = connected_work plan network from to in
    let second : Work = connected_work plan network to from in
    let one : NetworkState = with_edge from first.edge network in
    let both : NetworkState = with_edge to second.edge one in
    let here : NetworkState = absorb_all from 0 0 first.effects both in
    quiet_then network both (absorb_all to 0 0 second.effects here)
    (quiet_then network one both (edge_quiet from first.edge network) (edge_quiet to second.edge one))
    (quiet_then both here (absorb_all to 0 0 second.effects here)
    (signals_quiet from 0 0 first.effects both (connected_own plan network from to))
    (signals_quiet to 0 0 second.effects here (connected_own plan network to from)))

connect_quiet : (plan : Plan) (from to : EdgeId) (network : NetworkState) → IsQuiet network (connect_event plan from to network).state
connect_quiet plan from to network = by (can_connect plan network from.0 to.0) where
  by : (connects : Bool) → IsQuiet network (cond connects (connecting from (connected_work plan network from to) to (connected_work plan network to from) network) (idle network)).state
  by true = connecting_quiet plan from to network
  by false = record { under_way = refl; sent = refl; entered = refl }

delivering_quiet : (plan : Plan) (from to : EdgeId) (count : ℕ) (network : NetworkState) → IsQuiet network (delivering plan from to count network).state
delivering_quiet plan from to count network =
    let octets : List ℕ = take count (network.pipes from.0 to.0) in
    let rest : List ℕ = drop count (network.pipes from.0 to.0) in
    let work : Work = hearing_work plan network from to octets in
    quiet_then network (with_pipe from to rest network) (delivering plan from to count network).state (pipe_quiet from to rest network true)
    (absorb_quiet to work (with_pipe from to rest network) (hearing_own plan network from to octets))

losing_quiet : (plan : Plan) (me peer : EdgeId) (network : NetworkState) → IsQuiet network (losing plan me peer network).state
losing_quiet plan me peer network = absorb_quiet me (losing_work plan network me peer) network (losing_own plan network me peer)

deliver_quiet : (plan : Plan) (from to : EdgeId) (count : ℕ) (network : NetworkState) → IsQuiet network (deliver_event plan from to count network).state
deliver_quiet plan from to count network = by (is_deliverable network from.0 to.0) (is_drained_pipe network from.0 to.0) where
  by : (applies drained : Bool) → IsQuiet network (cond applies (cond drained (losing plan to from network) (delivering plan from to count network)) (idle network)).state
  by true true = losing_quiet plan to from network
  by true false = delivering_quiet plan from to count network
  by false drained = record { under_way = refl; sent = refl; entered = refl }

lose_quiet : (plan : Plan) (me peer : EdgeId) (network : NetworkState) → IsQuiet network (lose_event plan me peer network).state
lose_quiet plan me peer network = by (stands network me.0 peer.0) where
  by : (applies : Bool) → IsQuiet network (cond applies (losing plan me peer network) (idle network)).state
  by true = losing_quiet plan me peer network
  by false = record { under_way = refl; sent = refl; entered = refl }

restarting_own : (network : NetworkState) (me : EdgeId) → are_all is_of_signalling (restart_input (begin_at network me)).effects ≡ true
unfolding changes
restarting_own network me = refl

restart_quiet : (me : EdgeId) (network : NetworkState) → IsQuiet network (restart_event me network).state
restart_quiet me network =
    let work : Work = restart_input (begin_at network me) in
    quiet_then network (without_octets_to me network) (restart_event me network).state (emptied_quiet me network)
    (absorb_quiet me work (without_octets_to me network) (restarting_own network me))

pub ticks_quiet : (plan : Plan) (place count : ℕ) (network : NetworkState) → IsQuiet network (ticks_from plan place count network).state
ticks_quiet plan place zero network = record { under_way = refl; sent = refl; entered = refl }
ticks_quiet plan place (suc count) network =
    let me : EdgeId = record { 0 = place } in
    let first : NetworkState = (tick_at plan me network).state in
    quiet_then network first (ticks_from plan (place + 1) count first).state
    (absorb_quiet me (tick_input plan taken_all (begin_at network me)) network (ticking_own plan network me)) (ticks_quiet plan (place + 1) count first)

circuit_quiet : (plan : Plan) (network : NetworkState) (circuit : CircuitId) (on : Bool) (row : Option CircuitPlan) → IsQuiet network (circuit_event plan circuit on row network).state
circuit_quiet plan network circuit on None = record { under_way = refl; sent = refl; entered = refl }
circuit_quiet plan network circuit on (Some row) =
    answer_quiet row.edge (circuit_input plan taken_all circuit on (Some row) (begin_at network row.edge)) network (circuit_own plan network circuit on row)

-- ---- every event but six: ticks pass, frames enter, packets arrive, are lost or are repeated, and edges ping

abbrev pub moves_packets : Event → Bool
moves_packets Tick = true
moves_packets (Frame circuit octets) = true
moves_packets (Arrive number) = true
moves_packets (Discard number) = true
moves_packets (Again number) = true
moves_packets (Ping me wire) = true
moves_packets event = false

pub record IsSignalStep (network : NetworkState) (stepped : Stepped) : Type 0 where
  pub tells : NoneGoesOut stepped.entries
  pub quiet : IsQuiet network stepped.state

pub step_signals : (plan : Plan) (network : NetworkState) (event : Event) → moves_packets event ≡ false → IsSignalStep network (step plan network event)
step_signals plan network (Connect from to) other = record { tells = connect_tells plan from to network; quiet = connect_quiet plan from to network }
step_signals plan network (Deliver from to count) other = record { tells = deliver_tells plan from to count network; quiet = deliver_quiet plan from to count network }
step_signals plan network (Lose me peer) other = record { tells = lose_tells plan me peer network; quiet = lose_quiet plan me peer network }
step_signals plan network (Restart me) other = record { tells = restart_tells me network; quiet = restart_quiet me network }
step_signals plan network Tick other = absurd (cc (other))
step_signals plan network (Circuit circuit on) other = record {
  tells = circuit_tells plan network circuit on (circuit_row plan circuit);
  quiet = circuit_quiet plan network circuit on (circuit_row plan circuit);
}
step_signals plan network (Wire me wire on) other = record {
  tells = wire_tells plan me wire on network;
  quiet = answer_quiet me (wire_input plan taken_all wire on (begin_at network me)) network (wire_own plan network me wire on);
}
step_signals plan network (Status me wire bits) other = record {
  tells = status_tells plan me wire bits network;
  quiet = answer_quiet me (status_input plan taken_all wire bits (begin_at network me)) network (status_own plan network me wire bits);
}
step_signals plan network (Priority me wire priority) other = record {
  tells = priority_tells plan me wire priority network;
  quiet = answer_quiet me (priority_input plan taken_all wire priority (begin_at network me)) network (priority_own plan network me wire priority);
}
step_signals plan network (Frame circuit octets) other = absurd (cc (other))
step_signals plan network (Arrive number) other = absurd (cc (other))
step_signals plan network (Discard number) other = absurd (cc (other))
step_signals plan network (Again number) other = absurd (cc (other))
step_signals plan network (Ping me wire) other = absurd (cc (other))
