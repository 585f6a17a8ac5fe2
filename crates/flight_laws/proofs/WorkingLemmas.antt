-- An edge at work on an input: what each of its parts keeps, the input keeps.
use Rattle.std.proofs.Common.{◌≡◌, ◌≤◌, ◌+◌, ℕ, zero, suc, Bool, true, false, List, Option, Result, length, refl}
use Rattle.net_base.specs.declared.plan.Plan.{Plan}
use Rattle.net_base.specs.declared.plan.circuit_plan.CircuitPlan.{CircuitPlan}
use Rattle.net_base.specs.declared.plan.places.CircuitId.{CircuitId}
use Rattle.net_base.specs.declared.plan.places.EdgeId.{EdgeId}
use Rattle.net_base.specs.declared.plan.places.ServiceId.{ServiceId}
use Rattle.net_base.specs.declared.plan.places.WireId.{WireId}
use Rattle.net_base.specs.declared.trace.arrival.Arrival.{Arrival}
use Rattle.net_base.specs.declared.trace.drop_cause.DropCause.{DropCause}
use Rattle.net_base.specs.declared.trace.state_name.Reason.TheVariants as reason
use Rattle.session_core.specs.Table.{Closed, Ticked}
use Rattle.pw_messages.specs.LinkAnswers.{Answers}
use Rattle.edge_model.specs.Circuit.{turned}
use Rattle.edge_model.specs.Frame.{received}
use Rattle.edge_model.specs.Mend.{mends}
use Rattle.edge_model.specs.Packet.{packet_input}
use Rattle.edge_model.specs.Session.{happens_with_ends}
use Rattle.edge_model.specs.State.{EdgeState, with_addresses, with_bits, with_circuit, with_learned, with_priority}
use Rattle.edge_model.specs.Tick.{counted, forgetting, tick_input, ticks_sessions}
use Rattle.edge_model.specs.Wire.{turned_wire}
use Rattle.edge_model.specs.Work.{Work, changes}
use Rattle.edge_model.specs.Ping.{ping_input}
use Rattle.network_model.specs.Absorb.{taken_all}
use Rattle.flight_laws.proofs.BridgeLemmas.{IsBridged, packet_bridged, received_bridged, pings_are}
use Rattle.flight_laws.proofs.KeepLemmas.{KeepsEnds}
use Rattle.flight_laws.proofs.MendingLemmas.{KeptByRows, mends_keep}
use Rattle.edge_model.proofs.BridgeLemmas.{PingsOnly}

-- what the parts of an edge's work keep, beside octets that it hears, a connection that comes up, and a restart
pub record KeptByWork (plan : Plan) (me : EdgeId) (I : Work → Type 0) : Type 0 where
  pub rows : KeptByRows plan me I
  -- the connection with a peer is lost, or a tick passes for the session with it
  pub closed : (peer : EdgeId) (work : Work) → I work → I (happens_with_ends taken_all peer (Closed reason.Closed) work)
  pub ticked : (peer : EdgeId) (work : Work) → I work → I (happens_with_ends taken_all peer Ticked work)
  -- a frame or a packet is bridged
  pub bridges : (old new : Work) → IsBridged old new → I old → I new
  -- a wire is put on or off, and the failure bits of an end are set
  pub turned : (wire : WireId) (on : Bool) (work : Work) → I work → I (changes (turned_wire wire on) work)
  pub bits : (wire : WireId) (bits : ℕ) (work : Work) → bits ≤ 31 → I work → I (changes (with_bits wire bits) work)

forgetting_keeps : (plan : Plan) (edge : EdgeState) → KeepsEnds edge (forgetting plan edge) × ((forgetting plan edge).peering ≡ edge.peering)
unfolding with_learned
forgetting_keeps plan edge = (record { me = refl; wire_on = refl; bits = refl; ends = refl; told_down = refl; next_label = refl; kept = refl }, refl)

turned_keeps : (plan : Plan) (circuit : CircuitId) (row : CircuitPlan) (on : Bool) (edge : EdgeState) → KeepsEnds edge (turned plan circuit row on edge)
    × ((turned plan circuit row on edge).peering ≡ edge.peering)
unfolding with_addresses with_circuit
turned_keeps plan circuit row true edge = (record { me = refl; wire_on = refl; bits = refl; ends = refl; told_down = refl; next_label = refl; kept = refl }, refl)
turned_keeps plan circuit row false edge = (record { me = refl; wire_on = refl; bits = refl; ends = refl; told_down = refl; next_label = refl; kept = refl }, refl)

pub priority_keeps : (wire : WireId) (priority : ℕ) (edge : EdgeState) → KeepsEnds edge (with_priority wire priority edge) × ((with_priority wire priority edge).peering ≡ edge.peering)
unfolding with_priority
priority_keeps wire priority edge = (record { me = refl; wire_on = refl; bits = refl; ends = refl; told_down = refl; next_label = refl; kept = refl }, refl)

module _ (plan : Plan) (me : EdgeId) (I : Work → Type 0) (kept : KeptByWork plan me I) where
  -- a tick, which the edge has counted
  sessions_kept : (place count : ℕ) (work : Work) → I work → I (ticks_sessions taken_all place count work)
  sessions_kept place zero work i = i
  sessions_kept place (suc count) work i = sessions_kept (place + 1) count (happens_with_ends taken_all (record { 0 = place }) Ticked work) (kept.ticked (record { 0 = place }) work i)

  pub tick_kept : (work : Work) → I (changes counted work) → I (tick_input plan taken_all work)
  tick_kept work i =
      let began : Work = changes counted work in
      let ticked : Work = ticks_sessions taken_all 0 (length plan.edges) began in
      let two = forgetting_keeps plan ticked.edge in
      mends_keep plan me I kept.rows (changes (forgetting plan) ticked)
      (kept.rows.others (forgetting plan) ticked two.0 two.1 (sessions_kept 0 (length plan.edges) began i))

  -- a connection is lost
  pub lost_kept : (peer : EdgeId) (work : Work) → I work → I (mends plan taken_all (happens_with_ends taken_all peer (Closed reason.Closed) work))
  lost_kept peer work i = mends_keep plan me I kept.rows _ (kept.closed peer work i)

  -- a circuit is turned
  pub circuit_kept : (circuit : CircuitId) (row : CircuitPlan) (on : Bool) (work : Work) → I work → I (mends plan taken_all (changes (turned plan circuit row on) work))
  circuit_kept circuit row on work i =
      let one = turned_keeps plan circuit row on work.edge in
      mends_keep plan me I kept.rows _ (kept.rows.others (turned plan circuit row on) work one.0 one.1 i)

  -- a wire is put on or off, and bits are set
  pub wire_kept : (wire : WireId) (on : Bool) (work : Work) → I work → I (mends plan taken_all (changes (turned_wire wire on) work))
  wire_kept wire on work i = mends_keep plan me I kept.rows _ (kept.turned wire on work i)

  pub bits_kept : (wire : WireId) (bits : ℕ) (work : Work) → bits ≤ 31 → I work → I (mends plan taken_all (changes (with_bits wire bits) work))
  bits_kept wire bits work few i = mends_keep plan me I kept.rows _ (kept.bits wire bits work few i)

  -- a spoke has another priority number
  pub priority_kept : (wire : WireId) (priority : ℕ) (work : Work) → I work → I (mends plan taken_all (changes (with_priority wire priority) work))
  priority_kept wire priority work i =
      let one = priority_keeps wire priority work.edge in
      mends_keep plan me I kept.rows _ (kept.rows.others (with_priority wire priority) work one.0 one.1 i)

  -- a frame comes, or a packet
  pub received_kept : (told : Answers) (came : Arrival) (service : ServiceId) (arrival : Option ℕ) (read : Result (List ℕ) DropCause) (work : Work) → I work
      → I (received plan told came service arrival read work)
  received_kept told came service arrival read work i = kept.bridges work _ (received_bridged plan told came service arrival read work) i

  pub packet_kept : (told : Answers) (octets : List ℕ) (work : Work) → I work → I (packet_input plan told octets work)
  packet_kept told octets work i = kept.bridges work _ (packet_bridged plan told octets work) i

  -- a ping that applies
  pub ping_kept : (wire : WireId) (work : Work) → PingsOnly work (ping_input plan taken_all wire work) → I work → I (ping_input plan taken_all wire work)
  ping_kept wire work only i = kept.bridges work _ (pings_are work _ only) i
