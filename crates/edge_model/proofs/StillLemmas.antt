-- An input that does not apply leaves the edge as it is.
use Rattle.std.proofs.Common.{◌≡◌, ◌&&◌, ◌∙◌, ℕ, Bool, true, false, List, Option, Some, None, cond, nat_eq, not, slice_get, refl, sym, ap}
use Rattle.net_base.specs.declared.plan.Plan.{Plan}
use Rattle.net_base.specs.declared.plan.circuit_plan.CircuitPlan.{CircuitPlan}
use Rattle.net_base.specs.declared.plan.edge_plan.EdgePlan.{EdgePlan}
use Rattle.net_base.specs.declared.plan.places.CircuitId.{CircuitId}
use Rattle.net_base.specs.declared.plan.places.EdgeId.{EdgeId}
use Rattle.net_base.specs.declared.plan.places.WireId.{WireId}
use Rattle.net_base.specs.declared.trace.arrival.Arrival.TheVariants as arrival
use Rattle.net_base.specs.declared.trace.state_name.Reason.TheVariants as reason
use Rattle.net_base.specs.plan.Paths.{are_joined}
use Rattle.net_base.specs.plan.Places.{wire_row}
use Rattle.net_base.specs.trace.Isolated.{inner_at}
use Rattle.session_core.specs.Table.{Closed}
use Rattle.pw_messages.specs.LinkAnswers.{Answers}
use Rattle.edge_model.specs.Circuit.{circuit_input, is_same, turned}
use Rattle.edge_model.specs.Connection.{connected_input, connects_between, lost_input, opened_with}
use Rattle.edge_model.specs.Frame.{frame_input, is_own, port_at, received}
use Rattle.edge_model.specs.Hear.{octets_input}
use Rattle.edge_model.specs.EndPlaces.{ends_here, passes}
use Rattle.edge_model.specs.Mend.{mends}
use Rattle.edge_model.specs.Packet.{packet_input}
use Rattle.edge_model.specs.Session.{happens_with_ends}
use Rattle.edge_model.specs.State.{Peering, has_end, is_on, is_there, with_bits, with_priority}
use Rattle.edge_model.specs.Wire.{is_own_spoke, priority_input, status_input, turned_wire, wire_input}
use Rattle.edge_model.specs.Work.{Work, changes, idles}
use Rattle.edge_model.proofs.BridgeLemmas.{packet_bridges, received_bridges}
use Rattle.edge_model.proofs.SignalLemmas.{begun_signals, ended_signals, heard_signals, mends_signals}

-- a packet applies
pub packet_applies : (plan : Plan) (told : Answers) (octets : List ℕ) (work : Work) → (packet_input plan told octets work).idle ≡ work.idle
packet_applies plan told octets work = (packet_bridges plan told octets work).idle

-- a frame that does not apply
pub frame_still : (plan : Plan) (told : Answers) (circuit : CircuitId) (octets : List ℕ) (row : Option CircuitPlan) (work : Work)
    → work.idle ≡ false → (frame_input plan told circuit octets row work).idle ≡ true → (frame_input plan told circuit octets row work).edge ≡ work.edge
unfolding idles
frame_still plan told circuit octets None work begins idle = refl
frame_still plan told circuit octets (Some row) work begins idle = by (is_own work.edge row && is_on work.edge circuit) idle
  where
    taken : Work
    taken = received plan told (arrival.Circuit circuit) row.service (port_at plan work.edge circuit row) (inner_at plan circuit octets) work

    by : (b : Bool) → (cond b taken (idles work)).idle ≡ true → (cond b taken (idles work)).edge ≡ work.edge
    by true e =
        let applies : taken.idle ≡ false = (received_bridges plan told (arrival.Circuit circuit) row.service (port_at plan work.edge circuit row) (inner_at plan circuit octets) work).idle ∙ begins in
        let wrong : true ≡ false = sym e ∙ applies in
        absurd (cc (wrong))
    by false e = refl

-- ---- what is set: a circuit or a wire that is so already, or bits that are

pub circuit_still : (plan : Plan) (told : Answers) (circuit : CircuitId) (on : Bool) (row : Option CircuitPlan) (work : Work)
    → work.idle ≡ false → (circuit_input plan told circuit on row work).idle ≡ true → (circuit_input plan told circuit on row work).edge ≡ work.edge
unfolding changes idles
circuit_still plan told circuit on None work begins idle = refl
circuit_still plan told circuit on (Some row) work begins idle = by (is_own work.edge row && not (is_same on (is_on work.edge circuit))) idle
  where
    set : Work
    set = mends plan told (changes (turned plan circuit row on) work)

    by : (b : Bool) → (cond b set (idles work)).idle ≡ true → (cond b set (idles work)).edge ≡ work.edge
    by true e =
        let wrong : true ≡ false = sym e ∙ ((mends_signals plan told (changes (turned plan circuit row on) work)).idle ∙ begins) in
        absurd (cc (wrong))
    by false e = refl

pub wire_still : (plan : Plan) (told : Answers) (wire : WireId) (on : Bool) (work : Work)
    → work.idle ≡ false → (wire_input plan told wire on work).idle ≡ true → (wire_input plan told wire on work).edge ≡ work.edge
unfolding changes idles
wire_still plan told wire on work begins idle = by (passes plan work.edge.me wire && not (is_same on (work.edge.wire_on wire.0))) idle
  where
    set : Work
    set = mends plan told (changes (turned_wire wire on) work)

    by : (b : Bool) → (cond b set (idles work)).idle ≡ true → (cond b set (idles work)).edge ≡ work.edge
    by true e =
        let wrong : true ≡ false = sym e ∙ ((mends_signals plan told (changes (turned_wire wire on) work)).idle ∙ begins) in
        absurd (cc (wrong))
    by false e = refl

pub status_still : (plan : Plan) (told : Answers) (wire : WireId) (bits : ℕ) (work : Work)
    → work.idle ≡ false → (status_input plan told wire bits work).idle ≡ true → (status_input plan told wire bits work).edge ≡ work.edge
unfolding changes idles
status_still plan told wire bits work begins idle = by (ends_here plan work.edge.me wire && not (nat_eq bits (work.edge.bits wire.0))) idle
  where
    set : Work
    set = mends plan told (changes (with_bits wire bits) work)

    by : (b : Bool) → (cond b set (idles work)).idle ≡ true → (cond b set (idles work)).edge ≡ work.edge
    by true e =
        let wrong : true ≡ false = sym e ∙ ((mends_signals plan told (changes (with_bits wire bits) work)).idle ∙ begins) in
        absurd (cc (wrong))
    by false e = refl

pub priority_still : (plan : Plan) (told : Answers) (wire : WireId) (priority : ℕ) (work : Work)
    → work.idle ≡ false → (priority_input plan told wire priority work).idle ≡ true → (priority_input plan told wire priority work).edge ≡ work.edge
unfolding changes idles
priority_still plan told wire priority work begins idle = by (is_own_spoke work.edge.me (wire_row plan wire) && not (nat_eq priority (work.edge.priority wire.0))) idle
  where
    set : Work
    set = mends plan told (changes (with_priority wire priority) work)

    by : (b : Bool) → (cond b set (idles work)).idle ≡ true → (cond b set (idles work)).edge ≡ work.edge
    by true e =
        let wrong : true ≡ false = sym e ∙ ((mends_signals plan told (changes (with_priority wire priority) work)).idle ∙ begins) in
        absurd (cc (wrong))
    by false e = refl

-- ---- connections: an end that stands already, or one that does not

pub connected_still : (plan : Plan) (told : Answers) (peer : EdgeId) (work : Work)
    → work.idle ≡ false → (connected_input plan told peer work).idle ≡ true → (connected_input plan told peer work).edge ≡ work.edge
unfolding idles
connected_still plan told peer work begins idle = by (are_joined plan work.edge.me.0 peer.0 && not (has_end work.edge peer)) idle
  where
    between : (first second : Option EdgePlan) → (connects_between plan told peer first second work).idle ≡ true → (connects_between plan told peer first second work).edge ≡ work.edge
    between None second e = refl
    between (Some first) None e = refl
    between (Some first) (Some second) e =
        let wrong : true ≡ false = sym e ∙ ((begun_signals plan told peer (opened_with first second) work).idle ∙ begins) in
        absurd (cc (wrong))

    by : (b : Bool) → (cond b (connects_between plan told peer (slice_get plan.edges work.edge.me.0) (slice_get plan.edges peer.0) work) (idles work)).idle ≡ true
        → (cond b (connects_between plan told peer (slice_get plan.edges work.edge.me.0) (slice_get plan.edges peer.0) work) (idles work)).edge ≡ work.edge
    by true e = between (slice_get plan.edges work.edge.me.0) (slice_get plan.edges peer.0) e
    by false e = refl

pub octets_still : (plan : Plan) (told : Answers) (peer : EdgeId) (octets : List ℕ) (kept : Option Peering) (work : Work)
    → work.idle ≡ false → (octets_input plan told peer octets kept work).idle ≡ true → (octets_input plan told peer octets kept work).edge ≡ work.edge
unfolding idles
octets_still plan told peer octets None work begins idle = refl
octets_still plan told peer octets (Some kept) work begins idle =
    let wrong : true ≡ false = sym idle ∙ ((heard_signals plan told peer octets kept work).idle ∙ begins) in
    absurd (cc (wrong))

pub lost_still : (plan : Plan) (told : Answers) (peer : EdgeId) (work : Work)
    → work.idle ≡ false → (lost_input plan told peer work).idle ≡ true → (lost_input plan told peer work).edge ≡ work.edge
unfolding idles
lost_still plan told peer work begins idle = by (has_end work.edge peer) idle
  where
    ended : Work
    ended = mends plan told (happens_with_ends told peer (Closed reason.Closed) work)

    by : (b : Bool) → (cond b ended (idles work)).idle ≡ true → (cond b ended (idles work)).edge ≡ work.edge
    by true e =
        let wrong : true ≡ false = sym e ∙ ((ended_signals plan told peer work).idle ∙ begins) in
        absurd (cc (wrong))
    by false e = refl

-- where the end stands, octets and its loss apply
pub octets_apply : (plan : Plan) (told : Answers) (peer : EdgeId) (octets : List ℕ) (work : Work) → has_end work.edge peer ≡ true
    → (octets_input plan told peer octets (work.edge.peering peer.0) work).idle ≡ work.idle
octets_apply plan told peer octets work stands = by (work.edge.peering peer.0) stands
  where
    by : (kept : Option Peering) → is_there kept ≡ true → (octets_input plan told peer octets kept work).idle ≡ work.idle
    by None there = absurd (cc (there))
    by (Some kept) there = (heard_signals plan told peer octets kept work).idle

pub lost_applies : (plan : Plan) (told : Answers) (peer : EdgeId) (work : Work) → has_end work.edge peer ≡ true → (lost_input plan told peer work).idle ≡ work.idle
lost_applies plan told peer work stands =
    ap (λ (b : Bool). (cond b (mends plan told (happens_with_ends told peer (Closed reason.Closed) work)) (idles work)).idle) stands ∙ (ended_signals plan told peer work).idle
