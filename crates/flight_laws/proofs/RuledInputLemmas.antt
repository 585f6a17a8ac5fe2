-- Each input of an edge keeps the rules of labels and of told contents.
use Rattle.std.proofs.Common.{◌≡◌, ◌≤◌, ◌+◌, ℕ, zero, suc, Bool, true, false, cond, nat_eq, length, List, Option, Result, refl, subst, sym}
use Rattle.net_base.specs.declared.plan.Plan.{Plan}
use Rattle.net_base.specs.declared.plan.circuit_plan.CircuitPlan.{CircuitPlan}
use Rattle.net_base.specs.declared.plan.places.CircuitId.{CircuitId}
use Rattle.net_base.specs.declared.plan.places.EdgeId.{EdgeId}
use Rattle.net_base.specs.declared.plan.places.ServiceId.{ServiceId}
use Rattle.net_base.specs.declared.plan.places.WireId.{WireId}
use Rattle.net_base.specs.declared.trace.arrival.Arrival.{Arrival}
use Rattle.net_base.specs.declared.trace.drop_cause.DropCause.{DropCause}
use Rattle.net_base.specs.declared.trace.state_name.Reason.TheVariants as reason
use Rattle.net_base.specs.plan.Accepted.{IsChecked}
use Rattle.pw_signalling.specs.Rows.{renew_part}
use Rattle.session_core.specs.Table as table
use Rattle.pw_messages.specs.LinkAnswers.{Answers}
use Rattle.edge_model.specs.Circuit.{turned}
use Rattle.edge_model.specs.Frame.{received}
use Rattle.edge_model.specs.Mend.{mends}
use Rattle.edge_model.specs.Packet.{packet_input}
use Rattle.edge_model.specs.Session.{happens_with_ends}
use Rattle.edge_model.specs.State.{EdgeState, with_addresses, with_bits, with_circuit, with_learned, with_priority, with_renewed, with_wire}
use Rattle.edge_model.specs.Tick.{counted, forgetting, ticks_sessions}
use Rattle.edge_model.specs.Wire.{turned_wire}
use Rattle.edge_model.specs.Work.{Work, changes, idles}
use Rattle.edge_model.specs.Ping.{ping_input}
use Rattle.network_model.specs.Absorb.{taken_all}
use Rattle.flight_laws.specs.Ends.{HasTypes}
use Rattle.flight_laws.specs.Rules.{BindsGiven}
use Rattle.flight_laws.proofs.BridgeLemmas.{IsBridged, packet_bridged, received_bridged, pings_are}
use Rattle.flight_laws.proofs.MendingLemmas.{mends_keep}
use Rattle.flight_laws.proofs.NameLemmas.{names_renewed, names_still, renewed_fact}
use Rattle.flight_laws.proofs.RuledLemmas.{ChangesEnds, IsQuietStep, SameEnds, WorksRuled, changes_keep, quiet_keeps}
use Rattle.flight_laws.proofs.RuledMendLemmas.{rows_ruled}
use Rattle.flight_laws.proofs.RuledSessionLemmas.{event_ruled}
use Rattle.flight_laws.proofs.ToldLemmas.{TellsAt, local_tells, near_renewed}
use Rattle.edge_model.proofs.BridgeLemmas.{PingGoes, PingIdles, PingOutcome, ping_outcome}

-- ---- what is no matter of labels

-- a change that leaves the edge's place, its sessions, its ends, its failure bits and its labels
pub record LeavesEnds (old new : EdgeState) : Type 0 where
  pub same : SameEnds old new
  pub peering : new.peering ≡ old.peering

change_quiet : (change : EdgeState → EdgeState) (work : Work) → LeavesEnds work.edge (change work.edge) → IsQuietStep work (changes change work)
unfolding changes
change_quiet change work leaves = record { same = leaves.same; peering = leaves.peering; said = λ place. refl; closed = λ place. refl }

idles_quiet : (work : Work) → IsQuietStep work (idles work)
unfolding idles
idles_quiet work = record { same = record { me = refl; ends = refl; bits = refl; next = refl; kept = refl }; peering = refl; said = λ place. refl; closed = λ place. refl }

circuit_leaves : (circuit : CircuitId) (on : Bool) (edge : EdgeState) → LeavesEnds edge (with_circuit circuit on edge)
unfolding with_circuit
circuit_leaves circuit on edge = record { same = record { me = refl; ends = refl; bits = refl; next = refl; kept = refl }; peering = refl }

turned_leaves : (plan : Plan) (circuit : CircuitId) (row : CircuitPlan) (on : Bool) (edge : EdgeState) → LeavesEnds edge (turned plan circuit row on edge)
unfolding with_circuit with_addresses
turned_leaves plan circuit row true edge = record { same = record { me = refl; ends = refl; bits = refl; next = refl; kept = refl }; peering = refl }
turned_leaves plan circuit row false edge = record { same = record { me = refl; ends = refl; bits = refl; next = refl; kept = refl }; peering = refl }

forgetting_leaves : (plan : Plan) (edge : EdgeState) → LeavesEnds edge (forgetting plan edge)
unfolding with_learned
forgetting_leaves plan edge = record { same = record { me = refl; ends = refl; bits = refl; next = refl; kept = refl }; peering = refl }

wire_leaves : (wire : WireId) (on : Bool) (edge : EdgeState) → LeavesEnds edge (with_wire wire on edge)
unfolding with_wire
wire_leaves wire on edge = record { same = record { me = refl; ends = refl; bits = refl; next = refl; kept = refl }; peering = refl }

priority_leaves : (wire : WireId) (priority : ℕ) (edge : EdgeState) → LeavesEnds edge (with_priority wire priority edge)
unfolding with_priority
priority_leaves wire priority edge = record { same = record { me = refl; ends = refl; bits = refl; next = refl; kept = refl }; peering = refl }

bridged_quiet : (old new : Work) → IsBridged old new → IsQuietStep old new
bridged_quiet old new bridged = record {
  same = record { me = bridged.keeps.me; ends = bridged.keeps.ends; bits = bridged.keeps.bits; next = bridged.keeps.next_label; kept = bridged.keeps.kept };
  peering = bridged.peering;
  said = bridged.said;
  closed = bridged.closed;
}

module _ (plan : Plan) (checked : IsChecked plan) (types : HasTypes plan) (others : ℕ → EdgeState) (me : EdgeId) (first : EdgeState) (held : ℕ → Option (List ℕ)) where
  leaves_keep : (change : EdgeState → EdgeState) (work : Work) → LeavesEnds work.edge (change work.edge) → WorksRuled plan others me.0 first held work
      → WorksRuled plan others me.0 first held (changes change work)
  leaves_keep change work leaves works = quiet_keeps plan others me.0 first held work (changes change work) (change_quiet change work leaves) works

  pub idle_ruled : (work : Work) → WorksRuled plan others me.0 first held work → WorksRuled plan others me.0 first held (idles work)
  idle_ruled work works = quiet_keeps plan others me.0 first held work (idles work) (idles_quiet work) works

  pub mends_ruled : (work : Work) → WorksRuled plan others me.0 first held work → WorksRuled plan others me.0 first held (mends plan taken_all work)
  mends_ruled work works = mends_keep plan me (WorksRuled plan others me.0 first held) (rows_ruled plan checked types others me first held) work works

  -- ---- an end is lost, and ticks pass

  pub lost_ruled : (peer : EdgeId) (work : Work) → WorksRuled plan others me.0 first held work
      → WorksRuled plan others me.0 first held (mends plan taken_all (happens_with_ends taken_all peer (table.Closed reason.Closed) work))
  lost_ruled peer work works = mends_ruled (happens_with_ends taken_all peer (table.Closed reason.Closed) work)
      (event_ruled plan others me.0 first held peer (table.Closed reason.Closed) work tt works)

  sessions_ruled : (place count : ℕ) (work : Work) → WorksRuled plan others me.0 first held work → WorksRuled plan others me.0 first held (ticks_sessions taken_all place count work)
  sessions_ruled place zero work works = works
  sessions_ruled place (suc count) work works =
      sessions_ruled (place + 1) count (happens_with_ends taken_all (record { 0 = place }) table.Ticked work)
      (event_ruled plan others me.0 first held (record { 0 = place }) table.Ticked work tt works)

  -- its labels rest, and it has counted the tick
  pub tick_ruled : (work : Work) → WorksRuled plan others me.0 first held (changes counted work)
      → WorksRuled plan others me.0 first held (mends plan taken_all (changes (forgetting plan) (ticks_sessions taken_all 0 (length plan.edges) (changes counted work))))
  tick_ruled work works =
      let begun : Work = changes counted work in
      let ticked : Work = ticks_sessions taken_all 0 (length plan.edges) begun in
      mends_ruled (changes (forgetting plan) ticked) (leaves_keep (forgetting plan) ticked (forgetting_leaves plan ticked.edge)
      (sessions_ruled 0 (length plan.edges) begun works))

  -- ---- circuits, wires and failure bits

  pub circuit_ruled : (circuit : CircuitId) (row : CircuitPlan) (on : Bool) (work : Work) → WorksRuled plan others me.0 first held work
      → WorksRuled plan others me.0 first held (mends plan taken_all (changes (turned plan circuit row on) work))
  circuit_ruled circuit row on work works = mends_ruled (changes (turned plan circuit row on) work) (leaves_keep (turned plan circuit row on) work (turned_leaves plan circuit row on work.edge) works)

  -- the ends of a wire are declined no longer
  renewed_changes : (wire : WireId) (work : Work) → WorksRuled plan others me.0 first held work → ChangesEnds plan others me.0 work.edge (with_renewed wire work.edge)
  unfolding with_renewed
  renewed_changes wire work works = record {
    place = refl;
    peering = refl;
    keeps = names_renewed wire work.edge;
    most = works.edge.most;
    bits = works.edge.bits;
    tells = λ w k. renewed_fact (λ w k e. TellsAt plan me.0 w k e) wire work.edge w k
        (local_tells plan me.0 w k (work.edge.ends w k) (renew_part (work.edge.ends w k).local) (λ row is joined near. near_renewed plan row me.0 k (work.edge.ends w k).local near)
        (works.edge.tells w k))
        (works.edge.tells w k);
    bound = λ place w away. renewed_fact (λ w k e. BindsGiven (others place) w me.0 e.remote) wire work.edge w place ((works.left place away).bound w) ((works.left place away).bound w);
  }

  two_changes : (one next : EdgeState → EdgeState) (work : Work) → changes next (changes one work) ≡ changes (λ edge. next (one edge)) work
  unfolding changes
  two_changes one next work = refl

  pub wire_ruled : (wire : WireId) (on : Bool) (work : Work) → WorksRuled plan others me.0 first held work
      → WorksRuled plan others me.0 first held (mends plan taken_all (changes (turned_wire wire on) work))
  wire_ruled wire true work works =
      let put : Work = changes (with_wire wire true) work in
      let put_works : WorksRuled plan others me.0 first held put = leaves_keep (with_wire wire true) work (wire_leaves wire true work.edge) works in
      mends_ruled (changes (turned_wire wire true) work) (subst (WorksRuled plan others me.0 first held) (two_changes (with_wire wire true) (with_renewed wire) work)
      (changes_keep plan others me.0 first held (with_renewed wire) put (renewed_changes wire put put_works) put_works))
  wire_ruled wire false work works = mends_ruled (changes (turned_wire wire false) work) (leaves_keep (with_wire wire false) work (wire_leaves wire false work.edge) works)

  bits_changes : (wire : WireId) (bits : ℕ) (work : Work) → bits ≤ 31 → WorksRuled plan others me.0 first held work → ChangesEnds plan others me.0 work.edge (with_bits wire bits work.edge)
  unfolding with_bits
  bits_changes wire bits work low works = record {
    place = refl;
    peering = refl;
    keeps = names_still work.edge (with_bits wire bits work.edge) refl refl refl;
    most = works.edge.most;
    bits = λ w. either (nat_eq w wire.0) (work.edge.bits w) (works.edge.bits w);
    tells = λ w k. works.edge.tells w k;
    bound = λ place w away. (works.left place away).bound w;
  }
    where
      either : (b : Bool) (old : ℕ) → old ≤ 31 → cond b bits old ≤ 31
      either true old is = low
      either false old is = is

  pub status_ruled : (wire : WireId) (bits : ℕ) (work : Work) → bits ≤ 31 → WorksRuled plan others me.0 first held work
      → WorksRuled plan others me.0 first held (mends plan taken_all (changes (with_bits wire bits) work))
  status_ruled wire bits work low works = mends_ruled (changes (with_bits wire bits) work)
      (changes_keep plan others me.0 first held (with_bits wire bits) work (bits_changes wire bits work low works) works)

  pub priority_ruled : (wire : WireId) (priority : ℕ) (work : Work) → WorksRuled plan others me.0 first held work
      → WorksRuled plan others me.0 first held (mends plan taken_all (changes (with_priority wire priority) work))
  priority_ruled wire priority work works = mends_ruled (changes (with_priority wire priority) work) (leaves_keep (with_priority wire priority) work (priority_leaves wire priority work.edge) works)

  -- ---- frames and packets

  bridged_ruled : (old new : Work) → IsBridged old new → WorksRuled plan others me.0 first held old → WorksRuled plan others me.0 first held new
  bridged_ruled old new bridged works = quiet_keeps plan others me.0 first held old new (bridged_quiet old new bridged) works

  pub received_ruled : (told : Answers) (came : Arrival) (service : ServiceId) (arrival : Option ℕ) (read : Result (List ℕ) DropCause) (work : Work) → WorksRuled plan others me.0 first held work
      → WorksRuled plan others me.0 first held (received plan told came service arrival read work)
  received_ruled told came service arrival read work works = bridged_ruled work _ (received_bridged plan told came service arrival read work) works

  pub packet_ruled : (told : Answers) (octets : List ℕ) (work : Work) → WorksRuled plan others me.0 first held work → WorksRuled plan others me.0 first held (packet_input plan told octets work)
  packet_ruled told octets work works = bridged_ruled work _ (packet_bridged plan told octets work) works

  -- ---- pings

  pub ping_ruled : (told : Answers) (wire : WireId) (work : Work) → WorksRuled plan others me.0 first held work → WorksRuled plan others me.0 first held (ping_input plan told wire work)
  ping_ruled told wire work works = by (ping_outcome plan told wire work) where
    by : PingOutcome work (ping_input plan told wire work) → WorksRuled plan others me.0 first held (ping_input plan told wire work)
    by (PingIdles is) = subst (WorksRuled plan others me.0 first held) (sym is) (idle_ruled work works)
    by (PingGoes only) = bridged_ruled work _ (pings_are work _ only) works
