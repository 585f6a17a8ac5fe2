-- The end of an edge at a wire with a path of two edges is beside the wire's other edge, and what it sends has to serve what is due
-- there.
use Rattle.std.proofs.Common.{◌≡◌, ◌||◌, ◌+◌, ◌∙◌, ℕ, true, List, [], ◌∷◌, Option, Some, None, cond, refl, ap, sym, arith}
use Rattle.net_base.specs.declared.plan.Plan.{Plan}
use Rattle.net_base.specs.declared.plan.wire_plan.WirePlan.{WirePlan}
use Rattle.net_base.specs.declared.plan.places.CircuitId.{CircuitId}
use Rattle.net_base.specs.declared.plan.places.EdgeId.{EdgeId}
use Rattle.net_base.specs.declared.plan.places.ServiceId.{ServiceId}
use Rattle.net_base.specs.declared.plan.places.WireId.{WireId}
use Rattle.net_base.specs.declared.trace.arrival.Arrival.{Arrival}
use Rattle.net_base.specs.plan.Paths.{joins, offer_of}
use Rattle.net_base.specs.plan.Places.{wire_row}
use Rattle.pw_signalling.specs.declared.binding.Binding.{Binding}
use Rattle.pw_signalling.specs.Laws.{BothAgree}
use Rattle.pw_signalling.proofs.LawLemmas.{forwards_where_both_agree}
use Rattle.edge_model.specs.declared.effect.Effect.{Effect}
use Rattle.edge_model.specs.declared.effect.Effect.TheVariants as effect
use Rattle.edge_model.specs.declared.end_place.EndPlace.{EndPlace}
use Rattle.edge_model.specs.Ends.{forwards_at, wire_end}
use Rattle.edge_model.specs.Role.{down_at, role_at}
use Rattle.edge_model.specs.Send.{packet_of, sends_copy, sends_under}
use Rattle.edge_model.specs.State.{EdgeState, end_at}
use Rattle.edge_model.specs.Work.{Work, gives, posts}
use Rattle.edge_model.proofs.CopyLemmas.{found_end, up_is_none}
use Rattle.edge_model.proofs.PlaceLemmas.{IsEndOf}
use Rattle.network_model.specs.Absorb.{taken_all}
use Rattle.network_model.specs.Reach.{far_of}
use Rattle.network_model.specs.State.{NetworkState}
use Rattle.flood_laws.specs.Due.{awaits, due_towards}
use Rattle.flood_laws.specs.Copy.{heading_on}
use Rattle.network_model.specs.Goal.{goal}
use Rattle.flood_laws.proofs.HopLemmas.{sent_far}
use Rattle.net_base.specs.plan.Accepted.{IsChecked}
use Rattle.net_base.specs.plan.Paths.{is_first, is_last}
use Rattle.edge_model.specs.EndPlaces.{is_terminal}
use Rattle.edge_model.proofs.PacketLemmas.{wire_end_is}
use Rattle.flood_laws.proofs.CountLemmas.{sent_awaits, meets, meets-append}
use Rattle.flight_laws.proofs.PlaceLemmas.{same_row}
use Rattle.flight_laws.proofs.RuledMendLemmas.{wire_fits}

-- ---- a path of two edges

-- ---- what an end sends

-- one where a copy that the end sends has still to serve the circuit
abbrev pub end_serves : Plan → NetworkState → ServiceId → CircuitId → EdgeId → Option EndPlace → ℕ
end_serves plan calm service circuit me None = 0
end_serves plan calm service circuit me (Some place) = cond (sent_awaits plan calm service circuit me place.peer place.wire) 1 0

-- what an end serves that forwards is what is due towards the other edge of its wire
pub end_is_due : (plan : Plan) (calm : NetworkState) (service : ServiceId) (circuit : CircuitId) (edge : EdgeState) (wire : WireId) (row : WirePlan)
    → IsChecked plan → wire_row plan wire ≡ Some row → forwards_at plan edge (wire_end plan edge.me wire) ≡ true
    → end_serves plan calm service circuit edge.me (wire_end plan edge.me wire) ≡ due_towards plan calm service circuit wire.0 (far_of edge.me.0 row.path)
end_is_due plan calm service circuit edge wire row checked is up = by (wire_end plan edge.me wire) refl up where
  by : (place : Option EndPlace) → wire_end plan edge.me wire ≡ place → forwards_at plan edge place ≡ true
      → end_serves plan calm service circuit edge.me place ≡ due_towards plan calm service circuit wire.0 (far_of edge.me.0 row.path)
  by None found up = absurd (cc (up))
  by (Some place) found up =
      let end : IsEndOf plan edge.me place = wire_end_is plan edge.me wire place found in
      let of_wire : place.wire ≡ wire = (found_end plan edge.me wire place found).of_wire in
      let rows : end.row ≡ row = same_row end.row row (sym end.is ∙ (ap (wire_row plan) of_wire ∙ is)) in
      let joined : joins edge.me.0 place.peer.0 row.path ≡ true = ap (λ (r : WirePlan). joins edge.me.0 place.peer.0 r.path) (sym rows) ∙ end.joined in
      let ended : is_first edge.me.0 row.path || is_last edge.me.0 row.path ≡ true =
      ap (λ (r : WirePlan). is_terminal r edge.me) (sym rows) ∙ (sym end.terminal ∙ (found_end plan edge.me wire place found).terminal) in
      let far : far_of edge.me.0 row.path ≡ Some (goal row.path edge.me place.peer).0 = sent_far row.path edge.me place.peer (wire_fits plan wire row checked is).once joined ended in
      ap (λ (w : WireId). cond {A = ℕ} (sent_awaits plan calm service circuit edge.me place.peer w) 1 0) of_wire
      ∙ (ap (λ (o : Option WirePlan). cond {A = ℕ} (awaits plan calm service circuit (heading_on o edge.me place.peer) wire) 1 0) is
      ∙ ap (due_towards plan calm service circuit wire.0) (sym far))

-- ---- what an edge at work has given out

-- the edge is the one that it was, and what it has given out serves the circuit as often more
pub record ServesMore (plan : Plan) (calm : NetworkState) (service : ServiceId) (circuit : CircuitId) (me : EdgeId) (count : ℕ) (old new : Work) : Type 0 where
  pub edge : new.edge ≡ old.edge
  pub meet : meets plan calm service circuit me new.effects ≡ meets plan calm service circuit me old.effects + count

-- a copy on a wire whose end forwards
pub wire_serves : (plan : Plan) (came : Arrival) (calm : NetworkState) (service : ServiceId) (circuit : CircuitId) (frame : List ℕ) (wire : WireId) (work : Work)
    → forwards_at plan work.edge (wire_end plan work.edge.me wire) ≡ true
    → ServesMore plan calm service circuit work.edge.me (end_serves plan calm service circuit work.edge.me (wire_end plan work.edge.me wire)) work
    (sends_copy plan taken_all came frame (wire_end plan work.edge.me wire) work)
unfolding gives posts
wire_serves plan came calm service circuit frame wire work up = by (wire_end plan work.edge.me wire) refl up where
  under : (place : EndPlace) (end : IsEndOf plan work.edge.me place) (agree : BothAgree (end_at work.edge place)) (row : Option WirePlan) (remote : Option Binding) → row ≡ Some end.row
      → remote ≡ Some agree.binding
      → ServesMore plan calm service circuit work.edge.me (cond (sent_awaits plan calm service circuit work.edge.me place.peer place.wire) 1 0) work
      (sends_under taken_all came frame work.edge.me place row remote work)
  under place end agree None remote is bound = absurd (cc (is))
  under place end agree (Some row) None is bound = absurd (cc (bound))
  under place end agree (Some row) (Some binding) is bound =
      let sent : List Effect = effect.Sent place.peer place.wire came (packet_of (offer_of row work.edge.me.0) binding frame) ∷ [] in
      record { edge = refl; meet = omega (arith, meets-append plan calm service circuit work.edge.me work.effects sent) }

  by : (place : Option EndPlace) → wire_end plan work.edge.me wire ≡ place → forwards_at plan work.edge place ≡ true
      → ServesMore plan calm service circuit work.edge.me (end_serves plan calm service circuit work.edge.me place) work (sends_copy plan taken_all came frame place work)
  by None found up = absurd (cc (up))
  by (Some place) found up =
      let end : IsEndOf plan work.edge.me place = wire_end_is plan work.edge.me wire place found in
      let agree : BothAgree (end_at work.edge place) =
      forwards_where_both_agree (role_at plan work.edge place) (work.edge.bits place.wire.0) (end_at work.edge place) (up_is_none (down_at plan work.edge place) up) in
      under place end agree (wire_row plan place.wire) (end_at work.edge place).remote end.is agree.bound
