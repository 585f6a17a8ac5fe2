-- A copy at a switching point: it goes on under the label of the other side, as the packet rule says, travels on to the same terminal
-- edge, has the same circuits still to serve, and has passed one segment and one switching point more.
use Rattle.std.proofs.Common.{◌≡◌, ◌≤◌, ◌+◌, ◌*◌, ◌∙◌, ℕ, true, false, List, Option, Some, Ok, length, refl, ap, sym, subst, arith}
use Rattle.net_base.specs.declared.plan.Plan.{Plan}
use Rattle.net_base.specs.declared.plan.wire_plan.WirePlan.{WirePlan}
use Rattle.net_base.specs.declared.plan.places.CircuitId.{CircuitId}
use Rattle.net_base.specs.declared.plan.places.EdgeId.{EdgeId}
use Rattle.net_base.specs.declared.plan.places.ServiceId.{ServiceId}
use Rattle.net_base.specs.declared.trace.entry.Entry.{Entry}
use Rattle.net_base.specs.plan.Accepted.{IsChecked}
use Rattle.net_base.specs.plan.Paths.{expected, has_repeat, joins, mate_on}
use Rattle.net_base.specs.plan.Places.{mtu_of}
use Rattle.net_base.specs.plan.Roles.{are_joined_by, is_wire_of}
use Rattle.net_base.proofs.PathLemmas.{joins_turned}
use Rattle.pw_signalling.specs.declared.binding.Binding.{Binding}
use Rattle.edge_model.specs.Ends.{end_forwards}
use Rattle.network_model.specs.declared.packet.Packet.{Packet}
use Rattle.network_model.specs.Calm.{is_quiet}
use Rattle.network_model.specs.State.{NetworkState}
use Rattle.network_model.specs.Window.{carried}
use Rattle.flight_laws.specs.Laws.{AreSettled}
use Rattle.flight_laws.proofs.RuledNetworkLemmas.{IsRuledNetwork}
use Rattle.flight_laws.proofs.StableLemmas.{IsPlannedBinding}
use Rattle.flight_laws.proofs.PlaceLemmas.{same_row}
use Rattle.packet_laws.specs.Carried.{IsCarried, IsPacked}
use Rattle.packet_laws.proofs.ArriveLemmas.{IsSized, come_sized}
use Rattle.packet_laws.proofs.SendLemmas.{come_of}
use Rattle.packet_laws.proofs.SwitchLemmas as switch
use Rattle.flood_laws.specs.Due.{awaits}
use Rattle.flood_laws.proofs.CarryLemmas.{packed_carried, packed_entry}
use Rattle.flood_laws.proofs.FarLemmas.{far_advertises}
use Rattle.network_model.specs.Goal.{goal, points_passed, start}
use Rattle.network_model.proofs.GoalLemmas.{goal_kept}
use Rattle.flood_laws.specs.Copy.{CarriesCopy, copy_awaits, heading, heading_on}
use Rattle.flood_laws.specs.Hops.{HasPassed, most_hops, stage}

module _ (plan : Plan) (network : NetworkState) (trace : List Entry) (packet : Packet) (to : EdgeId) (binding : Binding) (number : ℕ) (checked : IsChecked plan) (ruled : IsRuledNetwork plan network) (rule : IsCarried plan network trace packet)
    (mate_is : mate_on rule.row.path packet.to.0 packet.from.0 ≡ Some to) (bound : ((network.edges packet.to.0).ends packet.wire.0 to.0).remote ≡ Some binding) where
  -- what is sent on
  abbrev pub relayed : Packet
  relayed = switch.relayed plan network trace packet to binding number (packet.hops + 1) checked ruled rule mate_is bound

  joined_on : joins packet.to.0 to.0 rule.row.path ≡ true
  joined_on = switch.joined_on plan network trace packet to binding number (packet.hops + 1) checked ruled rule mate_is bound

  planned : IsPlannedBinding plan network packet.to.0 to.0 packet.wire rule.row binding
  planned = switch.planned plan network trace packet to binding number (packet.hops + 1) checked ruled rule mate_is bound

  relayed_packed : IsPacked plan rule.row relayed binding.label rule.frame
  relayed_packed = switch.relayed_packed plan network trace packet to binding number (packet.hops + 1) checked ruled rule mate_is bound

  once : has_repeat rule.row.path ≡ false
  once = (switch.wire_of plan network trace packet to binding number (packet.hops + 1) checked ruled rule mate_is bound).once

  back : mate_on rule.row.path packet.to.0 to.0 ≡ Some packet.from
  back = switch.back plan network trace packet to binding number (packet.hops + 1) checked ruled rule mate_is bound

  more_points : length (expected plan rule.row packet.to.0 to.0).points ≡ length (expected plan rule.row packet.from.0 packet.to.0).points + 1
  more_points = switch.more_points plan network trace packet to binding number (packet.hops + 1) checked ruled rule mate_is bound

  -- ---- where it travels

  pub same_goal : goal rule.row.path packet.to to ≡ goal rule.row.path packet.from packet.to
  same_goal = goal_kept rule.row.path packet.to packet.from to once rule.joined mate_is

  same_source : start rule.row.path packet.to to ≡ start rule.row.path packet.from packet.to
  same_source = sym (goal_kept rule.row.path packet.to to packet.from once (sym (joins_turned rule.row.path packet.to.0 to.0) ∙ joined_on) back)

  pub same_heading : heading plan relayed ≡ heading plan packet
  same_heading = ap (λ (o : Option WirePlan). heading_on o packet.to to) rule.is ∙ (same_goal ∙ sym (ap (λ (o : Option WirePlan). heading_on o packet.from packet.to) rule.is))

  -- so the same circuits are still to be served by it
  pub relay_awaits : (calm : NetworkState) (service : ServiceId) (circuit : CircuitId) → copy_awaits plan calm service circuit relayed ≡ copy_awaits plan calm service circuit packet
  relay_awaits calm service circuit = ap (λ (e : EdgeId). awaits plan calm service circuit e packet.wire) same_heading

  -- and it has come one segment and one point further
  pub relay_passed : HasPassed plan packet → HasPassed plan relayed
  relay_passed near row is = subst (λ (r : WirePlan). packet.hops + 1 ≤ most_hops plan packet.to to r) (same_row rule.row row (sym rule.is ∙ is))
      (further packet.hops (stage (goal rule.row.path packet.from packet.to).0 rule.row) (stage (goal rule.row.path packet.to to).0 rule.row)
      (points_passed plan rule.row packet.from.0 packet.to.0) (points_passed plan rule.row packet.to.0 to.0)
      (ap (λ (e : EdgeId). stage e.0 rule.row) same_goal) more_points
      (near rule.row rule.is))
    where
      further : (h a b m n : ℕ) → b ≡ a → n ≡ m + 1 → h ≤ 4 * a + (m + 1) → h + 1 ≤ 4 * b + (n + 1)
      further h a b m n same more is = omega (arith, same, more, is)

  -- ---- it is a copy again

  pub relay_copy : (calm : NetworkState) (service : ServiceId) (frame : List ℕ) → is_quiet plan calm service ≡ true
      → ((x y : ℕ) → are_joined_by plan service x y ≡ true → AreSettled plan calm x y) → ((calm.edges packet.to.0).ends packet.wire.0 to.0).remote ≡ Some binding
      → (copy : CarriesCopy plan calm service frame packet)
      → CarriesCopy plan calm service frame relayed
  relay_copy calm service frame quiet settled held copy = record {
    row = rule.row;
    is = rule.is;
    of_service = ap (is_wire_of service) same ∙ copy.of_service;
    joined = joined_on;
    sends = ap (λ (e : EdgeId). end_forwards plan (calm.edges e.0) packet.wire) (same_source ∙ ap (λ (r : WirePlan). start r.path packet.from packet.to) same) ∙ copy.sends;
    carries = packed_carried plan relayed rule.row binding.label rule.frame checked rule.is relayed_packed joined_on sized ∙ ap Ok same_frame;
    labelled = record {
      entry = record { label = binding.label; bottom = true; ttl = relayed_packed.ttl };
      read = packed_entry plan relayed rule.row binding.label rule.frame checked rule.is relayed_packed planned.is_label;
      label = binding.label;
      same = refl;
      bottom = refl;
      told = binding.told;
      advertised = far_advertises plan calm service packet.to.0 to.0 packet.wire rule.row binding checked quiet settled rule.is (ap (is_wire_of service) same ∙ copy.of_service) joined_on held;
    };
  }
    where
      same : rule.row ≡ copy.row
      same = same_row rule.row copy.row (sym rule.is ∙ copy.is)

      sized : IsSized (mtu_of plan rule.row.service) rule.frame
      sized = come_sized plan trace rule.row.service packet.origin rule.frame (come_of plan trace rule.row packet.origin rule.frame rule.entered)

      ok_same : (x y : List ℕ) → carried plan packet ≡ Ok x → carried plan packet ≡ Ok y → x ≡ y
      ok_same x y one other = cc

      same_frame : rule.frame ≡ frame
      same_frame = ok_same rule.frame frame (packed_carried plan packet rule.row rule.label rule.frame checked rule.is rule.packed rule.joined sized) copy.carries
