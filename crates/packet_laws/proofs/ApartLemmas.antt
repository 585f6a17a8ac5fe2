-- What becomes of an echo packet at the edge that it reaches stays on its wire, and no bridge hears it.
use Rattle.std.proofs.Common.{◌≡◌, ℕ, List, [], ◌∷◌, sym, subst}
use Rattle.std.specs.List.{AllByRecursion}
use Rattle.net_base.specs.declared.plan.Plan.{Plan}
use Rattle.net_base.specs.declared.plan.places.ServiceId.{ServiceId}
use Rattle.net_base.specs.declared.plan.places.WireId.{WireId}
use Rattle.net_base.specs.declared.trace.arrival.Arrival.TheVariants as arrival
use Rattle.net_base.specs.declared.trace.drop_cause.DropCause.{DropCause}
use Rattle.net_base.specs.plan.Accepted.{IsChecked}
use Rattle.edge_model.specs.Apart.{IsAnswered, IsDropped, IsTold, IsVerified}
use Rattle.edge_model.specs.Copies.{AllAreCopies, PacketGoesOn, PacketGoesOut, PacketIsAnswered, PacketIsDropped, PacketIsLost, PacketIsTold, PacketWork}
use Rattle.edge_model.specs.declared.effect.Effect.{Effect}
use Rattle.edge_model.specs.declared.effect.Effect.TheVariants as effect
use Rattle.edge_model.proofs.PacketLemmas as behind
use Rattle.network_model.specs.declared.packet.Packet.{Packet}
use Rattle.network_model.specs.Absorb.{taken_all}
use Rattle.network_model.specs.Packet.{packet_work}
use Rattle.network_model.specs.State.{NetworkState, edge_at}
use Rattle.flight_laws.proofs.RuledNetworkLemmas.{IsRuledNetwork}
use Rattle.packet_laws.specs.Apart.{IsNoFrame, StaysOnWire}
use Rattle.packet_laws.specs.Echoed.{IsEchoed}
use Rattle.packet_laws.proofs.EchoAnswerLemmas.{stays_there}
use Rattle.packet_laws.proofs.EchoArriveLemmas.{copied_apart, echo_unheard}
use Rattle.packet_laws.proofs.EchoSwitchLemmas.{goes_there}

module _ (plan : Plan) (network : NetworkState) (packet : Packet) (checked : IsChecked plan) (ruled : IsRuledNetwork plan network) (echo : IsEchoed plan network packet) where
  abbrev Stays : List Effect → Type 0
  Stays es = AllByRecursion (StaysOnWire packet.wire) es

  stays_dropped : (why : DropCause) (es : List Effect) → es ≡ effect.Dropped why ∷ [] → Stays es
  stays_dropped why es one = subst Stays (sym one) (tt, tt)

  stays_told : (wire : WireId) (sequence : ℕ) (es : List Effect) → es ≡ effect.Pong wire sequence ∷ [] → Stays es
  stays_told wire sequence es one = subst Stays (sym one) (tt, tt)

  verified_stays : (service : ServiceId) (wire : WireId) (frame : List ℕ) (from : ℕ) (es : List Effect) → IsVerified plan (network.edges packet.to.0) packet.bytes es
      → AllAreCopies plan (network.edges packet.to.0) (arrival.Wire wire) service frame from es → Stays es
  verified_stays service wire frame from es (IsDropped why one) copies = stays_dropped why es one
  verified_stays service wire frame from es (IsAnswered place row kind binding bytes by one) copies =
      absurd (no_copy (subst (AllAreCopies plan (network.edges packet.to.0) (arrival.Wire wire) service frame from) one copies).0.same_arrival) where
        no_copy : arrival.Own ≡ arrival.Wire wire → ⊥
        no_copy same = cc (same)
  verified_stays service wire frame from es (IsTold place row kind binding sequence by one) copies = stays_told place.wire sequence es one

  work_stays : PacketWork plan (network.edges packet.to.0) packet.bytes (packet_work plan network packet).effects → Stays (packet_work plan network packet).effects
  work_stays (PacketIsLost none) = subst Stays (sym none) tt
  work_stays (PacketIsDropped why one) = stays_dropped why (packet_work plan network packet).effects one
  work_stays (PacketGoesOut out) =
      verified_stays out.row.service out.place.wire out.frame out.from (packet_work plan network packet).effects
      (copied_apart plan network packet (packet_work plan network packet).effects checked ruled echo out).verified out.copies
  work_stays (PacketGoesOn out) =
      subst Stays (sym out.sent) (goes_there plan network packet (packet_work plan network packet).effects checked ruled echo (ruled.edges packet.to.0).place out, tt)
  work_stays (PacketIsAnswered peer wire bytes back one) = subst Stays (sym one) (stays_there plan network packet peer wire arrival.Own bytes checked ruled echo back, tt)
  work_stays (PacketIsTold wire sequence answer one) = stays_told wire sequence (packet_work plan network packet).effects one

  pub echo_is_apart : IsNoFrame plan network packet
  echo_is_apart = record {
    unheard = echo_unheard plan network packet checked ruled echo;
    stays = work_stays (behind.packet_work plan taken_all (edge_at network packet.to) [] packet.bytes);
  }
