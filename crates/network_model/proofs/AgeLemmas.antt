-- No packet under way is 64 ticks old. A mention of a label in a packet is younger than the rest of the label takes.
use Rattle.std.proofs.Common.{◌≡◌, ◌<◌, ◌+◌, ℕ, Bool, true, false, List, [], ◌∷◌, Option, Some, None, cond, refl, sym, subst, nat_lt, length, arith}
use Rattle.std.proofs.lemmas.Bool.Decides.{nat_tests}
use Rattle.std.specs.List.{AllByRecursion}
use Rattle.net_base.specs.declared.plan.Plan.{Plan}
use Rattle.net_base.specs.declared.plan.circuit_plan.CircuitPlan.{CircuitPlan}
use Rattle.net_base.specs.declared.plan.places.CircuitId.{CircuitId}
use Rattle.net_base.specs.declared.plan.places.EdgeId.{EdgeId}
use Rattle.net_base.specs.declared.plan.places.WireId.{WireId}
use Rattle.net_base.specs.declared.trace.event.Event.{Event}
use Rattle.net_base.specs.declared.trace.event.Event.TheVariants.{Tick, Frame, Arrive, Discard, Again, Ping}
use Rattle.net_base.specs.plan.Places.{circuit_row}
use Rattle.edge_model.specs.declared.effect.Effect.{Effect}
use Rattle.edge_model.specs.declared.effect.Effect.TheVariants as effect
use Rattle.edge_model.specs.Work.{Work}
use Rattle.network_model.specs.declared.packet.Packet.{Packet}
use Rattle.network_model.specs.Absorb.{absorb, idle}
use Rattle.network_model.specs.Frame.{entering, frame_event, frame_work, next_origin}
use Rattle.network_model.specs.Packet.{again_event, arrive_event, discard_event, packet_at, packet_work, repeating}
use Rattle.network_model.specs.Ping.{ping_event, ping_work}
use Rattle.network_model.specs.Run.{state_after}
use Rattle.network_model.specs.State.{NetworkState, all_older, empty_network, life_ticks, lives_on, older, with_frame, with_older, without_packet}
use Rattle.network_model.specs.Step.{step}
use Rattle.network_model.proofs.PacketListLemmas.{HasSent, absorb_sends, append_holds, copy_of, packet_holds, packets_of, repeating_sends, without_hold}
use Rattle.network_model.proofs.QuietLemmas.{IsQuiet, step_signals, ticks_quiet}

abbrev pub IsYoung : Packet → Type 0
IsYoung packet = packet.age < life_ticks

pub record AreYoung (network : NetworkState) : Type 0 where
  pub each : AllByRecursion IsYoung network.under_way

-- what a tick leaves is young, whatever was under way
pub older_young : (packets : List Packet) → AllByRecursion IsYoung (all_older packets)
older_young [] = tt
older_young (p ∷ ps) = by (lives_on p) refl (older_young ps) where
  by : (b : Bool) → nat_lt (p.age + 1) life_ticks ≡ b → AllByRecursion IsYoung (all_older ps) → AllByRecursion IsYoung (cond b (older p ∷ all_older ps) (all_older ps))
  by true lives rest = (grind (arith, nat_tests, lives), rest)
  by false lives rest = rest

quiet_young : (network next : NetworkState) → AreYoung network → IsQuiet network next → AreYoung next
quiet_young network next young quiet = record { each = subst (λ (l : List Packet). AllByRecursion IsYoung l) (sym quiet.under_way) young.each }

sent_young : (network next : NetworkState) (packets : List Packet) → AreYoung network → HasSent network packets next → AllByRecursion IsYoung packets → AreYoung next
sent_young network next packets young sends fresh = record {
  each = subst (λ (l : List Packet). AllByRecursion IsYoung l) (sym sends.under_way) (append_holds IsYoung network.under_way packets young.each fresh);
}

-- what is sent is not old at all
packets_young : (me : EdgeId) (origin hops sent : ℕ) (es : List Effect) → AllByRecursion IsYoung (packets_of me origin hops sent es)
packets_young me origin hops sent [] = tt
packets_young me origin hops sent (effect.Sent peer wire came octets ∷ es) = (omega arith, packets_young me origin hops (sent + 1) es)
packets_young me origin hops sent (e ∷ es) = packets_young me origin hops sent es

absorb_young : (me : EdgeId) (origin hops : ℕ) (work : Work) (network : NetworkState) → AreYoung network → AreYoung (absorb me origin hops work network).state
absorb_young me origin hops work network young =
    sent_young network (absorb me origin hops work network).state (packets_of me origin hops network.sent work.effects) young (absorb_sends me origin hops work network)
    (packets_young me origin hops network.sent work.effects)

entered_young : (network : NetworkState) → AreYoung network → AreYoung (with_frame network)
unfolding with_frame
entered_young network young = record { each = young.each }

frame_young : (plan : Plan) (network : NetworkState) (circuit : CircuitId) (octets : List ℕ) (row : Option CircuitPlan) → AreYoung network
    → AreYoung (frame_event plan circuit octets row network).state
frame_young plan network circuit octets None young = young
frame_young plan network circuit octets (Some row) young = by (frame_work plan network circuit octets row).idle where
  by : (idles : Bool) → AreYoung (cond idles (idle network) (entering network circuit octets row (frame_work plan network circuit octets row))).state
  by true = young
  by false = record { each = (absorb_young row.edge (next_origin network) 0 (frame_work plan network circuit octets row) (with_frame network) (entered_young network young)).each }

without_young : (number : ℕ) (network : NetworkState) → AreYoung network → AreYoung (without_packet number network)
unfolding without_packet
without_young number network young = record { each = without_hold IsYoung number network.under_way young.each }

arrive_young : (plan : Plan) (network : NetworkState) (found : Option Packet) → AreYoung network → AreYoung (arrive_event plan found network).state
arrive_young plan network None young = young
arrive_young plan network (Some packet) young = absorb_young packet.to packet.origin packet.hops (packet_work plan network packet) (without_packet packet.number network)
    (without_young packet.number network young)

discard_young : (network : NetworkState) (found : Option Packet) → AreYoung network → AreYoung (discard_event found network).state
discard_young network None young = young
discard_young network (Some packet) young = without_young packet.number network young

again_young : (network : NetworkState) (number : ℕ) (found : Option Packet) → packet_at network number ≡ found → AreYoung network → AreYoung (again_event found network).state
again_young network number None is young = young
again_young network number (Some packet) is young =
    sent_young network (repeating packet network).state (copy_of network.sent packet ∷ []) young (repeating_sends packet network) (packet_holds IsYoung network number packet young.each is, tt)

ping_young : (plan : Plan) (me : EdgeId) (wire : WireId) (network : NetworkState) → AreYoung network → AreYoung (ping_event plan me wire network).state
ping_young plan me wire network young = by (ping_work plan network me wire).idle where
  by : (idles : Bool) → AreYoung (cond idles (idle network) (absorb me 0 0 (ping_work plan network me wire) network)).state
  by true = young
  by false = absorb_young me 0 0 (ping_work plan network me wire) network young

ticked_young : (network : NetworkState) → AreYoung (with_older network)
unfolding with_older
ticked_young network = record { each = older_young network.under_way }

pub step_young : (plan : Plan) (network : NetworkState) (event : Event) → AreYoung network → AreYoung (step plan network event).state
step_young plan network (Frame circuit octets) young = frame_young plan network circuit octets (circuit_row plan circuit) young
step_young plan network (Arrive number) young = arrive_young plan network (packet_at network number) young
step_young plan network (Discard number) young = discard_young network (packet_at network number) young
step_young plan network (Again number) young = again_young network number (packet_at network number) refl young
step_young plan network (Ping me wire) young = ping_young plan me wire network young
step_young plan network Tick young = quiet_young (with_older network) (step plan network Tick).state (ticked_young network) (ticks_quiet plan 0 (length plan.edges) (with_older network))
step_young plan network event young = quiet_young network (step plan network event).state young (step_signals plan network event refl).quiet

pub after_young : (plan : Plan) (network : NetworkState) (events : List Event) → AreYoung network → AreYoung (state_after plan network events)
after_young plan network [] young = young
after_young plan network (e ∷ es) young = after_young plan (step plan network e).state es (step_young plan network e young)

pub run_young : (plan : Plan) (events : List Event) → AreYoung (state_after plan (empty_network plan) events)
run_young plan events = after_young plan (empty_network plan) events (record { each = tt })
