-- Every run keeps the packet rule, and customers stay apart in it.
use Rattle.std.proofs.Common.{◌≡◌, ◌++◌, ◌∙◌, ℕ, List, [], ◌∷◌, inl, inr, nat_eq, ap, sym, subst, append_assoc, append-nil}
use Rattle.std.proofs.lemmas.List.Elements.{All-head, All-tail, All-nil}
use Rattle.std.specs.List.{All}
use Rattle.net_base.specs.declared.plan.Plan.{Plan}
use Rattle.net_base.specs.declared.trace.entry.Entry.{Entry}
use Rattle.net_base.specs.declared.trace.event.Event.{Event}
use Rattle.net_base.specs.plan.Accepted.{IsChecked}
use Rattle.net_base.specs.plan.Planned.{IsEventOf}
use Rattle.net_base.specs.trace.Isolated.{IsolatedAfter}
use Rattle.net_base.proofs.TraceLemmas.{isolated-append}
use Rattle.network_model.specs.declared.packet.Packet.{Packet}
use Rattle.network_model.specs.Run.{entries_along, state_after}
use Rattle.network_model.specs.State.{NetworkState, empty_network}
use Rattle.network_model.specs.Step.{step}
use Rattle.network_model.proofs.PacketListLemmas.{packet_holds}
use Rattle.flight_laws.specs.Ends.{HasTypes, IsOrdered}
use Rattle.flight_laws.specs.Laws.{IsRun}
use Rattle.flight_laws.proofs.RuledNetworkLemmas.{IsRuledNetwork}
use Rattle.flight_laws.proofs.RuledRunLemmas.{brings_ruled, run_ruled}
use Rattle.flight_laws.proofs.RunLemmas.{empty_ordered, step_keeps}
use Rattle.packet_laws.specs.Carried.{FollowsPacketRule, KeepsPacketRule}
use Rattle.packet_laws.specs.Echoed.{IsEchoed}
use Rattle.packet_laws.specs.Laws.{RunsAreIsolated, RunsKeepEchoesApart, RunsKeepPacketRule}
use Rattle.packet_laws.proofs.ApartLemmas.{echo_is_apart}
use Rattle.packet_laws.proofs.StepLemmas.{step_keeps_rule, step_right}

-- after events from a state on, where so much was told before
pub record RunsRight (plan : Plan) (network : NetworkState) (trace : List Entry) (events : List Event) : Type 0 where
  pub rule : KeepsPacketRule plan (state_after plan network events) (trace ++ entries_along plan network events)
  pub isolated : IsolatedAfter plan trace (entries_along plan network events)

then_runs : (plan : Plan) (network : NetworkState) (trace : List Entry) (event : Event) (events : List Event) → IsolatedAfter plan trace (step plan network event).entries
    → RunsRight plan (step plan network event).state (trace ++ (step plan network event).entries) events → RunsRight plan network trace (event ∷ events)
then_runs plan network trace event events here later =
    let told : List Entry = (step plan network event).entries in
    let next : NetworkState = (step plan network event).state in
    record {
      rule = subst (λ (l : List Entry). KeepsPacketRule plan (state_after plan next events) l) (append_assoc trace told (entries_along plan next events)) later.rule;
      isolated = isolated-append plan trace told (entries_along plan next events) here later.isolated;
    }

pub along_right : (plan : Plan) (events : List Event) (network : NetworkState) (trace : List Entry) → IsChecked plan → HasTypes plan → All (IsEventOf plan) events
    → IsOrdered plan network → IsRuledNetwork plan network
    → KeepsPacketRule plan network trace → RunsRight plan network trace events
along_right plan [] network trace checked types planned ordered ruled rule =
    record { rule = subst (λ (l : List Entry). KeepsPacketRule plan network l) (sym (append-nil trace)) rule; isolated = tt }
along_right plan (e ∷ es) network trace checked types planned ordered ruled rule =
    let here : IsEventOf plan e = All-head (IsEventOf plan) e es planned in
    then_runs plan network trace e es (step_right plan network trace e checked types ruled rule).isolated
    (along_right plan es (step plan network e).state (trace ++ (step plan network e).entries) checked types (All-tail (IsEventOf plan) e es planned)
    (step_keeps plan e network checked types here ordered).ordered (brings_ruled plan e network checked types here ordered ruled)
    (step_keeps_rule plan network trace e checked types here ordered ruled rule))

-- no event at all
no_events : (plan : Plan) (events : List Event) → IsRun plan events → IsRun plan []
no_events plan events run = record { checked = run.checked; types = run.types; planned = All-nil (IsEventOf plan) }

-- from the empty network on
pub run_right : (plan : Plan) (events : List Event) → IsRun plan events → RunsRight plan (empty_network plan) [] events
run_right plan events run =
    along_right plan events (empty_network plan) [] run.checked run.types run.planned (empty_ordered plan run.checked) (run_ruled plan [] (no_events plan events run)) tt

pub runs_keep_packet_rule : RunsKeepPacketRule
runs_keep_packet_rule plan events run = (run_right plan events run).rule

pub runs_are_isolated : RunsAreIsolated
runs_are_isolated plan events run = (run_right plan events run).isolated

-- a packet of origin 0 is a ping or an answer
rest_echoes : (plan : Plan) (network : NetworkState) (trace : List Entry) (packet : Packet) → FollowsPacketRule plan network trace packet → packet.origin ≡ 0 → IsEchoed plan network packet
rest_echoes plan network trace packet (inl carried) own = absurd (cc (sym carried.entered.numbered ∙ ap (λ (n : ℕ). nat_eq n 0) own))
rest_echoes plan network trace packet (inr echo) own = echo

pub runs_keep_echoes_apart : RunsKeepEchoesApart
runs_keep_echoes_apart plan events run number packet found own =
    let network : NetworkState = state_after plan (empty_network plan) events in
    let told : List Entry = entries_along plan (empty_network plan) events in
    echo_is_apart plan network packet run.checked (run_ruled plan events run)
    (rest_echoes plan network told packet (packet_holds (FollowsPacketRule plan network told) network number packet (run_right plan events run).rule found) own)
