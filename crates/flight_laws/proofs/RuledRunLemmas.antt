-- Every run keeps the rules of labels and of told contents.
use Rattle.std.proofs.Common.{◌≡◌, ◌∙◌, ℕ, Bool, false, true, nat_eq, List, [], ◌∷◌, slice_get, refl, sym, arith}
use Rattle.std.proofs.lemmas.List.Elements.{All-head, All-tail}
use Rattle.std.specs.List.{All}
use Rattle.net_values.proofs.BoolLemmas.{clash}
use Rattle.net_base.specs.declared.plan.Plan.{Plan}
use Rattle.net_base.specs.declared.trace.event.Event.{Event}
use Rattle.net_base.specs.declared.trace.event.Event.TheVariants.{Connect, Deliver, Lose, Restart, Tick, Frame, Arrive, Discard, Again, Wire, Circuit, Status, Priority, Ping}
use Rattle.net_base.specs.plan.Accepted.{IsChecked}
use Rattle.net_base.specs.plan.Places.{circuit_row}
use Rattle.net_base.specs.plan.Planned.{IsEventOf}
use Rattle.network_model.specs.Packet.{packet_at}
use Rattle.network_model.specs.Run.{state_after}
use Rattle.network_model.specs.State.{NetworkState, empty_network}
use Rattle.network_model.specs.Step.{brings, step}
use Rattle.flight_laws.specs.Ends.{HasTypes, IsOrdered}
use Rattle.flight_laws.specs.Laws.{AreOnWay, IsRun, KeepsLabelRule, KeepsToldRule, RunsKeepLabelRule, RunsKeepToldRule, network_after}
use Rattle.flight_laws.specs.Rules.{NamesFar, NamesOwn, TellsPlan}
use Rattle.flight_laws.proofs.MentionLemmas.{all_kept}
use Rattle.flight_laws.proofs.RuledDeliverLemmas.{connect_event_ruled, deliver_event_ruled, ruled_said}
use Rattle.flight_laws.proofs.RuledEventLemmas.{again_event_ruled, arrive_event_ruled, circuit_event_ruled, discard_event_ruled, frame_event_ruled, lose_ruled, priority_event_ruled, restart_event_ruled, status_event_ruled, tick_event_ruled, wire_event_ruled, ping_event_ruled}
use Rattle.flight_laws.proofs.RuledLemmas.{IsRuled}
use Rattle.flight_laws.proofs.RuledNetworkLemmas.{IsRuledNetwork, RulesTo, StaysRuled}
use Rattle.flight_laws.proofs.RunLemmas.{empty_ordered, run_ordered, step_keeps, first_fits}
use Rattle.flight_laws.proofs.ToldLemmas.{fresh_tells, tells_plan}

-- ---- events

-- time passes
abbrev pub is_tick : Event → Bool
is_tick Tick = true
is_tick event = false

-- each event but a tick keeps the rules, and each label goes on to be carried as before
pub brings_stays : (plan : Plan) (event : Event) (network : NetworkState) → IsChecked plan → HasTypes plan → IsEventOf plan event → IsOrdered plan network → IsRuledNetwork plan network
    → is_tick event ≡ false → StaysRuled plan network (brings plan event network).state
brings_stays plan (Connect from to) network checked types planned ordered ruled still = connect_event_ruled plan checked types from to network ordered ruled
brings_stays plan (Deliver from to count) network checked types planned ordered ruled still = deliver_event_ruled plan checked types from to count network ordered ruled
brings_stays plan (Lose me peer) network checked types planned ordered ruled still = lose_ruled plan checked types me peer network ruled
brings_stays plan (Restart me) network checked types planned ordered ruled still = restart_event_ruled plan checked types me network ruled
brings_stays plan Tick network checked types planned ordered ruled still = absurd (cc (still))
brings_stays plan (Frame circuit octets) network checked types planned ordered ruled still = frame_event_ruled plan checked types circuit octets (circuit_row plan circuit) network ruled
brings_stays plan (Circuit circuit on) network checked types planned ordered ruled still = circuit_event_ruled plan checked types circuit on (circuit_row plan circuit) network ruled
brings_stays plan (Wire me wire on) network checked types planned ordered ruled still = wire_event_ruled plan checked types me wire on network ruled
brings_stays plan (Status me wire bits) network checked types planned ordered ruled still = status_event_ruled plan checked types me wire bits network planned.2 ruled
brings_stays plan (Priority me wire priority) network checked types planned ordered ruled still = priority_event_ruled plan checked types me wire priority network ruled
brings_stays plan (Arrive number) network checked types planned ordered ruled still = arrive_event_ruled plan checked types (packet_at network number) network ruled
brings_stays plan (Discard number) network checked types planned ordered ruled still = discard_event_ruled plan checked types (packet_at network number) network ruled
brings_stays plan (Again number) network checked types planned ordered ruled still = again_event_ruled plan checked types (packet_at network number) network ruled
brings_stays plan (Ping me wire) network checked types planned ordered ruled still = ping_event_ruled plan checked types me wire network ruled

pub brings_ruled : (plan : Plan) (event : Event) (network : NetworkState) → IsChecked plan → HasTypes plan → IsEventOf plan event → IsOrdered plan network → IsRuledNetwork plan network
    → IsRuledNetwork plan (brings plan event network).state
brings_ruled plan Tick network checked types planned ordered ruled = (tick_event_ruled plan checked types network ruled).ruled
brings_ruled plan event network checked types planned ordered ruled = (brings_stays plan event network checked types planned ordered ruled refl).ruled

-- ---- runs

pub empty_ruled : (plan : Plan) → IsChecked plan → IsRuledNetwork plan (empty_network plan)
empty_ruled plan checked = record {
  edges = λ a. record {
    place = refl;
    owned = λ wire peer label owned. clash owned;
    rests = record { rising = tt; below = λ label there. absurd (there refl); unowned = λ label there wire peer. refl };
    least = record { next = (first_fits plan (slice_get plan.edges a) a refl checked).0; owned = λ wire peer label owned. clash owned; kept = λ label there. absurd (there refl) };
    most = (first_fits plan (slice_get plan.edges a) a refl checked).1;
    bits = λ wire. omega arith;
    tells = λ wire peer. fresh_tells plan a wire peer;
    sessions = λ peer. tt;
  };
  two = λ a b apart. (
    record { messages = []; octets = refl; ruled = tt; bound = λ wire. tt },
    record { messages = []; octets = refl; ruled = tt; bound = λ wire. tt },
  );
}

pub after_ruled : (plan : Plan) (events : List Event) (network : NetworkState) → IsChecked plan → HasTypes plan → All (IsEventOf plan) events → IsOrdered plan network
    → IsRuledNetwork plan network → IsRuledNetwork plan (state_after plan network events)
after_ruled plan [] network checked types planned ordered ruled = ruled
after_ruled plan (e ∷ es) network checked types planned ordered ruled =
    let here : IsEventOf plan e = All-head (IsEventOf plan) e es planned in
    after_ruled plan es (step plan network e).state checked types (All-tail (IsEventOf plan) e es planned) (step_keeps plan e network checked types here ordered).ordered
    (brings_ruled plan e network checked types here ordered ruled)

pub run_ruled : (plan : Plan) (events : List Event) → IsRun plan events → IsRuledNetwork plan (network_after plan events)
run_ruled plan events run = after_ruled plan events (empty_network plan) run.checked run.types run.planned (empty_ordered plan run.checked) (empty_ruled plan run.checked)

-- ---- the laws

pub messages_said : (plan : Plan) (network : NetworkState) (a b : ℕ) (apart : nat_eq a b ≡ false) → IsOrdered plan network → (ruled : IsRuledNetwork plan network)
    → AreOnWay plan network a b (ruled.two a b apart).0.messages
messages_said plan network a b apart ordered ruled = record {
  octets = (ruled.two a b apart).0.octets;
  said = ruled_said plan a b (network.edges a) (network.edges b) (ruled.two a b apart).0.messages (ordered.two a b apart).messages (ruled.two a b apart).0.ruled (ordered.two a b apart).talk.said
      (sym (ruled.two a b apart).0.octets ∙ (ordered.two a b apart).out_is);
}

pub keeps_label_rule : (plan : Plan) (network : NetworkState) → IsOrdered plan network → IsRuledNetwork plan network → KeepsLabelRule plan network
keeps_label_rule plan network ordered ruled = record {
  own = λ a. (ruled.edges a).owned;
  named = λ a b apart.
      let out : RulesTo plan a b (network.edges a) (network.edges b) (Rattle.flight_laws.specs.Facts.flight network a b) = (ruled.two a b apart).0 in
      record {
        messages = out.messages;
        on_way = messages_said plan network a b apart ordered ruled;
        given = record {
          own = all_kept (IsRuled plan a b (network.edges a) (network.edges b)) (NamesOwn plan (network.edges a) b) out.messages (λ m is. is.own) out.ruled;
          far = all_kept (IsRuled plan a b (network.edges a) (network.edges b)) (NamesFar plan (network.edges b) a) out.messages (λ m is. is.far) out.ruled;
          bound = out.bound;
        };
      };
}

pub keeps_told_rule : (plan : Plan) (network : NetworkState) → IsOrdered plan network → IsRuledNetwork plan network → KeepsToldRule plan network
keeps_told_rule plan network ordered ruled a b apart =
    let out : RulesTo plan a b (network.edges a) (network.edges b) (Rattle.flight_laws.specs.Facts.flight network a b) = (ruled.two a b apart).0 in
    record {
      messages = out.messages;
      on_way = messages_said plan network a b apart ordered ruled;
      planned = record {
        near = λ wire row is joined. ((ruled.edges a).tells wire.0 b).near row is joined;
        told = all_kept (IsRuled plan a b (network.edges a) (network.edges b)) (TellsPlan plan a b) out.messages (λ m is. tells_plan plan a b m is.tells) out.ruled;
        far = λ wire row is joined. ((ruled.edges b).tells wire.0 a).far row is joined;
      };
    }

pub runs_keep_label_rule : RunsKeepLabelRule
runs_keep_label_rule plan events run = keeps_label_rule plan (network_after plan events) (run_ordered plan events run) (run_ruled plan events run)

pub runs_keep_told_rule : RunsKeepToldRule
runs_keep_told_rule plan events run = keeps_told_rule plan (network_after plan events) (run_ordered plan events run) (run_ruled plan events run)
