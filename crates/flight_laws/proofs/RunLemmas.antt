-- Every run of a checked plan keeps the network in order, and what follows.
use Rattle.std.proofs.Common.{◌≡◌, ◌≤◌, ◌∙◌, arith, slice_get, ℕ, Bool, true, false, not, nat_eq, List, [], ◌∷◌, Option, Some, None, refl, sym, ap, inl, inr}
use Rattle.std.proofs.lemmas.Bool.{cases_Bool, eqb-true}
use Rattle.net_base.specs.declared.plan.Plan.{Plan}
use Rattle.net_values.specs.declared.addr.Addr.{Addr}
use Rattle.net_values.proofs.BoolLemmas.{clash}
use Rattle.net_values.proofs.RowLemmas.{row_holds}
use Rattle.net_base.specs.declared.trace.event.Event.{Event}
use Rattle.net_base.specs.declared.trace.event.Event.TheVariants.{Connect, Deliver, Lose, Restart, Tick, Frame, Arrive, Discard, Again, Wire, Circuit, Status, Priority, Ping}
use Rattle.std.proofs.lemmas.List.Elements.{All-head, All-tail}
use Rattle.std.specs.List.{All}
use Rattle.label_space.specs.Labels.{numbers_end}
use Rattle.net_base.specs.declared.plan.edge_plan.EdgePlan.{EdgePlan}
use Rattle.net_base.specs.plan.Accepted.{IsChecked, IsEdgePlan}
use Rattle.net_base.specs.plan.Planned.{IsEventOf}
use Rattle.net_base.specs.plan.Places.{circuit_row}
use Rattle.ldp_grammar.specs.declared.message.Message.{Message}
use Rattle.session_core.specs.State.{is_active}
use Rattle.session_core.proofs.LawLemmas.{ends_agree}
use Rattle.edge_model.specs.State.{Peering, is_there, first_label_of}
use Rattle.network_model.specs.Packet.{packet_at}
use Rattle.network_model.specs.Run.{entries_along, state_after}
use Rattle.network_model.specs.State.{NetworkState, empty_network, stands}
use Rattle.network_model.specs.Step.{brings, step}
use Rattle.flight_laws.specs.Endings.{TellGoodEnds}
use Rattle.flight_laws.specs.Ends.{HasTypes, IsOrdered, KeepsOrder, ends_at}
use Rattle.flight_laws.specs.Facts.{flight}
use Rattle.flight_laws.specs.Flight.{is_row}
use Rattle.flight_laws.specs.Laws.{BothStand, FollowsTable, HasRow, IsRun, IsStillBetween, IsUp, RunsComeUp, RunsEndWell, RunsFollowTable, network_after}
use Rattle.flight_laws.specs.Messages.{octets_of_all}
use Rattle.flight_laws.specs.Pair.{ArePaired}
use Rattle.flight_laws.proofs.CircuitLemmas.{again_keeps, arrive_keeps, circuit_keeps, discard_keeps, frame_keeps, priority_keeps, status_keeps, wire_keeps, ping_keeps}
use Rattle.flight_laws.proofs.ConnectLemmas.{connect_keeps}
use Rattle.flight_laws.proofs.EventLemmas.{deliver_keeps, lose_keeps, restart_keeps, tick_keeps}
use Rattle.flight_laws.proofs.PipeLemmas.{good-append}
use Rattle.flight_laws.proofs.RowLemmas.{quiet}

-- ---- order

brings_keeps : (plan : Plan) (event : Event) (network : NetworkState) → IsChecked plan → HasTypes plan → IsEventOf plan event → IsOrdered plan network → KeepsOrder plan (brings plan event network)
brings_keeps plan (Connect from to) network checked types planned ordered = connect_keeps plan from to network checked types ordered
brings_keeps plan (Deliver from to count) network checked types planned ordered = deliver_keeps plan from to count network checked types ordered
brings_keeps plan (Lose me peer) network checked types planned ordered = lose_keeps plan me peer network checked types ordered
brings_keeps plan (Restart me) network checked types planned ordered = restart_keeps plan me network ordered
brings_keeps plan Tick network checked types planned ordered = tick_keeps plan network checked types ordered
brings_keeps plan (Frame circuit octets) network checked types planned ordered = frame_keeps plan circuit octets (circuit_row plan circuit) network checked types ordered
brings_keeps plan (Circuit circuit on) network checked types planned ordered = circuit_keeps plan circuit on (circuit_row plan circuit) network checked types ordered
brings_keeps plan (Wire me wire on) network checked types planned ordered = wire_keeps plan me wire on network checked types ordered
brings_keeps plan (Status me wire bits) network checked types planned ordered = status_keeps plan me wire bits network checked types planned.2 ordered
brings_keeps plan (Priority me wire priority) network checked types planned ordered = priority_keeps plan me wire priority network checked types ordered
brings_keeps plan (Arrive number) network checked types planned ordered = arrive_keeps plan (packet_at network number) network checked types ordered
brings_keeps plan (Discard number) network checked types planned ordered = discard_keeps plan (packet_at network number) network ordered
brings_keeps plan (Again number) network checked types planned ordered = again_keeps plan (packet_at network number) network ordered
brings_keeps plan (Ping me wire) network checked types planned ordered = ping_keeps plan me wire network checked types ordered

pub step_keeps : (plan : Plan) (event : Event) (network : NetworkState) → IsChecked plan → HasTypes plan → IsEventOf plan event → IsOrdered plan network → KeepsOrder plan (step plan network event)
step_keeps plan event network checked types planned ordered =
    let kept = brings_keeps plan event network checked types planned ordered in
    record { ordered = kept.ordered; good = (tt, kept.good) }

after_ordered : (plan : Plan) (events : List Event) (network : NetworkState) → IsChecked plan → HasTypes plan → All (IsEventOf plan) events → IsOrdered plan network
    → IsOrdered plan (state_after plan network events)
after_ordered plan [] network checked types planned ordered = ordered
after_ordered plan (e ∷ es) network checked types planned ordered =
    after_ordered plan es (step plan network e).state checked types (All-tail (IsEventOf plan) e es planned)
    (step_keeps plan e network checked types (All-head (IsEventOf plan) e es planned) ordered).ordered

along_good : (plan : Plan) (events : List Event) (network : NetworkState) → IsChecked plan → HasTypes plan → All (IsEventOf plan) events → IsOrdered plan network
    → TellGoodEnds (entries_along plan network events)
along_good plan [] network checked types planned ordered = tt
along_good plan (e ∷ es) network checked types planned ordered =
    let kept = step_keeps plan e network checked types (All-head (IsEventOf plan) e es planned) ordered in
    good-append (step plan network e).entries (entries_along plan (step plan network e).state es) kept.good
    (along_good plan es (step plan network e).state checked types (All-tail (IsEventOf plan) e es planned) kept.ordered)

-- the first label of an edge is one
pub first_fits : (plan : Plan) (row : Option EdgePlan) (place : ℕ) → slice_get plan.edges place ≡ row → IsChecked plan → (16 ≤ first_label_of row) × (first_label_of row ≤ numbers_end)
first_fits plan None place at checked = (omega arith, omega arith)
first_fits plan (Some row) place at checked =
    let edge : IsEdgePlan row = row_holds IsEdgePlan plan.edges place row at checked.edges in
    (edge.first_label.0, omega (arith, edge.first_label.1))

pub empty_ordered : (plan : Plan) → IsChecked plan → IsOrdered plan (empty_network plan)
empty_ordered plan checked = record {
  two = λ a b apart. record { messages = []; answers = []; out_is = refl; back_is = refl; talk = record { said = tt; answered = tt; here = tt; there = tt; steps = refl } };
  alone = λ a. refl;
  placed = λ a. refl;
  sound = λ a. (let fits = first_fits plan (slice_get plan.edges a) a refl checked in
      record { least = fits.0; most = fits.1; kept = λ label there. absurd (there refl); bits = λ wire. omega arith; ends = λ wire peer. (refl, refl) });
}

pub run_ordered : (plan : Plan) (events : List Event) → IsRun plan events → IsOrdered plan (network_after plan events)
run_ordered plan events run = after_ordered plan events (empty_network plan) run.checked run.types run.planned (empty_ordered plan run.checked)

-- ---- the laws

pub both_apart : (plan : Plan) (network : NetworkState) (a b : ℕ) → IsOrdered plan network → stands network a b ≡ true → nat_eq a b ≡ false
both_apart plan network a b ordered up = elim (cases_Bool (nat_eq a b)) [
  | inl same ↦ clash (ap (λ (o : Option Peering). is_there o) (sym (ordered.alone a)) ∙ ap (λ (k : ℕ). stands network a k) (eqb-true a b same) ∙ up)
  | inr apart ↦ apart
]

follows : (plan : Plan) (network : NetworkState) (a b : ℕ) (near far : Option Peering) → (network.edges a).peering b ≡ near → (network.edges b).peering a ≡ far → is_there near ≡ true
    → is_there far ≡ true
    → ArePaired (ends_at plan a b) (ends_at plan b a) near far (flight network a b) (flight network b a) → FollowsTable plan network a b
follows plan network a b None far is is' up up' pair = clash up
follows plan network a b (Some x) None is is' up up' pair = clash up'
follows plan network a b (Some x) (Some y) is is' up up' pair = record {
  one_active = ends_agree.one_active (ends_at plan a b)
      (ends_at plan b a) pair.talk.here.between.facing pair.talk.here.between.one.me pair.talk.here.between.one.peer pair.talk.here.between.one.proper;
  in_row = λ active. record {
    active = x;
    passive = y;
    active_is = is;
    passive_is = is';
    out = pair.messages;
    back = pair.answers;
    out_is = pair.out_is;
    back_is = pair.back_is;
    said = pair.talk.said;
    answered = pair.talk.answered;
    row = rw active at pair.talk.steps;
  };
}

follows_table : (plan : Plan) (network : NetworkState) (a b : ℕ) → IsOrdered plan network → BothStand network a b → FollowsTable plan network a b
follows_table plan network a b ordered both =
    follows plan network a b ((network.edges a).peering b) ((network.edges b).peering a) refl refl both.one both.other (ordered.two a b (both_apart plan network a b ordered both.one))

pub runs_follow_table : RunsFollowTable
runs_follow_table plan events run a b both = follows_table plan (network_after plan events) a b (run_ordered plan events run) both

pub runs_end_well : RunsEndWell
runs_end_well plan events run = along_good plan events (empty_network plan) run.checked run.types run.planned (empty_ordered plan run.checked)

-- messages have octets
pub none_said : (router : Addr) (ms : List Message) → [] ≡ octets_of_all router ms → ms ≡ []
none_said router [] e = refl
none_said router (m ∷ ms) e = absurd (cc)

row_up : (plan : Plan) (network : NetworkState) (a b : ℕ) → IsStillBetween network a b → HasRow plan network a b → IsUp network a b × IsUp network b a
row_up plan network a b still has =
    let out : has.out ≡ [] = none_said (ends_at plan a b).me has.out (sym still.out ∙ has.out_is) in
    let back : has.back ≡ [] = none_said (ends_at plan b a).me has.back (sym still.back ∙ has.back_is) in
    let row : is_row has.active.session.phase has.passive.session.phase [] [] ≡ true = rw (out, back) at has.row in
    let up = quiet has.active.session.phase has.passive.session.phase row in
    (record { kept = has.active; is = has.active_is; up = up.0 }, record { kept = has.passive; is = has.passive_is; up = up.1 })

pub runs_come_up : RunsComeUp
runs_come_up plan events run a b still = by_side (is_active (ends_at plan a b)) refl where
  network : NetworkState
  network = network_after plan events

  one : FollowsTable plan network a b
  one = runs_follow_table plan events run a b still.both

  turned_still : IsStillBetween network b a
  turned_still = record { both = record { one = still.both.other; other = still.both.one }; out = still.back; back = still.out }

  other : FollowsTable plan network b a
  other = runs_follow_table plan events run b a turned_still.both

  by_side : (active : Bool) → is_active (ends_at plan a b) ≡ active → IsUp network a b × IsUp network b a
  by_side true is = row_up plan network a b still (one.in_row is)
  by_side false is = (let both = row_up plan network b a turned_still (other.in_row (one.one_active ∙ ap (λ (x : Bool). not x) is)) in (both.1, both.0))
