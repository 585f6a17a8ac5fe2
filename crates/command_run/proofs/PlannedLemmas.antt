-- The events that the commands of an accepted scenario make speak of its plan.
use Rattle.std.proofs.Common.{◌≡◌, ◌<◌, ◌+◌, ◌∷◌, [], ℕ, zero, suc, Bool, List, Option, Some, None, refl, sym, subst, arith, length, option_map, slice_get, inl, inr}
use Rattle.std.proofs.lemmas.Bool.{cases_Bool}
use Rattle.std.proofs.lemmas.List.Elements.{All-append, All-cons, All-head, All-nil, All-tail}
use Rattle.std.specs.List.{All}
use Rattle.net_base.specs.declared.plan.Plan.{Plan}
use Rattle.net_base.specs.declared.plan.places.CircuitId.{CircuitId}
use Rattle.net_base.specs.declared.trace.event.Event.{Event}
use Rattle.net_base.specs.declared.trace.event.Event.TheVariants.{Frame, Tick}
use Rattle.net_base.specs.plan.Planned.{IsEventOf, IsFrame}
use Rattle.network_model.specs.Connection.{is_deliverable}
use Rattle.network_model.specs.Delivery.{delivery_of, first_from, first_pair, next_delivery, pair_or}
use Rattle.network_model.specs.declared.packet.Packet.{Packet}
use Rattle.network_model.specs.Packet.{arrival_of, next_arrival}
use Rattle.network_model.specs.Run.{state_after}
use Rattle.network_model.specs.State.{NetworkState}
use Rattle.network_model.specs.Step.{step}
use Rattle.command_text.specs.declared.command.Command.{Command}
use Rattle.command_text.specs.declared.command.Command.TheVariants.{One, Settle, Flow, Ticks, Play}
use Rattle.command_text.specs.Planned.{IsPlanned}
use Rattle.command_run.specs.Made.{arrivals, captures_after, deliveries, frames_entering, event_and, made, made_by, next_frames, ticks, turns}
use Rattle.command_run.proofs.MadeLemmas.{left_short, next_short}

-- ---- the next delivery is between two edges of the plan

from_within : (test : ℕ → Bool) (place count k : ℕ) → first_from test place count ≡ Some k → k < place + count
from_within test place zero k found = absurd (cc (found))
from_within test place (suc count) k found = elim (cases_Bool (test place)) [
  | inl passes ↦ (let is : place ≡ k = cc (rw passes at found) in omega (arith, is))
  | inr other ↦ (let rest : k < (place + 1) + count = from_within test (place + 1) count k (rw other at found) in omega (arith, rest))
]

-- both places of a pair are below these
pub record IsBelow (rows columns : ℕ) (pair : ℕ × ℕ) : Type 0 where
  pub row : pair.0 < rows
  pub column : pair.1 < columns

pair_within : (test : ℕ → ℕ → Bool) (size place count : ℕ) (pair : ℕ × ℕ) → first_pair test size place count ≡ Some pair → IsBelow (place + count) size pair
pair_within test size place zero pair found = absurd (cc (found))
pair_within test size place (suc count) pair found = by (first_from (test place) 0 size) refl found (pair_within test size (place + 1) count pair) where
  by : (here : Option ℕ) → first_from (test place) 0 size ≡ here → pair_or place here (first_pair test size (place + 1) count) ≡ Some pair
      → (first_pair test size (place + 1) count ≡ Some pair → IsBelow ((place + 1) + count) size pair) → IsBelow (place + suc count) size pair
  by None is rest again =
      let later : IsBelow ((place + 1) + count) size pair = again rest in
      record { row = omega (arith, later.row); column = later.column }
  by (Some k) is this again =
      let same : (place, k) ≡ pair = cc (this) in
      let below : k < 0 + size = from_within (test place) 0 size k is in
      record { row = rw (sym same) (omega arith); column = rw (sym same) (omega (arith, below)) }

delivery_planned : (plan : Plan) (pair : Option (ℕ × ℕ)) (event : Event) → ((p : ℕ × ℕ) → pair ≡ Some p → IsBelow (length plan.edges) (length plan.edges) p)
    → option_map delivery_of pair ≡ Some event → IsEventOf plan event
delivery_planned plan None event within found = absurd (cc (found))
delivery_planned plan (Some pair) event within found =
    let same : delivery_of pair ≡ event = cc (found) in
    let below : IsBelow (length plan.edges) (length plan.edges) pair = within pair refl in
    rw (sym same) (below.row, below.column)

from_first : (size : ℕ) (pair : ℕ × ℕ) → IsBelow (0 + size) size pair → IsBelow size size pair
from_first size pair below = record { row = omega (arith, below.row); column = below.column }

next_planned : (plan : Plan) (network : NetworkState) (event : Event) → next_delivery plan network ≡ Some event → IsEventOf plan event
next_planned plan network event found =
    delivery_planned plan (first_pair (is_deliverable network) (length plan.edges) 0 (length plan.edges)) event
    (λ p is. from_first (length plan.edges) p (pair_within (is_deliverable network) (length plan.edges) 0 (length plan.edges) p is)) found

-- ---- what a command makes

ticks_planned : (plan : Plan) (count : ℕ) → All (IsEventOf plan) (ticks count)
ticks_planned plan zero = All-nil (IsEventOf plan)
ticks_planned plan (suc n) = All-cons (IsEventOf plan) Tick (ticks n) tt (ticks_planned plan n)

turns_planned : (plan : Plan) (next : NetworkState → Option Event) (count : ℕ) (network : NetworkState) → ((n : NetworkState) (event : Event) → next n ≡ Some event → IsEventOf plan event)
    → All (IsEventOf plan) (turns plan next count network)
turns_planned plan next zero network all = All-nil (IsEventOf plan)
turns_planned plan next (suc n) network all = by (next network) refl (λ later. turns_planned plan next n later all) where
  by : (found : Option Event) → next network ≡ found → ((later : NetworkState) → All (IsEventOf plan) (turns plan next n later))
      → All (IsEventOf plan) (event_and found (λ event. turns plan next n (step plan network event).state))
  by None is again = All-nil (IsEventOf plan)
  by (Some event) is again =
      All-cons (IsEventOf plan) event (turns plan next n (step plan network event).state) (all network event is) (again (step plan network event).state)

pub deliveries_planned : (plan : Plan) (count : ℕ) (network : NetworkState) → All (IsEventOf plan) (deliveries plan count network)
deliveries_planned plan count network = turns_planned plan (next_delivery plan) count network (next_planned plan)

arrival_planned : (plan : Plan) (packet : Option Packet) (event : Event) → option_map arrival_of packet ≡ Some event → IsEventOf plan event
arrival_planned plan None event found = absurd (cc (found))
arrival_planned plan (Some packet) event found =
    let same : arrival_of packet ≡ event = cc (found) in
    subst (IsEventOf plan) same tt

arrivals_planned : (plan : Plan) (count : ℕ) (network : NetworkState) → All (IsEventOf plan) (arrivals plan count network)
arrivals_planned plan count network = turns_planned plan next_arrival count network (λ n event found. arrival_planned plan (slice_get n.under_way 0) event found)

entering_planned : (plan : Plan) (circuit : CircuitId) (frames : List (List ℕ)) → circuit.0 < length plan.circuits → All IsFrame frames → All (IsEventOf plan) (frames_entering circuit frames)
entering_planned plan circuit [] within short = All-nil (IsEventOf plan)
entering_planned plan circuit (frame ∷ frames) within short =
    All-cons (IsEventOf plan) (Frame circuit frame) (frames_entering circuit frames) (within, All-head IsFrame frame frames short)
    (entering_planned plan circuit frames within (All-tail IsFrame frame frames short))

made_by_planned : (plan : Plan) (network : NetworkState) (captures : List (List (List ℕ))) (command : Command) → All (All IsFrame) captures → IsPlanned plan command
    → All (IsEventOf plan) (made_by plan network captures command)
made_by_planned plan network captures (One event) short planned = All-cons (IsEventOf plan) event [] planned (All-nil (IsEventOf plan))
made_by_planned plan network captures (Settle count) short planned = deliveries_planned plan count network
made_by_planned plan network captures (Flow count) short planned = arrivals_planned plan count network
made_by_planned plan network captures (Ticks count) short planned = ticks_planned plan count
made_by_planned plan network captures (Play circuit file) short planned = entering_planned plan circuit (next_frames captures) planned (next_short captures short)

pub made_planned : (plan : Plan) (network : NetworkState) (captures : List (List (List ℕ))) (commands : List Command) → All (All IsFrame) captures → All (IsPlanned plan) commands
    → All (IsEventOf plan) (made plan network captures commands)
made_planned plan network captures [] short planned = All-nil (IsEventOf plan)
made_planned plan network captures (command ∷ commands) short planned =
    let here = made_by plan network captures command in
    All-append (IsEventOf plan) here (made plan (state_after plan network here) (captures_after command captures) commands)
    (made_by_planned plan network captures command short (All-head (IsPlanned plan) command commands planned))
    (made_planned plan (state_after plan network here) (captures_after command captures) commands (left_short command captures short) (All-tail (IsPlanned plan) command commands planned))
