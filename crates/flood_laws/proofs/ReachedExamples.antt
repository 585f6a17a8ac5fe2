-- A broadcast over a spoke in a service that is quiet and not calm, as one of its two core edges is connected to no other edge: it
-- reaches the site at the core edge of the spoke, and no other one.
use Rattle.std.proofs.Common.{◌≡◌, ◌++◌, ◌∙◌, ℕ, true, false, List, [], ◌∷◌, cond, refl, ap, arith}
use Rattle.net_base.specs.declared.trace.event.Event.{Event}
use Rattle.net_base.specs.declared.trace.event.Event.TheVariants.{Arrive, Connect, Frame}
use Rattle.network_model.specs.Calm.{is_calm, is_quiet}
use Rattle.network_model.specs.Frame.{next_origin}
use Rattle.network_model.specs.OnceEach.{times_left}
use Rattle.network_model.specs.Reach.{is_circuit_on}
use Rattle.network_model.specs.Run.{run, state_after}
use Rattle.network_model.specs.State.{NetworkState, empty_network}
use Rattle.network_model.specs.Step.{step}
use Rattle.network_model.specs.Window.{all_spare, has_copies, is_flooded_frame}
use Rattle.ldp_grammar.specs.declared.message.Message.TheVariants.{KeepAlive}
use Rattle.flight_laws.specs.Laws.{network_after}
use Rattle.flight_laws.proofs.WholeMessageLemmas.{Moment, Happens, StandAll, after_is, are_right, events_of, stand_each}
use Rattle.flight_laws.proofs.UpExamples.{a, address, alive_is, broadcast, circuit, clears, clearing_is, evaluated, is_run, mapping_is, maps, one_service, proposal_is, proposes, reached, says, status_is, tells, triangle, x}
use Rattle.flood_laws.specs.Reached.{is_reached}
use Rattle.flood_laws.specs.ReachedEach.{QuietWindow, ServedReached}
use Rattle.flood_laws.proofs.RunLemmas.{runs_reach_what_wires_carry}

-- the spoke edge and one core edge are connected, and the spoke between them comes to carry frames
abbrev half_up : List Moment
half_up =
    Happens (Connect a x)
    ∷ says 2 0 (proposes 3 1 ∷ [])
    ∷ says 0 2 (proposes 1 3 ∷ KeepAlive 2 ∷ [])
    ∷ says 2 0 (KeepAlive 2 ∷ maps 200 16 32 ∷ [])
    ∷ says 0 2 (maps 200 16 0 ∷ [])
    ∷ says 2 0 (tells 4 200 0 ∷ clears 5 200 ∷ []) ∷ []

half_up_stands : StandAll half_up
half_up_stands = (
  tt,
  (
    stand_each (address 3) (proposes 3 1 ∷ []) refl refl (proposal_is 3 1, tt),
    (
      stand_each (address 1) (proposes 1 3 ∷ KeepAlive 2 ∷ []) refl refl (proposal_is 1 3, (alive_is, tt)),
      (
        stand_each (address 3) (KeepAlive 2 ∷ maps 200 16 32 ∷ []) refl refl (alive_is, (mapping_is 200 16 32 (omega arith) (omega arith) (omega arith), tt)),
        (
          stand_each (address 1) (maps 200 16 0 ∷ []) refl refl (mapping_is 200 16 0 (omega arith) (omega arith) (omega arith), tt),
          (
            stand_each (address 3) (tells 4 200 0 ∷ clears 5 200 ∷ []) refl refl
                (status_is 4 200 0 (omega arith) (omega arith) (omega arith), (clearing_is 5 200 (omega arith) (omega arith), tt)),
            tt,
          ),
        ),
      ),
    ),
  ),
)

half_up_right : are_right triangle (empty_network triangle) half_up ≡ true
unfolding evaluated
half_up_right = refl

is_half_up : network_after triangle (events_of half_up) ≡ reached half_up
is_half_up = after_is triangle (empty_network triangle) half_up half_up_stands half_up_right

-- the service is then quiet, and not calm
quiet_half : is_quiet triangle (reached half_up) one_service ≡ true
unfolding evaluated
quiet_half = refl

not_calm : is_calm triangle (reached half_up) one_service ≡ false
unfolding evaluated
not_calm = refl

-- ---- a broadcast enters at the spoke edge; its copy arrives at the core edge

abbrev before : List Event
before = events_of half_up

abbrev during : List Event
during = Arrive 1 ∷ []

on : is_circuit_on triangle (reached half_up) (circuit 2) ≡ true
unfolding evaluated
on = refl

flooded : is_flooded_frame triangle (reached half_up) one_service broadcast (Frame (circuit 2) broadcast ∷ during) ≡ true
unfolding evaluated
flooded = refl

spared : all_spare triangle (next_origin (reached half_up)) (step triangle (reached half_up) (Frame (circuit 2) broadcast)).state during ≡ true
unfolding evaluated
spared = refl

over : has_copies (state_after triangle (step triangle (reached half_up) (Frame (circuit 2) broadcast)).state during) (next_origin (reached half_up)) ≡ false
unfolding evaluated
over = refl

a_window : QuietWindow triangle before (circuit 2) broadcast during one_service
a_window = record {
  sender = refl;
  on = ap (λ (n : NetworkState). is_circuit_on triangle n (circuit 2)) is_half_up ∙ on;
  frame = broadcast;
  formed = refl;
  quiet = ap (λ (n : NetworkState). is_quiet triangle n one_service) is_half_up ∙ quiet_half;
  flooded = ap (λ (n : NetworkState). is_flooded_frame triangle n one_service broadcast (Frame (circuit 2) broadcast ∷ during)) is_half_up ∙ flooded;
  spared = ap (λ (n : NetworkState). all_spare triangle (next_origin n) (step triangle n (Frame (circuit 2) broadcast)).state during) is_half_up ∙ spared;
  over = ap (λ (n : NetworkState). has_copies (state_after triangle (step triangle n (Frame (circuit 2) broadcast)).state during) (next_origin n)) is_half_up ∙ over;
}

-- the site at that core edge gets it once, and the one at the other core edge does not
abbrev events : List Event
events = events_of (half_up ++ Happens (Frame (circuit 2) broadcast) ∷ Happens (Arrive 1) ∷ [])

served : ServedReached 12 triangle before (circuit 2) one_service (run triangle events).entries
served = runs_reach_what_wires_carry triangle events (is_run events (omega arith)) before (circuit 2) broadcast during [] one_service refl a_window

here : is_reached triangle (reached half_up) one_service (circuit 2) (circuit 0) ≡ true
unfolding evaluated
here = refl

not_there : is_reached triangle (reached half_up) one_service (circuit 2) (circuit 1) ≡ false
unfolding evaluated
not_there = refl

served_here : times_left (next_origin (network_after triangle before)) (circuit 0) (run triangle events).entries ≡ 1
served_here = served.once (circuit 0) ∙ (ap (λ (n : NetworkState). cond {A = ℕ} (is_reached triangle n one_service (circuit 2) (circuit 0)) 1 0) is_half_up ∙ ap (λ b. cond {A = ℕ} b 1 0) here)

not_served_there : times_left (next_origin (network_after triangle before)) (circuit 1) (run triangle events).entries ≡ 0
not_served_there = served.once (circuit 1) ∙ (ap (λ (n : NetworkState). cond {A = ℕ} (is_reached triangle n one_service (circuit 2) (circuit 1)) 1 0) is_half_up ∙ ap (λ b. cond {A = ℕ} b 1 0) not_there)
