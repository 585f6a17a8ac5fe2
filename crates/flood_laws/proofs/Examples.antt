-- A broadcast over a spoke and a mesh wire: the premises of its window are met, and so each site gets it once.
use Rattle.std.proofs.Common.{◌≡◌, ◌++◌, ◌∙◌, ℕ, true, false, List, [], ◌∷◌, Some, Ok, refl, ap, arith}
use Rattle.net_base.specs.declared.plan.Plan.{Plan}
use Rattle.net_base.specs.declared.plan.places.CircuitId.{CircuitId}
use Rattle.net_base.specs.declared.plan.places.ServiceId.{ServiceId}
use Rattle.net_base.specs.declared.trace.event.Event.{Event}
use Rattle.net_base.specs.declared.trace.event.Event.TheVariants.{Arrive, Frame}
use Rattle.net_base.specs.plan.Places.{service_of}
use Rattle.net_base.specs.trace.Isolated.{inner_at}
use Rattle.network_model.specs.Calm.{is_calm}
use Rattle.network_model.specs.Frame.{next_origin}
use Rattle.network_model.specs.OnceEach.{ServedOnce}
use Rattle.network_model.specs.Reach.{is_circuit_on}
use Rattle.network_model.specs.Run.{run, state_after}
use Rattle.network_model.specs.State.{NetworkState, empty_network}
use Rattle.network_model.specs.Step.{step}
use Rattle.network_model.specs.Window.{Window, all_spare, has_copies, is_flooded_frame}
use Rattle.flight_laws.proofs.WholeMessageLemmas.{events_of}
use Rattle.flight_laws.proofs.UpExamples.{broadcast, calm_up, circuit, comes_up, evaluated, floods, is_run, is_up, one_service, reached, triangle}
use Rattle.flood_laws.proofs.RunLemmas.{runs_serve_once}

-- a window, by the state in which its frame enters
window_of : (plan : Plan) (before : List Event) (network : NetworkState) → state_after plan (empty_network plan) before ≡ network
    → (at : CircuitId) (octets frame : List ℕ) (during : List Event) (service : ServiceId)
    → service_of plan at ≡ Some service
    → is_circuit_on plan network at ≡ true
    → inner_at plan at octets ≡ Ok frame
    → is_calm plan network service ≡ true
    → is_flooded_frame plan network service frame (Frame at octets ∷ during) ≡ true
    → all_spare plan (next_origin network) (step plan network (Frame at octets)).state during ≡ true
    → has_copies (state_after plan (step plan network (Frame at octets)).state during) (next_origin network) ≡ false
    → Window plan before at octets during service
window_of plan before network is at octets frame during service sender on formed calm flooded spared over = record {
  sender = sender;
  on = ap (λ (n : NetworkState). is_circuit_on plan n at) is ∙ on;
  frame = frame;
  formed = formed;
  calm = ap (λ (n : NetworkState). is_calm plan n service) is ∙ calm;
  flooded = ap (λ (n : NetworkState). is_flooded_frame plan n service frame (Frame at octets ∷ during)) is ∙ flooded;
  spared = ap (λ (n : NetworkState). all_spare plan (next_origin n) (step plan n (Frame at octets)).state during) is ∙ spared;
  over = ap (λ (n : NetworkState). has_copies (state_after plan (step plan n (Frame at octets)).state during) (next_origin n)) is ∙ over;
}

-- a broadcast enters at the spoke edge once all is up; its copies arrive at the one core edge and then at the other one
abbrev before : List Event
before = events_of comes_up

abbrev during : List Event
during = Arrive 1 ∷ Arrive 2 ∷ []

on : is_circuit_on triangle (reached comes_up) (circuit 2) ≡ true
unfolding evaluated
on = refl

flooded : is_flooded_frame triangle (reached comes_up) one_service broadcast (Frame (circuit 2) broadcast ∷ during) ≡ true
unfolding evaluated
flooded = refl

spared : all_spare triangle (next_origin (reached comes_up)) (step triangle (reached comes_up) (Frame (circuit 2) broadcast)).state during ≡ true
unfolding evaluated
spared = refl

over : has_copies (state_after triangle (step triangle (reached comes_up) (Frame (circuit 2) broadcast)).state during) (next_origin (reached comes_up)) ≡ false
unfolding evaluated
over = refl

a_window : Window triangle before (circuit 2) broadcast during one_service
a_window = window_of triangle before (reached comes_up) is_up (circuit 2) broadcast broadcast during one_service refl on refl calm_up flooded spared over

-- each site but the sender gets it once, over twelve segments at most
abbrev events : List Event
events = events_of (comes_up ++ floods)

served : ServedOnce 12 triangle before (circuit 2) one_service (run triangle events).entries
served = runs_serve_once triangle events (is_run events (omega arith)) before (circuit 2) broadcast during [] one_service refl a_window
