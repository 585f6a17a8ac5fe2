-- The premises are met, by evaluation: a plan of two core edges and a spoke edge with a spoke to each comes up from nothing, can deliver
-- nothing any more then, and is sound; the spoke edge chooses the spoke with the lesser number. Once the three are connected its service
-- is sound, and not calm before the deliveries.
use Rattle.std.proofs.Common.{◌≡◌, ◌++◌, ◌∙◌, ℕ, zero, suc, true, false, drop, is_some, List, [], ◌∷◌, Some, None, refl, ap, arith}
use Rattle.std.specs.List.{All, list_all}
use Rattle.net_base.specs.declared.trace.event.Event.{Event}
use Rattle.net_base.specs.declared.trace.event.Event.TheVariants.{Connect}
use Rattle.net_base.specs.plan.Planned.{IsEventOf}
use Rattle.edge_model.specs.Labels.{label_to_give}
use Rattle.edge_model.specs.State.{EdgeState}
use Rattle.network_model.specs.Calm.{is_calm}
use Rattle.network_model.specs.Delivery.{next_delivery}
use Rattle.network_model.specs.State.{NetworkState, empty_network}
use Rattle.flight_laws.specs.Laws.{network_after}
use Rattle.flight_laws.proofs.UpExamples.{a, away_up, b, comes_up, evaluated, is_run, is_up, one_service, reached, triangle, x}
use Rattle.flight_laws.proofs.WholeMessageLemmas.{Happens, Moment, after_is, events_of}
use Rattle.flood_laws.specs.Deliveries.{is_delivery}
use Rattle.settle_laws.specs.Laws.{HasLabels}
use Rattle.settle_laws.specs.Sound.{is_sound_service, sound_choice}
use Rattle.settle_laws.proofs.RunLemmas.{runs_come_to_calm, runs_rest_calm}

abbrev events : List Event
events = events_of comes_up

rests : next_delivery triangle (reached comes_up) ≡ None
unfolding evaluated
rests = refl

sound : is_sound_service triangle (reached comes_up) one_service ≡ true
unfolding evaluated
sound = refl

-- the first of the two spokes
chosen : sound_choice triangle (reached comes_up) one_service 2 ≡ Some (record { 0 = 1 })
unfolding evaluated
chosen = refl

labels_up : (edge : ℕ) → is_some (label_to_give ((reached comes_up).edges edge)) ≡ true
unfolding evaluated
labels_up zero = refl
labels_up (suc zero) = refl
labels_up (suc (suc zero)) = refl
labels_up (suc (suc (suc k))) = ap (λ (e : EdgeState). is_some (label_to_give e)) (away_up (suc (suc (suc k))) (omega arith))

labels : HasLabels triangle (network_after triangle events) one_service
labels wire row is ours edge peer joined idle = ap (λ (n : NetworkState). is_some (label_to_give (n.edges edge))) is_up ∙ labels_up edge

-- so the law decides that it is calm
decided : is_calm triangle (network_after triangle events) one_service ≡ true
decided =
    runs_rest_calm triangle events (is_run events (omega arith)) (ap (next_delivery triangle) is_up ∙ rests) one_service labels
    ∙ (ap (λ (n : NetworkState). is_sound_service triangle n one_service) is_up ∙ sound)

-- ---- before anything is delivered: the three edges are connected, and no more

abbrev opened : List Moment
opened = Happens (Connect a b) ∷ Happens (Connect a x) ∷ Happens (Connect b x) ∷ []

abbrev connects : List Event
connects = events_of opened

abbrev deliveries : List Event
deliveries = events_of (drop 3 comes_up)

all_events : events ≡ connects ++ deliveries
all_events = refl

is_opened : network_after triangle connects ≡ reached opened
is_opened = after_is triangle (empty_network triangle) opened (tt, (tt, (tt, tt))) refl

-- the service is sound then, and not calm, as it is not quiet
sound_before : is_sound_service triangle (reached opened) one_service ≡ true
unfolding evaluated
sound_before = refl

not_calm_before : is_calm triangle (reached opened) one_service ≡ false
unfolding evaluated
not_calm_before = refl

delivered : list_all is_delivery deliveries ≡ true
delivered = refl

planned : All (IsEventOf triangle) deliveries
planned = (is_run deliveries (omega arith)).planned

-- so the law decides before the deliveries that it is calm behind them
decided_before : is_calm triangle (network_after triangle (connects ++ deliveries)) one_service ≡ true
decided_before =
    runs_come_to_calm triangle connects (is_run connects (omega arith)) deliveries planned delivered (ap (next_delivery triangle) is_up ∙ rests) one_service labels
    ∙ (ap (λ (n : NetworkState). is_sound_service triangle n one_service) is_opened ∙ sound_before)
