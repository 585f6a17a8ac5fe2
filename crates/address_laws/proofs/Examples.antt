-- Learned addresses over a spoke and a mesh wire: a stretch may begin where all is up, and a frame to a station whose site is known
-- enters in it, so it reaches its site once.
use Rattle.std.proofs.Common.{◌≡◌, ◌++◌, ◌==◌, ◌≤◌, ◌∙◌, ℕ, suc, zero, Bool, true, false, List, [], ◌∷◌, Some, Result, Ok, Err, refl, sym, ap, subst, arith}
use Rattle.std.specs.Prelude.{codes, if◌then◌else◌}
use Rattle.std.specs.List.{AllByRecursion, list_all}
use Rattle.std.specs.Str.{bytes_eq}
use Rattle.std.proofs.lemmas.Bool.{eqb-true}
use Rattle.net_base.specs.declared.plan.Plan.{Plan}
use Rattle.net_base.specs.declared.plan.places.CircuitId.{CircuitId}
use Rattle.net_base.specs.declared.plan.places.ServiceId.{ServiceId}
use Rattle.net_base.specs.declared.trace.drop_cause.DropCause.{DropCause}
use Rattle.net_base.specs.declared.trace.entry.Entry.{Entry}
use Rattle.net_base.specs.declared.trace.entry.Entry.TheVariants.{In}
use Rattle.net_base.specs.declared.trace.event.Event.{Event}
use Rattle.net_base.specs.declared.trace.event.Event.TheVariants.{Arrive, Frame}
use Rattle.net_base.specs.plan.Places.{service_of}
use Rattle.net_base.specs.trace.Frame.{destination_of, source_of}
use Rattle.net_base.specs.trace.Isolated.{inner_at}
use Rattle.net_values.specs.Mac.{is_group_address}
use Rattle.net_values.proofs.BoolLemmas.{first_holds, second_holds}
use Rattle.edge_model.specs.State.{EdgeState}
use Rattle.network_model.specs.Frame.{next_origin}
use Rattle.network_model.specs.KnownOnce.{known_to}
use Rattle.network_model.specs.Reach.{is_circuit_on, is_site}
use Rattle.network_model.specs.Run.{run, state_after}
use Rattle.network_model.specs.State.{NetworkState, empty_network}
use Rattle.network_model.specs.Step.{step}
use Rattle.network_model.specs.Window.{all_spare, has_copies}
use Rattle.flight_laws.specs.Laws.{network_after}
use Rattle.flight_laws.proofs.WholeMessageLemmas.{Moment, Happens, StandAll, along_is, are_right, events_of, stand-append, told_along}
use Rattle.flight_laws.proofs.UpExamples.{a_circuit, away_up, calm_up, circuit, comes_up, comes_up_stands, evaluated, floods, is_flooded, is_run, is_up, one_service, reached, triangle}
use Rattle.address_laws.specs.Known.{EntersForSite, ReachesSite}
use Rattle.address_laws.specs.Points.{PointsToSite}
use Rattle.address_laws.specs.Sites.{CameFromSite, OneSite, Sites}
use Rattle.address_laws.specs.Stretch.{StartsRight, has_packets_of}
use Rattle.address_laws.proofs.KnownLemmas.{runs_reach_known}

-- ---- each source enters at its site

abbrev is_from : Sites → CircuitId → Result (List ℕ) DropCause → Bool
is_from site circuit (Ok frame) = (site (source_of frame)).0 == circuit.0
is_from site circuit (Err cause) = true

abbrev comes_right : Plan → Sites → Entry → Bool
comes_right plan site (In circuit number octets) = is_from site circuit (inner_at plan circuit octets)
comes_right plan site entry = true

came : (plan : Plan) (service : ServiceId) (site : Sites) (entry : Entry) → comes_right plan site entry ≡ true → CameFromSite plan service site entry
came plan service site (In circuit number octets) right =
    λ frame served formed single. ap (λ (n : ℕ). record { 0 = n })
    (eqb-true (site (source_of frame)).0 circuit.0 (subst (λ (r : Result (List ℕ) DropCause). is_from site circuit r ≡ true) formed right))
came plan service site entry right = tt

all_came : (plan : Plan) (service : ServiceId) (site : Sites) (entries : List Entry) → list_all (comes_right plan site) entries ≡ true → OneSite plan service site entries
all_came plan service site [] right = tt
all_came plan service site (entry ∷ entries) right = (came plan service site entry (first_holds _ _ right), all_came plan service site entries (second_holds _ _ right))

-- the station 2:0:0:0:0:1 is at the spoke edge, and every other one at the first core edge
abbrev site : Sites
site address = if bytes_eq address (2 ∷ 0 ∷ 0 ∷ 0 ∷ 0 ∷ 1 ∷ []) then circuit 2 else circuit 0

-- from the station 2:0:0:0:0:2 to the first one
abbrev answer : List ℕ
answer = 2 ∷ 0 ∷ 0 ∷ 0 ∷ 0 ∷ 1 ∷ 2 ∷ 0 ∷ 0 ∷ 0 ∷ 0 ∷ 2 ∷ 8 ∷ 0 ∷ []

abbrev answers : List Moment
answers = Happens (Frame (circuit 0) answer) ∷ Happens (Arrive 3) ∷ []

abbrev moments : List Moment
moments = comes_up ++ (floods ++ answers)

answers_right : are_right triangle (empty_network triangle) moments ≡ true
unfolding evaluated
answers_right = refl

answers_stand : StandAll moments
answers_stand = stand-append comes_up (floods ++ answers) comes_up_stands (tt, (tt, (tt, (tt, (tt, tt)))))

come_right : list_all (comes_right triangle site) (told_along triangle (empty_network triangle) moments) ≡ true
unfolding evaluated
come_right = refl

one_site : OneSite triangle one_service site (run triangle (events_of moments)).entries
one_site = subst (λ (l : List Entry). OneSite triangle one_service site l) (sym (along_is triangle (empty_network triangle) moments answers_stand answers_right))
    (all_came triangle one_service site (told_along triangle (empty_network triangle) moments) come_right)

-- ---- a stretch begins where all is up: nothing is learned, and nothing is under way

others_up : (k : ℕ) → 3 ≤ k → AllByRecursion (PointsToSite triangle (reached comes_up) one_service site k) (((reached comes_up).edges k).learned one_service.0)
others_up k beyond = subst (λ (e : EdgeState). AllByRecursion (PointsToSite triangle (reached comes_up) one_service site k) (e.learned one_service.0)) (sym (away_up k beyond)) tt

points_up : (edge : ℕ) → AllByRecursion (PointsToSite triangle (reached comes_up) one_service site edge) (((reached comes_up).edges edge).learned one_service.0)
unfolding evaluated
points_up zero = tt
points_up (suc zero) = tt
points_up (suc (suc zero)) = tt
points_up (suc (suc (suc edge))) = others_up (suc (suc (suc edge))) (omega arith)

free_up : has_packets_of triangle (reached comes_up) one_service ≡ false
unfolding evaluated
free_up = refl

starts_told : StartsRight triangle (reached comes_up) one_service site
starts_told = record { calm = calm_up; points = points_up; free = free_up }

starts : StartsRight triangle (network_after triangle (events_of comes_up)) one_service site
starts = subst (λ (n : NetworkState). StartsRight triangle n one_service site) (sym is_up) starts_told

-- ---- after the broadcast the bridges know the station

abbrev later : List Event
later = Arrive 3 ∷ []

knows : known_to triangle (reached (comes_up ++ floods)) (circuit 0) (a_circuit (codes "ca") 0) answer ≡ Some 2
unfolding evaluated
knows = refl

-- a frame to a station, by the state in which it enters
enters_of : (plan : Plan) (network : NetworkState) (service : ServiceId) (site : Sites) (at : CircuitId) (octets frame : List ℕ) (later : List Event) (one : NetworkState) → network ≡ one
    → service_of plan at ≡ Some service
    → is_circuit_on plan one at ≡ true
    → inner_at plan at octets ≡ Ok frame
    → is_group_address (destination_of frame) ≡ false
    → is_site plan one service (site (destination_of frame)) ≡ true
    → ((site (destination_of frame)).0 == at.0) ≡ false
    → all_spare plan (next_origin one) (step plan one (Frame at octets)).state later ≡ true
    → has_copies (state_after plan (step plan one (Frame at octets)).state later) (next_origin one) ≡ false
    → EntersForSite plan network service site at octets later
enters_of plan network service site at octets frame later one is sender on formed station receives other spared over = record {
  sender = sender;
  on = ap (λ (n : NetworkState). is_circuit_on plan n at) is ∙ on;
  frame = frame;
  formed = formed;
  station = station;
  receives = ap (λ (n : NetworkState). is_site plan n service (site (destination_of frame))) is ∙ receives;
  other = other;
  spared = ap (λ (n : NetworkState). all_spare plan (next_origin n) (step plan n (Frame at octets)).state later) is ∙ spared;
  over = ap (λ (n : NetworkState). has_copies (state_after plan (step plan n (Frame at octets)).state later) (next_origin n)) is ∙ over;
}

on : is_circuit_on triangle (reached (comes_up ++ floods)) (circuit 0) ≡ true
unfolding evaluated
on = refl

receives : is_site triangle (reached (comes_up ++ floods)) one_service (circuit 2) ≡ true
unfolding evaluated
receives = refl

spared : all_spare triangle (next_origin (reached (comes_up ++ floods))) (step triangle (reached (comes_up ++ floods)) (Frame (circuit 0) answer)).state later ≡ true
unfolding evaluated
spared = refl

over : has_copies (state_after triangle (step triangle (reached (comes_up ++ floods)) (Frame (circuit 0) answer)).state later) (next_origin (reached (comes_up ++ floods))) ≡ false
unfolding evaluated
over = refl

enters : EntersForSite triangle (network_after triangle (events_of comes_up ++ events_of floods)) one_service site (circuit 0) answer later
enters = enters_of triangle (network_after triangle (events_of comes_up ++ events_of floods)) one_service site (circuit 0) answer answer later
    (reached (comes_up ++ floods)) is_flooded refl on refl refl receives refl spared over

-- so the answer reaches the station's site once
reaches : ReachesSite 12 (circuit 2) (next_origin (network_after triangle (events_of comes_up ++ events_of floods))) (run triangle (events_of moments)).entries
unfolding enters enters_of
reaches = runs_reach_known triangle (events_of moments) (is_run (events_of moments) (omega arith)) (events_of comes_up) (events_of floods)
    (circuit 0) answer later [] one_service site refl one_site starts refl enters
