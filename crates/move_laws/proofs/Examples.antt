-- A move that heals: once a station behind a spoke is known, its edge moves to another spoke. What was learned points to its site
-- before the move, and again once the service is calm.
use Rattle.std.proofs.Common.{◌≡◌, ◌++◌, ◌∙◌, ◌≤◌, ℕ, suc, zero, true, false, List, [], ◌∷◌, refl, sym, ap, subst, arith}
use Rattle.std.specs.Prelude.{if◌then◌else◌}
use Rattle.std.specs.List.{AllByRecursion}
use Rattle.std.specs.Str.{bytes_eq}
use Rattle.net_base.specs.declared.trace.event.Event.{Event}
use Rattle.net_base.specs.declared.trace.event.Event.TheVariants.{Arrive, Frame, Priority}
use Rattle.hvpls_spokes.specs.declared.port.Port.TheVariants as port
use Rattle.mac_table.specs.Addresses.{has_address}
use Rattle.edge_model.specs.State.{EdgeState}
use Rattle.network_model.specs.Calm.{is_calm}
use Rattle.network_model.specs.State.{NetworkState, empty_network}
use Rattle.flight_laws.specs.Laws.{network_after}
use Rattle.flight_laws.proofs.WholeMessageLemmas.{Moment, Happens, StandAll, after_is, are_right, are_within, events_of, stand-append, stand_each, stays_away}
use Rattle.flight_laws.proofs.UpExamples.{address, circuit, clearing_is, clears, comes_up, evaluated, floods, floods_stands, is_run, one_service, reached, says, status_is, tells, triangle, x}
use Rattle.address_laws.specs.Points.{Points, PointsToSite}
use Rattle.address_laws.specs.Sites.{Sites}
use Rattle.address_laws.specs.Stretch.{StartsRight, has_packets_of}
use Rattle.move_laws.proofs.HealLemmas.{runs_heal_moves}

-- the station 2:0:0:0:0:1 is at the spoke edge, and every other one at the second core edge
abbrev site : Sites
site address = if bytes_eq address (2 ∷ 0 ∷ 0 ∷ 0 ∷ 0 ∷ 1 ∷ []) then circuit 2 else circuit 1

-- a broadcast of the station 2:0:0:0:0:3 there
abbrev hello : List ℕ
hello = 255 ∷ 255 ∷ 255 ∷ 255 ∷ 255 ∷ 255 ∷ 2 ∷ 0 ∷ 0 ∷ 0 ∷ 0 ∷ 3 ∷ 8 ∷ 0 ∷ []

abbrev hellos : List Moment
hellos = Happens (Frame (circuit 1) hello) ∷ Happens (Arrive 3) ∷ Happens (Arrive 4) ∷ []

-- both stations are heard everywhere once all is up
abbrev heard : List Moment
heard = (comes_up ++ floods) ++ hellos

heard_stands : StandAll heard
heard_stands = stand-append (comes_up ++ floods) hellos floods_stands (tt, (tt, (tt, tt)))

heard_right : are_right triangle (empty_network triangle) heard ≡ true
unfolding evaluated
heard_right = refl

is_heard : network_after triangle (events_of heard) ≡ reached heard
is_heard = after_is triangle (empty_network triangle) heard heard_stands heard_right

heard_within : are_within triangle 3 (empty_network triangle) heard ≡ true
unfolding evaluated
heard_within = refl

-- ---- before the move

others_before : (k : ℕ) → 3 ≤ k → AllByRecursion (PointsToSite triangle (reached heard) one_service site k) (((reached heard).edges k).learned one_service.0)
others_before k beyond = subst (λ (e : EdgeState). AllByRecursion (PointsToSite triangle (reached heard) one_service site k) (e.learned one_service.0))
    (sym (stays_away triangle 3 k beyond heard (empty_network triangle) heard_within)) tt

-- the stations were heard at their circuits and on the wires that lead to them
points_before : (edge : ℕ) → AllByRecursion (PointsToSite triangle (reached heard) one_service site edge) (((reached heard).edges edge).learned one_service.0)
unfolding evaluated
points_before zero = (record { port = port.Spoke (record { 0 = 1 }); at = refl; reaches = refl }, (record { port = port.Mesh (record { 0 = 0 }); at = refl; reaches = refl }, tt))
points_before (suc zero) = (record { port = port.Mesh (record { 0 = 0 }); at = refl; reaches = refl }, (record { port = port.Circuit (circuit 1); at = refl; reaches = refl }, tt))
points_before (suc (suc zero)) = (record { port = port.Circuit (circuit 2); at = refl; reaches = refl }, (record { port = port.Spoke (record { 0 = 1 }); at = refl; reaches = refl }, tt))
points_before (suc (suc (suc edge))) = others_before (suc (suc (suc edge))) (omega arith)

calm_before : is_calm triangle (reached heard) one_service ≡ true
unfolding evaluated
calm_before = refl

free_before : has_packets_of triangle (reached heard) one_service ≡ false
unfolding evaluated
free_before = refl

starts_told : StartsRight triangle (reached heard) one_service site
starts_told = record { calm = calm_before; points = points_before; free = free_before }

abbrev before : List Event
before = events_of heard

starts : StartsRight triangle (network_after triangle before) one_service site
starts = subst (λ (n : NetworkState). StartsRight triangle n one_service site) (sym is_heard) starts_told

-- ---- the spoke edge prefers its other spoke; then deliveries alone

abbrev move : Event
move = Priority x (record { 0 = 1 }) 30

abbrev heals : List Moment
heals =
    says 2 0 (tells 6 200 32 ∷ [])
    ∷ says 2 1 (tells 4 201 0 ∷ clears 5 201 ∷ [])
    ∷ says 1 0 (clears 4 100 ∷ [])
    ∷ says 0 2 (clears 4 200 ∷ []) ∷ []

abbrev moments : List Moment
moments = heard ++ Happens move ∷ heals

heals_stand : StandAll moments
heals_stand = stand-append heard (Happens move ∷ heals) heard_stands (
  tt,
  (
    stand_each (address 3) (tells 6 200 32 ∷ []) refl refl (status_is 6 200 32 (omega arith) (omega arith) (omega arith), tt),
    (
      stand_each (address 3) (tells 4 201 0 ∷ clears 5 201 ∷ []) refl refl (status_is 4 201 0 (omega arith) (omega arith) (omega arith), (clearing_is 5 201 (omega arith) (omega arith), tt)),
      (
        stand_each (address 2) (clears 4 100 ∷ []) refl refl (clearing_is 4 100 (omega arith) (omega arith), tt),
        (
          stand_each (address 1) (clears 4 200 ∷ []) refl refl (clearing_is 4 200 (omega arith) (omega arith), tt),
          tt,
        ),
      ),
    ),
  ),
)

heals_right : are_right triangle (empty_network triangle) moments ≡ true
unfolding evaluated
heals_right = refl

abbrev deliveries : List Event
deliveries = events_of heals

abbrev events : List Event
events = before ++ move ∷ deliveries

is_healed : network_after triangle events ≡ reached moments
is_healed = after_is triangle (empty_network triangle) moments heals_stand heals_right

-- the service is calm again, with another live spoke
calm_told : is_calm triangle (reached moments) one_service ≡ true
unfolding evaluated
calm_told = refl

calm : is_calm triangle (network_after triangle events) one_service ≡ true
calm = ap (λ (n : NetworkState). is_calm triangle n one_service) is_healed ∙ calm_told

-- so each learned address points to its site again
heal : Points triangle (network_after triangle events) one_service site
heal = runs_heal_moves triangle events (is_run events (omega arith)) before move deliveries [] one_service site refl starts refl refl calm

-- the first core edge has forgotten the station that moved, and knows the other one still
forgotten : has_address (((reached moments).edges 0).learned 0) (record { 0 = 2 ∷ 0 ∷ 0 ∷ 0 ∷ 0 ∷ 1 ∷ [] }) ≡ false
unfolding evaluated
forgotten = refl

kept : has_address (((reached moments).edges 0).learned 0) (record { 0 = 2 ∷ 0 ∷ 0 ∷ 0 ∷ 0 ∷ 3 ∷ [] }) ≡ true
unfolding evaluated
kept = refl
