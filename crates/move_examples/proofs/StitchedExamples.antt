-- A move to a spoke over a switching point heals: the switching point passes the withdrawal of addresses on, and the home forgets what it
-- learned by the old spoke. The states are found by evaluation.
use Rattle.std.proofs.Common.{◌≡◌, ◌++◌, ◌∙◌, ◌≤◌, ℕ, suc, zero, true, false, List, [], ◌∷◌, Some, refl, sym, ap, subst, arith}
use Rattle.std.specs.Prelude.{codes, if◌then◌else◌}
use Rattle.std.specs.List.{All, AllByRecursion}
use Rattle.std.specs.Str.{bytes_eq}
use Rattle.std.proofs.lemmas.List.Elements.{All-cons, All-nil}
use Rattle.net_base.proofs.AcceptedLemmas.{checked}
use Rattle.net_base.specs.declared.plan.Plan.{Plan}
use Rattle.net_base.specs.declared.plan.places.EdgeId.{EdgeId}
use Rattle.net_base.specs.declared.plan.wire_plan.Class.TheVariants.{Spoke}
use Rattle.net_base.specs.declared.plan.wire_plan.WirePlan.{WirePlan}
use Rattle.net_base.specs.declared.trace.event.Event.{Event}
use Rattle.net_base.specs.declared.trace.event.Event.TheVariants.{Arrive, Connect, Frame, Priority}
use Rattle.net_base.specs.plan.Planned.{IsEventOf}
use Rattle.net_values.specs.declared.mac.Mac.{Mac}
use Rattle.net_values.specs.Label.{IsLabel}
use Rattle.hvpls_spokes.specs.declared.port.Port.TheVariants as port
use Rattle.ldp_grammar.specs.declared.message.Message.{Message}
use Rattle.ldp_grammar.specs.declared.message.Message.TheVariants.{KeepAlive}
use Rattle.ldp_grammar.proofs.WrittenOctets.{no_octets}
use Rattle.mac_table.specs.Addresses.{has_address}
use Rattle.pw_messages.specs.Content.{content_of, mapping}
use Rattle.pw_signalling.specs.declared.told.Told.{Told}
use Rattle.session_core.specs.Laws.{IsAddress}
use Rattle.edge_model.specs.State.{EdgeState}
use Rattle.network_model.specs.Calm.{carries, is_calm}
use Rattle.network_model.specs.State.{NetworkState, empty_network}
use Rattle.flight_laws.specs.Ends.{AreFieldOffers, IsFieldOffer}
use Rattle.flight_laws.specs.Laws.{IsRun, network_after}
use Rattle.flight_laws.proofs.UpExamples.{a_circuit, a_wire, address, alive_is, an_edge, an_offer, broadcast, circuit, clearing_is, clears, evaluated, mapping_is, maps, one_service, proposal_is, proposes, says, status_is, tells}
use Rattle.flight_laws.proofs.WholeMessageLemmas.{Happens, IsReadable, Moment, StandAll, after_is, are_right, are_within, events_of, stand-append, stand_each, stays_away, told_after}
use Rattle.address_laws.specs.Points.{Points, PointsToSite}
use Rattle.address_laws.specs.Sites.{Sites}
use Rattle.address_laws.specs.Stretch.{StartsRight, has_packets_of}
use Rattle.move_laws.proofs.HealLemmas.{runs_heal_moves}
use Rattle.move_examples.specs.Healed.{HealedOverSwitchingPoint}

-- ---- a spoke edge `x` with two spokes to the core edge `a`: one joins them, the other one passes `s`

abbrev stitched_spoke : WirePlan
stitched_spoke = record {
  name = codes "xsa";
  service = record { 0 = 0 };
  class = Spoke;
  path = record { 0 = 2 } ∷ record { 0 = 1 } ∷ record { 0 = 0 } ∷ [];
  pw_id = 201;
  near = an_offer;
  far = an_offer;
  priority = 20;
}

abbrev two_ways : Plan
two_ways = record {
  edges = an_edge (codes "a") 1 ∷ an_edge (codes "s") 2 ∷ an_edge (codes "x") 3 ∷ [];
  services = record { name = codes "v"; mtu = 1500; age = 2 } ∷ [];
  circuits = a_circuit (codes "ca") 0 ∷ a_circuit (codes "cx") 2 ∷ [];
  wires = a_wire (codes "xa") Spoke 2 0 200 10 ∷ stitched_spoke ∷ [];
}

abbrev at : ℕ → EdgeId
at place = record { 0 = place }

-- what `s` tells on: the offer of the far edge, and its own point
abbrev told_on : ℕ → ℕ → Told
told_on before status = record (content_of an_offer (Some (record { 0 = status }))) { points = record { pw_id = Some 201; local = Some (address 2); remote = Some (address before) } ∷ [] }

abbrev maps_on : ℕ → ℕ → ℕ → Message
maps_on label before status = mapping 201 label (told_on before status) 3

mapping_on_is : (label before : ℕ) → IsLabel label → IsReadable (maps_on label before 0) × IsReadable (maps_on label before 32)
mapping_on_is label before is = (
  record {
    can = refl;
    fits = (omega arith, record { group = omega arith; pw_id = omega arith; mtu = omega arith; description = omega arith }, is, omega arith, omega arith, (record { pw_id = omega arith; local = refl; remote = refl }, tt));
    short = refl;
  },
  record {
    can = refl;
    fits = (omega arith, record { group = omega arith; pw_id = omega arith; mtu = omega arith; description = omega arith }, is, omega arith, omega arith, (record { pw_id = omega arith; local = refl; remote = refl }, tt));
    short = refl;
  },
)

-- ---- all comes up, and a broadcast of the station 2:0:0:0:0:1 enters behind the spoke edge

abbrev connected : List Moment
connected = Happens (Connect (at 0) (at 1)) ∷ Happens (Connect (at 0) (at 2)) ∷ Happens (Connect (at 1) (at 2)) ∷ []

connected_stand : StandAll connected
connected_stand = (tt, (tt, (tt, tt)))

abbrev first_up : List Moment
first_up =
    says 1 0 (proposes 2 1 ∷ [])
    ∷ says 0 1 (proposes 1 2 ∷ KeepAlive 2 ∷ [])
    ∷ says 1 0 (KeepAlive 2 ∷ [])
    ∷ says 0 1 (maps 201 16 0 ∷ []) ∷ []

first_stand : StandAll first_up
first_stand = (
  stand_each (address 2) (proposes 2 1 ∷ []) refl refl (proposal_is 2 1, tt),
  (
    stand_each (address 1) (proposes 1 2 ∷ KeepAlive 2 ∷ []) refl refl (proposal_is 1 2, (alive_is, tt)),
    (
      stand_each (address 2) (KeepAlive 2 ∷ []) refl refl (alive_is, tt),
      (stand_each (address 1) (maps 201 16 0 ∷ []) refl refl (mapping_is 201 16 0 (omega arith) (omega arith) (omega arith), tt), tt),
    ),
  ),
)

abbrev next_up : List Moment
next_up =
    says 2 0 (proposes 3 1 ∷ [])
    ∷ says 0 2 (proposes 1 3 ∷ KeepAlive 2 ∷ [])
    ∷ says 2 0 (KeepAlive 2 ∷ maps 200 16 32 ∷ [])
    ∷ says 0 2 (maps 200 17 0 ∷ [])
    ∷ says 2 0 (tells 4 200 0 ∷ clears 5 200 ∷ [])
    ∷ says 0 1 (clears 4 201 ∷ []) ∷ []

next_stand : StandAll next_up
next_stand = (
  stand_each (address 3) (proposes 3 1 ∷ []) refl refl (proposal_is 3 1, tt),
  (
    stand_each (address 1) (proposes 1 3 ∷ KeepAlive 2 ∷ []) refl refl (proposal_is 1 3, (alive_is, tt)),
    (
      stand_each (address 3) (KeepAlive 2 ∷ maps 200 16 32 ∷ []) refl refl (alive_is, (mapping_is 200 16 32 (omega arith) (omega arith) (omega arith), tt)),
      (
        stand_each (address 1) (maps 200 17 0 ∷ []) refl refl (mapping_is 200 17 0 (omega arith) (omega arith) (omega arith), tt),
        (
          stand_each (address 3) (tells 4 200 0 ∷ clears 5 200 ∷ []) refl refl (status_is 4 200 0 (omega arith) (omega arith) (omega arith), (clearing_is 5 200 (omega arith) (omega arith), tt)),
          (stand_each (address 1) (clears 4 201 ∷ []) refl refl (clearing_is 4 201 (omega arith) (omega arith), tt), tt),
        ),
      ),
    ),
  ),
)

abbrev last_up : List Moment
last_up =
    says 2 1 (proposes 3 2 ∷ [])
    ∷ says 1 2 (proposes 2 3 ∷ KeepAlive 2 ∷ [])
    ∷ says 2 1 (KeepAlive 2 ∷ maps 201 17 32 ∷ [])
    ∷ says 1 0 (maps_on 17 3 32 ∷ [])
    ∷ says 1 2 (maps_on 16 1 0 ∷ []) ∷ []

last_stand : StandAll last_up
last_stand = (
  stand_each (address 3) (proposes 3 2 ∷ []) refl refl (proposal_is 3 2, tt),
  (
    stand_each (address 2) (proposes 2 3 ∷ KeepAlive 2 ∷ []) refl refl (proposal_is 2 3, (alive_is, tt)),
    (
      stand_each (address 3) (KeepAlive 2 ∷ maps 201 17 32 ∷ []) refl refl (alive_is, (mapping_is 201 17 32 (omega arith) (omega arith) (omega arith), tt)),
      (
        stand_each (address 2) (maps_on 17 3 32 ∷ []) refl refl ((mapping_on_is 17 3 (omega arith)).1, tt),
        (stand_each (address 2) (maps_on 16 1 0 ∷ []) refl refl ((mapping_on_is 16 1 (omega arith)).0, tt), tt),
      ),
    ),
  ),
)

abbrev floods : List Moment
floods = Happens (Frame (circuit 1) broadcast) ∷ Happens (Arrive 1) ∷ []

abbrev heard : List Moment
heard = connected ++ (first_up ++ (next_up ++ (last_up ++ floods)))

heard_stand : StandAll heard
heard_stand = stand-append connected (first_up ++ (next_up ++ (last_up ++ floods))) connected_stand
    (stand-append first_up (next_up ++ (last_up ++ floods)) first_stand (stand-append next_up (last_up ++ floods) next_stand (stand-append last_up floods last_stand (tt, (tt, tt)))))

abbrev reached : List Moment → NetworkState
reached moments = told_after two_ways (empty_network two_ways) moments

heard_right : are_right two_ways (empty_network two_ways) heard ≡ true
unfolding evaluated
heard_right = refl

is_heard : network_after two_ways (events_of heard) ≡ reached heard
is_heard = after_is two_ways (empty_network two_ways) heard heard_stand heard_right

heard_within : are_within two_ways 3 (empty_network two_ways) heard ≡ true
unfolding evaluated
heard_within = refl

-- ---- before the move the home looks for the station by the spoke that joins the two

-- the station is at the circuit of the spoke edge, and every other one at that of the home
abbrev site : Sites
site of = if bytes_eq of (2 ∷ 0 ∷ 0 ∷ 0 ∷ 0 ∷ 1 ∷ []) then circuit 1 else circuit 0

others_before : (k : ℕ) → 3 ≤ k → AllByRecursion (PointsToSite two_ways (reached heard) one_service site k) (((reached heard).edges k).learned one_service.0)
others_before k beyond = subst (λ (e : EdgeState). AllByRecursion (PointsToSite two_ways (reached heard) one_service site k) (e.learned one_service.0))
    (sym (stays_away two_ways 3 k beyond heard (empty_network two_ways) heard_within)) tt

points_before : (edge : ℕ) → AllByRecursion (PointsToSite two_ways (reached heard) one_service site edge) (((reached heard).edges edge).learned one_service.0)
unfolding evaluated
points_before zero = (record { port = port.Spoke (record { 0 = 0 }); at = refl; reaches = refl }, tt)
points_before (suc zero) = tt
points_before (suc (suc zero)) = (record { port = port.Circuit (circuit 1); at = refl; reaches = refl }, tt)
points_before (suc (suc (suc edge))) = others_before (suc (suc (suc edge))) (omega arith)

calm_before : is_calm two_ways (reached heard) one_service ≡ true
unfolding evaluated
calm_before = refl

free_before : has_packets_of two_ways (reached heard) one_service ≡ false
unfolding evaluated
free_before = refl

abbrev before : List Event
before = events_of heard

starts : StartsRight two_ways (network_after two_ways before) one_service site
starts = subst (λ (n : NetworkState). StartsRight two_ways n one_service site) (sym is_heard) (record { calm = calm_before; points = points_before; free = free_before })

-- ---- `x` prefers the spoke over `s`; then deliveries alone

abbrev move : Event
move = Priority (at 2) (record { 0 = 1 }) 5

abbrev heals : List Moment
heals =
    says 2 0 (tells 6 200 32 ∷ [])
    ∷ says 2 1 (tells 4 201 0 ∷ clears 5 201 ∷ [])
    ∷ says 1 0 (tells 4 201 0 ∷ clears 5 201 ∷ [])
    ∷ says 0 2 (clears 4 200 ∷ []) ∷ []

abbrev moments : List Moment
moments = heard ++ Happens move ∷ heals

heals_stand : StandAll moments
heals_stand = stand-append heard (Happens move ∷ heals) heard_stand (
  tt,
  (
    stand_each (address 3) (tells 6 200 32 ∷ []) refl refl (status_is 6 200 32 (omega arith) (omega arith) (omega arith), tt),
    (
      stand_each (address 3) (tells 4 201 0 ∷ clears 5 201 ∷ []) refl refl (status_is 4 201 0 (omega arith) (omega arith) (omega arith), (clearing_is 5 201 (omega arith) (omega arith), tt)),
      (
        stand_each (address 2) (tells 4 201 0 ∷ clears 5 201 ∷ []) refl refl (status_is 4 201 0 (omega arith) (omega arith) (omega arith), (clearing_is 5 201 (omega arith) (omega arith), tt)),
        (stand_each (address 1) (clears 4 200 ∷ []) refl refl (clearing_is 4 200 (omega arith) (omega arith), tt), tt),
      ),
    ),
  ),
)

heals_right : are_right two_ways (empty_network two_ways) moments ≡ true
unfolding evaluated
heals_right = refl

abbrev deliveries : List Event
deliveries = events_of heals

abbrev events : List Event
events = before ++ move ∷ deliveries

is_healed : network_after two_ways events ≡ reached moments
is_healed = after_is two_ways (empty_network two_ways) moments heals_stand heals_right

-- the service is calm again, by the spoke over `s`
calm_told : is_calm two_ways (reached moments) one_service ≡ true
unfolding evaluated
calm_told = refl

calm : is_calm two_ways (network_after two_ways events) one_service ≡ true
calm = ap (λ (n : NetworkState). is_calm two_ways n one_service) is_healed ∙ calm_told

-- ---- the plan and these events make a run

all_of : {X : Type 0} (P : X → Type 0) (xs : List X) → AllByRecursion P xs → All P xs
all_of P [] all = All-nil P
all_of P (x ∷ xs) all = All-cons P x xs all.0 (all_of P xs all.1)

field : IsFieldOffer an_offer
field = record { mtu = omega arith; group = omega arith; description = omega arith; octets = no_octets }

is_run : AllByRecursion (IsEventOf two_ways) events → IsRun two_ways events
is_run planned = record {
  checked = checked two_ways (record { edges = omega arith; services = omega arith; circuits = omega arith; wires = omega arith }) refl;
  types = record {
    addresses = all_of (λ row. IsAddress row.address) two_ways.edges (omega arith);
    offers = all_of AreFieldOffers two_ways.wires (record { near = field; far = field }, (record { near = field; far = field }, tt));
  };
  planned = all_of (IsEventOf two_ways) events planned;
}

-- so each learned address points to its site again
heal : Points two_ways (network_after two_ways events) one_service site
heal = runs_heal_moves two_ways events (is_run (omega arith)) before move deliveries [] one_service site refl starts refl refl calm

-- the home has forgotten the station
forgotten : has_address (((reached moments).edges 0).learned 0) (record { 0 = 2 ∷ 0 ∷ 0 ∷ 0 ∷ 0 ∷ 1 ∷ [] }) ≡ false
unfolding evaluated
forgotten = refl

-- ---- the example as a whole

-- the station, and the wire over the switching point
abbrev station : Mac
station = record { 0 = 2 ∷ 0 ∷ 0 ∷ 0 ∷ 0 ∷ 1 ∷ [] }

known_told : has_address (((reached heard).edges 0).learned 0) station ≡ true
unfolding evaluated
known_told = refl

carried_told : carries two_ways (reached heard) 1 stitched_spoke ≡ false
unfolding evaluated
carried_told = refl

carries_told : carries two_ways (reached moments) 1 stitched_spoke ≡ true
unfolding evaluated
carries_told = refl

pub healed : HealedOverSwitchingPoint
healed = record {
  plan = two_ways;
  service = one_service;
  site = site;
  before = before;
  move = move;
  deliveries = deliveries;
  run = is_run (omega arith);
  starts = starts;
  moves = refl;
  delivered = refl;
  calm = calm;
  wire = record { 0 = 1 };
  row = stitched_spoke;
  row_is = refl;
  mover = 2;
  spoke = refl;
  stitched = refl;
  carries_before = ap (λ (n : NetworkState). carries two_ways n 1 stitched_spoke) is_heard ∙ carried_told;
  carries_now = ap (λ (n : NetworkState). carries two_ways n 1 stitched_spoke) is_healed ∙ carries_told;
  edge = 0;
  station = station;
  known = ap (λ (n : NetworkState). has_address ((n.edges 0).learned 0) station) is_heard ∙ known_told;
  forgotten = ap (λ (n : NetworkState). has_address ((n.edges 0).learned 0) station) is_healed ∙ forgotten;
  heals = heal;
}
