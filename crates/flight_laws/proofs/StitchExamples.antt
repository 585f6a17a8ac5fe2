-- A wire over a switching point comes up: what the switching point tells on each side is what it holds on the other one, with its own
-- point, and a failure at one end is told on to the other end. The states are found by evaluation.
use Rattle.std.proofs.Common.{◌≡◌, ◌++◌, ℕ, true, List, [], ◌∷◌, Some, refl, arith}
use Rattle.std.specs.Prelude.{codes}
use Rattle.net_base.specs.declared.plan.Plan.{Plan}
use Rattle.net_base.specs.declared.plan.wire_plan.Class.TheVariants.{Mesh}
use Rattle.net_base.specs.declared.plan.wire_plan.WirePlan.{WirePlan}
use Rattle.net_base.specs.declared.trace.event.Event.TheVariants.{Connect, Status}
use Rattle.net_values.specs.Label.{IsLabel}
use Rattle.ldp_grammar.specs.declared.message.Message.{Message}
use Rattle.ldp_grammar.specs.declared.message.Message.TheVariants.{KeepAlive}
use Rattle.pw_tlvs.specs.declared.point.Point.{Point}
use Rattle.pw_signalling.specs.declared.told.Told.{Told}
use Rattle.pw_signalling.specs.End.{Advertised}
use Rattle.pw_messages.specs.Content.{content_of, mapping}
use Rattle.edge_model.specs.State.{with_bits}
use Rattle.network_model.specs.Calm.{is_calm}
use Rattle.network_model.specs.State.{NetworkState, empty_network}
use Rattle.flight_laws.specs.Laws.{network_after}
use Rattle.flight_laws.proofs.UpExamples.{a_circuit, address, alive_is, an_edge, an_offer, evaluated, mapping_is, maps, one_service, proposal_is, proposes, says, status_is, tells}
use Rattle.flight_laws.proofs.WholeMessageLemmas.{Happens, IsReadable, Moment, StandAll, after_is, are_right, events_of, stand-append, stand_each, told_after}

-- from the edge `a` over `b` to `c`
abbrev pub stitched_wire : WirePlan
stitched_wire = record {
  name = codes "w";
  service = record { 0 = 0 };
  class = Mesh;
  path = record { 0 = 0 } ∷ record { 0 = 1 } ∷ record { 0 = 2 } ∷ [];
  pw_id = 100;
  near = an_offer;
  far = an_offer;
  priority = 0;
}

abbrev pub line : Plan
line = record {
  edges = an_edge (codes "a") 1 ∷ an_edge (codes "b") 2 ∷ an_edge (codes "c") 3 ∷ [];
  services = record { name = codes "s"; mtu = 1500; age = 2 } ∷ [];
  circuits = a_circuit (codes "ca") 0 ∷ a_circuit (codes "cc") 2 ∷ [];
  wires = stitched_wire ∷ [];
}

-- what `b` tells: the offer of the terminal edge on the other side, and its own point with the address of the edge from which it comes
abbrev pub b_point : ℕ → Point
b_point before = record { pw_id = Some 100; local = Some (address 2); remote = Some (address before) }

abbrev pub told_on : ℕ → ℕ → Told
told_on before status = record (content_of an_offer (Some (record { 0 = status }))) { points = b_point before ∷ [] }

abbrev pub maps_on : ℕ → ℕ → Message
maps_on label before = mapping 100 label (told_on before 0) 3

mapping_on_is : (label before : ℕ) → IsLabel label → IsReadable (maps_on label before)
mapping_on_is label before is = record {
  can = refl;
  fits = (
    omega arith,
    record { group = omega arith; pw_id = omega arith; mtu = omega arith; description = omega arith },
    is,
    omega arith,
    omega arith,
    (record { pw_id = omega arith; local = refl; remote = refl }, tt),
  );
  short = refl;
}

-- ---- the wire comes up: `b` tells nothing to a side before it is bound on the other one

abbrev pub line_comes_up : List Moment
line_comes_up =
    Happens (Connect (record { 0 = 0 }) (record { 0 = 1 })) ∷ Happens (Connect (record { 0 = 1 }) (record { 0 = 2 }))
    ∷ says 1 0 (proposes 2 1 ∷ [])
    ∷ says 0 1 (proposes 1 2 ∷ KeepAlive 2 ∷ [])
    ∷ says 1 0 (KeepAlive 2 ∷ [])
    ∷ says 0 1 (maps 100 16 0 ∷ [])
    ∷ says 2 1 (proposes 3 2 ∷ [])
    ∷ says 1 2 (proposes 2 3 ∷ KeepAlive 2 ∷ [])
    ∷ says 2 1 (KeepAlive 2 ∷ maps 100 16 0 ∷ [])
    ∷ says 1 2 (maps_on 16 1 ∷ [])
    ∷ says 1 0 (maps_on 17 3 ∷ []) ∷ []

line_stands : StandAll line_comes_up
line_stands = (
  tt,
  (
    tt,
    (
      stand_each (address 2) (proposes 2 1 ∷ []) refl refl (proposal_is 2 1, tt),
      (
        stand_each (address 1) (proposes 1 2 ∷ KeepAlive 2 ∷ []) refl refl (proposal_is 1 2, (alive_is, tt)),
        (
          stand_each (address 2) (KeepAlive 2 ∷ []) refl refl (alive_is, tt),
          (
            stand_each (address 1) (maps 100 16 0 ∷ []) refl refl (mapping_is 100 16 0 (omega arith) (omega arith) (omega arith), tt),
            (
              stand_each (address 3) (proposes 3 2 ∷ []) refl refl (proposal_is 3 2, tt),
              (
                stand_each (address 2) (proposes 2 3 ∷ KeepAlive 2 ∷ []) refl refl (proposal_is 2 3, (alive_is, tt)),
                (
                  stand_each (address 3) (KeepAlive 2 ∷ maps 100 16 0 ∷ []) refl refl (alive_is, (mapping_is 100 16 0 (omega arith) (omega arith) (omega arith), tt)),
                  (
                    stand_each (address 2) (maps_on 16 1 ∷ []) refl refl (mapping_on_is 16 1 (omega arith), tt),
                    (stand_each (address 2) (maps_on 17 3 ∷ []) refl refl (mapping_on_is 17 3 (omega arith), tt), tt),
                  ),
                ),
              ),
            ),
          ),
        ),
      ),
    ),
  ),
)

abbrev pub line_reached : List Moment → NetworkState
line_reached moments = told_after line (empty_network line) moments

line_right : are_right line (empty_network line) line_comes_up ≡ true
unfolding evaluated
line_right = refl

pub line_is_up : network_after line (events_of line_comes_up) ≡ line_reached line_comes_up
line_is_up = after_is line (empty_network line) line_comes_up line_stands line_right

-- `b` tells each side what it holds on the other one
tells_c : ((line_reached line_comes_up).edges 1).ends 0 2 ≡ record { local = Advertised 16 (told_on 1 0); remote = Some (record { label = 16; told = content_of an_offer (Some (record { 0 = 0 })) }) }
unfolding evaluated
tells_c = refl

tells_a : ((line_reached line_comes_up).edges 1).ends 0 0 ≡ record { local = Advertised 17 (told_on 3 0); remote = Some (record { label = 16; told = content_of an_offer (Some (record { 0 = 0 })) }) }
unfolding evaluated
tells_a = refl

-- both terminal edges hold what comes over it, and the service is calm
holds_a : (((line_reached line_comes_up).edges 0).ends 0 1).remote ≡ Some (record { label = 17; told = told_on 3 0 })
unfolding evaluated
holds_a = refl

holds_c : (((line_reached line_comes_up).edges 2).ends 0 1).remote ≡ Some (record { label = 16; told = told_on 1 0 })
unfolding evaluated
holds_c = refl

line_calm : is_calm line (line_reached line_comes_up) one_service ≡ true
unfolding evaluated
line_calm = refl

-- ---- a failure at `a` is told on to `c`

abbrev pub line_fails : List Moment
line_fails = Happens (Status (record { 0 = 0 }) (record { 0 = 0 }) 1) ∷ says 0 1 (tells 4 100 1 ∷ []) ∷ says 1 2 (tells 4 100 1 ∷ []) ∷ []

fails_right : are_right line (empty_network line) (line_comes_up ++ line_fails) ≡ true
unfolding evaluated with_bits
fails_right = refl

fails_stand : StandAll (line_comes_up ++ line_fails)
fails_stand = stand-append line_comes_up line_fails line_stands (
  tt,
  (
    stand_each (address 1) (tells 4 100 1 ∷ []) refl refl (status_is 4 100 1 (omega arith) (omega arith) (omega arith), tt),
    (stand_each (address 2) (tells 4 100 1 ∷ []) refl refl (status_is 4 100 1 (omega arith) (omega arith) (omega arith), tt), tt),
  ),
)

pub line_has_failed : network_after line (events_of (line_comes_up ++ line_fails)) ≡ line_reached (line_comes_up ++ line_fails)
line_has_failed = after_is line (empty_network line) (line_comes_up ++ line_fails) fails_stand fails_right

tells_failure : (((line_reached (line_comes_up ++ line_fails)).edges 1).ends 0 2).local ≡ Advertised 16 (told_on 1 1)
unfolding evaluated with_bits
tells_failure = refl

holds_failure : (((line_reached (line_comes_up ++ line_fails)).edges 2).ends 0 1).remote ≡ Some (record { label = 16; told = told_on 1 1 })
unfolding evaluated with_bits
holds_failure = refl
