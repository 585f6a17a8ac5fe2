-- A network of two core edges and a spoke edge comes up: sessions, a mesh wire, and a spoke to each of the core edges, of which one
-- carries frames. Its states are found by evaluation.
use Rattle.std.proofs.Common.{◌≡◌, ◌≤◌, ◌<◌, ◌+◌, ◌++◌, ◌^◌, ◌∙◌, ℕ, true, false, List, [], ◌∷◌, Some, None, refl, ap, arith}
use Rattle.std.specs.Prelude.{codes}
use Rattle.std.specs.List.{All, AllByRecursion}
use Rattle.std.proofs.lemmas.List.Elements.{All-cons, All-nil}
use Rattle.net_base.specs.declared.plan.Plan.{Plan}
use Rattle.net_base.specs.declared.plan.edge_plan.EdgePlan.{EdgePlan}
use Rattle.net_base.specs.declared.plan.circuit_plan.CircuitPlan.{CircuitPlan}
use Rattle.net_base.specs.declared.plan.offer.Offer.{Offer}
use Rattle.net_base.specs.declared.plan.places.CircuitId.{CircuitId}
use Rattle.net_base.specs.declared.plan.places.EdgeId.{EdgeId}
use Rattle.net_base.specs.declared.plan.places.ServiceId.{ServiceId}
use Rattle.net_base.specs.declared.plan.wire_plan.WirePlan.{WirePlan}
use Rattle.net_base.specs.declared.plan.wire_plan.Class.{Class}
use Rattle.net_base.specs.declared.plan.wire_plan.Class.TheVariants.{Mesh, Spoke}
use Rattle.net_base.specs.declared.trace.event.Event.{Event}
use Rattle.net_base.specs.declared.trace.event.Event.TheVariants.{Arrive, Connect, Frame}
use Rattle.net_base.specs.plan.Planned.{IsEventOf}
use Rattle.net_base.proofs.AcceptedLemmas.{checked}
use Rattle.net_values.specs.Label.{IsLabel}
use Rattle.net_values.specs.declared.addr.Addr.{Addr}
use Rattle.ldp_grammar.specs.declared.message.Message.{Message}
use Rattle.ldp_grammar.specs.declared.message.Message.TheVariants.{Initialization, KeepAlive}
use Rattle.ldp_grammar.proofs.WrittenOctets.{no_octets}
use Rattle.pw_signalling.specs.declared.told.Told.{Told}
use Rattle.pw_signalling.specs.Down.{down}
use Rattle.session_core.specs.Laws.{IsAddress}
use Rattle.session_core.specs.Parameters.{proposal}
use Rattle.pw_messages.specs.Content.{content_of, mac_withdrawal, mapping, status_notification}
use Rattle.edge_model.specs.Put.{with_spoken}
use Rattle.edge_model.specs.State.{with_addresses, with_chosen, with_end, with_ends_beside, with_next_label, with_peering, with_priority, with_told_down, with_kept}
use Rattle.edge_model.specs.Work.{changes, gives, idles, posts, puts}
use Rattle.network_model.specs.Calm.{is_calm}
use Rattle.network_model.specs.State.{NetworkState, empty_network, with_edge, with_frame, with_packet, with_pipe, without_packet}
use Rattle.flight_laws.specs.Ends.{AreFieldOffers, IsFieldOffer}
use Rattle.flight_laws.specs.Laws.{IsRun, network_after}
use Rattle.flight_laws.proofs.WholeMessageLemmas.{IsReadable, Moment, Happens, Hears, StandAll, after_is, are_right, are_within, events_of, stand-append, stand_each, stays_away, told_after}

abbrev pub address : ℕ → Addr
address last = record { 0 = 10 ∷ 0 ∷ 0 ∷ last ∷ [] }

abbrev pub an_edge : List ℕ → ℕ → EdgePlan
an_edge name last = record { name = name; address = address last; first_label = 16; keepalive = 180; max_pdu = 4096 }

abbrev pub an_offer : Offer
an_offer = record { tagged = false; cword = true; mtu = Some 1500; vlan = None; vccv = None; status = true; group = 0; description = [] }

abbrev pub a_wire : List ℕ → Class → ℕ → ℕ → ℕ → ℕ → WirePlan
a_wire name class from to pw_id priority = record {
  name = name;
  service = record { 0 = 0 };
  class = class;
  path = record { 0 = from } ∷ record { 0 = to } ∷ [];
  pw_id = pw_id;
  near = an_offer;
  far = an_offer;
  priority = priority;
}

abbrev pub a_circuit : List ℕ → ℕ → CircuitPlan
a_circuit name edge = record { name = name; edge = record { 0 = edge }; service = record { 0 = 0 }; tag = None }

abbrev pub triangle : Plan
triangle = record {
  edges = an_edge (codes "a") 1 ∷ an_edge (codes "b") 2 ∷ an_edge (codes "x") 3 ∷ [];
  services = record { name = codes "s"; mtu = 1500; age = 2 } ∷ [];
  circuits = a_circuit (codes "ca") 0 ∷ a_circuit (codes "cb") 1 ∷ a_circuit (codes "cx") 2 ∷ [];
  wires = a_wire (codes "ab") Mesh 0 1 100 0 ∷ a_wire (codes "xa") Spoke 2 0 200 10 ∷ a_wire (codes "xb") Spoke 2 1 201 20 ∷ [];
}

abbrev pub a : EdgeId
a = record { 0 = 0 }

abbrev pub b : EdgeId
b = record { 0 = 1 }

abbrev pub x : EdgeId
x = record { 0 = 2 }

-- the messages of this run
abbrev pub proposes : ℕ → ℕ → Message
proposes last other = Initialization 1 (proposal (record { me = address last; peer = address other; keepalive = 180; max_pdu = 4096 }))

abbrev pub told : ℕ → Told
told status = content_of an_offer (Some (record { 0 = status }))

abbrev pub maps : ℕ → ℕ → ℕ → Message
maps pw_id label status = mapping pw_id label (told status) 3

abbrev pub tells : ℕ → ℕ → ℕ → Message
tells id pw_id status = status_notification pw_id (record { 0 = status }) (told status) id

abbrev pub clears : ℕ → ℕ → Message
clears id pw_id = mac_withdrawal pw_id [] (told 0) id

abbrev pub says : ℕ → ℕ → List Message → Moment
says from to messages = Hears (record { 0 = from }) (record { 0 = to }) (address (from + 1)) messages

abbrev pub comes_up : List Moment
comes_up =
    Happens (Connect a b) ∷ Happens (Connect a x) ∷ Happens (Connect b x)
    ∷ says 1 0 (proposes 2 1 ∷ [])
    ∷ says 0 1 (proposes 1 2 ∷ KeepAlive 2 ∷ [])
    ∷ says 1 0 (KeepAlive 2 ∷ maps 100 16 0 ∷ [])
    ∷ says 0 1 (maps 100 16 0 ∷ [])
    ∷ says 2 0 (proposes 3 1 ∷ [])
    ∷ says 0 2 (proposes 1 3 ∷ KeepAlive 2 ∷ [])
    ∷ says 2 0 (KeepAlive 2 ∷ maps 200 16 32 ∷ [])
    ∷ says 0 2 (maps 200 17 0 ∷ [])
    ∷ says 2 0 (tells 4 200 0 ∷ clears 5 200 ∷ [])
    ∷ says 0 1 (clears 4 100 ∷ [])
    ∷ says 2 1 (proposes 3 2 ∷ [])
    ∷ says 1 2 (proposes 2 3 ∷ KeepAlive 2 ∷ [])
    ∷ says 2 1 (KeepAlive 2 ∷ maps 201 17 32 ∷ [])
    ∷ says 1 2 (maps 201 17 0 ∷ []) ∷ []

abbrev pub one_service : ServiceId
one_service = record { 0 = 0 }

-- each message can be written, and so is read
pub proposal_is : (last other : ℕ) → IsReadable (proposes last other)
proposal_is last other = record {
  can = refl;
  fits = (omega arith, record { version = omega arith; keepalive = omega arith; limit = omega arith; max_pdu = omega arith; receiver = record { router = refl; space = omega arith } });
  short = refl;
}

pub alive_is : IsReadable (KeepAlive 2)
alive_is = record { can = refl; fits = omega arith; short = refl }

pub mapping_is : (pw_id label status : ℕ) → pw_id < 2 ^ 32 → IsLabel label → status < 2 ^ 32 → IsReadable (maps pw_id label status)
mapping_is pw_id label status some is small = record {
  can = refl;
  fits = (omega arith, record { group = omega arith; pw_id = some; mtu = omega arith; description = omega arith }, is, small, omega arith, tt);
  short = refl;
}

pub status_is : (id pw_id status : ℕ) → id < 2 ^ 32 → pw_id < 2 ^ 32 → status < 2 ^ 32 → IsReadable (tells id pw_id status)
status_is id pw_id status first some small = record {
  can = refl;
  fits = (first, omega arith, omega arith, small, record { group = omega arith; pw_id = some; mtu = tt; description = omega arith });
  short = refl;
}

pub clearing_is : (id pw_id : ℕ) → id < 2 ^ 32 → pw_id < 2 ^ 32 → IsReadable (clears id pw_id)
clearing_is id pw_id first some = record {
  can = refl;
  fits = (first, tt, record { group = omega arith; pw_id = some; mtu = tt; description = omega arith }, tt);
  short = refl;
}

pub comes_up_stands : StandAll comes_up
comes_up_stands = (
  tt,
  (
    tt,
    (
      tt,
      (
        stand_each (address 2) (proposes 2 1 ∷ []) refl refl (proposal_is 2 1, tt),
        (
          stand_each (address 1) (proposes 1 2 ∷ KeepAlive 2 ∷ []) refl refl (proposal_is 1 2, (alive_is, tt)),
          (
            stand_each (address 2) (KeepAlive 2 ∷ maps 100 16 0 ∷ []) refl refl (alive_is, (mapping_is 100 16 0 (omega arith) (omega arith) (omega arith), tt)),
            (
              stand_each (address 1) (maps 100 16 0 ∷ []) refl refl (mapping_is 100 16 0 (omega arith) (omega arith) (omega arith), tt),
              (
                stand_each (address 3) (proposes 3 1 ∷ []) refl refl (proposal_is 3 1, tt),
                (
                  stand_each (address 1) (proposes 1 3 ∷ KeepAlive 2 ∷ []) refl refl (proposal_is 1 3, (alive_is, tt)),
                  (
                    stand_each (address 3) (KeepAlive 2 ∷ maps 200 16 32 ∷ []) refl refl (alive_is, (mapping_is 200 16 32 (omega arith) (omega arith) (omega arith), tt)),
                    (
                      stand_each (address 1) (maps 200 17 0 ∷ []) refl refl (mapping_is 200 17 0 (omega arith) (omega arith) (omega arith), tt),
                      (
                        stand_each (address 3) (tells 4 200 0 ∷ clears 5 200 ∷ []) refl refl
                            (status_is 4 200 0 (omega arith) (omega arith) (omega arith), (clearing_is 5 200 (omega arith) (omega arith), tt)),
                        (
                          stand_each (address 1) (clears 4 100 ∷ []) refl refl (clearing_is 4 100 (omega arith) (omega arith), tt),
                          (
                            stand_each (address 3) (proposes 3 2 ∷ []) refl refl (proposal_is 3 2, tt),
                            (
                              stand_each (address 2) (proposes 2 3 ∷ KeepAlive 2 ∷ []) refl refl (proposal_is 2 3, (alive_is, tt)),
                              (
                                stand_each (address 3) (KeepAlive 2 ∷ maps 201 17 32 ∷ []) refl refl (alive_is, (mapping_is 201 17 32 (omega arith) (omega arith) (omega arith), tt)),
                                (
                                  stand_each (address 2) (maps 201 17 0 ∷ []) refl refl (mapping_is 201 17 0 (omega arith) (omega arith) (omega arith), tt),
                                  tt,
                                ),
                              ),
                            ),
                          ),
                        ),
                      ),
                    ),
                  ),
                ),
              ),
            ),
          ),
        ),
      ),
    ),
  ),
)

-- what opens for an evaluation
unfoldable pub evaluated : Unit {0}
unfolding changes down gives idles posts puts with_addresses with_chosen with_edge with_end with_ends_beside with_frame with_next_label with_packet with_peering with_pipe with_priority with_spoken with_told_down without_packet with_kept
evaluated = tt

-- the state that a run reaches, by its messages
abbrev pub reached : List Moment → NetworkState
reached moments = told_after triangle (empty_network triangle) moments

comes_up_right : are_right triangle (empty_network triangle) comes_up ≡ true
unfolding evaluated
comes_up_right = refl

pub is_up : network_after triangle (events_of comes_up) ≡ reached comes_up
is_up = after_is triangle (empty_network triangle) comes_up comes_up_stands comes_up_right

-- the service is then calm
pub calm_up : is_calm triangle (reached comes_up) one_service ≡ true
unfolding evaluated
calm_up = refl

pub is_calm_up : is_calm triangle (network_after triangle (events_of comes_up)) one_service ≡ true
is_calm_up = ap (λ (n : NetworkState). is_calm triangle n one_service) is_up ∙ calm_up

comes_up_within : are_within triangle 3 (empty_network triangle) comes_up ≡ true
unfolding evaluated
comes_up_within = refl

-- no other edge than those of the plan changes
pub away_up : (k : ℕ) → 3 ≤ k → (reached comes_up).edges k ≡ (empty_network triangle).edges k
away_up k beyond = stays_away triangle 3 k beyond comes_up (empty_network triangle) comes_up_within

-- ---- a broadcast floods over it

abbrev pub circuit : ℕ → CircuitId
circuit place = record { 0 = place }

-- from the station 2:0:0:0:0:1, at the spoke edge
abbrev pub broadcast : List ℕ
broadcast = 255 ∷ 255 ∷ 255 ∷ 255 ∷ 255 ∷ 255 ∷ 2 ∷ 0 ∷ 0 ∷ 0 ∷ 0 ∷ 1 ∷ 8 ∷ 0 ∷ []

abbrev pub floods : List Moment
floods = Happens (Frame (circuit 2) broadcast) ∷ Happens (Arrive 1) ∷ Happens (Arrive 2) ∷ []

flooded_right : are_right triangle (empty_network triangle) (comes_up ++ floods) ≡ true
unfolding evaluated
flooded_right = refl

pub floods_stands : StandAll (comes_up ++ floods)
floods_stands = stand-append comes_up floods comes_up_stands (tt, (tt, (tt, tt)))

pub is_flooded : network_after triangle (events_of (comes_up ++ floods)) ≡ reached (comes_up ++ floods)
is_flooded = after_is triangle (empty_network triangle) (comes_up ++ floods) floods_stands flooded_right

flooded_within : are_within triangle 3 (empty_network triangle) (comes_up ++ floods) ≡ true
unfolding evaluated
flooded_within = refl

pub away_flooded : (k : ℕ) → 3 ≤ k → (reached (comes_up ++ floods)).edges k ≡ (empty_network triangle).edges k
away_flooded k beyond = stays_away triangle 3 k beyond (comes_up ++ floods) (empty_network triangle) flooded_within

-- ---- the plan and events of it make a run

abbrev pub ArePlanned : List Event → Type 0
ArePlanned events = AllByRecursion (IsEventOf triangle) events

all_of : {X : Type 0} (P : X → Type 0) (xs : List X) → AllByRecursion P xs → All P xs
all_of P [] all = All-nil P
all_of P (x ∷ xs) all = All-cons P x xs all.0 (all_of P xs all.1)

pub is_run : (events : List Event) → ArePlanned events → IsRun triangle events
is_run events planned = record {
  checked = checked triangle (record { edges = omega arith; services = omega arith; circuits = omega arith; wires = omega arith }) refl;
  types = record {
    addresses = all_of (λ row. IsAddress row.address) triangle.edges (omega arith);
    offers = all_of AreFieldOffers triangle.wires (record { near = field; far = field }, (record { near = field; far = field }, (record { near = field; far = field }, tt)));
  };
  planned = all_of (IsEventOf triangle) events planned;
} where
  field : IsFieldOffer an_offer
  field = record { mtu = omega arith; group = omega arith; description = omega arith; octets = no_octets }
