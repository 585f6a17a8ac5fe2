-- Packets under way at work on a network of two edges that a wire joins. Each equation below is found by evaluation alone.
use Rattle.std.proofs.Common.{◌≡◌, ℕ, zero, suc, List, true, false, [], ◌∷◌, Some, None, refl}
use Rattle.std.specs.Prelude.{codes}
use Rattle.net_base.specs.declared.plan.Plan.{Plan}
use Rattle.net_base.specs.declared.plan.edge_plan.EdgePlan.{EdgePlan}
use Rattle.net_base.specs.declared.plan.offer.Offer.{Offer}
use Rattle.net_base.specs.declared.plan.places.EdgeId.{EdgeId}
use Rattle.net_base.specs.declared.plan.wire_plan.WirePlan.{WirePlan}
use Rattle.net_base.specs.declared.plan.wire_plan.Class.TheVariants.{Mesh}
use Rattle.net_base.specs.declared.trace.drop_cause.DropCause.TheVariants.{NoLabel}
use Rattle.net_base.specs.declared.trace.entry.Entry.TheVariants.{Aged, Copied, Did, Dropped, Idle}
use Rattle.net_base.specs.declared.trace.event.Event.{Event}
use Rattle.net_base.specs.declared.trace.event.Event.TheVariants.{Again, Arrive, Discard, Tick}
use Rattle.pw_signalling.specs.Down.{down}
use Rattle.edge_model.specs.State.{with_addresses, with_chosen, with_ends_beside, with_kept, with_learned, with_ticks}
use Rattle.edge_model.specs.Work.{changes, gives}
use Rattle.network_model.specs.declared.packet.Packet.{Packet}
use Rattle.network_model.specs.Packet.{next_arrival}
use Rattle.network_model.specs.Run.{entries_along, state_after}
use Rattle.network_model.specs.State.{NetworkState, empty_network, with_copy, with_edge, with_older, without_packet}
use Rattle.network_model.specs.Step.{step}

abbrev an_edge : ℕ → EdgePlan
an_edge last = record { name = codes "pe"; address = record { 0 = 10 ∷ 0 ∷ 0 ∷ last ∷ [] }; first_label = 16; keepalive = 180; max_pdu = 4096 }

abbrev an_offer : Offer
an_offer = record { tagged = false; cword = true; mtu = Some 1500; vlan = None; vccv = None; status = true; group = 0; description = [] }

abbrev a_wire : WirePlan
a_wire = record { name = codes "w"; service = record { 0 = 0 }; class = Mesh; path = record { 0 = 0 } ∷ record { 0 = 1 } ∷ []; pw_id = 100; near = an_offer; far = an_offer; priority = 0 }

abbrev plan : Plan
plan = record {
  edges = an_edge 1 ∷ an_edge 2 ∷ [];
  services = record { name = codes "s"; mtu = 1500; age = 2 } ∷ [];
  circuits = [];
  wires = a_wire ∷ [];
}

abbrev edge : ℕ → EdgeId
edge place = record { 0 = place }

-- a packet from the first edge to the second one, under a label that the second one has not given
abbrev a_packet : ℕ → ℕ → Packet
a_packet number origin = record { number = number; wire = record { 0 = 0 }; from = edge 0; to = edge 1; origin = origin; hops = 1; age = 0; bytes = 0 ∷ 1 ∷ 1 ∷ 255 ∷ 0 ∷ [] }

-- two frames have entered, and a packet of each is under way
abbrev network : NetworkState
network = record (empty_network plan) { under_way = a_packet 3 1 ∷ a_packet 5 2 ∷ []; sent = 5; entered = 2 }

-- the one with the lowest number arrives next
arrives_next : next_arrival network ≡ Some (Arrive 3)
arrives_next = refl

nothing_next : next_arrival (empty_network plan) ≡ None
nothing_next = refl

-- a packet reaches the edge that it goes to, which drops it, and is under way no more
arrives : (step plan network (Arrive 5)).entries ≡ Did (Arrive 5) ∷ Dropped (edge 1) 2 NoLabel ∷ []
unfolding gives with_edge without_packet
arrives = refl

has_arrived : (step plan network (Arrive 5)).state.under_way ≡ a_packet 3 1 ∷ []
unfolding gives with_edge without_packet
has_arrived = refl

-- a packet arrives once, and one that was not sent does not
arrives_once : entries_along plan network (Arrive 3 ∷ Arrive 3 ∷ Arrive 4 ∷ []) ≡ Did (Arrive 3) ∷ Dropped (edge 1) 1 NoLabel ∷ Did (Arrive 3) ∷ Idle ∷ Did (Arrive 4) ∷ Idle ∷ []
unfolding gives with_edge without_packet
arrives_once = refl

-- a packet that is lost reaches no edge
is_lost : entries_along plan network (Discard 3 ∷ Discard 3 ∷ Arrive 3 ∷ Again 3 ∷ []) ≡ Did (Discard 3) ∷ Did (Discard 3) ∷ Idle ∷ Did (Arrive 3) ∷ Idle ∷ Did (Again 3) ∷ Idle ∷ []
unfolding without_packet
is_lost = refl

-- a copy has the next number, and is told with the number of the packet that it repeats
repeats : (step plan network (Again 5)).entries ≡ Did (Again 5) ∷ Copied 6 5 ∷ []
unfolding with_copy
repeats = refl

-- it carries the same frame to the same edge, and both are under way
repeated : (step plan network (Again 5)).state.under_way ≡ a_packet 3 1 ∷ a_packet 5 2 ∷ a_packet 6 2 ∷ []
unfolding with_copy
repeated = refl

-- each of them arrives
both_arrive : entries_along plan network (Again 5 ∷ Arrive 6 ∷ Arrive 5 ∷ [])
    ≡ Did (Again 5) ∷ Copied 6 5 ∷ Did (Arrive 6) ∷ Dropped (edge 1) 2 NoLabel ∷ Did (Arrive 5) ∷ Dropped (edge 1) 2 NoLabel ∷ []
unfolding gives with_edge with_copy without_packet
both_arrive = refl

-- ---- ticks

-- a packet of an age
abbrev aged_packet : ℕ → ℕ → Packet
aged_packet number age = record (a_packet number 1) { age = age }

abbrev ticks : ℕ → List Event
ticks zero = []
ticks (suc n) = Tick ∷ ticks n

-- a tick makes each packet under way older
gets_older : (step plan network Tick).state.under_way ≡ record (a_packet 3 1) { age = 1 } ∷ record (a_packet 5 2) { age = 1 } ∷ []
unfolding changes down gives with_addresses with_chosen with_edge with_ends_beside with_kept with_learned with_older with_ticks
gets_older = refl

-- a copy is as old as the packet that it repeats
copies_age : (state_after plan network (Tick ∷ Again 5 ∷ Tick ∷ [])).under_way ≡ record (a_packet 3 1) { age = 2 } ∷ record (a_packet 5 2) { age = 2 } ∷ record (a_packet 6 2) { age = 2 } ∷ []
unfolding changes down gives with_addresses with_chosen with_copy with_edge with_ends_beside with_kept with_learned with_older with_ticks
copies_age = refl

-- with the 64th tick it is under way no more, and this is told before the edges tick
abbrev old_network : NetworkState
old_network = record network { under_way = aged_packet 3 62 ∷ aged_packet 4 63 ∷ aged_packet 5 63 ∷ [] }

goes_in_age : entries_along plan old_network (Tick ∷ Arrive 4 ∷ Arrive 3 ∷ []) ≡ Did Tick ∷ Aged 4 ∷ Aged 5 ∷ Did (Arrive 4) ∷ Idle ∷ Did (Arrive 3) ∷ Dropped (edge 1) 1 NoLabel ∷ []
unfolding changes down gives with_addresses with_chosen with_edge with_ends_beside with_kept with_learned with_older with_ticks without_packet
goes_in_age = refl

lives_63_ticks : (state_after plan network (ticks 63)).under_way ≡ record (a_packet 3 1) { age = 63 } ∷ record (a_packet 5 2) { age = 63 } ∷ []
unfolding changes down gives with_addresses with_chosen with_edge with_ends_beside with_kept with_learned with_older with_ticks
lives_63_ticks = refl
