-- Connections and wires at work on a network of two edges that a wire joins. Each equation below is found by evaluation alone.
use Rattle.std.proofs.Common.{◌≡◌, ℕ, true, false, List, [], ◌∷◌, Some, None, refl}
use Rattle.std.specs.Prelude.{codes}
use Rattle.net_base.specs.declared.plan.Plan.{Plan}
use Rattle.net_base.specs.declared.plan.edge_plan.EdgePlan.{EdgePlan}
use Rattle.net_base.specs.declared.plan.offer.Offer.{Offer}
use Rattle.net_base.specs.declared.plan.places.EdgeId.{EdgeId}
use Rattle.net_base.specs.declared.plan.places.WireId.{WireId}
use Rattle.net_base.specs.declared.plan.wire_plan.WirePlan.{WirePlan}
use Rattle.net_base.specs.declared.plan.wire_plan.Class.TheVariants.{Mesh}
use Rattle.net_base.specs.declared.trace.entry.Entry.TheVariants.{Did, Idle, Said, Session}
use Rattle.net_base.specs.declared.trace.event.Event.TheVariants.{Connect, Deliver, Lose, Restart, Wire, Status}
use Rattle.net_base.specs.declared.trace.state_name.Reason.TheVariants as reason
use Rattle.net_base.specs.declared.trace.state_name.StateName.TheVariants as name
use Rattle.pw_signalling.specs.Down.{down}
use Rattle.edge_model.specs.Put.{with_spoken}
use Rattle.edge_model.specs.State.{with_addresses, with_bits, with_chosen, with_end, with_ends_beside, with_learned, with_next_label, with_peering, with_told_down, with_wire, without_ends, without_peerings, with_kept}
use Rattle.edge_model.specs.Work.{changes, gives, idles, puts}
use Rattle.network_model.specs.Delivery.{next_delivery}
use Rattle.network_model.specs.Run.{run}
use Rattle.network_model.specs.State.{NetworkState, empty_network, stands, with_edge, with_pipe, without_octets_to}
use Rattle.network_model.specs.Step.{step}

abbrev an_edge : ℕ → EdgePlan
an_edge last = record { name = codes "pe"; address = record { 0 = 10 ∷ 0 ∷ 0 ∷ last ∷ [] }; first_label = 16; keepalive = 180; max_pdu = 4096 }

abbrev an_offer : Offer
an_offer = record { tagged = false; cword = true; mtu = Some 1500; vlan = None; vccv = None; status = true; group = 0; description = [] }

abbrev a_wire : WirePlan
a_wire = record { name = codes "w"; service = record { 0 = 0 }; class = Mesh; path = record { 0 = 0 } ∷ record { 0 = 1 } ∷ []; pw_id = 100; near = an_offer; far = an_offer; priority = 0 }

abbrev plan : Plan
plan = record {
  edges = an_edge 1 ∷ an_edge 2 ∷ an_edge 3 ∷ [];
  services = record { name = codes "s"; mtu = 1500; age = 2 } ∷ [];
  circuits = [];
  wires = a_wire ∷ [];
}

-- the two edges; b is the active end, because its address is the larger
abbrev a : EdgeId
a = record { 0 = 0 }

abbrev b : EdgeId
b = record { 0 = 1 }

abbrev initialization_of_b : List ℕ
initialization_of_b = 0 ∷ 1 ∷ 0 ∷ 32 ∷ 10 ∷ 0 ∷ 0 ∷ 2 ∷ 0 ∷ 0 ∷ 2 ∷ 0 ∷ 0 ∷ 22 ∷ 0 ∷ 0 ∷ 0 ∷ 1 ∷ 5 ∷ 0 ∷ 0 ∷ 14 ∷ 0 ∷ 1 ∷ 0 ∷ 180 ∷ 0 ∷ 0 ∷ 16 ∷ 0 ∷ 10 ∷ 0 ∷ 0 ∷ 1 ∷ 0 ∷ 0 ∷ []

abbrev connected : NetworkState
connected = (step plan (empty_network plan) (Connect a b)).state

-- both ends stand before the active one speaks
connects : (step plan (empty_network plan) (Connect a b)).entries
    ≡ Did (Connect a b) ∷ Session a b name.Initialized ∷ Session b a name.Initialized ∷ Said b a initialization_of_b ∷ Session b a name.OpenSent ∷ []
unfolding changes down gives idles puts with_addresses with_chosen with_edge with_end with_ends_beside with_next_label with_peering with_pipe with_spoken with_told_down with_kept
connects = refl

-- whichever edge is named first
connects_back : (step plan (empty_network plan) (Connect b a)).entries
    ≡ Did (Connect b a) ∷ Session b a name.Initialized ∷ Said b a initialization_of_b ∷ Session b a name.OpenSent ∷ Session a b name.Initialized ∷ []
unfolding changes down gives idles puts with_addresses with_chosen with_edge with_end with_ends_beside with_next_label with_peering with_pipe with_spoken with_told_down with_kept
connects_back = refl

-- a connection that stands does not come up again, and edges that no wire joins have none
connects_once : (step plan connected (Connect b a)).entries ≡ Did (Connect b a) ∷ Idle ∷ []
unfolding changes down gives idles puts with_addresses with_chosen with_edge with_end with_ends_beside with_next_label with_peering with_pipe with_spoken with_told_down with_kept
connects_once = refl

connects_joined : (step plan (empty_network plan) (Connect a (record { 0 = 2 }))).entries ≡ Did (Connect a (record { 0 = 2 })) ∷ Idle ∷ []
unfolding changes down gives idles puts with_addresses with_chosen with_edge with_end with_ends_beside with_next_label with_peering with_pipe with_spoken with_told_down with_kept
connects_joined = refl

-- what b put is on its way to a, and so is delivered next
on_its_way : connected.pipes 1 0 ≡ initialization_of_b
unfolding changes down gives idles puts with_addresses with_chosen with_edge with_end with_ends_beside with_next_label with_peering with_pipe with_spoken with_told_down with_kept
on_its_way = refl

delivers_next : next_delivery plan connected ≡ Some (Deliver b a 65535)
unfolding changes down gives idles puts with_addresses with_chosen with_edge with_end with_ends_beside with_next_label with_peering with_pipe with_spoken with_told_down with_kept
delivers_next = refl

nothing_next : next_delivery plan (empty_network plan) ≡ None
nothing_next = refl

-- an end that is lost empties the pipe towards it; the other end hears of it once nothing is on its way
lost : (step plan connected (Lose a b)).entries ≡ Did (Lose a b) ∷ Session a b (name.Ended reason.Closed) ∷ []
unfolding changes down gives idles puts with_addresses with_chosen with_edge with_end with_ends_beside with_next_label with_peering with_pipe with_spoken with_told_down with_kept
lost = refl

lost_pipe : (step plan connected (Lose a b)).state.pipes 1 0 ≡ []
unfolding changes down gives idles puts with_addresses with_chosen with_edge with_end with_ends_beside with_next_label with_peering with_pipe with_spoken with_told_down with_kept
lost_pipe = refl

hears_of_it : (run plan (Connect a b ∷ Lose a b ∷ Deliver a b 1 ∷ Deliver a b 1 ∷ [])).entries
    ≡ Did (Connect a b) ∷ Session a b name.Initialized ∷ Session b a name.Initialized ∷ Said b a initialization_of_b ∷ Session b a name.OpenSent
    ∷ Did (Lose a b) ∷ Session a b (name.Ended reason.Closed)
    ∷ Did (Deliver a b 1) ∷ Session b a (name.Ended reason.Closed)
    ∷ Did (Deliver a b 1) ∷ Idle ∷ []
unfolding changes down gives idles puts with_addresses with_chosen with_edge with_end with_ends_beside with_next_label with_peering with_pipe with_spoken with_told_down with_kept
hears_of_it = refl

-- an edge that restarts tells nothing; no end of it stands, and nothing is on its way to it
restarts : (step plan connected (Restart a)).entries ≡ Did (Restart a) ∷ []
unfolding changes down gives idles puts with_addresses with_chosen with_edge with_end with_ends_beside with_learned with_next_label with_peering with_pipe with_spoken with_told_down without_ends without_octets_to without_peerings with_kept
restarts = refl

no_end_after : stands (step plan connected (Restart a)).state 0 1 ≡ false
unfolding changes down gives idles puts with_addresses with_chosen with_edge with_end with_ends_beside with_learned with_next_label with_peering with_pipe with_spoken with_told_down without_ends without_octets_to without_peerings with_kept
no_end_after = refl

no_octets_after : (step plan connected (Restart a)).state.pipes 1 0 ≡ []
unfolding changes down gives idles puts with_addresses with_chosen with_edge with_end with_ends_beside with_learned with_next_label with_peering with_pipe with_spoken with_told_down without_ends without_octets_to without_peerings with_kept
no_octets_after = refl

-- what the edge put itself stays on its way
own_octets_stay : (step plan connected (Restart b)).state.pipes 1 0 ≡ initialization_of_b
unfolding changes down gives idles puts with_addresses with_chosen with_edge with_end with_ends_beside with_learned with_next_label with_peering with_pipe with_spoken with_told_down without_ends without_octets_to without_peerings with_kept
own_octets_stay = refl

-- ---- a wire is put off at an edge that it passes, once

abbrev w : WireId
w = record { 0 = 0 }

puts_off : (step plan (empty_network plan) (Wire b w false)).entries ≡ Did (Wire b w false) ∷ []
unfolding changes down gives idles with_addresses with_chosen with_edge with_wire
puts_off = refl

puts_off_once : (run plan (Wire b w false ∷ Wire b w false ∷ [])).entries ≡ Did (Wire b w false) ∷ Did (Wire b w false) ∷ Idle ∷ []
unfolding changes down gives idles with_addresses with_chosen with_edge with_wire
puts_off_once = refl

puts_off_elsewhere : (step plan (empty_network plan) (Wire (record { 0 = 2 }) w false)).entries ≡ Did (Wire (record { 0 = 2 }) w false) ∷ Idle ∷ []
unfolding changes down gives idles with_addresses with_chosen with_edge with_wire
puts_off_elsewhere = refl

-- it is on at the other edge still
on_still : ((step plan (empty_network plan) (Wire b w false)).state.edges 0).wire_on 0 ≡ true
unfolding changes down gives idles with_addresses with_chosen with_edge with_wire
on_still = refl

-- the same failure bits are not set again
sets_bits_once : (run plan (Status a w 2 ∷ Status a w 2 ∷ Status b w 0 ∷ [])).entries ≡ Did (Status a w 2) ∷ Did (Status a w 2) ∷ Idle ∷ Did (Status b w 0) ∷ Idle ∷ []
unfolding changes down gives idles with_addresses with_bits with_chosen with_edge
sets_bits_once = refl
