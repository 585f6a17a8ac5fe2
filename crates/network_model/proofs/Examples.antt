-- The definitions at work on small networks: each equation below is found by evaluation alone.
use Rattle.std.proofs.Common.{◌≡◌, ℕ, true, false, List, [], ◌∷◌, Some, None, refl}
use Rattle.std.specs.Prelude.{codes}
use Rattle.net_base.specs.declared.plan.Plan.{Plan}
use Rattle.net_base.specs.declared.plan.edge_plan.EdgePlan.{EdgePlan}
use Rattle.net_base.specs.declared.plan.service_plan.ServicePlan.{ServicePlan}
use Rattle.net_base.specs.declared.plan.circuit_plan.CircuitPlan.{CircuitPlan}
use Rattle.net_base.specs.declared.trace.drop_cause.DropCause.TheVariants.{Short}
use Rattle.net_base.specs.declared.trace.entry.Entry.TheVariants.{Did, Idle, In, Left, Dropped}
use Rattle.net_base.specs.declared.trace.event.Event.TheVariants.{Tick, Frame, Circuit}
use Rattle.net_base.specs.declared.plan.places.CircuitId.{CircuitId}
use Rattle.net_base.specs.declared.plan.places.ServiceId.{ServiceId}
use Rattle.hvpls_spokes.specs.declared.port.Port.TheVariants as port
use Rattle.edge_model.specs.State.{with_addresses, with_chosen, with_circuit, with_ends_beside, with_learned, with_ticks, with_kept}
use Rattle.edge_model.specs.Work.{changes, gives, idles}
use Rattle.network_model.specs.State.{empty_network, with_edge, with_frame, with_older}
use Rattle.network_model.specs.Step.{step}
use Rattle.network_model.specs.Run.{run, state_after}
use Rattle.network_model.specs.Calm.{is_quiet, is_full, is_calm}
use Rattle.network_model.specs.KnownOnce.{known_to}
use Rattle.network_model.specs.Reach.{is_site, reach, ahead}
use Rattle.network_model.specs.Window.{Window, is_flooded_frame}

abbrev an_edge : ℕ → EdgePlan
an_edge last = record { name = codes "pe"; address = record { 0 = 10 ∷ 0 ∷ 0 ∷ last ∷ [] }; first_label = 16; keepalive = 180; max_pdu = 4096 }

abbrev a_service : ServicePlan
a_service = record { name = codes "s"; mtu = 1500; age = 2 }

abbrev a_circuit : ℕ → ℕ → CircuitPlan
a_circuit edge service = record { name = codes "c"; edge = record { 0 = edge }; service = record { 0 = service }; tag = None }

-- one edge with three circuits of one service and one of another
abbrev one_edge : Plan
one_edge = record {
  edges = an_edge 1 ∷ [];
  services = a_service ∷ a_service ∷ [];
  circuits = a_circuit 0 0 ∷ a_circuit 0 1 ∷ a_circuit 0 0 ∷ a_circuit 0 0 ∷ [];
  wires = [];
}

-- two edges, each with a circuit of one service, and no wire between them
abbrev two_edges : Plan
two_edges = record {
  edges = an_edge 1 ∷ an_edge 2 ∷ [];
  services = a_service ∷ [];
  circuits = a_circuit 0 0 ∷ a_circuit 1 0 ∷ [];
  wires = [];
}

abbrev circuit : ℕ → CircuitId
circuit place = record { 0 = place }

abbrev service : ℕ → ServiceId
service place = record { 0 = place }

-- a broadcast of 14 octets
abbrev broadcast : List ℕ
broadcast = 255 ∷ 255 ∷ 255 ∷ 255 ∷ 255 ∷ 255 ∷ 2 ∷ 0 ∷ 0 ∷ 0 ∷ 0 ∷ 1 ∷ 8 ∷ 0 ∷ []

-- it leaves at the other circuits of its service, in port order, and not at that of the other service
floods : (run one_edge (Frame (circuit 0) broadcast ∷ [])).entries
    ≡ Did (Frame (circuit 0) broadcast) ∷ In (circuit 0) 1 broadcast ∷ Left (circuit 2) 1 0 broadcast ∷ Left (circuit 3) 1 0 broadcast ∷ []
unfolding changes gives idles with_addresses with_chosen with_circuit with_edge with_ends_beside with_frame with_learned with_ticks with_kept
floods = refl

-- a circuit alone in its service has nowhere to send
alone : (run one_edge (Frame (circuit 1) broadcast ∷ [])).entries ≡ Did (Frame (circuit 1) broadcast) ∷ In (circuit 1) 1 broadcast ∷ []
unfolding changes gives idles with_addresses with_chosen with_circuit with_edge with_ends_beside with_frame with_learned with_ticks with_kept
alone = refl

-- a frame from station 2 to station 1
abbrev answer : List ℕ
answer = 2 ∷ 0 ∷ 0 ∷ 0 ∷ 0 ∷ 1 ∷ 2 ∷ 0 ∷ 0 ∷ 0 ∷ 0 ∷ 2 ∷ 8 ∷ 0 ∷ []

-- station 1 was heard at the first circuit, so a frame to it leaves there alone, and after two ticks is flooded
learns : (step one_edge (state_after one_edge (empty_network one_edge) (Frame (circuit 0) broadcast ∷ [])) (Frame (circuit 2) answer)).entries
    ≡ Did (Frame (circuit 2) answer) ∷ In (circuit 2) 2 answer ∷ Left (circuit 0) 2 0 answer ∷ []
unfolding changes gives idles with_addresses with_chosen with_circuit with_edge with_ends_beside with_frame with_learned with_ticks with_kept
learns = refl

forgets : (step one_edge (state_after one_edge (empty_network one_edge) (Frame (circuit 0) broadcast ∷ Tick ∷ Tick ∷ [])) (Frame (circuit 2) answer)).entries
    ≡ Did (Frame (circuit 2) answer) ∷ In (circuit 2) 2 answer ∷ Left (circuit 0) 2 0 answer ∷ Left (circuit 3) 2 0 answer ∷ []
unfolding changes gives idles with_addresses with_chosen with_circuit with_edge with_ends_beside with_frame with_learned with_ticks with_kept with_older
forgets = refl

remembers : (step one_edge (state_after one_edge (empty_network one_edge) (Frame (circuit 0) broadcast ∷ Tick ∷ [])) (Frame (circuit 2) answer)).entries
    ≡ Did (Frame (circuit 2) answer) ∷ In (circuit 2) 2 answer ∷ Left (circuit 0) 2 0 answer ∷ []
unfolding changes gives idles with_addresses with_chosen with_circuit with_edge with_ends_beside with_frame with_learned with_ticks with_kept with_older
remembers = refl

-- a circuit that is turned off loses its stations, and what enters there is idle
turned_off : (run one_edge (Frame (circuit 0) broadcast ∷ Circuit (circuit 0) false ∷ Circuit (circuit 0) false ∷ Frame (circuit 2) answer ∷ Frame (circuit 0) broadcast ∷ [])).entries
    ≡ Did (Frame (circuit 0) broadcast) ∷ In (circuit 0) 1 broadcast ∷ Left (circuit 2) 1 0 broadcast ∷ Left (circuit 3) 1 0 broadcast
    ∷ Did (Circuit (circuit 0) false)
    ∷ Did (Circuit (circuit 0) false) ∷ Idle
    ∷ Did (Frame (circuit 2) answer) ∷ In (circuit 2) 2 answer ∷ Left (circuit 3) 2 0 answer
    ∷ Did (Frame (circuit 0) broadcast) ∷ Idle ∷ []
unfolding changes gives idles with_addresses with_chosen with_circuit with_edge with_ends_beside with_frame with_learned with_ticks with_kept
turned_off = refl

-- a frame at a circuit that is off is idle, and has no number
off_is_idle : (run one_edge (Circuit (circuit 0) false ∷ Frame (circuit 0) broadcast ∷ Frame (circuit 1) broadcast ∷ [])).entries
    ≡ Did (Circuit (circuit 0) false) ∷ Did (Frame (circuit 0) broadcast) ∷ Idle ∷ Did (Frame (circuit 1) broadcast) ∷ In (circuit 1) 1 broadcast ∷ []
unfolding changes gives idles with_addresses with_chosen with_circuit with_edge with_ends_beside with_frame with_learned with_ticks with_kept
off_is_idle = refl

-- a tick tells nothing; each edge of the plan counts it, and no other place does
ticks_tell_nothing : (run two_edges (Tick ∷ Tick ∷ [])).entries ≡ Did Tick ∷ Did Tick ∷ []
unfolding changes gives idles with_addresses with_chosen with_circuit with_edge with_ends_beside with_frame with_learned with_ticks with_kept with_older
ticks_tell_nothing = refl

ticks_here : ((state_after two_edges (empty_network two_edges) (Tick ∷ Tick ∷ [])).edges 1).ticks ≡ 2
unfolding changes gives idles with_addresses with_chosen with_circuit with_edge with_ends_beside with_frame with_learned with_ticks with_kept with_older
ticks_here = refl

no_ticks_there : ((state_after two_edges (empty_network two_edges) (Tick ∷ Tick ∷ [])).edges 2).ticks ≡ 0
unfolding changes gives idles with_addresses with_chosen with_circuit with_edge with_ends_beside with_frame with_learned with_ticks with_kept with_older
no_ticks_there = refl

-- a frame that is too short is dropped at its edge
drops : (run one_edge (Frame (circuit 0) (255 ∷ []) ∷ [])).entries
    ≡ Did (Frame (circuit 0) (255 ∷ [])) ∷ In (circuit 0) 1 (255 ∷ []) ∷ Dropped (record { 0 = 0 }) 1 Short ∷ []
unfolding changes gives idles with_addresses with_chosen with_circuit with_edge with_ends_beside with_frame with_learned with_ticks with_kept
drops = refl

-- frames are numbered as they enter
numbered : (step one_edge (step one_edge (empty_network one_edge) (Frame (circuit 1) broadcast)).state (Frame (circuit 1) broadcast)).entries
    ≡ Did (Frame (circuit 1) broadcast) ∷ In (circuit 1) 2 broadcast ∷ []
unfolding changes gives idles with_addresses with_chosen with_circuit with_edge with_ends_beside with_frame with_learned with_ticks with_kept
numbered = refl

-- a service whose circuits are at one edge is calm; one with two core edges and no mesh wire is quiet and not full
calm_alone : is_calm one_edge (empty_network one_edge) (service 0) ≡ true
unfolding changes gives idles with_addresses with_chosen with_circuit with_edge with_ends_beside with_frame with_learned with_ticks with_kept
calm_alone = refl

quiet_apart : is_quiet two_edges (empty_network two_edges) (service 0) ≡ true
unfolding changes gives idles with_addresses with_chosen with_circuit with_edge with_ends_beside with_frame with_learned with_ticks with_kept
quiet_apart = refl

not_full_apart : is_full two_edges (empty_network two_edges) (service 0) ≡ false
unfolding changes gives idles with_addresses with_chosen with_circuit with_edge with_ends_beside with_frame with_learned with_ticks with_kept
not_full_apart = refl

-- sites, and what is behind and ahead of a circuit's port
site_here : is_site one_edge (empty_network one_edge) (service 0) (circuit 2) ≡ true
unfolding changes gives idles with_addresses with_chosen with_circuit with_edge with_ends_beside with_frame with_learned with_ticks with_kept
site_here = refl

no_site_there : is_site one_edge (empty_network one_edge) (service 0) (circuit 1) ≡ false
unfolding changes gives idles with_addresses with_chosen with_circuit with_edge with_ends_beside with_frame with_learned with_ticks with_kept
no_site_there = refl

reach_itself : reach one_edge (empty_network one_edge) (service 0) 0 (port.Circuit (circuit 2)) (circuit 2) ≡ true
unfolding changes gives idles with_addresses with_chosen with_circuit with_edge with_ends_beside with_frame with_learned with_ticks with_kept
reach_itself = refl

ahead_others : ahead one_edge (empty_network one_edge) (service 0) 0 (port.Circuit (circuit 2)) (circuit 3) ≡ true
unfolding changes gives idles with_addresses with_chosen with_circuit with_edge with_ends_beside with_frame with_learned with_ticks with_kept
ahead_others = refl

not_ahead_itself : ahead one_edge (empty_network one_edge) (service 0) 0 (port.Circuit (circuit 2)) (circuit 2) ≡ false
unfolding changes gives idles with_addresses with_chosen with_circuit with_edge with_ends_beside with_frame with_learned with_ticks with_kept
not_ahead_itself = refl

-- the premises of a window can be met
a_window : Window one_edge [] (circuit 0) broadcast (Frame (circuit 2) broadcast ∷ []) (service 0)
unfolding changes gives idles with_addresses with_chosen with_circuit with_edge with_ends_beside with_frame with_learned with_ticks with_kept
a_window = record { sender = refl; on = refl; frame = broadcast; formed = refl; calm = refl; flooded = refl; spared = refl; over = refl }

-- a station that no bridge has learned opens a window too; one that a frame of the window teaches does not, nor a
-- frame to its own source
a_window_of_a_station : Window one_edge [] (circuit 0) answer [] (service 0)
unfolding changes gives idles with_addresses with_chosen with_circuit with_edge with_ends_beside with_frame with_learned with_ticks with_kept
a_window_of_a_station = record { sender = refl; on = refl; frame = answer; formed = refl; calm = refl; flooded = refl; spared = refl; over = refl }

taught_meanwhile : is_flooded_frame one_edge (empty_network one_edge) (service 0) answer (Frame (circuit 0) answer ∷ Frame (circuit 2) broadcast ∷ []) ≡ false
unfolding changes gives idles with_addresses with_chosen with_circuit with_edge with_ends_beside with_frame with_learned with_ticks with_kept
taught_meanwhile = refl

own_source : is_flooded_frame one_edge (empty_network one_edge) (service 0) (2 ∷ 0 ∷ 0 ∷ 0 ∷ 0 ∷ 2 ∷ 2 ∷ 0 ∷ 0 ∷ 0 ∷ 0 ∷ 2 ∷ 8 ∷ 0 ∷ [])
    (Frame (circuit 0) (2 ∷ 0 ∷ 0 ∷ 0 ∷ 0 ∷ 2 ∷ 2 ∷ 0 ∷ 0 ∷ 0 ∷ 0 ∷ 2 ∷ 8 ∷ 0 ∷ []) ∷ []) ≡ false
unfolding changes gives idles with_addresses with_chosen with_circuit with_edge with_ends_beside with_frame with_learned with_ticks with_kept
own_source = refl

-- a frame at a circuit that is off teaches nothing
off_teaches_nothing : is_flooded_frame one_edge (state_after one_edge (empty_network one_edge) (Circuit (circuit 2) false ∷ [])) (service 0) answer
    (Frame (circuit 0) answer ∷ Frame (circuit 2) broadcast ∷ []) ≡ true
unfolding changes gives idles with_addresses with_chosen with_circuit with_edge with_ends_beside with_frame with_learned with_ticks with_kept
off_teaches_nothing = refl

-- once station 1 was heard, the bridge knows its port
knows : known_to one_edge (state_after one_edge (empty_network one_edge) (Frame (circuit 0) broadcast ∷ [])) (circuit 2) (a_circuit 0 0) answer ≡ Some 0
unfolding changes gives idles with_addresses with_chosen with_circuit with_edge with_ends_beside with_frame with_learned with_ticks with_kept
knows = refl

knows_not : known_to one_edge (empty_network one_edge) (circuit 2) (a_circuit 0 0) answer ≡ None
unfolding changes gives idles with_addresses with_chosen with_circuit with_edge with_ends_beside with_frame with_learned with_ticks with_kept
knows_not = refl
