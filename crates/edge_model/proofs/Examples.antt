-- The definitions at work at one edge: each equation below is found by evaluation alone.
use Rattle.std.proofs.Common.{◌≡◌, ℕ, true, false, List, [], ◌∷◌, Option, Some, None, refl}
use Rattle.std.specs.Prelude.{codes}
use Rattle.net_base.specs.declared.plan.Plan.{Plan}
use Rattle.net_base.specs.declared.plan.circuit_plan.CircuitPlan.{CircuitPlan}
use Rattle.net_base.specs.declared.plan.edge_plan.EdgePlan.{EdgePlan}
use Rattle.net_base.specs.declared.plan.places.CircuitId.{CircuitId}
use Rattle.net_base.specs.declared.plan.service_plan.ServicePlan.{ServicePlan}
use Rattle.net_base.specs.declared.trace.drop_cause.DropCause.TheVariants.{NoTag}
use Rattle.net_base.specs.plan.Places.{circuit_row}
use Rattle.pw_messages.specs.LinkAnswers.{Answers}
use Rattle.edge_model.specs.declared.effect.Effect.TheVariants.{Left, Dropped}
use Rattle.edge_model.specs.Circuit.{circuit_input}
use Rattle.edge_model.specs.Frame.{frame_input}
use Rattle.edge_model.specs.State.{EdgeState, empty_edge, with_addresses, with_chosen, with_circuit, with_ends_beside, with_learned, with_ticks, with_kept}
use Rattle.edge_model.specs.Tick.{tick_input}
use Rattle.edge_model.specs.Work.{Work, beginning, changes, gives, idles}

abbrev an_edge : ℕ → EdgePlan
an_edge last = record { name = codes "pe"; address = record { 0 = 10 ∷ 0 ∷ 0 ∷ last ∷ [] }; first_label = 16; keepalive = 180; max_pdu = 4096 }

abbrev a_service : ServicePlan
a_service = record { name = codes "s"; mtu = 1500; age = 2 }

abbrev a_circuit : ℕ → ℕ → Option ℕ → CircuitPlan
a_circuit edge service tag = record { name = codes "c"; edge = record { 0 = edge }; service = record { 0 = service }; tag = tag }

-- circuits 0, 2 and 3 are of one service at the first edge, the last of them with a tag; circuit 1 is of another service,
-- and circuit 4 at another edge
abbrev plan : Plan
plan = record {
  edges = an_edge 1 ∷ an_edge 2 ∷ [];
  services = a_service ∷ a_service ∷ [];
  circuits = a_circuit 0 0 None ∷ a_circuit 0 1 None ∷ a_circuit 0 0 None ∷ a_circuit 0 0 (Some 258) ∷ a_circuit 1 0 None ∷ [];
  wires = [];
}

abbrev circuit : ℕ → CircuitId
circuit place = record { 0 = place }

abbrev taken : Answers
taken k = true

-- the first edge, and what it makes of a frame, of a tick and of a circuit that is turned off
abbrev edge : EdgeState
edge = empty_edge plan (record { 0 = 0 })

abbrev on_frame : ℕ → List ℕ → EdgeState → Work
on_frame at octets edge = frame_input plan taken (circuit at) octets (circuit_row plan (circuit at)) (beginning edge [])

abbrev on_tick : EdgeState → Work
on_tick edge = tick_input plan taken (beginning edge [])

abbrev off : ℕ → EdgeState → Work
off at edge = circuit_input plan taken (circuit at) false (circuit_row plan (circuit at)) (beginning edge [])

-- a broadcast from station 1, and a frame from station 2 to station 1
abbrev broadcast : List ℕ
broadcast = 255 ∷ 255 ∷ 255 ∷ 255 ∷ 255 ∷ 255 ∷ 2 ∷ 0 ∷ 0 ∷ 0 ∷ 0 ∷ 1 ∷ 8 ∷ 0 ∷ []

abbrev answer : List ℕ
answer = 2 ∷ 0 ∷ 0 ∷ 0 ∷ 0 ∷ 1 ∷ 2 ∷ 0 ∷ 0 ∷ 0 ∷ 0 ∷ 2 ∷ 8 ∷ 0 ∷ []

-- both with tag 258
abbrev tagged : List ℕ
tagged = 255 ∷ 255 ∷ 255 ∷ 255 ∷ 255 ∷ 255 ∷ 2 ∷ 0 ∷ 0 ∷ 0 ∷ 0 ∷ 1 ∷ 129 ∷ 0 ∷ 1 ∷ 2 ∷ 8 ∷ 0 ∷ []

abbrev tagged_answer : List ℕ
tagged_answer = 2 ∷ 0 ∷ 0 ∷ 0 ∷ 0 ∷ 1 ∷ 2 ∷ 0 ∷ 0 ∷ 0 ∷ 0 ∷ 2 ∷ 129 ∷ 0 ∷ 1 ∷ 2 ∷ 8 ∷ 0 ∷ []

-- a broadcast leaves at the other circuits of its service, with their tags
floods : (on_frame 0 broadcast edge).effects ≡ Left (circuit 2) broadcast ∷ Left (circuit 3) tagged ∷ []
unfolding changes gives idles with_addresses with_chosen with_circuit with_ends_beside with_learned with_ticks with_kept
floods = refl

-- what comes with the tag of its circuit leaves without it
takes_the_tag : (on_frame 3 tagged edge).effects ≡ Left (circuit 0) broadcast ∷ Left (circuit 2) broadcast ∷ []
unfolding changes gives idles with_addresses with_chosen with_circuit with_ends_beside with_learned with_ticks with_kept
takes_the_tag = refl

-- and what comes without it is dropped, and teaches nothing
drops : (on_frame 3 broadcast edge).effects ≡ Dropped NoTag ∷ []
unfolding changes gives idles with_addresses with_chosen with_circuit with_ends_beside with_learned with_ticks with_kept
drops = refl

teaches_nothing : ((on_frame 3 broadcast edge).edge).learned 0 ≡ []
unfolding changes gives idles with_addresses with_chosen with_circuit with_ends_beside with_learned with_ticks with_kept
teaches_nothing = refl

-- a known station is served alone, until it is as old as the age limit
learns : (on_frame 2 answer (on_frame 0 broadcast edge).edge).effects ≡ Left (circuit 0) answer ∷ []
unfolding changes gives idles with_addresses with_chosen with_circuit with_ends_beside with_learned with_ticks with_kept
learns = refl

remembers : (on_frame 2 answer (on_tick (on_frame 0 broadcast edge).edge).edge).effects ≡ Left (circuit 0) answer ∷ []
unfolding changes gives idles with_addresses with_chosen with_circuit with_ends_beside with_learned with_ticks with_kept
remembers = refl

forgets : (on_frame 2 answer (on_tick (on_tick (on_frame 0 broadcast edge).edge).edge).edge).effects ≡ Left (circuit 0) answer ∷ Left (circuit 3) tagged_answer ∷ []
unfolding changes gives idles with_addresses with_chosen with_circuit with_ends_beside with_learned with_ticks with_kept
forgets = refl

-- a circuit that is turned off loses its stations, and nothing leaves there
turned_off : (on_frame 2 answer (off 0 (on_frame 0 broadcast edge).edge).edge).effects ≡ Left (circuit 3) tagged_answer ∷ []
unfolding changes gives idles with_addresses with_chosen with_circuit with_ends_beside with_learned with_ticks with_kept
turned_off = refl

-- a frame at a circuit that is off, at one of another edge, or at none, does not apply, nor does turning off twice
off_is_idle : (on_frame 0 broadcast (off 0 edge).edge).idle ≡ true
unfolding changes gives idles with_addresses with_chosen with_circuit with_ends_beside with_learned with_ticks with_kept
off_is_idle = refl

elsewhere_is_idle : (on_frame 4 broadcast edge).idle ≡ true
unfolding changes gives idles with_addresses with_chosen with_circuit with_ends_beside with_learned with_ticks with_kept
elsewhere_is_idle = refl

nowhere_is_idle : (on_frame 5 broadcast edge).idle ≡ true
unfolding changes gives idles with_addresses with_chosen with_circuit with_ends_beside with_learned with_ticks with_kept
nowhere_is_idle = refl

applies : (on_frame 0 broadcast edge).idle ≡ false
unfolding changes gives idles with_addresses with_chosen with_circuit with_ends_beside with_learned with_ticks with_kept
applies = refl

off_twice_is_idle : (off 0 (off 0 edge).edge).idle ≡ true
unfolding changes gives idles with_addresses with_chosen with_circuit with_ends_beside with_learned with_ticks with_kept
off_twice_is_idle = refl

off_elsewhere_is_idle : (off 4 edge).idle ≡ true
unfolding changes gives idles with_addresses with_chosen with_circuit with_ends_beside with_learned with_ticks with_kept
off_elsewhere_is_idle = refl
