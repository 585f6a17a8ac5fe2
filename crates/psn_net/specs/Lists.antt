-- The network as contracts see it: lists by the plan's places, and by `seen` maps.
use Rattle.std.specs.Prelude.{◌≡◌, ◌<◌, ◌≤◌, ◌++◌, ◌+◌, ◌∷◌, ℕ, Bool, List, [], Option, Some, None, option_map, length, slice_index_or, if◌then◌else◌}
use Rattle.net_base.specs.declared.plan.Plan.{Plan}
use Rattle.net_base.specs.declared.trace.entry.Entry.{Entry}
use Rattle.net_base.specs.plan.Accepted.{IsChecked}
use Rattle.edge_model.specs.declared.effects.Effects.{Effects}
use Rattle.edge_model.specs.Work.{Work}
use Rattle.network_model.specs.Absorb.{Stepped, absorb_all, all_entries_of, idle}
use Rattle.network_model.specs.declared.packet.Packet.{Packet}
use Rattle.network_model.specs.State.{NetworkState, with_copy, with_edge, with_frame}
use Rattle.net_base.specs.declared.plan.places.CircuitId.{CircuitId}
use Rattle.net_base.specs.declared.plan.places.EdgeId.{EdgeId}
use Rattle.net_base.specs.declared.plan.circuit_plan.CircuitPlan.{CircuitPlan}
use Rattle.net_base.specs.declared.trace.entry.Entry.TheVariants.{In}
use Rattle.edge_model.specs.State.{empty_edge}
use Rattle.provider_edge.specs.Lists.{EdgeLists}
use Rattle.provider_edge.specs.Lists as edge
use Rattle.psn_net.specs.Packets.{ArePacketsOf, UnderWay}
use Rattle.octet_pipes.specs.Pipes.{PipeLists}
use Rattle.octet_pipes.specs.Pipes as pipes

-- what a network holds, by the plan's places
pub record NetLists : Type 0 where
  pub plan : Plan
  pub edges : List EdgeLists
  pub pipes : PipeLists
  pub packets : UnderWay
  -- how many frames have entered
  pub entered : ℕ
  pub trace : List Entry
  -- memory was refused
  pub failed : Bool

-- an edge outside the plan
abbrev pub edge_outside : Plan → ℕ → EdgeLists
edge_outside plan k = edge.no_edge plan (record { 0 = k })

-- the edge at a place
abbrev pub edge_lists : NetLists → ℕ → EdgeLists
edge_lists n k = slice_index_or n.edges k (edge_outside n.plan k)

-- the state of the network that these lists are
unfoldable pub network_seen : NetLists → NetworkState
network_seen n = record {
  edges = λ k. edge.seen (edge_lists n k);
  pipes = pipes.pipes_of n.pipes;
  under_way = n.packets.list;
  sent = n.packets.last;
  entered = n.entered;
}

-- what always holds of a network
pub record IsNetwork (n : NetLists) : Type 0 where
  pub checked : IsChecked n.plan
  pub count : length n.edges ≡ length n.plan.edges
  pub square : n.pipes.size ≡ length n.plan.edges
  pub planned : (k : ℕ) → k < length n.edges → (edge_lists n k).plan ≡ n.plan
  pub placed : (k : ℕ) → (edge_lists n k).me ≡ record { 0 = k }
  pub packets : ArePacketsOf n.plan n.packets.last n.packets.list
  -- each packet that was sent and each frame that entered has an entry
  pub packets_told : n.packets.last ≤ length n.trace
  pub frames_told : n.entered ≤ length n.trace
  -- and each tick
  pub ticks_told : n.packets.ticks ≤ length n.trace

-- an event was told that may send packets and let a frame enter: their numbers stay below the number of entries
pub record HasRoom (n : NetLists) : Type 0 where
  pub packets : n.packets.last < length n.trace
  pub frames : n.entered < length n.trace

-- what no event changes
pub record KeepsNetwork (old now : NetLists) : Type 0 where
  pub plan : now.plan ≡ old.plan
  pub failed : now.failed ≡ old.failed

-- the network made a step
pub record HasStepped (old now : NetLists) (stepped : Stepped) : Type 0 where
  pub state : network_seen now ≡ stepped.state
  pub told : now.trace ≡ old.trace ++ stepped.entries

-- an edge of the network did this work
pub record HasDriven (me : EdgeId) (old now : NetLists) (work : Work) (effects : Effects) : Type 0 where
  pub state : network_seen now ≡ with_edge me work.edge (network_seen old)
  pub effects_are : effects.list ≡ work.effects
  pub idle_is : effects.idle ≡ work.idle
  pub told : now.trace ≡ old.trace

-- what an edge gave out goes into the network; where its input did not apply, that is told
abbrev pub answered : EdgeId → Effects → NetworkState → Stepped
answered me effects network =
    if effects.idle then idle network else (record { state = absorb_all me 0 0 effects.list network; entries = all_entries_of me 0 0 effects.list network })

-- an edge of the network did this work, which went into the network, or it was told that the input did not apply
pub record HasAnswered (me : EdgeId) (old now : NetLists) (work : Work) : Type 0 where
  pub mid : NetLists
  pub effects : Effects
  pub driven : HasDriven me old mid work effects
  pub step : HasStepped mid now (answered me effects (network_seen mid))

-- the edges of a plan, so many from the first on, before their first input
pub record AreOpen (plan : Plan) (count : ℕ) (edges : List EdgeLists) : Type 0 where
  pub len : length edges ≡ count
  pub planned : (k : ℕ) → k < count → (slice_index_or edges k (edge_outside plan k)).plan ≡ plan
  pub empty : (k : ℕ) → edge.seen (slice_index_or edges k (edge_outside plan k)) ≡ empty_edge plan (record { 0 = k })

-- a copy of a packet is under way, where there is one
abbrev pub copied : Option Packet → NetworkState → NetworkState
copied None network = network
copied (Some packet) network = with_copy packet network

-- a frame entered with the next number, and was told
pub record HasEntered (old now : NetLists) (circuit : CircuitId) (octets : List ℕ) (number : ℕ) : Type 0 where
  pub number_is : number ≡ (network_seen old).entered + 1
  pub state : network_seen now ≡ with_frame (network_seen old)
  pub told : now.trace ≡ old.trace ++ In circuit number octets ∷ []

-- the edge of a circuit's row
abbrev pub edge_of : Option CircuitPlan → Option EdgeId
edge_of row = option_map (λ circuit. circuit.edge) row
