-- How an edge takes an input.
use Rattle.std.specs.Prelude.{◌≡◌, ◌≤◌, ◌<◌, ℕ, true, length, List, Option, Some, None}
use Rattle.net_base.specs.declared.plan.Plan.{Plan}
use Rattle.hvpls_spokes.specs.declared.port.Port.{Port}
use Rattle.edge_model.specs.declared.effect.Effect.{Effect}
use Rattle.edge_model.specs.declared.input.Input.{Input}
use Rattle.edge_model.specs.declared.input.Input.TheVariants.{Connected, Octets, Lost, Restart, Tick, Frame, Packet, Wire, Circuit, Status, Priority, Ping}
use Rattle.edge_model.specs.Local.{AllStayBehind, AllStayBeside}
use Rattle.edge_model.specs.State.{EdgeState}
use Rattle.edge_model.specs.Synced.{InSync}
use Rattle.edge_model.specs.Work.{Work}
use Rattle.pw_ends.specs.Ends.{place_of}
use Rattle.provider_edge.specs.Lists.{EdgeLists, seen}

-- the bits of a status are five
abbrev pub IsInRange : Input → Type 0
IsInRange (Status wire bits) = bits ≤ 31
IsInRange input = Unit {0}

-- what is given out on a frame stays within the service of its circuit, and what is given out on a packet within that of its wire
abbrev pub StaysLocal : Plan → EdgeState → Input → List Effect → Type 0
StaysLocal plan edge (Frame circuit bytes) effects = AllStayBeside plan circuit bytes.now effects
StaysLocal plan edge (Packet bytes) effects = AllStayBehind plan edge bytes.now effects
StaysLocal plan edge (Connected peer) effects = Unit {0}
StaysLocal plan edge (Octets peer bytes) effects = Unit {0}
StaysLocal plan edge (Lost peer) effects = Unit {0}
StaysLocal plan edge Restart effects = Unit {0}
StaysLocal plan edge Tick effects = Unit {0}
StaysLocal plan edge (Wire wire on) effects = Unit {0}
StaysLocal plan edge (Circuit circuit on) effects = Unit {0}
StaysLocal plan edge (Status wire bits) effects = Unit {0}
StaysLocal plan edge (Priority wire priority) effects = Unit {0}
StaysLocal plan edge (Ping wire) effects = Unit {0}

-- the copy by a port, where there is one
abbrev pub copied_by : (Port → Work → Work) → Option Port → Work → Work
copied_by copy None work = work
copied_by copy (Some port) work = copy port work

-- a packet is taken at a terminal end by an edge at work, to which the states of its wires were told
pub record IsTerminalAt (edge : EdgeLists) (slot : ℕ) : Type 0 where
  pub working : edge.stopped ≡ true
  pub synced : InSync edge.plan (seen edge)
  pub within : slot < length edge.ends.places
  pub terminal : (place_of edge.ends slot).terminal ≡ true
