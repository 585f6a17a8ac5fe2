-- A network whose edges hold Hello adjacencies (RFC 5036 section 2.4.2), as its history tells it.
use Rattle.std.specs.Prelude.{◌==◌, ◌-◌, ℕ, List, [], Bool, Option, Some, None, slice_get, if◌then◌else◌}
use Rattle.net_values.specs.declared.addr.Addr.{Addr}
use Rattle.net_base.specs.declared.plan.Plan.{Plan}
use Rattle.net_base.specs.declared.plan.places.EdgeId.{EdgeId}
use Rattle.net_base.specs.plan.Paths.{edge_address}
use Rattle.ldp_discovery.specs.Hellos.{hello_octets}
use Rattle.ldp_discovery.specs.Live.{Deed, live}
use Rattle.network_model.specs.State.{NetworkState, empty_network}

-- a Hello that an edge said to another one
pub record Hello : Type 0 where
  pub from : EdgeId
  pub to : EdgeId
  pub id : ℕ
  pub hold : ℕ

-- the network, what each edge has said, heard and counted (the last of it first), and the Hellos that were said, in order
pub record Discovery : Type 0 where
  pub network : NetworkState
  pub histories : ℕ → List Deed
  pub hellos : List Hello

-- before the first line
abbrev pub discovery_opened : Plan → Discovery
discovery_opened plan = record { network = empty_network plan; histories = λ k. []; hellos = [] }

-- an edge's adjacency with another one lives
abbrev pub adjacency_lives : Discovery → ℕ → ℕ → Bool
adjacency_lives d edge peer = live peer (d.histories edge)

-- the octets of a Hello
abbrev pub hello_octets_by : Option Addr → Hello → List ℕ
hello_octets_by None hello = []
hello_octets_by (Some address) hello = hello_octets address hello.id hello.hold

-- by the address of the edge that says it
abbrev pub octets_of_hello : Plan → Hello → List ℕ
octets_of_hello plan hello = hello_octets_by (edge_address plan hello.from) hello

-- the Hello of this number, counted from 1
abbrev pub hello_numbered : Discovery → ℕ → Option Hello
hello_numbered d number = if number == 0 then None else slice_get d.hellos (number - 1)
