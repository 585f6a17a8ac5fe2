-- The network with its adjacencies as contracts see it.
use Rattle.std.specs.Prelude.{◌≡◌, ◌<◌, ◌≤◌, ◌^◌, ◌++◌, List, Option, Some, Result, Ok, Err, length, map}
use Rattle.std.specs.List.{All}
use Rattle.net_base.specs.declared.plan.Plan.{Plan}
use Rattle.ldp_discovery.specs.Adjacencies.{AdjacencyLists}
use Rattle.ldp_discovery.specs.Histories.{AreAfter, AreEdgesOf}
use Rattle.psn_net.specs.declared.net_stop.NetStop.{NetStop}
use Rattle.psn_net.specs.declared.net_stop.NetStop.TheVariants.{Crowded, TooMuch, NoMemory}
use Rattle.psn_net.specs.Lists.{NetLists, network_seen}
use Rattle.discovery_script.specs.declared.placed_note.PlacedNote.{PlacedNote}
use Rattle.discovery_net.specs.declared.said_hello.SaidHello.{SaidHello}
use Rattle.discovery_net.specs.Acts.{Act, Course, course, course_of}
use Rattle.discovery_net.specs.Deeds.{Discovery, Hello, octets_of_hello}
use Rattle.discovery_net.specs.Lines.{Lapse, downs}

-- the network, what its edges keep of the others, and what was said and told
pub record DiscoveryLists : Type 0 where
  pub network : NetLists
  -- what each edge keeps of the others, by the plan's places
  pub adjacencies : List AdjacencyLists
  pub hellos : List SaidHello
  pub notes : List PlacedNote

-- both edges of a Hello stand in the plan
abbrev pub IsOfPlan : Plan → SaidHello → Type 0
IsOfPlan plan hello = (hello.from.0 < length plan.edges) × (hello.to.0 < length plan.edges)

-- what always holds of it
pub record IsDiscovery (n : DiscoveryLists) : Type 0 where
  pub edges : AreEdgesOf n.network.plan n.adjacencies
  pub hellos : All (IsOfPlan n.network.plan) n.hellos

-- its Message ID and its hold time fit their fields (RFC 5036 sections 3.5 and 3.5.2)
pub record IsHelloFit (hello : Hello) : Type 0 where
  pub id : hello.id < 2 ^ 32
  pub hold : hello.hold ≤ 65535

-- a Hello as it is kept
abbrev pub said_hello : Plan → Hello → SaidHello
said_hello plan hello = record { from = hello.from; to = hello.to; bytes = octets_of_hello plan hello }

-- it is this network with these histories
pub record IsAt (d : Discovery) (n : DiscoveryLists) : Type 0 where
  pub network : network_seen n.network ≡ d.network
  pub histories : AreAfter d.histories n.adjacencies
  pub hellos : n.hellos ≡ map (said_hello n.network.plan) d.hellos
  pub fit : All IsHelloFit d.hellos

-- what further acts come to from here on
abbrev pub course_on : DiscoveryLists → List Act → Course
course_on n acts = course n.network.plan (network_seen n.network) n.network.trace n.notes acts

-- it has done these acts
abbrev pub HasDoneActs : DiscoveryLists → DiscoveryLists → List Act → Type 0
HasDoneActs old now acts = (rest : List Act) → course_on now rest ≡ course_on old (acts ++ rest)

-- as the end of a course
abbrev pub ended_at : DiscoveryLists → Option NetStop → Course
ended_at n stop = course_of (network_seen n.network) n.network.trace n.notes stop

-- a limit stopped one of its events; where memory was refused nothing is said of it
abbrev pub HaltsAt : NetStop → DiscoveryLists → Course → Type 0
HaltsAt (Crowded count event) n end = ended_at n (Some (Crowded count event)) ≡ end
HaltsAt (TooMuch weight event) n end = ended_at n (Some (TooMuch weight event)) ≡ end
HaltsAt NoMemory n end = Unit {0}

-- in the middle of these acts, whatever comes behind them
abbrev pub HaltsIn : NetStop → DiscoveryLists → DiscoveryLists → List Act → Type 0
HaltsIn stop old now acts = (rest : List Act) → HaltsAt stop now (course_on old (acts ++ rest))

-- what comes of acts
abbrev pub Acts : {A : Type 0} → Result A NetStop → DiscoveryLists → DiscoveryLists → List Act → Type 0
Acts (Ok done) old now acts = HasDoneActs old now acts
Acts (Err stop) old now acts = HaltsIn stop old now acts

-- ---- adjacencies that end by a tick

-- those that are still to end, and what comes behind the tick
abbrev pub downs_on : DiscoveryLists → List Lapse → List Act → Course
downs_on n lapses rest = course_on n (downs n.network.plan (network_seen n.network) lapses ++ rest)

-- these were taken down, whatever comes behind them
abbrev pub Downs : {A : Type 0} → Result A NetStop → DiscoveryLists → DiscoveryLists → (List Lapse → List Lapse) → Type 0
Downs (Ok done) old now first = (behind : List Lapse) (rest : List Act) → downs_on now behind rest ≡ downs_on old (first behind) rest
Downs (Err stop) old now first = (behind : List Lapse) (rest : List Act) → HaltsAt stop now (downs_on old (first behind) rest)
