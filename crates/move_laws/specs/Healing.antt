-- What holds of a network between a move to another spoke and the next calm state: each learned address points the right way, or what
-- clears it is on its way.
use Rattle.std.specs.Prelude.{◌≡◌, ◌++◌, ◌==◌, ◌&&◌, ◌||◌, ◌<◌, ◌^◌, ◌⊎◌, is_some, nat_eq, not, ℕ, Bool, true, false, List, Option, Some, None, filter, slice_get}
use Rattle.std.specs.List.{AllByRecursion}
use Rattle.net_base.specs.declared.plan.Plan.{Plan}
use Rattle.net_base.specs.declared.plan.places.EdgeId.{EdgeId}
use Rattle.net_base.specs.declared.plan.places.ServiceId.{ServiceId}
use Rattle.net_base.specs.declared.plan.places.WireId.{WireId}
use Rattle.net_base.specs.declared.plan.wire_plan.WirePlan.{WirePlan}
use Rattle.net_base.specs.plan.Paths.{edge_address, follows, is_first, is_last, joins, mate}
use Rattle.net_base.specs.plan.Places.{wire_row}
use Rattle.net_base.specs.plan.Roles.{are_joined_by, is_core_edge, is_mesh_of, is_spoke_from}
use Rattle.ldp_grammar.specs.declared.message.Message.{Message}
use Rattle.hvpls_spokes.specs.declared.port.Port.{Port}
use Rattle.hvpls_spokes.specs.declared.port.Port.TheVariants as port
use Rattle.hvpls_spokes.specs.Port.{ports_of}
use Rattle.mac_table.specs.declared.mac_entry.MacEntry.{MacEntry}
use Rattle.pw_signalling.specs.declared.binding.Binding.{Binding}
use Rattle.pw_signalling.specs.declared.told.Told.{Told}
use Rattle.pw_stitch.specs.Change.{is_same_but_status}
use Rattle.pw_stitch.specs.Passing.{own_point, past_point}
use Rattle.pw_signalling.specs.End.{LocalPart, Idle, Advertised, Withdrawing}
use Rattle.session_core.specs.Phase as phase
use Rattle.edge_model.specs.Ends.{end_forwards}
use Rattle.edge_model.specs.Labels.{label_to_give}
use Rattle.edge_model.specs.Mend.{is_up_with}
use Rattle.edge_model.specs.State.{EdgeState, Peering, put_at}
use Rattle.edge_model.specs.Work.{Work}
use Rattle.network_model.specs.Goal.{goal}
use Rattle.network_model.specs.Reach.{at_edge_of, far_of}
use Rattle.network_model.specs.State.{NetworkState, held, stands}
use Rattle.flight_laws.specs.Binding.{is_withdrawing}
use Rattle.flight_laws.specs.Ends.{ends_at}
use Rattle.flight_laws.specs.Facts.{flight}
use Rattle.flight_laws.specs.Meeting.{closes, said_to}
use Rattle.flight_laws.specs.Messages.{AreSaid, octets_of_all}
use Rattle.flight_laws.specs.Rules.{AllMessages}
use Rattle.flight_laws.specs.Sound.{TellsSoundly, point_limit}
use Rattle.address_laws.specs.Points.{PointsToSite}
use Rattle.address_laws.specs.Sites.{Sites}
use Rattle.move_laws.specs.Clearing.{IsCleared, IsMild, IsMildWay, IsOnward, come_unbound, is_bound_by, is_cleared_by, takes_clearing}

-- ---- the right way

-- a wire that leads from one of its terminal edges to the other one
pub record IsWireTo (plan : Plan) (a b : ℕ) (wire : WireId) : Type 0 where
  pub row : WirePlan
  pub is : wire_row plan wire ≡ Some row
  pub far : far_of a row.path ≡ Some b

-- the port of a core edge is right for what is behind this spoke to its home: it is the spoke, at home, or the mesh wire to the home.
-- Of a circuit nothing is said
abbrev pub LeadsHome : Plan → (core home : ℕ) → WireId → Option Port → Type 0
LeadsHome plan core home wire None = ⊥
LeadsHome plan core home wire (Some (port.Circuit at)) = Unit {0}
LeadsHome plan core home wire (Some (port.Mesh mesh)) = IsWireTo plan core home mesh
LeadsHome plan core home wire (Some (port.Spoke spoke)) = (core ≡ home) × (spoke ≡ wire)

-- a spoke of the service from its spoke edge to this core edge
pub record IsSpokeTo (plan : Plan) (service : ServiceId) (edge : ℕ) (wire : WireId) (home : ℕ) : Type 0 where
  pub row : WirePlan
  pub is : wire_row plan wire ≡ Some row
  pub from : is_spoke_from service edge row ≡ true
  pub to : is_last home row.path ≡ true

-- ---- right, or to be cleared

-- which withdrawals are on their way from an edge to another one, on a wire, which spokes never carry frames again, and which are whole
pub record Ways : Type 1 where
  pub way : (from to : ℕ) → WireId → WirePlan → Type 0
  pub dead : WireId → WirePlan → Type 0
  pub whole : (edge : ℕ) → WireId → Type 0

-- the port of a core edge is right for what is behind this spoke; or the withdrawal is on its way, on some segment of the spoke towards the
-- home, or on some segment of the mesh wire from the home towards the edge; or the spoke never carries frames again
pub data WillBeRight (plan : Plan) (service : ServiceId) (ways : Ways) (edge : ℕ) (wire : WireId) (row : WirePlan) (home core : ℕ) (p : ℕ) : Type 0 where
  IsRight : LeadsHome plan core home wire (slice_get (ports_of plan service (record { 0 = core })) p) → WillBeRight plan service ways edge wire row home core p
  BySpoke : (a b : EdgeId) → follows row.path a.0 b.0 ≡ true → ways.whole edge wire → ways.way a.0 b.0 wire row → WillBeRight plan service ways edge wire row home core p
  ByMesh : (mesh : WireId) (its : WirePlan) (a b : EdgeId) → wire_row plan mesh ≡ Some its → is_mesh_of service its ≡ true → far_of core its.path ≡ Some home
      → joins a.0 b.0 its.path ≡ true → (goal its.path a b).0 ≡ core → ways.way a.0 b.0 mesh its → WillBeRight plan service ways edge wire row home core p
  IsLost : ways.dead wire row → WillBeRight plan service ways edge wire row home core p

-- so it is with an entry of a core edge, whichever spoke the edge of its site has chosen
abbrev pub EntryHeals : Plan → ServiceId → Sites → (ℕ → Option WireId) → Ways → ℕ → MacEntry → Type 0
EntryHeals plan service site choices ways core entry = (edge : ℕ) (wire : WireId) (home : ℕ) (spoke : IsSpokeTo plan service edge wire home) → choices edge ≡ Some wire
    → at_edge_of plan service edge (site entry.address.0) ≡ true → WillBeRight plan service ways edge wire spoke.row home core entry.port

-- and with each one
abbrev pub EntriesHeal : Plan → ServiceId → Sites → (ℕ → Option WireId) → Ways → (ℕ → List MacEntry) → Type 0
EntriesHeal plan service site choices ways tables = (core : ℕ) → is_core_edge plan service core ≡ true → AllByRecursion (EntryHeals plan service site choices ways core) (tables core)

-- ---- ends that never tell again

-- an end tells nothing, and will not however much is heard: it was declined, its wire is off, its session is not up, or no label is left
abbrev pub stays_idle : EdgeState → ℕ → ℕ → LocalPart → Bool
stays_idle edge wire peer (Idle declined) = declined || (not (edge.wire_on wire && is_up_with (edge.peering peer)) || not (is_some (label_to_give edge)))
stays_idle edge wire peer (Advertised label told) = false
stays_idle edge wire peer (Withdrawing label) = false

abbrev pub is_stuck : EdgeState → ℕ → ℕ → Bool
is_stuck edge wire peer = stays_idle edge wire peer (edge.ends wire peer).local

-- a switching point of a spoke is stuck towards the end of its path
pub record IsDead (edges : ℕ → EdgeState) (wire : WireId) (row : WirePlan) : Type 0 where
  pub at : ℕ
  pub next : ℕ
  pub inner : is_first at row.path ≡ false
  pub follows_it : follows row.path at next ≡ true
  pub stuck : is_stuck (edges at) wire.0 next ≡ true

-- ---- the network

-- an end that advertises its label
abbrev pub is_advertising : LocalPart → Bool
is_advertising (Idle declined) = false
is_advertising (Advertised label told) = true
is_advertising (Withdrawing label) = false

-- a segment of a mesh wire of the service, or one of a spoke that is whole, on the way to its home
pub data IsSeen (plan : Plan) (service : ServiceId) (network : NetworkState) (a b : ℕ) (wire : WireId) (row : WirePlan) : Type 0 where
  OfMesh : is_mesh_of service row ≡ true → IsSeen plan service network a b wire row
  OfSpoke : IsOnward plan service network a b wire row → IsSeen plan service network a b wire row

-- a withdrawal is on its way between two edges that the service joins
pub record IsWithdrawalPending (plan : Plan) (service : ServiceId) (network : NetworkState) (a b : ℕ) (wire : WireId) (row : WirePlan) : Type 0 where
  pub seen : IsSeen plan service network a b wire row
  pub joined : are_joined_by plan service a b ≡ true
  pub there : stands network a b ≡ true
  pub cleared : IsCleared plan (network.edges b) a b wire row (flight network a b)

-- an end that tells a neighbour of its label or not, which is bound once it has heard these messages or not
pub record IsMet (pw_id : ℕ) (bound : Bool) (messages : List Message) (told : Bool) : Type 0 where
  pub agrees : is_bound_by pw_id bound messages ≡ told
  pub unbound : come_unbound pw_id bound messages ≡ true

-- an edge's session with another one is up, and messages on their way to it leave all as it is
pub record IsSteady (plan : Plan) (service : ServiceId) (network : NetworkState) (a b : ℕ) : Type 0 where
  pub up : is_up_with ((network.edges a).peering b) ≡ true
  pub way : IsMildWay plan service network a b (flight network a b)
  pub met : (wire : WireId) (row : WirePlan) → IsOnward plan service network a b wire row
      → IsMet row.pw_id (is_some ((network.edges b).ends wire.0 a).remote) way.messages (is_advertising ((network.edges a).ends wire.0 b).local)

-- what an end of a switching point has told is what the edge holds on the other side, but for the status (RFC 6073 section 7)
pub record StandsFor (plan : Plan) (row : WirePlan) (me from : EdgeId) (content : Told) (held : Option Binding) : Type 0 where
  pub binding : Binding
  pub is : held ≡ Some binding
  pub same : is_same_but_status content (past_point (own_point row.pw_id (edge_address plan me) (edge_address plan from)) binding.told) ≡ true

-- The edge's ends of the service's mesh wires advertise their labels and are on. Where a wire ends it has no failure bits, and where it
-- goes on what is told is what is held.
pub record KeepsMesh (plan : Plan) (service : ServiceId) (me : ℕ) (edge : EdgeState) : Type 0 where
  pub told : (wire : WireId) (row : WirePlan) (peer : ℕ) → wire_row plan wire ≡ Some row → is_mesh_of service row ≡ true → joins me peer row.path ≡ true
      → is_advertising (edge.ends wire.0 peer).local ≡ true
  pub on : (wire : WireId) (row : WirePlan) (peer : ℕ) → wire_row plan wire ≡ Some row → is_mesh_of service row ≡ true → joins me peer row.path ≡ true → edge.wire_on wire.0 ≡ true
  pub whole : (wire : WireId) (row : WirePlan) → wire_row plan wire ≡ Some row → is_mesh_of service row ≡ true → is_first me row.path || is_last me row.path ≡ true → edge.bits wire.0 ≡ 0
  pub across : (wire : WireId) (row : WirePlan) (from to : EdgeId) (label : ℕ) (content : Told) → wire_row plan wire ≡ Some row → is_mesh_of service row ≡ true → mate row me from.0 ≡ Some to
      → (edge.ends wire.0 to.0).local ≡ Advertised label content → StandsFor plan row (record { 0 = me }) from content (edge.ends wire.0 from.0).remote

-- Its ends of spokes that are whole, on the way to the home: none waits for a release, the wire is on where it advertises, and at a switching
-- point what is told is what is held.
pub record KeepsSpokes (plan : Plan) (service : ServiceId) (network : NetworkState) (me : EdgeId) (edge : EdgeState) : Type 0 where
  pub waits_not : (wire : WireId) (row : WirePlan) (next : ℕ) → IsOnward plan service network me.0 next wire row → is_withdrawing (edge.ends wire.0 next).local ≡ false
  pub whole : (wire : WireId) (row : WirePlan) (next : ℕ) → IsOnward plan service network me.0 next wire row → is_first me.0 row.path ≡ true → edge.bits wire.0 ≡ 0
  pub on : (wire : WireId) (row : WirePlan) (next : ℕ) → IsOnward plan service network me.0 next wire row → is_advertising (edge.ends wire.0 next).local ≡ true → edge.wire_on wire.0 ≡ true
  pub across : (wire : WireId) (row : WirePlan) (from to : EdgeId) (label : ℕ) (content : Told) → IsOnward plan service network me.0 to.0 wire row → mate row me.0 from.0 ≡ Some to
      → (edge.ends wire.0 to.0).local ≡ Advertised label content → StandsFor plan row me from content (edge.ends wire.0 from.0).remote

-- an edge that has mended: what it holds of such a spoke it tells the next edge, or never will
abbrev pub GoesOn : Plan → ServiceId → NetworkState → EdgeId → EdgeState → Type 0
GoesOn plan service network me edge = (wire : WireId) (row : WirePlan) (from to : EdgeId) → IsOnward plan service network me.0 to.0 wire row → mate row me.0 from.0 ≡ Some to
    → is_some (edge.ends wire.0 from.0).remote ≡ true → (is_advertising (edge.ends wire.0 to.0).local ≡ true) ⊎ (is_stuck edge wire.0 to.0 ≡ true)

-- an edge that goes on: failure bits stay, so do the bindings of all neighbours but one, and ends that never tell again
pub record Lasts (plan : Plan) (service : ServiceId) (me peer : ℕ) (old new : EdgeState) : Type 0 where
  pub bits : new.bits ≡ old.bits
  pub remotes : (wire k : ℕ) → nat_eq k peer ≡ false → (new.ends wire k).remote ≡ (old.ends wire k).remote
  pub stuck : (wire k : ℕ) → are_joined_by plan service me k ≡ true → is_stuck old wire k ≡ true → is_stuck new wire k ≡ true

-- an entry at a spoke is at one that forwards here
abbrev pub IsAtLive : Plan → ServiceId → ℕ → EdgeState → MacEntry → Type 0
IsAtLive plan service me edge entry = (wire : WireId) → slice_get (ports_of plan service (record { 0 = me })) entry.port ≡ Some (port.Spoke wire) → end_forwards plan edge wire ≡ true

-- the spoke that each edge has chosen for the service
abbrev pub chosen_in : ServiceId → NetworkState → ℕ → Option WireId
chosen_in service network edge = (network.edges edge).chosen service.0

-- what the bridge of the service has learned at each edge
abbrev pub learned_in : ServiceId → NetworkState → ℕ → List MacEntry
learned_in service network edge = (network.edges edge).learned service.0

abbrev pub ways_of : Plan → ServiceId → NetworkState → Ways
ways_of plan service network = record { way = IsWithdrawalPending plan service network; dead = IsDead network.edges; whole = λ edge wire. (network.edges edge).bits wire.0 ≡ 0 }

-- all of it: `calm` is the state from which addresses point to their sites
pub record Heals (plan : Plan) (service : ServiceId) (site : Sites) (calm network : NetworkState) : Type 0 where
  pub steady : (a b : ℕ) → are_joined_by plan service a b ≡ true → stands network a b ≡ true → IsSteady plan service network a b × IsSteady plan service network b a
  pub mesh : (a : ℕ) → KeepsMesh plan service a (network.edges a)
  pub spokes : (a : EdgeId) → KeepsSpokes plan service network a (network.edges a.0)
  pub right : EntriesHeal plan service site (chosen_in service network) (ways_of plan service network) (learned_in service network)
  pub table : (a : ℕ) → AllByRecursion (PointsToSite plan calm service site a) (learned_in service network a)

-- and each entry at a spoke is at one that forwards
pub record HealsLive (plan : Plan) (service : ServiceId) (site : Sites) (calm network : NetworkState) : Type 0 where
  pub heals : Heals plan service site calm network
  pub live : (a : ℕ) → AllByRecursion (IsAtLive plan service a (network.edges a)) (learned_in service network a)

-- some entries are left
pub record IsFiltered (old new : List MacEntry) : Type 0 where
  pub test : MacEntry → Bool
  pub is : new ≡ filter test old

-- ---- an edge at work in such a network, which still has to hear these messages of a peer

-- whether an end advertises to a neighbour
abbrev pub advertises_to : EdgeState → (place wire : ℕ) → Bool
advertises_to edge place wire = is_advertising (edge.ends wire place).local

-- its session with another edge is up, and what it has said there leaves all as it is, by the wires of which it tells the other one
pub record SpeaksMildly (plan : Plan) (service : ServiceId) (network : NetworkState) (me peer place : ℕ) (work : Work) (told : ℕ → Bool) : Type 0 where
  pub kept : Peering
  pub at : work.edge.peering place ≡ Some kept
  pub up : kept.session.phase ≡ phase.Operational
  pub peers : kept.session.peers ≡ ends_at plan me place
  pub numbered : kept.next_id < 2 ^ 32
  pub held_still : (place == peer) ≡ false → kept.held ≡ held network me place
  pub unclosed : closes place work.effects ≡ false
  pub messages : List Message
  pub is : said_to place work.effects ≡ octets_of_all (ends_at plan me place).me messages
  pub said : AreSaid (ends_at plan me place) messages
  pub mild : AllMessages (IsMild plan service network me place) messages
  pub met : (wire : WireId) (row : WirePlan) → IsOnward plan service network me place wire row
      → IsMet row.pw_id (is_advertising ((network.edges me).ends wire.0 place).local) messages (told wire.0)

-- an edge at work keeps the service as it was, but for what it forgets
pub record Stays (plan : Plan) (service : ServiceId) (network : NetworkState) (me : EdgeId) (peer : ℕ) (work : Work) : Type 0 where
  pub place : work.edge.me ≡ me
  pub sound : TellsSoundly (point_limit plan me.0) work.edge
  pub speaks : (place : ℕ) → are_joined_by plan service me.0 place ≡ true → stands network me.0 place ≡ true → SpeaksMildly plan service network me.0 peer place work (advertises_to work.edge place)
  -- where none stood, none stands
  pub apart : (place : ℕ) → are_joined_by plan service me.0 place ≡ true → stands network me.0 place ≡ false → work.edge.peering place ≡ None
  pub mesh : KeepsMesh plan service me.0 work.edge
  pub spokes : KeepsSpokes plan service network me work.edge
  pub lasts : Lasts plan service me.0 peer (network.edges me.0) work.edge
  pub table : IsFiltered (learned_in service network me.0) (work.edge.learned service.0)

-- which withdrawals are on their way meanwhile
pub data WorkWays (plan : Plan) (service : ServiceId) (network : NetworkState) (me peer : ℕ) (messages : List Message) (work : Work) (a b : ℕ) (wire : WireId) (row : WirePlan) : Type 0 where
  WasSaid : IsSeen plan service network a b wire row → a ≡ me → are_joined_by plan service me b ≡ true → stands network me b ≡ true
      → IsCleared plan (network.edges b) me b wire row (flight network me b ++ said_to b work.effects)
      → WorkWays plan service network me peer messages work a b wire row
  ToHear : IsSeen plan service network a b wire row → a ≡ peer → b ≡ me → are_joined_by plan service peer me ≡ true → stands network peer me ≡ true
      → is_cleared_by row.pw_id (takes_clearing work.edge row wire.0 peer me) messages ≡ true
      → WorkWays plan service network me peer messages work a b wire row
  Waits : (a == me) ≡ false → (a == peer && b == me) ≡ false → IsWithdrawalPending plan service network a b wire row → WorkWays plan service network me peer messages work a b wire row

abbrev pub work_ways : Plan → ServiceId → NetworkState → (me peer : ℕ) → List Message → Work → Ways
work_ways plan service network me peer messages work = record {
  way = WorkWays plan service network me peer messages work;
  dead = IsDead (put_at network.edges me work.edge);
  whole = λ edge wire. (network.edges edge).bits wire.0 ≡ 0;
}

-- an edge at work on messages: what it and the network have learned heals
pub record IsHealing (plan : Plan) (service : ServiceId) (site : Sites) (network : NetworkState) (me : EdgeId) (peer : ℕ) (messages : List Message) (work : Work) : Type 0 where
  pub stays : Stays plan service network me peer work
  pub right : EntriesHeal plan service site (put_at (chosen_in service network) me.0 (work.edge.chosen service.0)) (work_ways plan service network me.0 peer messages work)
      (put_at (learned_in service network) me.0 (work.edge.learned service.0))

-- the messages that the edge has still to hear leave all as it is, where the service joins it to the peer
pub record ToHearMildly (plan : Plan) (service : ServiceId) (network : NetworkState) (me peer : ℕ) (messages : List Message) : Type 0 where
  pub mild : are_joined_by plan service peer me ≡ true → stands network peer me ≡ true → AllMessages (IsMild plan service network peer me) messages

-- octets are those of these messages
pub record LeavesToHear (plan : Plan) (service : ServiceId) (network : NetworkState) (me peer : ℕ) (messages : List Message) (octets : List ℕ) : Type 0 where
  pub is : octets ≡ octets_of_all (ends_at plan peer me).me messages
  pub said : AreSaid (ends_at plan peer me) messages
  pub mild : ToHearMildly plan service network me peer messages

-- ---- a part of the work of an edge

-- more messages were said to a place
pub record SaysMore (plan : Plan) (me place : ℕ) (old new : Work) : Type 0 where
  pub more : List Message
  pub is : said_to place new.effects ≡ said_to place old.effects ++ octets_of_all (ends_at plan me place).me more
  pub said : AreSaid (ends_at plan me place) more

-- the edge goes on with its work
pub record StaysOn (plan : Plan) (service : ServiceId) (network : NetworkState) (me : EdgeId) (peer : ℕ) (old new : Work) : Type 0 where
  pub stays : Stays plan service network me peer new
  pub lasts : Lasts plan service me.0 peer old.edge new.edge
  pub says : (place : ℕ) → are_joined_by plan service me.0 place ≡ true → stands network me.0 place ≡ true → SaysMore plan me.0 place old new
  pub forgot : IsFiltered (old.edge.learned service.0) (new.edge.learned service.0)

-- a withdrawal was said to a place, or is on its way there already, and comes where it is taken
pub record WillTell (plan : Plan) (service : ServiceId) (network : NetworkState) (me place : ℕ) (wire : WireId) (row : WirePlan) (work : Work) : Type 0 where
  pub joined : are_joined_by plan service me place ≡ true
  pub there : stands network me place ≡ true
  pub cleared : IsCleared plan (network.edges place) me place wire row (flight network me place ++ said_to place work.effects)

-- from a spoke edge to the next edge of its spoke
pub record TellsNext (plan : Plan) (service : ServiceId) (network : NetworkState) (me : ℕ) (wire : WireId) (row : WirePlan) (work : Work) : Type 0 where
  pub next : EdgeId
  pub follows_it : follows row.path me next.0 ≡ true
  pub whole : (network.edges me).bits wire.0 ≡ 0
  pub tells : WillTell plan service network me next.0 wire row work

-- the spoke that the edge has chosen was chosen before, or the withdrawal was said
pub record TellsChoice (plan : Plan) (service : ServiceId) (network : NetworkState) (me : EdgeId) (old new : Work) : Type 0 where
  pub told : (wire : WireId) (home : ℕ) (spoke : IsSpokeTo plan service me.0 wire home) → new.edge.chosen service.0 ≡ Some wire
      → (old.edge.chosen service.0 ≡ Some wire) ⊎ TellsNext plan service network me.0 wire spoke.row new

-- what is on its way from the edge to places that the service joins to it
abbrev pub HasWays : Plan → ServiceId → NetworkState → EdgeId → Type 0
HasWays plan service network me = (place : ℕ) → are_joined_by plan service me.0 place ≡ true → stands network me.0 place ≡ true → IsSteady plan service network me.0 place
