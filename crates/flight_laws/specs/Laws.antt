-- What holds of sessions in every run of a checked plan.
use Rattle.std.specs.Prelude.{◌≡◌, not, nat_eq, ℕ, true, false, List, [], Some, None}
use Rattle.std.specs.List.{All}
use Rattle.net_base.specs.declared.plan.Plan.{Plan}
use Rattle.net_base.specs.declared.plan.places.EdgeId.{EdgeId}
use Rattle.net_base.specs.declared.plan.places.ServiceId.{ServiceId}
use Rattle.net_base.specs.declared.plan.places.WireId.{WireId}
use Rattle.net_base.specs.declared.plan.wire_plan.WirePlan.{WirePlan}
use Rattle.net_base.specs.declared.trace.event.Event.{Event}
use Rattle.net_base.specs.declared.trace.event.Event.TheVariants.{Deliver}
use Rattle.net_base.specs.plan.Accepted.{IsChecked}
use Rattle.net_base.specs.plan.Paths.{joins}
use Rattle.net_base.specs.plan.Places.{wire_row}
use Rattle.net_base.specs.plan.Planned.{IsEventOf}
use Rattle.net_base.specs.plan.Roles.{are_joined_by}
use Rattle.pw_signalling.specs.End.{EndState}
use Rattle.network_model.specs.Calm.{is_quiet}
use Rattle.ldp_grammar.specs.declared.message.Message.{Message}
use Rattle.session_core.specs.Phase as phase
use Rattle.session_core.specs.State.{is_active}
use Rattle.edge_model.specs.State.{Peering}
use Rattle.network_model.specs.Run.{run, state_after}
use Rattle.network_model.specs.State.{NetworkState, empty_network, stands}
use Rattle.network_model.specs.Step.{step}
use Rattle.flight_laws.specs.Endings.{TellGoodEnds}
use Rattle.flight_laws.specs.Binding.{advertised_by, bound_after, is_idle, is_withdrawing}
use Rattle.flight_laws.specs.Ends.{HasTypes, ends_at}
use Rattle.flight_laws.specs.Facts.{flight}
use Rattle.flight_laws.specs.Flight.{is_row}
use Rattle.flight_laws.specs.Messages.{AreSaid, octets_of_all}
use Rattle.flight_laws.specs.Rules.{NamesGiven, OwnsItsLabels, TellsAsPlanned}

-- the state of the network after events
abbrev pub network_after : Plan → List Event → NetworkState
network_after plan events = state_after plan (empty_network plan) events

-- both ends of a connection stand
pub record BothStand (network : NetworkState) (a b : ℕ) : Type 0 where
  pub one : stands network a b ≡ true
  pub other : stands network b a ≡ true

-- The octets on their way in each direction, behind those that are held already, are those of whole messages that the two ends
-- say, each in a PDU of its own from its router with label space 0; and the session states of the active end `a` and of the
-- passive end `b`, with these messages, are a row of the table.
pub record HasRow (plan : Plan) (network : NetworkState) (a b : ℕ) : Type 0 where
  pub active : Peering
  pub passive : Peering
  pub active_is : (network.edges a).peering b ≡ Some active
  pub passive_is : (network.edges b).peering a ≡ Some passive
  pub out : List Message
  pub back : List Message
  pub out_is : flight network a b ≡ octets_of_all (ends_at plan a b).me out
  pub back_is : flight network b a ≡ octets_of_all (ends_at plan b a).me back
  pub said : AreSaid (ends_at plan a b) out
  pub answered : AreSaid (ends_at plan b a) back
  pub row : is_row active.session.phase passive.session.phase out back ≡ true

-- of two ends that stand one is active, the one with the larger address, and they are in a row of the table
pub record FollowsTable (plan : Plan) (network : NetworkState) (a b : ℕ) : Type 0 where
  pub one_active : is_active (ends_at plan b a) ≡ not (is_active (ends_at plan a b))
  pub in_row : is_active (ends_at plan a b) ≡ true → HasRow plan network a b

-- a plan without a fault, and events that speak of it
pub record IsRun (plan : Plan) (events : List Event) : Type 0 where
  pub checked : IsChecked plan
  pub types : HasTypes plan
  pub planned : All (IsEventOf plan) events

-- in every run, each two ends that stand are as the table of their states and flights says
abbrev pub RunsFollowTable : Type 0
RunsFollowTable = (plan : Plan) (events : List Event) → IsRun plan events → (a b : ℕ) → BothStand (network_after plan events) a b → FollowsTable plan (network_after plan events) a b

-- no end refuses what another one says
abbrev pub RunsEndWell : Type 0
RunsEndWell = (plan : Plan) (events : List Event) → IsRun plan events → TellGoodEnds (run plan events).entries

-- nothing is held or on its way between two ends that stand
pub record IsStillBetween (network : NetworkState) (a b : ℕ) : Type 0 where
  pub both : BothStand network a b
  pub out : flight network a b ≡ []
  pub back : flight network b a ≡ []

-- the session of an end is up
pub record IsUp (network : NetworkState) (a b : ℕ) : Type 0 where
  pub kept : Peering
  pub is : (network.edges a).peering b ≡ Some kept
  pub up : kept.session.phase ≡ phase.Operational

-- two ends between which nothing is held or on its way are both up
abbrev pub RunsComeUp : Type 0
RunsComeUp = (plan : Plan) (events : List Event) → IsRun plan events → (a b : ℕ) → IsStillBetween (network_after plan events) a b → IsUp (network_after plan events) a b × IsUp (network_after plan events) b a

-- deliveries end no connection: two ends that stand do so after each one
abbrev pub DeliveriesEndNone : Type 0
DeliveriesEndNone = (plan : Plan) (events : List Event) → IsRun plan events → (from to : EdgeId) (count a b : ℕ) → BothStand (network_after plan events) a b
    → BothStand (step plan (network_after plan events) (Deliver from to count)).state a b

-- ---- pseudowires

-- the messages on their way from an edge to a peer, behind those octets of them that the peer holds already
pub record AreOnWay (plan : Plan) (network : NetworkState) (from to : ℕ) (messages : List Message) : Type 0 where
  pub octets : flight network from to ≡ octets_of_all (ends_at plan from to).me messages
  pub said : AreSaid (ends_at plan from to) messages

-- Once `a` has heard the messages on their way to it, it holds of each wire between them exactly what `b` advertises now: its
-- label and content, or nothing.
pub record AgreesAfterFlight (plan : Plan) (network : NetworkState) (a b : ℕ) : Type 0 where
  pub messages : List Message
  pub on_way : AreOnWay plan network b a messages
  pub binds : (wire : WireId) (row : WirePlan) → wire_row plan wire ≡ Some row → joins a b row.path ≡ true
      → bound_after row.pw_id messages ((network.edges a).ends wire.0 b).remote ≡ advertised_by ((network.edges b).ends wire.0 a).local

-- in every run, once each has heard what is on its way to it
abbrev pub RunsAgreeAfterFlight : Type 0
RunsAgreeAfterFlight = (plan : Plan) (events : List Event) → IsRun plan events → (a b : ℕ) → BothStand (network_after plan events) a b → AgreesAfterFlight plan (network_after plan events) a b

-- both ends of a wire hold exactly what the other one advertises, and none waits for a release
pub record HasAgreed (one other : EndState) : Type 0 where
  pub near : one.remote ≡ advertised_by other.local
  pub far : other.remote ≡ advertised_by one.local
  pub one_waits_not : is_withdrawing one.local ≡ false
  pub other_waits_not : is_withdrawing other.local ≡ false

-- neither end of a wire tells or holds anything
pub record IsUnbound (one other : EndState) : Type 0 where
  pub one_idle : is_idle one.local ≡ true
  pub other_idle : is_idle other.local ≡ true
  pub near : one.remote ≡ None
  pub far : other.remote ≡ None

-- of each wire between two edges
abbrev pub OfWires : Plan → NetworkState → ℕ → ℕ → (EndState → EndState → Type 0) → Type 0
OfWires plan network a b P = (wire : WireId) (row : WirePlan) → wire_row plan wire ≡ Some row → joins a b row.path ≡ true → P ((network.edges a).ends wire.0 b) ((network.edges b).ends wire.0 a)

-- Two edges that a service joins, in a state in which it is quiet: where they have a connection both sessions are up and all
-- their wires have agreed; where they have none, all are unbound.
pub record AreSettled (plan : Plan) (network : NetworkState) (a b : ℕ) : Type 0 where
  pub up : BothStand network a b → IsUp network a b × (IsUp network b a × OfWires plan network a b HasAgreed)
  pub apart : stands network a b ≡ false → stands network b a ≡ false → OfWires plan network a b IsUnbound

-- in every run, in a service that is quiet
abbrev pub RunsSettle : Type 0
RunsSettle = (plan : Plan) (events : List Event) → IsRun plan events → (service : ServiceId) → is_quiet plan (network_after plan events) service ≡ true
    → (a b : ℕ) → are_joined_by plan service a b ≡ true → AreSettled plan (network_after plan events) a b

-- the labels that are named between two edges
pub record NamesLabels (plan : Plan) (network : NetworkState) (a b : ℕ) : Type 0 where
  pub messages : List Message
  pub on_way : AreOnWay plan network a b messages
  pub given : NamesGiven plan a b (network.edges a) (network.edges b) messages

-- wherever a label of an edge is named, it was given before, and whoever owns it is the end that it is named with
pub record KeepsLabelRule (plan : Plan) (network : NetworkState) : Type 0 where
  pub own : (a : ℕ) → OwnsItsLabels (network.edges a)
  pub named : (a b : ℕ) → nat_eq a b ≡ false → NamesLabels plan network a b

abbrev pub RunsKeepLabelRule : Type 0
RunsKeepLabelRule = (plan : Plan) (events : List Event) → IsRun plan events → KeepsLabelRule plan (network_after plan events)

-- the contents that are told by one edge to another one
pub record TellsContents (plan : Plan) (network : NetworkState) (a b : ℕ) : Type 0 where
  pub messages : List Message
  pub on_way : AreOnWay plan network a b messages
  pub planned : TellsAsPlanned plan a b (network.edges a) (network.edges b) messages

-- wherever a content is told, it is the one that the plan has the edge tell, but for its status
abbrev pub KeepsToldRule : Plan → NetworkState → Type 0
KeepsToldRule plan network = (a b : ℕ) → nat_eq a b ≡ false → TellsContents plan network a b

abbrev pub RunsKeepToldRule : Type 0
RunsKeepToldRule = (plan : Plan) (events : List Event) → IsRun plan events → KeepsToldRule plan (network_after plan events)
