-- What holds of the run of an accepted scenario.
use Rattle.std.specs.Prelude.{◌≡◌, ◌++◌, nat_eq, ℕ, true, false, List, Some}
use Rattle.std.specs.List.{AllByRecursion}
use Rattle.net_base.specs.declared.plan.Plan.{Plan}
use Rattle.net_base.specs.declared.plan.places.EdgeId.{EdgeId}
use Rattle.net_base.specs.declared.plan.places.ServiceId.{ServiceId}
use Rattle.net_base.specs.declared.plan.places.WireId.{WireId}
use Rattle.net_base.specs.declared.plan.wire_plan.WirePlan.{WirePlan}
use Rattle.net_base.specs.declared.trace.event.Event.{Event}
use Rattle.net_base.specs.declared.trace.event.Event.TheVariants.{Deliver}
use Rattle.net_base.specs.plan.Paths.{mate}
use Rattle.net_base.specs.plan.Places.{wire_row}
use Rattle.net_base.specs.plan.Roles.{are_joined_by}
use Rattle.net_base.specs.trace.Isolated.{Isolated}
use Rattle.net_base.specs.trace.Split.{Split}
use Rattle.network_model.specs.declared.packet.Packet.{Packet}
use Rattle.network_model.specs.Calm.{is_calm, is_quiet}
use Rattle.network_model.specs.KnownOnce.{KnownOnce}
use Rattle.network_model.specs.OnceEach.{OnceEach}
use Rattle.network_model.specs.Packet.{packet_at}
use Rattle.network_model.specs.Run.{run}
use Rattle.network_model.specs.State.{NetworkState}
use Rattle.network_model.specs.Step.{step}
use Rattle.flight_laws.specs.Across.{TakesAll, TellsAcross}
use Rattle.flight_laws.specs.Endings.{TellGoodEnds}
use Rattle.flight_laws.specs.Releases.{AllAwaitReleases, AllDeclineNone, AllReleaseUnadvertised}
use Rattle.packet_laws.specs.Apart.{IsNoFrame}
use Rattle.packet_laws.specs.Carried.{KeepsPacketRule}
use Rattle.packet_laws.specs.Channel.{SharesChannel}
use Rattle.flood_laws.specs.Laws.{IsWholeWhereCalm, TellsWhereQuiet}
use Rattle.flood_laws.specs.ReachedEach.{ReachedEach}
use Rattle.flood_laws.specs.Shares.{SharesEach}
use Rattle.flood_laws.specs.SharesReached.{SharesReachedEach}
use Rattle.address_laws.specs.Laws.{KnownAreReached, PointsLast}
use Rattle.move_laws.specs.Laws.{MovesHeal}
use Rattle.quiet_laws.specs.Laws.{RestsByMeasure}
use Rattle.report_laws.specs.Places.{IsEntryOf}
use Rattle.seen_network.specs.Calm.{is_seen_calm}
use Rattle.seen_network.specs.Once.{OnceSeen}
use Rattle.seen_network.specs.Seen.{seen_in}
use Rattle.settle_laws.specs.Laws.{CarriesWhereSound, ComesToCalm, IsCalmWhereSound, IsQuietAtRest, KeepsSound, KeepsSoundChoice}
use Rattle.spelling_laws.specs.Laws.{SpellPdus}
use Rattle.flight_laws.specs.Laws.{AgreesAfterFlight, AreSettled, BothStand, FollowsTable, IsStillBetween, IsUp, KeepsLabelRule, KeepsToldRule, network_after}
use Rattle.settle_bounds.specs.Bound.{HasBound}
use Rattle.vplsnet.specs.Settled.{SettlesAll, SettlesByBound, SettlesCalm}

-- something holds of each state on the way of a run: before each event, and after the last one
abbrev pub Throughout : (NetworkState → Type 0) → Plan → List Event → Type 0
Throughout Holds plan events = (before after : List Event) → events ≡ before ++ after → Holds (network_after plan before)

-- something holds of the events so far, at each moment of a run
abbrev pub AtEachMoment : (List Event → Type 0) → List Event → Type 0
AtEachMoment Holds events = (before after : List Event) → events ≡ before ++ after → Holds before

-- the session states of each two ends that stand go with what is on its way between them
abbrev pub FollowTable : Plan → NetworkState → Type 0
FollowTable plan network = (a b : ℕ) → BothStand network a b → FollowsTable plan network a b

-- once one of two ends that stand has heard what is on its way to it, it holds exactly what the other one advertises
abbrev pub AgreeAfterFlight : Plan → NetworkState → Type 0
AgreeAfterFlight plan network = (a b : ℕ) → BothStand network a b → AgreesAfterFlight plan network a b

-- where a service is quiet, each two edges that it joins have agreed on their wires, or have no connection and are unbound
abbrev pub AreSettledWhereQuiet : Plan → NetworkState → Type 0
AreSettledWhereQuiet plan network = (service : ServiceId) → is_quiet plan network service ≡ true → (a b : ℕ) → are_joined_by plan service a b ≡ true → AreSettled plan network a b

-- two ends that stand, and between which nothing is held or on its way, are both up
abbrev pub AreUpWhereStill : NetworkState → Type 0
AreUpWhereStill network = (a b : ℕ) → IsStillBetween network a b → IsUp network a b × IsUp network b a

-- each packet under way carries a frame that entered, in the service of its wire, or is a ping of its wire or the answer to one
abbrev pub CarryFrames : Plan → List Event → Type 0
CarryFrames plan events = (before after : List Event) → events ≡ before ++ after → KeepsPacketRule plan (network_after plan before) (run plan before).entries

-- each switching point of a wire tells either neighbour exactly what it holds of the other one
abbrev pub TellAcross : Plan → NetworkState → Type 0
TellAcross plan network = (me from to : EdgeId) (wire : WireId) (row : WirePlan) → wire_row plan wire ≡ Some row → mate row me.0 from.0 ≡ Some to → TellsAcross plan me from to wire row (network.edges me.0)

-- no Label Mapping that is on its way is refused
abbrev pub TakeMappings : Plan → NetworkState → Type 0
TakeMappings plan network = (from to : ℕ) → nat_eq from to ≡ false → TakesAll plan network from to

-- whatever packet under way belongs to no frame, no bridge hears it, and it stays on its wire
abbrev pub KeepEchoesApart : Plan → NetworkState → Type 0
KeepEchoesApart plan network = (number : ℕ) (packet : Packet) → packet_at network number ≡ Some packet → packet.origin ≡ 0 → IsNoFrame plan network packet

-- deliveries end no connection: two ends that stand do so after each one
abbrev pub StandThroughDeliveries : Plan → NetworkState → Type 0
StandThroughDeliveries plan network = (from to : EdgeId) (count a b : ℕ) → BothStand network a b → BothStand (step plan network (Deliver from to count)).state a b

-- a service is seen calm in what is told exactly where it is calm
abbrev pub ShowsCalm : Plan → List Event → Type 0
ShowsCalm plan events = (service : ServiceId) → is_seen_calm plan (seen_in (run plan events).entries) service ≡ is_calm plan (network_after plan events) service

-- what holds of every run of a scenario
pub record KeepsPromises (plan : Plan) (events : List Event) : Type 0 where
  -- customers stay apart, over wires too
  pub isolated : Isolated plan (run plan events).entries
  -- split horizon: what came by a mesh wire is sent on no mesh wire
  pub split : Split plan (run plan events).entries
  -- whatever befell it and the network since it was sent, each packet under way carries the inner frame of a frame that entered
  -- in the service of its wire, or is a ping of that wire or the answer to one, in the control channel that both terminal edges pick;
  -- and whoever owns its label where it goes is the end of that wire; a label that is kept there waits for the sender, or has rested for
  -- no longer than the packet is old, and is not free
  pub packets : CarryFrames plan events
  -- a ping and the answer to one are never taken for a frame where they arrive
  pub echoes : Throughout (KeepEchoesApart plan) plan events
  -- and the two terminal edges of a wire pick one control channel for them, where both ends are bound and use a control word alike
  pub channels : Throughout (SharesChannel plan) plan events
  -- each flooded frame reaches each site once, within twelve segments
  pub once : OnceEach 12 plan events
  -- and at each moment before that each other site was served, or is ahead of one copy under way, which has passed four segments at
  -- most for each wire before its own, and there one more than switching points
  pub shared : SharesEach plan events
  -- in a service that is quiet, be it calm or not, each flooded frame leaves once at each circuit to which wires that carry frames lead, and
  -- at no other one
  pub reached : ReachedEach 12 plan events
  -- and at each moment before that each of these circuits was served, or has to be served by one copy under way
  pub left : SharesReachedEach plan events
  -- each frame to a known station leaves by one port at most
  pub known : KnownOnce plan events
  -- learned addresses that point to the sites of their stations keep to it as frames and packets come
  pub points : PointsLast plan events
  -- and each frame to a station then reaches its site once, and no other one more than once, within twelve segments
  pub stations : KnownAreReached 12 plan events
  -- once a spoke edge has moved to another spoke and no octet is on its way any more, they point to the sites again
  pub moves : MovesHeal plan events
  -- sessions understand each other, and come up where everything was heard
  pub table : Throughout (FollowTable plan) plan events
  pub up : Throughout AreUpWhereStill plan events
  -- both ends of a wire come to know exactly what the other one advertises
  pub agree : Throughout (AgreeAfterFlight plan) plan events
  -- of each label that an end withdraws the Label Withdraw is on its way, or the Label Release on its way back
  pub awaited : Throughout (AllAwaitReleases plan) plan events
  -- and no Label Release on its way names a label that its receiver advertises
  pub released : Throughout (AllReleaseUnadvertised plan) plan events
  -- no end is declined: no edge releases a label that was not withdrawn
  pub declined : Throughout (AllDeclineNone plan) plan events
  pub settled : Throughout (AreSettledWhereQuiet plan) plan events
  -- a switching point tells on one side exactly what it holds on the other, and takes whatever is told to it; where all is heard, what is
  -- told along a wire is one chain from its terminal edges, and in a calm service a wire whose first end forwards is whole
  pub across : Throughout (TellAcross plan) plan events
  pub taken : Throughout (TakeMappings plan) plan events
  pub chains : Throughout (TellsWhereQuiet plan) plan events
  pub whole : Throughout (IsWholeWhereCalm plan) plan events
  -- what was signalled decides nothing of what signalling comes to: where a service is quiet a wire of it carries frames exactly where it is
  -- sound and used, and the service is calm exactly where it is sound, by the plan, the settings and the connections
  pub carries : Throughout (CarriesWhereSound plan) plan events
  pub calm : Throughout (IsCalmWhereSound plan) plan events
  -- deliveries end no connection and change nothing of what is sound and used; where no next one is left every service is quiet
  pub stand : Throughout (StandThroughDeliveries plan) plan events
  pub sound : AtEachMoment (KeepsSound plan) events
  pub used : AtEachMoment (KeepsSoundChoice plan) events
  pub rest : Throughout (IsQuietAtRest plan) plan events
  -- so, at each moment: let octets be delivered alone until no next delivery is left; then a service is calm exactly where it is sound now
  pub comes : AtEachMoment (ComesToCalm plan) events
  -- signalling comes to rest: no more deliveries follow each other, whichever they are and where nothing else is done, than a number that plan,
  -- sessions and what is on its way give; so as many next deliveries leave none, and a service calm exactly where it was sound
  pub rests : Throughout (RestsByMeasure plan) plan events
  pub settles : AtEachMoment (SettlesAll plan) events
  pub settles_calm : AtEachMoment (SettlesCalm plan) events
  -- and so do as many as a second number says, small enough to plan by
  pub bounded : Throughout (HasBound plan) plan events
  pub settles_by : AtEachMoment (SettlesByBound plan) events
  -- wherever a label is named it was given before, and whoever owns it is the end that it is named with; one that is kept waits for the
  -- neighbour of that end, and so neither rests nor is free
  pub labels : Throughout (KeepsLabelRule plan) plan events
  -- wherever a content is told it is the one that the plan has told there, but for its status
  pub contents : Throughout (KeepsToldRule plan) plan events
  -- no session ends because an edge refuses what another one says
  pub endings : TellGoodEnds (run plan events).entries
  -- and each thing that an edge says is one whole PDU of one message
  pub spelled : SpellPdus plan (run plan events).entries
  -- all that is told speaks of rows of the plan
  pub told : AllByRecursion (IsEntryOf plan) (run plan events).entries
  -- the entries alone show which services are calm, and that each frame which is seen to enter one and to be flooded there leaves once at each
  -- other site, within twelve segments
  pub seen_calm : AtEachMoment (ShowsCalm plan) events
  pub seen_once : OnceSeen 12 plan (run plan events).entries
