-- What is on its way of labels that are withdrawn: their Label Withdraws, and the Label Releases that answer them (RFC 5036
-- sections 3.5.10 and 3.5.11).
use Rattle.std.specs.Prelude.{◌≡◌, ◌≢◌, ◌⊎◌, ℕ, true, false, List, Some, None}
use Rattle.net_base.specs.declared.plan.Plan.{Plan}
use Rattle.net_base.specs.declared.plan.places.WireId.{WireId}
use Rattle.net_base.specs.declared.plan.wire_plan.WirePlan.{WirePlan}
use Rattle.net_base.specs.declared.trace.event.Event.{Event}
use Rattle.net_base.specs.plan.Paths.{joins}
use Rattle.net_base.specs.plan.Places.{wire_row}
use Rattle.ldp_grammar.specs.declared.message.Message.{Message}
use Rattle.ldp_grammar.specs.declared.message.Message.TheVariants.{LabelRelease}
use Rattle.pw_signalling.specs.End.{LocalPart, Idle, Advertised, Withdrawing}
use Rattle.edge_model.specs.State.{EdgeState}
use Rattle.network_model.specs.State.{NetworkState}
use Rattle.flight_laws.specs.Bound.{has_advertised, is_release_of, is_withdrawal_of, some_message}
use Rattle.flight_laws.specs.Laws.{AreOnWay, BothStand, IsRun, network_after}
use Rattle.flight_laws.specs.Rules.{AllMessages}

-- of the label that an end of the wire with this PW ID withdraws, the Label Withdraw is on its way to the peer, or the Label
-- Release on its way back
abbrev pub AwaitsRelease : ℕ → LocalPart → (out back : List Message) → Type 0
AwaitsRelease pw_id (Idle declined) out back = Unit {0}
AwaitsRelease pw_id (Advertised label told) out back = Unit {0}
AwaitsRelease pw_id (Withdrawing label) out back = (some_message (is_withdrawal_of pw_id label) out ≡ true) ⊎ (some_message (is_release_of pw_id label) back ≡ true)

-- and so it is with each end that an edge has beside a peer
pub record AwaitsReleases (plan : Plan) (network : NetworkState) (a b : ℕ) : Type 0 where
  pub out : List Message
  pub back : List Message
  pub goes : AreOnWay plan network a b out
  pub comes : AreOnWay plan network b a back
  pub awaits : (wire : WireId) (row : WirePlan) → wire_row plan wire ≡ Some row → joins a b row.path ≡ true → AwaitsRelease row.pw_id ((network.edges a).ends wire.0 b).local out back

-- a Label Release names a label, and no end of its receiver advertises that label
abbrev pub NamesUnadvertised : EdgeState → Message → Type 0
NamesUnadvertised receiver (LabelRelease id fec None) = ⊥
NamesUnadvertised receiver (LabelRelease id fec (Some label)) = (wire peer : ℕ) → has_advertised (receiver.ends wire peer).local label ≡ false
NamesUnadvertised receiver message = Unit {0}

-- and so it is with each one on its way to an edge from a peer
pub record ReleasesUnadvertised (plan : Plan) (network : NetworkState) (a b : ℕ) : Type 0 where
  pub back : List Message
  pub comes : AreOnWay plan network b a back
  pub named : AllMessages (NamesUnadvertised (network.edges a)) back

-- no end that an edge has beside a peer was declined
pub record DeclinesNone (plan : Plan) (network : NetworkState) (a b : ℕ) : Type 0 where
  pub undeclined : (wire : WireId) (row : WirePlan) → wire_row plan wire ≡ Some row → joins a b row.path ≡ true → ((network.edges a).ends wire.0 b).local ≢ Idle true

-- ---- of each two ends that stand

abbrev pub AllDeclineNone : Plan → NetworkState → Type 0
AllDeclineNone plan network = (a b : ℕ) → BothStand network a b → DeclinesNone plan network a b

abbrev pub AllAwaitReleases : Plan → NetworkState → Type 0
AllAwaitReleases plan network = (a b : ℕ) → BothStand network a b → AwaitsReleases plan network a b

abbrev pub AllReleaseUnadvertised : Plan → NetworkState → Type 0
AllReleaseUnadvertised plan network = (a b : ℕ) → BothStand network a b → ReleasesUnadvertised plan network a b

-- ---- in every run

abbrev pub RunsAwaitReleases : Type 0
RunsAwaitReleases = (plan : Plan) (events : List Event) → IsRun plan events → AllAwaitReleases plan (network_after plan events)

-- no label is ever released that was not withdrawn (RFC 5036 section 3.5.11)
abbrev pub RunsDeclineNone : Type 0
RunsDeclineNone = (plan : Plan) (events : List Event) → IsRun plan events → AllDeclineNone plan (network_after plan events)

abbrev pub RunsReleaseUnadvertised : Type 0
RunsReleaseUnadvertised = (plan : Plan) (events : List Event) → IsRun plan events → AllReleaseUnadvertised plan (network_after plan events)
