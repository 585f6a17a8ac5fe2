-- What signalling that has come to rest has decided, in every run of a checked plan: what carries frames, which services are calm, and
-- that the plan, the settings of the edges and the connections between them decide it, and not what was signalled.
use Rattle.std.specs.List.{All, list_all}
use Rattle.std.specs.Prelude.{◌≡◌, ◌++◌, ◌&&◌, is_some, ℕ, true, List, Some, None}
use Rattle.net_base.specs.declared.plan.Plan.{Plan}
use Rattle.net_base.specs.declared.plan.places.ServiceId.{ServiceId}
use Rattle.net_base.specs.declared.plan.places.WireId.{WireId}
use Rattle.net_base.specs.declared.plan.wire_plan.WirePlan.{WirePlan}
use Rattle.net_base.specs.declared.trace.event.Event.{Event}
use Rattle.net_base.specs.plan.Paths.{joins}
use Rattle.net_base.specs.plan.Places.{wire_row}
use Rattle.net_base.specs.plan.Planned.{IsEventOf}
use Rattle.net_base.specs.plan.Roles.{is_wire_of}
use Rattle.edge_model.specs.Labels.{label_to_give}
use Rattle.network_model.specs.Calm.{carries, is_calm, is_quiet}
use Rattle.network_model.specs.Delivery.{next_delivery}
use Rattle.network_model.specs.State.{NetworkState}
use Rattle.flight_laws.specs.Binding.{is_idle}
use Rattle.flight_laws.specs.Laws.{IsRun, network_after}
use Rattle.flood_laws.specs.Deliveries.{is_delivery}
use Rattle.settle_laws.specs.Sound.{is_sound, is_sound_service, is_used, sound_choice}

-- where the end of a wire at an edge, beside a peer, is idle, the edge has a label to give (RFC 3032 section 2.1)
abbrev pub HasLabel : NetworkState → WireId → (edge peer : ℕ) → Type 0
HasLabel network wire edge peer =
    is_idle ((network.edges edge).ends wire.0 peer).local ≡ true
    → is_some (label_to_give (network.edges edge)) ≡ true

-- no end of a service is idle for want of a label
abbrev pub HasLabels : Plan → NetworkState → ServiceId → Type 0
HasLabels plan network service =
    (wire : WireId) (row : WirePlan) → wire_row plan wire ≡ Some row → is_wire_of service row ≡ true → (edge peer : ℕ) → joins edge peer row.path ≡ true → HasLabel network wire edge peer

-- ---- where a service is quiet

-- a wire carries frames exactly where it is sound and used
abbrev pub CarriesWhereSound : Plan → NetworkState → Type 0
CarriesWhereSound plan network =
    (service : ServiceId) → HasLabels plan network service → is_quiet plan network service ≡ true → (wire : WireId) (row : WirePlan) → wire_row plan wire ≡ Some row → is_wire_of service row ≡ true
    → carries plan network wire.0 row ≡ (is_sound network wire.0 row && is_used plan network wire row)

-- each spoke edge has chosen the best of its sound spokes
abbrev pub ChoosesSound : Plan → NetworkState → Type 0
ChoosesSound plan network =
    (service : ServiceId) → HasLabels plan network service → is_quiet plan network service ≡ true → (edge : ℕ) → (network.edges edge).chosen service.0 ≡ sound_choice plan network service edge

-- the service is calm exactly where it is sound
abbrev pub IsCalmWhereSound : Plan → NetworkState → Type 0
IsCalmWhereSound plan network =
    (service : ServiceId) → HasLabels plan network service → is_quiet plan network service ≡ true → is_calm plan network service ≡ is_sound_service plan network service

-- in every run
abbrev pub RunsCarrySound : Type 0
RunsCarrySound = (plan : Plan) (events : List Event) → IsRun plan events → CarriesWhereSound plan (network_after plan events)

abbrev pub RunsChooseSound : Type 0
RunsChooseSound = (plan : Plan) (events : List Event) → IsRun plan events → ChoosesSound plan (network_after plan events)

abbrev pub RunsSettleCalm : Type 0
RunsSettleCalm = (plan : Plan) (events : List Event) → IsRun plan events → IsCalmWhereSound plan (network_after plan events)

-- ---- where nothing can be delivered any more

-- every service is quiet
abbrev pub IsQuietAtRest : Plan → NetworkState → Type 0
IsQuietAtRest plan network = next_delivery plan network ≡ None → (service : ServiceId) → is_quiet plan network service ≡ true

-- and calm exactly where it is sound
abbrev pub IsCalmAtRest : Plan → NetworkState → Type 0
IsCalmAtRest plan network = next_delivery plan network ≡ None → (service : ServiceId) → HasLabels plan network service → is_calm plan network service ≡ is_sound_service plan network service

-- in every run
abbrev pub RunsRestQuiet : Type 0
RunsRestQuiet = (plan : Plan) (events : List Event) → IsRun plan events → IsQuietAtRest plan (network_after plan events)

abbrev pub RunsRestCalm : Type 0
RunsRestCalm = (plan : Plan) (events : List Event) → IsRun plan events → IsCalmAtRest plan (network_after plan events)

-- ---- and before: whatever is delivered after these events, and nothing else done

-- a service is sound afterwards exactly where it was
abbrev pub KeepsSound : Plan → List Event → Type 0
KeepsSound plan events = (deliveries : List Event) → list_all is_delivery deliveries ≡ true → (service : ServiceId)
    → is_sound_service plan (network_after plan (events ++ deliveries)) service ≡ is_sound_service plan (network_after plan events) service

-- each spoke edge has the same best one among its sound spokes
abbrev pub KeepsSoundChoice : Plan → List Event → Type 0
KeepsSoundChoice plan events = (deliveries : List Event) → list_all is_delivery deliveries ≡ true → (service : ServiceId) (edge : ℕ)
    → sound_choice plan (network_after plan (events ++ deliveries)) service edge ≡ sound_choice plan (network_after plan events) service edge

-- and once nothing can be delivered any more a service is calm exactly where it was sound before
abbrev pub ComesToCalm : Plan → List Event → Type 0
ComesToCalm plan events = (deliveries : List Event) → All (IsEventOf plan) deliveries → list_all is_delivery deliveries ≡ true
    → next_delivery plan (network_after plan (events ++ deliveries)) ≡ None
    → (service : ServiceId) → HasLabels plan (network_after plan (events ++ deliveries)) service
    → is_calm plan (network_after plan (events ++ deliveries)) service ≡ is_sound_service plan (network_after plan events) service

-- in every run
abbrev pub DeliveriesKeepSound : Type 0
DeliveriesKeepSound = (plan : Plan) (events : List Event) → IsRun plan events → KeepsSound plan events

abbrev pub DeliveriesKeepChoice : Type 0
DeliveriesKeepChoice = (plan : Plan) (events : List Event) → IsRun plan events → KeepsSoundChoice plan events

abbrev pub RunsComeToCalm : Type 0
RunsComeToCalm = (plan : Plan) (events : List Event) → IsRun plan events → ComesToCalm plan events
