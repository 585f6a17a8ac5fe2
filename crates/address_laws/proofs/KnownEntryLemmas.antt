-- A frame to a known station enters at a circuit of its service that is on.
use Rattle.std.proofs.Common.{◌≡◌, ◌+◌, ◌∙◌, ℕ, true, List, [], Option, Some, None, Ok, option_map, ap, subst}
use Rattle.net_base.specs.declared.plan.Plan.{Plan}
use Rattle.net_base.specs.declared.plan.circuit_plan.CircuitPlan.{CircuitPlan}
use Rattle.net_base.specs.declared.plan.places.CircuitId.{CircuitId}
use Rattle.net_base.specs.declared.plan.places.ServiceId.{ServiceId}
use Rattle.net_base.specs.plan.Accepted.{IsChecked}
use Rattle.net_base.specs.plan.Places.{circuit_row, mtu_of}
use Rattle.net_base.specs.plan.Roles.{are_joined_by}
use Rattle.net_base.specs.trace.Isolated.{inner_at}
use Rattle.net_base.specs.trace.Frame.{destination_of}
use Rattle.network_model.specs.Absorb.{Stepped}
use Rattle.network_model.specs.Calm.{is_calm}
use Rattle.network_model.specs.Frame.{frame_event, frame_work, next_origin}
use Rattle.network_model.specs.Reach.{is_row_on, is_site}
use Rattle.network_model.specs.State.{NetworkState}
use Rattle.network_model.proofs.AbsorbLemmas.{of_origin}
use Rattle.network_model.proofs.OtherLemmas.{entering_counts}
use Rattle.flight_laws.specs.Laws.{AreSettled}
use Rattle.flight_laws.proofs.RuledNetworkLemmas.{IsRuledNetwork}
use Rattle.packet_laws.proofs.ArriveLemmas.{IsSized}
use Rattle.flood_laws.specs.Copy.{IsStill}
use Rattle.flood_laws.proofs.StartLemmas.{owed_to}
use Rattle.address_laws.specs.Points.{Points}
use Rattle.address_laws.specs.Sites.{Sites}
use Rattle.address_laws.proofs.KnownServeLemmas.{ServesSite}
use Rattle.address_laws.proofs.KnownStartLemmas.{entering_serves_site, enters_with}

-- its step serves the site of its station, or owes it a copy
pub record Starts (plan : Plan) (calm network : NetworkState) (service : ServiceId) (target : CircuitId) (frame : List ℕ) (at : CircuitId) (stepped : Stepped) : Type 0 where
  pub serves : ServesSite plan calm service target frame (next_origin network) (owed_to at) stepped
  pub entered : stepped.state.entered ≡ network.entered + 1

pub starts : (plan : Plan) (calm network : NetworkState) (site : Sites) (at : CircuitId) (octets frame : List ℕ) (service : ServiceId) (found : Option CircuitPlan)
    → IsChecked plan → is_calm plan calm service ≡ true → ((a b : ℕ) → are_joined_by plan service a b ≡ true → AreSettled plan calm a b) → IsSized (mtu_of plan service) frame
    → IsRuledNetwork plan network → IsStill calm network → circuit_row plan at ≡ found → option_map (λ (row : CircuitPlan). row.service) found ≡ Some service
    → is_row_on network at found ≡ true → inner_at plan at octets ≡ Ok frame
    → is_site plan calm service (site (destination_of frame)) ≡ true → Points plan (frame_event plan at octets found network).state service site
    → of_origin (next_origin network) network.under_way ≡ []
    → Starts plan calm network service (site (destination_of frame)) frame at (frame_event plan at octets found network)
starts plan calm network site at octets frame service None checked calmed settled sized ruled still is of_service on formed receives points none = absurd (cc (of_service))
starts plan calm network site at octets frame service (Some row) checked calmed settled sized ruled still is of_service on formed receives points none =
    let same : row.service ≡ service = cc (of_service) in
    by same calmed settled sized receives points
  where
    by : row.service ≡ service → is_calm plan calm service ≡ true → ((a b : ℕ) → are_joined_by plan service a b ≡ true → AreSettled plan calm a b) → IsSized (mtu_of plan service) frame
        → is_site plan calm service (site (destination_of frame)) ≡ true → Points plan (frame_event plan at octets (Some row) network).state service site
        → Starts plan calm network service (site (destination_of frame)) frame at (frame_event plan at octets (Some row) network)
    by same = subst (λ (s : ServiceId). is_calm plan calm s ≡ true → ((a b : ℕ) → are_joined_by plan s a b ≡ true → AreSettled plan calm a b) → IsSized (mtu_of plan s) frame
        → is_site plan calm s (site (destination_of frame)) ≡ true → Points plan (frame_event plan at octets (Some row) network).state s site
        → Starts plan calm network s (site (destination_of frame)) frame at (frame_event plan at octets (Some row) network)) same
        (λ calm_here settled_here sized_here receives_here points_here. record {
          serves = entering_serves_site plan calm network site at octets frame row checked calm_here settled_here sized_here ruled still is on formed receives_here points_here none;
          entered =
              ap (λ (stepped : Stepped). stepped.state.entered)
              (enters_with plan calm network site at octets frame row checked calm_here settled_here sized_here ruled still is on formed receives_here points_here none)
              ∙ entering_counts at octets row (frame_work plan network at octets row) network;
        })
