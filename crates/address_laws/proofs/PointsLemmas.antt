-- In each stretch of a run addresses keep pointing to their sites, and copies come from where they seem to come from.
use Rattle.std.proofs.Common.{◌≡◌, ◌++◌, ◌∙◌, ℕ, true, false, List, [], ◌∷◌, ap, sym, subst, not, ◌&&◌, Bool}
use Rattle.std.specs.List.{All, AllByRecursion, list_all, list_any}
use Rattle.net_values.proofs.BoolLemmas.{second_fails, first_fails, clash_at}
use Rattle.net_values.proofs.RowLemmas.{front_all, back_all}
use Rattle.net_base.specs.declared.plan.Plan.{Plan}
use Rattle.net_base.specs.declared.plan.places.ServiceId.{ServiceId}
use Rattle.net_base.specs.declared.trace.entry.Entry.{Entry}
use Rattle.net_base.specs.declared.trace.event.Event.{Event}
use Rattle.net_base.specs.plan.Planned.{IsEventOf}
use Rattle.net_base.specs.trace.Isolated.{Among}
use Rattle.net_base.specs.plan.Places.{wire_row}
use Rattle.net_base.proofs.TraceLemmas.{among-append}
use Rattle.hvpls_spokes.specs.Port.{wire_port}
use Rattle.mac_table.specs.declared.mac_entry.MacEntry.{MacEntry}
use Rattle.network_model.specs.declared.packet.Packet.{Packet}
use Rattle.network_model.specs.Run.{entries_along, state_after}
use Rattle.network_model.specs.State.{NetworkState, empty_network}
use Rattle.network_model.specs.Window.{is_row_of_service}
use Rattle.network_model.proofs.PacketListLemmas.{holds_by}
use Rattle.network_model.proofs.RunLemmas.{after-append, along-append}
use Rattle.flight_laws.specs.Laws.{IsRun, network_after}
use Rattle.flight_laws.proofs.RuledRunLemmas.{run_ruled}
use Rattle.flight_laws.proofs.RunLemmas.{run_ordered}
use Rattle.packet_laws.proofs.RunLemmas.{runs_keep_packet_rule}
use Rattle.flood_laws.specs.Copy.{IsStill}
use Rattle.flood_laws.proofs.CopyLemmas.{still_forwards}
use Rattle.flood_laws.proofs.StartLemmas.{still_self}
use Rattle.flood_laws.proofs.WindowLemmas.{IsReached}
use Rattle.address_laws.specs.Laws.{RunsKeepPoints}
use Rattle.network_model.specs.Goal.{goal}
use Rattle.address_laws.specs.Points.{ComesFromItsSide, CopiesComeRight, Points, PointsToSite}
use Rattle.address_laws.specs.Sites.{OneSite, Sites}
use Rattle.address_laws.specs.Stretch.{StartsRight, is_of_stretch, is_packet_of}
use Rattle.address_laws.proofs.SideLemmas.{HasSide, KnowsSide}
use Rattle.address_laws.proofs.StillReachLemmas.{still_reach}
use Rattle.address_laws.proofs.StretchLemmas.{IsRight, among_behind, right_still, stretch_right}

-- ---- what a state of a stretch holds

module _ (plan : Plan) (calm : NetworkState) (service : ServiceId) (site : Sites) (told : List Entry) (network : NetworkState)
    (right : IsRight plan calm service site told network) where
  still : IsStill calm network
  still = right_still plan calm service site told network right

  table_points : (edge : ℕ) (entries : List MacEntry) → AllByRecursion (PointsToSite plan calm service site edge) entries
      → AllByRecursion (PointsToSite plan network service site edge) entries
  table_points edge [] all = tt
  table_points edge (e ∷ es) all = (
    record { port = all.0.port; at = all.0.at; reaches = still_reach plan calm network still service edge all.0.port (site e.address.0) ∙ all.0.reaches },
    table_points edge es all.1,
  )

  packet_comes : (packet : Packet) → KnowsSide plan calm service told packet → ComesFromItsSide plan network service told packet
  packet_comes packet knows numbered row is ours =
      let side : HasSide plan calm service told packet row = knows numbered row is ours in
      record {
        sender = side.come.sender;
        octets = side.come.octets;
        told = side.come.told;
        same_service = side.come.of_service;
        reaches = λ forwards. still_reach plan calm network still service (goal row.path packet.from packet.to).0 (wire_port packet.wire.0 row) side.come.sender
            ∙ side.behind (sym (still_forwards plan (calm.edges (goal row.path packet.from packet.to).0) (network.edges (goal row.path packet.from packet.to).0) packet.wire
            (still.edges (goal row.path packet.from packet.to).0)) ∙ forwards);
      }

  -- its addresses point to their sites, and its copies come right
  points_and_copies : Points plan network service site × CopiesComeRight plan network service told
  points_and_copies = (
    λ edge. table_points edge ((network.edges edge).learned service.0) (right.edges edge).table,
    holds_by (KnowsSide plan calm service told) (ComesFromItsSide plan network service told) network.under_way packet_comes right.packets,
  )

-- ---- where it begins

-- no packet of the service is under way, so nothing is claimed of any
none_claimed : (plan : Plan) (calm : NetworkState) (service : ServiceId) (told : List Entry) (packets : List Packet)
    → list_any (is_packet_of plan service) packets ≡ false
    → AllByRecursion (KnowsSide plan calm service told) packets
none_claimed plan calm service told [] free = tt
none_claimed plan calm service told (p ∷ ps) free = (
  λ numbered row is ours. clash_at (is_packet_of plan service p) (ap (λ (b : Bool). not b && is_row_of_service service (wire_row plan p.wire)) numbered ∙ (ap (is_row_of_service service) is ∙ ours))
      (first_fails (is_packet_of plan service p) (list_any (is_packet_of plan service) ps) free),
  none_claimed plan calm service told ps (second_fails (is_packet_of plan service p) (list_any (is_packet_of plan service) ps) free),
)

begins_right : (plan : Plan) (calm : NetworkState) (service : ServiceId) (site : Sites) (told : List Entry) → StartsRight plan calm service site
    → IsRight plan calm service site told calm
begins_right plan calm service site told starts = record {
  edges = λ k. record { still = (still_self calm).edges k; table = starts.points k };
  packets = none_claimed plan calm service told calm.under_way starts.free;
}

-- ---- the whole run

module _ (plan : Plan) (events : List Event) (run : IsRun plan events) (before during after : List Event) (service : ServiceId)
    (site : Sites)
    (split : events ≡ before ++ (during ++ after)) (one : OneSite plan service site (entries_along plan (empty_network plan) events))
    (starts : StartsRight plan (network_after plan before) service site) (stretch : list_all is_of_stretch during ≡ true) where
  abbrev calm : NetworkState
  calm = network_after plan before

  abbrev last : NetworkState
  last = state_after plan calm during

  abbrev told : List Entry
  told = entries_along plan (empty_network plan) events

  abbrev trace : List Entry
  trace = entries_along plan (empty_network plan) before

  planned : All (IsEventOf plan) (before ++ (during ++ after))
  planned = subst (All (IsEventOf plan)) split run.planned

  run_before : IsRun plan before
  run_before = record { checked = run.checked; types = run.types; planned = front_all (IsEventOf plan) before (during ++ after) planned }

  reached : IsReached plan calm trace
  reached = record { ordered = run_ordered plan before run_before; ruled = run_ruled plan before run_before; rule = runs_keep_packet_rule plan before run_before }

  told_is : told ≡ trace ++ (entries_along plan calm during ++ entries_along plan last after)
  told_is =
      ap (λ (l : List Event). entries_along plan (empty_network plan) l) split
      ∙ (along-append plan (empty_network plan) before (during ++ after) ∙ ap (λ (l : List Entry). trace ++ l) (along-append plan calm during after))

  -- what is told in the stretch is told in the run
  tells : (entry : Entry) → Among entry (entries_along plan calm during) → Among entry told
  tells entry among = subst (Among entry) (sym told_is)
      (among_behind entry trace (entries_along plan calm during ++ entries_along plan last after)
      (among-append entry (entries_along plan calm during) (entries_along plan last after) among))

  ends_right : IsRight plan calm service site told last
  ends_right =
      stretch_right plan calm service site told run.checked starts.calm one calm trace during run.types
      (front_all (IsEventOf plan) during after (back_all (IsEventOf plan) before (during ++ after) planned))
      reached stretch tells (begins_right plan calm service site told starts)

  points_last : Points plan (network_after plan (before ++ during)) service site × CopiesComeRight plan (network_after plan (before ++ during)) service told
  points_last = subst (λ (n : NetworkState). Points plan n service site × CopiesComeRight plan n service told) (sym (after-append plan (empty_network plan) before during))
      (points_and_copies plan calm service site told last ends_right)

-- from calm states on
pub runs_keep_points : RunsKeepPoints
runs_keep_points plan events run before during after service site split one starts stretch =
    points_last plan events run before during after service site split one starts stretch
