-- That the premises of the law of moves are met over a switching point.
use Rattle.std.specs.Prelude.{◌≡◌, ◌++◌, ◌∷◌, ℕ, true, false, List, Some, length}
use Rattle.std.specs.List.{list_all}
use Rattle.net_values.specs.declared.mac.Mac.{Mac}
use Rattle.net_base.specs.declared.plan.Plan.{Plan}
use Rattle.net_base.specs.declared.plan.places.ServiceId.{ServiceId}
use Rattle.net_base.specs.declared.plan.places.WireId.{WireId}
use Rattle.net_base.specs.declared.plan.wire_plan.WirePlan.{WirePlan}
use Rattle.net_base.specs.declared.trace.event.Event.{Event}
use Rattle.net_base.specs.plan.Places.{wire_row}
use Rattle.net_base.specs.plan.Roles.{is_spoke_from}
use Rattle.mac_table.specs.Addresses.{has_address}
use Rattle.network_model.specs.Calm.{carries, is_calm}
use Rattle.flight_laws.specs.Laws.{IsRun, network_after}
use Rattle.flood_laws.specs.Deliveries.{is_delivery}
use Rattle.address_laws.specs.Points.{Points}
use Rattle.address_laws.specs.Sites.{Sites}
use Rattle.address_laws.specs.Stretch.{StartsRight}
use Rattle.move_laws.specs.Moves.{is_move}

-- a run, a move and deliveries, behind which a spoke over a switching point carries, as it did not before, and what was known at an edge is
-- forgotten
pub record HealedOverSwitchingPoint : Type 0 where
  pub plan : Plan
  pub service : ServiceId
  pub site : Sites
  pub before : List Event
  pub move : Event
  pub deliveries : List Event
  pub run : IsRun plan (before ++ move ∷ deliveries)
  pub starts : StartsRight plan (network_after plan before) service site
  pub moves : is_move plan service move ≡ true
  pub delivered : list_all is_delivery deliveries ≡ true
  pub calm : is_calm plan (network_after plan (before ++ move ∷ deliveries)) service ≡ true
  pub wire : WireId
  pub row : WirePlan
  pub row_is : wire_row plan wire ≡ Some row
  pub mover : ℕ
  pub spoke : is_spoke_from service mover row ≡ true
  pub stitched : length row.path ≡ 3
  pub carries_before : carries plan (network_after plan before) wire.0 row ≡ false
  pub carries_now : carries plan (network_after plan (before ++ move ∷ deliveries)) wire.0 row ≡ true
  pub edge : ℕ
  pub station : Mac
  pub known : has_address (((network_after plan before).edges edge).learned service.0) station ≡ true
  pub forgotten : has_address (((network_after plan (before ++ move ∷ deliveries)).edges edge).learned service.0) station ≡ false
  pub heals : Points plan (network_after plan (before ++ move ∷ deliveries)) service site
