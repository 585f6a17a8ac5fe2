-- A wire with a switching point that is stuck carries no frames.
use Rattle.std.proofs.Common.{◌≡◌, ◌∙◌, Bool, true, false, ℕ, Some, refl, sym}
use Rattle.std.proofs.lemmas.Bool.{or_left}
use Rattle.net_values.proofs.BoolLemmas.{clash}
use Rattle.net_base.specs.declared.plan.Plan.{Plan}
use Rattle.net_base.specs.declared.plan.places.EdgeId.{EdgeId}
use Rattle.net_base.specs.declared.plan.places.WireId.{WireId}
use Rattle.net_base.specs.declared.plan.wire_plan.WirePlan.{WirePlan}
use Rattle.net_base.specs.plan.Accepted.{IsChecked}
use Rattle.net_base.specs.plan.Paths.{follows, has_repeat, is_last, joins}
use Rattle.net_base.specs.plan.Places.{wire_row}
use Rattle.network_model.proofs.GoalLemmas.{ends_last, has_mate}
use Rattle.network_model.proofs.WayLemmas.{joins_is}
use Rattle.network_model.specs.Calm.{carries}
use Rattle.network_model.specs.State.{NetworkState}
use Rattle.pw_signalling.specs.End.{LocalPart, Idle, Advertised, Withdrawing}
use Rattle.pw_stitch.specs.Stitch.{has_told}
use Rattle.edge_model.specs.State.{EdgeState}
use Rattle.flight_laws.proofs.AcrossLemmas.{other_side}
use Rattle.flight_laws.proofs.RuledMendLemmas.{wire_fits}
use Rattle.flood_laws.proofs.StitchLemmas.{IsJoinedSide, relay_bound}
use Rattle.net_base.proofs.PathLemmas.{joins_turned}
use Rattle.move_laws.specs.Healing.{IsDead, stays_idle}

none_told : {P : Type 0} (edge : EdgeState) (wire peer : ℕ) (local : LocalPart) → stays_idle edge wire peer local ≡ true → has_told local ≡ true → P
none_told edge wire peer (Idle declined) stuck told = clash told
none_told edge wire peer (Advertised label content) stuck told = clash stuck
none_told edge wire peer (Withdrawing label) stuck told = clash stuck

pub dead_carries_not : {P : Type 0} (plan : Plan) (network : NetworkState) (wire : WireId) (row : WirePlan) → IsChecked plan → ((a : ℕ) → (network.edges a).me ≡ record { 0 = a })
    → wire_row plan wire ≡ Some row
    → IsDead network.edges wire row → carries plan network wire.0 row ≡ true → P
dead_carries_not {P} plan network wire row checked placed is dead live =
    let once : has_repeat row.path ≡ false = (wire_fits plan wire row checked is).once in
    let at : EdgeId = record { 0 = dead.at } in
    let next : EdgeId = record { 0 = dead.next } in
    let joined : joins dead.next dead.at row.path ≡ true =
    sym (joins_turned row.path dead.at dead.next) ∙ (joins_is row.path dead.at dead.next ∙ or_left (follows row.path dead.at dead.next) (follows row.path dead.next dead.at) dead.follows_it) in
    let found = has_mate row.path next at once joined dead.inner (not_last (is_last dead.at row.path) refl) in
    let side : IsJoinedSide ((network.edges dead.at).ends wire.0 dead.next) =
    relay_bound plan network wire row at found.0 next checked (placed dead.at) is live (other_side row.path at next found.0 once found.1) in
    none_told (network.edges dead.at) wire.0 dead.next ((network.edges dead.at).ends wire.0 dead.next).local dead.stuck side.advertises
  where
    not_last : (b : Bool) → is_last dead.at row.path ≡ b → b ≡ false
    not_last true last = clash (sym (ends_last row.path dead.at dead.next (wire_fits plan wire row checked is).once last) ∙ dead.follows_it)
    not_last false last = refl
