-- In a quiet service what is told along a wire is one chain from terminal edge to terminal edge.
use Rattle.std.proofs.Common.{◌≡◌, ◌≢◌, ◌+◌, ◌++◌, ◌&&◌, ◌||◌, ◌∙◌, ℕ, zero, suc, Bool, true, false, not, List, [], ◌∷◌, Option, Some, None, length, refl, sym, ap, arith, length-append}
use Rattle.std.proofs.lemmas.Option.{same_Some}
use Rattle.net_values.proofs.BoolLemmas.{clash, second_fails, first_fails}
use Rattle.net_values.proofs.OptionLemmas.{none_some}
use Rattle.net_base.specs.declared.plan.Plan.{Plan}
use Rattle.net_base.specs.declared.plan.places.EdgeId.{EdgeId}
use Rattle.net_base.specs.declared.plan.places.ServiceId.{ServiceId}
use Rattle.net_base.specs.declared.plan.places.WireId.{WireId}
use Rattle.net_base.specs.declared.plan.wire_plan.WirePlan.{WirePlan}
use Rattle.net_base.specs.plan.Accepted.{IsChecked, IsWireOf}
use Rattle.net_base.specs.plan.Paths.{is_first, is_last, joins, mate, mate_on}
use Rattle.net_base.specs.plan.Places.{wire_row}
use Rattle.net_base.specs.plan.Roles.{are_joined_by, is_wire_of}
use Rattle.net_base.proofs.PathLemmas.{joins_turned, mate_back, mate_joined, place_of}
use Rattle.pw_tlvs.specs.declared.point.Point.{Point}
use Rattle.pw_signalling.specs.declared.binding.Binding.{Binding}
use Rattle.pw_signalling.specs.declared.told.Told.{Told}
use Rattle.pw_signalling.specs.End.{LocalPart, Idle, Advertised, Withdrawing}
use Rattle.edge_model.specs.EndPlaces.{is_terminal}
use Rattle.edge_model.specs.Mend.{is_up_with}
use Rattle.edge_model.specs.State.{Peering, is_there}
use Rattle.network_model.specs.Calm.{is_drained, is_quiet}
use Rattle.network_model.specs.State.{NetworkState, stands}
use Rattle.network_model.proofs.GoalLemmas.{has_mate}
use Rattle.flight_laws.specs.Across.{PassesOn, TellsAcross}
use Rattle.flight_laws.specs.Binding.{advertised_by, is_idle, is_withdrawing}
use Rattle.flight_laws.specs.Laws.{AreSettled, BothStand, network_after}
use Rattle.flight_laws.specs.Releases.{AllDeclineNone}
use Rattle.flight_laws.proofs.AcrossLemmas.{runs_tell_across}
use Rattle.flight_laws.proofs.BoundRunLemmas.{runs_settle}
use Rattle.flight_laws.proofs.ReleaseLemmas.{runs_decline_none}
use Rattle.flight_laws.proofs.RuledMendLemmas.{wire_fits}
use Rattle.flood_laws.specs.Chain.{Advertises, BeginsAt, GoesOnAt, HasNoLabel, IsChain, Tells, TellsInChains, TellsOn, told_on}
use Rattle.flood_laws.specs.Laws.{RunsTellInChains}
use Rattle.flood_laws.proofs.FarLemmas.{are_settled, far_advertises, joined_by}

none_before : {P : Type 0} (n : ℕ) → suc n ≡ zero → P
none_before n e = absurd (cc (e))

one_less : (n m : ℕ) → suc n ≡ suc m → n ≡ m
one_less n m e = omega (arith, e)

-- one point more than before
one_more : (points : List Point) (point : Point) → suc (length points) ≡ length (points ++ point ∷ [])
one_more points point = omega (arith, length-append points (point ∷ []))

pub has_end : (kept : Option Peering) → is_up_with kept ≡ true → is_there kept ≡ true
has_end None up = clash up
has_end (Some kept) up = refl

-- ---- a wire of a quiet service

module _ (plan : Plan) (network : NetworkState) (service : ServiceId) (wire : WireId) (row : WirePlan) (checked : IsChecked plan) (quiet : is_quiet plan network service ≡ true)
    (settled : (a b : ℕ) → are_joined_by plan service a b ≡ true → AreSettled plan network a b) (is : wire_row plan wire ≡ Some row) (ours : is_wire_of service row ≡ true)
    (across : (me from to : EdgeId) → mate row me.0 from.0 ≡ Some to → TellsAcross plan me from to wire row (network.edges me.0)) (declines : AllDeclineNone plan network) where
  row_is : IsWireOf plan row
  row_is = wire_fits plan wire row checked is

  -- of two edges that the wire joins both ends stand, or neither does
  module _ (a b : ℕ) (joined : joins a b row.path ≡ true) where
    two : AreSettled plan network a b
    two = settled a b (joined_by plan network service a b wire row checked is ours joined)

    both_stand : stands network a b ≡ true → BothStand network a b
    both_stand there = by (stands network a b) (stands network b a) (is_drained network a b && is_drained network b a) refl refl there (are_settled plan network service a b wire row checked is ours joined quiet) where
      by : (x y drained : Bool) → stands network a b ≡ x → stands network b a ≡ y → x ≡ true → (not x && not y) || ((x && y) && drained) ≡ true → BothStand network a b
      by true true drained one other there test = record { one = one; other = other }
      by true false drained one other there test = clash test
      by false y drained one other there test = clash there

    -- what one advertises the other one holds
    near_holds : (binding : Binding) → ((network.edges b).ends wire.0 a).local ≡ Advertised binding.label binding.told → ((network.edges a).ends wire.0 b).remote ≡ Some binding
    near_holds binding told = by (stands network a b) (stands network b a) (is_drained network a b && is_drained network b a) refl refl (are_settled plan network service a b wire row checked is ours joined quiet) where
      by : (x y drained : Bool) → stands network a b ≡ x → stands network b a ≡ y → (not x && not y) || ((x && y) && drained) ≡ true → ((network.edges a).ends wire.0 b).remote ≡ Some binding
      by true true drained one other test = ((two.up (record { one = one; other = other })).1.1 wire row is joined).near ∙ ap advertised_by told
      by true false drained one other test = clash test
      by false true drained one other test = clash test
      by false false drained one other test = clash (sym (ap is_idle told) ∙ (two.apart one other wire row is joined).other_idle)

    -- where the session is up, the end does not wait for a release
    waits_not : is_up_with ((network.edges a).peering b) ≡ true → is_withdrawing ((network.edges a).ends wire.0 b).local ≡ false
    waits_not up = ((two.up (both_stand (has_end ((network.edges a).peering b) up))).1.1 wire row is joined).one_waits_not

  -- from the other side, the neighbour is the one from which the edge has what it tells
  mate_from : (me from to : EdgeId) → mate_on row.path me.0 to.0 ≡ Some from → mate row me.0 from.0 ≡ Some to
  mate_from me from to mated = by (mate_on row.path me.0 from.0) (mate_back row.path me.0 to.0 from row_is.once mated) where
    by : (o : Option EdgeId) → place_of o ≡ Some to.0 → o ≡ Some to
    by None e = none_some to.0 e
    by (Some other) e = ap (λ (n : ℕ). Some (record { 0 = n })) (same_Some other.0 to.0 e)

  -- ---- each content ends a chain

  linked : (me to : EdgeId) (content : Told) → joins me.0 to.0 row.path ≡ true → Advertises network wire me to content
      → ((from : EdgeId) (before : Told) → suc (length before.points) ≡ length content.points → joins from.0 me.0 row.path ≡ true → Advertises network wire from me before
      → IsChain plan network wire row from me before)
      → IsChain plan network wire row me to content
  linked me to content joined told further = by_side (is_terminal row me) refl where
    inner : (from : EdgeId) → mate row me.0 from.0 ≡ Some to → joins me.0 from.0 row.path ≡ true → IsChain plan network wire row me to content
    inner from mated beside =
        let passes : PassesOn plan me from to wire row (network.edges me.0) content = (across me from to mated).advertised told.label content told.is in
        let before : Advertises network wire from me passes.binding.told = record {
          label = passes.binding.label;
          is = far_advertises plan network service me.0 from.0 wire row passes.binding checked quiet settled is ours beside passes.held;
        } in
        GoesOnAt from me to passes.binding.told content mated
        (further from passes.binding.told (one_more passes.binding.told.points _ ∙ ap (λ (t : Told). length t.points) (sym passes.content_is))
        (sym (joins_turned row.path me.0 from.0) ∙ beside) before)
        passes.content_is told

    by_side : (b : Bool) → is_terminal row me ≡ b → IsChain plan network wire row me to content
    by_side true ends = BeginsAt me to content ends told
    by_side false inside =
        let other = has_mate row.path to me row_is.once (sym (joins_turned row.path me.0 to.0) ∙ joined) (first_fails (is_first me.0 row.path) (is_last me.0 row.path) inside)
        (second_fails (is_first me.0 row.path) (is_last me.0 row.path) inside) in
        inner other.0 (mate_from me other.0 to other.1) (mate_joined row.path me.0 to.0 other.0 other.1)

  chain : (n : ℕ) (me to : EdgeId) (content : Told) → length content.points ≡ n → joins me.0 to.0 row.path ≡ true → Advertises network wire me to content → IsChain plan network wire row me to content
  chain zero me to content count joined told = linked me to content joined told (λ from before more beside earlier. none_before (length before.points) (more ∙ count))
  chain (suc n) me to content count joined told = linked me to content joined told
      (λ from before more beside earlier. chain n from me before (one_less (length before.points) n (more ∙ count)) beside earlier)

  -- ---- and is told on

  tells_on : (from me to : EdgeId) (content : Told) → mate row me.0 from.0 ≡ Some to → Advertises network wire from me content → (network.edges me.0).wire_on wire.0 ≡ true
      → is_up_with ((network.edges me.0).peering to.0) ≡ true
      → TellsOn (network.edges me.0) wire to (told_on plan row me from content)
  tells_on from me to content mated told on up = by ((network.edges me.0).ends wire.0 to.0).local refl where
    beside : joins me.0 from.0 row.path ≡ true
    beside = mate_joined row.path me.0 to.0 from (mate_from me to from mated)

    binding : Binding
    binding = record { label = told.label; told = content }

    held : ((network.edges me.0).ends wire.0 from.0).remote ≡ Some binding
    held = near_holds me.0 from.0 beside binding told.is

    same : (content' : Told) (passes : PassesOn plan me from to wire row (network.edges me.0) content') → content' ≡ told_on plan row me from content
    same content' passes = passes.content_is ∙ ap (λ (b : Binding). told_on plan row me from b.told) (same_Some passes.binding binding (sym passes.held ∙ held))

    onward : joins me.0 to.0 row.path ≡ true
    onward = mate_joined row.path me.0 from.0 to mated

    undeclined : ((network.edges me.0).ends wire.0 to.0).local ≢ Idle true
    undeclined = (declines me.0 to.0 (both_stand me.0 to.0 onward (has_end ((network.edges me.0).peering to.0) up))).undeclined wire row is onward

    by : (local : LocalPart) → ((network.edges me.0).ends wire.0 to.0).local ≡ local → TellsOn (network.edges me.0) wire to (told_on plan row me from content)
    by (Idle true) at = absurd (undeclined at)
    by (Idle false) at = HasNoLabel at ((across me from to mated).idle binding held on up at)
    by (Advertised label content') at = Tells label (at ∙ ap (λ (t : Told). Advertised label t) (same content' ((across me from to mated).advertised label content' at)))
    by (Withdrawing label) at = clash (sym (waits_not me.0 to.0 onward up) ∙ ap is_withdrawing at)

  pub tells_in_chains : TellsInChains plan network wire row
  tells_in_chains = record { chained = λ me to content joined told. chain (length content.points) me to content refl joined told; goes_on = tells_on }

-- ---- the law

pub runs_tell_in_chains : RunsTellInChains
runs_tell_in_chains plan events run service quiet wire row is ours =
    tells_in_chains plan (network_after plan events) service wire row run.checked quiet (λ a b joined. runs_settle plan events run service quiet a b joined) is ours
    (λ me from to mated. runs_tell_across plan events run me from to wire row is mated) (λ a b both. runs_decline_none plan events run a b both)
