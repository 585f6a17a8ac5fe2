-- An edge keeps what it has for spokes that are whole, on the way to the home: none of their ends is withdrawn there, and what a switching
-- point tells is what it holds.
use Rattle.edge_model.specs.EndPlaces.{is_terminal}
use Rattle.edge_model.specs.Mend.{advertising, is_up_with, offer_stands, telling_status, wish, wish_by, wish_of, withdrawing}
use Rattle.edge_model.specs.State.{EdgeState, end_at, with_end, with_kept, with_next_label}
use Rattle.edge_model.specs.declared.end_place.EndPlace.{EndPlace}
use Rattle.flight_laws.proofs.AcrossLemmas.{other_side}
use Rattle.flight_laws.proofs.NameLemmas.{end_fact}
use Rattle.flight_laws.proofs.PlaceLemmas.{IsEndOf, same_row}
use Rattle.flight_laws.proofs.RuledMendLemmas.{wire_fits}
use Rattle.flight_laws.specs.Binding.{is_withdrawing}
use Rattle.move_laws.proofs.KeepMeshLemmas.{HasOtherSide, across_stands, has_other_side, passed_is, put_rest, whole_stands}
use Rattle.move_laws.specs.Clearing.{IsOnward}
use Rattle.move_laws.specs.Healing.{KeepsSpokes, StandsFor, is_advertising}
use Rattle.net_base.specs.declared.plan.Plan.{Plan}
use Rattle.net_base.specs.declared.plan.places.EdgeId.{EdgeId}
use Rattle.net_base.specs.declared.plan.places.ServiceId.{ServiceId}
use Rattle.net_base.specs.declared.plan.places.WireId.{WireId}
use Rattle.net_base.specs.declared.plan.wire_plan.WirePlan.{WirePlan}
use Rattle.net_base.specs.plan.Accepted.{IsChecked}
use Rattle.net_base.specs.plan.Paths.{edge_address, follows, has_repeat, is_first, is_last, mate}
use Rattle.net_base.specs.plan.Places.{wire_row}
use Rattle.net_values.proofs.BoolLemmas.{clash}
use Rattle.network_model.proofs.GoalLemmas.{ends_last, mate_inside}
use Rattle.network_model.proofs.WayLemmas.{joins_is}
use Rattle.network_model.specs.State.{NetworkState}
use Rattle.pw_signalling.specs.End.{Advertised, EndState, Idle, LocalPart, Withdrawing}
use Rattle.pw_signalling.specs.Rows.{advertise_part, advertised, tell_part, telling, with_status, withdrawn}
use Rattle.pw_signalling.specs.declared.binding.Binding.{Binding}
use Rattle.pw_signalling.specs.declared.told.Told.{Told}
use Rattle.pw_stitch.proofs.ChangeLemmas.{same_without_status}
use Rattle.pw_stitch.specs.Change.{is_same_but_status}
use Rattle.pw_stitch.specs.Passing.{own_point, past_point, wanted}
use Rattle.pw_tlvs.specs.declared.pw_status.PwStatus.{PwStatus}
use Rattle.std.proofs.Common.{Bool, None, Option, Some, ap, cond, false, refl, subst, sym, true, ℕ, ◌&&◌, ◌||◌, ◌∙◌, ◌≡◌}
use Rattle.std.proofs.lemmas.Bool.{or_left}

none_last : (row : WirePlan) (me next : EdgeId) → has_repeat row.path ≡ false → follows row.path me.0 next.0 ≡ true → is_last me.0 row.path ≡ false
none_last row me next once way = by (is_last me.0 row.path) refl where
  by : (b : Bool) → is_last me.0 row.path ≡ b → b ≡ false
  by true last = clash (sym (ends_last row.path me.0 next.0 once last) ∙ way)
  by false last = refl

neither : (a b : Bool) → a ≡ false → b ≡ false → a || b ≡ false
neither true b one other = clash (sym one)
neither false b one other = other

module _ (plan : Plan) (service : ServiceId) (network : NetworkState) (me : EdgeId) (checked : IsChecked plan) (edge : EdgeState) (placed : edge.me ≡ me)
    (keeps : KeepsSpokes plan service network me edge) where
  -- an end of a watched spoke, towards the next edge
  pub onward_stands : (place : EndPlace) (row : WirePlan) (label : ℕ) (content : Told) → IsEndOf plan me place → IsOnward plan service network me.0 place.peer.0 place.wire row
      → is_up_with (edge.peering place.peer.0) ≡ true → (end_at edge place).local ≡ Advertised label content → offer_stands place content (wish plan edge place) ≡ true
  onward_stands place row label content end onward up at = by (is_first me.0 row.path) refl where
    row_is : end.row ≡ row
    row_is = same_row end.row row (sym end.is ∙ onward.is)

    on : edge.wire_on place.wire.0 ≡ true
    on = keeps.on place.wire row place.peer.0 onward (ap is_advertising at)

    terminal_is : place.terminal ≡ is_terminal row me
    terminal_is = end.terminal ∙ ap (λ (r : WirePlan). is_terminal r me) row_is

    by : (b : Bool) → is_first me.0 row.path ≡ b → offer_stands place content (wish plan edge place) ≡ true
    by true first = whole_stands plan edge place row onward.is on up content (terminal_is ∙ or_left (is_first me.0 row.path) (is_last me.0 row.path) first)
        (keeps.whole place.wire row place.peer.0 onward first)
    by false inner =
        let once : has_repeat row.path ≡ false = (wire_fits plan place.wire row checked onward.is).once in
        let inside : is_terminal row me ≡ false = neither (is_first me.0 row.path) (is_last me.0 row.path) inner (none_last row me place.peer once onward.next) in
        let behind : HasOtherSide row me place.peer =
        has_other_side row me place.peer once (joins_is row.path me.0 place.peer.0 ∙ or_left (follows row.path me.0 place.peer.0) (follows row.path place.peer.0 me.0) onward.next) inside in
        across_stands plan edge place row onward.is on up me behind.from content placed (terminal_is ∙ inside) behind.back
        (keeps.across place.wire row behind.from place.peer label content onward behind.mate_is at)

-- another end with the same binding leaves all bindings
remote_same : (place : EndPlace) (end : EndState) (edge : EdgeState) (wire peer : ℕ) → end.remote ≡ (end_at edge place).remote
    → ((with_end place end edge).ends wire peer).remote ≡ (edge.ends wire peer).remote
remote_same place end edge wire peer same = end_fact (λ w p e. e.remote ≡ (edge.ends w p).remote) place end edge wire peer same refl

module _ (plan : Plan) (service : ServiceId) (network : NetworkState) (me : EdgeId) (checked : IsChecked plan) (edge : EdgeState) (placed : edge.me ≡ me)
    (keeps : KeepsSpokes plan service network me edge) where
  -- an end that withdraws is none of them
  module _ (place : EndPlace) (label : ℕ) (content : Told) (end : IsEndOf plan me place) (up : is_up_with (edge.peering place.peer.0) ≡ true)
      (at : (end_at edge place).local ≡ Advertised label content)
      (changed : offer_stands place content (wish plan edge place) ≡ false) where
    none_onward : {P : Type 0} (wire : WireId) (row : WirePlan) (next : ℕ) → IsOnward plan service network me.0 next wire row → place.wire.0 ≡ wire.0 → place.peer.0 ≡ next → P
    none_onward wire row next onward same also =
        clash (sym changed ∙ onward_stands plan service network me checked edge placed keeps place row label content end
        (subst (λ (n : ℕ). IsOnward plan service network me.0 place.peer.0 (record { 0 = n }) row) (sym same)
        (subst (λ (n : ℕ). IsOnward plan service network me.0 n wire row) (sym also) onward)) up at)

    abbrev New : EdgeState
    New = with_end place (withdrawn (end_at edge place)) edge

    local_is : {P : Type 0} (wire : WireId) (row : WirePlan) (next : ℕ) → IsOnward plan service network me.0 next wire row → ((New.ends wire.0 next).local ≡ (edge.ends wire.0 next).local → P) → P
    local_is {P} wire row next onward follows_on =
        follows_on (end_fact (λ w p e. w ≡ wire.0 → p ≡ next → e.local ≡ (edge.ends w p).local) place (withdrawn (end_at edge place)) edge wire.0 next
        (λ same also. none_onward wire row next onward same also) (λ same also. refl) refl refl)

    pub withdrawing_keeps : KeepsSpokes plan service network me (withdrawing place edge)
    withdrawing_keeps = record {
      waits_not = λ wire row next onward. local_is wire row next onward (λ same. ap is_withdrawing same ∙ keeps.waits_not wire row next onward);
      whole = λ wire row next onward first. ap (λ (f : ℕ → ℕ). f wire.0) (put_rest place (withdrawn (end_at edge place)) edge).1 ∙ keeps.whole wire row next onward first;
      on = λ wire row next onward told. ap (λ (f : ℕ → Bool). f wire.0) (put_rest place (withdrawn (end_at edge place)) edge).0
          ∙ local_is wire row next onward (λ same. keeps.on wire row next onward (ap is_advertising (sym same) ∙ told));
      across = λ wire row from to own told onward mated here.
          subst (StandsFor plan row me from told) (sym (remote_same place (withdrawn (end_at edge place)) edge wire.0 from.0 refl))
          (local_is wire row to.0 onward (λ same. keeps.across wire row from to own told onward mated (sym same ∙ here)));
    }

  -- ---- an end that advertises

  alike : (content : Told) → is_same_but_status content content ≡ true
  alike content = (same_without_status content content).1 refl

  -- its content is what is held behind
  stands_behind : (row : WirePlan) (from : EdgeId) (content : Told) (held : Option Binding) → wanted (own_point row.pw_id (edge_address plan me) (edge_address plan from)) held ≡ Some content
      → StandsFor plan row me from content held
  stands_behind row from content None is = absurd (cc (is))
  stands_behind row from content (Some binding) is =
      let same : past_point (own_point row.pw_id (edge_address plan me) (edge_address plan from)) binding.told ≡ content = cc (is) in
      record { binding = binding; is = refl; same = subst (λ (t : Told). is_same_but_status content t ≡ true) (sym same) (alike content) }

  wish_on : (place : EndPlace) (content : Told) (o : Option WirePlan) → wish_of plan edge place o ≡ Some content → edge.wire_on place.wire.0 ≡ true
  wish_on place content None is = absurd (cc (is))
  wish_on place content (Some row) is = by (edge.wire_on place.wire.0) is where
    by : (b : Bool) → cond (b && is_up_with (edge.peering place.peer.0)) (wish_by plan edge place row) None ≡ Some content → b ≡ true
    by true is = refl
    by false is = absurd (cc (is))

  advertised_is : (e : EndState) (label : ℕ) (content : Told) → e.local ≡ Idle false → (advertised label content e).local ≡ Advertised label content
  advertised_is e label content at = ap (advertise_part label content) at

  advertising_parts : (place : EndPlace) (label : ℕ) (content : Told) → ((advertising place label content edge).ends ≡ (with_end place (advertised label content (end_at edge place)) edge).ends)
      × ((advertising place label content edge).wire_on ≡ edge.wire_on) × ((advertising place label content edge).bits ≡ edge.bits)
  unfolding with_end with_next_label with_kept
  advertising_parts place label content = (refl, refl, refl)

  module _ (place : EndPlace) (label : ℕ) (content : Told) (end : IsEndOf plan me place) (up : is_up_with (edge.peering place.peer.0) ≡ true) (idle : (end_at edge place).local ≡ Idle false)
      (wished : wish plan edge place ≡ Some content) where
    abbrev Told_end : EndState
    Told_end = advertised label content (end_at edge place)

    abbrev Ends : ℕ → ℕ → EndState
    Ends = (with_end place Told_end edge).ends

    on_here : (wire : WireId) → place.wire.0 ≡ wire.0 → edge.wire_on wire.0 ≡ true
    on_here wire same = ap edge.wire_on (sym same) ∙ wish_on place content (wire_row plan place.wire) wished

    told_waits_not : (wire peer : ℕ) → is_withdrawing (edge.ends wire peer).local ≡ false → is_withdrawing (Ends wire peer).local ≡ false
    told_waits_not wire peer was = end_fact (λ w p e. w ≡ wire → p ≡ peer → is_withdrawing e.local ≡ false) place Told_end edge wire peer
        (λ same also. ap is_withdrawing (advertised_is (end_at edge place) label content idle))
        (λ same also. was) refl refl

    same_content : (l : ℕ) (told : Told) → Advertised label content ≡ Advertised l told → content ≡ told
    same_content l told e = cc (e)

    told_on : (wire : WireId) (peer : ℕ) → (is_advertising (edge.ends wire.0 peer).local ≡ true → edge.wire_on wire.0 ≡ true) → is_advertising (Ends wire.0 peer).local ≡ true
        → edge.wire_on wire.0 ≡ true
    told_on wire peer was = end_fact (λ w p e. w ≡ wire.0 → p ≡ peer → is_advertising e.local ≡ true → edge.wire_on wire.0 ≡ true) place Told_end edge wire.0 peer
        (λ same also told. on_here wire same) (λ same also. was) refl refl

    told_across : (wire : WireId) (row : WirePlan) (from to : EdgeId) (l : ℕ) (told : Told) → IsOnward plan service network me.0 to.0 wire row → mate row me.0 from.0 ≡ Some to
        → (Ends wire.0 to.0).local ≡ Advertised l told → StandsFor plan row me from told (edge.ends wire.0 from.0).remote
    told_across wire row from to l told onward mated = end_fact
        (λ w p e. w ≡ wire.0 → p ≡ to.0 → e.local ≡ Advertised l told → StandsFor plan row me from told (edge.ends wire.0 from.0).remote) place Told_end edge wire.0 to.0
        (λ same also here. by_place (ap (λ (n : ℕ). record { 0 = n }) same) (ap (λ (n : ℕ). record { 0 = n }) also)
        (same_content l told (sym (advertised_is (end_at edge place) label content idle) ∙ here)))
        (λ same also here. keeps.across wire row from to l told onward mated here) refl refl
      where
        by_place : place.wire ≡ wire → place.peer ≡ to → content ≡ told → StandsFor plan row me from told (edge.ends wire.0 from.0).remote
        by_place same also told_is =
            let row_is : wire_row plan place.wire ≡ Some row = ap (wire_row plan) same ∙ onward.is in
            let rows : end.row ≡ row = same_row end.row row (sym end.is ∙ row_is) in
            let once = (wire_fits plan wire row checked onward.is).once in
            let passes : place.terminal ≡ false = end.terminal ∙ (ap (λ (r : WirePlan). is_terminal r me) rows ∙ mate_inside row.path me from to once mated) in
            let mated_back : mate row me.0 place.peer.0 ≡ Some from = ap (λ (k : EdgeId). mate row me.0 k.0) also ∙ other_side row.path me from to once mated in
            let is = sym (passed_is plan edge place row row_is (ap edge.wire_on (ap (λ (w : WireId). w.0) same) ∙ on_here wire (ap (λ (w : WireId). w.0) same)) up me from placed passes mated_back)
            ∙ wished in
            subst (λ (t : Told). StandsFor plan row me from t (edge.ends wire.0 from.0).remote) told_is
            (subst (λ (w : WireId). StandsFor plan row me from content (edge.ends w.0 from.0).remote) same
            (stands_behind row from content (edge.ends place.wire.0 from.0).remote is))

    pub advertising_keeps : KeepsSpokes plan service network me (advertising place label content edge)
    advertising_keeps =
        let parts = advertising_parts place label content in
        record {
          waits_not = λ wire row next onward. ap (λ (f : ℕ → ℕ → EndState). is_withdrawing (f wire.0 next).local) parts.0 ∙ told_waits_not wire.0 next (keeps.waits_not wire row next onward);
          whole = λ wire row next onward first. ap (λ (f : ℕ → ℕ). f wire.0) parts.2 ∙ keeps.whole wire row next onward first;
          on = λ wire row next onward told. ap (λ (f : ℕ → Bool). f wire.0) parts.1
              ∙ told_on wire next (keeps.on wire row next onward) (ap (λ (f : ℕ → ℕ → EndState). is_advertising (f wire.0 next).local) (sym parts.0) ∙ told);
          across = λ wire row from to l told onward mated here.
              subst (StandsFor plan row me from told)
              (sym (ap (λ (f : ℕ → ℕ → EndState). (f wire.0 from.0).remote) parts.0 ∙ remote_same place Told_end edge wire.0 from.0 refl))
              (told_across wire row from to l told onward mated (ap (λ (f : ℕ → ℕ → EndState). (f wire.0 to.0).local) (sym parts.0) ∙ here));
        }

module _ (plan : Plan) (service : ServiceId) (network : NetworkState) (me : EdgeId) (checked : IsChecked plan) (edge : EdgeState) (keeps : KeepsSpokes plan service network me edge) where
  -- ---- a status is told

  module _ (place : EndPlace) (status : PwStatus) where
    abbrev Telling : EndState
    Telling = telling status (end_at edge place)

    abbrev Then : EdgeState
    Then = with_end place Telling edge

    told_remote : (wire peer : ℕ) → (Then.ends wire peer).remote ≡ (edge.ends wire peer).remote
    told_remote wire peer = end_fact (λ w p e. e.remote ≡ (edge.ends w p).remote) place Telling edge wire peer refl refl

    still_waits : (local : LocalPart) → is_withdrawing (tell_part status local) ≡ is_withdrawing local
    still_waits (Idle declined) = refl
    still_waits (Advertised label content) = refl
    still_waits (Withdrawing label) = refl

    still_told : (local : LocalPart) → is_advertising (tell_part status local) ≡ is_advertising local
    still_told (Idle declined) = refl
    still_told (Advertised label content) = refl
    still_told (Withdrawing label) = refl

    -- what it was before
    record WasTold (local : LocalPart) (label : ℕ) (content : Told) : Type 0 where
      before : Told
      was : local ≡ Advertised label before
      alike : (other : Told) → is_same_but_status before other ≡ is_same_but_status content other

    was_told : (local : LocalPart) (label : ℕ) (content : Told) → tell_part status local ≡ Advertised label content → WasTold local label content
    was_told (Idle declined) label content is = absurd (cc (is))
    was_told (Advertised own before) label content is =
        let one : own ≡ label = cc (is) in
        let same : with_status status before ≡ content = cc (is) in
        record { before = before; was = ap (λ (n : ℕ). Advertised n before) one; alike = λ other. ap (λ (t : Told). is_same_but_status t other) same }
    was_told (Withdrawing own) label content is = absurd (cc (is))

    same_before : (local : LocalPart) (label : ℕ) (content : Told) → local ≡ Advertised label content → WasTold local label content
    same_before local label content is = record { before = content; was = is; alike = λ other. refl }

    before_at : (wire peer label : ℕ) (content : Told) → (Then.ends wire peer).local ≡ Advertised label content → WasTold (edge.ends wire peer).local label content
    before_at wire peer label content = end_fact (λ w p e. e.local ≡ Advertised label content → WasTold (edge.ends w p).local label content) place Telling edge wire peer
        (was_told (end_at edge place).local label content) (same_before (edge.ends wire peer).local label content)

    pub telling_keeps : KeepsSpokes plan service network me (telling_status place status edge)
    telling_keeps = record {
      waits_not = λ wire row next onward.
          end_fact (λ w p e. is_withdrawing e.local ≡ is_withdrawing (edge.ends w p).local) place Telling edge wire.0 next (still_waits (end_at edge place).local) refl
          ∙ keeps.waits_not wire row next onward;
      whole = λ wire row next onward first. ap (λ (f : ℕ → ℕ). f wire.0) (put_rest place Telling edge).1 ∙ keeps.whole wire row next onward first;
      on = λ wire row next onward told. ap (λ (f : ℕ → Bool). f wire.0) (put_rest place Telling edge).0
          ∙ keeps.on wire row next onward (sym (end_fact (λ w p e. is_advertising e.local ≡ is_advertising (edge.ends w p).local) place Telling edge wire.0 next
          (still_told (end_at edge place).local) refl) ∙ told);
      across = λ wire row from to label content onward mated here.
          (let earlier = before_at wire.0 to.0 label content here in
          let stands = keeps.across wire row from to label earlier.before onward mated earlier.was in
          record {
            binding = stands.binding;
            is = told_remote wire.0 from.0 ∙ stands.is;
            same = sym (earlier.alike (past_point (own_point row.pw_id (edge_address plan me) (edge_address plan from)) stands.binding.told)) ∙ stands.same;
          });
    }

-- ---- an end is another one

module _ (plan : Plan) (service : ServiceId) (network : NetworkState) (me : EdgeId) (edge : EdgeState) (keeps : KeepsSpokes plan service network me edge) where
  -- an end is changed: where it is an onward one its own part stays, and where one is behind it what was told there still is what it holds
  module _ (place : EndPlace) (end : EndState)
      (own : (wire : WireId) (row : WirePlan) (next : ℕ) → IsOnward plan service network me.0 next wire row → place.wire.0 ≡ wire.0 → place.peer.0 ≡ next → end.local ≡ (end_at edge place).local)
      (behind : (wire : WireId) (row : WirePlan) (from to : EdgeId) (content : Told) → IsOnward plan service network me.0 to.0 wire row → mate row me.0 from.0 ≡ Some to → place.wire.0 ≡ wire.0
      → place.peer.0 ≡ from.0 → StandsFor plan row me from content (end_at edge place).remote → StandsFor plan row me from content end.remote) where
    abbrev Other : EdgeState
    Other = with_end place end edge

    other_local : (wire : WireId) (row : WirePlan) (next : ℕ) → IsOnward plan service network me.0 next wire row → (Other.ends wire.0 next).local ≡ (edge.ends wire.0 next).local
    other_local wire row next onward = end_fact (λ w p e. w ≡ wire.0 → p ≡ next → e.local ≡ (edge.ends w p).local) place end edge wire.0 next
        (λ same also. own wire row next onward same also) (λ same also. refl) refl refl

    remote_stands : (wire : WireId) (row : WirePlan) (from to : EdgeId) (content : Told) → IsOnward plan service network me.0 to.0 wire row → mate row me.0 from.0 ≡ Some to
        → StandsFor plan row me from content (edge.ends wire.0 from.0).remote → StandsFor plan row me from content (Other.ends wire.0 from.0).remote
    remote_stands wire row from to content onward mated = end_fact
        (λ w p e. w ≡ wire.0 → p ≡ from.0 → StandsFor plan row me from content (edge.ends w p).remote → StandsFor plan row me from content e.remote) place end edge wire.0 from.0
        (λ same also. behind wire row from to content onward mated same also) (λ same also stands. stands) refl refl

    pub others_keep : KeepsSpokes plan service network me Other
    others_keep = record {
      waits_not = λ wire row next onward. ap is_withdrawing (other_local wire row next onward) ∙ keeps.waits_not wire row next onward;
      whole = λ wire row next onward first. ap (λ (f : ℕ → ℕ). f wire.0) (put_rest place end edge).1 ∙ keeps.whole wire row next onward first;
      on = λ wire row next onward told. ap (λ (f : ℕ → Bool). f wire.0) (put_rest place end edge).0
          ∙ keeps.on wire row next onward (ap is_advertising (sym (other_local wire row next onward)) ∙ told);
      across = λ wire row from to label content onward mated here.
          remote_stands wire row from to content onward mated (keeps.across wire row from to label content onward mated (sym (other_local wire row to.0 onward) ∙ here));
    }
