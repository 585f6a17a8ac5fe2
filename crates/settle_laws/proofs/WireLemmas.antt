-- A wire of a quiet service: what its edges tell each other, seen from two neighbours.
use Rattle.std.proofs.Common.{◌≡◌, ◌≢◌, ◌&&◌, ◌||◌, ◌∙◌, not, is_some, ℕ, Bool, true, false, cond, Option, Some, None, refl, sym, ap, subst}
use Rattle.net_values.proofs.BoolLemmas.{clash, first_holds, second_holds}
use Rattle.net_values.proofs.OptionLemmas.{none_some}
use Rattle.net_base.specs.declared.plan.Plan.{Plan}
use Rattle.net_base.specs.declared.plan.places.EdgeId.{EdgeId}
use Rattle.net_base.specs.declared.plan.places.ServiceId.{ServiceId}
use Rattle.net_base.specs.declared.plan.places.WireId.{WireId}
use Rattle.net_base.specs.declared.plan.wire_plan.WirePlan.{WirePlan}
use Rattle.net_base.specs.plan.Accepted.{IsChecked, IsWireOf}
use Rattle.net_base.specs.plan.Paths.{expected, follows, joins, mate, mate_on}
use Rattle.net_base.specs.plan.Places.{wire_row}
use Rattle.net_base.specs.plan.Roles.{are_joined_by, is_wire_of}
use Rattle.net_base.proofs.PathLemmas.{joins_apart, joins_turned, mate_joined}
use Rattle.pw_tlvs.specs.declared.pw_status.PwStatus.{PwStatus}
use Rattle.pw_signalling.specs.declared.binding.Binding.{Binding}
use Rattle.pw_signalling.specs.declared.told.Told.{Told}
use Rattle.pw_signalling.specs.End.{EndState, Idle, Advertised}
use Rattle.edge_model.specs.declared.end_place.EndPlace.{EndPlace}
use Rattle.edge_model.specs.EndPlaces.{end_places, is_named}
use Rattle.edge_model.specs.Mend.{is_operational, is_up_with, offer_stands, wish, wish_by, wish_of}
use Rattle.edge_model.specs.Settled.{is_mended, is_told}
use Rattle.edge_model.specs.State.{EdgeState, end_at}
use Rattle.network_model.specs.Calm.{is_drained, is_quiet}
use Rattle.network_model.specs.State.{NetworkState, stands}
use Rattle.network_model.proofs.WayLemmas.{one_way}
use Rattle.flight_laws.specs.Across.{PassesOn, TellsAcross}
use Rattle.flight_laws.specs.Binding.{advertised_by, is_idle}
use Rattle.flight_laws.specs.Ends.{IsOrdered}
use Rattle.flight_laws.specs.Laws.{AreSettled, BothStand, HasAgreed, IsUp, KeepsToldRule}
use Rattle.flight_laws.specs.Releases.{AllDeclineNone}
use Rattle.flight_laws.specs.Rules.{NearTells, TellsExpected}
use Rattle.flight_laws.specs.Sound.{IsSoundEnd, point_limit}
use Rattle.flight_laws.proofs.AcrossLemmas.{other_side}
use Rattle.flight_laws.proofs.MendedRunLemmas.{IsMendedAt}
use Rattle.flight_laws.proofs.PlaceLemmas.{NamedEnd, end_of, find_holds}
use Rattle.flight_laws.proofs.RuledMendLemmas.{wire_fits}
use Rattle.flight_laws.proofs.SteadyLemmas.{advertised_up}
use Rattle.flood_laws.specs.Chain.{HasNoLabel, Tells, TellsInChains, TellsOn, told_on}
use Rattle.flood_laws.proofs.ChainLemmas.{has_end}
use Rattle.flood_laws.proofs.FarLemmas.{are_settled, far_advertises, joined_by}
use Rattle.settle_laws.specs.Laws.{HasLabel}
use Rattle.settle_laws.specs.Sound.{are_connected}

-- what holds of a quiet service in a run
pub record HasSettled (plan : Plan) (network : NetworkState) (service : ServiceId) : Type 0 where
  pub checked : IsChecked plan
  pub quiet : is_quiet plan network service ≡ true
  pub settled : (a b : ℕ) → are_joined_by plan service a b ≡ true → AreSettled plan network a b
  pub declines : AllDeclineNone plan network
  pub mended : (k : ℕ) → IsMendedAt plan k (network.edges k)
  pub told : KeepsToldRule plan network
  pub ordered : IsOrdered plan network
  pub chains : (wire : WireId) (row : WirePlan) → wire_row plan wire ≡ Some row → is_wire_of service row ≡ true → TellsInChains plan network wire row
  pub across : (me from to : EdgeId) (wire : WireId) (row : WirePlan) → wire_row plan wire ≡ Some row → mate row me.0 from.0 ≡ Some to → TellsAcross plan me from to wire row (network.edges me.0)

-- an edge advertises a content with this status to a neighbour
pub record TellsWith (network : NetworkState) (wire : WireId) (status : Option PwStatus) (a b : ℕ) : Type 0 where
  pub label : ℕ
  pub content : Told
  pub is : ((network.edges a).ends wire.0 b).local ≡ Advertised label content
  pub status_is : content.status ≡ status

-- ---- what an end that should tell something has

wish_on : (plan : Plan) (edge : EdgeState) (place : EndPlace) (row : Option WirePlan) → is_some (wish_of plan edge place row) ≡ true → edge.wire_on place.wire.0 ≡ true
wish_on plan edge place None some = clash some
wish_on plan edge place (Some row) some = by (edge.wire_on place.wire.0) refl some where
  by : (b : Bool) → edge.wire_on place.wire.0 ≡ b → is_some (cond (b && is_up_with (edge.peering place.peer.0)) (wish_by plan edge place row) None) ≡ true → b ≡ true
  by true is some = refl
  by false is some = clash some

pub stood : (place : EndPlace) (content : Told) (wished : Option Told) → offer_stands place content wished ≡ true → is_some wished ≡ true
stood place content None still = clash still
stood place content (Some wished) still = refl

-- an end without a session holds nothing
low_held : (limit : ℕ) (up : Bool) (e : EndState) (binding : Binding) → IsSoundEnd limit up e → e.remote ≡ Some binding → up ≡ true
low_held limit true e binding sound held = refl
low_held limit false e binding sound held = none_some binding (sym sound.1 ∙ held)

-- ---- a wire of the service

module _ (plan : Plan) (network : NetworkState) (service : ServiceId) (has : HasSettled plan network service) (wire : WireId) (row : WirePlan) (is : wire_row plan wire ≡ Some row) (ours : is_wire_of service row ≡ true) where
  pub row_is : IsWireOf plan row
  row_is = wire_fits plan wire row has.checked is

  -- ---- two neighbours

  module _ (a b : ℕ) (joined : joins a b row.path ≡ true) where
    two : AreSettled plan network a b
    two = has.settled a b (joined_by plan network service a b wire row has.checked is ours joined)

    -- both ends stand, where one does
    pub both_stand : stands network a b ≡ true → BothStand network a b
    both_stand there = by (stands network a b) (stands network b a) (is_drained network a b && is_drained network b a) refl refl there
        (are_settled plan network service a b wire row has.checked is ours joined has.quiet) where
          by : (x y drained : Bool) → stands network a b ≡ x → stands network b a ≡ y → x ≡ true → (not x && not y) || ((x && y) && drained) ≡ true → BothStand network a b
          by true true drained one other there test = record { one = one; other = other }
          by true false drained one other there test = clash test
          by false y drained one other there test = clash there

    pub connected_both : are_connected network a b ≡ true → BothStand network a b
    connected_both connected = record { one = first_holds (stands network a b) (stands network b a) connected; other = second_holds (stands network a b) (stands network b a) connected }

    pub both_connected : BothStand network a b → are_connected network a b ≡ true
    both_connected both = rw (both.one, both.other) refl

    pub up_both : is_up_with ((network.edges a).peering b) ≡ true → BothStand network a b
    up_both up = both_stand (has_end ((network.edges a).peering b) up)

    pub agreed : BothStand network a b → HasAgreed ((network.edges a).ends wire.0 b) ((network.edges b).ends wire.0 a)
    agreed both = (two.up both).1.1 wire row is joined

    pub stands_up : BothStand network a b → is_up_with ((network.edges a).peering b) ≡ true
    stands_up both =
        let up : IsUp network a b = (two.up both).0 in
        ap is_up_with up.is ∙ ap is_operational up.up

    -- an edge that tells a neighbour something has a session with it that is up, and one that holds something too
    pub told_up : (label : ℕ) (content : Told) → ((network.edges a).ends wire.0 b).local ≡ Advertised label content → is_up_with ((network.edges a).peering b) ≡ true
    told_up label content told = (advertised_up (point_limit plan a wire.0) (is_up_with ((network.edges a).peering b)) ((network.edges a).ends wire.0 b) label content ((has.ordered.sound a).ends wire.0 b) told).0

    pub held_up : (binding : Binding) → ((network.edges a).ends wire.0 b).remote ≡ Some binding → is_up_with ((network.edges a).peering b) ≡ true
    held_up binding held = low_held (point_limit plan a wire.0) (is_up_with ((network.edges a).peering b)) ((network.edges a).ends wire.0 b) binding ((has.ordered.sound a).ends wire.0 b) held

    -- what it tells is what the plan has it tell, but for the status
    pub tells_expected : (label : ℕ) (content : Told) → ((network.edges a).ends wire.0 b).local ≡ Advertised label content → TellsExpected plan row a b content
    tells_expected label content told =
        subst (NearTells plan row a b) told ((has.told a b (joins_apart row.path a b row_is.once joined)).planned.near wire row is joined)

    -- no end was declined, and none waits for a release
    pub undeclined : BothStand network a b → ((network.edges a).ends wire.0 b).local ≢ Idle true
    undeclined both = (has.declines a b both).undeclined wire row is joined

  turned : (a b : ℕ) → joins a b row.path ≡ true → joins b a row.path ≡ true
  turned a b joined = sym (joins_turned row.path a b) ∙ joined

  -- what one tells the other one holds
  pub holds : {status : Option PwStatus} (a b : ℕ) → joins a b row.path ≡ true → (tells : TellsWith network wire status b a)
      → ((network.edges a).ends wire.0 b).remote ≡ Some (record { label = tells.label; told = tells.content })
  holds a b joined tells =
      let there : BothStand network b a = up_both b a (turned a b joined) (told_up b a (turned a b joined) tells.label tells.content tells.is) in
      (agreed a b joined (record { one = there.other; other = there.one })).near ∙ ap advertised_by tells.is

  -- and what it holds the other one tells
  abbrev pub held_told : (a b : ℕ) (binding : Binding) → joins a b row.path ≡ true → ((network.edges a).ends wire.0 b).remote ≡ Some binding → TellsWith network wire binding.told.status b a
  held_told a b binding joined held = record {
    label = binding.label;
    content = binding.told;
    is = far_advertises plan network service a b wire row binding has.checked has.quiet has.settled is ours joined held;
    status_is = refl;
  }

  -- ---- the offer that is told

  pub offer_on : (a b : ℕ) → follows row.path a b ≡ true → (expected plan row a b).offer ≡ row.near
  offer_on a b way = ap (λ (t : Bool). cond t row.near row.far) way

  pub offer_back : (a b : ℕ) → follows row.path b a ≡ true → (expected plan row a b).offer ≡ row.far
  offer_back a b way = ap (λ (t : Bool). cond t row.near row.far) (one_way row.path b a row_is.once way)

  -- ---- an edge and its end beside a neighbour

  module _ (e n : EdgeId) (joined : joins e.0 n.0 row.path ≡ true) where
    pub named : NamedEnd plan e n wire row
    named = end_of plan e n wire row has.checked is joined

    pub end_same : end_at (network.edges e.0) named.place ≡ (network.edges e.0).ends wire.0 n.0
    end_same = ap (λ (w : WireId). (network.edges e.0).ends w.0 named.place.peer.0) named.wire_is ∙ ap (λ (k : EdgeId). (network.edges e.0).ends wire.0 k.0) named.peer_is

    pub mended_here : is_mended plan (network.edges e.0) named.place ≡ true
    mended_here =
        (find_holds (λ (p : EndPlace). is_mended plan (network.edges e.0) p ≡ true) (is_named n row.pw_id) (end_places plan e) named.place (has.mended e.0).ends named.named).holds

    pub status_here : is_told plan (network.edges e.0) named.place ≡ true
    status_here =
        (find_holds (λ (p : EndPlace). is_told plan (network.edges e.0) p ≡ true) (is_named n row.pw_id) (end_places plan e) named.place (has.mended e.0).statuses named.named).holds

    module _ (label : ℕ) (content : Told) (told : ((network.edges e.0).ends wire.0 n.0).local ≡ Advertised label content) where
      pub local_is : (end_at (network.edges e.0) named.place).local ≡ Advertised label content
      local_is = ap (λ (s : EndState). s.local) end_same ∙ told

      -- it should tell something, so the wire is on
      pub wished : is_some (wish plan (network.edges e.0) named.place) ≡ true
      wished = stood named.place content (wish plan (network.edges e.0) named.place) (rw local_is at mended_here)

      pub on_here : (network.edges e.0).wire_on wire.0 ≡ true
      on_here = ap (λ (w : WireId). (network.edges e.0).wire_on w.0) (sym named.wire_is) ∙ wish_on plan (network.edges e.0) named.place (wire_row plan named.place.wire) wished

  -- ---- a switching point

  -- it tells one neighbour what it holds of the other one, the status too
  pub goes_back : (status : Option PwStatus) (x w y : EdgeId) → mate_on row.path x.0 w.0 ≡ Some y → TellsWith network wire status x.0 y.0 → TellsWith network wire status w.0 x.0
  goes_back status x w y mated tells =
      let passes : PassesOn plan x w y wire row (network.edges x.0) tells.content = (has.across x w y wire row is mated).advertised tells.label tells.content tells.is in
      let beside : joins x.0 w.0 row.path ≡ true = mate_joined row.path x.0 y.0 w (other_side row.path x w y row_is.once mated) in
      let before : TellsWith network wire passes.binding.told.status w.0 x.0 = held_told x.0 w.0 passes.binding beside passes.held in
      record {
        label = before.label;
        content = before.content;
        is = before.is;
        status_is = before.status_is ∙ (ap (λ (t : Told). t.status) (sym passes.content_is) ∙ tells.status_is);
      }

  -- where its wire is on and it is connected with the other neighbour, it tells on what it is told, if it has a label
  pub goes_on : (status : Option PwStatus) (x w y : EdgeId) → HasLabel network wire x.0 y.0 → (network.edges x.0).wire_on wire.0 ≡ true → are_connected network x.0 y.0 ≡ true
      → mate_on row.path x.0 w.0 ≡ Some y → TellsWith network wire status w.0 x.0 → TellsWith network wire status x.0 y.0
  goes_on status x w y labels on connected mated tells =
      by ((has.chains wire row is ours).goes_on w x y tells.content mated (record { label = tells.label; is = tells.is }) on (stands_up x.0 y.0 joined both))
    where
      joined : joins x.0 y.0 row.path ≡ true
      joined = mate_joined row.path x.0 w.0 y mated

      both : BothStand network x.0 y.0
      both = connected_both x.0 y.0 joined connected

      by : TellsOn (network.edges x.0) wire y (told_on plan row x w tells.content) → TellsWith network wire status x.0 y.0
      by (Tells label at) = record { label = label; content = told_on plan row x w tells.content; is = at; status_is = tells.status_is }
      by (HasNoLabel idle none) = clash (ap is_some (sym none) ∙ labels (ap is_idle idle))
