-- What stays of labels whatever happens, and what the end of a wire holds and tells, in each state of a run.
use Rattle.std.proofs.Common.{◌≡◌, ◌<◌, ◌+◌, ◌∙◌, nat_eq, ℕ, Bool, refl, true, false, Some, sym, subst}
use Rattle.net_base.specs.declared.plan.Plan.{Plan}
use Rattle.net_base.specs.declared.plan.places.EdgeId.{EdgeId}
use Rattle.net_base.specs.declared.plan.places.WireId.{WireId}
use Rattle.net_base.specs.declared.plan.wire_plan.WirePlan.{WirePlan}
use Rattle.net_base.specs.declared.trace.event.Event.{Event}
use Rattle.net_base.specs.declared.trace.event.Event.TheVariants.{Tick}
use Rattle.net_base.specs.plan.Accepted.{IsChecked}
use Rattle.net_base.specs.plan.Paths.{joins}
use Rattle.net_base.specs.plan.Places.{wire_row}
use Rattle.net_base.specs.plan.Planned.{IsEventOf}
use Rattle.net_values.specs.Label.{IsLabel}
use Rattle.net_values.proofs.NumberLemmas.{same_number}
use Rattle.net_base.proofs.PathLemmas.{joins_turned}
use Rattle.pw_signalling.specs.declared.binding.Binding.{Binding}
use Rattle.pw_signalling.specs.declared.told.Told.{Told}
use Rattle.pw_signalling.specs.End.{Advertised}
use Rattle.edge_model.specs.EndPlaces.{is_terminal}
use Rattle.network_model.specs.State.{NetworkState}
use Rattle.network_model.specs.Step.{brings}
use Rattle.flight_laws.specs.Ends.{HasTypes, IsOrdered}
use Rattle.label_space.specs.Kept.{rest_ticks}
use Rattle.flight_laws.specs.Rules.{BindsGiven, FarTells, MayCarry, MayName, NearTells, TellsExpected, part_owns}
use Rattle.flight_laws.proofs.PlaceLemmas.{wire_apart}
use Rattle.flight_laws.proofs.RuledLemmas.{IsRuledEdge}
use Rattle.flight_laws.proofs.RuledMendLemmas.{wire_fits, label_below_next}
use Rattle.flight_laws.proofs.RuledNetworkLemmas.{IsRuledNetwork}
use Rattle.flight_laws.proofs.RuledEventLemmas.{tick_event_ruled}
use Rattle.flight_laws.proofs.RuledRunLemmas.{brings_stays, is_tick}
use Rattle.flight_laws.proofs.TellLemmas.{TellsOwnOffer, tells_own_offer}
use Rattle.flight_laws.proofs.ToldLemmas.{HeldFits, TellsAt}

-- ---- labels

-- the age of a packet after an event
abbrev pub grown : Bool → ℕ → ℕ
grown true age = age + 1
grown false age = age

-- a label that a packet may carry to an end it may carry after every event: after a tick it is a tick older
pub brings_may_carry : (plan : Plan) (event : Event) (network : NetworkState) → IsChecked plan → HasTypes plan → IsEventOf plan event → IsOrdered plan network
    → IsRuledNetwork plan network → (k wire peer age label : ℕ)
    → grown (is_tick event) age < rest_ticks → MayCarry (network.edges k) wire peer age label → MayCarry ((brings plan event network).state.edges k) wire peer (grown (is_tick event) age) label
brings_may_carry plan Tick network checked types planned ordered ruled k wire peer age label young may = (tick_event_ruled plan checked types network ruled).grows k wire peer age label young may
brings_may_carry plan event network checked types planned ordered ruled k wire peer age label young may =
    (brings_stays plan event network checked types planned ordered ruled refl).keeps k wire peer age label may

-- ---- ends

-- a binding that an edge holds of a wire: its label was given by the peer for this end, and its content is the planned one
pub record IsPlannedBinding (plan : Plan) (network : NetworkState) (me peer : ℕ) (wire : WireId) (row : WirePlan) (binding : Binding) : Type 0 where
  pub may : MayName (network.edges peer) wire.0 me binding.label
  pub is_label : IsLabel binding.label
  pub tells : TellsExpected plan row peer me binding.told

-- an advertisement of a wire by an edge: its label was given for this end, and its content is the planned one
pub record IsPlannedAdvertisement (plan : Plan) (network : NetworkState) (me peer : ℕ) (wire : WireId) (row : WirePlan) (label : ℕ) (told : Told) : Type 0 where
  pub may : MayName (network.edges me) wire.0 peer label
  pub is_label : IsLabel label
  pub tells : TellsExpected plan row me peer told

-- what an edge holds and advertises of a wire beside a peer
pub record IsPlannedEnd (plan : Plan) (network : NetworkState) (me peer : ℕ) (wire : WireId) (row : WirePlan) : Type 0 where
  pub holds : (binding : Binding) → ((network.edges me).ends wire.0 peer).remote ≡ Some binding → IsPlannedBinding plan network me peer wire row binding
  pub advertises : (label : ℕ) (told : Told) → ((network.edges me).ends wire.0 peer).local ≡ Advertised label told → IsPlannedAdvertisement plan network me peer wire row label told

pub end_is_planned : (plan : Plan) (network : NetworkState) → IsChecked plan → IsRuledNetwork plan network → (me peer : ℕ) (wire : WireId) (row : WirePlan) → wire_row plan wire
    ≡ Some row → joins me peer row.path ≡ true
    → IsPlannedEnd plan network me peer wire row
end_is_planned plan network checked ruled me peer wire row is joined = record {
  holds = λ binding at. record {
    may = subst (BindsGiven (network.edges peer) wire.0 me) at ((ruled.two me peer apart).1.bound wire.0);
    is_label = (subst HeldFits at tells.held).0;
    tells = subst (FarTells plan row peer me) at (tells.far row is (sym (joins_turned row.path me peer) ∙ joined));
  };
  advertises = λ label told at.
      let own : part_owns ((network.edges me).ends wire.0 peer).local label ≡ true = rw at (same_number label) in
      let may : MayName (network.edges me) wire.0 peer label = edge.owned wire.0 peer label own in
      record {
        may = may;
        is_label = record { above = edge.least.owned wire.0 peer label own; below = label_below_next label (network.edges me).next_label may.below edge.most };
        tells = subst (NearTells plan row me peer) at (tells.near row is joined);
      };
}
  where
    apart : nat_eq me peer ≡ false
    apart = wire_apart plan wire row me peer checked is joined

    edge : IsRuledEdge plan me (network.edges me)
    edge = ruled.edges me

    tells : TellsAt plan me wire.0 peer ((network.edges me).ends wire.0 peer)
    tells = edge.tells wire.0 peer

-- ---- offers

-- a terminal edge is expected to tell its own offer, which no point has passed on
pub terminal_offer : (plan : Plan) (wire : WireId) (row : WirePlan) (me peer : EdgeId) → IsChecked plan → wire_row plan wire ≡ Some row → joins me.0 peer.0 row.path ≡ true → is_terminal row me ≡ true
    → TellsOwnOffer plan row me.0 peer.0
terminal_offer plan wire row me peer checked is joined terminal = tells_own_offer plan row me peer (wire_fits plan wire row checked is).once joined terminal
