-- Deliveries leave no end alone that was not.
use Rattle.std.proofs.Common.{◌≡◌, ◌⊎◌, ◌∙◌, Bool, true, false, refl, sym, inl, inr}
use Rattle.net_values.proofs.BoolLemmas.{clash}
use Rattle.net_base.specs.declared.trace.event.Event.TheVariants.{Deliver}
use Rattle.network_model.specs.State.{NetworkState, stands}
use Rattle.network_model.specs.Step.{step}
use Rattle.connection_laws.specs.Laws.{connects_them}
use Rattle.connection_laws.proofs.NetworkLemmas.{come_by_connections}
use Rattle.flight_laws.specs.Laws.{BothStand, network_after}
use Rattle.flight_laws.proofs.StayLemmas.{deliveries_end_none}
use Rattle.rest_laws.specs.Layers.{DeliveriesLeaveNoneAlone}

pub deliveries_leave_none_alone : DeliveriesLeaveNoneAlone
deliveries_leave_none_alone plan events run from to count a b alone = record { one = stood; other = by (stands network b a) refl } where
  network : NetworkState
  network = network_after plan events

  new : NetworkState
  new = (step plan network (Deliver from to count)).state

  came : (stands network a b ≡ true) ⊎ (connects_them (Deliver from to count) a b ≡ true) → stands network a b ≡ true
  came (inl is) = is
  came (inr is) = clash is

  stood : stands network a b ≡ true
  stood = came (come_by_connections plan network (Deliver from to count) a b alone.one)

  by : (x : Bool) → stands network b a ≡ x → stands network b a ≡ false
  by true there =
      let both : BothStand new a b = deliveries_end_none plan events run from to count a b (record { one = stood; other = there }) in
      clash (sym alone.other ∙ both.other)
  by false gone = gone
