-- Every run keeps to it.
use Rattle.net_base.specs.declared.plan.Plan.{Plan}
use Rattle.net_base.specs.declared.plan.places.ServiceId.{ServiceId}
use Rattle.net_base.specs.declared.trace.event.Event.{Event}
use Rattle.std.proofs.Common.{◌≡◌, ◌++◌, ◌∙◌, true, List}
use Rattle.std.specs.List.{All}
use Rattle.std.proofs.lemmas.List.Elements.{All-append}
use Rattle.net_base.specs.plan.Planned.{IsEventOf}
use Rattle.network_model.specs.Calm.{is_quiet}
use Rattle.flight_laws.specs.Laws.{IsRun, network_after}
use Rattle.flight_laws.proofs.AcrossLemmas.{runs_tell_across}
use Rattle.flight_laws.proofs.BoundRunLemmas.{runs_settle}
use Rattle.flight_laws.proofs.MendedRunLemmas.{run_mended_at}
use Rattle.flight_laws.proofs.ReleaseLemmas.{runs_decline_none}
use Rattle.flight_laws.proofs.RuledRunLemmas.{runs_keep_told_rule}
use Rattle.flight_laws.proofs.RunLemmas.{run_ordered}
use Rattle.flood_laws.proofs.ChainLemmas.{runs_tell_in_chains}
use Rattle.settle_laws.specs.Laws.{DeliveriesKeepChoice, DeliveriesKeepSound, RunsCarrySound, RunsChooseSound, RunsComeToCalm, RunsRestCalm, RunsRestQuiet, RunsSettleCalm}
use Rattle.settle_laws.proofs.CalmLemmas.{calm_same, carries_same, chooses_sound}
use Rattle.settle_laws.proofs.KeepLemmas.{deliveries_sound}
use Rattle.settle_laws.proofs.RestLemmas.{rest_quiet}
use Rattle.settle_laws.proofs.WireLemmas.{HasSettled}

has_settled : (plan : Plan) (events : List Event) (service : ServiceId) → IsRun plan events → is_quiet plan (network_after plan events) service ≡ true → HasSettled plan (network_after plan events) service
has_settled plan events service run quiet = record {
  checked = run.checked;
  quiet = quiet;
  settled = λ a b joined. runs_settle plan events run service quiet a b joined;
  declines = λ a b both. runs_decline_none plan events run a b both;
  mended = run_mended_at plan events run;
  told = runs_keep_told_rule plan events run;
  ordered = run_ordered plan events run;
  chains = λ wire row is ours. runs_tell_in_chains plan events run service quiet wire row is ours;
  across = λ me from to wire row is mated. runs_tell_across plan events run me from to wire row is mated;
}

pub runs_settle_calm : RunsSettleCalm
runs_settle_calm plan events run service labels quiet = calm_same plan (network_after plan events) service (has_settled plan events service run quiet) labels

pub runs_carry_sound : RunsCarrySound
runs_carry_sound plan events run service labels quiet wire row is ours = carries_same plan (network_after plan events) service (has_settled plan events service run quiet) labels wire row is ours

pub runs_choose_sound : RunsChooseSound
runs_choose_sound plan events run service labels quiet edge = chooses_sound plan (network_after plan events) service (has_settled plan events service run quiet) labels edge

pub runs_rest_quiet : RunsRestQuiet
runs_rest_quiet plan events run none service = rest_quiet plan events run none service

pub runs_rest_calm : RunsRestCalm
runs_rest_calm plan events run none service labels = runs_settle_calm plan events run service labels (runs_rest_quiet plan events run none service)

pub deliveries_keep_sound : DeliveriesKeepSound
deliveries_keep_sound plan events run deliveries are service = (deliveries_sound plan events deliveries run are service).sound

pub deliveries_keep_choice : DeliveriesKeepChoice
deliveries_keep_choice plan events run deliveries are service edge = (deliveries_sound plan events deliveries run are service).choice edge

-- a run goes on with further events of the plan
run_further : (plan : Plan) (events more : List Event) → IsRun plan events → All (IsEventOf plan) more → IsRun plan (events ++ more)
run_further plan events more run planned = record { checked = run.checked; types = run.types; planned = All-append (IsEventOf plan) events more run.planned planned }

pub runs_come_to_calm : RunsComeToCalm
runs_come_to_calm plan events run deliveries planned are none service labels =
    runs_rest_calm plan (events ++ deliveries) (run_further plan events deliveries run planned) none service labels ∙ (deliveries_sound plan events deliveries run are service).sound
