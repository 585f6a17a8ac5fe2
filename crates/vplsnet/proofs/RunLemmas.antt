-- A run over events of an accepted plan keeps every promise.
use Rattle.std.proofs.Common.{◌≡◌, ◌++◌, ◌∷◌, ℕ, List, [], Option, Some, None, length, subst, sym}
use Rattle.std.specs.List.{All}
use Rattle.net_values.proofs.RowLemmas.{front_all}
use Rattle.net_base.specs.declared.plan.Plan.{Plan}
use Rattle.net_base.specs.declared.trace.entry.Entry.{Entry}
use Rattle.net_base.specs.declared.trace.event.Event.{Event}
use Rattle.net_base.specs.plan.Accepted.{IsChecked}
use Rattle.net_base.specs.plan.Planned.{IsEventOf, IsFrame}
use Rattle.network_model.specs.State.{empty_network}
use Rattle.flight_laws.specs.Laws.{IsRun}
use Rattle.flight_laws.proofs.AcrossLemmas.{runs_take_mappings, runs_tell_across}
use Rattle.flight_laws.proofs.BoundRunLemmas.{runs_agree_after_flight, runs_settle}
use Rattle.flight_laws.proofs.ReleaseLemmas.{runs_await_releases, runs_decline_none, runs_release_unadvertised}
use Rattle.flight_laws.proofs.RuledRunLemmas.{runs_keep_label_rule, runs_keep_told_rule}
use Rattle.flight_laws.proofs.RunLemmas.{runs_come_up, runs_end_well, runs_follow_table}
use Rattle.flight_laws.proofs.StayLemmas.{deliveries_end_none}
use Rattle.network_model.proofs.SplitLemmas.{run_split}
use Rattle.network_model.proofs.KnownLemmas.{run_serves_known_once}
use Rattle.packet_laws.proofs.SharedLemmas.{runs_share_channels}
use Rattle.packet_laws.proofs.RunLemmas.{runs_are_isolated, runs_keep_echoes_apart, runs_keep_packet_rule}
use Rattle.flood_laws.proofs.ChainLemmas.{runs_tell_in_chains}
use Rattle.flood_laws.proofs.RunLemmas.{runs_reach_what_wires_carry, runs_serve_once}
use Rattle.flood_laws.proofs.ShareLemmas.{runs_share_sites}
use Rattle.flood_laws.proofs.ShareReachedLemmas.{runs_share_reached}
use Rattle.flood_laws.proofs.WholeLemmas.{runs_keep_wires_whole}
use Rattle.address_laws.proofs.KnownLemmas.{runs_reach_known}
use Rattle.address_laws.proofs.PointsLemmas.{runs_keep_points}
use Rattle.move_laws.proofs.HealLemmas.{runs_heal_moves}
use Rattle.settle_laws.proofs.RunLemmas.{deliveries_keep_choice, deliveries_keep_sound, runs_carry_sound, runs_come_to_calm, runs_rest_quiet, runs_settle_calm}
use Rattle.quiet_laws.proofs.RunLemmas.{runs_rest_by_measure}
use Rattle.settle_bounds.proofs.SettleLemmas.{runs_have_bounds}
use Rattle.report_laws.proofs.RunLemmas.{runs_tell}
use Rattle.seen_laws.proofs.CalmLemmas.{run_calm}
use Rattle.seen_laws.proofs.SourceLemmas.{runs_seen_once}
use Rattle.spelling_laws.proofs.RunLemmas.{runs_spell_pdus}
use Rattle.psn_net.specs.declared.net_stop.NetStop.{NetStop}
use Rattle.psn_net.specs.Lists.{NetLists, network_seen}
use Rattle.psn_net.specs.Runs.{AreDone, IsRunOf}
use Rattle.psn_net.proofs.RunLemmas.{run_of}
use Rattle.command_text.specs.Planned.{IsPlanned}
use Rattle.scenario_text.specs.declared.scenario.Scenario.{Scenario}
use Rattle.vplsnet.specs.Promises.{KeepsPromises}
use Rattle.vplsnet.specs.RunOver.{HasRunOver, IsRunOver}
use Rattle.vplsnet.specs.ScenarioRun.{HasRun, IsScenarioRun, events_of}
use Rattle.command_run.proofs.PlannedLemmas.{made_planned}
use Rattle.vplsnet.proofs.SettleLemmas as settle

-- the first events of a run are a run
run_of_first : (plan : Plan) (events before after : List Event) → events ≡ before ++ after → IsRun plan events → IsRun plan before
run_of_first plan events before after joined run = record {
  checked = run.checked;
  types = run.types;
  planned = front_all (IsEventOf plan) before after (subst (λ (es : List Event). All (IsEventOf plan) es) joined run.planned);
}

promises_kept : (plan : Plan) (events : List Event) → IsRun plan events → KeepsPromises plan events
promises_kept plan events run = record {
  isolated = runs_are_isolated plan events run;
  split = run_split plan events run.checked;
  packets = λ before after joined. runs_keep_packet_rule plan before (first before after joined);
  echoes = λ before after joined. runs_keep_echoes_apart plan before (first before after joined);
  channels = λ before after joined. runs_share_channels plan before (first before after joined);
  once = runs_serve_once plan events run;
  shared = runs_share_sites plan events run;
  reached = runs_reach_what_wires_carry plan events run;
  left = runs_share_reached plan events run;
  known = run_serves_known_once plan events run.checked;
  points = runs_keep_points plan events run;
  stations = runs_reach_known plan events run;
  moves = runs_heal_moves plan events run;
  table = λ before after joined a b. runs_follow_table plan before (first before after joined) a b;
  up = λ before after joined a b. runs_come_up plan before (first before after joined) a b;
  agree = λ before after joined a b. runs_agree_after_flight plan before (first before after joined) a b;
  awaited = λ before after joined a b. runs_await_releases plan before (first before after joined) a b;
  released = λ before after joined a b. runs_release_unadvertised plan before (first before after joined) a b;
  declined = λ before after joined a b. runs_decline_none plan before (first before after joined) a b;
  settled = λ before after joined service quiet a b. runs_settle plan before (first before after joined) service quiet a b;
  across = λ before after joined me from to wire row is mates. runs_tell_across plan before (first before after joined) me from to wire row is mates;
  taken = λ before after joined from to apart. runs_take_mappings plan before (first before after joined) from to apart;
  chains = λ before after joined. runs_tell_in_chains plan before (first before after joined);
  whole = λ before after joined. runs_keep_wires_whole plan before (first before after joined);
  carries = λ before after joined. runs_carry_sound plan before (first before after joined);
  calm = λ before after joined. runs_settle_calm plan before (first before after joined);
  stand = λ before after joined. deliveries_end_none plan before (first before after joined);
  sound = λ before after joined. deliveries_keep_sound plan before (first before after joined);
  used = λ before after joined. deliveries_keep_choice plan before (first before after joined);
  rest = λ before after joined. runs_rest_quiet plan before (first before after joined);
  comes = λ before after joined. runs_come_to_calm plan before (first before after joined);
  rests = λ before after joined. runs_rest_by_measure plan before (first before after joined);
  settles = λ before after joined. settle.settles_all plan before;
  settles_calm = λ before after joined. settle.settles_calm plan before (first before after joined);
  bounded = λ before after joined. runs_have_bounds plan before (first before after joined);
  settles_by = λ before after joined. settle.settles_by_bound plan before (first before after joined);
  labels = λ before after joined. runs_keep_label_rule plan before (first before after joined);
  contents = λ before after joined. runs_keep_told_rule plan before (first before after joined);
  endings = runs_end_well plan events run;
  spelled = runs_spell_pdus plan events run;
  told = runs_tell plan events run;
  seen_calm = λ before after joined service. run_calm plan before service (first before after joined);
  seen_once = runs_seen_once plan events run;
}
  where
    first : (before after : List Event) → events ≡ before ++ after → IsRun plan before
    first before after joined = run_of_first plan events before after joined run

-- the events that were done are the first ones of all
done_first : (plan : Plan) (all done : List Event) (trace : List Entry) (count : ℕ) (stop : Option NetStop) → AreDone all done trace count stop → All (IsEventOf plan) all → All (IsEventOf plan) done
done_first plan all done trace count None same planned = subst (λ (es : List Event). All (IsEventOf plan) es) same planned
done_first plan all done trace count (Some stop) stopped planned =
    front_all (IsEventOf plan) done (stopped.event ∷ stopped.rest) (subst (λ (es : List Event). All (IsEventOf plan) es) stopped.split planned)

pub is_run_over : (plan : Plan) (events : List Event) (left : NetLists) (reason : Option NetStop) → IsChecked plan → All (IsEventOf plan) events → HasRunOver plan events left reason
    → IsRunOver plan events left reason
is_run_over plan events left reason checked planned has =
    let run : IsRunOf plan (empty_network plan) [] events left reason = run_of plan (empty_network plan) [] events left reason has.ends in
    let done : All (IsEventOf plan) run.done = done_first plan events run.done left.trace (length (network_seen left).under_way) reason run.are_done planned in
    record {
      plan_is = has.plan_is;
      going = has.going;
      ends = has.ends;
      done = run.done;
      are_done = run.are_done;
      state_is = run.ran.state_is;
      trace_is = run.ran.trace_is;
      promises = promises_kept plan run.done (record { checked = checked; types = has.types; planned = done });
    }

pub is_scenario_run : (scenario : Scenario) (captures : List (List (List ℕ))) (left : NetLists) (reason : Option NetStop) → IsChecked scenario.plan
    → All (IsPlanned scenario.plan) scenario.commands → All (All IsFrame) captures
    → HasRun scenario captures left reason → IsScenarioRun scenario captures left reason
is_scenario_run scenario captures left reason checked planned short has =
    let events : All (IsEventOf scenario.plan) (events_of scenario captures) = made_planned scenario.plan (empty_network scenario.plan) captures scenario.commands short planned in
    let over : IsRunOver scenario.plan (events_of scenario captures) left reason = is_run_over scenario.plan (events_of scenario captures) left reason checked events has in
    record { is_run = over; settled = settle.settles_at_last scenario captures left reason (record { checked = checked; types = has.types; planned = events }) over }

pub checked_as : (plan left : Plan) → left ≡ plan → IsChecked plan → IsChecked left
checked_as plan left same checked = subst (λ (p : Plan). IsChecked p) (sym same) checked
