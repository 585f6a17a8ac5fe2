-- The report of a scenario that was read meets all rules of an auditor.
use Rattle.std.proofs.Common.{◌≡◌, ◌<◌, ◌≤◌, ◌-◌, ◌^◌, ◌&&◌, ◌++◌, ◌∷◌, ℕ, Bool, true, false, cond, List, [], Option, Some, None, Result, Ok, Err, length, nat_le, nat_lt, slice_index_or, refl, sym, ap, subst, arith, inl, inr}
use Rattle.std.proofs.Math.Nat.{min-le_right}
use Rattle.std.specs.List.{All}
use Rattle.net_values.proofs.RowLemmas.{front_all}
use Rattle.net_base.specs.declared.plan.Plan.{Plan}
use Rattle.net_base.specs.declared.trace.entry.Entry.{Entry}
use Rattle.net_base.specs.declared.trace.event.Event.{Event}
use Rattle.net_base.specs.declared.trace.event.Event.TheVariants as event
use Rattle.psn_net.specs.declared.net_stop.NetStop.{NetStop}
use Rattle.psn_net.specs.declared.net_stop.NetStop.TheVariants.{Crowded, TooMuch}
use Rattle.psn_net.specs.Lists.{NetLists, network_seen}
use Rattle.psn_net.specs.Runs.{AreDone}
use Rattle.psn_net.specs.Weight.{counted_packets, may_send, most_packets, most_weight, next_event, stop_at, total_weight, weight_of}
use Rattle.command_text.specs.declared.command.Command.{Command}
use Rattle.command_text.specs.declared.command.Command.TheVariants.{One, Settle, Flow, Ticks, Play}
use Rattle.command_text.specs.declared.scenario_fault.ScenarioFault.{ScenarioFault}
use Rattle.scenario_text.specs.declared.scenario.Scenario.{Scenario}
use Rattle.scenario_text.specs.Document.{document}
use Rattle.event_laws.specs.Law.{IsEventInRange}
use Rattle.report_text.specs.Report.{report}
use Rattle.report_text.specs.Read.{IsEnding, IsReported}
use Rattle.report_entries.proofs.ToldLemmas.{report_told}
use Rattle.report_laws.specs.Laws.{IsTypedTrace}
use Rattle.report_laws.specs.Places.{CommandsFromOne, CountsFromOne}
use Rattle.report_laws.specs.Types.{IsTypedEntry}
use Rattle.report_laws.proofs.MadeLemmas.{made_count}
use Rattle.report_laws.proofs.ReportLemmas.{reported_by}
use Rattle.migration.specs.Sayable.{IsSayable}
use Rattle.migration.proofs.AcceptedLemmas.{read_scenario_is}
use Rattle.migration.proofs.JoinLemmas.{was_read, was_sayable}
use Rattle.migration.specs.Law.{WasRead}
use Rattle.trace_audit.specs.Audited.{IsGoodReport, IsGoodTrace}
use Rattle.vplsnet.specs.Answers.{PassesIfReport, run_text}
use Rattle.vplsnet.specs.Around.{Files, Has}
use Rattle.vplsnet.specs.Asked.{Asked, Replay, Tables, Capture, Decode, Rehearse, Migrate, Discover, Switchover, Audit}
use Rattle.vplsnet.specs.Inputs.{ComesTo, IsNextInput, IsNextPlayed, IsNextRead, Run, Works, played}
use Rattle.vplsnet.specs.Replay.{ending_by, replay_text}
use Rattle.vplsnet.specs.ScenarioRun.{IsScenarioRun, events_of}

-- ---- how a report ends

ends_stopped : (trace : List Entry) (count : ℕ) (done : Event) (stop : NetStop) → stop_at trace count done ≡ Some stop → IsEnding (ending_by (Some stop))
unfolding stop_at
ends_stopped trace count done stop refused = by (nat_lt most_weight (weight_of trace)) (may_send done && nat_le most_packets (counted_packets count)) refused where
  weight : weight_of trace < 2 ^ 64
  weight =
      let least : weight_of trace ≤ 2 ^ 64 - 1 = min-le_right (total_weight trace) (2 ^ 64 - 1) in
      omega (arith, least)

  packets : counted_packets count < 2 ^ 64
  packets =
      let least : counted_packets count ≤ 2 ^ 32 - 1 = min-le_right count (2 ^ 32 - 1) in
      omega (arith, least)

  by : (heavy crowded : Bool) → cond heavy (Some (TooMuch (weight_of trace) (next_event trace))) (cond crowded (Some (Crowded (counted_packets count) (next_event trace))) None) ≡ Some stop
      → IsEnding (ending_by (Some stop))
  by true crowded is = subst (λ (o : Option NetStop). IsEnding (ending_by o)) is weight
  by false true is = subst (λ (o : Option NetStop). IsEnding (ending_by o)) is packets
  by false false is = absurd (cc (is))

ends_by : (all done : List Event) (trace : List Entry) (count : ℕ) (reason : Option NetStop) → AreDone all done trace count reason → IsEnding (ending_by reason)
ends_by all done trace count None are = tt
ends_by all done trace count (Some stop) are = ends_stopped trace count are.event stop are.refused

-- the entries of a run, by what their types say
pub typed_trace : (scenario : Scenario) (captures : List (List (List ℕ))) (left : NetLists) (reason : Option NetStop) → IsScenarioRun scenario captures left reason
    → All IsTypedEntry left.trace → length left.trace < 2 ^ 64 → IsTypedTrace left.trace (ending_by reason)
typed_trace scenario captures left reason is typed few =
    record { typed = typed; few = few; ends = ends_by (events_of scenario captures) is.is_run.done left.trace (length (network_seen left).under_way) reason is.is_run.are_done }

-- ---- events count from one

event_counts : (done : Event) → IsEventInRange done → CountsFromOne done
event_counts (event.Deliver from to count) within = within.0
event_counts (event.Arrive packet) within = within.0
event_counts (event.Discard packet) within = within.0
event_counts (event.Again packet) within = within.0
event_counts done within = tt

command_counts : (plan : Plan) (command : Command) → IsSayable plan command → CommandsFromOne command
command_counts plan (One done) is = event_counts done is.1
command_counts plan (Settle count) is = tt
command_counts plan (Flow count) is = tt
command_counts plan (Ticks count) is = tt
command_counts plan (Play circuit file) is = tt

commands_count : (scenario : Scenario) → WasRead scenario → All CommandsFromOne scenario.commands
commands_count scenario was = λ k d lt. command_counts scenario.plan (slice_index_or scenario.commands k d) ((was_sayable scenario was).each k d lt)

done_count : (all done : List Event) (trace : List Entry) (count : ℕ) (reason : Option NetStop) → AreDone all done trace count reason → All CountsFromOne all → All CountsFromOne done
done_count all done trace count None same counts = subst (λ (es : List Event). All CountsFromOne es) same counts
done_count all done trace count (Some stop) stopped counts =
    front_all CountsFromOne done (stopped.event ∷ stopped.rest) (subst (λ (es : List Event). All CountsFromOne es) stopped.split counts)

-- ---- the report is good

good_run : (scenario : Scenario) (captures : List (List (List ℕ))) (left : NetLists) (reason : Option NetStop) → WasRead scenario → IsScenarioRun scenario captures left reason
    → IsTypedTrace left.trace (ending_by reason) → IsGoodReport scenario.plan (replay_text left reason)
good_run scenario captures left reason was is typed = record {
  trace = left.trace;
  told = report_told plan (replay_text left reason) left.trace (read_scenario_is was.bytes scenario was.is).plan.checked (was_sayable scenario was).names
      (record { ending = ending_by reason; reported = reported; is = ap (λ (p : Plan). report p left.trace (ending_by reason)) (sym is.is_run.plan_is) });
  is = subst (IsGoodTrace plan) (sym is.is_run.trace_is) (record { isolated = is.is_run.promises.isolated; split = is.is_run.promises.split; once = is.is_run.promises.seen_once });
}
  where
    plan : Plan
    plan = scenario.plan

    counts : All CountsFromOne is.is_run.done
    counts = done_count (events_of scenario captures) is.is_run.done left.trace (length (network_seen left).under_way) reason is.is_run.are_done
        (made_count plan captures scenario.commands (commands_count scenario was))

    reported : IsReported plan left.trace (ending_by reason)
    reported = subst (λ (t : List Entry). IsReported plan t (ending_by reason)) (sym is.is_run.trace_is)
        (reported_by plan is.is_run.done (ending_by reason) is.is_run.promises.told counts (subst (λ (t : List Entry). IsTypedTrace t (ending_by reason)) is.is_run.trace_is typed))

-- ---- the scenario of a report was read

played_scenario : (read_as scenario : Scenario) (had captures : List (List (List ℕ))) (files read : List (List ℕ)) → IsNextPlayed read_as had files read (Works (Run scenario captures))
    → read_as ≡ scenario
played_scenario read_as scenario had captures [] read is = cc (is)
played_scenario read_as scenario had captures (file ∷ files) [] is = absurd (cc (is))
played_scenario read_as scenario had captures (file ∷ files) (octets ∷ read) (inl (frames, is, next)) = played_scenario read_as scenario (had ++ frames ∷ []) captures files read next
played_scenario read_as scenario had captures (file ∷ files) (octets ∷ read) (inr (fault, first, next)) = absurd (cc (next))

replayed_was_read : (files : Files) (file : List ℕ) (scenario : Scenario) (captures : List (List (List ℕ))) → ComesTo (Has files) (Replay file) (Works (Run scenario captures)) → WasRead scenario
replayed_was_read files file scenario captures come = by come.read come.is_next where
  of : (octets : List ℕ) (read : List (List ℕ)) (result : Result Scenario ScenarioFault) → document octets ≡ result → IsNextRead (Replay file) result read (Works (Run scenario captures)) → WasRead scenario
  of octets read (Err fault) same is = absurd (cc (is))
  of octets read (Ok read_as) same is = subst WasRead (played_scenario read_as scenario [] captures (played read_as.commands) read is) (was_read octets read_as same)

  by : (read : List (List ℕ)) → IsNextInput (Replay file) read (Works (Run scenario captures)) → WasRead scenario
  by [] is = absurd (cc (is))
  by (octets ∷ read) is = of octets read (document octets) refl is

-- so it passes, if it is a report
pub passes_by : (files : Files) (asked : Asked) (scenario : Scenario) (captures : List (List (List ℕ))) (left : NetLists) (reason : Option NetStop)
    → ComesTo (Has files) asked (Works (Run scenario captures)) → IsScenarioRun scenario captures left reason → IsTypedTrace left.trace (ending_by reason)
    → PassesIfReport asked scenario.plan (run_text asked left reason)
passes_by files (Replay file) scenario captures left reason come is typed = good_run scenario captures left reason (replayed_was_read files file scenario captures come) is typed
passes_by files (Tables file) scenario captures left reason come is typed = tt
passes_by files (Capture file circuit) scenario captures left reason come is typed = tt
passes_by files (Rehearse seed) scenario captures left reason come is typed = tt
passes_by files (Decode file) scenario captures left reason come is typed = tt
passes_by files (Migrate file) scenario captures left reason come is typed = tt
passes_by files (Discover file script) scenario captures left reason come is typed = tt
passes_by files (Switchover file script) scenario captures left reason come is typed = tt
passes_by files (Audit file report) scenario captures left reason come is typed = tt
