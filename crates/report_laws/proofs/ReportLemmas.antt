-- What is told of a run can be read.
use Rattle.std.proofs.Common.{◌≤◌, ◌<◌, ◌^◌, ◌∷◌, [], ℕ, List, arith}
use Rattle.std.proofs.lemmas.List.Elements.{All-cons, All-head, All-nil, All-tail}
use Rattle.std.specs.List.{All, AllByRecursion}
use Rattle.net_values.proofs.RowLemmas.{all-append}
use Rattle.net_base.specs.declared.plan.Plan.{Plan}
use Rattle.net_base.specs.declared.trace.entry.Entry.{Entry}
use Rattle.net_base.specs.declared.trace.entry.Entry.TheVariants as entry
use Rattle.net_base.specs.declared.trace.event.Event.{Event}
use Rattle.net_base.specs.declared.trace.event.Event.TheVariants as event
use Rattle.net_base.specs.plan.Planned.{IsEventOf}
use Rattle.network_model.specs.Run.{entries_along, run}
use Rattle.network_model.specs.State.{NetworkState, empty_network}
use Rattle.network_model.specs.Step.{brings, step}
use Rattle.seen_laws.proofs.SplitLemmas.{NoEvent, brings_quiet}
use Rattle.report_text.specs.declared.ending.Ending.{Ending}
use Rattle.event_rows.specs.Rows.{AreOctetsTold, IsNamedEvent}
use Rattle.report_text.specs.Named.{IsEntryNamed}
use Rattle.report_text.specs.Read.{IsReported}
use Rattle.report_laws.specs.Laws.{IsTypedTrace, RunsAreReported}
use Rattle.report_laws.specs.Places.{CountsFromOne, IsEntryOf}
use Rattle.report_laws.specs.Types.{AreTypedOctets, IsTypedEntry, IsTypedEvent}
use Rattle.report_laws.proofs.RunLemmas.{runs_tell}

-- ---- the events that are told are those that were done

-- an event that is told counts from one
abbrev pub CountsIfEvent : Entry → Type 0
CountsIfEvent (entry.Did done) = CountsFromOne done
CountsIfEvent told = Unit {0}

none_count : (es : List Entry) → NoEvent es → AllByRecursion CountsIfEvent es
none_count [] none = tt
none_count (entry.Did done ∷ es) none = absurd none
none_count (e ∷ es) none = (tt, none_count es none)

along_counts : (plan : Plan) (events : List Event) (network : NetworkState) → All CountsFromOne events → AllByRecursion CountsIfEvent (entries_along plan network events)
along_counts plan [] network counts = tt
along_counts plan (e ∷ es) network counts =
    all-append CountsIfEvent (step plan network e).entries (entries_along plan (step plan network e).state es)
    (All-head CountsFromOne e es counts, none_count (brings plan e network).entries (brings_quiet plan e network))
    (along_counts plan es (step plan network e).state (All-tail CountsFromOne e es counts))

-- ---- what is named, in its range

octets_told : (octets : List ℕ) → AreTypedOctets octets → AreOctetsTold octets
octets_told [] all = All-nil (λ octet. octet < 256)
octets_told (x ∷ xs) all = All-cons (λ octet. octet < 256) x xs all.0 (octets_told xs all.1)

last_number : (n : ℕ) → n < 2 ^ 64 → n ≤ 18446744073709551615
last_number n below = omega (arith, below)

event_named : (plan : Plan) (done : Event) → IsEventOf plan done → CountsFromOne done → IsTypedEvent done → IsNamedEvent plan done
event_named plan (event.Connect from to) of_plan counts typed = (of_plan.0, of_plan.1)
event_named plan (event.Deliver from to count) of_plan counts typed = (of_plan.0, (of_plan.1, (counts, typed)))
event_named plan (event.Lose edge peer) of_plan counts typed = (of_plan.0, of_plan.1)
event_named plan (event.Restart edge) of_plan counts typed = of_plan
event_named plan event.Tick of_plan counts typed = tt
event_named plan (event.Frame circuit octets) of_plan counts typed = (of_plan.0, (octets_told octets typed, of_plan.1))
event_named plan (event.Arrive packet) of_plan counts typed = (counts, last_number packet typed)
event_named plan (event.Discard packet) of_plan counts typed = (counts, last_number packet typed)
event_named plan (event.Again packet) of_plan counts typed = (counts, last_number packet typed)
event_named plan (event.Wire edge wire on) of_plan counts typed = (of_plan.0, of_plan.1)
event_named plan (event.Circuit circuit on) of_plan counts typed = of_plan
event_named plan (event.Status edge wire bits) of_plan counts typed = (of_plan.0, (of_plan.1, (omega arith, of_plan.2)))
event_named plan (event.Priority edge wire priority) of_plan counts typed = (of_plan.0, (of_plan.1, (omega arith, typed)))
event_named plan (event.Ping edge wire) of_plan counts typed = (of_plan.0, of_plan.1)

entry_named : (plan : Plan) (told : Entry) → IsEntryOf plan told → CountsIfEvent told → IsTypedEntry told → IsEntryNamed plan told
entry_named plan (entry.Did done) of_plan counts typed = event_named plan done of_plan counts typed
entry_named plan entry.Idle of_plan counts typed = tt
entry_named plan (entry.Said from to octets) of_plan counts typed = (of_plan.0, (of_plan.1, octets_told octets typed))
entry_named plan (entry.In circuit number octets) of_plan counts typed = (of_plan, (typed.0, octets_told octets typed.1))
entry_named plan (entry.Sent from to wire came packet origin hops octets) of_plan counts typed =
    (of_plan.0, (of_plan.1.0, (of_plan.1.1.0, (of_plan.1.1.1, (typed.0, (typed.1.0, (typed.1.1.0, octets_told octets typed.1.1.1)))))))
entry_named plan (entry.Copied packet of) of_plan counts typed = typed
entry_named plan (entry.Aged packet) of_plan counts typed = typed
entry_named plan (entry.Left circuit origin hops octets) of_plan counts typed = (of_plan, (typed.0, (typed.1.0, octets_told octets typed.1.1)))
entry_named plan (entry.Dropped edge origin cause) of_plan counts typed = (of_plan, typed)
entry_named plan (entry.Session edge peer state) of_plan counts typed = of_plan
entry_named plan (entry.Wire edge wire down) of_plan counts typed = of_plan
entry_named plan (entry.Pong edge wire sequence) of_plan counts typed = (of_plan.0, (of_plan.1, (omega arith, typed)))

all_named : (plan : Plan) (es : List Entry) → AllByRecursion (IsEntryOf plan) es → AllByRecursion CountsIfEvent es → All IsTypedEntry es → AllByRecursion (IsEntryNamed plan) es
all_named plan [] of_plan counts typed = tt
all_named plan (e ∷ es) of_plan counts typed =
    (entry_named plan e of_plan.0 counts.0 (All-head IsTypedEntry e es typed), all_named plan es of_plan.1 counts.1 (All-tail IsTypedEntry e es typed))

-- entries that speak of rows of the plan, behind events that count from one
pub reported_by : (plan : Plan) (events : List Event) (ending : Ending) → AllByRecursion (IsEntryOf plan) (run plan events).entries → All CountsFromOne events
    → IsTypedTrace (run plan events).entries ending → IsReported plan (run plan events).entries ending
reported_by plan events ending of_plan counts trace = record {
  named = all_named plan (run plan events).entries of_plan (along_counts plan events (empty_network plan) counts) trace.typed;
  few = trace.few;
  ends = trace.ends;
}

pub run_reported : RunsAreReported
run_reported plan events ending is counts trace = reported_by plan events ending (runs_tell plan events is) counts trace
