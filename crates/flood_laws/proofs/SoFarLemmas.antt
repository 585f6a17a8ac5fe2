-- A window up to some event of it: before the frame enters nothing is told of it, and from its entry on each copy that is due is served.
use Rattle.std.proofs.Common.{◌≡◌, ◌+◌, ◌++◌, ◌∙◌, ℕ, true, false, List, [], ◌∷◌, Option, Some, None, Ok, option_map, refl, ap, subst, inl, inr, arith}
use Rattle.std.proofs.lemmas.List.Elements.{All-head, All-tail}
use Rattle.std.proofs.lemmas.Bool.{and_from, or_from}
use Rattle.std.specs.List.{All}
use Rattle.net_values.proofs.BoolLemmas.{first_holds, second_holds, second_fails, first_fails}
use Rattle.net_values.proofs.RowLemmas.{front_all, back_all}
use Rattle.net_base.specs.declared.plan.Plan.{Plan}
use Rattle.net_base.specs.declared.plan.circuit_plan.CircuitPlan.{CircuitPlan}
use Rattle.net_base.specs.declared.plan.places.CircuitId.{CircuitId}
use Rattle.net_base.specs.declared.plan.places.ServiceId.{ServiceId}
use Rattle.net_base.specs.declared.trace.entry.Entry.{Entry}
use Rattle.net_base.specs.declared.trace.entry.Entry.TheVariants.{In}
use Rattle.net_base.specs.declared.trace.event.Event.{Event}
use Rattle.net_base.specs.declared.trace.event.Event.TheVariants.{Frame}
use Rattle.net_base.specs.plan.Accepted.{IsChecked}
use Rattle.net_base.specs.plan.Places.{circuit_row, mtu_of}
use Rattle.net_base.specs.plan.Planned.{IsEventOf}
use Rattle.net_base.specs.plan.Roles.{are_joined_by}
use Rattle.net_base.specs.trace.Isolated.{inner_at}
use Rattle.net_base.specs.trace.Frame.{destination_of}
use Rattle.network_model.specs.Absorb.{Stepped}
use Rattle.network_model.specs.Frame.{frame_event, frame_work, next_origin}
use Rattle.network_model.specs.Reach.{is_row_on}
use Rattle.network_model.specs.Run.{entries_along, state_after}
use Rattle.network_model.specs.State.{NetworkState, empty_network}
use Rattle.network_model.specs.Step.{step}
use Rattle.network_model.specs.Window.{all_spare, is_flooded_frame, some_teach, spares, teaches}
use Rattle.network_model.proofs.AbsorbLemmas.{of_origin}
use Rattle.network_model.proofs.FloodLemmas.{unknown_heard}
use Rattle.network_model.proofs.OtherLemmas.{IsApart, along, apart_before, entering_counts, some_number, numbered_from}
use Rattle.flight_laws.specs.Laws.{AreSettled, IsRun}
use Rattle.flight_laws.proofs.BoundRunLemmas.{runs_settle}
use Rattle.flight_laws.proofs.RuledNetworkLemmas.{IsRuledNetwork}
use Rattle.flight_laws.proofs.RuledRunLemmas.{run_ruled}
use Rattle.flight_laws.proofs.RunLemmas.{run_ordered}
use Rattle.packet_laws.proofs.ArriveLemmas.{IsSized, come_sized}
use Rattle.packet_laws.proofs.RunLemmas.{runs_keep_packet_rule}
use Rattle.flood_laws.specs.ReachedEach.{QuietWindow}
use Rattle.flood_laws.proofs.EntryLemmas.{flooded_unlearned}
use Rattle.flood_laws.proofs.JoinedLemmas.{IsSteady, run_steady}
use Rattle.flood_laws.proofs.ServeLemmas.{Serves, serves_then, serves_told}
use Rattle.flood_laws.proofs.StartLemmas.{entering_is, entering_serves, owed_reached, still_self}
use Rattle.flood_laws.proofs.StillLemmas.{step_still, step_unlearned}
use Rattle.flood_laws.proofs.WindowLemmas.{IsAfter, IsReached, StaysUnknown, step_reached, window_serves}

-- ---- the events before the frame, and from it on

-- ---- the frame enters

-- its step serves each site but the sender, or owes it a copy
record Starts (plan : Plan) (calm : NetworkState) (service : ServiceId) (frame : List ℕ) (at : CircuitId) (stepped : Stepped) : Type 0 where
  serves : Serves plan calm service frame (next_origin calm) (owed_reached plan calm service at) stepped
  entered : stepped.state.entered ≡ calm.entered + 1

starts : (plan : Plan) (calm : NetworkState) (at : CircuitId) (octets frame : List ℕ) (service : ServiceId) (during : List Event) (found : Option CircuitPlan)
    → IsChecked plan → IsSteady plan calm service → ((a b : ℕ) → are_joined_by plan service a b ≡ true → AreSettled plan calm a b) → IsSized (mtu_of plan service) frame
    → IsRuledNetwork plan calm → circuit_row plan at ≡ found → option_map (λ (row : CircuitPlan). row.service) found ≡ Some service → is_row_on calm at found ≡ true
    → inner_at plan at octets ≡ Ok frame
    → is_flooded_frame plan calm service frame (Frame at octets ∷ during) ≡ true → of_origin (next_origin calm) calm.under_way ≡ []
    → Starts plan calm service frame at (frame_event plan at octets found calm)
starts plan calm at octets frame service during None checked steady settled sized ruled is of_service on formed floods none = absurd (cc (of_service))
starts plan calm at octets frame service during (Some row) checked steady settled sized ruled is of_service on formed floods none =
    let same : row.service ≡ service = cc (of_service) in
    by same steady settled sized floods
  where
    by : row.service ≡ service → IsSteady plan calm service → ((a b : ℕ) → are_joined_by plan service a b ≡ true → AreSettled plan calm a b) → IsSized (mtu_of plan service) frame
        → is_flooded_frame plan calm service frame (Frame at octets ∷ during) ≡ true → Starts plan calm service frame at (frame_event plan at octets (Some row) calm)
    by same = subst (λ (s : ServiceId). IsSteady plan calm s → ((a b : ℕ) → are_joined_by plan s a b ≡ true → AreSettled plan calm a b) → IsSized (mtu_of plan s) frame
        → is_flooded_frame plan calm s frame (Frame at octets ∷ during) ≡ true → Starts plan calm s frame at (frame_event plan at octets (Some row) calm)) same
        (λ steady_here settled_here sized_here floods_here.
        let unknown = unknown_heard plan calm at octets frame row during checked is on formed floods_here in
        record {
          serves = entering_serves plan calm at octets frame row checked steady_here settled_here sized_here ruled is on formed unknown none;
          entered =
              ap (λ (stepped : Stepped). stepped.state.entered) (entering_is plan calm at octets frame row checked steady_here settled_here sized_here ruled is on formed unknown none)
              ∙ entering_counts at octets row (frame_work plan calm at octets row) calm;
        })

-- ---- what holds of a window holds up to any event of it

front_spare : (plan : Plan) (origin : ℕ) (network : NetworkState) (xs ys : List Event) → all_spare plan origin network (xs ++ ys) ≡ true → all_spare plan origin network xs ≡ true
front_spare plan origin network [] ys all = refl
front_spare plan origin network (e ∷ xs) ys all =
    and_from (spares network origin e) (all_spare plan origin (step plan network e).state xs)
    (first_holds (spares network origin e) (all_spare plan origin (step plan network e).state (xs ++ ys)) all)
    (front_spare plan origin (step plan network e).state xs ys (second_holds (spares network origin e) (all_spare plan origin (step plan network e).state (xs ++ ys)) all))

front_untaught : (plan : Plan) (network : NetworkState) (service : ServiceId) (address : List ℕ) (xs ys : List Event) → some_teach plan network service address (xs ++ ys) ≡ false
    → some_teach plan network service address xs ≡ false
front_untaught plan network service address [] ys none = refl
front_untaught plan network service address (e ∷ xs) ys none =
    or_from (teaches plan network service address e) (some_teach plan (step plan network e).state service address xs)
    (first_fails (teaches plan network service address e) (some_teach plan (step plan network e).state service address (xs ++ ys)) none)
    (front_untaught plan (step plan network e).state service address xs ys
    (second_fails (teaches plan network service address e) (some_teach plan (step plan network e).state service address (xs ++ ys)) none))

-- ---- from the entry on

module _ (plan : Plan) (events : List Event) (run : IsRun plan events) (before : List Event) (at : CircuitId) (octets : List ℕ) (during rest after : List Event) (service : ServiceId)
    (split : events ≡ before ++ Frame at octets ∷ (during ++ after)) (window : QuietWindow plan before at octets (during ++ rest) service) where
  abbrev calm : NetworkState
  calm = state_after plan (empty_network plan) before

  abbrev origin : ℕ
  origin = next_origin calm

  abbrev entry : Stepped
  entry = step plan calm (Frame at octets)

  abbrev frame : List ℕ
  frame = window.frame

  -- what it tells before
  abbrev trace : List Entry
  trace = entries_along plan (empty_network plan) before

  planned : All (IsEventOf plan) (before ++ Frame at octets ∷ (during ++ after))
  planned = subst (All (IsEventOf plan)) split run.planned

  from_frame : All (IsEventOf plan) (Frame at octets ∷ (during ++ after))
  from_frame = back_all (IsEventOf plan) before (Frame at octets ∷ (during ++ after)) planned

  run_before : IsRun plan before
  run_before = record { checked = run.checked; types = run.types; planned = front_all (IsEventOf plan) before (Frame at octets ∷ (during ++ after)) planned }

  reached : IsReached plan calm trace
  reached = record { ordered = run_ordered plan before run_before; ruled = run_ruled plan before run_before; rule = runs_keep_packet_rule plan before run_before }

  settled : (a b : ℕ) → are_joined_by plan service a b ≡ true → AreSettled plan calm a b
  settled a b joined =
      runs_settle plan before run_before service window.quiet a b joined

  steady : IsSteady plan calm service
  steady = run_steady plan before service run_before window.quiet

  sized : IsSized (mtu_of plan service) frame
  sized = come_sized plan (In at origin octets ∷ []) service origin frame
      (record { numbered = numbered_from calm.entered; sender = at; octets = octets; told = inl refl; of_service = window.sender; formed = window.formed })

  -- nothing is told of the frame before it enters
  pub early : (circuit : CircuitId) → IsApart origin circuit (empty_network plan) (along plan (empty_network plan) before)
  early circuit = apart_before plan origin circuit (empty_network plan) before (some_number calm.entered) (omega arith) refl

  begins : Starts plan calm service frame at (frame_event plan at octets (circuit_row plan at) calm)
  begins = starts plan calm at octets frame service (during ++ rest)
      (circuit_row plan at) run.checked steady settled sized reached.ruled refl window.sender window.on window.formed window.flooded (early at).under_way

  first : Serves plan calm service frame origin (owed_reached plan calm service at) entry
  first = serves_told plan calm service frame origin (owed_reached plan calm service at) (Frame at octets) (frame_event plan at octets (circuit_row plan at) calm) begins.serves

  after_entry : IsAfter plan calm service frame origin entry.state
  after_entry = record {
    still = step_still plan calm calm trace origin (Frame at octets) run.checked reached.ruled reached.rule refl (still_self calm);
    copies = first.copies;
    issued = omega (arith, begins.entered);
    numbered = some_number calm.entered;
  }

  unknown : StaysUnknown plan service frame entry.state during
  unknown = elim (flooded_unlearned plan calm service frame at octets (during ++ rest) window.flooded) [
    | inl group ↦ inl group
    | inr stays ↦
        inr (
          step_unlearned plan calm trace origin service (destination_of frame) (Frame at octets) run.checked reached.ruled reached.rule refl stays.first stays.now,
          front_untaught plan entry.state service (destination_of frame) during rest stays.later,
        )
  ]

  -- one frame more has entered
  pub entered_one : entry.state.entered ≡ calm.entered + 1
  entered_one = begins.entered

  -- from its entry to the last of the events
  pub served_so_far : Serves plan calm service frame origin (owed_reached plan calm service at) (record { state = state_after plan entry.state during; entries = entry.entries ++ entries_along plan entry.state during })
  served_so_far =
      serves_then plan calm service frame origin (owed_reached plan calm service at) entry (along plan entry.state during) first
      (window_serves plan calm service frame origin run.checked steady settled sized entry.state (trace ++ entry.entries) during run.types
      (front_all (IsEventOf plan) during after (All-tail (IsEventOf plan) (Frame at octets) (during ++ after) from_frame))
      (step_reached plan calm trace (Frame at octets) run.checked run.types (All-head (IsEventOf plan) (Frame at octets) (during ++ after) from_frame) reached)
      after_entry unknown (front_spare plan origin entry.state during rest window.spared))
