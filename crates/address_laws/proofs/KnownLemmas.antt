-- In each stretch of a run a frame to a known station reaches the station's site once, and no other circuit more than once: before
-- it enters nothing is told of it, then each copy that is due is served, and once none is under way nothing more is told of it.
use Rattle.std.proofs.Common.{◌≡◌, ◌≤◌, ◌++◌, ◌&&◌, ◌∙◌, ℕ, Bool, true, false, List, [], ◌∷◌, cond, nat_eq, not, refl, ap, sym, subst, inl, inr, arith, append_assoc}
use Rattle.std.proofs.lemmas.Bool.{cases_Bool}
use Rattle.std.proofs.lemmas.List.Elements.{All-head, All-tail}
use Rattle.std.proofs.lemmas.List.Folds.{list_all-append}
use Rattle.std.specs.List.{All, list_all}
use Rattle.net_values.proofs.BoolLemmas.{first_holds}
use Rattle.net_values.proofs.RowLemmas.{front_all, back_all}
use Rattle.net_base.specs.declared.plan.Plan.{Plan}
use Rattle.net_base.specs.declared.plan.places.CircuitId.{CircuitId}
use Rattle.net_base.specs.declared.plan.places.ServiceId.{ServiceId}
use Rattle.net_base.specs.declared.trace.entry.Entry.{Entry}
use Rattle.net_base.specs.declared.trace.entry.Entry.TheVariants.{In}
use Rattle.net_base.specs.declared.trace.event.Event.{Event}
use Rattle.net_base.specs.declared.trace.event.Event.TheVariants.{Frame}
use Rattle.net_base.specs.plan.Places.{circuit_row, mtu_of}
use Rattle.net_base.specs.plan.Planned.{IsEventOf}
use Rattle.net_base.specs.plan.Roles.{are_joined_by}
use Rattle.net_base.specs.trace.Frame.{destination_of}
use Rattle.network_model.specs.Absorb.{Stepped}
use Rattle.network_model.specs.Calm.{has_live_spokes, is_full, is_quiet}
use Rattle.network_model.specs.Frame.{frame_event, next_origin}
use Rattle.network_model.specs.OnceEach.{LeftWithin, times_left}
use Rattle.network_model.specs.Reach.{is_site}
use Rattle.network_model.specs.Run.{entries_along, run, state_after}
use Rattle.network_model.specs.State.{NetworkState, empty_network}
use Rattle.network_model.specs.Step.{step}
use Rattle.network_model.proofs.AbsorbLemmas.{of_origin, times_left-append, within-append}
use Rattle.network_model.proofs.OtherLemmas.{IsApart, along, apart_after, apart_before, counts_rise, never_within, some_number, numbered_from}
use Rattle.network_model.proofs.RunLemmas.{after-append, along-append}
use Rattle.flight_laws.specs.Laws.{AreSettled, IsRun, network_after}
use Rattle.flight_laws.proofs.BoundRunLemmas.{runs_settle}
use Rattle.flight_laws.proofs.RuledRunLemmas.{run_ruled}
use Rattle.flight_laws.proofs.RunLemmas.{run_ordered}
use Rattle.packet_laws.proofs.ArriveLemmas.{IsSized, come_sized}
use Rattle.packet_laws.proofs.RunLemmas.{runs_keep_packet_rule}
use Rattle.flood_laws.specs.Copy.{IsStill}
use Rattle.flood_laws.proofs.CountLemmas.{awaited, due}
use Rattle.flood_laws.proofs.OriginLemmas.{none_of}
use Rattle.flood_laws.proofs.StartLemmas.{owed_to, still_self}
use Rattle.flood_laws.proofs.StillLemmas.{step_still}
use Rattle.flood_laws.proofs.WindowLemmas.{IsAfter, IsReached, step_reached}
use Rattle.address_laws.specs.Known.{EntersForSite, ReachesSite}
use Rattle.address_laws.specs.Laws.{RunsReachKnown}
use Rattle.address_laws.specs.Points.{Points}
use Rattle.address_laws.specs.Sites.{OneSite, Sites}
use Rattle.address_laws.specs.Stretch.{StartsRight, is_of_stretch}
use Rattle.address_laws.proofs.KnownEntryLemmas.{Starts, starts}
use Rattle.address_laws.proofs.KnownServeLemmas.{ServesSite, serves_site_then, serves_site_told}
use Rattle.address_laws.proofs.KnownStillLemmas.{site_still, stretch_still}
use Rattle.address_laws.proofs.KnownWindowLemmas.{PointOn, window_serves_site}
use Rattle.address_laws.proofs.PointsLemmas.{runs_keep_points}

module _ (plan : Plan) (events : List Event) (is_run : IsRun plan events) (before during : List Event) (at : CircuitId) (octets : List ℕ) (later after : List Event) (service : ServiceId) (site : Sites)
    (split : events ≡ before ++ (during ++ Frame at octets ∷ (later ++ after))) (one : OneSite plan service site (run plan events).entries) (right : StartsRight plan (network_after plan before) service site)
    (stretch : list_all is_of_stretch during ≡ true) (enters : EntersForSite plan (network_after plan (before ++ during)) service site at octets later) where
  abbrev calm : NetworkState
  calm = network_after plan before

  abbrev network : NetworkState
  network = network_after plan (before ++ during)

  abbrev origin : ℕ
  origin = next_origin network

  abbrev entry : Stepped
  entry = step plan network (Frame at octets)

  abbrev last : NetworkState
  last = state_after plan entry.state later

  abbrev frame : List ℕ
  frame = enters.frame

  abbrev target : CircuitId
  target = site (destination_of frame)

  -- what it tells before
  abbrev trace : List Entry
  trace = entries_along plan (empty_network plan) (before ++ during)

  parted : events ≡ (before ++ during) ++ Frame at octets ∷ (later ++ after)
  parted = split ∙ sym (append_assoc before during (Frame at octets ∷ (later ++ after)))

  planned : All (IsEventOf plan) ((before ++ during) ++ Frame at octets ∷ (later ++ after))
  planned = subst (All (IsEventOf plan)) parted is_run.planned

  planned_before : All (IsEventOf plan) (before ++ during)
  planned_before = front_all (IsEventOf plan) (before ++ during) (Frame at octets ∷ (later ++ after)) planned

  from_frame : All (IsEventOf plan) (Frame at octets ∷ (later ++ after))
  from_frame = back_all (IsEventOf plan) (before ++ during) (Frame at octets ∷ (later ++ after)) planned

  run_calm : IsRun plan before
  run_calm = record { checked = is_run.checked; types = is_run.types; planned = front_all (IsEventOf plan) before during planned_before }

  run_before : IsRun plan (before ++ during)
  run_before = record { checked = is_run.checked; types = is_run.types; planned = planned_before }

  reached : IsReached plan network trace
  reached = record { ordered = run_ordered plan (before ++ during) run_before; ruled = run_ruled plan (before ++ during) run_before; rule = runs_keep_packet_rule plan (before ++ during) run_before }

  settled : (a b : ℕ) → are_joined_by plan service a b ≡ true → AreSettled plan calm a b
  settled a b joined =
      runs_settle plan before run_calm service
      (first_holds (is_quiet plan calm service) (is_full plan calm service)
      (first_holds (is_quiet plan calm service && is_full plan calm service) (has_live_spokes plan calm service) right.calm)) a b joined

  still : IsStill calm network
  still = subst (IsStill calm) (sym (after-append plan (empty_network plan) before during)) (stretch_still plan calm calm during stretch (still_self calm))

  sized : IsSized (mtu_of plan service) frame
  sized = come_sized plan (In at origin octets ∷ []) service origin frame
      (record { numbered = numbered_from network.entered; sender = at; octets = octets; told = inl refl; of_service = enters.sender; formed = enters.formed })

  on : is_site plan calm service target ≡ true
  on = sym (site_still plan calm network service target still) ∙ enters.receives

  -- addresses point to their sites in each state of the stretch
  points : PointOn plan service site entry.state later
  points some rest parts all =
      subst (λ (n : NetworkState). Points plan n service site) there
      (runs_keep_points plan events is_run before (during ++ Frame at octets ∷ some) (rest ++ after) service site whole one right each).0
    where
      there : network_after plan (before ++ (during ++ Frame at octets ∷ some)) ≡ state_after plan entry.state some
      there =
          ap (network_after plan) (sym (append_assoc before during (Frame at octets ∷ some)))
          ∙ after-append plan (empty_network plan) (before ++ during) (Frame at octets ∷ some)

      whole : events ≡ before ++ ((during ++ Frame at octets ∷ some) ++ (rest ++ after))
      whole =
          split
          ∙ (ap (λ (l : List Event). before ++ (during ++ Frame at octets ∷ l)) (ap (λ (l : List Event). l ++ after) parts ∙ append_assoc some rest after)
          ∙ ap (λ (l : List Event). before ++ l) (sym (append_assoc during (Frame at octets ∷ some) (rest ++ after))))

      each : list_all is_of_stretch (during ++ Frame at octets ∷ some) ≡ true
      each = list_all-append is_of_stretch during (Frame at octets ∷ some) ∙ rw (stretch, all) refl

  -- nothing is told of the frame before it enters
  early : (circuit : CircuitId) → IsApart origin circuit (empty_network plan) (along plan (empty_network plan) (before ++ during))
  early circuit = apart_before plan origin circuit (empty_network plan) (before ++ during) (some_number network.entered) (omega arith) refl

  begins : Starts plan calm network service target frame at (frame_event plan at octets (circuit_row plan at) network)
  begins = starts plan calm network site at octets frame service (circuit_row plan at) is_run.checked right.calm settled sized reached.ruled still refl enters.sender enters.on enters.formed on
      (points [] later refl refl) (early at).under_way

  first : ServesSite plan calm service target frame origin (owed_to at) entry
  first = serves_site_told plan calm service target frame origin (owed_to at) (Frame at octets) (frame_event plan at octets (circuit_row plan at) network) begins.serves

  after_entry : IsAfter plan calm service frame origin entry.state
  after_entry = record {
    still = step_still plan calm network trace origin (Frame at octets) is_run.checked reached.ruled reached.rule refl still;
    copies = first.serves.copies;
    issued = omega (arith, begins.entered);
    numbered = some_number network.entered;
  }

  -- from its entry to the last of its copies
  served : ServesSite plan calm service target frame origin (owed_to at) (record { state = last; entries = entry.entries ++ entries_along plan entry.state later })
  served =
      serves_site_then plan calm service target frame origin (owed_to at) entry (along plan entry.state later) on first
      (window_serves_site plan calm service site frame origin is_run.checked right.calm settled sized on entry.state (trace ++ entry.entries) later is_run.types
      (front_all (IsEventOf plan) later after (All-tail (IsEventOf plan) (Frame at octets) (later ++ after) from_frame))
      (step_reached plan network trace (Frame at octets) is_run.checked is_run.types (All-head (IsEventOf plan) (Frame at octets) (later ++ after) from_frame) reached)
      after_entry points enters.spared)

  over : of_origin origin last.under_way ≡ []
  over = none_of origin last.under_way enters.over

  late : (circuit : CircuitId) → IsApart origin circuit last (along plan last after)
  late circuit = apart_after plan origin circuit last after (some_number network.entered) (omega (arith, begins.entered, counts_rise plan entry.state later)) over

  told : entries_along plan (empty_network plan) events ≡ trace ++ ((entry.entries ++ entries_along plan entry.state later) ++ entries_along plan last after)
  told =
      ap (λ (l : List Event). entries_along plan (empty_network plan) l) parted
      ∙ (along-append plan (empty_network plan) (before ++ during) (Frame at octets ∷ (later ++ after))
      ∙ ap (λ (l : List Entry). trace ++ l)
      (ap (λ (l : List Entry). entry.entries ++ l) (along-append plan entry.state later after)
      ∙ sym (append_assoc entry.entries (entries_along plan entry.state later) (entries_along plan last after))))

  -- what leaves does so there
  counted : (circuit : CircuitId) → times_left origin circuit (entries_along plan (empty_network plan) events) ≡ times_left origin circuit (entry.entries ++ entries_along plan entry.state later)
  counted circuit =
      ap (times_left origin circuit) told
      ∙ omega (
        arith,
        times_left-append origin circuit trace ((entry.entries ++ entries_along plan entry.state later) ++ entries_along plan last after),
        times_left-append origin circuit (entry.entries ++ entries_along plan entry.state later) (entries_along plan last after),
        (early circuit).left,
        (late circuit).left,
      )

  once : times_left origin target (entries_along plan (empty_network plan) events) ≡ 1
  once =
      let none : due plan calm service target origin last ≡ 0 = ap (awaited plan calm service target) over in
      let owed : owed_to at target ≡ 1 = ap (λ (b : Bool). cond {A = ℕ} (not b) 1 0) enters.other in
      omega (arith, counted target, served.serves.balance target on, served.same, none, owed)

  others : (circuit : CircuitId) → times_left origin circuit (entries_along plan (empty_network plan) events) ≤ 1
  others circuit = elim (cases_Bool (is_site plan calm service circuit)) [
    | inl here ↦ omega (arith, counted circuit, served.serves.balance circuit here, served.most circuit here, one_at_most (nat_eq circuit.0 at.0))
    | inr away ↦ omega (arith, counted circuit, served.serves.none circuit away)
  ]
    where
      one_at_most : (b : Bool) → cond {A = ℕ} (not b) 1 0 ≤ 1
      one_at_most true = omega arith
      one_at_most false = omega arith

  within : LeftWithin 12 origin (entries_along plan (empty_network plan) events)
  within = subst (LeftWithin 12 origin) (sym told)
      (within-append 12 origin trace ((entry.entries ++ entries_along plan entry.state later) ++ entries_along plan last after) (never_within 12 origin trace (λ circuit. (early circuit).left))
      (within-append 12 origin (entry.entries ++ entries_along plan entry.state later) (entries_along plan last after) served.serves.within
      (never_within 12 origin (entries_along plan last after) (λ circuit. (late circuit).left))))

  reaches_site : ReachesSite 12 target origin (entries_along plan (empty_network plan) events)
  reaches_site = record { once = once; others = others; within = within }

-- a frame to a known station reaches its site once, within twelve segments
pub runs_reach_known : RunsReachKnown
runs_reach_known plan events is_run before during at octets later after service site split one right stretch enters =
    reaches_site plan events is_run before during at octets later after service site split one right stretch enters
