-- Each site that a flooded frame reaches gets it exactly once, in every run: before the frame enters nothing is told of it, in its
-- window each copy that is due is served, and after the window no copy of it is under way.
use Rattle.std.proofs.Common.{◌≡◌, ◌+◌, ◌++◌, ◌&&◌, ◌∙◌, ℕ, Bool, List, [], ◌∷◌, cond, nat_eq, not, ap, sym, subst, inl, inr, arith, append_assoc, append-nil}
use Rattle.std.proofs.lemmas.Bool.{cases_Bool}
use Rattle.net_values.proofs.BoolLemmas.{first_holds}
use Rattle.net_base.specs.declared.plan.Plan.{Plan}
use Rattle.net_base.specs.declared.plan.places.CircuitId.{CircuitId}
use Rattle.net_base.specs.declared.plan.places.ServiceId.{ServiceId}
use Rattle.net_base.specs.declared.trace.entry.Entry.{Entry}
use Rattle.net_base.specs.declared.trace.event.Event.{Event}
use Rattle.net_base.specs.declared.trace.event.Event.TheVariants.{Frame}
use Rattle.net_base.specs.plan.Places.{circuit_row}
use Rattle.network_model.specs.Absorb.{Stepped}
use Rattle.network_model.specs.Calm.{has_live_spokes, is_full, is_quiet}
use Rattle.network_model.specs.Frame.{next_origin}
use Rattle.network_model.specs.OnceEach.{LeftWithin, times_left}
use Rattle.network_model.specs.Reach.{is_site}
use Rattle.network_model.specs.Run.{entries_along, state_after}
use Rattle.network_model.specs.State.{NetworkState, empty_network}
use Rattle.network_model.specs.Step.{step}
use Rattle.network_model.specs.Window.{Window}
use Rattle.network_model.proofs.AbsorbLemmas.{of_origin, times_left-append, within-append}
use Rattle.network_model.proofs.OtherLemmas.{IsApart, along, apart_after, counts_rise, never_within, some_number}
use Rattle.network_model.proofs.RunLemmas.{along-append}
use Rattle.flight_laws.specs.Laws.{IsRun}
use Rattle.flood_laws.specs.Laws.{RunsReachWhatWiresCarry, RunsServeOnce}
use Rattle.flood_laws.specs.Reached.{is_reached, sender_reaches}
use Rattle.flood_laws.specs.ReachedEach.{QuietWindow, ServedReached}
use Rattle.flood_laws.proofs.CalmReachLemmas.{all_reached}
use Rattle.flood_laws.proofs.CountLemmas.{awaited, due}
use Rattle.flood_laws.proofs.OriginLemmas.{none_of}
use Rattle.flood_laws.proofs.ServeLemmas.{Serves}
use Rattle.flood_laws.proofs.SoFarLemmas.{early, entered_one, served_so_far}
use Rattle.flood_laws.proofs.StartLemmas.{owed_reached}

module _ (plan : Plan) (events : List Event) (run : IsRun plan events) (before : List Event) (at : CircuitId) (octets : List ℕ) (during after : List Event) (service : ServiceId)
    (split : events ≡ before ++ Frame at octets ∷ (during ++ after)) (window : QuietWindow plan before at octets during service) where
  abbrev calm : NetworkState
  calm = state_after plan (empty_network plan) before

  abbrev origin : ℕ
  origin = next_origin calm

  abbrev entry : Stepped
  entry = step plan calm (Frame at octets)

  abbrev last : NetworkState
  last = state_after plan entry.state during

  -- what it tells before
  abbrev trace : List Entry
  trace = entries_along plan (empty_network plan) before

  -- the whole window is a front of itself
  whole : QuietWindow plan before at octets (during ++ []) service
  whole = subst (λ (es : List Event). QuietWindow plan before at octets es service) (sym (append-nil during)) window

  nothing_before : (circuit : CircuitId) → IsApart origin circuit (empty_network plan) (along plan (empty_network plan) before)
  nothing_before circuit = early plan events run before at octets during [] after service split whole circuit

  entered : entry.state.entered ≡ calm.entered + 1
  entered = entered_one plan events run before at octets during [] after service split whole

  served : Serves plan calm service whole.frame origin (owed_reached plan calm service at) (record { state = last; entries = entry.entries ++ entries_along plan entry.state during })
  served = served_so_far plan events run before at octets during [] after service split whole

  over : of_origin origin last.under_way ≡ []
  over = none_of origin last.under_way window.over

  late : (circuit : CircuitId) → IsApart origin circuit last (along plan last after)
  late circuit = apart_after plan origin circuit last after (some_number calm.entered) (omega (arith, entered, counts_rise plan entry.state during)) over

  told : entries_along plan (empty_network plan) events ≡ trace ++ ((entry.entries ++ entries_along plan entry.state during) ++ entries_along plan last after)
  told =
      ap (λ (l : List Event). entries_along plan (empty_network plan) l) split
      ∙ (along-append plan (empty_network plan) before (Frame at octets ∷ (during ++ after))
      ∙ ap (λ (l : List Entry). trace ++ l)
      (ap (λ (l : List Entry). entry.entries ++ l) (along-append plan entry.state during after)
      ∙ sym (append_assoc entry.entries (entries_along plan entry.state during) (entries_along plan last after))))

  -- what leaves does so in the window
  counted : (circuit : CircuitId) → times_left origin circuit (entries_along plan (empty_network plan) events) ≡ times_left origin circuit (entry.entries ++ entries_along plan entry.state during)
  counted circuit =
      ap (times_left origin circuit) told
      ∙ omega (
        arith,
        times_left-append origin circuit trace ((entry.entries ++ entries_along plan entry.state during) ++ entries_along plan last after),
        times_left-append origin circuit (entry.entries ++ entries_along plan entry.state during) (entries_along plan last after),
        (nothing_before circuit).left,
        (late circuit).left,
      )

  once : (circuit : CircuitId) → times_left origin circuit (entries_along plan (empty_network plan) events) ≡ cond {A = ℕ} (is_reached plan calm service at circuit) 1 0
  once circuit = elim (cases_Bool (is_site plan calm service circuit)) [
    | inl site ↦
        let none : due plan calm service circuit origin last ≡ 0 = ap (awaited plan calm service circuit) over in
        omega (arith, counted circuit, served.balance circuit site, none)
    | inr away ↦
        counted circuit ∙ (served.none circuit away
        ∙ ap (λ (b : Bool). cond {A = ℕ} ((b && sender_reaches plan calm service (circuit_row plan at) (circuit_row plan circuit)) && not (nat_eq circuit.0 at.0)) 1 0) (sym away))
  ]

  within : LeftWithin 12 origin (entries_along plan (empty_network plan) events)
  within = subst (LeftWithin 12 origin) (sym told)
      (within-append 12 origin trace ((entry.entries ++ entries_along plan entry.state during) ++ entries_along plan last after)
      (never_within 12 origin trace (λ circuit. (nothing_before circuit).left))
      (within-append 12 origin (entry.entries ++ entries_along plan entry.state during) (entries_along plan last after) served.within
      (never_within 12 origin (entries_along plan last after) (λ circuit. (late circuit).left))))

  serves_reached : ServedReached 12 plan before at service (entries_along plan (empty_network plan) events)
  serves_reached = record { once = once; within = within }

-- once at each site that it reaches and nowhere else, within twelve segments
pub runs_reach_what_wires_carry : RunsReachWhatWiresCarry
runs_reach_what_wires_carry plan events run before at octets during after service split window = serves_reached plan events run before at octets during after service split window

-- ---- in a calm service

-- a window of a calm service is one of a quiet service
pub quiet_window : (plan : Plan) (before : List Event) (at : CircuitId) (octets : List ℕ) (during : List Event) (service : ServiceId) → Window plan before at octets during service
    → QuietWindow plan before at octets during service
quiet_window plan before at octets during service window = record {
  sender = window.sender;
  on = window.on;
  frame = window.frame;
  formed = window.formed;
  quiet = first_holds (is_quiet plan calm service) (is_full plan calm service)
      (first_holds (is_quiet plan calm service && is_full plan calm service) (has_live_spokes plan calm service) window.calm);
  flooded = window.flooded;
  spared = window.spared;
  over = window.over;
}
  where
    calm : NetworkState
    calm = state_after plan (empty_network plan) before

-- once at each other site of the service and nowhere else, within twelve segments
pub runs_serve_once : RunsServeOnce
runs_serve_once plan events run before at octets during after service split window = record {
  once = λ circuit. serves.once circuit ∙ ap (λ (b : Bool). cond {A = ℕ} b 1 0) (all_reached plan (state_after plan (empty_network plan) before) service run.checked window.calm at circuit window.sender);
  within = serves.within;
}
  where
    serves : ServedReached 12 plan before at service (entries_along plan (empty_network plan) events)
    serves = runs_reach_what_wires_carry plan events run before at octets during after service split (quiet_window plan before at octets during service window)
