-- At each moment of a window of a quiet service each site that is reached was served, or has still to be served by one copy under way.
use Rattle.std.proofs.Common.{◌≡◌, ◌+◌, ◌++◌, ◌&&◌, ◌∙◌, ℕ, zero, suc, Bool, true, false, List, [], ◌∷◌, cond, nat_eq, not, refl, ap, sym, subst, inl, inr, arith}
use Rattle.std.proofs.lemmas.Bool.{cases_Bool, eq-eqb}
use Rattle.std.specs.List.{AllByRecursion}
use Rattle.net_values.proofs.BoolLemmas.{clash_at}
use Rattle.net_base.specs.declared.plan.Plan.{Plan}
use Rattle.net_base.specs.declared.plan.places.CircuitId.{CircuitId}
use Rattle.net_base.specs.declared.plan.places.ServiceId.{ServiceId}
use Rattle.net_base.specs.declared.trace.entry.Entry.{Entry}
use Rattle.net_base.specs.declared.trace.event.Event.{Event}
use Rattle.net_base.specs.declared.trace.event.Event.TheVariants.{Frame}
use Rattle.network_model.specs.declared.packet.Packet.{Packet}
use Rattle.network_model.specs.Absorb.{Stepped}
use Rattle.network_model.specs.Frame.{next_origin}
use Rattle.network_model.specs.OnceEach.{times_left}
use Rattle.network_model.specs.Reach.{is_site}
use Rattle.network_model.specs.Run.{entries_along, run, state_after}
use Rattle.network_model.specs.State.{NetworkState, empty_network}
use Rattle.network_model.specs.Step.{step}
use Rattle.network_model.proofs.AbsorbLemmas.{of_origin, times_left-append}
use Rattle.network_model.proofs.OtherLemmas.{IsApart, along}
use Rattle.network_model.proofs.RunLemmas.{after-append, along-append}
use Rattle.flight_laws.specs.Laws.{IsRun, network_after}
use Rattle.flood_laws.specs.Copy.{copy_awaits}
use Rattle.flood_laws.specs.Laws.{RunsShareReached}
use Rattle.flood_laws.specs.ReachedEach.{QuietWindow}
use Rattle.flood_laws.specs.Shares.{CopiesHavePassed, IsLeftOut, IsSharedOut}
use Rattle.flood_laws.proofs.CountLemmas.{awaited}
use Rattle.flood_laws.proofs.ServeLemmas.{IsNearCopy, Serves}
use Rattle.flood_laws.proofs.SoFarLemmas.{early, served_so_far}
use Rattle.flood_laws.proofs.StartLemmas.{owed_reached}
use Rattle.flood_laws.specs.SharesReached.{SharesReached, times_awaited}

-- ---- what is due is what copies have still to serve

awaited_due : (plan : Plan) (calm : NetworkState) (service : ServiceId) (origin : ℕ) (circuit : CircuitId) (packets : List Packet)
    → awaited plan calm service circuit (of_origin origin packets) ≡ times_awaited plan calm service origin circuit packets
awaited_due plan calm service origin circuit [] = refl
awaited_due plan calm service origin circuit (p ∷ ps) = by (nat_eq p.origin origin) (awaited_due plan calm service origin circuit ps) where
  by : (own : Bool) → awaited plan calm service circuit (of_origin origin ps) ≡ times_awaited plan calm service origin circuit ps
      → awaited plan calm service circuit (cond own (p ∷ of_origin origin ps) (of_origin origin ps))
      ≡ cond (own && copy_awaits plan calm service circuit p) 1 0 + times_awaited plan calm service origin circuit ps
  by true rest = omega (arith, rest)
  by false rest = omega (arith, rest)

-- ---- how far the copies have come

copies_passed : (plan : Plan) (calm : NetworkState) (service : ServiceId) (frame : List ℕ) (origin : ℕ) (packets : List Packet)
    → AllByRecursion (IsNearCopy plan calm service frame) (of_origin origin packets) → CopiesHavePassed plan origin packets
copies_passed plan calm service frame origin [] all = tt
copies_passed plan calm service frame origin (p ∷ ps) all = elim (cases_Bool (nat_eq p.origin origin)) [
  | inl own ↦
      (let each : AllByRecursion (IsNearCopy plan calm service frame) (p ∷ of_origin origin ps) = rw own at all in
      (λ is. each.0.1, copies_passed plan calm service frame origin ps each.1))
  | inr other ↦
      (let rest : AllByRecursion (IsNearCopy plan calm service frame) (of_origin origin ps) = rw other at all in
      (λ is. clash_at (nat_eq p.origin origin) (eq-eqb p.origin origin is) other, copies_passed plan calm service frame origin ps rest))
]

-- ---- one of two numbers

shared_out : (left before : ℕ) → left + before ≡ 1 → IsSharedOut left before
shared_out zero before sum = inr (refl, omega (arith, sum))
shared_out (suc left) before sum = inl (omega (arith, sum), omega (arith, sum))

left_out : (left before : ℕ) → left + before ≡ 0 → IsLeftOut left before
left_out left before sum = (omega (arith, sum), omega (arith, sum))

-- ---- a moment of a window

module _ (plan : Plan) (events : List Event) (is_run : IsRun plan events) (before : List Event) (at : CircuitId) (octets : List ℕ) (during rest after : List Event) (service : ServiceId)
    (split : events ≡ before ++ Frame at octets ∷ (during ++ after)) (window : QuietWindow plan before at octets (during ++ rest) service) where
  abbrev calm : NetworkState
  calm = network_after plan before

  abbrev origin : ℕ
  origin = next_origin calm

  abbrev entry : Stepped
  entry = step plan calm (Frame at octets)

  abbrev now : NetworkState
  now = state_after plan entry.state during

  abbrev told : List Entry
  told = entry.entries ++ entries_along plan entry.state during

  abbrev so_far : List Event
  so_far = before ++ Frame at octets ∷ during

  served : Serves plan calm service window.frame origin (owed_reached plan calm service at) (record { state = now; entries = told })
  served = served_so_far plan events is_run before at octets during rest after service split window

  nothing_before : (circuit : CircuitId) → IsApart origin circuit (empty_network plan) (along plan (empty_network plan) before)
  nothing_before circuit = early plan events is_run before at octets during rest after service split window circuit

  state_is : network_after plan so_far ≡ now
  state_is = after-append plan (empty_network plan) before (Frame at octets ∷ during)

  entries_are : (run plan so_far).entries ≡ entries_along plan (empty_network plan) before ++ told
  entries_are = along-append plan (empty_network plan) before (Frame at octets ∷ during)

  -- the copies under way
  pub copies_now : AllByRecursion (IsNearCopy plan calm service window.frame) (of_origin origin (network_after plan so_far).under_way)
  copies_now = subst (λ (n : NetworkState). AllByRecursion (IsNearCopy plan calm service window.frame) (of_origin origin n.under_way)) (sym state_is) served.copies

  -- what was served at a site and what is to be served yet
  balance : (circuit : CircuitId) → is_site plan calm service circuit ≡ true
      → times_left origin circuit (run plan so_far).entries + times_awaited plan calm service origin circuit (network_after plan so_far).under_way ≡ owed_reached plan calm service at circuit
  balance circuit site =
      omega (
        arith,
        ap (times_left origin circuit) entries_are,
        times_left-append origin circuit (entries_along plan (empty_network plan) before) told,
        (nothing_before circuit).left,
        ap (λ (n : NetworkState). times_awaited plan calm service origin circuit n.under_way) state_is,
        awaited_due plan calm service origin circuit now.under_way,
        served.balance circuit site,
      )

  -- what is reached is a site
  reached_site : (site reached away : Bool) → (site && reached) && away ≡ true → site ≡ true
  reached_site true reached away is = refl
  reached_site false reached away is = is

  pub shares_reached : SharesReached plan before at service (network_after plan so_far) (run plan so_far).entries
  shares_reached = record {
    reached = λ circuit is.
        shared_out (times_left origin circuit (run plan so_far).entries) (times_awaited plan calm service origin circuit (network_after plan so_far).under_way)
        (balance circuit (reached_site (is_site plan calm service circuit) _ (not (nat_eq circuit.0 at.0)) is) ∙ ap (λ (b : Bool). cond {A = ℕ} b 1 0) is);
    others = λ circuit site away.
        left_out (times_left origin circuit (run plan so_far).entries) (times_awaited plan calm service origin circuit (network_after plan so_far).under_way)
        (balance circuit site ∙ ap (λ (b : Bool). cond {A = ℕ} b 1 0) away);
    passed = copies_passed plan calm service window.frame origin (network_after plan so_far).under_way copies_now;
  }

pub runs_share_reached : RunsShareReached
runs_share_reached plan events run before at octets so_far rest after service split window = shares_reached plan events run before at octets so_far rest after service split window
