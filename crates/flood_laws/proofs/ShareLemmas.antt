-- At each moment of a window each other site was served, or is ahead of one copy under way.
use Rattle.std.proofs.Common.{◌≡◌, ◌++◌, ◌&&◌, ◌∙◌, ◌⊎◌, ℕ, Bool, true, false, List, [], ◌∷◌, Option, Some, None, cond, nat_eq, not, option_map, refl, ap, sym, subst, inl, inr, arith}
use Rattle.std.proofs.lemmas.Bool.{cases_Bool, eq-eqb, and_from}
use Rattle.std.specs.List.{AllByRecursion}
use Rattle.net_base.specs.declared.plan.Plan.{Plan}
use Rattle.net_base.specs.declared.plan.circuit_plan.CircuitPlan.{CircuitPlan}
use Rattle.net_base.specs.declared.plan.places.CircuitId.{CircuitId}
use Rattle.net_base.specs.declared.plan.places.EdgeId.{EdgeId}
use Rattle.net_base.specs.declared.plan.places.ServiceId.{ServiceId}
use Rattle.net_base.specs.declared.trace.event.Event.{Event}
use Rattle.net_base.specs.declared.trace.event.Event.TheVariants.{Frame}
use Rattle.net_base.specs.declared.plan.wire_plan.WirePlan.{WirePlan}
use Rattle.net_base.specs.plan.Accepted.{IsChecked}
use Rattle.net_base.specs.plan.Paths.{follows}
use Rattle.net_base.specs.plan.Places.{circuit_row, is_mesh_wire, wire_row}
use Rattle.hvpls_spokes.specs.declared.port.Port.TheVariants as port
use Rattle.network_model.specs.declared.packet.Packet.{Packet}
use Rattle.network_model.specs.Calm.{is_calm}
use Rattle.network_model.specs.Frame.{next_origin}
use Rattle.network_model.specs.Goal.{first_or, goal, last_or}
use Rattle.network_model.specs.OnceEach.{times_left}
use Rattle.network_model.specs.Reach.{ahead, ahead_wire, is_circuit_on, is_row_of, is_site}
use Rattle.network_model.specs.Run.{run}
use Rattle.network_model.specs.State.{NetworkState}
use Rattle.network_model.specs.Window.{Window}
use Rattle.network_model.proofs.AbsorbLemmas.{of_origin}
use Rattle.flight_laws.specs.Laws.{IsRun, network_after}
use Rattle.flood_laws.specs.Copy.{CarriesCopy, copy_awaits, heading, heading_on}
use Rattle.flood_laws.specs.Laws.{RunsShareSites}
use Rattle.flood_laws.specs.ReachedEach.{QuietWindow}
use Rattle.flood_laws.specs.Reached.{is_reached}
use Rattle.flood_laws.specs.Shares.{IsLeftOut, IsSharedOut, SharesSites, arrival_port, times_ahead}
use Rattle.flood_laws.proofs.CalmReachLemmas.{all_reached, calm_awaits}
use Rattle.flood_laws.proofs.LinkLemmas.{IsLink, last_ends, link_at}
use Rattle.flood_laws.proofs.RunLemmas.{quiet_window}
use Rattle.flood_laws.proofs.ServeLemmas.{IsNearCopy}
use Rattle.flood_laws.specs.SharesReached.{SharesReached, times_awaited}
use Rattle.flood_laws.proofs.ShareReachedLemmas.{copies_now, shares_reached}

-- ---- what is due is what is ahead

-- a copy travels to a terminal edge of its wire
goes_to : (plan : Plan) (row : WirePlan) (link : IsLink plan row) (from to : EdgeId) → (goal row.path from to ≡ link.near) ⊎ (goal row.path from to ≡ link.far)
goes_to plan row link from to = by (follows row.path from.0 to.0) refl where
  same : (a b : EdgeId) → Some a ≡ Some b → a ≡ b
  same a b e = cc

  at_far : follows row.path from.0 to.0 ≡ true → goal row.path from to ≡ link.far
  at_far on =
      ap (λ (b : Bool). cond b (last_or to row.path) (first_or to row.path)) on
      ∙ (ap (last_or to) link.path ∙ same (last_or to (link.near ∷ link.rest)) link.far (sym (last_ends to link.near link.rest) ∙ link.ends))

  by : (b : Bool) → follows row.path from.0 to.0 ≡ b → (goal row.path from to ≡ link.near) ⊎ (goal row.path from to ≡ link.far)
  by true on = inr (at_far on)
  by false back = inl (ap (λ (b : Bool). cond b (last_or to row.path) (first_or to row.path)) back ∙ ap (first_or to) link.path)

ahead_awaited : (plan : Plan) (calm : NetworkState) (service : ServiceId) (circuit : CircuitId) (frame : List ℕ) (p : Packet) → IsChecked plan → is_calm plan calm service ≡ true
    → CarriesCopy plan calm service frame p → copy_awaits plan calm service circuit p ≡ ahead plan calm service (heading plan p).0 (arrival_port plan p.wire) circuit
ahead_awaited plan calm service circuit frame p checked calmed copy =
    calm_awaits plan calm service checked calmed circuit p.wire copy.row link copy.is copy.of_service (heading plan p)
    (subst (λ (o : Option WirePlan). (heading_on o p.from p.to ≡ link.near) ⊎ (heading_on o p.from p.to ≡ link.far)) (sym copy.is) (goes_to plan copy.row link p.from p.to))
    ∙ by (is_mesh_wire plan p.wire)
  where
    link : IsLink plan copy.row
    link = link_at plan p.wire.0 copy.row checked copy.is

    by : (mesh : Bool) → ahead_wire plan calm service (heading plan p).0 p.wire.0 mesh (wire_row plan p.wire) circuit
        ≡ ahead plan calm service (heading plan p).0 (cond mesh (port.Mesh p.wire) (port.Spoke p.wire)) circuit
    by true = refl
    by false = refl

ahead_due : (plan : Plan) (calm : NetworkState) (service : ServiceId) (frame : List ℕ) (origin : ℕ) (circuit : CircuitId) (packets : List Packet) → IsChecked plan → is_calm plan calm service ≡ true
    → AllByRecursion (IsNearCopy plan calm service frame) (of_origin origin packets)
    → times_awaited plan calm service origin circuit packets ≡ times_ahead plan calm service origin circuit packets
ahead_due plan calm service frame origin circuit [] checked calmed all = refl
ahead_due plan calm service frame origin circuit (p ∷ ps) checked calmed all = elim (cases_Bool (nat_eq p.origin origin)) [
  | inl own ↦
      (let each : AllByRecursion (IsNearCopy plan calm service frame) (p ∷ of_origin origin ps) = rw own at all in
      let here = ahead_awaited plan calm service circuit frame p checked calmed each.0.0 in
      rw own (omega (arith, ap (λ (b : Bool). cond {A = ℕ} b 1 0) here, ahead_due plan calm service frame origin circuit ps checked calmed each.1)))
  | inr other ↦
      (let rest : AllByRecursion (IsNearCopy plan calm service frame) (of_origin origin ps) = rw other at all in
      rw other (omega (arith, ahead_due plan calm service frame origin circuit ps checked calmed rest)))
]

-- ---- a moment of a window

module _ (plan : Plan) (events : List Event) (is_run : IsRun plan events) (before : List Event) (at : CircuitId) (octets : List ℕ) (during rest after : List Event) (service : ServiceId)
    (split : events ≡ before ++ Frame at octets ∷ (during ++ after)) (window : Window plan before at octets (during ++ rest) service) where
  abbrev calm : NetworkState
  calm = network_after plan before

  abbrev origin : ℕ
  origin = next_origin calm

  abbrev so_far : List Event
  so_far = before ++ Frame at octets ∷ during

  quiet : QuietWindow plan before at octets (during ++ rest) service
  quiet = quiet_window plan before at octets (during ++ rest) service window

  shared : SharesReached plan before at service (network_after plan so_far) (run plan so_far).entries
  shared = shares_reached plan events is_run before at octets during rest after service split quiet

  -- what is to be served is ahead
  ahead_now : (circuit : CircuitId) → times_awaited plan calm service origin circuit (network_after plan so_far).under_way ≡ times_ahead plan calm service origin circuit (network_after plan so_far).under_way
  ahead_now circuit = ahead_due plan calm service quiet.frame origin circuit (network_after plan so_far).under_way is_run.checked window.calm
      (copies_now plan events is_run before at octets during rest after service split quiet)

  -- all sites are reached but the sender
  reached_is : (circuit : CircuitId) → is_site plan calm service circuit ≡ true → is_reached plan calm service at circuit ≡ not (nat_eq circuit.0 at.0)
  reached_is circuit site =
      all_reached plan calm service is_run.checked window.calm at circuit window.sender
      ∙ ap (λ (b : Bool). b && not (nat_eq circuit.0 at.0)) site

  -- the sender is a site
  of_service : (found : Option CircuitPlan) → option_map (λ (row : CircuitPlan). row.service) found ≡ Some service → is_row_of service found ≡ true
  of_service None is = absurd (cc (is))
  of_service (Some row) is =
      let same : row.service ≡ service = cc (is) in
      eq-eqb row.service.0 service.0 (ap (λ (s : ServiceId). s.0) same)

  sends : is_site plan calm service at ≡ true
  sends = and_from (is_row_of service (circuit_row plan at)) (is_circuit_on plan calm at) (of_service (circuit_row plan at) window.sender) window.on

  shares : SharesSites plan before at service (network_after plan so_far) (run plan so_far).entries
  shares = record {
    others = λ circuit site away.
        subst (IsSharedOut (times_left origin circuit (run plan so_far).entries)) (ahead_now circuit) (shared.reached circuit (reached_is circuit site ∙ ap not away));
    at_sender = subst (IsLeftOut (times_left origin at (run plan so_far).entries)) (ahead_now at) (shared.others at sends (reached_is at sends ∙ ap not (eq-eqb at.0 at.0 refl)));
    passed = shared.passed;
  }

pub runs_share_sites : RunsShareSites
runs_share_sites plan events run before at octets so_far rest after service split window = shares plan events run before at octets so_far rest after service split window
