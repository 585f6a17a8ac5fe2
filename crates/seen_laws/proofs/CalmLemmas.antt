-- A service is seen calm exactly where it is calm, in every state of a run.
use Rattle.std.proofs.Common.{◌≡◌, ◌+◌, ◌==◌, ◌&&◌, ◌||◌, ◌∙◌, not, ℕ, zero, suc, Bool, true, false, List, [], ◌∷◌, Some, length, slice_get, refl, sym, ap, inl, inr, zero-add}
use Rattle.std.proofs.lemmas.Bool.{cases_Bool}
use Rattle.net_values.proofs.NumberLemmas.{next_place, add_zero}
use Rattle.net_base.specs.declared.plan.Plan.{Plan}
use Rattle.net_base.specs.declared.plan.places.ServiceId.{ServiceId}
use Rattle.net_base.specs.declared.plan.wire_plan.WirePlan.{WirePlan}
use Rattle.net_base.specs.declared.trace.event.Event.{Event}
use Rattle.net_base.specs.plan.Paths.{is_first, is_last}
use Rattle.net_base.specs.plan.Roles.{all_below, any_wire, are_joined_by, count_wires, is_core_edge, is_mesh_of, is_spoke_edge, is_spoke_from, is_wire_of}
use Rattle.network_model.specs.Calm.{carries, has_live_spokes, is_calm, is_full, is_live_spoke, is_quiet, is_settled, meshes}
use Rattle.network_model.specs.Run.{run}
use Rattle.network_model.specs.State.{NetworkState}
use Rattle.flight_laws.specs.Laws.{IsRun, network_after}
use Rattle.flight_laws.proofs.AcrossLemmas.{runs_tell_across}
use Rattle.flight_laws.proofs.BoundRunLemmas.{runs_settle}
use Rattle.seen_network.specs.Calm.{has_seen_spokes, is_seen_calm, is_seen_full, is_seen_mesh, is_seen_quiet, is_seen_settled, is_seen_spoke, is_seen_up}
use Rattle.seen_network.specs.Seen.{Seen, seen_in}
use Rattle.seen_laws.specs.Shows.{Shows}
use Rattle.seen_laws.proofs.RunLemmas.{run_shows}
use Rattle.seen_laws.proofs.SyncRunLemmas.{run_synced}
use Rattle.seen_laws.proofs.WholeLemmas.{carried}

below_same : (n : ℕ) (f g : ℕ → Bool) → ((k : ℕ) → f k ≡ g k) → all_below n f ≡ all_below n g
below_same zero f g same = refl
below_same (suc n) f g same = rw (same n, below_same n f g same) refl

-- tests of wires that agree on the rows of a list
any_same : (f g : ℕ → WirePlan → Bool) (place : ℕ) (rows : List WirePlan) → ((k : ℕ) (row : WirePlan) → slice_get rows k ≡ Some row → f (place + k) row ≡ g (place + k) row)
    → any_wire f place rows ≡ any_wire g place rows
any_same f g place [] same = refl
any_same f g place (row ∷ rows) same =
    let here : f place row ≡ g place row = ap (λ (n : ℕ). f n row) (add_zero place) ∙ (same 0 row refl ∙ ap (λ (n : ℕ). g n row) (sym (add_zero place))) in
    rw (here, any_same f g (place + 1) rows (λ k other is. ap (λ (n : ℕ). f n other) (next_place place k) ∙ (same (suc k) other is ∙ ap (λ (n : ℕ). g n other) (sym (next_place place k))))) refl

count_same : (f g : ℕ → WirePlan → Bool) (place : ℕ) (rows : List WirePlan) → ((k : ℕ) (row : WirePlan) → slice_get rows k ≡ Some row → f (place + k) row ≡ g (place + k) row)
    → count_wires f place rows ≡ count_wires g place rows
count_same f g place [] same = refl
count_same f g place (row ∷ rows) same =
    let here : f place row ≡ g place row = ap (λ (n : ℕ). f n row) (add_zero place) ∙ (same 0 row refl ∙ ap (λ (n : ℕ). g n row) (sym (add_zero place))) in
    rw (here, count_same f g (place + 1) rows (λ k other is. ap (λ (n : ℕ). f n other) (next_place place k) ∙ (same (suc k) other is ∙ ap (λ (n : ℕ). g n other) (sym (next_place place k))))) refl

-- what is seen on its way is on its way
quiet_same : (plan : Plan) (network : NetworkState) (seen : Seen) (service : ServiceId) → Shows plan network seen → is_seen_quiet plan seen service ≡ is_quiet plan network service
quiet_same plan network seen service shows = below_same (length plan.edges) _ _ (λ a. below_same (length plan.edges) _ _ (λ b. ap (λ (s : Bool). not (are_joined_by plan service a b) || s) (settled_same a b))) where
  settled_same : (a b : ℕ) → is_seen_settled seen a b ≡ is_settled network a b
  settled_same a b = rw (shows.standing a b, shows.standing b a, shows.pipes a b, shows.pipes b a, shows.rests a b, shows.rests b a) refl

module _ (plan : Plan) (network : NetworkState) (seen : Seen) (service : ServiceId) (same_up : (k : ℕ) (row : WirePlan) → slice_get plan.wires k ≡ Some row → is_wire_of service row ≡ true → is_seen_up seen k row ≡ carries plan network k row) where
  mesh_same : (a b k : ℕ) (row : WirePlan) → slice_get plan.wires k ≡ Some row → is_seen_mesh seen service a b k row ≡ meshes plan network service a b k row
  mesh_same a b k row is = elim (cases_Bool (is_wire_of service row)) [
    | inl ours ↦ ap (λ (c : Bool). (is_mesh_of service row && ((is_first a row.path && is_last b row.path) || (is_first b row.path && is_last a row.path))) && c) (same_up k row is ours)
    | inr other ↦ rw other refl
  ]

  spoke_same : (edge k : ℕ) (row : WirePlan) → slice_get plan.wires k ≡ Some row → is_seen_spoke seen service edge k row ≡ is_live_spoke plan network service edge k row
  spoke_same edge k row is = elim (cases_Bool (is_wire_of service row)) [
    | inl ours ↦ ap (λ (c : Bool). is_spoke_from service edge row && c) (same_up k row is ours)
    | inr other ↦ rw other refl
  ]

  full_same : is_seen_full plan seen service ≡ is_full plan network service
  full_same = below_same (length plan.edges) _ _ (λ a. below_same (length plan.edges) _ _ (λ b.
      ap (λ (m : Bool). not (is_core_edge plan service a && is_core_edge plan service b) || (a == b || m))
      (any_same (is_seen_mesh seen service a b) (meshes plan network service a b) 0 plan.wires
      (λ k row is. ap (λ (n : ℕ). is_seen_mesh seen service a b n row) (zero-add k) ∙ (mesh_same a b k row is ∙ ap (λ (n : ℕ). meshes plan network service a b n row) (sym (zero-add k)))))))

  spokes_same : has_seen_spokes plan seen service ≡ has_live_spokes plan network service
  spokes_same = below_same (length plan.edges) _ _ (λ edge.
      ap (λ (n : ℕ). not (is_spoke_edge plan service edge) || n == 1)
      (count_same (is_seen_spoke seen service edge) (is_live_spoke plan network service edge) 0 plan.wires
      (λ k row is. ap (λ (n : ℕ). is_seen_spoke seen service edge n row) (zero-add k) ∙ (spoke_same edge k row is ∙ ap (λ (n : ℕ). is_live_spoke plan network service edge n row) (sym (zero-add k))))))

-- ---- runs

pub calm_same : (plan : Plan) (events : List Event) (seen : Seen) (service : ServiceId) → IsRun plan events → Shows plan (network_after plan events) seen
    → is_seen_calm plan seen service ≡ is_calm plan (network_after plan events) service
calm_same plan events seen service is shows = by (is_quiet plan network service) refl where
  network : NetworkState
  network = network_after plan events

  up_same : is_quiet plan network service ≡ true → (k : ℕ) (row : WirePlan) → slice_get plan.wires k ≡ Some row → is_wire_of service row ≡ true → is_seen_up seen k row ≡ carries plan network k row
  up_same quiet k row at ours =
      carried plan network service (record { 0 = k }) row is.checked quiet (λ a b joined. runs_settle plan events is service quiet a b joined) at ours
      (λ me from to mated. runs_tell_across plan events is me from to (record { 0 = k }) row at mated)
      (run_synced plan events is.checked) seen (λ a. shows.up a k)

  by : (b : Bool) → is_quiet plan network service ≡ b → is_seen_calm plan seen service ≡ is_calm plan network service
  by true quiet = rw (quiet_same plan network seen service shows, full_same plan network seen service (up_same quiet), spokes_same plan network seen service (up_same quiet)) refl
  by false noisy = rw (quiet_same plan network seen service shows, noisy) refl

pub run_calm : (plan : Plan) (events : List Event) (service : ServiceId) → IsRun plan events → is_seen_calm plan (seen_in (run plan events).entries) service
    ≡ is_calm plan (network_after plan events) service
run_calm plan events service is = calm_same plan events (seen_in (run plan events).entries) service is (run_shows plan events is)
