-- A setting at a spoke edge for one of its spokes heals.
use Rattle.address_laws.specs.Sites.{Sites}
use Rattle.edge_model.specs.EndPlaces.{ends_here}
use Rattle.edge_model.specs.Mend.{mends}
use Rattle.edge_model.specs.Spokes.{is_spoke_row}
use Rattle.edge_model.specs.State.{EdgeState, put_at, with_bits, with_priority}
use Rattle.edge_model.specs.Wire.{is_own_spoke}
use Rattle.edge_model.specs.Work.{Work, beginning, changes, idles}
use Rattle.flight_laws.proofs.NameLemmas.{split}
use Rattle.flight_laws.proofs.PlaceLemmas.{same_row}
use Rattle.flight_laws.proofs.SoundLemmas.{sound_same}
use Rattle.flight_laws.proofs.WorksLemmas.{changed_edge}
use Rattle.flight_laws.specs.Ends.{HasTypes, IsOrdered}
use Rattle.flight_laws.specs.Sound.{TellsSoundly, point_limit}
use Rattle.move_laws.proofs.ForgetLemmas.{changed_forgets}
use Rattle.move_laws.proofs.JoinLemmas.{joined_away}
use Rattle.move_laws.proofs.LiveLemmas.{mends_live}
use Rattle.move_laws.proofs.MendHealLemmas.{heals_on, mends_heal}
use Rattle.move_laws.proofs.SettleHealLemmas.{begin_heals, settle_heals}
use Rattle.move_laws.proofs.SpeakLemmas.{mesh_same, speaks_first, spokes_same}
use Rattle.move_laws.proofs.StartHealLemmas.{Begins, seen_as}
use Rattle.move_laws.proofs.StayLemmas.{same_speak, speaks_on}
use Rattle.move_laws.specs.Healing.{HasWays, Heals, HealsLive, IsAtLive, IsHealing, Lasts, learned_in}
use Rattle.move_laws.specs.Moves.{is_move}
use Rattle.net_base.specs.declared.plan.Plan.{Plan}
use Rattle.net_base.specs.declared.plan.places.EdgeId.{EdgeId}
use Rattle.net_base.specs.declared.plan.places.ServiceId.{ServiceId}
use Rattle.net_base.specs.declared.plan.places.WireId.{WireId}
use Rattle.net_base.specs.declared.plan.wire_plan.WirePlan.{WirePlan}
use Rattle.net_base.specs.declared.trace.event.Event.TheVariants.{Priority, Status}
use Rattle.net_base.specs.declared.trace.event.Event.{Event}
use Rattle.net_base.specs.plan.Accepted.{IsChecked}
use Rattle.net_base.specs.plan.Paths.{is_first}
use Rattle.net_base.specs.plan.Places.{is_mesh_class, wire_row}
use Rattle.net_base.specs.plan.Planned.{IsEventOf}
use Rattle.net_base.specs.plan.Roles.{are_joined_by, is_mesh_of, is_wire_of}
use Rattle.network_model.specs.Absorb.{absorb, answer, begin_at, idle, taken_all}
use Rattle.network_model.specs.State.{NetworkState}
use Rattle.network_model.specs.Step.{step}
use Rattle.network_model.specs.Wire.{priority_event, status_event}
use Rattle.std.proofs.Common.{Bool, None, Option, Some, [], ap, cond, false, inl, nat_eq, not, refl, slice_get, subst, sym, true, ℕ, ◌&&◌, ◌==◌, ◌∙◌, ◌≡◌, ◌≤◌}
use Rattle.std.proofs.lemmas.Bool.{eqb-true}
use Rattle.std.specs.List.{AllByRecursion}
use Rattle.net_values.proofs.BoolLemmas.{clash, second_holds}
use Rattle.net_values.proofs.NumberLemmas.{same_number}

-- ---- what is put at one place

put_there : {A : Type 0} (f : ℕ → A) (k : ℕ) (v : A) (n : ℕ) → nat_eq n k ≡ true → put_at f k v n ≡ v
put_there f k v n is = rw is refl

put_else : {A : Type 0} (f : ℕ → A) (k : ℕ) (v : A) (n : ℕ) → nat_eq n k ≡ false → put_at f k v n ≡ f n
put_else f k v n away = rw away refl

-- ---- a network with other failure bits

-- what two neighbours have for each other is the same
seen_ordered : (plan : Plan) (network : NetworkState) (sight : ℕ → ℕ → ℕ) → ((a wire : ℕ) → sight a wire ≤ 31) → IsOrdered plan network → IsOrdered plan (seen_as sight network)
seen_ordered plan network sight few ordered = record {
  two = ordered.two;
  alone = ordered.alone;
  placed = ordered.placed;
  sound = λ a. (let sound = ordered.sound a in record { least = sound.least; most = sound.most; kept = sound.kept; bits = few a; ends = sound.ends });
}

module _ (plan : Plan) (service : ServiceId) (site : Sites) (network : NetworkState) (me : EdgeId) (checked : IsChecked plan) (types : HasTypes plan) (ordered : IsOrdered plan network)
    (begins : Begins plan service site network) where
  abbrev Begun : Work
  Begun = begin_at network me

  -- the calm state as it is
  heals : Heals plan service site network network
  heals = begins.heals (λ a. (network.edges a).bits) (λ a wire row is of_mesh. refl)

  whole : HealsLive plan service site network network
  whole = record { heals = heals; live = begins.live }

  -- an input that applies or not
  answered : (mended : Work) → HealsLive plan service site network (absorb me 0 0 mended network).state → (b : Bool)
      → HealsLive plan service site network (answer me 0 0 (cond b mended (idles Begun)) network).state
  unfolding idles
  answered mended done true = by mended.idle where
    by : (b : Bool) → HealsLive plan service site network (cond b (idle network) (absorb me 0 0 mended network)).state
    by true = whole
    by false = done
  answered mended done false = whole

  none_joined : {P : Type 0} → are_joined_by plan service me.0 me.0 ≡ true → P
  none_joined joined = clash (sym (joined_away plan service me.0 me.0 checked joined) ∙ same_number me.0)

  -- ---- a priority

  ways : HasWays plan service network me
  ways place joined stood = (heals.steady me.0 place joined stood).0

  began : IsHealing plan service site network me me.0 [] Begun
  began = begin_heals plan service site network network me me.0 [] checked ordered heals (λ joined stood. none_joined joined)

  priority_rest : (wire : WireId) (priority : ℕ) (edge : EdgeState) → ((with_priority wire priority edge).peering ≡ edge.peering) × ((with_priority wire priority edge).me ≡ edge.me)
      × ((with_priority wire priority edge).chosen ≡ edge.chosen)
      × ((with_priority wire priority edge).learned ≡ edge.learned)
      × ((with_priority wire priority edge).ends ≡ edge.ends)
      × ((with_priority wire priority edge).wire_on ≡ edge.wire_on)
      × ((with_priority wire priority edge).bits ≡ edge.bits)
      × (TellsSoundly (point_limit plan me.0) edge → TellsSoundly (point_limit plan me.0) (with_priority wire priority edge))
  unfolding with_priority
  priority_rest wire priority edge = (refl, refl, refl, refl, refl, refl, refl, λ sound. sound_same edge _ refl refl refl refl refl sound)

  priority_lasts : (wire : WireId) (priority : ℕ) (edge : EdgeState) → Lasts plan service me.0 me.0 edge (with_priority wire priority edge)
  unfolding with_priority
  priority_lasts wire priority edge = record { bits = refl; remotes = λ w k away. refl; stuck = λ w k joined is. is }

  prefers : (wire : WireId) (priority : ℕ) → HealsLive plan service site network (absorb me 0 0 (mends plan taken_all (changes (with_priority wire priority) Begun)) network).state
  prefers wire priority =
      settle_heals plan service site network network network me me.0 [] (mends plan taken_all (changes (with_priority wire priority) Begun)) checked
      (record { edges = λ a away. refl; pipes = λ a b other. refl }) heals
      (mends_heal plan service site network me me.0 [] (changes (with_priority wire priority) Begun) checked types ways changed)
      (mends_live plan service me (changes (with_priority wire priority) Begun) checked changed.stays.place) (λ a away. begins.live a)
      (λ joined stood. none_joined joined) (λ joined stood wire row onward. none_joined joined)
    where
      edge_is : (changes (with_priority wire priority) (begin_at network me)).edge ≡ with_priority wire priority (begin_at network me).edge
      edge_is = changed_edge (with_priority wire priority) (begin_at network me)

      changed : IsHealing plan service site network me me.0 [] (changes (with_priority wire priority) (begin_at network me))
      changed =
          let rest = priority_rest wire priority (begin_at network me).edge in
          heals_on plan service site network me me.0 [] [] (begin_at network me) (changes (with_priority wire priority) (begin_at network me))
          (speaks_on plan service network me me.0 (begin_at network me) (changes (with_priority wire priority) (begin_at network me)) began.stays
          (same_speak plan service me checked types network me.0 (begin_at network me) (with_priority wire priority) (begin_at network me) rest.0 rest.1 rest.4 (rest.7 began.stays.sound)
          (mesh_same plan service me.0 (begin_at network me).edge _ rest.4 rest.5 rest.6 began.stays.mesh)
          (spokes_same plan service network me (begin_at network me).edge _ rest.4 rest.5 rest.6 began.stays.spokes)
          (speaks_first plan service network me me.0 (begin_at network me) began.stays))
          (subst (Lasts plan service me.0 me.0 (begin_at network me).edge) (sym edge_is) (priority_lasts wire priority (begin_at network me).edge))
          (changed_forgets service (with_priority wire priority) (begin_at network me) rest.3))
          (record { told = λ other home spoke chose. inl (ap (λ (f : ℕ → Option WireId). f service.0) (sym rest.2) ∙ (ap (λ (e : EdgeState). e.chosen service.0) (sym edge_is) ∙ chose)) })
          (λ other row joined seen among. none_joined joined) began

  pub priority_heals : (wire : WireId) (priority : ℕ) → HealsLive plan service site network (priority_event plan me wire priority network).state
  priority_heals wire priority = answered (mends plan taken_all (changes (with_priority wire priority) Begun)) (prefers wire priority)
      (is_own_spoke Begun.edge.me (wire_row plan wire) && not (priority == Begun.edge.priority wire.0))

  -- ---- failure bits

  module _ (wire : WireId) (bits : ℕ) (row : WirePlan) (few : bits ≤ 31) (is : wire_row plan wire ≡ Some row) (class : is_mesh_class row.class ≡ false) where
    -- the bits after the setting
    abbrev Sight : ℕ → ℕ → ℕ
    Sight a = (put_at network.edges me.0 (with_bits wire bits (network.edges me.0)) a).bits

    abbrev Seen : NetworkState
    Seen = seen_as Sight network

    sight_here : (a : ℕ) → nat_eq a me.0 ≡ true → Sight a ≡ (with_bits wire bits (network.edges me.0)).bits
    sight_here a here = ap (λ (e : EdgeState). e.bits) (put_there network.edges me.0 (with_bits wire bits (network.edges me.0)) a here)

    sight_else : (a : ℕ) → nat_eq a me.0 ≡ false → Sight a ≡ (network.edges a).bits
    sight_else a away = ap (λ (e : EdgeState). e.bits) (put_else network.edges me.0 (with_bits wire bits (network.edges me.0)) a away)

    bits_few : (other : ℕ) → (with_bits wire bits (network.edges me.0)).bits other ≤ 31
    unfolding with_bits
    bits_few other = either (nat_eq other wire.0) ((network.edges me.0).bits other) ((ordered.sound me.0).bits other) where
      either : (b : Bool) (old : ℕ) → old ≤ 31 → cond b bits old ≤ 31
      either true old small = few
      either false old small = small

    sight_few : (a other : ℕ) → Sight a other ≤ 31
    sight_few a other = split {P = Sight a other ≤ 31} (nat_eq a me.0) (λ here. subst (λ (f : ℕ → ℕ). f other ≤ 31) (sym (sight_here a here)) (bits_few other))
        (λ away. subst (λ (f : ℕ → ℕ). f other ≤ 31) (sym (sight_else a away)) ((ordered.sound a).bits other))

    -- a spoke is no mesh wire
    mesh_bits : (other : WireId) (its : WirePlan) → wire_row plan other ≡ Some its → is_mesh_of service its ≡ true
        → (with_bits wire bits (network.edges me.0)).bits other.0 ≡ (network.edges me.0).bits other.0
    unfolding with_bits
    mesh_bits other its at of_mesh = by (nat_eq other.0 wire.0) refl where
      by : (b : Bool) → nat_eq other.0 wire.0 ≡ b → cond b bits ((network.edges me.0).bits other.0) ≡ (network.edges me.0).bits other.0
      by true same =
          let rows : its ≡ row = same_row its row (sym at ∙ (ap (slice_get plan.wires) (eqb-true other.0 wire.0 same) ∙ is)) in
          clash (sym class ∙ (ap (λ (r : WirePlan). is_mesh_class r.class) (sym rows) ∙ second_holds (is_wire_of service its) (is_mesh_class its.class) of_mesh))
      by false away = refl

    sight_mesh : (a : ℕ) (other : WireId) (its : WirePlan) → wire_row plan other ≡ Some its → is_mesh_of service its ≡ true → Sight a other.0 ≡ (network.edges a).bits other.0
    sight_mesh a other its at of_mesh = split {P = Sight a other.0 ≡ (network.edges a).bits other.0} (nat_eq a me.0)
        (λ here. ap (λ (f : ℕ → ℕ). f other.0) (sight_here a here) ∙ (mesh_bits other its at of_mesh ∙ ap (λ (k : ℕ). (network.edges k).bits other.0) (sym (eqb-true a me.0 here))))
        (λ away. ap (λ (f : ℕ → ℕ). f other.0) (sight_else a away))

    seen_heals : Heals plan service site network Seen
    seen_heals = begins.heals Sight sight_mesh

    seen_ways : HasWays plan service Seen me
    seen_ways place joined stood = (seen_heals.steady me.0 place joined stood).0

    ordered_seen : IsOrdered plan Seen
    ordered_seen = seen_ordered plan network Sight sight_few ordered

    seen_began : IsHealing plan service site Seen me me.0 [] (begin_at Seen me)
    seen_began = begin_heals plan service site network Seen me me.0 [] checked ordered_seen seen_heals (λ joined stood. none_joined joined)

    else_same : (a : ℕ) → nat_eq a me.0 ≡ false → network.edges a ≡ Seen.edges a
    else_same a away = ap (λ (f : ℕ → ℕ). record (network.edges a) { bits = f }) (sym (sight_else a away))

    begun_is : begin_at Seen me ≡ changes (with_bits wire bits) (begin_at network me)
    unfolding changes with_bits
    begun_is = ap (λ (f : ℕ → ℕ). beginning (record (network.edges me.0) { bits = f }) []) (sight_here me.0 (same_number me.0))

    sets : HealsLive plan service site network (absorb me 0 0 (mends plan taken_all (changes (with_bits wire bits) Begun)) network).state
    sets = subst (λ (w : Work). HealsLive plan service site network (absorb me 0 0 (mends plan taken_all w) network).state) begun_is
        (settle_heals plan service site network Seen network me me.0 [] (mends plan taken_all (begin_at Seen me)) checked (record { edges = else_same; pipes = λ a b other. refl }) seen_heals
        (mends_heal plan service site Seen me me.0 [] (begin_at Seen me) checked types seen_ways seen_began)
        (mends_live plan service me (begin_at Seen me) checked seen_began.stays.place)
        (λ a away. subst (λ (e : EdgeState). AllByRecursion (IsAtLive plan service a e) (learned_in service network a)) (else_same a away) (begins.live a))
        (λ joined stood. none_joined joined) (λ joined stood wire row onward. none_joined joined))

    pub status_heals : HealsLive plan service site network (status_event plan me wire bits network).state
    status_heals = answered (mends plan taken_all (changes (with_bits wire bits) Begun)) sets (ends_here plan Begun.edge.me wire && not (bits == Begun.edge.bits wire.0))

spoke_class : (a mesh b : Bool) → (a && not mesh) && b ≡ true → mesh ≡ false
spoke_class true true b is = clash is
spoke_class true false b is = refl
spoke_class false mesh b is = clash is

pub move_heals : (plan : Plan) (service : ServiceId) (site : Sites) (network : NetworkState) (event : Event) → IsChecked plan → HasTypes plan → IsEventOf plan event → IsOrdered plan network
    → Begins plan service site network → is_move plan service event ≡ true → HealsLive plan service site network (step plan network event).state
move_heals plan service site network (Priority me wire priority) checked types planned ordered begins moves =
    priority_heals plan service site network me checked types ordered begins wire priority
move_heals plan service site network (Status me wire bits) checked types planned ordered begins moves = by (wire_row plan wire) refl moves where
  by : (o : Option WirePlan) → wire_row plan wire ≡ o → is_spoke_row service me o ≡ true → HealsLive plan service site network (step plan network (Status me wire bits)).state
  by None is moves = clash moves
  by (Some row) is moves = status_heals plan service site network me checked types ordered begins wire bits row planned.2 is
      (spoke_class (is_wire_of service row) (is_mesh_class row.class) (is_first me.0 row.path) moves)
move_heals plan service site network event checked types planned ordered begins moves = clash moves
