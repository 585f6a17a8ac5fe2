-- A calm service whose addresses point to their sites heals.
use Rattle.pw_signalling.specs.declared.binding.Binding.{Binding}
use Rattle.flight_laws.specs.Binding.{advertised_by, is_withdrawing, is_idle}
use Rattle.move_laws.proofs.StayLemmas.{onward_joined}
use Rattle.move_laws.proofs.JoinLemmas.{joined_back}
use Rattle.move_laws.proofs.OctetsHealLemmas.{HasTellers}
use Rattle.address_laws.specs.Points.{PointsToSite}
use Rattle.address_laws.specs.Sites.{Sites}
use Rattle.address_laws.specs.Stretch.{StartsRight}
use Rattle.edge_model.specs.EndPlaces.{is_terminal}
use Rattle.edge_model.specs.Ends.{end_forwards}
use Rattle.edge_model.specs.Mend.{is_operational, is_up_with}
use Rattle.edge_model.specs.Role.{down_at, role_at}
use Rattle.edge_model.specs.State.{end_at}
use Rattle.flight_laws.proofs.BoundRunLemmas.{runs_settle}
use Rattle.flight_laws.proofs.NameLemmas.{split}
use Rattle.flight_laws.proofs.AcrossLemmas.{runs_tell_across, runs_take_mappings}
use Rattle.flight_laws.proofs.PlaceLemmas.{NamedEnd, end_of, named_is}
use Rattle.flight_laws.proofs.RuledMendLemmas.{wire_fits}
use Rattle.flight_laws.specs.Across.{PassesOn}
use Rattle.flight_laws.proofs.RunLemmas.{run_ordered}
use Rattle.flight_laws.specs.Ends.{IsOrdered}
use Rattle.flight_laws.specs.Facts.{flight}
use Rattle.flight_laws.specs.Laws.{AreSettled, IsRun, IsUp, network_after, HasAgreed, OfWires}
use Rattle.flood_laws.proofs.FarLemmas.{are_settled}
use Rattle.flood_laws.proofs.LinkLemmas.{IsLink, link_at}
use Rattle.flood_laws.proofs.MeshLemmas.{mesh_carries, port_at}
use Rattle.flood_laws.proofs.StitchLemmas.{relay_bound}
use Rattle.flood_laws.proofs.WireEdgeLemmas.{sides_ended}
use Rattle.hvpls_spokes.specs.Port.{ports_of}
use Rattle.hvpls_spokes.specs.declared.port.Port.TheVariants as port
use Rattle.hvpls_spokes.specs.declared.port.Port.{Port}
use Rattle.mac_table.specs.declared.mac_entry.MacEntry.{MacEntry}
use Rattle.move_laws.proofs.DeliverHealLemmas.{HasMeshes}
use Rattle.move_laws.proofs.EndHealLemmas.{IsBehindSpoke, IsBeside, IsPortWire, at_far, behind_is, beside_is, mesh_port, mesh_reach, of_mesh, spoke_port}
use Rattle.move_laws.proofs.ForwardLemmas.{advertises_it, forwards_whole}
use Rattle.move_laws.proofs.LiveSpokeLemmas.{IsLiveAt, carries_ends, forwards_end, has_meshes, home_same, live_at, live_same, quiet_way, spoke_at_link}
use Rattle.move_laws.proofs.MendedHealLemmas.{HasMended, run_mended}
use Rattle.move_laws.proofs.PendingLemmas.{all_weaker, of_service_joined, spoke_ours}
use Rattle.move_laws.proofs.KeepMeshLemmas.{HasOtherSide, has_other_side}
use Rattle.move_laws.proofs.WireLemmas.{HasFar, HasNext, IsLinkEnd, IsSpokeOf, link_end, mesh_far, next_of, spoke_of}
use Rattle.move_laws.specs.Healing.{EntryHeals, Heals, IsAtLive, IsRight, IsSpokeTo, IsSteady, IsWireTo, KeepsMesh, KeepsSpokes, LeadsHome, StandsFor, chosen_in, is_advertising, learned_in, ways_of}
use Rattle.net_base.specs.declared.plan.Plan.{Plan}
use Rattle.net_base.specs.declared.plan.circuit_plan.CircuitPlan.{CircuitPlan}
use Rattle.net_base.specs.declared.plan.places.CircuitId.{CircuitId}
use Rattle.net_base.specs.declared.plan.places.EdgeId.{EdgeId}
use Rattle.net_base.specs.declared.plan.places.ServiceId.{ServiceId}
use Rattle.net_base.specs.declared.plan.places.WireId.{WireId}
use Rattle.net_base.specs.declared.plan.wire_plan.WirePlan.{WirePlan}
use Rattle.net_base.specs.declared.trace.event.Event.{Event}
use Rattle.net_base.specs.plan.Accepted.{IsChecked, IsCircuitOf}
use Rattle.net_base.specs.plan.Paths.{edge_address, joins, mate, mate_on, is_first}
use Rattle.net_base.specs.plan.Places.{circuit_row, is_mesh_class, wire_row}
use Rattle.net_base.specs.plan.Roles.{are_joined_by, has_port, is_circuit_at, is_core_edge, is_mesh_of, is_spoke_edge, is_wire_of, wire_ends_at}
use Rattle.network_model.specs.Calm.{carries, has_live_spokes, is_calm, is_full, is_quiet, is_settled}
use Rattle.network_model.specs.Reach.{at_edge_of, circuit_is_at, elsewhere_of, home_of, is_circuit_of, is_home, is_row_at, reach}
use Rattle.network_model.specs.State.{NetworkState, stands}
use Rattle.pw_signalling.proofs.LawLemmas.{forwards_where_both_agree}
use Rattle.pw_signalling.specs.End.{Advertised, Idle, LocalPart, Withdrawing}
use Rattle.pw_signalling.specs.declared.told.Told.{Told}
use Rattle.pw_stitch.proofs.ChangeLemmas.{same_without_status}
use Rattle.pw_stitch.specs.Change.{without_status}
use Rattle.pw_stitch.specs.Passing.{own_point, past_point}
use Rattle.pw_stitch.specs.Stitch.{has_told}
use Rattle.std.proofs.Common.{Bool, List, None, Option, Some, [], ap, cond, false, inl, inr, length, not, refl, slice_get, subst, suc, sym, true, ℕ, ⊎_elim, ◌&&◌, ◌<◌, ◌==◌, ◌||◌, ◌∙◌, ◌∷◌, ◌≡◌, is_some}
use Rattle.std.proofs.lemmas.Bool.{and_from, cases_Bool, eqb-true}
use Rattle.std.specs.List.{list_any, AllByRecursion}
use Rattle.net_values.proofs.BoolLemmas.{first_holds, clash, second_holds}
use Rattle.net_values.proofs.OptionLemmas.{some_same}
use Rattle.net_values.proofs.RowLemmas.{row_holds}

-- ---- rows that are found

record HasRow {A : Type 0} (test : A → Bool) (rows : List A) : Type 0 where
  k : ℕ
  row : A
  is : slice_get rows k ≡ Some row
  passes : test row ≡ true

has_row : {A : Type 0} (test : A → Bool) (rows : List A) → list_any test rows ≡ true → HasRow test rows
has_row test [] some = clash some
has_row test (x ∷ xs) some = elim (cases_Bool (test x)) [
  | inl here ↦ record { k = 0; row = x; is = refl; passes = here }
  | inr away ↦ (let more = has_row test xs (rw away at some) in record { k = suc more.k; row = more.row; is = more.is; passes = more.passes })
]

-- an edge with a port of the service is in the plan
port_inside : (plan : Plan) (service : ServiceId) (e : ℕ) → IsChecked plan → has_port plan service e ≡ true → e < length plan.edges
port_inside plan service e checked port = by (list_any (is_circuit_at service e) plan.circuits) refl port where
  of_circuit : HasRow (is_circuit_at service e) plan.circuits → e < length plan.edges
  of_circuit found =
      subst (λ (n : ℕ). n < length plan.edges) (eqb-true found.row.edge.0 e (second_holds (found.row.service.0 == service.0) (found.row.edge.0 == e) found.passes))
      (row_holds (IsCircuitOf plan) plan.circuits found.k found.row found.is checked.circuits).edge

  of_wire : HasRow (Rattle.net_base.specs.plan.Roles.wire_ends_at service e) plan.wires → e < length plan.edges
  of_wire found = elim (cases_Bool (e == link.near.0)) [
    | inl here ↦ subst (λ (n : ℕ). n < length plan.edges) (sym (eqb-true e link.near.0 here)) link.near_within
    | inr away ↦ subst (λ (n : ℕ). n < length plan.edges) (sym (at_far plan service e found.row link found.passes away)) link.far_within
  ]
    where
      link : IsLink plan found.row
      link = link_at plan found.k found.row checked found.is

  by : (b : Bool) → list_any (is_circuit_at service e) plan.circuits ≡ b → b || list_any (Rattle.net_base.specs.plan.Roles.wire_ends_at service e) plan.wires ≡ true → e < length plan.edges
  by true is some = of_circuit (has_row (is_circuit_at service e) plan.circuits is)
  by false is some = of_wire (has_row (Rattle.net_base.specs.plan.Roles.wire_ends_at service e) plan.wires some)

pub all_meshes : (plan : Plan) (network : NetworkState) (service : ServiceId) → IsChecked plan → is_calm plan network service ≡ true → HasMeshes plan service
all_meshes plan network service checked calm = record {
  meshes = λ a b one other apart. has_meshes plan network service checked calm a b (inside a one) (inside b other) one other apart;
}
  where
    inside : (e : ℕ) → is_core_edge plan service e ≡ true → e < length plan.edges
    inside e core = port_inside plan service e checked (first_holds (has_port plan service e) (not (is_spoke_edge plan service e)) core)

-- ---- a switching point of a wire that carries frames

told_advertises : (local : LocalPart) → has_told local ≡ true → is_advertising local ≡ true
told_advertises (Idle declined) told = clash told
told_advertises (Advertised label content) told = refl
told_advertises (Withdrawing label) told = clash told

carried_told : (plan : Plan) (network : NetworkState) (wire : WireId) (row : WirePlan) (me from to : EdgeId) → IsChecked plan → (network.edges me.0).me ≡ me → wire_row plan wire ≡ Some row
    → carries plan network wire.0 row ≡ true → mate_on row.path me.0 from.0 ≡ Some to → is_advertising ((network.edges me.0).ends wire.0 to.0).local ≡ true
carried_told plan network wire row me from to checked placed is live mated =
    told_advertises ((network.edges me.0).ends wire.0 to.0).local (relay_bound plan network wire row me from to checked placed is live mated).advertises

-- ---- failure bits that are seen

-- the network with other failure bits at its edges
abbrev pub seen_as : (ℕ → ℕ → ℕ) → NetworkState → NetworkState
seen_as sight network = record network { edges = λ a. record (network.edges a) { bits = sight a } }

-- a path begins with one edge
one_first : (a b : ℕ) (path : List EdgeId) → is_first a path ≡ true → is_first b path ≡ true → a ≡ b
one_first a b [] one other = clash one
one_first a b (first ∷ rest) one other = eqb-true a first.0 one ∙ sym (eqb-true b first.0 other)

-- ---- the state

module _ (plan : Plan) (service : ServiceId) (site : Sites) (network : NetworkState) (checked : IsChecked plan) (ordered : IsOrdered plan network)
    (settle : (a b : ℕ) → are_joined_by plan service a b ≡ true → AreSettled plan network a b) (mended : HasMended plan network)
    (tells : HasTellers plan network) (starts : StartsRight plan network service site) where
  quiet : is_quiet plan network service ≡ true
  quiet = first_holds (is_quiet plan network service) (is_full plan network service)
      (first_holds (is_quiet plan network service && is_full plan network service) (has_live_spokes plan network service) starts.calm)

  settled_here : (a b : ℕ) → are_joined_by plan service a b ≡ true → is_settled network a b ≡ true
  settled_here a b joined =
      let found = has_row (λ (r : WirePlan). is_wire_of service r && joins a b r.path) plan.wires joined in
      are_settled plan network service a b (record { 0 = found.k }) found.row checked found.is (first_holds (is_wire_of service found.row) (joins a b found.row.path) found.passes)
      (second_holds (is_wire_of service found.row) (joins a b found.row.path) found.passes) quiet

  up_is : (a b : ℕ) → IsUp network a b → is_up_with ((network.edges a).peering b) ≡ true
  up_is a b up = ap is_up_with up.is ∙ ap is_operational up.up

  -- other failure bits
  abbrev Seen : (ℕ → ℕ → ℕ) → NetworkState
  Seen sight = seen_as sight network

  bound_told : (local : LocalPart) → is_some (advertised_by local) ≡ is_advertising local
  bound_told (Idle declined) = refl
  bound_told (Advertised label content) = refl
  bound_told (Withdrawing label) = refl

  still_steady : (sight : ℕ → ℕ → ℕ) (a b : ℕ) → IsUp network a b → OfWires plan network a b HasAgreed → flight network a b ≡ [] → IsSteady plan service (Seen sight) a b
  still_steady sight a b up agreed none = record {
    up = up_is a b up;
    way = record { messages = []; is = none; said = tt; mild = tt };
    met = λ wire row onward. record {
      agrees = ap (λ (o : Option Binding). is_some o) (agreed wire row onward.is (onward_joined a b wire row onward)).far ∙ bound_told ((network.edges a).ends wire.0 b).local;
      unbound = refl;
    };
  }

  steady_here : (sight : ℕ → ℕ → ℕ) (a b : ℕ) → are_joined_by plan service a b ≡ true → stands network a b ≡ true → IsSteady plan service (Seen sight) a b × IsSteady plan service (Seen sight) b a
  steady_here sight a b joined there =
      let way = quiet_way network a b (settled_here a b joined) there in
      let up = (settle a b joined).up (record { one = there; other = way.back }) in
      let turned = (settle b a (joined_back plan service a b joined)).up (record { one = way.back; other = there }) in
      (still_steady sight a b up.0 up.1.1 way.out, still_steady sight b a up.1.0 turned.1.1 way.home)

  -- ---- mesh wires

  -- what a switching point tells stands for what it holds
  passed_stands : (me from to : EdgeId) (wire : WireId) (row : WirePlan) (label : ℕ) (content : Told) → wire_row plan wire ≡ Some row → mate row me.0 from.0 ≡ Some to
      → ((network.edges me.0).ends wire.0 to.0).local ≡ Advertised label content → StandsFor plan row me from content ((network.edges me.0).ends wire.0 from.0).remote
  passed_stands me from to wire row label content is mated at =
      let passes : PassesOn plan me from to wire row (network.edges me.0) content = (tells.across me from to wire row is mated).advertised label content at in
      record {
        binding = passes.binding;
        is = passes.held;
        same = (same_without_status content (past_point (own_point row.pw_id (edge_address plan me) (edge_address plan from)) passes.binding.told)).1 (ap without_status passes.content_is);
      }

  abbrev edge_of : ℕ → EdgeId
  edge_of a = record { 0 = a }

  ends_at : (a : ℕ) (row : WirePlan) → is_mesh_of service row ≡ true → is_terminal row (edge_of a) ≡ true → wire_ends_at service a row ≡ true
  ends_at a row mesh ends = and_from (is_wire_of service row) (is_terminal row (edge_of a)) (first_holds (is_wire_of service row) (is_mesh_class row.class) mesh) ends

  mesh_live : (wire : WireId) (row : WirePlan) → wire_row plan wire ≡ Some row → is_mesh_of service row ≡ true → carries plan network wire.0 row ≡ true
  mesh_live wire row is mesh = mesh_carries plan network service wire.0 row checked starts.calm is mesh

  -- at a terminal edge
  module _ (a : ℕ) (wire : WireId) (row : WirePlan) (peer : EdgeId) (is : wire_row plan wire ≡ Some row) (mesh : is_mesh_of service row ≡ true) (joined : joins a peer.0 row.path ≡ true)
      (ends : is_terminal row (edge_of a) ≡ true) where
    forward : end_forwards plan (network.edges a) wire ≡ true
    forward =
        let link : IsLink plan row = link_at plan wire.0 row checked is in
        let both = carries_ends plan network wire.0 row link (mesh_live wire row is mesh) in
        ⊎_elim
        (λ (near : a ≡ link.near.0). subst (λ (n : ℕ). end_forwards plan (network.edges n) wire ≡ true) (sym near) both.0)
        (λ (far : a ≡ link.far.0). subst (λ (n : ℕ). end_forwards plan (network.edges n) wire ≡ true) (sym far) both.1)
        (sides_ended plan service row link a (ends_at a row mesh ends))

    end_is : IsLinkEnd plan (edge_of a) peer wire row
    end_is = link_end plan service (edge_of a) peer wire row checked (ends_at a row mesh ends) is joined

    down_is : down_at plan (network.edges a) end_is.place ≡ None
    down_is = forwards_end plan (network.edges a) (edge_of a) peer wire row end_is (ordered.placed a) forward

    terminal_told : is_advertising ((network.edges a).ends wire.0 peer.0).local ≡ true
    terminal_told =
        let agree = forwards_where_both_agree (role_at plan (network.edges a) end_is.place) ((network.edges a).bits end_is.place.wire.0) (end_at (network.edges a) end_is.place) down_is in
        ap (λ (w : WireId). is_advertising ((network.edges a).ends w.0 peer.0).local) (sym end_is.wire_is)
        ∙ (ap (λ (e : EdgeId). is_advertising ((network.edges a).ends end_is.place.wire.0 e.0).local) (sym end_is.peer_is) ∙ advertises_it agree.label agree.own _ agree.advertises)

    terminal_whole : (network.edges a).bits wire.0 ≡ 0
    terminal_whole =
        ap (λ (w : WireId). (network.edges a).bits w.0) (sym end_is.wire_is)
        ∙ forwards_whole (role_at plan (network.edges a) end_is.place) ((network.edges a).bits end_is.place.wire.0) (end_at (network.edges a) end_is.place) down_is

  mesh_here : (a : ℕ) → KeepsMesh plan service a (network.edges a)
  mesh_here a = record { told = told; on = on; whole = whole; across = across } where
    told : (wire : WireId) (row : WirePlan) (peer : ℕ) → wire_row plan wire ≡ Some row → is_mesh_of service row ≡ true → joins a peer row.path ≡ true
        → is_advertising ((network.edges a).ends wire.0 peer).local ≡ true
    told wire row peer is mesh joined = by (is_terminal row (edge_of a)) refl where
      by : (b : Bool) → is_terminal row (edge_of a) ≡ b → is_advertising ((network.edges a).ends wire.0 peer).local ≡ true
      by true ends = terminal_told a wire row (record { 0 = peer }) is mesh joined ends
      by false inside =
          let behind : HasOtherSide row (edge_of a) (record { 0 = peer }) = has_other_side row (edge_of a) (record { 0 = peer }) (wire_fits plan wire row checked is).once joined inside in
          carried_told plan network wire row (edge_of a) behind.from (record { 0 = peer }) checked (ordered.placed a) is (mesh_live wire row is mesh) behind.mate_is

    whole : (wire : WireId) (row : WirePlan) → wire_row plan wire ≡ Some row → is_mesh_of service row ≡ true → is_terminal row (edge_of a) ≡ true → (network.edges a).bits wire.0 ≡ 0
    whole wire row is mesh ends =
        let next : HasNext row.path a = next_of plan service row a (link_at plan wire.0 row checked is) (ends_at a row mesh ends) in
        terminal_whole a wire row next.peer is mesh next.joined ends

    on : (wire : WireId) (row : WirePlan) (peer : ℕ) → wire_row plan wire ≡ Some row → is_mesh_of service row ≡ true → joins a peer row.path ≡ true → (network.edges a).wire_on wire.0 ≡ true
    on wire row peer is mesh joined =
        let near : NamedEnd plan (edge_of a) (record { 0 = peer }) wire row = end_of plan (edge_of a) (record { 0 = peer }) wire row checked is joined in
        let same : is_advertising (end_at (network.edges a) near.place).local ≡ true =
        ap (λ (w : WireId). is_advertising ((network.edges a).ends w.0 near.place.peer.0).local) near.wire_is
        ∙ (ap (λ (e : EdgeId). is_advertising ((network.edges a).ends wire.0 e.0).local) near.peer_is ∙ told wire row peer is mesh joined) in
        ap (λ (w : WireId). (network.edges a).wire_on w.0) (sym near.wire_is) ∙ mended.on a near.place (named_is plan (edge_of a) (record { 0 = peer }) row.pw_id near.place near.named).holds same

    across : (wire : WireId) (row : WirePlan) (from to : EdgeId) (label : ℕ) (content : Told) → wire_row plan wire ≡ Some row → is_mesh_of service row ≡ true → mate row a from.0 ≡ Some to
        → ((network.edges a).ends wire.0 to.0).local ≡ Advertised label content → StandsFor plan row (edge_of a) from content ((network.edges a).ends wire.0 from.0).remote
    across wire row from to label content is mesh mated at = passed_stands (edge_of a) from to wire row label content is mated at

  -- ---- spokes

  idle_not : (local : LocalPart) → is_idle local ≡ true → is_withdrawing local ≡ false
  idle_not (Idle declined) is = refl
  idle_not (Advertised label content) is = refl
  idle_not (Withdrawing label) is = clash is

  waits_not : (a b : ℕ) (wire : WireId) (row : WirePlan) → wire_row plan wire ≡ Some row → joins a b row.path ≡ true → are_joined_by plan service a b ≡ true
      → is_withdrawing ((network.edges a).ends wire.0 b).local ≡ false
  waits_not a b wire row is joined by_service = by (stands network a b) refl where
    by : (x : Bool) → stands network a b ≡ x → is_withdrawing ((network.edges a).ends wire.0 b).local ≡ false
    by true there =
        let way = quiet_way network a b (settled_here a b by_service) there in
        (((settle a b by_service).up (record { one = there; other = way.back })).1.1 wire row is joined).one_waits_not
    by false gone = idle_not ((network.edges a).ends wire.0 b).local ((settle a b by_service).apart gone (back (stands network b a) refl) wire row is joined).one_idle where
      back : (y : Bool) → stands network b a ≡ y → y ≡ false
      back true there = clash (sym gone ∙ (quiet_way network b a (settled_here b a (joined_back plan service a b by_service)) there).back)
      back false there = refl

  spokes_here : (sight : ℕ → ℕ → ℕ) (a : EdgeId) → KeepsSpokes plan service (Seen sight) a ((Seen sight).edges a.0)
  spokes_here sight a = record {
    waits_not = λ wire row next onward. waits_not a.0 next wire row onward.is (onward_joined a.0 next wire row onward)
        (of_service_joined plan service a.0 next wire row onward.is (spoke_ours service onward.edge row onward.from) onward.next);
    whole = λ wire row next onward first. ap (λ (k : ℕ). sight k wire.0) (one_first a.0 onward.edge row.path first
        (second_holds (is_wire_of service row && not (is_mesh_class row.class)) (is_first onward.edge row.path) onward.from)) ∙ onward.whole;
    on = λ wire row next onward told.
        (let near : NamedEnd plan a (record { 0 = next }) wire row = end_of plan a (record { 0 = next }) wire row checked onward.is (onward_joined a.0 next wire row onward) in
        let same : is_advertising (end_at (network.edges a.0) near.place).local ≡ true =
        ap (λ (w : WireId). is_advertising ((network.edges a.0).ends w.0 near.place.peer.0).local) near.wire_is
        ∙ (ap (λ (e : EdgeId). is_advertising ((network.edges a.0).ends wire.0 e.0).local) near.peer_is ∙ told) in
        ap (λ (w : WireId). (network.edges a.0).wire_on w.0) (sym near.wire_is) ∙ mended.on a.0 near.place (named_is plan a (record { 0 = next }) row.pw_id near.place near.named).holds same);
    across = λ wire row from to label content onward mated at. passed_stands a from to wire row label content onward.is mated at;
  }

  -- ---- entries

  lives : (x : ℕ) → x < length plan.edges → is_spoke_edge plan service x ≡ true → IsLiveAt plan service network x
  lives x within starts_there = live_at plan service network x checked ordered starts.calm within starts_there

  same_edge : (circuit : CircuitId) (row : CircuitPlan) (x : ℕ) → circuit_row plan circuit ≡ Some row → at_edge_of plan service x circuit ≡ true → row.edge.0 ≡ x
  same_edge circuit row x is there = eqb-true row.edge.0 x (ap (is_row_at x) (sym is) ∙ second_holds (is_circuit_of plan service circuit) (circuit_is_at plan x circuit) there)

  own_edge_is : (circuit : CircuitId) (x y : ℕ) → at_edge_of plan service x circuit ≡ true → at_edge_of plan service y circuit ≡ true → x ≡ y
  own_edge_is circuit x y one other = by (circuit_row plan circuit) refl where
    by : (o : Option CircuitPlan) → circuit_row plan circuit ≡ o → x ≡ y
    by None is = clash (ap (is_row_at x) (sym is) ∙ second_holds (is_circuit_of plan service circuit) (circuit_is_at plan x circuit) one)
    by (Some row) is = sym (same_edge circuit row x is one) ∙ same_edge circuit row y is other

  no_both : {P : Type 0} (e : ℕ) → is_core_edge plan service e ≡ true → is_spoke_edge plan service e ≡ true → P
  no_both e core spoke = clash (ap not (sym spoke) ∙ second_holds (has_port plan service e) (not (is_spoke_edge plan service e)) core)

  module _ (core : ℕ) (core_is : is_core_edge plan service core ≡ true) (entry : MacEntry) (points : PointsToSite plan network service site core entry) (x : ℕ) (wire : WireId) (home : ℕ)
      (spoke : IsSpokeTo plan service x wire home)
      (chosen : (network.edges x).chosen service.0 ≡ Some wire) (there : at_edge_of plan service x (site entry.address.0) ≡ true) where
    abbrev circuit : CircuitId
    circuit = site entry.address.0

    spoke_is : IsSpokeOf plan service x home spoke.row
    spoke_is = spoke_of plan service x wire home checked spoke

    inside : x < length plan.edges
    inside = port_inside plan service x checked (port_at plan service x wire.0 spoke.row spoke.is spoke_is.ends)

    live : IsLiveAt plan service network x
    live = lives x inside spoke_is.starts

    wire_is : live.wire ≡ wire
    wire_is = some_same (sym live.chosen ∙ chosen)

    home_is : live.home ≡ home
    home_is = home_same plan service x wire live.home home checked (subst (λ (w : WireId). IsSpokeTo plan service x w live.home) wire_is live.spoke) spoke

    by_port : (p : Port) → slice_get (ports_of plan service (record { 0 = core })) entry.port ≡ Some p → reach plan network service core p circuit ≡ true → LeadsHome plan core home wire (Some p)
    by_port (port.Circuit own) leads reached = tt
    by_port (port.Mesh mesh) leads reached = by_beside (beside.row.edge.0 == far.other) refl where
      wired : IsPortWire plan service core true mesh
      wired = mesh_port plan service core entry.port mesh checked leads

      far : HasFar plan service wired.row core
      far = mesh_far plan service core mesh wired.row checked wired.is (of_mesh plan service core mesh wired) wired.ends

      beside : IsBeside plan service network far.other circuit
      beside = beside_is plan service network far.other circuit (sym (mesh_reach plan service network core far.other mesh wired.row circuit wired.is far.far) ∙ reached)

      edge_is : beside.row.edge.0 ≡ x
      edge_is = same_edge circuit beside.row x beside.is there

      at_home : (o : Option ℕ) → o ≡ Some live.home → is_home far.other o ≡ true → live.home ≡ far.other
      at_home o is same = eqb-true live.home far.other (ap (is_home far.other) (sym is) ∙ same)

      by_beside : (b : Bool) → (beside.row.edge.0 == far.other) ≡ b → IsWireTo plan core home mesh
      by_beside true here = no_both x (subst (λ (n : ℕ). is_core_edge plan service n ≡ true) (sym (eqb-true beside.row.edge.0 far.other here) ∙ edge_is) far.core_there) spoke_is.starts
      by_beside false away =
          let led : is_home far.other (home_of plan network service beside.row.edge.0) ≡ true = second_holds (is_spoke_edge plan service beside.row.edge.0) _ (rw away at beside.where_is) in
          let homes : live.home ≡ far.other = at_home (home_of plan network service x) live.home_is (subst (λ (n : ℕ). is_home far.other (home_of plan network service n) ≡ true) edge_is led) in
          record { row = wired.row; is = wired.is; far = far.far ∙ ap Some (sym homes ∙ home_is) }
    by_port (port.Spoke other) leads reached = by_side (core == wired.link.near.0) refl behind.behind where
      wired : IsPortWire plan service core false other
      wired = spoke_port plan service core entry.port other checked leads

      behind : IsBehindSpoke plan service network core other wired.row wired.link circuit
      behind = behind_is plan service network core other wired.row wired.link circuit wired.is reached

      its : IsSpokeTo plan service wired.link.near.0 other wired.link.far.0
      its = spoke_at_link plan service wired.link.near.0 other.0 wired.row wired.link wired.is behind.from

      its_link : IsSpokeOf plan service wired.link.near.0 wired.link.far.0 its.row
      its_link = spoke_of plan service wired.link.near.0 other wired.link.far.0 checked its

      by_side : (b : Bool) → (core == wired.link.near.0) ≡ b → cond b (elsewhere_of plan service core circuit) (at_edge_of plan service wired.link.near.0 circuit) ≡ true
          → (core ≡ home) × (other ≡ wire)
      by_side true here at = no_both core core_is (subst (λ (n : ℕ). is_spoke_edge plan service n ≡ true) (sym (eqb-true core wired.link.near.0 here)) its_link.starts)
      by_side false away at =
          let far : core ≡ wired.link.far.0 = at_far plan service core wired.row wired.link wired.ends away in
          let same : wired.link.near.0 ≡ x = own_edge_is circuit wired.link.near.0 x at there in
          let up : end_forwards plan (network.edges x) other ≡ true =
          subst (λ (n : ℕ). end_forwards plan (network.edges n) other ≡ true) same (carries_ends plan network other.0 wired.row wired.link behind.live).0 in
          let moved : IsSpokeTo plan service x other wired.link.far.0 = subst (λ (n : ℕ). IsSpokeTo plan service n other wired.link.far.0) same its in
          let one : other ≡ wire = live_same plan service network x other wired.link.far.0 checked ordered live moved up ∙ wire_is in
          (far ∙ home_same plan service x wire wired.link.far.0 home checked (subst (λ (w : WireId). IsSpokeTo plan service x w wired.link.far.0) one moved) spoke, one)

    right_here : LeadsHome plan core home wire (slice_get (ports_of plan service (record { 0 = core })) entry.port)
    right_here = subst (LeadsHome plan core home wire) (sym points.at) (by_port points.port points.at points.reaches)

  live_entry : (e : ℕ) (entry : MacEntry) → PointsToSite plan network service site e entry → IsAtLive plan service e (network.edges e) entry
  live_entry e entry points wire leads =
      let same : points.port ≡ port.Spoke wire = some_same (sym points.at ∙ leads) in
      let wired : IsPortWire plan service e false wire = spoke_port plan service e entry.port wire checked leads in
      let behind = behind_is plan service network e wire wired.row wired.link (site entry.address.0) wired.is
      (subst (λ (p : Port). reach plan network service e p (site entry.address.0) ≡ true) same points.reaches) in
      let both = carries_ends plan network wire.0 wired.row wired.link behind.live in
      split {P = end_forwards plan (network.edges e) wire ≡ true} (e == wired.link.near.0)
      (λ here. subst (λ (n : ℕ). end_forwards plan (network.edges n) wire ≡ true) (sym (eqb-true e wired.link.near.0 here)) both.0)
      (λ away. subst (λ (n : ℕ). end_forwards plan (network.edges n) wire ≡ true) (sym (at_far plan service e wired.row wired.link wired.ends away)) both.1)

  -- with other failure bits too, but for those of mesh wires
  pub starts_heal : (sight : ℕ → ℕ → ℕ) → ((a : ℕ) (wire : WireId) (row : WirePlan) → wire_row plan wire ≡ Some row → is_mesh_of service row ≡ true → sight a wire.0 ≡ (network.edges a).bits wire.0)
      → Heals plan service site network (Seen sight)
  starts_heal sight same = record {
    steady = steady_here sight;
    mesh = λ a. (let mesh = mesh_here a in
        record { told = mesh.told; on = mesh.on; whole = λ wire row is of_mesh ended. same a wire row is of_mesh ∙ mesh.whole wire row is of_mesh ended; across = mesh.across });
    spokes = spokes_here sight;
    right = λ core is. all_weaker (PointsToSite plan network service site core)
        (EntryHeals plan service site (chosen_in service network) (ways_of plan service (Seen sight)) core) (learned_in service network core)
        (λ entry points x wire home spoke chosen there. IsRight (right_here core is entry points x wire home spoke chosen there)) (starts.points core);
    table = starts.points;
  }

  pub starts_live : (e : ℕ) → AllByRecursion (IsAtLive plan service e (network.edges e)) (learned_in service network e)
  starts_live e = all_weaker (PointsToSite plan network service site e) (IsAtLive plan service e (network.edges e)) (learned_in service network e) (live_entry e) (starts.points e)

-- what a calm state from which addresses point to their sites has for a setting, whatever failure bits are seen
pub record Begins (plan : Plan) (service : ServiceId) (site : Sites) (network : NetworkState) : Type 0 where
  pub heals : (sight : ℕ → ℕ → ℕ) → ((a : ℕ) (wire : WireId) (row : WirePlan) → wire_row plan wire ≡ Some row → is_mesh_of service row ≡ true → sight a wire.0 ≡ (network.edges a).bits wire.0)
      → Heals plan service site network (seen_as sight network)
  pub live : (e : ℕ) → AllByRecursion (IsAtLive plan service e (network.edges e)) (learned_in service network e)

pub run_tells : (plan : Plan) (events : List Event) → IsRun plan events → HasTellers plan (network_after plan events)
run_tells plan events run = record {
  across = λ me from to wire row is mated. runs_tell_across plan events run me from to wire row is mated;
  taken = λ from to apart. runs_take_mappings plan events run from to apart;
}

pub start_begins : (plan : Plan) (events : List Event) (service : ServiceId) (site : Sites) → IsRun plan events → StartsRight plan (network_after plan events) service site
    → Begins plan service site (network_after plan events)
start_begins plan events service site run starts = record {
  heals = starts_heal plan service site (network_after plan events) run.checked (run_ordered plan events run) settle (run_mended plan events run) (run_tells plan events run) starts;
  live = starts_live plan service site (network_after plan events) run.checked (run_ordered plan events run) settle (run_mended plan events run) (run_tells plan events run) starts;
}
  where
    quiet_of : is_calm plan (network_after plan events) service ≡ true → is_quiet plan (network_after plan events) service ≡ true
    quiet_of calm = first_holds (is_quiet plan (network_after plan events) service) (is_full plan (network_after plan events) service)
        (first_holds (is_quiet plan (network_after plan events) service && is_full plan (network_after plan events) service) (has_live_spokes plan (network_after plan events) service) calm)

    settle : (a b : ℕ) → are_joined_by plan service a b ≡ true → AreSettled plan (network_after plan events) a b
    settle a b joined = runs_settle plan events run service (quiet_of starts.calm) a b joined
