-- What always holds of what an edge forwards by holds after each change of it, and the change is that of the edge.
use Rattle.std.proofs.Common.{◌≡◌, ◌<◌, ◌≤◌, ◌+◌, ◌++◌, ◌∙◌, ◌⊎◌, ◌&&◌, not, ℕ, zero, suc, Bool, true, false, List, [], ◌∷◌, Option, Some, None, cond, filter, length, option_map, slice_get, slice_set, slice_index_or, map, take, drop, set, position, nat_eq, replicate, refl, ap, sym, subst, inl, inr, arith, length-set}
use Rattle.std.proofs.lemmas.Bool.{eq-eqb, eqb-true}
use Rattle.std.proofs.lemmas.List.{length-map}
use Rattle.std.proofs.lemmas.Option.{slice_get_within, slice_get_past, get_or_from_slice_get}
use Rattle.std.specs.Prelude.{All}
use Rattle.net_base.specs.declared.plan.Plan.{Plan}
use Rattle.net_base.specs.declared.plan.circuit_plan.CircuitPlan.{CircuitPlan}
use Rattle.net_base.specs.declared.plan.service_plan.ServicePlan.{ServicePlan}
use Rattle.net_base.specs.declared.plan.wire_plan.WirePlan.{WirePlan}
use Rattle.net_base.specs.declared.plan.places.CircuitId.{CircuitId}
use Rattle.net_base.specs.declared.plan.places.EdgeId.{EdgeId}
use Rattle.net_base.specs.declared.plan.places.ServiceId.{ServiceId}
use Rattle.net_base.specs.declared.plan.places.WireId.{WireId}
use Rattle.net_base.specs.declared.trace.down.Down.{Down}
use Rattle.net_base.specs.declared.trace.down.Down.TheVariants.{NoLocal}
use Rattle.net_values.specs.declared.mac.Mac.{Mac}
use Rattle.net_values.proofs.RowLemmas.{row_holds, replicate_length, same_read}
use Rattle.net_base.specs.plan.Accepted.{IsChecked, IsCircuitOf, IsWireOf}
use Rattle.net_base.specs.plan.Places.{circuit_row, service_row, wire_row}
use Rattle.hvpls_spokes.specs.declared.port.Port.{Port}
use Rattle.hvpls_spokes.specs.Port.{is_circuit_port, is_wire_port, ports_of, is_wire}
use Rattle.hvpls_spokes.specs.PortSet.{holds_port}
use Rattle.mac_table.specs.Addresses.{NoneAfter, entry_stays, is_young}
use Rattle.mac_table.specs.declared.mac_entry.MacEntry.{MacEntry}
use Rattle.mac_table.proofs.AddressLemmas.{none_after_filtered, none_after_later}
use Rattle.vsi_bridge.specs.BridgeState.{BridgeState, most_addresses}
use Rattle.vsi_bridge.specs.Targets.{heard, is_target, known_port}
use Rattle.edge_model.specs.Clear.{withdrawing_at}
use Rattle.edge_model.specs.Ends.{is_up}
use Rattle.edge_model.specs.Frame.{destination, hearing, source}
use Rattle.edge_model.specs.Mend.{forgetting_wire}
use Rattle.edge_model.specs.State.{EdgeState, addresses_of, put_at, with_addresses, with_circuit, with_learned, with_ticks, with_told_down, without_port}
use Rattle.edge_model.specs.Tick.{aged, forgetting}
use Rattle.edge_forwarding.specs.declared.domain.Domain.{Domain}
use Rattle.edge_forwarding.specs.Change.{AreChanged}
use Rattle.edge_forwarding.specs.declared.domain_change.DomainChange.TheVariants as change
use Rattle.edge_forwarding.specs.Domain.{AreNew, IsDomain, IsDomainKept, IsKeptClosed, IsKeptTurned, IsNew, KeptNotAfter, age_of, aged_kept, all_on, cleared_kept, forgot_kept, is_found, nothing_told, port_opens, withdrawn_kept}
use Rattle.edge_forwarding.specs.Forwarding.{ForwardingLists, IsForwarding, IsNewForwarding, circuits_in, domain_of, entries_of, forgotten, open_ports, opened_forwarding, own_service, told_in, with_forwarding, without_told}
use Rattle.edge_forwarding.specs.Views.{view}
use Rattle.edge_forwarding.proofs.OpenLemmas.{closed_port, opens_within, same_tests, told_elsewhere, told_ports, turned_elsewhere, turned_ports}
use Rattle.edge_forwarding.proofs.EachLemmas.{each_next}
use Rattle.edge_forwarding.proofs.FewLemmas.{few_filtered, few_without_port}
use Rattle.edge_forwarding.proofs.Views.{past_end, view_at, view_set}

none_past : {X : Type 0} (xs : List X) (k : ℕ) → slice_get xs k ≡ None → length xs ≤ k
none_past [] k is = omega arith
none_past (x ∷ xs) zero is = absurd (cc (is))
none_past (x ∷ xs) (suc k) is = omega (arith, none_past xs k is)

-- ---- a domain that was read

-- a domain that was read at the place of a service
pub record WasRead (f : ForwardingLists) (service : ServiceId) (kept : Option Domain) : Type 0 where
  pub is : IsForwarding f
  pub within : service.0 < length f.plan.services
  pub read : kept ≡ slice_index_or f.domains service.0 kept

place_of : (f : ForwardingLists) (service : ServiceId) → IsForwarding f → service.0 < length f.plan.services → service.0 < length f.domains
place_of f service is within = omega (arith, is.services, within)

read_is : (f : ForwardingLists) (service : ServiceId) (kept : Option Domain) → WasRead f service kept → domain_of f service.0 ≡ kept
read_is f service kept was = same_read f.domains service.0 None kept (place_of f service was.is was.within) ∙ sym was.read

abbrev pub IsKeptIn : ForwardingLists → ServiceId → Option Domain → Type 0
IsKeptIn f service kept = IsDomainKept f.plan f.me (circuits_in f) (told_in f) f.ticks service kept

pub the_kept : (f : ForwardingLists) (service : ServiceId) (kept : Option Domain) → WasRead f service kept → IsKeptIn f service kept
the_kept f service kept was = subst (IsKeptIn f service) (read_is f service kept was) (was.is.domains service.0 was.within)

pub the_domain : (f : ForwardingLists) (service : ServiceId) (kept : Option Domain) (domain : Domain) → WasRead f service kept → kept ≡ Some domain
    → IsDomain f.plan f.me (circuits_in f) (told_in f) f.ticks service domain
the_domain f service kept domain was some = subst (IsKeptIn f service) some (the_kept f service kept was)

pub the_ports : (f : ForwardingLists) (service : ServiceId) (kept : Option Domain) (domain : Domain) → WasRead f service kept → kept ≡ Some domain → domain.bridge.ports ≡ ports_of f.plan service f.me
the_ports f service kept domain was some = (the_domain f service kept domain was some).ports

pub no_ports : (f : ForwardingLists) (service : ServiceId) (kept : Option Domain) → WasRead f service kept → kept ≡ None → ports_of f.plan service f.me ≡ []
no_ports f service kept was none = subst (IsKeptIn f service) none (the_kept f service kept was)

pub ticks_at : (f : ForwardingLists) (service : ServiceId) (kept : Option Domain) (domain : Domain) → WasRead f service kept → kept ≡ Some domain → NoneAfter f.ticks domain.bridge.entries
ticks_at f service kept domain was some = (the_domain f service kept domain was some).ticks

pub few_at : (f : ForwardingLists) (service : ServiceId) (kept : Option Domain) (domain : Domain) → WasRead f service kept → kept ≡ Some domain → length domain.bridge.entries ≤ most_addresses
few_at f service kept domain was some = (the_domain f service kept domain was some).few

pub within_at : (f : ForwardingLists) (service : ServiceId) (kept : Option Domain) (domain : Domain) → WasRead f service kept → kept ≡ Some domain → (p : ℕ) → holds_port domain.forwarding p
    ≡ true → p < length domain.bridge.ports
within_at f service kept domain was some p on = opens_within (circuits_in f) (told_in f) domain.bridge.ports p (sym ((the_domain f service kept domain was some).forwarding p) ∙ on)

pub on_at : (f : ForwardingLists) (service : ServiceId) (kept : Option Domain) (domain : Domain) (arrival : ℕ) → WasRead f service kept → kept ≡ Some domain
    → open_ports f service arrival ≡ true → holds_port domain.forwarding arrival ≡ true
on_at f service kept domain arrival was some on =
    (the_domain f service kept domain was some).forwarding arrival ∙ (ap (λ (ports : List Port). port_opens (circuits_in f) (told_in f) ports arrival) (the_ports f service kept domain was some) ∙ on)

pub on_nowhere : (f : ForwardingLists) (service : ServiceId) (kept : Option Domain) (arrival : ℕ) → WasRead f service kept → kept ≡ None → open_ports f service arrival ≡ true → ⊥
on_nowhere f service kept arrival was none on =
    absurd (cc (sym (ap (λ (ports : List Port). port_opens (circuits_in f) (told_in f) ports arrival) (no_ports f service kept was none)) ∙ on))

-- ---- one domain is changed

abbrev pub put_kept : ForwardingLists → ServiceId → Option Domain → ForwardingLists
put_kept f service after = record f { domains = slice_set f.domains service.0 after }

-- of each domain this holds, where it holds of the one that is put and of the others
all_put : (P : ServiceId → Option Domain → Type 0) (domains : List (Option Domain)) (service : ServiceId) (after : Option Domain) (count : ℕ) → service.0 < length domains
    → P service after → ((k : ℕ) → nat_eq k service.0 ≡ false → k < count → P (record { 0 = k }) (view None domains k))
    → (k : ℕ) → k < count → P (record { 0 = k }) (view None (slice_set domains service.0 after) k)
all_put P domains service after count place here others k below = subst (P (record { 0 = k })) (sym (view_at None domains service.0 after k place)) (by (nat_eq k service.0) refl) where
  by : (same : Bool) → nat_eq k service.0 ≡ same → P (record { 0 = k }) (cond same after (view None domains k))
  by true same = subst (λ (n : ℕ). P (record { 0 = n }) after) (sym (eqb-true k service.0 same)) here
  by false apart = others k apart below

pub forwarding_put : (f : ForwardingLists) (service : ServiceId) (after : Option Domain) → IsForwarding f → service.0 < length f.plan.services → IsKeptIn f service after
    → IsForwarding (put_kept f service after)
forwarding_put f service after is within here = record {
  checked = is.checked;
  circuits = is.circuits;
  each_told = is.each_told;
  services = length-set f.domains service.0 after ∙ is.services;
  domains = all_put (IsKeptIn f) f.domains service after (length f.plan.services) (place_of f service is within) here (λ k apart below. is.domains k below);
}

pub seen_put : (f : ForwardingLists) (service : ServiceId) (after : Option Domain) (edge : EdgeState) → service.0 < length f.domains → with_forwarding (put_kept f service after) edge
    ≡ with_addresses service (entries_of after) (with_forwarding f edge)
unfolding with_forwarding with_addresses
seen_put f service after edge place = λ i. record (with_forwarding f edge) { learned = λ k. learned k i }
  where
    chosen : (b : Bool) (other : Option Domain) → entries_of (cond b after other) ≡ cond b (entries_of after) (entries_of other)
    chosen true other = refl
    chosen false other = refl

    learned : (k : ℕ) → entries_of (view None (slice_set f.domains service.0 after) k) ≡ put_at (λ k. entries_of (view None f.domains k)) service.0 (entries_of after) k
    learned k = ap entries_of (view_at None f.domains service.0 after k place) ∙ chosen (nat_eq k service.0) (view None f.domains k)

learned_in : (f : ForwardingLists) (service : ServiceId) (edge : EdgeState) → addresses_of (with_forwarding f edge) service ≡ entries_of (domain_of f service.0)
unfolding with_forwarding
learned_in f service edge = refl

ticks_in : (f : ForwardingLists) (edge : EdgeState) → (with_forwarding f edge).ticks ≡ f.ticks
unfolding with_forwarding
ticks_in f edge = refl

-- ---- a frame is heard

abbrev pub with_entries : Domain → List MacEntry → Domain
with_entries domain entries = record domain { bridge = record domain.bridge { entries = entries } }

pub heard_kept : (f : ForwardingLists) (service : ServiceId) (kept : Option Domain) (domain after : Domain) (entries : List MacEntry) → WasRead f service kept → kept ≡ Some domain
    → after ≡ with_entries domain entries → NoneAfter f.ticks after.bridge.entries → length entries ≤ most_addresses → IsForwarding (put_kept f service (Some after))
heard_kept f service kept domain after entries was some is none few =
    let here = the_domain f service kept domain was some in
    forwarding_put f service (Some after) was.is was.within (record {
      ports = ap (λ (d : Domain). d.bridge.ports) is ∙ here.ports;
      some = here.some;
      age = λ row found. ap (λ (d : Domain). d.bridge.age) is ∙ here.age row found;
      forwarding = λ p. ap (λ (d : Domain). holds_port d.forwarding p) is ∙ (here.forwarding p ∙ ap (λ (d : Domain). port_opens (circuits_in f) (told_in f) d.bridge.ports p) (sym is));
      ticks = none;
      few = subst (λ (d : Domain). length d.bridge.entries ≤ most_addresses) (sym is) few;
    })

pub heard_seen : (f : ForwardingLists) (service : ServiceId) (kept : Option Domain) (domain after : Domain) (frame : List ℕ) (arrival : ℕ) (edge : EdgeState) → WasRead f service kept
    → kept ≡ Some domain
    → after ≡ with_entries domain (heard domain.bridge.entries (source frame) arrival f.ticks)
    → with_forwarding (put_kept f service (Some after)) edge ≡ hearing service frame arrival (with_forwarding f edge)
heard_seen f service kept domain after frame arrival edge was some is =
    seen_put f service (Some after) edge (place_of f service was.is was.within)
    ∙ (ap (λ (d : Domain). with_addresses service d.bridge.entries (with_forwarding f edge)) is
    ∙ (ap (λ (es : List MacEntry). with_addresses service (heard es (source frame) arrival f.ticks) (with_forwarding f edge))
    (sym (learned_in f service edge ∙ ap entries_of (read_is f service kept was ∙ some)))
    ∙ ap (λ (n : ℕ). with_addresses service (heard (addresses_of (with_forwarding f edge) service) (source frame) arrival n) (with_forwarding f edge)) (sym (ticks_in f edge))))

pub heard_targets : (f : ForwardingLists) (service : ServiceId) (kept : Option Domain) (domain after : Domain) (frame : List ℕ) (arrival : ℕ) (targets : List ℕ)
    → WasRead f service kept → kept ≡ Some domain
    → ((p : ℕ) → holds_port targets p ≡ is_target domain.bridge.ports (holds_port domain.forwarding) arrival (known_port after.bridge.entries (destination frame)) p)
    → holds_port targets ≡ is_target (ports_of f.plan service f.me) (open_ports f service) arrival (known_port (entries_of (domain_of (put_kept f service (Some after)) service.0)) (destination frame))
heard_targets f service kept domain after frame arrival targets was some decided =
    let ports : domain.bridge.ports ≡ ports_of f.plan service f.me = the_ports f service kept domain was some in
    let forward : holds_port domain.forwarding ≡ open_ports f service =
    same_tests (holds_port domain.forwarding) (open_ports f service)
    (λ p. (the_domain f service kept domain was some).forwarding p ∙ ap (λ (ps : List Port). port_opens (circuits_in f) (told_in f) ps p) ports) in
    let learned : after.bridge.entries ≡ entries_of (domain_of (put_kept f service (Some after)) service.0) =
    sym (ap entries_of (view_at None f.domains service.0 (Some after) service.0 (place_of f service was.is was.within)
    ∙ ap (λ (b : Bool). cond b (Some after) (view None f.domains service.0)) (eq-eqb service.0 service.0 refl))) in
    same_tests (holds_port targets) (is_target (ports_of f.plan service f.me) (open_ports f service) arrival
    (known_port (entries_of (domain_of (put_kept f service (Some after)) service.0)) (destination frame)))
    (λ p. decided p
    ∙ (ap (λ (ps : List Port). is_target ps (holds_port domain.forwarding) arrival (known_port after.bridge.entries (destination frame)) p) ports
    ∙ (ap (λ (t : ℕ → Bool). is_target (ports_of f.plan service f.me) t arrival (known_port after.bridge.entries (destination frame)) p) forward
    ∙ ap (λ (es : List MacEntry). is_target (ports_of f.plan service f.me) (open_ports f service) arrival (known_port es (destination frame)) p) learned)))

-- ---- what was learned at a port is forgotten

none_after_port : (now : ℕ) (found : Option ℕ) (entries : List MacEntry) → NoneAfter now entries → NoneAfter now (without_port found entries)
none_after_port now None entries none = none
none_after_port now (Some p) entries none = none_after_filtered (λ e. not (nat_eq e.port p)) now entries _ none refl

kept_forgot : (plan : Plan) (me : EdgeId) (on : ℕ → Bool) (told : ℕ → Option Down) (ticks : ℕ) (service : ServiceId) (test : Port → Bool) (kept : Option Domain)
    → IsDomainKept plan me on told ticks service kept → IsDomainKept plan me on told ticks service (forgot_kept test kept)
kept_forgot plan me on told ticks service test None is = is
kept_forgot plan me on told ticks service test (Some domain) is = record {
  ports = is.ports;
  some = is.some;
  age = is.age;
  forwarding = is.forwarding;
  ticks = none_after_port ticks (position test domain.bridge.ports) domain.bridge.entries is.ticks;
  few = few_without_port (position test domain.bridge.ports) domain.bridge.entries is.few;
}

nothing_forgot : (found : Option ℕ) → without_port found [] ≡ []
nothing_forgot None = refl
nothing_forgot (Some p) = refl

entries_forgot : (plan : Plan) (me : EdgeId) (on : ℕ → Bool) (told : ℕ → Option Down) (ticks : ℕ) (service : ServiceId) (test : Port → Bool) (kept : Option Domain)
    → IsDomainKept plan me on told ticks service kept
    → entries_of (forgot_kept test kept) ≡ without_port (position test (ports_of plan service me)) (entries_of kept)
entries_forgot plan me on told ticks service test None is = sym (nothing_forgot (position test (ports_of plan service me)))
entries_forgot plan me on told ticks service test (Some domain) is = ap (λ (ports : List Port). without_port (position test ports) domain.bridge.entries) is.ports

pub forgot_is : (f : ForwardingLists) (service : ServiceId) (test : Port → Bool) (kept after : Option Domain) → WasRead f service kept → after ≡ forgot_kept test kept
    → IsForwarding (put_kept f service after)
forgot_is f service test kept after was is =
    forwarding_put f service after was.is was.within
    (subst (IsKeptIn f service) (sym is) (kept_forgot f.plan f.me (circuits_in f) (told_in f) f.ticks service test kept (the_kept f service kept was)))

pub forgot_seen : (f : ForwardingLists) (service : ServiceId) (test : Port → Bool) (kept after : Option Domain) (edge : EdgeState) → WasRead f service kept → after ≡ forgot_kept test kept
    → with_forwarding (put_kept f service after) edge
    ≡ with_addresses service (without_port (position test (ports_of f.plan service f.me)) (addresses_of (with_forwarding f edge) service)) (with_forwarding f edge)
forgot_seen f service test kept after edge was is =
    seen_put f service after edge (place_of f service was.is was.within)
    ∙ ap (λ (es : List MacEntry). with_addresses service es (with_forwarding f edge))
    (ap entries_of is
    ∙ (entries_forgot f.plan f.me (circuits_in f) (told_in f) f.ticks service test kept (the_kept f service kept was)
    ∙ ap (λ (es : List MacEntry). without_port (position test (ports_of f.plan service f.me)) es) (sym (learned_in f service edge ∙ ap entries_of (read_is f service kept was)))))

-- what was learned at a wire is forgotten
pub wire_forgot : (f : ForwardingLists) (service : ServiceId) (wire : WireId) (row : WirePlan) (after : Option Domain) (edge : EdgeState) → wire_row f.plan wire ≡ Some row → row.service ≡ service
    → with_forwarding (put_kept f service after) edge
    ≡ with_addresses service (without_port (position (is_wire_port wire) (ports_of f.plan service f.me)) (addresses_of (with_forwarding f edge) service)) (with_forwarding f edge)
    → with_forwarding (put_kept f service after) edge ≡ forgetting_wire f.plan wire (wire_row f.plan wire) (with_forwarding f edge)
unfolding with_forwarding
wire_forgot f service wire row after edge at of is_now =
    is_now
    ∙ (ap (λ (s : ServiceId). with_addresses s (without_port (position (is_wire_port wire) (ports_of f.plan s f.me)) (addresses_of (with_forwarding f edge) s)) (with_forwarding f edge)) (sym of)
    ∙ ap (λ (r : Option WirePlan). forgetting_wire f.plan wire r (with_forwarding f edge)) (sym at))

-- ---- what a MAC withdraw names is forgotten

kept_withdrew : (plan : Plan) (me : EdgeId) (on : ℕ → Bool) (told : ℕ → Option Down) (ticks : ℕ) (service : ServiceId) (from : ℕ) (addresses : List Mac) (kept : Option Domain)
    → IsDomainKept plan me on told ticks service kept → IsDomainKept plan me on told ticks service (withdrawn_kept from addresses kept)
kept_withdrew plan me on told ticks service from addresses None is = is
kept_withdrew plan me on told ticks service from addresses (Some domain) is = record {
  ports = is.ports;
  some = is.some;
  age = is.age;
  forwarding = is.forwarding;
  ticks = none_after_filtered (entry_stays from addresses) ticks domain.bridge.entries _ is.ticks refl;
  few = few_filtered (entry_stays from addresses) domain.bridge.entries is.few;
}

entries_withdrew : (from : ℕ) (addresses : List Mac) (kept : Option Domain) → entries_of (withdrawn_kept from addresses kept) ≡ filter (entry_stays from addresses) (entries_of kept)
entries_withdrew from addresses None = refl
entries_withdrew from addresses (Some domain) = refl

pub withdrew_is : (f : ForwardingLists) (service : ServiceId) (from : ℕ) (addresses : List Mac) (kept after : Option Domain) → WasRead f service kept → after
    ≡ withdrawn_kept from addresses kept → IsForwarding (put_kept f service after)
withdrew_is f service from addresses kept after was is =
    forwarding_put f service after was.is was.within
    (subst (IsKeptIn f service) (sym is) (kept_withdrew f.plan f.me (circuits_in f) (told_in f) f.ticks service from addresses kept (the_kept f service kept was)))

pub withdrew_seen : (f : ForwardingLists) (service : ServiceId) (from : ℕ) (addresses : List Mac) (kept after : Option Domain) (edge : EdgeState) → WasRead f service kept → after
    ≡ withdrawn_kept from addresses kept
    → with_forwarding (put_kept f service after) edge ≡ withdrawing_at service addresses from (with_forwarding f edge)
withdrew_seen f service from addresses kept after edge was is =
    seen_put f service after edge (place_of f service was.is was.within)
    ∙ ap (λ (es : List MacEntry). with_addresses service es (with_forwarding f edge))
    (ap entries_of is
    ∙ (entries_withdrew from addresses kept
    ∙ ap (filter (entry_stays from addresses)) (sym (learned_in f service edge ∙ ap entries_of (read_is f service kept was)))))

-- ---- a circuit is turned

turned_entries : (test : Port → Bool) (on : Bool) (kept after : Option Domain) → IsKeptTurned test on kept after → entries_of after ≡ entries_of kept
turned_entries test on None None is = refl
turned_entries test on None (Some after) is = absurd is
turned_entries test on (Some kept) None is = absurd is
turned_entries test on (Some kept) (Some after) is = ap (λ (b : BridgeState). b.entries) is.bridge

same_learned : (f : ForwardingLists) (service : ServiceId) (kept after : Option Domain) → WasRead f service kept → entries_of after ≡ entries_of kept → (k : ℕ)
    → entries_of (view None (slice_set f.domains service.0 after) k) ≡ entries_of (view None f.domains k)
same_learned f service kept after was same k = ap entries_of (view_at None f.domains service.0 after k (place_of f service was.is was.within)) ∙ by (nat_eq k service.0) refl where
  by : (b : Bool) → nat_eq k service.0 ≡ b → entries_of (cond b after (view None f.domains k)) ≡ entries_of (view None f.domains k)
  by false is = refl
  by true is = same ∙ ap entries_of (sym (ap (view None f.domains) (eqb-true k service.0 is) ∙ read_is f service kept was))

-- the domain whose port is turned, where the port that is found is the one that is turned
kept_turned : (plan : Plan) (me : EdgeId) (on next : ℕ → Bool) (told then : ℕ → Option Down) (ticks : ℕ) (service : ServiceId) (test : Port → Bool) (turned : Bool) (kept after : Option Domain)
    → ((p : ℕ) → cond (is_found (position test (ports_of plan service me)) p) turned (port_opens on told (ports_of plan service me) p) ≡ port_opens next then (ports_of plan service me) p)
    → IsDomainKept plan me on told ticks service kept → IsKeptTurned test turned kept after → IsDomainKept plan me next then ticks service after
kept_turned plan me on next told then ticks service test turned None None one is turns = is
kept_turned plan me on next told then ticks service test turned None (Some after) one is turns = absurd turns
kept_turned plan me on next told then ticks service test turned (Some domain) None one is turns = absurd turns
kept_turned plan me on next told then ticks service test turned (Some domain) (Some after) one is turns =
    let ports : after.bridge.ports ≡ ports_of plan service me = ap (λ (b : BridgeState). b.ports) turns.bridge ∙ is.ports in
    record {
      ports = ports;
      some = is.some;
      age = λ row found. ap (λ (b : BridgeState). b.age) turns.bridge ∙ is.age row found;
      forwarding = λ p.
          turns.forwarding p
          ∙ (ap (λ (b : Bool). cond (is_found (position test domain.bridge.ports) p) turned b) (is.forwarding p)
          ∙ (ap (λ (ps : List Port). cond (is_found (position test ps) p) turned (port_opens on told ps p)) is.ports
          ∙ (one p ∙ ap (λ (ps : List Port). port_opens next then ps p) (sym ports))));
      ticks = subst (λ (b : BridgeState). NoneAfter ticks b.entries) (sym turns.bridge) is.ticks;
      few = subst (λ (b : BridgeState). length b.entries ≤ most_addresses) (sym turns.bridge) is.few;
    }

-- a domain whose ports are open as they were
kept_opens : (plan : Plan) (me : EdgeId) (on next : ℕ → Bool) (told then : ℕ → Option Down) (ticks : ℕ) (service : ServiceId) (kept : Option Domain)
    → ((p : ℕ) → port_opens on told (ports_of plan service me) p ≡ port_opens next then (ports_of plan service me) p)
    → IsDomainKept plan me on told ticks service kept → IsDomainKept plan me next then ticks service kept
kept_opens plan me on next told then ticks service None same is = is
kept_opens plan me on next told then ticks service (Some domain) same is = record {
  ports = is.ports;
  some = is.some;
  age = is.age;
  forwarding = λ p.
      is.forwarding p
      ∙ (ap (λ (ps : List Port). port_opens on told ps p) is.ports
      ∙ (same p ∙ ap (λ (ps : List Port). port_opens next then ps p) (sym is.ports)));
  ticks = is.ticks;
  few = is.few;
}

abbrev pub turned_forwarding : ForwardingLists → CircuitId → ServiceId → Bool → Option Domain → ForwardingLists
turned_forwarding f circuit service turned after = record f { circuits_on = slice_set f.circuits_on circuit.0 turned; domains = slice_set f.domains service.0 after }

pub turned_is : (f : ForwardingLists) (circuit : CircuitId) (row : CircuitPlan) (service : ServiceId) (kept after : Option Domain) (turned : Bool) → WasRead f service kept
    → circuit_row f.plan circuit ≡ Some row → row.service ≡ service
    → IsKeptTurned (is_circuit_port circuit) turned kept after → IsForwarding (turned_forwarding f circuit service turned after)
turned_is f circuit row service kept after turned was at of turns = record {
  checked = was.is.checked;
  circuits = length-set f.circuits_on circuit.0 turned ∙ was.is.circuits;
  each_told = was.is.each_told;
  services = length-set f.domains service.0 after ∙ was.is.services;
  domains = λ k below.
      subst (λ (on : ℕ → Bool). IsDomainKept f.plan f.me on (told_in f) f.ticks (record { 0 = k }) (view None (slice_set f.domains service.0 after) k)) (sym map_is)
      (all_put (IsDomainKept f.plan f.me next (told_in f) f.ticks) f.domains service after (length f.plan.services) (place_of f service was.is was.within)
      (kept_turned f.plan f.me (circuits_in f) next (told_in f) (told_in f) f.ticks service (is_circuit_port circuit) turned kept after
      (λ p. turned_ports f.plan service f.me (circuits_in f) (told_in f) circuit turned (position (is_circuit_port circuit) (ports_of f.plan service f.me)) p refl) (the_kept f service kept was) turns)
      (λ j apart within. kept_opens f.plan f.me (circuits_in f) next (told_in f) (told_in f) f.ticks (record { 0 = j }) (view None f.domains j)
      (λ p. turned_elsewhere f.plan (circuits_in f) (told_in f) circuit row (record { 0 = j }) f.me turned p at (ap (λ (s : ServiceId). nat_eq j s.0) of ∙ apart)) (was.is.domains j within))
      k below);
}
  where
    next : ℕ → Bool
    next = put_at (circuits_in f) circuit.0 turned

    place : circuit.0 < length f.circuits_on
    place = omega (arith, was.is.circuits, slice_get_within f.plan.circuits circuit.0 row at)

    map_is : view true (slice_set f.circuits_on circuit.0 turned) ≡ put_at (circuits_in f) circuit.0 turned
    map_is = view_set true f.circuits_on circuit.0 turned place

pub turned_seen : (f : ForwardingLists) (circuit : CircuitId) (row : CircuitPlan) (service : ServiceId) (kept after : Option Domain) (turned : Bool) (edge : EdgeState)
    → WasRead f service kept → circuit_row f.plan circuit ≡ Some row
    → IsKeptTurned (is_circuit_port circuit) turned kept after
    → with_forwarding (turned_forwarding f circuit service turned after) edge ≡ with_circuit circuit turned (with_forwarding f edge)
unfolding with_forwarding with_circuit
turned_seen f circuit row service kept after turned edge was at turns =
    λ i. record (with_forwarding f edge) {
      circuit_on = view_set true f.circuits_on circuit.0 turned place i;
      learned = λ k. same_learned f service kept after was (turned_entries (is_circuit_port circuit) turned kept after turns) k i;
    }
  where
    place : circuit.0 < length f.circuits_on
    place = omega (arith, was.is.circuits, slice_get_within f.plan.circuits circuit.0 row at)

-- ---- something is told of a wire

abbrev pub told_forwarding : ForwardingLists → WireId → ServiceId → Option Down → Option Domain → ForwardingLists
told_forwarding f wire service down after = record f { told_down = slice_set f.told_down wire.0 down; domains = slice_set f.domains service.0 after }

pub told_is : (f : ForwardingLists) (wire : WireId) (row : WirePlan) (service : ServiceId) (kept after : Option Domain) (down : Option Down) (up : Bool) → WasRead f service kept
    → wire_row f.plan wire ≡ Some row → row.service ≡ service
    → up ≡ is_up down → IsKeptTurned (is_wire_port wire) up kept after → IsForwarding (told_forwarding f wire service down after)
told_is f wire row service kept after down up was at of none turns = record {
  checked = was.is.checked;
  circuits = was.is.circuits;
  each_told = length-set f.told_down wire.0 down ∙ was.is.each_told;
  services = length-set f.domains service.0 after ∙ was.is.services;
  domains = λ k below.
      subst (λ (told : ℕ → Option Down). IsDomainKept f.plan f.me (circuits_in f) told f.ticks (record { 0 = k }) (view None (slice_set f.domains service.0 after) k)) (sym map_is)
      (all_put (IsDomainKept f.plan f.me (circuits_in f) then f.ticks) f.domains service after (length f.plan.services) (place_of f service was.is was.within)
      (kept_turned f.plan f.me (circuits_in f) (circuits_in f) (told_in f) then f.ticks service (is_wire_port wire) up kept after
      (λ p. ap (λ (b : Bool). cond (is_found (position (is_wire_port wire) (ports_of f.plan service f.me)) p) b (port_opens (circuits_in f) (told_in f) (ports_of f.plan service f.me) p)) none
      ∙ told_ports f.plan service f.me (circuits_in f) (told_in f) wire down (position (is_wire_port wire) (ports_of f.plan service f.me)) p refl) (the_kept f service kept was) turns)
      (λ j apart within. kept_opens f.plan f.me (circuits_in f) (circuits_in f) (told_in f) then f.ticks (record { 0 = j }) (view None f.domains j)
      (λ p. told_elsewhere f.plan (circuits_in f) (told_in f) wire row (record { 0 = j }) f.me down p at (ap (λ (s : ServiceId). nat_eq j s.0) of ∙ apart)) (was.is.domains j within))
      k below);
}
  where
    then : ℕ → Option Down
    then = put_at (told_in f) wire.0 down

    place : wire.0 < length f.told_down
    place = omega (arith, was.is.each_told, slice_get_within f.plan.wires wire.0 row at)

    map_is : view (Some NoLocal) (slice_set f.told_down wire.0 down) ≡ put_at (told_in f) wire.0 down
    map_is = view_set (Some NoLocal) f.told_down wire.0 down place

pub told_seen : (f : ForwardingLists) (wire : WireId) (row : WirePlan) (service : ServiceId) (kept after : Option Domain) (down : Option Down) (up : Bool) (edge : EdgeState)
    → WasRead f service kept → wire_row f.plan wire ≡ Some row
    → IsKeptTurned (is_wire_port wire) up kept after
    → with_forwarding (told_forwarding f wire service down after) edge ≡ with_told_down wire down (with_forwarding f edge)
unfolding with_forwarding with_told_down
told_seen f wire row service kept after down up edge was at turns =
    λ i. record (with_forwarding f edge) {
      told_down = view_set (Some NoLocal) f.told_down wire.0 down place i;
      learned = λ k. same_learned f service kept after was (turned_entries (is_wire_port wire) up kept after turns) k i;
    }
  where
    place : wire.0 < length f.told_down
    place = omega (arith, was.is.each_told, slice_get_within f.plan.wires wire.0 row at)

-- ---- no wire's port is open

-- of one end more nothing was told
pub forgot_next : (xs now : List (Option Down)) (i : ℕ) → now ≡ map forgotten (take i xs) ++ drop i xs → i < length now → set now i (Some NoLocal) ≡ map forgotten (take (i + 1) xs) ++ drop (i + 1) xs
forgot_next xs now i so_far within =
    each_next forgotten xs now i (slice_index_or now i (Some NoLocal)) (Some NoLocal) so_far within (same_read now i (Some NoLocal) (slice_index_or now i (Some NoLocal)) within) refl

view_forgotten : (xs : List (Option Down)) (k : ℕ) → view (Some NoLocal) (map forgotten xs) k ≡ Some NoLocal
view_forgotten [] k = refl
view_forgotten (x ∷ xs) zero = refl
view_forgotten (x ∷ xs) (suc k) = view_forgotten xs k

told_none : (xs : List (Option Down)) → view (Some NoLocal) (map forgotten xs) ≡ nothing_told
told_none xs = λ i k. view_forgotten xs k i

kept_closed : (plan : Plan) (me : EdgeId) (on : ℕ → Bool) (told : ℕ → Option Down) (ticks : ℕ) (service : ServiceId) (kept after : Option Domain)
    → IsDomainKept plan me on told ticks service kept → IsKeptClosed kept after
    → IsDomainKept plan me on nothing_told ticks service after
kept_closed plan me on told ticks service None None is closed = is
kept_closed plan me on told ticks service None (Some after) is closed = absurd closed
kept_closed plan me on told ticks service (Some domain) None is closed = absurd closed
kept_closed plan me on told ticks service (Some domain) (Some after) is closed = record {
  ports = ap (λ (b : BridgeState). b.ports) closed.bridge ∙ is.ports;
  some = is.some;
  age = λ row found. ap (λ (b : BridgeState). b.age) closed.bridge ∙ is.age row found;
  forwarding = λ p.
      closed.forwarding p
      ∙ (ap (λ (b : Bool). b && not (is_wire (slice_get domain.bridge.ports p))) (is.forwarding p)
      ∙ (closed_port on told domain.bridge.ports p
      ∙ ap (λ (b : BridgeState). port_opens on nothing_told b.ports p) (sym closed.bridge)));
  ticks = subst (λ (b : BridgeState). NoneAfter ticks b.entries) (sym closed.bridge) is.ticks;
  few = subst (λ (b : BridgeState). length b.entries ≤ most_addresses) (sym closed.bridge) is.few;
}

closed_entries : (kept after : Option Domain) → IsKeptClosed kept after → entries_of after ≡ entries_of kept
closed_entries None None closed = refl
closed_entries None (Some after) closed = absurd closed
closed_entries (Some domain) None closed = absurd closed
closed_entries (Some domain) (Some after) closed = ap (λ (b : BridgeState). b.entries) closed.bridge

pub closed_is : (f : ForwardingLists) (domains : List (Option Domain)) (told : List (Option Down)) → IsForwarding f → AreChanged change.Close f.domains domains → told
    ≡ map forgotten f.told_down → IsForwarding (record f { domains = domains; told_down = told })
closed_is f domains told is closed forgot = record {
  checked = is.checked;
  circuits = is.circuits;
  each_told = ap (λ (l : List (Option Down)). length l) forgot ∙ (length-map f.told_down forgotten ∙ is.each_told);
  services = closed.len ∙ is.services;
  domains = λ k below.
      subst (λ (t : ℕ → Option Down). IsDomainKept f.plan f.me (circuits_in f) t f.ticks (record { 0 = k }) (view None domains k)) (sym (ap (view (Some NoLocal)) forgot ∙ told_none f.told_down))
      (kept_closed f.plan f.me (circuits_in f) (told_in f) f.ticks (record { 0 = k }) (view None f.domains k) (view None domains k) (is.domains k below) (closed.each k));
}

pub closed_seen : (f : ForwardingLists) (domains : List (Option Domain)) (told : List (Option Down)) (edge : EdgeState) → AreChanged change.Close f.domains domains → told ≡ map forgotten f.told_down
    → with_forwarding (record f { domains = domains; told_down = told }) edge ≡ without_told (with_forwarding f edge)
unfolding with_forwarding without_told
closed_seen f domains told edge closed forgot = λ i. record (with_forwarding f edge) {
  learned = λ k. closed_entries (view None f.domains k) (view None domains k) (closed.each k) i;
  told_down = (ap (view (Some NoLocal)) forgot ∙ told_none f.told_down) i;
}

-- ---- each bridge forgets all

view_cleared : (xs : List (Option Domain)) (k : ℕ) → view None (map cleared_kept xs) k ≡ cleared_kept (view None xs k)
view_cleared [] k = refl
view_cleared (x ∷ xs) zero = refl
view_cleared (x ∷ xs) (suc k) = view_cleared xs k

none_known : (kept : Option Domain) → entries_of (cleared_kept kept) ≡ []
none_known None = refl
none_known (Some domain) = refl

kept_cleared : (plan : Plan) (me : EdgeId) (on : ℕ → Bool) (told : ℕ → Option Down) (ticks : ℕ) (service : ServiceId) (kept : Option Domain)
    → IsDomainKept plan me on told ticks service kept → IsDomainKept plan me on told ticks service (cleared_kept kept)
kept_cleared plan me on told ticks service None is = is
kept_cleared plan me on told ticks service (Some domain) is = record {
  ports = is.ports;
  some = is.some;
  age = is.age;
  forwarding = is.forwarding;
  ticks = λ k d within. absurd (omega arith);
  few = omega arith;
}

pub cleared_is : (f : ForwardingLists) → IsForwarding f → IsForwarding (record f { domains = map cleared_kept f.domains })
cleared_is f is = record {
  checked = is.checked;
  circuits = is.circuits;
  each_told = is.each_told;
  services = length-map f.domains cleared_kept ∙ is.services;
  domains = λ k below.
      subst (IsKeptIn f (record { 0 = k })) (sym (view_cleared f.domains k))
      (kept_cleared f.plan f.me (circuits_in f) (told_in f) f.ticks (record { 0 = k }) (view None f.domains k) (is.domains k below));
}

pub cleared_seen : (f : ForwardingLists) (edge : EdgeState) → with_forwarding (record f { domains = map cleared_kept f.domains }) edge ≡ with_learned (λ service. []) (with_forwarding f edge)
unfolding with_forwarding with_learned
cleared_seen f edge = λ i. record (with_forwarding f edge) { learned = λ k. (ap entries_of (view_cleared f.domains k) ∙ none_known (view None f.domains k)) i }

-- ---- a tick is counted

kept_later : (plan : Plan) (me : EdgeId) (on : ℕ → Bool) (told : ℕ → Option Down) (ticks now : ℕ) (service : ServiceId) (kept : Option Domain) → ticks ≤ now
    → IsDomainKept plan me on told ticks service kept → IsDomainKept plan me on told now service kept
kept_later plan me on told ticks now service None time is = is
kept_later plan me on told ticks now service (Some domain) time is = record {
  ports = is.ports;
  some = is.some;
  age = is.age;
  forwarding = is.forwarding;
  ticks = none_after_later ticks now domain.bridge.entries is.ticks time;
  few = is.few;
}

pub later_is : (f : ForwardingLists) (now : ℕ) → f.ticks ≤ now → IsForwarding f → IsForwarding (record f { ticks = now })
later_is f now time is = record {
  checked = is.checked;
  circuits = is.circuits;
  each_told = is.each_told;
  services = is.services;
  domains = λ k below. kept_later f.plan f.me (circuits_in f) (told_in f) f.ticks now (record { 0 = k }) (view None f.domains k) time (is.domains k below);
}

pub later_seen : (f : ForwardingLists) (now : ℕ) (edge : EdgeState) → with_forwarding (record f { ticks = now }) edge ≡ with_ticks now (with_forwarding f edge)
unfolding with_forwarding with_ticks
later_seen f now edge = refl

-- ---- each bridge forgets what it has not heard for long

view_aged : (now : ℕ) (kept : List (Option Domain)) (k : ℕ) → view None (map (aged_kept now) kept) k ≡ aged_kept now (view None kept k)
view_aged now [] k = refl
view_aged now (x ∷ kept) zero = refl
view_aged now (x ∷ kept) (suc k) = view_aged now kept k

kept_aged : (plan : Plan) (me : EdgeId) (on : ℕ → Bool) (told : ℕ → Option Down) (ticks : ℕ) (service : ServiceId) (kept : Option Domain)
    → IsDomainKept plan me on told ticks service kept → IsDomainKept plan me on told ticks service (aged_kept ticks kept)
kept_aged plan me on told ticks service None is = is
kept_aged plan me on told ticks service (Some domain) is = record {
  ports = is.ports;
  some = is.some;
  age = is.age;
  forwarding = is.forwarding;
  ticks = none_after_filtered (is_young ticks domain.bridge.age) ticks domain.bridge.entries _ is.ticks refl;
  few = few_filtered (is_young ticks domain.bridge.age) domain.bridge.entries is.few;
}

pub aged_is : (f : ForwardingLists) → IsForwarding f → IsForwarding (record f { domains = map (aged_kept f.ticks) f.domains })
aged_is f is = record {
  checked = is.checked;
  circuits = is.circuits;
  each_told = is.each_told;
  services = length-map f.domains (aged_kept f.ticks) ∙ is.services;
  domains = λ k below.
      subst (IsKeptIn f (record { 0 = k })) (sym (view_aged f.ticks f.domains k))
      (kept_aged f.plan f.me (circuits_in f) (told_in f) f.ticks (record { 0 = k }) (view None f.domains k) (is.domains k below));
}

entries_aged : (plan : Plan) (me : EdgeId) (on : ℕ → Bool) (told : ℕ → Option Down) (ticks : ℕ) (service : ServiceId) (kept : Option Domain) (row : Option ServicePlan)
    → service_row plan service ≡ row → (row ≡ None → kept ≡ None) → IsDomainKept plan me on told ticks service kept
    → entries_of (aged_kept ticks kept) ≡ aged ticks row (entries_of kept)
entries_aged plan me on told ticks service None None at past is = refl
entries_aged plan me on told ticks service None (Some row) at past is = refl
entries_aged plan me on told ticks service (Some domain) None at past is = absurd (cc (past refl))
entries_aged plan me on told ticks service (Some domain) (Some row) at past is = ap (λ (n : ℕ). filter (is_young ticks n) domain.bridge.entries) (is.age row at)

pub aged_seen : (f : ForwardingLists) (edge : EdgeState) → IsForwarding f → with_forwarding (record f { domains = map (aged_kept f.ticks) f.domains }) edge ≡ forgetting f.plan (with_forwarding f edge)
unfolding with_forwarding with_learned
aged_seen f edge is = λ i. record (with_forwarding f edge) { learned = λ k. learned k i }
  where
    within : (k : ℕ) (row : Option ServicePlan) → slice_get f.plan.services k ≡ row → entries_of (aged_kept f.ticks (view None f.domains k)) ≡ aged f.ticks row (entries_of (view None f.domains k))
    within k None at =
        let past : view None f.domains k ≡ None = past_end None f.domains k (omega (arith, is.services, none_past f.plan.services k at)) in
        rw past refl
    within k (Some row) at =
        entries_aged f.plan f.me (circuits_in f) (told_in f) f.ticks (record { 0 = k }) (view None f.domains k) (Some row) at (λ none. absurd (cc (none)))
        (is.domains k (slice_get_within f.plan.services k row at))

    learned : (k : ℕ) → entries_of (view None (map (aged_kept f.ticks) f.domains) k) ≡ aged f.ticks (slice_get f.plan.services k) (entries_of (view None f.domains k))
    learned k = ap entries_of (view_aged f.ticks f.domains k) ∙ within k (slice_get f.plan.services k) refl

-- no address came after the edge's tick
pub none_later : (f : ForwardingLists) → IsForwarding f → All (KeptNotAfter f.ticks) f.domains
none_later f is = λ k d within.
    subst (KeptNotAfter f.ticks) (same_read f.domains k None d within) (not_after k (view None f.domains k) (is.domains k (omega (arith, is.services))))
  where
    not_after : (k : ℕ) (kept : Option Domain) → IsKeptIn f (record { 0 = k }) kept → KeptNotAfter f.ticks kept
    not_after k None here = tt
    not_after k (Some domain) here = here.ticks

-- of no service but those of the plan an address is held
pub none_beyond : (f : ForwardingLists) → IsForwarding f → (service : ℕ) → length f.plan.services ≤ service → entries_of (domain_of f service) ≡ []
none_beyond f is service beyond = ap entries_of (past_end None f.domains service (omega (arith, is.services, beyond)))

-- of no service more addresses are held than a bridge has room for
pub few_each : (f : ForwardingLists) → IsForwarding f → (service : ℕ) → length (entries_of (domain_of f service)) ≤ most_addresses
few_each f is service = of (slice_get f.plan.services service) refl where
  few_in : (kept : Option Domain) → IsKeptIn f (record { 0 = service }) kept → length (entries_of kept) ≤ most_addresses
  few_in None here = omega arith
  few_in (Some domain) here = here.few

  of : (row : Option ServicePlan) → slice_get f.plan.services service ≡ row → length (entries_of (domain_of f service)) ≤ most_addresses
  of None at = rw (none_beyond f is service (none_past f.plan.services service at)) (omega arith)
  of (Some row) at = few_in (domain_of f service) (is.domains service (slice_get_within f.plan.services service row at))

-- ---- before the first input

pub all_same : {X : Type 0} (n k : ℕ) (x : X) → view x (replicate n x) k ≡ x
all_same zero k x = refl
all_same (suc n) zero x = refl
all_same (suc n) (suc k) x = all_same n k x

nothing_learned : (plan : Plan) (me : EdgeId) (service : ServiceId) (years : ℕ) (kept : Option Domain) → IsNew plan me service years kept → entries_of kept ≡ []
nothing_learned plan me service years None is = refl
nothing_learned plan me service years (Some domain) is = ap (λ (b : BridgeState). b.entries) is.bridge

learned_none : (plan : Plan) (me : EdgeId) (domains : List (Option Domain)) (k : ℕ) (row : Option ServicePlan) → slice_get plan.services k ≡ row
    → AreNew plan me (length plan.services) domains → entries_of (view None domains k) ≡ []
learned_none plan me domains k None at are =
    let past : view None domains k ≡ None = past_end None domains k (omega (arith, are.len, none_past plan.services k at)) in
    rw past refl
learned_none plan me domains k (Some row) at are = nothing_learned plan me (record { 0 = k }) row.age (view None domains k) (are.each k row (slice_get_within plan.services k row at) at)

kept_new : (plan : Plan) (me : EdgeId) (service : ServiceId) (row : ServicePlan) (kept : Option Domain) → service_row plan service ≡ Some row → IsNew plan me service row.age kept
    → IsDomainKept plan me all_on nothing_told 0 service kept
kept_new plan me service row None at is = is
kept_new plan me service row (Some domain) at is =
    let ports : domain.bridge.ports ≡ ports_of plan service me = ap (λ (b : BridgeState). b.ports) is.bridge in
    record {
      ports = ports;
      some = is.some;
      age = λ other found.
          let one : row ≡ other = cc (at, found) in
          ap (λ (b : BridgeState). b.age) is.bridge ∙ ap (λ (r : ServicePlan). r.age) one;
      forwarding = λ p. is.forwarding p ∙ ap (λ (ps : List Port). port_opens all_on nothing_told ps p) (sym ports);
      ticks = subst (λ (b : BridgeState). NoneAfter 0 b.entries) (sym is.bridge) (λ k d within. absurd (omega arith));
      few = subst (λ (b : BridgeState). length b.entries ≤ most_addresses) (sym is.bridge) (omega arith);
    }

abbrev pub new_forwarding : Plan → EdgeId → List Bool → List (Option Down) → List (Option Domain) → ForwardingLists
new_forwarding plan me on told domains = record { plan = plan; me = me; circuits_on = on; told_down = told; domains = domains; ticks = 0 }

-- the lists of a new edge
pub record AreFirst (plan : Plan) (me : EdgeId) (on : List Bool) (told : List (Option Down)) (domains : List (Option Domain)) : Type 0 where
  pub circuits : on ≡ replicate (length plan.circuits) true
  pub wires : told ≡ replicate (length plan.wires) (Some NoLocal)
  pub services : AreNew plan me (length plan.services) domains

first_on : (plan : Plan) (me : EdgeId) (on : List Bool) (told : List (Option Down)) (domains : List (Option Domain)) → AreFirst plan me on told domains → view true on ≡ all_on
first_on plan me on told domains are = λ i k. (ap (λ (l : List Bool). view true l k) are.circuits ∙ all_same (length plan.circuits) k true) i

first_told : (plan : Plan) (me : EdgeId) (on : List Bool) (told : List (Option Down)) (domains : List (Option Domain)) → AreFirst plan me on told domains → view (Some NoLocal) told ≡ nothing_told
first_told plan me on told domains are = λ i k. (ap (λ (l : List (Option Down)). view (Some NoLocal) l k) are.wires ∙ all_same (length plan.wires) k (Some NoLocal)) i

pub new_is : (plan : Plan) (me : EdgeId) (on : List Bool) (told : List (Option Down)) (domains : List (Option Domain)) → IsChecked plan → AreFirst plan me on told domains
    → IsForwarding (new_forwarding plan me on told domains)
new_is plan me on told domains checked are = record {
  checked = checked;
  circuits = ap (λ (l : List Bool). length l) are.circuits ∙ replicate_length (length plan.circuits) true;
  each_told = ap (λ (l : List (Option Down)). length l) are.wires ∙ replicate_length (length plan.wires) (Some NoLocal);
  services = are.services.len;
  domains = λ k below.
      subst (λ (o : ℕ → Bool). IsDomainKept plan me o (view (Some NoLocal) told) 0 (record { 0 = k }) (view None domains k)) (sym (first_on plan me on told domains are))
      (subst (λ (t : ℕ → Option Down). IsDomainKept plan me all_on t 0 (record { 0 = k }) (view None domains k)) (sym (first_told plan me on told domains are))
      (of k (slice_get plan.services k) refl below));
}
  where
    of : (k : ℕ) (row : Option ServicePlan) → slice_get plan.services k ≡ row → k < length plan.services → IsDomainKept plan me all_on nothing_told 0 (record { 0 = k }) (view None domains k)
    of k None at below = absurd (omega (arith, none_past plan.services k at))
    of k (Some row) at below = kept_new plan me (record { 0 = k }) row (view None domains k) at (are.services.each k row below at)

new_seen : (plan : Plan) (me : EdgeId) (on : List Bool) (told : List (Option Down)) (domains : List (Option Domain)) (edge : EdgeState) → AreFirst plan me on told domains
    → with_forwarding (new_forwarding plan me on told domains) edge ≡ opened_forwarding plan me edge
unfolding with_forwarding opened_forwarding
new_seen plan me on told domains edge are = λ i. record edge {
  me = me;
  circuit_on = first_on plan me on told domains are i;
  learned = λ k. learned_none plan me domains k (slice_get plan.services k) refl are.services i;
  ticks = 0;
  told_down = first_told plan me on told domains are i;
}

pub new_opened : (plan : Plan) (me : EdgeId) (on : List Bool) (told : List (Option Down)) (domains : List (Option Domain)) → AreFirst plan me on told domains
    → IsNewForwarding plan me (new_forwarding plan me on told domains)
new_opened plan me on told domains are = record { keeps = refl; here = refl; is = λ edge. new_seen plan me on told domains edge are }

-- ---- a circuit of the edge

-- the row of an edge's own circuit
pub record OwnRow (me : EdgeId) (row : Option CircuitPlan) (service : ServiceId) : Type 0 where
  pub circuit : CircuitPlan
  pub is : row ≡ Some circuit
  pub own : nat_eq circuit.edge.0 me.0 ≡ true
  pub same : circuit.service ≡ service

pub own_row : (me : EdgeId) (row : Option CircuitPlan) (service : ServiceId) → own_service me row ≡ Some service → OwnRow me row service
own_row me None service own = absurd (cc (own))
own_row me (Some row) service own = chosen (nat_eq row.edge.0 me.0) refl own
  where
    chosen : (b : Bool) → nat_eq row.edge.0 me.0 ≡ b → cond b (Some row.service) None ≡ Some service → OwnRow me (Some row) service
    chosen true is own = record { circuit = row; is = refl; own = is; same = cc (own) }
    chosen false is own = absurd (cc (own))

pub other_row : (me : EdgeId) (row : CircuitPlan) → own_service me (Some row) ≡ None → nat_eq row.edge.0 me.0 ≡ false
other_row me row none = chosen (nat_eq row.edge.0 me.0) none
  where
    chosen : (b : Bool) → cond b (Some row.service) None ≡ None → b ≡ false
    chosen false none = refl
    chosen true none = absurd (cc (none))

-- the row that was read at a place is the one that is found there
pub row_read : {A : Type 0} (rows : List A) (place : ℕ) (read row : A) → place < length rows → read ≡ slice_index_or rows place read → slice_get rows place ≡ Some row → read ≡ row
row_read rows place read row within at found = at ∙ (same_read rows place read row within ∙ get_or_from_slice_get rows place row row found)

-- its service is in the plan
pub own_within : (plan : Plan) (me : EdgeId) (circuit : CircuitId) (service : ServiceId) → IsChecked plan → own_service me (circuit_row plan circuit) ≡ Some service → service.0 < length plan.services
own_within plan me circuit service checked own =
    let found = own_row me (circuit_row plan circuit) service own in
    let planned : IsCircuitOf plan found.circuit = row_holds (IsCircuitOf plan) plan.circuits circuit.0 found.circuit found.is checked.circuits in
    subst (λ (s : ServiceId). s.0 < length plan.services) found.same planned.service

pub own_circuit : (plan : Plan) (me : EdgeId) (circuit : CircuitId) (service : ServiceId) → own_service me (circuit_row plan circuit) ≡ Some service → circuit.0 < length plan.circuits
own_circuit plan me circuit service own =
    let found = own_row me (circuit_row plan circuit) service own in
    slice_get_within plan.circuits circuit.0 found.circuit found.is

-- ---- a wire of the plan

pub wire_within : (plan : Plan) (wire : WireId) (row : WirePlan) → IsChecked plan → wire_row plan wire ≡ Some row → row.service.0 < length plan.services
wire_within plan wire row checked at = (row_holds (IsWireOf plan) plan.wires wire.0 row at checked.wires).service

-- ---- what is lent

view_of : {X : Type 0} (xs : List X) (k : ℕ) (d x : X) → slice_get xs k ≡ Some x → view d xs k ≡ x
view_of xs k d x is = get_or_from_slice_get xs k x d is

-- the service has no port at the edge, or is not in the plan
abbrev pub HasNone : ForwardingLists → ServiceId → Type 0
HasNone f service = (service_row f.plan service ≡ None) ⊎ (ports_of f.plan service f.me ≡ [])

found_within : (f : ForwardingLists) (service : ServiceId) (kept : Option Domain) → IsForwarding f → slice_get f.domains service.0 ≡ Some kept → service.0 < length f.plan.services
found_within f service kept is found = omega (arith, is.services, slice_get_within f.domains service.0 kept found)

found_kept : (f : ForwardingLists) (service : ServiceId) (kept : Option Domain) → IsForwarding f → slice_get f.domains service.0 ≡ Some kept → IsKeptIn f service kept
found_kept f service kept is found = subst (IsKeptIn f service) (view_of f.domains service.0 None kept found) (is.domains service.0 (found_within f service kept is found))

bridge_there : (f : ForwardingLists) (service : ServiceId) (domain : Domain) → IsForwarding f → slice_get f.domains service.0 ≡ Some (Some domain) → HasNone f service → ⊥
bridge_there f service domain is found (inl unknown) = absurd (omega (arith, found_within f service (Some domain) is found, none_past f.plan.services service.0 unknown))
bridge_there f service domain is found (inr empty) = absurd ((found_kept f service (Some domain) is found).some empty)

pub lent_some : (f : ForwardingLists) (service : ServiceId) (domain : Domain) → IsForwarding f → slice_get f.domains service.0 ≡ Some (Some domain) → (true ≡ false → HasNone f service)
    × (HasNone f service → true ≡ false)
lent_some f service domain is found = (λ lent. absurd (cc (lent)), λ none. absurd (bridge_there f service domain is found none))

pub lent_none : (f : ForwardingLists) (service : ServiceId) → IsForwarding f → slice_get f.domains service.0 ≡ Some None → (false ≡ false → HasNone f service) × (HasNone f service → false ≡ false)
lent_none f service is found = (λ lent. inr (found_kept f service None is found), λ none. refl)

pub lent_past : (f : ForwardingLists) (service : ServiceId) → IsForwarding f → slice_get f.domains service.0 ≡ None → (false ≡ false → HasNone f service) × (HasNone f service → false ≡ false)
lent_past f service is found = (λ lent. inl (slice_get_past f.plan.services service.0 (omega (arith, is.services, none_past f.domains service.0 found))), λ none. refl)

pub lent_learned : (f : ForwardingLists) (service : ServiceId) (domain : Domain) → slice_get f.domains service.0 ≡ Some (Some domain) → domain.bridge.entries ≡ entries_of (domain_of f service.0)
lent_learned f service domain found = ap entries_of (sym (view_of f.domains service.0 None (Some domain) found))

pub lent_ports : (f : ForwardingLists) (service : ServiceId) (domain : Domain) → IsForwarding f → slice_get f.domains service.0 ≡ Some (Some domain) → domain.bridge.ports
    ≡ ports_of f.plan service f.me
lent_ports f service domain is found = (found_kept f service (Some domain) is found).ports

pub lent_age : (f : ForwardingLists) (service : ServiceId) (domain : Domain) → IsForwarding f → slice_get f.domains service.0 ≡ Some (Some domain) → age_of f.plan service ≡ Some domain.bridge.age
lent_age f service domain is found = by (service_row f.plan service) refl where
  by : (row : Option ServicePlan) → service_row f.plan service ≡ row → option_map (λ (r : ServicePlan). r.age) row ≡ Some domain.bridge.age
  by None unknown = absurd (bridge_there f service domain is found (inl unknown))
  by (Some row) is_row = ap (λ (n : ℕ). Some n) (sym ((found_kept f service (Some domain) is found).age row is_row))
