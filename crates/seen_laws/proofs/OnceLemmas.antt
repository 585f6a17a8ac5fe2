-- A window that the trace shows is a window of the run, so that each flooded frame is seen to leave exactly once at each other site.
use Rattle.std.proofs.Common.{◌≡◌, ◌≤◌, ◌<◌, ◌+◌, ◌++◌, ◌==◌, ◌&&◌, ◌||◌, ◌∙◌, not, ℕ, zero, suc, Bool, true, false, List, [], ◌∷◌, Option, Some, None, Result, Ok, Err, cond, drop, length, map, take, option_map, nat_eq, nat_lt, refl, sym, ap, subst, arith, append_assoc}
use Rattle.std.specs.List.{All, find, list_any}
use Rattle.std.specs.Str.{bytes_eq}
use Rattle.std.proofs.lemmas.Bool.{and_parts}
use Rattle.net_values.proofs.BoolLemmas.{clash, or_later, and_false}
use Rattle.net_values.proofs.NumberLemmas.{same_number}
use Rattle.net_values.proofs.OptionLemmas.{same_number_held}
use Rattle.net_values.proofs.RowLemmas.{front_all}
use Rattle.net_base.specs.declared.plan.Plan.{Plan}
use Rattle.net_base.specs.declared.plan.circuit_plan.CircuitPlan.{CircuitPlan}
use Rattle.net_base.specs.declared.plan.places.CircuitId.{CircuitId}
use Rattle.net_base.specs.declared.plan.places.ServiceId.{ServiceId}
use Rattle.net_base.specs.declared.trace.drop_cause.DropCause.{DropCause}
use Rattle.net_base.specs.declared.trace.drop_cause.DropCause.TheVariants.{Down, Long, NoTag, Short, WrongTag}
use Rattle.net_base.specs.declared.trace.entry.Entry.{Entry}
use Rattle.net_base.specs.declared.trace.entry.Entry.TheVariants as entry
use Rattle.net_base.specs.declared.trace.event.Event.{Event}
use Rattle.net_base.specs.declared.trace.event.Event.TheVariants.{Connect, Deliver, Lose, Restart, Tick, Frame, Arrive, Discard, Again, Wire, Circuit, Status, Priority, Ping}
use Rattle.net_base.specs.plan.Places.{circuit_row, service_of}
use Rattle.net_base.specs.plan.Planned.{IsEventOf}
use Rattle.net_base.specs.plan.Roles.{all_below}
use Rattle.net_base.specs.trace.Frame.{destination_of, goes_to_group, of_size, pair_at, source_of, tag_protocol, untagged, vlan_id_of}
use Rattle.net_base.specs.trace.Isolated.{inner_at, inner_by, mtu_by}
use Rattle.mac_table.specs.Addresses.{has_address}
use Rattle.net_base.specs.declared.trace.arrival.Arrival.TheVariants as arrival
use Rattle.edge_model.specs.Frame.{is_own, port_at, received}
use Rattle.edge_model.specs.Work.{Work}
use Rattle.edge_model.proofs.BridgeLemmas.{received_bridges}
use Rattle.network_model.specs.Absorb.{begin_at, idle, taken_all}
use Rattle.network_model.specs.declared.packet.Packet.{Packet}
use Rattle.network_model.specs.Frame.{entering, frame_event, frame_work, next_origin}
use Rattle.network_model.specs.Packet.{again_event, discard_event, packet_at}
use Rattle.network_model.specs.OnceEach.{LeftWithin, ServedOnce, times_left}
use Rattle.network_model.specs.Reach.{is_circuit_on, is_row_on, is_site}
use Rattle.network_model.specs.Run.{entries_along, run, state_after}
use Rattle.network_model.specs.State.{NetworkState, empty_network}
use Rattle.network_model.specs.Step.{brings, step}
use Rattle.network_model.specs.Window.{Window, all_spare, has_copies, is_copy, is_flooded_frame, is_sourced, is_unlearned, packet_teaches, some_teach, spares, teaches}
use Rattle.flight_laws.specs.Laws.{IsRun, network_after}
use Rattle.flight_laws.proofs.RunLemmas.{run_ordered}
use Rattle.network_model.proofs.RunLemmas.{after-append, along-append}
use Rattle.network_model.proofs.PacketListLemmas.{run_numbered}
use Rattle.flood_laws.proofs.RunLemmas.{runs_serve_once}
use Rattle.seen_network.specs.Once.{OnceSeen, SeenServed, SeenWindow, SeenWithin, all_spared, entered_as, is_circuit_row_of, is_seen_copy, is_seen_site, is_sourced_by, spares_seen, times_seen}
use Rattle.seen_network.specs.Seen.{BeginsEvent, Seen, happened_or, is_idle_behind, seen_from, seen_in, told_by_itself}
use Rattle.seen_network.proofs.ReadLemmas.{idle_behind}
use Rattle.seen_laws.specs.Shows.{Shows, copy_of}
use Rattle.seen_laws.specs.Sources.{KnowsSources}
use Rattle.seen_laws.proofs.CalmLemmas.{calm_same}
use Rattle.seen_laws.proofs.SyncRunLemmas.{run_synced}
use Rattle.seen_laws.proofs.RunLemmas.{along_begins, run_shows, step_shows}
use Rattle.seen_laws.proofs.SplitLemmas.{IsCutAt, IsCutBehind, NoEvent, StandsBefore, brings_quiet, cut_at, cut_behind, cut_window}

-- ---- what left

times_same : (origin : ℕ) (circuit : CircuitId) (es : List Entry) → times_seen origin circuit es ≡ times_left origin circuit es
times_same origin circuit [] = refl
times_same origin circuit (entry.Left at from hops octets ∷ es) = rw (times_same origin circuit es) refl
times_same origin circuit (entry.Did event ∷ es) = times_same origin circuit es
times_same origin circuit (entry.Idle ∷ es) = times_same origin circuit es
times_same origin circuit (entry.Said from to octets ∷ es) = times_same origin circuit es
times_same origin circuit (entry.In at number octets ∷ es) = times_same origin circuit es
times_same origin circuit (entry.Sent from to wire came packet of hops octets ∷ es) = times_same origin circuit es
times_same origin circuit (entry.Copied packet of ∷ es) = times_same origin circuit es
times_same origin circuit (entry.Aged packet ∷ es) = times_same origin circuit es
times_same origin circuit (entry.Dropped edge of cause ∷ es) = times_same origin circuit es
times_same origin circuit (entry.Session edge peer name ∷ es) = times_same origin circuit es
times_same origin circuit (entry.Wire edge wire down ∷ es) = times_same origin circuit es
times_same origin circuit (entry.Pong edge wire sequence ∷ es) = times_same origin circuit es

within_same : (most origin : ℕ) (es : List Entry) → LeftWithin most origin es → SeenWithin most origin es
within_same most origin [] all = tt
within_same most origin (entry.Left at from hops octets ∷ es) all = (all.0, within_same most origin es all.1)
within_same most origin (entry.Did event ∷ es) all = within_same most origin es all
within_same most origin (entry.Idle ∷ es) all = within_same most origin es all
within_same most origin (entry.Said from to octets ∷ es) all = within_same most origin es all
within_same most origin (entry.In at number octets ∷ es) all = within_same most origin es all
within_same most origin (entry.Sent from to wire came packet of hops octets ∷ es) all = within_same most origin es all
within_same most origin (entry.Copied packet of ∷ es) all = within_same most origin es all
within_same most origin (entry.Aged packet ∷ es) all = within_same most origin es all
within_same most origin (entry.Dropped edge of cause ∷ es) all = within_same most origin es all
within_same most origin (entry.Session edge peer name ∷ es) all = within_same most origin es all
within_same most origin (entry.Wire edge wire down ∷ es) all = within_same most origin es all
within_same most origin (entry.Pong edge wire sequence ∷ es) all = within_same most origin es all

-- ---- sites

site_same : (plan : Plan) (network : NetworkState) (seen : Seen) (service : ServiceId) (circuit : CircuitId) → Shows plan network seen → is_seen_site plan seen service circuit
    ≡ is_site plan network service circuit
site_same plan network seen service circuit shows = by (circuit_row plan circuit) refl where
  by : (row : Option CircuitPlan) → circuit_row plan circuit ≡ row → is_circuit_row_of service row && seen.on circuit.0
      ≡ (Rattle.network_model.specs.Reach.is_row_of service row && is_row_on network circuit row)
  by None is = refl
  by (Some row) is = ap (λ (b : Bool). nat_eq row.service.0 service.0 && b) (shows.on circuit row is)

-- ---- packets

names_same : (origin number : ℕ) (packets : List Packet) → list_any (is_seen_copy origin number) (map copy_of packets) ≡ list_any (is_copy origin number) packets
names_same origin number [] = refl
names_same origin number (p ∷ ps) = rw (names_same origin number ps) refl

has_same : (origin : ℕ) (packets : List Packet) → list_any (λ copy. copy.origin == origin) (map copy_of packets) ≡ list_any (λ packet. packet.origin == origin) packets
has_same origin [] = refl
has_same origin (p ∷ ps) = rw (has_same origin ps) refl

-- a number that no packet has is that of no copy
none_named : (origin number : ℕ) (packets : List Packet) → find (λ packet. packet.number == number) packets ≡ None → list_any (is_copy origin number) packets ≡ false
none_named origin number [] none = refl
none_named origin number (p ∷ ps) none = by (nat_eq p.number number) none (λ rest. none_named origin number ps rest) where
  by : (b : Bool) → cond b (Some p) (find (λ packet. packet.number == number) ps) ≡ None
      → (find (λ packet. packet.number == number) ps ≡ None → list_any (is_copy origin number) ps ≡ false) → (nat_eq p.origin origin && b) || list_any (is_copy origin number) ps ≡ false
  by true some rest = absurd (cc some)
  by false rest_none rest = rw (and_false (nat_eq p.origin origin)) (rest rest_none)

-- nothing is told of an event behind the next one
none_told : (more : List Entry) → BeginsEvent more → is_idle_behind more ≡ false
none_told more begins = idle_behind [] more begins

copy_spared : (plan : Plan) (network : NetworkState) (seen : Seen) (origin number : ℕ) (idle : Bool) → Shows plan network seen → idle ≡ false
    → idle || not (list_any (is_seen_copy origin number) seen.under_way) ≡ not (list_any (is_copy origin number) network.under_way)
copy_spared plan network seen origin number idle shows applied =
    rw applied (ap (λ (b : Bool). not b) (ap (list_any (is_seen_copy origin number)) shows.under_way ∙ names_same origin number network.under_way))

-- an event that does not apply names no packet, and spares each
spares_same : (plan : Plan) (network : NetworkState) (seen : Seen) (origin : ℕ) (event : Event) (more : List Entry) → Shows plan network seen → BeginsEvent more
    → spares_seen seen origin (is_idle_behind ((brings plan event network).entries ++ more)) event ≡ spares network origin event
spares_same plan network seen origin (Frame circuit octets) more shows begins = refl
spares_same plan network seen origin (Arrive number) more shows begins = refl
spares_same plan network seen origin (Discard number) more shows begins = by (packet_at network number) refl where
  by : (packet : Option Packet) → packet_at network number ≡ packet
      → is_idle_behind ((discard_event packet network).entries ++ more) || not (list_any (is_seen_copy origin number) seen.under_way) ≡ not (list_any (is_copy origin number) network.under_way)
  by None none = rw (none_named origin number network.under_way none) refl
  by (Some packet) is = copy_spared plan network seen origin number (is_idle_behind more) shows (none_told more begins)
spares_same plan network seen origin (Again number) more shows begins = by (packet_at network number) refl where
  by : (packet : Option Packet) → packet_at network number ≡ packet
      → is_idle_behind ((again_event packet network).entries ++ more) || not (list_any (is_seen_copy origin number) seen.under_way) ≡ not (list_any (is_copy origin number) network.under_way)
  by None none = rw (none_named origin number network.under_way none) refl
  by (Some packet) is = copy_spared plan network seen origin number (is_idle_behind more) shows (none_told more begins)
spares_same plan network seen origin (Deliver from to count) more shows begins = refl
spares_same plan network seen origin Tick more shows begins = refl
spares_same plan network seen origin (Connect from to) more shows begins = refl
spares_same plan network seen origin (Lose me peer) more shows begins = refl
spares_same plan network seen origin (Restart me) more shows begins = refl
spares_same plan network seen origin (Wire me wire on) more shows begins = refl
spares_same plan network seen origin (Circuit circuit on) more shows begins = refl
spares_same plan network seen origin (Status me wire bits) more shows begins = refl
spares_same plan network seen origin (Priority me wire priority) more shows begins = refl
spares_same plan network seen origin (Ping me wire) more shows begins = refl

-- entries without an event are passed over
spared_own : (origin : ℕ) (seen : Seen) (own more : List Entry) → NoEvent own → all_spared origin seen (own ++ more) ≡ all_spared origin (seen_from seen own) more
spared_own origin seen [] more none = refl
spared_own origin seen (entry.Did event ∷ own) more none = absurd none
spared_own origin seen (entry.Idle ∷ own) more none = spared_own origin seen own more none
spared_own origin seen (entry.Said from to octets ∷ own) more none = spared_own origin (told_by_itself (entry.Said from to octets) seen) own more none
spared_own origin seen (entry.In at number octets ∷ own) more none = spared_own origin (told_by_itself (entry.In at number octets) seen) own more none
spared_own origin seen (entry.Sent from to wire came packet of hops octets ∷ own) more none = spared_own origin (told_by_itself (entry.Sent from to wire came packet of hops octets) seen) own more none
spared_own origin seen (entry.Copied packet of ∷ own) more none = spared_own origin (told_by_itself (entry.Copied packet of) seen) own more none
spared_own origin seen (entry.Aged packet ∷ own) more none = spared_own origin (told_by_itself (entry.Aged packet) seen) own more none
spared_own origin seen (entry.Left at from hops octets ∷ own) more none = spared_own origin (told_by_itself (entry.Left at from hops octets) seen) own more none
spared_own origin seen (entry.Dropped edge of cause ∷ own) more none = spared_own origin (told_by_itself (entry.Dropped edge of cause) seen) own more none
spared_own origin seen (entry.Session edge peer name ∷ own) more none = spared_own origin (told_by_itself (entry.Session edge peer name) seen) own more none
spared_own origin seen (entry.Wire edge wire down ∷ own) more none = spared_own origin (told_by_itself (entry.Wire edge wire down) seen) own more none
spared_own origin seen (entry.Pong edge wire sequence ∷ own) more none = spared_own origin (told_by_itself (entry.Pong edge wire sequence) seen) own more none

-- ---- the number of a frame that entered

entered_own : (circuit : CircuitId) (own more : List Entry) (origin : ℕ) → BeginsEvent more → entered_as circuit (entry.Idle ∷ more) ≡ Some origin → ⊥
entered_own circuit own [] origin begins is = absurd (cc is)
entered_own circuit own (entry.Did event ∷ more) origin begins is = absurd (cc is)
entered_own circuit own (entry.Idle ∷ more) origin begins is = begins
entered_own circuit own (entry.Said from to octets ∷ more) origin begins is = begins
entered_own circuit own (entry.In at number octets ∷ more) origin begins is = begins
entered_own circuit own (entry.Sent from to wire came packet of hops octets ∷ more) origin begins is = begins
entered_own circuit own (entry.Copied packet of ∷ more) origin begins is = begins
entered_own circuit own (entry.Aged packet ∷ more) origin begins is = begins
entered_own circuit own (entry.Left at from hops octets ∷ more) origin begins is = begins
entered_own circuit own (entry.Dropped edge of cause ∷ more) origin begins is = begins
entered_own circuit own (entry.Session edge peer name ∷ more) origin begins is = begins
entered_own circuit own (entry.Wire edge wire down ∷ more) origin begins is = begins
entered_own circuit own (entry.Pong edge wire sequence ∷ more) origin begins is = begins

entered_is : (plan : Plan) (network : NetworkState) (circuit : CircuitId) (octets : List ℕ) (more : List Entry) (origin : ℕ) → BeginsEvent more
    → entered_as circuit ((brings plan (Frame circuit octets) network).entries ++ more) ≡ Some origin → origin ≡ next_origin network
entered_is plan network circuit octets more origin begins is = by (circuit_row plan circuit) is where
  goes : (row : CircuitPlan) (b : Bool) → entered_as circuit
      ((cond b (idle network) (entering network circuit octets row (frame_work plan network circuit octets row))).entries ++ more) ≡ Some origin → origin ≡ next_origin network
  goes row true at = absurd (entered_own circuit [] more origin begins at)
  goes row false at = same_number_held origin (next_origin network) (sym at ∙ rw (same_number circuit.0) refl)

  by : (row : Option CircuitPlan) → entered_as circuit ((frame_event plan circuit octets row network).entries ++ more) ≡ Some origin → origin ≡ next_origin network
  by None at = absurd (entered_own circuit [] more origin begins at)
  by (Some row) at = goes row (frame_work plan network circuit octets row).idle at

-- ---- the source of a frame

front_source : (a b c d e f g h i j k l : ℕ) (rest back : List ℕ) → source_of (take 12 (a ∷ b ∷ c ∷ d ∷ e ∷ f ∷ g ∷ h ∷ i ∷ j ∷ k ∷ l ∷ rest) ++ back)
    ≡ source_of (a ∷ b ∷ c ∷ d ∷ e ∷ f ∷ g ∷ h ∷ i ∷ j ∷ k ∷ l ∷ rest)
front_source a b c d e f g h i j k l rest back = refl

long_source : (octets back : List ℕ) → nat_lt (length octets) 14 ≡ false → source_of (take 12 octets ++ back) ≡ source_of octets
long_source (a ∷ b ∷ c ∷ d ∷ e ∷ f ∷ g ∷ h ∷ i ∷ j ∷ k ∷ l ∷ rest) back long = front_source a b c d e f g h i j k l rest back
long_source [] back long = absurd (cc long)
long_source (a ∷ []) back long = absurd (cc long)
long_source (a ∷ b ∷ []) back long = absurd (cc long)
long_source (a ∷ b ∷ c ∷ []) back long = absurd (cc long)
long_source (a ∷ b ∷ c ∷ d ∷ []) back long = absurd (cc long)
long_source (a ∷ b ∷ c ∷ d ∷ e ∷ []) back long = absurd (cc long)
long_source (a ∷ b ∷ c ∷ d ∷ e ∷ f ∷ []) back long = absurd (cc long)
long_source (a ∷ b ∷ c ∷ d ∷ e ∷ f ∷ g ∷ []) back long = absurd (cc long)
long_source (a ∷ b ∷ c ∷ d ∷ e ∷ f ∷ g ∷ h ∷ []) back long = absurd (cc long)
long_source (a ∷ b ∷ c ∷ d ∷ e ∷ f ∷ g ∷ h ∷ i ∷ []) back long = absurd (cc long)
long_source (a ∷ b ∷ c ∷ d ∷ e ∷ f ∷ g ∷ h ∷ i ∷ j ∷ []) back long = absurd (cc long)
long_source (a ∷ b ∷ c ∷ d ∷ e ∷ f ∷ g ∷ h ∷ i ∷ j ∷ k ∷ []) back long = absurd (cc long)

payload : Result (List ℕ) DropCause → List ℕ
payload (Ok frame) = frame
payload (Err why) = []

is_good : Result (List ℕ) DropCause → Bool
is_good (Ok frame) = true
is_good (Err why) = false

ok_err : {P : Type 0} (why : DropCause) (b : List ℕ) → Err why ≡ Ok b → P
unfolding is_good
ok_err why b e = clash (ap is_good e)

-- a test that does not fail
kept : (b : Bool) (why : DropCause) (read : Result (List ℕ) DropCause) (frame : List ℕ) → cond b (Err why) read ≡ Ok frame → read ≡ Ok frame
kept true why read frame e = ok_err why frame e
kept false why read frame e = e

read_is : (a b : List ℕ) (read : Result (List ℕ) DropCause) → read ≡ Ok a → read ≡ Ok b → a ≡ b
unfolding payload
read_is a b read one other = ap payload (sym one ∙ other)

-- the inner frame has the same source
pub same_source : (plan : Plan) (circuit : CircuitId) (octets frame : List ℕ) → inner_at plan circuit octets ≡ Ok frame → source_of frame ≡ source_of octets
same_source plan circuit octets frame is = by_row (circuit_row plan circuit) (mtu_by plan (service_of plan circuit)) is where
  by_size : (mtu : ℕ) (read : Result (List ℕ) DropCause) → of_size mtu read ≡ Ok frame → read ≡ Ok frame
  by_size mtu (Ok x) at = kept (nat_lt (mtu + 18) (length x)) Long (Ok x) frame at
  by_size mtu (Err why) at = ok_err why frame at

  by_tag : (tag : Option ℕ) → nat_lt (length octets) 14 ≡ false → untagged tag octets ≡ Ok frame → source_of frame ≡ source_of octets
  by_tag None long at = ap source_of (sym (read_is octets frame (untagged None octets) refl at))
  by_tag (Some tag) long at =
      let third = kept (not (nat_eq (vlan_id_of octets) tag)) WrongTag (Ok (take 12 octets ++ drop 16 octets)) frame
      (kept (nat_lt (length octets) 18) Short _ frame (kept (not (nat_eq (pair_at octets 12) tag_protocol)) NoTag _ frame at)) in
      ap source_of (sym (read_is (take 12 octets ++ drop 16 octets) frame (Ok (take 12 octets ++ drop 16 octets)) refl third)) ∙ long_source octets (drop 16 octets) long

  by_row : (row : Option CircuitPlan) (mtu : Option ℕ) → inner_by row mtu octets ≡ Ok frame → source_of frame ≡ source_of octets
  by_row None mtu at = ok_err Down frame at
  by_row (Some row) None at = ok_err Down frame at
  by_row (Some row) (Some mtu) at = short (nat_lt (length octets) 14) refl at where
    short : (b : Bool) → nat_lt (length octets) 14 ≡ b → cond b (Err Short) (of_size mtu (untagged row.tag octets)) ≡ Ok frame → source_of frame ≡ source_of octets
    short true few e = ok_err Short frame e
    short false long e = by_tag row.tag long (by_size mtu (untagged row.tag octets) e)

-- ---- runs

-- a front of the events is a run too
pub front_run : (plan : Plan) (events front rest : List Event) → IsRun plan events → events ≡ front ++ rest → IsRun plan front
front_run plan events front rest is split = record { checked = is.checked; types = is.types; planned = front_all (IsEventOf plan) front rest (subst (All (IsEventOf plan)) split is.planned) }

-- the next event spares the copies where those behind it do
spared_next : (plan : Plan) (before : List Event) (e : Event) (es : List Event) (seen : Seen) (origin : ℕ) → IsRun plan (before ++ e ∷ es) → Shows plan (network_after plan before) seen
    → (Shows plan (network_after plan (before ++ e ∷ [])) (seen_from seen (step plan (network_after plan before) e).entries)
    → all_spared origin (seen_from seen (step plan (network_after plan before) e).entries) (entries_along plan (network_after plan (before ++ e ∷ [])) es)
    ≡ all_spare plan origin (network_after plan (before ++ e ∷ [])) es)
    → all_spared origin seen (entries_along plan (network_after plan before) (e ∷ es)) ≡ all_spare plan origin (network_after plan before) (e ∷ es)
spared_next plan before e es seen origin is shows later = rw (spares_same plan network seen origin e along shows (along_begins plan (step plan network e).state es)) (ap (λ (b : Bool). spares network origin e && b) rest) where
  network : NetworkState
  network = network_after plan before

  own : List Entry
  own = (brings plan e network).entries

  along : List Entry
  along = entries_along plan (step plan network e).state es

  after_is : network_after plan (before ++ e ∷ []) ≡ (step plan network e).state
  after_is = after-append plan (empty_network plan) before (e ∷ [])

  is_before : IsRun plan before
  is_before = front_run plan (before ++ e ∷ es) before (e ∷ es) is refl

  shows_next : Shows plan (step plan network e).state (seen_from seen (step plan network e).entries)
  shows_next = step_shows plan e network seen is.checked is.types (run_ordered plan before is_before) (run_numbered plan before) shows

  rest : all_spared origin (happened_or (is_idle_behind (own ++ along)) e seen) (own ++ along) ≡ all_spare plan origin (step plan network e).state es
  rest = ap (λ (idle : Bool). all_spared origin (happened_or idle e seen) (own ++ along)) (idle_behind own along (along_begins plan (step plan network e).state es))
      ∙ (spared_own origin (happened_or (is_idle_behind own) e seen) own along (brings_quiet plan e network)
      ∙ subst (λ (n : NetworkState). all_spared origin (seen_from seen (step plan network e).entries) (entries_along plan n es) ≡ all_spare plan origin n es) after_is
      (later (subst (λ (n : NetworkState). Shows plan n (seen_from seen (step plan network e).entries)) (sym after_is) shows_next)))

-- the events behind spare the copies of a frame
spared_along : (plan : Plan) (before during : List Event) (seen : Seen) (origin : ℕ) → IsRun plan (before ++ during) → Shows plan (network_after plan before) seen
    → all_spared origin seen (entries_along plan (network_after plan before) during) ≡ all_spare plan origin (network_after plan before) during
spared_along plan before [] seen origin is shows = refl
spared_along plan before (e ∷ es) seen origin is shows =
    spared_next plan before e es seen origin is shows (λ shows_next.
    spared_along plan (before ++ e ∷ []) es (seen_from seen (step plan (network_after plan before) e).entries) origin (subst (IsRun plan) (sym (append_assoc before (e ∷ []) es)) is) shows_next)

-- ---- what is taught is seen

list_more : {A : Type 0} (test : A → Bool) (xs ys : List A) → list_any test ys ≡ true → list_any test (xs ++ ys) ≡ true
list_more test [] ys some = some
list_more test (x ∷ xs) ys some = or_later (test x) (list_more test xs ys some)

list_first : {A : Type 0} (test : A → Bool) (xs ys : List A) → list_any test xs ≡ true → list_any test (xs ++ ys) ≡ true
list_first test [] ys some = clash some
list_first test (x ∷ xs) ys some = by (test x) some (λ rest. list_first test xs ys rest) where
  by : (b : Bool) → b || list_any test xs ≡ true → (list_any test xs ≡ true → list_any test (xs ++ ys) ≡ true) → b || list_any test (xs ++ ys) ≡ true
  by true some rest = refl
  by false some rest = rest some

-- a frame of a station enters, and is told as it does
pub frame_seen : (plan : Plan) (network : NetworkState) (service : ServiceId) (address : List ℕ) (circuit : CircuitId) (octets : List ℕ) → ((k : ℕ) → (network.edges k).me ≡ record { 0 = k })
    → is_site plan network service circuit && is_sourced address (inner_at plan circuit octets) ≡ true
    → list_any (is_sourced_by plan service address) (brings plan (Frame circuit octets) network).entries ≡ true
frame_seen plan network service address circuit octets placed taught = by (circuit_row plan circuit) refl where
  both : (is_site plan network service circuit ≡ true) × (is_sourced address (inner_at plan circuit octets) ≡ true)
  both = and_parts (is_site plan network service circuit) (is_sourced address (inner_at plan circuit octets)) taught

  sourced : bytes_eq (source_of octets) address ≡ true
  sourced = read (inner_at plan circuit octets) refl both.1 where
    read : (r : Result (List ℕ) DropCause) → inner_at plan circuit octets ≡ r → is_sourced address r ≡ true → bytes_eq (source_of octets) address ≡ true
    read (Ok frame) is same = ap (λ (l : List ℕ). bytes_eq l address) (sym (same_source plan circuit octets frame is)) ∙ same
    read (Err why) is same = clash same

  by : (row : Option CircuitPlan) → circuit_row plan circuit ≡ row → list_any (is_sourced_by plan service address) (frame_event plan circuit octets row network).entries ≡ true
  by None is = clash (sym (ap (λ (r : Option CircuitPlan). Rattle.network_model.specs.Reach.is_row_of service r && is_row_on network circuit r) is) ∙ both.0)
  by (Some row) is = goes (frame_work plan network circuit octets row).idle applies where
    site : nat_eq row.service.0 service.0 && Rattle.edge_model.specs.State.is_on (network.edges row.edge.0) circuit ≡ true
    site = sym (ap (λ (r : Option CircuitPlan). Rattle.network_model.specs.Reach.is_row_of service r && is_row_on network circuit r) is) ∙ both.0

    parts : (nat_eq row.service.0 service.0 ≡ true) × (Rattle.edge_model.specs.State.is_on (network.edges row.edge.0) circuit ≡ true)
    parts = and_parts (nat_eq row.service.0 service.0) (Rattle.edge_model.specs.State.is_on (network.edges row.edge.0) circuit) site

    own : is_own (network.edges row.edge.0) row ≡ true
    own = ap (λ (m : Rattle.net_base.specs.declared.plan.places.EdgeId.EdgeId). nat_eq row.edge.0 m.0) (placed row.edge.0) ∙ same_number row.edge.0

    taken : Work
    taken = received plan taken_all (arrival.Circuit circuit) row.service (port_at plan (network.edges row.edge.0) circuit row) (inner_at plan circuit octets) (begin_at network row.edge)

    applies : (frame_work plan network circuit octets row).idle ≡ false
    applies = rw (own, parts.1) (received_bridges plan taken_all (arrival.Circuit circuit) row.service (port_at plan (network.edges row.edge.0) circuit row)
        (inner_at plan circuit octets) (begin_at network row.edge)).idle

    goes : (b : Bool) → b ≡ false → list_any (is_sourced_by plan service address)
        (cond b (idle network) (entering network circuit octets row (frame_work plan network circuit octets row))).entries ≡ true
    goes true e = clash (sym e)
    goes false e = rw (ap (λ (r : Option CircuitPlan). is_circuit_row_of service r) is ∙ parts.0, sourced) refl

-- ---- what is taught in a window is seen in it

taught_next : (plan : Plan) (before : List Event) (e : Event) (es : List Event) (service : ServiceId) (address : List ℕ) → IsRun plan (before ++ e ∷ es)
    → (some_teach plan (network_after plan (before ++ e ∷ [])) service address es ≡ true
    → list_any (is_sourced_by plan service address) (entries_along plan (network_after plan (before ++ e ∷ [])) es) ≡ true)
    → some_teach plan (network_after plan before) service address (e ∷ es) ≡ true → list_any (is_sourced_by plan service address) (entries_along plan (network_after plan before) (e ∷ es)) ≡ true
taught_next plan before e es service address is later some = by (teaches plan network service address e) refl some where
  network : NetworkState
  network = network_after plan before

  after_is : network_after plan (before ++ e ∷ []) ≡ (step plan network e).state
  after_is = after-append plan (empty_network plan) before (e ∷ [])

  placed : (k : ℕ) → (network.edges k).me ≡ record { 0 = k }
  placed k = (run_synced plan before is.checked k).me

  here : (event : Event) → teaches plan network service address event ≡ true → list_any (is_sourced_by plan service address) (brings plan event network).entries ≡ true
  here (Frame circuit octets) taught = frame_seen plan network service address circuit octets placed taught
  here (Connect from to) taught = clash taught
  here (Deliver from to count) taught = clash taught
  here (Lose me peer) taught = clash taught
  here (Restart me) taught = clash taught
  here Tick taught = clash taught
  here (Arrive number) taught = clash taught
  here (Discard number) taught = clash taught
  here (Again number) taught = clash taught
  here (Wire me wire on) taught = clash taught
  here (Circuit circuit on) taught = clash taught
  here (Status me wire bits) taught = clash taught
  here (Priority me wire priority) taught = clash taught
  here (Ping me wire) taught = clash taught

  by : (b : Bool) → teaches plan network service address e ≡ b → b || some_teach plan (step plan network e).state service address es ≡ true
      → list_any (is_sourced_by plan service address) (entry.Did e ∷ ((brings plan e network).entries ++ entries_along plan (step plan network e).state es)) ≡ true
  by true taught some = list_first (is_sourced_by plan service address) (brings plan e network).entries (entries_along plan (step plan network e).state es) (here e taught)
  by false other some = list_more (is_sourced_by plan service address) (brings plan e network).entries (entries_along plan (step plan network e).state es)
      (subst (λ (n : NetworkState). list_any (is_sourced_by plan service address) (entries_along plan n es) ≡ true) after_is
      (later (subst (λ (n : NetworkState). some_teach plan n service address es ≡ true) (sym after_is) some)))

taught_along : (plan : Plan) (before during : List Event) (service : ServiceId) (address : List ℕ) → IsRun plan (before ++ during)
    → some_teach plan (network_after plan before) service address during ≡ true → list_any (is_sourced_by plan service address) (entries_along plan (network_after plan before) during) ≡ true
taught_along plan before [] service address is some = clash some
taught_along plan before (e ∷ es) service address is some =
    taught_next plan before e es service address is (taught_along plan (before ++ e ∷ []) es service address (subst (IsRun plan) (sym (append_assoc before (e ∷ []) es)) is)) some

turned_to : {a b : Bool} → a ≡ b → a ≡ true → b ≡ true
turned_to same is = sym same ∙ is

-- ---- the law, where what bridges have learned and packets carry came by frames that entered

module _ (plan : Plan) (events : List Event) (is : IsRun plan events) (sources : (front rest : List Event) → events ≡ front ++ rest → KnowsSources plan (network_after plan front) (run plan front).entries)
    (before : List Entry) (circuit : CircuitId) (octets : List ℕ) (during after : List Entry) (service : ServiceId) (origin : ℕ) (split : (run plan events).entries ≡ before ++ entry.Did (Frame circuit octets) ∷ (during ++ after)) (begins : BeginsEvent after)
    (window : SeenWindow plan before circuit octets during service origin) where
  cut : IsCutAt plan (empty_network plan) events before (Frame circuit octets) (during ++ after)
  cut = cut_at plan (empty_network plan) events before (Frame circuit octets) (during ++ after) split

  abbrev state : NetworkState
  state = network_after plan cut.earlier

  abbrev next : NetworkState
  next = (step plan state (Frame circuit octets)).state

  abbrev own : List Entry
  own = (brings plan (Frame circuit octets) state).entries

  stands : StandsBefore own during after (entries_along plan next cut.later)
  stands = cut_window plan (Frame circuit octets) state cut.later during after begins cut.rest

  behind : IsCutBehind plan next cut.later stands.rest after
  behind = cut_behind plan next cut.later stands.rest after begins (sym stands.more_is)

  split_is : events ≡ cut.earlier ++ Frame circuit octets ∷ (behind.during ++ behind.later)
  split_is = cut.split ∙ ap (λ (l : List Event). cut.earlier ++ Frame circuit octets ∷ l) behind.split

  during_is : during ≡ own ++ entries_along plan next behind.during
  during_is = stands.front_is ∙ ap (λ (l : List Entry). own ++ l) behind.front_is

  -- the events up to the end of the window
  abbrev upto : List Event
  upto = cut.earlier ++ Frame circuit octets ∷ behind.during

  upto_split : events ≡ upto ++ behind.later
  upto_split = split_is ∙ sym (append_assoc cut.earlier (Frame circuit octets ∷ behind.during) behind.later)

  upto_run : IsRun plan upto
  upto_run = front_run plan events upto behind.later is upto_split

  earlier_run : IsRun plan cut.earlier
  earlier_run = front_run plan events cut.earlier (Frame circuit octets ∷ cut.later) is cut.split

  upto_trace : before ++ entry.Did (Frame circuit octets) ∷ during ≡ (run plan upto).entries
  upto_trace = ap (λ (l : List Entry). l ++ entry.Did (Frame circuit octets) ∷ during) cut.front
      ∙ (ap (λ (l : List Entry). entries_along plan (empty_network plan) cut.earlier ++ entry.Did (Frame circuit octets) ∷ l) during_is
      ∙ sym (along-append plan (empty_network plan) cut.earlier (Frame circuit octets ∷ behind.during)))

  shows : Shows plan state (seen_in before)
  shows = subst (λ (l : List Entry). Shows plan state (seen_in l)) (sym cut.front) (run_shows plan cut.earlier earlier_run)

  origin_is : origin ≡ next_origin state
  origin_is = entered_is plan state circuit octets (entries_along plan next behind.during) origin (along_begins plan next behind.during) (ap (entered_as circuit) (sym during_is) ∙ window.entered)

  -- ---- the window of the run

  some_row : (row : Option CircuitPlan) → option_map (λ (r : CircuitPlan). r.service) row ≡ Some service → circuit_row plan circuit ≡ row → is_circuit_on plan state circuit ≡ true
  some_row None of_service at = absurd (cc of_service)
  some_row (Some row) of_service at = ap (is_row_on state circuit) at ∙ (sym (shows.on circuit row at) ∙ window.on)

  -- a frame that enters changes nothing that is seen by itself
  entering_same : (idle : Bool) → happened_or idle (Frame circuit octets) (seen_in before) ≡ seen_in before
  entering_same true = refl
  entering_same false = refl

  spared : all_spare plan (next_origin state) next behind.during ≡ true
  spared =
      let seen : Seen = seen_from (seen_in before) own in
      let first : all_spared origin seen (entries_along plan next behind.during) ≡ true =
      sym (spared_own origin (seen_in before) own (entries_along plan next behind.during) (brings_quiet plan (Frame circuit octets) state))
      ∙ (ap (all_spared origin (seen_in before)) (sym during_is) ∙ window.spared) in
      let shows_next : Shows plan next seen = subst (λ (s : Seen). Shows plan next (seen_from s own)) (entering_same (is_idle_behind own))
      (step_shows plan (Frame circuit octets) state (seen_in before) is.checked is.types (run_ordered plan cut.earlier earlier_run) (run_numbered plan cut.earlier) shows) in
      let after_is : network_after plan (cut.earlier ++ Frame circuit octets ∷ []) ≡ next = after-append plan (empty_network plan) cut.earlier (Frame circuit octets ∷ []) in
      subst (λ (n : ℕ). all_spare plan n next behind.during ≡ true) origin_is
      (turned_to (subst (λ (n : NetworkState). all_spared origin seen (entries_along plan n behind.during) ≡ all_spare plan origin n behind.during) after_is
      (spared_along plan (cut.earlier ++ Frame circuit octets ∷ []) behind.during seen origin (subst (IsRun plan) (sym (append_assoc cut.earlier (Frame circuit octets ∷ []) behind.during)) upto_run)
      (subst (λ (n : NetworkState). Shows plan n seen) (sym after_is) shows_next))) first)

  upto_after : network_after plan upto ≡ state_after plan next behind.during
  upto_after = after-append plan (empty_network plan) cut.earlier (Frame circuit octets ∷ behind.during)

  over : has_copies (state_after plan next behind.during) (next_origin state) ≡ false
  over =
      let last : Shows plan (network_after plan upto) (seen_in (before ++ entry.Did (Frame circuit octets) ∷ during)) =
      subst (λ (l : List Entry). Shows plan (network_after plan upto) (seen_in l)) (sym upto_trace) (run_shows plan upto upto_run) in
      subst (λ (n : NetworkState). has_copies n (next_origin state) ≡ false) upto_after
      (subst (λ (n : ℕ). has_copies (network_after plan upto) n ≡ false) origin_is
      (sym (has_same origin (network_after plan upto).under_way) ∙ (ap (list_any (λ copy. copy.origin == origin)) (sym last.under_way) ∙ window.over)))

  -- ---- the frame is flooded

  abbrev known : List ℕ
  known = destination_of window.frame

  unseen : list_any (is_sourced_by plan service known) (before ++ entry.Did (Frame circuit octets) ∷ during) ≡ false
      → is_flooded_frame plan state service window.frame (Frame circuit octets ∷ behind.during) ≡ true
  unseen none = flood (goes_to_group window.frame) unlearned no_packet untaught where
    trace_none : list_any (is_sourced_by plan service known) (run plan upto).entries ≡ false
    trace_none = ap (list_any (is_sourced_by plan service known)) (sym upto_trace) ∙ none

    knows : KnowsSources plan state (run plan cut.earlier).entries
    knows = sources cut.earlier (Frame circuit octets ∷ cut.later) cut.split

    -- what was told before stands in the trace
    told_before : list_any (is_sourced_by plan service known) (run plan cut.earlier).entries ≡ false
    told_before = by (list_any (is_sourced_by plan service known) (run plan cut.earlier).entries) refl where
      by : (b : Bool) → list_any (is_sourced_by plan service known) (run plan cut.earlier).entries ≡ b → list_any (is_sourced_by plan service known) (run plan cut.earlier).entries ≡ false
      by true some = clash (sym trace_none ∙ (ap (list_any (is_sourced_by plan service known)) (along-append plan (empty_network plan) cut.earlier (Frame circuit octets ∷ behind.during))
          ∙ list_first (is_sourced_by plan service known) (run plan cut.earlier).entries (entries_along plan state (Frame circuit octets ∷ behind.during)) some))
      by false some = some

    absent : (edge : ℕ) → edge < length plan.edges → not (has_address ((state.edges edge).learned service.0) (record { 0 = known })) ≡ true
    absent edge within = by (has_address ((state.edges edge).learned service.0) (record { 0 = known })) refl where
      by : (b : Bool) → has_address ((state.edges edge).learned service.0) (record { 0 = known }) ≡ b → not b ≡ true
      by true there = clash (sym told_before ∙ knows.learned edge service known within there)
      by false gone = refl

    all_absent : (n : ℕ) → n ≤ length plan.edges → all_below n (λ edge. not (has_address ((state.edges edge).learned service.0) (record { 0 = known }))) ≡ true
    all_absent zero most = refl
    all_absent (suc n) most = rw (absent n (omega (arith, most))) (all_absent n (omega (arith, most)))

    unlearned : is_unlearned plan state service known ≡ true
    unlearned = all_absent (length plan.edges) (omega arith)

    no_packet : list_any (packet_teaches plan service known) state.under_way ≡ false
    no_packet = by (list_any (packet_teaches plan service known) state.under_way) refl where
      by : (b : Bool) → list_any (packet_teaches plan service known) state.under_way ≡ b → b ≡ false
      by true some = clash (sym told_before ∙ knows.carried service known some)
      by false none = refl

    untaught : some_teach plan state service known (Frame circuit octets ∷ behind.during) ≡ false
    untaught = by (some_teach plan state service known (Frame circuit octets ∷ behind.during)) refl where
      by : (b : Bool) → some_teach plan state service known (Frame circuit octets ∷ behind.during) ≡ b → b ≡ false
      by true some = clash (sym trace_none ∙ (ap (list_any (is_sourced_by plan service known)) (along-append plan (empty_network plan) cut.earlier (Frame circuit octets ∷ behind.during))
          ∙ list_more (is_sourced_by plan service known) (run plan cut.earlier).entries (entries_along plan state (Frame circuit octets ∷ behind.during))
          (taught_along plan cut.earlier (Frame circuit octets ∷ behind.during) service known upto_run some)))
      by false none = refl

    flood : (group : Bool) {a p t : Bool} → a ≡ true → p ≡ false → t ≡ false → group || ((a && not p) && not t) ≡ true
    flood true one other third = refl
    flood false one other third = rw (one, other, third) refl

  flooded : is_flooded_frame plan state service window.frame (Frame circuit octets ∷ behind.during) ≡ true
  flooded = by (goes_to_group window.frame) refl (list_any (is_sourced_by plan service known) (before ++ entry.Did (Frame circuit octets) ∷ during)) refl window.flooded where
    by : (group : Bool) → goes_to_group window.frame ≡ group → (seen : Bool) → list_any (is_sourced_by plan service known) (before ++ entry.Did (Frame circuit octets) ∷ during) ≡ seen
        → group || not seen ≡ true
        → is_flooded_frame plan state service window.frame (Frame circuit octets ∷ behind.during) ≡ true
    by true group seen is_seen some = rw group refl
    by false group false none some = unseen none
    by false group true some holds = clash holds

  window_is : Window plan cut.earlier circuit octets behind.during service
  window_is = record {
    sender = window.sender;
    on = some_row (circuit_row plan circuit) window.sender refl;
    frame = window.frame;
    formed = window.formed;
    calm = sym (calm_same plan cut.earlier (seen_in before) service earlier_run shows) ∙ window.calm;
    flooded = flooded;
    spared = spared;
    over = over;
  }

  pub served : SeenServed 12 plan (seen_in before) circuit service origin (run plan events).entries
  served =
      let once : ServedOnce 12 plan cut.earlier circuit service (run plan events).entries =
      runs_serve_once plan events is cut.earlier circuit octets behind.during behind.later service split_is window_is in
      record {
        once = λ c. times_same origin c (run plan events).entries
            ∙ (ap (λ (n : ℕ). times_left n c (run plan events).entries) origin_is
            ∙ (once.once c ∙ ap (λ (b : Bool). cond {A = ℕ} (b && not (nat_eq c.0 circuit.0)) 1 0) (sym (site_same plan state (seen_in before) service c shows))));
        within = within_same 12 origin (run plan events).entries (subst (λ (n : ℕ). LeftWithin 12 n (run plan events).entries) (sym origin_is) once.within);
      }

pub once_seen : (plan : Plan) (events : List Event) → IsRun plan events
    → ((front rest : List Event) → events ≡ front ++ rest → KnowsSources plan (network_after plan front) (run plan front).entries) → OnceSeen 12 plan (run plan events).entries
once_seen plan events is sources before circuit octets during after service origin split begins window =
    served plan events is sources before circuit octets during after service origin split begins window
