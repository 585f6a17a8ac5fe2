-- What a bridge learns by a port that forwards leaves an edge tidy: nothing is learned at a wire that does not forward.
use Rattle.std.proofs.Common.{◌≡◌, ◌≤◌, ◌++◌, ◌∙◌, ◌&&◌, not, is_some, length, position, suc, ℕ, Bool, true, false, List, [], ◌∷◌, Option, Some, None, cond, filter, nat_eq, refl, ap, sym, subst, arith}
use Rattle.std.proofs.lemmas.Bool.{and_parts, eqb-true, and_from}
use Rattle.std.specs.List.{list_all}
use Rattle.std.specs.Prelude.{IfSome}
use Rattle.net_base.specs.declared.plan.places.ServiceId.{ServiceId}
use Rattle.net_base.specs.declared.plan.wire_plan.WirePlan.{WirePlan}
use Rattle.net_base.specs.plan.Places.{wire_row}
use Rattle.net_values.specs.declared.mac.Mac.{Mac}
use Rattle.net_values.specs.Mac.{is_group_address}
use Rattle.net_values.proofs.RowLemmas.{holds_at}
use Rattle.mac_table.specs.Addresses.{AddressTable, has_address, has_room, is_of, learned, replaced}
use Rattle.mac_table.specs.declared.mac_entry.MacEntry.{MacEntry}
use Rattle.hvpls_spokes.specs.Port.{is_wire_port, ports_of}
use Rattle.vsi_bridge.specs.BridgeState.{table_of}
use Rattle.vsi_bridge.specs.Targets.{heard}
use Rattle.edge_forwarding.specs.Forwarding.{open_ports}
use Rattle.pw_ends.specs.Ends.{no_place}
use Rattle.edge_model.specs.declared.end_place.EndPlace.{EndPlace}
use Rattle.edge_model.specs.EndPlaces.{end_places}
use Rattle.edge_model.specs.Frame.{hearing, source}
use Rattle.edge_model.specs.Mend.{port_of_wire}
use Rattle.edge_model.specs.Role.{down_at}
use Rattle.edge_model.specs.Settled.{IsForgotten}
use Rattle.edge_model.specs.State.{EdgeState, addresses_of, with_addresses, without_port}
use Rattle.edge_model.specs.Synced.{InSync, IsSynced}
use Rattle.provider_edge.proofs.SyncLemmas.{wire_port_shut}
use Rattle.provider_edge.proofs.TidyLemmas.{tidy_slots}
use Rattle.provider_edge.specs.declared.end_marks.EndMarks.{EndMarks}
use Rattle.provider_edge.specs.Invariant.{IsEdge}
use Rattle.provider_edge.specs.Lists.{EdgeLists, seen}
use Rattle.provider_edge.specs.Marks.{place_at}
use Rattle.provider_edge.specs.Tidy.{IsTidy}
use Rattle.provider_edge.proofs.EdgeLemmas.{me_of}

-- ---- nothing is filtered out exactly where all pass

filter_short : {X : Type 0} (f : X → Bool) (xs : List X) → length (filter f xs) ≤ length xs
filter_short {X = X} f [] = omega arith
filter_short {X = X} f (x ∷ xs) = by (f x) (filter_short f xs) where
  by : (b : Bool) → length (filter f xs) ≤ length xs → length (cond b (x ∷ filter f xs) (filter f xs)) ≤ suc (length xs)
  by true rest = omega (arith, rest)
  by false rest = omega (arith, rest)

passed_all : {X : Type 0} (f : X → Bool) (xs : List X) → filter f xs ≡ xs → list_all f xs ≡ true
passed_all {X = X} f [] same = refl
passed_all {X = X} f (x ∷ xs) same = by (f x) (passed_all f xs) (filter_short f xs) same where
  by : (b : Bool) → (filter f xs ≡ xs → list_all f xs ≡ true) → length (filter f xs) ≤ length xs → cond b (x ∷ filter f xs) (filter f xs) ≡ x ∷ xs → b && list_all f xs ≡ true
  by true rest short same =
      let tail : filter f xs ≡ xs = cc (same) in
      rest tail
  by false rest short same =
      let long : length (filter f xs) ≡ suc (length xs) = ap (λ (l : List X). length l) same in
      absurd (omega (arith, short, long))

all_passed : {X : Type 0} (f : X → Bool) (xs : List X) → list_all f xs ≡ true → filter f xs ≡ xs
all_passed {X = X} f [] all = refl
all_passed {X = X} f (x ∷ xs) all = by (f x) (all_passed f xs) all where
  by : (b : Bool) → (list_all f xs ≡ true → filter f xs ≡ xs) → b && list_all f xs ≡ true → cond b (x ∷ filter f xs) (filter f xs) ≡ x ∷ xs
  by true rest all = ap (λ (l : List X). x ∷ l) (rest all)
  by false rest all = absurd (cc (all))

-- ---- entries after one came

replaced_all : (f : MacEntry → Bool) (entry : MacEntry) (xs : List MacEntry) → f entry ≡ true → list_all f xs ≡ true → list_all f (replaced entry xs) ≡ true
replaced_all f entry [] here all = refl
replaced_all f entry (x ∷ xs) here all =
    let parts = and_parts (f x) (list_all f xs) all in
    by (is_of entry.address x) parts.0 parts.1 (replaced_all f entry xs here parts.1)
  where
    by : (b : Bool) → f x ≡ true → list_all f xs ≡ true → list_all f (replaced entry xs) ≡ true → list_all f (cond b (entry ∷ xs) (x ∷ replaced entry xs)) ≡ true
    by true first rest more = and_from (f entry) (list_all f xs) here rest
    by false first rest more = and_from (f x) (list_all f (replaced entry xs)) first more

added_all : (f : MacEntry → Bool) (entry : MacEntry) (xs : List MacEntry) → f entry ≡ true → list_all f xs ≡ true → list_all f (xs ++ entry ∷ []) ≡ true
added_all f entry [] here all = and_from (f entry) true here refl
added_all f entry (x ∷ xs) here all =
    let parts = and_parts (f x) (list_all f xs) all in
    and_from (f x) (list_all f (xs ++ entry ∷ [])) parts.0 (added_all f entry xs here parts.1)

learned_all : (f : MacEntry → Bool) (table : AddressTable) (entry : MacEntry) → f entry ≡ true → list_all f table.entries ≡ true → list_all f (learned table entry) ≡ true
learned_all f table entry here all = by (has_address table.entries entry.address) (has_room table) where
  by : (held room : Bool) → list_all f (cond held (replaced entry table.entries) (cond room (table.entries ++ entry ∷ []) table.entries)) ≡ true
  by true room = replaced_all f entry table.entries here all
  by false true = added_all f entry table.entries here all
  by false false = all

heard_all : (f : MacEntry → Bool) (entries : List MacEntry) (station : Mac) (arrival now : ℕ) → f (record { address = station; port = arrival; tick = now }) ≡ true → list_all f entries ≡ true
    → list_all f (heard entries station arrival now) ≡ true
heard_all f entries station arrival now here all = by (is_group_address station.0) where
  by : (group : Bool) → list_all f (cond group entries (learned (table_of entries) (record { address = station; port = arrival; tick = now }))) ≡ true
  by true = all
  by false = learned_all f (table_of entries) (record { address = station; port = arrival; tick = now }) here all

-- at another port than that by which the frame came nothing is learned
heard_gone : (port : Option ℕ) (entries : List MacEntry) (station : Mac) (arrival now : ℕ) → ((p : ℕ) → port ≡ Some p → nat_eq arrival p ≡ false) → without_port port entries ≡ entries
    → without_port port (heard entries station arrival now) ≡ heard entries station arrival now
heard_gone None entries station arrival now apart gone = refl
heard_gone (Some p) entries station arrival now apart gone =
    all_passed elsewhere (heard entries station arrival now)
    (heard_all elsewhere entries station arrival now (ap (λ (b : Bool). not b) (apart p refl)) (passed_all elsewhere entries gone))
  where
    elsewhere : MacEntry → Bool
    elsewhere e = not (nat_eq e.port p)

-- ---- a frame is heard by a port that is open

forgotten_still : (c : EdgeLists) (service : ServiceId) (frame : List ℕ) (arrival : ℕ) (place : EndPlace) → IsEdge c → open_ports c.forwarding service arrival ≡ true → (seen c).me
    ≡ c.me → IsSynced c.plan (seen c) place
    → IsForgotten c.plan (seen c) place → IsForgotten c.plan (hearing service frame arrival (seen c)) place
unfolding with_addresses
forgotten_still c service frame arrival place is on me synced gone = λ row terminal at down. by row terminal at down (nat_eq row.service.0 service.0) refl where
  edge : EdgeState
  edge = seen c

  by : (row : WirePlan) → place.terminal ≡ true → wire_row c.plan place.wire ≡ Some row → is_some (down_at c.plan edge place) ≡ true → (b : Bool) → nat_eq row.service.0 service.0 ≡ b
      → without_port (port_of_wire c.plan edge place.wire row) (cond b (heard (addresses_of edge service) (source frame) arrival edge.ticks) (edge.learned row.service.0))
      ≡ cond b (heard (addresses_of edge service) (source frame) arrival edge.ticks) (edge.learned row.service.0)
  by row terminal at down false away = gone row terminal at down
  by row terminal at down true here =
      let same : row.service.0 ≡ service.0 = eqb-true row.service.0 service.0 here in
      heard_gone (port_of_wire c.plan edge place.wire row) (addresses_of edge service) (source frame) arrival edge.ticks
      (λ p found. apart p (nat_eq arrival p) refl
      (ap (λ (k : ℕ). open_ports c.forwarding (record { 0 = k }) p) (sym same)
      ∙ wire_port_shut c place row.service p is synced terminal down (ap (λ m. position (is_wire_port place.wire) (ports_of c.plan row.service m)) (sym me) ∙ found)))
      (subst (λ (k : ℕ). without_port (port_of_wire c.plan edge place.wire row) (edge.learned k) ≡ edge.learned k) same (gone row terminal at down))
    where
      apart : (p : ℕ) (b : Bool) → nat_eq arrival p ≡ b → open_ports c.forwarding service p ≡ false → b ≡ false
      apart p false away shut = refl
      apart p true here shut = absurd (cc (sym on ∙ (ap (open_ports c.forwarding service) (eqb-true arrival p here) ∙ shut)))

pub tidy_heard : (c : EdgeLists) (service : ServiceId) (frame : List ℕ) (arrival : ℕ) (marks : Option EndMarks) → IsEdge c → InSync c.plan (seen c) → open_ports c.forwarding service arrival ≡ true
    → IfSome marks (IsTidy c.plan (seen c)) → IfSome marks (IsTidy c.plan (hearing service frame arrival (seen c)))
unfolding with_addresses
tidy_heard c service frame arrival marks is synced on =
    tidy_slots c.plan (seen c) (hearing service frame arrival (seen c)) marks refl
    (λ slot within settled. record {
      mended = settled.mended;
      told = settled.told;
      forgotten = forgotten_still c service frame arrival (place_at (end_places c.plan (seen c).me) slot) is on (me_of c)
          (holds_at (IsSynced c.plan (seen c)) (end_places c.plan (seen c).me) slot no_place synced.each within) settled.forgotten;
      down = settled.down;
    })
    (λ service is. is)
