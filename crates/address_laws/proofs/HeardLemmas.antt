-- What holds of each entry of a table holds of each after the bridge has heard a frame, where it holds of what the frame teaches.
use Rattle.std.proofs.Common.{◌≡◌, ◌++◌, ℕ, Bool, true, false, List, [], ◌∷◌, cond, nat_eq, sym, subst, inl, inr}
use Rattle.std.proofs.lemmas.Bool.{cases_Bool, eq-eqb, eqb-true}
use Rattle.std.specs.List.{AllByRecursion}
use Rattle.net_base.specs.declared.plan.places.ServiceId.{ServiceId}
use Rattle.net_values.specs.declared.mac.Mac.{Mac}
use Rattle.net_base.specs.trace.Frame.{source_of}
use Rattle.net_values.specs.Mac.{is_group_address}
use Rattle.mac_table.specs.Addresses.{AddressTable, has_address, has_room, is_of, learned, replaced}
use Rattle.mac_table.specs.declared.mac_entry.MacEntry.{MacEntry}
use Rattle.vsi_bridge.specs.BridgeState.{table_of}
use Rattle.vsi_bridge.specs.Targets.{heard}
use Rattle.edge_model.specs.Frame.{hearing, source}
use Rattle.edge_model.specs.State.{EdgeState, addresses_of, with_addresses}

module _ (P : MacEntry → Type 0) where
  push_holds : (entries : List MacEntry) (entry : MacEntry) → AllByRecursion P entries → P entry → AllByRecursion P (entries ++ entry ∷ [])
  push_holds [] entry all one = (one, tt)
  push_holds (e ∷ es) entry all one = (all.0, push_holds es entry all.1 one)

  replaced_holds : (entry : MacEntry) (entries : List MacEntry) → AllByRecursion P entries → P entry → AllByRecursion P (replaced entry entries)
  replaced_holds entry [] all one = tt
  replaced_holds entry (e ∷ es) all one = by (is_of entry.address e) (replaced_holds entry es all.1 one) where
    by : (same : Bool) → AllByRecursion P (replaced entry es) → AllByRecursion P (cond same (entry ∷ es) (e ∷ replaced entry es))
    by true rest = (one, all.1)
    by false rest = (all.0, rest)

  learned_holds : (table : AddressTable) (entry : MacEntry) → AllByRecursion P table.entries → P entry → AllByRecursion P (learned table entry)
  learned_holds table entry all one = by (has_address table.entries entry.address) (has_room table) where
    by : (held room : Bool) → AllByRecursion P (cond held (replaced entry table.entries) (cond room (table.entries ++ entry ∷ []) table.entries))
    by true room = replaced_holds entry table.entries all one
    by false true = push_holds table.entries entry all one
    by false false = all

  heard_holds : (entries : List MacEntry) (from : Mac) (arrival now : ℕ) → AllByRecursion P entries
      → (is_group_address from.0 ≡ false → P (record { address = from; port = arrival; tick = now })) → AllByRecursion P (heard entries from arrival now)
  heard_holds entries from arrival now all one = elim (cases_Bool (is_group_address from.0)) [
    | inl group ↦ rw group all
    | inr single ↦ rw single (learned_holds (table_of entries) (record { address = from; port = arrival; tick = now }) all (one single))
  ]

  -- a bridge hears a frame of its own service, or of another one
  pub hearing_holds : (edge : EdgeState) (of service : ServiceId) (frame : List ℕ) (arrival : ℕ) → AllByRecursion P (edge.learned service.0)
      → (nat_eq of.0 service.0 ≡ true → is_group_address (source_of frame) ≡ false → P (record { address = source frame; port = arrival; tick = edge.ticks }))
      → AllByRecursion P ((hearing of frame arrival edge).learned service.0)
  unfolding with_addresses
  hearing_holds edge of service frame arrival all one = elim (cases_Bool (nat_eq service.0 of.0)) [
    | inl same ↦
        (let is : service.0 ≡ of.0 = eqb-true service.0 of.0 same in
        let here : AllByRecursion P (addresses_of edge of) = subst (λ (n : ℕ). AllByRecursion P (edge.learned n)) is all in
        rw same (heard_holds (addresses_of edge of) (source frame) arrival edge.ticks here (one (eq-eqb of.0 service.0 (sym is)))))
    | inr other ↦ rw other all
  ]
