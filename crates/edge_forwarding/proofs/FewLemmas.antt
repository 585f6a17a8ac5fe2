-- No more addresses are held than a bridge has room for.
use Rattle.std.proofs.Common.{◌≤◌, ◌++◌, ℕ, Bool, true, false, not, cond, filter, length, nat_eq, List, [], ◌∷◌, Option, Some, None, length-append, refl, inl, inr, arith}
use Rattle.std.proofs.lemmas.Bool.{cases_Bool, ltb-true}
use Rattle.std.proofs.lemmas.List.Filters.{length-filter_both}
use Rattle.net_values.specs.Mac.{is_group_address}
use Rattle.net_values.specs.declared.mac.Mac.{Mac}
use Rattle.mac_table.specs.Addresses.{has_address, has_room, learned, replaced}
use Rattle.mac_table.specs.declared.mac_entry.MacEntry.{MacEntry}
use Rattle.mac_table.proofs.AddressLemmas.{length-replaced}
use Rattle.vsi_bridge.specs.BridgeState.{most_addresses, table_of}
use Rattle.vsi_bridge.specs.Targets.{heard}
use Rattle.edge_model.specs.State.{without_port}

pub few_filtered : (p : MacEntry → Bool) (entries : List MacEntry) → length entries ≤ most_addresses → length (filter p entries) ≤ most_addresses
few_filtered p entries few = omega (arith, few, length-filter_both p (λ e. not (p e)) (λ e. refl) entries)

pub few_without_port : (found : Option ℕ) (entries : List MacEntry) → length entries ≤ most_addresses → length (without_port found entries) ≤ most_addresses
few_without_port None entries few = few
few_without_port (Some p) entries few = few_filtered (λ e. not (nat_eq e.port p)) entries few

-- a new address is held only where there is room for it
few_learned : (entries : List MacEntry) (entry : MacEntry) → length entries ≤ most_addresses → length (learned (table_of entries) entry) ≤ most_addresses
few_learned entries entry few = elim (has_address entries entry.address) as
    (λ v. length (cond v (replaced entry entries) (cond (has_room (table_of entries)) (entries ++ entry ∷ []) entries)) ≤ most_addresses) [
      | true ↦ rw (length-replaced entry entries) few
      | false ↦ elim (cases_Bool (has_room (table_of entries))) [
        | inl room ↦ rw room (omega (arith, length-append entries (entry ∷ []), ltb-true (length entries) most_addresses room))
        | inr full ↦ rw full few
      ]
    ]

pub few_heard : (entries : List MacEntry) (source : Mac) (arrival now : ℕ) → length entries ≤ most_addresses → length (heard entries source arrival now) ≤ most_addresses
few_heard entries source arrival now few =
    elim (is_group_address source.0) as (λ v. length (cond v entries (learned (table_of entries) (record { address = source; port = arrival; tick = now }))) ≤ most_addresses) [
      | true ↦ few
      | false ↦ few_learned entries (record { address = source; port = arrival; tick = now }) few
    ]
