-- What a bridge learns of a frame, and where it sends the frame (RFC 4762 sections 4.1 and 4.2).
use Rattle.std.specs.Prelude.{◌==◌, ◌&&◌, ℕ, Bool, List, Option, Some, None, if◌then◌else◌}
use Rattle.net_values.specs.declared.mac.Mac.{Mac}
use Rattle.net_values.specs.Mac.{is_group_address}
use Rattle.hvpls_spokes.specs.declared.port.Port.{Port}
use Rattle.hvpls_spokes.specs.Flood.{is_in_flood}
use Rattle.mac_table.specs.Addresses.{learned, port_of}
use Rattle.mac_table.specs.declared.mac_entry.MacEntry.{MacEntry}
use Rattle.vsi_bridge.specs.BridgeState.{table_of}

-- the entries after a frame from the source came by a port at a tick: a group is no station, and is not learned
abbrev pub heard : List MacEntry → Mac → ℕ → ℕ → List MacEntry
heard entries source arrival now =
    if is_group_address source.0 then entries else learned (table_of entries) (record { address = source; port = arrival; tick = now })

-- the port of a known station: none of a group, and none of a station that was not heard
abbrev pub known_port : List MacEntry → Mac → Option ℕ
known_port entries destination = if is_group_address destination.0 then None else port_of entries destination

-- a port to which a frame goes: a port of the flood set, and for a known station its port alone
abbrev pub is_target : List Port → (ℕ → Bool) → ℕ → Option ℕ → ℕ → Bool
is_target ports forwarding arrival None p = is_in_flood ports forwarding arrival p
is_target ports forwarding arrival (Some known) p = is_in_flood ports forwarding arrival p && p == known
