-- Who sends a message, and its number (RFC 5036 sections 2.2.2 and 3.5).
use Rattle.std.specs.Prelude.{◌+◌, ◌^◌, ◌-◌, ◌==◌, ℕ, if◌then◌else◌}
use Rattle.net_values.specs.declared.addr.Addr.{Addr}
use Rattle.ldp_grammar.specs.declared.ldp_id.LdpId.{LdpId}

-- the platform's label space of a router (RFC 5036 section 2.2.2)
abbrev pub platform_of : Addr → LdpId
platform_of router = record { router = router; space = 0 }

-- messages are numbered up to 2^32 - 1, and then from 0 (RFC 5036 section 3.5)
abbrev pub following : ℕ → ℕ
following id = if id == 2 ^ 32 - 1 then 0 else id + 1
