-- The flood set (RFC 4762 sections 4.1 and 4.4).
use Rattle.std.specs.Prelude.{◌==◌, ◌&&◌, not, ℕ, Bool, List}
use Rattle.hvpls_spokes.specs.declared.port.Port.{Port}
use Rattle.hvpls_spokes.specs.Port.{is_mesh_port}

-- a port to which a frame is flooded that came by the port `arrival`: it forwards, it is not the arrival, and it is no
-- mesh wire where the arrival is one
abbrev pub is_in_flood : List Port → (ℕ → Bool) → ℕ → ℕ → Bool
is_in_flood ports forwarding arrival p = (forwarding p && not (p == arrival)) && not (is_mesh_port ports arrival && is_mesh_port ports p)
