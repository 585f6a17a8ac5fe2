use Rattle.std.proofs.Common.{◌≡◌, ◌<◌, ◌&&◌, ◌||◌, ℕ, length}
use Rattle.std.specs.List.{list_any}
use Rattle.net_base.specs.plan.Paths.{joins}
use Rattle.net_base.specs.plan.Roles.{is_wire_of}
use Rattle.calm_services.specs.EdgePairs.{has_pair}
use Rattle.calm_services.proofs.service_edges.join_wires.Given as goal

abbrev pub invariant-joining : goal.invariant-joining
invariant-joining l = (x y : ℕ) → x < 64 → y < 64
    → list_any (λ wire. is_wire_of l.service wire && joins x y wire.path) l.rest || has_pair l.pairs x y
    ≡ list_any (λ wire. is_wire_of l.service wire && joins x y wire.path) l.wires || has_pair l.fn.pairs x y

abbrev pub decreases-joining : goal.decreases-joining
decreases-joining l = length l.rest
