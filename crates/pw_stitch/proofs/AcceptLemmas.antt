-- Points are looked at one after another.
use Rattle.std.proofs.Common.{◌≡◌, ◌+◌, ◌||◌, ◌∙◌, ℕ, zero, suc, List, [], ◌∷◌, drop, slice_get, refl, ap, arith}
use Rattle.std.specs.List.{list_any}
use Rattle.net_values.specs.declared.addr.Addr.{Addr}
use Rattle.pw_tlvs.specs.declared.point.Point.{Point}
use Rattle.pw_stitch.specs.Accepting.{is_held_at, is_point_at}

any_step : (own : Addr) (points : List Point) (at : ℕ) → list_any (is_point_at own) (drop at points) ≡ is_held_at own (slice_get points at) || list_any (is_point_at own) (drop (suc at) points)
any_step own [] zero = refl
any_step own [] (suc at) = refl
any_step own (point ∷ points) zero = refl
any_step own (point ∷ points) (suc at) = any_step own points at

-- one of the points from a place on has the address, where that at the place has it or one behind it
pub any_from : (own : Addr) (points : List Point) (at : ℕ) → list_any (is_point_at own) (drop at points) ≡ is_held_at own (slice_get points at) || list_any (is_point_at own) (drop (at + 1) points)
any_from own points at =
    let next : suc at ≡ at + 1 = omega arith in
    any_step own points at ∙ ap (λ (n : ℕ). is_held_at own (slice_get points at) || list_any (is_point_at own) (drop n points)) next
