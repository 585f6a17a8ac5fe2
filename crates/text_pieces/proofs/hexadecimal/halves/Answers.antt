-- The halves are told lane by lane.
use Rattle.std.proofs.Common.{◌≤◌, ℕ, arith}
use Rattle.std.proofs.lemmas.Simd.{Each1-all, Each2-splat}
use Rattle.text_pieces.proofs.LaneLemmas.{digits_of_halves, halves_below}
use Rattle.text_pieces.proofs.hexadecimal.halves.Goals as goal

pub nonzero_div-high : goal.nonzero_div-high
nonzero_div-high c = Each2-splat (λ (octet by : ℕ). 1 ≤ by) c.args.eight 8 16 (Each1-all (λ (octet : ℕ). 1 ≤ 16) (λ octet. omega arith) c.args.eight)

pub nonzero_rem-low : goal.nonzero_rem-low
nonzero_rem-low c = Each2-splat (λ (octet by : ℕ). 1 ≤ by) c.args.eight 8 16 (Each1-all (λ (octet : ℕ). 1 ≤ 16) (λ octet. omega arith) c.args.eight)

pub returns-clause-digits : goal.returns-clause-digits
returns-clause-digits c = digits_of_halves c.args.eight c.fits-eight.0

pub returns-clause-small : goal.returns-clause-small
returns-clause-small c = halves_below c.args.eight c.fits-eight.0 c.fits-eight.1
