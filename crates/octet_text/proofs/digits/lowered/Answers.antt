-- Each lane is lowered, or none is.
use Rattle.std.proofs.Common.{◌∙◌, ℕ, Bool, ap, map, sym}
use Rattle.std.proofs.lemmas.Simd.{zip2_splat}
use Rattle.std.specs.Int.Bits.{bit_or}
use Rattle.octet_text.specs.Hex.{lowered}
use Rattle.octet_text.proofs.DigitLemmas.{as_they_are}
use Rattle.octet_text.proofs.digits.lowered.Goals as goal

pub returns-then-capitals : goal.returns-then-capitals
returns-then-capitals c = zip2_splat {Y = ℕ} bit_or c.args.digits 16 32 c.fits-digits.0 ∙ ap (λ (b : Bool). map (lowered b) c.args.digits) (sym c.if-capitals.true)

pub returns : goal.returns
returns c = as_they_are c.args.digits ∙ ap (λ (b : Bool). map (lowered b) c.args.digits) (sym c.if-capitals.false)
