-- The octet of two more digits is written.
use Rattle.std.proofs.Common.{◌≡◌, ◌+◌, ◌*◌, ◌∙◌, length, ap₂, arith}
use Rattle.octet_text.specs.Hex.{digits_in, pair_value}
use Rattle.octet_text.proofs.HexLemmas.{filled_all, filled_by}
use Rattle.octet_text.proofs.DigitLemmas.{digits_at, digits_length}
use Rattle.octet_text.proofs.digits.fill_pairs.Goals as goal

pub filling-preserved : goal.filling-preserved
filling-preserved c =
    let word = c.args.digits.now in
    let i = c.filling.i in
    let size : length word ≡ 2 * length c.filling.room = omega arith in
    filled_by (digits_in c.args.capitals word) c.filling.room i c.filling.joined c.pair-octet.result (omega arith) (digits_length c.args.capitals word ∙ size)
    (ap₂ pair_value (digits_at c.args.capitals word (2 * i) (omega (arith, size))) (digits_at c.args.capitals word (2 * i + 1) (omega (arith, size))) ∙ c.pair-octet.ensures) c.filling.invariant

pub returns : goal.returns
returns c =
    let size : length c.args.digits.now ≡ 2 * length c.filling.room = omega arith in
    filled_all (digits_in c.args.capitals c.args.digits.now) c.filling.room c.filling.i _ (omega arith) (digits_length c.args.capitals c.args.digits.now ∙ size) c.filling.invariant
