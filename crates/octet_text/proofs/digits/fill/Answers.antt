-- The octets of the front, and those behind them.
use Rattle.std.proofs.Common.{◌++◌, ◌*◌, ◌/◌, ◌∙◌, Bool, Some, None, length, if◌then◌else◌, ap, sym, arith}
use Rattle.octet_text.specs.Hex.{digits_in, unhex}
use Rattle.octet_text.proofs.LaneLemmas.{both_filled, none_filled}
use Rattle.octet_text.proofs.DigitLemmas.{digits_drop, digits_length, digits_take}
use Rattle.octet_text.proofs.digits.fill.Goals as goal

pub returns-then-fill_eights : goal.returns-then-fill_eights
returns-then-fill_eights c =
    both_filled (digits_in c.args.capitals c.args.digits.now) c.fill_eights.new.room c.fill_pairs.new.room _ c.fill_pairs.result (omega (arith, digits_length c.args.capitals c.args.digits.now))
    (ap unhex (sym (digits_take c.args.capitals _ c.args.digits.now (2 * (length c.args.room.now / 8 * 8)) c.split_at.ensures.front)) ∙ (c.fill_eights.ensures.octets ∙ ap (λ (b : Bool). if b then Some c.fill_eights.new.room else None) c.if-fill_eights.true))
    (ap unhex (sym (digits_drop c.args.capitals _ c.args.digits.now (2 * (length c.args.room.now / 8 * 8)) c.split_at.ensures.back)) ∙ c.fill_pairs.ensures)

pub returns-else-fill_eights : goal.returns-else-fill_eights
returns-else-fill_eights c =
    let front = c.fill_eights.new.room in
    let whole = front ++ c.split_at_mut-first.result.1.now in
    none_filled (digits_in c.args.capitals c.args.digits.now) _ (omega (arith, digits_length c.args.capitals c.args.digits.now))
    (ap unhex (sym (digits_take c.args.capitals _ c.args.digits.now (2 * (length c.args.room.now / 8 * 8)) c.split_at.ensures.front)) ∙ (c.fill_eights.ensures.octets ∙ ap (λ (b : Bool). if b then Some front else None) c.if-fill_eights.false))
    ∙ ap (λ (b : Bool). if b then Some whole else None) (sym c.if-fill_eights.false)
