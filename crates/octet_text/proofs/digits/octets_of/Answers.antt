-- The octets of one more piece are decoded, and octets that are no pairs of digits are refused.
use Rattle.std.proofs.Common.{◌*◌, ◌∙◌, ◌++◌, ℕ, List, Option, option_map, refl, sym, ap, arith}
use Rattle.octet_text.specs.Hex.{digits_in}
use Rattle.octet_text.proofs.HexLemmas.{decoded_more, decoded_none, piece_added, unhex_odd}
use Rattle.octet_text.proofs.DigitLemmas.{digits_drop, digits_length, digits_take}
use Rattle.octet_text.proofs.digits.octets_of.Goals as goal

pub decoding-preserved : goal.decoding-preserved
decoding-preserved c = (
  decoded_more (digits_in c.args.capitals c.args.digits.now) _ _ c.decoding.octets _ c.decoding.at _ c.fill.result c.if-not-fill.false (digits_drop c.args.capitals _ c.args.digits.now c.decoding.at c.split_at.ensures.back)
      (digits_take c.args.capitals _ c.split_at.result.1.now (2 * c.min-count.result) c.split_at-in-decoding.ensures.front) (omega (arith, digits_length c.args.capitals c.args.digits.now))
      (piece_added c.decoding.octets _ c.fill.new.room _ _ c.fill.ensures c.in_ok-extend_from_slice.ensures.ok) c.decoding.invariant.0,
  omega arith,
)

pub returns-then-not-fill : goal.returns-then-not-fill
returns-then-not-fill c =
    decoded_none (digits_in c.args.capitals c.args.digits.now) _ _ c.decoding.octets _ c.decoding.at _ c.fill.result c.if-not-fill.true (digits_drop c.args.capitals _ c.args.digits.now c.decoding.at c.split_at.ensures.back)
    (digits_take c.args.capitals _ c.split_at.result.1.now (2 * c.min-count.result) c.split_at-in-decoding.ensures.front) (omega (arith, digits_length c.args.capitals c.args.digits.now))
    (piece_added c.decoding.octets _ c.fill.new.room _ _ c.fill.ensures refl) c.decoding.invariant.0

pub returns-then-at-digits : goal.returns-then-at-digits
returns-then-at-digits c =
    sym (ap (λ (read : Option (List ℕ)). option_map (λ xs. c.decoding.octets ++ xs) read)
    (unhex_odd (digits_in c.args.capitals c.args.digits.now) c.decoding.at (omega (arith, digits_length c.args.capitals c.args.digits.now))))
    ∙ c.decoding.invariant.0
