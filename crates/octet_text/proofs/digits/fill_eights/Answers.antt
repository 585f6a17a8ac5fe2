-- Eight octets more are written.
use Rattle.std.proofs.Common.{◌≡◌, ◌+◌, ◌*◌, ◌&&◌, ◌∙◌, ℕ, List, length, refl, ap, sym, arith}
use Rattle.std.proofs.lemmas.Simd.{length-put_chunk}
use Rattle.octet_text.specs.Hex.{digits_in, unhex}
use Rattle.octet_text.proofs.HexLemmas.{filled, filled_all}
use Rattle.octet_text.proofs.LaneLemmas.{by_eights, filled_eight, nothing_filled}
use Rattle.octet_text.proofs.DigitLemmas.{digits_chunk, digits_length}
use Rattle.octet_text.proofs.digits.fill_eights.Goals as goal

pub filling-init : goal.filling-init
filling-init c = (nothing_filled (digits_in c.args.capitals c.args.digits.now) c.args.room.now, omega arith, by_eights (length c.args.room.now) c.requires.eights, c.requires.size, refl)

pub filling-preserved : goal.filling-preserved
filling-preserved c =
    let digits = digits_in c.args.capitals c.args.digits.now in
    let room = c.filling.room in
    let at = c.filling.at in
    let octets = c.eight-are.result.0 in
    let same : length c.put_eight.new.room ≡ length room = ap (λ (l : List ℕ). length l) c.put_eight.ensures ∙ length-put_chunk at room octets in (
      ap (λ (r : List ℕ). filled digits r (at + 8) (c.filling.all && c.eight-are.result.1)) c.put_eight.ensures
          ∙ filled_eight digits room octets at c.filling.all c.eight-are.result.1 (omega arith) (digits_length c.args.capitals c.args.digits.now ∙ c.filling.invariant.3) c.eight-are.ensures.size
          (ap unhex (digits_chunk c.args.capitals c.args.digits.now (2 * at)) ∙ (ap (λ (l : List ℕ). unhex (digits_in c.args.capitals l)) (sym c.sixteen_at.ensures) ∙ c.eight-are.ensures.octets)) c.filling.invariant.0,
      omega (arith, same),
      omega (arith, same),
      omega (arith, same, c.filling.invariant.3),
      same ∙ c.filling.invariant.4,
    )

pub returns-clause-octets : goal.returns-clause-octets
returns-clause-octets c =
    filled_all (digits_in c.args.capitals c.args.digits.now) c.filling.room c.filling.at c.filling.all (omega arith) (digits_length c.args.capitals c.args.digits.now ∙ c.filling.invariant.3) c.filling.invariant.0
