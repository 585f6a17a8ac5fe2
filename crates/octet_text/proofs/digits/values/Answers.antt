-- Each lane is worth what the definition says.
use Rattle.std.proofs.Common.{◌≡◌, ℕ, Bool, true, false, ◌+◌, ◌-◌, ◌%◌, cond, eqb, ltb, refl, ◌∙◌}
use Rattle.std.proofs.lemmas.Bool.{agree_below}
use Rattle.std.proofs.lemmas.Simd.{zip2_splat}
use Rattle.std.specs.Simd.Lanes.{top}
use Rattle.octet_text.specs.Hex.{digit_in, lowered, worth}
use Rattle.octet_text.proofs.LaneLemmas.{joined, chosen, splat_is, same_lanes}
use Rattle.octet_text.proofs.digits.values.Goals as goal

abbrev less : ℕ → ℕ → ℕ
less a b = cond (ltb a b) 255 0

abbrev minus : ℕ → ℕ → ℕ
minus a b = (a + (256 - b)) % 256

abbrev plus : ℕ → ℕ → ℕ
plus a b = (a + b) % 256

-- what a lane gets
abbrev of_letter : ℕ → ℕ
of_letter letter = cond (top 7 (less letter 6)) (plus letter 10) 255

abbrev of_lane : Bool → ℕ → ℕ
of_lane capitals x = cond (top 7 (less (minus x 48) 10)) (minus x 48) (of_letter (minus (lowered capitals x) 97))

agree : (capitals : Bool) → agree_below (λ x. eqb (of_lane capitals x) (worth (digit_in capitals x))) (λ _. true) 256 ≡ true
agree true = refl
agree false = refl

pub returns : goal.returns
returns c =
    let capitals = c.args.capitals in
    let v = c.args.digits in
    let long = c.fits-digits.0 in
    let decimal = zip2_splat minus v 16 48 long in
    let letter = joined minus (lowered capitals) _ v c.lowered.ensures (splat_is v 16 97 long) in
    let raised = joined plus _ _ v letter (splat_is v 16 10 long) in
    let letters = chosen _ _ _ v (joined less _ _ v letter (splat_is v 16 6 long)) raised (splat_is v 16 255 long) in
    chosen _ _ _ v (joined less _ _ v decimal (splat_is v 16 10 long)) decimal letters ∙ same_lanes (of_lane capitals) (λ d. worth (digit_in capitals d)) v (agree capitals) c.fits-digits.1
