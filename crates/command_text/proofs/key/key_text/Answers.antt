-- One more octet is masked.
use Rattle.std.proofs.Common.{◌≡◌, ◌∙◌, ◌<◌, ◌+◌, ◌++◌, ◌∷◌, [], ℕ, List, length, take, set, get_or, map, sym, ap, arith, length-set}
use Rattle.std.proofs.lemmas.List.{map_more, take_more_set}
use Rattle.command_text.specs.Places.{masked}
use Rattle.command_text.proofs.key.key_text.Goals as goal

masked_more : (octets front : List ℕ) (i x : ℕ) → i < length octets → i < length front → take i octets ≡ map masked (take i front) → x ≡ masked (get_or front i 0)
    → take (i + 1) (set octets i x) ≡ map masked (take (i + 1) front)
masked_more octets front i x room within done value =
    take_more_set octets i x room ∙ ap (λ xs. xs ++ x ∷ []) done ∙ ap (λ y. map masked (take i front) ++ y ∷ []) value ∙ sym (map_more masked front i 0 within)

pub loop-i-preserved : goal.loop-i-preserved
loop-i-preserved c = (
  masked_more c.loop-i.octets c.split_at.result.0.now c.loop-i.i c.mask.result (omega arith) c.loop-i-test.true c.loop-i.invariant.0 c.mask.ensures,
  length-set c.loop-i.octets c.loop-i.i c.mask.result ∙ c.loop-i.invariant.1,
)
