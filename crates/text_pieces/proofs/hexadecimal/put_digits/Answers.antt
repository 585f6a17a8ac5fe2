use Rattle.std.proofs.Common.{◌++◌, ◌∙◌, ℕ, List, ap, arith}
use Rattle.text_pieces.proofs.HexLemmas.{digits_next, digits_all}
use Rattle.text_pieces.proofs.hexadecimal.put_digits.Goals as goal

pub adding-preserved : goal.adding-preserved
adding-preserved c =
    let adds = c.in_ok-put_text.ensures ∙ ap (λ (l : List ℕ). c.adding.text.items ++ l) c.write_digits.ensures in
    record {
      within = grind (arith, c.split_at.ensures.back_len, c.split_at-in-adding.ensures.back_len, c.adding.invariant.within, c.split_at.ensures.front_len);
      told = digits_next _ _ _ _ _ _ _ _ c.split_at.ensures.back c.split_at-in-adding.ensures.front c.split_at-in-adding.ensures.front_len adds c.adding.invariant.told;
    }

pub returns : goal.returns
returns c = digits_all c.adding.text.items _ c.args.octets.now c.adding.at (grind (arith)) c.adding.invariant.told
