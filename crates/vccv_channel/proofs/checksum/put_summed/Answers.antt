-- The checksum stands between the parts.
use Rattle.std.proofs.Common.{◌++◌, ◌∙◌, List, ℕ, take, drop, ap, arith}
use Rattle.vccv_channel.proofs.OctetLemmas.{added_three}
use Rattle.vccv_channel.proofs.checksum.put_summed.Goals as goal

pub returns-clause-octets : goal.returns-clause-octets
returns-clause-octets c =
    let base = c.args.out.now in
    let front = c.args.front.now in
    let back = c.args.back.now in
    added_three base front c.checksum_between.result back c.put-first.new.out c.put-second.new.out c.put.new.out c.args.at c.put-first.result c.put-second.result c.put.result (omega arith)
    c.put-first.ensures.end c.put-first.ensures.octets c.put-second.ensures.end c.put-second.ensures.octets c.put.ensures.end c.put.ensures.octets
    ∙ ap (λ (sum : List ℕ). (take c.args.at base ++ (front ++ (sum ++ back))) ++ drop c.put.result base) c.checksum_between.ensures
