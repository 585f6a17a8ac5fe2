-- The second piece comes behind the first.
use Rattle.std.proofs.Common.{arith}
use Rattle.eth_encap.proofs.OctetLemmas.{added_behind}
use Rattle.eth_encap.proofs.octets.join.Goals as goal

pub returns-clause-octets : goal.returns-clause-octets
returns-clause-octets c =
    added_behind c.args.out.now c.args.front.now c.args.back.now c.put-middle.new.out c.put.new.out c.put-middle.result c.put.result c.put-middle.ensures.octets
    (omega arith) c.put.ensures.end c.put.ensures.octets
