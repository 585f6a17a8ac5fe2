-- The value comes behind the type and the length.
use Rattle.std.proofs.Common.{◌+◌, ◌++◌, ◌∷◌, ◌∙◌, [], ℕ, length, take, drop, ap, arith}
use Rattle.pw_tlvs.proofs.WrittenLemmas.{added_at}
use Rattle.pw_tlvs.proofs.octets.put_sub_tlv.Goals as goal

pub returns-clause-octets : goal.returns-clause-octets
returns-clause-octets c =
    let value = c.args.value.now in
    added_at c.args.out.now (c.args.kind ∷ (c.counted.result + length value) ∷ []) value c.put-middle.new.out c.put.new.out c.args.at c.put-middle.result c.put.result
    (omega arith) c.put-middle.ensures.end c.put.ensures.end c.put-middle.ensures.octets c.put.ensures.octets
    ∙ ap (λ (n : ℕ). (take c.args.at c.args.out.now ++ (c.args.kind ∷ (n + length value) ∷ value)) ++ drop c.put.result c.args.out.now) c.counted.ensures
