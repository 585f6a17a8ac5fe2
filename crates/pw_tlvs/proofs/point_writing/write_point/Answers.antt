-- The parts come one behind another.
use Rattle.std.proofs.Common.{◌++◌, ◌∙◌, [], List, ℕ, drop, length-append, refl, sym, ap, arith}
use Rattle.pw_tlvs.proofs.WrittenLemmas.{added_behind}
use Rattle.pw_tlvs.proofs.PointLemmas.{pw_id_octets, local_octets, remote_octets, point_parts}
use Rattle.pw_tlvs.proofs.point_writing.write_point.Goals as goal

pub returns-clause-octets : goal.returns-clause-octets
returns-clause-octets c =
    let base = c.args.out.now in
    let p = c.args.point.now in
    let a = pw_id_octets p in
    let b = local_octets p in
    let d = remote_octets p in
    let one = added_behind base [] a base c.put_number-first.new.out 0 c.put_number-first.result refl refl c.put_number-first.ensures.end c.put_number-first.ensures.octets in
    let two = added_behind base a b c.put_number-first.new.out c.put_address-second.new.out c.put_number-first.result c.put_address-second.result one
    (omega (arith, c.put_number-first.ensures.end)) c.put_address-second.ensures.end c.put_address-second.ensures.octets in
    let parts = length-append a b in
    let three = added_behind base (a ++ b) d c.put_address-second.new.out c.put_address.new.out c.put_address-second.result c.put_address.result two
    (omega (arith, c.put_number-first.ensures.end, c.put_address-second.ensures.end, parts)) c.put_address.ensures.end c.put_address.ensures.octets in
    three ∙ ap (λ (l : List ℕ). l ++ drop c.put_address.result base) (sym (point_parts p))
