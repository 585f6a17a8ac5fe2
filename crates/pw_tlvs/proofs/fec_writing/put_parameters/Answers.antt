-- The parameters come one behind another.
use Rattle.std.proofs.Common.{◌++◌, ◌∙◌, List, ℕ, take, drop, sym, ap, arith}
use Rattle.pw_tlvs.proofs.WrittenLemmas.{added_four}
use Rattle.pw_tlvs.proofs.ParameterLemmas.{mtu_octets, description_octets, vlan_octets, vccv_octets, parameter_parts}
use Rattle.pw_tlvs.proofs.fec_writing.put_parameters.Goals as goal

pub returns-clause-octets : goal.returns-clause-octets
returns-clause-octets c =
    let p = c.args.params.now in
    added_four c.args.out.now (mtu_octets p) (description_octets p) (vlan_octets p)
    (vccv_octets p) c.put_pair-first.new.out c.put_description-second.new.out c.put_pair-third.new.out c.put_vccv.new.out
    c.args.at c.put_pair-first.result c.put_description-second.result c.put_pair-third.result c.put_vccv.result (omega (arith, c.requires))
    c.put_pair-first.ensures.end c.put_pair-first.ensures.octets c.put_description-second.ensures.end c.put_description-second.ensures.octets
    c.put_pair-third.ensures.end c.put_pair-third.ensures.octets c.put_vccv.ensures.end c.put_vccv.ensures.octets
    ∙ ap (λ (l : List ℕ). (take c.args.at c.args.out.now ++ l) ++ drop c.put_vccv.result c.args.out.now) (sym (parameter_parts p))
