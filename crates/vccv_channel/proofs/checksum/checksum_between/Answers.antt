-- The parts have their sums, and the checksum counts as 0 between them.
use Rattle.std.proofs.Common.{◌∙◌, ◌-◌, ℕ, ap, sym, arith}
use Rattle.byteorder.specs.Endian.{big_bytes}
use Rattle.vccv_channel.specs.Checksum.{ones_plus, ones_sum}
use Rattle.net_values.specs.Octets.{AreOctets}
use Rattle.vccv_channel.proofs.SumLemmas.{sum_apart}
use Rattle.vccv_channel.proofs.checksum.checksum_between.Goals as goal

pub returns : goal.returns
returns c =
    let front = c.args.front.now in
    let back = c.args.back.now in
    let front_octets : AreOctets front = λ i. omega (arith, c.type_inv.front i) in
    let back_octets : AreOctets back = λ i. omega (arith, c.type_inv.back i) in
    let sum = c.add.ensures ∙ (ap (λ (n : ℕ). ones_plus n c.ones_sum-2.result) c.ones_sum.ensures
    ∙ (ap (λ (n : ℕ). ones_plus (ones_sum front) n) c.ones_sum-2.ensures ∙ sym (sum_apart front back front_octets back_octets c.requires))) in
    c.to_be_bytes.ensures ∙ ap (λ (n : ℕ). big_bytes 2 (65535 - n)) sum
