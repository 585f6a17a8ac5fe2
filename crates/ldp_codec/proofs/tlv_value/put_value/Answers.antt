-- The header, and the value behind it.
use Rattle.std.proofs.Common.{◌+◌, ◌++◌, List, ℕ, length, subst, ap, ◌∙◌, arith}
use Rattle.ldp_grammar.specs.Octets.{two}
use Rattle.net_values.specs.Put.{IsPut}
use Rattle.ldp_codec.proofs.PutLemmas.{put_one}
use Rattle.ldp_codec.proofs.tlv_value.put_value.Goals as goal

pub returns : goal.returns
returns g c =
    let value = g.T.TlvValue.octets c.args.value.now in
    let word = g.T.TlvValue.word in
    let old = c.args.out.now in
    let head = c.tlv_header.ensures ∙ (λ i. two (c.word.ensures i) ++ two (c.size.ensures i)) in
    let first : IsPut old c.put-behind.new.out c.args.at (two word ++ two (length value)) = subst (IsPut old c.put-behind.new.out c.args.at) head c.put-behind.ensures.put in
    let next = c.put-behind.ensures.end ∙ ap (λ (l : List ℕ). c.args.at + length l) head in
    record {
      put = put_one old c.put-behind.new.out c.put.new.out value word c.args.at c.put-behind.result c.put.result
          (omega (arith, c.requires.room)) next c.put.ensures.end first c.put.ensures.put;
    }
