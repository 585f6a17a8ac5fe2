use Rattle.std.proofs.Common.{List, ℕ, ◌≡◌, subst, arith}
use Rattle.std.specs.Prelude.{IfOk}
use Rattle.ldp_grammar.specs.Written.{written}
use Rattle.pw_messages.proofs.EncodedLemmas.{front_is}
use Rattle.pw_messages.proofs.encoded.encoded.Goals as goal

pub returns : goal.returns
returns c = subst (λ (l : List ℕ). IfOk c.from_bytes.result (λ octets. octets ≡ l))
    (front_is (written c.args.message.now c.args.id) c.args.out.now c.encode_into-count.new.out c.split_at.result.0.now c.encode_into-count.result c.encode_into-count.ensures.octets c.encode_into-count.auto.out (omega (arith, c.requires.room, c.requires.short, c.encode_into-count.ensures.count)) c.split_at.ensures.front)
    c.from_bytes.ensures
