-- A TLV whose field is not in the set did not come yet.
use Rattle.std.proofs.Common.{rules, ◌≡◌, Some, false}
use Rattle.ldp_grammar.specs.Tlvs.{count_of}
use Rattle.ldp_codec.specs.FieldSet.{has}
use Rattle.ldp_codec.proofs.FieldSetLemmas.{may_come}
use Rattle.ldp_codec.proofs.tlv_walk.repeated.Goals as goal

pub returns-then-not-contains-clause-room : goal.returns-then-not-contains-clause-room
returns-then-not-contains-clause-room c = λ ts joined none.
    let is : c.args.list ≡ Some c.in_ok-field.field = search rules in
    let absent : has c.args.met.now c.in_ok-field.field ≡ false = search rules in
    may_come c.args.list c.in_ok-field.field (count_of c.args.tlv ts) is (c.requires.met ts c.in_ok-field.field joined is absent)
