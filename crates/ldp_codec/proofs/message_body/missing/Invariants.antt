use Rattle.std.proofs.Common.{◌≡◌, List, drop}
use Rattle.ldp_grammar.specs.Rows.{row_of}
use Rattle.ldp_grammar.specs.Tlvs.{Tlv, IsJoined, first_absent}
use Rattle.ldp_codec.proofs.message_body.missing.Given as goal

abbrev pub invariant-looking : goal.invariant-looking
invariant-looking l = (ts : List Tlv) → IsJoined l.body ts → first_absent (drop l.tlv-index (row_of l.fn.kind).needed) ts ≡ first_absent (row_of l.fn.kind).needed ts
