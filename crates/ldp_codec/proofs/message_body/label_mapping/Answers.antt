-- The FEC and the label that are needed are there.
use Rattle.std.proofs.Common.{refl}
use Rattle.ldp_grammar.specs.declared.message_kind.MessageKind.TheVariants.{LabelMapping}
use Rattle.ldp_grammar.specs.Rows.{label}
use Rattle.ldp_grammar.specs.Tlvs.{value_of}
use Rattle.ldp_grammar.specs.Values.{IsNumber}
use Rattle.ldp_codec.proofs.ReasonLemmas.{both_some, needed_element, needed_some}
use Rattle.ldp_codec.proofs.message_body.label_mapping.Goals as goal

pub unwrap-requires : goal.unwrap-requires
unwrap-requires c = needed_element LabelMapping c.args.body.now c.args.element c.requires.complete refl refl refl c.requires.element

pub unwrap-requires-2 : goal.unwrap-requires-2
unwrap-requires-2 c =
    let w = c.requires.complete in
    both_some IsNumber (value_of label w.tlvs) c.label_of.result (needed_some LabelMapping label c.args.body.now w refl refl) (c.label_of.ensures.label w.tlvs w.joined)
