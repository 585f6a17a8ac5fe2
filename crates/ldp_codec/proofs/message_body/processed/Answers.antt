-- The FEC that a Label Request needs is there.
use Rattle.std.proofs.Common.{refl, subst}
use Rattle.ldp_grammar.specs.declared.message_kind.MessageKind.{MessageKind}
use Rattle.ldp_grammar.specs.declared.message_kind.MessageKind.TheVariants.{LabelRequest}
use Rattle.ldp_codec.specs.Walk.{HasElement, IsComplete}
use Rattle.ldp_codec.proofs.ReasonLemmas.{needed_element}
use Rattle.ldp_codec.proofs.message_body.processed.Goals as goal

pub unwrap-requires : goal.unwrap-requires
unwrap-requires c =
    let complete = subst (λ (k : MessageKind). IsComplete k c.args.body.now) c.in-LabelRequest.is c.requires.complete in
    let element = subst (λ (k : MessageKind). HasElement k c.args.body.now c.args.element) c.in-LabelRequest.is c.requires.element in
    needed_element LabelRequest c.args.body.now c.args.element complete refl refl refl element
