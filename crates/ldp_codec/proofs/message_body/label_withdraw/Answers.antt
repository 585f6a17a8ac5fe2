-- The FEC that is needed is there.
use Rattle.std.proofs.Common.{refl}
use Rattle.ldp_grammar.specs.declared.message_kind.MessageKind.TheVariants.{LabelWithdraw}
use Rattle.ldp_codec.proofs.ReasonLemmas.{needed_element}
use Rattle.ldp_codec.proofs.message_body.label_withdraw.Goals as goal

pub unwrap-requires : goal.unwrap-requires
unwrap-requires c = needed_element LabelWithdraw c.args.body.now c.args.element c.requires.complete refl refl refl c.requires.element
