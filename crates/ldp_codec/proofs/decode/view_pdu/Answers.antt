-- The fault is the only one.
use Rattle.std.proofs.Common.{◌++◌, ◌∙◌, ap, subst, sym}
use Rattle.std.specs.Prelude.{Err}
use Rattle.ldp_grammar.specs.FirstFault.{FirstFault, Names}
use Rattle.ldp_grammar.proofs.PduLemmas.{never_both, one_first}
use Rattle.ldp_codec.specs.Decoded.{TellsFault, refusal_of}
use Rattle.ldp_codec.specs.Part.{joined}
use Rattle.ldp_codec.proofs.DecodeLemmas.{tells_of}
use Rattle.ldp_codec.proofs.decode.view_pdu.Goals as goal

pub returns-in-Err-clause-fault : goal.returns-in-Err-clause-fault
unfolding joined
returns-in-Err-clause-fault c =
    let bytes = c.args.front.now ++ c.args.back.now in
    subst (TellsFault (FirstFault bytes c.args.max)) (sym c.from.ensures) (tells_of (FirstFault bytes c.args.max) c.in-Err.fault c.in-Err.ensures.fault)

pub returns-in-Err-clause-accepts : goal.returns-in-Err-clause-accepts
unfolding joined
returns-in-Err-clause-accepts c = λ pdu is. absurd (never_both (c.args.front.now ++ c.args.back.now) c.args.max pdu c.in-Err.fault c.requires.most is c.in-Err.ensures.fault)

pub returns-in-Err-clause-refuses : goal.returns-in-Err-clause-refuses
unfolding joined
returns-in-Err-clause-refuses c = λ fault is. ap Err
    (c.from.ensures ∙ ap refusal_of (one_first (Names (c.args.front.now ++ c.args.back.now) c.args.max) c.in-Err.fault fault c.in-Err.ensures.fault is))
