-- What is at fault in a FEC, in a label and in a switching point.
use Rattle.std.proofs.Common.{sym, subst}
use Rattle.std.specs.Prelude.{IfSome}
use Rattle.net_values.specs.declared.field.Field.{Field}
use Rattle.pw_tlvs.specs.Faults.{IsFirstIn}
use Rattle.ldp_grammar.specs.FirstFault.{ContentFault}
use Rattle.ldp_grammar.specs.Tlvs.{HasContent}
use Rattle.ldp_codec.proofs.ContentLemmas.{first_of_fec, fec_there_is}
use Rattle.ldp_codec.proofs.content.content_fault.Goals as goal

pub returns-in-Fec-clause-fault : goal.returns-in-Fec-clause-fault
returns-in-Fec-clause-fault c = subst (λ (f : Field). IfSome c.fec_fault.result (IsFirstIn (ContentFault c.args.body.now f c.args.value.now))) (sym c.in-Fec.is)
    (first_of_fec c.args.value.now c.fec_fault.result c.fec_fault.ensures.fault)

pub returns-in-Fec-clause-none : goal.returns-in-Fec-clause-none
returns-in-Fec-clause-none c = λ none. subst (λ (f : Field). HasContent c.args.body.now f c.args.value.now) (sym c.in-Fec.is)
    (fec_there_is c.args.value.now c.fec_fault.result c.fec_fault.ensures.fault none)

pub returns-in-Label-clause-fault : goal.returns-in-Label-clause-fault
returns-in-Label-clause-fault c = subst (λ (f : Field). IfSome c.label_fault.result (IsFirstIn (ContentFault c.args.body.now f c.args.value.now))) (sym c.in-Label.is) c.label_fault.ensures.fault

pub returns-in-Err-clause-fault : goal.returns-in-Err-clause-fault
returns-in-Err-clause-fault c = subst (λ (f : Field). IsFirstIn (ContentFault c.args.body.now f c.args.value.now) c.in-Err.fault) (sym c.in-Point.is)
    ((c.read_point.ensures.fault c.in-Err.fault).0 c.in-Err.is)
