-- One last octet alone is the first of what is wrong.
use Rattle.std.proofs.Common.{sym, subst}
use Rattle.pw_tlvs.specs.declared.field_fault.FieldFault.{FieldFault}
use Rattle.pw_tlvs.specs.SubTlvs.{IsFirstWrong}
use Rattle.pw_tlvs.proofs.WrongLemmas.{lone_first}
use Rattle.pw_tlvs.proofs.sub_tlv.fault_at.Goals as goal

pub returns-then-rest-eq1-clause-first : goal.returns-then-rest-eq1-clause-first
returns-then-rest-eq1-clause-first c = λ before stood.
    subst (λ (f : FieldFault). IsFirstWrong c.args.registry before c.args.rest.now c.args.place.at f) (sym c.lone_fault.ensures)
    (lone_first c.args.registry before c.args.rest.now c.args.place.at c.if-rest-eq1.true)
