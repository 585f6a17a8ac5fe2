-- Octets that are addresses are these addresses, and one more is read.
use Rattle.std.proofs.Common.{ap, inl, refl, Ok}
use Rattle.pw_tlvs.specs.declared.field_fault.FieldFault.TheVariants.{Size}
use Rattle.pw_tlvs.proofs.MacLemmas.{one_macs, never_macs, macs_more, macs_all}
use Rattle.pw_tlvs.proofs.macs.read_macs.Goals as goal

pub returns-then-value-ne0-clause-read : goal.returns-then-value-ne0-clause-read
returns-then-value-ne0-clause-read c = λ list are. absurd (never_macs c.args.value.now list Size are (record { other = c.if-value-ne0.true; is = refl }))

pub reading-preserved : goal.reading-preserved
reading-preserved c =
    macs_more c.args.value.now c.reading.at c.reading.list c.push.new.self c.mac_at.result c.reading.invariant c.reading-test.true c.if-value-ne0.false c.mac_at.ensures.octets c.mac_at.ensures.whole c.in_ok-push.ensures.ok

pub returns-clause-read : goal.returns-clause-read
returns-clause-read c = λ list are.
    inl (ap Ok (one_macs c.args.value.now c.reading.list list (macs_all c.args.value.now c.reading.at c.reading.list c.reading.invariant c.reading-test.false) are))
