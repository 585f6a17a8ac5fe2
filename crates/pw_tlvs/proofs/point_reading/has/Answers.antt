-- What a point says tells whether a part of its type stood before.
use Rattle.std.proofs.Common.{◌∙◌, ap, ℕ, List}
use Rattle.std.specs.Prelude.{is_some}
use Rattle.byteorder.specs.Endian.{big_number}
use Rattle.pw_tlvs.specs.declared.registry.Registry.TheVariants.{SwitchingPointPart}
use Rattle.pw_tlvs.specs.Point.{address_of}
use Rattle.pw_tlvs.specs.SubTlvs.{said}
use Rattle.pw_tlvs.proofs.FoundLemmas.{stood_by, is_some_map}
use Rattle.pw_tlvs.proofs.point_reading.has.Goals as goal

pub returns-in-1 : goal.returns-in-1
returns-in-1 c = λ subs says.
    stood_by SwitchingPointPart 0x01 c.args.kind subs c.is_some.result c.in-1.is (c.is_some.ensures ∙ (ap is_some says.pw_id ∙ is_some_map (λ (value : List ℕ). big_number 4 value) (said 0x01 subs)))

pub returns-in-3 : goal.returns-in-3
returns-in-3 c = λ subs says. stood_by SwitchingPointPart 0x03 c.args.kind subs c.is_some-in-3.result c.in-3.is
    (c.is_some-in-3.ensures ∙ (ap is_some says.local ∙ is_some_map address_of (said 0x03 subs)))

pub returns-in-4 : goal.returns-in-4
returns-in-4 c = λ subs says. stood_by SwitchingPointPart 0x04 c.args.kind subs c.is_some-in-4.result c.in-4.is
    (c.is_some-in-4.ensures ∙ (ap is_some says.remote ∙ is_some_map address_of (said 0x04 subs)))
