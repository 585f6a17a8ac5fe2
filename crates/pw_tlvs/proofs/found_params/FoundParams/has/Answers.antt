-- What was found says whether a parameter of its type stood before.
use Rattle.std.proofs.Common.{◌∙◌, ap, ℕ, List}
use Rattle.std.specs.Prelude.{is_some}
use Rattle.byteorder.specs.Endian.{big_number}
use Rattle.pw_tlvs.specs.declared.registry.Registry.TheVariants.{InterfaceParameter}
use Rattle.pw_tlvs.specs.Fec.{vccv_of}
use Rattle.pw_tlvs.specs.SubTlvs.{said}
use Rattle.pw_tlvs.proofs.FoundLemmas.{stood_by, is_some_map}
use Rattle.pw_tlvs.proofs.found_params.FoundParams.has.Goals as goal

pub returns-in-1 : goal.returns-in-1
returns-in-1 c = λ subs says.
    stood_by InterfaceParameter 0x01 c.args.kind subs c.is_some.result c.in-1.is (c.is_some.ensures ∙ (ap is_some says.mtu ∙ is_some_map (λ (value : List ℕ). big_number 2 value) (said 0x01 subs)))

pub returns-in-3 : goal.returns-in-3
returns-in-3 c = λ subs says. stood_by InterfaceParameter 0x03 c.args.kind subs c.is_some-in-3.result c.in-3.is (c.is_some-in-3.ensures ∙ ap is_some says.description)

pub returns-in-6 : goal.returns-in-6
returns-in-6 c = λ subs says.
    stood_by InterfaceParameter 0x06 c.args.kind subs c.is_some-in-6.result c.in-6.is
    (c.is_some-in-6.ensures ∙ (ap is_some says.vlan ∙ is_some_map (λ (value : List ℕ). big_number 2 value) (said 0x06 subs)))

pub returns-in-12 : goal.returns-in-12
returns-in-12 c = λ subs says. stood_by InterfaceParameter 0x0C c.args.kind subs c.is_some-in-12.result c.in-12.is
    (c.is_some-in-12.ensures ∙ (ap is_some says.vccv ∙ is_some_map vccv_of (said 0x0C subs)))
