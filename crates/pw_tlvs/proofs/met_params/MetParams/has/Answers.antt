-- What was met says whether a parameter of its type stood before.
use Rattle.pw_tlvs.specs.declared.registry.Registry.TheVariants.{InterfaceParameter}
use Rattle.pw_tlvs.proofs.FoundLemmas.{stood_by}
use Rattle.pw_tlvs.proofs.met_params.MetParams.has.Goals as goal

pub returns-in-1 : goal.returns-in-1
returns-in-1 c = λ subs says. stood_by InterfaceParameter 0x01 c.args.kind subs c.args.self.mtu c.in-1.is says.mtu

pub returns-in-3 : goal.returns-in-3
returns-in-3 c = λ subs says. stood_by InterfaceParameter 0x03 c.args.kind subs c.args.self.description c.in-3.is says.description

pub returns-in-6 : goal.returns-in-6
returns-in-6 c = λ subs says. stood_by InterfaceParameter 0x06 c.args.kind subs c.args.self.vlan c.in-6.is says.vlan

pub returns-in-12 : goal.returns-in-12
returns-in-12 c = λ subs says. stood_by InterfaceParameter 0x0C c.args.kind subs c.args.self.vccv c.in-12.is says.vccv
