-- Faults of echo packets as causes of a drop.
use Rattle.net_base.specs.declared.trace.drop_cause.DropCause.{DropCause}
use Rattle.net_base.specs.declared.trace.drop_cause.DropCause.TheVariants as cause
use Rattle.vccv_channel.specs.declared.vccv_fault.VccvFault.{VccvFault}
use Rattle.vccv_channel.specs.declared.vccv_fault.VccvFault.TheVariants as fault

-- the cause of the same name
abbrev pub vccv_cause_of : VccvFault → DropCause
vccv_cause_of fault.Version = cause.Version
vccv_cause_of fault.Channel = cause.Channel
vccv_cause_of fault.Ip = cause.Ip
vccv_cause_of fault.Checksum = cause.Checksum
vccv_cause_of fault.Icmp = cause.Icmp
vccv_cause_of fault.NotOffered = cause.NotOffered
