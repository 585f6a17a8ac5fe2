-- Faults of frames and packets as causes of a drop.
use Rattle.net_base.specs.declared.trace.drop_cause.DropCause.{DropCause}
use Rattle.net_base.specs.declared.trace.drop_cause.DropCause.TheVariants as cause
use Rattle.eth_encap.specs.declared.frame_fault.FrameFault.{FrameFault}
use Rattle.eth_encap.specs.declared.frame_fault.FrameFault.TheVariants as fault

-- the cause of the same name
abbrev pub cause_of : FrameFault → DropCause
cause_of fault.Short = cause.Short
cause_of fault.Long = cause.Long
cause_of fault.WrongTag = cause.WrongTag
cause_of fault.NoTag = cause.NoTag
cause_of fault.BadNibble = cause.BadNibble
cause_of fault.NotBottom = cause.NotBottom
cause_of fault.Ttl = cause.Ttl
