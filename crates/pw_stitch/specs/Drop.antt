-- Why a packet is not passed on, as the cause of a drop.
use Rattle.net_base.specs.declared.trace.drop_cause.DropCause.{DropCause}
use Rattle.net_base.specs.declared.trace.drop_cause.DropCause.TheVariants as cause
use Rattle.pw_stitch.specs.declared.swap_drop.SwapDrop.{SwapDrop}
use Rattle.pw_stitch.specs.declared.swap_drop.SwapDrop.TheVariants as why

-- the cause of the same name
abbrev pub dropped_for : SwapDrop → DropCause
dropped_for why.NoBinding = cause.NoBinding
dropped_for why.Expired = cause.Expired
