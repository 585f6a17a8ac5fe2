-- A value that is above the limit stays there.
use Rattle.std.proofs.Common.{refl}
use Rattle.plan_names.proofs.DecimalLemmas.{too_large_at}
use Rattle.plan_names.proofs.decimals.value_of.Goals as goal

pub returns-then-next-limit : goal.returns-then-next-limit
returns-then-next-limit c =
    rw (too_large_at c.loop-octet.value c.args.limit _ c.loop-octet.octet-index c.args.text.now c.loop-octet-test.true c.loop-octet.invariant.0 refl c.if-next-limit.true) refl
