use Rattle.std.proofs.Common.{sym, arith}
use Rattle.provider_edge.proofs.SessionsLemmas.{counted_at, later_none}
use Rattle.provider_edge.proofs.sessions.pass_all.Goals as goal

pub returns-then-ticks-eq0 : goal.returns-then-ticks-eq0
returns-then-ticks-eq0 c = rw c.if-ticks-eq0.true (sym (later_none c.args.kept.now.items))

pub pass_one-requires : goal.pass_one-requires
pass_one-requires c =
    counted_at c.args.ticks c.args.kept.now.items c.loop-one.one-items c.loop-one.one-index c.one-item.result c.requires c.loop-one.invariant
    (omega (arith, c.loop-one-test.true, c.loop-one.auto.one-index-end, c.loop-one.auto.one-items, c.deref_mut-one-items.ensures.len))
