use Rattle.std.proofs.Common.{subst, sym}
use Rattle.migration.proofs.rows.rows.Goals as goal

pub push_row-requires : goal.push_row-requires
push_row-requires g c = subst g.T.PlanRow.is_sayable (sym c.item-item.is) (c.requires c.loop-item.item-index c.item-item.result c.loop-item-test.true)
