-- The values are the front of the items.
use Rattle.std.proofs.Common.{◌≤◌, arith}
use Rattle.line_shapes.proofs.ValueLemmas.{value_past, value_take}
use Rattle.line_shapes.proofs.values.Values.at.Goals as goal

pub returns-then-place-self : goal.returns-then-place-self
returns-then-place-self c = cc (value_take c.self.inside.items c.self.inside.len c.args.place c.if-place-self.true, c.self.view_is)

pub returns-else-place-self : goal.returns-else-place-self
returns-else-place-self c =
    let past : c.self.inside.len ≤ c.args.place = omega (arith, c.if-place-self.false) in
    cc (value_past c.self.inside.items c.self.inside.len c.args.place past, c.self.view_is)
