-- Lines that speak of what is in a plan.
use Rattle.std.specs.Prelude.{◌<◌, length}
use Rattle.net_base.specs.declared.plan.Plan.{Plan}
use Rattle.switchover_model.specs.declared.switch_line.SwitchLine.{SwitchLine}
use Rattle.switchover_model.specs.declared.switch_line.SwitchLine.TheVariants.{Connect, Cut, Deliver, Settle, Set}

-- the edges and the wire that a line names are of the plan
abbrev pub IsLineOf : Plan → SwitchLine → Type 0
IsLineOf plan (Connect a b) = (a.0 < length plan.edges) × (b.0 < length plan.edges)
IsLineOf plan (Cut a b) = (a.0 < length plan.edges) × (b.0 < length plan.edges)
IsLineOf plan (Deliver from to count) = (from.0 < length plan.edges) × (to.0 < length plan.edges)
IsLineOf plan (Settle count) = Unit {0}
IsLineOf plan (Set me wire wish) = (me.0 < length plan.edges) × (wire.0 < length plan.wires)
