-- The value so far, and then the other digits.
use Rattle.std.proofs.Common.{◌≡◌, ◌≤◌, drop}
use Rattle.plan_names.specs.Decimal.{value_from}
use Rattle.plan_names.proofs.decimals.value_of.Given as goal

abbrev pub invariant-loop-octet : goal.invariant-loop-octet
invariant-loop-octet l = (value_from l.value (drop l.octet-index l.text) ≡ value_from 0 l.text) × (l.value ≤ l.limit)
