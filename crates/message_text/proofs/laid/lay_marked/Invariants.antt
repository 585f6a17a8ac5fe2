use Rattle.std.proofs.Common.{◌≡◌, ◌≤◌, ◌+◌, ◌-◌, ◌*◌, ◌++◌, length, drop}
use Rattle.message_text.proofs.LaidLemmas.{all_marked}
use Rattle.message_text.proofs.laid.lay_marked.Given as goal

abbrev pub invariant-laying : goal.invariant-laying
invariant-laying l = record {
  within : l.left ≤ length l.numbers;
  before : l.begin ≤ l.end;
  space : 11 * l.left ≤ l.begin;
  most : l.end ≤ l.begin + 11 * (length l.numbers - l.left);
  laid : drop l.begin l.room ≡ all_marked l.mark (drop l.left l.numbers) ++ drop l.end l.fn.room;
}

abbrev pub decreases-laying : goal.decreases-laying
decreases-laying l = l.left
