-- The words found so far stand before those of the rest.
use Rattle.std.proofs.Common.{◌≡◌, ◌≤◌, ◌-◌, ◌++◌, length, map, take}
use Rattle.script_text.specs.Script.{words_of}
use Rattle.report_entries.proofs.cut.first_words.Given as goal

abbrev pub invariant-cutting : goal.invariant-cutting
invariant-cutting l = (map (λ w. w.now) (take l.count l.room) ++ take (l.most - l.count) (words_of l.rest) ≡ take l.most (words_of l.line)) × (l.count ≤ l.most) × (length l.room ≡ l.most)

abbrev pub decreases-cutting : goal.decreases-cutting
decreases-cutting l = l.most - l.count
