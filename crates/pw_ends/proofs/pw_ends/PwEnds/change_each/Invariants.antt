-- The ends up to the slot are changed, where they are meant, and the numbers of the labels that they have left wait.
use Rattle.std.proofs.Common.{◌≡◌, ◌++◌, length, take, drop}
use Rattle.pw_ends.specs.Changes.{changed, changed_each, keeps_meant}
use Rattle.pw_ends.specs.Kept.{AreApart}
use Rattle.pw_ends.proofs.pw_ends.PwEnds.change_each.Given as goal

abbrev pub invariant-loop-slot : goal.invariant-loop-slot
invariant-loop-slot l = record {
  places : l.self.places ≡ l.fn.self.places;
  apart : AreApart l.self.places;
  next : l.self.labels.next ≡ l.fn.self.labels.next;
  count : length l.self.ends ≡ length l.self.places;
  begun : length l.fn.self.ends ≡ length l.fn.self.places;
  kept : keeps_meant l.which (changed l.change) (drop l.slot l.self.places) (drop l.slot l.self.ends) l.self.labels.kept
      ≡ keeps_meant l.which (changed l.change) l.fn.self.places l.fn.self.ends l.fn.self.labels.kept;
  rest : take l.slot l.self.ends ++ changed_each l.which (changed l.change) (drop l.slot l.self.places) (drop l.slot l.self.ends)
      ≡ changed_each l.which (changed l.change) l.fn.self.places l.fn.self.ends;
}
