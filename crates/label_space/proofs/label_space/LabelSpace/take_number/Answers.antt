-- The next number was not given yet; one that is taken of the kept ones is owned by none.
use Rattle.std.proofs.Common.{rules, ◌≡◌, ◌<◌, ◌∙◌, ap, Some}
use Rattle.label_space.specs.Labels.{LabelNumbers, owner_of, with_number_taken}
use Rattle.label_space.specs.Kept.{kept_at}
use Rattle.label_space.proofs.HeldLemmas.{held_next, held_without, taken_next, taken_out, taken_unowned}
use Rattle.label_space.proofs.LabelLemmas.{owner_of-above, unkept_next}
use Rattle.label_space.proofs.label_space.LabelSpace.take_number.Goals as goal

pub invariant_of-self : goal.invariant_of-self
invariant_of-self c = (held_without _ _ _ _ c.self.inside.kept _ c.take_least.result c.self.invariant.0 c.take_least.ensures.rest, c.self.invariant.1)

pub returns-in_default-clause-unowned : goal.returns-in_default-clause-unowned
returns-in_default-clause-unowned c = taken_unowned _ _ _ _ c.self.inside.kept c.take_least.result c.self.invariant.0 c.take_least.ensures.free

pub returns-in_default-clause-unkept : goal.returns-in_default-clause-unkept
returns-in_default-clause-unkept c = taken_out c.self.inside.kept c.take_least.new.self c.take_least.result c.take_least.ensures.rest c.take_least.ensures.free

pub invariant_of-self-2 : goal.invariant_of-self-2
invariant_of-self-2 c =
    let less : c.self.inside.next < 1048576 = search rules in
    (held_next _ _ _ _ _ c.self.invariant.0 less, c.self.invariant.1)

pub returns-clause-space : goal.returns-clause-space
returns-clause-space c =
    let space : LabelNumbers = record { next = c.self.inside.next; room = c.self.inside.room; owners = c.self.inside.owners.items; kept = c.self.inside.kept } in
    let less : c.self.inside.next < 1048576 = search rules in
    let is : c.in-Some.label ≡ c.self.inside.next = search rules in
    taken_next space c.in-Some.label less is c.self.invariant.0.left ∙ ap (with_number_taken (Some c.in-Some.label)) c.self.view_is

pub returns-clause-unowned : goal.returns-clause-unowned
returns-clause-unowned c =
    let is : c.in-Some.label ≡ c.self.inside.next = search rules in
    ap (λ l. owner_of l c.self.inside.owners.items) is ∙ owner_of-above c.self.inside.next c.self.inside.owners.items c.self.invariant.0.given

pub returns-clause-unkept : goal.returns-clause-unkept
returns-clause-unkept c =
    let is : c.in-Some.label ≡ c.self.inside.next = search rules in
    ap (λ l. kept_at l c.self.inside.kept) is ∙ unkept_next c.self.inside.next c.self.inside.owners.items c.self.inside.kept c.self.invariant.0.left
