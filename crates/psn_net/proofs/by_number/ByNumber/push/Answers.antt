use Rattle.std.proofs.Common.{◌≡◌, ◌+◌, ◌++◌, ◌∙◌, Some, ℕ, ap, cond, subst}
use Rattle.std.specs.BTreeMap.{insert_entry, is_at}
use Rattle.std.specs.Ordering.{nat_cmp}
use Rattle.numbered_row.specs.Places.{placed_from}
use Rattle.psn_net.specs.ByNumber.{Numbered}
use Rattle.psn_net.specs.Packets.{kept_under}
use Rattle.psn_net.proofs.ByNumberLemmas.{added_all, added_behind, added_place, low_all}
use Rattle.psn_net.proofs.by_number.ByNumber.push.Goals as goal

pub invariant_of-self-then-takes_next : goal.invariant_of-self-then-takes_next
invariant_of-self-then-takes_next c =
    let pushed = c.in_ok-push.ensures in
    (added_place c.self.inside.row c.push.new.self c.self.inside.held c.self.inside.last c.self.inside.rest.entries c.args.carried c.self.invariant (c.is_empty.ensures.0 c.if-is_empty.true) pushed.next pushed.same pushed.places pushed.few).1

pub returns-then-takes_next-clause-updates : goal.returns-then-takes_next-clause-updates
returns-then-takes_next-clause-updates c =
    let row = c.self.inside.row in
    let new = c.push.new.self in
    let rest = c.self.inside.rest.entries in
    let pushed = c.in_ok-push.ensures in
    let added = added_place row new c.self.inside.held c.self.inside.last rest c.args.carried c.self.invariant (c.is_empty.ensures.0 c.if-is_empty.true) pushed.next pushed.same pushed.places pushed.few in
    subst (λ (v : Numbered). (m : ℕ) → kept_under m (placed_from new.first new.places ++ rest) ≡ cond (is_at (nat_cmp (v.last + 1)) m) (Some c.args.carried) (kept_under m v.entries)) c.self.view_is
    (added_all c.self.inside.last c.args.carried (placed_from row.first row.places ++ rest) (placed_from new.first new.places ++ rest)
    (low_all row.first c.self.inside.last row.places rest c.self.invariant.fits c.self.invariant.behind) added.0).1

pub returns-then-takes_next-clause-entries : goal.returns-then-takes_next-clause-entries
returns-then-takes_next-clause-entries c =
    let row = c.self.inside.row in
    let new = c.push.new.self in
    let rest = c.self.inside.rest.entries in
    let pushed = c.in_ok-push.ensures in
    let added = added_place row new c.self.inside.held c.self.inside.last rest c.args.carried c.self.invariant (c.is_empty.ensures.0 c.if-is_empty.true) pushed.next pushed.same pushed.places pushed.few in
    (added_all c.self.inside.last c.args.carried (placed_from row.first row.places ++ rest) (placed_from new.first new.places ++ rest)
    (low_all row.first c.self.inside.last row.places rest c.self.invariant.fits c.self.invariant.behind) added.0).0
    ∙ ap (λ (v : Numbered). insert_entry nat_cmp v.entries (v.last + 1) c.args.carried) c.self.view_is

pub invariant_of-self-2 : goal.invariant_of-self-2
invariant_of-self-2 c = (added_behind c.self.inside.row c.self.inside.held c.self.inside.last c.self.inside.rest.entries c.insert.new.self.entries c.args.carried c.self.invariant c.in_ok-insert.ensures.entries).1

pub returns-clause-updates : goal.returns-clause-updates
returns-clause-updates c =
    let row = c.self.inside.row in
    let now = c.insert.new.self.entries in
    let added = added_behind row c.self.inside.held c.self.inside.last c.self.inside.rest.entries now c.args.carried c.self.invariant c.in_ok-insert.ensures.entries in
    subst (λ (v : Numbered). (m : ℕ) → kept_under m (placed_from row.first row.places ++ now) ≡ cond (is_at (nat_cmp (v.last + 1)) m) (Some c.args.carried) (kept_under m v.entries)) c.self.view_is
    (added_all c.self.inside.last c.args.carried (placed_from row.first row.places ++ c.self.inside.rest.entries) (placed_from row.first row.places ++ now)
    (low_all row.first c.self.inside.last row.places c.self.inside.rest.entries c.self.invariant.fits c.self.invariant.behind) added.0).1

pub returns-clause-entries : goal.returns-clause-entries
returns-clause-entries c =
    let row = c.self.inside.row in
    let now = c.insert.new.self.entries in
    let added = added_behind row c.self.inside.held c.self.inside.last c.self.inside.rest.entries now c.args.carried c.self.invariant c.in_ok-insert.ensures.entries in
    (added_all c.self.inside.last c.args.carried (placed_from row.first row.places ++ c.self.inside.rest.entries) (placed_from row.first row.places ++ now)
    (low_all row.first c.self.inside.last row.places c.self.inside.rest.entries c.self.invariant.fits c.self.invariant.behind) added.0).0
    ∙ ap (λ (v : Numbered). insert_entry nat_cmp v.entries (v.last + 1) c.args.carried) c.self.view_is
