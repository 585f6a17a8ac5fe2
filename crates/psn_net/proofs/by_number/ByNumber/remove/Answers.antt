use Rattle.std.proofs.Common.{◌++◌, ◌∙◌, None, ap, cond, subst, sym}
use Rattle.std.specs.BTreeMap.{is_at}
use Rattle.std.specs.Map.{remove_entry}
use Rattle.std.specs.Ordering.{nat_cmp}
use Rattle.numbered_row.specs.Places.{Places, placed_from}
use Rattle.psn_net.specs.declared.carried.Carried.{Carried}
use Rattle.psn_net.specs.ByNumber.{AreByNumber, Numbered}
use Rattle.psn_net.specs.Packets.{kept_under}
use Rattle.psn_net.proofs.ByNumberLemmas.{are_removed, kept_in, kept_out, not_taken, removed_behind, taken_at}
use Rattle.psn_net.proofs.by_number.ByNumber.remove.Goals as goal

pub invariant_of-self : goal.invariant_of-self
invariant_of-self c =
    let found = c.in-Some.ensures in
    (taken_at c.args.number c.in-Some.carried c.self.inside.row c.take.new.self c.self.inside.held c.self.inside.last c.self.inside.rest.entries c.self.invariant found.value found.left found.places found.end).are

pub invariant_of-self-in-None : goal.invariant_of-self-in-None
invariant_of-self-in-None c =
    let found = c.in-None.ensures in
    let same = not_taken c.args.number c.self.inside.row c.take.new.self c.self.inside.held c.self.inside.last c.self.inside.rest.entries c.self.invariant found.value found.places found.none found.end in
    are_removed c.args.number c.take.new.self c.self.inside.held c.self.inside.last c.self.inside.rest.entries c.remove.new.self.entries
    (subst (λ (r : Places Carried). AreByNumber r c.self.inside.held c.self.inside.rest.entries c.self.inside.last) (sym same) c.self.invariant) c.remove.ensures.entries

pub returns-in-Some-clause-value : goal.returns-in-Some-clause-value
returns-in-Some-clause-value c =
    let row = c.self.inside.row in
    kept_in c.args.number row.first row.places c.self.inside.rest.entries c.in-Some.carried c.in-Some.ensures.value ∙ ap (λ (v : Numbered). kept_under c.args.number v.entries) c.self.view_is

pub returns-in-Some-clause-updates : goal.returns-in-Some-clause-updates
returns-in-Some-clause-updates c =
    let found = c.in-Some.ensures in
    let taken = taken_at c.args.number c.in-Some.carried c.self.inside.row c.take.new.self c.self.inside.held c.self.inside.last c.self.inside.rest.entries c.self.invariant found.value found.left found.places found.end in
    λ m. taken.updates m ∙ ap (λ (v : Numbered). cond (is_at (nat_cmp c.args.number) m) None (kept_under m v.entries)) c.self.view_is

pub returns-in-Some-clause-entries : goal.returns-in-Some-clause-entries
returns-in-Some-clause-entries c =
    let found = c.in-Some.ensures in
    let taken = taken_at c.args.number c.in-Some.carried c.self.inside.row c.take.new.self c.self.inside.held c.self.inside.last c.self.inside.rest.entries c.self.invariant found.value found.left found.places found.end in
    taken.entries ∙ ap (λ (v : Numbered). remove_entry (is_at (nat_cmp c.args.number)) v.entries) c.self.view_is

pub returns-in-None-clause-value : goal.returns-in-None-clause-value
returns-in-None-clause-value c =
    let row = c.self.inside.row in
    c.remove.ensures.value ∙ (kept_out c.args.number row.first row.places c.self.inside.rest.entries c.in-None.ensures.value ∙ ap (λ (v : Numbered). kept_under c.args.number v.entries) c.self.view_is)

pub returns-in-None-clause-updates : goal.returns-in-None-clause-updates
returns-in-None-clause-updates c =
    let row = c.self.inside.row in
    let found = c.in-None.ensures in
    let same = not_taken c.args.number row c.take.new.self c.self.inside.held c.self.inside.last c.self.inside.rest.entries c.self.invariant found.value found.places found.none found.end in
    let behind = removed_behind c.args.number row.first row.places c.self.inside.rest.entries c.remove.new.self.entries found.value c.remove.ensures.entries c.remove.ensures.updates.0 in
    λ m. ap (λ (r : Places Carried). kept_under m (placed_from r.first r.places ++ c.remove.new.self.entries)) same
    ∙ (behind.1 m ∙ ap (λ (v : Numbered). cond (is_at (nat_cmp c.args.number) m) None (kept_under m v.entries)) c.self.view_is)

pub returns-in-None-clause-entries : goal.returns-in-None-clause-entries
returns-in-None-clause-entries c =
    let row = c.self.inside.row in
    let found = c.in-None.ensures in
    let same = not_taken c.args.number row c.take.new.self c.self.inside.held c.self.inside.last c.self.inside.rest.entries c.self.invariant found.value found.places found.none found.end in
    let behind = removed_behind c.args.number row.first row.places c.self.inside.rest.entries c.remove.new.self.entries found.value c.remove.ensures.entries c.remove.ensures.updates.0 in
    ap (λ (r : Places Carried). placed_from r.first r.places ++ c.remove.new.self.entries) same ∙ (behind.0 ∙ ap (λ (v : Numbered). remove_entry (is_at (nat_cmp c.args.number)) v.entries) c.self.view_is)
