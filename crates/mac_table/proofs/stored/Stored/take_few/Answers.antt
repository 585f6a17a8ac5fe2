-- What goes at a place makes no difference to what stays.
use Rattle.std.proofs.Common.{rules, ◌≡◌, ◌<◌, ◌≤◌, ◌+◌, ◌∙◌, List, [], true, false, length, take, get_or, ap, sym, subst, arith}
use Rattle.std.specs.Prelude.{All, filter}
use Rattle.mac_table.specs.declared.mac_entry.MacEntry.{MacEntry}
use Rattle.mac_table.specs.Addresses.{AddressTable, AreDistinctAddresses}
use Rattle.mac_table.specs.Removal.{keeps_entry}
use Rattle.mac_table.proofs.IndexLemmas.{read_at}
use Rattle.mac_table.proofs.RemovalLemmas.{all_stay, filter_removed, front_removed, length_removed}
use Rattle.mac_table.proofs.stored.Stored.take_few.Goals as goal

pub taking-preserved : goal.taking-preserved
taking-preserved c =
    let none : MacEntry = record { address = record { 0 = [] }; port = 0; tick = 0 } in
    let table : AddressTable = c.taking.self in
    let xs = table.entries in
    let at = c.taking.place in
    let keep = keeps_entry c.args.removal in
    let left = c.take_at.ensures in
    let within : at < length xs = search rules in
    let inside = c.self-in-taking.inside.entries.items in
    let under : at < length inside = search rules in
    let is : c.index.result.now ≡ get_or xs at none =
    read_at inside at c.index.result.now none under c.index.ensures ∙ ap (λ (t : AddressTable). get_or t.entries at none) c.self-in-taking.view_is in
    let goes : keep (get_or xs at none) ≡ false = subst (λ (e : MacEntry). keep e ≡ false) is (search rules) in
    let shorter : length c.take_at.new.self.entries + 1 ≡ length xs = ap (λ (t : AddressTable). length t.entries + 1) left ∙ length_removed xs at within in (
      omega (arith, shorter, within),
      ap (λ (t : AddressTable). record t { entries = filter keep t.entries }) left
          ∙ (ap (λ (l : List MacEntry). record table { entries = l }) (filter_removed keep xs at none within goes) ∙ c.taking.invariant.1),
      subst (λ (t : AddressTable). All (λ (e : MacEntry). keep e ≡ true) (take at t.entries)) (sym left)
          (subst (All (λ (e : MacEntry). keep e ≡ true)) (sym (front_removed xs at within)) c.taking.invariant.2),
    )

pub returns-clause-all : goal.returns-clause-all
returns-clause-all c =
    let table : AddressTable = c.taking.self in
    let past : length table.entries ≤ c.taking.place = search rules in
    λ done. ap (λ (l : List MacEntry). record table { entries = l }) (sym (all_stay (keeps_entry c.args.removal) table.entries c.taking.place past c.taking.invariant.2)) ∙ c.taking.invariant.1

pub returns-clause-distinct : goal.returns-clause-distinct
returns-clause-distinct c = subst (λ (t : AddressTable). AreDistinctAddresses t.entries) c.self-in-taking.view_is c.self-in-taking.invariant.0.distinct
