-- What is young is what is held since a later tick, and where none is earlier all is young.
use Rattle.std.proofs.Common.{◌≡◌, ◌<◌, ◌≤◌, ◌∙◌, ℕ, refl, ap, subst, sym, arith}
use Rattle.std.specs.Prelude.{filter}
use Rattle.mac_table.specs.{Addresses.{AddressTable, is_young}, Stored.{held, is_held, young_since}}
use Rattle.mac_table.proofs.{AddressLemmas.{distinct-filter, none_after_filtered}, StoredLemmas.{aged_all, aged_none, aged_oldest, aged_since, held_distinct, held_rest}}
use Rattle.mac_table.proofs.mac_table.MacTable.age.Goals.{else-since-self-via-then-since-self+else-since-self-2, else-since-self-via-else-since-self}
use Rattle.mac_table.proofs.mac_table.MacTable.age.Goals as goal

pub returns-then-limit-eq0-clause-entries : goal.returns-then-limit-eq0-clause-entries
returns-then-limit-eq0-clause-entries c =
    held_rest (is_young c.args.now c.args.limit) c.self.inside.since c.self.inside.since c.self.inside.stored c.clear.new.self c.args.self.now
    (ap (λ (t : AddressTable). held c.self.inside.since t.entries) c.clear.ensures
    ∙ aged_all c.self.inside.since c.args.now c.args.limit c.self.inside.stored.entries (omega (arith, c.if-limit-eq0.true)))
    (ap (λ (t : AddressTable). t.capacity) c.clear.ensures) c.self.view_is

pub returns-then-since-self-2-clause-entries : goal.returns-then-since-self-2-clause-entries
returns-then-since-self-2-clause-entries c =
    let later : c.self.inside.since ≤ young_since c.args.now c.args.limit =
    subst (λ (n : ℕ). c.self.inside.since ≤ n) c.young_since-since.ensures (omega (arith, c.if-since-self.true)) in
    held_rest (is_young c.args.now c.args.limit) c.self.inside.since c.young_since-since.result c.self.inside.stored c.self.inside.stored c.args.self.now
    (ap (λ (n : ℕ). held n c.self.inside.stored.entries) c.young_since-since.ensures
    ∙ aged_since c.self.inside.since c.args.now c.args.limit c.self.inside.stored.entries (omega (arith, c.if-limit-eq0.false)) later) refl c.self.view_is

pub returns-then-since-self-2-clause-ticks : goal.returns-then-since-self-2-clause-ticks
returns-then-since-self-2-clause-ticks c =
    none_after_filtered (is_young c.args.now c.args.limit) c.args.now c.args.self.now.entries (held c.young_since-since.result c.self.inside.stored.entries) c.requires
    (ap (λ (t : AddressTable). t.entries) (returns-then-since-self-2-clause-entries c))

pub returns-then-since-self-2-clause-distinct : goal.returns-then-since-self-2-clause-distinct
returns-then-since-self-2-clause-distinct c = distinct-filter (is_held c.young_since-since.result) c.self.inside.stored.entries c.len-stored.ensures.distinct

pub returns-else-since-self-clause-entries : goal.returns-else-since-self-clause-entries
returns-else-since-self-clause-entries c =
    let xs = c.self.inside.stored.entries in
    let some : 0 < c.args.limit = omega (arith, c.if-limit-eq0.false) in
    let all : held c.self.inside.since xs ≡ filter (is_young c.args.now c.args.limit) (held c.self.inside.since xs) =
    elim c.else-since-self.branch [
      | else-since-self-via-then-since-self+else-since-self-2 w ↦ aged_oldest c.self.inside.since c.self.inside.oldest c.args.now c.args.limit xs c.self.invariant.0 some
          (subst (λ (n : ℕ). n ≤ c.self.inside.oldest) c.young_since-since.ensures (omega (arith, w.if-since-self-2.false)))
      | else-since-self-via-else-since-self w ↦ aged_none c.self.inside.since c.args.now c.args.limit xs some
          (subst (λ (n : ℕ). n ≤ c.self.inside.since) c.young_since-since.ensures (omega (arith, w.if-since-self.false)))
    ] in
    sym c.self.view_is ∙ held_rest (is_young c.args.now c.args.limit) c.self.inside.since c.self.inside.since c.self.inside.stored c.self.inside.stored c.args.self.now all refl c.self.view_is

pub returns-else-since-self-clause-distinct : goal.returns-else-since-self-clause-distinct
returns-else-since-self-clause-distinct c = held_distinct c.self.inside.since c.self.inside.stored c.args.self.now c.len-stored.ensures.distinct c.self.view_is
