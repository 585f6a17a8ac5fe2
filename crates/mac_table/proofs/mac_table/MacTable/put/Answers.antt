-- What is stored is ready for the address, which comes to what is held.
use Rattle.std.proofs.Common.{◌≡◌, ◌≤◌, ◌∙◌, ℕ, subst, sym}
use Rattle.std.proofs.Math.Nat.{min-le_left, min-le_right}
use Rattle.mac_table.specs.{Addresses.{AddressTable}, Stored.{held_table, is_held}}
use Rattle.mac_table.proofs.{AddressLemmas.{distinct-filter}, StoredLemmas.{held_learned, held_same, held_within, oldest_learned}}
use Rattle.mac_table.proofs.mac_table.MacTable.put.Goals as goal

pub invariant_of-self : goal.invariant_of-self
invariant_of-self c =
    let oldest = c.make_way-self-inside.result in
    let tick = c.args.entry.tick in (
      oldest_learned oldest c.min-self-inside.result c.make_way-self-inside.new.stored c.put.new.self c.args.entry c.make_way-self-inside.ensures.aged c.put.ensures.entries
          (subst (λ (n : ℕ). n ≤ oldest) (sym c.min-self-inside.ensures) (min-le_left oldest tick))
          (subst (λ (n : ℕ). n ≤ tick) (sym c.min-self-inside.ensures) (min-le_right oldest tick)),
      c.self.invariant.1,
    )

pub returns-clause-entries : goal.returns-clause-entries
returns-clause-entries c =
    let stored : AddressTable = c.make_way-self-inside.new.stored in
    let same : held_table c.begin_at-self-inside.result stored ≡ c.args.self.now =
    held_same c.self.inside.since c.begin_at-self-inside.result c.self.inside.stored stored c.args.self.now (c.make_way-self-inside.ensures.held ∙ c.begin_at-self-inside.ensures.held)
    (c.make_way-self-inside.ensures.capacity ∙ c.begin_at-self-inside.ensures.capacity) c.self.view_is in
    held_learned c.begin_at-self-inside.result stored c.put.new.self c.args.self.now c.args.entry c.put.ensures.entries c.put.ensures.stood c.begin_at-self-inside.ensures.before
    c.make_way-self-inside.ensures.ready same

pub returns-clause-within : goal.returns-clause-within
returns-clause-within c =
    let stored : AddressTable = c.make_way-self-inside.new.stored in
    let same : held_table c.begin_at-self-inside.result stored ≡ c.args.self.now =
    held_same c.self.inside.since c.begin_at-self-inside.result c.self.inside.stored stored c.args.self.now (c.make_way-self-inside.ensures.held ∙ c.begin_at-self-inside.ensures.held)
    (c.make_way-self-inside.ensures.capacity ∙ c.begin_at-self-inside.ensures.capacity) c.self.view_is in
    held_within c.begin_at-self-inside.result stored c.args.self.now c.put.ensures.within same

pub returns-clause-distinct : goal.returns-clause-distinct
returns-clause-distinct c = distinct-filter (is_held c.begin_at-self-inside.result) c.put.new.self.entries c.put.ensures.distinct
