-- All that is stored is held.
use Rattle.std.proofs.Common.{◌≡◌, ◌⊎◌, List, [], subst, arith}
use Rattle.mac_table.specs.declared.mac_entry.MacEntry.{MacEntry}
use Rattle.mac_table.specs.Index.{address_pairs}
use Rattle.mac_table.proofs.StoredLemmas.{all_table}
use Rattle.mac_table.proofs.mac_table.MacTable.map.Goals as goal

pub returns-then-self : goal.returns-then-self
returns-then-self c =
    subst (λ (l : List MacEntry). c.map.result.now.entries ≡ address_pairs l ⊎ c.map.result.now.entries ≡ [])
    (all_table c.self.inside.since c.self.inside.oldest c.self.inside.stored c.args.self.now c.self.invariant.0 (omega (arith, c.if-self.true)) c.self.view_is) c.map.ensures
