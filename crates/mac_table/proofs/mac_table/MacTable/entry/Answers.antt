-- All that is stored is held.
use Rattle.std.proofs.Common.{◌≡◌, ◌∙◌, List, ap, subst, arith}
use Rattle.std.specs.Prelude.{slice_get}
use Rattle.mac_table.specs.declared.mac_entry.MacEntry.{MacEntry}
use Rattle.mac_table.proofs.StoredLemmas.{all_table}
use Rattle.mac_table.proofs.mac_table.MacTable.entry.Goals as goal

pub returns-then-self : goal.returns-then-self
returns-then-self c =
    subst (λ (l : List MacEntry). c.entry_at.result ≡ slice_get l c.args.index)
    (all_table c.self.inside.since c.self.inside.oldest c.self.inside.stored c.args.self.now c.self.invariant.0 (omega (arith, c.if-self.true)) c.self.view_is)
    (c.entry_at.ensures ∙ ap (λ (l : List MacEntry). slice_get l c.args.index) c.as_slice.ensures.items)
