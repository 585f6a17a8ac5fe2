-- Where all that is held would be later, nothing is.
use Rattle.std.proofs.Common.{◌∙◌, ap, sym, arith}
use Rattle.mac_table.specs.{Addresses.{AddressTable}, Stored.{held}}
use Rattle.mac_table.proofs.StoredLemmas.{none_held}
use Rattle.mac_table.proofs.way.begin_at.Goals as goal

pub returns-then-now-since-clause-held : goal.returns-then-now-since-clause-held
returns-then-now-since-clause-held c =
    ap (λ (t : AddressTable). held 0 t.entries) c.clear.ensures ∙ sym (none_held c.args.since c.args.now c.args.stored.now.entries c.requires (omega (arith, c.if-now-since.true)))
