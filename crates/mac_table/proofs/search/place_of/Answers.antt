-- The map has what the list has.
use Rattle.std.proofs.Common.{rules}
use Rattle.mac_table.proofs.IndexLemmas.{index_whole, place_some, place_none}
use Rattle.mac_table.proofs.search.place_of.Goals as goal

pub returns-in-Some : goal.returns-in-Some
returns-in-Some c = place_some c.args.address c.args.entries.now c.args.index.now.entries c.in-Some.place (index_whole _ _ c.requires (search rules)) (search rules)

pub returns-in-None : goal.returns-in-None
returns-in-None c = place_none c.args.address c.args.entries.now c.args.index.now.entries (index_whole _ _ c.requires (search rules)) (search rules)
