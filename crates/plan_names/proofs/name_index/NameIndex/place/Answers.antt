-- A place is one of the list.
use Rattle.std.proofs.Common.{◌<◌, ℕ, Option, IfSome, length, subst, sym}
use Rattle.plan_names.proofs.NameLemmas.{place_within}
use Rattle.plan_names.proofs.name_index.NameIndex.place.Goals as goal

pub returns-clause-within : goal.returns-clause-within
returns-clause-within c = subst (λ (o : Option ℕ). IfSome o (λ place. place < length c.args.self.now)) (sym c.first_place.ensures) (place_within c.args.self.now c.args.name.now)
