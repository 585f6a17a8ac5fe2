-- The map gives the name's first place.
use Rattle.std.proofs.Common.{◌∙◌, [], Some, None}
use Rattle.std.proofs.lemmas.List.{get_or_read}
use Rattle.plan_names.proofs.NameLemmas.{first_there}
use Rattle.plan_names.proofs.name_index.is_first.Goals as goal

pub returns-in-Some : goal.returns-in-Some
returns-in-Some c =
    first_there c.args.names.now c.args.at c.as_slice.result.now (Some c.in-Some.place.now) c.requires.within
    (c.as_slice.ensures.same ∙ get_or_read c.args.names.now c.args.at c.index-names-at.result c.requires.within c.index-names-at.is [])
    (c.in-Some.ensures.value ∙ c.requires.finds.place c.as_slice.result)

pub returns-in-None : goal.returns-in-None
returns-in-None c =
    first_there c.args.names.now c.args.at c.as_slice.result.now None c.requires.within
    (c.as_slice.ensures.same ∙ get_or_read c.args.names.now c.args.at c.index-names-at.result c.requires.within c.index-names-at.is [])
    (c.in-None.ensures.value ∙ c.requires.finds.place c.as_slice.result)
