-- One more name has its place, until all have.
use Rattle.std.proofs.Common.{◌≡◌, ◌∙◌, ◌-◌, ◌+◌, ◌<◌, length, arith, sym, ap, get_or}
use Rattle.plan_names.proofs.NameLemmas.{finds_more, finds_all}
use Rattle.plan_names.proofs.name_index.places_of.Goals as goal

pub placing-preserved : goal.placing-preserved
placing-preserved c =
    let within : c.placing.at - 1 < length c.args.names.now = omega arith in
    let next : c.placing.at - 1 + 1 ≡ c.placing.at = omega arith in
    let at : c.as_slice.result.now ≡ get_or c.args.names.now (c.placing.at - 1) c.as_slice.result.now =
    c.as_slice.ensures.same ∙ c.index-names-at.is ∙ ap (λ d. get_or c.args.names.now (c.placing.at - 1) d) (sym c.as_slice.ensures.same) in (
      finds_more (c.placing.at - 1) c.placing.at c.args.names.now c.as_slice.result.now c.placing.places.entries c.insert.new.self.entries within next at c.placing.invariant.0 c.in_ok-insert.ensures.updates.0,
      omega arith,
    )

pub returns : goal.returns
returns c = finds_all c.placing.at c.args.names.now c.placing.places.entries c.placing-test.false c.placing.invariant.0
