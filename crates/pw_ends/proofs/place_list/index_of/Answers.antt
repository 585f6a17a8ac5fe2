-- One more place has its slot, until all have.
use Rattle.std.proofs.Common.{◌≡◌, ◌-◌, ◌+◌, ◌<◌, length, arith}
use Rattle.pw_ends.proofs.IndexLemmas.{finds_all, finds_more}
use Rattle.pw_ends.proofs.place_list.index_of.Goals as goal

pub placing-preserved : goal.placing-preserved
placing-preserved c =
    let within : c.placing.slot - 1 < length c.args.places.now = omega arith in
    let next : c.placing.slot - 1 + 1 ≡ c.placing.slot = omega arith in (
      finds_more (c.placing.slot - 1) c.placing.slot c.args.places.now c.name_at.result c.placing.index.entries c.insert.new.self.entries within next c.name_at.ensures c.placing.invariant.0 c.in_ok-insert.ensures.updates.0,
      omega arith,
    )

pub returns : goal.returns
returns c = finds_all c.placing.slot c.args.places.now c.placing.index.entries c.placing-test.false c.placing.invariant.0
