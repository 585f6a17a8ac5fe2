-- What the last test says, all say.
use Rattle.std.proofs.Common.{rules, ◌≡◌, ◌↔◌, Bool, true, subst}
use Rattle.pw_stitch.specs.Change.{is_same_but_status, without_status}
use Rattle.pw_stitch.proofs.ChangeLemmas.{same_without_status}
use Rattle.pw_stitch.proofs.change.is_same_but_status.Goals as goal

pub returns-then-has_same_params-clause-exact : goal.returns-then-has_same_params-clause-exact
returns-then-has_same_params-clause-exact c =
    let same : is_same_but_status c.args.told.now c.args.other.now ≡ c.are_same_points.result = search rules in
    subst (λ (b : Bool). (b ≡ true) ↔ (without_status c.args.told.now ≡ without_status c.args.other.now)) same (same_without_status c.args.told.now c.args.other.now)
