-- What several crates and files need of the definitions here.
use Rattle.std.proofs.Common.{◌≡◌, List, refl}
use Rattle.net_base.specs.declared.outside.link_call.LinkCall.{LinkCall}
use Rattle.independent_model.specs.State.{IndepState}
use Rattle.independent_model.specs.Work.{Goes, IndepOutcome, Stops, and_works}

pub then_same : (o : IndepOutcome) (f g : IndepState → List LinkCall → IndepOutcome) → ((e : IndepState) (c : List LinkCall) → f e c ≡ g e c) → and_works o f ≡ and_works o g
then_same (Goes edge calls) f g same = same edge calls
then_same (Stops why edge calls) f g same = refl
