-- Runs of joined lists of events.
use Rattle.std.proofs.Common.{◌≡◌, ◌++◌, ◌∙◌, List, [], ◌∷◌, refl, ap, sym, append_assoc}
use Rattle.net_base.specs.declared.plan.Plan.{Plan}
use Rattle.net_base.specs.declared.trace.entry.Entry.{Entry}
use Rattle.net_base.specs.declared.trace.event.Event.{Event}
use Rattle.network_model.specs.State.{NetworkState}
use Rattle.network_model.specs.Step.{step}
use Rattle.network_model.specs.Run.{state_after, entries_along}

pub after-append : (plan : Plan) (network : NetworkState) (xs ys : List Event) → state_after plan network (xs ++ ys) ≡ state_after plan (state_after plan network xs) ys
after-append plan network [] ys = refl
after-append plan network (x ∷ xs) ys = after-append plan (step plan network x).state xs ys

pub along-append : (plan : Plan) (network : NetworkState) (xs ys : List Event) → entries_along plan network (xs ++ ys)
    ≡ entries_along plan network xs ++ entries_along plan (state_after plan network xs) ys
along-append plan network [] ys = refl
along-append plan network (x ∷ xs) ys =
    ap (λ (l : List Entry). (step plan network x).entries ++ l) (along-append plan (step plan network x).state xs ys)
    ∙ sym (append_assoc (step plan network x).entries (entries_along plan (step plan network x).state xs) (entries_along plan (state_after plan (step plan network x).state xs) ys))
