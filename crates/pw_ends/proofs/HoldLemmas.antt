-- What the ends hold of their peers can be told on, before and after the calls.
use Rattle.std.proofs.Common.{◌<◌, ℕ, zero, suc, Bool, true, false, cond, List, [], ◌∷◌, Option, Some, None, length, get_or, set, replicate, arith}
use Rattle.pw_tlvs.specs.declared.pw_status.PwStatus.{PwStatus}
use Rattle.pw_signalling.specs.declared.binding.Binding.{Binding}
use Rattle.pw_signalling.specs.End.{EndState, fresh}
use Rattle.pw_signalling.specs.Rows.{is_in_group, names, stated, status_part, unbound, unless_named}
use Rattle.edge_model.specs.declared.end_place.EndPlace.{EndPlace}
use Rattle.pw_ends.specs.declared.end_change.EndChange.{EndChange}
use Rattle.pw_ends.specs.declared.end_change.EndChange.TheVariants as change
use Rattle.pw_ends.specs.Changes.{changed}
use Rattle.pw_ends.specs.Ends.{Holds, no_place}
use Rattle.pw_ends.specs.Kept.{AreHolding}

-- ---- an end is changed

unbound_holds : (place : EndPlace) (label : Option ℕ) (held : Option Binding) → Holds place held → Holds place (unless_named label held)
unbound_holds place label None holds = tt
unbound_holds place label (Some binding) holds = by (names label binding.label)
  where
    by : (b : Bool) → Holds place (cond b None (Some binding))
    by true = tt
    by false = holds

stated_holds : (place : EndPlace) (status : PwStatus) (held : Option Binding) → Holds place held → Holds place (status_part status held)
stated_holds place status None holds = tt
stated_holds place status (Some binding) holds = record { kind = holds.kind; vlan = holds.vlan; room = holds.room }

pub holds_stay : (place : EndPlace) (c : EndChange) (e : EndState) → Holds place e.remote → Holds place (changed c e).remote
holds_stay place change.Withdrawn e holds = holds
holds_stay place (change.Telling status) e holds = holds
holds_stay place change.Renewed e holds = holds
holds_stay place (change.Unbound label) e holds = unbound_holds place label e.remote holds
holds_stay place (change.Released label) e holds = holds
holds_stay place (change.Stated status) e holds = stated_holds place status e.remote holds
holds_stay place (change.GroupUnbound group) e holds = elim (is_in_group group e.remote) as (λ v. Holds place (cond v (unbound None e) e).remote) [
  | true ↦ unbound_holds place None e.remote holds
  | false ↦ holds
]
holds_stay place (change.GroupStated group status) e holds = elim (is_in_group group e.remote) as (λ v. Holds place (cond v (stated status e) e).remote) [
  | true ↦ stated_holds place status e.remote holds
  | false ↦ holds
]
holds_stay place change.Lost e holds = tt

-- ---- all ends

pub holding_set : (places : List EndPlace) (ends : List EndState) (slot : ℕ) (end : EndState) → AreHolding places ends → Holds (get_or places slot no_place) end.remote
    → AreHolding places (set ends slot end)
holding_set [] ends slot end holding holds = tt
holding_set (p ∷ ps) [] slot end holding holds = tt
holding_set (p ∷ ps) (e ∷ es) zero end holding holds = (holds, holding.1)
holding_set (p ∷ ps) (e ∷ es) (suc slot) end holding holds = (holding.0, holding_set ps es slot end holding.1 holds)

pub holding_at : (places : List EndPlace) (ends : List EndState) (slot : ℕ) → AreHolding places ends → slot < length places → slot < length ends
    → Holds (get_or places slot no_place) (get_or ends slot fresh).remote
holding_at [] ends slot holding within short = absurd (omega (arith, within))
holding_at (p ∷ ps) [] slot holding within short = absurd (omega (arith, short))
holding_at (p ∷ ps) (e ∷ es) zero holding within short = holding.0
holding_at (p ∷ ps) (e ∷ es) (suc slot) holding within short = holding_at ps es slot holding.1 (omega (arith, within)) (omega (arith, short))

pub holding_none : (places : List EndPlace) (count : ℕ) → AreHolding places (replicate count fresh)
holding_none [] count = tt
holding_none (p ∷ ps) zero = tt
holding_none (p ∷ ps) (suc count) = (tt, holding_none ps count)
