-- An edge that had mended, and of which nothing has changed since that mending looks at, puts nothing.
use Rattle.std.proofs.Common.{◌≡◌, ◌∙◌, ◌&&◌, ℕ, Bool, true, false, cond, not, nat_eq, List, [], ◌∷◌, Option, Some, None, refl, sym, ap, subst}
use Rattle.std.specs.List.{AllByRecursion}
use Rattle.net_base.specs.declared.plan.Plan.{Plan}
use Rattle.net_base.specs.declared.plan.places.EdgeId.{EdgeId}
use Rattle.net_base.specs.declared.plan.places.WireId.{WireId}
use Rattle.net_base.specs.declared.plan.wire_plan.WirePlan.{WirePlan}
use Rattle.net_base.specs.declared.trace.down.Down.{Down}
use Rattle.net_base.specs.plan.Places.{wire_row}
use Rattle.edge_model.specs.declared.effect.Effect.TheVariants.{Wire}
use Rattle.edge_model.specs.declared.end_place.EndPlace.{EndPlace}
use Rattle.edge_model.specs.EndPlaces.{end_places}
use Rattle.edge_model.specs.Mend.{cause_number, each_end, forgets_down, forgets_downs, forgetting_wire, is_new_choice, mends, mends_choice, mends_end, mends_status, tells_down, tells_downs, then_changes}
use Rattle.edge_model.specs.Put.{Spoken, stays}
use Rattle.edge_model.specs.Role.{down_at, is_chosen}
use Rattle.edge_model.specs.Settled.{is_mended, is_told}
use Rattle.edge_model.specs.Spokes.{choosing}
use Rattle.edge_model.specs.State.{EdgeState, with_told_down}
use Rattle.edge_model.specs.Withdraw.{tells_piece}
use Rattle.edge_model.specs.Work.{Work, changes, gives}
use Rattle.edge_model.proofs.ChoiceLemmas.{choosing_not}
use Rattle.edge_model.proofs.MendLemmas.{mends_takes}
use Rattle.edge_model.proofs.MendedLemmas.{mends_end_not, mends_status_not}
use Rattle.network_model.specs.Absorb.{taken_all}
use Rattle.flight_laws.proofs.MendedRunLemmas.{IsMendedAt}
use Rattle.rest_laws.specs.Levels.{Saying}
use Rattle.rest_laws.proofs.DueLemmas.{PutsMore}
use Rattle.rest_laws.proofs.PutLemmas.{puts_not, puts_one, puts_then}

-- where each step does nothing, all do nothing
pub each_not : (mend : EndPlace → Work → Spoken) (work : Work) (test : EndPlace → Bool) → ((place : EndPlace) → test place ≡ true → mend place work ≡ stays work) → (places : List EndPlace)
    → AllByRecursion (λ place. test place ≡ true) places → each_end mend places (stays work) ≡ stays work
each_not mend work test one [] all = refl
each_not mend work test one (place ∷ places) all =
    ap (λ (s : Spoken). each_end mend places (record { work = s.work; failed = s.failed })) (one place all.0) ∙ each_not mend work test one places all.1

each_none : (mend : EndPlace → Work → Spoken) (work : Work) → ((place : EndPlace) → mend place work ≡ stays work) → (places : List EndPlace) → each_end mend places (stays work) ≡ stays work
each_none mend work one [] = refl
each_none mend work one (place ∷ places) =
    ap (λ (s : Spoken). each_end mend places (record { work = s.work; failed = s.failed })) (one place) ∙ each_none mend work one places

-- no spoke is chosen anew
pub no_new_choice : (chosen : ℕ → Option WireId) (wire : WireId) (row : Option WirePlan) → is_new_choice chosen chosen wire row ≡ false
no_new_choice chosen wire None = refl
no_new_choice chosen wire (Some row) = by (is_chosen chosen wire row) where
  by : (b : Bool) → b && not b ≡ false
  by true = refl
  by false = refl

pub choice_not : (plan : Plan) (place : EndPlace) (work : Work) → mends_choice plan taken_all work.edge.chosen place work ≡ stays work
choice_not plan place work = ap (λ (b : Bool). cond b (tells_piece taken_all place [] work) (stays work)) (no_new_choice work.edge.chosen place.wire (wire_row plan place.wire))

module _ (plan : Plan) (me : EdgeId) (may : EndPlace → Saying → Bool) where
  changes_put : (change : EdgeState → EdgeState) (work : Work) → PutsMore plan me may work.effects (changes change work).effects
  unfolding changes
  changes_put change work = puts_not plan me may work.effects

  pub forgets_put : (places : List EndPlace) (work : Work) → PutsMore plan me may work.effects (forgets_downs plan places work).effects
  forgets_put [] work = puts_not plan me may work.effects
  forgets_put (place ∷ places) work =
      let next : Work = cond place.terminal (forgets_down plan place (down_at plan work.edge place) work) work in
      puts_then plan me may work.effects next.effects (forgets_downs plan places next).effects (by place.terminal (down_at plan work.edge place)) (forgets_put places next)
    where
      by : (terminal : Bool) (down : Option Down) → PutsMore plan me may work.effects (cond terminal (forgets_down plan place down work) work).effects
      by true None = puts_not plan me may work.effects
      by true (Some why) = changes_put (forgetting_wire plan place.wire (wire_row plan place.wire)) work
      by false down = puts_not plan me may work.effects

  gives_put : (wire : WireId) (down : Option Down) (work : Work) → PutsMore plan me may work.effects (gives (Wire wire down) (changes (with_told_down wire down) work)).effects
  unfolding gives changes
  gives_put wire down work = puts_one plan me may work.effects (Wire wire down) tt

  pub downs_put : (places : List EndPlace) (work : Work) → PutsMore plan me may work.effects (tells_downs plan places work).effects
  downs_put [] work = puts_not plan me may work.effects
  downs_put (place ∷ places) work =
      let next : Work = cond place.terminal (tells_down place (down_at plan work.edge place) work) work in
      puts_then plan me may work.effects next.effects (tells_downs plan places next).effects (by place.terminal (down_at plan work.edge place)) (downs_put places next)
    where
      told : (down : Option Down) (same : Bool) → PutsMore plan me may work.effects (cond same work (gives (Wire place.wire down) (changes (with_told_down place.wire down) work))).effects
      told down true = puts_not plan me may work.effects
      told down false = gives_put place.wire down work

      by : (terminal : Bool) (down : Option Down) → PutsMore plan me may work.effects (cond terminal (tells_down place down work) work).effects
      by true down = told down (nat_eq (cause_number (work.edge.told_down place.wire.0)) (cause_number down))
      by false down = puts_not plan me may work.effects

  -- an edge that has mended says nothing when it mends, whatever may be said
  pub mended_puts_none : (work : Work) → IsMendedAt plan me.0 work.edge → PutsMore plan me may work.effects (mends plan taken_all work).effects
  mended_puts_none work mended =
      subst (λ (w : Work). PutsMore plan me may work.effects w.effects) (sym (mends_takes plan taken_all (λ k. refl) work))
      (subst (λ (s : Spoken). PutsMore plan me may work.effects (tells_downs plan places (forgets_downs plan places s.work)).effects) (sym all_not)
      (puts_then plan me may work.effects (forgets_downs plan places work).effects (tells_downs plan places (forgets_downs plan places work)).effects
      (forgets_put places work) (downs_put places (forgets_downs plan places work))))
    where
      places : List EndPlace
      places = end_places plan work.edge.me

      ends : AllByRecursion (λ place. is_mended plan work.edge place ≡ true) places
      ends = subst (λ (k : EdgeId). AllByRecursion (λ place. is_mended plan work.edge place ≡ true) (end_places plan k)) (sym mended.me) mended.ends

      told : AllByRecursion (λ place. is_told plan work.edge place ≡ true) places
      told = subst (λ (k : EdgeId). AllByRecursion (λ place. is_told plan work.edge place ≡ true) (end_places plan k)) (sym mended.me) mended.statuses

      moved : Spoken → Spoken
      moved = each_end (mends_choice plan taken_all work.edge.chosen) places

      all_not : moved (each_end (mends_status plan taken_all) places (then_changes (choosing plan) (each_end (mends_end plan taken_all) places (stays work)))) ≡ stays work
      all_not =
          ap (λ (s : Spoken). moved (each_end (mends_status plan taken_all) places (then_changes (choosing plan) s)))
          (each_not (mends_end plan taken_all) work (is_mended plan work.edge) (λ place is. mends_end_not plan taken_all place work is) places ends)
          ∙ (ap (λ (w : Work). moved (each_end (mends_status plan taken_all) places (stays w))) (choosing_not plan work mended.chosen)
          ∙ (ap moved (each_not (mends_status plan taken_all) work (is_told plan work.edge) (λ place is. mends_status_not plan taken_all place work is) places told)
          ∙ each_none (mends_choice plan taken_all work.edge.chosen) work (λ place. choice_not plan place work) places))
