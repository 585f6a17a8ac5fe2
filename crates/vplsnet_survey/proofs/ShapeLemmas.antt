-- What the plan says of the services, one after another.
use Rattle.std.proofs.Common.{◌≡◌, ◌<◌, ◌+◌, ◌++◌, ◌∙◌, ℕ, Bool, true, false, List, [], ◌∷◌, cond, length, nat_eq, slice_index_or, refl, arith, subst, sym}
use Rattle.std.proofs.lemmas.Bool.Decides.{nat_tests}
use Rattle.std.proofs.lemmas.Bool.{eqb-true}
use Rattle.std.proofs.lemmas.List.{length_push}
use Rattle.net_values.proofs.RowLemmas.{index_end}
use Rattle.net_base.specs.declared.plan.Plan.{Plan}
use Rattle.survey_reach.specs.declared.shape.Shape.{Shape}
use Rattle.survey_reach.specs.Reach.{IsShapeOf}
use Rattle.survey_text.specs.Surveys.{AreShapes}
use Rattle.vplsnet_survey.specs.Ended.{AreShapesOf}

pub shapes_none : (plan : Plan) → AreShapesOf plan 0 []
shapes_none plan = record { all = refl; each = λ service none below. absurd (omega (arith, below)) }

pub shapes_more : (plan : Plan) (count : ℕ) (shapes more : List Shape) (shape : Shape) → AreShapesOf plan count shapes → IsShapeOf plan (record { 0 = count }) shape → more ≡ shapes ++ shape ∷ []
    → AreShapesOf plan (count + 1) more
shapes_more plan count shapes more shape so_far is pushed = subst (AreShapesOf plan (count + 1)) (sym pushed) (record {
  all = omega (arith, joined, so_far.all);
  each = λ service none below. subst (IsShapeOf plan (record { 0 = service })) (sym (index_end shapes shape none service)) (by service none below (nat_eq service (length shapes)) refl);
})
  where
    joined : length (shapes ++ shape ∷ []) ≡ length shapes + 1
    joined = grind (arith, length_push shapes shape)

    by : (service : ℕ) (none : Shape) → service < count + 1 → (b : Bool) → nat_eq service (length shapes) ≡ b
        → IsShapeOf plan (record { 0 = service }) (cond b shape (slice_index_or shapes service none))
    by service none below true same = subst (λ (s : ℕ). IsShapeOf plan (record { 0 = s }) shape) (sym (eqb-true service (length shapes) same ∙ so_far.all)) is
    by service none below false other = so_far.each service none (grind (arith, nat_tests, below, other, so_far.all))

pub shapes_end : (plan : Plan) (count : ℕ) (shapes : List Shape) → length plan.services ≡ count → AreShapesOf plan count shapes → AreShapes plan shapes
shapes_end plan count shapes is so_far = record {
  all = so_far.all ∙ sym is;
  each = λ service none below. so_far.each service none (omega (arith, is, below));
}

pub ruleset shape_steps = (shapes_none, shapes_more, shapes_end)

pub shapes_as : (plan planned : Plan) (shapes : List Shape) → planned ≡ plan → AreShapes plan shapes → AreShapes planned shapes
shapes_as plan planned shapes same are = subst (λ (p : Plan). AreShapes p shapes) (sym same) are
