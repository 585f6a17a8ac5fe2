-- The least number of the rivals of a spoke, wire by wire.
use Rattle.std.proofs.Common.{◌≡◌, ◌<◌, ◌≤◌, ◌+◌, ◌&&◌, ◌∙◌, not, ℕ, Bool, true, false, List, Option, cond, drop, length, nat_eq, slice_index_or, ap, sym}
use Rattle.std.proofs.lemmas.List.{drop_all, drop_more}
use Rattle.net_base.specs.declared.plan.Plan.{Plan}
use Rattle.net_base.specs.declared.plan.wire_plan.WirePlan.{WirePlan}
use Rattle.network_model.specs.State.{NetworkState}
use Rattle.survey_reach.specs.declared.ground.Ground.{Ground}
use Rattle.survey_reach.specs.Ground.{IsGroundOf, number_of}
use Rattle.survey_reach.specs.FaultList.{are_rivals, least_rival, lesser}

pub number_had : (plan : Plan) (before : NetworkState) (ground : Ground) (wire : ℕ) → IsGroundOf plan before ground → wire < length plan.wires
    → slice_index_or ground.numbers.items wire 0 ≡ number_of plan before wire
number_had plan before ground wire is below = is.numbers.each wire below

pub rival_more : (number : ℕ → ℕ) (wire : ℕ) (row : WirePlan) (least more whole : Option ℕ) (i : ℕ) (rows : List WirePlan) (d other : WirePlan) → i < length rows → other ≡ slice_index_or rows i d
    → least_rival number wire row least i (drop i rows) ≡ whole → more ≡ cond (not (nat_eq i wire) && are_rivals row other) (lesser least (number i)) least
    → least_rival number wire row more (i + 1) (drop (i + 1) rows) ≡ whole
rival_more number wire row least more whole i rows d other below read so_far is =
    ap (λ (l : Option ℕ). least_rival number wire row l (i + 1) (drop (i + 1) rows)) is
    ∙ (ap (λ (o : WirePlan). least_rival number wire row (cond (not (nat_eq i wire) && are_rivals row o) (lesser least (number i)) least) (i + 1) (drop (i + 1) rows)) read
    ∙ (sym (ap (least_rival number wire row least i) (drop_more rows i d below)) ∙ so_far))

-- a number was taken where its wire is a rival, and else left
pub rival_taken : (is so : Bool) (least taken more : Option ℕ) → so ≡ true → so ≡ is → more ≡ taken → more ≡ cond is taken least
rival_taken is so least taken more true_is same made = made ∙ ap (λ (b : Bool). cond b taken least) (sym true_is ∙ same)

pub rival_left : (is so : Bool) (least taken more : Option ℕ) → so ≡ false → so ≡ is → more ≡ least → more ≡ cond is taken least
rival_left is so least taken more false_is same made = made ∙ ap (λ (b : Bool). cond b taken least) (sym false_is ∙ same)

pub rivals_end : (number : ℕ → ℕ) (wire : ℕ) (row : WirePlan) (least whole : Option ℕ) (i : ℕ) (rows : List WirePlan) → length rows ≤ i
    → least_rival number wire row least i (drop i rows) ≡ whole → least ≡ whole
rivals_end number wire row least whole i rows past so_far = sym (ap (least_rival number wire row least i) (drop_all i rows past)) ∙ so_far

pub ruleset rival_steps = (number_had, rival_more, rivals_end)
