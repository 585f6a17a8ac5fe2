-- What is known of the services of a network, and of each fault alone.
use Rattle.std.proofs.Common.{◌≡◌, ◌<◌, ◌+◌, ◌++◌, ◌∙◌, ℕ, suc, Bool, true, false, List, [], ◌∷◌, cond, length, nat_eq, slice_index_or, refl, ap, arith, subst, sym}
use Rattle.std.proofs.lemmas.Bool.{eqb-true}
use Rattle.std.proofs.lemmas.Bool.Decides.{nat_tests}
use Rattle.std.proofs.lemmas.List.{length_push}
use Rattle.net_values.proofs.NumberLemmas.{at_start}
use Rattle.net_values.proofs.RowLemmas.{index_end, same_read}
use Rattle.net_base.specs.declared.plan.Plan.{Plan}
use Rattle.net_base.specs.declared.plan.places.ServiceId.{ServiceId}
use Rattle.network_model.specs.State.{NetworkState}
use Rattle.survey_laws.specs.declared.fault.Fault.{Fault}
use Rattle.survey_laws.specs.declared.fault.Fault.TheVariants as fault
use Rattle.survey_reach.specs.declared.shape.Shape.{Shape}
use Rattle.survey_reach.specs.FaultList.{all_faults}
use Rattle.survey_reach.specs.Reach.{IsShapeOf}
use Rattle.survey_text.specs.declared.change.Change.{Change}
use Rattle.survey_text.specs.declared.known.Alone.{Alone}
use Rattle.survey_text.specs.declared.known.Known.{Known}
use Rattle.survey_text.specs.declared.service.Service.{Service}
use Rattle.survey_text.specs.Surveys.{AreAllKnown, AreLeft, AreServices, AreShapes, IsKnown, IsService, fault_in}
use Rattle.survey_text.proofs.LeftLemmas.{ArePlaced, placed_more}

-- the service at a place
pub own_service : (plan : Plan) (before : NetworkState) (services : List Service) (place : ℕ) (service : Service) → AreServices plan before services → place < length services
    → service ≡ slice_index_or services place service → IsService plan before (record { 0 = place }) service
own_service plan before services place service is below read = subst (IsService plan before (record { 0 = place })) (sym read) (is.each place service (omega (arith, below, is.all)))

pub by_own : (plan : Plan) (before : NetworkState) (asked : ServiceId) (service : Service) → IsService plan before asked service → IsService plan before service.shape.service service
by_own plan before asked service is = subst (λ (s : ServiceId). IsService plan before s service) (sym is.shape.same) is

-- ---- services one by one

-- those so far, and the shapes of those that come
pub record AreMade (plan : Plan) (before : NetworkState) (services : List Service) (rest : List Shape) : Type 0 where
  pub served : ArePlaced (λ (service : ℕ). IsService plan before (record { 0 = service })) (length services) services
  pub count : length services + length rest ≡ length plan.services
  pub shapes : (place : ℕ) (none : Shape) → place < length rest → IsShapeOf plan (record { 0 = length services + place }) (slice_index_or rest place none)

pub made_start : (plan : Plan) (before : NetworkState) (shapes : List Shape) → AreShapes plan shapes → AreMade plan before [] shapes
made_start plan before shapes are = record {
  served = record { all = refl; each = λ place none below. absurd (omega (arith, below)) };
  count = omega (arith, are.all);
  shapes = λ place none below. subst (λ (n : ℕ). IsShapeOf plan (record { 0 = n }) (slice_index_or shapes place none)) (omega arith) (are.each place none (omega (arith, below, are.all)));
}

first_shape : (plan : Plan) (before : NetworkState) (services : List Service) (rest now : List Shape) (shape : Shape) → AreMade plan before services rest → rest ≡ shape ∷ now
    → IsShapeOf plan (record { 0 = length services }) shape
first_shape plan before services rest now shape are is =
    let both : AreMade plan before services (shape ∷ now) = subst (AreMade plan before services) is are in
    subst (λ (n : ℕ). IsShapeOf plan (record { 0 = n }) shape) (at_start (length services)) (both.shapes 0 shape (omega arith))

pub own_shape : (plan : Plan) (before : NetworkState) (services : List Service) (rest now : List Shape) (shape : Shape) → AreMade plan before services rest → rest ≡ shape ∷ now
    → IsShapeOf plan shape.service shape
own_shape plan before services rest now shape are is =
    let first : IsShapeOf plan (record { 0 = length services }) shape = first_shape plan before services rest now shape are is in
    subst (λ (s : ServiceId). IsShapeOf plan s shape) (sym first.same) first

pub made_more : (plan : Plan) (before : NetworkState) (services more : List Service) (rest now : List Shape) (shape : Shape) (service : Service) → AreMade plan before services rest → rest ≡ shape ∷ now
    → IsService plan before shape.service service → more ≡ services ++ service ∷ [] → AreMade plan before more now
made_more plan before services more rest now shape service are is made pushed = record {
  served = subst (λ (n : ℕ). ArePlaced (λ (service : ℕ). IsService plan before (record { 0 = service })) n more) (sym longer) all;
  count = omega (arith, longer, both.count);
  shapes = λ place none below. subst (λ (n : ℕ). IsShapeOf plan (record { 0 = n }) (slice_index_or now place none)) (omega (arith, longer)) (both.shapes (suc place) none (omega (arith, below)));
}
  where
    both : AreMade plan before services (shape ∷ now)
    both = subst (AreMade plan before services) is are

    all : ArePlaced (λ (service : ℕ). IsService plan before (record { 0 = service })) (length services + 1) more
    all = placed_more (λ (service : ℕ). IsService plan before (record { 0 = service })) (length services) services more service are.served
        (subst (λ (s : ServiceId). IsService plan before s service) (first_shape plan before services rest now shape are is).same made) pushed

    longer : length more ≡ length services + 1
    longer = all.all

pub made_end : (plan : Plan) (before : NetworkState) (services : List Service) (rest : List Shape) → AreMade plan before services rest → length rest ≡ 0 → AreServices plan before services
made_end plan before services rest are none = record {
  all = whole;
  each = λ service none below. are.served.each service none (omega (arith, below, whole));
}
  where
    whole : length services ≡ length plan.services
    whole = omega (arith, are.count, none)

-- ---- what each fault changes alone

pub alone_known : (plan : Plan) (before : NetworkState) (known : Known) (place : ℕ) (alone : Alone) → AreAllKnown plan before known → place < length known.faults
    → alone ≡ slice_index_or known.alone.items place alone → AreLeft plan before (fault_in known.faults place ∷ []) [] alone.changes.items
alone_known plan before known place alone is within read =
    subst (λ (l : List Fault). AreLeft plan before (fault_in l place ∷ []) [] alone.changes.items) (sym is.faults)
    (subst (λ (a : Alone). AreLeft plan before (fault_in (all_faults plan before) place ∷ []) [] a.changes.items) (sym read)
    (is.alone place (fault.Edge (record { 0 = 0 })) alone (omega (arith, within, ap (λ (l : List Fault). length l) is.faults))))

pub kept : (plan : Plan) (before : NetworkState) (known new : Known) (changes : List Change) (alone : Alone) → IsKnown plan before (length known.alone.items) known
    → AreLeft plan before (fault_in known.faults (length known.alone.items) ∷ []) [] changes → length known.alone.items < length known.faults → alone.changes.items ≡ changes
    → new.services.items ≡ known.services.items → new.faults ≡ known.faults → new.alone.items ≡ known.alone.items ++ alone ∷ [] → IsKnown plan before (length known.alone.items + 1) new
kept plan before known new changes alone is left below_all held services faults pushed = record {
  services = subst (AreServices plan before) (sym services) is.services;
  faults = faults ∙ is.faults;
  counted = ap (λ (l : List Alone). length l) pushed ∙ longer;
  alone = λ place other none below.
      subst (λ (a : Alone). AreLeft plan before (slice_index_or (all_faults plan before) place other ∷ []) [] a.changes.items)
      (sym (ap (λ (l : List Alone). slice_index_or l place none) pushed ∙ index_end known.alone.items alone none place)) (by place other none below (nat_eq place (length known.alone.items)) refl);
}
  where
    longer : length (known.alone.items ++ alone ∷ []) ≡ length known.alone.items + 1
    longer = grind (arith, length_push known.alone.items alone)

    within : length known.alone.items < length (all_faults plan before)
    within = omega (arith, below_all, ap (λ (l : List Fault). length l) is.faults)

    same : (other : Fault) → fault_in known.faults (length known.alone.items) ≡ slice_index_or (all_faults plan before) (length known.alone.items) other
    same other =
        ap (λ (l : List Fault). fault_in l (length known.alone.items)) is.faults
        ∙ same_read (all_faults plan before) (length known.alone.items) (fault.Edge (record { 0 = 0 })) other within

    by : (place : ℕ) (other : Fault) (none : Alone) → place < length known.alone.items + 1 → (b : Bool) → nat_eq place (length known.alone.items) ≡ b
        → AreLeft plan before (slice_index_or (all_faults plan before) place other ∷ []) [] (cond b alone (slice_index_or known.alone.items place none)).changes.items
    by place other none below true here =
        subst (λ (n : ℕ). AreLeft plan before (slice_index_or (all_faults plan before) n other ∷ []) [] alone.changes.items) (sym (eqb-true place (length known.alone.items) here))
        (subst (λ (f : Fault). AreLeft plan before (f ∷ []) [] alone.changes.items) (same other) (subst (AreLeft plan before (fault_in known.faults (length known.alone.items) ∷ []) []) (sym held) left))
    by place other none below false apart = is.alone place other none (grind (arith, nat_tests, below, apart))
