-- An edge before its first input.
use Rattle.std.proofs.Common.{◌≡◌, ◌∙◌, ℕ, List, [], ◌∷◌, Result, Ok, Err, false, ap, refl, sym}
use Rattle.std.specs.Prelude.{IfOk}
use Rattle.net_base.specs.declared.plan.Plan.{Plan}
use Rattle.net_base.specs.declared.plan.places.EdgeId.{EdgeId}
use Rattle.edge_model.specs.State.{empty_edge}
use Rattle.pw_signalling.specs.End.{fresh}
use Rattle.edge_model.specs.declared.end_place.EndPlace.{EndPlace}
use Rattle.edge_model.specs.EndPlaces.{end_places}
use Rattle.pw_ends.specs.Ends.{look, seen_ends}
use Rattle.provider_edge.specs.Lists.{EdgeLists, no_edge, seen}
use Rattle.provider_edge.specs.Opening.{IsNewEdge}

opened : {E : Type 0} (P Q : EdgeLists → Type 0) (r : Result EdgeLists E) → ((e : EdgeLists) → P e → Q e) → IfOk r P → IfOk r Q
opened P Q (Ok e) then is = then e is
opened P Q (Err fault) then is = tt

pub opened_plan : {E : Type 0} (plan : Plan) (me : EdgeId) (r : Result EdgeLists E) → IfOk r (IsNewEdge plan me) → IfOk r (λ edge. edge.plan ≡ plan)
opened_plan plan me r is = opened (IsNewEdge plan me) (λ edge. edge.plan ≡ plan) r (λ e new. new.plan_is) is

pub opened_me : {E : Type 0} (plan : Plan) (me : EdgeId) (r : Result EdgeLists E) → IfOk r (IsNewEdge plan me) → IfOk r (λ edge. edge.me ≡ me)
opened_me plan me r is = opened (IsNewEdge plan me) (λ edge. edge.me ≡ me) r (λ e new. new.place_is) is

pub opened_empty : {E : Type 0} (plan : Plan) (me : EdgeId) (r : Result EdgeLists E) → IfOk r (IsNewEdge plan me) → IfOk r (λ edge. seen edge ≡ empty_edge edge.plan me)
opened_empty plan me r is = opened (IsNewEdge plan me) (λ edge. seen edge ≡ empty_edge edge.plan me) r (λ e new. new.empty ∙ ap (λ (p : Plan). empty_edge p me) (sym new.plan_is)) is

pub opened_going : {E : Type 0} (plan : Plan) (me : EdgeId) (r : Result EdgeLists E) → IfOk r (IsNewEdge plan me) → IfOk r (λ edge. edge.stopped ≡ false)
opened_going plan me r is = opened (IsNewEdge plan me) (λ edge. edge.stopped ≡ false) r (λ e new. new.going) is

none_there : (places : List EndPlace) (wire peer : ℕ) → look places [] wire peer ≡ fresh
none_there [] wire peer = refl
none_there (place ∷ places) wire peer = refl

-- one that has no place in its plan is as one before its first input
pub no_edge_seen : (plan : Plan) (me : EdgeId) → seen (no_edge plan me) ≡ empty_edge plan me
unfolding seen seen_ends
no_edge_seen plan me = λ i. record (empty_edge plan me) { ends = λ wire peer. none_there (end_places plan me) wire peer i }
