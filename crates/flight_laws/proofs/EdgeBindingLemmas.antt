-- The ends of all wires between two edges: what an edge that says or hears a message makes of them.
use Rattle.std.proofs.Common.{◌≡◌, ◌==◌, ◌++◌, ◌∙◌, nat_eq, ℕ, Bool, true, false, List, [], ◌∷◌, Option, Some, refl, sym, ap, subst, inl, inr}
use Rattle.std.proofs.lemmas.Bool.{cases_Bool, eqb-true}
use Rattle.net_values.proofs.NumberLemmas.{same_number as itself, test_turned}
use Rattle.net_base.specs.declared.plan.Plan.{Plan}
use Rattle.net_base.specs.declared.plan.places.EdgeId.{EdgeId}
use Rattle.net_base.specs.declared.plan.places.WireId.{WireId}
use Rattle.net_base.specs.declared.plan.wire_plan.WirePlan.{WirePlan}
use Rattle.net_base.specs.plan.Accepted.{IsChecked}
use Rattle.net_base.specs.plan.Paths.{joins}
use Rattle.net_base.specs.plan.Places.{wire_row}
use Rattle.ldp_grammar.specs.declared.message.Message.{Message}
use Rattle.pw_signalling.specs.declared.binding.Binding.{Binding}
use Rattle.pw_signalling.specs.End.{EndState, LocalPart}
use Rattle.edge_model.specs.declared.end_place.EndPlace.{EndPlace}
use Rattle.edge_model.specs.State.{EdgeState, end_at, with_end, with_kept}
use Rattle.flight_laws.specs.Bound.{AreBound, IsBoundBy, given_of, is_silent, releases_old}
use Rattle.flight_laws.proofs.BindingLemmas.{StaysGiven, binding_answers, binding_goes_on, binding_says_other}
use Rattle.flight_laws.proofs.PlaceLemmas.{IsEndOf, member_by_pw_id}
use Rattle.net_base.proofs.PathLemmas.{joins_turned}

-- ---- one end of an edge

pub end_there : (place : EndPlace) (end : EndState) (edge : EdgeState) → (with_end place end edge).ends place.wire.0 place.peer.0 ≡ end
unfolding with_end with_kept
end_there place end edge = rw (itself place.wire.0, itself place.peer.0) refl

pub end_of_other : (place : EndPlace) (end : EndState) (edge : EdgeState) (wire peer : ℕ) → nat_eq wire place.wire.0 ≡ false → (with_end place end edge).ends wire peer ≡ edge.ends wire peer
unfolding with_end with_kept
end_of_other place end edge wire peer apart = rw apart refl

pub end_beside_other : (place : EndPlace) (end : EndState) (edge : EdgeState) (wire peer : ℕ) → nat_eq peer place.peer.0 ≡ false → (with_end place end edge).ends wire peer ≡ edge.ends wire peer
unfolding with_end with_kept
end_beside_other place end edge wire peer apart = elim (cases_Bool (nat_eq wire place.wire.0)) [
  | inl same ↦ rw (same, apart) (ap (λ (n : ℕ). edge.ends n peer) (sym (eqb-true wire place.wire.0 same)))
  | inr other ↦ rw other refl
]

pub end_label : (place : EndPlace) (end : EndState) (edge : EdgeState) → given_of (with_end place end edge) ≡ given_of edge
unfolding with_end with_kept
end_label place end edge = refl

pub end_given : (place : EndPlace) (end : EndState) (edge : EdgeState) → StaysGiven (given_of edge) (given_of (with_end place end edge))
unfolding with_end
end_given place end edge label given = given

-- ---- the same ends

-- what was given stays given, and the ends beside a peer are the same
pub record HasSameEnds (peer : ℕ) (old new : EdgeState) : Type 0 where
  pub label : StaysGiven (given_of old) (given_of new)
  pub ends : (wire : ℕ) → new.ends wire peer ≡ old.ends wire peer

pub bound_same : (plan : Plan) (a b : ℕ) (old new other : EdgeState) (out back : List Message) → HasSameEnds b old new → AreBound plan a b old other out back → AreBound plan a b new other out back
bound_same plan a b old new other out back same bound = record {
  near = λ wire row is joined. rw (same.ends wire.0)
      (binding_goes_on row.pw_id (given_of old) (given_of new) (old.ends wire.0 b).local (other.ends wire.0 a).remote out back same.label (bound.near wire row is joined));
  far = λ wire row is joined. rw (same.ends wire.0) (bound.far wire row is joined);
}

pub bound_turned : (plan : Plan) (a b : ℕ) (one other : EdgeState) (out back : List Message) → AreBound plan a b one other out back → AreBound plan b a other one back out
bound_turned plan a b one other out back bound = record {
  near = λ wire row is joined. bound.far wire row is (turned row a b joined);
  far = λ wire row is joined. bound.near wire row is (turned row a b joined);
}
  where
    turned : (row : WirePlan) (a b : ℕ) → joins b a row.path ≡ true → joins a b row.path ≡ true
    turned row a b joined = sym (joins_turned row.path b a) ∙ joined

-- ---- an edge says something of one of its ends

-- what an edge makes of one end with one message: it is about this end alone, and releases nothing
pub record SaysOf (place : EndPlace) (m : Message) (old new : EdgeState) : Type 0 where
  pub goes : StaysGiven (given_of old) (given_of new)
  pub others : (wire : ℕ) → nat_eq wire place.wire.0 ≡ false → new.ends wire place.peer.0 ≡ old.ends wire place.peer.0
  pub remote : (end_at new place).remote ≡ (end_at old place).remote
  pub own : (far : Option Binding) (out back : List Message) → IsBoundBy place.pw_id (given_of old) (end_at old place).local far out back
      → IsBoundBy place.pw_id (given_of new) (end_at new place).local far (out ++ m ∷ []) back
  pub silent : (pw_id : ℕ) → place.pw_id == pw_id ≡ false → is_silent pw_id m ≡ true
  pub releases : (pw_id : ℕ) (next : ℕ → Bool) (near : LocalPart) → releases_old pw_id next near m ≡ true

pub bound_says : (plan : Plan) (me : EdgeId) (place : EndPlace) (m : Message) (old new other : EdgeState) (out back : List Message) → IsChecked plan → IsEndOf plan me place → SaysOf place m old new
    → AreBound plan me.0 place.peer.0 old other out back → AreBound plan me.0 place.peer.0 new other (out ++ m ∷ []) back
bound_says plan me place m old new other out back checked there says bound = record {
  near = λ wire row is joined. near wire row is joined (nat_eq wire.0 place.wire.0) refl;
  far = λ wire row is joined. binding_answers row.pw_id (given_of other) (other.ends wire.0 me.0).local (new.ends wire.0 place.peer.0).remote back out m
      (says.releases row.pw_id (given_of other) (other.ends wire.0 me.0).local)
      (subst (λ (r : Option Binding). IsBoundBy row.pw_id (given_of other) (other.ends wire.0 me.0).local r back out) (sym (remote wire.0 (nat_eq wire.0 place.wire.0) refl))
      (bound.far wire row is joined));
}
  where
    remote : (wire : ℕ) (same : Bool) → nat_eq wire place.wire.0 ≡ same → (new.ends wire place.peer.0).remote ≡ (old.ends wire place.peer.0).remote
    remote wire true here = rw (eqb-true wire place.wire.0 here) says.remote
    remote wire false away = ap (λ (e : EndState). e.remote) (says.others wire away)

    near : (wire : WireId) (row : WirePlan) → wire_row plan wire ≡ Some row → joins me.0 place.peer.0 row.path ≡ true → (same : Bool) → nat_eq wire.0 place.wire.0 ≡ same
        → IsBoundBy row.pw_id (given_of new) (new.ends wire.0 place.peer.0).local (other.ends wire.0 me.0).remote (out ++ m ∷ []) back
    near wire row is joined true here =
        let pw_id : place.pw_id ≡ row.pw_id = eqb-true place.pw_id row.pw_id (member_by_pw_id plan me place wire row checked is joined there ∙ test_turned wire.0 place.wire.0 true here) in
        subst (λ (n : ℕ). IsBoundBy n (given_of new) (new.ends wire.0 place.peer.0).local (other.ends wire.0 me.0).remote (out ++ m ∷ []) back) pw_id
        (subst (λ (w : ℕ). IsBoundBy place.pw_id (given_of new) (new.ends w place.peer.0).local (other.ends wire.0 me.0).remote (out ++ m ∷ []) back) (sym (eqb-true wire.0 place.wire.0 here))
        (says.own (other.ends wire.0 me.0).remote out back
        (subst (λ (w : ℕ). IsBoundBy place.pw_id (given_of old) (old.ends w place.peer.0).local (other.ends wire.0 me.0).remote out back) (eqb-true wire.0 place.wire.0 here)
        (subst (λ (n : ℕ). IsBoundBy n (given_of old) (old.ends wire.0 place.peer.0).local (other.ends wire.0 me.0).remote out back) (sym pw_id) (bound.near wire row is joined)))))
    near wire row is joined false away =
        binding_says_other row.pw_id (given_of new) (new.ends wire.0 place.peer.0).local (other.ends wire.0 me.0).remote out back m
        (says.silent row.pw_id (member_by_pw_id plan me place wire row checked is joined there ∙ test_turned wire.0 place.wire.0 false away))
        (subst (λ (e : EndState). IsBoundBy row.pw_id (given_of new) e.local (other.ends wire.0 me.0).remote out back) (sym (says.others wire.0 away))
        (binding_goes_on row.pw_id (given_of old) (given_of new) (old.ends wire.0 place.peer.0).local (other.ends wire.0 me.0).remote out back says.goes (bound.near wire row is joined)))

-- the ends beside another peer are as they were
pub bound_elsewhere : (plan : Plan) (a b : ℕ) (old new other : EdgeState) (out back : List Message) → StaysGiven (given_of old) (given_of new) → ((wire : ℕ) → new.ends wire b ≡ old.ends wire b)
    → AreBound plan a b old other out back → AreBound plan a b new other out back
bound_elsewhere plan a b old new other out back goes same bound = record {
  near = λ wire row is joined. subst (λ (e : EndState). IsBoundBy row.pw_id (given_of new) e.local (other.ends wire.0 a).remote out back) (sym (same wire.0))
      (binding_goes_on row.pw_id (given_of old) (given_of new) (old.ends wire.0 b).local (other.ends wire.0 a).remote out back goes (bound.near wire row is joined));
  far = λ wire row is joined. rw (same wire.0) (bound.far wire row is joined);
}
