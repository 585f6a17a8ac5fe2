-- What is read of the ends of an edge by their slots.
use Rattle.std.proofs.Common.{◌≡◌, ◌&&◌, ◌∙◌, ℕ, Bool, true, false, cond, not, Option, Some, None, option_map, position, ap, sym, subst}
use Rattle.std.specs.Prelude.{IfSome}
use Rattle.std.specs.List.{find}
use Rattle.net_base.specs.declared.plan.wire_plan.Class.{Class}
use Rattle.net_base.specs.declared.plan.wire_plan.Class.TheVariants as class
use Rattle.net_base.specs.declared.plan.places.EdgeId.{EdgeId}
use Rattle.net_base.specs.declared.plan.places.WireId.{WireId}
use Rattle.net_base.specs.declared.plan.wire_plan.WirePlan.{WirePlan}
use Rattle.net_base.specs.plan.Paths.{is_last}
use Rattle.net_base.specs.plan.Places.{is_mesh_class, wire_row}
use Rattle.pw_signalling.specs.declared.end_role.EndRole.{EndRole}
use Rattle.pw_signalling.specs.declared.end_role.EndRole.TheVariants as role
use Rattle.pw_signalling.specs.End.{EndState}
use Rattle.edge_model.specs.declared.end_place.EndPlace.{EndPlace}
use Rattle.edge_model.specs.EndPlaces.{end_places}
use Rattle.edge_model.specs.Mend.{is_new_choice}
use Rattle.edge_model.specs.Role.{end_role_of, is_chosen_wire, role_in}
use Rattle.edge_model.specs.State.{end_at}
use Rattle.pw_ends.specs.Ends.{end_in, place_of}
use Rattle.pw_ends.proofs.IndexLemmas.{named_if, none_at}
use Rattle.provider_edge.proofs.ListLemmas.{end_read}
use Rattle.provider_edge.specs.Invariant.{IsEdge}
use Rattle.provider_edge.specs.Lists.{EdgeLists, seen}

-- ---- the wire of a slot is one of the plan

-- ---- what is asked of the end of a slot

-- a mesh wire has two equal ends
pub mesh_role : (row : WirePlan) (me : EdgeId) (chosen : Bool) → row.class ≡ class.Mesh → role.Mesh ≡ end_role_of row me chosen
mesh_role row me chosen mesh =
    sym (ap (λ (k : Class). cond (is_mesh_class k) role.Mesh (cond (is_last me.0 row.path) role.Core (cond chosen role.Chosen role.NotChosen))) mesh)

pub role_read : (c now : EdgeLists) (wire : WireId) (row : WirePlan) (chosen : Bool) (role : EndRole) → c ≡ now → wire_row c.plan wire ≡ Some row
    → chosen ≡ is_chosen_wire wire ((seen now).chosen row.service.0) → role ≡ end_role_of row c.me chosen → role ≡ role_in (wire_row now.plan wire) (seen now).me (seen now).chosen wire
unfolding seen
role_read c now wire row chosen role same found chooses is =
    is
    ∙ (ap (λ (b : Bool). end_role_of row c.me b) chooses
    ∙ (ap (λ (n : EdgeLists). end_role_of row n.me (is_chosen_wire wire ((seen now).chosen row.service.0))) same
    ∙ ap (λ (r : Option WirePlan). role_in r now.me (seen now).chosen wire) (sym (ap (λ (n : EdgeLists). wire_row n.plan wire) (sym same) ∙ found))))

-- ---- a spoke that was chosen anew

pub new_there : (now before chosen was : Bool) → chosen ≡ now → chosen ≡ true → was ≡ before → not was ≡ (now && not before)
new_there now before chosen was is so had = ap not had ∙ ap (λ (b : Bool). b && not before) (sym (sym is ∙ so))

pub new_away : (now before chosen : Bool) → chosen ≡ now → chosen ≡ false → chosen ≡ (now && not before)
new_away now before chosen is so = so ∙ ap (λ (b : Bool). b && not before) (sym (sym is ∙ so))

pub new_read : (c now : EdgeLists) (slot : ℕ) (place : EndPlace) (row : WirePlan) (before : ℕ → Option WireId) (new : Bool) → c ≡ now → place ≡ place_of now.ends slot
    → wire_row c.plan place.wire ≡ Some row
    → new ≡ (is_chosen_wire place.wire ((seen now).chosen row.service.0) && not (is_chosen_wire place.wire (before row.service.0)))
    → new ≡ is_new_choice before (seen now).chosen (place_of now.ends slot).wire (wire_row now.plan (place_of now.ends slot).wire)
new_read c now slot place row before new same at found is =
    is
    ∙ (ap (λ (r : Option WirePlan). is_new_choice before (seen now).chosen place.wire r) (sym (ap (λ (n : EdgeLists). wire_row n.plan place.wire) (sym same) ∙ found))
    ∙ ap (λ (p : EndPlace). is_new_choice before (seen now).chosen p.wire (wire_row now.plan p.wire)) at)

-- ---- the first end of which something holds

pub slot_found : (c : EdgeLists) (test : EndPlace → Bool) (found : Option ℕ) (slot : ℕ) → IsEdge c → found ≡ position test c.ends.places → found ≡ Some slot
    → find test (end_places c.plan c.me) ≡ Some (place_of c.ends slot)
slot_found c test found slot is at some =
    ap (find test) (sym is.places)
    ∙ subst (λ (o : Option ℕ). IfSome o (λ n. find test c.ends.places ≡ Some (place_of c.ends n))) some (named_if test c.ends.places found at)

pub none_found : (c : EdgeLists) (test : EndPlace → Bool) (found : Option ℕ) → IsEdge c → found ≡ position test c.ends.places → found ≡ None → find test (end_places c.plan c.me) ≡ None
none_found c test found is at none = ap (find test) (sym is.places) ∙ none_at test c.ends.places (sym at ∙ none)

pub end_some : (c now : EdgeLists) (test : EndPlace → Bool) (found : Option ℕ) (slot : ℕ) (end : EndState) → c ≡ now → IsEdge c → found ≡ position test c.ends.places → found ≡ Some slot
    → end ≡ end_in c.ends slot → Some end ≡ option_map (end_at (seen now)) (find test (end_places now.plan now.me))
end_some c now test found slot end same is at some of_end =
    subst (λ (n : EdgeLists). Some end ≡ option_map (end_at (seen n)) (find test (end_places n.plan n.me))) same
    (ap Some (of_end ∙ end_read c slot) ∙ ap (option_map (end_at (seen c))) (sym (slot_found c test found slot is at some)))

pub end_none : (c now : EdgeLists) (test : EndPlace → Bool) (found : Option ℕ) → c ≡ now → IsEdge c → found ≡ position test c.ends.places → found ≡ None
    → None ≡ option_map (end_at (seen now)) (find test (end_places now.plan now.me))
end_none c now test found same is at none =
    subst (λ (n : EdgeLists). None ≡ option_map (end_at (seen n)) (find test (end_places n.plan n.me))) same
    (ap (option_map (end_at (seen c))) (sym (none_found c test found is at none)))

pub slot_place : (c now : EdgeLists) (test : EndPlace → Bool) (found : Option ℕ) (slot : ℕ) (place : EndPlace) → c ≡ now → IsEdge c → found ≡ position test c.ends.places → found ≡ Some slot
    → find test (end_places now.plan now.me) ≡ Some place → place_of now.ends slot ≡ place
slot_place c now test found slot place same is at some here =
    let first : find test (end_places now.plan now.me) ≡ Some (place_of now.ends slot) =
    subst (λ (n : EdgeLists). find test (end_places n.plan n.me) ≡ Some (place_of n.ends slot)) same (slot_found c test found slot is at some) in
    cc (first, here)

pub no_place : (c now : EdgeLists) (test : EndPlace → Bool) (found : Option ℕ) (place : EndPlace) → c ≡ now → IsEdge c → found ≡ position test c.ends.places → found ≡ None
    → find test (end_places now.plan now.me) ≡ Some place → ⊥
no_place c now test found place same is at none here =
    let first : find test (end_places now.plan now.me) ≡ None = subst (λ (n : EdgeLists). find test (end_places n.plan n.me) ≡ None) same (none_found c test found is at none) in
    absurd (cc (first, here))
