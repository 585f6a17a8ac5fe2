-- The ends of all wires between two edges: what an edge that hears a message makes of them.
use Rattle.std.proofs.Common.{◌≡◌, ◌==◌, ◌++◌, ◌∙◌, nat_eq, ℕ, Bool, true, false, cond, List, [], ◌∷◌, Option, Some, None, is_some, option_and_then, refl, sym, ap, subst}
use Rattle.std.proofs.lemmas.Bool.{eqb-true}
use Rattle.net_values.proofs.BoolLemmas.{first_holds, clash}
use Rattle.net_values.proofs.NumberLemmas.{same_number as itself, equal_turned}
use Rattle.net_base.specs.declared.plan.Plan.{Plan}
use Rattle.net_base.specs.declared.plan.places.EdgeId.{EdgeId}
use Rattle.net_base.specs.declared.plan.places.WireId.{WireId}
use Rattle.net_base.specs.declared.plan.wire_plan.WirePlan.{WirePlan}
use Rattle.net_base.specs.plan.Accepted.{IsChecked}
use Rattle.net_base.specs.plan.Paths.{joins}
use Rattle.net_base.specs.plan.Places.{wire_row}
use Rattle.pw_tlvs.specs.declared.point.Point.{Point}
use Rattle.pw_tlvs.specs.declared.pw_fec.PwFec.{PwFec}
use Rattle.pw_tlvs.specs.declared.pw_status.PwStatus.{PwStatus}
use Rattle.ldp_grammar.specs.declared.message.Message.{Message}
use Rattle.ldp_grammar.specs.declared.message.Message.TheVariants.{Notification, LabelMapping, LabelWithdraw, LabelRelease}
use Rattle.ldp_grammar.specs.declared.status_code.StatusCode.{StatusCode}
use Rattle.pw_signalling.specs.declared.binding.Binding.{Binding}
use Rattle.pw_signalling.specs.End.{EndState, LocalPart}
use Rattle.pw_signalling.specs.Rows.{bound, group_stated, group_unbound, is_in_group, release_part, released, stated, status_part, unbound, unless_named}
use Rattle.pw_messages.specs.Content.{bare, binding_in, pw_status_code, release}
use Rattle.edge_model.specs.declared.end_place.EndPlace.{EndPlace}
use Rattle.edge_model.specs.EndPlaces.{end_named}
use Rattle.edge_model.specs.Signal.{end_of_fec, with_end_changed, with_named, with_released}
use Rattle.edge_model.specs.State.{EdgeState, end_at, with_end, with_ends_beside, with_kept}
use Rattle.flight_laws.specs.Binding.{heard_of, where_named}
use Rattle.flight_laws.specs.Bound.{given_of, AreBound, IsBoundBy, answered_part, is_withdrawal_of, names_old, withdraws_old}
use Rattle.flight_laws.specs.Flight.{all_messages}
use Rattle.flight_laws.proofs.BindingLemmas.{StaysGiven, binding_goes_on, binding_answers, binding_heard, binding_hears, binding_hears_withdrawal, binding_says_release}
use Rattle.flight_laws.proofs.GivenLemmas.{heard_given, released_ends}
use Rattle.flight_laws.proofs.EdgeBindingLemmas.{end_given, end_of_other, end_there}
use Rattle.flight_laws.proofs.PlaceLemmas.{IsNamed, named_is, not_named, wire_by_pw_id}

-- ---- what an edge makes of a message, wire by wire

pub record HearsAs (plan : Plan) (me peer : EdgeId) (m : Message) (old new : EdgeState) : Type 0 where
  pub label : StaysGiven (given_of old) (given_of new)
  pub local : (wire : WireId) (row : WirePlan) → wire_row plan wire ≡ Some row → joins me.0 peer.0 row.path ≡ true → (new.ends wire.0 peer.0).local
      ≡ answered_part row.pw_id m (old.ends wire.0 peer.0).local
  -- the message names its wire
  pub remote : (wire : WireId) (row : WirePlan) (next : ℕ → Bool) (near : LocalPart) → wire_row plan wire ≡ Some row → joins me.0 peer.0 row.path ≡ true → withdraws_old row.pw_id next near m ≡ true
      → (new.ends wire.0 peer.0).remote ≡ heard_of row.pw_id m (old.ends wire.0 peer.0).remote

near_heard : (plan : Plan) (me peer : EdgeId) (m : Message) (old new other : EdgeState) (out back : List Message) → HearsAs plan me peer m old new → AreBound plan me.0 peer.0 old other out (m ∷ back)
    → (wire : WireId) (row : WirePlan) → wire_row plan wire ≡ Some row → joins me.0 peer.0 row.path ≡ true
    → IsBoundBy row.pw_id (given_of new) (new.ends wire.0 peer.0).local (other.ends wire.0 me.0).remote out back
near_heard plan me peer m old new other out back hears bound wire row is joined =
    rw (hears.local wire row is joined) (binding_goes_on row.pw_id (given_of old) (given_of new) (answered_part row.pw_id m (old.ends wire.0 peer.0).local)
    (other.ends wire.0 me.0).remote out back hears.label
    (binding_hears row.pw_id (given_of old) (old.ends wire.0 peer.0).local (other.ends wire.0 me.0).remote m out back (bound.near wire row is joined)))

-- a message that is no withdrawal
pub bound_hears : (plan : Plan) (me peer : EdgeId) (m : Message) (old new other : EdgeState) (out back : List Message) → ((pw_id label : ℕ) → is_withdrawal_of pw_id label m ≡ false)
    → HearsAs plan me peer m old new
    → AreBound plan me.0 peer.0 old other out (m ∷ back) → AreBound plan me.0 peer.0 new other out back
bound_hears plan me peer m old new other out back none hears bound = record {
  near = near_heard plan me peer m old new other out back hears bound;
  far = λ wire row is joined.
      let own : IsBoundBy row.pw_id (given_of other) (other.ends wire.0 me.0).local (old.ends wire.0 peer.0).remote (m ∷ back) out = bound.far wire row is joined in
      rw (hears.remote wire row (given_of other) (other.ends wire.0 me.0).local is joined
      (first_holds (withdraws_old row.pw_id (given_of other) (other.ends wire.0 me.0).local m)
      (all_messages (withdraws_old row.pw_id (given_of other) (other.ends wire.0 me.0).local) back) own.withdrawn))
      (binding_heard row.pw_id (given_of other) (other.ends wire.0 me.0).local (old.ends wire.0 peer.0).remote m back out (λ label at. none row.pw_id label) own);
}

-- a withdrawal, which is answered
pub bound_hears_withdrawal : (plan : Plan) (me peer : EdgeId) (id id2 : ℕ) (fec : PwFec) (label : Option ℕ) (old new other : EdgeState) (out back : List Message)
    → HearsAs plan me peer (LabelWithdraw id fec label) old new → AreBound plan me.0 peer.0 old other out (LabelWithdraw id fec label ∷ back)
    → AreBound plan me.0 peer.0 new other (out ++ release fec label id2 ∷ []) back
bound_hears_withdrawal plan me peer id id2 fec label old new other out back hears bound = record {
  near = λ wire row is joined. binding_says_release row.pw_id (given_of new) (new.ends wire.0 peer.0).local (other.ends wire.0 me.0).remote out back id2 (bare fec) label
      (near_heard plan me peer (LabelWithdraw id fec label) old new other out back hears bound wire row is joined);
  far = λ wire row is joined.
      let own : IsBoundBy row.pw_id (given_of other) (other.ends wire.0 me.0).local (old.ends wire.0 peer.0).remote (LabelWithdraw id fec label ∷ back) out = bound.far wire row is joined in
      rw (hears.remote wire row (given_of other) (other.ends wire.0 me.0).local is joined
      (first_holds (withdraws_old row.pw_id (given_of other) (other.ends wire.0 me.0).local (LabelWithdraw id fec label))
      (all_messages (withdraws_old row.pw_id (given_of other) (other.ends wire.0 me.0).local) back) own.withdrawn))
      (binding_hears_withdrawal row.pw_id (given_of other) (other.ends wire.0 me.0).local (old.ends wire.0 peer.0).remote id id2 fec (bare fec) label back out refl own);
}

-- a mapping of a wire that is not known, whose label is released
pub bound_hears_unknown : (plan : Plan) (me peer : EdgeId) (id id2 : ℕ) (fec : PwFec) (label : ℕ) (status : Option PwStatus) (points : List Point) (edge other : EdgeState) (out back : List Message)
    → HearsAs plan me peer (LabelMapping id fec label status points) edge edge
    → ((wire : WireId) (row : WirePlan) (next : ℕ → Bool) (near : LocalPart) → wire_row plan wire ≡ Some row → joins me.0 peer.0 row.path ≡ true → is_some fec.pw_id ≡ true
    → names_old row.pw_id next near fec.pw_id (Some label) ≡ true)
    → AreBound plan me.0 peer.0 edge other out (LabelMapping id fec label status points ∷ back) → AreBound plan me.0 peer.0 edge other (out ++ release fec (Some label) id2 ∷ []) back
bound_hears_unknown plan me peer id id2 fec label status points edge other out back hears unknown bound =
    let m : Message = LabelMapping id fec label status points in
    let heard : AreBound plan me.0 peer.0 edge other out back = bound_hears plan me peer m edge edge other out back (λ pw_id own. refl) hears bound in
    record {
      near = λ wire row is joined. binding_says_release row.pw_id (given_of edge) (edge.ends wire.0 peer.0).local (other.ends wire.0 me.0).remote out back id2 (bare fec) (Some label)
          (heard.near wire row is joined);
      far = λ wire row is joined. binding_answers row.pw_id (given_of other) (other.ends wire.0 me.0).local (edge.ends wire.0 peer.0).remote back out (release fec (Some label) id2)
          (unknown wire row (given_of other) (other.ends wire.0 me.0).local is joined
          (first_holds (is_some fec.pw_id) (all_messages (withdraws_old row.pw_id (given_of other) (other.ends wire.0 me.0).local) back) (bound.far wire row is joined).withdrawn))
          (heard.far wire row is joined);
    }

-- ---- an end that a FEC names

-- of the wires beside the peer, that with the PW ID is changed
pub end_changed : (plan : Plan) (peer : EdgeId) (pw_id : ℕ) (change : EndState → EndState) (place : EndPlace) (edge : EdgeState) (wire : WireId) (row : WirePlan) → IsChecked plan
    → wire_row plan wire ≡ Some row
    → joins edge.me.0 peer.0 row.path ≡ true → end_named plan edge.me peer pw_id ≡ Some place
    → (with_end place (change (end_at edge place)) edge).ends wire.0 peer.0 ≡ cond (pw_id == row.pw_id) (change (edge.ends wire.0 peer.0)) (edge.ends wire.0 peer.0)
end_changed plan peer pw_id change place edge wire row checked is joined named =
    by_wire (nat_eq wire.0 place.wire.0) refl
  where
    there : IsNamed plan edge.me peer pw_id place
    there = named_is plan edge.me peer pw_id place named

    test : (same : Bool) → nat_eq wire.0 place.wire.0 ≡ same → (pw_id == row.pw_id) ≡ same
    test same e = wire_by_pw_id plan edge.me peer pw_id place wire row checked is joined named ∙ (equal_turned place.wire.0 wire.0 ∙ e)

    by_wire : (same : Bool) → nat_eq wire.0 place.wire.0 ≡ same
        → (with_end place (change (end_at edge place)) edge).ends wire.0 peer.0 ≡ cond (pw_id == row.pw_id) (change (edge.ends wire.0 peer.0)) (edge.ends wire.0 peer.0)
    by_wire true here = rw (test true here)
        (subst (λ (w : ℕ). (with_end place (change (end_at edge place)) edge).ends w peer.0 ≡ change (edge.ends w peer.0)) (sym (eqb-true wire.0 place.wire.0 here))
        (subst (λ (p : EdgeId). (with_end place (change (end_at edge place)) edge).ends place.wire.0 p.0 ≡ change (edge.ends place.wire.0 p.0)) there.peer_is
        (end_there place (change (end_at edge place)) edge)))
    by_wire false away = rw (test false away) (end_of_other place (change (end_at edge place)) edge wire.0 peer.0 away)

-- ---- the rows

local_of : (b : Bool) (one other : EndState) (near : LocalPart) → one.local ≡ near → other.local ≡ near → (cond b one other).local ≡ near
local_of true one other near left right = left
local_of false one other near left right = right

remote_of : (b : Bool) (one other : EndState) (x y : Option Binding) → one.remote ≡ x → other.remote ≡ y → (cond b one other).remote ≡ cond b x y
remote_of true one other x y left right = left
remote_of false one other x y left right = right

-- Label Mapping of a wire that is known
pub mapping_known : (plan : Plan) (peer : EdgeId) (id : ℕ) (fec : PwFec) (label : ℕ) (status : Option PwStatus) (points : List Point) (place : EndPlace) (edge : EdgeState) → IsChecked plan
    → end_of_fec plan edge peer fec ≡ Some place
    → HearsAs plan edge.me peer (LabelMapping id fec label status points) edge (with_end_changed (bound (binding_in fec label status points)) (Some place) edge)
mapping_known plan peer id fec label status points place edge checked named = by_name fec.pw_id refl named where
  binding : Binding
  binding = binding_in fec label status points

  new : EdgeState
  new = with_end place (bound binding (end_at edge place)) edge

  by_name : (name : Option ℕ) → fec.pw_id ≡ name → option_and_then (end_named plan edge.me peer) name ≡ Some place → HearsAs plan edge.me peer (LabelMapping id fec label status points) edge new
  by_name None is none = absurd (cc)
  by_name (Some n) is there = record {
    label = end_given place (bound binding (end_at edge place)) edge;
    local = λ wire row at joined. ap (λ (e : EndState). e.local) (end_changed plan peer n (bound binding) place edge wire row checked at joined there)
        ∙ local_of (n == row.pw_id) (bound binding (edge.ends wire.0 peer.0)) (edge.ends wire.0 peer.0) (edge.ends wire.0 peer.0).local refl refl;
    remote = λ wire row next near at joined alone. rw is (ap (λ (e : EndState). e.remote) (end_changed plan peer n (bound binding) place edge wire row checked at joined there)
        ∙ remote_of (n == row.pw_id) (bound binding (edge.ends wire.0 peer.0)) (edge.ends wire.0 peer.0) (Some binding) (edge.ends wire.0 peer.0).remote refl refl);
  }

-- of one that is not known
pub mapping_unknown : (plan : Plan) (peer : EdgeId) (id : ℕ) (fec : PwFec) (label : ℕ) (status : Option PwStatus) (points : List Point) (edge : EdgeState) → IsChecked plan
    → end_of_fec plan edge peer fec ≡ None
    → HearsAs plan edge.me peer (LabelMapping id fec label status points) edge edge
mapping_unknown plan peer id fec label status points edge checked none = record {
  label = λ label given. given;
  local = λ wire row at joined. refl;
  remote = λ wire row next near at joined alone. by_name wire row at joined fec.pw_id refl none;
}
  where
    by_name : (wire : WireId) (row : WirePlan) → wire_row plan wire ≡ Some row → joins edge.me.0 peer.0 row.path ≡ true → (name : Option ℕ) → fec.pw_id ≡ name
        → option_and_then (end_named plan edge.me peer) name ≡ None
        → (edge.ends wire.0 peer.0).remote ≡ where_named row.pw_id fec name (Some (binding_in fec label status points)) (edge.ends wire.0 peer.0).remote (edge.ends wire.0 peer.0).remote
    by_name wire row at joined None is none = either (is_in_group fec.group (edge.ends wire.0 peer.0).remote)
      where
        either : (b : Bool) → (edge.ends wire.0 peer.0).remote ≡ cond b (edge.ends wire.0 peer.0).remote (edge.ends wire.0 peer.0).remote
        either true = refl
        either false = refl
    by_name wire row at joined (Some n) is none = rw (not_named plan edge.me peer n wire row checked at joined none) refl

-- and then its label is none of a wire between the two
pub unknown_released : (plan : Plan) (peer : EdgeId) (fec : PwFec) (label : ℕ) (edge : EdgeState) → IsChecked plan → end_of_fec plan edge peer fec ≡ None
    → (wire : WireId) (row : WirePlan) (next : ℕ → Bool) (near : LocalPart) → wire_row plan wire ≡ Some row → joins edge.me.0 peer.0 row.path ≡ true → is_some fec.pw_id ≡ true
    → names_old row.pw_id next near fec.pw_id (Some label) ≡ true
unknown_released plan peer fec label edge checked none wire row next near at joined some = by_name fec.pw_id none some where
  by_name : (name : Option ℕ) → option_and_then (end_named plan edge.me peer) name ≡ None → is_some name ≡ true → names_old row.pw_id next near name (Some label) ≡ true
  by_name None none some = clash some
  by_name (Some n) none some = rw (not_named plan edge.me peer n wire row checked at joined none) refl

-- what changes the end that a FEC names alone
changed_ends : (plan : Plan) (peer : EdgeId) (n : ℕ) (change : EndState → EndState) (edge : EdgeState) (wire : WireId) (row : WirePlan) → IsChecked plan → wire_row plan wire ≡ Some row
    → joins edge.me.0 peer.0 row.path ≡ true
    → (with_end_changed change (end_named plan edge.me peer n) edge).ends wire.0 peer.0 ≡ cond (n == row.pw_id) (change (edge.ends wire.0 peer.0)) (edge.ends wire.0 peer.0)
changed_ends plan peer n change edge wire row checked at joined = by_end (end_named plan edge.me peer n) refl where
  by_end : (found : Option EndPlace) → end_named plan edge.me peer n ≡ found → (with_end_changed change found edge).ends wire.0 peer.0
      ≡ cond (n == row.pw_id) (change (edge.ends wire.0 peer.0)) (edge.ends wire.0 peer.0)
  by_end None is = rw (not_named plan edge.me peer n wire row checked at joined is) refl
  by_end (Some place) is = end_changed plan peer n change place edge wire row checked at joined is

changed_label : (change : EndState → EndState) (found : Option EndPlace) (edge : EdgeState) → StaysGiven (given_of edge) (given_of (with_end_changed change found edge))
unfolding with_end
changed_label change None edge = λ label given. given
changed_label change (Some place) edge = λ label given. given

beside_label : (peer : EdgeId) (change : EndState → EndState) (edge : EdgeState) → StaysGiven (given_of edge) (given_of (with_ends_beside peer change edge))
unfolding with_ends_beside
beside_label peer change edge = λ label given. given

beside_ends : (peer : EdgeId) (change : EndState → EndState) (edge : EdgeState) (wire : ℕ) → (with_ends_beside peer change edge).ends wire peer.0 ≡ change (edge.ends wire peer.0)
unfolding with_ends_beside with_kept
beside_ends peer change edge wire = rw (itself peer.0) refl

-- Label Withdraw
pub withdraw_heard : (plan : Plan) (peer : EdgeId) (id : ℕ) (fec : PwFec) (label : Option ℕ) (edge : EdgeState) → IsChecked plan
    → HearsAs plan edge.me peer (LabelWithdraw id fec label) edge (with_named plan peer fec (unbound label) (group_unbound fec.group) fec.pw_id edge)
withdraw_heard plan peer id fec label edge checked = by_name fec.pw_id refl where
  group_local : (b : Bool) (e : EndState) → (cond b (unbound None e) e).local ≡ e.local
  group_local true e = refl
  group_local false e = refl

  by_name : (name : Option ℕ) → fec.pw_id ≡ name → HearsAs plan edge.me peer (LabelWithdraw id fec label) edge (with_named plan peer fec (unbound label) (group_unbound fec.group) name edge)
  by_name None is = record {
    label = beside_label peer (group_unbound fec.group) edge;
    local = λ wire row at joined. ap (λ (e : EndState). e.local) (beside_ends peer (group_unbound fec.group) edge wire.0)
        ∙ group_local (is_in_group fec.group (edge.ends wire.0 peer.0).remote) (edge.ends wire.0 peer.0);
    remote = λ wire row next near at joined alone. clash (rw is at alone);
  }
  by_name (Some n) is = record {
    label = changed_label (unbound label) (end_named plan edge.me peer n) edge;
    local = λ wire row at joined. ap (λ (e : EndState). e.local) (changed_ends plan peer n (unbound label) edge wire row checked at joined)
        ∙ local_of (n == row.pw_id) (unbound label (edge.ends wire.0 peer.0)) (edge.ends wire.0 peer.0) (edge.ends wire.0 peer.0).local refl refl;
    remote = λ wire row next near at joined alone. rw is (ap (λ (e : EndState). e.remote) (changed_ends plan peer n (unbound label) edge wire row checked at joined)
        ∙ remote_of (n == row.pw_id) (unbound label (edge.ends wire.0 peer.0)) (edge.ends wire.0 peer.0) (unless_named label (edge.ends wire.0 peer.0).remote)
        (edge.ends wire.0 peer.0).remote refl refl);
  }

-- Label Release
pub release_heard : (plan : Plan) (peer : EdgeId) (id : ℕ) (fec : PwFec) (label : Option ℕ) (edge : EdgeState) → IsChecked plan
    → HearsAs plan edge.me peer (LabelRelease id fec label) edge (with_released label (end_of_fec plan edge peer fec) edge)
release_heard plan peer id fec label edge checked = by_name fec.pw_id refl where
  part_of : (b : Bool) (e : EndState) → (cond b (released label e) e).local ≡ cond b (release_part label e.local) e.local
  part_of true e = refl
  part_of false e = refl

  same_remote : (b : Bool) (e : EndState) → (cond b (released label e) e).remote ≡ e.remote
  same_remote true e = refl
  same_remote false e = refl

  by_name : (name : Option ℕ) → fec.pw_id ≡ name → HearsAs plan edge.me peer (LabelRelease id fec label) edge (with_released label (option_and_then (end_named plan edge.me peer) name) edge)
  by_name None is = record { label = λ label given. given; local = λ wire row at joined. rw is refl; remote = λ wire row next near at joined alone. refl }
  by_name (Some n) is = record {
    label = heard_given label (end_named plan edge.me peer n) edge;
    local = λ wire row at joined. rw is (ap (λ (f : ℕ → ℕ → EndState). (f wire.0 peer.0).local) (released_ends label (end_named plan edge.me peer n) edge)
        ∙ ap (λ (e : EndState). e.local) (changed_ends plan peer n (released label) edge wire row checked at joined) ∙ part_of (n == row.pw_id) (edge.ends wire.0 peer.0));
    remote = λ wire row next near at joined alone. ap (λ (f : ℕ → ℕ → EndState). (f wire.0 peer.0).remote) (released_ends label (end_named plan edge.me peer n) edge)
        ∙ ap (λ (e : EndState). e.remote) (changed_ends plan peer n (released label) edge wire row checked at joined) ∙ same_remote (n == row.pw_id) (edge.ends wire.0 peer.0);
  }

-- a status, of a pseudowire
pub status_heard_as : (plan : Plan) (peer : EdgeId) (id : ℕ) (code : StatusCode) (status : PwStatus) (fec : PwFec) (edge : EdgeState) → IsChecked plan → code.code == pw_status_code ≡ true
    → HearsAs plan edge.me peer (Notification id code (Some status) (Some fec)) edge (with_named plan peer fec (stated status) (group_stated fec.group status) fec.pw_id edge)
status_heard_as plan peer id code status fec edge checked right = by_name fec.pw_id refl where
  group_local : (b : Bool) (e : EndState) → (cond b (stated status e) e).local ≡ e.local
  group_local true e = refl
  group_local false e = refl

  by_name : (name : Option ℕ) → fec.pw_id ≡ name → HearsAs plan edge.me peer (Notification id code (Some status) (Some fec)) edge
      (with_named plan peer fec (stated status) (group_stated fec.group status) name edge)
  by_name None is = record {
    label = beside_label peer (group_stated fec.group status) edge;
    local = λ wire row at joined. ap (λ (e : EndState). e.local) (beside_ends peer (group_stated fec.group status) edge wire.0)
        ∙ group_local (is_in_group fec.group (edge.ends wire.0 peer.0).remote) (edge.ends wire.0 peer.0);
    remote = λ wire row next near at joined alone. clash (rw is at alone);
  }
  by_name (Some n) is = record {
    label = changed_label (stated status) (end_named plan edge.me peer n) edge;
    local = λ wire row at joined. ap (λ (e : EndState). e.local) (changed_ends plan peer n (stated status) edge wire row checked at joined)
        ∙ local_of (n == row.pw_id) (stated status (edge.ends wire.0 peer.0)) (edge.ends wire.0 peer.0) (edge.ends wire.0 peer.0).local refl refl;
    remote = λ wire row next near at joined alone. rw (right, is) (ap (λ (e : EndState). e.remote) (changed_ends plan peer n (stated status) edge wire row checked at joined)
        ∙ remote_of (n == row.pw_id) (stated status (edge.ends wire.0 peer.0)) (edge.ends wire.0 peer.0) (status_part status (edge.ends wire.0 peer.0).remote)
        (edge.ends wire.0 peer.0).remote refl refl);
  }

-- a notification of another code
pub other_code : (plan : Plan) (peer : EdgeId) (id : ℕ) (code : StatusCode) (status : PwStatus) (fec : PwFec) (edge : EdgeState) → code.code == pw_status_code ≡ false
    → HearsAs plan edge.me peer (Notification id code (Some status) (Some fec)) edge edge
other_code plan peer id code status fec edge wrong = record { label = λ label given. given; local = λ wire row at joined. refl; remote = λ wire row next near at joined alone. rw wrong refl }
