-- A switching point hears a withdrawal of all addresses: it says one at the end on its other side.
use Rattle.std.proofs.Common.{◌≡◌, ◌∙◌, ◌||◌, ◌==◌, cond, option_and_then, Bool, true, false, ℕ, List, [], ◌∷◌, Option, Some, sym, ap}
use Rattle.std.proofs.lemmas.Bool.{eqb-true, eq-eqb, and_from, or_left, or_right}
use Rattle.std.specs.List.{find, list_any}
use Rattle.net_values.proofs.BoolLemmas.{first_holds, second_holds}
use Rattle.net_base.proofs.PathLemmas.{mate_joined}
use Rattle.net_base.specs.declared.plan.Plan.{Plan}
use Rattle.net_base.specs.declared.plan.places.EdgeId.{EdgeId}
use Rattle.net_base.specs.declared.plan.places.WireId.{WireId}
use Rattle.net_base.specs.declared.plan.wire_plan.WirePlan.{WirePlan}
use Rattle.net_base.specs.plan.Accepted.{IsChecked}
use Rattle.net_base.specs.plan.Paths.{joins, mate_on}
use Rattle.net_base.specs.plan.Places.{wire_row}
use Rattle.pw_tlvs.specs.declared.pw_fec.PwFec.{PwFec}
use Rattle.edge_model.specs.Across.{end_beside, end_beyond, mate_of}
use Rattle.edge_model.specs.Clear.{clears_by, clears_wire, hears_mac_withdraw, tells_by}
use Rattle.edge_model.specs.EndPlaces.{end_named, end_places, is_at, is_named, is_terminal}
use Rattle.edge_model.specs.Work.{Work}
use Rattle.edge_model.specs.declared.end_place.EndPlace.{EndPlace}
use Rattle.network_model.specs.Absorb.{taken_all}
use Rattle.flight_laws.proofs.PlaceLemmas.{Finds, IsEndOf, IsFound, NamedEnd, end_of, find_holds, find_some, named_is, places_are, same_row}

-- what one test finds another one finds too, where it passes it
found_any : (one other : EndPlace → Bool) (places : List EndPlace) (place : EndPlace) → find one places ≡ Some place → other place ≡ true → list_any other places ≡ true
found_any one other [] place is passes = absurd (cc (is))
found_any one other (x ∷ xs) place is passes = by (one x) is (found_any one other xs place) where
  same : Some x ≡ Some place → x ≡ place
  same e = cc

  by : (b : Bool) → cond b (Some x) (find one xs) ≡ Some place → (find one xs ≡ Some place → other place ≡ true → list_any other xs ≡ true) → other x || list_any other xs ≡ true
  by true is later = or_left (other x) (list_any other xs) (ap other (same is) ∙ passes)
  by false is later = or_right (other x) (list_any other xs) (later is passes)

-- the end of a wire beside a neighbour
pub record HasEndBeside (plan : Plan) (me to : EdgeId) (wire : WireId) : Type 0 where
  pub place : EndPlace
  pub is : end_beside plan me wire (Some to) ≡ Some place
  pub end : IsEndOf plan me place
  pub wire_is : place.wire ≡ wire
  pub peer_is : place.peer ≡ to

pub beside_is : (plan : Plan) (me to : EdgeId) (wire : WireId) (row : WirePlan) → IsChecked plan → wire_row plan wire ≡ Some row → joins me.0 to.0 row.path ≡ true → HasEndBeside plan me to wire
beside_is plan me to wire row checked is joined =
    let near : NamedEnd plan me to wire row = end_of plan me to wire row checked is joined in
    let here : is_at wire.0 to.0 near.place ≡ true = and_from (wire.0 == near.place.wire.0) (to.0 == near.place.peer.0)
    (eq-eqb wire.0 near.place.wire.0 (ap (λ (w : WireId). w.0) (sym near.wire_is))) (eq-eqb to.0 near.place.peer.0 (ap (λ (k : EdgeId). k.0) (sym near.peer_is))) in
    let found : Finds (is_at wire.0 to.0) (end_places plan me) =
    find_some (is_at wire.0 to.0) (end_places plan me) (found_any (is_named to row.pw_id) (is_at wire.0 to.0) (end_places plan me) near.place near.named here) in
    let holds : IsFound (IsEndOf plan me) (is_at wire.0 to.0) found.place = find_holds (IsEndOf plan me) (is_at wire.0 to.0) (end_places plan me) found.place (places_are plan me) found.is in
    record {
      place = found.place;
      is = found.is;
      end = holds.holds;
      wire_is = ap (λ (n : ℕ). record { 0 = n }) (sym (eqb-true wire.0 found.place.wire.0 (first_holds (wire.0 == found.place.wire.0) (to.0 == found.place.peer.0) holds.passes)));
      peer_is = ap (λ (n : ℕ). record { 0 = n }) (sym (eqb-true to.0 found.place.peer.0 (second_holds (wire.0 == found.place.wire.0) (to.0 == found.place.peer.0) holds.passes)));
    }

-- a withdrawal that names a wire is passed on to the mate
module _ (plan : Plan) (me from to : EdgeId) (wire : WireId) (row : WirePlan) (fec : PwFec) (work : Work) (checked : IsChecked plan) (placed : work.edge.me ≡ me) (is : wire_row plan wire ≡ Some row)
    (joined : joins me.0 from.0 row.path ≡ true) (mated : mate_on row.path me.0 from.0 ≡ Some to) (inside : is_terminal row me ≡ false) (named : fec.pw_id ≡ Some row.pw_id) where
  near : NamedEnd plan me from wire row
  near = end_of plan me from wire row checked is joined

  holds : IsEndOf plan me near.place
  holds = (named_is plan me from row.pw_id near.place near.named).holds

  row_is : holds.row ≡ row
  row_is = same_row holds.row row (sym holds.is ∙ (ap (wire_row plan) near.wire_is ∙ is))

  passes : near.place.terminal ≡ false
  passes = holds.terminal ∙ (ap (λ (r : WirePlan). is_terminal r me) row_is ∙ inside)

  pub beyond : HasEndBeside plan me to wire
  beyond = beside_is plan me to wire row checked is (mate_joined row.path me.0 from.0 to mated)

  beyond_is : end_beyond plan me near.place ≡ Some beyond.place
  beyond_is =
      ap (λ (w : WireId). end_beside plan me w (mate_of me near.place (wire_row plan w))) near.wire_is
      ∙ (ap (λ (o : Option WirePlan). end_beside plan me wire (mate_of me near.place o)) is
      ∙ (ap (λ (k : EdgeId). end_beside plan me wire (mate_on row.path me.0 k.0)) near.peer_is
      ∙ (ap (end_beside plan me wire) mated ∙ beyond.is)))

  pub heard_beyond : hears_mac_withdraw plan taken_all from (Some fec) (Some []) work ≡ tells_by taken_all [] (Some beyond.place) work
  heard_beyond =
      ap (λ (o : Option EndPlace). clears_by plan taken_all [] o work) found_end
      ∙ (ap (λ (b : Bool). cond b (clears_wire plan taken_all [] near.place (wire_row plan near.place.wire) work) (tells_by taken_all [] (end_beyond plan work.edge.me near.place) work)) passes
      ∙ (ap (λ (k : EdgeId). tells_by taken_all [] (end_beyond plan k near.place) work) placed ∙ ap (λ (o : Option EndPlace). tells_by taken_all [] o work) beyond_is))
    where
      found_end : option_and_then (end_named plan work.edge.me from) fec.pw_id ≡ Some near.place
      found_end = ap (option_and_then (end_named plan work.edge.me from)) named ∙ (ap (λ (k : EdgeId). end_named plan k from row.pw_id) placed ∙ near.named)
