-- An edge that hears a MAC withdraw forgets what its bridge has learned, and passes the addresses on in pieces: what the rows of
-- mending keep is kept.
use Rattle.std.proofs.Common.{◌≡◌, ◌+◌, ℕ, Bool, true, false, cond, List, [], ◌∷◌, Option, Some, None, refl, subst}
use Rattle.std.specs.List.{AllByRecursion}
use Rattle.net_base.specs.declared.plan.Plan.{Plan}
use Rattle.net_base.specs.declared.plan.places.EdgeId.{EdgeId}
use Rattle.net_base.specs.declared.plan.places.ServiceId.{ServiceId}
use Rattle.net_base.specs.declared.plan.places.WireId.{WireId}
use Rattle.net_base.specs.declared.plan.wire_plan.WirePlan.{WirePlan}
use Rattle.net_values.specs.declared.mac.Mac.{Mac}
use Rattle.net_base.specs.plan.Places.{wire_row}
use Rattle.pw_tlvs.specs.declared.pw_fec.PwFec.{PwFec}
use Rattle.hvpls_spokes.specs.declared.edge_role.Role.{Role}
use Rattle.hvpls_spokes.specs.declared.port.Port.{Port}
use Rattle.hvpls_spokes.specs.declared.port.Port.TheVariants as port
use Rattle.hvpls_spokes.specs.Port.{ports_of}
use Rattle.hvpls_spokes.specs.Role as roles
use Rattle.mac_withdraw.specs.Passing.{is_passed_to}
use Rattle.mac_withdraw.specs.Pieces.{pieces_of}
use Rattle.edge_model.specs.declared.end_place.EndPlace.{EndPlace}
use Rattle.edge_model.specs.Across.{end_beside, end_beyond, mate_of}
use Rattle.edge_model.specs.Clear.{clears_at, clears_by, clears_wire, hears_mac_withdraw, passes_on, tells_at, tells_by, withdrawing_at}
use Rattle.edge_model.specs.EndPlaces.{end_places, is_at, is_end_of_wire}
use Rattle.edge_model.specs.Ends.{wire_end}
use Rattle.edge_model.specs.Frame.{copies}
use Rattle.edge_model.specs.Mend.{port_of_wire}
use Rattle.edge_model.specs.Signal.{end_of_fec}
use Rattle.edge_model.specs.State.{EdgeState, with_addresses}
use Rattle.edge_model.specs.Withdraw.{tells_piece, tells_pieces}
use Rattle.edge_model.specs.Work.{Work, changes}
use Rattle.network_model.specs.Absorb.{taken_all}
use Rattle.flight_laws.proofs.KeepLemmas.{KeepsEnds}
use Rattle.flight_laws.proofs.MendingLemmas.{KeptByRows, piece_keeps}
use Rattle.flight_laws.proofs.PieceLemmas.{AreSixOctetsEach, IsPiece, pieces_are}
use Rattle.flight_laws.proofs.PlaceLemmas.{IsEndOf, find_holds, places_are}

-- what the bridge has learned is no matter of neighbours and of the ends of pseudowires
pub forgetting_rest : (service : ServiceId) (addresses : List Mac) (from : ℕ) (edge : EdgeState) → KeepsEnds edge (withdrawing_at service addresses from edge)
    × ((withdrawing_at service addresses from edge).peering ≡ edge.peering)
unfolding with_addresses
forgetting_rest service addresses from edge = (record { me = refl; wire_on = refl; bits = refl; ends = refl; told_down = refl; next_label = refl; kept = refl }, refl)

-- the terminal end of a wire is one of the edge
pub wire_end_is : (plan : Plan) (me : EdgeId) (wire : WireId) (place : EndPlace) → wire_end plan me wire ≡ Some place → IsEndOf plan me place
wire_end_is plan me wire place e = (find_holds (IsEndOf plan me) (is_end_of_wire wire) (end_places plan me) place (places_are plan me) e).holds

-- and so is the end on the other side of one
end_beyond_is : (plan : Plan) (me : EdgeId) (place other : EndPlace) → end_beyond plan me place ≡ Some other → IsEndOf plan me other
end_beyond_is plan me place other = by_mate (mate_of me place (wire_row plan place.wire)) where
  by_mate : (peer : Option EdgeId) → end_beside plan me place.wire peer ≡ Some other → IsEndOf plan me other
  by_mate None e = absurd (cc)
  by_mate (Some peer) e = (find_holds (IsEndOf plan me) (is_at place.wire.0 peer.0) (end_places plan me) other (places_are plan me) e).holds

module _ (plan : Plan) (me : EdgeId) (I : Work → Type 0) (kept : KeptByRows plan me I) where
  pieces_keep : (place : EndPlace) → IsEndOf plan me place → (pieces : List (List Mac)) → AllByRecursion IsPiece pieces → (work : Work) → I work → I (tells_pieces taken_all place pieces work)
  pieces_keep place is [] all work i = i
  pieces_keep place is (piece ∷ pieces) all work i = pieces_keep place is pieces all.1 (tells_piece taken_all place piece work).work (piece_keeps plan me I kept place is piece all.0 work i)

  module _ (addresses : List Mac) (are : AreSixOctetsEach addresses) where
    wire_keeps : (wire : WireId) (work : Work) → I work → I (tells_by taken_all addresses (wire_end plan work.edge.me wire) work)
    wire_keeps wire work i = by_end (wire_end plan work.edge.me wire) refl where
      by_end : (found : Option EndPlace) → wire_end plan work.edge.me wire ≡ found → I (tells_by taken_all addresses found work)
      by_end None e = i
      by_end (Some place) e =
          pieces_keep place (subst (λ (k : EdgeId). IsEndOf plan k place) (kept.placed work i) (wire_end_is plan work.edge.me wire place e)) (pieces_of addresses) (pieces_are addresses are) work i

    port_keeps : (p : Port) (work : Work) → I work → I (tells_at plan taken_all addresses p work)
    port_keeps (port.Circuit circuit) work i = i
    port_keeps (port.Mesh wire) work i = wire_keeps wire work i
    port_keeps (port.Spoke wire) work i = wire_keeps wire work i

    ports_keep : (targets : ℕ → Bool) (p : ℕ) (ports : List Port) (work : Work) → I work → I (copies targets (tells_at plan taken_all addresses) p ports work)
    ports_keep targets p [] work i = i
    ports_keep targets p (x ∷ xs) work i = ports_keep targets (p + 1) xs _ (by_target (targets p)) where
      by_target : (b : Bool) → I (cond b (tells_at plan taken_all addresses x work) work)
      by_target true = port_keeps x work i
      by_target false = i

    passes_keep : (service : ServiceId) (from : ℕ) (role : Option Role) (work : Work) → I work → I (passes_on plan taken_all addresses service from role work)
    passes_keep service from None work i = i
    passes_keep service from (Some role) work i = ports_keep (is_passed_to role (ports_of plan service work.edge.me) from) 0 (ports_of plan service work.edge.me) work i

    service_keeps : (service : ServiceId) (from : Option ℕ) (work : Work) → I work → I (clears_at plan taken_all addresses service from work)
    service_keeps service None work i = i
    service_keeps service (Some from) work i =
        let rest = forgetting_rest service addresses from work.edge in
        passes_keep service from (roles.role_of plan service work.edge.me) (changes (withdrawing_at service addresses from) work)
        (kept.others (withdrawing_at service addresses from) work rest.0 rest.1 i)

    row_keeps : (place : EndPlace) (row : Option WirePlan) (work : Work) → I work → I (clears_wire plan taken_all addresses place row work)
    row_keeps place None work i = i
    row_keeps place (Some row) work i = service_keeps row.service (port_of_wire plan work.edge place.wire row) work i

    beyond_keeps : (place : EndPlace) (work : Work) → I work → I (tells_by taken_all addresses (end_beyond plan work.edge.me place) work)
    beyond_keeps place work i = by_end (end_beyond plan work.edge.me place) refl where
      by_end : (found : Option EndPlace) → end_beyond plan work.edge.me place ≡ found → I (tells_by taken_all addresses found work)
      by_end None e = i
      by_end (Some other) e =
          pieces_keep other (subst (λ (k : EdgeId). IsEndOf plan k other) (kept.placed work i) (end_beyond_is plan work.edge.me place other e)) (pieces_of addresses) (pieces_are addresses are) work i

    end_keeps : (found : Option EndPlace) (work : Work) → I work → I (clears_by plan taken_all addresses found work)
    end_keeps None work i = i
    end_keeps (Some place) work i = by_side place.terminal where
      by_side : (terminal : Bool) → I (cond terminal (clears_wire plan taken_all addresses place (wire_row plan place.wire) work)
          (tells_by taken_all addresses (end_beyond plan work.edge.me place) work))
      by_side true = row_keeps place (wire_row plan place.wire) work i
      by_side false = beyond_keeps place work i

  pub withdraw_keeps : (peer : EdgeId) (fec : PwFec) (addresses : List Mac) → AreSixOctetsEach addresses → (work : Work) → I work
      → I (hears_mac_withdraw plan taken_all peer (Some fec) (Some addresses) work)
  withdraw_keeps peer fec addresses are work i = end_keeps addresses are (end_of_fec plan work.edge peer fec) work i
