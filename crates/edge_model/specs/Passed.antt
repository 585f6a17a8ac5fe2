-- By which wires a withdrawal of addresses goes on from a core edge: by each one that split horizon lets it, whose end at the edge
-- advertises and whose session stands (RFC 4762 sections 4.4 and 6.2).
use Rattle.std.specs.Prelude.{◌≡◌, ◌++◌, ℕ, true, List, ◌∷◌, Some, slice_get}
use Rattle.std.specs.List.{AllByRecursion}
use Rattle.net_base.specs.declared.plan.Plan.{Plan}
use Rattle.net_base.specs.declared.plan.places.EdgeId.{EdgeId}
use Rattle.net_base.specs.declared.plan.places.ServiceId.{ServiceId}
use Rattle.net_base.specs.declared.plan.places.WireId.{WireId}
use Rattle.net_base.specs.declared.plan.wire_plan.WirePlan.{WirePlan}
use Rattle.net_base.specs.declared.trace.state_name.Reason.TheVariants as reason
use Rattle.net_base.specs.declared.trace.state_name.StateName.TheVariants as name
use Rattle.net_base.specs.plan.Places.{wire_row}
use Rattle.net_values.specs.declared.mac.Mac.{Mac}
use Rattle.pw_messages.specs.Content.{mac_withdrawal}
use Rattle.pw_messages.specs.LinkAnswers.{Answers}
use Rattle.pw_messages.specs.Sender.{platform_of}
use Rattle.hvpls_spokes.specs.declared.edge_role.Role.TheVariants as role
use Rattle.hvpls_spokes.specs.declared.port.Port.{Port}
use Rattle.hvpls_spokes.specs.declared.port.Port.TheVariants as port
use Rattle.hvpls_spokes.specs.Port.{is_wire_port, ports_of}
use Rattle.hvpls_spokes.specs.Role as roles
use Rattle.ldp_grammar.specs.Written.{written}
use Rattle.mac_withdraw.specs.Passing.{is_passed_to}
use Rattle.mac_withdraw.specs.Pieces.{pieces_of}
use Rattle.pw_signalling.specs.declared.told.Told.{Told}
use Rattle.pw_signalling.specs.End.{Advertised}
use Rattle.pw_tlvs.specs.declared.pw_fec.PwFec.{PwFec}
use Rattle.edge_model.specs.Clear.{hears_mac_withdraw}
use Rattle.edge_model.specs.declared.effect.Effect.{Effect}
use Rattle.edge_model.specs.declared.effect.Effect.TheVariants.{Said, Session, Closed}
use Rattle.edge_model.specs.declared.end_place.EndPlace.{EndPlace}
use Rattle.edge_model.specs.Ends.{wire_end}
use Rattle.edge_model.specs.Mend.{port_of_wire}
use Rattle.edge_model.specs.Signal.{end_of_fec}
use Rattle.edge_model.specs.State.{EdgeState, Peering, end_at, has_end}
use Rattle.edge_model.specs.Work.{Work}

-- ---- where a withdrawal goes

-- one about the pseudowire of this FEC comes by the port `from` of a service to a core edge of the service
pub record ComesToCore (plan : Plan) (edge : EdgeState) (peer : EdgeId) (fec : PwFec) (service : ServiceId) (from : ℕ) : Type 0 where
  pub place : EndPlace
  pub row : WirePlan
  pub named : end_of_fec plan edge peer fec ≡ Some place
  pub terminal : place.terminal ≡ true
  pub is : wire_row plan place.wire ≡ Some row
  pub of_service : row.service ≡ service
  pub found : port_of_wire plan edge place.wire row ≡ Some from
  pub core : roles.role_of plan service edge.me ≡ Some role.Core

-- split horizon lets it go on by the edge's end of a wire of the service
pub record MayGoOnBy (plan : Plan) (edge : EdgeState) (service : ServiceId) (from : ℕ) (place : EndPlace) : Type 0 where
  pub p : ℕ
  pub x : Port
  pub at : slice_get (ports_of plan service edge.me) p ≡ Some x
  pub to_wire : is_wire_port place.wire x ≡ true
  pub passed : is_passed_to role.Core (ports_of plan service edge.me) from p ≡ true
  pub here : wire_end plan edge.me place.wire ≡ Some place

-- and that end advertises this content in a session that stands
pub record GoesOnBy (plan : Plan) (edge : EdgeState) (service : ServiceId) (from : ℕ) (place : EndPlace) (content : Told) (kept : Peering) : Type 0 where
  pub may : MayGoOnBy plan edge service from place
  pub label : ℕ
  pub advertises : (end_at edge place).local ≡ Advertised label content
  pub stands : edge.peering place.peer.0 ≡ Some kept

-- ---- what is given out

-- more was given out, of which this holds
pub record GivesMore (old new : List Effect) (So : List Effect → Type 0) : Type 0 where
  pub more : List Effect
  pub given : new ≡ old ++ more
  pub so : So more

-- a piece as an end tells it, with some Message ID
abbrev pub piece_octets : EndPlace → Told → Peering → List Mac → ℕ → List ℕ
piece_octets place content kept piece id = written (mac_withdrawal place.pw_id piece content id) (platform_of kept.session.peers.me)

-- the link took it
pub record WasTold (place : EndPlace) (content : Told) (kept : Peering) (effects : List Effect) (piece : List Mac) : Type 0 where
  pub before : List Effect
  pub after : List Effect
  pub id : ℕ
  pub split : effects ≡ before ++ Said place.peer (piece_octets place content kept piece id) ∷ after

-- octets that were said are a piece of the addresses, told by an end by which the withdrawal goes on
pub record IsPassed (plan : Plan) (edge : EdgeState) (service : ServiceId) (from : ℕ) (pieces : List (List Mac)) (peer : EdgeId) (octets : List ℕ) : Type 0 where
  pub place : EndPlace
  pub content : Told
  pub kept : Peering
  pub by : GoesOnBy plan edge service from place content kept
  pub same_peer : peer ≡ place.peer
  pub before : List (List Mac)
  pub piece : List Mac
  pub after : List (List Mac)
  pub among : pieces ≡ before ++ piece ∷ after
  pub id : ℕ
  pub are : octets ≡ piece_octets place content kept piece id

-- such octets were said, or a session has ended, since the link did not take one
abbrev pub IsOfPassing : Plan → EdgeState → ServiceId → ℕ → List (List Mac) → Effect → Type 0
IsOfPassing plan edge service from pieces (Said peer octets) = IsPassed plan edge service from pieces peer octets
IsOfPassing plan edge service from pieces (Session peer state) = state ≡ name.Ended reason.LinkFault
IsOfPassing plan edge service from pieces (Closed peer) = Unit {0}
IsOfPassing plan edge service from pieces effect = ⊥

-- Whatever the link answers, and whatever the state of the edge.
pub record WithdrawalsGoOn : Type 0 where
  -- each piece goes on by each such wire, but where the session there has ended, since the link did not take one
  pub reaches : (plan : Plan) (told : Answers) (peer : EdgeId) (fec : PwFec) (addresses : List Mac) (service : ServiceId) (from : ℕ) (place : EndPlace) (content : Told) (kept : Peering) (work : Work)
      → ComesToCore plan work.edge peer fec service from → GoesOnBy plan work.edge service from place content kept
      → has_end (hears_mac_withdraw plan told peer (Some fec) (Some addresses) work).edge place.peer ≡ true
      → GivesMore work.effects (hears_mac_withdraw plan told peer (Some fec) (Some addresses) work).effects (λ more. AllByRecursion (WasTold place content kept more) (pieces_of addresses))
  -- and by no other one
  pub alone : (plan : Plan) (told : Answers) (peer : EdgeId) (fec : PwFec) (addresses : List Mac) (service : ServiceId) (from : ℕ) (work : Work)
      → ComesToCore plan work.edge peer fec service from
      → GivesMore work.effects (hears_mac_withdraw plan told peer (Some fec) (Some addresses) work).effects (AllByRecursion (IsOfPassing plan work.edge service from (pieces_of addresses)))
  -- what came by a spoke may go on by each mesh wire
  pub to_mesh : (plan : Plan) (edge : EdgeState) (service : ServiceId) (from p : ℕ) (spoke mesh : WireId) (place : EndPlace)
      → slice_get (ports_of plan service edge.me) from ≡ Some (port.Spoke spoke) → slice_get (ports_of plan service edge.me) p ≡ Some (port.Mesh mesh)
      → wire_end plan edge.me mesh ≡ Some place → MayGoOnBy plan edge service from place
