-- Messages on their way after a move to another spoke: withdrawals of addresses, and messages that leave labels as they are.
use Rattle.std.specs.Prelude.{◌≡◌, ◌&&◌, ◌||◌, ◌==◌, is_some, not, ℕ, Bool, true, false, List, [], ◌∷◌, Option, Some, None}
use Rattle.net_base.specs.declared.plan.Plan.{Plan}
use Rattle.net_base.specs.declared.plan.places.ServiceId.{ServiceId}
use Rattle.net_base.specs.declared.plan.places.WireId.{WireId}
use Rattle.net_base.specs.declared.plan.wire_plan.WirePlan.{WirePlan}
use Rattle.net_values.specs.declared.mac.Mac.{Mac}
use Rattle.net_base.specs.plan.Paths.{follows, is_first, is_last, joins}
use Rattle.net_base.specs.plan.Places.{is_mesh_class, wire_row}
use Rattle.net_base.specs.plan.Roles.{is_mesh_of, is_spoke_from}
use Rattle.pw_tlvs.specs.declared.pw_fec.PwFec.{PwFec}
use Rattle.ldp_grammar.specs.declared.message.Message.{Message}
use Rattle.ldp_grammar.specs.declared.message.Message.TheVariants.{AddressWithdraw, LabelMapping, LabelWithdraw, LabelRelease}
use Rattle.session_core.specs.Reasons.{is_fatal}
use Rattle.edge_model.specs.State.{EdgeState}
use Rattle.network_model.specs.State.{NetworkState}
use Rattle.flight_laws.specs.Ends.{ends_at}
use Rattle.flight_laws.specs.Messages.{AreSaid, octets_of_all}
use Rattle.flight_laws.specs.Rules.{AllMessages}

-- ---- one message

-- the wire with this PW ID is named
abbrev pub names_wire : ℕ → Option ℕ → Bool
names_wire pw_id None = false
names_wire pw_id (Some other) = other == pw_id

-- by the PW ID of a FEC, where there is one
abbrev pub names_by_fec : ℕ → Option PwFec → Bool
names_by_fec pw_id None = false
names_by_fec pw_id (Some fec) = names_wire pw_id fec.pw_id

-- no address is named, so all are meant that were learned elsewhere
abbrev pub means_all : Option (List Mac) → Bool
means_all None = false
means_all (Some []) = true
means_all (Some (address ∷ addresses)) = false

-- a withdrawal of all addresses on the wire with this PW ID (RFC 4762 section 6.2)
abbrev pub clears : ℕ → Message → Bool
clears pw_id (AddressWithdraw id addresses fec macs) = names_by_fec pw_id fec && means_all macs
clears pw_id message = false

-- the wire with this PW ID is named, or a group of wires (RFC 8077 section 6.5)
abbrev pub names_wire_or_group : ℕ → Option ℕ → Bool
names_wire_or_group pw_id None = true
names_wire_or_group pw_id (Some other) = other == pw_id

-- it is no Label Mapping and no Label Release of the wire with this PW ID, and no Label Withdraw of it or of a group
abbrev pub leaves_wire : ℕ → Message → Bool
leaves_wire pw_id (LabelMapping id fec label status points) = not (names_wire pw_id fec.pw_id)
leaves_wire pw_id (LabelWithdraw id fec label) = not (names_wire_or_group pw_id fec.pw_id)
leaves_wire pw_id (LabelRelease id fec label) = not (names_wire pw_id fec.pw_id)
leaves_wire pw_id message = true

-- a Label Mapping of the wire with this PW ID
abbrev pub binds : ℕ → Message → Bool
binds pw_id (LabelMapping id fec label status points) = names_wire pw_id fec.pw_id
binds pw_id message = false

-- it is no Label Withdraw of the wire with this PW ID, nor of a group
abbrev pub keeps_binding : ℕ → Message → Bool
keeps_binding pw_id (LabelWithdraw id fec label) = not (names_wire_or_group pw_id fec.pw_id)
keeps_binding pw_id message = true

-- it is no Label Release of the wire with this PW ID
abbrev pub keeps_label : ℕ → Message → Bool
keeps_label pw_id (LabelRelease id fec label) = not (names_wire pw_id fec.pw_id)
keeps_label pw_id message = true

-- ---- messages that are heard in order

-- an end that holds a binding or not holds one once it has heard them, of which none is a withdrawal of the label
abbrev pub is_bound_by : ℕ → Bool → List Message → Bool
is_bound_by pw_id bound [] = bound
is_bound_by pw_id bound (message ∷ messages) = is_bound_by pw_id (bound || binds pw_id message) messages

-- each Label Mapping of the wire comes to an end that holds no binding
abbrev pub come_unbound : ℕ → Bool → List Message → Bool
come_unbound pw_id bound [] = true
come_unbound pw_id bound (message ∷ messages) = not (bound && binds pw_id message) && come_unbound pw_id (bound || binds pw_id message) messages

-- one of them is a withdrawal of all addresses, and comes once the end takes it
abbrev pub is_cleared_by : ℕ → Bool → List Message → Bool
is_cleared_by pw_id takes [] = false
is_cleared_by pw_id takes (message ∷ messages) = (takes && clears pw_id message) || is_cleared_by pw_id (takes || binds pw_id message) messages

-- ---- spokes that are seen whole

-- a spoke of the service on whose path b comes next after a, without failure bits at its spoke edge
pub record IsOnward (plan : Plan) (service : ServiceId) (network : NetworkState) (a b : ℕ) (wire : WireId) (row : WirePlan) : Type 0 where
  pub is : wire_row plan wire ≡ Some row
  pub edge : ℕ
  pub from : is_spoke_from service edge row ≡ true
  pub whole : (network.edges edge).bits wire.0 ≡ 0
  pub next : follows row.path a b ≡ true

-- A message between two edges ends no session, and leaves the labels and bindings of the service's mesh wires between the two. Of such
-- a spoke it unbinds nothing on the way from the spoke edge, and releases nothing on the way back.
pub record IsMild (plan : Plan) (service : ServiceId) (network : NetworkState) (a b : ℕ) (message : Message) : Type 0 where
  pub plain : is_fatal message ≡ false
  pub labels : (wire : WireId) (row : WirePlan) → wire_row plan wire ≡ Some row → is_mesh_of service row ≡ true → joins a b row.path ≡ true → leaves_wire row.pw_id message ≡ true
  pub onward : (wire : WireId) (row : WirePlan) → IsOnward plan service network a b wire row → keeps_binding row.pw_id message ≡ true
  pub back : (wire : WireId) (row : WirePlan) → IsOnward plan service network b a wire row → keeps_label row.pw_id message ≡ true

-- ---- octets on their way from one edge to another one

-- they are those of such messages
pub record IsMildWay (plan : Plan) (service : ServiceId) (network : NetworkState) (a b : ℕ) (octets : List ℕ) : Type 0 where
  pub messages : List Message
  pub is : octets ≡ octets_of_all (ends_at plan a b).me messages
  pub said : AreSaid (ends_at plan a b) messages
  pub mild : AllMessages (IsMild plan service network a b) messages

-- who hears a withdrawal of addresses on a wire from a neighbour takes it: where the wire ends, along a mesh wire, and where a binding is held
abbrev pub takes_clearing : EdgeState → WirePlan → ℕ → ℕ → ℕ → Bool
takes_clearing edge row wire from me = (is_mesh_class row.class || (is_first me row.path || is_last me row.path)) || is_some (edge.ends wire from).remote

-- a withdrawal of all addresses on the wire is among them, and comes where it is taken
pub record IsCleared (plan : Plan) (edge : EdgeState) (a b : ℕ) (wire : WireId) (row : WirePlan) (octets : List ℕ) : Type 0 where
  pub messages : List Message
  pub is : octets ≡ octets_of_all (ends_at plan a b).me messages
  pub said : AreSaid (ends_at plan a b) messages
  pub among : is_cleared_by row.pw_id (takes_clearing edge row wire.0 a b) messages ≡ true
