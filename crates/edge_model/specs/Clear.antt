-- An edge hears a MAC withdraw: the bridge of the wire's service forgets, and the edge passes it on (RFC 4762 section 6.2).
use Rattle.std.specs.Prelude.{List, Option, Some, None, filter, if◌then◌else◌, ℕ}
use Rattle.net_base.specs.declared.plan.Plan.{Plan}
use Rattle.net_base.specs.declared.plan.places.EdgeId.{EdgeId}
use Rattle.net_base.specs.declared.plan.places.ServiceId.{ServiceId}
use Rattle.net_base.specs.declared.plan.wire_plan.WirePlan.{WirePlan}
use Rattle.net_values.specs.declared.mac.Mac.{Mac}
use Rattle.net_base.specs.plan.Places.{wire_row}
use Rattle.pw_tlvs.specs.declared.pw_fec.PwFec.{PwFec}
use Rattle.pw_messages.specs.LinkAnswers.{Answers}
use Rattle.hvpls_spokes.specs.declared.edge_role.Role.{Role}
use Rattle.hvpls_spokes.specs.declared.port.Port.{Port}
use Rattle.hvpls_spokes.specs.declared.port.Port.TheVariants as port
use Rattle.hvpls_spokes.specs.Port.{ports_of}
use Rattle.hvpls_spokes.specs.Role as roles
use Rattle.mac_table.specs.Addresses.{entry_stays}
use Rattle.mac_withdraw.specs.Passing.{is_passed_to}
use Rattle.mac_withdraw.specs.Pieces.{pieces_of}
use Rattle.edge_model.specs.declared.end_place.EndPlace.{EndPlace}
use Rattle.edge_model.specs.Across.{end_beyond}
use Rattle.edge_model.specs.Ends.{wire_end}
use Rattle.edge_model.specs.Frame.{copies}
use Rattle.edge_model.specs.Mend.{port_of_wire}
use Rattle.edge_model.specs.Signal.{end_of_fec}
use Rattle.edge_model.specs.State.{EdgeState, addresses_of, with_addresses}
use Rattle.edge_model.specs.Withdraw.{tells_pieces}
use Rattle.edge_model.specs.Work.{Work, changes}

-- ---- what is passed on

-- the addresses are told at this end, where there is one, in pieces
abbrev pub tells_by : Answers → List Mac → Option EndPlace → Work → Work
tells_by told addresses None work = work
tells_by told addresses (Some place) work = tells_pieces told place (pieces_of addresses) work

-- the addresses go on by a port of the service, in pieces
abbrev pub tells_at : Plan → Answers → List Mac → Port → Work → Work
tells_at plan told addresses (port.Circuit circuit) work = work
tells_at plan told addresses (port.Mesh wire) work = tells_by told addresses (wire_end plan work.edge.me wire) work
tells_at plan told addresses (port.Spoke wire) work = tells_by told addresses (wire_end plan work.edge.me wire) work

-- what came by a port goes on by each port to which the edge passes it, in port order
abbrev pub passes_on : Plan → Answers → List Mac → ServiceId → ℕ → Option Role → Work → Work
passes_on plan told addresses service from None work = work
passes_on plan told addresses service from (Some role) work =
    copies (is_passed_to role (ports_of plan service work.edge.me) from) (tells_at plan told addresses) 0 (ports_of plan service work.edge.me) work

-- ---- what is forgotten

-- the bridge of a service forgets what a MAC withdraw by a port names
abbrev pub withdrawing_at : ServiceId → List Mac → ℕ → EdgeState → EdgeState
withdrawing_at service addresses from edge = with_addresses service (filter (entry_stays from addresses) (addresses_of edge service)) edge

-- what came by this port of the service, where it has one: the bridge forgets, and the edge passes the addresses on
abbrev pub clears_at : Plan → Answers → List Mac → ServiceId → Option ℕ → Work → Work
clears_at plan told addresses service None work = work
clears_at plan told addresses service (Some from) work =
    passes_on plan told addresses service from (roles.role_of plan service work.edge.me) (changes (withdrawing_at service addresses from) work)

-- the wire ends at the edge, and has this row
abbrev pub clears_wire : Plan → Answers → List Mac → EndPlace → Option WirePlan → Work → Work
clears_wire plan told addresses place None work = work
clears_wire plan told addresses place (Some row) work = clears_at plan told addresses row.service (port_of_wire plan work.edge place.wire row) work

-- at the end that is named; a switching point tells its other side
abbrev pub clears_by : Plan → Answers → List Mac → Option EndPlace → Work → Work
clears_by plan told addresses None work = work
clears_by plan told addresses (Some place) work =
    if place.terminal
    then clears_wire plan told addresses place (wire_row plan place.wire) work
    else tells_by told addresses (end_beyond plan work.edge.me place) work

-- Address Withdraw with a FEC and a MAC list acts on the service of the wire that is named, whatever the state of its end; without
-- a known PW ID it changes nothing
abbrev pub hears_mac_withdraw : Plan → Answers → EdgeId → Option PwFec → Option (List Mac) → Work → Work
hears_mac_withdraw plan told peer (Some fec) (Some addresses) work = clears_by plan told addresses (end_of_fec plan work.edge peer fec) work
hears_mac_withdraw plan told peer fec addresses work = work
