-- The level of a message about a wire. Whatever an edge that has mended puts on hearing such a message is of a higher level.
use Rattle.std.specs.Prelude.{◌+◌, ◌*◌, ◌==◌, ◌&&◌, if◌then◌else◌, nat_lt, ℕ, Bool, true, false, not, length, Option, Some, None, option_and_then}
use Rattle.net_base.specs.declared.plan.Plan.{Plan}
use Rattle.net_base.specs.declared.plan.offer.Offer.{Offer}
use Rattle.net_base.specs.declared.plan.places.EdgeId.{EdgeId}
use Rattle.net_base.specs.declared.plan.wire_plan.WirePlan.{WirePlan}
use Rattle.net_base.specs.plan.Paths.{first_edge, follows, last_edge, way_from}
use Rattle.net_base.specs.plan.Places.{is_mesh_class, wire_row}
use Rattle.ldp_grammar.specs.declared.message.Message.{Message}
use Rattle.ldp_grammar.specs.declared.message.Message.TheVariants.{Notification, AddressWithdraw, LabelMapping, LabelWithdraw, LabelRelease}
use Rattle.edge_model.specs.declared.end_place.EndPlace.{EndPlace}
use Rattle.edge_model.specs.EndPlaces.{end_named}
use Rattle.edge_model.specs.State.{EdgeState}

-- ---- what a message does

-- a message about a wire gives a label, takes it back, or lets one go; it tells a status, or that addresses are to be forgotten
pub data Saying : Type 0 where
  Binds : Saying
  Withdraws : Saying
  Releases : Saying
  States : Saying
  Clears : Saying

-- what it does
abbrev pub saying_of : Message → Option Saying
saying_of (LabelMapping id fec label status points) = Some Binds
saying_of (LabelWithdraw id fec label) = Some Withdraws
saying_of (LabelRelease id fec label) = Some Releases
saying_of (Notification id code status (Some fec)) = Some States
saying_of (AddressWithdraw id addresses (Some fec) macs) = Some Clears
saying_of message = None

-- the PW ID that it names
abbrev pub pw_id_of : Message → Option ℕ
pw_id_of (LabelMapping id fec label status points) = fec.pw_id
pw_id_of (LabelWithdraw id fec label) = fec.pw_id
pw_id_of (LabelRelease id fec label) = fec.pw_id
pw_id_of (Notification id code status (Some fec)) = fec.pw_id
pw_id_of (AddressWithdraw id addresses (Some fec) macs) = fec.pw_id
pw_id_of message = None

-- ---- ways

-- what an end with these failure bits tells hangs on what comes to it: its offer has statuses and the far one has none, so that it
-- withdraws its label where it holds such a binding, and tells it where it holds none (RFC 8077 section 6.3)
abbrev pub hangs : Offer → Offer → ℕ → Bool
hangs own far bits = own.status && (not far.status && not (bits == 0))

-- the failure bits that an edge has at a wire, where there is an edge
abbrev pub bits_of : (ℕ → EdgeState) → ℕ → Option EdgeId → ℕ
bits_of edges wire None = 0
bits_of edges wire (Some edge) = (edges edge.0).bits wire

-- what is told of a wire from one edge to its neighbour, and on, hangs on what comes the other way
abbrev pub way_hangs : (ℕ → EdgeState) → ℕ → WirePlan → ℕ → ℕ → Bool
way_hangs edges wire row from to =
    if follows row.path from to
    then hangs row.near row.far (bits_of edges wire (first_edge row.path))
    else hangs row.far row.near (bits_of edges wire (last_edge row.path))

-- ---- levels

-- so many edges have spoken, up to this one
abbrev pub edges_spoken : WirePlan → ℕ → ℕ → ℕ
edges_spoken row from to = length (way_from row.path from to)

-- labels of ways that hang on nothing come first, then those of ways that hang on the other way; a path has at most five edges, so sixteen
-- numbers are enough for each
abbrev pub label_stage : Bool → ℕ
label_stage false = 0
label_stage true = 16

-- then statuses, those of spoke edges last
abbrev pub status_stage : Bool → ℕ
status_stage false = 32
status_stage true = 48

-- and then addresses: from spoke edges, between core edges, and to spoke edges
abbrev pub address_stage : (mesh onward : Bool) → ℕ
address_stage true onward = 80
address_stage false true = 64
address_stage false false = 96

-- the level of what is said of a wire from one edge to its neighbour. A Label Release counts to the way of the label that it names
abbrev pub level : (ℕ → EdgeState) → ℕ → WirePlan → ℕ → ℕ → Saying → ℕ
level edges wire row from to Withdraws = label_stage (way_hangs edges wire row from to) + 3 * edges_spoken row from to
level edges wire row from to Releases = label_stage (way_hangs edges wire row to from) + (3 * edges_spoken row to from + 1)
level edges wire row from to Binds = label_stage (way_hangs edges wire row from to) + (3 * edges_spoken row from to + 2)
level edges wire row from to States = status_stage (not (is_mesh_class row.class) && follows row.path from to) + edges_spoken row from to
level edges wire row from to Clears = address_stage (is_mesh_class row.class) (follows row.path from to) + edges_spoken row from to

-- all levels are below this one
abbrev pub levels_end : ℕ
levels_end = 112

-- of an end of an edge, where its wire has a row
abbrev pub level_by : (ℕ → EdgeState) → ℕ → ℕ → ℕ → Saying → Option WirePlan → Option ℕ
level_by edges wire from to saying None = None
level_by edges wire from to saying (Some row) = Some (level edges wire row from to saying)

abbrev pub level_at : Plan → (ℕ → EdgeState) → ℕ → Saying → EndPlace → Option ℕ
level_at plan edges from saying place = level_by edges place.wire.0 from place.peer.0 saying (wire_row plan place.wire)

-- of a message from one edge to its neighbour; a message about no wire between them has none
abbrev pub level_of : Plan → (ℕ → EdgeState) → ℕ → ℕ → Message → Option ℕ
level_of plan edges from to message =
    option_and_then (λ saying. option_and_then (level_at plan edges from saying)
    (option_and_then (end_named plan (record { 0 = from }) (record { 0 = to })) (pw_id_of message))) (saying_of message)

-- ---- above a level

abbrev pub is_higher : ℕ → Option ℕ → Bool
is_higher least None = false
is_higher least (Some one) = nat_lt least one

-- what is said at an end of an edge is of a higher level
abbrev pub is_above : Plan → (ℕ → EdgeState) → ℕ → ℕ → EndPlace → Saying → Bool
is_above plan edges me least place saying = is_higher least (level_at plan edges me saying place)
