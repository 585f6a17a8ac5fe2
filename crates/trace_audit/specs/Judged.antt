-- What is known of a report behind the lines that were read.
use Rattle.std.specs.Prelude.{◌≡◌, ◌==◌, ◌&&◌, ◌+◌, not, ℕ, Bool, false, List, [], ◌∷◌, Option, Some, None, Result, Ok, Err, if◌then◌else◌}
use Rattle.net_base.specs.declared.plan.Plan.{Plan}
use Rattle.net_base.specs.declared.plan.places.CircuitId.{CircuitId}
use Rattle.net_base.specs.declared.plan.places.EdgeId.{EdgeId}
use Rattle.net_base.specs.declared.plan.places.ServiceId.{ServiceId}
use Rattle.net_base.specs.declared.plan.places.WireId.{WireId}
use Rattle.net_base.specs.declared.trace.arrival.Arrival.{Arrival}
use Rattle.net_base.specs.declared.trace.arrival.Arrival.TheVariants as arrival
use Rattle.net_base.specs.declared.trace.entry.Entry.{Entry}
use Rattle.net_base.specs.declared.trace.entry.Entry.TheVariants.{In, Left, Sent}
use Rattle.net_base.specs.plan.Places.{is_mesh_wire, service_of}
use Rattle.net_base.specs.trace.Isolated.{inner_at}
use Rattle.net_base.specs.trace.Split.{is_switching_point}
use Rattle.trace_audit.specs.declared.path_audit.PathAudit.{PathAudit}
use Rattle.trace_audit.specs.Arrivals.{Entered, TellsArrivals, has_come, with_came}

-- what is known behind the lines that were read: how many, the frames that entered, and the first lines that break the two rules
pub record Judged : Type 0 where
  pub line : ℕ
  pub came : List Entered
  pub stray : Option ℕ
  pub crossed : Option ℕ

-- the path_audit knows it
pub record KnowsJudged (path_audit : PathAudit) (judged : Judged) : Type 0 where
  pub line : path_audit.line ≡ judged.line
  pub came : TellsArrivals path_audit.came judged.came
  pub stray : path_audit.stray ≡ judged.stray
  pub crossed : path_audit.crossed ≡ judged.crossed

-- before the first entry, behind the line that names the format
abbrev pub begun : Judged
begun = record { line = 1; came = []; stray = None; crossed = None }

-- ---- frames that leave

-- the value, where there is no fault
abbrev pub ok_of : {A E : Type 0} → Result A E → Option A
ok_of (Ok x) = Some x
ok_of (Err e) = None

-- the frame without the tag of the circuit, where it has no fault
abbrev pub inner_found : Plan → CircuitId → List ℕ → Option (List ℕ)
inner_found plan circuit octets = ok_of (inner_at plan circuit octets)

-- a frame of a circuit as it is known in its service
abbrev pub entered_in_service : ℕ → Option ServiceId → Option (List ℕ) → Option Entered
entered_in_service number None frame = None
entered_in_service number (Some service) None = None
entered_in_service number (Some service) (Some frame) = Some (record { number = number; service = service.0; frame = frame })

-- the frame that came by a circuit, in the service of the circuit
abbrev pub entered_at : Plan → CircuitId → ℕ → List ℕ → Option Entered
entered_at plan circuit number octets = entered_in_service number (service_of plan circuit) (inner_found plan circuit octets)

-- the frame, where there is one, came before
abbrev pub has_one : List Entered → Option Entered → Bool
has_one came None = false
has_one came (Some one) = has_come came one

-- one more frame, where there is one
abbrev pub with_one : List Entered → Option Entered → List Entered
with_one came None = came
with_one came (Some one) = with_came came one

-- what came once an entry was told
abbrev pub came_after : Plan → Entry → List Entered → List Entered
came_after plan (In circuit number octets) came = with_one came (entered_at plan circuit number octets)
came_after plan entry came = came

-- what left entered before, at a circuit of the same service, as the same frame
abbrev pub is_stray : Plan → List Entered → Entry → Bool
is_stray plan came (Left circuit origin hops octets) = not (has_one came (entered_at plan circuit origin octets))
is_stray plan came entry = false

-- ---- packets that are sent

-- what came by a mesh wire goes out by a mesh wire, and not by the same one at a switching point of it
abbrev pub crosses : Plan → EdgeId → WireId → Arrival → Bool
crosses plan from wire (arrival.Wire came) = (is_mesh_wire plan wire && is_mesh_wire plan came) && not (came.0 == wire.0 && is_switching_point plan from wire)
crosses plan from wire (arrival.Circuit circuit) = false
crosses plan from wire arrival.Own = false

-- an entry tells of such a packet
abbrev pub is_crossing : Plan → Entry → Bool
is_crossing plan (Sent from to wire came packet origin hops octets) = crosses plan from wire came
is_crossing plan entry = false

-- ---- one entry more

-- the first line where something holds
abbrev pub first_line : Option ℕ → Bool → ℕ → Option ℕ
first_line (Some line) holds here = Some line
first_line None holds here = if holds then Some here else None

-- what an entry makes of what was judged so far
unfoldable pub judges : Plan → Entry → Judged → Judged
judges plan entry path_audit = record {
  line = path_audit.line + 1;
  came = came_after plan entry path_audit.came;
  stray = first_line path_audit.stray (is_stray plan path_audit.came entry) (path_audit.line + 1);
  crossed = first_line path_audit.crossed (is_crossing plan entry) (path_audit.line + 1);
}

-- what is known behind entries
abbrev pub judges_all : Plan → Judged → List Entry → Judged
judges_all plan path_audit [] = path_audit
judges_all plan path_audit (e ∷ es) = judges_all plan (judges plan e path_audit) es
