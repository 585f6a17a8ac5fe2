-- What is told of each line of a script: after each octet that comes, and after each other call of an edge, what the edge has put, and
-- then which wires it uses from now on or no more, in the order of the plan. An octet completes one message at most, so this is after
-- each message heard.
use Rattle.std.specs.Prelude.{◌+◌, ◌++◌, ℕ, zero, suc, Bool, true, false, List, [], ◌∷◌, length, take, Option, Some, None, if◌then◌else◌}
use Rattle.net_base.specs.declared.outside.link_call.LinkCall.{LinkCall}
use Rattle.net_base.specs.declared.plan.Plan.{Plan}
use Rattle.net_base.specs.declared.plan.places.WireId.{WireId}
use Rattle.status_exchange.specs.declared.wish.Wish.{Wish}
use Rattle.independent_model.specs.Calls.{independent_connects, independent_hears, loses, sets, uses}
use Rattle.independent_model.specs.State.{IndepState}
use Rattle.independent_model.specs.Work.{Goes, IndepOutcome}
use Rattle.switchover_model.specs.declared.switch_entry.SwitchEntry.{SwitchEntry}
use Rattle.switchover_model.specs.declared.switch_entry.SwitchEntry.TheVariants.{Said, Uses, Idle}
use Rattle.switchover_model.specs.declared.switch_line.SwitchLine.{SwitchLine}
use Rattle.switchover_model.specs.declared.switch_line.SwitchLine.TheVariants.{Connect, Cut, Deliver, Settle, Set}
use Rattle.switchover_model.specs.Network.{SwitchState, calls_of, connects_one, switch_delivers, delivers_one, done, edge_after, edge_numbered, is_line_idle, is_waiting, loses_one, next_pair, takes_all}

-- ---- after a call of an edge

-- what it has put
abbrev pub said_entries : ℕ → List LinkCall → List SwitchEntry
said_entries me [] = []
said_entries me (call ∷ calls) = Said (edge_numbered me) call.peer call.bytes ∷ said_entries me calls

-- whether an edge uses each of so many wires, from this one on
abbrev pub used_from : Plan → ℕ → IndepState → ℕ → ℕ → List Bool
used_from plan me edge wire zero = []
used_from plan me edge wire (suc n) = uses plan me edge wire ∷ used_from plan me edge (wire + 1) n

-- each wire of the plan
abbrev pub used : Plan → ℕ → IndepState → List Bool
used plan me edge = used_from plan me edge 0 (length plan.wires)

abbrev pub wire_of : ℕ → WireId
wire_of place = record { 0 = place }

-- one wire, which the edge used before or not, and uses now or not
abbrev pub turned_switch : ℕ → ℕ → Bool → Bool → List SwitchEntry
turned_switch me wire true true = []
turned_switch me wire false false = []
turned_switch me wire true false = Uses (edge_numbered me) (wire_of wire) false ∷ []
turned_switch me wire false true = Uses (edge_numbered me) (wire_of wire) true ∷ []

-- the wires from this one on that the edge uses otherwise than before
abbrev pub turned_all : ℕ → ℕ → List Bool → List Bool → List SwitchEntry
turned_all me wire [] now = []
turned_all me wire (was ∷ before) [] = []
turned_all me wire (was ∷ before) (is ∷ now) = turned_switch me wire was is ++ turned_all me (wire + 1) before now

-- what is told of an edge's work: what it said, and each wire that it began or ceased to use
abbrev pub moment : Plan → ℕ → IndepOutcome → IndepState → List SwitchEntry
moment plan me outcome before = said_entries me (calls_of outcome) ++ turned_all me 0 (used plan me before) (used plan me (edge_after outcome))

-- ---- of the steps of a line

-- of an edge that is connected
abbrev pub connect_entries : Plan → ℕ → ℕ → SwitchState → List SwitchEntry
connect_entries plan me peer x = moment plan me (independent_connects plan takes_all me (edge_numbered peer) (x.edges me) []) (x.edges me)

-- of an edge that loses a connection
abbrev pub lose_entries : Plan → ℕ → ℕ → SwitchState → List SwitchEntry
lose_entries plan me peer x = moment plan me (Goes (loses plan me (edge_numbered peer) (x.edges me)) []) (x.edges me)

-- of an edge that calls a wire something else
abbrev pub set_entries : Plan → ℕ → ℕ → Wish → SwitchState → List SwitchEntry
set_entries plan me wire wish x = moment plan me (sets plan takes_all me wire wish (x.edges me) []) (x.edges me)

-- of one octet that comes
abbrev pub hear_entries : Plan → ℕ → ℕ → SwitchState → List SwitchEntry
hear_entries plan from to x =
    if is_waiting (x.pipes from to) then moment plan to (independent_hears plan takes_all to (edge_numbered from) (take 1 (x.pipes from to)) (x.edges to) []) (x.edges to) else []

-- of octets that come one by one
abbrev pub deliver_entries : Plan → ℕ → ℕ → List ℕ → SwitchState → List SwitchEntry
deliver_entries plan from to [] x = []
deliver_entries plan from to (octet ∷ octets) x = hear_entries plan from to x ++ deliver_entries plan from to octets (delivers_one plan from to x)

-- of a pair whose octets come, and of what follows
abbrev pub next_entries : Plan → (SwitchState → List SwitchEntry) → Option (ℕ × ℕ) → SwitchState → List SwitchEntry
next_entries plan more None x = []
next_entries plan more (Some pair) x =
    deliver_entries plan pair.0 pair.1 (take 65535 (x.pipes pair.0 pair.1)) x ++ more (switch_delivers plan pair.0 pair.1 (take 65535 (x.pipes pair.0 pair.1)) x)

-- of so many such pairs
abbrev pub settle_entries : Plan → ℕ → SwitchState → List SwitchEntry
settle_entries plan zero x = []
settle_entries plan (suc n) x = next_entries plan (settle_entries plan n) (next_pair plan x) x

-- ---- of a line

-- of a line that is not idle
abbrev pub entries : Plan → SwitchLine → SwitchState → List SwitchEntry
entries plan (Connect a b) x = connect_entries plan a.0 b.0 x ++ connect_entries plan b.0 a.0 (connects_one plan a.0 b.0 x)
entries plan (Cut a b) x = lose_entries plan a.0 b.0 x ++ lose_entries plan b.0 a.0 (loses_one plan a.0 b.0 x)
entries plan (Deliver from to count) x = deliver_entries plan from.0 to.0 (take count (x.pipes from.0 to.0)) x
entries plan (Settle count) x = settle_entries plan count x
entries plan (Set me wire wish) x = set_entries plan me.0 wire.0 wish x

-- of any line
abbrev pub line_entries : Plan → SwitchLine → SwitchState → List SwitchEntry
line_entries plan line x = if is_line_idle plan x line then Idle ∷ [] else entries plan line x

-- of all lines of a script, one list a line
abbrev pub script_entries : Plan → List SwitchLine → SwitchState → List (List SwitchEntry)
script_entries plan [] x = []
script_entries plan (line ∷ lines) x = line_entries plan line x ∷ script_entries plan lines (done plan line x)
