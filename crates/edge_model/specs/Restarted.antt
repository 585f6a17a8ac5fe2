-- What an edge keeps over a restart, and what it begins anew.
use Rattle.std.specs.Prelude.{◌≡◌, ℕ, List, [], Some, None}
use Rattle.net_base.specs.declared.plan.edge_plan.EdgePlan.{EdgePlan}
use Rattle.net_base.specs.declared.trace.down.Down.TheVariants.{NoLocal}
use Rattle.label_space.specs.declared.owner.Owner.{Owner}
use Rattle.label_space.specs.Labels.{AreDistinctLabels, AreUnkept, LabelNumbers, emptied}
use Rattle.pw_signalling.specs.End.{fresh}
use Rattle.edge_model.specs.Connection.{opened_with, restart_input, restarted}
use Rattle.edge_model.specs.Labels.{owners_of}
use Rattle.edge_model.specs.State.{EdgeState}
use Rattle.edge_model.specs.Work.{Work}

-- the ends of an edge that own a label, and its numbers as a label space that owns at most so many at once
abbrev pub label_owners : EdgeState → List Owner
label_owners edge = owners_of edge.ends edge.places

abbrev pub label_numbers : ℕ → EdgeState → LabelNumbers
label_numbers room edge = record { next = edge.next_label; room = room; owners = label_owners edge; kept = edge.kept }

-- Of every edge, whatever it holds. A restart is a failure of the edge's own, and no change of what was set at it.
pub record RestartsKeepSettings : Type 0 where
  -- its place and its ends, which of its circuits and wires are on, failure bits and priority numbers, and the ticks stay
  pub place : (edge : EdgeState) → (restarted edge).me ≡ edge.me
  pub places : (edge : EdgeState) → (restarted edge).places ≡ edge.places
  pub circuits : (edge : EdgeState) (circuit : ℕ) → (restarted edge).circuit_on circuit ≡ edge.circuit_on circuit
  pub wires : (edge : EdgeState) (wire : ℕ) → (restarted edge).wire_on wire ≡ edge.wire_on wire
  pub bits : (edge : EdgeState) (wire : ℕ) → (restarted edge).bits wire ≡ edge.bits wire
  pub priorities : (edge : EdgeState) (wire : ℕ) → (restarted edge).priority wire ≡ edge.priority wire
  pub ticks : (edge : EdgeState) → (restarted edge).ticks ≡ edge.ticks
  -- the number that is given next stays, and the numbers that its ends own are kept as those of a label space that restarts: they wait
  -- for their neighbours, until then none is given again (RFC 5036 section 3.5.7)
  pub labels : (edge : EdgeState) (room : ℕ) → AreDistinctLabels (label_owners edge) → AreUnkept edge.kept (label_owners edge)
      → label_numbers room (restarted edge) ≡ emptied (label_numbers room edge)
  -- addresses, connections, ends and choices are forgotten, and of each end that it advertises no label counts as told
  pub addresses : (edge : EdgeState) (service : ℕ) → (restarted edge).learned service ≡ []
  pub connections : (edge : EdgeState) (peer : ℕ) → (restarted edge).peering peer ≡ None
  pub ends : (edge : EdgeState) (wire peer : ℕ) → (restarted edge).ends wire peer ≡ fresh
  pub told : (edge : EdgeState) (wire : ℕ) → (restarted edge).told_down wire ≡ Some NoLocal
  pub choices : (edge : EdgeState) (service : ℕ) → (restarted edge).chosen service ≡ None
  -- messages, once a connection stands again, and pings are numbered from 1
  pub messages : (own other : EdgePlan) → (opened_with own other).next_id ≡ 1
  pub pings : (edge : EdgeState) (wire : ℕ) → (restarted edge).next_ping wire ≡ 1
  -- the input does all this, always applies, calls no link and gives out nothing
  pub input : (work : Work) → restart_input work ≡ record { edge = restarted work.edge; calls = work.calls; effects = work.effects; idle = work.idle }
