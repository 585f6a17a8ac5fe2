-- An edge as contracts see it: lists by the plan's places, and by `seen` maps.
use Rattle.std.specs.Prelude.{◌≡◌, ℕ, Bool, true, false, List, [], Option, Some, None, length, slice_get, slice_index_or}
use Rattle.net_base.specs.declared.outside.link_call.LinkCall.{LinkCall}
use Rattle.net_base.specs.declared.plan.Plan.{Plan}
use Rattle.net_base.specs.declared.plan.places.EdgeId.{EdgeId}
use Rattle.net_base.specs.declared.trace.down.Down.TheVariants.{NoLocal}
use Rattle.pw_ends.specs.Ends.{EndLists, seen_ends}
use Rattle.edge_model.specs.declared.effects.Effects.{Effects}
use Rattle.edge_model.specs.EndPlaces.{end_places}
use Rattle.edge_model.specs.State.{EdgeState, Peering, first_label, first_ping, priority_in}
use Rattle.edge_model.specs.Work.{Work}
use Rattle.edge_forwarding.specs.Forwarding.{ForwardingLists, domain_of, entries_of}
use Rattle.edge_forwarding.specs.Views.{view}
use Rattle.provider_edge.specs.declared.end_marks.EndMarks.{EndMarks}
use Rattle.provider_edge.specs.Spokes.{SpokeLists}

-- what an edge holds, by the plan's places
pub record EdgeLists : Type 0 where
  -- the network's plan, and the edge's place in it
  pub plan : Plan
  pub me : EdgeId
  -- what it keeps of each edge of the plan; nothing where no connection with it stands
  pub peerings : List (Option Peering)
  -- its ends, and the labels that it gives
  pub ends : EndLists
  -- the wires that are on, and the failure bits of its end of each
  pub wires_on : List Bool
  pub bits : List ℕ
  -- the priority number of its spoke on each wire
  pub priorities : List ℕ
  -- the sequence number of its next ping of each wire
  pub pings : List ℕ
  -- its spokes by services, and those that it has chosen
  pub spokes : SpokeLists
  -- what it forwards frames by
  pub forwarding : ForwardingLists
  -- it works on an input, or memory was refused
  pub stopped : Bool
  -- its ends that have a mark, where it knows that each other one is settled
  pub marks : Option EndMarks

-- the state of the edge that these lists are
unfoldable pub seen : EdgeLists → EdgeState
seen edge = record {
  me = edge.me;
  places = edge.ends.places;
  circuit_on = view true edge.forwarding.circuits_on;
  learned = λ service. entries_of (domain_of edge.forwarding service);
  ticks = edge.forwarding.ticks;
  peering = view None edge.peerings;
  wire_on = view true edge.wires_on;
  bits = view 0 edge.bits;
  priority = λ wire. slice_index_or edge.priorities wire (priority_in (slice_get edge.plan.wires wire));
  ends = seen_ends edge.ends;
  told_down = view (Some NoLocal) edge.forwarding.told_down;
  chosen = view None edge.spokes.chosen;
  next_label = edge.ends.labels.next;
  kept = edge.ends.labels.kept;
  next_ping = view first_ping edge.pings;
}

-- an edge that has no place in its plan: but for where its ends would be it lists nothing
abbrev pub no_edge : Plan → EdgeId → EdgeLists
no_edge plan me = record {
  plan = plan;
  me = me;
  peerings = [];
  ends = record { places = end_places plan me; ends = []; labels = record { next = first_label plan me; room = 0; owners = []; kept = [] } };
  wires_on = [];
  bits = [];
  priorities = [];
  pings = [];
  spokes = record { slots = []; chosen = [] };
  forwarding = record { plan = plan; me = me; circuits_on = []; told_down = []; domains = []; ticks = 0 };
  stopped = false;
  marks = None;
}

-- the work that the edge has done, over these calls of its link
unfoldable pub worked : EdgeLists → List LinkCall → Effects → Work
worked edge calls effects = record { edge = seen edge; calls = calls; effects = effects.list; idle = effects.idle }

-- what no input changes, and what only want of memory does
pub record Keeps (old new : EdgeLists) : Type 0 where
  pub plan : new.plan ≡ old.plan
  pub me : new.me ≡ old.me
  pub places : new.ends.places ≡ old.ends.places
  pub count : length new.peerings ≡ length old.peerings
  pub stopped : new.stopped ≡ old.stopped
