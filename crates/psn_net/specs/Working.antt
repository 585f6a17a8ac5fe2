-- What an edge of the network does on its input, and the events that are one.
use Rattle.std.specs.Prelude.{◌≡◌, Bool, true, false}
use Rattle.net_base.specs.declared.trace.event.Event.{Event}
use Rattle.net_base.specs.declared.trace.event.Event.TheVariants.{Circuit, Ping, Priority, Status, Wire}
use Rattle.edge_model.specs.declared.effects.Effects.{Effects}
use Rattle.edge_model.specs.Work.{Work}
use Rattle.provider_edge.specs.Lists.{EdgeLists, seen}

-- an edge did this work
pub record HasWorked (now : EdgeLists) (work : Work) (effects : Effects) : Type 0 where
  pub edge_is : seen now ≡ work.edge
  pub effects_are : effects.list ≡ work.effects
  pub idle_is : effects.idle ≡ work.idle

-- an event that is the input of one edge, which may not apply
abbrev pub is_answered : Event → Bool
is_answered (Circuit circuit on) = true
is_answered (Wire edge wire on) = true
is_answered (Status edge wire bits) = true
is_answered (Priority edge wire priority) = true
is_answered (Ping edge wire) = true
is_answered event = false
