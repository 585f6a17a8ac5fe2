-- What is remembered of services: which are calm, and which are not.
use Rattle.std.specs.Prelude.{◌≡◌, Bool, true, false, List}
use Rattle.std.specs.List.{list_any}
use Rattle.net_base.specs.declared.plan.Plan.{Plan}
use Rattle.net_base.specs.declared.plan.places.ServiceId.{ServiceId}
use Rattle.net_base.specs.declared.trace.entry.Entry.{Entry}
use Rattle.net_base.specs.declared.trace.entry.Entry.TheVariants as entry
use Rattle.net_base.specs.declared.trace.event.Event.{Event}
use Rattle.net_base.specs.declared.trace.event.Event.TheVariants as event
use Rattle.hvpls_spokes.specs.PortSet.{holds_port}
use Rattle.seen_network.specs.Calm.{is_seen_calm}
use Rattle.seen_network.specs.Seen.{Seen}
use Rattle.window_audit.specs.declared.calm_memory.CalmMemory.{CalmMemory}

-- what is remembered of a plan's services is so
pub record Remembers (plan : Plan) (seen : Seen) (memory : CalmMemory) : Type 0 where
  pub calm : (service : ServiceId) → holds_port memory.calm service.0 ≡ true → is_seen_calm plan seen service ≡ true
  pub restless : (service : ServiceId) → holds_port memory.restless service.0 ≡ true → is_seen_calm plan seen service ≡ false

-- an event that applied may change whether a service is seen calm
abbrev pub stirs_by : Event → Bool
stirs_by (event.Connect from to) = true
stirs_by (event.Deliver from to count) = true
stirs_by (event.Lose edge peer) = true
stirs_by (event.Restart edge) = true
stirs_by other = false

-- an entry may change it
abbrev pub stirs : Entry → Bool
stirs (entry.Said from to octets) = true
stirs (entry.Session edge peer name) = true
stirs (entry.Wire edge wire down) = true
stirs other = false

-- one of them may
abbrev pub some_stirs : List Entry → Bool
some_stirs entries = list_any stirs entries
