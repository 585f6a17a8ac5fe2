-- What a line tells is there.
use Rattle.net_base.specs.declared.plan.Plan.{Plan}
use Rattle.net_base.specs.declared.trace.entry.Entry.{Entry}
use Rattle.net_base.specs.declared.trace.entry.Entry.TheVariants as entry
use Rattle.net_base.specs.declared.trace.event.Event.{Event}
use Rattle.net_base.specs.declared.trace.event.Event.TheVariants as event
use Rattle.report_text.specs.Named.{IsEntryNamed}
use Rattle.event_rows.specs.Rows.{IsNamedEvent}
use Rattle.seen_state.specs.Placed.{IsEventWithin, IsPlaced}
use Rattle.seen_state.specs.SeenEdges.{sizes_of}

event_placed : (plan : Plan) (x : Event) → IsNamedEvent plan x → IsEventWithin (sizes_of plan) x
event_placed plan (event.Connect from to) is = is
event_placed plan (event.Deliver from to count) is = (is.0, is.1.0)
event_placed plan (event.Lose edge peer) is = is
event_placed plan (event.Restart edge) is = is
event_placed plan event.Tick is = tt
event_placed plan (event.Frame circuit octets) is = tt
event_placed plan (event.Arrive packet) is = tt
event_placed plan (event.Discard packet) is = tt
event_placed plan (event.Again packet) is = tt
event_placed plan (event.Wire edge wire on) is = tt
event_placed plan (event.Circuit circuit on) is = is
event_placed plan (event.Status edge wire bits) is = tt
event_placed plan (event.Priority edge wire priority) is = tt
event_placed plan (event.Ping edge wire) is = tt

pub placed : (plan : Plan) (x : Entry) → IsEntryNamed plan x → IsPlaced plan x
placed plan (entry.Did event) is = event_placed plan event is
placed plan entry.Idle is = tt
placed plan (entry.Said from to octets) is = (is.0, is.1.0)
placed plan (entry.In circuit number octets) is = tt
placed plan (entry.Sent from to wire came packet origin hops octets) is = tt
placed plan (entry.Copied packet of) is = tt
placed plan (entry.Aged packet) is = tt
placed plan (entry.Left circuit origin hops octets) is = is.0
placed plan (entry.Dropped edge origin cause) is = tt
placed plan (entry.Session edge peer name) is = is
placed plan (entry.Wire edge wire down) is = is
placed plan (entry.Pong edge wire sequence) is = tt
