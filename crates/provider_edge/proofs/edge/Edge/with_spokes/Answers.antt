-- The lists that the edge is made of are those of a new edge, of which the invariant holds.
use Rattle.std.proofs.Common.{false, refl, None}
use Rattle.provider_edge.specs.contracts.edge.Edge.{the_view}
use Rattle.provider_edge.proofs.ListLemmas.{holds_new, is_new_edge, new_lists}
use Rattle.provider_edge.proofs.edge.Edge.with_spokes.Goals as goal

pub invariant_of-result : goal.invariant_of-result
invariant_of-result c =
    holds_new c.args.plan.value c.args.me
    (the_view (record {
      plan = c.args.plan;
      me = c.args.me;
      peerings = c.in-Ok-first_lists.lists.peerings;
      ends = c.args.ends;
      wires_on = c.in-Ok-first_lists.lists.wires_on;
      bits = c.in-Ok-first_lists.lists.bits;
      priorities = c.in-Ok-first_lists.lists.priorities;
      pings = c.in-Ok-first_lists.lists.pings;
      spokes = c.args.spokes;
      forwarding =
          c.in-Ok.forwarding;
      stopped = false;
      marks = None;
    }))
    c.requires.checked
    (new_lists c.args.plan.value c.deref.result.now c.args.me
    (the_view (record {
      plan = c.args.plan;
      me = c.args.me;
      peerings = c.in-Ok-first_lists.lists.peerings;
      ends = c.args.ends;
      wires_on = c.in-Ok-first_lists.lists.wires_on;
      bits = c.in-Ok-first_lists.lists.bits;
      priorities = c.in-Ok-first_lists.lists.priorities;
      pings = c.in-Ok-first_lists.lists.pings;
      spokes = c.args.spokes;
      forwarding =
          c.in-Ok.forwarding;
      stopped = false;
      marks = None;
    }))
    c.deref.ensures refl refl (record {
      untold = c.requires.untold;
      unchosen = c.requires.spokes;
      unheard = c.in-Ok.ensures;
    }) c.in-Ok-first_lists.ensures.peerings c.in-Ok-first_lists.ensures.wires c.in-Ok-first_lists.ensures.zeros c.in-Ok-first_lists.ensures.priorities c.in-Ok-first_lists.ensures.ones refl refl)

pub returns-in-Ok-first_lists : goal.returns-in-Ok-first_lists
returns-in-Ok-first_lists c =
    is_new_edge c.args.plan.value c.args.me
    (the_view (record {
      plan = c.args.plan;
      me = c.args.me;
      peerings = c.in-Ok-first_lists.lists.peerings;
      ends = c.args.ends;
      wires_on = c.in-Ok-first_lists.lists.wires_on;
      bits = c.in-Ok-first_lists.lists.bits;
      priorities = c.in-Ok-first_lists.lists.priorities;
      pings = c.in-Ok-first_lists.lists.pings;
      spokes = c.args.spokes;
      forwarding =
          c.in-Ok.forwarding;
      stopped = false;
      marks = None;
    }))
    (new_lists c.args.plan.value c.deref.result.now c.args.me
    (the_view (record {
      plan = c.args.plan;
      me = c.args.me;
      peerings = c.in-Ok-first_lists.lists.peerings;
      ends = c.args.ends;
      wires_on = c.in-Ok-first_lists.lists.wires_on;
      bits = c.in-Ok-first_lists.lists.bits;
      priorities = c.in-Ok-first_lists.lists.priorities;
      pings = c.in-Ok-first_lists.lists.pings;
      spokes = c.args.spokes;
      forwarding =
          c.in-Ok.forwarding;
      stopped = false;
      marks = None;
    }))
    c.deref.ensures refl refl (record {
      untold = c.requires.untold;
      unchosen = c.requires.spokes;
      unheard = c.in-Ok.ensures;
    }) c.in-Ok-first_lists.ensures.peerings c.in-Ok-first_lists.ensures.wires c.in-Ok-first_lists.ensures.zeros c.in-Ok-first_lists.ensures.priorities c.in-Ok-first_lists.ensures.ones refl refl)
