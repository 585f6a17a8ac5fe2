-- The end is bound, and those of its wire have marks.
use Rattle.std.proofs.Common.{◌≡◌, ◌<◌, ◌∙◌, false, length, subst, sym}
use Rattle.pw_ends.specs.Ends.{place_of}
use Rattle.pw_signalling.specs.Rows.{bound}
use Rattle.provider_edge.specs.contracts.edge.Edge.{the_view}
use Rattle.provider_edge.proofs.MarkingLemmas.{end_marked, end_seen}
use Rattle.provider_edge.proofs.GivenLemmas.{changing_keeps, keeps_bound}
use Rattle.provider_edge.proofs.ListLemmas.{leaves_none}
use Rattle.provider_edge.specs.Lists.{EdgeLists, seen}
use Rattle.provider_edge.proofs.edge.Edge.bind.Goals as goal

pub on_mapping-requires : goal.on_mapping-requires
on_mapping-requires c = record {
  slot = subst (λ (n : EdgeLists). c.args.slot < length n.ends.places) (sym c.self.view_is) c.requires.slot;
  holds = record {
    kind = c.requires.told.0;
    vlan = c.requires.told.1;
    room = λ switching. c.requires.room (subst (λ (n : EdgeLists). (place_of n.ends c.args.slot).terminal ≡ false) c.self.view_is switching);
  };
}

pub invariant_of-self : goal.invariant_of-self
invariant_of-self c =
    end_marked (the_view c.self.inside) c.args.self.now c.on_mapping.new.self (bound c.args.binding.now) c.args.slot c.place_at.result c.marks_at-marks.result
    c.self.view_is c.self.invariant c.requires.working c.on_mapping.ensures.places c.on_mapping.ensures.seen c.on_mapping.ensures.next
    (leaves_none (the_view c.self.inside).ends c.on_mapping.new.self c.args.slot (bound c.args.binding.now)
    (keeps_bound c.args.binding.now) c.on_mapping.ensures.kept) c.place_at.ensures.place c.marks_at-marks.ensures

pub returns-clause-step : goal.returns-clause-step
returns-clause-step c =
    end_seen (the_view c.self.inside) c.args.self.now c.on_mapping.new.self
    (bound c.args.binding.now) c.args.slot c.marks_at-marks.result c.self.view_is c.on_mapping.ensures.places c.on_mapping.ensures.seen c.on_mapping.ensures.next
    (leaves_none (the_view c.self.inside).ends c.on_mapping.new.self c.args.slot (bound c.args.binding.now) (keeps_bound c.args.binding.now) c.on_mapping.ensures.kept)
    ∙ changing_keeps (bound c.args.binding.now) (place_of c.args.self.now.ends c.args.slot) (seen c.args.self.now) (keeps_bound c.args.binding.now)
