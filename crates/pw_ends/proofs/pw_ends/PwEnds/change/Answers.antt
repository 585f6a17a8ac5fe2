-- The ends own what is left in the label space.
use Rattle.std.proofs.Common.{◌<◌, ◌∙◌, List, length, map, get_or, ap, refl, sym, subst}
use Rattle.label_space.specs.Labels.{LabelNumbers}
use Rattle.pw_signalling.specs.AnyEnd.{end_of}
use Rattle.pw_signalling.specs.declared.pw_end.PwEnd.{PwEnd}
use Rattle.pw_signalling.specs.End.{fresh}
use Rattle.edge_model.specs.declared.end_place.EndPlace.{EndPlace}
use Rattle.pw_ends.specs.contracts.pw_ends.PwEnds.{the_view}
use Rattle.pw_ends.specs.Changes.{changed}
use Rattle.pw_ends.specs.Ends.{EndLists, changed_at, place_of, seen_ends}
use Rattle.pw_ends.specs.Kept.{own_of}
use Rattle.pw_ends.specs.Marks.{is_marked}
use Rattle.pw_ends.proofs.KeptLemmas.{kept_moved}
use Rattle.pw_ends.proofs.MarkLemmas.{untold_changed}
use Rattle.pw_ends.proofs.SlotLemmas.{seen_changed}
use Rattle.pw_ends.proofs.WaitLemmas.{kept_changed_at}
use Rattle.pw_ends.proofs.pw_ends.PwEnds.change.Goals as goal

pub invariant_of-self : goal.invariant_of-self
invariant_of-self c =
    let within : c.args.slot < length c.self.inside.places = subst (λ (l : EndLists). c.args.slot < length l.places) (sym c.self.view_is) c.requires.slot in
    let own : List PwEnd → _ = λ (ends : List PwEnd). own_of (get_or (map end_of ends) c.args.slot fresh) in
    record {
      kept =
          kept_moved c.args.change.now c.self.inside.places (map end_of c.self.inside.ends.items)
          (map end_of c.change_at.new.ends.items) c.self.inside.labels c.free_left.new.labels c.self.inside.owned c.free_left.new.owned c.args.slot c.own_label_at-before.result c.own_label_at-after.result
          c.self.invariant.kept within c.change_at.ensures (c.own_label_at-before.ensures ∙ ap own c.deref.ensures.value)
          (c.own_label_at-after.ensures ∙ ap own c.deref-2.ensures.value) c.free_left.ensures.labels c.free_left.ensures.owned;
      untold = untold_changed (is_marked c.self.inside.marks) (is_marked c.with-self-inside.result) c.self.inside.places (map end_of c.self.inside.ends.items)
          (map end_of c.change_at.new.ends.items) c.args.slot c.place.result.peer.0
          (changed c.args.change.now (get_or (map end_of c.self.inside.ends.items) c.args.slot fresh)) c.self.invariant.untold c.change_at.ensures
          (ap (λ (place : EndPlace). place.peer.0) c.place.ensures) c.with-self-inside.ensures;
    }

pub returns-clause-seen : goal.returns-clause-seen
returns-clause-seen c =
    let within : c.args.slot < length c.self.inside.places = subst (λ (l : EndLists). c.args.slot < length l.places) (sym c.self.view_is) c.requires.slot in
    seen_changed (changed c.args.change.now) (the_view c.self.inside) _ c.args.slot c.self.invariant.kept.apart c.self.invariant.kept.count within refl c.change_at.ensures
    ∙ ap (λ (l : EndLists). changed_at (place_of l c.args.slot) (changed c.args.change.now) (seen_ends l)) c.self.view_is

pub returns-clause-kept : goal.returns-clause-kept
returns-clause-kept c =
    let within : c.args.slot < length c.self.inside.places = subst (λ (l : EndLists). c.args.slot < length l.places) (sym c.self.view_is) c.requires.slot in
    let own : List PwEnd → _ = λ (ends : List PwEnd). own_of (get_or (map end_of ends) c.args.slot fresh) in
    ap (λ (l : LabelNumbers). l.kept) c.free_left.ensures.labels
    ∙ kept_changed_at c.args.change.now (the_view c.self.inside) c.args.self.now c.self.inside.owned
    (map end_of c.change_at.new.ends.items) c.args.slot c.own_label_at-before.result c.own_label_at-after.result c.self.invariant.kept within c.self.view_is c.change_at.ensures
    (c.own_label_at-before.ensures ∙ ap own c.deref.ensures.value) (c.own_label_at-after.ensures ∙ ap own c.deref-2.ensures.value)
