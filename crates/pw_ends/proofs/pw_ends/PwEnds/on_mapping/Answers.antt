-- The end holds what came.
use Rattle.std.proofs.Common.{◌<◌, ◌∙◌, length, map, get_or, ap, refl, sym, subst}
use Rattle.pw_signalling.specs.AnyEnd.{end_of}
use Rattle.pw_signalling.specs.End.{fresh}
use Rattle.pw_signalling.specs.Rows.{bound}
use Rattle.edge_model.specs.declared.end_place.EndPlace.{EndPlace}
use Rattle.pw_ends.specs.contracts.pw_ends.PwEnds.{the_view}
use Rattle.pw_ends.specs.Ends.{CanHold, EndLists, changed_at, place_of, seen_ends}
use Rattle.pw_ends.specs.Marks.{is_marked}
use Rattle.pw_ends.proofs.KeptLemmas.{kept_bound}
use Rattle.pw_ends.proofs.MarkLemmas.{untold_changed}
use Rattle.pw_ends.proofs.SlotLemmas.{seen_changed}
use Rattle.pw_ends.proofs.pw_ends.PwEnds.on_mapping.Goals as goal

pub invariant_of-self : goal.invariant_of-self
invariant_of-self c =
    let within : c.args.slot < length c.self.inside.places = subst (λ (l : EndLists). c.args.slot < length l.places) (sym c.self.view_is) c.requires.slot in
    record {
      kept =
          kept_bound c.args.binding.now c.self.inside.places (map end_of c.self.inside.ends.items) (map end_of c.bind_at.new.ends.items) c.self.inside.labels c.self.inside.owned c.args.slot
          c.self.invariant.kept within c.bind_at.ensures (subst (λ (l : EndLists). CanHold (place_of l c.args.slot) c.args.binding.now.told) (sym c.self.view_is) c.requires.holds);
      untold = untold_changed (is_marked c.self.inside.marks) (is_marked c.with-self-inside.result) c.self.inside.places (map end_of c.self.inside.ends.items)
          (map end_of c.bind_at.new.ends.items) c.args.slot c.place.result.peer.0
          (bound c.args.binding.now (get_or (map end_of c.self.inside.ends.items) c.args.slot fresh)) c.self.invariant.untold c.bind_at.ensures
          (ap (λ (place : EndPlace). place.peer.0) c.place.ensures) c.with-self-inside.ensures;
    }

pub returns-clause-seen : goal.returns-clause-seen
returns-clause-seen c =
    let within : c.args.slot < length c.self.inside.places = subst (λ (l : EndLists). c.args.slot < length l.places) (sym c.self.view_is) c.requires.slot in
    seen_changed (bound c.args.binding.now) (the_view c.self.inside) _ c.args.slot c.self.invariant.kept.apart c.self.invariant.kept.count within refl c.bind_at.ensures
    ∙ ap (λ (l : EndLists). changed_at (place_of l c.args.slot) (bound c.args.binding.now) (seen_ends l)) c.self.view_is
