-- The end owns the label that was given.
use Rattle.std.proofs.Common.{◌<◌, ◌∙◌, length, map, get_or, ap, refl, sym, subst}
use Rattle.pw_signalling.specs.AnyEnd.{end_of}
use Rattle.pw_signalling.specs.End.{EndState, fresh}
use Rattle.pw_signalling.specs.Rows.{advertised}
use Rattle.edge_model.specs.declared.end_place.EndPlace.{EndPlace}
use Rattle.pw_ends.specs.contracts.pw_ends.PwEnds.{the_view}
use Rattle.pw_ends.specs.Ends.{EndLists, IsIdle, changed_at, end_in, place_of, seen_ends}
use Rattle.pw_ends.specs.Kept.{segment_of}
use Rattle.pw_ends.specs.Marks.{is_marked}
use Rattle.pw_ends.proofs.KeptLemmas.{kept_advertised}
use Rattle.pw_ends.proofs.MarkLemmas.{untold_changed}
use Rattle.pw_ends.proofs.SlotLemmas.{seen_at, seen_changed}
use Rattle.pw_ends.proofs.pw_ends.PwEnds.advertise.Goals as goal

pub invariant_of-self-2 : goal.invariant_of-self-2
invariant_of-self-2 c =
    let within : c.args.slot < length c.self.inside.places = subst (λ (l : EndLists). c.args.slot < length l.places) (sym c.self.view_is) c.requires.slot in
    let idle : IsIdle (get_or (map end_of c.self.inside.ends.items) c.args.slot fresh).local =
    subst (λ (e : EndState). IsIdle e.local) (seen_at (the_view c.self.inside) c.args.slot c.self.invariant.kept.apart c.self.invariant.kept.count within)
    (subst (λ (l : EndLists). IsIdle (end_in l c.args.slot).local) (sym c.self.view_is) c.requires.idle) in
    record {
      kept =
          kept_advertised _ _ _ c.args.told.now c.self.inside.places (map end_of c.self.inside.ends.items)
          (map end_of c.advertise_at.new.ends.items) c.self.inside.labels c.issue.new.self c.self.inside.owned c.add.new.self c.args.slot c.in-Ok.label
          c.self.invariant.kept within idle c.requires.kind c.in-Ok.ensures.label c.advertise_at.ensures c.issue.ensures.space c.add.ensures
          (ap segment_of c.place-place.ensures) (ap (λ (place : EndPlace). place.side) c.place-place.ensures) (ap (λ (place : EndPlace). place.peer) c.place-place.ensures);
      untold = untold_changed (is_marked c.self.inside.marks) (is_marked c.with-self-inside.result) c.self.inside.places (map end_of c.self.inside.ends.items)
          (map end_of c.advertise_at.new.ends.items) c.args.slot c.place-place.result.peer.0
          (advertised c.in-Ok.label c.args.told.now (get_or (map end_of c.self.inside.ends.items) c.args.slot fresh)) c.self.invariant.untold c.advertise_at.ensures
          (ap (λ (place : EndPlace). place.peer.0) c.place-place.ensures) c.with-self-inside.ensures;
    }

pub returns-clause-seen : goal.returns-clause-seen
returns-clause-seen c =
    let within : c.args.slot < length c.self.inside.places = subst (λ (l : EndLists). c.args.slot < length l.places) (sym c.self.view_is) c.requires.slot in
    seen_changed (advertised c.in-Ok.label c.args.told.now) (the_view c.self.inside) _ c.args.slot c.self.invariant.kept.apart c.self.invariant.kept.count within refl c.advertise_at.ensures
    ∙ ap (λ (l : EndLists). changed_at (place_of l c.args.slot) (advertised c.in-Ok.label c.args.told.now) (seen_ends l)) c.self.view_is
