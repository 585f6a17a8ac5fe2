-- The ends of a wire stand behind those of earlier ones, up to those of later ones.
use Rattle.std.proofs.Common.{◌≡◌, ◌≤◌, ◌<◌, ◌∙◌, ◌↔◌, ℕ, List, length, get_or, subst}
use Rattle.edge_model.specs.declared.end_place.EndPlace.{EndPlace}
use Rattle.pw_ends.specs.Ends.{no_place}
use Rattle.pw_ends.proofs.OrderLemmas.{slots_between}
use Rattle.pw_ends.proofs.place_list.PlaceList.slots_of.Goals as goal

pub returns : goal.returns
returns c =
    subst
    (λ (l : List EndPlace). (slot : ℕ) → slot < length l → ((get_or l slot no_place).wire.0 ≡ c.args.wire.0) ↔ (c.count_before.result ≤ slot × slot < c.count_through.result))
    (c.as_slice-places.ensures ∙ c.self.view_is)
    (slots_between c.args.wire c.as_slice-places.result.now c.count_before.result c.count_through.result c.count_before.ensures.before c.count_through.ensures.through)
