use Rattle.std.proofs.Common.{◌∙◌, List, Option, ap, not, sym}
use Rattle.std.specs.List.{list_all}
use Rattle.edge_model.specs.State.{Peering, is_there}
use Rattle.provider_edge.proofs.SessionsLemmas.{empty_later}
use Rattle.provider_edge.proofs.sessions.Sessions.is_empty.Goals as goal

pub returns : goal.returns
returns c =
    c.is_none_kept.ensures
    ∙ (ap (λ (l : List (Option Peering)). list_all (λ one. not (is_there one)) l) c.deref.ensures.value
    ∙ (sym (empty_later c.self.inside.passed c.self.inside.kept.items) ∙ ap (λ (l : List (Option Peering)). list_all (λ one. not (is_there one)) l) c.self.view_is))
