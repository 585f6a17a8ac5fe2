use Rattle.std.proofs.Common.{◌∙◌, Some, ap, option_copied, sym}
use Rattle.edge_model.specs.Hear.{was_up}
use Rattle.provider_edge.proofs.SessionsLemmas.{up_at, read_later}
use Rattle.provider_edge.proofs.sessions.Sessions.is_up.Goals as goal

pub returns-in-Some : goal.returns-in-Some
returns-in-Some c =
    read_later was_up up_at c.self.inside.passed c.self.inside.kept.items c.deref.result.now c.args.self.now c.args.peer.0 (Some c.in-Some.peering.now) c.is_up.result c.self.view_is c.deref.ensures.value
    (ap (λ d. option_copied d) (sym c.in-Some.is) ∙ c.look.ensures) c.is_up.ensures
