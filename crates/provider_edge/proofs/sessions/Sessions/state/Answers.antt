use Rattle.std.proofs.Common.{◌∙◌, Some, ap, option_copied, sym}
use Rattle.peer_dialogue.specs.Peering.{session_name}
use Rattle.provider_edge.proofs.SessionsLemmas.{name_at, read_later}
use Rattle.provider_edge.proofs.sessions.Sessions.state.Goals as goal

pub returns-in-Some : goal.returns-in-Some
returns-in-Some c =
    read_later session_name name_at c.self.inside.passed c.self.inside.kept.items c.deref.result.now c.args.self.now c.args.peer.0 (Some c.in-Some.peering.now) c.state.result c.self.view_is c.deref.ensures.value
    (ap (λ d. option_copied d) (sym c.in-Some.is) ∙ c.look.ensures) c.state.ensures
