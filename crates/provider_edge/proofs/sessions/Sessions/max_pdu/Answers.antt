use Rattle.std.proofs.Common.{◌∙◌, Some, ap, option_copied, sym}
use Rattle.provider_edge.proofs.SessionsLemmas.{longest_at, read_later}
use Rattle.provider_edge.specs.Sessions.{longest_of}
use Rattle.provider_edge.proofs.sessions.Sessions.max_pdu.Goals as goal

pub returns-in-Some-clause-value : goal.returns-in-Some-clause-value
returns-in-Some-clause-value c =
    read_later longest_of longest_at c.self.inside.passed c.self.inside.kept.items c.deref.result.now c.args.self.now c.args.peer.0 (Some c.in-Some.peering.now) (Some c.max_pdu.result) c.self.view_is c.deref.ensures.value
    (ap (λ d. option_copied d) (sym c.in-Some.is) ∙ c.look.ensures) (ap Some c.max_pdu.ensures.value)
