use Rattle.std.proofs.Common.{◌≡◌, ◌++◌, List, ℕ, Result, Ok, Err, subst}
use Rattle.std.specs.Prelude.{MatchResult}
use Rattle.net_base.specs.declared.trace.drop_cause.DropCause.{DropCause}
use Rattle.eth_encap.specs.Fault.{cause_of}
use Rattle.provider_edge.proofs.PacketLemmas.{read_by}
use Rattle.provider_edge.proofs.edge.Edge.read_frame.Goals as goal

pub returns-clause-read : goal.returns-clause-read
returns-clause-read c = λ row at.
    subst (λ (r : Result (List ℕ) DropCause). MatchResult c.read_payload.result (λ parts. r ≡ Ok (parts.0.now ++ parts.1.now)) (λ fault. r ≡ Err (cause_of fault)))
    (read_by c.args.self.now.plan row c.args.self.now.me c.offer_at-offer.result c.service_at.result c.mtu_of-mtu.result c.args.payload.now (c.offer_at-offer.ensures.row row at)
    (c.service_at.ensures.row row at) c.mtu_of-mtu.ensures) c.read_payload.ensures.read
