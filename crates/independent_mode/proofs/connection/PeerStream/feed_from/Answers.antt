use Rattle.std.proofs.Common.{sym, subst, arith}
use Rattle.net_values.specs.Octets.{AreOctets}
use Rattle.ldp_grammar.proofs.OctetLemmas.{octets_drop}
use Rattle.independent_mode.proofs.ReceiverLemmas.{fed_receiver}
use Rattle.independent_mode.proofs.connection.PeerStream.feed_from.Goals as goal

pub invariant_of-self : goal.invariant_of-self
invariant_of-self c =
    let octets : AreOctets c.args.octets.now = λ i. omega (arith, c.type_inv.octets i) in
    fed_receiver c.self.inside.stream c.feed.new.self c.split_at.result.1.now c.feed.result c.self.invariant
    (subst AreOctets (sym c.split_at.ensures.back) (octets_drop c.args.at c.args.octets.now octets)) c.feed.ensures.held
