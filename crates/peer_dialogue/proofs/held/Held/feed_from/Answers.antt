use Rattle.std.proofs.Common.{sym, subst, arith}
use Rattle.net_values.specs.Octets.{AreOctets}
use Rattle.ldp_grammar.proofs.OctetLemmas.{octets_drop}
use Rattle.peer_dialogue.specs.Hearing.{AreReady}
use Rattle.peer_dialogue.proofs.HearLemmas.{empty_ready, fed_ready}
use Rattle.peer_dialogue.proofs.held.Held.feed_from.Goals as goal

pub invariant_of-self : goal.invariant_of-self
invariant_of-self c =
    let octets : AreOctets c.args.octets.now = λ i. omega (arith, c.type_inv.octets i) in
    fed_ready c.in-Some.stream c.feed.new.self c.split_at.result.1.now c.feed.result (subst AreReady c.in-Some.is c.self.invariant)
    (subst AreOctets (sym c.split_at.ensures.back) (octets_drop c.args.at c.args.octets.now octets)) c.feed.ensures.held

pub invariant_of-self-2 : goal.invariant_of-self-2
invariant_of-self-2 c =
    let octets : AreOctets c.args.octets.now = λ i. omega (arith, c.type_inv.octets i) in
    fed_ready c.in_ok-stream.stream c.feed-count.new.self c.split_at.result.1.now c.feed-count.result (empty_ready c.in_ok-stream.stream c.in_ok-stream.ensures)
    (subst AreOctets (sym c.split_at.ensures.back) (octets_drop c.args.at c.args.octets.now octets)) c.feed-count.ensures.held
