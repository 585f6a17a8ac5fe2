-- An aged packet goes; what is told of octets, sessions and wires changes no packet under way.
use Rattle.std.proofs.Common.{subst, sym}
use Rattle.std.proofs.lemmas.Result.{on_ok_weaker}
use Rattle.net_base.specs.declared.trace.entry.Entry.{Entry}
use Rattle.seen_network.specs.Seen.{is_shown_up, told_by_itself}
use Rattle.seen_state.specs.Copies.{TellsPackets}
use Rattle.seen_state.proofs.CopyLemmas.{told_aged, told_said, told_session, told_wire}
use Rattle.seen_state.proofs.copies.Copies.tell.Goals as goal

pub returns-in-Aged-clause-told : goal.returns-in-Aged-clause-told
returns-in-Aged-clause-told c =
    on_ok_weaker c.leave.result
    (λ after. λ seen tells. subst (λ (e : Entry). TellsPackets c.leave.new.self (told_by_itself e seen).under_way) (sym c.in-Aged.is) (told_aged c.leave.new.self c.in-Aged.packet seen (after seen.under_way tells)))
    c.leave.ensures.told

pub returns-in-Said-clause-told : goal.returns-in-Said-clause-told
returns-in-Said-clause-told c = λ seen tells.
    subst (λ (e : Entry). TellsPackets c.args.self.now (told_by_itself e seen).under_way) (sym c.in-Said.is) (told_said c.args.self.now c.in-Said.from.0 c.in-Said.to.0 c.in-Said.bytes seen tells)

pub returns-in-Session-clause-told : goal.returns-in-Session-clause-told
returns-in-Session-clause-told c = λ seen tells.
    subst (λ (e : Entry). TellsPackets c.args.self.now (told_by_itself e seen).under_way) (sym c.in-Session.is) (told_session c.args.self.now c.in-Session.edge.0 c.in-Session.peer.0 c.in-Session.state seen tells)

pub returns-in-Wire-clause-told : goal.returns-in-Wire-clause-told
returns-in-Wire-clause-told c = λ seen tells.
    subst (λ (e : Entry). TellsPackets c.args.self.now (told_by_itself e seen).under_way) (sym c.in-Wire.is) (told_wire c.args.self.now c.in-Wire.edge.0 c.in-Wire.wire.0 (is_shown_up c.in-Wire.down) seen tells)
