-- Without a packet of this number nothing is copied. A copy is as old as its packet, which is young, and has the next number.
use Rattle.std.proofs.Common.{◌∙◌, ◌+◌, ◌<◌, ◌≤◌, ℕ, Option, ap, option_map, subst, sym}
use Rattle.network_model.specs.declared.packet.Packet.{Packet}
use Rattle.psn_net.specs.declared.carried.Carried.{Carried}
use Rattle.psn_net.specs.Packets.{UnderWay, with_copy_of}
use Rattle.psn_net.proofs.PacketLemmas.{copied_none, found_young, numbered_copy, seen_copied}
use Rattle.psn_net.proofs.packets.Packets.repeat.Goals as goal

pub returns-in_default-clause-number : goal.returns-in_default-clause-number
returns-in_default-clause-number c =
    sym (ap (option_map (λ packet. c.args.self.now.last + 1))
    (copied_none c.self.inside.ticks c.self.inside.by_number.last c.args.number c.self.inside.by_number.entries c.args.self.now c.self.view_is c.self.invariant.0 c.in_default.ensures.value))

pub returns-in_default-clause-ok : goal.returns-in_default-clause-ok
returns-in_default-clause-ok c =
    sym (ap (λ (o : Option Packet). with_copy_of o c.args.self.now)
    (copied_none c.self.inside.ticks c.self.inside.by_number.last c.args.number c.self.inside.by_number.entries c.args.self.now c.self.view_is c.self.invariant.0 c.in_default.ensures.value))

pub put-requires-clause-sent : goal.put-requires-clause-sent
put-requires-clause-sent c =
    let young = found_young c.self.inside.ticks c.self.inside.by_number.last c.args.number c.in-Some.carried.now c.self.inside.by_number.entries c.self.invariant.0 c.in-Some.ensures.value in
    subst (λ (m : ℕ). c.in_ok-copy.copy.since ≤ m) (ap (λ (u : UnderWay). u.ticks) c.self.view_is)
    (subst (λ (d : Carried). d.since ≤ c.self.inside.ticks) (sym c.in_ok-copy.ensures) young.0)

pub put-requires-clause-young : goal.put-requires-clause-young
put-requires-clause-young c =
    let young = found_young c.self.inside.ticks c.self.inside.by_number.last c.args.number c.in-Some.carried.now c.self.inside.by_number.entries c.self.invariant.0 c.in-Some.ensures.value in
    subst (λ (m : ℕ). m < c.in_ok-copy.copy.since + 64) (ap (λ (u : UnderWay). u.ticks) c.self.view_is)
    (subst (λ (d : Carried). c.self.inside.ticks < d.since + 64) (sym c.in_ok-copy.ensures) young.1)

pub returns-clause-number : goal.returns-clause-number
returns-clause-number c =
    numbered_copy c.self.inside.ticks c.self.inside.by_number.last c.args.number c.last.result c.in-Some.carried.now c.self.inside.by_number.entries c.args.self.now c.self.view_is c.self.invariant.0
    c.in-Some.ensures.value (c.last.ensures ∙ ap (λ (u : UnderWay). u.last) c.self-2.view_is ∙ ap (λ (u : UnderWay). u.last) c.in_ok-put.ensures.ok)

pub returns-clause-ok : goal.returns-clause-ok
returns-clause-ok c =
    seen_copied c.self.inside.ticks c.self.inside.by_number.last c.args.number c.in-Some.carried.now c.in_ok-copy.copy c.self.inside.by_number.entries c.args.self.now c.put.new.self c.self.view_is c.self.invariant.0
    c.in-Some.ensures.value c.in_ok-copy.ensures c.in_ok-put.ensures.ok
