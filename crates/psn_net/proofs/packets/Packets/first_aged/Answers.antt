-- The least by age is the oldest. Without one, and while it is young, no packet is aged; else it is the first that is. No packet was sent
-- after the ticks of now, so its age is counted without overflow.
use Rattle.std.proofs.Common.{◌+◌, ◌-◌, ◌≤◌, ◌<◌, ap, arith, option_map, sym}
use Rattle.psn_net.specs.Packets.{number_of}
use Rattle.psn_net.proofs.PacketLemmas.{aged_empty, aged_first, aged_none, aged_nowhere, found_young, front_aged, seen_first, seen_none, sent_young}
use Rattle.psn_net.proofs.packets.Packets.first_aged.Goals as goal

pub returns-in_default-clause-number : goal.returns-in_default-clause-number
returns-in_default-clause-number c =
    sym (ap (option_map number_of) (seen_none c.self.inside.ticks c.self.inside.by_number.last c.self.inside.by_number.entries c.args.self.now c.self.view_is
    (aged_empty c.self.inside.ticks c.self.inside.by_number.entries (λ some. let wrong = c.in_default.ensures.variant.1 some in absurd (cc (wrong))))))

pub overflow_sub-self-inside : goal.overflow_sub-self-inside
overflow_sub-self-inside c = (found_young c.self.inside.ticks c.self.inside.by_number.last c.in-Some.number c.in-Some.first.now c.self.inside.by_number.entries c.self.invariant.0 (sym c.in-Some.ensures.value)).0

pub overflow_add-self-inside : goal.overflow_add-self-inside
overflow_add-self-inside c =
    let young = found_young c.self.inside.ticks c.self.inside.by_number.last c.in-Some.number c.in-Some.first.now c.self.inside.by_number.entries c.self.invariant.0 (sym c.in-Some.ensures.value) in
    omega (arith, young.0, young.1)

pub returns-then-self-first-ge-LIFE-clause-number : goal.returns-then-self-first-ge-LIFE-clause-number
returns-then-self-first-ge-LIFE-clause-number c =
    (seen_first c.self.inside.ticks c.self.inside.by_number.last c.in-Some.number c.self.inside.by_number.entries c.args.self.now c.self.view_is
    (front_aged c.self.inside.ticks c.in-Some.number c.in-Some.first.now c.self.inside.by_number.entries c.in-Some.ensures.first c.if-self-first-ge-LIFE.true)).0

pub returns-then-self-first-ge-LIFE-clause-left : goal.returns-then-self-first-ge-LIFE-clause-left
returns-then-self-first-ge-LIFE-clause-left c =
    (seen_first c.self.inside.ticks c.self.inside.by_number.last c.in-Some.number c.self.inside.by_number.entries c.args.self.now c.self.view_is
    (front_aged c.self.inside.ticks c.in-Some.number c.in-Some.first.now c.self.inside.by_number.entries c.in-Some.ensures.first c.if-self-first-ge-LIFE.true)).1

pub returns-in_default-first-clause-number : goal.returns-in_default-first-clause-number
returns-in_default-first-clause-number c =
    let young : c.self.inside.ticks - c.in-Some.first.now.since + 1 < 64 = omega (arith, c.if-self-first-ge-LIFE.false) in
    sym (ap (option_map number_of) (seen_none c.self.inside.ticks c.self.inside.by_number.last c.self.inside.by_number.entries c.args.self.now c.self.view_is
    (aged_nowhere c.self.inside.ticks c.self.inside.by_number.last c.self.inside.by_number.entries c.self.inside.older.keys c.in-Some.number c.in-Some.first.now c.len-count.ensures.ordered c.self.invariant.0 c.self.invariant.1 c.in-Some.ensures.first young
    (λ some. let wrong = c.in_default-first.ensures.variant.1 some in absurd (cc (wrong))))))

pub overflow_sub-self-inside-2 : goal.overflow_sub-self-inside-2
overflow_sub-self-inside-2 c = (sent_young c.self.inside.ticks c.self.inside.by_number.last c.self.inside.by_number.entries c.self.inside.older.keys c.in-Some-first.copy.now c.self.invariant.0 c.self.invariant.1 c.in-Some-first.ensures.member).0

pub overflow_add-self-inside-2 : goal.overflow_add-self-inside-2
overflow_add-self-inside-2 c =
    let young = sent_young c.self.inside.ticks c.self.inside.by_number.last c.self.inside.by_number.entries c.self.inside.older.keys c.in-Some-first.copy.now c.self.invariant.0 c.self.invariant.1 c.in-Some-first.ensures.member in
    omega (arith, young.0, young.1)

pub returns-then-self-copy-lt-LIFE-clause-number : goal.returns-then-self-copy-lt-LIFE-clause-number
returns-then-self-copy-lt-LIFE-clause-number c =
    let young : c.self.inside.ticks - c.in-Some.first.now.since + 1 < 64 = omega (arith, c.if-self-first-ge-LIFE.false) in
    sym (ap (option_map number_of) (seen_none c.self.inside.ticks c.self.inside.by_number.last c.self.inside.by_number.entries c.args.self.now c.self.view_is
    (aged_none c.self.inside.ticks c.self.inside.by_number.last c.self.inside.by_number.entries c.self.inside.older.keys c.in-Some.number c.in-Some.first.now c.in-Some-first.copy.now c.len-count.ensures.ordered c.self.invariant.0 c.self.invariant.1 c.in-Some.ensures.first young c.in-Some-first.ensures.least
    c.if-self-copy-lt-LIFE.true)))

pub returns-clause-number : goal.returns-clause-number
returns-clause-number c =
    let young : c.self.inside.ticks - c.in-Some.first.now.since + 1 < 64 = omega (arith, c.if-self-first-ge-LIFE.false) in
    let old : 64 ≤ c.self.inside.ticks - c.in-Some-first.copy.now.since + 1 = omega (arith, c.if-self-copy-lt-LIFE.false) in
    (seen_first c.self.inside.ticks c.self.inside.by_number.last c.in-Some-first.copy.now.number c.self.inside.by_number.entries c.args.self.now c.self.view_is
    (aged_first c.self.inside.ticks c.self.inside.by_number.last c.self.inside.by_number.entries c.self.inside.older.keys c.in-Some.number c.in-Some.first.now c.in-Some-first.copy.now c.len-count.ensures.ordered c.self.invariant.0 c.self.invariant.1 c.in-Some.ensures.first young
    c.in-Some-first.ensures.member c.in-Some-first.ensures.least old)).0

pub returns-clause-left : goal.returns-clause-left
returns-clause-left c =
    let young : c.self.inside.ticks - c.in-Some.first.now.since + 1 < 64 = omega (arith, c.if-self-first-ge-LIFE.false) in
    let old : 64 ≤ c.self.inside.ticks - c.in-Some-first.copy.now.since + 1 = omega (arith, c.if-self-copy-lt-LIFE.false) in
    (seen_first c.self.inside.ticks c.self.inside.by_number.last c.in-Some-first.copy.now.number c.self.inside.by_number.entries c.args.self.now c.self.view_is
    (aged_first c.self.inside.ticks c.self.inside.by_number.last c.self.inside.by_number.entries c.self.inside.older.keys c.in-Some.number c.in-Some.first.now c.in-Some-first.copy.now c.len-count.ensures.ordered c.self.invariant.0 c.self.invariant.1 c.in-Some.ensures.first young
    c.in-Some-first.ensures.member c.in-Some-first.ensures.least old)).1
