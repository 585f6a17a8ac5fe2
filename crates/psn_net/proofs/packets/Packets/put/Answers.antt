-- The next number is free, so both indexes hold one more; where the second has no room, the first is again as it was.
use Rattle.std.proofs.Common.{◌≡◌, ◌&&◌, ◌+◌, ◌<◌, ◌≤◌, ◌∙◌, List, ℕ, ap, cond, false, nat_lt, subst, sym, true}
use Rattle.std.specs.BTreeMap.{is_at}
use Rattle.psn_net.specs.declared.carried.Carried.{Carried}
use Rattle.psn_net.specs.declared.sending.Sending.{Sending}
use Rattle.psn_net.specs.ByNumber.{Numbered}
use Rattle.psn_net.specs.Packets.{ArePacketsKept, UnderWay, has_sending, sending_order}
use Rattle.psn_net.proofs.PacketLemmas.{index_added, index_undone, more_kept, seen_added, seen_packets}
use Rattle.psn_net.proofs.packets.Packets.put.Goals as goal

pub invariant_of-self-in-Ok : goal.invariant_of-self-in-Ok
invariant_of-self-in-Ok c =
    let t = c.self.inside.ticks in
    let l = c.self.inside.by_number.last in
    let es = c.self.inside.by_number.entries in
    let sent : c.args.carried.since ≤ t = subst (λ (m : ℕ). c.args.carried.since ≤ m) (sym (ap (λ (u : UnderWay). u.ticks) c.self.view_is)) c.requires.sent in
    let young : t < c.args.carried.since + 64 = subst (λ (m : ℕ). m < c.args.carried.since + 64) (sym (ap (λ (u : UnderWay). u.ticks) c.self.view_is)) c.requires.young in
    let marked = subst (λ (k : ℕ). (s : Sending) → has_sending c.mark_older.new.older.keys s
    ≡ cond (nat_lt c.args.carried.since t && is_at (sending_order (record { since = c.args.carried.since; number = k + 1 })) s) true (has_sending c.self.inside.older.keys s))
    c.last.ensures c.in_ok-mark_older.ensures.marked in (
      subst (λ (k : ℕ). ArePacketsKept t k c.push.new.self.entries) (sym c.in-Ok.ensures.last)
          (subst (λ (x : List (ℕ × Carried)). ArePacketsKept t (l + 1) x) (sym c.in-Ok.ensures.entries) (more_kept t l c.args.carried es sent young c.self.invariant.0)),
      index_added t l es c.push.new.self.entries c.self.inside.older.keys c.mark_older.new.older.keys c.args.carried c.self.invariant.0 c.self.invariant.1 c.in-Ok.ensures.updates marked,
    )

pub returns-in-Ok-clause-ok : goal.returns-in-Ok-clause-ok
returns-in-Ok-clause-ok c =
    ap (λ (k : ℕ). seen_packets c.self.inside.ticks k c.push.new.self.entries) c.in-Ok.ensures.last
    ∙ seen_added c.self.inside.ticks c.self.inside.by_number.last c.args.carried c.self.inside.by_number.entries c.push.new.self.entries c.args.self.now c.self.view_is c.self.invariant.0
    c.in-Ok.ensures.entries

pub invariant_of-self-in-Err : goal.invariant_of-self-in-Err
invariant_of-self-in-Err c =
    let t = c.self.inside.ticks in
    let marked = subst (λ (k : ℕ). (s : Sending) → has_sending c.mark_older.new.older.keys s
    ≡ cond (nat_lt c.args.carried.since t && is_at (sending_order (record { since = c.args.carried.since; number = k + 1 })) s) true (has_sending c.self.inside.older.keys s))
    c.last.ensures c.in_ok-mark_older.ensures.marked in
    let removed = subst (λ (k : ℕ). (s : Sending) → has_sending c.remove.new.self.keys s
    ≡ cond (is_at (sending_order (record { since = c.args.carried.since; number = k + 1 })) s) false (has_sending c.mark_older.new.older.keys s))
    c.last.ensures c.remove.ensures.updates.0 in (
      subst (λ (v : Numbered). ArePacketsKept t v.last v.entries) (sym c.in-Err.ensures.err) c.self.invariant.0,
      index_undone t c.self.inside.by_number.last c.self.inside.by_number.entries c.push.new.self.entries c.self.inside.older.keys c.mark_older.new.older.keys c.remove.new.self.keys c.args.carried.since
          c.self.invariant.0 c.self.invariant.1 (ap (λ (v : Numbered). v.entries) c.in-Err.ensures.err) marked removed,
    )
