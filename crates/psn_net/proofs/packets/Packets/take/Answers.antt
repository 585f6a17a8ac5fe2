use Rattle.std.proofs.Common.{◌≡◌, ◌∙◌, List, ℕ, subst, sym}
use Rattle.psn_net.specs.declared.carried.Carried.{Carried}
use Rattle.psn_net.specs.Packets.{ArePacketsKept, IsIndex}
use Rattle.psn_net.proofs.PacketLemmas.{found_young, index_removed, still_kept}
use Rattle.psn_net.proofs.ByNumberLemmas.{removed_none}
use Rattle.psn_net.proofs.packets.Packets.take.Goals as goal

pub into_packet-requires-clause-sent : goal.into_packet-requires-clause-sent
into_packet-requires-clause-sent c = (found_young c.self.inside.ticks c.self.inside.by_number.last c.args.number c.in-Some.carried c.self.inside.by_number.entries c.self.invariant.0 c.in-Some.ensures.value).0

pub into_packet-requires-clause-young : goal.into_packet-requires-clause-young
into_packet-requires-clause-young c = (found_young c.self.inside.ticks c.self.inside.by_number.last c.args.number c.in-Some.carried c.self.inside.by_number.entries c.self.invariant.0 c.in-Some.ensures.value).1

pub invariant_of-self-2 : goal.invariant_of-self-2
invariant_of-self-2 c =
    let es = c.self.inside.by_number.entries in (
      subst (λ (k : ℕ). ArePacketsKept c.self.inside.ticks k c.remove.new.self.entries) (sym c.in-Some.ensures.last)
          (subst (λ (x : List (ℕ × Carried)). ArePacketsKept c.self.inside.ticks c.self.inside.by_number.last x) (sym c.in-Some.ensures.entries)
          (still_kept c.self.inside.ticks c.self.inside.by_number.last c.args.number es c.self.invariant.0)),
      index_removed es c.remove.new.self.entries c.self.inside.older.keys c.remove-2.new.self.keys c.args.number c.in-Some.carried c.self.invariant.1 (sym c.in-Some.ensures.value)
          c.in-Some.ensures.updates c.remove-2.ensures.updates.0,
    )

pub invariant_of-self : goal.invariant_of-self
invariant_of-self c =
    let same : c.remove.new.self.entries ≡ c.self.inside.by_number.entries =
    c.in_default.ensures.entries ∙ removed_none c.args.number c.self.inside.by_number.entries (sym c.in_default.ensures.value) in (
      subst (λ (k : ℕ). ArePacketsKept c.self.inside.ticks k c.remove.new.self.entries) (sym c.in_default.ensures.last)
          (subst (λ (x : List (ℕ × Carried)). ArePacketsKept c.self.inside.ticks c.self.inside.by_number.last x) (sym same) c.self.invariant.0),
      subst (λ (x : List (ℕ × Carried)). IsIndex x c.self.inside.older.keys) (sym same) c.self.invariant.1,
    )
