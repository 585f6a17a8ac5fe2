-- The labels that packets carry, by the ages of the packets.
use Rattle.std.proofs.Common.{◌+◌, ℕ, Option, Some, None, arith}
use Rattle.label_space.specs.declared.kept.KeptState.{KeptState}
use Rattle.label_space.specs.declared.kept.KeptState.TheVariants.{Waits, Rests, Free}
use Rattle.label_space.specs.Kept.{kept_at}
use Rattle.edge_model.specs.State.{EdgeState}
use Rattle.flight_laws.specs.Rules.{MayBeKept, MayCarry, MayName}

kept_sent : (peer age : ℕ) (s : Option KeptState) → MayBeKept peer None s → MayBeKept peer (Some age) s
kept_sent peer age None may = tt
kept_sent peer age (Some (Waits k)) may = may
kept_sent peer age (Some (Rests ticks)) may = absurd may
kept_sent peer age (Some Free) may = absurd may

-- a label that a binding may name may be carried by a packet of any age
pub may_sent : (edge : EdgeState) (wire peer age label : ℕ) → MayName edge wire peer label → MayCarry edge wire peer age label
may_sent edge wire peer age label may = record { below = may.below; owner = may.owner; kept = kept_sent peer age (kept_at label edge.kept) may.kept }

kept_grows : (peer age : ℕ) (s : Option KeptState) → MayBeKept peer (Some age) s → MayBeKept peer (Some (age + 1)) s
kept_grows peer age None may = tt
kept_grows peer age (Some (Waits k)) may = may
kept_grows peer age (Some (Rests ticks)) may = omega (arith, may)
kept_grows peer age (Some Free) may = may

-- and by an older one
pub may_grow : (edge : EdgeState) (wire peer age label : ℕ) → MayCarry edge wire peer age label → MayCarry edge wire peer (age + 1) label
may_grow edge wire peer age label may = record { below = may.below; owner = may.owner; kept = kept_grows peer age (kept_at label edge.kept) may.kept }
