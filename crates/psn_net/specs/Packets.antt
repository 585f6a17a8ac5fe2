-- The packets under way.
use Rattle.std.specs.Prelude.{◌≡◌, ◌<◌, ◌≤◌, ◌+◌, ◌-◌, ◌++◌, ◌==◌, not, ℕ, Bool, true, false, List, [], ◌∷◌, Option, Some, None, length, if◌then◌else◌}
use Rattle.std.specs.BTreeMap.{is_at}
use Rattle.std.specs.List.{list_any}
use Rattle.std.specs.Map.{lookup}
use Rattle.std.specs.declared.cmp.Ordering.{Ordering}
use Rattle.std.specs.Ordering.{nat_cmp, ordering_then}
use Rattle.net_base.specs.declared.plan.Plan.{Plan}
use Rattle.network_model.specs.declared.packet.Packet.{Packet}
use Rattle.network_model.specs.State.{lives_on}
use Rattle.psn_net.specs.declared.carried.Carried.{Carried}
use Rattle.psn_net.specs.declared.sending.Sending.{Sending}

-- the packets by rising number, the number of the last one that was sent, and how many ticks have passed
pub record UnderWay : Type 0 where
  pub list : List Packet
  pub last : ℕ
  pub ticks : ℕ

-- the packet has this number
abbrev pub is_numbered : ℕ → Packet → Bool
is_numbered number packet = packet.number == number

abbrev pub number_of : Packet → ℕ
number_of packet = packet.number

-- a further tick makes the packet too old
abbrev pub is_aged : Packet → Bool
is_aged packet = not (lives_on packet)

-- the packets but the first one of them
abbrev pub without_aged : List Packet → List Packet
without_aged [] = []
without_aged (p ∷ ps) = if lives_on p then p ∷ without_aged ps else ps

-- one more packet, with the next number
abbrev pub with_next : Packet → UnderWay → UnderWay
with_next packet packets = record packets { list = packets.list ++ record packet { number = packets.last + 1 } ∷ []; last = packets.last + 1 }

-- a copy of a packet, where there is one
abbrev pub with_copy_of : Option Packet → UnderWay → UnderWay
with_copy_of None packets = packets
with_copy_of (Some packet) packets = with_next packet packets

-- ---- how they are kept

-- a packet that is kept under its number, after so many ticks
abbrev pub kept_packet : ℕ → ℕ × Carried → Packet
kept_packet ticks e = record {
  number = e.0;
  wire = e.1.departure.wire;
  from = e.1.departure.from;
  to = e.1.departure.to;
  origin = e.1.departure.trail.origin;
  hops = e.1.departure.trail.hops;
  age = ticks - e.1.since;
  bytes = e.1.departure.bytes;
}

-- the packets under way, by what is kept of each
abbrev pub packets_of : ℕ → List (ℕ × Carried) → List Packet
packets_of ticks [] = []
packets_of ticks (e ∷ es) = kept_packet ticks e ∷ packets_of ticks es

-- none has a number past the last one; each was sent, and fewer than 64 ticks ago
abbrev pub ArePacketsKept : ℕ → ℕ → List (ℕ × Carried) → Type 0
ArePacketsKept ticks last [] = Unit {0}
ArePacketsKept ticks last (e ∷ es) = (e.0 ≤ last) × (e.1.since ≤ ticks) × (ticks < e.1.since + 64) × ArePacketsKept ticks last es

-- by when they were sent, and then by their numbers
abbrev pub sending_order : Sending → Sending → Ordering
sending_order a b = ordering_then (nat_cmp a.since b.since) (nat_cmp a.number b.number)

-- a packet that was sent after so many ticks
abbrev pub is_since : ℕ → Option Carried → Bool
is_since since None = false
is_since since (Some carried) = carried.since == since

-- the packet that is kept under a number
abbrev pub kept_under : ℕ → List (ℕ × Carried) → Option Carried
kept_under number es = lookup (is_at (nat_cmp number)) es

abbrev pub has_sending : List Sending → Sending → Bool
has_sending sendings s = list_any (is_at (sending_order s)) sendings

-- what the set has is kept, and a packet that it does not have was sent no earlier than those with lower numbers
pub record IsIndex (es : List (ℕ × Carried)) (older : List Sending) : Type 0 where
  pub each : (s : Sending) → has_sending older s ≡ true → is_since s.since (kept_under s.number es) ≡ true
  pub in_order : (m n : ℕ) (a b : Carried) → m < n → kept_under m es ≡ Some a → kept_under n es ≡ Some b → has_sending older (record { since = b.since; number = n }) ≡ false → a.since ≤ b.since

-- ---- what always holds of them in a network

-- a packet goes between two edges of the plan, and has passed no more segments than packets were sent
pub record IsPacketOf (plan : Plan) (last : ℕ) (packet : Packet) : Type 0 where
  pub from : packet.from.0 < length plan.edges
  pub to : packet.to.0 < length plan.edges
  pub hops : packet.hops ≤ last

-- each packet does
abbrev pub ArePacketsOf : Plan → ℕ → List Packet → Type 0
ArePacketsOf plan last [] = Unit {0}
ArePacketsOf plan last (p ∷ ps) = IsPacketOf plan last p × ArePacketsOf plan last ps
