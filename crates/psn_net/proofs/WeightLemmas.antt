-- One more entry in a counted trace.
use Rattle.std.proofs.Common.{◌≡◌, ◌+◌, ◌-◌, ◌^◌, ◌++◌, ◌∷◌, ◌&&◌, [], ℕ, Bool, true, false, List, Some, None, cond, min, nat_le, nat_lt, length, refl, ap, arith}
use Rattle.net_base.specs.declared.trace.entry.Entry.{Entry}
use Rattle.net_base.specs.declared.trace.event.Event.{Event}
use Rattle.psn_net.specs.Applying.{Stops}
use Rattle.psn_net.specs.Lists.{NetLists, network_seen}
use Rattle.psn_net.specs.declared.net_stop.NetStop.{NetStop}
use Rattle.psn_net.specs.declared.net_stop.NetStop.TheVariants.{Crowded, TooMuch, NoMemory}
use Rattle.psn_net.specs.Weight.{IsCounted, counted_packets, entry_weight, events_told, is_event, may_send, most_packets, most_weight, next_event, stop_at, total_weight, weight_of}

total-append : (xs : List Entry) (e : Entry) → total_weight (xs ++ e ∷ []) ≡ total_weight xs + entry_weight e
total-append [] e = omega arith
total-append (x ∷ xs) e = omega (arith, total-append xs e)

events-append : (xs : List Entry) (e : Entry) → events_told (xs ++ e ∷ []) ≡ events_told xs + cond (is_event e) 1 0
events-append [] e = omega arith
events-append (x ∷ xs) e = omega (arith, events-append xs e)

pub counted_more : (trace : List Entry) (entry : Entry) (weight events octets one : ℕ)
    → IsCounted trace weight events → octets + 64 ≡ entry_weight entry → one ≡ cond (is_event entry) 1 0
    → IsCounted (trace ++ entry ∷ []) (min (weight + min (octets + 64) (2 ^ 64 - 1)) (2 ^ 64 - 1)) (min (events + one) (2 ^ 64 - 1))
counted_more trace entry weight events octets one counted w e = record {
  weighs = saturates (total_weight trace) (entry_weight entry) (2 ^ 64 - 1) weight (min (octets + 64) (2 ^ 64 - 1)) (total_weight (trace ++ entry ∷ [])) counted.weighs
      (ap (λ (n : ℕ). min n (2 ^ 64 - 1)) w) (total-append trace entry);
  counts = adds (events_told trace) (cond (is_event entry) 1 0) (2 ^ 64 - 1) events one (events_told (trace ++ entry ∷ [])) counted.counts e (events-append trace entry);
} where
  saturates : (a b top x y sum : ℕ) → x ≡ min a top → y ≡ min b top → sum ≡ a + b → min (x + y) top ≡ min sum top
  saturates a b top x y sum p q r = omega (arith, p, q, r)

  adds : (a b top x y sum : ℕ) → x ≡ min a top → y ≡ b → sum ≡ a + b → min (x + y) top ≡ min sum top
  adds a b top x y sum p q r = omega (arith, p, q, r)

pub next_event_is : (trace : List Entry) (events : ℕ) → events ≡ min (events_told trace) (2 ^ 64 - 1) → min (events + 1) (2 ^ 64 - 1) ≡ min (events_told trace + 1) (2 ^ 64 - 1)
next_event_is trace events e = saturates (events_told trace) events (2 ^ 64 - 1) e where
  saturates : (a x top : ℕ) → x ≡ min a top → min (x + 1) top ≡ min (a + 1) top
  saturates a x top p = omega (arith, p)

-- a limit that is met stops a network that has not changed
pub stops_at : (n : NetLists) (event : Event) (stop : NetStop) → stop_at n.trace (length (network_seen n).under_way) event ≡ Some stop → Stops n n event stop
unfolding stop_at
stops_at n event (Crowded count number) met = (met, refl)
stops_at n event (TooMuch weight number) met = (met, refl)
stops_at n event NoMemory met = none_refused (nat_lt most_weight (weight_of n.trace)) (may_send event && nat_le most_packets (counted_packets (length (network_seen n).under_way))) met where
  none_refused : (a b : Bool) → cond a (Some (TooMuch (weight_of n.trace) (next_event n.trace)))
      (cond b (Some (Crowded (counted_packets (length (network_seen n).under_way)) (next_event n.trace))) None) ≡ Some NoMemory
      → n.failed ≡ true
  none_refused true b e = absurd (cc (e))
  none_refused false true e = absurd (cc (e))
  none_refused false false e = absurd (cc (e))
