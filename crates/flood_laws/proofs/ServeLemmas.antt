-- What a step of a window serves: so many copies leave at a site as are due to it no longer, and none elsewhere.
use Rattle.std.proofs.Common.{◌≡◌, ◌≤◌, ◌+◌, ◌++◌, ◌∙◌, ℕ, true, false, List, [], ◌∷◌, Option, Some, None, refl, ap, sym, subst, zero-add, arith}
use Rattle.std.specs.List.{AllByRecursion}
use Rattle.net_base.specs.declared.plan.Plan.{Plan}
use Rattle.net_base.specs.declared.plan.wire_plan.WirePlan.{WirePlan}
use Rattle.net_base.specs.declared.plan.places.CircuitId.{CircuitId}
use Rattle.net_base.specs.declared.plan.places.EdgeId.{EdgeId}
use Rattle.net_base.specs.declared.plan.places.ServiceId.{ServiceId}
use Rattle.net_base.specs.declared.plan.places.WireId.{WireId}
use Rattle.net_base.specs.declared.trace.arrival.Arrival.{Arrival}
use Rattle.net_base.specs.declared.trace.event.Event.{Event}
use Rattle.net_base.specs.declared.trace.entry.Entry.TheVariants.{Did, In}
use Rattle.net_base.specs.plan.Places.{wire_row}
use Rattle.edge_model.specs.Copies.{AllAreCopies, SentCopy}
use Rattle.edge_model.specs.declared.effect.Effect.{Effect}
use Rattle.edge_model.specs.declared.effect.Effect.TheVariants as effect
use Rattle.edge_model.specs.Frame.{forwarded}
use Rattle.edge_model.specs.State.{EdgeState}
use Rattle.edge_model.specs.Work.{Work, beginning}
use Rattle.edge_model.proofs.CopyLemmas.{forwards_copies}
use Rattle.network_model.specs.declared.packet.Packet.{Packet}
use Rattle.network_model.specs.Absorb.{Stepped, absorb, all_entries_of, taken_all}
use Rattle.network_model.specs.OnceEach.{LeftWithin, times_left}
use Rattle.network_model.specs.Reach.{is_site}
use Rattle.network_model.specs.State.{NetworkState, with_edge}
use Rattle.network_model.proofs.AbsorbLemmas.{of_origin, times_left-append, within-append}
use Rattle.network_model.proofs.OtherLemmas.{IsApart, never_within}
use Rattle.network_model.proofs.PacketListLemmas.{absorb_sends, append_holds, packets_of}
use Rattle.flood_laws.proofs.CountLemmas.{all_due, awaited, due, meets}
use Rattle.flood_laws.proofs.OriginLemmas.{of_origin-append, of_origin_hold}
use Rattle.flood_laws.specs.Copy.{CarriesCopy}
use Rattle.flood_laws.specs.Hops.{HasPassed, most_hops}

-- a copy of the frame that has
abbrev pub IsNearCopy : Plan → NetworkState → ServiceId → List ℕ → Packet → Type 0
IsNearCopy plan calm service frame packet = CarriesCopy plan calm service frame packet × HasPassed plan packet

-- ---- what a step serves

-- The copies under way after it; at each site, what left and what is due are what was owed before; and nothing left elsewhere, or
-- after more than twelve segments.
pub record Serves (plan : Plan) (calm : NetworkState) (service : ServiceId) (frame : List ℕ) (origin : ℕ) (owed : CircuitId → ℕ) (stepped : Stepped) : Type 0 where
  pub copies : AllByRecursion (IsNearCopy plan calm service frame) (of_origin origin stepped.state.under_way)
  pub balance : (circuit : CircuitId) → is_site plan calm service circuit ≡ true → times_left origin circuit stepped.entries + due plan calm service circuit origin stepped.state ≡ owed circuit
  pub none : (circuit : CircuitId) → is_site plan calm service circuit ≡ false → times_left origin circuit stepped.entries ≡ 0
  pub within : LeftWithin 12 origin stepped.entries

module _ (plan : Plan) (calm : NetworkState) (service : ServiceId) (frame : List ℕ) (origin : ℕ) where
  -- nothing is told
  pub serves_none : (network : NetworkState) → AllByRecursion (IsNearCopy plan calm service frame) (of_origin origin network.under_way)
      → Serves plan calm service frame origin (λ circuit. due plan calm service circuit origin network) (record { state = network; entries = [] })
  serves_none network copies = record { copies = copies; balance = λ circuit site. zero-add (due plan calm service circuit origin network); none = λ circuit away. refl; within = tt }

  -- one step after another
  pub serves_then : (owed : CircuitId → ℕ) (first next : Stepped) → Serves plan calm service frame origin owed first
      → Serves plan calm service frame origin (λ circuit. due plan calm service circuit origin first.state) next
      → Serves plan calm service frame origin owed (record { state = next.state; entries = first.entries ++ next.entries })
  serves_then owed first next here later = record {
    copies = later.copies;
    balance = λ circuit site. omega (arith, times_left-append origin circuit first.entries next.entries, here.balance circuit site, later.balance circuit site);
    none = λ circuit away. omega (arith, times_left-append origin circuit first.entries next.entries, here.none circuit away, later.none circuit away);
    within = within-append 12 origin first.entries next.entries here.within later.within;
  }

  -- the event is told before
  pub serves_told : (owed : CircuitId → ℕ) (event : Event) (stepped : Stepped) → Serves plan calm service frame origin owed stepped
      → Serves plan calm service frame origin owed (record { state = stepped.state; entries = Did event ∷ stepped.entries })
  serves_told owed event stepped serves = record { copies = serves.copies; balance = serves.balance; none = serves.none; within = serves.within }

  -- and the frame as it enters
  pub serves_in : (owed : CircuitId → ℕ) (at : CircuitId) (number : ℕ) (octets : List ℕ) (stepped : Stepped) → Serves plan calm service frame origin owed stepped
      → Serves plan calm service frame origin owed (record { state = stepped.state; entries = In at number octets ∷ stepped.entries })
  serves_in owed at number octets stepped serves = record { copies = serves.copies; balance = serves.balance; none = serves.none; within = serves.within }

  -- a step that moves no copy
  pub serves_apart : (network : NetworkState) (stepped : Stepped) → AllByRecursion (IsNearCopy plan calm service frame) (of_origin origin network.under_way)
      → ((circuit : CircuitId) → IsApart origin circuit network stepped) → Serves plan calm service frame origin (λ circuit. due plan calm service circuit origin network) stepped
  serves_apart network stepped copies apart = record {
    copies = subst (AllByRecursion (IsNearCopy plan calm service frame)) (sym (apart (record { 0 = 0 })).under_way) copies;
    balance = λ circuit site. omega (arith, (apart circuit).left, ap (awaited plan calm service circuit) (apart circuit).under_way);
    none = λ circuit away. (apart circuit).left;
    within = never_within 12 origin stepped.entries (λ circuit. (apart circuit).left);
  }

  due_still : (circuit : CircuitId) (me : EdgeId) (edge : EdgeState) (base : NetworkState) → due plan calm service circuit origin (with_edge me edge base) ≡ due plan calm service circuit origin base
  unfolding with_edge
  due_still circuit me edge base = refl

  -- an edge has worked on a copy, or on the frame as it entered
  pub serves_absorb : (owed : CircuitId → ℕ) (me : EdgeId) (hops : ℕ) (work : Work) (base : NetworkState)
      → AllByRecursion (IsNearCopy plan calm service frame) (of_origin origin base.under_way)
      → ((sent : ℕ) → AllByRecursion (IsNearCopy plan calm service frame) (packets_of me origin hops sent work.effects))
      → ((circuit : CircuitId) → is_site plan calm service circuit ≡ true → due plan calm service circuit origin base + meets plan calm service circuit me work.effects ≡ owed circuit)
      → ((circuit : CircuitId) (other : NetworkState) → is_site plan calm service circuit ≡ false → times_left origin circuit (all_entries_of me origin hops work.effects other) ≡ 0)
      → ((other : NetworkState) → LeftWithin 12 origin (all_entries_of me origin hops work.effects other))
      → Serves plan calm service frame origin owed (absorb me origin hops work base)
  serves_absorb owed me hops work base copies sent balance none within =
      let packets : List Packet = packets_of me origin hops base.sent work.effects in
      let all : AllByRecursion (IsNearCopy plan calm service frame) (of_origin origin base.under_way ++ of_origin origin packets) =
      append_holds (IsNearCopy plan calm service frame) (of_origin origin base.under_way) (of_origin origin packets) copies
      (of_origin_hold (IsNearCopy plan calm service frame) origin packets (sent base.sent)) in
      record {
        copies = subst (AllByRecursion (IsNearCopy plan calm service frame))
            (sym (ap (of_origin origin) (absorb_sends me origin hops work base).under_way ∙ of_origin-append origin base.under_way packets)) all;
        balance = λ circuit site. omega (arith, all_due plan calm service circuit origin me hops work.effects (with_edge me work.edge base), due_still circuit me work.edge base, balance circuit site);
        none = λ circuit away. none circuit (with_edge me work.edge base) away;
        within = within (with_edge me work.edge base);
      }

-- ---- what a bridge gives out

-- nothing where it has no port for the arrival, and otherwise copies
pub data Floods (plan : Plan) (edge : EdgeState) (came : Arrival) (service : ServiceId) (frame : List ℕ) (port : Option ℕ) (es : List Effect) : Type 0 where
  FloodsNot : es ≡ [] → Floods plan edge came service frame port es
  FloodsBy : (arrival : ℕ) → port ≡ Some arrival → AllAreCopies plan edge came service frame arrival es → Floods plan edge came service frame port es

-- what a bridge does with a frame that came by a port
pub floods : (plan : Plan) (came : Arrival) (service : ServiceId) (frame : List ℕ) (port : Option ℕ) (edge : EdgeState)
    → Floods plan edge came service frame port (forwarded plan taken_all came service frame port (beginning edge [])).effects
floods plan came service frame None edge = FloodsNot refl
floods plan came service frame (Some arrival) edge =
    let copied = forwards_copies plan taken_all came service frame arrival (beginning edge []) in
    FloodsBy arrival refl (subst (AllAreCopies plan edge came service frame arrival) (sym copied.joined) copied.all)

-- its packets have passed one segment more
pub copies_near : (plan : Plan) (edge : EdgeState) (me : EdgeId) (origin hops sent : ℕ) (came : Arrival) (service : ServiceId) (frame : List ℕ) (arrival : ℕ) (es : List Effect)
    → ((peer : EdgeId) (wire : WireId) (of_arrival : Arrival) (bytes : List ℕ) → SentCopy plan edge came service frame arrival peer wire of_arrival bytes
    → (row : WirePlan) → wire_row plan wire ≡ Some row → hops + 1 ≤ most_hops plan me peer row)
    → AllAreCopies plan edge came service frame arrival es → AllByRecursion (HasPassed plan) (packets_of me origin hops sent es)
copies_near plan edge me origin hops sent came service frame arrival [] bound all = tt
copies_near plan edge me origin hops sent came service frame arrival (effect.Sent peer wire of_arrival bytes ∷ es) bound all =
    (λ row is. bound peer wire of_arrival bytes all.0 row is, copies_near plan edge me origin hops (sent + 1) came service frame arrival es bound all.1)
copies_near plan edge me origin hops sent came service frame arrival (e ∷ es) bound all = copies_near plan edge me origin hops sent came service frame arrival es bound all.1
