-- The packets under way, as a list: one is found by its number, one goes, one comes. Their numbers rise, and are counted.
use Rattle.std.proofs.Common.{◌≡◌, ◌<◌, ◌≤◌, ◌+◌, ◌++◌, ◌∙◌, ℕ, Bool, true, false, List, [], ◌∷◌, Option, Some, None, cond, refl, ap, sym, subst, nat_eq, length, arith, append_assoc, append-nil, length-append}
use Rattle.std.proofs.lemmas.Bool.{eqb-true, ne_eqb, eqb-false}
use Rattle.std.proofs.lemmas.List.Folds.{find-append}
use Rattle.std.specs.Option.{option_or}
use Rattle.std.specs.List.{AllByRecursion, find}
use Rattle.net_values.proofs.RowLemmas.{found_passes, found_among}
use Rattle.net_base.specs.declared.plan.Plan.{Plan}
use Rattle.net_base.specs.declared.plan.circuit_plan.CircuitPlan.{CircuitPlan}
use Rattle.net_base.specs.declared.plan.places.CircuitId.{CircuitId}
use Rattle.net_base.specs.declared.plan.places.EdgeId.{EdgeId}
use Rattle.net_base.specs.declared.plan.places.WireId.{WireId}
use Rattle.net_base.specs.declared.trace.arrival.Arrival.{Arrival}
use Rattle.net_base.specs.declared.trace.event.Event.{Event}
use Rattle.net_base.specs.declared.trace.event.Event.TheVariants.{Tick, Frame, Arrive, Discard, Again, Ping}
use Rattle.net_base.specs.plan.Places.{circuit_row}
use Rattle.edge_model.specs.declared.effect.Effect.{Effect}
use Rattle.edge_model.specs.declared.effect.Effect.TheVariants as effect
use Rattle.edge_model.specs.Work.{Work}
use Rattle.network_model.specs.declared.packet.Packet.{Packet}
use Rattle.network_model.specs.Absorb.{absorb, absorb_all, absorb_one, idle}
use Rattle.network_model.specs.Frame.{entering, frame_event, frame_work, next_origin}
use Rattle.network_model.specs.Packet.{again_event, arrive_event, arriving, discard_event, packet_at, packet_work, repeating}
use Rattle.network_model.specs.Ping.{ping_event, ping_work}
use Rattle.network_model.specs.Run.{state_after}
use Rattle.network_model.specs.State.{NetworkState, all_older, empty_network, lives_on, older, stands, with_copy, with_edge, with_frame, with_older, with_packet, with_pipe, without_number, without_packet}
use Rattle.network_model.specs.Step.{step}
use Rattle.network_model.proofs.QuietLemmas.{IsQuiet, step_signals, ticks_quiet}

-- ---- what holds of each packet of a list

-- a packet that is found by a number has it
pub packet_number : (network : NetworkState) (number : ℕ) (packet : Packet) → packet_at network number ≡ Some packet → packet.number ≡ number
packet_number network number packet found = eqb-true packet.number number (found_passes (λ p. nat_eq p.number number) network.under_way packet found)

-- what holds of each packet under way holds of the one with a number
pub packet_holds : (P : Packet → Type 0) (network : NetworkState) (number : ℕ) (packet : Packet) → AllByRecursion P network.under_way → packet_at network number ≡ Some packet → P packet
packet_holds P network number packet all found = found_among P (λ p. nat_eq p.number number) network.under_way packet all found

-- and of each that stays without it
pub without_hold : (P : Packet → Type 0) (number : ℕ) (packets : List Packet) → AllByRecursion P packets → AllByRecursion P (without_number number packets)
without_hold P number [] all = tt
without_hold P number (p ∷ ps) all = by (nat_eq p.number number) (without_hold P number ps all.1) where
  by : (b : Bool) → AllByRecursion P (without_number number ps) → AllByRecursion P (cond b ps (p ∷ without_number number ps))
  by true rest = all.1
  by false rest = (all.0, rest)

-- of each of two lists, one behind the other
pub append_holds : (P : Packet → Type 0) (front back : List Packet) → AllByRecursion P front → AllByRecursion P back → AllByRecursion P (front ++ back)
append_holds P [] back all more = more
append_holds P (p ∷ front) back all more = (all.0, append_holds P front back all.1 more)

-- of each where something else does from which it follows
pub holds_by : (P Q : Packet → Type 0) (packets : List Packet) → ((packet : Packet) → P packet → Q packet) → AllByRecursion P packets → AllByRecursion Q packets
holds_by P Q [] next all = tt
holds_by P Q (p ∷ ps) next all = (next p all.0, holds_by P Q ps next all.1)

-- both of each where both do
pub both_hold : (P Q : Packet → Type 0) (packets : List Packet) → AllByRecursion P packets → AllByRecursion Q packets → AllByRecursion (λ packet. P packet × Q packet) packets
both_hold P Q [] all too = tt
both_hold P Q (p ∷ ps) all too = ((all.0, too.0), both_hold P Q ps all.1 too.1)

-- ---- the packets that effects send

-- a packet of an edge
abbrev pub packet_from : EdgeId → ℕ → ℕ → ℕ → EdgeId → WireId → List ℕ → Packet
packet_from me origin hops sent peer wire octets = record { number = sent + 1; wire = wire; from = me; to = peer; origin = origin; hops = hops + 1; age = 0; bytes = octets }

-- those of its effects, where so many were sent before
abbrev pub packets_of : EdgeId → ℕ → ℕ → ℕ → List Effect → List Packet
packets_of me origin hops sent [] = []
packets_of me origin hops sent (effect.Sent peer wire came octets ∷ es) = packet_from me origin hops sent peer wire octets ∷ packets_of me origin hops (sent + 1) es
packets_of me origin hops sent (e ∷ es) = packets_of me origin hops sent es

-- they come behind those under way, and are counted
pub record HasSent (network : NetworkState) (packets : List Packet) (next : NetworkState) : Type 0 where
  pub under_way : next.under_way ≡ network.under_way ++ packets
  pub sent : next.sent ≡ network.sent + length packets
  pub entered : next.entered ≡ network.entered

pub sent_none : (network : NetworkState) → HasSent network [] network
sent_none network = record { under_way = sym (append-nil network.under_way); sent = omega arith; entered = refl }

pub sent_then : (a b c : NetworkState) (first next : List Packet) → HasSent a first b → HasSent b next c → HasSent a (first ++ next) c
sent_then a b c first next here later = record {
  under_way = later.under_way ∙ (ap (λ (l : List Packet). l ++ next) here.under_way ∙ append_assoc a.under_way first next);
  sent = omega (arith, later.sent, here.sent, length-append first next);
  entered = later.entered ∙ here.entered;
}

pipe_sends : (from to : EdgeId) (octets : List ℕ) (network : NetworkState) (b : Bool) → HasSent network [] (cond b (with_pipe from to octets network) network)
unfolding with_pipe
pipe_sends from to octets network true = record { under_way = sym (append-nil network.under_way); sent = omega arith; entered = refl }
pipe_sends from to octets network false = sent_none network

pub packet_sends : (wire : WireId) (from to : EdgeId) (origin hops : ℕ) (octets : List ℕ) (network : NetworkState)
    → HasSent network (record { number = network.sent + 1; wire = wire; from = from; to = to; origin = origin; hops = hops; age = 0; bytes = octets } ∷ [])
    (with_packet wire from to origin hops octets network)
unfolding with_packet
packet_sends wire from to origin hops octets network = record { under_way = refl; sent = refl; entered = refl }

one_sends : (me : EdgeId) (origin hops : ℕ) (e : Effect) (network : NetworkState) → HasSent network (packets_of me origin hops network.sent (e ∷ [])) (absorb_one me origin hops e network)
one_sends me origin hops (effect.Sent peer wire came octets) network = packet_sends wire me peer origin (hops + 1) octets network
one_sends me origin hops (effect.Said peer octets) network = pipe_sends me peer (network.pipes me.0 peer.0 ++ octets) network (stands network peer.0 me.0)
one_sends me origin hops (effect.Closed peer) network = pipe_sends peer me [] network true
one_sends me origin hops e network = sent_none network

packets_then : (me : EdgeId) (origin hops sent next : ℕ) (e : Effect) (es : List Effect) → next ≡ sent + length (packets_of me origin hops sent (e ∷ []))
    → packets_of me origin hops sent (e ∷ []) ++ packets_of me origin hops next es ≡ packets_of me origin hops sent (e ∷ es)
packets_then me origin hops sent next (effect.Sent peer wire came octets) es is = ap (λ (n : ℕ). packet_from me origin hops sent peer wire octets ∷ packets_of me origin hops n es) (omega (arith, is))
packets_then me origin hops sent next e es is = ap (λ (n : ℕ). packets_of me origin hops n es) (omega (arith, is))

pub all_send : (me : EdgeId) (origin hops : ℕ) (es : List Effect) (network : NetworkState) → HasSent network (packets_of me origin hops network.sent es) (absorb_all me origin hops es network)
all_send me origin hops [] network = sent_none network
all_send me origin hops (e ∷ es) network =
    let next : NetworkState = absorb_one me origin hops e network in
    let here = one_sends me origin hops e network in
    subst (λ (packets : List Packet). HasSent network packets (absorb_all me origin hops es next)) (packets_then me origin hops network.sent next.sent e es here.sent)
    (sent_then network next (absorb_all me origin hops es next) (packets_of me origin hops network.sent (e ∷ [])) (packets_of me origin hops next.sent es) here (all_send me origin hops es next))

pub absorb_sends : (me : EdgeId) (origin hops : ℕ) (work : Work) (network : NetworkState)
    → HasSent network (packets_of me origin hops network.sent work.effects) (absorb me origin hops work network).state
unfolding with_edge
absorb_sends me origin hops work network =
    let same = all_send me origin hops work.effects (with_edge me work.edge network) in
    record { under_way = same.under_way; sent = same.sent; entered = same.entered }

-- what holds of each packet that effects send, whatever its number is, holds of their packets
abbrev pub EachSent : (EdgeId → WireId → Arrival → List ℕ → Type 0) → List Effect → Type 0
EachSent S [] = Unit {0}
EachSent S (effect.Sent peer wire came octets ∷ es) = S peer wire came octets × EachSent S es
EachSent S (e ∷ es) = EachSent S es

pub each_packet : (P : Packet → Type 0) (S : EdgeId → WireId → Arrival → List ℕ → Type 0) (me : EdgeId) (origin hops sent : ℕ) (es : List Effect)
    → ((before : ℕ) (peer : EdgeId) (wire : WireId) (came : Arrival) (octets : List ℕ) → S peer wire came octets → P (packet_from me origin hops before peer wire octets))
    → EachSent S es → AllByRecursion P (packets_of me origin hops sent es)
each_packet P S me origin hops sent [] next each = tt
each_packet P S me origin hops sent (effect.Sent peer wire came octets ∷ es) next each = (next sent peer wire came octets each.0, each_packet P S me origin hops (sent + 1) es next each.1)
each_packet P S me origin hops sent (e ∷ es) next each = each_packet P S me origin hops sent es next each

-- the packets under way after a frame has entered, after a packet has arrived, and after one was repeated
pub entering_sends : (network : NetworkState) (circuit : CircuitId) (octets : List ℕ) (row : CircuitPlan) (work : Work)
    → HasSent (with_frame network) (packets_of row.edge (next_origin network) 0 network.sent work.effects) (entering network circuit octets row work).state
unfolding with_frame
entering_sends network circuit octets row work = absorb_sends row.edge (next_origin network) 0 work (with_frame network)

pub arriving_sends : (plan : Plan) (packet : Packet) (network : NetworkState)
    → HasSent (without_packet packet.number network) (packets_of packet.to packet.origin packet.hops network.sent (packet_work plan network packet).effects) (arriving plan packet network).state
unfolding without_packet
arriving_sends plan packet network = absorb_sends packet.to packet.origin packet.hops (packet_work plan network packet) (without_packet packet.number network)

-- a copy of a packet, where so many were sent before
abbrev pub copy_of : ℕ → Packet → Packet
copy_of sent packet = record packet { number = sent + 1 }

pub repeating_sends : (packet : Packet) (network : NetworkState) → HasSent network (copy_of network.sent packet ∷ []) (repeating packet network).state
unfolding with_copy
repeating_sends packet network = record { under_way = refl; sent = refl; entered = refl }

-- ---- the numbers of packets under way rise

-- each number is larger than the one before it, and the first than this one
abbrev pub NumbersRise : ℕ → List Packet → Type 0
NumbersRise least [] = Unit {0}
NumbersRise least (p ∷ ps) = (least < p.number) × NumbersRise p.number ps

pub rise_from : (least below : ℕ) (packets : List Packet) → below ≤ least → NumbersRise least packets → NumbersRise below packets
rise_from least below [] under rise = tt
rise_from least below (p ∷ ps) under rise =
    let first : least < p.number = rise.0 in
    (omega (arith, first, under), rise.1)

pub without_rise : (least number : ℕ) (packets : List Packet) → NumbersRise least packets → NumbersRise least (without_number number packets)
without_rise least number [] rise = tt
without_rise least number (p ∷ ps) rise = by (nat_eq p.number number) (without_rise p.number number ps rise.1) where
  by : (b : Bool) → NumbersRise p.number (without_number number ps) → NumbersRise least (cond b ps (p ∷ without_number number ps))
  by true rest =
      let first : least < p.number = rise.0 in
      rise_from p.number least ps (omega (arith, first)) rise.1
  by false rest = (rise.0, rest)

-- one list behind the other, where no number of the first is larger than one from which those of the second rise
pub append_rise : (least most : ℕ) (front back : List Packet) → least ≤ most → NumbersRise least front → AllByRecursion (λ packet. packet.number ≤ most) front → NumbersRise most back
    → NumbersRise least (front ++ back)
append_rise least most [] back under rise within more = rise_from most least back under more
append_rise least most (p ∷ front) back under rise within more = (rise.0, append_rise p.number most front back within.0 rise.1 within.1 more)

-- a packet whose number is the first one's is under way no more once that has gone
pub none_below : (least number : ℕ) (packets : List Packet) → number ≤ least → NumbersRise least packets → find (λ packet. nat_eq packet.number number) packets ≡ None
none_below least number [] under rise = refl
none_below least number (p ∷ ps) under rise =
    let first : least < p.number = rise.0 in
    rw (ne_eqb p.number number (λ same. absurd (omega (arith, same, first, under)))) (none_below p.number number ps (omega (arith, first, under)) rise.1)

pub gone : (least number : ℕ) (packets : List Packet) → NumbersRise least packets → find (λ packet. nat_eq packet.number number) (without_number number packets) ≡ None
gone least number [] rise = refl
gone least number (p ∷ ps) rise = by (nat_eq p.number number) refl (gone p.number number ps rise.1) where
  by : (b : Bool) → nat_eq p.number number ≡ b → find (λ packet. nat_eq packet.number number) (without_number number ps) ≡ None
      → find (λ packet. nat_eq packet.number number) (cond b ps (p ∷ without_number number ps)) ≡ None
  by true same rest = none_below p.number number ps (omega (arith, eqb-true p.number number same)) rise.1
  by false other rest = rw other rest

-- the others are found as before
pub others_stay : (number other : ℕ) (packets : List Packet) → nat_eq other number ≡ false → find (λ packet. nat_eq packet.number other) (without_number number packets)
    ≡ find (λ packet. nat_eq packet.number other) packets
others_stay number other [] apart = refl
others_stay number other (p ∷ ps) apart = by (nat_eq p.number number) refl (others_stay number other ps apart) where
  by : (b : Bool) → nat_eq p.number number ≡ b
      → find (λ packet. nat_eq packet.number other) (without_number number ps) ≡ find (λ packet. nat_eq packet.number other) ps
      → find (λ packet. nat_eq packet.number other) (cond b ps (p ∷ without_number number ps)) ≡ cond (nat_eq p.number other) (Some p) (find (λ packet. nat_eq packet.number other) ps)
  by true same rest =
      let place : p.number ≡ number = eqb-true p.number number same in
      rw (ne_eqb p.number other (λ e. eqb-false other number apart (sym e ∙ place))) refl
  by false away rest = ap (λ (found : Option Packet). cond (nat_eq p.number other) (Some p) found) rest

-- ---- and are counted, in every state of a run

-- a number below the next one, of a frame that has entered, or of none
pub record IsCounted (sent entered : ℕ) (packet : Packet) : Type 0 where
  pub number : packet.number ≤ sent
  pub origin : packet.origin ≤ entered

pub record AreNumbered (network : NetworkState) : Type 0 where
  pub rise : NumbersRise 0 network.under_way
  pub counted : AllByRecursion (IsCounted network.sent network.entered) network.under_way

-- the packets of an edge are
packets_rise : (me : EdgeId) (origin hops sent : ℕ) (es : List Effect) → NumbersRise sent (packets_of me origin hops sent es)
packets_rise me origin hops sent [] = tt
packets_rise me origin hops sent (effect.Sent peer wire came octets ∷ es) = (omega arith, packets_rise me origin hops (sent + 1) es)
packets_rise me origin hops sent (e ∷ es) = packets_rise me origin hops sent es

packets_counted : (me : EdgeId) (origin hops sent last entered : ℕ) (es : List Effect) → origin ≤ entered → sent + length (packets_of me origin hops sent es) ≤ last
    → AllByRecursion (IsCounted last entered) (packets_of me origin hops sent es)
packets_counted me origin hops sent last entered [] came within = tt
packets_counted me origin hops sent last entered (effect.Sent peer wire came octets ∷ es) under within =
    (record { number = omega (arith, within); origin = under }, packets_counted me origin hops (sent + 1) last entered es under (omega (arith, within)))
packets_counted me origin hops sent last entered (e ∷ es) under within = packets_counted me origin hops sent last entered es under within

counted_on : (sent next entered after : ℕ) (packets : List Packet) → sent ≤ next → entered ≤ after → AllByRecursion (IsCounted sent entered) packets → AllByRecursion (IsCounted next after) packets
counted_on sent next entered after packets more later all =
    holds_by (IsCounted sent entered) (IsCounted next after) packets (λ packet is. record { number = omega (arith, is.number, more); origin = omega (arith, is.origin, later) }) all

-- some packets go, and others come behind the rest
numbered_then : (network next : NetworkState) (packets : List Packet) → AreNumbered network → HasSent network packets next → NumbersRise network.sent packets
    → AllByRecursion (IsCounted next.sent next.entered) packets → AreNumbered next
numbered_then network next packets numbered sends rise counted =
    let more : network.sent ≤ next.sent = omega (arith, sends.sent) in
    let numbers : AllByRecursion (λ packet. packet.number ≤ network.sent) network.under_way =
    holds_by (IsCounted network.sent network.entered) (λ packet. packet.number ≤ network.sent) network.under_way (λ packet is. is.number) numbered.counted in
    record {
      rise = subst (λ (l : List Packet). NumbersRise 0 l) (sym sends.under_way) (append_rise 0 network.sent network.under_way packets (omega arith) numbered.rise numbers rise);
      counted = subst (λ (l : List Packet). AllByRecursion (IsCounted next.sent next.entered) l) (sym sends.under_way)
          (append_holds (IsCounted next.sent next.entered) network.under_way packets
          (counted_on network.sent next.sent network.entered next.entered network.under_way more (omega (arith, sends.entered)) numbered.counted) counted);
    }

absorb_numbered : (me : EdgeId) (origin hops : ℕ) (work : Work) (network : NetworkState) → origin ≤ network.entered → AreNumbered network → AreNumbered (absorb me origin hops work network).state
absorb_numbered me origin hops work network under numbered =
    let next : NetworkState = (absorb me origin hops work network).state in
    let sends = absorb_sends me origin hops work network in
    let packets : List Packet = packets_of me origin hops network.sent work.effects in
    numbered_then network next packets numbered sends (packets_rise me origin hops network.sent work.effects)
    (packets_counted me origin hops network.sent next.sent next.entered work.effects (omega (arith, under, sends.entered)) (omega (arith, sends.sent)))

quiet_numbered : (network next : NetworkState) → AreNumbered network → IsQuiet network next → AreNumbered next
quiet_numbered network next numbered quiet = record {
  rise = subst (λ (l : List Packet). NumbersRise 0 l) (sym quiet.under_way) numbered.rise;
  counted = subst (λ (l : List Packet). AllByRecursion (IsCounted next.sent next.entered) l) (sym quiet.under_way)
      (counted_on network.sent next.sent network.entered next.entered network.under_way (omega (arith, quiet.sent)) (omega (arith, quiet.entered)) numbered.counted);
}

entered_numbered : (network : NetworkState) → AreNumbered network → AreNumbered (with_frame network)
unfolding with_frame
entered_numbered network numbered = record {
  rise = numbered.rise;
  counted = counted_on network.sent network.sent network.entered (network.entered + 1) network.under_way (omega arith) (omega arith) numbered.counted;
}

frame_numbered : (plan : Plan) (network : NetworkState) (circuit : CircuitId) (octets : List ℕ) (row : Option CircuitPlan) → AreNumbered network
    → AreNumbered (frame_event plan circuit octets row network).state
unfolding with_frame
frame_numbered plan network circuit octets None numbered = numbered
frame_numbered plan network circuit octets (Some row) numbered = by (frame_work plan network circuit octets row).idle where
  by : (idles : Bool) → AreNumbered (cond idles (idle network) (entering network circuit octets row (frame_work plan network circuit octets row))).state
  by true = numbered
  by false = absorb_numbered row.edge (next_origin network) 0 (frame_work plan network circuit octets row) (with_frame network) (omega arith) (entered_numbered network numbered)

without_numbered : (number : ℕ) (network : NetworkState) → AreNumbered network → AreNumbered (without_packet number network)
unfolding without_packet
without_numbered number network numbered = record {
  rise = without_rise 0 number network.under_way numbered.rise;
  counted = without_hold (IsCounted network.sent network.entered) number network.under_way numbered.counted;
}

-- the count of frames stays where a packet goes
abbrev pub still_entered : ℕ → NetworkState → Type 0
still_entered number network = (without_packet number network).entered ≡ network.entered

without_enters : (number : ℕ) (network : NetworkState) → still_entered number network
unfolding without_packet
without_enters number network = refl

arrive_numbered : (plan : Plan) (network : NetworkState) (number : ℕ) (found : Option Packet) → packet_at network number ≡ found → AreNumbered network
    → AreNumbered (arrive_event plan found network).state
arrive_numbered plan network number None is numbered = numbered
arrive_numbered plan network number (Some packet) is numbered =
    let counted = packet_holds (IsCounted network.sent network.entered) network number packet numbered.counted is in
    absorb_numbered packet.to packet.origin packet.hops (packet_work plan network packet) (without_packet packet.number network)
    (omega (arith, counted.origin, without_enters packet.number network)) (without_numbered packet.number network numbered)

discard_numbered : (network : NetworkState) (found : Option Packet) → AreNumbered network → AreNumbered (discard_event found network).state
discard_numbered network None numbered = numbered
discard_numbered network (Some packet) numbered = without_numbered packet.number network numbered

again_numbered : (network : NetworkState) (number : ℕ) (found : Option Packet) → packet_at network number ≡ found → AreNumbered network → AreNumbered (again_event found network).state
again_numbered network number None is numbered = numbered
again_numbered network number (Some packet) is numbered =
    let next : NetworkState = (repeating packet network).state in
    let sends = repeating_sends packet network in
    let counted = packet_holds (IsCounted network.sent network.entered) network number packet numbered.counted is in
    numbered_then network next (copy_of network.sent packet ∷ []) numbered sends (omega arith, tt)
    (record { number = omega (arith, sends.sent); origin = omega (arith, counted.origin, sends.entered) }, tt)

ping_numbered : (plan : Plan) (me : EdgeId) (wire : WireId) (network : NetworkState) → AreNumbered network → AreNumbered (ping_event plan me wire network).state
ping_numbered plan me wire network numbered = by (ping_work plan network me wire).idle where
  by : (idles : Bool) → AreNumbered (cond idles (idle network) (absorb me 0 0 (ping_work plan network me wire) network)).state
  by true = numbered
  by false = absorb_numbered me 0 0 (ping_work plan network me wire) network (omega arith) numbered

-- a tick keeps the numbers of those that stay
older_rise : (least : ℕ) (packets : List Packet) → NumbersRise least packets → NumbersRise least (all_older packets)
older_rise least [] rise = tt
older_rise least (p ∷ ps) rise = by (lives_on p) (older_rise p.number ps rise.1) where
  by : (b : Bool) → NumbersRise p.number (all_older ps) → NumbersRise least (cond b (older p ∷ all_older ps) (all_older ps))
  by true rest = (rise.0, rest)
  by false rest =
      let first : least < p.number = rise.0 in
      rise_from p.number least (all_older ps) (omega (arith, first)) rest

-- what holds of each packet whatever its age is holds of those that a tick leaves
pub older_hold : (P : Packet → Type 0) (packets : List Packet) → ((packet : Packet) → P packet → P (older packet)) → AllByRecursion P packets → AllByRecursion P (all_older packets)
older_hold P [] ages all = tt
older_hold P (p ∷ ps) ages all = by (lives_on p) (older_hold P ps ages all.1) where
  by : (b : Bool) → AllByRecursion P (all_older ps) → AllByRecursion P (cond b (older p ∷ all_older ps) (all_older ps))
  by true rest = (ages p all.0, rest)
  by false rest = rest

pub older_numbered : (network : NetworkState) → AreNumbered network → AreNumbered (with_older network)
unfolding with_older
older_numbered network numbered = record {
  rise = older_rise 0 network.under_way numbered.rise;
  counted = older_hold (IsCounted network.sent network.entered) network.under_way (λ packet is. record { number = is.number; origin = is.origin }) numbered.counted;
}

pub step_numbered : (plan : Plan) (network : NetworkState) (event : Event) → AreNumbered network → AreNumbered (step plan network event).state
step_numbered plan network (Frame circuit octets) numbered = frame_numbered plan network circuit octets (circuit_row plan circuit) numbered
step_numbered plan network (Arrive number) numbered = arrive_numbered plan network number (packet_at network number) refl numbered
step_numbered plan network (Discard number) numbered = discard_numbered network (packet_at network number) numbered
step_numbered plan network (Again number) numbered = again_numbered network number (packet_at network number) refl numbered
step_numbered plan network (Ping me wire) numbered = ping_numbered plan me wire network numbered
step_numbered plan network Tick numbered = quiet_numbered (with_older network) (step plan network Tick).state (older_numbered network numbered)
    (ticks_quiet plan 0 (length plan.edges) (with_older network))
step_numbered plan network event numbered = quiet_numbered network (step plan network event).state numbered (step_signals plan network event refl).quiet

pub after_numbered : (plan : Plan) (network : NetworkState) (events : List Event) → AreNumbered network → AreNumbered (state_after plan network events)
after_numbered plan network [] numbered = numbered
after_numbered plan network (e ∷ es) numbered = after_numbered plan (step plan network e).state es (step_numbered plan network e numbered)

-- in every state of a run the numbers of the packets under way rise, each packet was counted as it was sent, and has the number of
-- a frame that has entered
pub run_numbered : (plan : Plan) (events : List Event) → AreNumbered (state_after plan (empty_network plan) events)
run_numbered plan events = after_numbered plan (empty_network plan) events (record { rise = tt; counted = tt })

-- ---- a packet arrives, or is lost, once

without_gone : (number : ℕ) (network : NetworkState) → AreNumbered network → packet_at (without_packet number network) number ≡ None
unfolding without_packet
without_gone number network numbered = gone 0 number network.under_way numbered.rise

arriving_gone : (plan : Plan) (packet : Packet) (network : NetworkState) → AreNumbered network → packet.number ≤ network.sent → packet_at (arriving plan packet network).state packet.number ≡ None
arriving_gone plan packet network numbered under =
    let rest : NetworkState = without_packet packet.number network in
    let packets : List Packet = packets_of packet.to packet.origin packet.hops network.sent (packet_work plan network packet).effects in
    let test : Packet → Bool = λ p. nat_eq p.number packet.number in
    let later : find test packets ≡ None = none_below network.sent packet.number packets under
    (packets_rise packet.to packet.origin packet.hops network.sent (packet_work plan network packet).effects) in
    ap (λ (l : List Packet). find test l) (arriving_sends plan packet network).under_way
    ∙ (find-append test rest.under_way packets
    ∙ (ap (λ (found : Option Packet). option_or found (find test packets)) (without_gone packet.number network numbered) ∙ later))

arrive_gone : (plan : Plan) (network : NetworkState) (number : ℕ) (found : Option Packet) → packet_at network number ≡ found → AreNumbered network
    → packet_at (arrive_event plan found network).state number ≡ None
arrive_gone plan network number None is numbered = is
arrive_gone plan network number (Some packet) is numbered =
    let counted = packet_holds (IsCounted network.sent network.entered) network number packet numbered.counted is in
    ap (packet_at (arriving plan packet network).state) (sym (packet_number network number packet is)) ∙ arriving_gone plan packet network numbered counted.number

discard_gone : (network : NetworkState) (number : ℕ) (found : Option Packet) → packet_at network number ≡ found → AreNumbered network → packet_at (discard_event found network).state number ≡ None
discard_gone network number None is numbered = is
discard_gone network number (Some packet) is numbered =
    let same : packet.number ≡ number = packet_number network number packet is in
    ap (λ (n : ℕ). packet_at (without_packet n network) number) same ∙ without_gone number network numbered

-- a packet that has arrived is under way no more
pub arrived_gone : (plan : Plan) (network : NetworkState) (number : ℕ) → AreNumbered network → packet_at (step plan network (Arrive number)).state number ≡ None
arrived_gone plan network number numbered = arrive_gone plan network number (packet_at network number) refl numbered

-- nor is one that was lost
pub lost_gone : (plan : Plan) (network : NetworkState) (number : ℕ) → AreNumbered network → packet_at (step plan network (Discard number)).state number ≡ None
lost_gone plan network number numbered = discard_gone network number (packet_at network number) refl numbered
