-- Packets under way: one is taken off its way, and one is sent once more.
use Rattle.std.proofs.Common.{◌≡◌, ◌==◌, ◌<◌, ◌≤◌, ◌+◌, ◌++◌, ◌∷◌, ◌∙◌, [], ℕ, Bool, true, false, List, Option, Some, None, Result, Ok, Err, IfSome, OnErr, OnOk, cond, option_map, refl, ap, sym, subst, arith, length, append-nil, eqb-true}
use Rattle.std.specs.List.{find}
use Rattle.net_base.specs.declared.plan.Plan.{Plan}
use Rattle.net_base.specs.declared.trace.entry.Entry.{Entry}
use Rattle.net_base.specs.declared.trace.entry.Entry.TheVariants.{Copied, Idle}
use Rattle.net_values.specs.declared.no_memory.NoMemory.{NoMemory}
use Rattle.edge_model.specs.Work.{Work}
use Rattle.network_model.specs.declared.packet.Packet.{Packet}
use Rattle.network_model.specs.Absorb.{Stepped, absorb}
use Rattle.network_model.specs.Absorb.{idle as idle_event}
use Rattle.network_model.specs.Packet.{again_event, arrive_event, arriving, discard_event, packet_at, packet_work}
use Rattle.network_model.specs.State.{NetworkState, with_copy, without_number, without_packet}
use Rattle.psn_net.specs.Lists.{HasRoom, HasStepped, IsNetwork, NetLists, copied, network_seen}
use Rattle.psn_net.specs.Packets.{ArePacketsOf, IsPacketOf, UnderWay, is_numbered, with_copy_of}

-- ---- the packets are those of the plan

pub planned_found : (plan : Plan) (last number : ℕ) (ps : List Packet) → ArePacketsOf plan last ps → IfSome (find (is_numbered number) ps) (IsPacketOf plan last)
planned_found plan last number [] are = tt
planned_found plan last number (p ∷ ps) are = by (p.number == number) (planned_found plan last number ps are.1) where
  by : (b : Bool) → IfSome (find (is_numbered number) ps) (IsPacketOf plan last) → IfSome (cond b (Some p) (find (is_numbered number) ps)) (IsPacketOf plan last)
  by true rest = are.0
  by false rest = rest

pub planned_rest : (plan : Plan) (last number : ℕ) (ps : List Packet) → ArePacketsOf plan last ps → ArePacketsOf plan last (without_number number ps)
planned_rest plan last number [] are = are
planned_rest plan last number (p ∷ ps) are = by (p.number == number) (planned_rest plan last number ps are.1) where
  by : (b : Bool) → ArePacketsOf plan last (without_number number ps) → ArePacketsOf plan last (cond b ps (p ∷ without_number number ps))
  by true rest = are.1
  by false rest = (are.0, rest)

-- one more is sent
pub packets_more : (plan : Plan) (last : ℕ) (ps : List Packet) (p : Packet) → ArePacketsOf plan last ps → p.from.0 < length plan.edges → p.to.0 < length plan.edges → p.hops ≤ last + 1
    → ArePacketsOf plan (last + 1) (ps ++ p ∷ [])
packets_more plan last [] p are from to passed = (record { from = from; to = to; hops = passed }, tt)
packets_more plan last (q ∷ qs) p are from to passed =
    (record { from = are.0.from; to = are.0.to; hops = omega (arith, are.0.hops) }, packets_more plan last qs p are.1 from to passed)

pub ruleset taken_steps = (planned_found, planned_rest)

-- a copy of one is sent, where it is under way
planned_copied : (plan : Plan) (packets : UnderWay) (number : ℕ) → ArePacketsOf plan packets.last packets.list
    → ArePacketsOf plan (with_copy_of (find (is_numbered number) packets.list) packets).last (with_copy_of (find (is_numbered number) packets.list) packets).list
planned_copied plan packets number are = by (find (is_numbered number) packets.list) (planned_found plan packets.last number packets.list are) where
  by : (o : Option Packet) → IfSome o (IsPacketOf plan packets.last) → ArePacketsOf plan (with_copy_of o packets).last (with_copy_of o packets).list
  by None is = are
  by (Some p) is = packets_more plan packets.last packets.list (record p { number = packets.last + 1 }) are is.from is.to (omega (arith, is.hops))

copied_network : (n : NetLists) (number : ℕ) → IsNetwork n → HasRoom n → IsNetwork (record n { packets = with_copy_of (find (is_numbered number) n.packets.list) n.packets })
copied_network n number is room = record {
  checked = is.checked;
  count = is.count;
  square = is.square;
  planned = is.planned;
  placed = is.placed;
  packets = planned_copied n.plan n.packets number is.packets;
  packets_told = sent (find (is_numbered number) n.packets.list);
  frames_told = is.frames_told;
  ticks_told = ticked (find (is_numbered number) n.packets.list);
} where
  sent : (o : Option Packet) → (with_copy_of o n.packets).last ≤ length n.trace
  sent None = is.packets_told
  sent (Some p) = omega (arith, room.packets)

  ticked : (o : Option Packet) → (with_copy_of o n.packets).ticks ≤ length n.trace
  ticked None = is.ticks_told
  ticked (Some p) = is.ticks_told

pub repeated_network : (n : NetLists) (now : UnderWay) (number : ℕ) (result : Result (Option ℕ) NoMemory) → IsNetwork n → HasRoom n
    → OnOk result (now ≡ with_copy_of (find (is_numbered number) n.packets.list) n.packets) → OnErr result (now ≡ n.packets) → IsNetwork (record n { packets = now })
repeated_network n now number (Ok copy) is room ok err = subst (λ (u : UnderWay). IsNetwork (record n { packets = u })) (sym ok) (copied_network n number is room)
repeated_network n now number (Err fault) is room ok err = subst (λ (u : UnderWay). IsNetwork (record n { packets = u })) (sym err) is

pub repeated_seen : (n : NetLists) (now : UnderWay) (number : ℕ) → now ≡ with_copy_of (find (is_numbered number) n.packets.list) n.packets
    → network_seen (record n { packets = now }) ≡ copied (packet_at (network_seen n) number) (network_seen n)
unfolding network_seen with_copy
repeated_seen n now number is = ap (λ (u : UnderWay). network_seen (record n { packets = u })) is ∙ by (find (is_numbered number) n.packets.list) where
  by : (o : Option Packet) → network_seen (record n { packets = with_copy_of o n.packets }) ≡ copied o (network_seen n)
  by None = refl
  by (Some p) = refl

pub ruleset repeated_steps = (repeated_network, repeated_seen)

-- ---- the packet with a number

found_number : (number : ℕ) (ps : List Packet) (p : Packet) → find (is_numbered number) ps ≡ Some p → p.number ≡ number
found_number number [] p found = absurd (cc (found))
found_number number (q ∷ qs) p found = by (q.number == number) refl found (λ rest. found_number number qs p rest) where
  by : (b : Bool) → (q.number == number) ≡ b → cond b (Some q) (find (is_numbered number) qs) ≡ Some p → (find (is_numbered number) qs ≡ Some p → p.number ≡ number) → p.number ≡ number
  by true here is rest = let same : q ≡ p = cc (is) in sym (ap (λ (r : Packet). r.number) same) ∙ eqb-true q.number number here
  by false away is rest = rest is

none_left_out : (number : ℕ) (ps : List Packet) → find (is_numbered number) ps ≡ None → without_number number ps ≡ ps
none_left_out number [] none = refl
none_left_out number (q ∷ qs) none = by (q.number == number) none (λ rest. none_left_out number qs rest) where
  by : (b : Bool) → cond b (Some q) (find (is_numbered number) qs) ≡ None → (find (is_numbered number) qs ≡ None → without_number number qs ≡ qs) → cond b qs (q ∷ without_number number qs) ≡ q ∷ qs
  by true is rest = absurd (cc (is))
  by false is rest = ap (λ (ps : List Packet). q ∷ ps) (rest is)

none_taken : (number : ℕ) (network : NetworkState) → packet_at network number ≡ None → without_packet number network ≡ network
unfolding without_packet
none_taken number network none = ap (λ (ps : List Packet). record network { under_way = ps }) (none_left_out number network.under_way none)

-- ---- what comes of it

-- nothing was told before
told_from : (old mid now : NetLists) (stepped : Stepped) → mid.trace ≡ old.trace → HasStepped mid now stepped → HasStepped old now stepped
told_from old mid now stepped told next = record { state = next.state; told = next.told ∙ ap (λ (t : List Entry). t ++ stepped.entries) told }

-- the event does not apply
pub idle_stepped : (old mid now : NetLists) (number : ℕ) → packet_at (network_seen old) number ≡ None → network_seen mid ≡ without_packet number (network_seen old) → mid.trace ≡ old.trace
    → network_seen now ≡ network_seen mid → now.trace ≡ mid.trace ++ Idle ∷ [] → HasStepped old now (idle_event (network_seen old))
idle_stepped old mid now number none taken same state told = record {
  state = state ∙ (taken ∙ none_taken number (network_seen old) none);
  told = told ∙ ap (λ (t : List Entry). t ++ Idle ∷ []) same;
}

pub arrive_idle_stepped : (old mid now : NetLists) (number : ℕ) → packet_at (network_seen old) number ≡ None → network_seen mid ≡ without_packet number (network_seen old) → mid.trace ≡ old.trace
    → network_seen now ≡ network_seen mid → now.trace ≡ mid.trace ++ Idle ∷ [] → HasStepped old now (arrive_event old.plan (packet_at (network_seen old) number) (network_seen old))
arrive_idle_stepped old mid now number none taken same state told =
    let event = ap (λ (o : Option Packet). arrive_event old.plan o (network_seen old)) none in
    subst (λ (s : Stepped). HasStepped old now s) (sym event) (idle_stepped old mid now number none taken same state told)

pub discard_idle_stepped : (old mid now : NetLists) (number : ℕ) → packet_at (network_seen old) number ≡ None → network_seen mid ≡ without_packet number (network_seen old) → mid.trace ≡ old.trace
    → network_seen now ≡ network_seen mid → now.trace ≡ mid.trace ++ Idle ∷ [] → HasStepped old now (discard_event (packet_at (network_seen old) number) (network_seen old))
discard_idle_stepped old mid now number none taken same state told =
    let event = ap (λ (o : Option Packet). discard_event o (network_seen old)) none in
    subst (λ (s : Stepped). HasStepped old now s) (sym event) (idle_stepped old mid now number none taken same state told)

-- the packet is on its way no more
without_found : (network : NetworkState) (number : ℕ) (packet : Packet) → packet_at network number ≡ Some packet → without_packet number network ≡ without_packet packet.number network
without_found network number packet found = ap (λ (n : ℕ). without_packet n network) (sym (found_number number network.under_way packet found))

pub discard_stepped : (old mid : NetLists) (number : ℕ) (packet : Packet) → packet_at (network_seen old) number ≡ Some packet → network_seen mid
    ≡ without_packet number (network_seen old) → mid.trace ≡ old.trace
    → HasStepped old mid (discard_event (packet_at (network_seen old) number) (network_seen old))
discard_stepped old mid number packet found taken told =
    let event = ap (λ (o : Option Packet). discard_event o (network_seen old)) found in
    subst (λ (s : Stepped). HasStepped old mid s) (sym event) (record {
      state = taken ∙ without_found (network_seen old) number packet found;
      told = told ∙ sym (append-nil old.trace);
    })

-- the edge that it reaches is as it was
same_work : (plan : Plan) (network : NetworkState) (number : ℕ) (packet : Packet) → packet_work plan (without_packet number network) packet ≡ packet_work plan network packet
unfolding without_packet
same_work plan network number packet = refl

pub arrive_stepped : (old mid now : NetLists) (number : ℕ) (packet : Packet) → packet_at (network_seen old) number ≡ Some packet → mid.plan ≡ old.plan
    → network_seen mid ≡ without_packet number (network_seen old) → mid.trace ≡ old.trace
    → HasStepped mid now (absorb packet.to packet.origin packet.hops (packet_work mid.plan (network_seen mid) packet) (network_seen mid))
    → HasStepped old now (arrive_event old.plan (packet_at (network_seen old) number) (network_seen old))
arrive_stepped old mid now number packet found planned taken told next =
    told_from old mid now (arrive_event old.plan (packet_at (network_seen old) number) (network_seen old)) told (subst (λ (s : Stepped). HasStepped mid now s) (same ∙ sym event) next)
  where
    rest : NetworkState
    rest = without_packet packet.number (network_seen old)

    event : arrive_event old.plan (packet_at (network_seen old) number) (network_seen old) ≡ arriving old.plan packet (network_seen old)
    event = ap (λ (o : Option Packet). arrive_event old.plan o (network_seen old)) found

    work : packet_work mid.plan (network_seen mid) packet ≡ packet_work old.plan (network_seen old) packet
    work = ap (λ (p : Plan). packet_work p (network_seen mid) packet) planned ∙ (ap (λ (n : NetworkState). packet_work old.plan n packet) taken ∙ same_work old.plan (network_seen old) number packet)

    same : absorb packet.to packet.origin packet.hops (packet_work mid.plan (network_seen mid) packet) (network_seen mid) ≡ arriving old.plan packet (network_seen old)
    same = ap (λ (w : Work). absorb packet.to packet.origin packet.hops w (network_seen mid)) work
        ∙ ap (λ (n : NetworkState). absorb packet.to packet.origin packet.hops (packet_work old.plan (network_seen old) packet) n) (taken ∙ without_found (network_seen old) number packet found)

pub ruleset arrive_steps = (arrive_idle_stepped, arrive_stepped)

pub ruleset discard_steps = (discard_idle_stepped, discard_stepped)

-- ---- one is repeated

pub again_stepped : (old mid now : NetLists) (number copy : ℕ) → Some copy ≡ option_map (λ packet. (network_seen old).sent + 1) (packet_at (network_seen old) number) → network_seen mid
    ≡ copied (packet_at (network_seen old) number) (network_seen old)
    → mid.trace ≡ old.trace → network_seen now ≡ network_seen mid → now.trace ≡ mid.trace ++ Copied copy number ∷ []
    → HasStepped old now (again_event (packet_at (network_seen old) number) (network_seen old))
again_stepped old mid now number copy given state same kept told = by (packet_at (network_seen old) number) refl given state where
  next : ℕ
  next = (network_seen old).sent + 1

  by : (o : Option Packet) → packet_at (network_seen old) number ≡ o → Some copy ≡ option_map (λ packet. next) o → network_seen mid ≡ copied o (network_seen old)
      → HasStepped old now (again_event o (network_seen old))
  by None found given state = absurd (cc (given))
  by (Some p) found given state =
      let new : copy ≡ next = cc (given) in
      record {
        state = kept ∙ state;
        told = told ∙ (ap (λ (t : List Entry). t ++ Copied copy number ∷ []) same
            ∙ (ap (λ (m : ℕ). old.trace ++ Copied m number ∷ []) new
            ∙ ap (λ (m : ℕ). old.trace ++ Copied next m ∷ []) (sym (found_number number (network_seen old).under_way p found))));
      }

pub again_idle_stepped : (old mid now : NetLists) (number : ℕ) → None ≡ option_map (λ packet. (network_seen old).sent + 1) (packet_at (network_seen old) number) → network_seen mid
    ≡ copied (packet_at (network_seen old) number) (network_seen old)
    → mid.trace ≡ old.trace → network_seen now ≡ network_seen mid → now.trace ≡ mid.trace ++ Idle ∷ [] → HasStepped old now (again_event (packet_at (network_seen old) number) (network_seen old))
again_idle_stepped old mid now number given state same kept told = by (packet_at (network_seen old) number) given state where
  next : ℕ
  next = (network_seen old).sent + 1

  none : Option ℕ
  none = None

  by : (o : Option Packet) → none ≡ option_map (λ packet. next) o → network_seen mid ≡ copied o (network_seen old) → HasStepped old now (again_event o (network_seen old))
  by None given state = record { state = kept ∙ state; told = told ∙ ap (λ (t : List Entry). t ++ Idle ∷ []) same }
  by (Some p) given state = absurd (cc (given))

pub ruleset again_steps = (again_stepped, again_idle_stepped)
