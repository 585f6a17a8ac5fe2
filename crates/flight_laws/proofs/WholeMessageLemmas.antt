-- A run by the messages that its deliveries hand over: where each delivery hands over whole messages, what the receiver makes of
-- them is told without their octets, and so a run can be evaluated.
use Rattle.std.proofs.Common.{◌≡◌, ◌≤◌, ◌++◌, ◌+◌, ◌==◌, ◌&&◌, ◌∙◌, ℕ, zero, suc, Bool, true, false, List, [], ◌∷◌, Option, Some, None, refl, ap, not, length, take, drop, arith}
use Rattle.std.specs.Prelude.{nat_le, nat_lt, if◌then◌else◌}
use Rattle.std.specs.Str.{bytes_eq}
use Rattle.std.proofs.lemmas.Bool.Decides.{nat_tests}
use Rattle.std.proofs.lemmas.Slice.Eq.{bytes_eq-Decides}
use Rattle.std.proofs.lemmas.Bool.{eqb-true, leb-true}
use Rattle.net_base.specs.declared.plan.Plan.{Plan}
use Rattle.net_base.specs.declared.plan.circuit_plan.CircuitPlan.{CircuitPlan}
use Rattle.net_base.specs.declared.plan.places.CircuitId.{CircuitId}
use Rattle.net_base.specs.declared.plan.places.EdgeId.{EdgeId}
use Rattle.net_base.specs.declared.trace.entry.Entry.{Entry}
use Rattle.net_base.specs.declared.trace.entry.Entry.TheVariants.{Did}
use Rattle.net_base.specs.declared.trace.event.Event.{Event}
use Rattle.net_base.specs.declared.trace.event.Event.TheVariants.{Arrive, Connect, Deliver, Frame, Priority}
use Rattle.net_base.specs.plan.Places.{circuit_row}
use Rattle.net_values.specs.declared.addr.Addr.{Addr}
use Rattle.net_values.proofs.BoolLemmas.{first_holds, clash, second_holds}
use Rattle.ldp_grammar.specs.declared.ldp_id.LdpId.{LdpId}
use Rattle.ldp_grammar.specs.declared.message.Message.{Message}
use Rattle.ldp_grammar.specs.Reading.{are_octets}
use Rattle.ldp_grammar.specs.Written.{Fits, message_octets, writable, written}
use Rattle.ldp_grammar.proofs.OctetLemmas.{AreOctets}
use Rattle.ldp_grammar.proofs.ReadingLemmas.{octets_behind}
use Rattle.ldp_grammar.proofs.ReadingOf.{octets_told}
use Rattle.ldp_stream.specs.FrontOf.{Front, Got, front_of}
use Rattle.ldp_stream.proofs.FrontOfLemmas.{front_is_read}
use Rattle.pw_messages.specs.Sender.{platform_of}
use Rattle.edge_model.specs.Hear.{hears, hears_few, hears_front, hears_pdu, hears_within, holds, octets_input}
use Rattle.edge_model.specs.Mend.{mends}
use Rattle.edge_model.specs.State.{EdgeState, Peering, put_at}
use Rattle.edge_model.specs.Wire.{priority_input}
use Rattle.edge_model.specs.Work.{Work}
use Rattle.edge_model.proofs.CommonLemmas.{put_away}
use Rattle.network_model.specs.Absorb.{Stepped, absorb, absorb_all, begin_at, idle, taken_all}
use Rattle.network_model.specs.Connection.{can_connect, connected_work, connecting, delivering, is_deliverable, is_drained_pipe, losing}
use Rattle.network_model.specs.declared.packet.Packet.{Packet}
use Rattle.network_model.specs.Frame.{entering, frame_event, frame_work, next_origin}
use Rattle.network_model.specs.Packet.{arrive_event, packet_at, packet_work}
use Rattle.network_model.specs.Run.{entries_along, state_after}
use Rattle.network_model.specs.State.{NetworkState, edge_at, with_edge, with_frame, with_pipe, without_packet}
use Rattle.network_model.specs.Step.{step}
use Rattle.network_model.proofs.AbsorbLemmas.{all_keep}
use Rattle.flight_laws.specs.Messages.{octets_of_all}

-- ---- what an edge makes of messages, each in a PDU of its own from a router

abbrev pub hears_next : (Work → Work) → Plan → EdgeId → LdpId → Message → Option Peering → Work → Work
hears_next on plan peer id message None work = work
hears_next on plan peer id message (Some kept) work = on (hears_pdu plan taken_all peer (record { id = id; messages = message ∷ [] }) work)

abbrev pub hears_each : Plan → EdgeId → LdpId → List Message → Work → Work
hears_each plan peer id [] work = holds peer [] (work.edge.peering peer.0) work
hears_each plan peer id (message ∷ messages) work = hears_next (hears_each plan peer id messages) plan peer id message (work.edge.peering peer.0) work

-- the session takes PDUs of 4096 octets before each of them
abbrev pub is_wide : Option Peering → Bool
is_wide None = true
is_wide (Some kept) = kept.session.max_pdu == 4096

abbrev pub are_wide : Plan → EdgeId → LdpId → List Message → Work → Bool
are_wide plan peer id [] work = true
are_wide plan peer id (message ∷ messages) work =
    is_wide (work.edge.peering peer.0) && are_wide plan peer id messages (hears_pdu plan taken_all peer (record { id = id; messages = message ∷ [] }) work)

-- what stands in front of the messages' octets is each of them in turn
abbrev pub StandEach : Addr → List Message → Type 0
StandEach router [] = Unit {0}
StandEach router (message ∷ messages) =
    (front_of 4096 (octets_of_all router (message ∷ messages)) ≡ Got (record { id = platform_of router; messages = message ∷ [] }) (octets_of_all router messages)) × StandEach router messages

same_octets : (xs ys : List ℕ) → bytes_eq xs ys ≡ true → xs ≡ ys
same_octets xs ys e = (bytes_eq-Decides xs ys).0 e

not_zero : (n : ℕ) → (suc n == 0) ≡ true → ⊥
not_zero n e = grind (arith, nat_tests)

none : (xs : List ℕ) → (length xs == 0) ≡ true → xs ≡ []
none [] e = refl
none (x ∷ xs) e = absurd (not_zero (length xs) e)

few_each : (plan : Plan) (peer : EdgeId) (router : Addr) (messages : List Message) (n : ℕ) (work : Work) → StandEach router messages
    → are_wide plan peer (platform_of router) messages work ≡ true → length messages ≤ n
    → hears_few plan taken_all peer (suc n) (octets_of_all router messages) work ≡ hears_each plan peer (platform_of router) messages work
unfolding front_of
few_each plan peer router [] n work stand wide few = nothing (work.edge.peering peer.0) where
  nothing : (kept : Option Peering) → hears_within plan taken_all peer (hears_few plan taken_all peer n) [] kept work ≡ holds peer [] kept work
  nothing None = refl
  nothing (Some kept) = refl
few_each plan peer router (m ∷ ms) zero work stand wide few = absurd (omega (arith, few))
few_each plan peer router (m ∷ ms) (suc n) work stand wide few =
    next (few_each plan peer router ms n heard stand.1 (second_holds _ _ wide) (omega (arith, few))) (work.edge.peering peer.0) (first_holds _ _ wide) where
      id : LdpId
      id = platform_of router

      heard : Work
      heard = hears_pdu plan taken_all peer (record { id = id; messages = m ∷ [] }) work

      next : hears_few plan taken_all peer (suc n) (octets_of_all router ms) heard ≡ hears_each plan peer id ms heard → (kept : Option Peering) → is_wide kept ≡ true
          → hears_within plan taken_all peer (hears_few plan taken_all peer (suc n)) (octets_of_all router (m ∷ ms)) kept work ≡ hears_next (hears_each plan peer id ms) plan peer id m kept work
      next again None wide = refl
      next again (Some kept) wide =
          ap (λ (f : Front). hears_front plan taken_all peer (hears_few plan taken_all peer (suc n)) kept (octets_of_all router (m ∷ ms)) f work)
          (ap (λ (max : ℕ). front_of max (octets_of_all router (m ∷ ms))) (eqb-true kept.session.max_pdu 4096 wide) ∙ stand.0)
          ∙ again

-- ---- what the network makes of their delivery

-- the receiver's end stands, and it holds nothing
abbrev pub is_bare : Option Peering → Bool
is_bare None = false
is_bare (Some kept) = length kept.held == 0

octets_each : (plan : Plan) (peer : EdgeId) (router : Addr) (messages : List Message) (octets : List ℕ) (kept : Option Peering) (work : Work)
    → octets ≡ octets_of_all router messages → is_bare kept ≡ true → StandEach router messages → are_wide plan peer (platform_of router) messages work ≡ true
    → length messages ≤ length (octets_of_all router messages)
    → octets_input plan taken_all peer octets kept work ≡ mends plan taken_all (hears_each plan peer (platform_of router) messages work)
octets_each plan peer router messages octets None work is bare stand wide few = clash bare
octets_each plan peer router messages octets (Some kept) work is bare stand wide few =
    ap (λ (l : List ℕ). mends plan taken_all (hears plan taken_all peer l work)) (ap (λ (l : List ℕ). l ++ octets) (none kept.held bare) ∙ is)
    ∙ ap (mends plan taken_all) (few_each plan peer router messages (length (octets_of_all router messages)) work stand wide few)

abbrev pub hands_over : Plan → EdgeId → EdgeId → LdpId → List Message → NetworkState → Stepped
hands_over plan from to id messages network =
    absorb to 0 0 (mends plan taken_all (hears_each plan from id messages (begin_at network to))) (with_pipe from to [] network)

-- these messages are all that is on its way there
abbrev pub are_next : Plan → ℕ → EdgeId → EdgeId → Addr → List Message → NetworkState → Bool
are_next plan count from to router messages network =
    (is_bare ((edge_at network to).peering from.0) && (is_deliverable network from.0 to.0 && not (is_drained_pipe network from.0 to.0)))
    && ((bytes_eq (take count (network.pipes from.0 to.0)) (octets_of_all router messages) && bytes_eq (drop count (network.pipes from.0 to.0)) [])
    && (nat_le (length messages) (length (octets_of_all router messages)) && are_wide plan from (platform_of router) messages (begin_at network to)))

if_true : (test : Bool) (one other : Stepped) → test ≡ true → (if test then one else other) ≡ one
if_true true one other e = refl
if_true false one other e = clash e

if_not : (test : Bool) (one other : Stepped) → not test ≡ true → (if test then one else other) ≡ other
if_not false one other e = refl
if_not true one other e = clash e

delivered_each : (plan : Plan) (count : ℕ) (from to : EdgeId) (router : Addr) (messages : List Message) (network : NetworkState) → StandEach router messages
    → are_next plan count from to router messages network ≡ true
    → (step plan network (Deliver from to count)) ≡ record {
      state = (hands_over plan from to (platform_of router) messages network).state;
      entries = Did (Deliver from to count) ∷ (hands_over plan from to (platform_of router) messages network).entries;
    }
delivered_each plan count from to router messages network stand next =
    let ends = first_holds _ _ next in
    let rest = second_holds _ _ next in
    let octets = first_holds _ _ rest in
    let last = second_holds _ _ rest in
    ap (λ (s : Stepped). told s)
    (if_true (is_deliverable network from.0 to.0) _ _ (first_holds _ _ (second_holds _ _ ends))
    ∙ (if_not (is_drained_pipe network from.0 to.0) (losing plan to from network) (delivering plan from to count network) (second_holds _ _ (second_holds _ _ ends))
    ∙ given (same_octets _ _ (first_holds _ _ octets)) (same_octets _ _ (second_holds _ _ octets)) (first_holds _ _ ends) (leb-true _ _ (first_holds _ _ last)) (second_holds _ _ last))) where
      told : Stepped → Stepped
      told s = record { state = s.state; entries = Did (Deliver from to count) ∷ s.entries }

      pipe : List ℕ
      pipe = network.pipes from.0 to.0

      given : take count pipe ≡ octets_of_all router messages → drop count pipe ≡ [] → is_bare ((edge_at network to).peering from.0) ≡ true → length messages ≤ length (octets_of_all router messages)
          → are_wide plan from (platform_of router) messages (begin_at network to) ≡ true → delivering plan from to count network ≡ hands_over plan from to (platform_of router) messages network
      given all none bare few wide =
          ap (λ (w : Work). absorb to 0 0 w (with_pipe from to (drop count pipe) network))
          (octets_each plan from router messages (take count pipe) ((edge_at network to).peering from.0) (begin_at network to) all bare stand wide few)
          ∙ ap (λ (l : List ℕ). absorb to 0 0 (mends plan taken_all (hears_each plan from (platform_of router) messages (begin_at network to))) (with_pipe from to l network)) none

-- ---- a run

-- something happens, or all that is on its way from an edge to another one is delivered: these messages of a router
pub data Moment : Type 0 where
  Happens : Event → Moment
  Hears : (from to : EdgeId) (router : Addr) (messages : List Message) → Moment

-- more octets than are on their way
abbrev pub all_octets : ℕ
all_octets = 65535

abbrev pub event_of : Moment → Event
event_of (Happens event) = event
event_of (Hears from to router messages) = Deliver from to all_octets

abbrev pub events_of : List Moment → List Event
events_of [] = []
events_of (moment ∷ moments) = event_of moment ∷ events_of moments

abbrev pub told_step : Plan → NetworkState → Moment → Stepped
told_step plan network (Happens event) = step plan network event
told_step plan network (Hears from to router messages) = record {
  state = (hands_over plan from to (platform_of router) messages network).state;
  entries = Did (Deliver from to all_octets) ∷ (hands_over plan from to (platform_of router) messages network).entries;
}

abbrev pub told_after : Plan → NetworkState → List Moment → NetworkState
told_after plan network [] = network
told_after plan network (moment ∷ moments) = told_after plan (told_step plan network moment).state moments

abbrev pub told_along : Plan → NetworkState → List Moment → List Entry
told_along plan network [] = []
told_along plan network (moment ∷ moments) = (told_step plan network moment).entries ++ told_along plan (told_step plan network moment).state moments

abbrev pub is_right : Plan → NetworkState → Moment → Bool
is_right plan network (Happens event) = true
is_right plan network (Hears from to router messages) = are_next plan all_octets from to router messages network

abbrev pub are_right : Plan → NetworkState → List Moment → Bool
are_right plan network [] = true
are_right plan network (moment ∷ moments) = is_right plan network moment && are_right plan (told_step plan network moment).state moments

abbrev pub Stand : Moment → Type 0
Stand (Happens event) = Unit {0}
Stand (Hears from to router messages) = StandEach router messages

abbrev pub StandAll : List Moment → Type 0
StandAll [] = Unit {0}
StandAll (moment ∷ moments) = Stand moment × StandAll moments

pub stand-append : (ms ns : List Moment) → StandAll ms → StandAll ns → StandAll (ms ++ ns)
stand-append [] ns one other = other
stand-append (m ∷ ms) ns one other = (one.0, stand-append ms ns one.1 other)

step_told : (plan : Plan) (network : NetworkState) (moment : Moment) → Stand moment → is_right plan network moment ≡ true → step plan network (event_of moment) ≡ told_step plan network moment
step_told plan network (Happens event) stand right = refl
step_told plan network (Hears from to router messages) stand right = delivered_each plan all_octets from to router messages network stand right

-- the states of a run, and what it tells, by its messages
pub after_is : (plan : Plan) (network : NetworkState) (moments : List Moment) → StandAll moments → are_right plan network moments ≡ true → state_after plan network (events_of moments)
    ≡ told_after plan network moments
after_is plan network [] stand right = refl
after_is plan network (moment ∷ moments) stand right =
    ap (λ (s : Stepped). state_after plan s.state (events_of moments)) (step_told plan network moment stand.0 (first_holds _ _ right))
    ∙ after_is plan (told_step plan network moment).state moments stand.1 (second_holds _ _ right)

pub along_is : (plan : Plan) (network : NetworkState) (moments : List Moment) → StandAll moments → are_right plan network moments ≡ true
    → entries_along plan network (events_of moments) ≡ told_along plan network moments
along_is plan network [] stand right = refl
along_is plan network (moment ∷ moments) stand right =
    ap (λ (s : Stepped). s.entries ++ entries_along plan s.state (events_of moments)) (step_told plan network moment stand.0 (first_holds _ _ right))
    ∙ ap (λ (l : List Entry). (told_step plan network moment).entries ++ l) (along_is plan (told_step plan network moment).state moments stand.1 (second_holds _ _ right))

-- ---- edges at which nothing happens

abbrev pub at_row : ℕ → Option CircuitPlan → Bool
at_row size None = true
at_row size (Some row) = nat_lt row.edge.0 size

abbrev pub at_packet : ℕ → Option Packet → Bool
at_packet size None = true
at_packet size (Some packet) = nat_lt packet.to.0 size

-- what happens does so at the first edges, this many
abbrev pub is_within : Plan → ℕ → NetworkState → Moment → Bool
is_within plan size network (Happens (Connect from to)) = nat_lt from.0 size && nat_lt to.0 size
is_within plan size network (Happens (Frame circuit octets)) = at_row size (circuit_row plan circuit)
is_within plan size network (Happens (Arrive number)) = at_packet size (packet_at network number)
is_within plan size network (Happens (Priority me wire priority)) = nat_lt me.0 size
is_within plan size network (Happens event) = false
is_within plan size network (Hears from to router messages) = nat_lt to.0 size

abbrev pub are_within : Plan → ℕ → NetworkState → List Moment → Bool
are_within plan size network [] = true
are_within plan size network (moment ∷ moments) = is_within plan size network moment && are_within plan size (told_step plan network moment).state moments

other_place : (size k place : ℕ) → size ≤ k → nat_lt place size ≡ true → (k == place) ≡ false
other_place size k place beyond within = grind (arith, nat_tests)

absorbed_away : (me : EdgeId) (origin hops : ℕ) (work : Work) (network : NetworkState) (k : ℕ) → (k == me.0) ≡ false → (absorb me origin hops work network).state.edges k ≡ network.edges k
unfolding with_edge
absorbed_away me origin hops work network k apart =
    ap (λ (edges : ℕ → EdgeState). edges k) (all_keep me origin hops work.effects (with_edge me work.edge network)).edges ∙ put_away network.edges me.0 work.edge k apart

connected_away : (from to : EdgeId) (first second : Work) (network : NetworkState) (k : ℕ) → (k == from.0) ≡ false → (k == to.0) ≡ false → (test : Bool)
    → (if test then connecting from first to second network else idle network).state.edges k ≡ network.edges k
unfolding with_edge
connected_away from to first second network k one other false = refl
connected_away from to first second network k one other true =
    let both : NetworkState = with_edge to second.edge (with_edge from first.edge network) in
    ap (λ (edges : ℕ → EdgeState). edges k) (all_keep to 0 0 second.effects (absorb_all from 0 0 first.effects both)).edges
    ∙ (ap (λ (edges : ℕ → EdgeState). edges k) (all_keep from 0 0 first.effects both).edges
    ∙ (put_away (put_at network.edges from.0 first.edge) to.0 second.edge k other ∙ put_away network.edges from.0 first.edge k one))

entered_away : (at : CircuitId) (octets : List ℕ) (row : CircuitPlan) (work : Work) (network : NetworkState) (k : ℕ) → (k == row.edge.0) ≡ false → (test : Bool)
    → (if test then idle network else entering network at octets row work).state.edges k ≡ network.edges k
unfolding with_frame
entered_away at octets row work network k apart true = refl
entered_away at octets row work network k apart false = absorbed_away row.edge (next_origin network) 0 work (with_frame network) k apart

answered_away : (me : EdgeId) (work : Work) (network : NetworkState) (k : ℕ) → (k == me.0) ≡ false → (test : Bool)
    → (if test then idle network else absorb me 0 0 work network).state.edges k ≡ network.edges k
answered_away me work network k apart true = refl
answered_away me work network k apart false = absorbed_away me 0 0 work network k apart

module _ (plan : Plan) (size k : ℕ) (beyond : size ≤ k) where
  frame_away : (at : CircuitId) (octets : List ℕ) (row : Option CircuitPlan) (network : NetworkState) → at_row size row ≡ true → (frame_event plan at octets row network).state.edges k
      ≡ network.edges k
  frame_away at octets None network within = refl
  frame_away at octets (Some row) network within =
      entered_away at octets row (frame_work plan network at octets row) network k (other_place size k row.edge.0 beyond within) (frame_work plan network at octets row).idle

  arrive_away : (found : Option Packet) (network : NetworkState) → at_packet size found ≡ true → (arrive_event plan found network).state.edges k ≡ network.edges k
  unfolding without_packet
  arrive_away None network within = refl
  arrive_away (Some packet) network within =
      absorbed_away packet.to packet.origin packet.hops (packet_work plan network packet) (without_packet packet.number network) k (other_place size k packet.to.0 beyond within)

  told_away : (moment : Moment) (network : NetworkState) → is_within plan size network moment ≡ true → (told_step plan network moment).state.edges k ≡ network.edges k
  unfolding with_pipe
  told_away (Happens (Connect from to)) network within =
      connected_away from to (connected_work plan network from to) (connected_work plan network to from) network k
      (other_place size k from.0 beyond (first_holds _ _ within)) (other_place size k to.0 beyond (second_holds _ _ within)) (can_connect plan network from.0 to.0)
  told_away (Happens (Frame circuit octets)) network within = frame_away circuit octets (circuit_row plan circuit) network within
  told_away (Happens (Arrive number)) network within = arrive_away (packet_at network number) network within
  told_away (Happens (Priority me wire priority)) network within =
      let work : Work = priority_input plan taken_all wire priority (begin_at network me) in
      answered_away me work network k (other_place size k me.0 beyond within) work.idle
  told_away (Happens event) network within = clash within
  told_away (Hears from to router messages) network within =
      absorbed_away to 0 0 (mends plan taken_all (hears_each plan from (platform_of router) messages (begin_at network to))) (with_pipe from to [] network) k (other_place size k to.0 beyond within)

  -- the other edges are as before
  pub stays_away : (moments : List Moment) (network : NetworkState) → are_within plan size network moments ≡ true → (told_after plan network moments).edges k ≡ network.edges k
  stays_away [] network within = refl
  stays_away (moment ∷ moments) network within =
      stays_away moments (told_step plan network moment).state (second_holds _ _ within) ∙ told_away moment network (first_holds _ _ within)

-- ---- messages that are written are read

pub record IsReadable (m : Message) : Type 0 where
  pub can : writable m ≡ true
  pub fits : Fits m
  pub short : nat_le (6 + length (message_octets m)) 4096 ≡ true

abbrev pub AreReadable : List Message → Type 0
AreReadable [] = Unit {0}
AreReadable (m ∷ ms) = IsReadable m × AreReadable ms

each_stands : (router : Addr) (ms : List Message) → length router.0 ≡ 4 → AreOctets (octets_of_all router ms) → AreReadable ms → StandEach router ms
each_stands router [] four octets readable = tt
each_stands router (m ∷ ms) four octets readable = (
  front_is_read.written_first 4096 m (platform_of router) (octets_of_all router ms) octets (omega arith) readable.0.can readable.0.fits (record { router = four; space = omega arith })
      (leb-true _ _ readable.0.short),
  each_stands router ms four (octets_behind (written m (platform_of router)) (octets_of_all router ms) octets) readable.1,
)

pub stand_each : (router : Addr) (ms : List Message) → length router.0 ≡ 4 → are_octets (octets_of_all router ms) ≡ true → AreReadable ms → StandEach router ms
stand_each router ms four octets readable = each_stands router ms four (octets_told (octets_of_all router ms) octets) readable
