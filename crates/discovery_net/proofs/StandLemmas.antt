-- An end of a connection stands only where its edge's adjacency with the peer lives.
use Rattle.std.proofs.Common.{◌≡◌, ◌⊎◌, ◌<◌, ◌≤◌, ◌==◌, ◌+◌, ◌-◌, ◌++◌, ◌∙◌, ◌&&◌, not, nat_lt, ℕ, zero, suc, Bool, true, false, List, [], ◌∷◌, length, option_map, slice_get, Option, Some, None, if◌then◌else◌, inl, inr, refl, sym, ap, subst, arith}
use Rattle.std.proofs.lemmas.Bool.{cases_Bool, eqb-true, or_cases}
use Rattle.std.proofs.lemmas.List.Elements.{All-head, All-tail}
use Rattle.std.specs.List.{All, AllByRecursion}
use Rattle.std.proofs.lemmas.Bool.Decides.{nat_tests}
use Rattle.net_values.proofs.BoolLemmas.{first_holds, second_holds}
use Rattle.net_base.specs.declared.plan.Plan.{Plan}
use Rattle.net_base.specs.declared.plan.places.EdgeId.{EdgeId}
use Rattle.net_base.specs.declared.trace.event.Event.{Event}
use Rattle.net_base.specs.declared.trace.event.Event.TheVariants.{Connect, Deliver, Lose, Restart, Tick, Frame, Arrive, Discard, Again, Wire, Circuit, Status, Priority, Ping}
use Rattle.net_base.specs.plan.Paths.{are_joined}
use Rattle.ldp_discovery.specs.Live.{Deed, said, heard, ticked, lasts, live, live_after, proposal_to}
use Rattle.network_model.specs.Connection.{is_deliverable}
use Rattle.network_model.specs.Delivery.{delivery_of, first_pair, next_delivery}
use Rattle.network_model.specs.declared.packet.Packet.{Packet}
use Rattle.network_model.specs.Packet.{arrival_of, next_arrival}
use Rattle.network_model.specs.Run.{state_after}
use Rattle.network_model.specs.State.{NetworkState, stands}
use Rattle.network_model.specs.Step.{step}
use Rattle.connection_laws.specs.Laws.{connects_them}
use Rattle.connection_laws.proofs.NetworkLemmas.{are_lost, come_by_connections}
use Rattle.command_text.specs.declared.command.Command.{Command}
use Rattle.command_text.specs.declared.command.Command.TheVariants.{One, Settle, Flow, Ticks, Play}
use Rattle.command_run.specs.Made.{event_and, made_by, turns}
use Rattle.discovery_script.specs.declared.script_line.ScriptLine.{ScriptLine}
use Rattle.discovery_script.specs.declared.script_line.ScriptLine.TheVariants as line
use Rattle.discovery_script.specs.declared.note.Note.TheVariants as note
use Rattle.discovery_script.specs.Planned.{AreOfPlan, IsDiscoveryLineOf, IsScripted}
use Rattle.discovery_net.specs.Acts.{Does, Tells, events_in}
use Rattle.ldp_discovery.specs.Histories.{ends_by_tick, with_deed}
use Rattle.discovery_net.specs.Deeds.{Discovery, Hello, adjacency_lives, hello_numbered, octets_of_hello, discovery_opened}
use Rattle.discovery_net.specs.Lines.{Lapse, after_line, bring_acts, downs, heard_at, lapses_from, lapses_with, may_open, next_hello}
use Rattle.discovery_net.specs.Script.{HoldsBehindEach, after_lines}
use Rattle.discovery_net.proofs.CourseLemmas.{done_alone}

-- ---- events that connect nothing

abbrev IsNoConnect : Event → Type 0
IsNoConnect event = (a b : ℕ) → connects_them event a b ≡ false

abbrev AreNoConnects : List Event → Type 0
AreNoConnects events = AllByRecursion IsNoConnect events

stood_one : (plan : Plan) (network : NetworkState) (event : Event) (a b : ℕ) → IsNoConnect event → stands (step plan network event).state a b ≡ true → stands network a b ≡ true
stood_one plan network event a b none is = by (come_by_connections plan network event a b is)
  where
    by : (stands network a b ≡ true) ⊎ (connects_them event a b ≡ true) → stands network a b ≡ true
    by (inl stood) = stood
    by (inr came) = absurd (cc (sym (none a b) ∙ came))

stood_all : (plan : Plan) (network : NetworkState) (events : List Event) (a b : ℕ) → AreNoConnects events → stands (state_after plan network events) a b ≡ true → stands network a b ≡ true
stood_all plan network [] a b none is = is
stood_all plan network (e ∷ es) a b none is = stood_one plan network e a b none.0 (stood_all plan (step plan network e).state es a b none.1 is)

scripted_one : (event : Event) → IsScripted (One event) → IsNoConnect event
scripted_one (Connect from to) is a b = absurd is
scripted_one (Deliver from to count) is a b = refl
scripted_one (Lose me peer) is a b = refl
scripted_one (Restart me) is a b = refl
scripted_one Tick is a b = refl
scripted_one (Frame circuit octets) is a b = refl
scripted_one (Arrive number) is a b = refl
scripted_one (Discard number) is a b = refl
scripted_one (Again number) is a b = refl
scripted_one (Wire me wire on) is a b = refl
scripted_one (Circuit circuit on) is a b = refl
scripted_one (Status me wire bits) is a b = refl
scripted_one (Priority me wire priority) is a b = refl
scripted_one (Ping me wire) is a b = refl

abbrev none_of : Option Event → Type 0
none_of None = Unit {0}
none_of (Some event) = IsNoConnect event

turns_none : (plan : Plan) (next : NetworkState → Option Event) → ((s : NetworkState) → none_of (next s)) → (n : ℕ) (s : NetworkState) → AreNoConnects (turns plan next n s)
turns_none plan next none zero s = tt
turns_none plan next none (suc n) s = by (next s) (none s) (λ event. turns_none plan next none n (step plan s event).state)
  where
    by : (o : Option Event) → none_of o → ((event : Event) → AreNoConnects (turns plan next n (step plan s event).state))
        → AreNoConnects (event_and o (λ event. turns plan next n (step plan s event).state))
    by None is later = tt
    by (Some event) is later = (is, later event)

delivery_none : (plan : Plan) (s : NetworkState) → none_of (next_delivery plan s)
delivery_none plan s = by (first_pair (is_deliverable s) (length plan.edges) 0 (length plan.edges))
  where
    by : (pair : Option (ℕ × ℕ)) → none_of (option_map delivery_of pair)
    by None = tt
    by (Some pair) = λ a b. refl

arrival_none : (s : NetworkState) → none_of (next_arrival s)
arrival_none s = by (slice_get s.under_way 0)
  where
    by : (packet : Option Packet) → none_of (option_map arrival_of packet)
    by None = tt
    by (Some packet) = λ a b. refl

command_none : (plan : Plan) (s : NetworkState) (command : Command) → IsScripted command → AreNoConnects (made_by plan s [] command)
command_none plan s (One event) is = (scripted_one event is, tt)
command_none plan s (Settle count) is = turns_none plan (next_delivery plan) (delivery_none plan) count s
command_none plan s (Flow count) is = turns_none plan next_arrival arrival_none count s
command_none plan s (Ticks count) is = absurd is
command_none plan s (Play circuit file) is = absurd is

-- ---- what holds behind each line

-- an end that stands is one of the plan, and its adjacency lives
abbrev Held : Plan → NetworkState → (ℕ → List Deed) → Type 0
Held plan network histories = (a b : ℕ) → stands network a b ≡ true → (a < length plan.edges) × ((b < length plan.edges) × (live b (histories a) ≡ true))

held_first : (plan : Plan) → Held plan (discovery_opened plan).network (discovery_opened plan).histories
held_first plan a b is = absurd (cc (is))

-- another proposal is no matter of what lives
said_lives : (me : EdgeId) (peer hold : ℕ) (histories : ℕ → List Deed) (a b : ℕ) → live b (with_deed me (said peer hold) histories a) ≡ live b (histories a)
said_lives me peer hold histories a b = by (a == me.0)
  where
    by : (test : Bool) → live b (if test then said peer hold ∷ histories a else histories a) ≡ live b (histories a)
    by true = refl
    by false = refl

lasts_now : (hold : ℕ) → lasts hold 0 ≡ true
lasts_now hold = elim (cases_Bool (hold == 0)) [
  | inl is ↦ rw is refl
  | inr not_zero ↦ elim (cases_Bool (hold == 65535)) [
    | inl is ↦ rw (not_zero, is) refl
    | inr not_last ↦
        let more : nat_lt 0 hold ≡ true = grind (arith, nat_tests, not_zero) in
        rw (not_zero, not_last, more) refl
  ]
]

-- a Hello that is heard ends no adjacency
heard_lives : (me : EdgeId) (from hold : ℕ) (histories : ℕ → List Deed) (a b : ℕ) → live b (histories a) ≡ true → live b (with_deed me (heard from hold) histories a) ≡ true
heard_lives me from hold histories a b is = by (a == me.0)
  where
    fresh : (test : Bool) → (if test then lasts (proposal_to b (histories a)) 0 && lasts hold 0 else live_after b 0 (histories a)) ≡ true
    fresh true = (λ i. lasts_now (proposal_to b (histories a)) i && lasts_now hold i)
    fresh false = is

    by : (test : Bool) → live b (if test then heard from hold ∷ histories a else histories a) ≡ true
    by true = fresh (from == b)
    by false = is

-- the edges are those of an adjacency that ends
abbrev IsAmong : ℕ → ℕ → List Lapse → Type 0
IsAmong a b [] = ⊥
IsAmong a b (lapse ∷ lapses) = ((a ≡ lapse.edge.0) × (b ≡ lapse.peer.0)) ⊎ IsAmong a b lapses

module _ (plan : Plan) where
  -- the network and what lives are as they were, or other ends are gone
  held_still : (old now : NetworkState) (histories later : ℕ → List Deed) → ((a b : ℕ) → stands now a b ≡ true → stands old a b ≡ true)
      → ((a b : ℕ) → live b (histories a) ≡ true → live b (later a) ≡ true)
      → Held plan old histories → Held plan now later
  held_still old now histories later fewer lives held a b is =
      let before = held a b (fewer a b is) in
      (before.0, (before.1.0, lives a b before.1.1))

  held_hello : (d : Discovery) (from to : EdgeId) (hold : ℕ) → Held plan d.network d.histories
      → Held plan (after_line plan d (line.Hello from to hold)).network (after_line plan d (line.Hello from to hold)).histories
  held_hello d from to hold held = by (are_joined plan from.0 to.0)
    where
      by : (joined : Bool)
          → Held plan (state_after plan d.network (events_in
          (if joined then Tells (note.Hello (length d.hellos + 1) from to (octets_of_hello plan (next_hello d from to hold))) ∷ [] else Tells note.Idle ∷ [])))
          (if joined then with_deed from (said to.0 hold) d.histories else d.histories)
      by true = held_still d.network d.network d.histories (with_deed from (said to.0 hold) d.histories) (λ a b is. is) (λ a b is. said_lives from to.0 hold d.histories a b ∙ is) held
      by false = held

  held_bring : (d : Discovery) (number : ℕ) → Held plan d.network d.histories → Held plan (after_line plan d (line.Bring number)).network (after_line plan d (line.Bring number)).histories
  held_bring d number held = by (hello_numbered d number)
    where
      told : (hello : Hello) (lived : Bool) → Held plan d.network (heard_at (Some hello) d.histories)
          → Held plan (state_after plan d.network (events_in (if lived then [] else Tells (note.Up hello.to hello.from) ∷ []))) (heard_at (Some hello) d.histories)
      told hello true is = is
      told hello false is = is

      by : (found : Option Hello) → Held plan (state_after plan d.network (events_in (bring_acts d found))) (heard_at found d.histories)
      by None = held
      by (Some hello) = told hello (adjacency_lives d hello.to.0 hello.from.0)
          (held_still d.network d.network d.histories (heard_at (Some hello) d.histories) (λ a b is. is) (λ a b is. heard_lives hello.to hello.from.0 hello.hold d.histories a b is) held)

  held_open : (d : Discovery) (from to : EdgeId) → AreOfPlan plan from to → Held plan d.network d.histories → Held plan (after_line plan d (line.Open from to)).network d.histories
  held_open d from to of_plan held = by (are_joined plan from.0 to.0) (may_open d from to) refl
    where
      there : (a b x y : ℕ) → a == x && b == y ≡ true → (a ≡ x) × (b ≡ y)
      there a b x y is = (eqb-true a x (first_holds (a == x) (b == y) is), eqb-true b y (second_holds (a == x) (b == y) is))

      connected : may_open d from to ≡ true → Held plan (step plan d.network (Connect from to)).state d.histories
      connected both a b is = of (come_by_connections plan d.network (Connect from to) a b is)
        where
          at : (m n : ℕ) → (a ≡ m) × (b ≡ n) → m < length plan.edges → n < length plan.edges → live n (d.histories m) ≡ true → (a < length plan.edges)
              × ((b < length plan.edges) × (live b (d.histories a) ≡ true))
          at m n same one other lives = (rw same.0 one, (rw same.1 other, (λ i. live (same.1 i) (d.histories (same.0 i))) ∙ lives))

          of : (stands d.network a b ≡ true) ⊎ (connects_them (Connect from to) a b ≡ true) → (a < length plan.edges) × ((b < length plan.edges) × (live b (d.histories a) ≡ true))
          of (inl stood) = held a b stood
          of (inr came) = elim (or_cases (a == from.0 && b == to.0) (a == to.0 && b == from.0) came) [
            | inl first ↦ at from.0 to.0 (there a b from.0 to.0 first) of_plan.0 of_plan.1 (first_holds (adjacency_lives d from.0 to.0) (adjacency_lives d to.0 from.0) both)
            | inr back ↦ at to.0 from.0 (there a b to.0 from.0 back) of_plan.1 of_plan.0 (second_holds (adjacency_lives d from.0 to.0) (adjacency_lives d to.0 from.0) both)
          ]

      by : (joined may : Bool) → may_open d from to ≡ may
          → Held plan (state_after plan d.network (events_in (if joined then (if may then Does (Connect from to) ∷ [] else Tells (note.Barred from to) ∷ []) else Tells note.Idle ∷ []))) d.histories
      by true true is = connected is
      by true false is = held
      by false may is = held

  held_do : (d : Discovery) (command : Command) → IsScripted command → Held plan d.network d.histories → Held plan (after_line plan d (line.Do command)).network d.histories
  held_do d command scripted held =
      subst (λ (events : List Event). Held plan (state_after plan d.network events) d.histories) (sym (done_alone (made_by plan d.network [] command)))
      (held_still d.network (state_after plan d.network (made_by plan d.network [] command)) d.histories d.histories
      (λ a b is. stood_all plan d.network (made_by plan d.network [] command) a b (command_none plan d.network command scripted) is) (λ a b is. is) held)

  -- ---- ticks

  -- what is taken down, and then the tick, connect nothing
  downs_stood : (lapses : List Lapse) (network : NetworkState) (a b : ℕ) → stands (state_after plan network (events_in (downs plan network lapses))) a b ≡ true → stands network a b ≡ true
  downs_stood [] network a b is = stood_one plan network Tick a b (λ x y. refl) is
  downs_stood (lapse ∷ lapses) network a b is = by (stands network lapse.edge.0 lapse.peer.0) (λ s. downs_stood lapses s a b) is
    where
      lost : NetworkState
      lost = (step plan network (Lose lapse.edge lapse.peer)).state

      by : (up : Bool) → ((s : NetworkState) → stands (state_after plan s (events_in (downs plan s lapses))) a b ≡ true → stands s a b ≡ true)
          → stands (state_after plan network (events_in (if up then Does (Lose lapse.edge lapse.peer) ∷ downs plan lost lapses else downs plan network lapses))) a b ≡ true → stands network a b ≡ true
      by true again is = stood_one plan network (Lose lapse.edge lapse.peer) a b (λ x y. refl) (again lost is)
      by false again is = again network is

  -- and what was to be taken down does not stand
  downs_gone : (lapses : List Lapse) (network : NetworkState) (a b : ℕ) → IsAmong a b lapses → stands (state_after plan network (events_in (downs plan network lapses))) a b ≡ true → ⊥
  downs_gone [] network a b among is = among
  downs_gone (lapse ∷ lapses) network a b among is = by (stands network lapse.edge.0 lapse.peer.0) refl (λ s. downs_gone lapses s a b) among is
    where
      lost : NetworkState
      lost = (step plan network (Lose lapse.edge lapse.peer)).state

      by : (up : Bool) → stands network lapse.edge.0 lapse.peer.0 ≡ up
          → ((s : NetworkState) → IsAmong a b lapses → stands (state_after plan s (events_in (downs plan s lapses))) a b ≡ true → ⊥) → ((a ≡ lapse.edge.0) × (b ≡ lapse.peer.0)) ⊎ IsAmong a b lapses
          → stands (state_after plan network (events_in (if up then Does (Lose lapse.edge lapse.peer) ∷ downs plan lost lapses else downs plan network lapses))) a b ≡ true → ⊥
      by true here again (inl at) is =
          let still : stands lost a b ≡ true = downs_stood lapses lost a b is in
          let gone : stands lost a b ≡ false = (λ i. stands lost (at.0 i) (at.1 i)) ∙ are_lost plan network lapse.edge lapse.peer in
          cc (sym gone ∙ still)
      by false here again (inl at) is =
          let still : stands network a b ≡ true = downs_stood lapses network a b is in
          let gone : stands network a b ≡ false = (λ i. stands network (at.0 i) (at.1 i)) ∙ here in
          cc (sym gone ∙ still)
      by true here again (inr later) is = again lost later is
      by false here again (inr later) is = again network later is

  among_with : (ends : ℕ → Bool) (edge : EdgeId) (b : ℕ) (behind : List Lapse) (place count : ℕ) → place ≤ b → b < place + count → ends b ≡ true
      → IsAmong edge.0 b (lapses_with ends edge place count behind)
  among_with ends edge b behind place zero least most is = absurd (omega (arith, least, most))
  among_with ends edge b behind place (suc count) least most is = elim (cases_Bool (b == place)) [
    | inl same ↦
        let at : b ≡ place = eqb-true b place same in
        let here : ends place ≡ true = ap ends (sym at) ∙ is in
        rw here (inl (refl, at))
    | inr other ↦
        let later : IsAmong edge.0 b (lapses_with ends edge (place + 1) count behind) =
        among_with ends edge b behind (place + 1) count (grind (arith, nat_tests, other, least)) (omega (arith, most)) is in
        by (ends place) later
  ]
    where
      by : (test : Bool) → IsAmong edge.0 b (lapses_with ends edge (place + 1) count behind)
          → IsAmong edge.0 b (if test then record { edge = edge; peer = record { 0 = place } } ∷ lapses_with ends edge (place + 1) count behind else lapses_with ends edge (place + 1) count behind)
      by true later = inr later
      by false later = later

  among_behind : (ends : ℕ → Bool) (edge : EdgeId) (a b : ℕ) (behind : List Lapse) (place count : ℕ) → IsAmong a b behind → IsAmong a b (lapses_with ends edge place count behind)
  among_behind ends edge a b behind place zero is = is
  among_behind ends edge a b behind place (suc count) is = by (ends place) (among_behind ends edge a b behind (place + 1) count is)
    where
      by : (test : Bool) → IsAmong a b (lapses_with ends edge (place + 1) count behind)
          → IsAmong a b (if test then record { edge = edge; peer = record { 0 = place } } ∷ lapses_with ends edge (place + 1) count behind else lapses_with ends edge (place + 1) count behind)
      by true later = inr later
      by false later = later

  among_from : (histories : ℕ → List Deed) (peers a b place count : ℕ) → place ≤ a → a < place + count → b < peers → ends_by_tick (histories a) b ≡ true
      → IsAmong a b (lapses_from histories peers place count)
  among_from histories peers a b place zero least most within is = absurd (omega (arith, least, most))
  among_from histories peers a b place (suc count) least most within is = elim (cases_Bool (a == place)) [
    | inl same ↦
        let at : a ≡ place = eqb-true a place same in
        subst (λ (n : ℕ). IsAmong n b (lapses_from histories peers place (suc count))) (sym at)
        (among_with (ends_by_tick (histories place)) (record { 0 = place }) b (lapses_from histories peers (place + 1) count) 0 peers (omega arith) (omega (arith, within))
        (ap (λ (n : ℕ). ends_by_tick (histories n) b) (sym at) ∙ is))
    | inr other ↦
        among_behind (ends_by_tick (histories place)) (record { 0 = place }) a b (lapses_from histories peers (place + 1) count) 0 peers
        (among_from histories peers a b (place + 1) count (grind (arith, nat_tests, other, least)) (omega (arith, most)) within is)
  ]

  held_tick : (d : Discovery) → Held plan d.network d.histories → Held plan (after_line plan d line.Tick).network (after_line plan d line.Tick).histories
  held_tick d held a b is =
      let before = held a b (downs_stood (lapses_from d.histories (length plan.edges) 0 (length plan.edges)) d.network a b is) in
      (before.0, (before.1.0, lives before.0 before.1.0 before.1.1 (live b (ticked ∷ d.histories a)) refl))
    where
      lives : a < length plan.edges → b < length plan.edges → live b (d.histories a) ≡ true → (later : Bool) → live b (ticked ∷ d.histories a) ≡ later → later ≡ true
      lives in_plan with_peer now true next = refl
      lives in_plan with_peer now false next =
          let ends : ends_by_tick (d.histories a) b ≡ true = (λ i. now i && not (next i)) in
          absurd (downs_gone (lapses_from d.histories (length plan.edges) 0 (length plan.edges)) d.network a b
          (among_from d.histories (length plan.edges) a b 0 (length plan.edges) (omega arith) (omega (arith, in_plan)) with_peer ends) is)

  -- ---- lines one after another

  held_line : (d : Discovery) (l : ScriptLine) → IsDiscoveryLineOf plan l → Held plan d.network d.histories → Held plan (after_line plan d l).network (after_line plan d l).histories
  held_line d (line.Hello from to hold) of_plan held = held_hello d from to hold held
  held_line d (line.Bring number) of_plan held = held_bring d number held
  held_line d (line.Open from to) of_plan held = held_open d from to of_plan held
  held_line d line.Tick of_plan held = held_tick d held
  held_line d (line.Do command) of_plan held = held_do d command of_plan.1 held

  held_lines : (d : Discovery) (lines : List ScriptLine) → AllByRecursion (IsDiscoveryLineOf plan) lines → Held plan d.network d.histories
      → Held plan (after_lines plan d lines).network (after_lines plan d lines).histories
  held_lines d [] are held = held
  held_lines d (l ∷ lines) are held = held_lines (after_line plan d l) lines are.1 (held_line d l are.0 held)

  front_of : (front behind : List ScriptLine) → AllByRecursion (IsDiscoveryLineOf plan) (front ++ behind) → AllByRecursion (IsDiscoveryLineOf plan) front
  front_of [] behind are = tt
  front_of (l ∷ front) behind are = (are.0, front_of front behind are.1)

pub holds_behind_each : (plan : Plan) (lines : List ScriptLine) → All (IsDiscoveryLineOf plan) lines → HoldsBehindEach plan lines
holds_behind_each plan lines are front behind split edge peer is =
    let each : AllByRecursion (IsDiscoveryLineOf plan) (front ++ behind) = all_by_recursion (front ++ behind) (subst (All (IsDiscoveryLineOf plan)) split are) in
    (held_lines plan (discovery_opened plan) front (front_of plan front behind each) (held_first plan) edge peer is).1.1
  where
    all_by_recursion : (ls : List ScriptLine) → All (IsDiscoveryLineOf plan) ls → AllByRecursion (IsDiscoveryLineOf plan) ls
    all_by_recursion [] all = tt
    all_by_recursion (l ∷ ls) all = (All-head (IsDiscoveryLineOf plan) l ls all, all_by_recursion ls (All-tail (IsDiscoveryLineOf plan) l ls all))
