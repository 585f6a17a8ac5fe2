-- What each line does goes with the histories.
use Rattle.std.proofs.Common.{◌≡◌, ◌≢◌, ◌<◌, ◌≤◌, ◌==◌, ◌+◌, ◌-◌, ◌++◌, ◌∙◌, ◌^◌, ◌&&◌, ℕ, zero, suc, Bool, true, false, List, [], ◌∷◌, length, map, slice_get, Option, Some, None, option_map, Result, Ok, Err, OnOk, if◌then◌else◌, refl, ap, sym, subst, arith, inl, inr}
use Rattle.std.proofs.lemmas.Bool.{cases_Bool}
use Rattle.std.proofs.lemmas.Bool.Decides.{nat_tests}
use Rattle.std.proofs.lemmas.List.Elements.{All-append, All-cons, All-get_or, All-nil}
use Rattle.std.proofs.lemmas.Option.{get_or_from_slice_get, slice_get-map, slice_get_within}
use Rattle.std.specs.List.{All}
use Rattle.net_values.specs.declared.addr.Addr.{Addr}
use Rattle.net_base.specs.declared.plan.Plan.{Plan}
use Rattle.net_base.specs.declared.plan.edge_plan.EdgePlan.{EdgePlan}
use Rattle.net_base.specs.declared.plan.places.EdgeId.{EdgeId}
use Rattle.net_base.specs.declared.trace.event.Event.{Event}
use Rattle.net_base.specs.declared.trace.event.Event.TheVariants as event
use Rattle.net_base.specs.plan.Paths.{are_joined, edge_address}
use Rattle.ldp_discovery.specs.Adjacencies.{AdjacencyLists, id_behind}
use Rattle.ldp_discovery.specs.Hellos.{hello_octets}
use Rattle.ldp_discovery.specs.Live.{Deed, said, heard, ticked, live}
use Rattle.ldp_discovery.specs.Histories.{AreAfter, AreEdgesOf, with_deed}
use Rattle.network_model.specs.Run.{state_after}
use Rattle.network_model.specs.State.{NetworkState, empty_network}
use Rattle.network_model.specs.Step.{step}
use Rattle.psn_net.specs.declared.net_stop.NetStop.{NetStop}
use Rattle.psn_net.specs.declared.net_stop.NetStop.TheVariants.{NoMemory}
use Rattle.psn_net.specs.Lists.{NetLists, network_seen}
use Rattle.psn_net.specs.Runs.{Ended, GivesNetwork, ended, ran}
use Rattle.psn_net.proofs.RunLemmas.{ran_state}
use Rattle.command_text.specs.declared.command.Command.{Command}
use Rattle.command_run.specs.Made.{made_by}
use Rattle.discovery_script.specs.declared.note.Note.{Note}
use Rattle.discovery_script.specs.declared.note.Note.TheVariants as note
use Rattle.discovery_script.specs.declared.placed_note.PlacedNote.{PlacedNote}
use Rattle.discovery_script.specs.declared.script_line.ScriptLine.TheVariants as line
use Rattle.discovery_net.specs.declared.said_hello.SaidHello.{SaidHello}
use Rattle.discovery_net.specs.Acts.{Act, Course, Does, Tells, all_done, course, events_in}
use Rattle.discovery_net.specs.Deeds.{Discovery, Hello, adjacency_lives, hello_numbered, hello_octets_by, octets_of_hello, discovery_opened}
use Rattle.discovery_net.specs.Lines.{acts_of, after_line, bring_acts, heard_at, may_open, next_hello}
use Rattle.discovery_net.specs.Lists.{Acts, DiscoveryLists, HaltsAt, HaltsIn, HasDoneActs, IsAt, IsDiscovery, IsHelloFit, IsOfPlan, said_hello}
use Rattle.discovery_net.proofs.CourseLemmas.{done_alone, events_come}

-- ---- before the first line

pub at_first : (plan : Plan) (n : DiscoveryLists) → network_seen n.network ≡ empty_network plan → AreAfter (λ k. []) n.adjacencies → n.hellos ≡ [] → IsAt (discovery_opened plan) n
at_first plan n state histories none = record { network = state; histories = histories; hellos = none; fit = All-nil IsHelloFit }

-- ---- what always holds

-- the network goes on over the same plan
pub kept_discovery : (old : DiscoveryLists) (network : NetLists) (notes : List PlacedNote) → IsDiscovery old → network.plan ≡ old.network.plan
    → IsDiscovery (record { network = network; adjacencies = old.adjacencies; hellos = old.hellos; notes = notes })
kept_discovery old network notes is same = record {
  edges = subst (λ (p : Plan). AreEdgesOf p old.adjacencies) (sym same) is.edges;
  hellos = subst (λ (p : Plan). All (IsOfPlan p) old.hellos) (sym same) is.hellos;
}

-- one Hello more
pub said_discovery : (old : DiscoveryLists) (table : List AdjacencyLists) (hello : SaidHello) (notes : List PlacedNote) → IsDiscovery old → AreEdgesOf old.network.plan table
    → IsOfPlan old.network.plan hello
    → IsDiscovery (record { network = old.network; adjacencies = table; hellos = old.hellos ++ hello ∷ []; notes = notes })
said_discovery old table hello notes is edges of_plan = record {
  edges = edges;
  hellos = All-append (IsOfPlan old.network.plan) old.hellos (hello ∷ []) is.hellos (All-cons (IsOfPlan old.network.plan) hello [] of_plan (All-nil (IsOfPlan old.network.plan)));
}

-- ---- nothing but notes

at_same : (d : Discovery) (old now : DiscoveryLists) → IsAt d old → now.network ≡ old.network → now.adjacencies ≡ old.adjacencies → now.hellos ≡ old.hellos → IsAt d now
at_same d old now at net table hellos = record {
  network = ap (λ n. network_seen n) net ∙ at.network;
  histories = subst (AreAfter d.histories) (sym table) at.histories;
  hellos = hellos ∙ (at.hellos ∙ ap (λ (n : NetLists). map (said_hello n.plan) d.hellos) (sym net));
  fit = at.fit;
}

on_ok : {A : Type 0} (result : Result A NetStop) {P : Type 0} → P → OnOk result P
on_ok (Ok done) p = p
on_ok (Err stop) p = tt

abbrev course_from : NetLists → List PlacedNote → List Act → Course
course_from network notes acts = course network.plan (network_seen network) network.trace notes acts

-- acts of a network that has kept its state, its trace and its notes
acts_from : {A : Type 0} (result : Result A NetStop) (mid old now : DiscoveryLists) (acts : List Act) → old.network ≡ mid.network → old.notes ≡ mid.notes → Acts result mid now acts
    → Acts result old now acts
acts_from (Ok done) mid old now acts net notes is = λ rest. is rest ∙ sym (λ i. course_from (net i) (notes i) (acts ++ rest))
acts_from (Err stop) mid old now acts net notes is = λ rest. subst (HaltsAt stop now) (sym (λ i. course_from (net i) (notes i) (acts ++ rest))) (is rest)

-- ---- hello

pub hello_idle_acts : {A : Type 0} (result : Result A NetStop) (old now : DiscoveryLists) (plan : Plan) (d : Discovery) (from to : EdgeId) (hold : ℕ) → are_joined plan from.0 to.0
    ≡ false → Acts result old now (Tells note.Idle ∷ [])
    → Acts result old now (acts_of plan d (line.Hello from to hold))
hello_idle_acts result old now plan d from to hold none acts = rw none acts

pub hello_idle_after : {A : Type 0} (result : Result A NetStop) (old now : DiscoveryLists) (plan : Plan) (d : Discovery) (from to : EdgeId) (hold : ℕ) → are_joined plan from.0 to.0
    ≡ false → now.network ≡ old.network → now.adjacencies ≡ old.adjacencies
    → now.hellos ≡ old.hellos → IsAt d old → OnOk result (IsAt (after_line plan d (line.Hello from to hold)) now)
hello_idle_after result old now plan d from to hold none net table hellos at = on_ok result (rw none (at_same d old now at net table hellos))

address_of : (plan : Plan) (edge : EdgeId) → edge.0 < length plan.edges → (address : Addr) × (edge_address plan edge ≡ Some address)
address_of plan edge within = by plan.edges edge.0 within
  where
    by : (rows : List EdgePlan) (k : ℕ) → k < length rows → (address : Addr) × (option_map (λ row. row.address) (slice_get rows k) ≡ Some address)
    by [] k less = absurd (omega (arith, less))
    by (row ∷ rows) zero less = (row.address, refl)
    by (row ∷ rows) (suc k) less = by rows k (omega (arith, less))

-- what was said are the octets of the next Hello
said_is : (plan : Plan) (d : Discovery) (from to : EdgeId) (hold : ℕ) (octets : List ℕ) → from.0 < length plan.edges
    → ((address : Addr) → edge_address plan from ≡ Some address → octets ≡ hello_octets address (id_behind (d.histories from.0)) hold) → octets ≡ octets_of_hello plan (next_hello d from to hold)
said_is plan d from to hold octets within said_so =
    let there = address_of plan from within in
    said_so there.0 there.1 ∙ sym (ap (λ (o : Option Addr). hello_octets_by o (next_hello d from to hold)) there.1)

id_small : (history : List Deed) → id_behind history < 2 ^ 32
id_small [] = omega arith
id_small (said peer hold ∷ earlier) = omega arith
id_small (heard peer hold ∷ earlier) = id_small earlier
id_small (ticked ∷ earlier) = id_small earlier

-- a Hello was said, and this is known of it
pub record HasSaid (d : Discovery) (old mid : DiscoveryLists) (from to : EdgeId) (hold : ℕ) (octets : List ℕ) : Type 0 where
  pub network : mid.network ≡ old.network
  pub histories : AreAfter (with_deed from (said to.0 hold) d.histories) mid.adjacencies
  pub octets_are : octets ≡ octets_of_hello old.network.plan (next_hello d from to hold)
  pub hellos : mid.hellos ≡ old.hellos ++ record { from = from; to = to; bytes = octets } ∷ []

pub has_said : (d : Discovery) (old mid : DiscoveryLists) (from to : EdgeId) (hold : ℕ) (octets : List ℕ) → from.0 < length old.network.plan.edges → AreEdgesOf old.network.plan old.adjacencies
    → ((histories : ℕ → List Deed) → AreAfter histories old.adjacencies → AreAfter (with_deed from (said to.0 hold) histories) mid.adjacencies)
    → ((histories : ℕ → List Deed) (plan : Plan) (address : Addr) → AreAfter histories old.adjacencies → AreEdgesOf plan old.adjacencies → edge_address plan from ≡ Some address
    → octets ≡ hello_octets address (id_behind (histories from.0)) hold)
    → mid.network ≡ old.network → mid.hellos ≡ old.hellos ++ record { from = from; to = to; bytes = octets } ∷ [] → IsAt d old → HasSaid d old mid from to hold octets
has_said d old mid from to hold octets within edges histories octets_so net hellos at = record {
  network = net;
  histories = histories d.histories at.histories;
  octets_are = said_is old.network.plan d from to hold octets within (λ address there. octets_so d.histories old.network.plan address at.histories edges there);
  hellos = hellos;
}

map_more : (f : Hello → SaidHello) (xs : List Hello) (x : Hello) → map f (xs ++ x ∷ []) ≡ map f xs ++ f x ∷ []
map_more f [] x = refl
map_more f (y ∷ ys) x = ap (λ (l : List SaidHello). f y ∷ l) (map_more f ys x)

at_said : (d : Discovery) (old mid now : DiscoveryLists) (from to : EdgeId) (hold : ℕ) (octets : List ℕ) → IsAt d old → HasSaid d old mid from to hold octets → hold ≤ 65535
    → now.network ≡ mid.network → now.adjacencies ≡ mid.adjacencies → now.hellos ≡ mid.hellos
    → IsAt (record { network = d.network; histories = with_deed from (said to.0 hold) d.histories; hellos = d.hellos ++ next_hello d from to hold ∷ [] }) now
at_said d old mid now from to hold octets at has fit net table hellos =
    let same : now.network ≡ old.network = net ∙ has.network in
    record {
      network = ap (λ n. network_seen n) same ∙ at.network;
      histories = subst (AreAfter (with_deed from (said to.0 hold) d.histories)) (sym table) has.histories;
      hellos =
          hellos ∙ (has.hellos
          ∙ ((λ i. at.hellos i ++ record { from = from; to = to; bytes = has.octets_are i } ∷ [])
          ∙ (sym (map_more (said_hello old.network.plan) d.hellos (next_hello d from to hold))
          ∙ ap (λ (n : NetLists). map (said_hello n.plan) (d.hellos ++ next_hello d from to hold ∷ [])) (sym same))));
      fit = All-append IsHelloFit d.hellos (next_hello d from to hold ∷ []) at.fit
          (All-cons IsHelloFit (next_hello d from to hold) [] (record { id = id_small (d.histories from.0); hold = fit }) (All-nil IsHelloFit));
    }

-- ---- commands

pub command_acts : {A : Type 0} (result : Result A NetStop) (old now : DiscoveryLists) (d : Discovery) (command : Command) (captures : List (List (List ℕ))) → captures ≡ []
    → now.network.plan ≡ old.network.plan → now.notes ≡ old.notes
    → GivesNetwork result now.network (ran old.network.plan (network_seen old.network) old.network.trace (made_by old.network.plan (network_seen old.network) captures command)) → IsAt d old
    → Acts result old now (acts_of old.network.plan d (line.Do command))
command_acts result old now d command captures none kept same gives at =
    subst (λ (s : NetworkState). Acts result old now (all_done (made_by old.network.plan s [] command))) at.network
    (events_come result old now (made_by old.network.plan (network_seen old.network) [] command) kept same
    (subst (λ (c : List (List (List ℕ))). GivesNetwork result now.network
    (ran old.network.plan (network_seen old.network) old.network.trace (made_by old.network.plan (network_seen old.network) c command))) none gives))

pub command_after : {A : Type 0} (result : Result A NetStop) (old now : DiscoveryLists) (d : Discovery) (command : Command) (captures : List (List (List ℕ))) → captures ≡ []
    → now.network.plan ≡ old.network.plan → now.adjacencies ≡ old.adjacencies → now.hellos ≡ old.hellos
    → GivesNetwork result now.network (ran old.network.plan (network_seen old.network) old.network.trace (made_by old.network.plan (network_seen old.network) captures command)) → IsAt d old
    → OnOk result (IsAt (after_line old.network.plan d (line.Do command)) now)
command_after (Err stop) old now d command captures none kept table hellos gives at = tt
command_after (Ok done) old now d command captures none kept table hellos gives at =
    let plan : Plan = old.network.plan in
    let events : List Event = made_by plan d.network [] command in
    let made : made_by plan (network_seen old.network) captures command ≡ events = (λ i. made_by plan (at.network i) (none i) command) in
    let run : ended now.network None ≡ ran plan (network_seen old.network) old.network.trace events = gives ∙ ap (ran plan (network_seen old.network) old.network.trace) made in
    let alone : events ≡ events_in (all_done events) = sym (done_alone events) in
    let stops : (ran plan (network_seen old.network) old.network.trace events).stop ≡ None = sym (ap (λ (e : Ended). e.stop) run) in
    record {
      network = ap (λ (e : Ended). e.state) run ∙ (ran_state plan (network_seen old.network) old.network.trace events stops ∙ (λ i. state_after plan (at.network i) (alone i)));
      histories = subst (AreAfter d.histories) (sym table) at.histories;
      hellos = hellos ∙ (at.hellos ∙ ap (λ (p : Plan). map (said_hello p) d.hellos) (sym kept));
      fit = at.fit;
    }

-- ---- hello, where a segment joins the edges

pub hello_said_acts : {A : Type 0} (result : Result A NetStop) (old mid now : DiscoveryLists) (plan : Plan) (d : Discovery) (from to : EdgeId) (hold number : ℕ) (octets : List ℕ)
    → are_joined plan from.0 to.0 ≡ true → number ≡ length mid.hellos → plan ≡ old.network.plan
    → IsAt d old → HasSaid d old mid from to hold octets → mid.notes ≡ old.notes → Acts result mid now (Tells (note.Hello number from to octets) ∷ [])
    → Acts result old now (acts_of plan d (line.Hello from to hold))
hello_said_acts result old mid now plan d from to hold number octets joined counted same at has notes acts =
    let count : number ≡ length d.hellos + 1 =
    counted ∙ (ap (λ (l : List SaidHello). length l) (has.hellos ∙ ap (λ (l : List SaidHello). l ++ record { from = from; to = to; bytes = octets } ∷ []) at.hellos)
    ∙ one_more (said_hello old.network.plan) d.hellos (record { from = from; to = to; bytes = octets })) in
    let written : octets ≡ octets_of_hello plan (next_hello d from to hold) = has.octets_are ∙ ap (λ (p : Plan). octets_of_hello p (next_hello d from to hold)) (sym same) in
    rw joined (acts_from result mid old now (Tells (note.Hello (length d.hellos + 1) from to (octets_of_hello plan (next_hello d from to hold))) ∷ []) (sym has.network) (sym notes)
    (subst (λ (n : Note). Acts result mid now (Tells n ∷ [])) (λ i. note.Hello (count i) from to (written i)) acts))
  where
    one_more : (f : Hello → SaidHello) (xs : List Hello) (x : SaidHello) → length (map f xs ++ x ∷ []) ≡ length xs + 1
    one_more f [] x = refl
    one_more f (y ∷ ys) x = omega (arith, one_more f ys x)

pub hello_said_after : {A : Type 0} (result : Result A NetStop) (old mid now : DiscoveryLists) (plan : Plan) (d : Discovery) (from to : EdgeId) (hold : ℕ) (octets : List ℕ)
    → are_joined plan from.0 to.0 ≡ true → hold ≤ 65535
    → HasSaid d old mid from to hold octets → now.network ≡ mid.network → now.adjacencies ≡ mid.adjacencies → now.hellos ≡ mid.hellos → IsAt d old
    → OnOk result (IsAt (after_line plan d (line.Hello from to hold)) now)
hello_said_after result old mid now plan d from to hold octets joined fit has net table hellos at = on_ok result (rw joined (at_said d old mid now from to hold octets at has fit net table hellos))

-- ---- bring

pub hello_none : (n : DiscoveryLists) (d : Discovery) (number : ℕ) → number ≡ 0 → None ≡ option_map (said_hello n.network.plan) (hello_numbered d number)
hello_none n d number first = subst (λ (k : ℕ). None ≡ option_map (said_hello n.network.plan) (hello_numbered d k)) (sym first) refl

pub hello_found : (n : DiscoveryLists) (d : Discovery) (number : ℕ) (result : Option SaidHello) → number ≢ 0 → result ≡ slice_get n.hellos (number - 1) → IsAt d n → result
    ≡ option_map (said_hello n.network.plan) (hello_numbered d number)
hello_found n d number result some is at =
    let other : (number == 0) ≡ false = grind (arith, nat_tests, some) in
    is
    ∙ (ap (λ (l : List SaidHello). slice_get l (number - 1)) at.hellos
    ∙ (slice_get-map (said_hello n.network.plan) d.hellos (number - 1) ∙ ap (λ (b : Bool). option_map (said_hello n.network.plan) (if b then None else slice_get d.hellos (number - 1))) (sym other)))

none_there : (f : Hello → SaidHello) (o : Option Hello) → None ≡ option_map f o → o ≡ None
none_there f None e = refl
none_there f (Some x) e = absurd (cc (e))

pub bring_none_acts : {A : Type 0} (result : Result A NetStop) (old now : DiscoveryLists) (plan : Plan) (d : Discovery) (number : ℕ) → None
    ≡ option_map (said_hello plan) (hello_numbered d number) → Acts result old now (Tells note.Idle ∷ [])
    → Acts result old now (acts_of plan d (line.Bring number))
bring_none_acts result old now plan d number none acts = subst (λ (o : Option Hello). Acts result old now (bring_acts d o)) (sym (none_there (said_hello plan) (hello_numbered d number) none)) acts

-- nothing is said of acts that want of memory stopped
pub halted_anyhow : (old now : DiscoveryLists) (acts : List Act) → HaltsIn NoMemory old now acts
halted_anyhow old now acts rest = tt

-- what a Hello that is heard leaves, where it was said
abbrev brought : Plan → Discovery → Option Hello → Discovery
brought plan d hello = record { network = state_after plan d.network (events_in (bring_acts d hello)); histories = heard_at hello d.histories; hellos = d.hellos }

pub bring_none_after : {A : Type 0} (result : Result A NetStop) (old now : DiscoveryLists) (plan : Plan) (d : Discovery) (number : ℕ) → None
    ≡ option_map (said_hello plan) (hello_numbered d number) → now.network ≡ old.network → now.adjacencies ≡ old.adjacencies
    → now.hellos ≡ old.hellos → IsAt d old → OnOk result (IsAt (after_line plan d (line.Bring number)) now)
bring_none_after result old now plan d number none net table hellos at =
    on_ok result (subst (λ (o : Option Hello). IsAt (brought plan d o) now) (sym (none_there (said_hello plan) (hello_numbered d number) none)) (at_same d old now at net table hellos))

-- it does no event of the network
no_event : (plan : Plan) (d : Discovery) (hello : Hello) → state_after plan d.network (events_in (bring_acts d (Some hello))) ≡ d.network
no_event plan d hello = by (adjacency_lives d hello.to.0 hello.from.0)
  where
    by : (lived : Bool) → state_after plan d.network (events_in (if lived then [] else Tells (note.Up hello.to hello.from) ∷ [])) ≡ d.network
    by true = refl
    by false = refl

-- the Hello of a number is one that was said
fit_of : (d : Discovery) (number : ℕ) (hello : Hello) → All IsHelloFit d.hellos → hello_numbered d number ≡ Some hello → IsHelloFit hello
fit_of d number hello fit found = elim (cases_Bool (number == 0)) [
  | inl first ↦ (let none : None ≡ Some hello = rw first at found in absurd (cc (none)))
  | inr other ↦
      let there : slice_get d.hellos (number - 1) ≡ Some hello = rw other at found in
      subst IsHelloFit (get_or_from_slice_get d.hellos (number - 1) hello hello there) (All-get_or IsHelloFit d.hellos (number - 1) hello (slice_get_within d.hellos (number - 1) hello there) fit)
]

-- the Hello that was found, with what it stands for
pub record IsFound (d : Discovery) (n : DiscoveryLists) (number : ℕ) (hello : SaidHello) : Type 0 where
  pub said_is : Hello
  pub there : hello_numbered d number ≡ Some said_is
  pub fit : IsHelloFit said_is
  pub same : hello ≡ said_hello n.network.plan said_is

found_as : (d : Discovery) (n : DiscoveryLists) (number : ℕ) (hello : SaidHello) → IsAt d n → Some hello ≡ option_map (said_hello n.network.plan) (hello_numbered d number) → IsFound d n number hello
found_as d n number hello at found = by (hello_numbered d number) refl found
  where
    by : (o : Option Hello) → hello_numbered d number ≡ o → Some hello ≡ option_map (said_hello n.network.plan) o → IsFound d n number hello
    by None is none = absurd (cc (none))
    by (Some said_so) is some = record { said_is = said_so; there = is; fit = fit_of d number said_so at.fit is; same = cc (some) }

pub bring_acts_of : {A : Type 0} (result : Result A NetStop) (old now : DiscoveryLists) (d : Discovery) (number : ℕ) (hello : SaidHello) → Some hello
    ≡ option_map (said_hello old.network.plan) (hello_numbered d number)
    → ((d : Discovery) (said_so : Hello) → IsAt d old → IsHelloFit said_so → hello ≡ said_hello old.network.plan said_so → Acts result old now (bring_acts d (Some said_so)))
    → IsAt d old → Acts result old now (acts_of old.network.plan d (line.Bring number))
bring_acts_of result old now d number hello found heard_so at =
    let found_so : IsFound d old number hello = found_as d old number hello at found in
    subst (λ (o : Option Hello). Acts result old now (bring_acts d o)) (sym found_so.there) (heard_so d found_so.said_is at found_so.fit found_so.same)

pub bring_after_of : {A : Type 0} (result : Result A NetStop) (old now : DiscoveryLists) (d : Discovery) (number : ℕ) (hello : SaidHello) → Some hello
    ≡ option_map (said_hello old.network.plan) (hello_numbered d number)
    → ((d : Discovery) (said_so : Hello) → IsAt d old → IsHelloFit said_so → hello ≡ said_hello old.network.plan said_so
    → OnOk result (IsAt (record d { histories = heard_at (Some said_so) d.histories }) now))
    → IsAt d old → OnOk result (IsAt (after_line old.network.plan d (line.Bring number)) now)
bring_after_of result old now d number hello found heard_so at =
    let found_so : IsFound d old number hello = found_as d old number hello at found in
    subst (λ (o : Option Hello). OnOk result (IsAt (brought old.network.plan d o) now)) (sym found_so.there)
    (subst (λ (s : NetworkState). OnOk result (IsAt (record { network = s; histories = heard_at (Some found_so.said_is) d.histories; hellos = d.hellos }) now))
    (sym (no_event old.network.plan d found_so.said_is))
    (heard_so d found_so.said_is at found_so.fit found_so.same))

-- ---- a Hello is heard

-- what hearing it does to the adjacencies
abbrev pub HearsSaid : List AdjacencyLists → List AdjacencyLists → SaidHello → Type 0
HearsSaid old now hello =
    (histories : ℕ → List Deed) (plan : Plan) (address : Addr) (id hold : ℕ) → AreAfter histories old → AreEdgesOf plan old → edge_address plan hello.from ≡ Some address → id < 2 ^ 32 → hold ≤ 65535
    → hello.bytes ≡ hello_octets address id hold → AreAfter (with_deed hello.to (heard hello.from.0 hold) histories) now

-- the histories then
pub heard_at_is : (d : Discovery) (old : DiscoveryLists) (table : List AdjacencyLists) (hello : SaidHello) (said_so : Hello) → IsAt d old → AreEdgesOf old.network.plan old.adjacencies
    → IsOfPlan old.network.plan hello → IsHelloFit said_so
    → hello ≡ said_hello old.network.plan said_so → HearsSaid old.adjacencies table hello → AreAfter (heard_at (Some said_so) d.histories) table
heard_at_is d old table hello said_so at edges of_plan fit same hears =
    let plan : Plan = old.network.plan in
    let from_is : hello.from ≡ said_so.from = ap (λ (h : SaidHello). h.from) same in
    let there = address_of plan hello.from of_plan.0 in
    let address_is : edge_address plan said_so.from ≡ Some there.0 = ap (edge_address plan) (sym from_is) ∙ there.1 in
    let octets_are : hello.bytes ≡ hello_octets there.0 said_so.id said_so.hold = ap (λ (h : SaidHello). h.bytes) same ∙ ap (λ (o : Option Addr). hello_octets_by o said_so) address_is in
    subst (λ (h : SaidHello). AreAfter (with_deed h.to (heard h.from.0 said_so.hold) d.histories) table) same
    (hears d.histories plan there.0 said_so.id said_so.hold at.histories edges there.1 fit.id fit.hold octets_are)

pub at_heard : (d : Discovery) (old now : DiscoveryLists) (said_so : Hello) → IsAt d old → AreAfter (heard_at (Some said_so) d.histories) now.adjacencies → now.network ≡ old.network
    → now.hellos ≡ old.hellos
    → IsAt (record d { histories = heard_at (Some said_so) d.histories }) now
at_heard d old now said_so at histories net hellos = record {
  network = ap (λ n. network_seen n) net ∙ at.network;
  histories = histories;
  hellos = hellos ∙ (at.hellos ∙ ap (λ (n : NetLists). map (said_hello n.plan) d.hellos) (sym net));
  fit = at.fit;
}

-- whether the adjacency lived before
lived_is : (d : Discovery) (plan : Plan) (hello : SaidHello) (said_so : Hello) (lived : Bool) → hello ≡ said_hello plan said_so → lived ≡ live hello.from.0 (d.histories hello.to.0)
    → adjacency_lives d said_so.to.0 said_so.from.0 ≡ lived
lived_is d plan hello said_so lived same is = sym (is ∙ ap (λ (h : SaidHello). live h.from.0 (d.histories h.to.0)) same)

pub heard_lived : {A : Type 0} (done : A) (old now : DiscoveryLists) (d : Discovery) (plan : Plan) (hello : SaidHello) (said_so : Hello) (lived : Bool) → hello
    ≡ said_hello plan said_so → lived ≡ live hello.from.0 (d.histories hello.to.0) → lived ≡ true
    → now.network ≡ old.network → now.notes ≡ old.notes → HasDoneActs old now (bring_acts d (Some said_so))
heard_lived done old now d plan hello said_so lived same is yes_lived net notes =
    let so : adjacency_lives d said_so.to.0 said_so.from.0 ≡ true = lived_is d plan hello said_so lived same is ∙ yes_lived in
    rw so (λ rest i. course_from (net i) (notes i) rest)

pub heard_acts : {A : Type 0} (result : Result A NetStop) (mid old now : DiscoveryLists) (d : Discovery) (plan : Plan) (hello : SaidHello) (said_so : Hello) (lived : Bool) → hello
    ≡ said_hello plan said_so → lived ≡ live hello.from.0 (d.histories hello.to.0) → lived ≡ false
    → mid.network ≡ old.network → mid.notes ≡ old.notes → Acts result mid now (Tells (note.Up hello.to hello.from) ∷ []) → Acts result old now (bring_acts d (Some said_so))
heard_acts result mid old now d plan hello said_so lived same is not_lived net notes acts =
    let so : adjacency_lives d said_so.to.0 said_so.from.0 ≡ false = lived_is d plan hello said_so lived same is ∙ not_lived in
    rw so (acts_from result mid old now (Tells (note.Up said_so.to said_so.from) ∷ []) (sym net) (sym notes)
    (subst (λ (h : SaidHello). Acts result mid now (Tells (note.Up h.to h.from) ∷ [])) same acts))

-- ---- open

pub may_open_is : (d : Discovery) (n : DiscoveryLists) (from to : EdgeId) (one other : Bool) → one ≡ live to.0 (d.histories from.0) → other ≡ live from.0 (d.histories to.0)
    → one && other ≡ may_open d from to
may_open_is d n from to one other first second = λ i. first i && second i

pub open_idle_acts : {A : Type 0} (result : Result A NetStop) (old now : DiscoveryLists) (plan : Plan) (d : Discovery) (from to : EdgeId) → are_joined plan from.0 to.0 ≡ false
    → Acts result old now (Tells note.Idle ∷ []) → Acts result old now (acts_of plan d (line.Open from to))
open_idle_acts result old now plan d from to none acts = rw none acts

pub open_idle_after : {A : Type 0} (result : Result A NetStop) (old now : DiscoveryLists) (plan : Plan) (d : Discovery) (from to : EdgeId) → are_joined plan from.0 to.0 ≡ false
    → now.network ≡ old.network → now.adjacencies ≡ old.adjacencies → now.hellos ≡ old.hellos
    → IsAt d old → OnOk result (IsAt (after_line plan d (line.Open from to)) now)
open_idle_after result old now plan d from to none net table hellos at = on_ok result (rw none (at_same d old now at net table hellos))

pub open_barred_acts : {A : Type 0} (result : Result A NetStop) (old now : DiscoveryLists) (plan : Plan) (d : Discovery) (from to : EdgeId) → are_joined plan from.0 to.0 ≡ true
    → may_open d from to ≡ false → Acts result old now (Tells (note.Barred from to) ∷ [])
    → Acts result old now (acts_of plan d (line.Open from to))
open_barred_acts result old now plan d from to joined barred acts = rw (joined, barred) acts

pub open_barred_after : {A : Type 0} (result : Result A NetStop) (old now : DiscoveryLists) (plan : Plan) (d : Discovery) (from to : EdgeId) → are_joined plan from.0 to.0 ≡ true
    → may_open d from to ≡ false → now.network ≡ old.network → now.adjacencies ≡ old.adjacencies
    → now.hellos ≡ old.hellos → IsAt d old → OnOk result (IsAt (after_line plan d (line.Open from to)) now)
open_barred_after result old now plan d from to joined barred net table hellos at = on_ok result (rw (joined, barred) (at_same d old now at net table hellos))

pub open_done_acts : {A : Type 0} (result : Result A NetStop) (old now : DiscoveryLists) (plan : Plan) (d : Discovery) (from to : EdgeId) → are_joined plan from.0 to.0 ≡ true
    → may_open d from to ≡ true → Acts result old now (Does (event.Connect from to) ∷ [])
    → Acts result old now (acts_of plan d (line.Open from to))
open_done_acts result old now plan d from to joined may acts = rw (joined, may) acts

pub open_done_after : {A : Type 0} (result : Result A NetStop) (old now : DiscoveryLists) (plan : Plan) (d : Discovery) (from to : EdgeId) → are_joined plan from.0 to.0 ≡ true
    → may_open d from to ≡ true → plan ≡ old.network.plan → now.network.plan ≡ old.network.plan
    → OnOk result (network_seen now.network ≡ (step old.network.plan (network_seen old.network) (event.Connect from to)).state) → now.adjacencies ≡ old.adjacencies → now.hellos ≡ old.hellos
    → IsAt d old → OnOk result (IsAt (after_line plan d (line.Open from to)) now)
open_done_after (Err stop) old now plan d from to joined may same kept state table hellos at = tt
open_done_after (Ok done) old now plan d from to joined may same kept state table hellos at = rw (joined, may) (record {
  network = state ∙ (λ i. (step (sym same i) (at.network i) (event.Connect from to)).state);
  histories = subst (AreAfter d.histories) (sym table) at.histories;
  hellos = hellos ∙ (at.hellos ∙ ap (λ (p : Plan). map (said_hello p) d.hellos) (sym kept));
  fit = at.fit;
})
