-- The network of edges in independent mode, and what the lines of a script make of it.
use Rattle.std.specs.Prelude.{◌==◌, ◌||◌, ◌+◌, ◌++◌, not, ℕ, zero, suc, Bool, true, false, List, [], ◌∷◌, length, take, drop, Option, Some, None, is_some, if◌then◌else◌}
use Rattle.net_base.specs.declared.outside.link_call.LinkCall.{LinkCall}
use Rattle.net_base.specs.declared.plan.Plan.{Plan}
use Rattle.net_base.specs.declared.plan.places.EdgeId.{EdgeId}
use Rattle.pw_messages.specs.LinkAnswers.{Answers}
use Rattle.status_exchange.specs.declared.wish.Wish.{Wish}
use Rattle.status_exchange.specs.Exchange.{put_at_place, at_two}
use Rattle.status_exchange.specs.Wish.{is_same_wish}
use Rattle.independent_model.specs.Calls.{independent_connects, independent_hears, is_connected, loses, sets}
use Rattle.independent_model.specs.State.{ConnectionState, Stopped, Receiver, IndepState, Receiving, Broken, first_state}
use Rattle.independent_model.specs.Wires.{is_between, other_end}
use Rattle.independent_model.specs.Work.{Goes, IndepOutcome, Stops}
use Rattle.switchover_model.specs.declared.switch_line.SwitchLine.{SwitchLine}
use Rattle.switchover_model.specs.declared.switch_line.SwitchLine.TheVariants.{Connect, Cut, Deliver, Settle, Set}

-- the edges by their places, the octets on their way from one to another, and all that have come by the connection that stands
pub record SwitchState : Type 0 where
  pub edges : ℕ → IndepState
  pub pipes : ℕ → ℕ → List ℕ
  pub came : ℕ → ℕ → List ℕ

-- no connection stands
abbrev pub first_network : SwitchState
first_network = record { edges = λ me. first_state; pipes = λ from to. []; came = λ from to. [] }

-- ---- what is on its way

-- the octets that a receiver holds
abbrev pub held_with : Receiver → List ℕ
held_with (Receiving base held) = held
held_with (Broken base wrong) = []
held_with Stopped = []

-- the octets that are held of a peer, where a connection stands
abbrev pub octets_held_by : Option ConnectionState → List ℕ
octets_held_by None = []
octets_held_by (Some kept) = held_with kept.receiver

-- the octets that an edge has yet to hear out of another one: those that it holds, and those on their way to it
abbrev pub switch_flight : SwitchState → ℕ → ℕ → List ℕ
switch_flight x from to = octets_held_by ((x.edges to).connection from) ++ x.pipes from to

-- ---- an edge's work

-- the links of the network take whatever is put
abbrev pub takes_all : Answers
takes_all k = true

abbrev pub edge_numbered : ℕ → EdgeId
edge_numbered place = record { 0 = place }

-- what was put to a peer
abbrev pub put_to : ℕ → List LinkCall → List ℕ
put_to peer [] = []
put_to peer (call ∷ calls) = if call.peer.0 == peer then call.bytes ++ put_to peer calls else put_to peer calls

-- the edge that is left of a work
abbrev pub edge_after : IndepOutcome → IndepState
edge_after (Goes edge calls) = edge
edge_after (Stops why edge calls) = edge

-- the calls that it made
abbrev pub calls_of : IndepOutcome → List LinkCall
calls_of (Goes edge calls) = calls
calls_of (Stops why edge calls) = calls

-- nothing stops it
abbrev pub IsGoing : IndepOutcome → Type 0
IsGoing (Goes edge calls) = Unit {0}
IsGoing (Stops why edge calls) = ⊥

-- it goes into the network
abbrev pub absorbs : ℕ → IndepOutcome → SwitchState → SwitchState
absorbs me o x = record x {
  edges = put_at_place me (edge_after o) x.edges;
  pipes = λ a b. if a == me then x.pipes a b ++ put_to b (calls_of o) else x.pipes a b;
}

-- ---- lines

-- an edge is connected with another one
abbrev pub connects_one : Plan → ℕ → ℕ → SwitchState → SwitchState
connects_one plan me peer x = absorbs me (independent_connects plan takes_all me (edge_numbered peer) (x.edges me) []) x

-- both are, the first one first
abbrev pub switch_connecting : Plan → ℕ → ℕ → SwitchState → SwitchState
switch_connecting plan a b x = connects_one plan b a (connects_one plan a b (record x { came = at_two a b [] (at_two b a [] x.came) }))

-- an edge loses the connection with another one
abbrev pub loses_one : Plan → ℕ → ℕ → SwitchState → SwitchState
loses_one plan me peer x = record x { edges = put_at_place me (loses plan me (edge_numbered peer) (x.edges me)) x.edges }

-- both lose the connection, with all octets
abbrev pub cutting : Plan → ℕ → ℕ → SwitchState → SwitchState
cutting plan a b x = record {
  edges = put_at_place b (loses plan b (edge_numbered a) (x.edges b)) (put_at_place a (loses plan a (edge_numbered b) (x.edges a)) x.edges);
  pipes = at_two a b [] (at_two b a [] x.pipes);
  came = at_two a b [] (at_two b a [] x.came);
}

-- the first octets come
abbrev pub switch_delivering : Plan → ℕ → ℕ → ℕ → SwitchState → SwitchState
switch_delivering plan from to count x =
    absorbs to (independent_hears plan takes_all to (edge_numbered from) (take count (x.pipes from to)) (x.edges to) [])
    (record x { pipes = at_two from to (drop count (x.pipes from to)) x.pipes; came = at_two from to (x.came from to ++ take count (x.pipes from to)) x.came })

-- octets are on their way
abbrev pub is_waiting : List ℕ → Bool
is_waiting [] = false
is_waiting (x ∷ xs) = true

-- one octet comes, where some is on its way
abbrev pub delivers_one : Plan → ℕ → ℕ → SwitchState → SwitchState
delivers_one plan from to x = if is_waiting (x.pipes from to) then switch_delivering plan from to 1 x else x

-- octets come one by one
abbrev pub switch_delivers : Plan → ℕ → ℕ → List ℕ → SwitchState → SwitchState
switch_delivers plan from to [] x = x
switch_delivers plan from to (octet ∷ octets) x = switch_delivers plan from to octets (delivers_one plan from to x)

-- a wire is called something else
abbrev pub setting : Plan → ℕ → ℕ → Wish → SwitchState → SwitchState
setting plan me wire wish x = absorbs me (sets plan takes_all me wire wish (x.edges me) []) x

-- some wire joins the two edges
abbrev pub some_between : Plan → ℕ → ℕ → ℕ → Bool
some_between plan a b zero = false
some_between plan a b (suc n) = is_between plan n a b || some_between plan a b n

-- the first edge is connected with the second one
abbrev pub switches_stand : SwitchState → ℕ → ℕ → Bool
switches_stand x a b = is_connected (x.edges a) b

-- the first of so many places, from this one on, that passes a test
abbrev pub first_place : (ℕ → Bool) → ℕ → ℕ → Option ℕ
first_place test place zero = None
first_place test place (suc n) = if test place then Some place else first_place test (place + 1) n

-- ordered pairs, by the first place and then by the second
abbrev pub earlier_pair : Option ℕ → ℕ → Option (ℕ × ℕ) → Option (ℕ × ℕ)
earlier_pair None a rest = rest
earlier_pair (Some b) a rest = Some (a, b)

-- the first pair of places that passes a test
abbrev pub first_differing_pair : (ℕ → ℕ → Bool) → ℕ → ℕ → ℕ → Option (ℕ × ℕ)
first_differing_pair test size a zero = None
first_differing_pair test size a (suc n) = earlier_pair (first_place (test a) 0 size) a (first_differing_pair test size (a + 1) n)

-- the first pair with octets on their way
abbrev pub next_pair : Plan → SwitchState → Option (ℕ × ℕ)
next_pair plan x = first_differing_pair (λ a b. is_waiting (x.pipes a b)) (length plan.edges) 0 (length plan.edges)

-- the octets of a pair come, at most 65,535 of them, and then more is done; without a pair nothing is
abbrev pub delivers_next : Plan → (SwitchState → SwitchState) → Option (ℕ × ℕ) → SwitchState → SwitchState
delivers_next plan more None x = x
delivers_next plan more (Some pair) x = more (switch_delivers plan pair.0 pair.1 (take 65535 (x.pipes pair.0 pair.1)) x)

-- so many deliveries, of which each is the first one that there is
abbrev pub settling : Plan → ℕ → SwitchState → SwitchState
settling plan zero x = x
settling plan (suc n) x = delivers_next plan (settling plan n) (next_pair plan x) x

-- the line is idle
abbrev pub is_line_idle : Plan → SwitchState → SwitchLine → Bool
is_line_idle plan x (Connect a b) = not (some_between plan a.0 b.0 (length plan.wires)) || switches_stand x a.0 b.0
is_line_idle plan x (Cut a b) = not (some_between plan a.0 b.0 (length plan.wires)) || not (switches_stand x a.0 b.0)
is_line_idle plan x (Deliver from to count) = not (is_waiting (x.pipes from.0 to.0))
is_line_idle plan x (Settle count) = not (is_some (next_pair plan x))
is_line_idle plan x (Set me wire wish) = not (is_some (other_end plan me.0 wire.0)) || is_same_wish ((x.edges me.0).local wire.0) wish

-- what a line makes of the network
abbrev pub does : Plan → SwitchLine → SwitchState → SwitchState
does plan (Connect a b) x = switch_connecting plan a.0 b.0 x
does plan (Cut a b) x = cutting plan a.0 b.0 x
does plan (Deliver from to count) x = switch_delivers plan from.0 to.0 (take count (x.pipes from.0 to.0)) x
does plan (Settle count) x = settling plan count x
does plan (Set me wire wish) x = setting plan me.0 wire.0 wish x

-- a line that is idle makes nothing
abbrev pub done : Plan → SwitchLine → SwitchState → SwitchState
done plan line x = if is_line_idle plan x line then x else does plan line x

-- one line after another
abbrev pub done_all : Plan → List SwitchLine → SwitchState → SwitchState
done_all plan [] x = x
done_all plan (line ∷ lines) x = done_all plan lines (done plan line x)
