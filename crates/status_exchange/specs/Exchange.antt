-- Edges that exchange the statuses of their wires over connections (RFC 6870 section 4). Edges and wires are numbers; what is on its
-- way in one direction keeps its order.
use Rattle.std.specs.Prelude.{◌≡◌, ◌<◌, ◌+◌, ◌==◌, ◌&&◌, ◌⊎◌, ◌++◌, ℕ, zero, suc, Bool, true, false, List, [], ◌∷◌, Option, Some, None, is_some, if◌then◌else◌}
use Rattle.pw_tlvs.specs.declared.pw_status.PwStatus.{PwStatus}
use Rattle.pw_messages.specs.Sender.{following}
use Rattle.status_exchange.specs.declared.wish.Wish.{Wish}
use Rattle.status_exchange.specs.Wish.{becomes, is_status_told, status_of}

-- which edges a wire has, in either order; the wires are the numbers below `count`
pub record Wiring : Type 0 where
  pub count : ℕ
  pub joins : ℕ → ℕ → ℕ → Bool

-- a wire has two edges, and no others
pub record IsWiring (w : Wiring) : Type 0 where
  pub within : (wire a b : ℕ) → w.joins wire a b ≡ true → wire < w.count
  pub turned : (wire a b : ℕ) → w.joins wire a b ≡ true → w.joins wire b a ≡ true
  pub apart : (wire a b : ℕ) → w.joins wire a b ≡ true → (a == b) ≡ false
  pub two : (wire a b c d : ℕ) → w.joins wire a b ≡ true → w.joins wire c d ≡ true → ((a ≡ c) × (b ≡ d)) ⊎ ((a ≡ d) × (b ≡ c))

-- a status on its way: the wire, what its end calls it, and the Message ID
pub record StatusMessage : Type 0 where
  pub wire : ℕ
  pub wish : Wish
  pub id : ℕ

-- what an edge calls its wires, what it knows of their other ends, and the number of its next message to each peer with which it is
-- connected
pub record EdgeStatuses : Type 0 where
  pub local : ℕ → Wish
  pub remote : ℕ → Option PwStatus
  pub next : ℕ → Option ℕ

-- the edges, what is on its way, and what was heard on each connection since it stands
pub record Exchange : Type 0 where
  pub edges : ℕ → EdgeStatuses
  pub ways : ℕ → ℕ → List StatusMessage
  pub heard : ℕ → ℕ → List StatusMessage

-- another value at a place
abbrev pub put_at_place : {A : Type 0} → ℕ → A → (ℕ → A) → ℕ → A
put_at_place place value f k = if k == place then value else f k

abbrev pub at_two : {A : Type 0} → ℕ → ℕ → A → (ℕ → ℕ → A) → ℕ → ℕ → A
at_two a b value f j k = if j == a && k == b then value else f j k

-- ---- an edge at work for one peer

-- the edge as it is by now, and what it has put
pub record StatusWork : Type 0 where
  pub edge : EdgeStatuses
  pub out : List StatusMessage

-- nothing was put
abbrev pub silent : EdgeStatuses → StatusWork
silent edge = record { edge = edge; out = [] }

-- what it calls the wire is told, where it is connected
abbrev pub tells_as : ℕ → ℕ → Option ℕ → StatusWork → StatusWork
tells_as peer wire None t = t
tells_as peer wire (Some id) t = record {
  edge = record t.edge { next = put_at_place peer (Some (following id)) t.edge.next };
  out = t.out ++ record { wire = wire; wish = t.edge.local wire; id = id } ∷ [];
}

-- the wire is told to a peer with the number that is next, where they are connected
abbrev pub exchange_tells : ℕ → ℕ → StatusWork → StatusWork
exchange_tells peer wire t = tells_as peer wire (t.edge.next peer) t

-- so many wires from this one on, those with the peer
abbrev pub exchange_tells_from : Wiring → ℕ → ℕ → ℕ → ℕ → StatusWork → StatusWork
exchange_tells_from w me peer wire zero t = t
exchange_tells_from w me peer wire (suc n) t = exchange_tells_from w me peer (wire + 1) n (if w.joins wire me peer then exchange_tells peer wire t else t)

-- a connection stands: all wires with the peer are told
abbrev pub exchange_connects : Wiring → ℕ → ℕ → EdgeStatuses → StatusWork
exchange_connects w me peer edge = exchange_tells_from w me peer 0 w.count (silent (record edge { next = put_at_place peer (Some 1) edge.next }))

-- a connection is lost, and what was known by it
abbrev pub exchange_loses : Wiring → ℕ → ℕ → EdgeStatuses → EdgeStatuses
exchange_loses w me peer edge = record edge {
  remote = λ wire. if w.joins wire me peer then None else edge.remote wire;
  next = put_at_place peer None edge.next;
}

-- a status of a wire with the peer is heard
abbrev pub exchange_learns : ℕ → PwStatus → EdgeStatuses → EdgeStatuses
exchange_learns wire status edge = record edge {
  local = put_at_place wire (becomes status (edge.local wire)) edge.local;
  remote = put_at_place wire (Some status) edge.remote;
}

-- what was heard is known, and is answered where the edge has to tell something
abbrev pub exchange_hears : ℕ → ℕ → PwStatus → EdgeStatuses → StatusWork
exchange_hears peer wire status edge =
    if is_status_told status (edge.local wire) then exchange_tells peer wire (silent (exchange_learns wire status edge)) else silent (exchange_learns wire status edge)

-- an end calls its wire something else
abbrev pub exchange_sets : ℕ → ℕ → Wish → EdgeStatuses → StatusWork
exchange_sets peer wire wish edge = exchange_tells peer wire (silent (record edge { local = put_at_place wire wish edge.local }))

-- ---- the exchange

-- an edge's work goes into it
abbrev pub exchange_absorb : ℕ → ℕ → StatusWork → Exchange → Exchange
exchange_absorb me peer t x = record x {
  edges = put_at_place me t.edge x.edges;
  ways = at_two me peer (x.ways me peer ++ t.out) x.ways;
}

-- nothing is on its way between two edges, and nothing was heard
abbrev pub exchange_clears : ℕ → ℕ → Exchange → Exchange
exchange_clears a b x = record x {
  ways = at_two a b [] (at_two b a [] x.ways);
  heard = at_two a b [] (at_two b a [] x.heard);
}

-- what an exchange goes through, one after another
pub data Step : Type 0 where
  -- both edges are connected
  Connects : (a b : ℕ) → Step
  -- both lose the connection
  Loses : (a b : ℕ) → Step
  -- `to` hears what comes next from `from`
  Hears : (from to : ℕ) → Step
  -- the edge calls its wire with the peer something else
  Sets : (me peer wire : ℕ) (wish : Wish) → Step

-- the first edge is connected with the second one
abbrev pub is_exchange_connected : Exchange → ℕ → ℕ → Bool
is_exchange_connected x a b = is_some ((x.edges a).next b)

-- the first of what is on its way is heard
abbrev pub heard_first : ℕ → ℕ → List StatusMessage → Exchange → Exchange
heard_first from to [] x = x
heard_first from to (t ∷ ts) x =
    exchange_absorb to from (exchange_hears from t.wire (status_of t.wish) (x.edges to))
    (record x { ways = at_two from to ts x.ways; heard = at_two from to (x.heard from to ++ t ∷ []) x.heard })

-- what a step makes of the exchange
abbrev pub exchange_step : Wiring → Exchange → Step → Exchange
exchange_step w x (Connects a b) = exchange_absorb b a (exchange_connects w b a (x.edges b)) (exchange_absorb a b (exchange_connects w a b (x.edges a)) (exchange_clears a b x))
exchange_step w x (Loses a b) = exchange_clears a b (record x { edges = put_at_place b (exchange_loses w b a (x.edges b)) (put_at_place a (exchange_loses w a b (x.edges a)) x.edges) })
exchange_step w x (Hears from to) = heard_first from to (x.ways from to) x
exchange_step w x (Sets me peer wire wish) = exchange_absorb me peer (exchange_sets peer wire wish (x.edges me)) x

-- the step can be done: two edges are connected once, what is on its way is heard where they are, and a wire is set at an end of it
abbrev pub Applies : Wiring → Exchange → Step → Type 0
Applies w x (Connects a b) = ((a == b) ≡ false) × (is_exchange_connected x a b ≡ false)
Applies w x (Loses a b) = (a == b) ≡ false
Applies w x (Hears from to) = Unit {0}
Applies w x (Sets me peer wire wish) = w.joins wire me peer ≡ true

-- each of the steps can be done in its turn
abbrev pub Apply : Wiring → Exchange → List Step → Type 0
Apply w x [] = Unit {0}
Apply w x (s ∷ ss) = Applies w x s × Apply w (exchange_step w x s) ss

-- what steps make of an exchange
abbrev pub exchange_run : Wiring → Exchange → List Step → Exchange
exchange_run w x [] = x
exchange_run w x (s ∷ ss) = exchange_run w (exchange_step w x s) ss

-- each end stands by, nothing is known, and no connection stands
abbrev pub fresh_statuses : EdgeStatuses
fresh_statuses = record { local = λ wire. Wish.Standby; remote = λ wire. None; next = λ peer. None }

abbrev pub first : Exchange
first = record { edges = λ me. fresh_statuses; ways = λ from to. []; heard = λ from to. [] }
