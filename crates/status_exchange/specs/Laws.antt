-- What holds of every exchange.
use Rattle.std.specs.Prelude.{◌≡◌, ◌==◌, ◌&&◌, ◌||◌, not, ℕ, Bool, true, false, List, [], ◌∷◌, Option, Some, None, is_some, if◌then◌else◌}
use Rattle.pw_tlvs.specs.declared.pw_status.PwStatus.{PwStatus}
use Rattle.pw_status.specs.Status.{is_standby}
use Rattle.status_exchange.specs.declared.wish.Wish.{Wish}
use Rattle.status_exchange.specs.Exchange.{Apply, EdgeStatuses, Exchange, IsWiring, Step, StatusMessage, Wiring, first, is_exchange_connected, exchange_run}
use Rattle.status_exchange.specs.Line.{status_after, some_active, some_asks}
use Rattle.status_exchange.specs.Wish.{is_wished_active, is_ask, status_of}

-- of what is told, that of one wire
abbrev pub of_wire : ℕ → List StatusMessage → List Wish
of_wire wire [] = []
of_wire wire (t ∷ ts) = if t.wire == wire then t.wish ∷ of_wire wire ts else of_wire wire ts

-- the other end is known to call the wire active
abbrev pub is_known_active : Option PwStatus → Bool
is_known_active None = false
is_known_active (Some status) = not (is_standby status)

-- the edge uses its wire with a peer: it is connected, calls the wire active, and knows that the peer does
abbrev pub exchange_uses : EdgeStatuses → ℕ → ℕ → Bool
exchange_uses edge peer wire = (is_some (edge.next peer) && is_wished_active (edge.local wire)) && is_known_active (edge.remote wire)

-- one end of a wire between two edges that are connected
pub record IsEnd (x : Exchange) (me peer wire : ℕ) : Type 0 where
  -- once it has heard all that is on its way, it knows what the other end calls the wire
  pub after_way : status_after (of_wire wire (x.ways peer me)) ((x.edges me).remote wire) ≡ Some (status_of ((x.edges peer).local wire))
  -- where it asks, it has asked, or an active status comes
  pub asked : is_ask ((x.edges me).local wire) ≡ true → (some_asks (of_wire wire (x.ways me peer)) || some_active (of_wire wire (x.ways peer me))) ≡ true
  -- what it knows is the last that it has heard
  pub knows : (x.edges me).remote wire ≡ status_after (of_wire wire (x.heard peer me)) None

-- both use the wire, or none does, and none asks
pub record IsExchangeAgreed (x : Exchange) (a b wire : ℕ) : Type 0 where
  pub one : exchange_uses (x.edges a) b wire ≡ (is_wished_active ((x.edges a).local wire) && is_wished_active ((x.edges b).local wire))
  pub other : exchange_uses (x.edges b) a wire ≡ (is_wished_active ((x.edges a).local wire) && is_wished_active ((x.edges b).local wire))
  pub asks_not : is_ask ((x.edges a).local wire) ≡ false
  pub other_asks_not : is_ask ((x.edges b).local wire) ≡ false

-- two edges with a wire
pub record Agree (x : Exchange) (a b wire : ℕ) : Type 0 where
  -- they are connected or not
  pub both : is_exchange_connected x a b ≡ is_exchange_connected x b a
  pub ends : is_exchange_connected x a b ≡ true → IsEnd x a b wire × IsEnd x b a wire
  pub quiet : is_exchange_connected x a b ≡ true → x.ways a b ≡ [] → x.ways b a ≡ [] → IsExchangeAgreed x a b wire
  -- a wire is used only where it is called active, and the last status that was heard on this connection does so
  pub used : exchange_uses (x.edges a) b wire ≡ true → (is_wished_active ((x.edges a).local wire) ≡ true) × (is_known_active (status_after (of_wire wire (x.heard b a)) None) ≡ true)
  -- where no connection stands, nothing is on its way or known
  pub gone : is_exchange_connected x a b ≡ false → (x.ways a b ≡ []) × ((x.edges a).remote wire ≡ None)

-- whatever steps can be done, the two ends of a wire agree after them
abbrev pub ExchangesAgree : Type 0
ExchangesAgree = (w : Wiring) → IsWiring w → (steps : List Step) → Apply w first steps → (a b wire : ℕ) → w.joins wire a b ≡ true → Agree (exchange_run w first steps) a b wire
