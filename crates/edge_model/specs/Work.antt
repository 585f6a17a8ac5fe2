-- An edge at work on one input: the edge, the calls that it made on its link, and what it gives out. An edge's work knows
-- no number of a packet, no origin and no hops; the network gives them.
use Rattle.std.specs.Prelude.{◌≡◌, ◌++◌, ℕ, Bool, true, false, List, [], ◌∷◌, length}
use Rattle.net_base.specs.declared.outside.link_call.LinkCall.{LinkCall}
use Rattle.net_base.specs.declared.plan.places.EdgeId.{EdgeId}
use Rattle.net_base.specs.outside.Link.{call_of}
use Rattle.pw_messages.specs.LinkAnswers.{Answers}
use Rattle.edge_model.specs.declared.effect.Effect.{Effect}
use Rattle.edge_model.specs.State.{EdgeState}

-- the edge as it is by now, and what it did on this input so far
pub record Work : Type 0 where
  pub edge : EdgeState
  -- the calls of the link, those of earlier inputs among them
  pub calls : List LinkCall
  -- what was given out on this input
  pub effects : List Effect
  -- the input does not apply
  pub idle : Bool

-- before an input, over the calls that the link has taken so far
abbrev pub beginning : EdgeState → List LinkCall → Work
beginning edge calls = record { edge = edge; calls = calls; effects = []; idle = false }

-- ---- what an edge at work does

-- another state of the edge
unfoldable pub changes : (EdgeState → EdgeState) → Work → Work
changes change work = record work { edge = change work.edge }

-- one more thing is given out
unfoldable pub gives : Effect → Work → Work
gives effect work = record work { effects = work.effects ++ effect ∷ [] }

-- the link is called with octets for a peer, and takes them or not
unfoldable pub puts : EdgeId → List ℕ → Bool → Work → Work
puts peer bytes taken work = record work { calls = work.calls ++ call_of peer false bytes taken ∷ [] }

-- the link is called with a packet for a neighbour, and takes it or not
unfoldable pub posts : EdgeId → List ℕ → Bool → Work → Work
posts peer bytes taken work = record work { calls = work.calls ++ call_of peer true bytes taken ∷ [] }

-- whether the link takes its next call
abbrev pub next_answer : Answers → Work → Bool
next_answer told work = told (length work.calls)

-- the input does not apply
unfoldable pub idles : Work → Work
idles work = record work { idle = true }

-- ---- what contracts say

-- a link's calls go on: those before stay
pub record GoesOn (old new : List LinkCall) : Type 0 where
  pub more : List LinkCall
  pub joined : new ≡ old ++ more
