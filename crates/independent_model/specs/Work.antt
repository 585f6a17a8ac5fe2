-- An edge at work on one call, over a link that may fail.
use Rattle.std.specs.Prelude.{◌≡◌, ◌<◌, ◌≤◌, ◌++◌, ℕ, Bool, true, false, List, [], ◌∷◌, length, slice_index_or, Result, Ok, Err}
use Rattle.net_base.specs.declared.outside.link_call.LinkCall.{LinkCall}
use Rattle.net_base.specs.declared.plan.places.EdgeId.{EdgeId}
use Rattle.net_base.specs.outside.Link.{call_of}
use Rattle.independent_model.specs.declared.indep_stop.IndepStop.{IndepStop}
use Rattle.independent_model.specs.declared.indep_stop.IndepStop.TheVariants as stop
use Rattle.independent_model.specs.State.{IndepState}

-- What became of it: the edge, and the calls of the link, those of earlier calls among them. It goes on, or has stopped and does
-- nothing more.
pub data IndepOutcome : Type 0 where
  Goes : (edge : IndepState) (calls : List LinkCall) → IndepOutcome
  Stops : (why : IndepStop) (edge : IndepState) (calls : List LinkCall) → IndepOutcome

-- more is done where it goes on
abbrev pub and_works : IndepOutcome → (IndepState → List LinkCall → IndepOutcome) → IndepOutcome
and_works (Goes edge calls) more = more edge calls
and_works (Stops why edge calls) more = Stops why edge calls

-- ---- what contracts say

-- the calls of a link go on: those before stay
pub record CallsGoOn (old new : List LinkCall) : Type 0 where
  pub longer : length old ≤ length new
  pub same : (k : ℕ) (d : LinkCall) → k < length old → slice_index_or new k d ≡ slice_index_or old k d

-- This is the outcome, by what a call has answered. After want of memory nothing is said of it.
abbrev pub Comes : {T : Type 0} → Result T IndepStop → IndepState → List LinkCall → IndepOutcome → Type 0
Comes (Ok done) edge calls outcome = outcome ≡ Goes edge calls
Comes (Err stop.Link) edge calls outcome = outcome ≡ Stops stop.Link edge calls
Comes (Err (stop.Refused fault)) edge calls outcome = outcome ≡ Stops (stop.Refused fault) edge calls
Comes (Err stop.NoMemory) edge calls outcome = Unit {0}

-- the link was called with these octets for a peer, and took them or not; where memory was refused it was not called
abbrev pub IsPutOnLink : {T : Type 0} → EdgeId → List ℕ → List LinkCall → List LinkCall → Result T IndepStop → Type 0
IsPutOnLink peer octets old new (Ok done) = new ≡ old ++ call_of peer false octets true ∷ []
IsPutOnLink peer octets old new (Err stop.Link) = new ≡ old ++ call_of peer false octets false ∷ []
IsPutOnLink peer octets old new (Err (stop.Refused fault)) = ⊥
IsPutOnLink peer octets old new (Err stop.NoMemory) = Unit {0}

-- nothing is refused: only octets that come can be
abbrev pub NeverRefused : {T : Type 0} → Result T IndepStop → Type 0
NeverRefused (Ok done) = Unit {0}
NeverRefused (Err stop.Link) = Unit {0}
NeverRefused (Err (stop.Refused fault)) = ⊥
NeverRefused (Err stop.NoMemory) = Unit {0}
