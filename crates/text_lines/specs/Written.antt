-- A text on its way to a sink: what was taken, and what waits in a page.
use Rattle.std.specs.Prelude.{◌≡◌, ◌<◌, ◌≤◌, ◌++◌, ℕ, List, [], ◌∷◌, length, take, Option, Result, Ok, Err}
use Rattle.net_base.specs.outside.Outside.{Appends, Rose}

-- what the sink took where it tells it, how many of its calls failed, and what waits
pub record Written : Type 0 where
  pub taken : Option (List ℕ)
  pub faults : ℕ
  pub waiting : List ℕ

-- the three together
abbrev pub lines_written : Option (List ℕ) → ℕ → List ℕ → Written
lines_written taken faults waiting = record { taken = taken; faults = faults; waiting = waiting }

-- the text went on by these octets: the sink took a front of what waited and of them, and the rest waits; where there are none, all
-- is as it was
pub record WritingGoesOn (old now : Written) (octets : List ℕ) : Type 0 where
  pub gained : List ℕ
  pub taken : Appends old.taken now.taken gained
  pub text : gained ++ now.waiting ≡ old.waiting ++ octets
  pub faults : old.faults ≤ now.faults
  pub still : octets ≡ [] → (now.taken ≡ old.taken) × (now.waiting ≡ old.waiting)

-- what was taken goes on by a front of the text that lacks its end, where it is told
pub record AppendsFront (old now : Option (List ℕ)) (text : List ℕ) : Type 0 where
  pub len : ℕ
  pub short : len < length text
  pub taken : Appends old now (take len text)

-- a call of the sink failed: of what waited and these octets a front was taken that lacks its end
pub record IsCut (old now : Written) (octets : List ℕ) : Type 0 where
  pub front : AppendsFront old.taken now.taken (old.waiting ++ octets)
  pub rose : Rose old.faults now.faults

-- octets were put
abbrev pub Puts : {T E : Type 0} → Result T E → Written → Written → List ℕ → Type 0
Puts (Ok value) old now octets = WritingGoesOn old now octets
Puts (Err fault) old now octets = IsCut old now octets

-- octets were put on a page before a sink, of which it tells what it took and how many of its calls failed
abbrev pub PutsOn : {K T E : Type 0} → (K → Option (List ℕ)) → (K → ℕ) → List ℕ → List ℕ → K → K → Result T E → List ℕ → Type 0
PutsOn taken faults page page_now sink sink_now result octets = Puts result (lines_written (taken sink) (faults sink) page) (lines_written (taken sink_now) (faults sink_now) page_now) octets

-- the whole text was taken: what was taken goes on by it, where it is told, and of an empty text nothing is taken
abbrev pub Writes : Option (List ℕ) → Option (List ℕ) → List ℕ → Type 0
Writes old now [] = now ≡ old
Writes old now (octet ∷ text) = Appends old now (octet ∷ text)

-- what waited, or a front of it, was taken
pub record Moves (old now : Written) : Type 0 where
  pub gained : List ℕ
  pub taken : Appends old.taken now.taken gained
  pub text : gained ++ now.waiting ≡ old.waiting
  pub faults : old.faults ≤ now.faults
