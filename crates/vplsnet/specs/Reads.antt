-- Which reads a call asks its shelf for.
use Rattle.std.specs.Prelude.{◌≡◌, ◌≤◌, ◌+◌, ◌++◌, ℕ, List, ◌∷◌, Option, Some, None}
use Rattle.std.specs.List.{AllByRecursion}
use Rattle.net_base.specs.outside.Outside.{ReadCall}
use Rattle.scenario_text.specs.declared.scenario.Scenario.{Scenario}
use Rattle.vplsnet.specs.Around.{Files, Has}
use Rattle.vplsnet.specs.Asked.{Asked}
use Rattle.vplsnet.specs.Capture.{lacks_circuit}
use Rattle.vplsnet.specs.Captures.{HasPlayed}
use Rattle.vplsnet.specs.Inputs.{ComesTo, Reads, Wanted, capture_limit, played}

-- a read of this file, for no octet behind the first one that is too many
pub record IsReadOf (wanted : Wanted) (read : ReadCall) : Type 0 where
  pub name : read.name ≡ wanted.name
  pub within : read.from + read.room ≤ wanted.limit + 1

-- the reads go on by some, each of which is one of these
pub record GainsReads (IsOne : ReadCall → Type 0) (before after : List ReadCall) : Type 0 where
  pub gained : List ReadCall
  pub joined : after ≡ before ++ gained
  pub each : AllByRecursion IsOne gained

-- a read of the file that comes next behind those that were read whole
pub record IsReadOfNext (Holds : List ℕ → List ℕ → Type 0) (asked : Asked) (read : ReadCall) : Type 0 where
  pub wanted : Wanted
  pub come : ComesTo Holds asked (Reads wanted)
  pub is : IsReadOf wanted read

-- What a call may read, by what its words ask: files that come next, and none where they ask for nothing.
abbrev pub MayRead : Files → Option Asked → ReadCall → Type 0
MayRead files None read = ⊥
MayRead files (Some asked) read = IsReadOfNext (Has files) asked read

-- ---- what is known on the way

-- a read of one of the files that are played, of which the ones before it were read whole
pub record IsPlayedRead (files : Files) (names : List (List ℕ)) (read : ReadCall) : Type 0 where
  pub had : List (List ℕ)
  pub name : List ℕ
  pub later : List (List ℕ)
  pub split : names ≡ had ++ name ∷ later
  pub captures : List (List (List ℕ))
  pub played : HasPlayed files had captures
  pub is : IsReadOf (record { name = name; limit = capture_limit }) read

-- the same of a scenario that has the circuit which the command names, if it names one
pub record IsCaptureRead (files : Files) (asked : Asked) (scenario : Scenario) (read : ReadCall) : Type 0 where
  pub circuit : lacks_circuit asked scenario.plan ≡ None
  pub played : IsPlayedRead files (played scenario.commands) read
