-- Whole files and whole texts.
use Rattle.std.specs.Prelude.{◌≡◌, ◌⊎◌, ◌<◌, ◌+◌, ℕ, List, length, take, Option, Some, Result, Ok, Err}
use Rattle.net_base.specs.outside.Outside.{ReadCall, Rose, raised}
use Rattle.vplsnet.specs.declared.files.ReadStop.{ReadStop}
use Rattle.vplsnet.specs.declared.files.ReadStop.TheVariants as stop
use Rattle.vplsnet.specs.declared.outcome.Outcome.{Outcome}
use Rattle.vplsnet.specs.declared.outcome.Outcome.TheVariants.{ReadFault, TooLong, NoMemory}
use Rattle.vplsnet.specs.Around.{Files, OfFiles}

-- the octets are the first of the file: all of them, or one more than the limit
pub record IsFrontOf (limit : ℕ) (file : Option (List ℕ)) (octets : List ℕ) : Type 0 where
  pub bytes : List ℕ
  pub held : file ≡ Some bytes
  pub front : octets ≡ take (limit + 1) bytes

-- the file has more octets than the limit
pub record IsLonger (limit : ℕ) (file : Option (List ℕ)) : Type 0 where
  pub bytes : List ℕ
  pub held : file ≡ Some bytes
  pub longer : limit < length bytes

-- Why a file was not read, as an outcome. The name of a file that is too long takes memory; a fault takes none.
abbrev pub Unread : ReadStop → List ℕ → ℕ → Outcome → Type 0
Unread stop.Fault name limit outcome = outcome ≡ ReadFault
Unread stop.TooLong name limit outcome = (outcome ≡ TooLong name limit) ⊎ (outcome ≡ NoMemory)
Unread stop.NoMemory name limit outcome = outcome ≡ NoMemory

-- why a file was not had, as an outcome, by the shelf's counts of faults before and after
abbrev pub IsNotHad : Files → (List ℕ → ℕ) → (List ℕ → ℕ) → List ℕ → ℕ → Outcome → Type 0
IsNotHad files before after name limit ReadFault = Rose (before name) (after name)
IsNotHad files before after name limit (TooLong named most) = (named ≡ name) × (most ≡ limit) × OfFiles files (λ held. IsLonger limit (held name))
IsNotHad files before after name limit NoMemory = Unit {0}
IsNotHad files before after name limit outcome = ⊥

-- what a shelf over the files of the system tells: how many calls failed, and which reads it was asked for, with their answers
pub record ShelfState : Type 0 where
  pub faults : ℕ
  pub reads : List ReadCall

-- what a sink over a writer tells: the octets that the writer said it took, what the writer has, where that tells it, and how many calls
-- failed
pub record SinkState : Type 0 where
  pub taken : List ℕ
  pub contents : Option (List ℕ)
  pub faults : ℕ

-- a count after a call: one more where it failed
abbrev pub count_after : {T E : Type 0} → ℕ → Result T E → ℕ
count_after count (Ok value) = count
count_after count (Err fault) = raised count
