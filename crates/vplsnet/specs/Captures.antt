-- The captures that a scenario plays, as they are read.
use Rattle.std.specs.Prelude.{◌≡◌, ◌≢◌, ◌≤◌, ◌++◌, ℕ, List, [], ◌∷◌, length}
use Rattle.net_base.specs.outside.Outside.{Rose}
use Rattle.net_base.specs.plan.Planned.{IsFrame}
use Rattle.std.specs.List.{All}
use Rattle.pcap_file.specs.declared.capture_fault.CaptureFault.{CaptureFault}
use Rattle.pcap_file.specs.declared.capture_fault.CaptureFault.TheVariants as capture_fault
use Rattle.pcap_file.specs.FirstFault.{IsFirstFault}
use Rattle.pcap_file.specs.Records.{IsCapture}
use Rattle.vplsnet.specs.declared.outcome.Outcome.{Outcome}
use Rattle.vplsnet.specs.declared.outcome.Outcome.TheVariants.{ReadFault, TooLong, CaptureRefused, NoMemory}
use Rattle.vplsnet.specs.Around.{Files, Has, OfFiles}
use Rattle.vplsnet.specs.Files.{IsLonger}
use Rattle.vplsnet.specs.Inputs.{capture_limit}

-- a file has these octets, within the limit, and they are a capture of these frames
pub record IsCaptureFile (files : Files) (name octets : List ℕ) (frames : List (List ℕ)) : Type 0 where
  pub has : Has files name octets
  pub fits : length octets ≤ capture_limit
  pub is : IsCapture octets frames

-- some file of this name has
pub record HasFrames (files : Files) (name : List ℕ) (frames : List (List ℕ)) : Type 0 where
  pub octets : List ℕ
  pub file : IsCaptureFile files name octets frames

-- the outcome of the octets of a file that are no capture: their fault is one of which this holds, or memory was refused
abbrev pub IsToldAs : (CaptureFault → Type 0) → List ℕ → Outcome → Type 0
IsToldAs Holds name (CaptureRefused named fault) = (named ≡ name) × Holds fault × (fault ≢ capture_fault.NoMemory)
IsToldAs Holds name NoMemory = Unit {0}
IsToldAs Holds name outcome = ⊥

-- the same of files one after another
abbrev pub AreCaptures : Files → List (List ℕ) → List (List ℕ) → List (List (List ℕ)) → Type 0
AreCaptures files [] [] [] = Unit {0}
AreCaptures files (name ∷ names) (octets ∷ read) (frames ∷ captures) = IsCaptureFile files name octets frames × AreCaptures files names read captures
AreCaptures files names read captures = ⊥

-- a file has octets with this first fault, within the limit
pub record HasCaptureFault (files : Files) (name : List ℕ) (fault : CaptureFault) : Type 0 where
  pub octets : List ℕ
  pub has : Has files name octets
  pub fits : length octets ≤ capture_limit
  pub first : IsFirstFault octets fault

-- why the frames of a file were not had, by the shelf's counts of faults before and after
abbrev pub IsNoCapture : Files → (List ℕ → ℕ) → (List ℕ → ℕ) → List ℕ → Outcome → Type 0
IsNoCapture files before after name ReadFault = Rose (before name) (after name)
IsNoCapture files before after name (TooLong named limit) = (named ≡ name) × (limit ≡ capture_limit) × OfFiles files (λ held. IsLonger capture_limit (held name))
IsNoCapture files before after name (CaptureRefused named fault) = (named ≡ name) × HasCaptureFault files name fault × (fault ≢ capture_fault.NoMemory)
IsNoCapture files before after name NoMemory = Unit {0}
IsNoCapture files before after name outcome = ⊥

-- all files that are played were read
pub record HasPlayed (files : Files) (names : List (List ℕ)) (captures : List (List (List ℕ))) : Type 0 where
  pub read : List (List ℕ)
  pub are : AreCaptures files names read captures

-- the frames of all files that are played here stand behind those before, none longer than a record of a capture
pub record GainsPlayed (files : Files) (names : List (List ℕ)) (before after : List (List (List ℕ))) : Type 0 where
  pub gained : List (List (List ℕ))
  pub played : HasPlayed files names gained
  pub short : All (All IsFrame) gained
  pub adds : after ≡ before ++ gained

-- the first files were read, and the frames of the next one were not had
pub record FailsToPlay (files : Files) (before after : List ℕ → ℕ) (names : List (List ℕ)) (outcome : Outcome) : Type 0 where
  pub had : List (List ℕ)
  pub name : List ℕ
  pub later : List (List ℕ)
  pub split : names ≡ had ++ name ∷ later
  pub captures : List (List (List ℕ))
  pub played : HasPlayed files had captures
  pub why : IsNoCapture files before after name outcome
