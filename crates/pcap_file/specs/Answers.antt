-- What a reader answers.
use Rattle.std.specs.Prelude.{◌≡◌, ◌⊎◌, ℕ, List, Result, Err}
use Rattle.pcap_file.specs.declared.capture_fault.CaptureFault.{CaptureFault}
use Rattle.pcap_file.specs.declared.capture_fault.CaptureFault.TheVariants.{Magic, Version, Network, Length, Truncated, NoMemory}

-- the fault is one of which this holds, or memory was refused
abbrev pub TellsCaptureFault : (CaptureFault → Type 0) → CaptureFault → Type 0
TellsCaptureFault Holds (Magic at) = Holds (Magic at)
TellsCaptureFault Holds (Version at) = Holds (Version at)
TellsCaptureFault Holds (Network at) = Holds (Network at)
TellsCaptureFault Holds (Length at) = Holds (Length at)
TellsCaptureFault Holds (Truncated at field) = Holds (Truncated at field)
TellsCaptureFault Holds NoMemory = Unit {0}

-- the answer is this one, unless memory was refused
abbrev pub IsCaptureUnlessNoMemory : Result (List (List ℕ)) CaptureFault → Result (List (List ℕ)) CaptureFault → Type 0
IsCaptureUnlessNoMemory result answer = (result ≡ answer) ⊎ (result ≡ Err NoMemory)
