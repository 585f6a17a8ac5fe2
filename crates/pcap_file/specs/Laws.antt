-- What holds of all octets and all frames.
use Rattle.std.specs.Prelude.{◌≡◌, ◌≤◌, ℕ, List, length, map}
use Rattle.std.specs.List.{AllByRecursion}
use Rattle.pcap_file.specs.declared.capture_fault.CaptureFault.{CaptureFault}
use Rattle.pcap_file.specs.FirstFault.{IsFirstFault}
use Rattle.pcap_file.specs.Records.{IsCapture}
use Rattle.pcap_file.specs.Written.{TimedFrame, written_capture}

-- octets are a capture of one list of frames at most, or have one first fault at most, and never both
pub record OneCaptureReading : Type 0 where
  pub one_list : (octets : List ℕ) (frames others : List (List ℕ)) → IsCapture octets frames → IsCapture octets others → frames ≡ others
  pub one_fault : (octets : List ℕ) (fault other : CaptureFault) → IsFirstFault octets fault → IsFirstFault octets other → fault ≡ other
  pub never_both : (octets : List ℕ) (frames : List (List ℕ)) (fault : CaptureFault) → IsCapture octets frames → IsFirstFault octets fault → ⊥

-- the frames of octets, or their first fault, with what shows it
pub data CaptureReading (octets : List ℕ) : Type 0 where
  captured : (frames : List (List ℕ)) → IsCapture octets frames → CaptureReading octets
  refused : (fault : CaptureFault) → IsFirstFault octets fault → CaptureReading octets

-- of all octets one of the two can be told
abbrev pub EachCaptureIsRead : Type 0
EachCaptureIsRead = (octets : List ℕ) → CaptureReading octets

-- what is written of frames is a capture of these frames
abbrev pub WrittenCaptureIsRead : Type 0
WrittenCaptureIsRead = (list : List TimedFrame) → AllByRecursion (λ timed. length timed.frame ≤ 262144) list → IsCapture (written_capture list) (map (λ timed. timed.frame) list)
