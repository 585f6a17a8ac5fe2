-- The fault of a capture in words.
use Rattle.std.specs.Prelude.{codes, ℕ, List, [], ◌∷◌}
use Rattle.std.specs.Fmt.{decimal}
use Rattle.pcap_file.specs.declared.capture_fault.CaptureFault.{CaptureFault}
use Rattle.pcap_file.specs.declared.capture_fault.CaptureFault.TheVariants as fault
use Rattle.pcap_file.specs.declared.capture_field.CaptureField.{CaptureField}
use Rattle.pcap_file.specs.declared.capture_field.CaptureField.TheVariants as field

abbrev pub capture_field_name : CaptureField → List ℕ
capture_field_name field.Magic = codes "Magic"
capture_field_name field.Major = codes "Major"
capture_field_name field.Minor = codes "Minor"
capture_field_name field.Zone = codes "Zone"
capture_field_name field.Accuracy = codes "Accuracy"
capture_field_name field.Snap = codes "Snap"
capture_field_name field.Network = codes "Network"
capture_field_name field.Seconds = codes "Seconds"
capture_field_name field.Fraction = codes "Fraction"
capture_field_name field.Captured = codes "Captured"
capture_field_name field.Original = codes "Original"
capture_field_name field.Data = codes "Data"

-- the fault's name, its place in the file, and the field that the file ends in
abbrev pub capture_fault_words : CaptureFault → List (List ℕ)
capture_fault_words (fault.Magic at) = codes "Magic" ∷ decimal at ∷ []
capture_fault_words (fault.Version at) = codes "Version" ∷ decimal at ∷ []
capture_fault_words (fault.Network at) = codes "Network" ∷ decimal at ∷ []
capture_fault_words (fault.Length at) = codes "Length" ∷ decimal at ∷ []
capture_fault_words (fault.Truncated at field) = codes "Truncated" ∷ decimal at ∷ capture_field_name field ∷ []
capture_fault_words fault.NoMemory = codes "out of memory" ∷ []
