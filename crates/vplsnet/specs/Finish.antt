-- The status and the line by which the program ends.
use Rattle.std.specs.Prelude.{◌++◌, codes, ℕ, List, [], ◌∷◌}
use Rattle.std.specs.Fmt.{decimal}
use Rattle.vplsnet.specs.CaptureFaultText.{capture_fault_words}
use Rattle.vplsnet.specs.FaultText.{fault_words}
use Rattle.pcap_file.specs.declared.capture_fault.CaptureFault.{CaptureFault}
use Rattle.text_pieces.specs.Pieces.{spaced}
use Rattle.vplsnet.specs.StopText.{stop_words}
use Rattle.vplsnet.specs.StreamFaultText.{stream_fault_words}
use Rattle.vplsnet.specs.declared.audit_rule.AuditRule.{AuditRule}
use Rattle.vplsnet.specs.declared.audit_rule.AuditRule.TheVariants as rule
use Rattle.vplsnet.specs.declared.outcome.Outcome.{Outcome}
use Rattle.vplsnet.specs.declared.outcome.Outcome.TheVariants.{Done, Usage, ReadFault, WriteFault, TooLong, ScenarioRefused, NoCircuit, CaptureRefused, ScriptRefused, AuditRefused, Stopped, DecodeRefused, Unfinished, NoMemory}

abbrev pub exit_status : Outcome → ℕ
exit_status Done = 0
exit_status Usage = 2
exit_status ReadFault = 3
exit_status WriteFault = 4
exit_status (TooLong name limit) = 5
exit_status (ScenarioRefused fault) = 5
exit_status (NoCircuit circuit) = 5
exit_status (ScriptRefused line word) = 5
exit_status (CaptureRefused file fault) = 6
exit_status (DecodeRefused fault) = 6
exit_status (Unfinished at) = 6
exit_status (AuditRefused line rule) = 6
exit_status (Stopped stop) = 7
exit_status NoMemory = 8

-- a rule of the auditor by its name
abbrev pub rule_name : AuditRule → List ℕ
rule_name rule.Form = codes "Form"
rule_name rule.Isolated = codes "Isolated"
rule_name rule.Split = codes "Split"
rule_name rule.Once = codes "Once"

abbrev pub long_line : List ℕ → ℕ → List ℕ
long_line name limit = ((codes "vplsnet: " ++ name) ++ codes " is longer than ") ++ decimal limit

abbrev pub capture_line : List ℕ → CaptureFault → List ℕ
capture_line file fault = ((codes "vplsnet: capture " ++ file) ++ codes ":") ++ spaced (capture_fault_words fault)

-- the line that tells how a run ended; one that is done has none
abbrev pub finish_text : Outcome → List ℕ
finish_text Done = []
finish_text Usage = codes "vplsnet: usage"
finish_text ReadFault = codes "vplsnet: read fault"
finish_text WriteFault = codes "vplsnet: write fault"
finish_text (TooLong name limit) = long_line name limit
finish_text (ScenarioRefused fault) = codes "vplsnet: scenario:" ++ spaced (fault_words fault)
finish_text (NoCircuit circuit) = codes "vplsnet: no circuit " ++ circuit
finish_text (CaptureRefused file fault) = capture_line file fault
finish_text (ScriptRefused line word) = codes "vplsnet: script:" ++ spaced (decimal line ∷ decimal word ∷ [])
finish_text (AuditRefused line rule) = codes "vplsnet: audit:" ++ spaced (decimal line ∷ rule_name rule ∷ [])
finish_text (Stopped stop) = codes "vplsnet: stopped:" ++ spaced (stop_words stop)
finish_text (DecodeRefused fault) = codes "vplsnet: stream:" ++ spaced (stream_fault_words fault)
finish_text (Unfinished at) = codes "vplsnet: stream ends at " ++ decimal at
finish_text NoMemory = codes "vplsnet: out of memory"
