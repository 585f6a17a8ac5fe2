-- What a scenario's file and a second file behind it come to.
use Rattle.std.proofs.Common.{◌≡◌, ◌≤◌, ◌∙◌, [], ◌∷◌, ℕ, List, Ok, Result, length, inl, inr, ap, sym, subst}
use Rattle.net_base.specs.outside.Outside.{NeverFall, ReadCall}
use Rattle.command_text.specs.declared.scenario_fault.ScenarioFault.{ScenarioFault}
use Rattle.scenario_text.specs.declared.scenario.Scenario.{Scenario}
use Rattle.scenario_text.specs.Document.{document}
use Rattle.text_lines.proofs.WrittenLemmas.{rose_later}
use Rattle.vplsnet.specs.declared.outcome.Outcome.{Outcome}
use Rattle.vplsnet.specs.declared.outcome.Outcome.TheVariants.{Done, Usage, ReadFault, WriteFault, TooLong, ScenarioRefused, NoCircuit, CaptureRefused, ScriptRefused, AuditRefused, Stopped, DecodeRefused, Unfinished, NoMemory}
use Rattle.vplsnet.specs.Answers.{IsRefused}
use Rattle.vplsnet.specs.Around.{Files, Has, gained}
use Rattle.vplsnet.specs.Asked.{Asked}
use Rattle.vplsnet.specs.Files.{IsLonger, IsNotHad}
use Rattle.vplsnet.specs.Inputs.{AreReadNext, ComesTo, IsNextInput, IsNextAfter, Next, Reads, Wanted, scenario_limit}
use Rattle.vplsnet.specs.PlanFile.{HasBoth, IsReadOfTwo, LacksOne, ReadsSecond}
use Rattle.vplsnet.specs.Reads.{GainsReads, IsReadOf, IsReadOfNext}
use Rattle.vplsnet.specs.ScenarioFile.{HasNoScenario, IsOfFile}
use Rattle.vplsnet.proofs.AgreeLemmas.{Within, has_within, longer_as, of_within, within_first, within_second}
use Rattle.vplsnet.proofs.ReadLemmas.{reads_as, reads_then}
use Rattle.vplsnet.proofs.ScenarioFileLemmas.{refused_first}

-- ---- both files

of_file_within : (some all : Files) (file : List ℕ) (scenario : Scenario) → Within some all → IsOfFile some file scenario → IsOfFile all file scenario
of_file_within some all file scenario within of =
    record { octets = of.octets; has = has_within some all file of.octets within of.has; fits = of.fits; document_is = of.document_is }

pub has_both : (file second octets : List ℕ) (limit : ℕ) (scenario : Scenario) (before between after : List ReadCall)
    → GainsReads (IsReadOf (record { name = file; limit = scenario_limit })) before between → GainsReads (IsReadOf (record { name = second; limit = limit })) between after
    → IsOfFile (gained before between) file scenario → Has (gained between after) second octets → length octets ≤ limit
    → HasBoth (gained before after) file (record { name = second; limit = limit }) scenario octets
has_both file second octets limit scenario before between after one other of has fits = record {
  of = of_file_within (gained before between) (gained before after) file scenario (within_first _ _ before between after one other) of;
  has = has_within (gained between after) (gained before after) second octets (within_second _ _ before between after one other) has;
  fits = fits;
}

pub lacks_first : (files : Files) (before after : List ℕ → ℕ) (file : List ℕ) (second : Wanted) (outcome : Outcome) → HasNoScenario files before after file outcome
    → LacksOne files before after file second outcome
lacks_first files before after file second outcome why = inl why

-- a file was not had later
not_had_later : (files here : Files) (before between after : List ℕ → ℕ) (name : List ℕ) (limit : ℕ) (outcome : Outcome) → Within here files → NeverFall before between
    → IsNotHad here between after name limit outcome → IsNotHad files before after name limit outcome
not_had_later files here before between after name limit ReadFault within later why = rose_later (before name) (between name) (after name) (later name) why
not_had_later files here before between after name limit (TooLong named most) within later why = (why.0, why.1, of_within (λ held. IsLonger limit (held name)) here files within why.2)
not_had_later files here before between after name limit NoMemory within later why = tt
not_had_later files here before between after name limit Done within later why = absurd why
not_had_later files here before between after name limit Usage within later why = absurd why
not_had_later files here before between after name limit WriteFault within later why = absurd why
not_had_later files here before between after name limit (ScenarioRefused fault) within later why = absurd why
not_had_later files here before between after name limit (NoCircuit circuit) within later why = absurd why
not_had_later files here before between after name limit (CaptureRefused file fault) within later why = absurd why
not_had_later files here before between after name limit (ScriptRefused line word) within later why = absurd why
not_had_later files here before between after name limit (AuditRefused line rule) within later why = absurd why
not_had_later files here before between after name limit (Stopped stop) within later why = absurd why
not_had_later files here before between after name limit (DecodeRefused fault) within later why = absurd why
not_had_later files here before between after name limit (Unfinished at) within later why = absurd why

pub lacks_second : (start middle last : List ReadCall) (before between after : List ℕ → ℕ) (file second : List ℕ) (limit : ℕ) (scenario : Scenario) (outcome : Outcome)
    → GainsReads (IsReadOf (record { name = file; limit = scenario_limit })) start middle → GainsReads (IsReadOf (record { name = second; limit = limit })) middle last
    → NeverFall before between → IsOfFile (gained start middle) file scenario
    → IsNotHad (gained middle last) between after second limit outcome → LacksOne (gained start last) before after file (record { name = second; limit = limit }) outcome
lacks_second start middle last before between after file second limit scenario outcome one other later of why =
    inr (record {
      scenario = scenario;
      of = of_file_within (gained start middle) (gained start last) file scenario (within_first _ _ start middle last one other) of;
      why = not_had_later (gained start last) (gained middle last) before between after second limit outcome (within_second _ _ start middle last one other) later why;
    })

pub first_reads : (files : Files) (file : List ℕ) (second : Wanted) (before after : List ReadCall) → GainsReads (IsReadOf (record { name = file; limit = scenario_limit })) before after
    → GainsReads (IsReadOfTwo files file second) before after
first_reads files file second before after one = reads_as _ _ before after (λ read is. inl is) one

pub both_reads : (file : List ℕ) (second : Wanted) (scenario : Scenario) (before between after : List ReadCall) → IsOfFile (gained before between) file scenario
    → GainsReads (IsReadOf (record { name = file; limit = scenario_limit })) before between → GainsReads (IsReadOf second) between after
    → GainsReads (IsReadOfTwo (gained before after) file second) before after
both_reads file second scenario before between after of one other =
    let all : IsOfFile (gained before after) file scenario =
    of_file_within (gained before between) (gained before after) file scenario (within_first _ _ before between after one other) of in
    reads_then _ before between after (first_reads (gained before after) file second before between one)
    (reads_as _ _ between after (λ read is. inr (record { scenario = scenario; of = all; is = is })) other)

pub ruleset two_file_steps = (has_both, lacks_first, lacks_second, first_reads, both_reads)

-- ---- what comes next

-- the scenario's file was read whole
file_read : (files : Files) (asked : Asked) (file : List ℕ) (second : Wanted) (scenario : Scenario) → ReadsSecond asked file second → (of : IsOfFile files file scenario)
    → AreReadNext (Has files) asked [] (of.octets ∷ [])
file_read files asked file second scenario reads of = (record { wanted = record { name = file; limit = scenario_limit }; next = reads.first; holds = of.has; fits = of.fits }, tt)

-- and the second file comes next
second_next : (files : Files) (asked : Asked) (file : List ℕ) (second : Wanted) (scenario : Scenario) → ReadsSecond asked file second → IsOfFile files file scenario
    → ComesTo (Has files) asked (Reads second)
second_next files asked file second scenario reads of =
    record { read = of.octets ∷ []; are_read = file_read files asked file second scenario reads of; is_next = reads.next of.octets scenario of.document_is }

-- behind both
pub comes_behind_both : (files : Files) (asked : Asked) (file octets : List ℕ) (second : Wanted) (scenario : Scenario) (next : Next) → ReadsSecond asked file second
    → HasBoth files file second scenario octets
    → ((text : List ℕ) → document text ≡ Ok scenario → IsNextInput asked (text ∷ octets ∷ []) next) → ComesTo (Has files) asked next
comes_behind_both files asked file octets second scenario next reads both comes = record {
  read = both.of.octets ∷ octets ∷ [];
  are_read = (
    record { wanted = record { name = file; limit = scenario_limit }; next = reads.first; holds = both.of.has; fits = both.of.fits },
    (record { wanted = second; next = reads.next both.of.octets scenario both.of.document_is; holds = both.has; fits = both.fits }, tt),
  );
  is_next = comes both.of.octets both.of.document_is;
}

second_refused : (files : Files) (before after : List ℕ → ℕ) (asked : Asked) (second : Wanted) (outcome : Outcome) → ComesTo (Has files) asked (Reads second)
    → IsNotHad files before after second.name second.limit outcome
    → IsRefused files before after asked outcome
second_refused files before after asked second ReadFault come why = record { wanted = second; come = come; cause = why }
second_refused files before after asked second (TooLong named limit) come why = record {
  come = subst (λ (w : Wanted). ComesTo (Has files) asked (Reads w))
      (sym (ap (λ (n : List ℕ). record { name = n; limit = limit }) why.0 ∙ ap (λ (l : ℕ). record { name = second.name; limit = l }) why.1)) come;
  longer = longer_as files named second.name limit second.limit why.0 why.1 why.2;
}
second_refused files before after asked second NoMemory come why = tt
second_refused files before after asked second Done come why = absurd why
second_refused files before after asked second Usage come why = absurd why
second_refused files before after asked second WriteFault come why = absurd why
second_refused files before after asked second (ScenarioRefused fault) come why = absurd why
second_refused files before after asked second (NoCircuit circuit) come why = absurd why
second_refused files before after asked second (CaptureRefused file fault) come why = absurd why
second_refused files before after asked second (ScriptRefused line word) come why = absurd why
second_refused files before after asked second (AuditRefused line rule) come why = absurd why
second_refused files before after asked second (Stopped stop) come why = absurd why
second_refused files before after asked second (DecodeRefused fault) come why = absurd why
second_refused files before after asked second (Unfinished at) come why = absurd why

-- one of both was not had
pub two_refused : (files : Files) (before after : List ℕ → ℕ) (asked : Asked) (file : List ℕ) (second : Wanted) (outcome : Outcome) → ReadsSecond asked file second
    → LacksOne files before after file second outcome
    → IsRefused files before after asked outcome
two_refused files before after asked file second outcome reads (inl none) = refused_first files before after asked file outcome reads.first reads.refuses none
two_refused files before after asked file second outcome reads (inr lacks) =
    second_refused files before after asked second outcome (second_next files asked file second lacks.scenario reads lacks.of) lacks.why

-- what was read of both came next
pub two_read : (files : Files) (asked : Asked) (file : List ℕ) (second : Wanted) (before after : List ReadCall) → ReadsSecond asked file second
    → GainsReads (IsReadOfTwo files file second) before after
    → GainsReads (IsReadOfNext (Has files) asked) before after
two_read files asked file second before after reads gains = reads_as _ _ before after one gains where
  one : (read : ReadCall) → IsReadOfTwo files file second read → IsReadOfNext (Has files) asked read
  one read (inl is) = record { wanted = record { name = file; limit = scenario_limit }; come = record { read = []; are_read = tt; is_next = reads.first }; is = is }
  one read (inr later) = record { wanted = second; come = second_next files asked file second later.scenario reads later.of; is = later.is }

-- by what the scenario's file reads as
pub next_after : (IsNextOfIt : Scenario → Next → Type 0) (text : List ℕ) (result : Result Scenario ScenarioFault) (next : Next) → document text ≡ result
    → IsNextAfter IsNextOfIt result next → IsNextAfter IsNextOfIt (document text) next
next_after IsNextOfIt text result next is comes = subst (λ (r : Result Scenario ScenarioFault). IsNextAfter IsNextOfIt r next) (sym is) comes
